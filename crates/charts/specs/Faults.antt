-- The numbers of a chart's faults: a code and a place.
use Rattle.std.specs.Prelude.{ℕ}
use Rattle.words.specs.Faults.{fault_code as word_code, fault_place as word_place}
use Rattle.charts.specs.declared.fault.ChartFault.{ChartFault}
use Rattle.charts.specs.declared.fault.ChartFault.TheVariants.{Word, TooManyStates}

abbrev pub fault_code : ChartFault → ℕ
fault_code (Word f) = word_code f
fault_code (TooManyStates p) = 7

abbrev pub fault_place : ChartFault → ℕ
fault_place (Word f) = word_place f
fault_place (TooManyStates p) = p
