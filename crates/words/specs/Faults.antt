-- The numbers of a fault: its code, and the place of the word.
use Rattle.std.specs.Prelude.{ℕ}
use Rattle.words.specs.declared.fault.WordFault.{WordFault}
use Rattle.words.specs.declared.fault.WordFault.TheVariants.{Length, Form, Range}

abbrev pub fault_code : WordFault → ℕ
fault_code (Length place) = 1
fault_code (Form place) = 2
fault_code (Range place) = 3

abbrev pub fault_place : WordFault → ℕ
fault_place (Length place) = place
fault_place (Form place) = place
fault_place (Range place) = place
