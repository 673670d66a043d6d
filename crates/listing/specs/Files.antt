-- The text of a file: the listing of the chart that it is, or the refusal of its bytes or of its words.
use Rattle.std.specs.Prelude.{ℕ, List, Ok, Err, Result}
use Rattle.words.specs.declared.fault.WordFault.{WordFault}
use Rattle.words.specs.Faults.{fault_code as word_code, fault_place as word_place}
use Rattle.words.specs.Bytes.{words_of_bytes}
use Rattle.charts.specs.declared.fault.ChartFault.{ChartFault}
use Rattle.charts.specs.Faults.{fault_code, fault_place}
use Rattle.charts.specs.Rows.{Row}
use Rattle.charts.specs.Meaning.{chart_meaning}
use Rattle.charts.specs.Reading.{check_chart}
use Rattle.listing.specs.Text.{source_text, refusal_text}

abbrev pub checked_text : Result (List Row) ChartFault → List ℕ
checked_text (Ok xs) = source_text (chart_meaning xs)
checked_text (Err f) = refusal_text (fault_code f) (fault_place f)

abbrev pub words_text : Result (List ℕ) WordFault → List ℕ
words_text (Ok ws) = checked_text (check_chart ws)
words_text (Err f) = refusal_text (word_code f) (word_place f)

abbrev pub file_text : List ℕ → List ℕ
file_text bytes = words_text (words_of_bytes bytes)
