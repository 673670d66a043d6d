use Rattle.std.proofs.Common.{◌≡◌, List}
use Rattle.charts.specs.Rows.{Row}
use Rattle.charts.specs.Reading.{read_rows, row_words}
use Rattle.charts.proofs.Turns.{Turned}
use Rattle.charts.proofs.Checking.{Summed}
use Rattle.charts.proofs.reading.check.Given as goal

abbrev pub invariant-loop : goal.invariant-loop
invariant-loop l = record { rows : List Row; turned : Turned row_words read_rows l.initial.reader l.reader l.initial.reader.rows l.counter rows; sums : l.states ≡ Summed rows }
