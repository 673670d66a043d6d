use Rattle.std.proofs.Common.{◌≤◌, List, vec_len}
use Rattle.charts.specs.Rows.{Row}
use Rattle.charts.specs.Reading.{read_rows, row_words}
use Rattle.charts.specs.Tables.{Held}
use Rattle.charts.proofs.Turns.{Turned}
use Rattle.charts.proofs.tables.Tables.refill.Given as goal

abbrev pub invariant-loop : goal.invariant-loop
invariant-loop l = record {
  rows : List Row;
  turned : Turned row_words read_rows l.initial.reader l.reader l.initial.reader.rows l.counter rows;
  held : Held l.self rows;
  room : vec_len l.self.offers ≤ l.reader.cursor.place;
}
