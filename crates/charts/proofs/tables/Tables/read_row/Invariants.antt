use Rattle.std.proofs.Common.{◌≡◌, ◌≤◌, ◌++◌, List, vec_items, vec_len}
use Rattle.charts.specs.declared.row.Offer.{Offer}
use Rattle.charts.specs.Reading.{read_offers}
use Rattle.charts.specs.Reader.{one}
use Rattle.charts.proofs.Turns.{Turned}
use Rattle.charts.proofs.tables.Tables.read_row.Given as goal

abbrev pub invariant-loop : goal.invariant-loop
invariant-loop l = record {
  offers : List Offer;
  turned : Turned one read_offers l.initial.reader l.reader l.end l.counter offers;
  items : vec_items l.self.offers ≡ vec_items l.initial.self.offers ++ offers;
  rows : l.self.rows ≡ l.initial.self.rows;
  owners : l.self.owners ≡ l.initial.self.owners;
  room : vec_len l.self.offers ≤ l.reader.cursor.place;
}
