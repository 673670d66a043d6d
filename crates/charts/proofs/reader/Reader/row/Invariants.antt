use Rattle.std.proofs.Common.{List}
use Rattle.charts.specs.declared.row.Offer.{Offer}
use Rattle.charts.specs.Reading.{read_offers}
use Rattle.charts.specs.Reader.{one}
use Rattle.charts.proofs.Turns.{Turned}
use Rattle.charts.proofs.reader.Reader.row.Given as goal

abbrev pub invariant-loop : goal.invariant-loop
invariant-loop l = (os : List Offer) × Turned one read_offers l.initial.self l.self l.row.offers l.counter os
