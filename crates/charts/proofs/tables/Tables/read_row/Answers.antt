use Rattle.std.proofs.Common.{◌≡◌, ◌++◌, [], vec_items, vec_len, sym, refl, ap, ◌∙◌, List, length, arith, rules}
use Rattle.std.proofs.lemmas.List.{append-nil, append_assoc}
use Rattle.charts.specs.declared.row.Stay.{Stay}
use Rattle.charts.specs.declared.row.Offer.{Offer}
use Rattle.charts.specs.Rows.{stay_states}
use Rattle.charts.specs.Reader.{row_read, next_row}
use Rattle.charts.specs.declared.reading.RowRead.{RowRead}
use Rattle.charts.proofs.Exact.{row_of_parts}
use Rattle.charts.proofs.Turns.{offers_repeat, none_turned, turned_more}
use Rattle.charts.proofs.Heads.{head_fails, head_stay, offer_fails, row_whole}
use Rattle.charts.proofs.Holding.{held_more}
use Rattle.charts.proofs.Refilling.{ok_value, never_fails}
use Rattle.charts.proofs.tables.Tables.read_row.Goals as goal

pub unreachable-requires : goal.unreachable-requires
unreachable-requires c = never_fails (next_row c.args.reader.now) _ c.requires.known (head_fails _ _ _ c.in_default.ensures)

pub add_row-requires-clause-states : goal.add_row-requires-clause-states
add_row-requires-clause-states c =
    let x = ok_value (next_row c.args.reader.now) c.requires.known in
    let room = rw x.1 at c.requires.states in
    let same = ap (λ (v : Stay). stay_states v) (head_stay c.args.reader.now c.head.new.self c.in-Ok.row c.in-Ok.ensures x.0 x.1) in
    omega arith

pub loop-init : goal.loop-init
loop-init c = record {
  offers = [];
  turned = none_turned offers_repeat c.head.new.self c.in-Ok.row.offers;
  items = sym (append-nil _);
  rows = refl;
  owners = refl;
  room = (let e = ap vec_len c.add_row.ensures.offers in let b = c.in-Ok.ensures.behind.place in omega arith);
}

pub unreachable-requires-in_default-offer : goal.unreachable-requires-in_default-offer
unreachable-requires-in_default-offer c =
    never_fails (next_row c.args.reader.now) _ c.requires.known
    (offer_fails c.args.reader.now c.head.new.self c.in-Ok.row c.in-Ok.ensures _ _ _ c.loop.invariant.turned _ _ c.loop-test.true c.in_default-offer.ensures)

pub loop-preserved : goal.loop-preserved
loop-preserved c =
    let i = c.loop.invariant in
    record {
      offers = _;
      turned = turned_more offers_repeat _ _ _ _ _ i.turned c.loop-test.true _ _ c.in-Ok-offer.ensures;
      items = search (rules, append_assoc);
      rows = i.rows;
      owners = i.owners;
      room = (let b = c.in-Ok-offer.ensures.behind.place in omega arith);
    }

by_count : (h : RowRead) (os : List Offer) → length os ≡ h.offers → h ≡ row_read (row_of_parts h.stay os)
by_count h os e = ap (λ k. record { stay = h.stay; offers = k }) (sym e)

pub returns : goal.returns
returns c =
    let i = c.loop.invariant in
    let w = row_whole c.args.reader.now c.head.new.self c.in-Ok.row c.in-Ok.ensures _ _ _ i.turned (omega arith) in
    record {
      row = rw w.0 (
        λ xs h. held_more c.args.self.now xs h c.loop.self _ c.in-Ok.row (by_count c.in-Ok.row i.offers (i.turned.count ∙ (omega arith)))
            (ap vec_items i.rows ∙ c.add_row.ensures.entries) (i.items ∙ ap (λ v. vec_items v ++ i.offers) c.add_row.ensures.offers) (ap vec_items i.owners ∙ c.add_row.ensures.owners),
        w.1,
      );
      offers = i.room;
    }
