use Rattle.std.proofs.Common.{[], is_ok, ap, arith, rules}
use Rattle.charts.proofs.Turns.{rows_repeat, none_turned}
use Rattle.charts.proofs.Holding.{held_none}
use Rattle.charts.proofs.Refilling.{never_refused, known, next, added, all_held}
use Rattle.charts.proofs.tables.Tables.refill.Goals as goal

pub unreachable-requires : goal.unreachable-requires
unreachable-requires c = never_refused c.args.words.now _ c.requires c.in_default.ensures

pub loop-init : goal.loop-init
loop-init c = record {
  rows = [];
  turned = none_turned rows_repeat c.in-Ok.reader c.in-Ok.reader.rows;
  held = held_none _ c.clear.ensures.items c.clear-2.ensures.items c.clear-3.ensures.items;
  room = search rules;
}

pub read_row-requires : goal.read_row-requires
read_row-requires c =
    let i = c.loop.invariant in
    let n = next c.args.words.now c.in-Ok.reader c.loop.reader (known c.args.words.now c.in-Ok.reader c.requires c.in-Ok.ensures) _ i.rows i.turned c.loop.self i.held c.loop-test.true in
    record { known = ap is_ok n.is; rows = n.rows; offers = i.room; states = rw n.is n.states }

pub loop-preserved : goal.loop-preserved
loop-preserved c =
    let i = c.loop.invariant in
    let a = added c.args.words.now c.in-Ok.reader c.loop.reader (known c.args.words.now c.in-Ok.reader c.requires c.in-Ok.ensures) _ i.rows i.turned c.loop.self i.held c.loop-test.true _ _ c.read_row.ensures.row in
    record { rows = a.rows; turned = a.turned; held = a.held; room = c.read_row.ensures.offers }

pub returns : goal.returns
returns c =
    let i = c.loop.invariant in
    all_held c.args.words.now c.in-Ok.reader c.loop.reader (known c.args.words.now c.in-Ok.reader c.requires c.in-Ok.ensures) _ i.rows i.turned c.loop.self i.held (omega arith)
