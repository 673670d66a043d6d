use Rattle.std.proofs.Common.{[], ◌∙◌, ap, arith}
use Rattle.std.proofs.lemmas.Result.{err_from_is_err_and}
use Rattle.charts.specs.declared.reading.RowRead.{RowRead}
use Rattle.charts.proofs.Turns.{rows_repeat, none_turned, turned_more, turn_fails}
use Rattle.charts.proofs.Heads.{plain_row, plain_fault}
use Rattle.charts.proofs.Checking.{none_summed, summed_more, few_states, refused, refused_behind, left_over, complete}
use Rattle.charts.proofs.reading.check.Goals as goal

pub returns-in_err-reader : goal.returns-in_err-reader
returns-in_err-reader c =
    let p = err_from_is_err_and c.from_residual.result c.from_residual.ensures.1 in
    rw (p.1, p.2) (refused c.args.words.now _ c.in_err-reader.ensures)

pub loop-init : goal.loop-init
loop-init c = record { rows = []; turned = none_turned rows_repeat c.in_ok-reader.reader c.in_ok-reader.reader.rows; sums = none_summed }

pub returns-in_err-row : goal.returns-in_err-row
returns-in_err-row c =
    let p = err_from_is_err_and c.from_residual-in_err-row.result c.from_residual-in_err-row.ensures.1 in
    let i = c.loop.invariant in
    rw (p.1, p.2) (refused_behind c.args.words.now c.in_ok-reader.reader c.in_ok-reader.ensures _ (turn_fails rows_repeat _ _ _ _ _ i.turned c.loop-test.true (plain_fault _ _ _ c.in_err-row.ensures.read)))

pub add_states-states-requires-clause-states : goal.add_states-states-requires-clause-states
add_states-states-requires-clause-states c = rw c.loop.invariant.sums (few_states c.loop.invariant.rows)

pub add_states-states-requires-clause-short : goal.add_states-states-requires-clause-short
add_states-states-requires-clause-short c = c.in_ok-row.ensures.bounds.short

pub loop-preserved : goal.loop-preserved
loop-preserved c =
    let i = c.loop.invariant in
    let x = plain_row _ _ _ c.in_ok-row.ensures.read in
    record {
      rows = _;
      turned = turned_more rows_repeat _ _ _ _ _ i.turned c.loop-test.true _ x.0 x.2;
      sums = summed_more _ _ _ _ i.turned c.in_ok-reader.ensures.place x.0 _ _ _ _ (ap (λ (v : RowRead). v.stay) x.1) c.place-place.ensures i.sums c.add_states-states.ensures;
    }

pub returns-in_err-end : goal.returns-in_err-end
returns-in_err-end c =
    let p = err_from_is_err_and c.from_residual-in_err-end.result c.from_residual-in_err-end.ensures.1 in
    let i = c.loop.invariant in
    let e = c.in_err-end.ensures in
    rw (p.1, p.2, e.1) (left_over c.args.words.now c.in_ok-reader.reader c.in_ok-reader.ensures _ _ _ i.turned (omega arith) e.0)

pub returns : goal.returns
returns c =
    let i = c.loop.invariant in
    i.sums ∙ complete c.args.words.now c.in_ok-reader.reader c.in_ok-reader.ensures _ _ _ i.turned (omega arith) c.in_ok-end.ensures
