use Rattle.std.proofs.Common.{arith}
use Rattle.std.proofs.lemmas.Result.{err_from_is_err_and}
use Rattle.charts.proofs.Turns.{offers_repeat, turned_more}
use Rattle.charts.proofs.Heads.{plain_whole, plain_fails, head_fails, offer_fails}
use Rattle.charts.proofs.Bounds.{row_bounds}
use Rattle.charts.proofs.reader.Reader.row.Goals as goal

pub returns-in_err-row-clause-read : goal.returns-in_err-row-clause-read
returns-in_err-row-clause-read c =
    let p = err_from_is_err_and c.from_residual.result c.from_residual.ensures.1 in
    rw (p.1, p.2) (plain_fails _ _ _ (head_fails _ _ _ c.in_err-row.ensures))

pub returns-in_err-offer-clause-read : goal.returns-in_err-offer-clause-read
returns-in_err-offer-clause-read c =
    let p = err_from_is_err_and c.from_residual-in_err-offer.result c.from_residual-in_err-offer.ensures.1 in
    let i = c.loop.invariant in
    rw (p.1, p.2) (plain_fails _ _ _ (offer_fails _ _ _ c.in_ok-row.ensures _ _ _ i.1 _ _ c.loop-test.true c.in_err-offer.ensures))

pub loop-preserved : goal.loop-preserved
loop-preserved c =
    let i = c.loop.invariant in
    (_, turned_more offers_repeat _ _ _ _ _ i.1 c.loop-test.true _ _ c.in_ok-offer.ensures)

pub returns-clause-read : goal.returns-clause-read
returns-clause-read c =
    let i = c.loop.invariant in
    plain_whole _ _ _ c.in_ok-row.ensures _ _ _ i.1 (omega arith)

pub returns-clause-bounds : goal.returns-clause-bounds
returns-clause-bounds c = row_bounds _ _ _ _ (returns-clause-read c).read
