use Rattle.std.proofs.Common.{ap, sym, arith, rules, tests}
use Rattle.std.specs.Prelude.{drop}
use Rattle.std.proofs.lemmas.Iterator.Consumers.{nth_from_yields_List, YieldsList-from_filter, YieldsList-from_first, YieldsList-at}
use Rattle.std.proofs.lemmas.Result.{err_from_is_err_and}
use Rattle.std.proofs.lemmas.Iterator.Adapters.{option_map_id}
use Rattle.lts.specs.Restriction.{passes, restricted}
use Rattle.lts.proofs.Asked.{nth_is, no_state}
use Rattle.layers.specs.Names.{in_set}
use Rattle.layers.specs.Fences.{fence_meaning}
use Rattle.layers.proofs.fence.FenceSource.move_at.Goals as goal

pub returns-in_err-state : goal.returns-in_err-state
returns-in_err-state g c =
    let me = c.args.self.now in
    let p = err_from_is_err_and c.from_residual.result c.from_residual.ensures.1 in
    rw (p.1, p.2) (sym (no_state (fence_meaning (in_set me.names.bits) (g.S.Source.meaning me.source)) c.args.s c.args.k c.in_err-state.ensures))

pub returns : goal.returns
unfolding restricted
returns g c =
    let me = c.args.self.now in
    let names = in_set me.names.bits in
    let state = c.in_ok-state.state in
    let is = c.in_ok-state.ensures in
    let x = nth_from_yields_List c.nth.result c.nth.new.self c.args.k c.nth.ensures.ran (YieldsList-from_filter _ (passes names) (YieldsList-at c.filter-kept.ensures.source (YieldsList-from_first (λ x. x) (λ m. drop m.next ((g.S.Source.meaning m.state.source.now).moves m.state.number)) _ c.moves.ensures)) c.filter-kept.ensures.closure (λ x r q k. search (rules, tests))) in
    rw (c.ok_or.ensures.value, sym (option_map_id c.nth.result), x, is.0, is.1) (nth_is (fence_meaning names (g.S.Source.meaning me.source)) c.args.s c.args.k (omega (arith, state.inside, is.1, ap (λ v. (g.S.Source.meaning v).count) is.0)))
