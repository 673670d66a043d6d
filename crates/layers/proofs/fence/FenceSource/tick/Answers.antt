use Rattle.std.proofs.Common.{refl, sym, ◌∙◌}
use Rattle.lts.proofs.Asked.{same_tick}
use Rattle.lts.proofs.Restricting.{restricted_tick}
use Rattle.layers.specs.Names.{in_set}
use Rattle.layers.specs.Fences.{fence_meaning}
use Rattle.layers.proofs.fence.FenceSource.tick.Goals as goal

pub returns : goal.returns
returns g c =
    let me = c.args.self.now in
    let names = in_set me.names.bits in
    let m = g.S.Source.meaning me.source in
    let s = c.args.s in
    c.tick.ensures ∙ same_tick m (fence_meaning names m) refl s (λ h. sym (restricted_tick names m.count (m.moves s) ((g.met.S.Source.lawful me.source).each s h)))
