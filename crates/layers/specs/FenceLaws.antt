-- A fence keeps the laws: a proof, which stands here since the law of the source cites it.
use Rattle.std.specs.Prelude.{ℕ, Bool}
use Rattle.lts.specs.Meaning.{Meaning, Laws}
use Rattle.lts.proofs.Restricting.{restricted_lawful}
use Rattle.layers.specs.Fences.{fence_meaning}

pub fence_laws : (names : ℕ → Bool) (m : Meaning) → Laws m → Laws (fence_meaning names m)
fence_laws names m laws = record { some = laws.some; most = laws.most; each = λ s h. restricted_lawful names m.count (m.moves s) (laws.each s h) }
