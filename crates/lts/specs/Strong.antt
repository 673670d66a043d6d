-- Strong equivalence of the states of two sources.
use Rattle.std.specs.Prelude.{◌≡◌, ℕ, ◌<◌, length}
use Rattle.lts.specs.Meaning.{Meaning, Laws, label_at, target_at}
use Rattle.lts.specs.Equivalence.{Equivalent}

-- Ask that s and t are below the counts wherever this is used: a number that is no state has no steps, so that any two
-- such numbers are related.

-- from a state below the count, a listed move with the label a leads to s'
abbrev pub Step : Meaning → ℕ → ℕ → ℕ → Type 0
Step m s a s' = (s < m.count) × (k : ℕ) × (k < length (m.moves s)) × (label_at (m.moves s) k ≡ a) × (target_at (m.moves s) k ≡ s')

abbrev pub StronglyEquivalent : Meaning → Meaning → ℕ → ℕ → Type 0
StronglyEquivalent l r s t = Equivalent (Step l) (Step r) s t

abbrev pub Reflexive : Type 0
Reflexive = (m : Meaning) (s : ℕ) → StronglyEquivalent m m s s

abbrev pub Symmetric : Type 0
Symmetric = (l r : Meaning) (s t : ℕ) → StronglyEquivalent l r s t → StronglyEquivalent r l t s

abbrev pub Transitive : Type 0
Transitive = (l m r : Meaning) → Laws m → (s t u : ℕ) → t < m.count → StronglyEquivalent l m s t → StronglyEquivalent m r t u → StronglyEquivalent l r s u
