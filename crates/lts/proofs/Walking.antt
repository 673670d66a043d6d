-- A list from one place on: none where that place is past the last, and else the element there and those behind it.
use Rattle.std.proofs.Common.{◌≡◌, ℕ, zero, suc, ◌+◌, ◌<◌, List, [], ◌∷◌, drop, Some, None, refl, sym, arith}
use native.Mathlib.Numerals.{unary_clauses}
use Rattle.std.specs.List.{slice_get}
use Rattle.std.proofs.lemmas.Option.{slice_get_within}
use Rattle.lts.specs.declared.source.Move.{Move}
use Rattle.lts.specs.Meaning.{Meaning, Laws}

module _ {X : Type 0} where
  pub none_left : (xs : List X) (k : ℕ) → None ≡ slice_get xs k → drop k xs ≡ []
  none_left [] zero e = refl
  none_left [] (suc k) e = refl
  none_left (y ∷ xs) zero e = cc
  none_left (y ∷ xs) (suc k) e = none_left xs k e

  pub one_left : (xs : List X) (k : ℕ) (x : X) → Some x ≡ slice_get xs k → drop k xs ≡ x ∷ drop (k + 1) xs
  one_left [] k x e = cc
  one_left (y ∷ xs) zero x e = cc
  one_left (y ∷ xs) (suc k) x e = simp unary_clauses (simp unary_clauses at (one_left xs k x e))

pub few_left : (m : Meaning) (s k : ℕ) (x : Move ℕ) → Laws m → s < m.count → Some x ≡ slice_get (m.moves s) k → k < 64
few_left m s k x laws inside e = omega (arith, slice_get_within (m.moves s) k x (sym e), (laws.each s inside).few)
