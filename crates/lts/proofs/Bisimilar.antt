-- Strong equivalence is an equivalence.
use Rattle.std.proofs.Common.{◌≡◌, ℕ, zero, suc, ◌<◌, Bool, true, false, ◌&&◌, ◌||◌, eqb, sym, refl, subst, inl, inr, arith}
use Rattle.std.proofs.lemmas.Bool.{eqb-true, eq-eqb, and_from, and_parts, or_cases, or_left, or_right, cases_lt, false≢true}
use Rattle.lts.specs.Meaning.{Meaning, Laws}
use Rattle.lts.specs.Equivalence.{Met}
use Rattle.lts.specs.Strong.{Step, Reflexive, Symmetric, Transitive}

-- every step of a state is met by the same step of the same state
pub reflexive : Reflexive
reflexive m s = ((λ x y. eqb x y), (record { forth = forth; back = back }, eq-eqb s s refl))
  where
    forth : Met (Step m) (Step m) (λ x y. eqb x y)
    forth x y e o x' h = (x', (subst (λ v. Step m v o x') (eqb-true x y e) h, eq-eqb x' x' refl))

    back : Met (Step m) (Step m) (λ y x. eqb x y)
    back y x e o y' h = (y', (subst (λ v. Step m v o y') (sym (eqb-true x y e)) h, eq-eqb y' y' refl))

-- a bisimulation, turned round
pub symmetric : Symmetric
symmetric l r s t e = ((λ y x. e.0 x y), (record { forth = e.1.0.back; back = e.1.0.forth }, e.1.1))

-- some number below n passes
some_below : (ℕ → Bool) → ℕ → Bool
some_below p zero = false
some_below p (suc n) = p n || some_below p n

some_found : (p : ℕ → Bool) (n : ℕ) → some_below p n ≡ true → (k : ℕ) × ((k < n) × (p k ≡ true))
unfolding some_below
some_found p zero h = absurd (false≢true h)
some_found p (suc n) h =
    elim (or_cases (p n) (some_below p n) h) [ inl a ↦ (n, (omega arith, a)) | inr a ↦ (let r = some_found p n a in (r.0, (omega (arith, r.1.0), r.1.1))) ]

some_from : (p : ℕ → Bool) (n k : ℕ) → k < n → p k ≡ true → some_below p n ≡ true
unfolding some_below
some_from p zero k h e = absurd (omega arith)
some_from p (suc n) k h e =
    elim (cases_lt k n) [
      | inl l ↦ or_right (p n) (some_below p n) (some_from p n k l e)
      | inr l ↦ (let q : k ≡ n = omega arith in or_left (p n) (some_below p n) (subst (λ j. p j ≡ true) q e))
    ]

-- a step leads to a state
step_inside : (m : Meaning) → Laws m → (t o t' : ℕ) → Step m t o t' → t' < m.count
step_inside m laws t o t' h = subst (λ j. j < m.count) h.4 ((laws.each t h.0).inside h.1 h.2)

-- two bisimulations, one after the other, by a state between
module _ (l m r : Meaning) (laws : Laws m) (P Q : ℕ → ℕ → Bool) where
  joined : ℕ → ℕ → Bool
  joined s u = some_below (λ t. P s t && Q t u) m.count

  join : (s t u : ℕ) → t < m.count → P s t ≡ true → Q t u ≡ true → joined s u ≡ true
  unfolding joined
  join s t u h p q = some_from (λ v. P s v && Q v u) m.count t h (and_from (P s t) (Q t u) p q)

  apart : (s u : ℕ) → joined s u ≡ true → (t : ℕ) × ((t < m.count) × (P s t ≡ true) × (Q t u ≡ true))
  unfolding joined
  apart s u h =
      let a = some_found (λ v. P s v && Q v u) m.count h in
      let b = and_parts (P s a.0) (Q a.0 u) a.1.1 in
      (a.0, (a.1.0, b.0, b.1))

  forth : Met (Step l) (Step m) P → Met (Step m) (Step r) Q → Met (Step l) (Step r) joined
  forth f g s u h o s' step =
      let a = apart s u h in
      let b = f s a.0 a.1.1 o s' step in
      let c = g a.0 u a.1.2 o b.0 b.1.0 in
      (c.0, (c.1.0, join s' b.0 c.0 (step_inside m laws a.0 o b.0 b.1.0) b.1.1 c.1.1))

  back : Met (Step m) (Step l) (λ t s. P s t) → Met (Step r) (Step m) (λ u t. Q t u) → Met (Step r) (Step l) (λ u s. joined s u)
  back f g u s h o u' step =
      let a = apart s u h in
      let c = g u a.0 a.1.2 o u' step in
      let b = f a.0 s a.1.1 o c.0 c.1.0 in
      (b.0, (b.1.0, join b.0 c.0 u' (step_inside m laws a.0 o c.0 c.1.0) b.1.1 c.1.1))

pub transitive : Transitive
transitive l m r laws s t u h p q = (
  joined l m r laws p.0 q.0,
  (
    record {
      forth = forth l m r laws p.0 q.0 p.1.0.forth q.1.0.forth;
      back = back l m r laws p.0 q.0 p.1.0.back q.1.0.back;
    },
    join l m r laws p.0 q.0 s t u h p.1.1 q.1.1,
  ),
)
