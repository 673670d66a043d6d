-- A restricted list keeps τs and the tick, so it is lawful where the list was.
use Rattle.std.proofs.Common.{◌≡◌, ℕ, ◌≤◌, Bool, true, false, not, ◌||◌, eqb, List, [], ◌∷◌, ◌++◌, length, Some, None, filter, Option, sym, refl, ap, ◌∙◌, subst, inl, inr, arith}
use Rattle.std.proofs.lemmas.Bool.{cond-true, cond-false, cases_Bool, ne_eqb}
use Rattle.std.proofs.lemmas.List.Sums.{length-filter, count_by-le-length}
use Rattle.std.proofs.lemmas.List.Elements.{filter-append}
use Rattle.std.proofs.ByRecursion.{all_kept_by}
use Rattle.lts.specs.declared.source.Move.{Move}
use Rattle.lts.specs.Labels.{visible}
use Rattle.lts.specs.Meaning.{Lawful}
use Rattle.lts.specs.Answers.{tick_of}
use Rattle.lts.specs.Actions.{actions, ticking}
use Rattle.lts.specs.Restriction.{named_by, passes, restricted}
use Rattle.lts.proofs.Parting.{silent, Acts, Parted, no_ticks, rejoins, parted, relawed, parted_tick}

module _ {S : Type 0} (names : ℕ → Bool) where
  passes_tau : (m : Move S) → m.label ≡ 0 → passes names m ≡ true
  unfolding visible
  passes_tau m e = ap (λ j. not (named_by names j)) e

  passes_tick : (m : Move S) → m.label ≡ 128 → passes names m ≡ true
  unfolding visible
  passes_tick m e = ap (λ j. not (named_by names j)) e

  pub restricted_silent : (ms : List (Move S)) → silent (restricted names ms) ≡ silent ms
  unfolding restricted
  restricted_silent [] = refl
  restricted_silent (m ∷ ms) =
      elim (cases_Bool (passes names m)) [
        | inl b ↦ ap silent (cond-true (passes names m) (m ∷ filter (passes names) ms) (filter (passes names) ms) b) ∙ ap (λ v. eqb m.label 0 || v) (restricted_silent ms)
        | inr b ↦
            ap silent (cond-false (passes names m) (m ∷ filter (passes names) ms) (filter (passes names) ms) b) ∙ restricted_silent ms
            ∙ sym (ap (λ v. v || silent ms) (ne_eqb m.label 0 (λ e. dropped b (passes_tau m e))))
      ]
    where
      dropped : passes names m ≡ false → passes names m ≡ true → ⊥
      dropped b c = let z : true ≡ false = sym c ∙ b in (let y : ◌≡◌ {A = ℕ} 0 1 = cc in omega arith)

  pub restricted_ticking : (o : Option S) → restricted names (ticking o) ≡ ticking o
  unfolding restricted
  restricted_ticking None = refl
  restricted_ticking (Some t) =
      let m : Move S = record { label = 128; target = t } in
      cond-true (passes names m) (m ∷ []) [] (passes_tick m refl)

  pub restricted_length : (ms : List (Move S)) → length (restricted names ms) ≤ length ms
  unfolding restricted
  restricted_length ms = omega (arith, length-filter (passes names) ms, count_by-le-length (passes names) ms)

pub restricting : (names : ℕ → Bool) (n : ℕ) (xs : List (Move ℕ)) (o : Option ℕ) → Parted n xs o → Parted n (restricted names xs) o
unfolding restricted
restricting names n xs o h = record {
  acting = all_kept_by (passes names) (Acts n) xs h.acting;
  inside = h.inside;
  urgent = λ s. h.urgent (sym (restricted_silent names xs) ∙ s);
  waits = λ s. h.waits (sym (restricted_silent names xs) ∙ s);
}

module _ (names : ℕ → Bool) (n : ℕ) (ms : List (Move ℕ)) (lawful : Lawful n ms) where
  fences : Parted n (restricted names (actions ms)) (tick_of ms)
  fences = restricting names n (actions ms) (tick_of ms) (parted n ms lawful)

  rejoined_restricted : restricted names ms ≡ restricted names (actions ms) ++ ticking (tick_of ms)
  unfolding restricted
  rejoined_restricted =
      ap (filter (passes names)) (rejoins n ms lawful) ∙ filter-append (passes names) (actions ms) (ticking (tick_of ms))
      ∙ ap (λ (v : List (Move ℕ)). filter (passes names) (actions ms) ++ v) (restricted_ticking names (tick_of ms))

  pub restricted_lawful : Lawful n (restricted names ms)
  restricted_lawful =
      subst (λ (v : List (Move ℕ)). Lawful n v) (sym rejoined_restricted)
      (relawed n (restricted names (actions ms)) (tick_of ms) fences (omega (arith, ap length (sym rejoined_restricted), restricted_length names ms, lawful.few)))

  pub restricted_tick : tick_of (restricted names ms) ≡ tick_of ms
  restricted_tick =
      ap tick_of rejoined_restricted ∙ parted_tick (restricted names (actions ms)) (tick_of ms) (no_ticks n (restricted names (actions ms)) (tick_of ms) fences)
