-- Relabelling a name keeps τ, the tick and what is a label, so a relabelled list is lawful where the list was.
use Rattle.std.proofs.Common.{◌≡◌, ℕ, ◌≤◌, true, ◌||◌, eqb, List, [], ◌∷◌, ◌++◌, map, length, Some, None, Option, sym, refl, ap, ◌∙◌, subst, arith}
use Rattle.std.proofs.lemmas.Bool.Decides.{nat_tests}
use Rattle.std.proofs.lemmas.List.{length-map, map-append}
use Rattle.std.proofs.ByRecursion.{All-map, All-weaker}
use Rattle.lts.specs.declared.source.Move.{Move}
use Rattle.lts.specs.Labels.{label}
use Rattle.lts.specs.Meaning.{Lawful}
use Rattle.lts.specs.Answers.{tick_of}
use Rattle.lts.specs.Actions.{actions, ticking}
use Rattle.lts.specs.Relabelling.{renamed, relabel, relabelled}
use Rattle.lts.proofs.Parting.{silent, Acts, Parted, no_ticks, rejoins, parted, relawed, parted_tick}

module _ (a b : ℕ) (some_a : 1 ≤ a) (most_a : a ≤ 63) (some_b : 1 ≤ b) (most_b : b ≤ 63) where
  renamed_tau : (l : ℕ) → eqb (renamed a b l) 0 ≡ eqb l 0
  renamed_tau l = grind (arith, nat_tests)

  renamed_tick : renamed a b 128 ≡ 128
  renamed_tick = grind (arith, nat_tests)

  renamed_action : (l : ℕ) → (l ≡ 128 → ⊥) → renamed a b l ≡ 128 → ⊥
  renamed_action l h e = grind (arith, nat_tests)

  renamed_label : (l : ℕ) → label l ≡ true → label (renamed a b l) ≡ true
  unfolding label
  renamed_label l h = grind (arith, nat_tests)

  relabelled_silent : {S : Type 0} (ms : List (Move S)) → silent (relabelled (renamed a b) ms) ≡ silent ms
  unfolding relabelled
  relabelled_silent [] = refl
  relabelled_silent (m ∷ ms) = ap (λ v. v || silent (relabelled (renamed a b) ms)) (renamed_tau m.label) ∙ ap (λ v. eqb m.label 0 || v) (relabelled_silent ms)

  pub relabelled_ticking : {S : Type 0} (o : Option S) → relabelled (renamed a b) (ticking o) ≡ ticking o
  unfolding relabelled
  relabelled_ticking None = refl
  relabelled_ticking (Some t) = ap (λ l. record { label = l; target = t } ∷ []) renamed_tick

  pub relabelling : (n : ℕ) (xs : List (Move ℕ)) (o : Option ℕ) → Parted n xs o → Parted n (relabelled (renamed a b) xs) o
  unfolding relabelled
  relabelling n xs o h = record {
    acting = All-map (Acts n) (relabel (renamed a b)) xs (All-weaker (Acts n) (λ m. Acts n (relabel (renamed a b) m)) (λ m p. record { labelled = renamed_label m.label p.labelled; no_tick = renamed_action m.label p.no_tick; inside = p.inside }) xs h.acting);
    inside = h.inside;
    urgent = λ s. h.urgent (sym (relabelled_silent xs) ∙ s);
    waits = λ s. h.waits (sym (relabelled_silent xs) ∙ s);
  }

  module _ (n : ℕ) (ms : List (Move ℕ)) (lawful : Lawful n ms) where
    renames : Parted n (relabelled (renamed a b) (actions ms)) (tick_of ms)
    renames = relabelling n (actions ms) (tick_of ms) (parted n ms lawful)

    rejoined_relabelled : relabelled (renamed a b) ms ≡ relabelled (renamed a b) (actions ms) ++ ticking (tick_of ms)
    unfolding relabelled
    rejoined_relabelled =
        ap (map (relabel (renamed a b))) (rejoins n ms lawful) ∙ map-append (relabel (renamed a b)) (actions ms) (ticking (tick_of ms))
        ∙ ap (λ (v : List (Move ℕ)). map (relabel (renamed a b)) (actions ms) ++ v) (relabelled_ticking (tick_of ms))

    pub relabelled_lawful : Lawful n (relabelled (renamed a b) ms)
    unfolding relabelled
    relabelled_lawful =
        subst (λ (v : List (Move ℕ)). Lawful n v) (sym rejoined_relabelled)
        (relawed n (relabelled (renamed a b) (actions ms)) (tick_of ms) renames (omega (arith, ap length (sym rejoined_relabelled), length-map ms (relabel (renamed a b)), lawful.few)))

    pub relabelled_tick : tick_of (relabelled (renamed a b) ms) ≡ tick_of ms
    relabelled_tick =
        ap tick_of rejoined_relabelled
        ∙ parted_tick (relabelled (renamed a b) (actions ms)) (tick_of ms) (no_ticks n (relabelled (renamed a b) (actions ms)) (tick_of ms) renames)
