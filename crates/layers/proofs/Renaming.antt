-- What a renaming keeps: its tick, and its answers by those of its source.
use Rattle.std.specs.Prelude.{◌≡◌, ℕ, true, length, Ok, Err}
use Rattle.std.proofs.Math.Path.{refl, sym, ap}
use Rattle.std.proofs.Common.{◌∙◌, inl, inr, arith}
use Rattle.std.proofs.lemmas.List.{length-map, get_or-map}
use Rattle.lts.specs.declared.source.Move.{Move}
use Rattle.lts.specs.declared.source.OutOfRange.{OutOfRange}
use Rattle.lts.specs.Meaning.{Meaning, Laws}
use Rattle.lts.specs.Answers.{out_of_range, move_count, nth_move, tick_target}
use Rattle.lts.specs.Relabelling.{renamed, relabel, relabelled}
use Rattle.lts.specs.Meaning.{no_move}
use Rattle.lts.proofs.Asked.{found, no_state, past_moves, same_count, same_tick, was_there, was_missing, was_found}
use Rattle.lts.proofs.Relabelling.{relabelled_tick}
use Rattle.layers.specs.Names.{is_name}
use Rattle.layers.specs.Renames.{rename_meaning}
use Rattle.layers.specs.RenameLaws.{name_range}

module _ (a b : ℕ) (first : is_name a ≡ true) (second : is_name b ≡ true) (m : Meaning) (laws : Laws m) where
  pub rename_tick : (s : ℕ) → tick_target m s ≡ tick_target (rename_meaning a b m) s
  rename_tick s =
      let p = name_range a first in
      let q = name_range b second in
      same_tick m (rename_meaning a b m) refl s (λ h. sym (relabelled_tick a b p.0 p.1 q.0 q.1 m.count (m.moves s) (laws.each s h)))

module _ (a b : ℕ) (m : Meaning) (s : ℕ) where
  as_many : length (relabelled (renamed a b) (m.moves s)) ≡ length (m.moves s)
  unfolding relabelled
  as_many = length-map (m.moves s) (relabel (renamed a b))

  pub rename_count : move_count m s ≡ move_count (rename_meaning a b m) s
  rename_count = same_count m (rename_meaning a b m) refl s (λ h. sym as_many)

  pub rename_finds : (k : ℕ) (x : Move ℕ) → Ok x ≡ nth_move m s k → (j : ℕ) → j ≡ renamed a b x.label → Ok (record { label = j; target = x.target }) ≡ nth_move (rename_meaning a b m) s k
  unfolding relabelled
  rename_finds k x e j r =
      let w = was_there m s k x e in
      ap (λ v. Ok (record { label = v; target = x.target })) r ∙ ap (λ v. Ok (relabel (renamed a b) v)) (was_found m s k x w.0 w.1 e)
      ∙ ap (λ v. Ok v) (sym (get_or-map (relabel (renamed a b)) (m.moves s) k no_move no_move w.1))
      ∙ sym (found (rename_meaning a b m) s k w.0 (omega (arith, as_many, w.1)))

  pub rename_misses : (k : ℕ) (x : OutOfRange) → Err x ≡ nth_move m s k → Err out_of_range ≡ nth_move (rename_meaning a b m) s k
  rename_misses k x e =
      elim (was_missing m s k x e) [
        | inl h ↦ sym (no_state (rename_meaning a b m) s k h)
        | inr h ↦ sym (past_moves (rename_meaning a b m) s k (omega (arith, as_many)))
      ]
