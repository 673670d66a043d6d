-- What the questions of a source are answered, in range and out of it.
use Rattle.std.proofs.Common.{◌≡◌, ℕ, ◌<◌, ◌≤◌, ◌&&◌, ltb, ◌⊎◌, length, get_or, Ok, Err, Option, inl, inr, sym, ap, ◌∙◌, arith}
use Rattle.std.proofs.lemmas.Option.{slice_get-get_or, slice_get_past}
use Rattle.std.specs.List.{slice_get}
use Rattle.std.specs.Option.{ok_or}
use Rattle.std.specs.Result.{result_ok}
use Rattle.std.proofs.lemmas.Bool.{cond-true, cond-false, and_from, and_left, and_right, lt-ltb, le-ltb, cases_lt}
use Rattle.lts.specs.declared.source.Move.{Move}
use Rattle.lts.specs.declared.source.OutOfRange.{OutOfRange}
use Rattle.lts.specs.Answers.{out_of_range, tick_of, move_count, nth_move, tick_target}
use Rattle.lts.specs.Meaning.{Meaning, no_move}

module _ (m : Meaning) (s : ℕ) where
  pub counted : s < m.count → move_count m s ≡ Ok (length (m.moves s))
  unfolding move_count
  counted h = cond-true (ltb s m.count) _ (Err out_of_range) (lt-ltb s m.count h)

  pub not_counted : m.count ≤ s → move_count m s ≡ Err out_of_range
  unfolding move_count
  not_counted h = cond-false (ltb s m.count) _ (Err out_of_range) (le-ltb s m.count h)

  pub found : (k : ℕ) → s < m.count → k < length (m.moves s) → nth_move m s k ≡ Ok (get_or (m.moves s) k no_move)
  unfolding nth_move
  found k h l =
      cond-true (ltb s m.count && ltb k (length (m.moves s))) _ (Err out_of_range) (and_from (ltb s m.count) (ltb k (length (m.moves s))) (lt-ltb s m.count h) (lt-ltb k (length (m.moves s)) l))

  pub no_state : (k : ℕ) → m.count ≤ s → nth_move m s k ≡ Err out_of_range
  unfolding nth_move
  no_state k h =
      cond-false (ltb s m.count && ltb k (length (m.moves s))) _ (Err out_of_range) (and_left (ltb s m.count) (ltb k (length (m.moves s))) (le-ltb s m.count h))

  pub past_moves : (k : ℕ) → length (m.moves s) ≤ k → nth_move m s k ≡ Err out_of_range
  unfolding nth_move
  past_moves k h =
      cond-false (ltb s m.count && ltb k (length (m.moves s))) _ (Err out_of_range) (and_right (ltb s m.count) (ltb k (length (m.moves s))) (le-ltb k (length (m.moves s)) h))

  pub ticked : s < m.count → tick_target m s ≡ Ok (tick_of (m.moves s))
  unfolding tick_target
  ticked h = cond-true (ltb s m.count) _ (Err out_of_range) (lt-ltb s m.count h)

  pub not_ticked : m.count ≤ s → tick_target m s ≡ Err out_of_range
  unfolding tick_target
  not_ticked h = cond-false (ltb s m.count) _ (Err out_of_range) (le-ltb s m.count h)

  -- and back: what an answer says
  pub was_counted : (n : ℕ) → Ok n ≡ move_count m s → (s < m.count) × (n ≡ length (m.moves s))
  was_counted n e =
      elim (cases_lt s m.count) [
        | inl h ↦ (h, (let f = counted h in cc))
        | inr h ↦ (let f = not_counted h in cc)
      ]

  pub was_not_counted : (x : OutOfRange) → Err x ≡ move_count m s → m.count ≤ s
  was_not_counted x e =
      elim (cases_lt s m.count) [ inl h ↦ (let f = counted h in cc) | inr h ↦ h ]

  pub was_ticked : (o : Option ℕ) → Ok o ≡ tick_target m s → (s < m.count) × (o ≡ tick_of (m.moves s))
  was_ticked o e =
      elim (cases_lt s m.count) [
        | inl h ↦ (h, (let f = ticked h in cc))
        | inr h ↦ (let f = not_ticked h in cc)
      ]

  pub was_not_ticked : (x : OutOfRange) → Err x ≡ tick_target m s → m.count ≤ s
  was_not_ticked x e =
      elim (cases_lt s m.count) [ inl h ↦ (let f = ticked h in cc) | inr h ↦ h ]

  -- a move that is there is found and never refused
  pub was_found : (k : ℕ) (x : Move ℕ) → s < m.count → k < length (m.moves s) → Ok x ≡ nth_move m s k → x ≡ get_or (m.moves s) k no_move
  was_found k x h l e = let f = found k h l in cc

  pub never_refused : (k : ℕ) (x : OutOfRange) → s < m.count → k < length (m.moves s) → Err x ≡ nth_move m s k → ⊥
  never_refused k x h l e = let f = found k h l in cc

  pub was_there : (k : ℕ) (x : Move ℕ) → Ok x ≡ nth_move m s k → (s < m.count) × (k < length (m.moves s))
  was_there k x e =
      elim (cases_lt s m.count) [
        | inl h ↦
            elim (cases_lt k (length (m.moves s))) [
              | inl l ↦ (h, l)
              | inr l ↦ (let f = past_moves k l in cc)
            ]
        | inr h ↦ (let f = no_state k h in cc)
      ]

  pub was_missing : (k : ℕ) (x : OutOfRange) → Err x ≡ nth_move m s k → (m.count ≤ s) ⊎ (length (m.moves s) ≤ k)
  was_missing k x e =
      elim (cases_lt s m.count) [
        | inl h ↦ elim (cases_lt k (length (m.moves s))) [ inl l ↦ absurd (never_refused k x h l e) | inr l ↦ inr l ]
        | inr h ↦ inl h
      ]

  -- the k-th move, if there is one, is what is answered at a state
  pub nth_is : (k : ℕ) → s < m.count → ok_or (slice_get (m.moves s) k) out_of_range ≡ nth_move m s k
  nth_is k h =
      elim (cases_lt k (length (m.moves s))) [
        | inl l ↦ ap (λ o. ok_or o out_of_range) (slice_get-get_or (m.moves s) k no_move l) ∙ sym (found k h l)
        | inr l ↦ ap (λ o. ok_or o out_of_range) (slice_get_past (m.moves s) k l) ∙ sym (past_moves k l)
      ]

  -- and the other way round
  pub nth_given : (k : ℕ) → s < m.count → result_ok (nth_move m s k) ≡ slice_get (m.moves s) k
  nth_given k h =
      elim (cases_lt k (length (m.moves s))) [
        | inl l ↦ ap result_ok (found k h l) ∙ sym (slice_get-get_or (m.moves s) k no_move l)
        | inr l ↦ ap result_ok (past_moves k l) ∙ sym (slice_get_past (m.moves s) k l)
      ]

-- two meanings with the same states answer alike where the states' moves are alike
module _ (m n : Meaning) (same : m.count ≡ n.count) (s : ℕ) where
  pub same_count : (s < m.count → length (m.moves s) ≡ length (n.moves s)) → move_count m s ≡ move_count n s
  same_count e =
      elim (cases_lt s m.count) [
        | inl h ↦ counted m s h ∙ ap (λ j. Ok j) (e h) ∙ sym (counted n s (omega (arith, same)))
        | inr h ↦ not_counted m s h ∙ sym (not_counted n s (omega (arith, same)))
      ]

  pub same_tick : (s < m.count → tick_of (m.moves s) ≡ tick_of (n.moves s)) → tick_target m s ≡ tick_target n s
  same_tick e =
      elim (cases_lt s m.count) [
        | inl h ↦ ticked m s h ∙ ap (λ o. Ok o) (e h) ∙ sym (ticked n s (omega (arith, same)))
        | inr h ↦ not_ticked m s h ∙ sym (not_ticked n s (omega (arith, same)))
      ]
