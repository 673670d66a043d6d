-- A lawful list of moves is its actions and then its tick; what the laws say of the two parts, and back.
use Rattle.std.proofs.Common.{◌≡◌, ℕ, zero, suc, ◌+◌, ◌<◌, ◌≤◌, Bool, true, false, not, ◌||◌, eqb, ◌⊎◌, List, [], ◌∷◌, ◌++◌, length, IfSome, Some, None, filter, Option, sym, refl, ap, ◌∙◌, subst, ap₂, inl, inr, arith}
use Rattle.std.specs.List.{AllByRecursion as All}
use Rattle.std.proofs.lemmas.Bool.{cond-true, cond-false, cases_Bool, cases_lt, eqb-true, eqb-false, eq-eqb, ne_eqb, or_cases, or_parts, cond_both, false≢true}
use Rattle.std.proofs.lemmas.List.{length-append, get_or_append_left, get_or_at}
use Rattle.std.proofs.ByRecursion.{All-get_or, All-from_get_or, All-append, All-weaker}
use Rattle.lts.specs.declared.source.Move.{Move}
use Rattle.lts.specs.Labels.{label}
use Rattle.lts.specs.Meaning.{Lawful, no_move, label_at}
use Rattle.lts.specs.Answers.{tick_of}
use Rattle.lts.specs.Actions.{acts, actions, ticking}

-- some move is a τ
abbrev pub silent : {S : Type 0} → List (Move S) → Bool
silent [] = false
silent (m ∷ ms) = eqb m.label 0 || silent ms

-- an action of a source with n states
pub record Acts (n : ℕ) (m : Move ℕ) : Type 0 where
  pub labelled : label m.label ≡ true
  pub no_tick : m.label ≡ 128 → ⊥
  pub inside : m.target < n

-- what the laws ask of the actions xs and the tick o of a state, but for their number
pub record Parted (n : ℕ) (xs : List (Move ℕ)) (o : Option ℕ) : Type 0 where
  pub acting : All (Acts n) xs
  pub inside : IfSome o (λ t. t < n)
  pub urgent : silent xs ≡ true → o ≡ None
  pub waits : silent xs ≡ false → (t : ℕ) × (o ≡ Some t)

abbrev NoTick : {S : Type 0} → Move S → Type 0
NoTick m = m.label ≡ 128 → ⊥

-- the parts of a list that is made of actions and a tick
module _ {S : Type 0} where
  pub ticking_tick : (o : Option S) → tick_of (ticking o) ≡ o
  unfolding tick_of
  ticking_tick None = refl
  ticking_tick (Some s) = refl

  pub parted_tick : (xs : List (Move S)) (o : Option S) → All NoTick xs → tick_of (xs ++ ticking o) ≡ o
  unfolding tick_of
  parted_tick [] o h = ticking_tick o
  parted_tick (m ∷ ms) o h = cond-false (eqb m.label 128) (Some m.target) _ (ne_eqb m.label 128 h.0) ∙ parted_tick ms o h.1

  pub actions_none : (o : Option S) → actions (ticking o) ≡ []
  unfolding actions
  actions_none None = refl
  actions_none (Some s) = refl

  pub actions_tick : (m : Move S) (ms : List (Move S)) → m.label ≡ 128 → actions (m ∷ ms) ≡ actions ms
  unfolding actions
  actions_tick m ms e = cond-false (acts m) (m ∷ filter acts ms) (filter acts ms) (ap not (eq-eqb m.label 128 e))

  pub actions_more : (m : Move S) (ms : List (Move S)) → (m.label ≡ 128 → ⊥) → actions (m ∷ ms) ≡ m ∷ actions ms
  unfolding actions
  actions_more m ms e = cond-true (acts m) (m ∷ filter acts ms) (filter acts ms) (ap not (ne_eqb m.label 128 e))

  pub parted_actions : (xs : List (Move S)) (o : Option S) → All NoTick xs → actions (xs ++ ticking o) ≡ xs
  parted_actions [] o h = actions_none o
  parted_actions (m ∷ ms) o h = actions_more m (ms ++ ticking o) h.0 ∙ ap (λ (v : List (Move S)). m ∷ v) (parted_actions ms o h.1)

  length_ticking : (o : Option S) → length (ticking o) ≤ 1
  length_ticking None = omega arith
  length_ticking (Some s) = omega arith

-- one move more before a list that is its actions and its tick
module _ (m : Move ℕ) where
  more_rejoined : (ms : List (Move ℕ)) → (m.label ≡ 128 → ⊥) → ms ≡ actions ms ++ ticking (tick_of ms) → m ∷ ms ≡ actions (m ∷ ms) ++ ticking (tick_of (m ∷ ms))
  unfolding tick_of
  more_rejoined ms h r =
      ap (λ (v : List (Move ℕ)). m ∷ v) r
      ∙ sym (ap₂ (λ (v : List (Move ℕ)) (o : Option ℕ). v ++ ticking o) (actions_more m ms h) (cond-false (eqb m.label 128) (Some m.target) (tick_of ms) (ne_eqb m.label 128 h)))

  tick_alone : (ms : List (Move ℕ)) → suc zero ≡ length (m ∷ ms) → m.label ≡ 128 → m ∷ ms ≡ actions (m ∷ ms) ++ ticking (tick_of (m ∷ ms))
  unfolding tick_of
  tick_alone [] e l =
      ap (λ j. record { label = j; target = m.target } ∷ []) l
      ∙ sym (ap₂ (λ (v : List (Move ℕ)) (o : Option ℕ). v ++ ticking o) (actions_tick m [] l ∙ actions_none {S = ℕ} None) (cond-true (eqb m.label 128) (Some m.target) None (eq-eqb m.label 128 l)))
  tick_alone (v ∷ vs) e l = absurd (omega arith)

-- a list in which only the last move can be a tick
pub rejoined : (ms : List (Move ℕ)) → ((k : ℕ) → k < length ms → label_at ms k ≡ 128 → suc k ≡ length ms) → ms ≡ actions ms ++ ticking (tick_of ms)
unfolding tick_of actions
rejoined [] last = refl
rejoined (m ∷ ms) last =
    elim (cases_Bool (eqb m.label 128)) [
      | inl b ↦ (let l = eqb-true m.label 128 b in tick_alone m ms (last 0 (omega arith) l) l)
      | inr b ↦ more_rejoined m ms (eqb-false m.label 128 b) (rejoined ms (λ k h e. let q = last (suc k) (omega arith) e in omega arith))
    ]

-- τs and ticks by their places
silent_at : (ms : List (Move ℕ)) → silent ms ≡ true → (k : ℕ) × (k < length ms) × (label_at ms k ≡ 0)
silent_at [] h = absurd (false≢true h)
silent_at (m ∷ ms) h =
    elim (or_cases (eqb m.label 0) (silent ms) h) [
      | inl b ↦ (0, omega arith, eqb-true m.label 0 b)
      | inr b ↦ (let r = silent_at ms b in (suc r.0, omega (arith, r.1), r.2))
    ]

loud_at : (ms : List (Move ℕ)) → silent ms ≡ false → (k : ℕ) → k < length ms → label_at ms k ≡ 0 → ⊥
loud_at [] h k l e = absurd (omega arith)
loud_at (m ∷ ms) h zero l e = eqb-false m.label 0 (or_parts (eqb m.label 0) (silent ms) h).0 e
loud_at (m ∷ ms) h (suc k) l e = loud_at ms (or_parts (eqb m.label 0) (silent ms) h).1 k (omega arith) e

pub silent_actions : {S : Type 0} (ms : List (Move S)) → silent (actions ms) ≡ silent ms
unfolding actions
silent_actions [] = refl
silent_actions (m ∷ ms) =
    elim (cases_Bool (eqb m.label 128)) [
      | inl b ↦ (let l = eqb-true m.label 128 b in ap silent (actions_tick m ms l) ∙ silent_actions ms ∙ sym (ap (λ v. v || silent ms) (ne_eqb m.label 0 (λ e. omega arith))))
      | inr b ↦ ap silent (actions_more m ms (eqb-false m.label 128 b)) ∙ ap (λ v. eqb m.label 0 || v) (silent_actions ms)
    ]

tick_at : (ms : List (Move ℕ)) (t : ℕ) → tick_of ms ≡ Some t → (k : ℕ) × (k < length ms) × (label_at ms k ≡ 128)
unfolding tick_of
tick_at [] t h = cc
tick_at (m ∷ ms) t h =
    elim (cases_Bool (eqb m.label 128)) [
      | inl b ↦ (0, omega arith, eqb-true m.label 128 b)
      | inr b ↦ (let r = tick_at ms t (sym (cond-false (eqb m.label 128) (Some m.target) (tick_of ms) b) ∙ h) in (suc r.0, omega (arith, r.1), r.2))
    ]

no_tick_at : (ms : List (Move ℕ)) → tick_of ms ≡ None → (k : ℕ) → k < length ms → label_at ms k ≡ 128 → ⊥
unfolding tick_of
no_tick_at [] h k l e = absurd (omega arith)
no_tick_at (m ∷ ms) h zero l e =
    let f = sym (cond-true (eqb m.label 128) (Some m.target) (tick_of ms) (eq-eqb m.label 128 e)) ∙ h in
    cc
no_tick_at (m ∷ ms) h (suc k) l e =
    elim (cases_Bool (eqb m.label 128)) [
      | inl b ↦ (let f = sym (cond-true (eqb m.label 128) (Some m.target) (tick_of ms) b) ∙ h in cc)
      | inr b ↦ no_tick_at ms (sym (cond-false (eqb m.label 128) (Some m.target) (tick_of ms) b) ∙ h) k (omega arith) e
    ]

pub option_cases : {S : Type 0} (o : Option S) → (o ≡ None) ⊎ ((t : S) × (o ≡ Some t))
option_cases None = inl refl
option_cases (Some t) = inr (t, refl)

-- a proper move: an action or a tick
abbrev Proper : ℕ → Move ℕ → Type 0
Proper n m = (label m.label ≡ true) × (m.target < n)

proper_actions : (n : ℕ) (ms : List (Move ℕ)) → All (Proper n) ms → All (Acts n) (actions ms)
unfolding actions
proper_actions n [] h = tt
proper_actions n (m ∷ ms) h =
    elim (cases_Bool (eqb m.label 128)) [
      | inl b ↦ subst (λ (v : List (Move ℕ)). All (Acts n) v) (sym (actions_tick m ms (eqb-true m.label 128 b))) (proper_actions n ms h.1)
      | inr b ↦
          subst (λ (v : List (Move ℕ)). All (Acts n) v) (sym (actions_more m ms (eqb-false m.label 128 b)))
          (record { labelled = h.0.0; no_tick = eqb-false m.label 128 b; inside = h.0.1 }, proper_actions n ms h.1)
    ]

proper_tick : (n : ℕ) (ms : List (Move ℕ)) → All (Proper n) ms → IfSome (tick_of ms) (λ t. t < n)
unfolding tick_of
proper_tick n [] h = tt
proper_tick n (m ∷ ms) h =
    cond_both (eqb m.label 128) (Some m.target) (tick_of ms) (λ (o : Option ℕ). IfSome o (λ t. t < n)) (λ _. h.0.1) (λ _. proper_tick n ms h.1)

module _ (n : ℕ) (ms : List (Move ℕ)) (lawful : Lawful n ms) where
  pub rejoins : ms ≡ actions ms ++ ticking (tick_of ms)
  rejoins = rejoined ms lawful.tick_last

  proper : All (Proper n) ms
  proper = All-from_get_or (Proper n) ms no_move (λ k h. (lawful.labelled k h, lawful.inside k h))

  pub parted : Parted n (actions ms) (tick_of ms)
  parted = record {
    acting = proper_actions n ms proper;
    inside = proper_tick n ms proper;
    urgent = λ h.
        elim (option_cases (tick_of ms)) [
          | inl e ↦ e
          | inr e ↦ (let a = silent_at ms (sym (silent_actions ms) ∙ h) in let b = tick_at ms e.0 e.1 in absurd (lawful.urgent a.0 b.0 a.1 b.1 a.2 b.2))
        ];
    waits = λ h.
        elim (option_cases (tick_of ms)) [
          | inl e ↦ (let b = lawful.waits (loud_at ms (sym (silent_actions ms) ∙ h)) in absurd (no_tick_at ms e b.0 b.1 b.2))
          | inr e ↦ e
        ];
  }

-- and back
module _ (n : ℕ) (xs : List (Move ℕ)) (o : Option ℕ) (parted : Parted n xs o) where
  abbrev joined : List (Move ℕ)
  joined = xs ++ ticking o

  pub no_ticks : All NoTick xs
  no_ticks = All-weaker (Acts n) NoTick (λ m a. a.no_tick) xs parted.acting

  last_of : (o : Option ℕ) → IfSome o (λ t. t < n) → All (Proper n) (ticking o)
  unfolding label
  last_of None h = tt
  last_of (Some t) h = ((refl, h), tt)

  all_proper : All (Proper n) joined
  all_proper = All-append (Proper n) xs (ticking o) (All-weaker (Acts n) (Proper n) (λ m a. (a.labelled, a.inside)) xs parted.acting) (last_of o parted.inside)

  counted : length joined ≡ length xs + length (ticking o)
  counted = length-append xs (ticking o)

  front : (k : ℕ) → k < length xs → label_at joined k ≡ label_at xs k
  front k h = ap (λ (m : Move ℕ). m.label) (get_or_append_left xs (ticking o) no_move k h)

  -- a tick stands behind the actions
  behind : (k : ℕ) → k < length joined → label_at joined k ≡ 128 → length xs ≤ k
  behind k h e =
      elim (cases_lt k (length xs)) [ inl l ↦ absurd (All-get_or NoTick xs k no_move l no_ticks (sym (front k l) ∙ e)) | inr l ↦ l ]

  one_more : (t : ℕ) → o ≡ Some t → (length xs < length joined) × (label_at joined (length xs) ≡ 128)
  one_more t e =
      let f = ap (λ (v : Option ℕ). length (ticking v)) e in
      (omega (arith, counted, f), ap (λ (v : Option ℕ). label_at (xs ++ ticking v) (length xs)) e ∙ ap (λ (m : Move ℕ). m.label) (get_or_at xs (record { label = 128; target = t }) [] no_move (length xs) refl))

  urgency : (j k : ℕ) → j < length joined → k < length joined → label_at joined j ≡ 0 → label_at joined k ≡ 128 → ⊥
  urgency j k hj hk ej ek =
      let b = behind k hk ek in
      elim (cases_lt j (length xs)) [
        | inl l ↦
            elim (cases_Bool (silent xs)) [
              | inl s ↦ (let f = ap (λ (v : Option ℕ). length (ticking v)) (parted.urgent s) in omega (arith, counted, f))
              | inr s ↦ loud_at xs s j l (sym (front j l) ∙ ej)
            ]
        | inr l ↦ (let same : j ≡ k = omega (arith, counted, length_ticking o) in let e = sym ej ∙ ap (label_at joined) same ∙ ek in omega arith)
      ]

  pub relawed : length joined ≤ 64 → Lawful n joined
  relawed few = record {
    some = elim (cases_Bool (silent xs)) [
      | inl s ↦ (let a = silent_at xs s in omega (arith, counted, a.1))
      | inr s ↦ (let w = parted.waits s in omega (arith, (one_more w.0 w.1).0))
    ];
    few = few;
    labelled = λ k h. (All-get_or (Proper n) joined k no_move h all_proper).0;
    inside = λ k h. (All-get_or (Proper n) joined k no_move h all_proper).1;
    tick_last = λ k h e. omega (arith, behind k h e, counted, length_ticking o);
    urgent = urgency;
    waits = λ none.
        elim (cases_Bool (silent xs)) [
          | inl s ↦ (let a = silent_at xs s in absurd (none a.0 (omega (arith, counted, a.1)) (front a.0 a.1 ∙ a.2)))
          | inr s ↦ (let w = parted.waits s in let l = one_more w.0 w.1 in (length xs, l.0, l.1))
        ];
  }
