-- Strong equivalence, over any two kinds of states whose steps are seen alike. Relations are tests, into Bool, since a
-- contract cannot speak of all relations into types. That nothing is lost by it between finitely many states is not
-- proved here.
use Rattle.std.specs.Prelude.{◌≡◌, Bool, true}

-- F s o s' says: from s, a step that is seen as o leads to s'

-- each step of the first of a related pair is met by a step of the second, seen alike, to a related pair
abbrev pub Met : {S T O : Type 0} → (S → O → S → Type 0) → (T → O → T → Type 0) → (S → T → Bool) → Type 0
Met {S} {T} {O} F G R = (s : S) (t : T) → R s t ≡ true → (o : O) (s' : S) → F s o s' → (t' : T) × (G t o t' × (R s' t' ≡ true))

pub record Bisimulation {S T O : Type 0} (F : S → O → S → Type 0) (G : T → O → T → Type 0) (R : S → T → Bool) : Type 0 where
  pub forth : Met F G R
  pub back : Met G F (λ t s. R s t)

-- some bisimulation relates the two
abbrev pub Equivalent : {S T O : Type 0} → (S → O → S → Type 0) → (T → O → T → Type 0) → S → T → Type 0
Equivalent {S} {T} F G s t = (R : S → T → Bool) × (Bisimulation F G R × (R s t ≡ true))
