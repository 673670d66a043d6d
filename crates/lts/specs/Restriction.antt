-- Restriction by names: moves that carry one of the names or its co-name are dropped. A set of names is a test of names.
use Rattle.std.specs.Prelude.{ℕ, ◌%◌, Bool, not, ◌&&◌, List, filter}
use Rattle.lts.specs.declared.source.Move.{Move}
use Rattle.lts.specs.Labels.{visible}

-- the label is a name of the set, or the co-name of one; τ and the tick never are
abbrev pub named_by : (ℕ → Bool) → ℕ → Bool
named_by names a = visible a && names (a % 64)

abbrev pub passes : {S : Type 0} → (ℕ → Bool) → Move S → Bool
passes names m = not (named_by names m.label)

-- the other moves, in order
unfoldable pub restricted : {S : Type 0} → (ℕ → Bool) → List (Move S) → List (Move S)
restricted names ms = filter (passes names) ms
