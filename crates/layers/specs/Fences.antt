-- Fence: a source whose moves are restricted by a set of names.
use Rattle.std.specs.Prelude.{ℕ, Bool}
use Rattle.lts.specs.Meaning.{Meaning}
use Rattle.lts.specs.Restriction.{restricted}

-- the same states; each loses the moves that carry one of the names or its co-name
abbrev pub fence_meaning : (ℕ → Bool) → Meaning → Meaning
fence_meaning names m = record { count = m.count; moves = λ s. restricted names (m.moves s) }
