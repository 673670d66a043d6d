-- A list of moves taken apart: its actions, which are all moves but the tick, and its tick.
use Rattle.std.specs.Prelude.{Bool, not, List, [], ◌∷◌, Some, None, filter, Option, ◌==◌}
use Rattle.lts.specs.declared.source.Move.{Move}

abbrev pub acts : {S : Type 0} → Move S → Bool
acts m = not (m.label == 128)

-- the moves that are no ticks, in order
unfoldable pub actions : {S : Type 0} → List (Move S) → List (Move S)
actions ms = filter acts ms

-- the end of a list of moves: a tick, if there is one
abbrev pub ticking : {S : Type 0} → Option S → List (Move S)
ticking None = []
ticking (Some s) = record { label = 128; target = s } ∷ []
