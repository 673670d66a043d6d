-- What a source answers to its questions: what the meaning says, or that there is no such state or move.
use Rattle.std.specs.Prelude.{ℕ, cond, ◌&&◌, List, [], ◌∷◌, length, Some, None, Ok, Err, Option, Result, ◌==◌, nat_lt, slice_index_or}
use Rattle.lts.specs.declared.source.Move.{Move}
use Rattle.lts.specs.declared.source.OutOfRange.{OutOfRange}
use Rattle.lts.specs.Meaning.{Meaning, no_move}

-- the number of the one refusal
abbrev pub range_code : ℕ
range_code = 10

abbrev pub out_of_range : OutOfRange
out_of_range = record {}

-- the target of the tick in a list of moves, if there is one
unfoldable pub tick_of : {S : Type 0} → List (Move S) → Option S
tick_of [] = None
tick_of (m ∷ ms) = cond (m.label == 128) (Some m.target) (tick_of ms)

unfoldable pub move_count : Meaning → ℕ → Result ℕ OutOfRange
move_count m s = cond (nat_lt s m.count) (Ok (length (m.moves s))) (Err out_of_range)

unfoldable pub nth_move : Meaning → ℕ → ℕ → Result (Move ℕ) OutOfRange
nth_move m s k =
    cond (nat_lt s m.count && nat_lt k (length (m.moves s))) (Ok (slice_index_or (m.moves s) k no_move)) (Err out_of_range)

unfoldable pub tick_target : Meaning → ℕ → Result (Option ℕ) OutOfRange
tick_target m s = cond (nat_lt s m.count) (Ok (tick_of (m.moves s))) (Err out_of_range)
