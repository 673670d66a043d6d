-- What a chart means as a transition source.
use Rattle.std.specs.Prelude.{ℕ, ◌+◌, cond, List, [], ◌∷◌, ◌++◌, map, nat_lt}
use Rattle.lts.specs.declared.source.Move.{Move}
use Rattle.lts.specs.Meaning.{Meaning}
use Rattle.charts.specs.declared.row.Stay.{Stay}
use Rattle.charts.specs.declared.row.Stay.TheVariants.{Finite, Endless}
use Rattle.charts.specs.declared.row.Offer.{Offer}
use Rattle.charts.specs.Rows.{Row, seconds, total, row_at, first, row_of, second_of}

-- the state at which an offer arrives: the first one of its row
unfoldable pub arrival : List Row → Offer → ℕ
arrival xs o = first xs o.row

abbrev pub offer_move : List Row → Offer → Move ℕ
offer_move xs o = record { label = o.label; target = arrival xs o }

-- the last move of the state s, which stands j seconds into a row: a tick to the next state,
-- from the last state of a finite row τ to the first of the timeout row, in an endless row a tick to itself
unfoldable pub closing_move : List Row → Stay → ℕ → ℕ → Move ℕ
closing_move xs (Finite d t) s j = cond (nat_lt j (seconds d)) (record { label = 128; target = s + 1 }) (record { label = 0; target = first xs t })
closing_move xs Endless s j = record { label = 128; target = s }

-- every state of a row lists the row's offers, then the closing move
abbrev pub moves_in : List Row → Row → ℕ → ℕ → List (Move ℕ)
moves_in xs x s j = map (offer_move xs) x.offers ++ (closing_move xs x.stay s j ∷ [])

abbrev pub chart_meaning : List Row → Meaning
chart_meaning xs = record { count = total xs; moves = λ s. moves_in xs (row_at xs (row_of xs s)) s (second_of xs s) }
