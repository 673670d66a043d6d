-- What one word says, or why it is refused: the kind and the unused bits are tested before the fields.
use Rattle.std.specs.Prelude.{ℕ, ◌/◌, ◌%◌, ◌^◌, Bool, true, false, cond, not, ◌&&◌, ◌||◌, Ok, Err, Result, ◌==◌, nat_le}
use Rattle.lts.specs.declared.source.Move.{Move}
use Rattle.lts.specs.Labels.{label}
use Rattle.lts.specs.Meaning.{most_states, most_moves}
use Rattle.words.specs.declared.fault.WordFault.{WordFault}
use Rattle.words.specs.declared.fault.WordFault.TheVariants.{Form, Range}
use Rattle.words.specs.declared.word.RowHead.{RowHead}
use Rattle.words.specs.declared.word.RowHead.TheVariants.{Dwell, Endless}

-- the top four bits, and the other 28
abbrev pub kind : ℕ → ℕ
kind w = w / 2 ^ 28

abbrev pub payload : ℕ → ℕ
payload w = w % 2 ^ 28

-- a bit is set that the words of this kind do not use
abbrev pub unused_bit : ℕ → Bool
unused_bit w =
    cond (kind w == 0 || kind w == 3 || kind w == 4 || kind w == 14) (not (payload w == 0))
    (cond (kind w == 1) (nat_le 256 (payload w))
    (cond (kind w == 2) (payload w / 2 ^ 26 == 0 && not (payload w / 2 ^ 23 == 0))
    (cond (kind w == 5) (nat_le 64 (payload w))
    (cond (kind w == 6) (nat_le 4096 (payload w)) false))))

-- go on where the test is passed, and else refuse
abbrev pub check : {X : Type 0} → Bool → WordFault → Result X WordFault → Result X WordFault
check true fault rest = rest
check false fault rest = Err fault

-- a number from least to most, in a word of the kind that is due
abbrev pub counted : ℕ → ℕ → ℕ → ℕ → ℕ → Result ℕ WordFault
counted due least most place w =
    check (kind w == due) (Form place) (check (nat_le least (payload w) && nat_le (payload w) most) (Range place) (Ok (payload w)))

abbrev pub definitions_in : ℕ → ℕ → Result ℕ WordFault
definitions_in = counted 8 0 256

abbrev pub states_in : ℕ → ℕ → Result ℕ WordFault
states_in = counted 9 1 most_states

abbrev pub moves_in : ℕ → ℕ → Result ℕ WordFault
moves_in = counted 10 1 most_moves

-- the most rows of a chart, and the most offers of a row
abbrev pub most_rows : ℕ
most_rows = 256

abbrev pub most_offers : ℕ
most_offers = 62

abbrev pub rows_in : ℕ → ℕ → Result ℕ WordFault
rows_in = counted 12 1 most_rows

abbrev pub offers_in : ℕ → ℕ → Result ℕ WordFault
offers_in = counted 15 0 most_offers

-- a move: a label above a target
abbrev pub arrow_in : ℕ → ℕ → Result (Move ℕ) WordFault
arrow_in place w =
    check (kind w == 11) (Form place)
    (check (label (payload w / 2 ^ 20)) (Range place) (Ok (record { label = payload w / 2 ^ 20; target = payload w % 2 ^ 20 })))

-- the longest dwell, in tenths of a second
abbrev pub most_tenths : ℕ
most_tenths = 40959

-- the head of a chart's row: its dwell, or that it is endless
abbrev pub row_in : ℕ → ℕ → Result RowHead WordFault
row_in place w =
    cond (kind w == 13) (check (nat_le (payload w) most_tenths) (Range place) (Ok (Dwell (payload w))))
    (check (kind w == 14 && payload w == 0) (Form place) (Ok Endless))
