-- What a word says by itself, by its kind.
use Rattle.std.specs.Prelude.{ℕ, cond, ◌||◌, Result, ◌==◌, nat_lt}
use Rattle.words.specs.declared.fault.WordFault.{WordFault}
use Rattle.words.specs.declared.word.Word.{Word}
use Rattle.words.specs.declared.word.Word.TheVariants.{Operator, Definitions, States, Moves, Move, Rows, Row, Offers}
use Rattle.words.specs.Reading.{mapped}
use Rattle.words.specs.Words.{kind, definitions_in, states_in, moves_in, rows_in, offers_in, arrow_in, row_in}
use Rattle.words.specs.Operators.{operator_in}

-- what is found, under the name of its kind
abbrev pub decoded : ℕ → ℕ → Result Word WordFault
decoded place w =
    cond (nat_lt (kind w) 8) (mapped Operator (operator_in place w))
    (cond (kind w == 8) (mapped Definitions (definitions_in place w))
    (cond (kind w == 9) (mapped States (states_in place w))
    (cond (kind w == 10) (mapped Moves (moves_in place w))
    (cond (kind w == 11) (mapped Move (arrow_in place w))
    (cond (kind w == 12) (mapped Rows (rows_in place w))
    (cond (kind w == 13 || kind w == 14) (mapped Row (row_in place w)) (mapped Offers (offers_in place w))))))))
