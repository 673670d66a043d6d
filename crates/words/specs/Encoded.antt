-- The word of what a word says, the ranges of what it can say, and that decoding is exact: a word that is not
-- refused is the word of what it says, and whatever is in its ranges is said by its word.
use Rattle.std.specs.Prelude.{◌≡◌, ℕ, ◌+◌, ◌*◌, ◌^◌, ◌<◌, ◌≤◌, true, Ok, ◌≢◌}
use Rattle.lts.specs.declared.source.Move.{Move}
use Rattle.lts.specs.Labels.{label}
use Rattle.words.specs.declared.term.Delay.{Delay}
use Rattle.words.specs.declared.term.Delay.TheVariants.{Constant, Plus, Less}
use Rattle.words.specs.declared.term.Operator.{Operator}
use Rattle.words.specs.declared.term.Operator.TheVariants.{Nil, Prefix, Delay as Delayed, Sum, Compose, Restrict, Relabel, Refer}
use Rattle.words.specs.declared.word.RowHead.{RowHead}
use Rattle.words.specs.declared.word.RowHead.TheVariants.{Dwell, Endless}
use Rattle.words.specs.declared.word.Word.{Word}
use Rattle.words.specs.declared.word.Word.TheVariants.{Operator as Term, Definitions, States, Moves, Move as Arrow, Rows, Row, Offers}
use Rattle.words.specs.Words.{most_tenths}
use Rattle.words.specs.Decoded.{decoded}

abbrev pub count_word : ℕ → ℕ → ℕ
count_word due n = due * 2 ^ 28 + n

abbrev pub arrow_word : Move ℕ → ℕ
arrow_word m = 11 * 2 ^ 28 + m.label * 2 ^ 20 + m.target

abbrev pub row_word : RowHead → ℕ
row_word (Dwell tenths) = 13 * 2 ^ 28 + tenths
row_word Endless = 14 * 2 ^ 28

abbrev pub delay_word : Delay → ℕ
delay_word (Constant seconds) = 2 * 2 ^ 28 + seconds
delay_word (Plus between seconds) = 2 * 2 ^ 28 + 1 * 2 ^ 26 + between * 2 ^ 23 + seconds
delay_word (Less between seconds) = 2 * 2 ^ 28 + 2 * 2 ^ 26 + between * 2 ^ 23 + seconds

abbrev pub operator_word : Operator → ℕ
operator_word Nil = 0
operator_word (Prefix a) = 1 * 2 ^ 28 + a
operator_word (Delayed d) = delay_word d
operator_word Sum = 3 * 2 ^ 28
operator_word Compose = 4 * 2 ^ 28
operator_word (Restrict name) = 5 * 2 ^ 28 + name
operator_word (Relabel from to) = 6 * 2 ^ 28 + to * 2 ^ 6 + from
operator_word (Refer number) = 7 * 2 ^ 28 + number

abbrev pub word_of : Word → ℕ
word_of (Term o) = operator_word o
word_of (Definitions n) = count_word 8 n
word_of (States n) = count_word 9 n
word_of (Moves n) = count_word 10 n
word_of (Arrow m) = arrow_word m
word_of (Rows n) = count_word 12 n
word_of (Row head) = row_word head
word_of (Offers n) = count_word 15 n

abbrev pub Between : ℕ → ℕ → ℕ → Type 0
Between least most n = (least ≤ n) × (n ≤ most)

abbrev pub ArrowFits : Move ℕ → Type 0
ArrowFits m = (label m.label ≡ true) × (m.target < 2 ^ 20)

abbrev pub RowFits : RowHead → Type 0
RowFits (Dwell tenths) = tenths ≤ most_tenths
RowFits Endless = Unit {0}

abbrev pub Name : ℕ → Type 0
Name = Between 1 63

abbrev pub DelayFits : Delay → Type 0
DelayFits (Constant seconds) = seconds ≤ 4095
DelayFits (Plus between seconds) = (between ≤ 7) × (seconds ≤ 4095)
DelayFits (Less between seconds) = (between ≤ 7) × Between 1 4095 seconds

abbrev pub OperatorFits : Operator → Type 0
OperatorFits Nil = Unit {0}
OperatorFits (Prefix a) = (a ≤ 127) × (a ≢ 64)
OperatorFits (Delayed d) = DelayFits d
OperatorFits Sum = Unit {0}
OperatorFits Compose = Unit {0}
OperatorFits (Restrict name) = Name name
OperatorFits (Relabel from to) = Name from × Name to
OperatorFits (Refer number) = number < 2 ^ 28

-- each field is in its range
abbrev pub Fitting : Word → Type 0
Fitting (Term o) = OperatorFits o
Fitting (Definitions n) = n ≤ 256
Fitting (States n) = Between 1 4096 n
Fitting (Moves n) = Between 1 64 n
Fitting (Arrow m) = ArrowFits m
Fitting (Rows n) = Between 1 256 n
Fitting (Row head) = RowFits head
Fitting (Offers n) = n ≤ 62

abbrev pub DecodingIsExact : Type 0
DecodingIsExact =
    ((place w : ℕ) (x : Word) → w < 2 ^ 32 → decoded place w ≡ Ok x → (word_of x ≡ w) × Fitting x)
    × ((place : ℕ) (x : Word) → Fitting x → decoded place (word_of x) ≡ Ok x)
