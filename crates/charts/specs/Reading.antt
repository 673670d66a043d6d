-- How the words of a chart file are read, from the front: what they are, or the first word at fault.
use Rattle.std.specs.Prelude.{ℕ, zero, suc, ◌+◌, cond, ◌&&◌, List, [], ◌∷◌, length, drop, Some, None, Ok, Err, Option, Result, ◌==◌, nat_lt}
use Rattle.lts.specs.Labels.{visible}
use Rattle.lts.specs.Meaning.{most_states}
use Rattle.words.specs.declared.fault.WordFault.{WordFault}
use Rattle.words.specs.declared.fault.WordFault.TheVariants.{Length, Range}
use Rattle.words.specs.declared.word.RowHead.{RowHead}
use Rattle.words.specs.declared.word.RowHead.TheVariants.{Dwell, Endless as EndlessHead}
use Rattle.words.specs.Reading.{then, mapped}
use Rattle.words.specs.Words.{rows_in, row_in, arrow_in, offers_in}
use Rattle.words.specs.Bytes.{longest}
use Rattle.charts.specs.declared.row.Stay.{Stay}
use Rattle.charts.specs.declared.row.Stay.TheVariants.{Finite, Endless}
use Rattle.charts.specs.declared.row.Offer.{Offer}
use Rattle.charts.specs.declared.fault.ChartFault.{ChartFault}
use Rattle.charts.specs.declared.fault.ChartFault.TheVariants.{Word, TooManyStates}
use Rattle.charts.specs.Rows.{Row, size, stay_words, words_with}

-- a word B as a timeout: the label τ, and a row below n
abbrev pub timeout_in : ℕ → ℕ → ℕ → Result ℕ WordFault
timeout_in n p w = then (arrow_in p w) (λ m. cond (m.label == 0 && nat_lt m.target n) (Ok m.target) (Err (Range p)))

-- a word B as an offer: a visible label, and a row below n
abbrev pub offer_in : ℕ → ℕ → ℕ → Result Offer WordFault
offer_in n p w = then (arrow_in p w) (λ m. cond (visible m.label && nat_lt m.target n) (Ok (record { label = m.label; row = m.target })) (Err (Range p)))

-- what follows a word D: the timeout
abbrev pub read_timeout : ℕ → ℕ → ℕ → List ℕ → Result Stay WordFault
read_timeout n p d [] = Err (Length p)
read_timeout n p d (w ∷ ws) = mapped (Finite d) (timeout_in n p w)

abbrev pub read_head : ℕ → ℕ → List ℕ → RowHead → Result Stay WordFault
read_head n p ws (Dwell d) = read_timeout n (p + 1) d ws
read_head n p ws EndlessHead = Ok Endless

-- the front of a row: D and its timeout, or E
abbrev pub read_stay : ℕ → ℕ → List ℕ → Result Stay WordFault
read_stay n p [] = Err (Length p)
read_stay n p (w ∷ ws) = then (row_in p w) (read_head n p ws)

abbrev pub read_count : ℕ → List ℕ → Result ℕ WordFault
read_count p [] = Err (Length p)
read_count p (w ∷ ws) = offers_in p w

unfoldable pub read_offers : ℕ → ℕ → ℕ → List ℕ → Result (List Offer) WordFault
read_offers n p zero ws = Ok []
read_offers n p (suc k) [] = Err (Length p)
read_offers n p (suc k) (w ∷ ws) = then (offer_in n p w) (λ o. mapped (λ os. o ∷ os) (read_offers n (p + 1) k ws))

-- a row among n: its front, F, and the offers
unfoldable pub read_row : ℕ → ℕ → List ℕ → Result Row WordFault
read_row n p ws =
    then (read_stay n p ws) (λ st.
    then (read_count (p + stay_words st) (drop (stay_words st) ws)) (λ k.
    mapped (λ os. record { stay = st; offers = os }) (read_offers n (p + stay_words st + 1) k (drop (stay_words st + 1) ws))))

-- how many words a row takes, and a list of rows
abbrev pub row_words : Row → ℕ
row_words x = words_with x.stay (length x.offers)

unfoldable pub rows_words : List Row → ℕ
rows_words [] = 0
rows_words (x ∷ xs) = row_words x + rows_words xs

-- k rows among n
unfoldable pub read_rows : ℕ → ℕ → ℕ → List ℕ → Result (List Row) WordFault
read_rows n p zero ws = Ok []
read_rows n p (suc k) ws =
    then (read_row n p ws) (λ x. mapped (λ xs. x ∷ xs) (read_rows n (p + row_words x) k (drop (row_words x) ws)))

-- C and its rows, and nothing more
unfoldable pub read_whole : List ℕ → Result (List Row) WordFault
read_whole [] = Err (Length 0)
read_whole (w ∷ ws) =
    then (rows_in 0 w) (λ n. then (read_rows n 1 n ws) (λ xs. cond (rows_words xs == length ws) (Ok xs) (Err (Length (suc (rows_words xs))))))

-- a file is at most 16,384 words long, which is tested first
unfoldable pub read_chart : List ℕ → Result (List Row) WordFault
read_chart ws = cond (nat_lt longest (length ws)) (Err (Length longest)) (read_whole ws)

-- the place of the first row, from p on, with which the states, s before it, are over 4,096
unfoldable pub overflow : ℕ → ℕ → List Row → Option ℕ
overflow s p [] = None
overflow s p (x ∷ xs) = cond (nat_lt most_states (s + size x)) (Some p) (overflow (s + size x) (p + row_words x) xs)

-- what is left to test of the rows that were read: that they have at most 4,096 states
abbrev pub sized : List Row → Option ℕ → Result (List Row) ChartFault
sized xs None = Ok xs
sized xs (Some p) = Err (TooManyStates p)

abbrev pub tested : Result (List Row) WordFault → Result (List Row) ChartFault
tested (Ok xs) = sized xs (overflow 0 1 xs)
tested (Err f) = Err (Word f)

-- the chart that the words of a file are, or why they are none
unfoldable pub check_chart : List ℕ → Result (List Row) ChartFault
check_chart ws = tested (read_chart ws)
