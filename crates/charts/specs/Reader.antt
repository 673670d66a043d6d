-- Inside the reader: what one of its steps reads, and where it stands then.
use Rattle.std.specs.Prelude.{◌≡◌, ℕ, suc, ◌+◌, ◌≤◌, cond, List, length, drop, IfOk, Ok, Err, Result, ◌==◌, nat_lt}
use Rattle.lts.specs.Meaning.{most_states}
use Rattle.words.specs.declared.fault.WordFault.{WordFault}
use Rattle.words.specs.declared.fault.WordFault.TheVariants.{Length}
use Rattle.words.specs.Reading.{then, mapped, one_word}
use Rattle.charts.specs.declared.fault.ChartFault.{ChartFault}
use Rattle.charts.specs.declared.fault.ChartFault.TheVariants.{TooManyStates}
use Rattle.charts.specs.declared.row.Offer.{Offer}
use Rattle.charts.specs.declared.reading.RowRead.{RowRead}
use Rattle.charts.specs.declared.reader.Reader.{Reader}
use Rattle.words.specs.Words.{most_offers}
use Rattle.charts.specs.Rows.{Row, last_second, stay_words, words_with}
use Rattle.charts.specs.Reading.{timeout_in, offer_in, read_stay, read_count, read_row, read_rows, rows_words, read_chart}

-- the reader stands k words further
pub record Behind (r s : Reader) (k : ℕ) : Type 0 where
  pub rows : s.rows ≡ r.rows
  pub place : s.cursor.place ≡ r.cursor.place + k
  pub inside : k ≤ length r.cursor.rest.now
  pub rest : s.cursor.rest.now ≡ drop k r.cursor.rest.now

-- what P reads at r, and behind its words the reader s
pub record Reads {A : Type 0} (P : ℕ → ℕ → List ℕ → Result A WordFault) (used : A → ℕ) (r s : Reader) (result : Result A WordFault) : Type 0 where
  pub read : result ≡ P r.rows r.cursor.place r.cursor.rest.now
  pub behind : IfOk result (λ a. Behind r s (used a))

-- one word
abbrev pub one : {A : Type 0} → A → ℕ
one a = 1

abbrev pub read_target : ℕ → ℕ → List ℕ → Result ℕ WordFault
read_target n = one_word (timeout_in n)

abbrev pub read_offer : ℕ → ℕ → List ℕ → Result Offer WordFault
read_offer n = one_word (offer_in n)

-- a row by its plain numbers
abbrev pub row_read : Row → RowRead
row_read x = record { stay = x.stay; offers = length x.offers }

abbrev pub read_words : RowRead → ℕ
read_words x = words_with x.stay x.offers

-- what is known of a row that was read from the front of ws
pub record RowBounds (ws : List ℕ) (x : RowRead) : Type 0 where
  pub inside : read_words x ≤ length ws
  pub few : x.offers ≤ most_offers
  pub short : last_second x.stay ≤ 4095

-- a row as far as its offers
abbrev pub head_words : RowRead → ℕ
head_words x = stay_words x.stay + 1

abbrev pub read_head_of : ℕ → ℕ → List ℕ → Result RowRead WordFault
read_head_of n p ws = then (read_stay n p ws) (λ st. mapped (λ k. record { stay = st; offers = k }) (read_count (p + stay_words st) (drop (stay_words st) ws)))

-- a whole row
abbrev pub read_plain : ℕ → ℕ → List ℕ → Result RowRead WordFault
read_plain n p ws = mapped row_read (read_row n p ws)

-- what is read as a row at r
abbrev pub next_row : Reader → Result Row WordFault
next_row r = read_row r.rows r.cursor.place r.cursor.rest.now

-- nothing is left over behind the rows
abbrev pub ended : List ℕ → List Row → Result (List Row) WordFault
ended ws xs = cond (rows_words xs == length ws) (Ok xs) (Err (Length (suc (rows_words xs))))

-- at the first row of the words of a file
pub record Begun (ws : List ℕ) (r : Reader) : Type 0 where
  pub place : r.cursor.place ≡ 1
  pub inside : length ws ≡ suc (length r.cursor.rest.now)
  pub read : read_chart ws ≡ then (read_rows r.rows 1 r.rows r.cursor.rest.now) (ended r.cursor.rest.now)

-- the states of rows, or the place of the row with which they are too many
abbrev pub counted : ℕ → ℕ → Result ℕ ChartFault
counted n p = cond (nat_lt most_states n) (Err (TooManyStates p)) (Ok n)
