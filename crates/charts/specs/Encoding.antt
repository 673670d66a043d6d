-- The words of a chart, and what a chart file is.
use Rattle.std.specs.Prelude.{◌≡◌, ℕ, ◌≤◌, true, List, [], ◌∷◌, ◌++◌, map, length}
use Rattle.words.specs.declared.word.RowHead.TheVariants.{Dwell, Endless as EndlessHead}
use Rattle.words.specs.Encoded.{count_word, arrow_word, row_word}
use Rattle.words.specs.Bytes.{longest}
use Rattle.charts.specs.declared.row.Stay.{Stay}
use Rattle.charts.specs.declared.row.Stay.TheVariants.{Finite, Endless}
use Rattle.charts.specs.declared.row.Offer.{Offer}
use Rattle.charts.specs.Rows.{Row, within}

abbrev pub offer_word : Offer → ℕ
offer_word o = arrow_word (record { label = o.label; target = o.row })

-- D and a timeout with the label τ, or E
abbrev pub stay_encoded : Stay → List ℕ
stay_encoded (Finite d t) = row_word (Dwell d) ∷ arrow_word (record { label = 0; target = t }) ∷ []
stay_encoded Endless = row_word EndlessHead ∷ []

-- then F, the number of offers, and the offers
abbrev pub row_encoded : Row → List ℕ
row_encoded x = stay_encoded x.stay ++ (count_word 15 (length x.offers) ∷ map offer_word x.offers)

unfoldable pub rows_encoded : List Row → List ℕ
rows_encoded [] = []
rows_encoded (x ∷ xs) = row_encoded x ++ rows_encoded xs

-- C, the number of rows, and the rows
abbrev pub encoded : List Row → List ℕ
encoded xs = count_word 12 (length xs) ∷ rows_encoded xs

-- the words ws are those of the chart xs, which is within the limits, as is their number
pub record Encodes (xs : List Row) (ws : List ℕ) : Type 0 where
  pub words : encoded xs ≡ ws
  pub limits : within xs ≡ true
  pub short : length ws ≤ longest

abbrev pub ChartFile : List ℕ → Type 0
ChartFile ws = (xs : List Row) × Encodes xs ws

-- no two charts have the same words
abbrev pub ReadOneWay : Type 0
ReadOneWay = (xs ys : List Row) (ws : List ℕ) → Encodes xs ws → Encodes ys ws → xs ≡ ys
