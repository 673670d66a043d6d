-- Inside a chart: its rows, its offers and the row of each state as three tables.
use Rattle.std.specs.Prelude.{◌≡◌, ℕ, suc, ◌+◌, List, [], ◌∷◌, ◌++◌, map, length, take, drop, replicate, vec_items}
use Rattle.charts.specs.declared.row.Offer.{Offer}
use Rattle.charts.specs.declared.tables.RowEntry.{RowEntry}
use Rattle.charts.specs.declared.tables.Tables.{Tables}
use Rattle.charts.specs.declared.reading.RowRead.{RowRead}
use Rattle.charts.specs.Rows.{Row, size}
use Rattle.charts.specs.Reader.{row_read}

-- the rows that the tables hold
abbrev pub entry_row : List Offer → RowEntry → Row
entry_row os e = record { stay = e.stay; offers = take e.offers (drop e.from os) }

abbrev pub table_rows : Tables → List Row
table_rows t = map (entry_row (vec_items t.offers)) (vec_items t.rows)

-- the entry of a row with so many offers, before which there are s states and f offers
abbrev pub entry_of : ℕ → ℕ → RowRead → RowEntry
entry_of s f x = record { stay = x.stay; first = s; from = f; offers = x.offers }

-- the entries of rows before which there are s states and f offers
unfoldable pub laid : ℕ → ℕ → List Row → List RowEntry
laid s f [] = []
laid s f (x ∷ xs) = entry_of s f (row_read x) ∷ laid (s + size x) (f + length x.offers) xs

unfoldable pub all_offers : List Row → List Offer
all_offers [] = []
all_offers (x ∷ xs) = x.offers ++ all_offers xs

-- the row of each state, where the first row has the number r
unfoldable pub owners : ℕ → List Row → List ℕ
owners r [] = []
owners r (x ∷ xs) = replicate (size x) r ++ owners (suc r) xs

-- the first state of each row and its number of offers, in the tables and by the rows
abbrev pub entry_firsts : Tables → List ℕ
entry_firsts t = map (λ e. e.first) (vec_items t.rows)

abbrev pub entry_counts : Tables → List ℕ
entry_counts t = map (λ e. e.offers) (vec_items t.rows)

unfoldable pub firsts : ℕ → List Row → List ℕ
firsts s [] = []
firsts s (x ∷ xs) = s ∷ firsts (s + size x) xs

abbrev pub offer_counts : List Row → List ℕ
offer_counts xs = map (λ x. length x.offers) xs

-- the tables are those of their rows
pub record Held (t : Tables) (xs : List Row) : Type 0 where
  pub entries : vec_items t.rows ≡ laid 0 0 xs
  pub offers : vec_items t.offers ≡ all_offers xs
  pub owners : vec_items t.owners ≡ owners 0 xs

-- the row x is added to those that the tables t hold
abbrev pub Adds : Tables → Tables → Row → Type 0
Adds t u x = (xs : List Row) → Held t xs → Held u (xs ++ (x ∷ []))
