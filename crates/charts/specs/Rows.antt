-- What a chart is: a list of rows, in each of which the controller stays for a while.
use Rattle.std.specs.Prelude.{ℕ, zero, suc, ◌+◌, ◌-◌, ◌/◌, Bool, true, cond, ◌&&◌, List, [], ◌∷◌, length, nat_le, nat_lt, slice_index_or}
use Rattle.lts.specs.Labels.{visible}
use Rattle.lts.specs.Meaning.{most_states}
use Rattle.words.specs.Words.{most_tenths, most_rows, most_offers}
use Rattle.charts.specs.declared.row.Stay.{Stay}
use Rattle.charts.specs.declared.row.Stay.TheVariants.{Finite, Endless}
use Rattle.charts.specs.declared.row.Offer.{Offer}

pub record Row : Type 0 where
  pub stay : Stay
  pub offers : List Offer

-- the whole seconds of a dwell in tenths of a second: the rest of a second is dropped
unfoldable pub seconds : ℕ → ℕ
seconds tenths = tenths / 10

-- how many ticks lead from a row's first state to its last
abbrev pub last_second : Stay → ℕ
last_second (Finite d t) = seconds d
last_second Endless = 0

-- how many words say it: D and its timeout, or E
abbrev pub stay_words : Stay → ℕ
stay_words (Finite d t) = 2
stay_words Endless = 1

-- how many words a row takes that has so many offers: F comes between
abbrev pub words_with : Stay → ℕ → ℕ
words_with st k = stay_words st + 1 + k

-- how many states a row has, and a list of rows
abbrev pub stay_states : Stay → ℕ
stay_states st = last_second st + 1

abbrev pub size : Row → ℕ
size x = stay_states x.stay

unfoldable pub total : List Row → ℕ
total [] = 0
total (x ∷ xs) = size x + total xs

-- the row with the number r, and its first state: the rows before it have the states below
abbrev pub row_at : List Row → ℕ → Row
row_at xs r = slice_index_or xs r (record { stay = Endless; offers = [] })

unfoldable pub first : List Row → ℕ → ℕ
first [] r = 0
first (x ∷ xs) zero = 0
first (x ∷ xs) (suc r) = size x + first xs r

-- the row in which the state s stands, and how many seconds into it
unfoldable pub row_of : List Row → ℕ → ℕ
row_of [] s = 0
row_of (x ∷ xs) s = cond (nat_lt s (size x)) 0 (suc (row_of xs (s - size x)))

abbrev pub second_of : List Row → ℕ → ℕ
second_of xs s = s - first xs (row_of xs s)

-- among n rows, the fields of an offer and of a stay are in range
abbrev pub offer_fits : ℕ → Offer → Bool
offer_fits n o = visible o.label && nat_lt o.row n

abbrev pub stay_fits : ℕ → Stay → Bool
stay_fits n (Finite d t) = nat_le d most_tenths && nat_lt t n
stay_fits n Endless = true

unfoldable pub offers_fit : ℕ → List Offer → Bool
offers_fit n [] = true
offers_fit n (o ∷ os) = offer_fits n o && offers_fit n os

abbrev pub row_fits : ℕ → Row → Bool
row_fits n x = stay_fits n x.stay && (nat_le (length x.offers) most_offers && offers_fit n x.offers)

unfoldable pub rows_fit : ℕ → List Row → Bool
rows_fit n [] = true
rows_fit n (x ∷ xs) = row_fits n x && rows_fit n xs

-- a chart's layout: 1 to 256 rows, each in range
unfoldable pub in_layout : List Row → Bool
in_layout xs = (nat_le 1 (length xs) && nat_le (length xs) most_rows) && rows_fit (length xs) xs

-- and within the limits: at most 4,096 states
unfoldable pub within : List Row → Bool
within xs = in_layout xs && nat_le (total xs) most_states
