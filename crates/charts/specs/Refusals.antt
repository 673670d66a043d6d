-- Why words are refused, and the place, in terms of charts.
use Rattle.std.specs.Prelude.{◌≡◌, ℕ, suc, ◌<◌, ◌≤◌, true, false, ◌⊎◌, List, [], ◌∷◌, ◌++◌, length, take, slice_index}
use Rattle.lts.specs.Meaning.{most_states}
use Rattle.words.specs.declared.fault.WordFault.TheVariants.{Length, Form, Range}
use Rattle.words.specs.Words.{kind, unused_bit}
use Rattle.words.specs.Bytes.{longest}
use Rattle.charts.specs.declared.fault.ChartFault.{ChartFault}
use Rattle.charts.specs.declared.fault.ChartFault.TheVariants.{Word, TooManyStates}
use Rattle.charts.specs.Rows.{Row, total, in_layout}
use Rattle.charts.specs.Encoding.{encoded}

-- the words of some chart begin with ws, whatever the number of its states
pub record BeginsChart (ws : List ℕ) : Type 0 where
  pub rows : List Row
  pub layout : in_layout rows ≡ true
  pub rest : List ℕ
  pub words : encoded rows ≡ ws ++ rest

-- the words of some chart are ws
pub record IsChart (ws : List ℕ) : Type 0 where
  pub rows : List Row
  pub layout : in_layout rows ≡ true
  pub words : encoded rows ≡ ws

-- the words before p could still become a chart's, and with the word at p they no more can
pub record FirstFault (ws : List ℕ) (p : ℕ) : Type 0 where
  pub inside : p ≤ length ws
  pub before : BeginsChart (take p ws)
  pub there : p < length ws → BeginsChart (take (suc p) ws) → ⊥

-- the words are a chart's, and with its row r, which begins at p, its states are more than 4,096
pub record PassesLimit (ws : List ℕ) (p : ℕ) : Type 0 where
  pub rows : List Row
  pub layout : in_layout rows ≡ true
  pub words : encoded rows ≡ ws
  pub r : ℕ
  pub inside : r < length rows
  pub before : total (take r rows) ≤ most_states
  pub there : most_states < total (take (suc r) rows)
  pub place : p ≡ length (encoded (take r rows))

-- a word at fault, behind words that are not a whole chart's yet
pub record WordAtFault (ws : List ℕ) (p : ℕ) : Type 0 where
  pub short : length ws ≤ longest
  pub first : FirstFault ws p
  pub inside : p < length ws
  pub due : IsChart (take p ws) → ⊥

-- a word of the kind of the one at p could stand there
pub record KindIsDue (ws : List ℕ) (p : ℕ) : Type 0 where
  pub word : ℕ
  pub kinds : kind word ≡ kind (slice_index ws p)
  pub begins : BeginsChart (take p ws ++ (word ∷ []))

-- the words end early, or are left over behind a chart's
pub record LengthFault (ws : List ℕ) (p : ℕ) : Type 0 where
  pub short : length ws ≤ longest
  pub first : FirstFault ws p
  pub which : ((p ≡ length ws) × (IsChart ws → ⊥)) ⊎ ((p < length ws) × IsChart (take p ws))

-- 1: the words are too many, which is tested first, end early or are left over; 2: another kind is due, or an unused
-- bit is set; 3: neither, so a field is out of range; 7: there are too many states
abbrev pub RefusedFor : List ℕ → ChartFault → Type 0
RefusedFor ws (Word (Length p)) = ((longest < length ws) × (p ≡ longest)) ⊎ LengthFault ws p
RefusedFor ws (Word (Form p)) = WordAtFault ws p × ((KindIsDue ws p → ⊥) ⊎ (unused_bit (slice_index ws p) ≡ true))
RefusedFor ws (Word (Range p)) = WordAtFault ws p × KindIsDue ws p × (unused_bit (slice_index ws p) ≡ false)
RefusedFor ws (TooManyStates p) = (length ws ≤ longest) × PassesLimit ws p
