-- What a transition source means, and the laws that belong to it.
use Rattle.std.specs.Prelude.{◌≡◌, ℕ, suc, ◌<◌, ◌≤◌, true, List, length, ◌≢◌, slice_index_or}
use Rattle.lts.specs.declared.source.Move.{Move}
use Rattle.lts.specs.Labels.{label}

-- the most states of a source, and the most moves of a state
abbrev pub most_states : ℕ
most_states = 4096

abbrev pub most_moves : ℕ
most_moves = 64

-- a count of states, numbered from 0, and the list of moves of each
pub record Meaning : Type 0 where
  pub count : ℕ
  pub moves : ℕ → List (Move ℕ)

-- what a list is read as past its end
abbrev pub no_move : Move ℕ
no_move = record { label = 0; target = 0 }

-- the label and the target of the k-th move of a list
abbrev pub label_at : List (Move ℕ) → ℕ → ℕ
label_at ms k = (slice_index_or ms k no_move).label

abbrev pub target_at : List (Move ℕ) → ℕ → ℕ
target_at ms k = (slice_index_or ms k no_move).target

-- what holds of the moves of each state, where there are n states
pub record Lawful (n : ℕ) (ms : List (Move ℕ)) : Type 0 where
  -- 1 to 64 moves
  pub some : 1 ≤ length ms
  pub few : length ms ≤ most_moves
  -- every label is a label, every target a state
  pub labelled : (k : ℕ) → k < length ms → label (label_at ms k) ≡ true
  pub inside : (k : ℕ) → k < length ms → target_at ms k < n
  -- a tick is the last move, so there is at most one
  pub tick_last : (k : ℕ) → k < length ms → label_at ms k ≡ 128 → suc k ≡ length ms
  -- with a τ there is no tick
  pub urgent : (j k : ℕ) → j < length ms → k < length ms → label_at ms j ≡ 0 → label_at ms k ≢ 128
  -- without a τ there is one
  pub waits : ((k : ℕ) → k < length ms → label_at ms k ≢ 0) → (k : ℕ) × (k < length ms) × (label_at ms k ≡ 128)

pub record Laws (m : Meaning) : Type 0 where
  -- 1 to 4,096 states
  pub some : 1 ≤ m.count
  pub most : m.count ≤ most_states
  pub each : (s : ℕ) → s < m.count → Lawful m.count (m.moves s)
