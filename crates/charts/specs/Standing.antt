-- Inside a chart: the row in which a state stands, and the move that closes its list.
use Rattle.std.specs.Prelude.{ℕ}
use Rattle.lts.specs.declared.source.Move.{Move}
use Rattle.charts.specs.declared.chart.Chart.{Chart}
use Rattle.charts.specs.declared.source.Closing.{Closing}
use Rattle.charts.specs.declared.source.Closing.TheVariants.{Tick, Timeout}
use Rattle.charts.specs.Rows.{Row, row_at, row_of}
use Rattle.charts.specs.Charts.{rows_of}

-- the row in which the state s stands
abbrev pub state_row : Chart → ℕ → Row
state_row c s = row_at (rows_of c) (row_of (rows_of c) s)

-- the move that closes the list
abbrev pub closed_by : Closing → Move ℕ
closed_by (Tick t) = record { label = 128; target = t }
closed_by (Timeout t) = record { label = 0; target = t }
