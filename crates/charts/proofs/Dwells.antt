-- The law of a dwell's seconds, which is all that other proofs know of them.
use Rattle.std.proofs.Common.{ℕ, ◌≤◌, arith}
use Rattle.words.specs.Words.{most_tenths}
use Rattle.charts.specs.Rows.{seconds}

-- the largest dwell is at most 4,095 seconds, so that no row has more states than a source may have
pub seconds_most : (d : ℕ) → d ≤ most_tenths → seconds d ≤ 4095
unfolding seconds
seconds_most d h = omega arith
