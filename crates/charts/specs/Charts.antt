-- The chart that a place holds, and what it means.
use Rattle.std.specs.Prelude.{List, [], ◌∷◌}
use Rattle.lts.specs.Meaning.{Meaning}
use Rattle.charts.specs.declared.row.Stay.TheVariants.{Endless}
use Rattle.charts.specs.declared.chart.Chart.{Chart}
use Rattle.charts.specs.Rows.{Row}
use Rattle.charts.specs.Meaning.{chart_meaning}
use Rattle.charts.specs.Tables.{table_rows}

abbrev pub rows_of : Chart → List Row
rows_of c = table_rows c.tables

abbrev pub meaning_of : Chart → Meaning
meaning_of c = chart_meaning (rows_of c)

-- what a place holds before it is filled: one endless row without offers
abbrev pub resting : List Row
resting = record { stay = Endless; offers = [] } ∷ []
