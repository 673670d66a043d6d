use Rattle.std.proofs.Common.{◌≡◌, true, List, [], sym, refl, subst, append-nil, ap, ◌∙◌}
use Rattle.charts.specs.Rows.{Row, within}
use Rattle.charts.specs.Charts.{resting}
use Rattle.charts.specs.Tables.{Held}
use Rattle.charts.proofs.Holding.{held_none, held_more, held_sound, held_rows, resting_within}
use Rattle.charts.proofs.chart.Chart.new.Goals as goal

pub invariant_of-result : goal.invariant_of-result
invariant_of-result c =
    let t = c.in_ok-tables.tables in
    let u = c.add_row.new.self in
    let none = c.in_ok-tables.ensures in
    let e = c.add_row.ensures in
    let h : Held u resting = held_more t [] (held_none t none.0 none.1 none.2) u _ _ refl e.entries (ap (λ v. v.items) e.offers ∙ sym (append-nil _)) e.owners in
    let s = held_sound u resting h in
    record { firsts = s.firsts; counts = s.counts; owned = s.owned; limits = subst (λ (v : List Row). within v ≡ true) (sym (held_rows u resting h)) resting_within }
