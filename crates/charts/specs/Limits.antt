-- The layout and the limits of a chart, taken apart: lemmas, which stand here since the law of the source cites them.
use Rattle.std.specs.Prelude.{◌≡◌, ◌≤◌, true, List, length}
use Rattle.std.proofs.lemmas.Bool.{and_from, and_parts, leb-true, le-leb}
use Rattle.charts.specs.Rows.{Row, total, rows_fit, in_layout, within}

-- the tests that make up the layout and the limits
pub layout : (xs : List Row) → 1 ≤ length xs → length xs ≤ 256 → rows_fit (length xs) xs ≡ true → in_layout xs ≡ true
unfolding in_layout
layout xs some few h = and_from _ _ (and_from _ _ (le-leb 1 (length xs) some) (le-leb (length xs) 256 few)) h

pub record Layout (xs : List Row) : Type 0 where
  pub some : 1 ≤ length xs
  pub few : length xs ≤ 256
  pub fits : rows_fit (length xs) xs ≡ true

pub layout_of : (xs : List Row) → in_layout xs ≡ true → Layout xs
unfolding in_layout
layout_of xs h =
    let a = and_parts _ _ h in
    let b = and_parts _ _ a.0 in
    record { some = leb-true _ _ b.0; few = leb-true _ _ b.1; fits = a.1 }

pub limits : (xs : List Row) → 1 ≤ length xs → length xs ≤ 256 → rows_fit (length xs) xs ≡ true → total xs ≤ 4096 → within xs ≡ true
unfolding within
limits xs some few h small = and_from _ _ (layout xs some few h) (le-leb (total xs) 4096 small)

pub record Limits (xs : List Row) : Type 0 where
  pub some : 1 ≤ length xs
  pub few : length xs ≤ 256
  pub fits : rows_fit (length xs) xs ≡ true
  pub small : total xs ≤ 4096

pub limits_of : (xs : List Row) → within xs ≡ true → Limits xs
unfolding within
limits_of xs h =
    let a = and_parts _ _ h in
    let l = layout_of xs a.0 in
    record { some = l.some; few = l.few; fits = l.fits; small = leb-true _ _ a.1 }
