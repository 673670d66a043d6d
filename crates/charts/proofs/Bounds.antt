-- What a row that was read is known to be within.
use Rattle.std.proofs.Common.{◌≡◌, ℕ, ◌≤◌, true, List, length, drop, Ok, sym, ap, ◌∙◌, subst, arith}
use Rattle.std.proofs.lemmas.Bool.{and_parts, leb-true}
use Rattle.std.proofs.lemmas.List.{length-append}
use Rattle.words.proofs.Results.{mapped_ok}
use Rattle.charts.specs.declared.row.Stay.{Stay}
use Rattle.charts.specs.declared.row.Stay.TheVariants.{Finite, Endless}
use Rattle.charts.specs.declared.reading.RowRead.{RowRead}
use Rattle.charts.specs.Rows.{Row, last_second, stay_fits}
use Rattle.words.specs.Reading.{mapped}
use Rattle.charts.specs.Reading.{read_row}
use Rattle.charts.specs.Encoding.{row_encoded}
use Rattle.charts.specs.Reader.{RowBounds, row_read}
use Rattle.charts.proofs.Dwells.{seconds_most}
use Rattle.charts.proofs.Exact.{RowIsRead, row_length, row_exactly}

seconds_bound : (n : ℕ) (st : Stay) → stay_fits n st ≡ true → last_second st ≤ 4095
seconds_bound n (Finite d t) h = seconds_most d (leb-true _ _ (and_parts _ _ h).0)
seconds_bound n Endless h = omega arith

bounds_at : (n : ℕ) (ws : List ℕ) (x : Row) → RowIsRead n ws x → RowBounds ws (row_read x)
bounds_at n ws x r =
    let fits = and_parts _ _ r.fits in
    let few = and_parts _ _ fits.1 in
    let len = ap length r.words ∙ length-append (row_encoded x) (drop (length (row_encoded x)) ws) in
    record { inside = omega (arith, row_length x, len); few = leb-true _ _ few.0; short = seconds_bound n x.stay fits.0 }

pub row_bounds : (n p : ℕ) (ws : List ℕ) (x : RowRead) → Ok x ≡ mapped row_read (read_row n p ws) → RowBounds ws x
row_bounds n p ws x e =
    let a = mapped_ok row_read (read_row n p ws) x (sym e) in
    subst (λ (v : RowRead). RowBounds ws v) a.1.1 (bounds_at n ws a.0 (row_exactly n p ws a.0 a.1.0))
