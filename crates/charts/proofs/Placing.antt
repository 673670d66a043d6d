-- A chart in its place, refused or filled.
use Rattle.std.proofs.Common.{◌≡◌, ℕ, List, IfOk, Ok, Err, sym, ap, ◌∙◌}
use Rattle.charts.specs.declared.fault.ChartFault.{ChartFault}
use Rattle.charts.specs.declared.tables.Tables.{Tables}
use Rattle.charts.specs.Rows.{total}
use Rattle.charts.specs.Encoding.{Encodes, ChartFile}
use Rattle.words.specs.Reading.{mapped}
use Rattle.charts.specs.Reading.{check_chart}
use Rattle.charts.specs.Tables.{table_rows, Held}
use Rattle.words.proofs.Results.{mapped_ok, mapped_err, never_ok}
use Rattle.charts.proofs.Accepted.{accepted_encodes, encodes_accepted}
use Rattle.charts.proofs.Holding.{Sound, held_rows, held_sound}

pub refused : (ws : List ℕ) (f : ChartFault) → Err f ≡ mapped total (check_chart ws) → (check_chart ws ≡ Err f) × (ChartFile ws → ⊥)
refused ws f e =
    let a = mapped_err total (check_chart ws) f e in
    (a, λ c. never_ok f c.0 (sym a ∙ encodes_accepted ws c.0 c.1))

pub record Filled (ws : List ℕ) (t : Tables) (n : ℕ) : Type 0 where
  pub read : check_chart ws ≡ Ok (table_rows t)
  pub encodes : Encodes (table_rows t) ws
  pub states : n ≡ total (table_rows t)
  pub sound : Sound t

pub filled : (ws : List ℕ) (t : Tables) (n : ℕ) → Ok n ≡ mapped total (check_chart ws) → IfOk (check_chart ws) (Held t) → Filled ws t n
filled ws t n e h =
    let a = mapped_ok total (check_chart ws) n (sym e) in
    let held : Held t a.0 = rw a.1.0 at h in
    let rows = held_rows t a.0 held in
    let read : check_chart ws ≡ Ok (table_rows t) = a.1.0 ∙ ap (λ v. Ok v) (sym rows) in
    record { read = read; encodes = accepted_encodes ws _ read; states = sym a.1.1 ∙ ap total (sym rows); sound = held_sound t a.0 held }
