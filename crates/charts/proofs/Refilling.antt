-- What was checked is there to be filled in.
use Rattle.std.proofs.Common.{◌≡◌, ℕ, ◌+◌, ◌<◌, ◌≤◌, true, eqb, List, [], ◌∷◌, ◌++◌, length, is_ok, IfOk, Ok, Err, Result, vec_len, sym, refl, ap, ◌∙◌, subst, arith}
use Rattle.std.proofs.lemmas.Bool.{false≢true}
use Rattle.std.specs.List.{sum_by}
use Rattle.std.proofs.lemmas.List.Recursion.{is_sum_by}
use Rattle.std.proofs.lemmas.List.Sums.{sum_by-append, sum_by-cons}
use Rattle.words.specs.declared.fault.WordFault.{WordFault}
use Rattle.words.specs.declared.fault.WordFault.TheVariants.{Length}
use Rattle.words.proofs.Results.{then_ok, passed}
use Rattle.charts.specs.declared.reader.Reader.{Reader}
use Rattle.charts.specs.declared.tables.Tables.{Tables}
use Rattle.charts.specs.Rows.{Row, size, total}
use Rattle.charts.specs.Reading.{read_rows, row_words, rows_words, read_chart, tested, check_chart}
use Rattle.charts.specs.Reader.{Behind, Begun, ended, next_row}
use Rattle.charts.specs.Tables.{Held, Adds}
use Rattle.charts.proofs.Accepted.{tested_ok, fits_if_none}
use Rattle.charts.proofs.Turns.{Turned, rows_repeat, turned_more, turn_reads, all_turned}
use Rattle.charts.proofs.Holding.{rows_held, states_held}

pub ok_value : {X E : Type 0} (r : Result X E) → is_ok r ≡ true → (x : X) × (r ≡ Ok x)
ok_value (Ok x) h = (x, refl)
ok_value (Err e) h = absurd (false≢true h)

pub never_fails : {X E : Type 0} (r : Result X E) (e : E) → is_ok r ≡ true → r ≡ Err e → ⊥
never_fails r e ok q = false≢true (ap is_ok (sym q) ∙ ok)

pub never_refused : (ws : List ℕ) (f : WordFault) → is_ok (check_chart ws) ≡ true → read_chart ws ≡ Err f → ⊥
unfolding check_chart
never_refused ws f ok e = never_fails (check_chart ws) _ ok (ap tested e)

-- the rows that were read from r on
pub record Known (ws : List ℕ) (r : Reader) : Type 0 where
  pub rows : List Row
  pub checked : check_chart ws ≡ Ok rows
  pub read : read_rows r.rows r.cursor.place r.rows r.cursor.rest.now ≡ Ok rows
  pub small : total rows ≤ 4096

pub known : (ws : List ℕ) (r : Reader) → is_ok (check_chart ws) ≡ true → Begun ws r → Known ws r
unfolding check_chart
known ws r ok b =
    let a = ok_value (check_chart ws) ok in
    let t = tested_ok (read_chart ws) a.0 a.1 in
    let d = then_ok (read_rows r.rows 1 r.rows r.cursor.rest.now) (ended r.cursor.rest.now) a.0 (sym b.read ∙ t.0) in
    let p = passed (eqb (rows_words d.0) (length r.cursor.rest.now)) d.0 a.0 (Length _) d.1.1 in
    let l = fits_if_none 0 1 a.0 (omega arith) t.1 in
    record {
      rows = a.0;
      checked = a.1;
      read = ap (λ j. read_rows r.rows j r.rows r.cursor.rest.now) b.place ∙ d.1.0 ∙ ap (λ v. Ok v) p.1;
      small = omega arith;
    }

total_by : (xs : List Row) → total xs ≡ sum_by size xs
unfolding total
total_by xs = is_sum_by total size refl (λ _ _. refl) xs

total_with : (xs ys : List Row) (x : Row) → total (xs ++ (x ∷ ys)) ≡ total xs + (size x + total ys)
total_with xs ys x =
    let a = total_by xs in let b = total_by ys in
    total_by (xs ++ (x ∷ ys)) ∙ sum_by-append size xs (x ∷ ys) ∙ (let c = sum_by-cons size x ys in omega arith)

-- the next row, which the tables have room for
module _ (ws : List ℕ) (r s : Reader) (k : Known ws r) (i : ℕ) (xs : List Row) (h : Turned row_words read_rows r s r.rows i xs) (t : Tables) (here : Held t xs) where
  pub record Next : Type 0 where
    pub row : Row
    pub is : next_row s ≡ Ok row
    pub rows : vec_len t.rows < 256
    pub states : vec_len t.owners + size row ≤ 4096

  pub next : i < r.rows → Next
  next l =
      let a = turn_reads rows_repeat r r.rows s i xs h l k.rows k.read in
      let n = rows_held t xs here in
      let m = states_held t xs here in
      let e = ap total a.2.1 ∙ total_with xs a.1 a.0 in
      let c = h.count in
      let few = r.few in
      let small = k.small in
      record { row = a.0; is = a.2.0; rows = omega arith; states = omega arith }

  pub record Added (u : Tables) (v : Reader) : Type 0 where
    pub rows : List Row
    pub turned : Turned row_words read_rows r v r.rows (i + 1) rows
    pub held : Held u rows

  pub added : i < r.rows → (u : Tables) (v : Reader) → IfOk (next_row s) (λ x. Adds t u x × Behind s v (row_words x)) → Added u v
  added l u v e =
      let n = next l in
      let b : Adds t u n.row × Behind s v (row_words n.row) = rw n.is at e in
      record {
        rows = xs ++ (n.row ∷ []);
        turned = turned_more rows_repeat r r.rows s i xs h l v n.row (record { read = sym n.is; behind = b.1 });
        held = b.0 xs here;
      }

  pub all_held : i ≡ r.rows → IfOk (check_chart ws) (Held t)
  all_held e =
      let a : xs ≡ k.rows = (let p = sym (all_turned rows_repeat r r.rows s i xs h e) ∙ k.read in cc) in
      rw k.checked (subst (λ (v : List Row). Held t v) a here)
