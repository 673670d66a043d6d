-- The check of a chart's words, by what it comes to.
use Rattle.std.proofs.Common.{◌≡◌, ℕ, suc, ◌+◌, ◌<◌, ◌≤◌, Bool, true, false, cond, eqb, ltb, List, [], ◌∷◌, ◌++◌, length, Some, None, IfOk, Ok, Err, Option, Result, sym, refl, ap, ◌∙◌, add-zero, add_assoc, arith}
use Rattle.std.specs.List.{sum_by}
use Rattle.std.proofs.lemmas.Bool.{cond-true, cond-false, lt-ltb, le-ltb, eq-eqb, ne_eqb}
use Rattle.std.proofs.lemmas.List.{length-drop}
use Rattle.std.proofs.lemmas.List.Recursion.{is_sum_by}
use Rattle.words.specs.declared.fault.WordFault.{WordFault}
use Rattle.words.specs.declared.fault.WordFault.TheVariants.{Length}
use Rattle.words.specs.Words.{rows_in}
use Rattle.words.specs.Reading.{then, mapped}
use Rattle.charts.specs.declared.fault.ChartFault.{ChartFault}
use Rattle.charts.specs.declared.fault.ChartFault.TheVariants.{Word, TooManyStates}
use Rattle.charts.specs.declared.row.Stay.{Stay}
use Rattle.charts.specs.declared.reader.Reader.{Reader}
use Rattle.charts.specs.Rows.{Row, size, stay_states, total}
use Rattle.charts.specs.Reading.{read_rows, row_words, rows_words, read_whole, read_chart, overflow, sized, tested, check_chart}
use Rattle.charts.specs.Reader.{Begun, ended, counted}
use Rattle.charts.proofs.Accepted.{fits_if_none}
use Rattle.charts.proofs.Turns.{Turned, rows_repeat, all_turned}

-- the words of a file up to the first row

pub too_long : (ws : List ℕ) → 16384 < length ws → read_chart ws ≡ Err (Length 16384)
unfolding read_chart
too_long ws h = cond-true (ltb 16384 (length ws)) (Err (Length 16384)) (read_whole ws) (lt-ltb 16384 (length ws) h)

short : (ws : List ℕ) → length ws ≤ 16384 → read_chart ws ≡ read_whole ws
unfolding read_chart
short ws h = cond-false (ltb 16384 (length ws)) (Err (Length 16384)) (read_whole ws) (le-ltb 16384 (length ws) h)

pub no_words : (ws : List ℕ) → ws ≡ [] → read_chart ws ≡ Err (Length 0)
unfolding read_whole
no_words ws e = ap read_chart e ∙ short [] (omega arith)

module _ (ws rest : List ℕ) (p w : ℕ) (l : length ws ≤ 16384) (e : ws ≡ w ∷ rest) (z : p ≡ 0) where
  from_head : read_chart ws ≡ then (rows_in p w) (λ n. then (read_rows n 1 n rest) (ended rest))
  unfolding read_whole
  from_head = short ws l ∙ ap read_whole e ∙ ap (λ q. then (rows_in q w) (λ n. then (read_rows n 1 n rest) (ended rest))) (sym z)

  pub bad_head : (f : WordFault) → Err f ≡ rows_in p w → read_chart ws ≡ Err f
  bad_head f q = from_head ∙ ap (λ r. then r (λ n. then (read_rows n 1 n rest) (ended rest))) (sym q)

  pub good_head : (n : ℕ) → Ok n ≡ rows_in p w → read_chart ws ≡ then (read_rows n 1 n rest) (ended rest)
  good_head n q = from_head ∙ ap (λ r. then r (λ n. then (read_rows n 1 n rest) (ended rest))) (sym q)

-- the states of rows before which there are s, up to the first row with which they are too many

abbrev limited : Option ℕ → ℕ → Result ℕ ChartFault
limited None n = Ok n
limited (Some p) n = Err (TooManyStates p)

by_size : (xs : List Row) (o : Option ℕ) → limited o (total xs) ≡ mapped total (sized xs o)
by_size xs None = refl
by_size xs (Some p) = refl

one_before : (b : Bool) (p : ℕ) (o o' : Option ℕ) (t t' z q : ℕ)
    → limited o t ≡ then (limited o' t') (λ n. counted (n + z) q) → limited (cond b (Some p) o) t ≡ then (limited (cond b (Some p) o') t') (λ n. counted (n + z) q)
one_before true p o o' t t' z q e = refl
one_before false p o o' t t' z q e = e

limited_more : (s p : ℕ) (xs : List Row) (x : Row)
    → limited (overflow s p (xs ++ (x ∷ []))) (s + total (xs ++ (x ∷ []))) ≡ then (limited (overflow s p xs) (s + total xs)) (λ n. counted (n + size x) (p + rows_words xs))
unfolding overflow total rows_words
limited_more s p [] x = by (ltb 4096 (s + size x)) refl
  where
    each : (b : Bool) → limited (cond b (Some p) None) (s + size x) ≡ cond b (Err (TooManyStates p)) (Ok (s + size x))
    each true = refl
    each false = refl

    by : (b : Bool) → b ≡ ltb 4096 (s + size x) → limited (cond b (Some p) None) (s + (size x + 0)) ≡ cond (ltb 4096 (s + 0 + size x)) (Err (TooManyStates (p + 0))) (Ok (s + 0 + size x))
    by b e =
        ap (λ j. limited (cond b (Some p) None) (s + j)) (add-zero (size x)) ∙ each b
        ∙ ap (λ c. cond c (Err (TooManyStates p)) (Ok (s + size x))) e
        ∙ ap (λ j. cond (ltb 4096 (j + size x)) (Err (TooManyStates p)) (Ok (j + size x))) (sym (add-zero s))
        ∙ ap (λ j. cond (ltb 4096 (s + 0 + size x)) (Err (TooManyStates j)) (Ok (s + 0 + size x))) (sym (add-zero p))
limited_more s p (y ∷ ys) x =
    one_before (ltb 4096 (s + size y)) p (overflow (s + size y) (p + row_words y) (ys ++ (x ∷ []))) (overflow (s + size y) (p + row_words y) ys) _ _ _ _
    (ap (limited (overflow (s + size y) (p + row_words y) (ys ++ (x ∷ [])))) (sym (add_assoc s (size y) (total (ys ++ (x ∷ [])))))
    ∙ limited_more (s + size y) (p + row_words y) ys x
    ∙ ap (λ j. then (limited (overflow (s + size y) (p + row_words y) ys) j) (λ n. counted (n + size x) (p + row_words y + rows_words ys))) (add_assoc s (size y) (total ys))
    ∙ ap (λ j. then (limited (overflow (s + size y) (p + row_words y) ys) (s + (size y + total ys))) (λ n. counted (n + size x) j)) (add_assoc p (row_words y) (rows_words ys)))

-- the states of the rows of a file, or the place of the row with which they are too many
abbrev pub Summed : List Row → Result ℕ ChartFault
Summed xs = limited (overflow 0 1 xs) (0 + total xs)

pub none_summed : Ok 0 ≡ Summed []
unfolding overflow total
none_summed = refl

words_by : (xs : List Row) → rows_words xs ≡ sum_by row_words xs
unfolding rows_words
words_by xs = is_sum_by rows_words row_words refl (λ _ _. refl) xs

module _ (r s : Reader) (i : ℕ) (xs : List Row) (h : Turned row_words read_rows r s r.rows i xs) (first : r.cursor.place ≡ 1) where
  place_is : s.cursor.place ≡ 1 + rows_words xs
  place_is = let b = h.behind.place in let w = words_by xs in omega arith

  -- a row more, as the code has it
  pub summed_more : (x : Row) (st : Stay) (p : ℕ) (z y : Result ℕ ChartFault) → st ≡ x.stay → p ≡ s.cursor.place → z ≡ Summed xs → y ≡ then z (λ n. counted (n + stay_states st) p) → y ≡ Summed (xs ++ (x ∷ []))
  summed_more x st p z y stay place sums e =
      e ∙ ap (λ v. then v (λ n. counted (n + stay_states st) p)) sums ∙ ap (λ (v : Stay). then (Summed xs) (λ n. counted (n + stay_states v) p)) stay
      ∙ ap (λ q. then (Summed xs) (λ n. counted (n + size x) q)) (place ∙ place_is) ∙ sym (limited_more 0 1 xs x)

pub few_states : (xs : List Row) → IfOk (Summed xs) (λ n. n ≤ 4096)
few_states xs = by (overflow 0 1 xs) refl
  where
    by : (o : Option ℕ) → overflow 0 1 xs ≡ o → IfOk (limited o (0 + total xs)) (λ n. n ≤ 4096)
    by None q = let l = fits_if_none 0 1 xs (omega arith) q in omega arith
    by (Some p) q = tt

-- what is known at the end

abbrev Checked : List ℕ → Result ℕ ChartFault
Checked ws = mapped total (check_chart ws)

pub refused : (ws : List ℕ) (f : WordFault) → read_chart ws ≡ Err f → Err (Word f) ≡ Checked ws
unfolding check_chart
refused ws f e = ap (λ z. mapped total (tested z)) (sym e)

module _ (ws : List ℕ) (r : Reader) (b : Begun ws r) where
  pub refused_behind : (f : WordFault) → read_rows r.rows r.cursor.place r.rows r.cursor.rest.now ≡ Err f → Err (Word f) ≡ Checked ws
  refused_behind f e =
      refused ws f (b.read ∙ ap (λ z. then z (ended r.cursor.rest.now)) (ap (λ p. read_rows r.rows p r.rows r.cursor.rest.now) (sym b.place) ∙ e))

  module _ (s : Reader) (i : ℕ) (xs : List Row) (h : Turned row_words read_rows r s r.rows i xs) (e : i ≡ r.rows) where
    all : read_rows r.rows 1 r.rows r.cursor.rest.now ≡ Ok xs
    all = ap (λ p. read_rows r.rows p r.rows r.cursor.rest.now) (sym b.place) ∙ all_turned rows_repeat r r.rows s i xs h e

    at_end : read_chart ws ≡ ended r.cursor.rest.now xs
    at_end = b.read ∙ ap (λ z. then z (ended r.cursor.rest.now)) all

    left : length s.cursor.rest.now + rows_words xs ≡ length r.cursor.rest.now
    left = let l = ap length h.behind.rest ∙ length-drop (sum_by row_words xs) r.cursor.rest.now in let i = h.behind.inside in let w = words_by xs in omega arith

    pub left_over : 0 < length s.cursor.rest.now → Err (Word (Length s.cursor.place)) ≡ Checked ws
    left_over l =
        let ne : rows_words xs ≡ length r.cursor.rest.now → ⊥ = λ q. (let k = left in omega arith) in
        let p : s.cursor.place ≡ suc (rows_words xs) = place_is r s i xs h b.place ∙ (omega arith) in
        refused ws (Length s.cursor.place) (at_end ∙ cond-false (eqb (rows_words xs) (length r.cursor.rest.now)) (Ok xs) (Err (Length (suc (rows_words xs)))) (ne_eqb _ _ ne) ∙ ap (λ j. Err (Length j)) (sym p))

    pub complete : s.cursor.rest.now ≡ [] → Summed xs ≡ Checked ws
    unfolding check_chart
    complete none =
        let eq : rows_words xs ≡ length r.cursor.rest.now = (let k = left in let z = ap length none in omega arith) in
        ap (limited (overflow 0 1 xs)) (let z : 0 + total xs ≡ total xs = omega arith in z) ∙ by_size xs (overflow 0 1 xs)
        ∙ ap (λ z. mapped total (tested z)) (sym (at_end ∙ cond-true (eqb (rows_words xs) (length r.cursor.rest.now)) (Ok xs) (Err (Length (suc (rows_words xs)))) (eq-eqb _ _ eq)))
