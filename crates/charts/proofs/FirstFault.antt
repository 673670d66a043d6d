-- A refusal names the first word at fault, or the row that passes the limit of states.
use Rattle.std.proofs.Common.{◌≡◌, ℕ, suc, ◌+◌, ◌<◌, ◌≤◌, true, false, eqb, ltb, ◌⊎◌, List, [], ◌∷◌, ◌++◌, length, get_or, take, drop, Some, None, Ok, Err, Option, Result, sym, refl, ap, ◌∙◌, subst, ap₂, inl, inr, add-zero, one-add, arith, take-add}
use Rattle.std.proofs.lemmas.Bool.{cond-true, cond-false, cases_Bool, ltb-true, ltb-false, eqb-false}
use Rattle.std.proofs.lemmas.List.{append-nil, append_assoc, length-append, take_at, take_all, take-append-drop, length-take-le}
use Rattle.words.specs.declared.fault.WordFault.{WordFault}
use Rattle.words.specs.declared.fault.WordFault.TheVariants.{Length, Form, Range}
use Rattle.words.specs.Faults.{fault_place}
use Rattle.words.specs.Bytes.{longest}
use Rattle.words.specs.Reading.{then, mapped}
use Rattle.words.specs.Words.{unused_bit, rows_in}
use Rattle.words.specs.Encoded.{count_word}
use Rattle.words.proofs.Exact.{rows_exact as word_rows_exact, rows_back as word_rows_back}
use Rattle.words.proofs.Results.{never_ok, same_ok, then_by, mapped_by}
use Rattle.words.proofs.Readers.{Stops, GoesOn, words_beyond, word_beyond, never_err}
use Rattle.charts.specs.declared.fault.ChartFault.{ChartFault}
use Rattle.charts.specs.declared.fault.ChartFault.TheVariants.{Word, TooManyStates}
use Rattle.charts.specs.Rows.{Row, size, total, rows_fit, in_layout}
use Rattle.charts.specs.Reading.{read_rows, row_words, rows_words, read_whole, read_chart, overflow, sized, tested, check_chart}
use Rattle.charts.specs.Reader.{ended}
use Rattle.charts.specs.Encoding.{rows_encoded, encoded}
use Rattle.charts.specs.Refusals.{BeginsChart, IsChart, FirstFault, WordAtFault, KindIsDue, RefusedFor}
use Rattle.charts.proofs.Exact.{RowsAreRead, rows_exactly, rows_length, rows_back}
use Rattle.charts.specs.Limits.{layout, layout_of}
use Rattle.charts.proofs.Accepted.{Whole, whole_exactly}
use Rattle.charts.proofs.ChartReader.{chart_words, chart_reader, chart_good}

-- what is read is a chart's words, and a chart's words are read

encoded_length : (xs : List Row) → length (encoded xs) ≡ chart_words xs
encoded_length xs = ap suc (rows_length xs) ∙ sym (one-add (rows_words xs))

pub record ChartRead (ws : List ℕ) (xs : List Row) : Type 0 where
  pub layout : in_layout xs ≡ true
  pub words : take (chart_words xs) ws ≡ encoded xs

read_from : (n w : ℕ) (ws : List ℕ) (xs : List Row) → count_word 12 n ≡ w → 1 ≤ n → n ≤ 256 → RowsAreRead n n ws xs → ChartRead (w ∷ ws) xs
read_from n w ws xs e l m r =
    let front : take (rows_words xs) ws ≡ rows_encoded xs = ap (take (rows_words xs)) r.words ∙ take_at (rows_encoded xs) _ (rows_words xs) (rows_length xs) in
    record {
      layout = layout xs (omega (arith, r.count)) (omega (arith, r.count)) (subst (λ k. rows_fit k xs ≡ true) (sym r.count) r.fits);
      words = ap (λ j. take j (w ∷ ws)) (one-add (rows_words xs)) ∙ ap₂ ◌∷◌ (sym e ∙ ap (count_word 12) (sym r.count)) front;
    }

pub chart_exact : (ws : List ℕ) (xs : List Row) → chart_reader 0 ws ≡ Ok xs → ChartRead ws xs
chart_exact [] xs e = never_ok _ xs e
chart_exact (w ∷ ws) xs e =
    then_by (rows_in 0 w) _ xs e (λ n a e.
    mapped_by (λ v. v) (read_rows n 1 n ws) xs e (λ v b e.
    let x = word_rows_exact 0 w n a in
    subst (λ (z : List Row). ChartRead (w ∷ ws) z) e (read_from n w ws v x.0 x.1.0 x.1.1 (rows_exactly n 1 n ws v b))))

pub chart_back : (xs : List Row) → in_layout xs ≡ true → chart_reader 0 (encoded xs) ≡ Ok xs
chart_back xs h =
    let l = layout_of xs h in
    let n = length xs in
    let b = ap (read_rows n 1 n) (sym (append-nil (rows_encoded xs))) ∙ rows_back n 1 xs [] l.few l.fits in
    ap (λ r. then r (λ n. mapped (λ v. v) (read_rows n 1 n (rows_encoded xs)))) (word_rows_back 0 n (l.some, l.few)) ∙ ap (mapped (λ v. v)) b

-- the first words of a chart begin it
begins : (ws : List ℕ) (xs : List Row) (v : List ℕ) → in_layout xs ≡ true → encoded xs ≡ ws ++ v → BeginsChart ws
begins ws xs v l e = record { rows = xs; layout = l; rest = v; words = e }

-- a word at fault
stops_first : (ws : List ℕ) (f : WordFault) → chart_reader 0 ws ≡ Err f → (s : Stops chart_reader 0 ws f) → FirstFault ws s.at
stops_first ws f e s =
    let r = chart_exact (take s.at ws ++ s.rest) s.some s.more in
    record {
      inside = s.within;
      before = begins (take s.at ws) s.some _ r.layout (sym r.words ∙ words_beyond chart_words chart_reader chart_good 0 ws f e s.at s.within s.rest s.some s.more);
      there = λ h b. s.never h b.rest b.rows (ap (chart_reader 0) (sym b.words) ∙ chart_back b.rows b.layout);
    }

place_is : (ws : List ℕ) (f : WordFault) (s : Stops chart_reader 0 ws f) → fault_place f ≡ s.at
place_is ws f s = s.place ∙ (omega arith)

-- where the words before the fault are a whole chart's, there were none
no_chart : (ws : List ℕ) (f : WordFault) (p : ℕ) → chart_reader 0 ws ≡ Err f → IsChart (take p ws) → ⊥
no_chart ws f p e c =
    let ys = c.rows in
    let all : take (chart_words ys) (encoded ys) ≡ encoded ys = take_all (chart_words ys) (encoded ys) (omega (arith, encoded_length ys)) in
    let here : chart_reader 0 (take p ws ++ drop p ws) ≡ Ok ys
    = ap (λ v. chart_reader 0 (v ++ drop p ws)) (sym c.words ∙ sym all) ∙ chart_good.local 0 (encoded ys) ys (chart_back ys c.layout) (drop p ws) in
    never_ok f ys (sym e ∙ ap (chart_reader 0) (sym (take-append-drop p ws)) ∙ here)

-- a word of that kind can stand there in a chart exactly if the reader goes on with one
due : (ws : List ℕ) (f : WordFault) → chart_reader 0 ws ≡ Err f → (at : ℕ) → at ≤ length ws → GoesOn chart_reader 0 (take at ws) (get_or ws at 0) → KindIsDue ws at
due ws f e at h o =
    let r = chart_exact (take at ws ++ (o.word ∷ o.rest)) o.some o.read in
    let shape = sym r.words ∙ word_beyond chart_words chart_reader chart_good 0 ws f e at h o in
    record { word = o.word; kinds = o.kinds; begins = begins (take at ws ++ (o.word ∷ [])) o.some _ r.layout (shape ∙ sym (append_assoc (take at ws) (o.word ∷ []) _)) }

going : (ws : List ℕ) (at : ℕ) → KindIsDue ws at → GoesOn chart_reader 0 (take at ws) (get_or ws at 0)
going ws at k =
    let b = k.begins in
    record {
      word = k.word;
      kinds = k.kinds;
      rest = b.rest;
      some = b.rows;
      read = ap (chart_reader 0) (sym (append_assoc (take at ws) (k.word ∷ []) b.rest) ∙ sym b.words) ∙ chart_back b.rows b.layout;
    }

bad_word : (ws : List ℕ) (f : WordFault) (p : ℕ) → length ws ≤ longest → chart_reader 0 ws ≡ Err f → (s : Stops chart_reader 0 ws f) → p ≡ s.at → s.at < length ws → WordAtFault ws p
bad_word ws f p l e s q h =
    record { short = l; first = subst (FirstFault ws) (sym q) (stops_first ws f e s); inside = subst (λ j. j < length ws) (sym q) h; due = no_chart ws f p e }

reader_refuses : (ws : List ℕ) (f : WordFault) → length ws ≤ longest → chart_reader 0 ws ≡ Err f → (s : Stops chart_reader 0 ws f) → RefusedFor ws (Word f)
reader_refuses ws (Length p) l e s =
    let q = place_is ws (Length p) s in
    let whole : take (length ws) ws ≡ ws = take_all (length ws) ws (omega arith) in
    inr (record {
      short = l;
      first = subst (FirstFault ws) (sym q) (stops_first ws (Length p) e s);
      which = inl (q ∙ s.ends, λ c. no_chart ws (Length p) (length ws) e (subst (λ (v : List ℕ). IsChart v) (sym whole) c));
    })
reader_refuses ws (Form p) l e s =
    let q = place_is ws (Form p) s in
    (bad_word ws (Form p) p l e s q s.ends, subst (λ j. (KindIsDue ws j → ⊥) ⊎ (unused_bit (get_or ws j 0) ≡ true)) (sym q) (by s.why))
  where
    by : ((GoesOn chart_reader 0 (take s.at ws) (get_or ws s.at 0) → ⊥) ⊎ (unused_bit (get_or ws s.at 0) ≡ true)) → (KindIsDue ws s.at → ⊥) ⊎ (unused_bit (get_or ws s.at 0) ≡ true)
    by (inl n) = inl (λ k. n (going ws s.at k))
    by (inr u) = inr u
reader_refuses ws (Range p) l e s =
    let q = place_is ws (Range p) s in
    (bad_word ws (Range p) p l e s q s.ends, subst (KindIsDue ws) (sym q) (due ws (Range p) e s.at s.within s.why.0), subst (λ j. unused_bit (get_or ws j 0) ≡ false) (sym q) s.why.1)

-- words left over behind a chart's
left_over : (ws : List ℕ) (xs : List Row) → chart_reader 0 ws ≡ Ok xs → chart_words xs < length ws → FirstFault ws (chart_words xs) × IsChart (take (chart_words xs) ws)
left_over ws xs e h =
    let r = chart_exact ws xs e in
    let n = chart_words xs in (
      record {
        inside = omega arith;
        before = begins (take n ws) xs [] r.layout (sym r.words ∙ sym (append-nil (take n ws)));
        there = λ _ b. longer b;
      },
      record { rows = xs; layout = r.layout; words = sym r.words },
    )
  where
    longer : BeginsChart (take (suc (chart_words xs)) ws) → ⊥
    longer b =
        let n = chart_words xs in
        let shape : take (suc n) ws ++ b.rest ≡ take n ws ++ (take 1 (drop n ws) ++ b.rest)
        = ap (λ j. take j ws ++ b.rest) (next n) ∙ ap (λ v. v ++ b.rest) (take-add n 1 ws) ∙ append_assoc (take n ws) (take 1 (drop n ws)) b.rest in
        let mine = chart_good.local 0 ws xs e (take 1 (drop n ws) ++ b.rest) in
        let other = ap (chart_reader 0) (sym shape ∙ sym b.words) ∙ chart_back b.rows b.layout in
        let same : xs ≡ b.rows = same_ok xs b.rows (sym mine ∙ other) in
        let len = sym (encoded_length b.rows) ∙ ap length b.words ∙ length-append (take (suc n) ws) b.rest in
        let eq = ap chart_words same in
        let long = length-take-le (suc n) ws (omega arith) in
        omega arith
      where
        next : (n : ℕ) → suc n ≡ n + 1
        next n = omega arith

-- how the reading of the whole comes to a fault
whole_err : (ws : List ℕ) (f : WordFault) → read_whole ws ≡ Err f
    → (chart_reader 0 ws ≡ Err f) ⊎ ((xs : List Row) × (chart_reader 0 ws ≡ Ok xs) × (suc (rows_words xs) ≡ length ws → ⊥) × (f ≡ Length (suc (rows_words xs))))
unfolding read_whole
whole_err [] f e = inl e
whole_err (w ∷ ws) f e = by (rows_in 0 w) e
  where
    end_err : (n : ℕ) (r : Result (List Row) WordFault) → then r (ended ws) ≡ Err f
        → (mapped (λ v. v) r ≡ Err f) ⊎ ((xs : List Row) × (mapped (λ v. v) r ≡ Ok xs) × (suc (rows_words xs) ≡ suc (length ws) → ⊥) × (f ≡ Length (suc (rows_words xs))))
    end_err n (Err d) e = inl e
    end_err n (Ok xs) e =
        elim (cases_Bool (eqb (rows_words xs) (length ws))) [
          | inl q ↦ never_err f xs (sym (cond-true (eqb (rows_words xs) (length ws)) (Ok xs) (Err (Length (suc (rows_words xs)))) q) ∙ e)
          | inr q ↦ inr (xs, refl, (λ z. eqb-false (rows_words xs) (length ws) q (omega arith)), (let g = sym (cond-false (eqb (rows_words xs) (length ws)) (Ok xs) (Err (Length (suc (rows_words xs)))) q) ∙ e in cc))
        ]

    by : (r : Result ℕ WordFault) → then r (λ n. then (read_rows n 1 n ws) (ended ws)) ≡ Err f
        → (then r (λ n. mapped (λ v. v) (read_rows n 1 n ws)) ≡ Err f) ⊎ ((xs : List Row) × (then r (λ n. mapped (λ v. v) (read_rows n 1 n ws)) ≡ Ok xs) × (suc (rows_words xs) ≡ suc (length ws) → ⊥) × (f ≡ Length (suc (rows_words xs))))
    by (Ok n) e = end_err n (read_rows n 1 n ws) e
    by (Err d) e = inl e

whole_refuses : (ws : List ℕ) (f : WordFault) → length ws ≤ longest → read_whole ws ≡ Err f → RefusedFor ws (Word f)
whole_refuses ws f l e =
    elim (whole_err ws f e) [
      | inl q ↦ reader_refuses ws f l q (chart_good.faults 0 ws f q)
      | inr q ↦ (let xs = q.0 in
          let n : chart_words xs ≡ suc (rows_words xs) = one-add (rows_words xs) in
          let h : chart_words xs < length ws = below xs q.1 q.2 in
          let r = left_over ws xs q.1 h in
          let at = subst (λ j. FirstFault ws j × IsChart (take j ws) × (j < length ws)) n (r.0, r.1, h) in
          subst (λ (g : WordFault). RefusedFor ws (Word g)) (sym q.3) (inr (record { short = l; first = at.0; which = inr (at.2, at.1) })))
    ]
  where
    below : (xs : List Row) → chart_reader 0 ws ≡ Ok xs → (suc (rows_words xs) ≡ length ws → ⊥) → chart_words xs < length ws
    below xs e ne = let i = chart_good.inside 0 ws xs e in omega (arith, not_same)
      where
        not_same : chart_words xs ≡ length ws → ⊥
        not_same z = ne (sym (one-add (rows_words xs)) ∙ z)

-- the row that passes the limit

record Passed (s p : ℕ) (xs : List Row) (q : ℕ) : Type 0 where
  r : ℕ
  inside : r < length xs
  before : s + total (take r xs) ≤ 4096
  there : 4096 < s + total (take (suc r) xs)
  place : q ≡ p + rows_words (take r xs)

passed : (s p : ℕ) (xs : List Row) (q : ℕ) → s ≤ 4096 → overflow s p xs ≡ Some q → Passed s p xs q
unfolding overflow total rows_words
passed s p [] q h e = absurd (cc)
passed s p (x ∷ xs) q h e =
    elim (cases_Bool (ltb 4096 (s + size x))) [
      | inl b ↦ (let same : Some p ≡ Some q = sym (cond-true (ltb 4096 (s + size x)) (Some p) (overflow (s + size x) (p + row_words x) xs) b) ∙ e in
          let at : q ≡ p = cc in
          record { r = 0; inside = omega arith; before = omega arith; there = omega (arith, ltb-true 4096 (s + size x) b); place = at ∙ sym (add-zero p) })
      | inr b ↦ (let rest = passed (s + size x) (p + row_words x) xs q (ltb-false 4096 (s + size x) b) (sym (cond-false (ltb 4096 (s + size x)) (Some p) (overflow (s + size x) (p + row_words x) xs) b) ∙ e) in
          record { r = suc rest.r; inside = omega (arith, rest.inside); before = omega (arith, rest.before); there = omega (arith, rest.there); place = rest.place ∙ (omega arith) })
    ]

sized_err : (xs : List Row) (o : Option ℕ) (g : ChartFault) → sized xs o ≡ Err g → (q : ℕ) × ((o ≡ Some q) × (g ≡ TooManyStates q))
sized_err xs None g e = never_err g xs e
sized_err xs (Some q) g e = (q, (refl, cc))

limit_refuses : (ws : List ℕ) (xs : List Row) (q : ℕ) → length ws ≤ longest → Whole ws xs → overflow 0 1 xs ≡ Some q → RefusedFor ws (TooManyStates q)
limit_refuses ws xs q l w e =
    let r = passed 0 1 xs q (omega arith) e in (
      l,
      record {
        rows = xs;
        layout = layout xs w.some w.few w.fits;
        words = w.words;
        r = r.r;
        inside = r.inside;
        before = omega (arith, r.before);
        there = omega (arith, r.there);
        place = r.place ∙ sym (encoded_length (take r.r xs));
      },
    )

-- every refusal
pub refused_for : (ws : List ℕ) (g : ChartFault) → check_chart ws ≡ Err g → RefusedFor ws g
unfolding check_chart read_chart
refused_for ws g e =
    elim (cases_Bool (ltb longest (length ws))) [
      | inl b ↦ (let long = ltb-true longest (length ws) b in
          let r = sym (ap tested (cond-true (ltb longest (length ws)) (Err (Length longest)) (read_whole ws) b)) ∙ e in
          let q : Word (Length longest) ≡ g = cc in
          subst (λ (z : ChartFault). RefusedFor ws z) q (inl (long, refl)))
      | inr b ↦ by (read_whole ws) refl (sym (ap tested (cond-false (ltb longest (length ws)) (Err (Length longest)) (read_whole ws) b)) ∙ e) (ltb-false longest (length ws) b)
    ]
  where
    by : (r : Result (List Row) WordFault) → read_whole ws ≡ r → tested r ≡ Err g → length ws ≤ longest → RefusedFor ws g
    by (Ok xs) q e l =
        let s = sized_err xs (overflow 0 1 xs) g e in
        subst (λ (z : ChartFault). RefusedFor ws z) (sym s.1.1) (limit_refuses ws xs s.0 l (whole_exactly ws xs q) s.1.0)
    by (Err f) q e l = let s : Word f ≡ g = cc in subst (λ (z : ChartFault). RefusedFor ws z) s (whole_refuses ws f l q)
