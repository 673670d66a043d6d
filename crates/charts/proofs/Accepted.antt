-- A list of words is taken exactly if it is the words of a chart within the limits.
use Rattle.std.specs.Prelude.{◌≡◌, ℕ, suc, ◌+◌, ◌≤◌, true, List, [], ◌∷◌, ◌++◌, length, Some, None, Ok, Err, Option, Result, ◌==◌, nat_lt, refl}
use Rattle.std.proofs.Common.{sym, ap, ap₂, subst, ◌∙◌, inl, inr, arith}
use Rattle.std.proofs.lemmas.Bool.{cond-true, cond-false, cases_Bool, ltb-false, eqb-true, le-ltb, eq-eqb}
use Rattle.std.proofs.lemmas.List.{append-nil, drop_all}
use Rattle.words.specs.declared.fault.WordFault.{WordFault}
use Rattle.words.specs.declared.fault.WordFault.TheVariants.{Length}
use Rattle.words.specs.Words.{rows_in}
use Rattle.words.specs.Encoded.{count_word}
use Rattle.words.proofs.Exact.{rows_exact as word_rows_exact, rows_back as word_rows_back}
use Rattle.charts.specs.Rows.{Row, size, total, rows_fit}
use Rattle.words.specs.Reading.{then}
use Rattle.charts.specs.Reading.{read_rows, rows_words, row_words, read_whole, read_chart, overflow, sized, tested, check_chart}
use Rattle.charts.specs.Reader.{ended}
use Rattle.charts.specs.Encoding.{rows_encoded, encoded, Encodes, ReadOneWay}
use Rattle.words.proofs.Results.{then_ok, passed, never_ok, same_ok}
use Rattle.charts.specs.Limits.{limits, limits_of}
use Rattle.charts.proofs.Exact.{RowsAreRead, rows_exactly, rows_length, rows_back}

-- the rows that the words of a file are
pub record Whole (ws : List ℕ) (xs : List Row) : Type 0 where
  pub some : 1 ≤ length xs
  pub few : length xs ≤ 256
  pub fits : rows_fit (length xs) xs ≡ true
  pub words : encoded xs ≡ ws

pub whole_exactly : (ws : List ℕ) (xs : List Row) → read_whole ws ≡ Ok xs → Whole ws xs
unfolding read_whole
whole_exactly [] xs e = never_ok _ xs e
whole_exactly (w ∷ ws) xs e =
    let a = then_ok (rows_in 0 w) (λ n. then (read_rows n 1 n ws) (ended ws)) xs e in
    let n = a.0 in
    let b = then_ok (read_rows n 1 n ws) (ended ws) xs a.1.1 in
    let c = passed (rows_words b.0 == length ws) b.0 xs (Length (suc (rows_words b.0))) b.1.1 in
    let x = word_rows_exact 0 w n a.1.0 in
    let r = rows_exactly n 1 n ws b.0 b.1.0 in
    subst (λ (v : List Row). Whole (w ∷ ws) v) c.1 (whole_from n w ws b.0 x.0 x.1.0 x.1.1 r (eqb-true (rows_words b.0) (length ws) c.0))
  where
    whole_from : (n w : ℕ) (ws : List ℕ) (xs : List Row) → count_word 12 n ≡ w → 1 ≤ n → n ≤ 256 → RowsAreRead n n ws xs → rows_words xs ≡ length ws → Whole (w ∷ ws) xs
    whole_from n w ws xs e l m r q =
        let len : length ws ≤ length (rows_encoded xs) = omega (arith, rows_length xs) in
        let all : ws ≡ rows_encoded xs = r.words ∙ ap (λ v. rows_encoded xs ++ v) (drop_all (length (rows_encoded xs)) ws len) ∙ append-nil (rows_encoded xs) in
        record {
          some = omega (arith, r.count);
          few = omega (arith, r.count);
          fits = subst (λ k. rows_fit k xs ≡ true) (sym r.count) r.fits;
          words = ap₂ ◌∷◌ (ap (count_word 12) r.count ∙ e) (sym all);
        }

pub whole_back : (xs : List Row) → 1 ≤ length xs → length xs ≤ 256 → rows_fit (length xs) xs ≡ true → read_whole (encoded xs) ≡ Ok xs
unfolding read_whole
whole_back xs some few h =
    let n = length xs in
    let ws = rows_encoded xs in
    let a = word_rows_back 0 n (some, few) in
    let b = ap (read_rows n 1 n) (sym (append-nil ws)) ∙ rows_back n 1 xs [] few h in
    ap (λ r. then r (λ n. then (read_rows n 1 n ws) (ended ws))) a
    ∙ ap (λ r. then r (ended ws)) b
    ∙ cond-true (rows_words xs == length ws) (Ok xs) (Err (Length (suc (rows_words xs)))) (eq-eqb (rows_words xs) (length ws) (sym (rows_length xs)))

-- no row passes the limit exactly if the states are within it
pub fits_if_none : (s p : ℕ) (xs : List Row) → s ≤ 4096 → overflow s p xs ≡ None → s + total xs ≤ 4096
unfolding overflow total
fits_if_none s p [] h e = omega arith
fits_if_none s p (x ∷ xs) h e =
    elim (cases_Bool (nat_lt 4096 (s + size x))) [
      | inl q ↦ cc (cond-true (nat_lt 4096 (s + size x)) (Some p) (overflow (s + size x) (p + row_words x) xs) q)
      | inr q ↦ (let rest = fits_if_none (s + size x) (p + row_words x) xs (ltb-false 4096 (s + size x) q) (cc (cond-false (nat_lt 4096 (s + size x)) (Some p) (overflow (s + size x) (p + row_words x) xs) q)) in omega arith)
    ]

pub none_if_fits : (s p : ℕ) (xs : List Row) → s + total xs ≤ 4096 → overflow s p xs ≡ None
unfolding overflow total
none_if_fits s p [] h = refl
none_if_fits s p (x ∷ xs) h =
    let small : s + size x ≤ 4096 = omega arith in
    let rest : (s + size x) + total xs ≤ 4096 = omega arith in
    cond-false (nat_lt 4096 (s + size x)) (Some p) (overflow (s + size x) (p + row_words x) xs) (le-ltb 4096 (s + size x) small) ∙ none_if_fits (s + size x) (p + row_words x) xs rest

sized_ok : (xs ys : List Row) (o : Option ℕ) → sized xs o ≡ Ok ys → (o ≡ None) × (xs ≡ ys)
sized_ok xs ys None e = (refl, same_ok xs ys e)
sized_ok xs ys (Some p) e = never_ok _ ys e

pub tested_ok : (r : Result (List Row) WordFault) (ys : List Row) → tested r ≡ Ok ys → (r ≡ Ok ys) × (overflow 0 1 ys ≡ None)
tested_ok (Ok xs) ys e =
    let a = sized_ok xs ys (overflow 0 1 xs) e in
    (ap (λ v. Ok v) a.1, subst (λ (v : List Row). overflow 0 1 v ≡ None) a.1 a.0)
tested_ok (Err f) ys e = never_ok _ ys e

pub read_ok : (ws : List ℕ) (xs : List Row) → read_chart ws ≡ Ok xs → (length ws ≤ 16384) × (read_whole ws ≡ Ok xs)
unfolding read_chart
read_ok ws xs e =
    elim (cases_Bool (nat_lt 16384 (length ws))) [
      | inl q ↦ never_ok (Length 16384) xs (sym (cond-true (nat_lt 16384 (length ws)) (Err (Length 16384)) (read_whole ws) q) ∙ e)
      | inr q ↦ (ltb-false 16384 (length ws) q, sym (cond-false (nat_lt 16384 (length ws)) (Err (Length 16384)) (read_whole ws) q) ∙ e)
    ]

-- what the reader takes is a chart's words
pub accepted_encodes : (ws : List ℕ) (xs : List Row) → check_chart ws ≡ Ok xs → Encodes xs ws
unfolding check_chart
accepted_encodes ws xs e =
    let a = tested_ok (read_chart ws) xs e in
    let b = read_ok ws xs a.0 in
    let w = whole_exactly ws xs b.1 in
    let small = fits_if_none 0 1 xs (omega arith) a.1 in
    record { words = w.words; limits = limits xs w.some w.few w.fits (omega arith); short = b.0 }

-- and a chart's words are taken as that chart
pub encodes_accepted : (ws : List ℕ) (xs : List Row) → Encodes xs ws → check_chart ws ≡ Ok xs
unfolding check_chart read_chart
encodes_accepted ws xs h =
    let l = limits_of xs h.limits in
    let a = ap read_whole (sym h.words) ∙ whole_back xs l.some l.few l.fits in
    let b : total xs ≤ 4096 = l.small in
    let none : overflow 0 1 xs ≡ None = none_if_fits 0 1 xs (omega arith) in
    ap tested (cond-false (nat_lt 16384 (length ws)) (Err (Length 16384)) (read_whole ws) (le-ltb 16384 (length ws) h.short) ∙ a)
    ∙ ap (sized xs) none

pub one_way : ReadOneWay
one_way xs ys ws h k = same_ok xs ys (sym (encodes_accepted ws xs h) ∙ encodes_accepted ws ys k)
