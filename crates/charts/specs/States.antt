-- The states of a chart: the row of each, and where each row begins. Lemmas, which stand here since the law of the source
-- cites them.
use Rattle.std.specs.Prelude.{◌≡◌, ℕ, zero, suc, ◌+◌, ◌-◌, ◌<◌, ◌≤◌, true, List, [], ◌∷◌, length, replicate, nat_lt, slice_index, slice_index_or, refl}
use Rattle.std.proofs.Common.{sym, ap, subst, ◌∙◌, inl, inr, arith, add-zero, add_assoc}
use Rattle.std.proofs.lemmas.Bool.Decides.{nat_tests}
use Rattle.std.proofs.lemmas.Bool.{cases_Bool, ltb-true, ltb-false, and_parts}
use Rattle.std.proofs.lemmas.List.{length-append, length-replicate, get_or_append_left, get_or-append_right, get_or-replicate}
use Rattle.charts.specs.declared.row.Offer.{Offer}
use Rattle.charts.specs.Rows.{Row, size, total, row_at, first, row_of, offer_fits, offers_fit, row_fits, rows_fit}
use Rattle.charts.specs.Tables.{owners, firsts}

-- a state of the first row, and one of the others
row_of_first : (x : Row) (xs : List Row) (s : ℕ) → s < size x → row_of (x ∷ xs) s ≡ 0
unfolding row_of
row_of_first x xs s h = grind (arith, nat_tests)

row_of_later : (x : Row) (xs : List Row) (s : ℕ) → size x ≤ s → row_of (x ∷ xs) s ≡ suc (row_of xs (s - size x))
unfolding row_of
row_of_later x xs s h = grind (arith, nat_tests)

pub owners_length : (r : ℕ) (xs : List Row) → length (owners r xs) ≡ total xs
unfolding owners total
owners_length r [] = refl
owners_length r (x ∷ xs) =
    rw (length-append, length-replicate, owners_length (suc r) xs)

pub owners_at : (r : ℕ) (xs : List Row) (s : ℕ) → s < total xs → slice_index (owners r xs) s ≡ r + row_of xs s
unfolding owners total
owners_at r [] s h = absurd (omega arith)
owners_at r (x ∷ xs) s h =
    elim (cases_Bool (nat_lt s (size x))) [
      | inl q ↦ (let l = ltb-true s (size x) q in let len = length-replicate (size x) r in
          get_or_append_left (replicate (size x) r) (owners (suc r) xs) 0 s (omega arith) ∙ get_or-replicate (size x) s r 0 l ∙ sym (ap (λ j. r + j) (row_of_first x xs s l) ∙ add-zero r))
      | inr q ↦ (let l = ltb-false s (size x) q in let rest = owners_at (suc r) xs (s - size x) (omega arith) in let e = row_of_later x xs s l in
          get_or-append_right (replicate (size x) r) (owners (suc r) xs) (size x) s 0 (length-replicate (size x) r) l ∙ (omega (arith, rest, e)))
    ]

pub row_inside : (xs : List Row) (s : ℕ) → s < total xs → row_of xs s < length xs
unfolding total
row_inside [] s h = absurd (omega arith)
row_inside (x ∷ xs) s h =
    elim (cases_Bool (nat_lt s (size x))) [
      | inl q ↦ (let e = row_of_first x xs s (ltb-true s (size x) q) in omega arith)
      | inr q ↦ (let l = ltb-false s (size x) q in let e = row_of_later x xs s l in let rest = row_inside xs (s - size x) (omega arith) in omega arith)
    ]

-- the state stands in its row: it does not come before it
pub row_begun : (xs : List Row) (s : ℕ) → s < total xs → first xs (row_of xs s) ≤ s
unfolding first total
row_begun [] s h = absurd (omega arith)
row_begun (x ∷ xs) s h =
    elim (cases_Bool (nat_lt s (size x))) [
      | inl q ↦ rw (row_of_first x xs s (ltb-true s (size x) q)) (omega arith)
      | inr q ↦ (let l = ltb-false s (size x) q in let rest = row_begun xs (s - size x) (omega arith) in
          rw (row_of_later x xs s l) (omega arith))
    ]

-- and does not outlast it
pub row_lasts : (xs : List Row) (s : ℕ) → s < total xs → s < first xs (row_of xs s) + size (row_at xs (row_of xs s))
unfolding first total
row_lasts [] s h = absurd (omega arith)
row_lasts (x ∷ xs) s h =
    elim (cases_Bool (nat_lt s (size x))) [
      | inl q ↦ (let l = ltb-true s (size x) q in
          subst (λ j. s < first (x ∷ xs) j + size (row_at (x ∷ xs) j)) (sym (row_of_first x xs s l)) (omega arith))
      | inr q ↦ (let l = ltb-false s (size x) q in let rest = row_lasts xs (s - size x) (omega arith) in
          subst (λ j. s < first (x ∷ xs) j + size (row_at (x ∷ xs) j)) (sym (row_of_later x xs s l)) (omega arith))
    ]

pub firsts_length : (s : ℕ) (xs : List Row) → length (firsts s xs) ≡ length xs
unfolding firsts
firsts_length s [] = refl
firsts_length s (x ∷ xs) = ap suc (firsts_length (s + size x) xs)

pub firsts_at : (s : ℕ) (xs : List Row) (r : ℕ) → r < length xs → slice_index (firsts s xs) r ≡ s + first xs r
unfolding firsts first
firsts_at s [] r h = absurd (omega arith)
firsts_at s (x ∷ xs) zero h = sym (add-zero s)
firsts_at s (x ∷ xs) (suc r) h = firsts_at (s + size x) xs r (omega arith) ∙ add_assoc s (size x) (first xs r)

-- every row ends within the states
pub row_ends : (xs : List Row) (r : ℕ) → r < length xs → first xs r + size (row_at xs r) ≤ total xs
unfolding first total
row_ends [] r h = absurd (omega arith)
row_ends (x ∷ xs) zero h = omega arith
row_ends (x ∷ xs) (suc r) h = let rest = row_ends xs r (omega arith) in omega arith

pub row_fits_at : (n : ℕ) (xs : List Row) (r : ℕ) → rows_fit n xs ≡ true → r < length xs → row_fits n (row_at xs r) ≡ true
unfolding rows_fit
row_fits_at n [] r h l = absurd (omega arith)
row_fits_at n (x ∷ xs) zero h l = (and_parts _ _ h).0
row_fits_at n (x ∷ xs) (suc r) h l = row_fits_at n xs r (and_parts _ _ h).1 (omega arith)

pub offer_fits_at : (n : ℕ) (os : List Offer) (k : ℕ) (d : Offer) → offers_fit n os ≡ true → k < length os → offer_fits n (slice_index_or os k d) ≡ true
unfolding offers_fit
offer_fits_at n [] k d h l = absurd (omega arith)
offer_fits_at n (o ∷ os) zero d h l = (and_parts _ _ h).0
offer_fits_at n (o ∷ os) (suc k) d h l = offer_fits_at n os k d (and_parts _ _ h).1 (omega arith)
