-- Tables that hold rows, and a row more.
use Rattle.std.proofs.Common.{◌≡◌, ℕ, suc, ◌+◌, true, List, [], ◌∷◌, ◌++◌, map, length, take, drop, replicate, vec_items, vec_len, sym, refl, ap, ap₂, ◌∙◌, add-zero, add_assoc, arith}
use Rattle.std.proofs.lemmas.List.{append_assoc, append-nil, length-append, take_at, drop_at}
use Rattle.charts.specs.declared.row.Offer.{Offer}
use Rattle.charts.specs.declared.reading.RowRead.{RowRead}
use Rattle.charts.specs.declared.tables.RowEntry.{RowEntry}
use Rattle.charts.specs.declared.tables.Tables.{Tables}
use Rattle.charts.specs.Rows.{Row, size, stay_states, total, in_layout, within, rows_fit, offers_fit}
use Rattle.charts.specs.Reader.{row_read}
use Rattle.charts.specs.Charts.{resting}
use Rattle.charts.specs.Tables.{entry_row, table_rows, entry_of, laid, all_offers, owners, entry_firsts, entry_counts, firsts, offer_counts, Held}
use Rattle.charts.specs.States.{owners_length}

laid_more : (s f : ℕ) (xs : List Row) (x : Row) → laid s f (xs ++ (x ∷ [])) ≡ laid s f xs ++ (entry_of (s + total xs) (f + length (all_offers xs)) (row_read x) ∷ [])
unfolding laid total all_offers
laid_more s f [] x = ap₂ (λ i j. entry_of i j (row_read x) ∷ []) (sym (add-zero s)) (sym (add-zero f))
laid_more s f (y ∷ ys) x =
    let k : f + length y.offers + length (all_offers ys) ≡ f + length (y.offers ++ all_offers ys) = add_assoc f _ _ ∙ ap (λ j. f + j) (sym (length-append y.offers (all_offers ys))) in
    ap (λ v. entry_of s f (row_read y) ∷ v) (laid_more (s + size y) (f + length y.offers) ys x
    ∙ ap₂ (λ i j. laid (s + size y) (f + length y.offers) ys ++ (entry_of i j (row_read x) ∷ [])) (add_assoc s (size y) (total ys)) k)

offers_more : (xs : List Row) (x : Row) → all_offers (xs ++ (x ∷ [])) ≡ all_offers xs ++ x.offers
unfolding all_offers
offers_more [] x = append-nil x.offers
offers_more (y ∷ ys) x = ap (λ v. y.offers ++ v) (offers_more ys x) ∙ sym (append_assoc y.offers (all_offers ys) x.offers)

owners_more : (r : ℕ) (xs : List Row) (x : Row) → owners r (xs ++ (x ∷ [])) ≡ owners r xs ++ replicate (size x) (r + length xs)
unfolding owners
owners_more r [] x = append-nil _ ∙ ap (replicate (size x)) (sym (add-zero r))
owners_more r (y ∷ ys) x =
    let k : suc r + length ys ≡ r + suc (length ys) = omega arith in
    ap (λ v. replicate (size y) r ++ v) (owners_more (suc r) ys x ∙ ap (λ j. owners (suc r) ys ++ replicate (size x) j) k) ∙ sym (append_assoc (replicate (size y) r) (owners (suc r) ys) _)

laid_length : (s f : ℕ) (xs : List Row) → length (laid s f xs) ≡ length xs
unfolding laid
laid_length s f [] = refl
laid_length s f (x ∷ xs) = ap suc (laid_length (s + size x) (f + length x.offers) xs)

module _ (t : Tables) (xs : List Row) (h : Held t xs) where
  pub rows_held : vec_len t.rows ≡ length xs
  rows_held = t.rows.ok.0 ∙ ap length h.entries ∙ laid_length 0 0 xs

  pub states_held : vec_len t.owners ≡ total xs
  states_held = t.owners.ok.0 ∙ ap length h.owners ∙ owners_length 0 xs

  offers_held : vec_len t.offers ≡ length (all_offers xs)
  offers_held = t.offers.ok.0 ∙ ap length h.offers

  -- a row more, by its plain numbers
  pub held_more : (u : Tables) (x : Row) (row : RowRead) → row ≡ row_read x
      → vec_items u.rows ≡ vec_items t.rows ++ (entry_of (vec_len t.owners) (vec_len t.offers) row ∷ [])
      → vec_items u.offers ≡ vec_items t.offers ++ x.offers → vec_items u.owners ≡ vec_items t.owners ++ replicate (stay_states row.stay) (vec_len t.rows) → Held u (xs ++ (x ∷ []))
  held_more u x row is e o n =
      let states : vec_len t.owners ≡ 0 + total xs = (let s = states_held in omega arith) in
      let offers : vec_len t.offers ≡ 0 + length (all_offers xs) = (let s = offers_held in omega arith) in
      let rows : vec_len t.rows ≡ 0 + length xs = (let s = rows_held in omega arith) in
      record {
        entries =
            e ∙ ap (λ v. vec_items t.rows ++ (entry_of (vec_len t.owners) (vec_len t.offers) v ∷ [])) is
            ∙ ap₂ (λ v j. v ++ (entry_of j (vec_len t.offers) (row_read x) ∷ [])) h.entries states ∙ ap (λ j. laid 0 0 xs ++ (entry_of (0 + total xs) j (row_read x) ∷ [])) offers ∙ sym (laid_more 0 0 xs x);
        offers = o ∙ ap (λ v. v ++ x.offers) h.offers ∙ sym (offers_more xs x);
        owners = n ∙ ap (λ (v : RowRead). vec_items t.owners ++ replicate (stay_states v.stay) (vec_len t.rows)) is ∙ ap₂ (λ v j. v ++ replicate (size x) j) h.owners rows ∙ sym (owners_more 0 xs x);
      }

pub held_none : (t : Tables) → vec_items t.rows ≡ [] → vec_items t.offers ≡ [] → vec_items t.owners ≡ [] → Held t []
unfolding laid all_offers owners
held_none t e o n = record { entries = e; offers = o; owners = n }

-- tables that hold rows hold just these

rows_again : (s f : ℕ) (front : List Offer) (xs : List Row) → length front ≡ f → map (entry_row (front ++ all_offers xs)) (laid s f xs) ≡ xs
unfolding laid all_offers
rows_again s f front [] l = refl
rows_again s f front (x ∷ xs) l =
    let os = front ++ (x.offers ++ all_offers xs) in
    let cut = drop_at front (x.offers ++ all_offers xs) f l in
    let here : take (length x.offers) (drop f os) ≡ x.offers = ap (take (length x.offers)) cut ∙ take_at x.offers (all_offers xs) (length x.offers) refl in
    let shape : os ≡ (front ++ x.offers) ++ all_offers xs = sym (append_assoc front x.offers (all_offers xs)) in
    let len : length (front ++ x.offers) ≡ f + length x.offers = length-append front x.offers ∙ ap (λ j. j + length x.offers) l in
    let rest : map (entry_row os) (laid (s + size x) (f + length x.offers) xs) ≡ xs
    = ap (λ v. map (entry_row v) (laid (s + size x) (f + length x.offers) xs)) shape ∙ rows_again (s + size x) (f + length x.offers) (front ++ x.offers) xs len in
    head_and_rest x _ xs here rest
  where
    head_and_rest : (x : Row) (os : List Offer) {ys : List Row} (xs : List Row) → os ≡ x.offers → ys ≡ xs → record { stay = x.stay; offers = os } ∷ ys ≡ x ∷ xs
    head_and_rest x os {ys} xs e q = ap (λ (v : List Offer). record { stay = x.stay; offers = v } ∷ ys) e ∙ ap (λ v. x ∷ v) q

pub held_rows : (t : Tables) (xs : List Row) → Held t xs → table_rows t ≡ xs
held_rows t xs h =
    ap (λ (es : List RowEntry). map (entry_row (vec_items t.offers)) es) h.entries
    ∙ ap (λ (os : List Offer). map (entry_row os) (laid 0 0 xs)) h.offers ∙ rows_again 0 0 [] xs refl

laid_firsts : (s f : ℕ) (xs : List Row) → map (λ (e : RowEntry). e.first) (laid s f xs) ≡ firsts s xs
unfolding laid firsts
laid_firsts s f [] = refl
laid_firsts s f (x ∷ xs) = ap (λ v. s ∷ v) (laid_firsts (s + size x) (f + length x.offers) xs)

laid_counts : (s f : ℕ) (xs : List Row) → map (λ (e : RowEntry). e.offers) (laid s f xs) ≡ offer_counts xs
unfolding laid
laid_counts s f [] = refl
laid_counts s f (x ∷ xs) = ap (λ v. length x.offers ∷ v) (laid_counts (s + size x) (f + length x.offers) xs)

-- what a chart's invariant asks of the tables
pub record Sound (t : Tables) : Type 0 where
  pub firsts : entry_firsts t ≡ firsts 0 (table_rows t)
  pub counts : entry_counts t ≡ offer_counts (table_rows t)
  pub owned : vec_items t.owners ≡ owners 0 (table_rows t)

pub held_sound : (t : Tables) (xs : List Row) → Held t xs → Sound t
held_sound t xs h =
    let e = sym (held_rows t xs h) in
    record {
      firsts = ap (map (λ (v : RowEntry). v.first)) h.entries ∙ laid_firsts 0 0 xs ∙ ap (firsts 0) e;
      counts = ap (map (λ (v : RowEntry). v.offers)) h.entries ∙ laid_counts 0 0 xs ∙ ap offer_counts e;
      owned = h.owners ∙ ap (owners 0) e;
    }

pub resting_within : within resting ≡ true
unfolding within in_layout rows_fit offers_fit total
resting_within = refl
