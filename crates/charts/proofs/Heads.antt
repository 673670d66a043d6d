-- A row, read as its head and then its offers.
use Rattle.std.proofs.Common.{◌≡◌, ℕ, ◌+◌, ◌<◌, List, length, drop, Ok, Err, Result, sym, refl, ap, ◌∙◌, subst, add_assoc, arith}
use Rattle.std.specs.List.{sum_by}
use Rattle.std.proofs.lemmas.List.Recursion.{is_sum_by}
use Rattle.words.specs.declared.fault.WordFault.{WordFault}
use Rattle.words.specs.Reading.{then, mapped}
use Rattle.words.proofs.Results.{mapped_ok, mapped_err}
use Rattle.charts.specs.declared.row.Stay.{Stay}
use Rattle.charts.specs.declared.row.Offer.{Offer}
use Rattle.charts.specs.declared.reading.RowRead.{RowRead}
use Rattle.charts.specs.declared.reader.Reader.{Reader}
use Rattle.charts.specs.Rows.{Row, stay_words}
use Rattle.charts.specs.Reading.{read_stay, read_count, read_offers, read_row, row_words}
use Rattle.charts.specs.Reader.{Behind, Reads, one, row_read, read_words, head_words, read_head_of, read_offer, read_plain, next_row}
use Rattle.charts.proofs.Exact.{row_of_parts}
use Rattle.charts.proofs.Turns.{Turned, behind_more, offers_repeat, all_turned, turn_fails}

abbrev rest_of : ℕ → ℕ → List ℕ → RowRead → Result Row WordFault
rest_of n p ws h = mapped (row_of_parts h.stay) (read_offers n (p + head_words h) h.offers (drop (head_words h) ws))

by_count : (n p : ℕ) (ws : List ℕ) (st : Stay) (r : Result ℕ WordFault)
    → then r (λ k. mapped (row_of_parts st) (read_offers n (p + stay_words st + 1) k (drop (stay_words st + 1) ws))) ≡ then (mapped (λ k. record { stay = st; offers = k }) r) (rest_of n p ws)
by_count n p ws st (Ok k) = ap (λ j. mapped (row_of_parts st) (read_offers n j k (drop (stay_words st + 1) ws))) (add_assoc p (stay_words st) 1)
by_count n p ws st (Err f) = refl

by_stay : (n p : ℕ) (ws : List ℕ) (r : Result Stay WordFault)
    → then r (λ st. then (read_count (p + stay_words st) (drop (stay_words st) ws)) (λ k. mapped (row_of_parts st) (read_offers n (p + stay_words st + 1) k (drop (stay_words st + 1) ws))))
    ≡ then (then r (λ st. mapped (λ k. record { stay = st; offers = k }) (read_count (p + stay_words st) (drop (stay_words st) ws)))) (rest_of n p ws)
by_stay n p ws (Ok st) = by_count n p ws st (read_count (p + stay_words st) (drop (stay_words st) ws))
by_stay n p ws (Err f) = refl

pub row_by_head : (n p : ℕ) (ws : List ℕ) → read_row n p ws ≡ then (read_head_of n p ws) (rest_of n p ws)
unfolding read_row
row_by_head n p ws = by_stay n p ws (read_stay n p ws)

ones : (os : List Offer) → length os ≡ sum_by one os
ones os = is_sum_by length one refl (λ _ _. omega arith) os

pub head_fails : (r s : Reader) (f : WordFault) → Reads read_head_of head_words r s (Err f) → next_row r ≡ Err f
head_fails r s f h = row_by_head r.rows r.cursor.place r.cursor.rest.now ∙ ap (λ z. then z (rest_of r.rows r.cursor.place r.cursor.rest.now)) (sym h.read)

module _ (r s : Reader) (h : RowRead) (head : Reads read_head_of head_words r s (Ok h)) where
  behind_head : next_row r ≡ mapped (row_of_parts h.stay) (read_offers s.rows s.cursor.place h.offers s.cursor.rest.now)
  behind_head =
      let b = head.behind in
      row_by_head r.rows r.cursor.place r.cursor.rest.now
      ∙ ap (λ z. then z (rest_of r.rows r.cursor.place r.cursor.rest.now)) (sym head.read)
      ∙ ap (λ n. mapped (row_of_parts h.stay) (read_offers n (r.cursor.place + head_words h) h.offers (drop (head_words h) r.cursor.rest.now))) (sym b.rows)
      ∙ ap (λ p. mapped (row_of_parts h.stay) (read_offers s.rows p h.offers (drop (head_words h) r.cursor.rest.now))) (sym b.place)
      ∙ ap (λ ws. mapped (row_of_parts h.stay) (read_offers s.rows s.cursor.place h.offers ws)) (sym b.rest)

  pub head_stay : (x : Row) → next_row r ≡ Ok x → h.stay ≡ x.stay
  head_stay x e =
      let a = mapped_ok (row_of_parts h.stay) _ x (sym behind_head ∙ e) in
      ap (λ (v : Row). v.stay) a.1.1

  module _ (t : Reader) (i : ℕ) (os : List Offer) (turns : Turned one read_offers s t h.offers i os) where
    pub offer_fails : (u : Reader) (f : WordFault) → i < h.offers → Reads read_offer one t u (Err f) → next_row r ≡ Err f
    offer_fails u f l q = behind_head ∙ ap (mapped (row_of_parts h.stay)) (turn_fails offers_repeat s h.offers t i os turns l q)

    pub row_whole : i ≡ h.offers → (next_row r ≡ Ok (row_of_parts h.stay os)) × Behind r t (row_words (row_of_parts h.stay os))
    row_whole e =
        let a = behind_more r s t (head_words h) (sum_by one os) head.behind turns.behind in
        (behind_head ∙ ap (mapped (row_of_parts h.stay)) (all_turned offers_repeat s h.offers t i os turns e), subst (λ j. Behind r t j) (ap (λ j. head_words h + j) (sym (ones os))) a)

-- the same by plain numbers, as the code has it
pub plain_fails : (r s : Reader) (f : WordFault) → next_row r ≡ Err f → Reads read_plain read_words r s (Err f)
plain_fails r s f e = record { read = ap (mapped row_read) (sym e); behind = tt }

pub plain_whole : (r s : Reader) (h : RowRead) → Reads read_head_of head_words r s (Ok h) → (t : Reader) (i : ℕ) (os : List Offer) → Turned one read_offers s t h.offers i os → i ≡ h.offers
    → Reads read_plain read_words r t (Ok h)
plain_whole r s h head t i os turns e =
    let w = row_whole r s h head t i os turns e in
    let n : length os ≡ h.offers = turns.count ∙ e in
    record {
      read = ap (λ k. Ok (record { stay = h.stay; offers = k })) (sym n) ∙ ap (mapped row_read) (sym w.0);
      behind = subst (λ k. Behind r t (head_words h + k)) n w.1;
    }

pub plain_fault : (r s : Reader) (f : WordFault) → Reads read_plain read_words r s (Err f) → Reads read_row row_words r s (Err f)
plain_fault r s f h = record { read = sym (mapped_err row_read (next_row r) f h.read); behind = tt }

pub plain_row : (r s : Reader) (h : RowRead) → Reads read_plain read_words r s (Ok h) → (x : Row) × (h ≡ row_read x) × Reads read_row row_words r s (Ok x)
plain_row r s h q =
    let a = mapped_ok row_read (next_row r) h (sym q.read) in
    (a.0, sym a.1.1, record { read = sym a.1.0; behind = subst (λ (v : RowRead). Behind r s (read_words v)) (sym a.1.1) q.behind })
