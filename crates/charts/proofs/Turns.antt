-- Readings of one kind, one after another, as the turns of a loop make them.
use Rattle.std.proofs.Common.{◌≡◌, ℕ, suc, ◌+◌, ◌-◌, ◌<◌, List, [], ◌∷◌, ◌++◌, length, drop, Ok, Err, Result, sym, refl, ap, ◌∙◌, subst, arith}
use Rattle.std.specs.List.{sum_by}
use Rattle.std.proofs.lemmas.List.{append-nil, append_assoc, length-append, length-drop, drop-drop}
use Rattle.std.proofs.lemmas.List.Sums.{sum_by_push}
use Rattle.words.specs.declared.fault.WordFault.{WordFault}
use Rattle.words.specs.Reading.{then, mapped}
use Rattle.words.proofs.Results.{then_ok, mapped_ok}
use Rattle.charts.specs.declared.row.Offer.{Offer}
use Rattle.charts.specs.declared.reader.Reader.{Reader}
use Rattle.charts.specs.Reading.{read_offers, read_row, read_rows, row_words}
use Rattle.charts.specs.Reader.{Behind, Reads, one, read_offer}

pub behind_none : (r : Reader) → Behind r r 0
behind_none r = record { rows = refl; place = omega arith; inside = omega arith; rest = refl }

pub behind_more : (r s t : Reader) (a b : ℕ) → Behind r s a → Behind s t b → Behind r t (a + b)
behind_more r s t a b f g =
    let l = ap length f.rest ∙ length-drop a r.cursor.rest.now in
    record {
      rows = g.rows ∙ f.rows;
      place = omega arith;
      inside = omega arith;
      rest = g.rest ∙ ap (drop b) f.rest ∙ drop-drop b a r.cursor.rest.now;
    }

-- R k reads what P reads, k times
pub record Repeats {A : Type 0} (P : ℕ → ℕ → List ℕ → Result A WordFault) (used : A → ℕ) (R : ℕ → ℕ → ℕ → List ℕ → Result (List A) WordFault) : Type 0 where
  pub none : (n p : ℕ) (ws : List ℕ) → R n p 0 ws ≡ Ok []
  pub more : (n p k : ℕ) (ws : List ℕ) → R n p (suc k) ws ≡ then (P n p ws) (λ x. mapped (λ xs. x ∷ xs) (R n (p + used x) k (drop (used x) ws)))

pub offers_repeat : Repeats read_offer (one {A = Offer}) read_offers
unfolding read_offers
offers_repeat = record { none = λ n p ws. refl; more = more }
  where
    more : (n p k : ℕ) (ws : List ℕ) → read_offers n p (suc k) ws ≡ then (read_offer n p ws) (λ o. mapped (λ os. o ∷ os) (read_offers n (p + 1) k (drop 1 ws)))
    more n p k [] = refl
    more n p k (w ∷ ws) = refl

pub rows_repeat : Repeats read_row row_words read_rows
unfolding read_rows
rows_repeat = record { none = λ n p ws. refl; more = λ n p k ws. refl }

-- from the reader r on, i of k turns have read xs, and the reader is s; the other turns read what is left
pub record Turned {A : Type 0} (used : A → ℕ) (R : ℕ → ℕ → ℕ → List ℕ → Result (List A) WordFault) (r s : Reader) (k i : ℕ) (xs : List A) : Type 0 where
  pub count : length xs ≡ i
  pub behind : Behind r s (sum_by used xs)
  pub left : R r.rows r.cursor.place k r.cursor.rest.now ≡ mapped (λ v. xs ++ v) (R s.rows s.cursor.place (k - i) s.cursor.rest.now)

module _ {A : Type 0} {P : ℕ → ℕ → List ℕ → Result A WordFault} {used : A → ℕ} {R : ℕ → ℕ → ℕ → List ℕ → Result (List A) WordFault} (reps : Repeats P used R) (r : Reader) (k : ℕ) where
  abbrev all : Result (List A) WordFault
  all = R r.rows r.cursor.place k r.cursor.rest.now

  same : (z : Result (List A) WordFault) → z ≡ mapped (λ v. [] ++ v) z
  same (Ok v) = refl
  same (Err f) = refl

  pub none_turned : Turned used R r r k 0 []
  none_turned = record { count = refl; behind = behind_none r; left = same all ∙ ap (λ j. mapped (λ v. [] ++ v) (R r.rows r.cursor.place j r.cursor.rest.now)) (let e : k ≡ k - 0 = omega arith in e) }

  module _ (s : Reader) (i : ℕ) (xs : List A) (h : Turned used R r s k i xs) where
    -- the next turn
    next : i < k → all ≡ mapped (λ v. xs ++ v) (then (P s.rows s.cursor.place s.cursor.rest.now) (λ x. mapped (λ xs. x ∷ xs) (R s.rows (s.cursor.place + used x) (k - (i + 1)) (drop (used x) s.cursor.rest.now))))
    next l =
        let e : k - i ≡ suc (k - (i + 1)) = omega arith in
        h.left ∙ ap (λ j. mapped (λ v. xs ++ v) (R s.rows s.cursor.place j s.cursor.rest.now)) e ∙ ap (mapped (λ v. xs ++ v)) (reps.more s.rows s.cursor.place (k - (i + 1)) s.cursor.rest.now)

    joined : (x : A) (z : Result (List A) WordFault) → mapped (λ v. xs ++ v) (mapped (λ v. x ∷ v) z) ≡ mapped (λ v. (xs ++ (x ∷ [])) ++ v) z
    joined x (Ok v) = ap (λ u. Ok u) (sym (append_assoc xs (x ∷ []) v))
    joined x (Err f) = refl

    pub turned_more : i < k → (t : Reader) (x : A) → Reads P used s t (Ok x) → Turned used R r t k (i + 1) (xs ++ (x ∷ []))
    turned_more l t x q =
        let b = q.behind in
        let len = length-append xs (x ∷ []) in
        record {
          count = len ∙ (let c = h.count in omega arith);
          behind = subst (λ j. Behind r t j) (sym (sum_by_push used xs x)) (behind_more r s t (sum_by used xs) (used x) h.behind b);
          left = next l
              ∙ ap (λ z. mapped (λ v. xs ++ v) (then z (λ x. mapped (λ xs. x ∷ xs) (R s.rows (s.cursor.place + used x) (k - (i + 1)) (drop (used x) s.cursor.rest.now))))) (sym q.read)
              ∙ joined x _
              ∙ ap (λ n. mapped (λ v. (xs ++ (x ∷ [])) ++ v) (R n (s.cursor.place + used x) (k - (i + 1)) (drop (used x) s.cursor.rest.now))) (sym b.rows)
              ∙ ap (λ p. mapped (λ v. (xs ++ (x ∷ [])) ++ v) (R t.rows p (k - (i + 1)) (drop (used x) s.cursor.rest.now))) (sym b.place)
              ∙ ap (λ ws. mapped (λ v. (xs ++ (x ∷ [])) ++ v) (R t.rows t.cursor.place (k - (i + 1)) ws)) (sym b.rest);
        }

    pub turn_fails : {t : Reader} {f : WordFault} → i < k → Reads P used s t (Err f) → all ≡ Err f
    turn_fails l q = next l ∙ ap (λ z. mapped (λ v. xs ++ v) (then z (λ x. mapped (λ xs. x ∷ xs) (R s.rows (s.cursor.place + used x) (k - (i + 1)) (drop (used x) s.cursor.rest.now))))) (sym q.read)

    -- what the next turn reads, where all turns read zs
    pub turn_reads : i < k → (zs : List A) → all ≡ Ok zs → (x : A) × (ys : List A) × ((P s.rows s.cursor.place s.cursor.rest.now ≡ Ok x) × (zs ≡ xs ++ (x ∷ ys)))
    turn_reads l zs e =
        let a = mapped_ok (λ v. xs ++ v) _ zs (sym (next l) ∙ e) in
        let b = then_ok (P s.rows s.cursor.place s.cursor.rest.now) _ a.0 a.1.0 in
        let d = mapped_ok (λ v. b.0 ∷ v) _ a.0 b.1.1 in
        (b.0, d.0, (b.1.0, sym a.1.1 ∙ ap (λ v. xs ++ v) (sym d.1.1)))

    pub all_turned : i ≡ k → all ≡ Ok xs
    all_turned e =
        let z : k - i ≡ 0 = omega arith in
        h.left ∙ ap (λ j. mapped (λ v. xs ++ v) (R s.rows s.cursor.place j s.cursor.rest.now)) z
        ∙ ap (mapped (λ v. xs ++ v)) (reps.none s.rows s.cursor.place s.cursor.rest.now) ∙ ap (λ v. Ok v) (append-nil xs)
