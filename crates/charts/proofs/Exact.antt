-- The reader takes exactly the words of charts: what it reads, encoded again, is the words, and what was encoded is read back.
use Rattle.std.specs.Prelude.{◌≡◌, ℕ, zero, suc, ◌+◌, ◌^◌, ◌<◌, ◌≤◌, true, cond, ◌&&◌, List, [], ◌∷◌, ◌++◌, map, length, drop, Ok, Err, ◌==◌, nat_lt, refl}
use Rattle.std.proofs.Common.{sym, ap, ap₂, subst, ◌∙◌, arith}
use Rattle.std.proofs.lemmas.Bool.{cond-true, and_from, and_parts, ltb-true, leb-true, eqb-true, le-leb}
use Rattle.std.proofs.lemmas.List.{append_assoc, length-append, length-map, drop_at, drop-drop}
use Rattle.lts.specs.declared.source.Move.{Move}
use Rattle.lts.specs.Labels.{label, visible}
use Rattle.words.specs.declared.fault.WordFault.TheVariants.{Range}
use Rattle.words.specs.declared.word.RowHead.{RowHead}
use Rattle.words.specs.declared.word.RowHead.TheVariants.{Dwell, Endless as EndlessHead}
use Rattle.words.specs.Words.{most_tenths, arrow_in, row_in}
use Rattle.words.specs.Encoded.{RowFits, arrow_word, row_word, count_word}
use Rattle.words.proofs.Exact.{arrow_exact, arrow_back, row_exact, row_back, offers_exact as word_offers_exact, offers_back as word_offers_back}
use Rattle.charts.specs.declared.row.Stay.{Stay}
use Rattle.charts.specs.declared.row.Stay.TheVariants.{Finite, Endless}
use Rattle.charts.specs.declared.row.Offer.{Offer}
use Rattle.charts.specs.Rows.{Row, stay_words, offer_fits, stay_fits, offers_fit, row_fits, rows_fit}
use Rattle.words.specs.Reading.{then, mapped}
use Rattle.charts.specs.Reading.{timeout_in, offer_in, read_timeout, read_head, read_stay, read_count, read_offers, read_row, read_rows, row_words, rows_words}
use Rattle.charts.specs.Laws.{visible_is_label}
use Rattle.charts.specs.Encoding.{offer_word, stay_encoded, row_encoded, rows_encoded}
use Rattle.words.proofs.Results.{then_ok, then_by, mapped_ok, mapped_by, passed, never_ok, same_ok}

tau_label : label 0 ≡ true
unfolding label
tau_label = refl

abbrev pub row_of_parts : Stay → List Offer → Row
row_of_parts st os = record { stay = st; offers = os }

abbrev offer_of : Move ℕ → Offer
offer_of m = record { label = m.label; row = m.target }

pub offer_exact : (n p w : ℕ) (o : Offer) → offer_in n p w ≡ Ok o → (offer_word o ≡ w) × (offer_fits n o ≡ true)
offer_exact n p w o e =
    let a = then_ok (arrow_in p w) (λ m. cond (visible m.label && nat_lt m.target n) (Ok (offer_of m)) (Err (Range p))) o e in
    let b = passed (visible a.0.label && nat_lt a.0.target n) (offer_of a.0) o (Range p) a.1.1 in
    let x = arrow_exact p w a.0 a.1.0 in
    (subst (λ (q : Offer). offer_word q ≡ w) b.1 x.0, subst (λ (q : Offer). offer_fits n q ≡ true) b.1 b.0)

-- words that begin with others
abbrev Begins : List ℕ → List ℕ → Type 0
Begins xs ws = ws ≡ xs ++ drop (length xs) ws

pub offers_exact : (n p k : ℕ) (ws : List ℕ) (os : List Offer) → read_offers n p k ws ≡ Ok os
    → (length os ≡ k) × (offers_fit n os ≡ true) × Begins (map offer_word os) ws
unfolding read_offers offers_fit
offers_exact n p zero ws os e = subst (λ (v : List Offer). (length v ≡ 0) × (offers_fit n v ≡ true) × Begins (map offer_word v) ws) (same_ok [] os e) (refl, refl, refl)
offers_exact n p (suc k) [] os e = never_ok _ os e
offers_exact n p (suc k) (w ∷ ws) os e =
    let a = then_ok (offer_in n p w) (λ o. mapped (λ v. o ∷ v) (read_offers n (p + 1) k ws)) os e in
    let b = mapped_ok (λ v. a.0 ∷ v) (read_offers n (p + 1) k ws) os a.1.1 in
    let x = offer_exact n p w a.0 a.1.0 in
    let y = offers_exact n (p + 1) k ws b.0 b.1.0 in
    subst (λ (v : List Offer). (length v ≡ suc k) × (offers_fit n v ≡ true) × Begins (map offer_word v) (w ∷ ws)) b.1.1
    (ap suc y.0, and_from _ _ x.1 y.1, ap₂ ◌∷◌ (sym x.0) y.2)

pub offer_back : (n p : ℕ) (o : Offer) → n ≤ 256 → offer_fits n o ≡ true → offer_in n p (offer_word o) ≡ Ok o
offer_back n p o few h =
    let v : visible o.label ≡ true = (and_parts _ _ h).0 in
    let l = ltb-true o.row n (and_parts (visible o.label) (nat_lt o.row n) h).1 in
    let small : o.row < 2 ^ 20 = omega arith in
    let m : Move ℕ = record { label = o.label; target = o.row } in
    ap (λ r. then r (λ m. cond (visible m.label && nat_lt m.target n) (Ok (offer_of m)) (Err (Range p)))) (arrow_back p m (visible_is_label o.label v, small))
    ∙ cond-true (visible o.label && nat_lt o.row n) (Ok o) (Err (Range p)) h

pub offers_back : (n p : ℕ) (os : List Offer) (ws : List ℕ) → n ≤ 256 → offers_fit n os ≡ true
    → read_offers n p (length os) (map offer_word os ++ ws) ≡ Ok os
unfolding read_offers offers_fit
offers_back n p [] ws few h = refl
offers_back n p (o ∷ os) ws few h =
    let a = offer_back n p o few (and_parts _ _ h).0 in
    let b = offers_back n (p + 1) os ws few (and_parts _ _ h).1 in
    ap (λ r. then r (λ q. mapped (λ v. q ∷ v) (read_offers n (p + 1) (length os) (map offer_word os ++ ws)))) a
    ∙ ap (mapped (λ v. o ∷ v)) b

begins : (xs ws rest : List ℕ) → ws ≡ xs ++ rest → Begins xs ws
begins xs ws rest e = e ∙ ap (λ v. xs ++ v) (sym (drop_at xs rest (length xs) refl) ∙ ap (drop (length xs)) (sym e))

timeout_exact : (n p w t : ℕ) → timeout_in n p w ≡ Ok t → (arrow_word (record { label = 0; target = t }) ≡ w) × (nat_lt t n ≡ true)
timeout_exact n p w t e =
    let a = then_ok (arrow_in p w) (λ m. cond (m.label == 0 && nat_lt m.target n) (Ok m.target) (Err (Range p))) t e in
    let b = passed (a.0.label == 0 && nat_lt a.0.target n) a.0.target t (Range p) a.1.1 in
    let x = arrow_exact p w a.0 a.1.0 in
    let z = eqb-true a.0.label 0 (and_parts _ _ b.0).0 in
    let l = (and_parts _ _ b.0).1 in
    (ap₂ (λ u v. arrow_word (record { label = u; target = v })) (sym z) (sym b.1) ∙ x.0, subst (λ v. nat_lt v n ≡ true) b.1 l)

Stays : ℕ → List ℕ → Stay → Type 0
Stays n ws st = (stay_fits n st ≡ true) × Begins (stay_encoded st) ws

finite_exact : (n p d w : ℕ) (ws : List ℕ) (st : Stay) → row_word (Dwell d) ≡ w → d ≤ most_tenths → read_timeout n p d ws ≡ Ok st → Stays n (w ∷ ws) st
unfolding Stays
finite_exact n p d w [] st h l e = never_ok _ st e
finite_exact n p d w (b ∷ ws) st h l e =
    let a = mapped_ok (Finite d) (timeout_in n p b) st e in
    let x = timeout_exact n p b a.0 a.1.0 in
    subst (λ (v : Stay). (stay_fits n v ≡ true) × Begins (stay_encoded v) (w ∷ (b ∷ ws))) a.1.1
    (and_from _ _ (le-leb d most_tenths l) x.1, ap₂ (λ u v. u ∷ (v ∷ ws)) (sym h) (sym x.0))

head_exact : (n p w : ℕ) (ws : List ℕ) (h : RowHead) (st : Stay) → row_word h ≡ w → RowFits h → read_head n p ws h ≡ Ok st → Stays n (w ∷ ws) st
unfolding Stays
head_exact n p w ws (Dwell d) st h l e = finite_exact n (p + 1) d w ws st h l e
head_exact n p w ws EndlessHead st h l e =
    subst (λ (v : Stay). (stay_fits n v ≡ true) × Begins (stay_encoded v) (w ∷ ws)) (same_ok Endless st e) (refl, ap (λ u. u ∷ ws) (sym h))

stay_exact : (n p : ℕ) (ws : List ℕ) (st : Stay) → read_stay n p ws ≡ Ok st → Stays n ws st
stay_exact n p [] st e = never_ok _ st e
stay_exact n p (w ∷ ws) st e =
    let a = then_ok (row_in p w) (read_head n p ws) st e in
    let x = row_exact p w a.0 a.1.0 in
    head_exact n p w ws a.0 st x.0 x.1 a.1.1

pub stay_length : (st : Stay) → length (stay_encoded st) ≡ stay_words st
stay_length (Finite d t) = refl
stay_length Endless = refl

count_exact : (p : ℕ) (ws : List ℕ) (k : ℕ) → read_count p ws ≡ Ok k → (ws ≡ count_word 15 k ∷ drop 1 ws) × (k ≤ 62)
count_exact p [] k e = never_ok _ k e
count_exact p (w ∷ ws) k e = let x = word_offers_exact p w k e in (ap (λ u. u ∷ ws) (sym x.0), x.1)

pub row_length : (x : Row) → length (row_encoded x) ≡ row_words x
row_length x = length-append (stay_encoded x.stay) _ ∙ (let e = stay_length x.stay in let f = length-map x.offers offer_word in omega arith)

-- what is read as a row is a row's words, and its fields are in range
pub record RowIsRead (n : ℕ) (ws : List ℕ) (x : Row) : Type 0 where
  pub fits : row_fits n x ≡ true
  pub words : Begins (row_encoded x) ws

row_joined : (n p k : ℕ) (ws : List ℕ) (st : Stay) (os : List Offer)
    → Stays n ws st → read_count (p + stay_words st) (drop (stay_words st) ws) ≡ Ok k → read_offers n (p + stay_words st + 1) k (drop (stay_words st + 1) ws) ≡ Ok os
    → RowIsRead n ws (record { stay = st; offers = os })
unfolding Stays
row_joined n p k ws st os s c o =
    let y = count_exact (p + stay_words st) (drop (stay_words st) ws) k c in
    let z = offers_exact n (p + stay_words st + 1) k (drop (stay_words st + 1) ws) os o in
    let few : length os ≤ 62 = omega (arith, y.1, z.0) in
    let tail = drop (length (map offer_word os)) (drop (stay_words st + 1) ws) in
    let one = ap (λ v. stay_encoded st ++ drop v ws) (stay_length st) in
    let two = ap (λ v. stay_encoded st ++ v) y.0 in
    let three = ap (λ v. stay_encoded st ++ (count_word 15 k ∷ v)) (drop-drop 1 (stay_words st) ws ∙ z.2) in
    let four = ap (λ v. stay_encoded st ++ (count_word 15 v ∷ (map offer_word os ++ tail))) (sym z.0) in
    let five = sym (append_assoc (stay_encoded st) (count_word 15 (length os) ∷ map offer_word os) tail) in
    record {
      fits = and_from _ _ s.0 (and_from _ _ (le-leb (length os) 62 few) z.1);
      words = begins _ ws tail (s.1 ∙ one ∙ two ∙ three ∙ four ∙ five);
    }

-- the three readings of which a row is made
pub record RowParts (n p : ℕ) (ws : List ℕ) (x : Row) : Type 0 where
  pub count : ℕ
  pub stay : read_stay n p ws ≡ Ok x.stay
  pub counted : read_count (p + stay_words x.stay) (drop (stay_words x.stay) ws) ≡ Ok count
  pub offers : read_offers n (p + stay_words x.stay + 1) count (drop (stay_words x.stay + 1) ws) ≡ Ok x.offers

pub row_parts : (n p : ℕ) (ws : List ℕ) (x : Row) → read_row n p ws ≡ Ok x → RowParts n p ws x
unfolding read_row
row_parts n p ws x e =
    then_by (read_stay n p ws) _ x e (λ st a e.
    then_by (read_count (p + stay_words st) (drop (stay_words st) ws)) _ x e (λ k b e.
    mapped_by (λ os. row_of_parts st os) (read_offers n (p + stay_words st + 1) k (drop (stay_words st + 1) ws)) x e (λ os c e.
    subst (λ (v : Row). RowParts n p ws v) e (record { count = k; stay = a; counted = b; offers = c }))))

pub row_exactly : (n p : ℕ) (ws : List ℕ) (x : Row) → read_row n p ws ≡ Ok x → RowIsRead n ws x
row_exactly n p ws x e = by (row_parts n p ws x e)
  where
    by : RowParts n p ws x → RowIsRead n ws x
    by r = row_joined n p r.count ws x.stay x.offers (stay_exact n p ws x.stay r.stay) r.counted r.offers

pub record RowsAreRead (n k : ℕ) (ws : List ℕ) (xs : List Row) : Type 0 where
  pub count : length xs ≡ k
  pub fits : rows_fit n xs ≡ true
  pub words : Begins (rows_encoded xs) ws

pub rows_length : (xs : List Row) → length (rows_encoded xs) ≡ rows_words xs
unfolding rows_encoded rows_words
rows_length [] = refl
rows_length (x ∷ xs) = length-append (row_encoded x) (rows_encoded xs) ∙ ap₂ ◌+◌ (row_length x) (rows_length xs)

rows_joined : (n k : ℕ) (ws : List ℕ) (x : Row) (xs : List Row) → RowIsRead n ws x → RowsAreRead n k (drop (row_words x) ws) xs → RowsAreRead n (suc k) ws (x ∷ xs)
unfolding rows_encoded rows_fit
rows_joined n k ws x xs r q =
    let tail = drop (length (rows_encoded xs)) (drop (row_words x) ws) in
    let one = ap (λ v. row_encoded x ++ drop v ws) (row_length x) in
    let two = ap (λ v. row_encoded x ++ v) q.words in
    record {
      count = ap suc q.count;
      fits = and_from _ _ r.fits q.fits;
      words = begins _ ws tail (r.words ∙ one ∙ two ∙ sym (append_assoc (row_encoded x) (rows_encoded xs) tail));
    }

pub rows_exactly : (n p k : ℕ) (ws : List ℕ) (xs : List Row) → read_rows n p k ws ≡ Ok xs → RowsAreRead n k ws xs
unfolding read_rows rows_encoded rows_fit
rows_exactly n p zero ws xs e = subst (λ (v : List Row). RowsAreRead n 0 ws v) (same_ok [] xs e) (record { count = refl; fits = refl; words = refl })
rows_exactly n p (suc k) ws xs e =
    let a = then_ok (read_row n p ws) (λ x. mapped (λ v. x ∷ v) (read_rows n (p + row_words x) k (drop (row_words x) ws))) xs e in
    let b = mapped_ok (λ v. a.0 ∷ v) (read_rows n (p + row_words a.0) k (drop (row_words a.0) ws)) xs a.1.1 in
    let r = row_exactly n p ws a.0 a.1.0 in
    let q = rows_exactly n (p + row_words a.0) k (drop (row_words a.0) ws) b.0 b.1.0 in
    subst (λ (v : List Row). RowsAreRead n (suc k) ws v) b.1.1 (rows_joined n k ws a.0 b.0 r q)

-- what was encoded is read back

pub timeout_back : (n p t : ℕ) → n ≤ 256 → nat_lt t n ≡ true → timeout_in n p (arrow_word (record { label = 0; target = t })) ≡ Ok t
timeout_back n p t few h =
    let l = ltb-true t n h in
    let small : t < 2 ^ 20 = omega arith in
    ap (λ r. then r (λ m. cond (m.label == 0 && nat_lt m.target n) (Ok m.target) (Err (Range p)))) (arrow_back p (record { label = 0; target = t }) (tau_label, small))
    ∙ cond-true (nat_lt t n) (Ok t) (Err (Range p)) h

stay_back : (n p : ℕ) (st : Stay) (ws : List ℕ) → n ≤ 256 → stay_fits n st ≡ true → read_stay n p (stay_encoded st ++ ws) ≡ Ok st
stay_back n p (Finite d t) ws few h =
    let short = leb-true d most_tenths (and_parts _ _ h).0 in
    ap (λ r. then r (read_head n p (arrow_word (record { label = 0; target = t }) ∷ ws))) (row_back p (Dwell d) short)
    ∙ ap (mapped (Finite d)) (timeout_back n (p + 1) t few (and_parts _ _ h).1)
stay_back n p Endless ws few h = ap (λ r. then r (read_head n p ws)) (row_back p EndlessHead tt)

row_back_from : (n p : ℕ) (x : Row) (ws : List ℕ) → n ≤ 256 → row_fits n x ≡ true → read_row n p (row_encoded x ++ ws) ≡ Ok x
unfolding read_row
row_back_from n p x ws few h =
    let st = x.stay in
    let os = x.offers in
    let all : List ℕ = row_encoded x ++ ws in
    let tail : List ℕ = count_word 15 (length os) ∷ (map offer_word os ++ ws) in
    let shape : all ≡ stay_encoded st ++ tail = append_assoc (stay_encoded st) (count_word 15 (length os) ∷ map offer_word os) ws in
    let h1 = (and_parts _ _ h).0 in
    let h2 = (and_parts _ _ h).1 in
    let few_offers = leb-true (length os) 62 (and_parts _ _ h2).0 in
    let a = ap (read_stay n p) shape ∙ stay_back n p st tail few h1 in
    let cut : drop (stay_words st) all ≡ tail = ap (drop (stay_words st)) shape ∙ drop_at (stay_encoded st) tail (stay_words st) (stay_length st) in
    let cut2 : drop (stay_words st + 1) all ≡ map offer_word os ++ ws = sym (drop-drop 1 (stay_words st) all) ∙ ap (drop 1) cut in
    let b = ap (read_count (p + stay_words st)) cut ∙ word_offers_back (p + stay_words st) (length os) few_offers in
    let c = ap (read_offers n (p + stay_words st + 1) (length os)) cut2 ∙ offers_back n (p + stay_words st + 1) os ws few (and_parts _ _ h2).1 in
    ap (λ r. then r (λ st. then (read_count (p + stay_words st) (drop (stay_words st) all)) (λ k. mapped (λ os. row_of_parts st os) (read_offers n (p + stay_words st + 1) k (drop (stay_words st + 1) all))))) a
    ∙ ap (λ r. then r (λ k. mapped (λ os. row_of_parts st os) (read_offers n (p + stay_words st + 1) k (drop (stay_words st + 1) all)))) b
    ∙ ap (mapped (λ os. row_of_parts st os)) c

pub rows_back : (n p : ℕ) (xs : List Row) (ws : List ℕ) → n ≤ 256 → rows_fit n xs ≡ true → read_rows n p (length xs) (rows_encoded xs ++ ws) ≡ Ok xs
unfolding read_rows rows_encoded rows_fit
rows_back n p [] ws few h = refl
rows_back n p (x ∷ xs) ws few h =
    let all : List ℕ = (row_encoded x ++ rows_encoded xs) ++ ws in
    let shape : all ≡ row_encoded x ++ (rows_encoded xs ++ ws) = append_assoc (row_encoded x) (rows_encoded xs) ws in
    let a = ap (read_row n p) shape ∙ row_back_from n p x (rows_encoded xs ++ ws) few (and_parts _ _ h).0 in
    let cut : drop (row_words x) all ≡ rows_encoded xs ++ ws = ap (drop (row_words x)) shape ∙ drop_at (row_encoded x) (rows_encoded xs ++ ws) (row_words x) (row_length x) in
    let b = ap (read_rows n (p + row_words x) (length xs)) cut ∙ rows_back n (p + row_words x) xs ws few (and_parts _ _ h).1 in
    ap (λ r. then r (λ x. mapped (λ v. x ∷ v) (read_rows n (p + row_words x) (length xs) (drop (row_words x) all)))) a
    ∙ ap (mapped (λ v. x ∷ v)) b
