-- The reader of charts is put together from readers whose faults name the first word at fault.
use Rattle.std.proofs.Common.{◌≡◌, ℕ, zero, suc, ◌+◌, ◌/◌, ◌^◌, ◌≤◌, Bool, true, false, cond, ◌&&◌, eqb, ltb, leb, ◌⊎◌, List, [], ◌∷◌, length, drop, Ok, Err, Result, sym, refl, ap, ◌∙◌, subst, inl, inr, arith}
use Rattle.std.proofs.lemmas.Bool.{lt-ltb, and_from, eqb-true, eqb-false, eq-eqb, ne_eqb, cases_eq, cond-true, cond-false}
use Rattle.std.proofs.lemmas.Bool.Decides.{nat_tests}
use Rattle.std.proofs.lemmas.List.{drop-drop}
use Rattle.lts.specs.declared.source.Move.{Move}
use Rattle.lts.specs.Labels.{label, visible}
use Rattle.words.specs.declared.fault.WordFault.{WordFault}
use Rattle.words.specs.declared.fault.WordFault.TheVariants.{Length, Form, Range}
use Rattle.words.specs.declared.word.RowHead.{RowHead}
use Rattle.words.specs.declared.word.RowHead.TheVariants.{Dwell, Endless as EndlessHead}
use Rattle.words.specs.Reading.{then, mapped, one_word}
use Rattle.words.specs.Words.{kind, payload, unused_bit, check, counted, most_tenths, arrow_in, row_in, offers_in, rows_in}
use Rattle.words.specs.Encoded.{RowFits, arrow_word, row_word, count_word}
use Rattle.words.proofs.Exact.{arrow_exact, arrow_kind, row_exact, row_back, offers_exact as word_offers_exact, offers_back as word_offers_back, rows_exact as word_rows_exact, rows_back as word_rows_back}
use Rattle.words.proofs.Results.{never_ok, then_by}
use Rattle.words.proofs.Readers.{Reader, Bad, Why, Good, word_good, nothing, named_good, both_good, same_good, never_err}
use Rattle.charts.specs.declared.row.Stay.{Stay}
use Rattle.charts.specs.declared.row.Stay.TheVariants.{Finite, Endless}
use Rattle.charts.specs.declared.row.Offer.{Offer}
use Rattle.charts.specs.Rows.{Row, stay_words}
use Rattle.charts.specs.Reading.{timeout_in, offer_in, read_head, read_stay, read_count, read_offers, read_row, read_rows, row_words, rows_words}
use Rattle.charts.specs.Encoding.{offer_word}
use Rattle.charts.proofs.Exact.{row_of_parts, offer_back, timeout_back}

-- a word that is refused is refused at its place

form_bad : {A : Type 0} (p : ℕ) (f : WordFault) → ◌≡◌ {A = Result A WordFault} (Err (Form p)) (Err f) → Bad f p
form_bad p f e = let q : Form p ≡ f = cc in subst (λ (g : WordFault). Bad g p) q refl

range_bad : {A : Type 0} (p : ℕ) (f : WordFault) → ◌≡◌ {A = Result A WordFault} (Err (Range p)) (Err f) → Bad f p
range_bad p f e = let q : Range p ≡ f = cc in subst (λ (g : WordFault). Bad g p) q refl

check_bad : {A : Type 0} (b : Bool) (g f : WordFault) (p : ℕ) (r : Result A WordFault) → (◌≡◌ {A = Result A WordFault} (Err g) (Err f) → Bad f p) → (r ≡ Err f → Bad f p) → check b g r ≡ Err f → Bad f p
check_bad true g f p r h k e = k e
check_bad false g f p r h k e = h e

ok_bad : {A : Type 0} (a : A) (f : WordFault) (p : ℕ) → ◌≡◌ {A = Result A WordFault} (Ok a) (Err f) → Bad f p
ok_bad a f p e = never_err f a e

then_bad : {A B : Type 0} (r : Result A WordFault) (k : A → Result B WordFault) (f : WordFault) (p : ℕ) → (r ≡ Err f → Bad f p) → ((a : A) → k a ≡ Err f → Bad f p) → then r k ≡ Err f → Bad f p
then_bad (Ok a) k f p h g e = g a e
then_bad (Err d) k f p h g e = h (cc)

cond_bad : {A : Type 0} (b : Bool) (x y : Result A WordFault) (f : WordFault) (p : ℕ) → (x ≡ Err f → Bad f p) → (y ≡ Err f → Bad f p) → cond b x y ≡ Err f → Bad f p
cond_bad true x y f p h k e = h e
cond_bad false x y f p h k e = k e

counted_bad : (due least most p w : ℕ) (f : WordFault) → counted due least most p w ≡ Err f → Bad f p
counted_bad due least most p w f =
    check_bad (eqb (kind w) due) (Form p) f p _ (form_bad {A = ℕ} p f) (check_bad (leb least (payload w) && leb (payload w) most) (Range p) f p _ (range_bad {A = ℕ} p f) (ok_bad (payload w) f p))

arrow_bad : (p w : ℕ) (f : WordFault) → arrow_in p w ≡ Err f → Bad f p
arrow_bad p w f =
    check_bad (eqb (kind w) 11) (Form p) f p _ (form_bad {A = Move ℕ} p f) (check_bad (label (payload w / 2 ^ 20)) (Range p) f p _ (range_bad {A = Move ℕ} p f) (ok_bad _ f p))

row_bad : (p w : ℕ) (f : WordFault) → row_in p w ≡ Err f → Bad f p
row_bad p w f =
    cond_bad (eqb (kind w) 13) _ _ f p
    (check_bad (leb (payload w) most_tenths) (Range p) f p _ (range_bad {A = RowHead} p f) (ok_bad _ f p))
    (check_bad (eqb (kind w) 14 && eqb (payload w) 0) (Form p) f p _ (form_bad {A = RowHead} p f) (ok_bad _ f p))

timeout_bad : (n p w : ℕ) (f : WordFault) → timeout_in n p w ≡ Err f → Bad f p
timeout_bad n p w f = then_bad (arrow_in p w) _ f p (arrow_bad p w f) (λ m. cond_bad (eqb m.label 0 && ltb m.target n) _ _ f p (ok_bad m.target f p) (range_bad {A = ℕ} p f))

offer_bad : (n p w : ℕ) (f : WordFault) → offer_in n p w ≡ Err f → Bad f p
offer_bad n p w f = then_bad (arrow_in p w) _ f p (arrow_bad p w f) (λ m. cond_bad (visible m.label && ltb m.target n) _ _ f p (ok_bad _ f p) (range_bad {A = Offer} p f))

-- why a word is refused

check_err : {A : Type 0} (b : Bool) (g f : WordFault) (r : Result A WordFault) → check b g r ≡ Err f → ((b ≡ false) × (g ≡ f)) ⊎ ((b ≡ true) × (r ≡ Err f))
check_err true g f r e = inr (refl, e)
check_err false g f r e = inl (refl, cc)

form_range : {X : Type 0} (p q : ℕ) → Form p ≡ Range q → X
form_range p q e = absurd (cc)

then_err : {A B X : Type 0} (r : Result A WordFault) (k : A → Result B WordFault) (f : WordFault) → then r k ≡ Err f → (r ≡ Err f → X) → ((a : A) → r ≡ Ok a → k a ≡ Err f → X) → X
then_err (Ok a) k f e h g = g a refl e
then_err (Err d) k f e h g = h (cc)

cond_err : {A X : Type 0} (b : Bool) (a : A) (g f : WordFault) → cond b (Ok a) (Err g) ≡ Err f → (g ≡ f → X) → X
cond_err true a g f e k = never_err f a e
cond_err false a g f e k = k (cc)

counted_form : (due least most p w q : ℕ) → counted due least most p w ≡ Err (Form q) → kind w ≡ due → ⊥
counted_form due least most p w q e k =
    elim (check_err (eqb (kind w) due) (Form p) (Form q) _ e) [
      | inl b ↦ eqb-false (kind w) due b.0 k
      | inr b ↦ elim (check_err (leb least (payload w) && leb (payload w) most) (Range p) (Form q) (Ok (payload w)) b.1) [ inl c ↦ form_range q p (sym c.1) | inr c ↦ never_err (Form q) (payload w) c.1 ]
    ]

counted_range : (due least most p w q : ℕ) → counted due least most p w ≡ Err (Range q) → kind w ≡ due
counted_range due least most p w q e = elim (check_err (eqb (kind w) due) (Form p) (Range q) _ e) [ inl b ↦ form_range p q b.1 | inr b ↦ eqb-true (kind w) due b.0 ]

arrow_form : (p w q : ℕ) → arrow_in p w ≡ Err (Form q) → kind w ≡ 11 → ⊥
arrow_form p w q e k =
    elim (check_err (eqb (kind w) 11) (Form p) (Form q) _ e) [
      | inl b ↦ eqb-false (kind w) 11 b.0 k
      | inr b ↦ elim (check_err (label (payload w / 2 ^ 20)) (Range p) (Form q) _ b.1) [ inl c ↦ form_range q p (sym c.1) | inr c ↦ never_err (Form q) _ c.1 ]
    ]

arrow_range : (p w q : ℕ) → arrow_in p w ≡ Err (Range q) → kind w ≡ 11
arrow_range p w q e = elim (check_err (eqb (kind w) 11) (Form p) (Range q) _ e) [ inl b ↦ form_range p q b.1 | inr b ↦ eqb-true (kind w) 11 b.0 ]

arrow_ok : (p w : ℕ) (m : Move ℕ) → arrow_in p w ≡ Ok m → kind w ≡ 11
arrow_ok p w m e = let x = arrow_exact p w m e in ap kind (sym x.0) ∙ arrow_kind m x.1

timeout_form : (n p w q : ℕ) → timeout_in n p w ≡ Err (Form q) → kind w ≡ 11 → ⊥
timeout_form n p w q e k =
    then_err (arrow_in p w) _ (Form q) e (λ r. arrow_form p w q r k) (λ m r h. cond_err (eqb m.label 0 && ltb m.target n) m.target (Range p) (Form q) h (λ z. form_range q p (sym z)))

timeout_range : (n p w q : ℕ) → timeout_in n p w ≡ Err (Range q) → kind w ≡ 11
timeout_range n p w q e = then_err (arrow_in p w) _ (Range q) e (λ r. arrow_range p w q r) (λ m r h. arrow_ok p w m r)

timeout_ok : (n p w t : ℕ) → timeout_in n p w ≡ Ok t → kind w ≡ 11
timeout_ok n p w t e = then_by (arrow_in p w) _ t e (λ m r h. arrow_ok p w m r)

offer_form : (n p w q : ℕ) → offer_in n p w ≡ Err (Form q) → kind w ≡ 11 → ⊥
offer_form n p w q e k =
    then_err (arrow_in p w) _ (Form q) e (λ r. arrow_form p w q r k) (λ m r h. cond_err (visible m.label && ltb m.target n) _ (Range p) (Form q) h (λ z. form_range q p (sym z)))

offer_range : (n p w q : ℕ) → offer_in n p w ≡ Err (Range q) → kind w ≡ 11
offer_range n p w q e = then_err (arrow_in p w) _ (Range q) e (λ r. arrow_range p w q r) (λ m r h. arrow_ok p w m r)

offer_ok : (n p w : ℕ) (o : Offer) → offer_in n p w ≡ Ok o → kind w ≡ 11
offer_ok n p w o e = then_by (arrow_in p w) _ o e (λ m r h. arrow_ok p w m r)

-- where words of one kind, of which no bit is unused, are due
module _ {A : Type 0} (W : ℕ → ℕ → Result A WordFault) (due : ℕ) (w₀ : ℕ) (a₀ : A) (good : (p : ℕ) → W p w₀ ≡ Ok a₀)
    (ok : (p w : ℕ) (a : A) → W p w ≡ Ok a → kind w ≡ due) (form : (p w q : ℕ) → W p w ≡ Err (Form q) → kind w ≡ due → ⊥)
    (range : (p w q : ℕ) → W p w ≡ Err (Range q) → kind w ≡ due) (used_all : (w : ℕ) → kind w ≡ due → unused_bit w ≡ false) where
  one_kind : (p w : ℕ) (f : WordFault) → W p w ≡ Err f → Why (one_word W) p [] w f
  one_kind p w (Length q) e = tt
  one_kind p w (Form q) e = inl (λ o. form p w q e (sym o.kinds ∙ ok p o.word o.some o.read))
  one_kind p w (Range q) e = (record { word = w₀; kinds = ok p w₀ a₀ (good p) ∙ sym (range p w q e); rest = []; some = a₀; read = good p }, used_all w (range p w q e))

all_used_11 : (w : ℕ) → kind w ≡ 11 → unused_bit w ≡ false
all_used_11 w k = grind (arith, nat_tests)

all_used_12 : (w : ℕ) → kind w ≡ 12 → unused_bit w ≡ false
all_used_12 w k = grind (arith, nat_tests)

all_used_13 : (w : ℕ) → kind w ≡ 13 → unused_bit w ≡ false
all_used_13 w k = grind (arith, nat_tests)

all_used_15 : (w : ℕ) → kind w ≡ 15 → unused_bit w ≡ false
all_used_15 w k = grind (arith, nat_tests)

-- the head of a row is of the kind D or E
row_ok : (h : RowHead) → RowFits h → (kind (row_word h) ≡ 13) ⊎ (kind (row_word h) ≡ 14)
row_ok (Dwell d) f = inl (omega arith)
row_ok EndlessHead f = inr refl

row_form : (p w q : ℕ) → row_in p w ≡ Err (Form q) → ((kind w ≡ 13) → ⊥) × ((kind w ≡ 14) → unused_bit w ≡ true)
row_form p w q e = ((λ k. thirteen k), (λ k. fourteen k))
  where
    thirteen : kind w ≡ 13 → ⊥
    thirteen k =
        let a : check (leb (payload w) most_tenths) (Range p) (Ok (Dwell (payload w))) ≡ Err (Form q) = sym (cond-true (eqb (kind w) 13) _ _ (eq-eqb (kind w) 13 k)) ∙ e in
        elim (check_err (leb (payload w) most_tenths) (Range p) (Form q) (Ok (Dwell (payload w))) a) [ inl c ↦ form_range q p (sym c.1) | inr c ↦ never_err (Form q) (Dwell (payload w)) c.1 ]

    fourteen : kind w ≡ 14 → unused_bit w ≡ true
    fourteen k =
        elim (cases_eq (payload w) 0) [
          | inl z ↦ never_err (Form q) EndlessHead (sym (all_zero z) ∙ e)
          | inr z ↦ grind (arith, nat_tests)
        ]
      where
        all_zero : payload w ≡ 0 → row_in p w ≡ Ok EndlessHead
        all_zero z = grind (arith, nat_tests)

row_range : (p w q : ℕ) → row_in p w ≡ Err (Range q) → kind w ≡ 13
row_range p w q e =
    elim (cases_eq (kind w) 13) [
      | inl k ↦ k
      | inr k ↦ (let a : check (eqb (kind w) 14 && eqb (payload w) 0) (Form p) (Ok EndlessHead) ≡ Err (Range q) = sym (cond-false (eqb (kind w) 13) _ _ (ne_eqb (kind w) 13 k)) ∙ e in
          elim (check_err (eqb (kind w) 14 && eqb (payload w) 0) (Form p) (Range q) (Ok EndlessHead) a) [ inl c ↦ form_range p q c.1 | inr c ↦ never_err (Range q) EndlessHead c.1 ])
    ]

row_why : (p w : ℕ) (f : WordFault) → row_in p w ≡ Err f → Why (one_word row_in) p [] w f
row_why p w (Length q) e = tt
row_why p w (Form q) e =
    elim (cases_eq (kind w) 14) [
      | inl k ↦ inr ((row_form p w q e).1 k)
      | inr k ↦ inl (λ o.
          let x = row_exact p o.word o.some o.read in
          let same = ap kind x.0 ∙ o.kinds in
          elim (row_ok o.some x.1) [ inl a ↦ (row_form p w q e).0 (sym same ∙ a) | inr a ↦ k (sym same ∙ a) ])
    ]
row_why p w (Range q) e =
    let k = row_range p w q e in
    (record { word = row_word (Dwell 0); kinds = sym k; rest = []; some = Dwell 0; read = row_back p (Dwell 0) (omega arith) }, all_used_13 w k)

rows_ok : (p w n : ℕ) → rows_in p w ≡ Ok n → kind w ≡ 12
rows_ok p w n e = let x = word_rows_exact p w n e in let y = x.0 in let l = x.1.1 in omega arith

offers_ok : (p w n : ℕ) → offers_in p w ≡ Ok n → kind w ≡ 15
offers_ok p w n e = let x = word_offers_exact p w n e in let y = x.0 in let l = x.1 in omega arith

-- readings that are the same

then_same : {A B : Type 0} (r : Result A WordFault) (f g : A → Result B WordFault) → ((a : A) → f a ≡ g a) → then r f ≡ then r g
then_same (Ok a) f g h = h a
then_same (Err e) f g h = refl

mapped_same : {A : Type 0} (r : Result A WordFault) → mapped (λ a. a) r ≡ r
mapped_same (Ok a) = refl
mapped_same (Err e) = refl

mapped_then : {A B C : Type 0} (f : B → C) (r : Result A WordFault) (k : A → Result B WordFault) → mapped f (then r k) ≡ then r (λ a. mapped f (k a))
mapped_then f (Ok a) k = refl
mapped_then f (Err e) k = refl

-- among n rows, 1 to 256
module _ (n : ℕ) (some : 1 ≤ n) (few : n ≤ 256) where
  timeout_good : Good (λ (_ : ℕ). 1) (one_word (timeout_in n))
  timeout_good = word_good (λ _. 1) (timeout_in n) (arrow_word (record { label = 0; target = 0 })) 0 (λ p. timeout_back n p 0 few (lt-ltb 0 n some)) (λ _. refl) (timeout_bad n) (one_kind (timeout_in n) 11 (arrow_word (record { label = 0; target = 0 })) 0 (λ p. timeout_back n p 0 few (lt-ltb 0 n some)) (timeout_ok n) (timeout_form n) (timeout_range n) all_used_11)

  abbrev first_offer : Offer
  first_offer = record { label = 1; row = 0 }

  first_offer_read : (p : ℕ) → offer_in n p (offer_word first_offer) ≡ Ok first_offer
  unfolding visible
  first_offer_read p = offer_back n p first_offer few (and_from (visible 1) (ltb 0 n) refl (lt-ltb 0 n some))

  offer_good : Good (λ (_ : Offer). 1) (one_word (offer_in n))
  offer_good =
      word_good (λ _. 1) (offer_in n) (offer_word first_offer) first_offer first_offer_read (λ _. refl) (offer_bad n)
      (one_kind (offer_in n) 11 (offer_word first_offer) first_offer first_offer_read (offer_ok n) (offer_form n) (offer_range n) all_used_11)

  -- behind the head of a row
  behind : Stay → ℕ
  behind (Finite d t) = 1
  behind Endless = 0

  head_reader : RowHead → Reader Stay
  head_reader (Dwell d) p ws = mapped (Finite d) (one_word (timeout_in n) p ws)
  head_reader EndlessHead p ws = Ok Endless

  head_good : (h : RowHead) → Good behind (head_reader h)
  unfolding behind head_reader
  head_good (Dwell d) = named_good (λ _. 1) behind (Finite d) (one_word (timeout_in n)) (λ t. refl) timeout_good
  head_good EndlessHead = nothing behind Endless refl

  abbrev stay_reader : Reader Stay
  stay_reader p ws = then (one_word row_in p ws) (λ h. mapped (λ st. st) (head_reader h (p + 1) (drop 1 ws)))

  stay_uses : (h : RowHead) (st : Stay) → stay_words st ≡ 1 + behind st
  unfolding behind
  stay_uses h (Finite d t) = refl
  stay_uses h Endless = refl

  head_same : (p : ℕ) (ws : List ℕ) (h : RowHead) → mapped (λ st. st) (head_reader h (p + 1) ws) ≡ read_head n p ws h
  unfolding head_reader
  head_same p [] (Dwell d) = refl
  head_same p (w ∷ ws) (Dwell d) = mapped_same (mapped (Finite d) (timeout_in n (p + 1) w))
  head_same p ws EndlessHead = refl

  stay_same : (p : ℕ) (ws : List ℕ) → stay_reader p ws ≡ read_stay n p ws
  stay_same p [] = refl
  stay_same p (w ∷ ws) = then_same (row_in p w) _ _ (head_same p ws)

  stay_good : Good stay_words (read_stay n)
  stay_good =
      same_good stay_words stay_reader (read_stay n) stay_same
      (both_good (λ _. 1) behind stay_words (λ h st. st) (one_word row_in) head_reader stay_uses
      (word_good (λ _. 1) row_in (row_word EndlessHead) EndlessHead (λ p. row_back p EndlessHead tt) (λ _. refl) row_bad row_why) (λ p ws h e. head_good h))

  offers_good : (k : ℕ) → Good length (λ p ws. read_offers n p k ws)
  unfolding read_offers
  offers_good zero = nothing length [] refl
  offers_good (suc k) =
      same_good length _ _ same (both_good (λ _. 1) length length (λ o os. o ∷ os) (one_word (offer_in n)) (λ o p ws. read_offers n p k ws) (λ o os. omega arith) offer_good (λ p ws o e. offers_good k))
    where
      same : (p : ℕ) (ws : List ℕ) → then (one_word (offer_in n) p ws) (λ o. mapped (λ os. o ∷ os) (read_offers n (p + 1) k (drop 1 ws))) ≡ read_offers n p (suc k) ws
      same p [] = refl
      same p (w ∷ ws) = refl

  -- F and the offers
  abbrev list_words : List Offer → ℕ
  list_words os = 1 + length os

  abbrev list_reader : Reader (List Offer)
  list_reader p ws = then (one_word offers_in p ws) (λ k. mapped (λ os. os) (read_offers n (p + 1) k (drop 1 ws)))

  list_good : Good list_words list_reader
  list_good =
      both_good (λ _. 1) length list_words (λ k os. os) (one_word offers_in) (λ k p ws. read_offers n p k ws) (λ k os. refl)
      (word_good (λ _. 1) offers_in (count_word 15 0) 0 (λ p. word_offers_back p 0 (omega arith)) (λ _. refl) (counted_bad 15 0 62)
      (one_kind offers_in 15 (count_word 15 0) 0 (λ p. word_offers_back p 0 (omega arith)) offers_ok (counted_form 15 0 62) (counted_range 15 0 62) all_used_15)) (λ p ws k e. offers_good k)

  count_same : (p : ℕ) (ws : List ℕ) → one_word offers_in p ws ≡ read_count p ws
  count_same p [] = refl
  count_same p (w ∷ ws) = refl

  row_same : (p : ℕ) (ws : List ℕ) → then (read_stay n p ws) (λ st. mapped (row_of_parts st) (list_reader (p + stay_words st) (drop (stay_words st) ws))) ≡ read_row n p ws
  unfolding read_row
  row_same p ws = then_same (read_stay n p ws) _ _ (λ st. at st)
    where
      at : (st : Stay) → mapped (row_of_parts st) (list_reader (p + stay_words st) (drop (stay_words st) ws))
          ≡ then (read_count (p + stay_words st) (drop (stay_words st) ws)) (λ k. mapped (λ os. row_of_parts st os) (read_offers n (p + stay_words st + 1) k (drop (stay_words st + 1) ws)))
      at st =
          mapped_then (row_of_parts st) (one_word offers_in (p + stay_words st) (drop (stay_words st) ws)) _
          ∙ ap (λ r. then r (λ k. mapped (row_of_parts st) (mapped (λ os. os) (read_offers n (p + stay_words st + 1) k (drop 1 (drop (stay_words st) ws)))))) (count_same (p + stay_words st) (drop (stay_words st) ws))
          ∙ then_same (read_count (p + stay_words st) (drop (stay_words st) ws)) _ _ (λ k.
          ap (mapped (row_of_parts st)) (mapped_same (read_offers n (p + stay_words st + 1) k (drop 1 (drop (stay_words st) ws))))
          ∙ ap (λ v. mapped (row_of_parts st) (read_offers n (p + stay_words st + 1) k v)) (drop-drop 1 (stay_words st) ws))

  row_good : Good row_words (read_row n)
  row_good =
      same_good row_words _ (read_row n) row_same
      (both_good stay_words list_words row_words row_of_parts (read_stay n) (λ st. list_reader) (λ st os. omega arith) stay_good (λ p ws st e. list_good))

  pub rows_good : (k : ℕ) → Good rows_words (λ p ws. read_rows n p k ws)
  unfolding read_rows rows_words
  rows_good zero = nothing rows_words [] refl
  rows_good (suc k) = both_good row_words rows_words rows_words (λ x xs. x ∷ xs) (read_row n) (λ x p ws. read_rows n p k ws) (λ x xs. refl) row_good (λ p ws x e. rows_good k)

-- C and the rows
abbrev pub chart_words : List Row → ℕ
chart_words xs = 1 + rows_words xs

abbrev pub chart_reader : Reader (List Row)
chart_reader p ws = then (one_word rows_in p ws) (λ n. mapped (λ xs. xs) (read_rows n (p + 1) n (drop 1 ws)))

pub count_range : (p : ℕ) (ws : List ℕ) (n : ℕ) → one_word rows_in p ws ≡ Ok n → (1 ≤ n) × (n ≤ 256)
count_range p [] n e = never_ok _ n e
count_range p (w ∷ ws) n e = (word_rows_exact p w n e).1

pub chart_good : Good chart_words chart_reader
chart_good =
    both_good (λ _. 1) rows_words chart_words (λ n xs. xs) (one_word rows_in) (λ n p ws. read_rows n p n ws) (λ n xs. refl)
    (word_good (λ _. 1) rows_in (count_word 12 1) 1 (λ p. word_rows_back p 1 (omega arith, omega arith)) (λ _. refl) (counted_bad 12 1 256)
    (one_kind rows_in 12 (count_word 12 1) 1 (λ p. word_rows_back p 1 (omega arith, omega arith)) rows_ok (counted_form 12 1 256) (counted_range 12 1 256) all_used_12))
    (λ p ws n e. rows_good n (count_range p ws n e).0 (count_range p ws n e).1 n)
