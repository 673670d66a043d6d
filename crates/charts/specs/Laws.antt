-- A chart within the limits keeps the laws of a transition source: a proof, which stands here since the law of the source
-- cites it.
use Rattle.std.specs.Prelude.{◌≡◌, ℕ, ◌+◌, ◌<◌, ◌≤◌, true, false, None, ◌⊎◌, List, [], ◌∷◌, ◌++◌, map, length, get_or, Some, ◌==◌, ◌≢◌, nat_le, nat_lt, slice_index_or}
use Rattle.std.proofs.Math.Path.{refl, ap}
use Rattle.std.proofs.Common.{sym, ◌∙◌}
use Rattle.std.proofs.Math.Logic.{inl, inr}
use native.Mathlib.Omega.{arith}
use Rattle.std.specs.List.{AllByRecursion}
use Rattle.std.proofs.ByRecursion.{All-append, All-weaker}
use Rattle.std.proofs.lemmas.Bool.{false≢true, or_from, or_right, cond_both, cond-false, ltb-true, leb-true, ne_eqb, and_parts}
use Rattle.std.proofs.lemmas.Bool.Decides.{nat_tests}
use Rattle.std.proofs.lemmas.List.{append-nil, length-append, length-map, get_or-map}
use Rattle.lts.specs.declared.source.Move.{Move}
use Rattle.lts.specs.Labels.{label, visible}
use Rattle.words.specs.Words.{most_tenths}
use Rattle.lts.specs.Meaning.{Laws, Lawful, no_move}
use Rattle.lts.specs.Answers.{tick_of}
use Rattle.lts.proofs.Parting.{silent, Acts, Parted, relawed}
use Rattle.charts.specs.declared.row.Stay.{Stay}
use Rattle.charts.specs.declared.row.Stay.TheVariants.{Finite, Endless}
use Rattle.charts.specs.declared.row.Offer.{Offer}
use Rattle.charts.specs.Rows.{Row, size, seconds, last_second, total, row_at, first, row_of, second_of, stay_fits, offer_fits, offers_fit, row_fits, within}
use Rattle.charts.specs.Meaning.{arrival, offer_move, closing_move, chart_meaning}
use Rattle.charts.specs.Limits.{Limits, limits_of}
use Rattle.charts.specs.States.{row_inside, row_begun, row_ends, row_fits_at, offer_fits_at}

abbrev pub no_offer : Offer
no_offer = record { label = 0; row = 0 }

pub visible_is_label : (a : ℕ) → visible a ≡ true → label a ≡ true
unfolding visible label
visible_is_label a h = grind (arith, nat_tests)

pub visible_no_tick : (a : ℕ) → visible a ≡ true → a ≢ 128
unfolding visible
visible_no_tick a h = grind (arith, nat_tests)

pub visible_no_tau : (a : ℕ) → visible a ≡ true → a ≢ 0
unfolding visible
visible_no_tau a h = grind (arith, nat_tests)

abbrev Visible : Move ℕ → Type 0
Visible m = visible m.label ≡ true

-- a move with a visible label, to one of n states
abbrev Offered : ℕ → Move ℕ → Type 0
Offered n m = Visible m × (m.target < n)

-- a move that closes a list: τ or a tick
abbrev Closes : ℕ → Move ℕ → Type 0
Closes n c = ((c.label ≡ 0) ⊎ (c.label ≡ 128)) × (c.target < n)

acting : (n : ℕ) (m : Move ℕ) → Offered n m → Acts n m
acting n m h = record { labelled = visible_is_label m.label h.0; no_tick = visible_no_tick m.label h.0; inside = h.1 }

-- none of the offers is a τ
loud : (n : ℕ) (vs : List (Move ℕ)) → AllByRecursion (Offered n) vs → silent vs ≡ false
loud n [] h = refl
loud n (v ∷ vs) h = or_from (v.label == 0) (silent vs) (ne_eqb v.label 0 (visible_no_tau v.label h.0.0)) (loud n vs h.1)

silent_end : (vs : List (Move ℕ)) (t : ℕ) → silent (vs ++ (record { label = 0; target = t } ∷ [])) ≡ true
silent_end [] t = refl
silent_end (v ∷ vs) t = or_right (v.label == 0) _ (silent_end vs t)

-- offers and then a tick, or τ in its place
module _ (n : ℕ) (vs : List (Move ℕ)) (few : length vs ≤ 63) (offers : AllByRecursion (Offered n) vs) (t : ℕ) (inside : t < n) where
  acts : AllByRecursion (Acts n) vs
  acts = All-weaker (Offered n) (Acts n) (acting n) vs offers

  abbrev tick : Move ℕ
  tick = record { label = 128; target = t }

  abbrev tau : Move ℕ
  tau = record { label = 0; target = t }

  ticked : Parted n vs (Some t)
  ticked = record { acting = acts; inside = inside; urgent = λ h. absurd (false≢true (sym (loud n vs offers) ∙ h)); waits = λ _. (t, refl) }

  timed_out : Parted n (vs ++ (tau ∷ [])) None
  unfolding label
  timed_out = record {
    acting = All-append (Acts n) vs (tau ∷ []) acts (record { labelled = refl; no_tick = λ e. omega arith; inside = inside }, tt);
    inside = tt;
    urgent = λ _. refl;
    waits = λ h. absurd (false≢true (sym h ∙ silent_end vs t));
  }

  tick_lawful : Lawful n (vs ++ (tick ∷ []))
  tick_lawful = relawed n vs (Some t) ticked (omega (arith, length-append vs (tick ∷ [])))

  tau_lawful : Lawful n (vs ++ (tau ∷ []))
  tau_lawful = rw (← append-nil (vs ++ (tau ∷ []))) (relawed n (vs ++ (tau ∷ [])) None timed_out (omega (arith, length-append (vs ++ (tau ∷ [])) [], length-append vs (tau ∷ []))))

pub closed_lawful : (n : ℕ) (vs : List (Move ℕ)) (c : Move ℕ) → length vs ≤ 63 → AllByRecursion (Offered n) vs → Closes n c → Lawful n (vs ++ (c ∷ []))
closed_lawful n vs c few offers (inl e, h) = rw e (tau_lawful n vs few offers c.target h)
closed_lawful n vs c few offers (inr e, h) = rw e (tick_lawful n vs few offers c.target h)

-- the tick of a list of offers that is closed by c
pub closed_tick : (vs : List (Move ℕ)) (c : Move ℕ) → AllByRecursion Visible vs → tick_of (vs ++ (c ∷ [])) ≡ tick_of (c ∷ [])
unfolding tick_of
closed_tick [] c h = refl
closed_tick (v ∷ vs) c h =
    cond-false (v.label == 128) (Some v.target) (tick_of (vs ++ (c ∷ []))) (ne_eqb v.label 128 (visible_no_tick v.label h.0)) ∙ closed_tick vs c h.1

-- the state s of a chart
module _ (xs : List Row) (limits : Limits xs) (s : ℕ) (inside : s < total xs) where
  abbrev row : Row
  row = row_at xs (row_of xs s)

  abbrev n : ℕ
  n = length xs

  pub row_in_range : row_fits n row ≡ true
  row_in_range = row_fits_at n xs (row_of xs s) limits.fits (row_inside xs s inside)

  pub stay_in_range : stay_fits n row.stay ≡ true
  stay_in_range = (and_parts _ _ row_in_range).0

  pub few_offers : length row.offers ≤ 62
  few_offers = leb-true _ _ (and_parts _ _ (and_parts _ _ row_in_range).1).0

  pub offers_in_range : offers_fit n row.offers ≡ true
  offers_in_range = (and_parts _ _ (and_parts _ _ row_in_range).1).1

  pub offer_in_range : (k : ℕ) → k < length row.offers → (visible (get_or row.offers k no_offer).label ≡ true) × ((get_or row.offers k no_offer).row < n)
  offer_in_range k h =
      let o = get_or row.offers k no_offer in
      let f = and_parts _ _ (offer_fits_at n row.offers k no_offer offers_in_range h) in
      (f.0, ltb-true o.row n f.1)

  first_inside : (r : ℕ) → r < n → first xs r < total xs
  first_inside r h = let e = row_ends xs r h in omega arith

  -- the law of arrivals: an offer to a row of the chart arrives at a state
  arrival_inside : (o : Offer) → o.row < n → arrival xs o < total xs
  unfolding arrival
  arrival_inside o h = first_inside o.row h

  pub offer_at : (k : ℕ) → k < length row.offers → slice_index_or (map (offer_move xs) row.offers) k no_move ≡ offer_move xs (slice_index_or row.offers k no_offer)
  offer_at k h = get_or-map (offer_move xs) row.offers k no_offer no_move h

  offer_leads_on : (o : Offer) → offer_fits n o ≡ true → Offered (total xs) (offer_move xs o)
  offer_leads_on o h = let f = and_parts _ _ h in (f.0, arrival_inside o (ltb-true o.row n f.1))

  lead_on : (os : List Offer) → offers_fit n os ≡ true → AllByRecursion (Offered (total xs)) (map (offer_move xs) os)
  unfolding offers_fit
  lead_on [] h = tt
  lead_on (o ∷ os) h = let f = and_parts _ _ h in (offer_leads_on o f.0, lead_on os f.1)

  offers_lead_on : AllByRecursion (Offered (total xs)) (map (offer_move xs) row.offers)
  offers_lead_on = lead_on row.offers offers_in_range

  closing : (st : Stay) → row.stay ≡ st → Closes (total xs) (closing_move xs st s (second_of xs s))
  unfolding closing_move
  closing (Finite d t) e =
      cond_both (nat_lt (second_of xs s) (seconds d)) _ _ (Closes (total xs)) (λ q. (inr refl, next (ltb-true (second_of xs s) (seconds d) q))) (λ q. (inl refl, first_inside t timeout))
    where
      next : second_of xs s < seconds d → s + 1 < total xs
      next h =
          let a = row_ends xs (row_of xs s) (row_inside xs s inside) in
          let b = row_begun xs s inside in
          let size_is : size row ≡ seconds d + 1 = ap (λ (v : Stay). last_second v + 1) e in
          omega arith

      timeout : t < n
      timeout = ltb-true t n (and_parts (nat_le d most_tenths) (nat_lt t n) (rw e at stay_in_range)).1
  closing Endless e = (inr refl, inside)

  pub state_lawful : Lawful (total xs) ((chart_meaning xs).moves s)
  state_lawful =
      closed_lawful (total xs) (map (offer_move xs) row.offers) (closing_move xs row.stay s (second_of xs s))
      (omega (arith, few_offers, length-map row.offers (offer_move xs))) offers_lead_on (closing row.stay refl)

  pub state_tick : tick_of ((chart_meaning xs).moves s) ≡ tick_of (closing_move xs row.stay s (second_of xs s) ∷ [])
  state_tick =
      closed_tick (map (offer_move xs) row.offers) (closing_move xs row.stay s (second_of xs s)) (All-weaker (Offered (total xs)) Visible (λ m h. h.0) _ offers_lead_on)

some_states : (xs : List Row) → 1 ≤ length xs → 1 ≤ total xs
unfolding total
some_states [] h = absurd (omega arith)
some_states (x ∷ xs) h = omega arith

pub chart_lawful : (xs : List Row) → within xs ≡ true → Laws (chart_meaning xs)
chart_lawful xs h =
    let l = limits_of xs h in
    record { some = some_states xs l.some; most = l.small; each = λ s i. state_lawful xs l s i }
