-- What a chart's invariant says of its tables, as the questions need it.
use Rattle.std.proofs.Common.{◌≡◌, ℕ, ◌+◌, ◌-◌, ◌<◌, ◌≤◌, List, [], ◌∷◌, map, length, get_or, take, drop, Ok, Err, Option, vec_items, vec_len, sym, ap, ◌∙◌, zero-add, arith}
use Rattle.std.proofs.lemmas.List.{length-map, length-append, length-take, length-drop, get_or_at, get_or_append_left, get_or-map, get_or_default}
use Rattle.std.proofs.lemmas.Bool.{and_parts, ltb-true}
use Rattle.lts.specs.declared.source.Move.{Move}
use Rattle.lts.specs.Answers.{out_of_range, tick_of, move_count, nth_move, tick_target}
use Rattle.lts.specs.Meaning.{no_move}
use Rattle.lts.proofs.Asked.{counted, not_counted, found, no_state, past_moves, ticked, not_ticked}
use Rattle.charts.specs.declared.row.Stay.TheVariants.{Finite, Endless}
use Rattle.charts.specs.declared.row.Offer.{Offer}
use Rattle.charts.specs.declared.tables.RowEntry.{RowEntry}
use Rattle.charts.specs.declared.chart.Chart.{Chart}
use Rattle.charts.specs.declared.source.Standing.{Standing}
use Rattle.charts.specs.Rows.{Row, total, first, row_of, second_of}
use Rattle.charts.specs.Tables.{entry_row}
use Rattle.charts.specs.Meaning.{offer_move, closing_move}
use Rattle.charts.specs.Charts.{rows_of, meaning_of}
use Rattle.charts.specs.Standing.{state_row}
use Rattle.charts.specs.Limits.{Limits, limits_of}
use Rattle.charts.specs.States.{owners_length, owners_at, row_inside, row_begun, firsts_at}
use Rattle.charts.specs.Laws.{offer_in_range, stay_in_range, few_offers, offer_at, state_tick, no_offer}

pub chart_limits : (c : Chart) → Limits (rows_of c)
chart_limits c = limits_of (rows_of c) c.limits

abbrev row_entries : Chart → List RowEntry
row_entries c = vec_items c.tables.rows

abbrev offers : Chart → List Offer
offers c = vec_items c.tables.offers

pub rows_count : (c : Chart) → vec_len c.tables.rows ≡ length (rows_of c)
rows_count c = c.tables.rows.ok.0 ∙ sym (length-map (row_entries c) (entry_row (offers c)))

pub states_count : (c : Chart) → vec_len c.tables.owners ≡ total (rows_of c)
states_count c = c.tables.owners.ok.0 ∙ ap length c.owned ∙ owners_length 0 (rows_of c)

pub few_states : (c : Chart) → total (rows_of c) ≤ 4096
few_states c = (chart_limits c).small

-- the first state of a row, by its entry
pub entry_first : (c : Chart) (r : ℕ) (e : RowEntry) → r < length (rows_of c) → e ≡ get_or (vec_items c.tables.rows) r e → e.first ≡ first (rows_of c) r
entry_first c r e inside is =
    let here : r < length (row_entries c) = omega (arith, length-map (row_entries c) (entry_row (offers c))) in
    cc (get_or-map (λ (v : RowEntry). v.first) (row_entries c) r e 0 here, firsts_at 0 (rows_of c) r inside, zero-add (first (rows_of c) r))

-- the row of a state
module _ (c : Chart) (s r : ℕ) (owner : r ≡ get_or (vec_items c.tables.owners) s r) (owned : s < vec_len c.tables.owners) where
  pub state_inside : s < total (rows_of c)
  state_inside = omega (arith, states_count c)

  owner_is : r ≡ row_of (rows_of c) s
  owner_is =
      let l : s < length (vec_items c.tables.owners) = omega (arith, c.tables.owners.ok.0) in
      cc (get_or_default (vec_items c.tables.owners) s r 0 l, owners_at 0 (rows_of c) s state_inside, zero-add (row_of (rows_of c) s))

  owner_inside : r < length (rows_of c)
  owner_inside = omega (arith, owner_is, row_inside (rows_of c) s state_inside)

  pub owner_fits : r < vec_len c.tables.rows
  owner_fits = omega (arith, rows_count c, owner_inside)

  -- and its entry
  module _ (e : RowEntry) (is : e ≡ get_or (vec_items c.tables.rows) r e) where
    here : r < length (row_entries c)
    here = omega (arith, owner_inside, length-map (row_entries c) (entry_row (offers c)))

    row_is : entry_row (offers c) e ≡ state_row c s
    row_is = cc (get_or-map (entry_row (offers c)) (row_entries c) r e (record { stay = Endless; offers = [] }) here, owner_is)

    first_is : e.first ≡ first (rows_of c) (row_of (rows_of c) s)
    first_is = cc (entry_first c r e owner_inside is, owner_is)

    pub count_is : e.offers ≡ length (state_row c s).offers
    count_is = cc (get_or-map (λ (v : RowEntry). v.offers) (row_entries c) r e 0 here, get_or-map (λ (x : Row). length x.offers) (rows_of c) r (record { stay = Endless; offers = [] }) 0 owner_inside, owner_is)

    pub stay_is : e.stay ≡ (state_row c s).stay
    stay_is = cc row_is

    pub begun : e.first ≤ s
    begun = omega (arith, first_is, row_begun (rows_of c) s state_inside)

    pub second_is : s - e.first ≡ second_of (rows_of c) s
    second_is = cc first_is

    pub offers_are : take e.offers (drop e.from (offers c)) ≡ (state_row c s).offers
    offers_are = cc row_is

-- what the tables say of rows and states
pub ruleset entries = (rows_count, states_count, entry_first, owner_fits, state_inside, begun, second_is, stay_is, count_is, offers_are)

-- what holds of a state of a chart
module _ (t : Standing) where
  abbrev xs : List Row
  xs = rows_of t.chart.now

  pub timeout_row : (d r : ℕ) → t.row.stay ≡ Finite d r → r < length xs
  timeout_row d r e =
      let fits = rw (← t.stays, e) at (stay_in_range xs (chart_limits t.chart.now) t.state t.inside) in
      ltb-true r (length xs) (and_parts _ _ fits).1

  pub few_in : (os : List Offer) → os ≡ (state_row t.chart.now t.state).offers → length os ≤ 62
  few_in os e = rw e (few_offers xs (chart_limits t.chart.now) t.state t.inside)

  -- the part of the table that its row's entry names
  pub part_inside : (t.row.offers ≡ 0 → ⊥) → t.row.from + t.row.offers ≤ vec_len t.chart.now.tables.offers
  part_inside h = omega (arith, ap length t.offered, length-take t.row.offers (drop t.row.from (offers t.chart.now)), length-drop t.row.from (offers t.chart.now), t.chart.now.tables.offers.ok.0)

  pub part_is : take (t.row.from + t.row.offers - t.row.from) (drop t.row.from (offers t.chart.now)) ≡ (state_row t.chart.now t.state).offers
  part_is = ap (λ j. take j (drop t.row.from (offers t.chart.now))) (omega arith) ∙ t.offered

  pub no_part : t.row.offers ≡ 0 → [] ≡ (state_row t.chart.now t.state).offers
  no_part h = rw h at t.offered

  module _ (c : Chart) (s : ℕ) (of : t.chart.now ≡ c) (is : t.state ≡ s) where
    abbrev ms : List (Move ℕ)
    ms = (meaning_of c).moves s

    abbrev closing : Move ℕ
    closing = closing_move (rows_of c) (state_row c s).stay s (second_of (rows_of c) s)

    inside : s < total (rows_of c)
    inside = rw (← of, ← is) t.inside

    closing_of : closing_move (rows_of t.chart.now) t.row.stay t.state t.second ≡ closing
    closing_of = cc

    abbrev count : ℕ
    count = length (state_row c s).offers

    offered_length : length (map (offer_move (rows_of c)) (state_row c s).offers) ≡ count
    offered_length = length-map (state_row c s).offers (offer_move (rows_of c))

    list_length : length ms ≡ count + 1
    list_length = cc (length-append (map (offer_move (rows_of c)) (state_row c s).offers) (closing ∷ []), offered_length)

    nth : (k : ℕ) → k < count + 1 → Ok (get_or ms k no_move) ≡ nth_move (meaning_of c) s k
    nth k h = sym (found (meaning_of c) s k inside (omega (arith, list_length)))

    -- the offers of its row, as a slice
    module _ (os : List Offer) (offered : os ≡ (state_row t.chart.now t.state).offers) where
      offers_of : os ≡ (state_row c s).offers
      offers_of = cc

      pub counts : Ok (length os + 1) ≡ move_count (meaning_of c) s
      counts = cc (list_length, ap length offers_of, counted (meaning_of c) s inside)

      offer_is : (k : ℕ) (o : Offer) → k < length os → o ≡ get_or os k o → o ≡ get_or (state_row c s).offers k no_offer
      offer_is k o h e = cc (get_or_default os k o no_offer h, offers_of)

      offered_in : (k : ℕ) → k < length os → k < count
      offered_in k h = rw (← offers_of) h

      pub offer_row : (k : ℕ) (o : Offer) → k < length os → o ≡ get_or os k o → o.row < length (rows_of c)
      offer_row k o h e = rw (offer_is k o h e) (offer_in_range (rows_of c) (chart_limits c) s inside k (offered_in k h)).1

      pub nth_offer : (k : ℕ) (o : Offer) (m : Move ℕ) → k < length os → o ≡ get_or os k o → m ≡ offer_move (rows_of c) o → Ok m ≡ nth_move (meaning_of c) s k
      nth_offer k o m h e q =
          let l : k < length (map (offer_move (rows_of c)) (state_row c s).offers) = omega (arith, offered_length, offered_in k h) in
          cc (
            offer_is k o h e,
            offer_at (rows_of c) (chart_limits c) s inside k (offered_in k h),
            get_or_append_left (map (offer_move (rows_of c)) (state_row c s).offers) (closing ∷ []) no_move k l,
            nth k (omega (arith, offered_in k h)),
          )

      pub nth_closing : (k : ℕ) (m : Move ℕ) → k ≡ length os → m ≡ closing_move (rows_of t.chart.now) t.row.stay t.state t.second → Ok m ≡ nth_move (meaning_of c) s k
      nth_closing k m h q =
          let e : k ≡ count = h ∙ ap length offers_of in
          cc (get_or_at (map (offer_move (rows_of c)) (state_row c s).offers) closing [] no_move k (offered_length ∙ sym e), nth k (omega arith))

      pub nth_past : (k : ℕ) → length os < k → Err out_of_range ≡ nth_move (meaning_of c) s k
      nth_past k h = sym (past_moves (meaning_of c) s k (omega (arith, list_length, ap length offers_of)))

    pub ticks : (m : Move ℕ) (o : Option ℕ) → m ≡ closing_move (rows_of t.chart.now) t.row.stay t.state t.second → o ≡ tick_of (m ∷ []) → Ok o ≡ tick_target (meaning_of c) s
    ticks m o q h =
        cc (state_tick (rows_of c) (chart_limits c) s inside, ticked (meaning_of c) s inside)

-- the offers of a state as a part of the table
pub ruleset part = (part_inside, part_is, no_part)

-- what the questions are answered
pub ruleset answers = (few_states, timeout_row, few_in, offer_row, counts, nth_offer, nth_closing, nth_past, ticks, not_counted, no_state, not_ticked)
