-- Readers of words whose faults name the first word at fault: up to there the words could still become such as are read,
-- and with the word there they no more can. Whatever is put together from such readers is one.
use Rattle.std.proofs.Common.{◌≡◌, ℕ, suc, ◌+◌, ◌-◌, ◌<◌, ◌≤◌, true, false, ◌⊎◌, List, [], ◌∷◌, ◌++◌, length, get_or, take, drop, Ok, Err, Result, sym, refl, ap, ◌∙◌, subst, inl, inr, add-zero, add_assoc, arith, take-add}
use mathlib.Core.Path.{fun_ext}
use lib.Seq.{take-append-add}
use Rattle.std.proofs.lemmas.Bool.{cases_lt}
use Rattle.std.proofs.lemmas.List.{append_assoc, take-append-drop, length-take-le, length-drop, take-take, take-append-le, drop_at, get_or-drop}
use Rattle.words.specs.declared.fault.WordFault.{WordFault}
use Rattle.words.specs.declared.fault.WordFault.TheVariants.{Length, Form, Range}
use Rattle.words.specs.Faults.{fault_place}
use Rattle.words.specs.Words.{kind, unused_bit}
use Rattle.words.specs.Reading.{then, mapped, one_word}
use Rattle.words.proofs.Results.{never_ok, same_ok, then_by, mapped_by, mapped_err}

-- from the place of the first word, and the words, to what was read, or a fault
abbrev pub Reader : Type 0 → Type 0
Reader A = ℕ → List ℕ → Result A WordFault

-- a fault at the i-th of n words: the words end there, or there is one that is bad
abbrev pub Ends : WordFault → ℕ → ℕ → Type 0
Ends (Length q) i n = i ≡ n
Ends (Form q) i n = i < n
Ends (Range q) i n = i < n

-- behind front, a word of w's kind can stand
pub record GoesOn {A : Type 0} (P : Reader A) (p : ℕ) (front : List ℕ) (w : ℕ) : Type 0 where
  pub word : ℕ
  pub kinds : kind word ≡ kind w
  pub rest : List ℕ
  pub some : A
  pub read : P p (front ++ (word ∷ rest)) ≡ Ok some

-- 2: no word of this kind can stand there, or a bit is set that it does not use; 3: one can, and no such bit is set
abbrev pub Why : {A : Type 0} → Reader A → ℕ → List ℕ → ℕ → WordFault → Type 0
Why P p front w (Length q) = Unit {0}
Why P p front w (Form q) = (GoesOn P p front w → ⊥) ⊎ (unused_bit w ≡ true)
Why P p front w (Range q) = GoesOn P p front w × (unused_bit w ≡ false)

pub record Stops {A : Type 0} (P : Reader A) (p : ℕ) (ws : List ℕ) (f : WordFault) : Type 0 where
  pub at : ℕ
  pub place : fault_place f ≡ p + at
  pub within : at ≤ length ws
  pub ends : Ends f at (length ws)
  pub rest : List ℕ
  pub some : A
  pub more : P p (take at ws ++ rest) ≡ Ok some
  pub never : at < length ws → (v : List ℕ) (a : A) → P p (take (suc at) ws ++ v) ≡ Ok a → ⊥
  pub why : Why P p (take at ws) (get_or ws at 0) f

pub record Good {A : Type 0} (used : A → ℕ) (P : Reader A) : Type 0 where
  -- something is read
  pub sample : ℕ → List ℕ
  pub what : ℕ → A
  pub some : (p : ℕ) → P p (sample p) ≡ Ok (what p)
  -- just the words that are used are looked at
  pub inside : (p : ℕ) (ws : List ℕ) (a : A) → P p ws ≡ Ok a → used a ≤ length ws
  pub local : (p : ℕ) (ws : List ℕ) (a : A) → P p ws ≡ Ok a → (v : List ℕ) → P p (take (used a) ws ++ v) ≡ Ok a
  pub faults : (p : ℕ) (ws : List ℕ) (f : WordFault) → P p ws ≡ Err f → Stops P p ws f

pub never_err : {X E P : Type 0} (e : E) (x : X) → ◌≡◌ {A = Result X E} (Ok x) (Err e) → P
never_err e x p = cc

-- nothing is read
pub nothing : {A : Type 0} (used : A → ℕ) (a : A) → used a ≡ 0 → Good used (λ p ws. Ok a)
nothing used a z = record {
  sample = λ p. [];
  what = λ p. a;
  some = λ p. refl;
  inside = λ p ws b e. let s = ap used (same_ok a b e) in omega arith;
  local = λ p ws b e v. e;
  faults = λ p ws f e. never_err f a e;
}

-- a fault of the word at p
abbrev pub Bad : WordFault → ℕ → Type 0
Bad (Length q) p = ⊥
Bad (Form q) p = q ≡ p
Bad (Range q) p = q ≡ p

module _ {A : Type 0} (used : A → ℕ) (W : ℕ → ℕ → Result A WordFault) (w₀ : ℕ) (a₀ : A) (good : (p : ℕ) → W p w₀ ≡ Ok a₀)
    (uses : (a : A) → used a ≡ 1) (bad : (p w : ℕ) (f : WordFault) → W p w ≡ Err f → Bad f p) (why : (p w : ℕ) (f : WordFault) → W p w ≡ Err f → Why (one_word W) p [] w f) where
  stops : (p w : ℕ) (ws : List ℕ) (f : WordFault) → Bad f p → W p w ≡ Err f → Stops (one_word W) p (w ∷ ws) f
  stops p w ws (Length q) b e = absurd b
  stops p w ws (Form q) b e = record {
    at = 0;
    place = b ∙ sym (add-zero p);
    within = omega arith;
    ends = omega arith;
    rest = w₀ ∷ [];
    some = a₀;
    more = good p;
    never = λ h v a k. never_ok (Form q) a (sym e ∙ k);
    why = why p w (Form q) e;
  }
  stops p w ws (Range q) b e = record {
    at = 0;
    place = b ∙ sym (add-zero p);
    within = omega arith;
    ends = omega arith;
    rest = w₀ ∷ [];
    some = a₀;
    more = good p;
    never = λ h v a k. never_ok (Range q) a (sym e ∙ k);
    why = why p w (Range q) e;
  }

  none : (p : ℕ) → Stops (one_word W) p [] (Length p)
  none p = record {
    at = 0;
    place = sym (add-zero p);
    within = omega arith;
    ends = refl;
    rest = w₀ ∷ [];
    some = a₀;
    more = good p;
    never = λ h v a k. absurd (omega arith);
    why = tt;
  }

  inside_one : (p : ℕ) (ws : List ℕ) (a : A) → one_word W p ws ≡ Ok a → used a ≤ length ws
  inside_one p [] a e = never_ok _ a e
  inside_one p (w ∷ ws) a e = omega (arith, uses a)

  local_one : (p : ℕ) (ws : List ℕ) (a : A) → one_word W p ws ≡ Ok a → (v : List ℕ) → one_word W p (take (used a) ws ++ v) ≡ Ok a
  local_one p [] a e v = never_ok _ a e
  local_one p (w ∷ ws) a e v = subst (λ j. one_word W p (take j (w ∷ ws) ++ v) ≡ Ok a) (sym (uses a)) e

  faults_one : (p : ℕ) (ws : List ℕ) (f : WordFault) → one_word W p ws ≡ Err f → Stops (one_word W) p ws f
  faults_one p [] f e = subst (λ (g : WordFault). Stops (one_word W) p [] g) (cc) (none p)
  faults_one p (w ∷ ws) f e = stops p w ws f (bad p w f e) e

  pub word_good : Good used (one_word W)
  word_good = record { sample = λ p. w₀ ∷ []; what = λ p. a₀; some = good; inside = inside_one; local = local_one; faults = faults_one }

-- the result under another name
module _ {A B : Type 0} (ua : A → ℕ) (ub : B → ℕ) (g : A → B) (P : Reader A) (uses : (a : A) → ub (g a) ≡ ua a) (G : Good ua P) where
  abbrev Named : ℕ → List ℕ → Result B WordFault
  Named p ws = mapped g (P p ws)

  why_named : (p : ℕ) (front : List ℕ) (w : ℕ) (f : WordFault) → Why P p front w f → Why Named p front w f
  why_named p front w (Length q) y = tt
  why_named p front w (Form q) (inl n) = inl (λ o. mapped_by g (P p (front ++ (o.word ∷ o.rest))) o.some o.read (λ a r _. n (record { word = o.word; kinds = o.kinds; rest = o.rest; some = a; read = r })))
  why_named p front w (Form q) (inr u) = inr u
  why_named p front w (Range q) (o, u) = (record { word = o.word; kinds = o.kinds; rest = o.rest; some = g o.some; read = ap (mapped g) o.read }, u)

  stops_named : (p : ℕ) (ws : List ℕ) (f : WordFault) → Stops P p ws f → Stops Named p ws f
  stops_named p ws f s = record {
    at = s.at;
    place = s.place;
    within = s.within;
    ends = s.ends;
    rest = s.rest;
    some = g s.some;
    more = ap (mapped g) s.more;
    never = λ h v b e. mapped_by g (P p (take (suc s.at) ws ++ v)) b e (λ a q _. s.never h v a q);
    why = why_named p (take s.at ws) (get_or ws s.at 0) f s.why;
  }

  pub named_good : Good ub Named
  named_good = record {
    sample = G.sample;
    what = λ p. g (G.what p);
    some = λ p. ap (mapped g) (G.some p);
    inside = λ p ws b e. mapped_by g (P p ws) b e (λ a q k. let h = G.inside p ws a q in let u = uses a in let m = ap ub k in omega arith);
    local = λ p ws b e v. mapped_by g (P p ws) b e (λ a q k. subst (λ (c : B). Named p (take (ub c) ws ++ v) ≡ Ok c) k (subst (λ j. Named p (take j ws ++ v) ≡ Ok (g a)) (sym (uses a)) (ap (mapped g) (G.local p ws a q v))));
    faults = λ p ws f e. stops_named p ws f (G.faults p ws f (mapped_err g (P p ws) f (sym e)));
  }

-- what is read after a fault is mended goes beyond it: had the words before it sufficed, there were no fault
module _ {A : Type 0} (used : A → ℕ) (P : Reader A) (G : Good used P) (p : ℕ) (ws : List ℕ) (f : WordFault) (err : P p ws ≡ Err f)
    (at : ℕ) (within : at ≤ length ws) (rest : List ℕ) (a : A) (more : P p (take at ws ++ rest) ≡ Ok a) where
  before : length (take at ws) ≡ at
  before = length-take-le at ws within

  whole : used a ≤ at → P p ws ≡ Ok a
  whole l =
      let n = used a in
      let le : n ≤ length (take at ws) = omega (arith, before) in
      let same : take n (take at ws ++ rest) ≡ take n ws = take-append-le n (take at ws) rest le ∙ take-take n at ws (omega arith) in
      ap (P p) (sym (ap (λ u. u ++ drop n ws) same ∙ take-append-drop n ws)) ∙ G.local p (take at ws ++ rest) a more (drop n ws)

  pub goes_beyond : at < used a
  goes_beyond = elim (cases_lt at (used a)) [ inl l ↦ l | inr l ↦ absurd (never_ok f a (sym err ∙ whole l)) ]

  pub words_beyond : take (used a) (take at ws ++ rest) ≡ take at ws ++ take (used a - at) rest
  words_beyond =
      let sum : used a ≡ length (take at ws) + (used a - at) = omega (arith, goes_beyond, before) in
      ap (λ j. take j (take at ws ++ rest)) sum ∙ take-append-add (take at ws) rest (used a - at)

-- with a word in the place of the one at fault
module _ {A : Type 0} (used : A → ℕ) (P : Reader A) (G : Good used P) (p : ℕ) (ws : List ℕ) (f : WordFault) (err : P p ws ≡ Err f)
    (at : ℕ) (within : at ≤ length ws) (o : GoesOn P p (take at ws) (get_or ws at 0)) where
  pub word_beyond : take (used o.some) (take at ws ++ (o.word ∷ o.rest)) ≡ take at ws ++ (o.word ∷ take (used o.some - suc at) o.rest)
  word_beyond =
      let l = goes_beyond used P G p ws f err at within (o.word ∷ o.rest) o.some o.read in
      let one : used o.some - at ≡ suc (used o.some - suc at) = omega arith in
      words_beyond used P G p ws f err at within (o.word ∷ o.rest) o.some o.read ∙ ap (λ j. take at ws ++ take j (o.word ∷ o.rest)) one

-- one reader, and behind its words another
module _ {A B C : Type 0} (ua : A → ℕ) (ub : B → ℕ) (uc : C → ℕ) (g : A → B → C) (P : Reader A) (Q : A → Reader B)
    (uses : (a : A) (b : B) → uc (g a b) ≡ ua a + ub b) (G : Good ua P) (H : (p : ℕ) (ws : List ℕ) (a : A) → P p ws ≡ Ok a → Good ub (Q a)) where
  abbrev pub Both : Reader C
  Both p ws = then (P p ws) (λ a. mapped (g a) (Q a (p + ua a) (drop (ua a) ws)))

  -- the first words are read, and the second behind them
  joined : (p : ℕ) (front back : List ℕ) (a : A) (b : B) → length front ≡ ua a → P p (front ++ back) ≡ Ok a → Q a (p + ua a) back ≡ Ok b → Both p (front ++ back) ≡ Ok (g a b)
  joined p front back a b l e q =
      ap (λ r. then r (λ a. mapped (g a) (Q a (p + ua a) (drop (ua a) (front ++ back))))) e
      ∙ ap (λ v. mapped (g a) (Q a (p + ua a) v)) (drop_at front back (ua a) l) ∙ ap (mapped (g a)) q

  front_length : (p : ℕ) (ws : List ℕ) (a : A) → P p ws ≡ Ok a → length (take (ua a) ws) ≡ ua a
  front_length p ws a e = length-take-le (ua a) ws (G.inside p ws a e)

  -- where something is read, the sample of the second goes behind it
  extended : (p : ℕ) (ws : List ℕ) (a : A) (e : P p ws ≡ Ok a) → Both p (take (ua a) ws ++ (H p ws a e).sample (p + ua a)) ≡ Ok (g a ((H p ws a e).what (p + ua a)))
  extended p ws a e = joined p (take (ua a) ws) ((H p ws a e).sample (p + ua a)) a ((H p ws a e).what (p + ua a)) (front_length p ws a e) (G.local p ws a e _) ((H p ws a e).some (p + ua a))

  inside_both : (p : ℕ) (ws : List ℕ) (c : C) → Both p ws ≡ Ok c → uc c ≤ length ws
  inside_both p ws c e =
      then_by (P p ws) _ c e (λ a q e.
      mapped_by (g a) (Q a (p + ua a) (drop (ua a) ws)) c e (λ b k e.
      let x = G.inside p ws a q in
      let y = (H p ws a q).inside (p + ua a) (drop (ua a) ws) b k in
      let l = length-drop (ua a) ws in
      let u = uses a b in
      let m = ap uc e in
      omega arith))

  local_both : (p : ℕ) (ws : List ℕ) (c : C) → Both p ws ≡ Ok c → (v : List ℕ) → Both p (take (uc c) ws ++ v) ≡ Ok c
  local_both p ws c e v =
      then_by (P p ws) _ c e (λ a q e.
      mapped_by (g a) (Q a (p + ua a) (drop (ua a) ws)) c e (λ b k e.
      let shape : take (ua a + ub b) ws ++ v ≡ take (ua a) ws ++ (take (ub b) (drop (ua a) ws) ++ v)
      = ap (λ u. u ++ v) (take-add (ua a) (ub b) ws) ∙ append_assoc (take (ua a) ws) (take (ub b) (drop (ua a) ws)) v in
      let here = joined p (take (ua a) ws) (take (ub b) (drop (ua a) ws) ++ v) a b (front_length p ws a q) (G.local p ws a q _) ((H p ws a q).local (p + ua a) (drop (ua a) ws) b k v) in
      subst (λ (z : C). Both p (take (uc z) ws ++ v) ≡ Ok z) e
      (subst (λ j. Both p (take j ws ++ v) ≡ Ok (g a b)) (sym (uses a b)) (ap (Both p) shape ∙ here))))

  -- the first reader is at fault
  first_why : (p : ℕ) (ws : List ℕ) (f : WordFault) → P p ws ≡ Err f → (at : ℕ) → at ≤ length ws → (g : WordFault) → Why P p (take at ws) (get_or ws at 0) g → Why Both p (take at ws) (get_or ws at 0) g
  first_why p ws f e at within (Length q) y = tt
  first_why p ws f e at within (Form q) (inl n) =
      inl (λ o. then_by (P p (take at ws ++ (o.word ∷ o.rest))) _ o.some o.read (λ a r _. n (record { word = o.word; kinds = o.kinds; rest = o.rest; some = a; read = r })))
  first_why p ws f e at within (Form q) (inr u) = inr u
  first_why p ws f e at within (Range q) (o, u) =
      let list = take at ws ++ (o.word ∷ o.rest) in
      let a = o.some in
      let sample = (H p list a o.read).sample (p + ua a) in
      let shape = word_beyond ua P G p ws f e at within o in (
        record {
          word = o.word;
          kinds = o.kinds;
          rest = take (ua a - suc at) o.rest ++ sample;
          some = g a ((H p list a o.read).what (p + ua a));
          read = ap (Both p) (sym (ap (λ v. v ++ sample) shape ∙ append_assoc (take at ws) (o.word ∷ take (ua a - suc at) o.rest) sample)) ∙ extended p list a o.read;
        },
        u,
      )

  first_stops : (p : ℕ) (ws : List ℕ) (f : WordFault) → P p ws ≡ Err f → Stops P p ws f → Stops Both p ws f
  first_stops p ws f e s =
      let list = take s.at ws ++ s.rest in
      let a = s.some in
      let sample = (H p list a s.more).sample (p + ua a) in
      let shape = words_beyond ua P G p ws f e s.at s.within s.rest s.some s.more in
      record {
        at = s.at;
        place = s.place;
        within = s.within;
        ends = s.ends;
        rest = take (ua a - s.at) s.rest ++ sample;
        some = g a ((H p list a s.more).what (p + ua a));
        more = ap (Both p) (sym (ap (λ u. u ++ sample) shape ∙ append_assoc (take s.at ws) (take (ua a - s.at) s.rest) sample)) ∙ extended p list a s.more;
        never = λ h v c k. then_by (P p (take (suc s.at) ws ++ v)) _ c k (λ b q _. s.never h v b q);
        why = first_why p ws f e s.at s.within f s.why;
      }

  ends_later : (f : WordFault) (u i n : ℕ) → u ≤ n → Ends f i (n - u) → Ends f (u + i) n
  ends_later (Length q) u i n l e = omega arith
  ends_later (Form q) u i n l e = omega arith
  ends_later (Range q) u i n l e = omega arith

  -- what is read where the first words are those of a: these, and then the second
  second_read : {X : Type 0} (p : ℕ) (ws tail : List ℕ) (a : A) (c : C) → P p ws ≡ Ok a → Both p (take (ua a) ws ++ tail) ≡ Ok c → ((d : B) → Q a (p + ua a) tail ≡ Ok d → X) → X
  second_read p ws tail a c e k go =
      then_by (P p (take (ua a) ws ++ tail)) _ c k (λ b q k.
      let same : b ≡ a = same_ok b a (sym q ∙ G.local p ws a e tail) in
      mapped_by (g b) (Q b (p + ua b) (drop (ua b) (take (ua a) ws ++ tail))) c k (λ d r _.
      go d (sym (ap (Q a (p + ua a)) (drop_at (take (ua a) ws) tail (ua a) (front_length p ws a e))) ∙ subst (λ (z : A). Q z (p + ua z) (drop (ua z) (take (ua a) ws ++ tail)) ≡ Ok d) same r)))

  second_why : (p : ℕ) (ws : List ℕ) (a : A) → P p ws ≡ Ok a → (front : List ℕ) (w : ℕ) (f : WordFault) → Why (Q a) (p + ua a) front w f → Why Both p (take (ua a) ws ++ front) w f
  second_why p ws a e front w (Length q) y = tt
  second_why p ws a e front w (Form q) (inl n) =
      inl (λ o. second_read p ws (front ++ (o.word ∷ o.rest)) a o.some e (ap (Both p) (sym (append_assoc (take (ua a) ws) front (o.word ∷ o.rest))) ∙ o.read) (λ d r. n (record { word = o.word; kinds = o.kinds; rest = o.rest; some = d; read = r })))
  second_why p ws a e front w (Form q) (inr u) = inr u
  second_why p ws a e front w (Range q) (o, u) = (
    record {
      word = o.word;
      kinds = o.kinds;
      rest = o.rest;
      some = g a o.some;
      read = ap (Both p) (append_assoc (take (ua a) ws) front (o.word ∷ o.rest)) ∙ joined p (take (ua a) ws) (front ++ (o.word ∷ o.rest)) a o.some (front_length p ws a e) (G.local p ws a e _) o.read;
    },
    u,
  )

  -- the second reader is at fault
  second_stops : (p : ℕ) (ws : List ℕ) (f : WordFault) (a : A) → P p ws ≡ Ok a → Stops (Q a) (p + ua a) (drop (ua a) ws) f → Stops Both p ws f
  second_stops p ws f a e s =
      let u = ua a in
      let lu = G.inside p ws a e in
      let ld = length-drop u ws in
      let shape : (v : List ℕ) → take (u + s.at) ws ++ v ≡ take u ws ++ (take s.at (drop u ws) ++ v)
      = λ v. ap (λ z. z ++ v) (take-add u s.at ws) ∙ append_assoc (take u ws) (take s.at (drop u ws)) v in
      let shape2 : (v : List ℕ) → take (suc (u + s.at)) ws ++ v ≡ take u ws ++ (take (suc s.at) (drop u ws) ++ v)
      = λ v. ap (λ j. take j ws ++ v) (next u s.at) ∙ ap (λ z. z ++ v) (take-add u (suc s.at) ws) ∙ append_assoc (take u ws) (take (suc s.at) (drop u ws)) v in
      record {
        at = u + s.at;
        place = s.place ∙ add_assoc p u s.at;
        within = omega (arith, s.within);
        ends = ends_later f u s.at (length ws) lu (subst (λ j. Ends f s.at j) ld s.ends);
        rest = s.rest;
        some = g a s.some;
        more = ap (Both p) (shape s.rest) ∙ joined p (take u ws) (take s.at (drop u ws) ++ s.rest) a s.some (front_length p ws a e) (G.local p ws a e _) s.more;
        never = λ h v c k. second_read p ws (take (suc s.at) (drop u ws) ++ v) a c e (sym (ap (Both p) (shape2 v)) ∙ k) (λ d r. s.never (omega (arith, ld)) v d r);
        why = subst (λ (v : List ℕ). Why Both p v (get_or ws (u + s.at) 0) f) (sym (take-add u s.at ws))
            (subst (λ w. Why Both p (take u ws ++ take s.at (drop u ws)) w f) (get_or-drop u ws s.at 0) (second_why p ws a e (take s.at (drop u ws)) (get_or (drop u ws) s.at 0) f s.why));
      }
    where
      next : (u i : ℕ) → suc (u + i) ≡ u + suc i
      next u i = omega arith

  err_by : {X : Type 0} (p : ℕ) (ws : List ℕ) (r : Result A WordFault) (f : WordFault) → then r (λ a. mapped (g a) (Q a (p + ua a) (drop (ua a) ws))) ≡ Err f
      → (r ≡ Err f → X) → ((a : A) → r ≡ Ok a → Q a (p + ua a) (drop (ua a) ws) ≡ Err f → X) → X
  err_by p ws (Ok a) f e k h = h a refl (mapped_err (g a) (Q a (p + ua a) (drop (ua a) ws)) f (sym e))
  err_by p ws (Err d) f e k h = k (cc)

  pub both_good : Good uc Both
  both_good = record {
    sample = λ p. take (ua (G.what p)) (G.sample p) ++ (H p (G.sample p) (G.what p) (G.some p)).sample (p + ua (G.what p));
    what = λ p. g (G.what p) ((H p (G.sample p) (G.what p) (G.some p)).what (p + ua (G.what p)));
    some = λ p. extended p (G.sample p) (G.what p) (G.some p);
    inside = inside_both;
    local = local_both;
    faults = λ p ws f e. err_by p ws (P p ws) f e (λ q. first_stops p ws f q (G.faults p ws f q)) (λ a q k. second_stops p ws f a q ((H p ws a q).faults (p + ua a) (drop (ua a) ws) f k));
  }

-- a reader that reads the same
pub same_good : {A : Type 0} (used : A → ℕ) (P Q : Reader A) → ((p : ℕ) (ws : List ℕ) → P p ws ≡ Q p ws) → Good used P → Good used Q
same_good used P Q e G = subst (λ (R : ℕ → List ℕ → Result _ WordFault). Good used R) (fun_ext (λ p. fun_ext (λ ws. e p ws))) G
