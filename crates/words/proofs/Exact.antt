-- Decoding is exact, for each decoder: what it finds is what the word was made of, and it finds that in the word.
use Rattle.std.proofs.Common.{◌≡◌, ℕ, ◌/◌, ◌%◌, ◌^◌, ◌<◌, ◌≤◌, Bool, true, false, cond, eqb, IfOk, Ok, Result, refl, inl, inr, arith}
use Rattle.std.proofs.lemmas.Result.{IfOk-at_ok}
use Rattle.std.proofs.lemmas.Bool.Decides.{eqb_tells, nat_tests}
use Rattle.lts.specs.declared.source.Move.{Move}
use Rattle.lts.specs.Labels.{label}
use Rattle.words.specs.declared.fault.WordFault.{WordFault}
use Rattle.words.specs.declared.fault.WordFault.TheVariants.{Form}
use Rattle.words.specs.declared.term.Delay.{Delay}
use Rattle.words.specs.declared.term.Delay.TheVariants.{Constant, Plus, Less}
use Rattle.words.specs.declared.term.Operator.{Operator}
use Rattle.words.specs.declared.term.Operator.TheVariants.{Nil, Prefix, Delay as Delayed, Sum, Compose, Restrict, Relabel, Refer}
use Rattle.words.specs.declared.word.RowHead.{RowHead}
use Rattle.words.specs.declared.word.RowHead.TheVariants.{Dwell, Endless}
use Rattle.words.specs.Words.{kind, payload, check, counted, definitions_in, states_in, moves_in, rows_in, offers_in, arrow_in, row_in}
use Rattle.words.specs.Operators.{bare_in, prefix_in, delay_in, restrict_in, relabel_in, operator_in}
use Rattle.words.specs.Encoded.{Between, count_word, arrow_word, row_word, delay_word, operator_word, ArrowFits, RowFits, DelayFits, OperatorFits}

counted_exact : (due least most place w n : ℕ) → counted due least most place w ≡ Ok n → (count_word due n ≡ w) × Between least most n
counted_exact due least most place w n e = grind (arith, nat_tests)

counted_back : (due least most place n : ℕ) → most < 2 ^ 28 → Between least most n → counted due least most place (count_word due n) ≡ Ok n
counted_back due least most place n small f = grind (arith, nat_tests)

pub rows_exact : (place w n : ℕ) → rows_in place w ≡ Ok n → (count_word 12 n ≡ w) × Between 1 256 n
rows_exact = counted_exact 12 1 256

pub rows_back : (place n : ℕ) → Between 1 256 n → rows_in place (count_word 12 n) ≡ Ok n
rows_back place n = counted_back 12 1 256 place n (omega arith)

pub offers_exact : (place w n : ℕ) → offers_in place w ≡ Ok n → (count_word 15 n ≡ w) × (n ≤ 62)
offers_exact place w n e = let h = counted_exact 15 0 62 place w n e in (h.0, h.1.1)

pub offers_back : (place n : ℕ) → n ≤ 62 → offers_in place (count_word 15 n) ≡ Ok n
offers_back place n m = counted_back 15 0 62 place n (omega arith) (omega arith, m)

label_small : (a : ℕ) → label a ≡ true → a ≤ 128
unfolding label
label_small a e = grind (arith, nat_tests)

pub arrow_exact : (place w : ℕ) (m : Move ℕ) → arrow_in place w ≡ Ok m → (arrow_word m ≡ w) × ArrowFits m
arrow_exact place w m e = grind (arith, nat_tests)

pub arrow_kind : (m : Move ℕ) → ArrowFits m → kind (arrow_word m) ≡ 11
arrow_kind m f = omega (arith, label_small m.label f.0)

pub arrow_back : (place : ℕ) (m : Move ℕ) → ArrowFits m → arrow_in place (arrow_word m) ≡ Ok m
arrow_back place m f =
    let small : m.label ≤ 128 = label_small m.label f.0 in
    let k : kind (arrow_word m) ≡ 11 = arrow_kind m f in
    let l : payload (arrow_word m) / 2 ^ 20 ≡ m.label = omega arith in
    let t : payload (arrow_word m) % 2 ^ 20 ≡ m.target = omega arith in
    simp (k, l, t, f.0)

pub row_exact : (place w : ℕ) (h : RowHead) → row_in place w ≡ Ok h → (row_word h ≡ w) × RowFits h
row_exact place w (Dwell t) e = grind (arith, nat_tests)
row_exact place w Endless e = grind (arith, nat_tests)

pub row_back : (place : ℕ) (h : RowHead) → RowFits h → row_in place (row_word h) ≡ Ok h
row_back place (Dwell t) f = grind (arith, nat_tests)
row_back place Endless f = refl

pub definitions_exact : (place w n : ℕ) → definitions_in place w ≡ Ok n → (count_word 8 n ≡ w) × (n ≤ 256)
definitions_exact place w n e = let h = counted_exact 8 0 256 place w n e in (h.0, h.1.1)

pub definitions_back : (place n : ℕ) → n ≤ 256 → definitions_in place (count_word 8 n) ≡ Ok n
definitions_back place n m = counted_back 8 0 256 place n (omega arith) (omega arith, m)

pub states_exact : (place w n : ℕ) → states_in place w ≡ Ok n → (count_word 9 n ≡ w) × Between 1 4096 n
states_exact = counted_exact 9 1 4096

pub states_back : (place n : ℕ) → Between 1 4096 n → states_in place (count_word 9 n) ≡ Ok n
states_back place n = counted_back 9 1 4096 place n (omega arith)

pub moves_exact : (place w n : ℕ) → moves_in place w ≡ Ok n → (count_word 10 n ≡ w) × Between 1 64 n
moves_exact = counted_exact 10 1 64

pub moves_back : (place n : ℕ) → Between 1 64 n → moves_in place (count_word 10 n) ≡ Ok n
moves_back place n = counted_back 10 1 64 place n (omega arith)

-- what a test that is passed, and each way of a choice, have to show of what is found
checked : {X : Type 0} (P : X → Type 0) (b : Bool) (fault : WordFault) (rest : Result X WordFault) → (b ≡ true → IfOk rest P) → IfOk (check b fault rest) P
checked P true fault rest h = h refl
checked P false fault rest h = tt

either : {X : Type 0} (P : X → Type 0) (a b : ℕ) (x y : Result X WordFault) → (a ≡ b → IfOk x P) → IfOk y P → IfOk (cond (eqb a b) x y) P
either P a b x y here there = elim (eqb_tells a b) [ inl p ↦ rw p.0 (here p.1) | inr p ↦ rw p.0 there ]

-- w is the word of o, whose fields are in range
abbrev Says : ℕ → Operator → Type 0
Says w o = (operator_word o ≡ w) × OperatorFits o

bare_says : (place w : ℕ) (o : Operator) → (payload w ≡ 0 → Says w o) → IfOk (bare_in o place w) (Says w)
bare_says place w o h = checked (Says w) (eqb (payload w) 0) (Form place) (Ok o) (λ p. h (grind (arith, nat_tests)))

prefix_says : (place w : ℕ) → kind w ≡ 1 → IfOk (prefix_in place w) (Says w)
prefix_says place w k = grind (arith, nat_tests)

delay_says : (place w : ℕ) → kind w ≡ 2 → IfOk (delay_in place w) (Says w)
delay_says place w k = grind (arith, nat_tests)

restrict_says : (place w : ℕ) → kind w ≡ 5 → IfOk (restrict_in place w) (Says w)
restrict_says place w k = grind (arith, nat_tests)

relabel_says : (place w : ℕ) → kind w ≡ 6 → IfOk (relabel_in place w) (Says w)
relabel_says place w k = grind (arith, nat_tests)

operator_says : (place w : ℕ) → IfOk (operator_in place w) (Says w)
operator_says place w =
    either (Says w) (kind w) 0 _ _ (λ k. bare_says place w Nil (λ p. (omega arith, tt)))
    (either (Says w) (kind w) 1 _ _ (prefix_says place w)
    (either (Says w) (kind w) 2 _ _ (delay_says place w)
    (either (Says w) (kind w) 3 _ _ (λ k. bare_says place w Sum (λ p. (omega arith, tt)))
    (either (Says w) (kind w) 4 _ _ (λ k. bare_says place w Compose (λ p. (omega arith, tt)))
    (either (Says w) (kind w) 5 _ _ (restrict_says place w)
    (either (Says w) (kind w) 6 _ _ (relabel_says place w)
    (checked (Says w) (eqb (kind w) 7) _ _ (λ k. grind (arith, nat_tests)))))))))

pub operator_exact : (place w : ℕ) (o : Operator) → operator_in place w ≡ Ok o → (operator_word o ≡ w) × OperatorFits o
operator_exact place w o e = IfOk-at_ok (Says w) e (operator_says place w)

delay_kind : (d : Delay) → DelayFits d → kind (delay_word d) ≡ 2
delay_kind (Constant s) f = omega arith
delay_kind (Plus b s) f = omega arith
delay_kind (Less b s) f = omega arith

delay_back : (place : ℕ) (d : Delay) → DelayFits d → delay_in place (delay_word d) ≡ Ok (Delayed d)
delay_back place (Constant s) f = grind (arith, nat_tests)
delay_back place (Plus b s) f = grind (arith, nat_tests)
delay_back place (Less b s) f = grind (arith, nat_tests)

pub operator_back : (place : ℕ) (o : Operator) → OperatorFits o → operator_in place (operator_word o) ≡ Ok o
operator_back place Nil f = refl
operator_back place (Prefix a) f = grind (arith, nat_tests)
operator_back place (Delayed d) f = let k : kind (delay_word d) ≡ 2 = delay_kind d f in simp k (delay_back place d f)
operator_back place Sum f = refl
operator_back place Compose f = refl
operator_back place (Restrict a) f = grind (arith, nat_tests)
operator_back place (Relabel a b) f = grind (arith, nat_tests)
operator_back place (Refer n) f = grind (arith, nat_tests)
