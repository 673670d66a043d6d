-- Decoding is exact for words of every kind: by its kind each is what one of the decoders finds.
use Rattle.std.proofs.Common.{◌≡◌, ℕ, Bool, true, false, cond, ◌||◌, eqb, ltb, IfOk, Ok, Err, Result, refl, ap, arith}
use Rattle.std.proofs.lemmas.Result.{IfOk-at_ok}
use Rattle.std.proofs.lemmas.Bool.Decides.{nat_tests}
use Rattle.lts.specs.declared.source.Move.{Move}
use Rattle.words.specs.declared.fault.WordFault.{WordFault}
use Rattle.words.specs.declared.term.Delay.TheVariants.{Constant, Plus, Less}
use Rattle.words.specs.declared.term.Operator.{Operator}
use Rattle.words.specs.declared.term.Operator.TheVariants.{Nil, Prefix, Delay as Delayed, Sum, Compose, Restrict, Relabel, Refer}
use Rattle.words.specs.declared.word.RowHead.TheVariants.{Dwell, Endless}
use Rattle.words.specs.declared.word.Word.{Word}
use Rattle.words.specs.declared.word.Word.TheVariants.{Operator as Term, Definitions, States, Moves, Move as Arrow, Rows, Row, Offers}
use Rattle.words.specs.Words.{kind, definitions_in, states_in, moves_in, rows_in, offers_in, arrow_in, row_in}
use Rattle.words.specs.Operators.{operator_in}
use Rattle.words.specs.Reading.{mapped}
use Rattle.words.specs.Decoded.{decoded}
use Rattle.words.specs.Encoded.{arrow_word, operator_word, word_of, OperatorFits, Fitting}
use Rattle.words.proofs.Exact as exact

-- w is the word of x, whose fields are in range
abbrev Says : ℕ → Word → Type 0
Says w x = (word_of x ≡ w) × Fitting x

found : {X : Type 0} (w : ℕ) (name : X → Word) (r : Result X WordFault) → ((x : X) → r ≡ Ok x → Says w (name x)) → IfOk (mapped name r) (Says w)
found w name (Ok x) h = h x refl
found w name (Err fault) h = tt

either : (P : Word → Type 0) (b : Bool) (x y : Result Word WordFault) → IfOk x P → IfOk y P → IfOk (cond b x y) P
either P true x y here there = here
either P false x y here there = there

decoded_says : (place w : ℕ) → IfOk (decoded place w) (Says w)
decoded_says place w =
    either (Says w) (ltb (kind w) 8) _ _ (found w Term (operator_in place w) (exact.operator_exact place w))
    (either (Says w) (eqb (kind w) 8) _ _ (found w Definitions (definitions_in place w) (exact.definitions_exact place w))
    (either (Says w) (eqb (kind w) 9) _ _ (found w States (states_in place w) (exact.states_exact place w))
    (either (Says w) (eqb (kind w) 10) _ _ (found w Moves (moves_in place w) (exact.moves_exact place w))
    (either (Says w) (eqb (kind w) 11) _ _ (found w Arrow (arrow_in place w) (exact.arrow_exact place w))
    (either (Says w) (eqb (kind w) 12) _ _ (found w Rows (rows_in place w) (exact.rows_exact place w))
    (either (Says w) (eqb (kind w) 13 || eqb (kind w) 14) _ _ (found w Row (row_in place w) (exact.row_exact place w)) (found w Offers (offers_in place w) (exact.offers_exact place w))))))))

pub decoded_exact : (place w : ℕ) (x : Word) → decoded place w ≡ Ok x → (word_of x ≡ w) × Fitting x
decoded_exact place w x e = IfOk-at_ok (Says w) e (decoded_says place w)

operator_kind : (o : Operator) → OperatorFits o → ltb (kind (operator_word o)) 8 ≡ true
operator_kind Nil f = refl
operator_kind (Prefix a) f = grind (arith, nat_tests)
operator_kind (Delayed (Constant s)) f = grind (arith, nat_tests)
operator_kind (Delayed (Plus b s)) f = grind (arith, nat_tests)
operator_kind (Delayed (Less b s)) f = grind (arith, nat_tests)
operator_kind Sum f = refl
operator_kind Compose f = refl
operator_kind (Restrict a) f = grind (arith, nat_tests)
operator_kind (Relabel a b) f = grind (arith, nat_tests)
operator_kind (Refer n) f = grind (arith, nat_tests)

operator_decoded : (place w : ℕ) (o : Operator) → ltb (kind w) 8 ≡ true → operator_in place w ≡ Ok o → decoded place w ≡ Ok (Term o)
operator_decoded place w o k e = rw k (ap (mapped Term) e)

arrow_decoded : (place w : ℕ) (m : Move ℕ) → kind w ≡ 11 → arrow_in place w ≡ Ok m → decoded place w ≡ Ok (Arrow m)
arrow_decoded place w m k e = simp k (ap (mapped Arrow) (simp k at e))

pub decoded_back : (place : ℕ) (x : Word) → Fitting x → decoded place (word_of x) ≡ Ok x
decoded_back place (Term o) f = operator_decoded place (operator_word o) o (operator_kind o f) (exact.operator_back place o f)
decoded_back place (Definitions n) f = grind (arith, nat_tests)
decoded_back place (States n) f = grind (arith, nat_tests)
decoded_back place (Moves n) f = grind (arith, nat_tests)
decoded_back place (Arrow m) f = arrow_decoded place (arrow_word m) m (exact.arrow_kind m f) (exact.arrow_back place m f)
decoded_back place (Rows n) f = grind (arith, nat_tests)
decoded_back place (Row (Dwell tenths)) f = grind (arith, nat_tests)
decoded_back place (Row Endless) f = refl
decoded_back place (Offers n) f = grind (arith, nat_tests)
