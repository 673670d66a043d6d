-- Readings one after another: the first fault stands.
use Rattle.std.specs.Prelude.{ℕ, List, [], ◌∷◌, Ok, Err, Result}
use Rattle.words.specs.declared.fault.WordFault.{WordFault}
use Rattle.words.specs.declared.fault.WordFault.TheVariants.{Length}

abbrev pub then : {X Y E : Type 0} → Result X E → (X → Result Y E) → Result Y E
then (Ok x) f = f x
then (Err e) f = Err e

abbrev pub mapped : {X Y E : Type 0} → (X → Y) → Result X E → Result Y E
mapped f (Ok x) = Ok (f x)
mapped f (Err e) = Err e

-- one word, which must be there
abbrev pub one_word : {X : Type 0} → (ℕ → ℕ → Result X WordFault) → ℕ → List ℕ → Result X WordFault
one_word W p [] = Err (Length p)
one_word W p (w ∷ ws) = W p w
