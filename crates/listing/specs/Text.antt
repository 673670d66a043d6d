-- Sources and refusals as bytes: numbers in decimal, one blank between the words of a line, a line feed after each line.
use Rattle.std.specs.Prelude.{ℕ, zero, suc, List, [], ◌∷◌, ◌++◌, codes, decimal}
use Rattle.std.specs.List.{flat_map}
use Rattle.lts.specs.declared.source.Move.{Move}
use Rattle.lts.specs.Meaning.{Meaning}

abbrev pub line_feed : List ℕ
line_feed = 10 ∷ []

-- the label and the target, a blank before each
abbrev pub move_text : Move ℕ → List ℕ
move_text m = codes " " ++ (decimal m.label ++ (codes " " ++ decimal m.target))

-- a state's number and its moves
abbrev pub line_text : ℕ → List (Move ℕ) → List ℕ
line_text s ms = decimal s ++ (flat_map move_text ms ++ line_feed)

-- the lines of the states below n, in order
unfoldable pub lines : Meaning → ℕ → List ℕ
lines m zero = []
lines m (suc n) = lines m n ++ line_text n (m.moves n)

-- the count of states, then each state
unfoldable pub source_text : Meaning → List ℕ
source_text m = codes "states " ++ (decimal m.count ++ (line_feed ++ lines m m.count))

abbrev pub refusal_text : ℕ → ℕ → List ℕ
refusal_text code place = codes "refused " ++ (decimal code ++ (codes " " ++ (decimal place ++ line_feed)))
