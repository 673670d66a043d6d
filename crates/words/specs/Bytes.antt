-- The words that the bytes of a file make, or why there are none.
use Rattle.std.specs.Prelude.{ℕ, ◌+◌, ◌*◌, ◌/◌, ◌%◌, ◌^◌, List, [], ◌∷◌, length, Ok, Result, ◌==◌, nat_le}
use Rattle.words.specs.declared.fault.WordFault.{WordFault}
use Rattle.words.specs.declared.fault.WordFault.TheVariants.{Length}
use Rattle.words.specs.Words.{check}

-- the most words that a file can have
abbrev pub longest : ℕ
longest = 16384

-- four bytes to a word, the low byte first, as far as there are four
abbrev pub little : List ℕ → List ℕ
little [] = []
little (a ∷ []) = []
little (a ∷ b ∷ []) = []
little (a ∷ b ∷ c ∷ []) = []
little (a ∷ b ∷ c ∷ d ∷ rest) = (a + b * 2 ^ 8 + c * 2 ^ 16 + d * 2 ^ 24) ∷ little rest

-- too many words are refused at the first that is too many, and bytes left over at the word that they begin
abbrev pub words_of_bytes : List ℕ → Result (List ℕ) WordFault
words_of_bytes bytes =
    check (nat_le (length bytes / 4) longest) (Length longest)
    (check (length bytes % 4 == 0) (Length (length bytes / 4)) (Ok (little bytes)))
