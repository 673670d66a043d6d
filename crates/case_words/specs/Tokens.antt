-- What a token says: a word in hexadecimal, and behind a star how many times, in decimal; once where there is no star.
use Rattle.std.specs.Prelude.{ℕ, Bool, List, length, cond, Ok, Err, Result, ◌==◌, ◌⊎◌, nat_lt, MatchResult, codes}
use Rattle.std.specs.List.{position_or_len, before_first, after_first}
use Rattle.std.specs.Str.Parse.{ParsesUnsigned, ExplainsUnsignedError}
use Rattle.std.specs.declared.num.ParseIntError.{ParseIntError}
use Rattle.case_words.specs.declared.run.Run.{Run}

abbrev pub star : ℕ → Bool
star b = b == 42

abbrev pub word_digits : List ℕ → List ℕ
word_digits token = before_first star token

abbrev pub count_digits : List ℕ → List ℕ
count_digits token = cond (nat_lt (position_or_len star token) (length token)) (after_first star token) (codes "1")

-- what the digits are read as in a radix: a number of 32 bits, or why they are none
abbrev pub Reads : ℕ → List ℕ → Result ℕ ParseIntError → Type 0
Reads radix digits r = ParsesUnsigned 32 radix digits r × ExplainsUnsignedError radix digits r

-- the word and the count that the digits say, or the first error of the two
abbrev pub ReadsRun : List ℕ → Result Run ParseIntError → Type 0
ReadsRun token r = MatchResult r
    (λ run. Reads 16 (word_digits token) (Ok run.word) × Reads 10 (count_digits token) (Ok run.count))
    (λ e. Reads 16 (word_digits token) (Err e)
    ⊎ ((word : ℕ) × Reads 16 (word_digits token) (Ok word) × Reads 10 (count_digits token) (Err e)))
