-- The words of bytes, four bytes at a time.
use Rattle.std.proofs.Common.{◌≡◌, ℕ, zero, suc, ◌+◌, ◌*◌, ◌/◌, ◌^◌, ◌≤◌, List, [], ◌∷◌, map, length, get_or, take, drop, refl, ap, arith, length-drop}
use Rattle.std.specs.Simd.{first_chunks}
use Rattle.words.specs.Bytes.{little}

-- the word that four bytes make
abbrev pub word_of_four : List ℕ → ℕ
word_of_four bytes = get_or bytes 0 0 + get_or bytes 1 0 * 2 ^ 8 + get_or bytes 2 0 * 2 ^ 16 + get_or bytes 3 0 * 2 ^ 24

little_more : (bytes : List ℕ) → 4 ≤ length bytes → little bytes ≡ word_of_four (take 4 bytes) ∷ little (drop 4 bytes)
little_more [] h = absurd (omega arith)
little_more (a ∷ []) h = absurd (omega arith)
little_more (a ∷ b ∷ []) h = absurd (omega arith)
little_more (a ∷ b ∷ c ∷ []) h = absurd (omega arith)
little_more (a ∷ b ∷ c ∷ d ∷ rest) h = refl

little_none : (bytes : List ℕ) → length bytes / 4 ≡ 0 → little bytes ≡ []
little_none [] h = refl
little_none (a ∷ []) h = refl
little_none (a ∷ b ∷ []) h = refl
little_none (a ∷ b ∷ c ∷ []) h = refl
little_none (a ∷ b ∷ c ∷ d ∷ rest) h = absurd (omega arith)

pub little_chunks : (n : ℕ) (bytes : List ℕ) → length bytes / 4 ≡ n → map word_of_four (first_chunks 4 n bytes) ≡ little bytes
little_chunks zero bytes h = rw (little_none bytes h)
little_chunks (suc n) bytes h =
    let rest = little_chunks n (drop 4 bytes) (omega (arith, length-drop 4 bytes)) in
    rw (little_more bytes (omega arith)) (ap (λ (v : List ℕ). word_of_four (take 4 bytes) ∷ v) rest)

pub length_little : (bytes : List ℕ) → length (little bytes) ≡ length bytes / 4
length_little [] = refl
length_little (a ∷ []) = refl
length_little (a ∷ b ∷ []) = refl
length_little (a ∷ b ∷ c ∷ []) = refl
length_little (a ∷ b ∷ c ∷ d ∷ rest) = omega (arith, length_little rest)
