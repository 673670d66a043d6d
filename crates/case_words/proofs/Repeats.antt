-- Once more behind a repeated list.
use Rattle.std.proofs.Common.{◌≡◌, ℕ, zero, suc, ◌+◌, List, ◌++◌, refl, sym, append_assoc, append-nil, arith}
use Rattle.std.specs.List.{repeat}

pub repeat_more : {A : Type 0} (n : ℕ) (xs : List A) → repeat n xs ++ xs ≡ repeat (n + 1) xs
repeat_more zero xs = sym (append-nil xs)
repeat_more (suc n) xs =
    let e : suc n + 1 ≡ suc (n + 1) = omega arith in
    rw (append_assoc, repeat_more n xs, e) refl
