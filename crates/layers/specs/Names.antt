-- Names, sets of names as numbers, and the refusal of a number that is no such set.
use Rattle.std.specs.Prelude.{ℕ, ◌/◌, ◌%◌, ◌^◌, Bool, ◌&&◌, ◌==◌, nat_le}

-- the names are 1 to 63
abbrev pub is_name : ℕ → Bool
is_name n = nat_le 1 n && nat_le n 63

-- the bit n of the number, which stands for the name n
abbrev pub in_set : ℕ → ℕ → Bool
in_set bits n = bits / 2 ^ n % 2 == 1

-- a set with the bit 0, which is no name's, is refused with 3, as the layer's first number
abbrev pub names_code : ℕ
names_code = 3

abbrev pub names_place : ℕ
names_place = 0
