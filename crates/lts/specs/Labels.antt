-- Labels are numbers: 0 is τ, 1 to 63 are names, 65 to 127 the co-names of the names 64 lower, 128 is the tick.
use Rattle.std.specs.Prelude.{ℕ, ◌+◌, ◌-◌, Bool, cond, not, ◌&&◌, ◌||◌, ◌==◌, nat_le, nat_lt}

-- 0 to 128 but 64
unfoldable pub label : ℕ → Bool
label a = nat_le a 128 && not (a == 64)

-- a name or a co-name: 1 to 127 but 64
unfoldable pub visible : ℕ → Bool
visible a = (nat_lt 0 a && nat_lt a 128) && not (a == 64)

-- two labels match if both are visible and they are 64 apart
unfoldable pub matching : ℕ → ℕ → Bool
matching a b = (visible a && visible b) && (a + 64 == b || b + 64 == a)

-- the one label that matches the visible label a
unfoldable pub partner : ℕ → ℕ
partner a = cond (nat_lt a 64) (a + 64) (a - 64)
