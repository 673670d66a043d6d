-- Relabelling a to b, both names: a becomes b and the co-name of a that of b; every other label stays, also b itself, so
-- that labels can become equal.
use Rattle.std.specs.Prelude.{ℕ, ◌+◌, cond, List, map, ◌==◌}
use Rattle.lts.specs.declared.source.Move.{Move}

abbrev pub renamed : ℕ → ℕ → ℕ → ℕ
renamed a b l = cond (l == a) b (cond (l == a + 64) (b + 64) l)

abbrev pub relabel : {S : Type 0} → (ℕ → ℕ) → Move S → Move S
relabel g m = record { label = g m.label; target = m.target }

unfoldable pub relabelled : {S : Type 0} → (ℕ → ℕ) → List (Move S) → List (Move S)
relabelled g ms = map (relabel g) ms
