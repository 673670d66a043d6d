-- Rename: a source with one name turned into another.
use Rattle.std.specs.Prelude.{◌≡◌, ℕ, true, false}
use Rattle.lts.specs.Meaning.{Meaning}
use Rattle.lts.specs.Relabelling.{renamed, relabelled}
use Rattle.layers.specs.declared.rename.fault.RenameFault.{RenameFault}
use Rattle.layers.specs.declared.rename.fault.RenameFault.TheVariants.{From, To}
use Rattle.layers.specs.Names.{is_name}

-- the same states; in each, the label a becomes b and the co-name of a that of b
abbrev pub rename_meaning : ℕ → ℕ → Meaning → Meaning
rename_meaning a b m = record { count = m.count; moves = λ s. relabelled (renamed a b) (m.moves s) }

-- why a and b are refused: a is no name; or a is one and b is none
abbrev pub Unnamed : ℕ → ℕ → RenameFault → Type 0
Unnamed a b From = is_name a ≡ false
Unnamed a b To = (is_name a ≡ true) × (is_name b ≡ false)

-- the number of the refusal, and which of the two it names
abbrev pub rename_code : RenameFault → ℕ
rename_code f = 3

abbrev pub rename_place : RenameFault → ℕ
rename_place From = 0
rename_place To = 1
