-- A renaming keeps the laws: a proof, which stands here since the law of the source cites it.
use Rattle.std.specs.Prelude.{◌≡◌, ℕ, ◌≤◌, true, nat_le}
use Rattle.std.proofs.lemmas.Bool.{and_parts, leb-true}
use Rattle.lts.specs.Meaning.{Meaning, Laws}
use Rattle.lts.proofs.Relabelling.{relabelled_lawful}
use Rattle.layers.specs.Names.{is_name}
use Rattle.layers.specs.Renames.{rename_meaning}

pub name_range : (n : ℕ) → is_name n ≡ true → (1 ≤ n) × (n ≤ 63)
name_range n h = let p = and_parts (nat_le 1 n) (nat_le n 63) h in (leb-true 1 n p.0, leb-true n 63 p.1)

pub rename_laws : (a b : ℕ) → is_name a ≡ true → is_name b ≡ true → (m : Meaning) → Laws m → Laws (rename_meaning a b m)
rename_laws a b first second m laws =
    let p = name_range a first in
    let q = name_range b second in
    record { some = laws.some; most = laws.most; each = λ s h. relabelled_lawful a b p.0 p.1 q.0 q.1 m.count (m.moves s) (laws.each s h) }
