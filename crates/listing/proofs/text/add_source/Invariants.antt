use Rattle.std.proofs.Common.{◌≡◌, ◌++◌, string_bytes}
use Rattle.listing.specs.Text.{lines}
use Rattle.listing.proofs.text.add_source.Given as goal

abbrev pub invariant-loop-s : goal.invariant-loop-s
invariant-loop-s g l = string_bytes l.text ≡ string_bytes l.initial.text ++ lines (g.S.Source.meaning l.source) l.s
