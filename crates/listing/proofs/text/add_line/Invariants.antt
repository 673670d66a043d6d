use Rattle.std.proofs.Common.{◌≡◌, ◌++◌, drop, string_bytes}
use Rattle.std.specs.List.{flat_map}
use Rattle.listing.specs.Text.{move_text}
use Rattle.listing.proofs.text.add_line.Given as goal

abbrev pub invariant-loop-step : goal.invariant-loop-step
invariant-loop-step g l =
    let left = drop l.step-iterator.next ((g.S.Source.meaning l.step-iterator.state.source.now).moves l.step-iterator.state.number) in
    string_bytes l.text ++ flat_map move_text left
    ≡ string_bytes l.initial.text ++ flat_map move_text ((g.S.Source.meaning l.state.source.now).moves l.state.number)
