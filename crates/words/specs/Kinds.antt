-- The kinds of words by their numbers.
use Rattle.std.specs.Prelude.{ℕ}
use Rattle.words.specs.declared.kind.Kind.{Kind}
use Rattle.words.specs.declared.kind.Kind.TheVariants.{Nil, Prefix, Delay, Sum, Compose, Restrict, Relabel, Refer, Definitions, States, Moves, Arrow, Rows, Dwell, Endless, Offers}

abbrev pub number : Kind → ℕ
number Nil = 0
number Prefix = 1
number Delay = 2
number Sum = 3
number Compose = 4
number Restrict = 5
number Relabel = 6
number Refer = 7
number Definitions = 8
number States = 9
number Moves = 10
number Arrow = 11
number Rows = 12
number Dwell = 13
number Endless = 14
number Offers = 15
