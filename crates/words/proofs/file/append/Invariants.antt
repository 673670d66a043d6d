use Rattle.std.proofs.Common.{◌≡◌, ◌+◌, ◌++◌, map, take, vec_items, vec_len, vec_capacity}
use Rattle.words.proofs.Little.{word_of_four}
use Rattle.words.proofs.file.append.Given as goal

abbrev pub invariant-loop-word : goal.invariant-loop-word
invariant-loop-word l =
    (vec_items l.words ≡ vec_items l.initial.words ++ map word_of_four (take l.word-index l.chunks))
    × (vec_len l.words ≡ vec_len l.initial.words + l.word-index)
    × (vec_capacity l.words ≡ vec_capacity l.initial.words)
