use Rattle.std.proofs.Common.{[], sym, refl, append_assoc, append-nil, arith, rules}
use Rattle.std.proofs.lemmas.List.{take_more, take_all, map-append}
use Rattle.words.proofs.Little.{word_of_four, little_chunks}
use Rattle.words.proofs.file.append.Goals as goal

pub loop-word-init : goal.loop-word-init
loop-word-init c = (sym (append-nil _), omega arith, search rules)

pub push_reserved-requires : goal.push_reserved-requires
push_reserved-requires c = omega arith

pub loop-word-preserved : goal.loop-word-preserved
loop-word-preserved c =
    let i = c.loop-word.word-index in
    let chunks = c.as_chunks.result.0.now in
    let more = take_more chunks i [] (omega arith) in (
      (let here = c.loop-word.invariant.0 in let put = c.push_reserved.ensures.items in rw (put, here, more, map-append word_of_four, c.from_le_bytes.ensures, append_assoc) refl),
      omega arith,
      search rules,
    )

pub returns-clause-items : goal.returns-clause-items
returns-clause-items c =
    let chunks = c.as_chunks.result.0.now in
    let here = c.loop-word.invariant.0 in
    let all = take_all c.loop-word.word-index chunks (omega arith) in
    rw (here, all, c.as_chunks.ensures.front, little_chunks _ c.args.bytes.now refl) refl
