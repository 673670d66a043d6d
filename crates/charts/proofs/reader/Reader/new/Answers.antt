use Rattle.std.proofs.Common.{◌+◌, length, sym, ap, ◌∙◌}
use Rattle.std.proofs.lemmas.Result.{err_from_is_err_and}
use Rattle.charts.proofs.Checking.{too_long, no_words, bad_head, good_head}
use Rattle.charts.proofs.reader.Reader.new.Goals as goal

pub returns-then-words-gt-LONGEST : goal.returns-then-words-gt-LONGEST
returns-then-words-gt-LONGEST c = too_long c.args.words.now c.if-words-gt-LONGEST.true

pub returns-in_err-read : goal.returns-in_err-read
returns-in_err-read c =
    let p = err_from_is_err_and c.from_residual.result c.from_residual.ensures.1 in
    let e = c.in_err-read.ensures in
    rw (p.1, p.2, e.1, c.new-cursor.ensures.1) (no_words c.args.words.now (sym c.new-cursor.ensures.0 ∙ e.0))

pub returns-in_err-rows : goal.returns-in_err-rows
returns-in_err-rows c =
    let p = err_from_is_err_and c.from_residual-in_err-rows.result c.from_residual-in_err-rows.ensures.1 in
    let e = c.in_ok-read.ensures in
    rw (p.1, p.2) (bad_head c.args.words.now _ _ _ c.if-words-gt-LONGEST.false (sym c.new-cursor.ensures.0 ∙ e.0) (e.1 ∙ c.new-cursor.ensures.1) _ c.in_err-rows.ensures)

pub returns : goal.returns
returns c =
    let e = c.in_ok-read.ensures in
    let shape = sym c.new-cursor.ensures.0 ∙ e.0 in
    record {
      place = e.2 ∙ ap (λ j. j + 1) c.new-cursor.ensures.1;
      inside = ap length shape;
      read = good_head c.args.words.now _ _ _ c.if-words-gt-LONGEST.false shape (e.1 ∙ c.new-cursor.ensures.1) _ c.in_ok-rows.ensures;
    }
