use Rattle.std.proofs.Common.{◌≤◌, sym, ◌∙◌, arith, suc}
use Rattle.std.proofs.lemmas.Result.{err_from_is_err_and}
use Rattle.jp_reading.specs.Numbers.{largest_exact}
use Rattle.jp_reading.specs.NumberReading.{digits_at}
use Rattle.jp_reading.proofs.Texts.Digits.{capped-took}
use Rattle.jp_document.proofs.Paths.IndexReading.{index-natural}
use Rattle.jp_document.proofs.path_reader.index.Goals as goal

pub returns-in_err-index : goal.returns-in_err-index
returns-in_err-index c =
    let p = err_from_is_err_and c.from_residual.result c.from_residual.ensures.1 in
    rw (p.1, p.2, index-natural c.args.reader.now (sym c.is_at.ensures ∙ c.if-is_at.false))
    c.in_err-index.ensures.taken

pub overflow_cast-result : goal.overflow_cast-result
overflow_cast-result c =
    let small : c.in_ok-index.index ≤ (suc largest_exact) =
    capped-took (suc largest_exact) c.in_ok-index.index (digits_at c.args.reader.now)
    c.natural.new.reader c.in_ok-index.ensures.taken in
    omega arith

pub returns : goal.returns
returns c =
    index-natural c.args.reader.now (sym c.is_at.ensures ∙ c.if-is_at.false)
    ∙ c.in_ok-index.ensures.taken
