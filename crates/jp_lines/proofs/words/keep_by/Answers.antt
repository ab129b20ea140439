use Rattle.std.proofs.Common.{◌∙◌, ap, codes, option_map}
use Rattle.clap.proofs.WalkLemmas.{first_value-rows}
use Rattle.clap.specs.Words.{found_of}
use Rattle.jp_lines.specs.Request.{KeepBy}
use Rattle.jp_lines.specs.Views.{request_of}
use Rattle.jp_lines.proofs.words.keep_by.Goals as goal

pub returns-in_err-expression : goal.returns-in_err-expression
returns-in_err-expression c =
    ap (option_map request_of) c.from_residual.ensures
    ∙ ap (option_map KeepBy)
    (c.in_err-expression.ensures ∙ first_value-rows (found_of c.args.found.now) (codes "EXPRESSION"))

pub returns : goal.returns
returns c =
    ap (option_map KeepBy)
    (c.in_ok-expression.ensures ∙ first_value-rows (found_of c.args.found.now) (codes "EXPRESSION"))
