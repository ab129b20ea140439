use Rattle.std.proofs.Common.{◌≡◌, ◌∙◌, ap, Bool, true, false, ◌||◌, refl, rules}
use Rattle.std.proofs.lemmas.Result.{IfOk-weaker}
use Rattle.clap.specs.declared.builder.command.Command.TheViews.{out-Command}
use Rattle.jp_lines.proofs.commands.with_number.Goals as goal

or_false : (b : Bool) → b || false ≡ b
or_false true = refl
or_false false = refl

pub returns-clause-local : goal.returns-clause-local
returns-clause-local c =
    let before = (out-Command c.args.command).has_globals in
    let local : c.help-number.result.global ≡ false = search rules in
    IfOk-weaker c.arg.result _ _
    (λ more adds. adds.globals ∙ ap (λ b. before || b) local ∙ or_false before) c.arg.ensures
