use Rattle.std.proofs.Common.{◌≡◌, None, rules, sym, ◌∙◌}
use Rattle.std.specs.Map.{lookup}
use Rattle.std.specs.Str.{bytes_eq}
use Rattle.jp_tree.specs.Functions.{all_functions}
use Rattle.jp_tree.proofs.FunctionNames.{function_of_name_bytes}
use Rattle.jp_tree.proofs.function.Function.of_name.Goals as goal

pub returns-in_default : goal.returns-in_default
returns-in_default c =
    let none : None ≡ lookup (bytes_eq c.args.name.now) all_functions = search rules in
    none ∙ sym (function_of_name_bytes c.args.name.now c.utf8.name)
