use Rattle.std.proofs.Common.{◌≡◌, ℕ, Option, Some, None, true, refl, sym, ◌∙◌}
use Rattle.std.specs.Bool.{IsTrue}
use Rattle.std.specs.Option.{is_some}
use Rattle.jp_iregexp.specs.Tree.{Tree}
use Rattle.jp_match.specs.Private.OneWidth.{HasOneWidth, has_width}
use Rattle.jp_match.proofs.counted.CountedPattern.has_one_width.Goals as goal

told-width : (t : Tree) (width : Option ℕ)
    → ((each : ℕ) → width ≡ Some each → IsTrue (has_width t each)) → is_some width ≡ true
    → HasOneWidth t
told-width t None wide is = absurd (cc)
told-width t (Some each) wide is = record { width = each; each = wide each refl }

pub returns : goal.returns
returns c = λ e. told-width _ c.args.self.now.width c.args.self.now.wide (sym c.is_some.ensures ∙ e)
