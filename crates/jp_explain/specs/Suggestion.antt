-- What is suggested.
use Rattle.std.specs.Prelude.{◌≡◌, false}
use Rattle.std.specs.List.{list_any}
use Rattle.jp_reading.specs.Texts.{Text}
use Rattle.jp_tree.specs.Tree.{ExprTree, QueryTree}
use Rattle.jp_check.specs.declared.profile.Profile.{Profile}
use Rattle.jp_check.specs.Accepted.{IsAcceptedAs, IsFilterAcceptedAs}
use Rattle.jp_explain.specs.Shown.{is_hidden}

-- the text is accepted in the profile, as some tree (RFC 9535 section 2.1)
abbrev pub IsQuery : Profile → Text → Type 0
IsQuery profile text = (q : QueryTree) × IsAcceptedAs profile text q

-- and none of its characters is hidden, so that it can be printed as it is
abbrev pub IsSuggested : Profile → Text → Type 0
IsSuggested profile text = IsQuery profile text × (list_any is_hidden text ≡ false)

-- the same of the expression of a filter alone (RFC 9535 section 2.3.5.1)
abbrev pub IsExpression : Profile → Text → Type 0
IsExpression profile text = (e : ExprTree) × IsFilterAcceptedAs profile text e

abbrev pub IsSuggestedExpression : Profile → Text → Type 0
IsSuggestedExpression profile text =
    IsExpression profile text × (list_any is_hidden text ≡ false)
