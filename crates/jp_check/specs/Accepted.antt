-- Which queries, and which expressions of filters, are accepted in a profile (RFC 9535 sections 2.1,
-- 2.1.1 and 2.3.5.1).
use Rattle.jp_reading.specs.Texts.{Text, Spans}
use Rattle.jp_query.specs.Grammar.{Spells, SpellsFilter}
use Rattle.jp_query.specs.Levels.{level_limit, filter_level_limit}
use Rattle.jp_tree.specs.Tree.{ExprTree, QueryTree}
use Rattle.jp_check.specs.declared.profile.Profile.{Profile}
use Rattle.jp_check.specs.Faults.{IsFaultless, IsFaultlessFilter}

-- the text spells the tree within the limit of levels, and no component of the tree has a fault
pub record IsAcceptedAs (profile : Profile) (text : Text) (q : QueryTree) : Type 0 where
  pub spans : Spans
  pub spelled : Spells level_limit q spans text
  pub faultless : IsFaultless profile q

-- some text is accepted as the tree
abbrev pub IsAccepted : Profile → QueryTree → Type 0
IsAccepted profile q = (text : Text) × IsAcceptedAs profile text q

-- the text is accepted as no tree
abbrev pub IsNotAccepted : Profile → Text → Type 0
IsNotAccepted profile text = (q : QueryTree) → ¬ IsAcceptedAs profile text q

-- the same of the expression of a filter
pub record IsFilterAcceptedAs (profile : Profile) (text : Text) (e : ExprTree) : Type 0 where
  pub spans : Spans
  pub spelled : SpellsFilter filter_level_limit e spans text
  pub faultless : IsFaultlessFilter profile e

abbrev pub IsFilterAccepted : Profile → ExprTree → Type 0
IsFilterAccepted profile e = (text : Text) × IsFilterAcceptedAs profile text e

abbrev pub IsFilterNotAccepted : Profile → Text → Type 0
IsFilterNotAccepted profile text = (e : ExprTree) → ¬ IsFilterAcceptedAs profile text e
