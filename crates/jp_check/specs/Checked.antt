-- What is kept of a checked query, and of a checked expression of a filter.
use Rattle.jp_tree.specs.declared.tree.Expr.{Expr}
use Rattle.jp_tree.specs.declared.tree.Query.{Query}
use Rattle.jp_check.specs.declared.profile.Profile.{Profile}

-- a query and the profile that it was checked with
pub record Profiled : Type 0 where
  pub query : Query
  pub profile : Profile

-- the expression of a filter and the profile that it was checked with
pub record ProfiledFilter : Type 0 where
  pub expr : Expr
  pub profile : Profile
