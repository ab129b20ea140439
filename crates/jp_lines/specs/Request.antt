-- What is asked of a run, in texts, and the task that it stands for.
use Rattle.std.specs.Prelude.{◌≡◌, ⊤, ℕ, Bool, List, [], ◌∷◌, ◌++◌}
use Rattle.jp_cells.specs.declared.style.Style.{Style}
use Rattle.jp_check.specs.declared.profile.Profile.{Profile}
use Rattle.jp_command.specs.Run.{IsAsked, RefusesQuery}
use Rattle.jp_query.specs.declared.refusal.Refusal.{Refusal}
use Rattle.jp_tree.specs.Tree.{ExprTree, QueryTree}
use Rattle.jp_lines.specs.Expression.{IsFilterAsked, RefusesFilter}
use Rattle.jp_lines.specs.Task.{Keep, Select, Tabulate, Task}
use Rattle.jp_lines.specs.declared.options.Extent.{Extent}
use Rattle.jp_lines.specs.declared.options.Options.{Options}
use Rattle.jp_lines.specs.declared.options.Wanted.{Wanted}

pub data Request : Type 0 where
  -- to write what is wanted of the nodes that the query of this text selects
  SelectBy : Wanted → Extent → List ℕ → Request
  -- to write the line where the expression of this text is true
  KeepBy : List ℕ → Request
  -- to write a row in this style, with a cell for each of the queries of these texts, and before all
  -- rows, if it is to be, one of these texts
  ColumnsBy : Style → Bool → List (List ℕ) → Request

-- the texts are accepted as these queries, one by one
abbrev pub AreAsked : Profile → List (List ℕ) → List QueryTree → Type 0
AreAsked profile [] [] = ⊤
AreAsked profile (text ∷ texts) (q ∷ qs) = IsAsked profile text q × AreAsked profile texts qs
AreAsked profile _ _ = ⊥

-- of these texts, this one is refused with r, and those before it are accepted
pub record RefusesFirst (profile : Profile) (texts : List (List ℕ)) (r : Refusal) (text : List ℕ)
    : Type 0 where
  pub before : List (List ℕ)
  pub after : List (List ℕ)
  pub split : texts ≡ before ++ text ∷ after
  pub queries : List QueryTree
  pub accepted : AreAsked profile before queries
  pub refuses : RefusesQuery profile text r

-- the task that it stands for, where its queries or its expression are accepted
abbrev pub IsTaskOf : Profile → Request → Task → Type 0
IsTaskOf profile (SelectBy wanted extent text) task =
    (q : QueryTree) × (task ≡ Select wanted extent q) × IsAsked profile text q
IsTaskOf profile (KeepBy text) task =
    (e : ExprTree) × (task ≡ Keep e) × IsFilterAsked profile text e
IsTaskOf profile (ColumnsBy style named texts) task =
    (qs : List QueryTree) × (task ≡ Tabulate style qs) × AreAsked profile texts qs

-- its query or expression, or the first of its queries that is not accepted, is refused with r
abbrev pub RefusesRequest : Profile → Request → Refusal → Type 0
RefusesRequest profile (SelectBy wanted extent text) r = RefusesQuery profile text r
RefusesRequest profile (KeepBy text) r = RefusesFilter profile text r
RefusesRequest profile (ColumnsBy style named texts) r =
    (text : List ℕ) × RefusesFirst profile texts r text

-- what the words of a command line ask for: the inputs are named in order, and none stands for the
-- standard input alone
pub record Job : Type 0 where
  pub options : Options
  pub request : Request
  pub inputs : List (List ℕ)
