-- Which texts of expressions are asked of documents, and how others are refused (RFC 9535 section
-- 2.3.5.1).
use Rattle.std.specs.Prelude.{◌≡◌, ◌≢◌, ℕ, ◌<◌, ◌≤◌, List, length}
use Rattle.std.specs.Str.{chars}
use Rattle.jp_check.specs.Accepted.{IsFilterAcceptedAs, IsFilterNotAccepted}
use Rattle.jp_check.specs.Refused.{IsFilterRefused}
use Rattle.jp_check.specs.declared.profile.Profile.{Profile}
use Rattle.jp_command.specs.Limits.{query_limit}
use Rattle.jp_query.specs.declared.refusal.Refusal.{Refusal}
use Rattle.jp_query.specs.declared.refusal.RefusalKind.TheVariants as kind
use Rattle.jp_tree.specs.Tree.{ExprTree}

-- the expression, in bytes, is not too long and in that profile is accepted as the tree e
pub record IsFilterAsked (profile : Profile) (text : List ℕ) (e : ExprTree) : Type 0 where
  pub short : length text ≤ query_limit
  pub accepted : IsFilterAcceptedAs profile (chars text) e

-- the expression is too long, or else in that profile not accepted and refused with r for what it is;
-- running out of memory is no such refusal
pub data RefusesFilter (profile : Profile) (text : List ℕ) (r : Refusal) : Type 0 where
  too_long : query_limit < length text → r ≡ record { kind = kind.TextTooLong; place = 0 }
      → RefusesFilter profile text r
  refused : length text ≤ query_limit → IsFilterNotAccepted profile (chars text)
      → IsFilterRefused profile (chars text) r → r.kind ≢ kind.NoMemory
      → RefusesFilter profile text r
