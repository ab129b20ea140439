-- What is told of a query that is refused.
use Rattle.std.specs.Prelude.{◌≡◌, ℕ, List, [], Option, Some, None, String, string_bytes}
use Rattle.std.specs.Str.{chars, IsUtf8}
use Rattle.jp_check.specs.declared.profile.Profile.{Profile}
use Rattle.jp_command.specs.Explained.{ExplainsRefusal}
use Rattle.jp_explain.specs.Explanation.{explanation_text}
use Rattle.jp_explain.specs.declared.explanation.Explanation.{Explanation}
use Rattle.jp_query.specs.declared.refusal.Refusal.{Refusal}
use Rattle.jp_tree.specs.Tree.{QueryTree}
use Rattle.jsonpath.specs.Find.{RefusesText}
use Rattle.jp_c.specs.Asked.{IsAcceptedInBytes}
use Rattle.jp_c.specs.declared.explained.Part.{Part}
use Rattle.jp_c.specs.declared.explained.Part.TheVariants.{Whole, Sentence, Suggestion}

-- the bytes of a suggestion, none where there is none
abbrev pub suggested : {Z : Type 0} → Option (String Z) → List ℕ
suggested None = []
suggested (Some query) = string_bytes query

-- the text is that part of the explanation
abbrev pub IsPart : Part → Explanation → List ℕ → Type 0
IsPart Whole e text = chars text ≡ explanation_text e
IsPart Sentence e text = text ≡ e.sentence.now
IsPart Suggestion e text = text ≡ suggested e.suggestion

-- the bytes are a text (RFC 3629) that in the profile is refused so for what it is, and what is told is
-- that part of the explanation of its refusal
pub record TellsWhy (profile : Profile) (part : Part) (query told : List ℕ) : Type 0 where
  pub r : Refusal
  pub e : Explanation
  pub utf8 : IsUtf8 query
  pub refused : RefusesText profile (chars query) r
  pub explained : ExplainsRefusal profile query r e
  pub is : IsPart part e told

-- why the query is refused is told; or it is accepted, or no text, and nothing is told
pub data Explains (profile : Profile) (part : Part) (query told : List ℕ) : Type 0 where
  refused : TellsWhy profile part query told → Explains profile part query told
  accepted : (q : QueryTree) → IsAcceptedInBytes profile query q → told ≡ []
      → Explains profile part query told
  no_text : ¬ IsUtf8 query → told ≡ [] → Explains profile part query told
