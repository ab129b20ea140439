-- Why a text is refused, told as a part of its explanation.
use Rattle.std.proofs.Common.{◌≡◌, ◌≢◌, ◌⊎◌, ℕ, List, IfOk, Result, Ok, Err, String, inl, inr, string_bytes}
use Rattle.std.specs.Str.{chars, IsUtf8}
use Rattle.jp_check.specs.Accepted.{IsNotAccepted}
use Rattle.jp_check.specs.Refused.{IsRefused}
use Rattle.jp_check.specs.declared.profile.Profile.{Profile}
use Rattle.jp_command.specs.Explained.{ExplainsRefusal}
use Rattle.jp_explain.specs.declared.explanation.Explanation.{Explanation}
use Rattle.jp_query.specs.declared.refusal.Refusal.{Refusal}
use Rattle.jp_query.specs.declared.refusal.RefusalKind.TheVariants.{NoMemory}
use Rattle.jsonpath.specs.Find.{RefusesText}
use Rattle.jp_c.specs.Explained.{Explains, IsPart, refused}
use Rattle.jp_c.specs.declared.explained.Part.{Part}

module _ (profile : Profile) (query : List ℕ) (r : Refusal) where
  -- a refusal that is not want of memory is for what the text is
  refuses : r.kind ≢ NoMemory → IsRefused profile (chars query) r
      → (r.kind ≡ NoMemory) ⊎ IsNotAccepted profile (chars query)
      → RefusesText profile (chars query) r
  refuses other is (inl none) = absurd (other none)
  refuses other is (inr not) = (not, (is, other))

  pub part-told : {E Z : Type 0} (part : Part) (e : Explanation) (told : Result (String Z) E)
      → IsUtf8 query → r.kind ≢ NoMemory → IsRefused profile (chars query) r
      → (r.kind ≡ NoMemory) ⊎ IsNotAccepted profile (chars query)
      → ExplainsRefusal profile query r e
      → IfOk told (λ text. IsPart part e (string_bytes text))
      → IfOk told (λ text. Explains profile part query (string_bytes text))
  part-told part e (Ok text) utf8 other is only explains same =
      refused (record {
        r = r;
        e = e;
        utf8 = utf8;
        refused = refuses other is only;
        explained = explains;
        is = same;
      })
  part-told part e (Err fault) utf8 other is only explains same = tt
