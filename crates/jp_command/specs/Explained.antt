-- What explains a refused query, or the refused expression of a filter: where it is refused, a sentence, and
-- what to try instead. `Line` cites it.
use Rattle.std.specs.Prelude.{◌≡◌, ◌≢◌, ℕ, List, true, ◌++◌, codes, IfSome, string_bytes}
use Rattle.std.specs.Str.{chars, encode_utf8_all}
use Rattle.jp_check.specs.declared.profile.Profile.{Profile}
use Rattle.jp_explain.specs.Explanation.{IsPlacedAt, explanation_text}
use Rattle.jp_reading.specs.Sentences.{is_sentence}
use Rattle.jp_reading.specs.Texts.{Text}
use Rattle.jp_explain.specs.Suggestion.{IsSuggested, IsSuggestedExpression}
use Rattle.jp_explain.specs.declared.explanation.Explanation.{Explanation}
use Rattle.jp_query.specs.declared.refusal.Refusal.{Refusal}
use Rattle.jp_query.specs.declared.refusal.RefusalKind.TheVariants as kind

-- what may be suggested, the refused text in UTF-8, and how it is refused
module _ (Suggested : Text → Type 0) (refused : List ℕ) (r : Refusal) where
  -- the explanation is of the refusal's place, it has a sentence, and what it suggests may be
  pub record ExplainsWith (e : Explanation) : Type 0 where
    pub placed : IsPlacedAt (chars refused) r.place e
    pub sentence : is_sentence e.sentence.now ≡ true
    pub suggestion : IfSome e.suggestion (λ text. Suggested (chars (string_bytes text)))

  -- its text in UTF-8; of a refused text that is too long, a sentence alone
  pub data IsExplained (text : List ℕ) : Type 0 where
    whole : (e : Explanation) → r.kind ≢ kind.TextTooLong → ExplainsWith e
        → text ≡ encode_utf8_all (explanation_text e) → IsExplained text
    sentence : (line : List ℕ) → r.kind ≡ kind.TextTooLong → is_sentence line ≡ true
        → text ≡ line ++ codes "\n" → IsExplained text

-- of a query, that is read in the profile: what is suggested is accepted as it is printed
abbrev pub ExplainsRefusal : Profile → List ℕ → Refusal → Explanation → Type 0
ExplainsRefusal profile = ExplainsWith (IsSuggested profile)

abbrev pub IsExplanation : Profile → List ℕ → Refusal → List ℕ → Type 0
IsExplanation profile = IsExplained (IsSuggested profile)

-- of the expression of a filter: what is suggested is accepted as one
abbrev pub IsExpressionExplanation : Profile → List ℕ → Refusal → List ℕ → Type 0
IsExpressionExplanation profile = IsExplained (IsSuggestedExpression profile)
