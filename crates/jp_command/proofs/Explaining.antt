-- Explanations of refused queries and expressions, as their bytes.
use Rattle.std.proofs.Common.{◌≡◌, ◌≢◌, ℕ, List, ◌++◌, codes, true, IfOk, Result, Ok, Err, String, string_bytes, sym, ap, ◌∙◌}
use Rattle.std.proofs.lemmas.Str.{IsUtf8-string_bytes, encodes-chars}
use Rattle.std.specs.Str.{chars, encode_utf8_all}
use Rattle.jp_explain.specs.Explanation.{explanation_text}
use Rattle.jp_reading.specs.Sentences.{is_sentence}
use Rattle.jp_reading.specs.Texts.{Text}
use Rattle.jp_explain.specs.declared.explanation.Explanation.{Explanation}
use Rattle.jp_query.specs.declared.refusal.Refusal.{Refusal}
use Rattle.jp_query.specs.declared.refusal.RefusalKind.TheVariants as kind
use Rattle.jp_command.specs.Explained.{ExplainsWith, IsExplained, sentence, whole}

module _ (Suggested : Text → Type 0) (refused : List ℕ) (r : Refusal) where
  -- the text of an explanation in UTF-8
  pub whole-told : {E Z : Type 0} (e : Explanation) (told : Result (String Z) E)
      → r.kind ≢ kind.TextTooLong → ExplainsWith Suggested refused r e
      → IfOk told (λ text. chars (string_bytes text) ≡ explanation_text e)
      → IfOk told (λ text. IsExplained Suggested refused r (string_bytes text))
  whole-told e (Ok text) other explains same = whole e other explains
      (sym (encodes-chars (string_bytes text) (IsUtf8-string_bytes text)) ∙ ap encode_utf8_all same)
  whole-told e (Err fault) other explains same = tt

  -- of a text that is too long, a sentence alone
  pub sentence-told : {E Z : Type 0} (line : List ℕ) (told : Result (String Z) E)
      → r.kind ≡ kind.TextTooLong → is_sentence line ≡ true
      → IfOk told (λ text. string_bytes text ≡ line ++ codes "\n")
      → IfOk told (λ text. IsExplained Suggested refused r (string_bytes text))
  sentence-told line (Ok text) long is same = sentence line long is same
  sentence-told line (Err fault) long is same = tt
