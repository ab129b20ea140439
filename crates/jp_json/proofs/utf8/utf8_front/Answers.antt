use Rattle.std.proofs.Common.{◌≡◌, List, ℕ, take, sym, ap, ◌∙◌}
use Rattle.std.proofs.Math.Seq.{take-length}
use Rattle.std.specs.Str.Lossy.{utf8_valid_len}
use Rattle.std.specs.Prelude.{IsUtf8}
use Rattle.std.proofs.lemmas.Str.{utf8_valid_len-IsUtf8}
use Rattle.jp_json.proofs.utf8.utf8_front.Goals as goal

whole : (text bytes : List ℕ) → text ≡ bytes → IsUtf8 bytes → text ≡ take (utf8_valid_len bytes) bytes
whole text bytes is utf8 =
    is ∙ sym (ap (λ n. take n bytes) (utf8_valid_len-IsUtf8 bytes utf8) ∙ take-length bytes)

pub returns-in-Ok-clause-text : goal.returns-in-Ok-clause-text
returns-in-Ok-clause-text c = whole _ _ c.in-Ok.ensures.cases.0 c.in-Ok.ensures.cases.1
