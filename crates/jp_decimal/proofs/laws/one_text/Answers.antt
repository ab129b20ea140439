-- For `one_text`.
use Rattle.std.proofs.Common.{subst, sym}
use Rattle.jp_decimal.proofs.ReadBack.{read-back}
use Rattle.jp_decimal.proofs.Same.{same-sym, same-trans}
use Rattle.jp_decimal.proofs.Unique.{one-normal}
use Rattle.jp_decimal.specs.NumberText.{number_text}
use Rattle.jp_decimal.specs.Number.{scaled_of}
use Rattle.jp_decimal.specs.Scaled.{SameNumber}
use Rattle.jp_decimal.specs.TextValue.{value_of_text}
use Rattle.jp_decimal.proofs.laws.one_text.Goals as goal

pub returns : goal.returns
returns c m n p q e =
    one-normal m n p q
    (same-trans (scaled_of m) (value_of_text (number_text m)) (scaled_of n)
    (same-sym (value_of_text (number_text m)) (scaled_of m) (read-back m p))
    (subst (λ t. SameNumber (value_of_text t) (scaled_of n)) (sym e) (read-back n q)))
