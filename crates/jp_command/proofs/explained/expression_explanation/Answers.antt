use Rattle.jp_explain.specs.Suggestion.{IsSuggestedExpression}
use Rattle.jp_command.proofs.Explaining.{sentence-told, whole-told}
use Rattle.jp_command.proofs.explained.expression_explanation.Goals as goal

pub returns-in-TextTooLong : goal.returns-in-TextTooLong
returns-in-TextTooLong c =
    sentence-told (IsSuggestedExpression c.args.profile) c.args.expression.now c.args.refusal c.sentence-sentence.result.now
    c.format.result c.in-TextTooLong.is c.sentence-sentence.ensures c.format.ensures.ok

pub returns-in_ok-explanation-in_default : goal.returns-in_ok-explanation-in_default
returns-in_ok-explanation-in_default c =
    whole-told (IsSuggestedExpression c.args.profile) c.args.expression.now c.args.refusal c.in_ok-explanation-in_default.explanation
    c.explanation_text.result c.in_default.not-TextTooLong
    (record {
      placed = c.in_ok-explanation-in_default.ensures.place;
      sentence = c.in_ok-explanation-in_default.ensures.sentence;
      suggestion = c.in_ok-explanation-in_default.ensures.suggestion;
    })
    c.explanation_text.ensures
