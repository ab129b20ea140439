use Rattle.jp_explain.specs.Suggestion.{IsSuggested}
use Rattle.jp_command.proofs.Explaining.{sentence-told, whole-told}
use Rattle.jp_command.proofs.explained.explanation.Goals as goal

pub returns-in-TextTooLong : goal.returns-in-TextTooLong
returns-in-TextTooLong c =
    sentence-told (IsSuggested c.args.profile) c.args.query.now c.args.refusal c.sentence-sentence.result.now
    c.format.result c.in-TextTooLong.is c.sentence-sentence.ensures c.format.ensures.ok

pub returns-in_ok-explain-in_default : goal.returns-in_ok-explain-in_default
returns-in_ok-explain-in_default c =
    whole-told (IsSuggested c.args.profile) c.args.query.now c.args.refusal c.in_ok-explain-in_default.field-0
    c.explanation_text.result c.in_default.not-TextTooLong
    (record {
      placed = c.in_ok-explain-in_default.ensures.place;
      sentence = c.in_ok-explain-in_default.ensures.sentence;
      suggestion = c.in_ok-explain-in_default.ensures.suggestion;
    })
    c.explanation_text.ensures
