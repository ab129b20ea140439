use Rattle.jp_c.proofs.Explaining.{part-told}
use Rattle.jp_c.proofs.explained.refused_text.Goals as goal

pub returns-in_ok-explain-in_default : goal.returns-in_ok-explain-in_default
returns-in_ok-explain-in_default c =
    part-told c.args.profile c.args.query.now c.args.refusal c.args.part
    c.in_ok-explain-in_default.field-0 c.told.result c.requires.utf8 c.in_default.not-NoMemory
    c.requires.refused c.requires.only
    (record {
      placed = c.in_ok-explain-in_default.ensures.place;
      sentence = c.in_ok-explain-in_default.ensures.sentence;
      suggestion = c.in_ok-explain-in_default.ensures.suggestion;
    })
    c.told.ensures
