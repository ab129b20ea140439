use Rattle.jp_json.proofs.Once.{wrong-once, wrong-only, wrong-somewhere}
use Rattle.jp_json.proofs.laws.one_place.Goals as goal

pub returns : goal.returns
returns c n text = record {
  answered = wrong-somewhere n text;
  once = wrong-once n text;
  only = wrong-only n text;
}
