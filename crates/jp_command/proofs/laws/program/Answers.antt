use Rattle.jp_command.proofs.Finished.{five-is_streams, four-is_alone, four-is_unasked}
use Rattle.jp_command.proofs.Finished.{four-is_unwritten, six-is_nothing, zero-is_finished}
use Rattle.jp_command.proofs.Program.{four-is_memory, how-ends, no-words}
use Rattle.jp_command.proofs.Program.{not-accepted, not-document, one-is_refused, status-is_within}
use Rattle.jp_command.proofs.Program.{three-is_document, two-is_usage, writes-accepted}
use Rattle.jp_command.proofs.Program.{writes-canonical, writes-lines, zero-is_accepted}
use Rattle.jp_command.proofs.Program.{zero-is_asked}
use Rattle.jp_command.specs.declared.words.Task.TheVariants.{Check, Canon, Eval}
use Rattle.jp_command.proofs.laws.program.Goals as goal

pub returns : goal.returns
returns g c = record {
  headline = c.headline.ensures;
  selects = λ it nodes text profile explains q d asks pair. writes-lines _ _ _ _ _ _ _ _
      profile (c.headline.ensures profile).documents (c.headline.ensures profile).queries nodes text
      it q d pair (how-ends _ _ _ _ _ _ _ _ profile (Eval nodes) text explains it asks it.says);
  no_other = λ it nodes text bytes profile explains asks tells zero.
      zero-is_accepted _ _ _ _ _ _ _ _ profile nodes text bytes it
      (how-ends _ _ _ _ _ _ _ _ profile (Eval nodes) text explains it asks it.says) tells zero;
  canonical = λ it text profile explains q asks is. writes-canonical _ _ _ _ _ _ _ _ profile
      (c.headline.ensures profile).queries text it q is
      (how-ends _ _ _ _ _ _ _ _ profile Canon text explains it asks it.says);
  checked = λ it text profile explains q asks is. writes-accepted _ _ _ _ _ _ _ _ profile
      (c.headline.ensures profile).queries text it q is
      (how-ends _ _ _ _ _ _ _ _ profile Check text explains it asks it.says);
  done = λ it task text profile explains asks zero. zero-is_asked _ _ _ _ _ _ _ _ profile task text it
      (how-ends _ _ _ _ _ _ _ _ profile task text explains it asks it.says) zero;
  finished = zero-is_finished _ _ _ _ _ _ _ _;
  not_accepted = λ it task text profile explains asks none. not-accepted _ _ _ _ _ _ _ _ profile text it
      none task (how-ends _ _ _ _ _ _ _ _ profile task text explains it asks it.says);
  refused = one-is_refused _ _ _ _ _ _ _ _;
  no_words = no-words _ _ _ _ _ _ _ _;
  refused_words = two-is_usage _ _ _ _ _ _ _ _;
  no_document = λ it nodes text bytes profile explains q asks is tells none. not-document _ _ _ _ _ _ _ _
      profile nodes text bytes it q is tells none
      (how-ends _ _ _ _ _ _ _ _ profile (Eval nodes) text explains it asks it.says);
  refused_document = three-is_document _ _ _ _ _ _ _ _;
  exhausted = four-is_memory _ _ _ _ _ _ _ _;
  exhausted_alone = four-is_alone _ _ _ _ _ _ _ _;
  exhausted_unasked = four-is_unasked _ _ _ _ _ _ _ _;
  exhausted_unwritten = λ it nodes text bytes profile explains asks tells none.
      four-is_unwritten _ _ _ _ _ _ _ _ profile nodes text bytes it tells none
      (how-ends _ _ _ _ _ _ _ _ profile (Eval nodes) text explains it asks it.says);
  failed = five-is_streams _ _ _ _ _ _ _ _;
  nothing_selected = six-is_nothing _ _ _ _ _ _ _ _;
  statuses = status-is_within _ _ _ _ _ _ _ _;
}
