use Rattle.std.proofs.Common.{◌≡◌, map, refl, rules, string_bytes, true}
use Rattle.clap.specs.Words.{kind_of}
use Rattle.jp_command.specs.Help.{is_shown}
use Rattle.jp_command.specs.Line.{done, shown}
use Rattle.jp_command.proofs.Helped.{asks-to_show}
use Rattle.jp_command.proofs.Told.{kept-of_bytes, says-fault}
use Rattle.jp_command.proofs.line.run_line.Goals as goal

pub returns-in-Ok-run_and_flush : goal.returns-in-Ok-run_and_flush
returns-in-Ok-run_and_flush g c = let how = c.in-Ok-run_and_flush.ensures.done in
    done c.in-Ok.asked.profile
    (record {
      task = c.in-Ok.asked.task;
      query = c.in-Ok.asked.query.now;
      explains = c.in-Ok.asked.is_explaining;
      asks = search rules;
      runs = c.in-Ok-run_and_flush.ensures.says;
      calls = (how.output, how.is, how.goes);
    })
    how.ends c.in-Ok-run_and_flush.ensures.handed_on refl

pub tell-requires : goal.tell-requires
tell-requires g c =
    kept-of_bytes _ _ _ _ _ _ _ _ _ c.as_slice.result.now c.run_and_flush.new.kept.items
    c.in-Err-run_and_flush.fault (search rules) c.in-Err-run_and_flush.ensures.kept

pub returns-in-Ok : goal.returns-in-Ok
returns-in-Ok g c =
    says-fault _ _ _ _ _ _ _ _ _ _ _ _ _ _ _ _ c.in-Ok.asked.profile c.as_slice.result.now
    c.run_and_flush.new.kept.items c.in-Err-run_and_flush.fault
    (record {
      task = c.in-Ok.asked.task;
      query = c.in-Ok.asked.query.now;
      explains = c.in-Ok.asked.is_explaining;
      asks = search rules;
      runs = c.in-Err-run_and_flush.ensures.says;
      calls = c.in-Err-run_and_flush.ensures.calls;
    })
    c.status.ensures (search rules) c.in-Err-run_and_flush.ensures.kept c.tell.ensures

pub returns-in-Err : goal.returns-in-Err
returns-in-Err g c =
    let given : map string_bytes c.deref.result.now ≡ map string_bytes c.args.words.items = search rules in
    let shows : is_shown (kind_of c.in-Err.error) ≡ true = search rules in
    let wants = asks-to_show (kind_of c.in-Err.error) (map string_bytes c.args.words.items)
    (map string_bytes c.deref.result.now) given c.in-Err.ensures.refused shows in
    shown wants.0 wants.1 refl c.show.ensures

pub returns : goal.returns
returns g c = search rules
