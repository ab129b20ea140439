use Rattle.std.proofs.Common.{◌∙◌}
use Rattle.clap.specs.Words.{found_of}
use Rattle.jp_command.proofs.Matches.{flag-read}
use Rattle.jp_command.proofs.words.is_set.Goals as goal

pub returns : goal.returns
returns c = c.unwrap_or.ensures
    ∙ flag-read _ (found_of c.args.found.now) c.args.flag.now c.get_one.result
    c.get_one.ensures.none c.get_one.ensures.value
