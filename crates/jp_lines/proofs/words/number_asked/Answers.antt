use Rattle.clap.specs.Words.{found_of}
use Rattle.std.specs.Str.Parse.{ExplainsUnsignedError, HasUnsignedDigitsIfOk, ParsesUnsigned}
use Rattle.jp_lines.proofs.Matches.{number-read}
use Rattle.jp_lines.proofs.words.number_asked.Goals as goal

pub returns : goal.returns
returns c =
    number-read _
    (λ bs r. ParsesUnsigned 64 10 bs r × ExplainsUnsignedError 10 bs r × HasUnsignedDigitsIfOk bs r)
    (λ t r gives. gives.0) (found_of c.args.found.now)
    c.args.name.now c.get_one.result
    c.get_one.ensures.none c.get_one.ensures.value
