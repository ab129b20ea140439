use Rattle.std.proofs.Common.{◌≡◌, ◌-◌, ◌<◌, get_or, length, sym, ap, ◌∙◌, arith}
use Rattle.json.specs.Text.{content, plain}
use Rattle.jp_flat.proofs.Lexed.{end-stands, part_stands, past-quote, plain_text, run_to, string_ends}
use Rattle.jp_flat.proofs.runs.spelled.Goals as goal

pub returns-then-bytes-end-eq34 : goal.returns-then-bytes-end-eq34
returns-then-bytes-end-eq34 c =
    let d = c.args.bytes.now in
    let first = c.args.first in
    let end = c.plain_end-end.result in
    let is = c.plain_end-end.ensures.value in
    let room : end < length d = grind arith in
    let byte : get_or d end 0 ≡ 34 = grind arith in
    record {
      within = omega (arith, room);
      stands = part_stands d first end (omega (arith, is)) (omega (arith, room));
      reads = λ x e. plain_text d first end is room byte ∙ e;
      passes = run_to d first end is ∙ string_ends d end room byte;
    }

pub escaped_end-requires-clause-plain : goal.escaped_end-requires-clause-plain
escaped_end-requires-clause-plain c =
    run_to c.args.bytes.now c.args.first c.plain_end-end.result c.plain_end-end.ensures.value

pub returns : goal.returns
returns c =
    let d = c.args.bytes.now in
    let first = c.args.first in
    let quote = c.in_ok-quote.quote in
    let range = c.in_ok-quote.ensures.within in
    record {
      within = omega (arith, range.1);
      stands = end-stands d (first - 1) (omega arith);
      reads = λ x e. sym (ap (content plain) (past-quote d first c.requires.0)) ∙ e;
      passes = c.in_ok-quote.ensures.passes;
    }
