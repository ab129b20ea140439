use Rattle.std.proofs.Common.{◌≡◌, ◌+◌, ◌≤◌, get_or, length, ◌∙◌, arith}
use Rattle.jp_flat.proofs.Lexed.{escape_passes, run_to, string_ends}
use Rattle.jp_flat.proofs.runs.escaped_end.Goals as goal

pub escapes-preserved : goal.escapes-preserved
escapes-preserved c =
    let d = c.args.bytes.now in
    let l = c.escapes in
    let room : l.at + 2 ≤ length d = grind arith in
    let byte : get_or d l.at 0 ≡ 92 = grind arith in
    record {
      same = l.invariant.same ∙ escape_passes d l.at room byte
          ∙ run_to d (l.at + 2) c.plain_end-at.result c.plain_end-at.ensures.value;
      after = omega (arith, c.plain_end-at.ensures.value, l.invariant.after);
      within = c.plain_end-at.ensures.within;
    }

pub returns-then-bytes-at-eq34-clause-passes : goal.returns-then-bytes-at-eq34-clause-passes
returns-then-bytes-at-eq34-clause-passes c =
    c.escapes.invariant.same
    ∙ string_ends c.args.bytes.now c.escapes.at (grind arith) (grind arith)
