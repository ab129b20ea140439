use Rattle.std.proofs.Common.{◌≡◌, ◌<◌, get_or, length, arith}
use Rattle.jp_flat.proofs.Undone.{gone-nowhere, gone-over, gone-past, gone-to-quote}
use Rattle.jp_flat.proofs.escapes.has_content.Goals as goal

pub escapes-init : goal.escapes-init
escapes-init c = record { gone = gone-nowhere c.args.bytes.now }

pub returns-then-bytes-end-eq34 : goal.returns-then-bytes-end-eq34
returns-then-bytes-end-eq34 c _ =
    let d = c.args.bytes.now in
    let end = c.plain_end-end.result in
    let within : end < length d = grind arith in
    let quote : get_or d end 0 ≡ 34 = grind arith in
    gone-to-quote d end
    (gone-over d c.escapes.at end c.plain_end-end.ensures.value c.plain_end-end.ensures.within
    c.escapes.invariant.gone) within quote

pub escapes-preserved : goal.escapes-preserved
escapes-preserved c =
    let d = c.args.bytes.now in
    let end = c.plain_end-end.result in
    record {
      gone = gone-past d end c.in-Some.next c.in-Some.ensures
          (gone-over d c.escapes.at end c.plain_end-end.ensures.value c.plain_end-end.ensures.within
          c.escapes.invariant.gone);
    }
