use Rattle.std.proofs.Common.{◌≡◌, ◌<◌, true, get_or, length, sym, ◌∙◌, arith}
use Rattle.json.specs.Word.{is_space}
use Rattle.jp_flat.proofs.Punctuated.{blank_at}
use Rattle.jp_flat.proofs.blanks.past_blanks_slowly.Goals as goal

pub blanks-preserved : goal.blanks-preserved
blanks-preserved c =
    let d = c.args.bytes.now in
    let at = c.blanks.at in
    let room : at < length d = grind arith in
    let byte : is_space (get_or d at 0) ≡ true = grind arith in
    record {
      same = sym (blank_at d at room byte) ∙ c.blanks.invariant.same;
      within = omega (arith, room);
    }
