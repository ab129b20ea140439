use Rattle.std.proofs.Common.{◌++◌, take, drop, ap, ◌∙◌}
use Rattle.std.proofs.Math.Seq.{take-append_seam, drop-append_seam}
use Rattle.jp_explain.proofs.Cuts.{characters_before-bytes}
use Rattle.jp_explain.proofs.laws.cut_at_place.Goals as goal

pub returns : goal.returns
returns c front rest = (
  ap (λ n. take n (front ++ rest)) (characters_before-bytes front rest)
      ∙ take-append_seam front rest,
  ap (λ n. drop n (front ++ rest)) (characters_before-bytes front rest)
      ∙ drop-append_seam front rest,
)
