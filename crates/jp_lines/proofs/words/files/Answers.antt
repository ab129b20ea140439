use Rattle.std.proofs.Common.{◌∙◌, ap, codes, map, Some, None}
use Rattle.std.proofs.lemmas.Result.{IfOk-weaker}
use Rattle.clap.specs.Words.{found_of}
use Rattle.jp_lines.proofs.Matches.{words-held}
use Rattle.jp_lines.proofs.words.files.Goals as goal

pub returns-in-Some : goal.returns-in-Some
returns-in-Some c =
    let held = words-held (found_of c.args.found.now) (codes "FILE")
    (Some (map (λ w. w.now) c.in-Some.names.now)) c.in-Some.ensures in
    IfOk-weaker c.copied.result _ _ (λ copy same. ap (map (λ w. w.now)) same ∙ held)
    c.copied.ensures

pub returns-in-None : goal.returns-in-None
returns-in-None c =
    ap (map (λ w. w.now)) c.new.ensures.items
    ∙ words-held (found_of c.args.found.now) (codes "FILE") None c.in-None.ensures
