use Rattle.std.proofs.Common.{◌≡◌, ℕ, List, IfOk, Some, rules}
use Rattle.std.specs.Str.{chars}
use Rattle.std.proofs.lemmas.Result.{IfOk-weaker}
use Rattle.jp_iregexp.specs.MatchTests.{has_match, is_match}
use Rattle.jp_iregexp.specs.PatternOf.{pattern_of}
use Rattle.jp_iregexp.specs.Tree.{tree}
use Rattle.jp_evaluate.proofs.Matching.{part_answer, whole_answer}
use Rattle.jp_evaluate.proofs.evaluating.is_matched.Goals as goal

pub returns-in-Whole : goal.returns-in-Whole
returns-in-Whole g c =
    let string = chars c.args.text.now in
    let read = tree c.args.pattern.now.pattern in
    let exact : IfOk c.whole_counted.result (λ answer. (spelled : List ℕ)
    → pattern_of (chars spelled) ≡ Some read → answer ≡ is_match string (chars spelled)) =
    IfOk-weaker c.whole_counted.result _ _
    (λ answer exact spelled found. whole_answer answer read string (chars spelled) found exact)
    c.whole_counted.ensures.exact in
    search rules

pub returns-in-Part : goal.returns-in-Part
returns-in-Part g c =
    let string = chars c.args.text.now in
    let read = tree c.args.pattern.now.pattern in
    let exact : IfOk c.part_counted.result (λ answer. (spelled : List ℕ)
    → pattern_of (chars spelled) ≡ Some read → answer ≡ has_match string (chars spelled)) =
    IfOk-weaker c.part_counted.result _ _
    (λ answer exact spelled found. part_answer answer read string (chars spelled) found exact)
    c.part_counted.ensures.exact in
    search rules
