use Rattle.std.proofs.Common.{◌≡◌, ◌++◌, ◌+◌, ◌<◌, ◌∙◌, [], ◌∷◌, ap, arith, if◌then◌else◌, is_ok, length, subst}
use Rattle.std.proofs.Common.{sym}
use Rattle.std.proofs.lemmas.List.{length-append}
use Rattle.jp_c.specs.Private.Subjects.{AreRead}
use Rattle.jp_c.proofs.QueriesRead.{read-next, reads-wider}
use Rattle.jp_c.proofs.many.read_each.Goals as goal

pub returns-in-Err : goal.returns-in-Err
returns-in-Err c =
    let loop = c.loop-question in
    let rs = loop.reads.items in
    let e = c.read_one-read.result in
    let after = c.read_one-read.new.plan.portion in
    let items : c.push.new.self.items ≡ rs =
    c.push.ensures.items ∙ ap (λ r. if is_ok r then rs ++ e ∷ [] else rs) c.in-Err.is in
    subst (AreRead c.args.profile after c.args.queries.now c.args.questions.now) (sym items)
    (reads-wider c.args.profile loop.plan.portion after c.args.queries.now c.args.questions.now rs
    c.read_one-read.ensures.others loop.invariant.read)

pub loop-question-preserved : goal.loop-question-preserved
loop-question-preserved c =
    let loop = c.loop-question in
    let rs = loop.reads.items in
    let i = loop.question-index in
    let e = c.read_one-read.result in
    let after = c.read_one-read.new.plan.portion in
    let items : c.push.new.self.items ≡ rs ++ e ∷ [] =
    c.push.ensures.items ∙ ap (λ r. if is_ok r then rs ++ e ∷ [] else rs) c.in-Ok.is in
    let within : i < length c.args.questions.now = omega (arith, c.loop-question-test.true) in
    record {
      read = subst (AreRead c.args.profile after c.args.queries.now c.args.questions.now) (sym items)
          (read-next c.args.profile loop.plan.portion after c.args.queries.now c.args.questions.now rs i _
          c.part-query.result.now e c.read_one-read.ensures.others loop.invariant.read
          loop.invariant.counted within c.part-query.ensures c.read_one-read.ensures.read);
      counted = ap length items ∙ length-append rs (e ∷ []) ∙ ap (λ n. n + 1) loop.invariant.counted;
    }
