use Rattle.std.proofs.Common.{sym, ◌∙◌}
use Rattle.jp_evaluate.specs.Lent.{way_of}
use Rattle.jp_command.proofs.Fronts.{goes_back, spelled_all, spelled_more}
use Rattle.jp_command.proofs.front.Front.follow.Goals as goal

pub loop-step-init : goal.loop-step-init
loop-step-init g c =
    goes_back c.args.self.now c.go_back.new.self c.kept.result c.args.nodes.now c.kept.ensures c.requires
    c.go_back.ensures.back c.go_back.ensures.same

pub loop-step-preserved : goal.loop-step-preserved
loop-step-preserved g c =
    c.in_ok-push_last.ensures
    ∙ spelled_more (way_of c.args.nodes.now) c.loop-step.self.count c.in-Some.step _ c.loop-step.invariant
    (sym c.in-Some.ensures.step)

pub returns-clause-all : goal.returns-clause-all
returns-clause-all g c =
    spelled_all (way_of c.args.nodes.now) c.loop-step.self.count _ c.loop-step.invariant
    (sym c.in_default.ensures.step)
