use Rattle.std.proofs.Common.{sym, subst}
use Rattle.jp_command.specs.declared.fault.Fault.TheVariants as fault
use Rattle.jp_lines.specs.Private.Passing.{StopsEnding}
use Rattle.jp_lines.specs.Views.{task_of}
use Rattle.jp_lines.specs.declared.stop.Stop.TheVariants as stop
use Rattle.jp_lines.proofs.LineLemmas.{defect-of_bytes, err-is, stops-answering, stops-counting_nodes}
use Rattle.jp_lines.proofs.LineLemmas.{stops-counting_refusals, stops-flushing, stops-flushing_blank}
use Rattle.jp_lines.proofs.LineLemmas.{stops-refusing, treats-answered, treats-blank, treats-refused}
use Rattle.jp_lines.proofs.treating.treat.Goals as goal

pub refuse-requires : goal.refuse-requires
refuse-requires g c =
    let answers = rw c.in-Refused.is at c.in_ok-answer.ensures.answers in
    defect-of_bytes c.args.asked.options (task_of c.args.asked.task) c.args.number c.args.kept.now
    c.in-Refused.defect answers.0

pub returns-in_err-answer-clause-stopped : goal.returns-in_err-answer-clause-stopped
returns-in_err-answer-clause-stopped g c =
    err-is c.from_residual.result (stop.Run c.in_err-answer.field-0.0) _ c.from_residual.ensures.1
    (λ line is. stops-answering c.args.asked.options c.args.asked.lead.now g.W.Writer.contents
    g.W.Writer.has_failed g.E.Writer.contents g.E.Writer.has_failed (task_of c.args.asked.task)
    c.args.number c.args.kept.now line is c.args.before c.in_err-answer.field-0.0 _ _ _
    c.in_err-answer.ensures.stopped)

pub returns-in_err-flush-in-Blank-clause-stopped : goal.returns-in_err-flush-in-Blank-clause-stopped
returns-in_err-flush-in-Blank-clause-stopped g c =
    let task = task_of c.args.asked.task in
    err-is c.from_residual-in_err-flush-in-Blank.result (stop.Run c.in_err-flush-in-Blank.field-0.0) _
    c.from_residual-in_err-flush-in-Blank.ensures.1
    (λ line is. subst
    (λ f. StopsEnding c.args.asked.options c.args.asked.lead.now g.W.Writer.contents
    g.W.Writer.has_failed g.E.Writer.contents g.E.Writer.has_failed task c.args.number line
    c.args.before c.args.before c.args.output.now c.flush.new.output c.args.faults.now
    c.args.faults.now (stop.Run f))
    (sym c.in_err-flush-in-Blank.ensures.write)
    (stops-flushing_blank c.args.asked.options c.args.asked.lead.now g.W.Writer.contents
    g.W.Writer.has_failed g.E.Writer.contents g.E.Writer.has_failed task c.args.number c.args.kept.now
    line is c.args.before _ c.answer.new.output _ _ (rw c.in-Blank.is at c.in_ok-answer.ensures.answers)
    c.flush.ensures.kept c.in_err-flush-in-Blank.ensures.fails))

pub returns-in_err-flush-in-Written-clause-stopped : goal.returns-in_err-flush-in-Written-clause-stopped
returns-in_err-flush-in-Written-clause-stopped g c =
    let task = task_of c.args.asked.task in
    err-is c.from_residual-in_err-flush-in-Written.result (stop.Run c.in_err-flush-in-Written.field-0.0) _
    c.from_residual-in_err-flush-in-Written.ensures.1
    (λ line is. subst
    (λ f. StopsEnding c.args.asked.options c.args.asked.lead.now g.W.Writer.contents
    g.W.Writer.has_failed g.E.Writer.contents g.E.Writer.has_failed task c.args.number line
    c.args.before c.args.before c.args.output.now c.flush-in-Written.new.output c.args.faults.now
    c.args.faults.now (stop.Run f))
    (sym c.in_err-flush-in-Written.ensures.write)
    (stops-flushing c.args.asked.options c.args.asked.lead.now g.W.Writer.contents
    g.W.Writer.has_failed g.E.Writer.contents g.E.Writer.has_failed task c.args.number c.args.kept.now
    line is c.args.before c.in-Written.selected _ c.answer.new.output _ _
    (rw c.in-Written.is at c.in_ok-answer.ensures.answers)
    c.flush-in-Written.ensures.kept c.in_err-flush-in-Written.ensures.fails))

pub returns-in_err-after-in-Written-clause-stopped : goal.returns-in_err-after-in-Written-clause-stopped
returns-in_err-after-in-Written-clause-stopped g c =
    err-is c.from_residual-in_err-after-in-Written.result (stop.Run fault.NoMemory) _
    c.from_residual-in_err-after-in-Written.ensures.1
    (λ line is. stops-counting_nodes c.args.asked.options c.args.asked.lead.now g.W.Writer.contents
    g.W.Writer.has_failed g.E.Writer.contents g.E.Writer.has_failed (task_of c.args.asked.task)
    c.args.number c.args.kept.now line is c.args.before c.in-Written.selected _ c.answer.new.output _ _
    (rw c.in-Written.is at c.in_ok-answer.ensures.answers) c.flush-in-Written.ensures.kept
    c.in_ok-flush-in-Written.ensures.works)

pub returns-in_err-after-in-Refused-clause-stopped : goal.returns-in_err-after-in-Refused-clause-stopped
returns-in_err-after-in-Refused-clause-stopped g c =
    let answers = rw c.in-Refused.is at c.in_ok-answer.ensures.answers in
    err-is c.from_residual-in_err-after-in-Refused.result (stop.Run fault.NoMemory) _
    c.from_residual-in_err-after-in-Refused.ensures.1
    (λ line is. stops-counting_refusals c.args.asked.options c.args.asked.lead.now
    g.W.Writer.contents g.W.Writer.has_failed g.E.Writer.contents g.E.Writer.has_failed
    (task_of c.args.asked.task) c.args.number c.args.kept.now line is c.args.before _ _ _ answers.1)

pub returns-in_err-refuse-in-Refused-clause-stopped :
    goal.returns-in_err-refuse-in-Refused-clause-stopped
returns-in_err-refuse-in-Refused-clause-stopped g c =
    let answers = rw c.in-Refused.is at c.in_ok-answer.ensures.answers in
    err-is c.from_residual-in_err-refuse-in-Refused.result c.in_err-refuse-in-Refused.field-0.0 _
    c.from_residual-in_err-refuse-in-Refused.ensures.1
    (λ line is. stops-refusing c.args.asked.options c.args.asked.lead.now g.W.Writer.contents
    g.W.Writer.has_failed g.E.Writer.contents g.E.Writer.has_failed (task_of c.args.asked.task)
    c.args.number c.args.kept.now line is c.args.before c.in-Refused.defect _ _ _ _
    c.in_err-refuse-in-Refused.field-0.0 answers.0 answers.1 c.in_err-refuse-in-Refused.ensures.silent
    c.in_err-refuse-in-Refused.ensures.stopped)

pub returns-in_ok-flush-in-Blank-clause-treated : goal.returns-in_ok-flush-in-Blank-clause-treated
returns-in_ok-flush-in-Blank-clause-treated g c = λ line is.
    treats-blank c.args.asked.options c.args.asked.lead.now g.W.Writer.contents g.W.Writer.has_failed
    g.E.Writer.contents g.E.Writer.has_failed (task_of c.args.asked.task)
    c.args.number c.args.kept.now line is c.args.before _ c.answer.new.output _ _
    (rw c.in-Blank.is at c.in_ok-answer.ensures.answers) c.flush.ensures.kept
    c.in_ok-flush-in-Blank.ensures.works

pub returns-in_ok-after-in-Written-clause-treated : goal.returns-in_ok-after-in-Written-clause-treated
returns-in_ok-after-in-Written-clause-treated g c = λ line is.
    let answers = rw c.in-Written.is at c.in_ok-answer.ensures.answers in
    treats-answered c.args.asked.options c.args.asked.lead.now g.W.Writer.contents
    g.W.Writer.has_failed g.E.Writer.contents g.E.Writer.has_failed (task_of c.args.asked.task)
    c.args.number c.args.kept.now line is c.args.before c.in-Written.selected
    c.in_ok-after-in-Written.after _ c.answer.new.output _ _
    answers c.flush-in-Written.ensures.kept c.in_ok-flush-in-Written.ensures.works
    (rw (c.of_document.ensures answers.output) at c.in_ok-after-in-Written.ensures.both)

pub returns-in_ok-refuse-in-Refused-clause-treated : goal.returns-in_ok-refuse-in-Refused-clause-treated
returns-in_ok-refuse-in-Refused-clause-treated g c = λ line is.
    let answers = rw c.in-Refused.is at c.in_ok-answer.ensures.answers in
    let told = c.in_ok-refuse-in-Refused.ensures.told in
    treats-refused c.args.asked.options c.args.asked.lead.now g.W.Writer.contents
    g.W.Writer.has_failed g.E.Writer.contents g.E.Writer.has_failed (task_of c.args.asked.task)
    c.args.number c.args.kept.now line is c.args.before c.in-Refused.defect told.0
    c.in_ok-after-in-Refused.after _ _ _ _ answers.0 told.1 answers.1
    told.2 c.in_ok-refuse-in-Refused.ensures.going
    (rw (c.of_refusal.ensures told.0) at c.in_ok-after-in-Refused.ensures.both)
