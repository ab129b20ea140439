use Rattle.std.proofs.Common.{◌∙◌, Err, Ok, ap, false, inr, map, refl, rules, subst, sym, true, [], ◌≡◌}
use Rattle.jp_command.specs.declared.fault.Fault.TheVariants.{NoMemory}
use Rattle.jp_lines.specs.Inputs.{before, in_part, lead_of_lines, whole}
use Rattle.jp_lines.specs.Outcome.{left_after, tally_of}
use Rattle.jp_lines.specs.Private.Opening.{HaltsNext, PassesOne}
use Rattle.jp_lines.specs.Views.{task_of}
use Rattle.jp_lines.specs.declared.halt.Halt.TheVariants as halt
use Rattle.jp_lines.specs.declared.opening.Cut.TheVariants as cut
use Rattle.jp_lines.proofs.InTurn.{err-then, halts-unread, one-as, one-uncounted, one-unread, one-whole}
use Rattle.jp_lines.proofs.InTurn.{or-false, or-true}
use Rattle.jp_lines.proofs.Tallies.{plus-none}
use Rattle.jp_lines.proofs.opening.pass_next.Goals as goal

pub returns-in_err-lead-clause-halted : goal.returns-in_err-lead-clause-halted
returns-in_err-lead-clause-halted g c =
    err-then c.from_residual.result (halt.Fault NoMemory)
    (HaltsNext c.args.asked.options g.I.Inputs.opens g.I.Input.Source.remaining
    g.I.Input.Source.has_failed g.I.Input.Source.read_gives g.W.Writer.contents g.W.Writer.has_failed
    g.E.Writer.contents g.E.Writer.has_failed (task_of c.args.asked.task) c.args.name.now
    c.args.inputs.now c.args.inputs.now c.args.output.now c.args.output.now c.args.faults.now
    c.args.faults.now (map (λ t. t.now) c.args.named.now) c.args.passed.now c.args.passed.now)
    c.from_residual.ensures.1
    (record {
      more = tally_of [];
      halts = inr (before refl refl refl refl);
      tally = sym (plus-none c.args.passed.now.tally);
      unread = refl;
    })

pub returns-in_err-passed-clause-halted : goal.returns-in_err-passed-clause-halted
returns-in_err-passed-clause-halted g c =
    let leads : c.as_str.result.now ≡ lead_of_lines (map (λ t. t.now) c.args.named.now) c.args.name.now = search rules in
    err-then c.from_residual-in_err-passed.result (halt.Fault NoMemory)
    (HaltsNext c.args.asked.options g.I.Inputs.opens g.I.Input.Source.remaining
    g.I.Input.Source.has_failed g.I.Input.Source.read_gives g.W.Writer.contents g.W.Writer.has_failed
    g.E.Writer.contents g.E.Writer.has_failed (task_of c.args.asked.task) c.args.name.now
    c.args.inputs.now c.pass_input-ended.new.inputs c.args.output.now c.pass_input-ended.new.output c.args.faults.now
    c.pass_input-ended.new.faults (map (λ t. t.now) c.args.named.now) c.args.passed.now c.args.passed.now)
    c.from_residual-in_err-passed.ensures.1
    (record {
      more = tally_of [];
      halts = inr (one-uncounted c.args.asked.options (map (λ t. t.now) c.args.named.now) g.I.Inputs.opens g.I.Input.Source.remaining
          g.I.Input.Source.has_failed g.I.Input.Source.read_gives g.W.Writer.contents g.W.Writer.has_failed
          g.E.Writer.contents g.E.Writer.has_failed (task_of c.args.asked.task)
          c.args.passed.now.tally (left_after c.args.passed.now.tally.refused c.args.asked.options.reports) c.args.name.now
          c.args.inputs.now c.pass_input-ended.new.inputs c.args.output.now c.pass_input-ended.new.output
          c.args.faults.now c.pass_input-ended.new.faults c.pass_input-ended.result.0
          c.pass_input-ended.result.1
          (one-as c.args.asked.options (map (λ t. t.now) c.args.named.now) g.I.Inputs.opens g.I.Input.Source.remaining
          g.I.Input.Source.has_failed g.I.Input.Source.read_gives g.W.Writer.contents g.W.Writer.has_failed
          g.E.Writer.contents g.E.Writer.has_failed (task_of c.args.asked.task)
          c.args.passed.now.tally (left_after c.args.passed.now.tally.refused c.args.asked.options.reports) c.args.name.now
          c.args.inputs.now c.pass_input-ended.new.inputs c.args.output.now c.pass_input-ended.new.output
          c.args.faults.now c.pass_input-ended.new.faults c.pass_input-ended.result.0
          c.reports_left.result c.as_str.result.now c.pass_input-ended.result.1
          c.reports_left.ensures leads c.pass_input-ended.ensures)
          c.in_err-passed.ensures.beyond);
      tally = sym (plus-none c.args.passed.now.tally);
      unread = refl;
    })

pub returns-in_err-leave-in-Err-Input-clause-halted :
    goal.returns-in_err-leave-in-Err-Input-clause-halted
returns-in_err-leave-in-Err-Input-clause-halted g c =
    let leads : c.as_str.result.now ≡ lead_of_lines (map (λ t. t.now) c.args.named.now) c.args.name.now = search rules in
    err-then c.from_residual-in_err-leave-in-Err-Input.result
    c.in_err-leave-in-Err-Input.field-0.0
    (HaltsNext c.args.asked.options g.I.Inputs.opens g.I.Input.Source.remaining
    g.I.Input.Source.has_failed g.I.Input.Source.read_gives g.W.Writer.contents g.W.Writer.has_failed
    g.E.Writer.contents g.E.Writer.has_failed (task_of c.args.asked.task) c.args.name.now
    c.args.inputs.now c.pass_input-ended.new.inputs c.args.output.now c.pass_input-ended.new.output
    c.args.faults.now c.leave.new.faults (map (λ t. t.now) c.args.named.now) c.args.passed.now
    (record { tally = c.in_ok-passed.field-0; unread = c.args.passed.now.unread }))
    c.from_residual-in_err-leave-in-Err-Input.ensures.1
    (subst (λ v. HaltsNext c.args.asked.options g.I.Inputs.opens g.I.Input.Source.remaining
    g.I.Input.Source.has_failed g.I.Input.Source.read_gives g.W.Writer.contents g.W.Writer.has_failed
    g.E.Writer.contents g.E.Writer.has_failed (task_of c.args.asked.task) c.args.name.now
    c.args.inputs.now c.pass_input-ended.new.inputs c.args.output.now c.pass_input-ended.new.output
    c.args.faults.now v (map (λ t. t.now) c.args.named.now) c.args.passed.now
    (record { tally = c.in_ok-passed.field-0; unread = c.args.passed.now.unread }) c.in_err-leave-in-Err-Input.field-0.0)
    (sym c.in_err-leave-in-Err-Input.ensures.silent)
    (record {
      more = c.pass_input-ended.result.0;
      halts = halts-unread c.args.asked.options (map (λ t. t.now) c.args.named.now) g.I.Inputs.opens g.I.Input.Source.remaining
          g.I.Input.Source.has_failed g.I.Input.Source.read_gives g.W.Writer.contents g.W.Writer.has_failed
          g.E.Writer.contents g.E.Writer.has_failed (task_of c.args.asked.task)
          c.args.passed.now.tally (left_after c.args.passed.now.tally.refused c.args.asked.options.reports) c.args.name.now
          c.args.inputs.now c.pass_input-ended.new.inputs c.args.output.now c.pass_input-ended.new.output
          c.args.faults.now c.pass_input-ended.new.faults c.pass_input-ended.result.0
          c.in-Err-Input.why c.in_err-leave-in-Err-Input.field-0.0
          (one-unread c.args.asked.options (map (λ t. t.now) c.args.named.now) g.I.Inputs.opens g.I.Input.Source.remaining
          g.I.Input.Source.has_failed g.I.Input.Source.read_gives g.W.Writer.contents g.W.Writer.has_failed
          g.E.Writer.contents g.E.Writer.has_failed (task_of c.args.asked.task)
          c.args.passed.now.tally (left_after c.args.passed.now.tally.refused c.args.asked.options.reports) c.args.name.now
          c.args.inputs.now c.pass_input-ended.new.inputs c.args.output.now c.pass_input-ended.new.output
          c.args.faults.now c.pass_input-ended.new.faults c.pass_input-ended.result.0
          c.in-Err-Input.why
          (one-as c.args.asked.options (map (λ t. t.now) c.args.named.now) g.I.Inputs.opens g.I.Input.Source.remaining
          g.I.Input.Source.has_failed g.I.Input.Source.read_gives g.W.Writer.contents g.W.Writer.has_failed
          g.E.Writer.contents g.E.Writer.has_failed (task_of c.args.asked.task)
          c.args.passed.now.tally (left_after c.args.passed.now.tally.refused c.args.asked.options.reports) c.args.name.now
          c.args.inputs.now c.pass_input-ended.new.inputs c.args.output.now c.pass_input-ended.new.output
          c.args.faults.now c.pass_input-ended.new.faults c.pass_input-ended.result.0
          c.reports_left.result c.as_str.result.now (Err (cut.Input c.in-Err-Input.why))
          c.reports_left.ensures leads
          (subst (PassesOne (record c.args.asked.options { reports = c.reports_left.result })
          g.I.Inputs.opens g.I.Input.Source.remaining
          g.I.Input.Source.has_failed g.I.Input.Source.read_gives g.W.Writer.contents g.W.Writer.has_failed
          g.E.Writer.contents g.E.Writer.has_failed (task_of c.args.asked.task) c.args.name.now c.args.inputs.now c.pass_input-ended.new.inputs c.args.output.now
          c.pass_input-ended.new.output c.args.faults.now c.pass_input-ended.new.faults
          c.as_str.result.now c.pass_input-ended.result.0) (c.in-Err-Input.is ∙ ap (λ x. Err x) c.in-Err-Input.field-0-is)
          c.pass_input-ended.ensures)))
          c.in_err-leave-in-Err-Input.ensures.stopped;
      tally = c.in_ok-passed.ensures.both;
      unread = refl;
    }))

pub returns-in-Ok-clause-passed : goal.returns-in-Ok-clause-passed
returns-in-Ok-clause-passed g c =
    let leads : c.as_str.result.now ≡ lead_of_lines (map (λ t. t.now) c.args.named.now) c.args.name.now = search rules in
    record {
      more = c.pass_input-ended.result.0;
      this = false;
      passes = whole (one-whole c.args.asked.options (map (λ t. t.now) c.args.named.now) g.I.Inputs.opens g.I.Input.Source.remaining
          g.I.Input.Source.has_failed g.I.Input.Source.read_gives g.W.Writer.contents g.W.Writer.has_failed
          g.E.Writer.contents g.E.Writer.has_failed (task_of c.args.asked.task)
          c.args.passed.now.tally (left_after c.args.passed.now.tally.refused c.args.asked.options.reports) c.args.name.now
          c.args.inputs.now c.pass_input-ended.new.inputs c.args.output.now c.pass_input-ended.new.output
          c.args.faults.now c.pass_input-ended.new.faults c.pass_input-ended.result.0
          c.in-Ok.field-0
          (one-as c.args.asked.options (map (λ t. t.now) c.args.named.now) g.I.Inputs.opens g.I.Input.Source.remaining
          g.I.Input.Source.has_failed g.I.Input.Source.read_gives g.W.Writer.contents g.W.Writer.has_failed
          g.E.Writer.contents g.E.Writer.has_failed (task_of c.args.asked.task)
          c.args.passed.now.tally (left_after c.args.passed.now.tally.refused c.args.asked.options.reports) c.args.name.now
          c.args.inputs.now c.pass_input-ended.new.inputs c.args.output.now c.pass_input-ended.new.output
          c.args.faults.now c.pass_input-ended.new.faults c.pass_input-ended.result.0
          c.reports_left.result c.as_str.result.now (Ok c.in-Ok.field-0)
          c.reports_left.ensures leads
          (subst (PassesOne (record c.args.asked.options { reports = c.reports_left.result })
          g.I.Inputs.opens g.I.Input.Source.remaining
          g.I.Input.Source.has_failed g.I.Input.Source.read_gives g.W.Writer.contents g.W.Writer.has_failed
          g.E.Writer.contents g.E.Writer.has_failed (task_of c.args.asked.task) c.args.name.now c.args.inputs.now c.pass_input-ended.new.inputs c.args.output.now
          c.pass_input-ended.new.output c.args.faults.now c.pass_input-ended.new.faults
          c.as_str.result.now c.pass_input-ended.result.0) c.in-Ok.is c.pass_input-ended.ensures)));
      tally = c.in_ok-passed.ensures.both;
      unread = sym (or-false c.args.passed.now.unread);
    }

pub returns-in_ok-leave-in-Err-Input-clause-passed :
    goal.returns-in_ok-leave-in-Err-Input-clause-passed
returns-in_ok-leave-in-Err-Input-clause-passed g c =
    let leads : c.as_str.result.now ≡ lead_of_lines (map (λ t. t.now) c.args.named.now) c.args.name.now = search rules in
    record {
      more = c.pass_input-ended.result.0;
      this = true;
      passes = in_part c.in-Err-Input.why c.pass_input-ended.new.faults
          c.in_ok-leave-in-Err-Input.ensures.going c.in_ok-leave-in-Err-Input.ensures.named
          (one-unread c.args.asked.options (map (λ t. t.now) c.args.named.now) g.I.Inputs.opens g.I.Input.Source.remaining
          g.I.Input.Source.has_failed g.I.Input.Source.read_gives g.W.Writer.contents g.W.Writer.has_failed
          g.E.Writer.contents g.E.Writer.has_failed (task_of c.args.asked.task)
          c.args.passed.now.tally (left_after c.args.passed.now.tally.refused c.args.asked.options.reports) c.args.name.now
          c.args.inputs.now c.pass_input-ended.new.inputs c.args.output.now c.pass_input-ended.new.output
          c.args.faults.now c.pass_input-ended.new.faults c.pass_input-ended.result.0
          c.in-Err-Input.why
          (one-as c.args.asked.options (map (λ t. t.now) c.args.named.now) g.I.Inputs.opens g.I.Input.Source.remaining
          g.I.Input.Source.has_failed g.I.Input.Source.read_gives g.W.Writer.contents g.W.Writer.has_failed
          g.E.Writer.contents g.E.Writer.has_failed (task_of c.args.asked.task)
          c.args.passed.now.tally (left_after c.args.passed.now.tally.refused c.args.asked.options.reports) c.args.name.now
          c.args.inputs.now c.pass_input-ended.new.inputs c.args.output.now c.pass_input-ended.new.output
          c.args.faults.now c.pass_input-ended.new.faults c.pass_input-ended.result.0
          c.reports_left.result c.as_str.result.now (Err (cut.Input c.in-Err-Input.why))
          c.reports_left.ensures leads
          (subst (PassesOne (record c.args.asked.options { reports = c.reports_left.result })
          g.I.Inputs.opens g.I.Input.Source.remaining
          g.I.Input.Source.has_failed g.I.Input.Source.read_gives g.W.Writer.contents g.W.Writer.has_failed
          g.E.Writer.contents g.E.Writer.has_failed (task_of c.args.asked.task) c.args.name.now c.args.inputs.now c.pass_input-ended.new.inputs c.args.output.now
          c.pass_input-ended.new.output c.args.faults.now c.pass_input-ended.new.faults
          c.as_str.result.now c.pass_input-ended.result.0) (c.in-Err-Input.is ∙ ap (λ x. Err x) c.in-Err-Input.field-0-is)
          c.pass_input-ended.ensures)))
          c.in_ok-leave-in-Err-Input.ensures.told;
      tally = c.in_ok-passed.ensures.both;
      unread = sym (or-true c.args.passed.now.unread);
    }
