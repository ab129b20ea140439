use Rattle.std.proofs.Common.{◌≡◌, ◌++◌, ◌∷◌, [], refl, rules, sym, take, drop, suc, ◌∙◌}
use Rattle.std.proofs.Common.{append_assoc, ap, arith}
use Rattle.jp_command.specs.declared.fault.Fault.TheVariants as fault
use Rattle.jp_lines.specs.Lines.{newline}
use Rattle.jp_lines.specs.Views.{task_of}
use Rattle.jp_lines.specs.declared.stop.Stop.TheVariants as stop
use Rattle.jp_lines.proofs.Chunks.{on-ended, on-kept, on-none, on-stops_ending, on-stops_growing}
use Rattle.jp_lines.proofs.Chunks.{on-stops_keeping}
use Rattle.jp_lines.proofs.Finding.{behind-place, first-found, none-found}
use Rattle.jp_lines.proofs.LineLemmas.{err-is}
use Rattle.jp_lines.proofs.passing.pass.Goals as goal

pub loop-end-init : goal.loop-end-init
loop-end-init g c = record {
  taken = [];
  is = refl;
  passes = λ line keeps. on-none c.args.asked.options c.args.asked.lead.now g.W.Writer.contents g.W.Writer.has_failed
      g.E.Writer.contents g.E.Writer.has_failed (task_of c.args.asked.task)
      c.args.progress.now line c.args.output.now c.args.faults.now keeps;
}

pub returns-in_err-keep-clause-stopped : goal.returns-in_err-keep-clause-stopped
returns-in_err-keep-clause-stopped g c =
    err-is c.from_residual.result (stop.Run fault.NoMemory) _ c.from_residual.ensures.1
    (λ line keeps. rw c.loop-end.invariant.is
    (on-stops_keeping c.args.asked.options c.args.asked.lead.now g.W.Writer.contents g.W.Writer.has_failed
    g.E.Writer.contents g.E.Writer.has_failed (task_of c.args.asked.task)
    c.loop-end.invariant.taken c.loop-end.rest.now c.args.progress.now c.loop-end.progress line
    _ _ _ _ (c.loop-end.invariant.passes line keeps)))

pub returns-in_err-keep-2-clause-stopped : goal.returns-in_err-keep-2-clause-stopped
returns-in_err-keep-2-clause-stopped g c =
    err-is c.from_residual-in_err-keep-2.result (stop.Run fault.NoMemory) _
    c.from_residual-in_err-keep-2.ensures.1
    (λ line keeps. rw c.loop-end.invariant.is
    (on-stops_keeping c.args.asked.options c.args.asked.lead.now g.W.Writer.contents g.W.Writer.has_failed
    g.E.Writer.contents g.E.Writer.has_failed (task_of c.args.asked.task)
    c.loop-end.invariant.taken c.loop-end.rest.now c.args.progress.now c.loop-end.progress line
    _ _ _ _ (c.loop-end.invariant.passes line keeps)))

pub returns-in_err-end_line-clause-stopped : goal.returns-in_err-end_line-clause-stopped
returns-in_err-end_line-clause-stopped g c =
    let task = task_of c.args.asked.task in
    let rest = c.loop-end.rest.now in
    let taken = c.loop-end.invariant.taken in
    let piece = take c.in-Some.end rest in
    let more = drop (suc c.in-Some.end) rest in
    let found = first-found rest c.in-Some.end c.in-Some.ensures.0.high
    (λ k less. c.in-Some.ensures.0.before k (omega arith) less) c.in-Some.ensures.1 in
    let bytes : c.args.bytes.now ≡ (taken ++ piece) ++ newline ∷ more =
    c.loop-end.invariant.is
    ∙ ap (λ l. taken ++ l) found.1
    ∙ sym (append_assoc taken piece (newline ∷ more)) in
    err-is c.from_residual-in_err-end_line.result c.in_err-end_line.field-0.0 _
    c.from_residual-in_err-end_line.ensures.1
    (λ line keeps.
    let kept = record c.loop-end.progress { line = c.keep.new.line } in
    let on = on-kept c.args.asked.options c.args.asked.lead.now g.W.Writer.contents g.W.Writer.has_failed
    g.E.Writer.contents g.E.Writer.has_failed task taken piece c.args.progress.now
    c.loop-end.progress kept line _ _ _ _ (c.loop-end.invariant.passes line keeps) found.0 refl refl
    c.in_ok-keep.ensures in
    rw bytes
    (on-stops_ending c.args.asked.options c.args.asked.lead.now g.W.Writer.contents g.W.Writer.has_failed
    g.E.Writer.contents g.E.Writer.has_failed task (taken ++ piece) more c.args.progress.now kept
    c.end_line.new.progress line
    _ _ _ _ _ _ c.in_err-end_line.field-0.0 on
    (c.in_err-end_line.ensures.stopped on.next on.keeps)))

pub loop-end-preserved : goal.loop-end-preserved
loop-end-preserved g c =
    let task = task_of c.args.asked.task in
    let rest = c.loop-end.rest.now in
    let taken = c.loop-end.invariant.taken in
    let piece = take c.in-Some.end rest in
    let more = drop (suc c.in-Some.end) rest in
    let found = first-found rest c.in-Some.end c.in-Some.ensures.0.high
    (λ k less. c.in-Some.ensures.0.before k (omega arith) less) c.in-Some.ensures.1 in
    record {
      taken = (taken ++ piece) ++ newline ∷ [];
      is = c.loop-end.invariant.is
          ∙ ap (λ l. taken ++ l) found.1
          ∙ sym (append_assoc taken piece (newline ∷ more))
          ∙ sym (append_assoc (taken ++ piece) (newline ∷ []) more)
          ∙ ap (λ l. ((taken ++ piece) ++ newline ∷ []) ++ l)
          (sym (behind-place rest c.in-Some.end));
      passes = λ line keeps.
          let on = on-kept c.args.asked.options c.args.asked.lead.now g.W.Writer.contents g.W.Writer.has_failed
          g.E.Writer.contents g.E.Writer.has_failed task taken piece c.args.progress.now
          c.loop-end.progress _ line _ _ _ _ (c.loop-end.invariant.passes line keeps) found.0 refl
          refl c.in_ok-keep.ensures in
          on-ended c.args.asked.options c.args.asked.lead.now g.W.Writer.contents g.W.Writer.has_failed
          g.E.Writer.contents g.E.Writer.has_failed task (taken ++ piece) c.args.progress.now _
          c.end_line.new.progress line _ _ _ _ _ _ on
          (c.in_ok-end_line.ensures.ended on.next on.keeps);
    }

pub returns-then-not-asked-clause-stopped : goal.returns-then-not-asked-clause-stopped
returns-then-not-asked-clause-stopped g c = λ line keeps.
    let task = task_of c.args.asked.task in
    let rest = c.loop-end.rest.now in
    let kept = record c.loop-end.progress { line = c.keep-2.new.line } in
    let on = on-kept c.args.asked.options c.args.asked.lead.now g.W.Writer.contents g.W.Writer.has_failed
    g.E.Writer.contents g.E.Writer.has_failed task c.loop-end.invariant.taken rest
    c.args.progress.now c.loop-end.progress kept line _ _ _ _
    (c.loop-end.invariant.passes line keeps)
    (none-found rest (λ k below. c.in_default.ensures k (omega arith) below)) refl refl
    c.in_ok-keep-2.ensures in
    rw c.loop-end.invariant.is
    (on-stops_growing c.args.asked.options c.args.asked.lead.now g.W.Writer.contents g.W.Writer.has_failed
    g.E.Writer.contents g.E.Writer.has_failed task (c.loop-end.invariant.taken ++ rest)
    c.args.progress.now kept line _ _ _ _ _ on (search rules) refl refl (search rules)
    (search rules))

pub returns-clause-passes : goal.returns-clause-passes
returns-clause-passes g c = λ line keeps.
    let rest = c.loop-end.rest.now in
    rw c.loop-end.invariant.is
    (on-kept c.args.asked.options c.args.asked.lead.now g.W.Writer.contents g.W.Writer.has_failed
    g.E.Writer.contents g.E.Writer.has_failed (task_of c.args.asked.task)
    c.loop-end.invariant.taken rest c.args.progress.now c.loop-end.progress _ line _ _ _ _
    (c.loop-end.invariant.passes line keeps)
    (none-found rest (λ k below. c.in_default.ensures k (omega arith) below)) refl refl
    c.in_ok-keep-2.ensures)
