use Rattle.std.proofs.Common.{◌≡◌, ◌<◌, ◌++◌, [], refl, rules, take, length, arith}
use Rattle.std.proofs.lemmas.Grind.{common_steps}
use Rattle.jp_command.specs.Limits.{chunk_size}
use Rattle.jp_command.specs.declared.fault.Fault.TheVariants as fault
use Rattle.jp_lines.specs.Run.{GoesOver}
use Rattle.jp_lines.specs.Private.Passing.{standing}
use Rattle.jp_lines.specs.Views.{task_of}
use Rattle.jp_lines.specs.declared.stop.Stop.TheVariants as stop
use Rattle.jp_lines.proofs.Ending.{at_start, err-so, reads-end, reads-fail, reads-more, reads-none}
use Rattle.jp_lines.proofs.Ending.{reads-some, runs-end, runs-fail, runs-stop_in, runs-stop_last}
use Rattle.jp_lines.proofs.Ending.{runs-stop_reading}
use Rattle.jp_lines.proofs.Going.{passes-kept, passes-more}
use Rattle.jp_lines.proofs.Outcomes.{kept-few}
use Rattle.jp_lines.proofs.run.pass_reads.Goals as goal

pub returns-in_err-chunk : goal.returns-in_err-chunk
returns-in_err-chunk g c =
    err-so c.from_residual.result (stop.Run fault.NoMemory)
    (GoesOver c.args.asked.options c.args.asked.lead.now g.R.Source.remaining g.R.Source.has_failed
    g.R.Source.read_gives g.W.Writer.contents g.W.Writer.has_failed g.E.Writer.contents
    g.E.Writer.has_failed (task_of c.args.asked.task) c.args.input.now c.args.input.now
    c.args.output.now c.args.output.now c.args.faults.now c.args.faults.now c.args.progress.now.tally)
    c.from_residual.ensures.1
    (runs-stop_reading c.args.asked.options c.args.asked.lead.now g.R.Source.remaining
    g.R.Source.has_failed g.R.Source.read_gives g.W.Writer.contents g.W.Writer.has_failed
    g.E.Writer.contents g.E.Writer.has_failed (task_of c.args.asked.task) _ _ []
    (standing c.args.progress.now []) _ _ _ _
    (reads-none g.R.Source.remaining g.R.Source.has_failed g.R.Source.read_gives c.args.input.now)
    (passes-kept c.args.asked.options c.args.asked.lead.now g.W.Writer.contents g.W.Writer.has_failed
    g.E.Writer.contents g.E.Writer.has_failed (task_of c.args.asked.task) [] at_start
    (standing c.args.progress.now []) _ _ c.requires.start.number c.requires.start.tally refl)
    refl (λ stays. omega arith))

pub loop-init : goal.loop-init
loop-init g c = record {
  bytes = [];
  line = [];
  reads = reads-none g.R.Source.remaining g.R.Source.has_failed g.R.Source.read_gives c.args.input.now;
  keeps = (refl, c.requires.start.line);
  few = λ stays. omega arith;
  passes = passes-kept c.args.asked.options c.args.asked.lead.now g.W.Writer.contents
      g.W.Writer.has_failed g.E.Writer.contents g.E.Writer.has_failed (task_of c.args.asked.task)
      [] at_start (standing c.args.progress.now []) _ _ c.requires.start.number c.requires.start.tally
      refl;
  room = c.in_ok-chunk.ensures;
}

pub returns-in_default : goal.returns-in_default
returns-in_default g c =
    let r = c.loop.invariant in
    runs-fail c.args.asked.options c.args.asked.lead.now g.R.Source.remaining g.R.Source.has_failed
    g.R.Source.read_gives g.W.Writer.contents g.W.Writer.has_failed g.E.Writer.contents
    g.E.Writer.has_failed (task_of c.args.asked.task) _ _ r.bytes (standing c.loop.progress r.line) _ _ _ _
    (reads-fail g.R.Source.remaining g.R.Source.has_failed g.R.Source.read_gives _ c.loop.input
    c.read.new.self r.bytes r.reads c.in_default.ensures.bytes c.in_default.ensures.fails
    c.in_default.ensures.call)
    r.passes r.keeps.0 r.few

pub returns-in_err-end_line : goal.returns-in_err-end_line
returns-in_err-end_line g c =
    let r = c.loop.invariant in
    let buffer = c.read.new.buffer in
    let zero : c.in-Ok.count ≡ 0 = c.if-count-eq0.true in
    let some : 0 < length buffer =
    omega (arith, c.read.auto.buffer, c.as_mut_slice.ensures.len, r.room) in
    let reads = reads-end g.R.Source.remaining g.R.Source.has_failed g.R.Source.read_gives c.args.input.now
    c.loop.input c.read.new.self r.bytes r.reads (rw zero at c.in-Ok.ensures.bytes.0)
    (c.in-Ok.ensures.bytes.1 zero some) c.in-Ok.ensures.works (rw zero at c.in-Ok.ensures.call) in
    err-so c.from_residual-in_err-end_line.result c.in_err-end_line.field-0.0
    (GoesOver c.args.asked.options c.args.asked.lead.now g.R.Source.remaining g.R.Source.has_failed
    g.R.Source.read_gives g.W.Writer.contents g.W.Writer.has_failed g.E.Writer.contents
    g.E.Writer.has_failed (task_of c.args.asked.task) c.args.input.now c.read.new.self
    c.args.output.now c.end_line.new.output c.args.faults.now c.end_line.new.faults
    c.end_line.new.progress.tally)
    c.from_residual-in_err-end_line.ensures.1
    (runs-stop_last c.args.asked.options c.args.asked.lead.now g.R.Source.remaining g.R.Source.has_failed
    g.R.Source.read_gives g.W.Writer.contents g.W.Writer.has_failed g.E.Writer.contents
    g.E.Writer.has_failed (task_of c.args.asked.task) _ _ r.bytes (standing c.loop.progress r.line)
    c.end_line.new.progress.tally _ _ _ _ _ _
    c.in_err-end_line.field-0.0 reads r.passes r.keeps.0 r.few
    (c.in_err-end_line.ensures.stopped r.line r.keeps))

pub returns-then-count-eq0 : goal.returns-then-count-eq0
returns-then-count-eq0 g c =
    let r = c.loop.invariant in
    let buffer = c.read.new.buffer in
    let zero : c.in-Ok.count ≡ 0 = c.if-count-eq0.true in
    let some : 0 < length buffer =
    omega (arith, c.read.auto.buffer, c.as_mut_slice.ensures.len, r.room) in
    let reads = reads-end g.R.Source.remaining g.R.Source.has_failed g.R.Source.read_gives c.args.input.now
    c.loop.input c.read.new.self r.bytes r.reads (rw zero at c.in-Ok.ensures.bytes.0)
    (c.in-Ok.ensures.bytes.1 zero some) c.in-Ok.ensures.works (rw zero at c.in-Ok.ensures.call) in
    runs-end c.args.asked.options c.args.asked.lead.now g.R.Source.remaining g.R.Source.has_failed
    g.R.Source.read_gives g.W.Writer.contents g.W.Writer.has_failed g.E.Writer.contents
    g.E.Writer.has_failed (task_of c.args.asked.task) _ _ r.bytes (standing c.loop.progress r.line)
    (standing c.end_line.new.progress []) _ _ _ _ _ _ reads r.passes r.keeps.0
    (c.in_ok-end_line.ensures.ended r.line r.keeps).over

pub returns-in_err-pass : goal.returns-in_err-pass
returns-in_err-pass g c =
    let r = c.loop.invariant in
    let buffer = c.read.new.buffer in
    let more = take c.in-Ok.count buffer in
    let same : c.deref.result.now ≡ buffer = grind (arith, common_steps) in
    let chunk : length buffer ≡ chunk_size =
    omega (arith, c.read.auto.buffer, c.as_mut_slice.ensures.len, r.room) in
    let reads = reads-more g.R.Source.remaining g.R.Source.has_failed g.R.Source.read_gives c.args.input.now
    c.loop.input c.read.new.self r.bytes buffer c.in-Ok.count r.reads c.in-Ok.ensures.bytes.0
    c.in-Ok.ensures.works c.in-Ok.ensures.call c.in-Ok.ensures.bound (search rules) chunk in
    err-so c.from_residual-in_err-pass.result c.in_err-pass.field-0.0
    (GoesOver c.args.asked.options c.args.asked.lead.now g.R.Source.remaining g.R.Source.has_failed
    g.R.Source.read_gives g.W.Writer.contents g.W.Writer.has_failed g.E.Writer.contents
    g.E.Writer.has_failed (task_of c.args.asked.task) c.args.input.now c.read.new.self
    c.args.output.now c.pass.new.output c.args.faults.now c.pass.new.faults
    c.pass.new.progress.tally)
    c.from_residual-in_err-pass.ensures.1
    (runs-stop_in c.args.asked.options c.args.asked.lead.now g.R.Source.remaining g.R.Source.has_failed
    g.R.Source.read_gives g.W.Writer.contents g.W.Writer.has_failed g.E.Writer.contents
    g.E.Writer.has_failed (task_of c.args.asked.task) _ _ r.bytes more (standing c.loop.progress r.line)
    c.pass.new.progress.tally _ _ _ _ _ _ c.in_err-pass.field-0.0 reads r.passes r.keeps.0 r.few
    (rw same at (c.in_err-pass.ensures.stopped r.line r.keeps)))

pub loop-preserved : goal.loop-preserved
loop-preserved g c =
    let r = c.loop.invariant in
    let buffer = c.read.new.buffer in
    let more = take c.in-Ok.count buffer in
    let same : c.deref.result.now ≡ buffer = grind (arith, common_steps) in
    let chunk : length buffer ≡ chunk_size =
    omega (arith, c.read.auto.buffer, c.as_mut_slice.ensures.len, r.room) in
    let reads = reads-more g.R.Source.remaining g.R.Source.has_failed g.R.Source.read_gives c.args.input.now
    c.loop.input c.read.new.self r.bytes buffer c.in-Ok.count r.reads c.in-Ok.ensures.bytes.0
    c.in-Ok.ensures.works c.in-Ok.ensures.call c.in-Ok.ensures.bound (search rules) chunk in
    let on = rw same at (c.in_ok-pass.ensures.passes r.line r.keeps) in
    record {
      bytes = r.bytes ++ more;
      line = on.next;
      reads = reads-some g.R.Source.remaining g.R.Source.has_failed g.R.Source.read_gives
          c.args.input.now c.read.new.self r.bytes more reads;
      keeps = on.keeps;
      few = λ stays. kept-few on.next (rw on.keeps.1 at (c.in_ok-pass.ensures.few stays));
      passes = passes-more c.args.asked.options c.args.asked.lead.now g.W.Writer.contents g.W.Writer.has_failed g.E.Writer.contents
          g.E.Writer.has_failed (task_of c.args.asked.task)
          r.bytes more at_start _ _ _ _ _ _ _ _ r.passes on.passes;
      room = search rules;
    }

pub returns : goal.returns
returns g c =
    let r = c.loop.invariant in
    runs-stop_reading c.args.asked.options c.args.asked.lead.now g.R.Source.remaining g.R.Source.has_failed
    g.R.Source.read_gives g.W.Writer.contents g.W.Writer.has_failed g.E.Writer.contents
    g.E.Writer.has_failed (task_of c.args.asked.task) _ _ r.bytes (standing c.loop.progress r.line) _ _ _ _
    r.reads r.passes r.keeps.0 r.few
