use Rattle.std.proofs.Common.{◌≡◌, ◌∙◌, ℕ, List, ap, rules, subst}
use Rattle.std.proofs.lemmas.Result.{IfOk-weaker}
use Rattle.jp_check.specs.Numbers.{numbers}
use Rattle.jp_document.specs.Node.{Node}
use Rattle.jp_evaluate.specs.Plan.{IsReadToAnswer, nodes_read}
use Rattle.jp_tree.specs.Views.{query_of}
use Rattle.jp_command.specs.NodeTask.{nodes_taken, status_done}
use Rattle.jp_command.specs.Lines.{lines_of}
use Rattle.jp_command.specs.Run.{IsNodesOutput}
use Rattle.jp_command.proofs.Calls.{writes-by_calls}
use Rattle.jp_command.proofs.Kept.{keeps-document, keeps-writing}
use Rattle.jp_command.proofs.Runs.{done-with, ends-document, ends-naming, ends-reading, run-ends}
use Rattle.jp_command.proofs.eval.run_eval_keeping.Goals as goal

pub returns-in_err-bytes-clause-says : goal.returns-in_err-bytes-clause-says
returns-in_err-bytes-clause-says g c =
    ends-reading c.args.profile _ _ _ _ _ _ c.args.nodes c.args.query.now
    (query_of c.in_ok-query.query.query) _ _ _ _ c.in_err-bytes.field-0.0
    c.in_ok-query.ensures.asked c.in_err-bytes.ensures.stopped c.from_residual-in_err-bytes.ensures.1

pub returns-in_err-plan-clause-says : goal.returns-in_err-plan-clause-says
returns-in_err-plan-clause-says g c =
    ends-naming c.args.profile _ _ _ _ _ c.args.nodes c.args.query.now c.in_ok-bytes.bytes.items
    (query_of c.in_ok-query.query.query) _ _ _ c.in_ok-query.ensures.asked c.in_ok-bytes.ensures.ok
    _ _ c.from_residual-in_err-plan.ensures.1

pub returns-in_err-read-clause-kept : goal.returns-in_err-read-clause-kept
returns-in_err-read-clause-kept g c =
    keeps-document c.args.profile _ _ _ _ _ c.args.query.now _ _ c.in_ok-bytes.bytes.items
    (query_of c.in_ok-query.query.query) c.in_ok-query.ensures.asked c.in_ok-bytes.ensures.ok
    _ c.in_err-read.field-0.0 (search rules) c.from_residual-in_err-read.ensures.1

pub returns-in_err-read-clause-says : goal.returns-in_err-read-clause-says
returns-in_err-read-clause-says g c =
    ends-document c.args.profile _ _ _ _ _ c.args.nodes c.args.query.now c.in_ok-bytes.bytes.items
    (query_of c.in_ok-query.query.query) _ _ _ c.in_ok-query.ensures.asked c.in_ok-bytes.ensures.ok
    _ _ c.in_err-read.field-0.0 (search rules) c.from_residual-in_err-read.ensures.1

pub returns : goal.returns
returns g c =
    let bytes = c.in_ok-bytes.bytes.items in
    let q = query_of c.in_ok-query.query.query in
    let e = c.in_ok-read.read in
    let slice = c.as_slice.ensures.value in
    let same : c.as_slice.result.now ≡ bytes = cc in
    let by : c.numbers.result ≡ numbers c.args.profile = c.numbers.ensures in
    let read : IsReadToAnswer (numbers c.args.profile) q bytes e =
    subst (λ n. IsReadToAnswer n q bytes e) by
    (subst (λ b. IsReadToAnswer c.numbers.result q b e) same (c.in_ok-read.ensures.ok q c.in_ok-plan.ensures.serves)) in
    let these : List Node → List ℕ = λ ns. lines_of c.args.nodes.form (nodes_taken c.args.nodes.is_first ns) in
    let output = these (nodes_read q e) in
    let Is = IsNodesOutput c.args.profile g.R.Source.remaining g.R.Source.has_failed
    g.R.Source.read_gives g.W.Writer.contents g.W.Writer.has_failed c.args.nodes c.args.query.now
    c.args.input.now c.read_all.new.input in
    let is : Is output = record {
      q = q;
      bytes = bytes;
      d = read.document;
      asked = c.in_ok-query.ensures.asked;
      reads = c.in_ok-bytes.ensures.ok;
      document = read.is;
      is = ap these read.same;
    } in
    record {
      says = run-ends c.args.profile g.R.Source.remaining g.R.Source.has_failed
          g.R.Source.read_gives g.W.Writer.contents g.W.Writer.has_failed c.args.nodes
          c.args.query.now c.args.input.now c.read_all.new.input c.args.output.now
          c.write_read.new.output output c.write_read.result is
          c.in_ok-bytes.ensures.ok.works c.write_read.ensures.ok c.write_read.ensures.stopped;
      calls = writes-by_calls g.W.Writer.write_takes Is c.args.output.now c.write_read.new.output
          output c.write_read.result is c.write_read.ensures.calls;
      done = done-with c.args.profile g.R.Source.remaining g.R.Source.has_failed
          g.R.Source.read_gives g.W.Writer.contents g.W.Writer.has_failed g.W.Writer.write_takes
          c.args.nodes c.args.query.now c.args.input.now c.read_all.new.input c.args.output.now
          c.write_read.new.output output c.write_read.result is c.write_read.ensures.calls
          (IfOk-weaker c.write_read.result _ _
          (λ status known. known ∙ ap (status_done c.args.nodes.tells_none) read.same)
          c.write_read.ensures.status);
      kept = keeps-writing c.args.profile _ _ _ _ _ c.args.query.now _ _ _ _ _ output
          c.write_read.result c.write_read.ensures.stopped;
    }
