use Rattle.std.proofs.Common.{◌≡◌, ◌+◌, ◌∙◌, ap, arith, length, rules, sym}
use Rattle.jp_evaluate.specs.Lent.{given_node}
use Rattle.jp_command.specs.Lead.{line_behind}
use Rattle.jp_command.proofs.Fronts.{along_none, comes_along}
use Rattle.jp_command.proofs.LineLemmas.{given_more, given_none, given_part, goes-for_memory, line_alike}
use Rattle.jp_command.proofs.LineLemmas.{part-goes, part-is_prefix, stops-for_memory}
use Rattle.jp_command.proofs.lines.write_lines.Goals as goal

pub loop-next-init : goal.loop-next-init
loop-next-init g c = record {
  front = along_none c.args.form c.new-front.result c.args.nodes.now c.new-front.ensures.count
      c.new-front.ensures.text;
  working = search rules;
  unlimited = search rules;
  written = given_none g.W.Writer.contents g.W.Writer.has_failed g.W.Writer.write_takes
      (line_behind c.args.lead.now c.args.form) _ _;
  count = omega arith;
  works = search rules;
}

pub push_line-requires : goal.push_line-requires
push_line-requires g c =
    comes_along c.args.form c.loop-next.front c.loop-next.nodes c.next_unlimited.new.nodes
    c.loop-next.invariant.front (rw (c.in-Some.is, c.in_ok-value.was) at c.next_unlimited.ensures.keeps)

pub returns-in_err-value-clause-stopped : goal.returns-in_err-value-clause-stopped
returns-in_err-value-clause-stopped g c =
    stops-for_memory g.W.Writer.contents g.W.Writer.has_failed g.W.Writer.write_takes (line_behind c.args.lead.now c.args.form) _ _ _ _ _
    c.loop-next.invariant.written c.loop-next.invariant.works c.from_residual.ensures.1

pub returns-in_err-push_line-clause-stopped : goal.returns-in_err-push_line-clause-stopped
returns-in_err-push_line-clause-stopped g c =
    stops-for_memory g.W.Writer.contents g.W.Writer.has_failed g.W.Writer.write_takes (line_behind c.args.lead.now c.args.form) _ _ _ _ _
    c.loop-next.invariant.written c.loop-next.invariant.works
    c.from_residual-in_err-push_line.ensures.1

pub returns-in_default-write_all-clause-stopped : goal.returns-in_default-write_all-clause-stopped
returns-in_default-write_all-clause-stopped g c =
    let behind = line_behind c.args.lead.now c.args.form in
    let given = rw (c.in-Some.is, c.in_ok-value.was) at c.next_unlimited.ensures.gives in
    let n = given.0 in
    let shown : c.as_bytes.result.now
    ≡ behind (given_node g.V.Lent.meaning c.next_unlimited.new.nodes c.in_ok-value.value) =
    search rules in
    let line = shown ∙ sym (line_alike c.args.lead.now c.args.form n _ given.4) in (
      part-is_prefix g.W.Writer.contents g.W.Writer.has_failed g.W.Writer.write_takes behind _ _ _ _
          (given_part g.W.Writer.contents g.W.Writer.has_failed g.W.Writer.write_takes behind _ _ _ n _ _ _
          c.loop-next.invariant.written given.3 (rw line at c.in_default-write_all.ensures.prefix)
          (rw line at c.in_default-write_all.ensures.stopped)),
      c.in_default-write_all.ensures.failed,
    )

pub returns-in_err-value-clause-calls : goal.returns-in_err-value-clause-calls
returns-in_err-value-clause-calls g c =
    goes-for_memory g.W.Writer.contents g.W.Writer.has_failed g.W.Writer.write_takes
    (line_behind c.args.lead.now c.args.form) _ _ _ _ _
    c.loop-next.invariant.written c.from_residual.ensures.1

pub returns-in_err-push_line-clause-calls : goal.returns-in_err-push_line-clause-calls
returns-in_err-push_line-clause-calls g c =
    goes-for_memory g.W.Writer.contents g.W.Writer.has_failed g.W.Writer.write_takes
    (line_behind c.args.lead.now c.args.form) _ _ _ _ _
    c.loop-next.invariant.written c.from_residual-in_err-push_line.ensures.1

pub returns-in_default-write_all-clause-as_found :
    goal.returns-in_default-write_all-clause-as_found
returns-in_default-write_all-clause-as_found g c =
    let behind = line_behind c.args.lead.now c.args.form in
    let given = rw (c.in-Some.is, c.in_ok-value.was) at c.next_unlimited.ensures.gives in
    let n = given.0 in
    let shown : c.as_bytes.result.now
    ≡ behind (given_node g.V.Lent.meaning c.next_unlimited.new.nodes c.in_ok-value.value) =
    search rules in
    let line = shown ∙ sym (line_alike c.args.lead.now c.args.form n _ given.4) in (
      given.2,
      given_part g.W.Writer.contents g.W.Writer.has_failed g.W.Writer.write_takes behind _ _ _ n _ _ _
          c.loop-next.invariant.written given.3 (rw line at c.in_default-write_all.ensures.prefix)
          (rw line at c.in_default-write_all.ensures.stopped),
    )

pub returns-in_default-write_all-clause-calls : goal.returns-in_default-write_all-clause-calls
returns-in_default-write_all-clause-calls g c =
    let behind = line_behind c.args.lead.now c.args.form in
    part-goes g.W.Writer.contents g.W.Writer.has_failed g.W.Writer.write_takes behind _ _ _ _
    (returns-in_default-write_all-clause-as_found g c).1

pub loop-next-preserved : goal.loop-next-preserved
loop-next-preserved g c =
    let behind = line_behind c.args.lead.now c.args.form in
    let given = rw (c.in-Some.is, c.in_ok-value.was) at c.next_unlimited.ensures.gives in
    let n = given.0 in
    let shown : c.as_bytes.result.now
    ≡ behind (given_node g.V.Lent.meaning c.next_unlimited.new.nodes c.in_ok-value.value) =
    search rules in
    let line = shown ∙ sym (line_alike c.args.lead.now c.args.form n _ given.4) in
    let next : c.in_ok-count.count ≡ c.loop-next.count + 1 = search rules in
    record {
      front = search rules;
      working = given.2;
      unlimited = c.next_unlimited.ensures.unlimited;
      written = given_more g.W.Writer.contents g.W.Writer.has_failed g.W.Writer.write_takes behind _ _ _ n _ _ _
          c.loop-next.invariant.written given.3 (rw line at c.in-Ok.ensures.ok)
          (rw line at c.in-Ok.ensures.calls);
      count = omega (arith, next, c.loop-next.invariant.count, ap length given.3);
      works = search rules;
    }
