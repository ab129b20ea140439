use Rattle.std.proofs.Common.{◌≡◌, ◌+◌, ◌∷◌, ◌++◌, ◌∙◌, ap, append_assoc, arith, length, rules, string_bytes, sym, true}
use Rattle.std.specs.List.{flat_map}
use Rattle.jp_evaluate.specs.Lent.{rest_of, given_node}
use Rattle.jp_select.proofs.Stepping.{takes_then}
use Rattle.jp_command.specs.Lead.{line_behind}
use Rattle.jp_command.specs.Lines.{line_of}
use Rattle.jp_command.specs.Private.Firsts.{is_more}
use Rattle.jp_command.specs.Selecting.{IsBeyond, first_nodes}
use Rattle.jp_command.proofs.Firsts.{first_more}
use Rattle.jp_command.proofs.Fronts.{comes_along}
use Rattle.jp_command.proofs.Limited.{err-is, line-fits, too-long}
use Rattle.jp_command.proofs.LineLemmas.{line_alike}
use Rattle.jp_command.proofs.selecting.push_rest.Goals as goal

pub push_line-requires : goal.push_line-requires
push_line-requires g c =
    comes_along c.args.form c.loop-form.front c.loop-form.nodes c.next_shown.new.nodes
    c.loop-form.invariant.front (rw (c.in-Some.is, c.in_ok-value.was) at c.next_shown.ensures.keeps)

pub loop-form-preserved : goal.loop-form-preserved
loop-form-preserved g c =
    let behind = line_behind c.args.lead.now c.args.form in
    let rest = rest_of g.V.Lent.meaning in
    let old = string_bytes c.loop-form.lines in
    let left = c.loop-form.left in
    let given = rw (c.in-Some.is, c.in_ok-value.was) at c.next_shown.ensures.gives in
    let n = given.0 in
    let there = line_of c.args.form
    (given_node g.V.Lent.meaning c.next_shown.new.nodes c.in_ok-value.value) in
    let led : string_bytes c.push_str.new.self ≡ old ++ c.args.lead.now = search rules in
    let lined : string_bytes c.push_line.new.line ≡ string_bytes c.push_str.new.self ++ there =
    search rules in
    let shown = lined ∙ ap (λ t. t ++ there) led ∙ append_assoc old c.args.lead.now there in
    let line : string_bytes c.push_line.new.line ≡ old ++ behind n =
    shown ∙ ap (λ t. old ++ t) (sym (line_alike c.args.lead.now c.args.form n _ given.4)) in
    let more : is_more left ≡ true = sym c.is_more.ensures ∙ c.loop-form-test.true in
    let asked : n ∷ first_nodes c.one_less-left.result (rest c.next_shown.new.nodes)
    ≡ first_nodes left (n ∷ rest c.next_shown.new.nodes) =
    ap (λ o. n ∷ first_nodes o (rest c.next_shown.new.nodes)) c.one_less-left.ensures
    ∙ sym (first_more left n (rest c.next_shown.new.nodes) more) in
    let next : c.in_ok-count.count ≡ c.loop-form.count + 1 = c.in_ok-count.ensures.more.0 in
    record {
      front = search rules;
      working = given.2;
      all = ap (λ t. t ++ flat_map behind (first_nodes c.one_less-left.result (rest c.next_shown.new.nodes))) line
          ∙ append_assoc old (behind n) _
          ∙ ap (λ ns. old ++ flat_map behind ns) asked
          ∙ ap (λ ns. old ++ flat_map behind (first_nodes left ns)) (sym given.3)
          ∙ c.loop-form.invariant.all;
      count = omega (
        arith,
        next,
        c.loop-form.invariant.count,
        ap length (asked ∙ ap (first_nodes left) (sym given.3)),
      );
      taken = takes_then c.loop-form.invariant.taken c.next_shown.ensures.takes;
      few = c.in_ok-count.ensures.more.1;
      short = search rules;
    }

pub returns-in_err-check_end-clause-beyond : goal.returns-in_err-check_end-clause-beyond
returns-in_err-check_end-clause-beyond g c =
    let a = c.args in
    let behind = line_behind a.lead.now a.form in
    let rest = rest_of g.V.Lent.meaning in
    let old = string_bytes c.loop-form.lines in
    let given = rw (c.in-Some.is, c.in_ok-value.was) at c.next_shown.ensures.gives in
    let n = given.0 in
    let there = line_of a.form (given_node g.V.Lent.meaning c.next_shown.new.nodes c.in_ok-value.value) in
    let led : string_bytes c.push_str.new.self ≡ old ++ a.lead.now = search rules in
    let lined : string_bytes c.push_line.new.line ≡ string_bytes c.push_str.new.self ++ there =
    search rules in
    let line : string_bytes c.push_line.new.line ≡ old ++ behind n =
    lined ∙ ap (λ t. t ++ there) led ∙ append_assoc old a.lead.now there
    ∙ ap (λ t. old ++ t) (sym (line_alike a.lead.now a.form n _ given.4)) in
    let more : is_more c.loop-form.left ≡ true = sym c.is_more.ensures ∙ c.loop-form-test.true in
    let nodes = first_nodes a.most (rest a.nodes.now) in
    let fits = line-fits behind c.loop-form.left n (rest c.loop-form.nodes) (rest c.next_shown.new.nodes) old
    (string_bytes a.lines.now) (flat_map behind nodes) (string_bytes c.push_line.new.line) more given.3
    c.loop-form.invariant.all line in
    let size = ap length c.as_str-in-loop-form.ensures.value in
    let from = ap length c.as_str.ensures.value in
    err-is c.from_residual-in_err-check_end.result c.in_err-check_end.field-0.0
    (IsBeyond a.limit (length nodes) (length (flat_map behind nodes)))
    c.from_residual-in_err-check_end.ensures.1
    (too-long a.limit c.most_bytes.result (length c.as_str.result.now) c.end_behind-end.result
    (length c.as_str-in-loop-form.result.now) (length nodes) (length (flat_map behind nodes))
    c.in_err-check_end.field-0.0 c.most_bytes.ensures c.end_behind-end.ensures.end
    c.in_err-check_end.ensures.beyond (omega (arith, fits, size, from)))
