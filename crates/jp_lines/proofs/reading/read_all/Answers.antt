use Rattle.std.proofs.Common.{◌≡◌, ◌∷◌, [], ◌++◌, ◌∙◌, ap, map, rules, subst, sym, take, ◌+◌}
use Rattle.std.proofs.lemmas.List.{map-append}
use Rattle.jp_tree.specs.Views.{query_of}
use Rattle.jp_lines.specs.Private.Halting.{StopsReading}
use Rattle.jp_lines.specs.Request.{AreAsked}
use Rattle.jp_lines.proofs.InTurn.{err-then}
use Rattle.jp_lines.proofs.OneByOne.{one-asked, one-refused, stops-reading}
use Rattle.jp_lines.proofs.reading.read_all.Goals as goal

pub returns-in_err-query-clause-stopped : goal.returns-in_err-query-clause-stopped
returns-in_err-query-clause-stopped c =
    let texts = c.args.texts.now in
    err-then c.from_residual.result c.in_err-query.field-0.0
    (StopsReading c.args.profile (map (λ t. t.now) texts)) c.from_residual.ensures.1
    (stops-reading c.args.profile (map (λ t. t.now) texts) _ c.in_err-query.field-0.0
    c.in_err-query.ensures.stopped
    (one-refused c.args.profile (λ t. t.now) texts c.loop-text.text-index _ c.loop-text-test.true _
    c.loop-text.invariant.asked))

pub loop-text-preserved : goal.loop-text-preserved
loop-text-preserved c =
    let texts = c.args.texts.now in
    let pushed : c.push.new.self.items ≡ c.loop-text.queries.items ++ c.in_ok-query.query ∷ [] =
    search rules in
    record {
      asked =
          subst (AreAsked c.args.profile (take (c.loop-text.text-index + 1)
          (map (λ t. t.now) texts)))
          (sym
          (ap (map (λ k. query_of k.query)) pushed
          ∙ map-append (λ k. query_of k.query) c.loop-text.queries.items (c.in_ok-query.query ∷ [])))
          (one-asked c.args.profile (λ t. t.now) texts c.loop-text.text-index _
          c.loop-text-test.true _ c.loop-text.invariant.asked (query_of c.in_ok-query.query.query)
          c.in_ok-query.ensures.read);
    }
