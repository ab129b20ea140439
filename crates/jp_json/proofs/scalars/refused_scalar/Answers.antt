use Rattle.std.proofs.Common.{inl, arith}
use Rattle.std.proofs.lemmas.Grind.{common_steps}
use Rattle.jp_json.proofs.Cuts.{place-found}
use Rattle.jp_json.proofs.scalars.refused_scalar.Goals as goal

pub returns-then-branch-clause-blamed : goal.returns-then-branch-clause-blamed
returns-then-branch-clause-blamed c =
    let high = c.blamed.ensures.high in
    let refused = c.in_ok-is_no_value-in-Some.ensures in
    inl (
      c.blamed.ensures.cause,
      record {
        start = c.scalars.at;
        end = c.in-Some.found.end;
        before = c.blamed.ensures.low;
        after = grind (arith, common_steps);
        within = c.in-Some.ensures.end.1;
        has = refused c.if-branch.true;
      },
    )

pub returns-then-branch-clause-place : goal.returns-then-branch-clause-place
returns-then-branch-clause-place c = λ utf8.
    place-found c.args.text.now c.scalars.at c.in-Some.found.end c.blamed.result.0 utf8
    c.in-Some.ensures.end.0 c.in-Some.ensures.end.1 c.in-Some.ensures.ascii c.blamed.ensures.ascii
