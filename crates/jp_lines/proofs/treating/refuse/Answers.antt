use Rattle.std.proofs.Common.{◌∷◌, [], inr, refl, rules, subst}
use Rattle.jp_lines.specs.Outcome.{Refused, told_of_all}
use Rattle.jp_lines.specs.Told.{Tells}
use Rattle.jp_lines.specs.declared.defect.RefusedLine.{RefusedLine}
use Rattle.jp_lines.proofs.treating.refuse.Goals as goal

pub returns-then-not-asked-2-clause-stopped : goal.returns-then-not-asked-2-clause-stopped
returns-then-not-asked-2-clause-stopped g c =
    let line : RefusedLine = record {
      number = c.args.number;
      defect = c.args.defect;
      explanation = c.explanation-explanation.result;
    } in
    inr (
      (
        line,
        record { number_is = refl; defect_is = refl; behind = c.explanation-explanation.ensures },
        refl,
      ),
      search rules,
    )

pub returns-clause-told : goal.returns-clause-told
returns-clause-told g c =
    let line : RefusedLine = record {
      number = c.args.number;
      defect = c.args.defect;
      explanation = c.explanation-explanation.result;
    } in (
      line,
      record { number_is = refl; defect_is = refl; behind = c.explanation-explanation.ensures },
      subst
          (λ left. Tells g.E.Writer.contents g.E.Writer.has_failed c.args.faults.now
          c.tell_within.new.faults (told_of_all c.args.asked.lead.now left (Refused line ∷ [])))
          c.reports_left-left.ensures c.in_ok-tell_within.ensures.told,
    )
