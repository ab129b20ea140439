use Rattle.std.proofs.Common.{◌≡◌, ◌++◌, ◌∙◌, ap, append_assoc, codes, rules, string_bytes, subst}
use Rattle.jp_lines.specs.Outcome.{refused_text}
use Rattle.jp_lines.specs.Told.{Tells}
use Rattle.jp_lines.proofs.ToldLemmas.{tells-behind, tells-cut}
use Rattle.jp_lines.proofs.telling.tell.Goals as goal

pub returns-clause-told : goal.returns-clause-told
returns-clause-told g c =
    let lead = c.args.lead.now in
    let line = refused_text c.args.refused.now in
    let behind = string_bytes c.args.refused.now.explanation in
    let first : c.as_bytes.result.now ≡ lead ++ (line ++ codes "\n") = search rules in
    let second : c.as_bytes-2.result.now ≡ behind = search rules in
    subst (Tells g.E.Writer.contents g.E.Writer.has_failed c.args.faults.now c.write_all-2.new.output)
    (ap (λ t. t ++ c.as_bytes-2.result.now) first
    ∙ append_assoc lead (line ++ codes "\n") c.as_bytes-2.result.now
    ∙ ap (λ t. lead ++ t)
    (append_assoc line (codes "\n") c.as_bytes-2.result.now
    ∙ ap (λ t. line ++ (codes "\n" ++ t)) second))
    (tells-behind g.E.Writer.contents g.E.Writer.has_failed c.args.faults.now
    c.write_all.new.output c.write_all-2.new.output c.as_bytes.result.now
    c.as_bytes-2.result.now c.write_all-2.result (search rules) (search rules)
    c.write_all-2.ensures.ok c.write_all-2.ensures.prefix c.write_all-2.ensures.failed)

pub returns-in_default-clause-told : goal.returns-in_default-clause-told
returns-in_default-clause-told g c =
    let lead = c.args.lead.now in
    let line = refused_text c.args.refused.now in
    let behind = string_bytes c.args.refused.now.explanation in
    let first : c.as_bytes.result.now ≡ lead ++ (line ++ codes "\n") = search rules in
    subst (Tells g.E.Writer.contents g.E.Writer.has_failed c.args.faults.now c.write_all.new.output)
    (ap (λ t. t ++ behind) first
    ∙ append_assoc lead (line ++ codes "\n") behind
    ∙ ap (λ t. lead ++ t) (append_assoc line (codes "\n") behind))
    (tells-cut g.E.Writer.contents g.E.Writer.has_failed c.args.faults.now c.write_all.new.output
    c.as_bytes.result.now behind (search rules) (search rules) (search rules))
