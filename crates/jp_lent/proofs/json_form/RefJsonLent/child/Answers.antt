use Rattle.std.proofs.Common.{Some, option_map, ap, ◌∙◌}
use Rattle.jp_document.specs.Location.{named}
use Rattle.jp_document.specs.Value.{value_of}
use Rattle.jp_document.proofs.Descent.Items.{list_found, object_found}
use Rattle.jp_lent.specs.Lending.{step_with}
use Rattle.jp_lent.proofs.json_form.RefJsonLent.child.Goals as goal

pub returns-in_ok-get-in-List-clause-entry : goal.returns-in_ok-get-in-List-clause-entry
returns-in_ok-get-in-List-clause-entry c =
    list_found _ c.in-List.items _ c.args.position _ _ c.in-List.is c.deref.ensures.value
    c.in_ok-get-in-List.was c.get.ensures.lookup.3

pub returns-in_err-get-in-List-clause-entry : goal.returns-in_err-get-in-List-clause-entry
returns-in_err-get-in-List-clause-entry c =
    ap (option_map (step_with (λ j. value_of j.now))) c.from_residual.ensures
    ∙ list_found _ c.in-List.items _ c.args.position _ _ c.in-List.is c.deref.ensures.value
    c.in_err-get-in-List.was c.get.ensures.lookup.3

pub returns-in_ok-member-in-Members-clause-entry :
    goal.returns-in_ok-member-in-Members-clause-entry
returns-in_ok-member-in-Members-clause-entry c =
    let m = c.in_ok-member-in-Members.member.now in
    ap (λ bs. Some (named bs, value_of m.value)) c.as_str.ensures.value
    ∙ object_found _ c.in-Members.members _ c.args.position _ _ c.in-Members.is
    c.deref-in-Members.ensures.value c.in_ok-member-in-Members.was c.get-in-Members.ensures.lookup.3

pub returns-in_err-member-in-Members-clause-entry :
    goal.returns-in_err-member-in-Members-clause-entry
returns-in_err-member-in-Members-clause-entry c =
    ap (option_map (step_with (λ j. value_of j.now)))
    c.from_residual-in_err-member-in-Members.ensures
    ∙ object_found _ c.in-Members.members _ c.args.position _ _ c.in-Members.is
    c.deref-in-Members.ensures.value c.in_err-member-in-Members.was
    c.get-in-Members.ensures.lookup.3
