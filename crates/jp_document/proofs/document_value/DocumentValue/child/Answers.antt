use Rattle.std.proofs.Common.{Some, option_map, sym, ap, ◌∙◌}
use Rattle.jp_document.specs.DocumentValue.{lent_entry}
use Rattle.jp_document.specs.Location.{named, nth}
use Rattle.jp_document.specs.Value.{value_of}
use Rattle.jp_document.proofs.Descent.Entries.{IsDocumentValue-entry, entry_of}
use Rattle.jp_document.proofs.Descent.Items.{list_found, object_found}
use Rattle.jp_document.proofs.document_value.DocumentValue.child.Goals as goal

pub returns-in_ok-json-in-List-clause-entry : goal.returns-in_ok-json-in-List-clause-entry
returns-in_ok-json-in-List-clause-entry c =
    list_found _ c.in-List.items _ c.args.position _ _ c.in-List.is c.deref.ensures.value
    c.in_ok-json-in-List.was c.get.ensures.lookup.3

pub returns-in_err-json-in-List-clause-entry : goal.returns-in_err-json-in-List-clause-entry
returns-in_err-json-in-List-clause-entry c =
    ap (option_map lent_entry) c.from_residual.ensures
    ∙ list_found _ c.in-List.items _ c.args.position _ _ c.in-List.is c.deref.ensures.value
    c.in_err-json-in-List.was c.get.ensures.lookup.3

pub invariant_of-result : goal.invariant_of-result
invariant_of-result c =
    let i = c.args.position in
    record {
      sound = IsDocumentValue-entry _ i (nth i, value_of c.in_ok-json-in-List.json.now)
          c.args.self.sound
          (sym
          (list_found _ c.in-List.items _ i _ _ c.in-List.is c.deref.ensures.value
          c.in_ok-json-in-List.was c.get.ensures.lookup.3));
    }

pub returns-in_ok-member-in-Members-clause-entry :
    goal.returns-in_ok-member-in-Members-clause-entry
returns-in_ok-member-in-Members-clause-entry c =
    let m = c.in_ok-member-in-Members.member.now in
    ap (λ bs. Some (named bs, value_of m.value)) c.as_str.ensures.value
    ∙ object_found _ c.in-Members.members _ c.args.position _ _ c.in-Members.is
    c.deref-in-Members.ensures.value c.in_ok-member-in-Members.was c.get-in-Members.ensures.lookup.3

pub returns-in_err-member-in-Members-clause-entry :
    goal.returns-in_err-member-in-Members-clause-entry
returns-in_err-member-in-Members-clause-entry c =
    ap (option_map lent_entry) c.from_residual-in_err-member-in-Members.ensures
    ∙ object_found _ c.in-Members.members _ c.args.position _ _ c.in-Members.is
    c.deref-in-Members.ensures.value c.in_err-member-in-Members.was
    c.get-in-Members.ensures.lookup.3

pub invariant_of-result-in-Members : goal.invariant_of-result-in-Members
invariant_of-result-in-Members c =
    let i = c.args.position in
    record {
      sound = IsDocumentValue-entry _ i (entry_of c.in_ok-member-in-Members.member.now)
          c.args.self.sound
          (sym
          (object_found _ c.in-Members.members _ i _ _ c.in-Members.is
          c.deref-in-Members.ensures.value c.in_ok-member-in-Members.was
          c.get-in-Members.ensures.lookup.3));
    }
