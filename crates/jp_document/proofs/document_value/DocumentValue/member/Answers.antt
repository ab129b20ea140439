use Rattle.std.proofs.Common.{◌≡◌, map, option_map, sym, ap, subst, ◌∙◌, rules}
use Rattle.std.proofs.lemmas.Fn.{always_returns_same}
use Rattle.jp_document.specs.DocumentValue.{lent_value}
use Rattle.jp_document.specs.Location.{child, named}
use Rattle.jp_document.specs.Value.{NamesRise, items_of, member_of, members_of, object, value_of}
use Rattle.jp_document.specs.declared.value.Json.{List as ListOf}
use Rattle.jp_reading.proofs.Conjunctions.{and-left}
use Rattle.jp_document.proofs.Descent.Entries.{document-names_rise}
use Rattle.jp_document.proofs.Descent.Inside.{no_child_unless}
use Rattle.jp_document.proofs.Descent.Items.{name_found}
use Rattle.jp_document.proofs.Members.ByName.{absent_name, bytes_cmp, child-list_named}
use Rattle.jp_document.proofs.Members.ByName.{child-named, sorted_members}
use Rattle.jp_document.proofs.Values.{value_of-List, value_of-Members}
use Rattle.jp_document.proofs.document_value.DocumentValue.member.Goals as goal

pub returns-in-Ok : goal.returns-in-Ok
returns-in-Ok c =
    let q = c.args.name.now in
    c.child.ensures.entry
    ∙ name_found _ c.in-Members.members c.deref.result.now c.in-Ok.index q c.args.self.sound
    c.in-Members.is c.deref.ensures.value c.in-Ok.ensures.bound
    (c.in-Ok.ensures.position (λ m. bytes_cmp (member_of m).0 q)
    (always_returns_same _ _ _ (λ a r f k. search rules)))

pub returns-in-Err : goal.returns-in-Err
returns-in-Err c =
    let q = c.args.name.now in
    let xs = c.deref.result.now in
    let ps = map member_of xs in
    let is : lent_value c.args.self ≡ object (members_of ps) =
    ap value_of c.in-Members.is ∙ value_of-Members c.in-Members.members
    ∙ ap (λ ys. object (members_of (map member_of ys))) (sym c.deref.ensures.value) in
    let sorted =
    sorted_members ps
    (and-left _ _ (subst NamesRise is (document-names_rise (lent_value c.args.self) c.args.self.sound))) in
    let miss =
    c.in-Err.ensures.position (λ m. bytes_cmp (member_of m).0 q)
    (always_returns_same _ _ _ (λ a r f k. search rules)) in
    sym
    (ap (option_map (λ v. (named q, v)))
    (ap (λ v. child v (named q)) is ∙ child-named q ps
    ∙ absent_name member_of q xs c.in-Err.field-0 sorted miss))

pub returns-in-Null : goal.returns-in-Null
returns-in-Null c =
    let k = named c.args.name.now in
    sym
    (ap (option_map (λ v. (k, v)))
    (no_child_unless ListOf _ k (λ v. ap (λ w. child w k) (value_of-List v)
    ∙ child-list_named c.args.name.now (items_of (map value_of v.items))) c.in-Null.is))
