use Rattle.std.proofs.Common.{◌≡◌, Some, None, option_map, sym, ap, ◌∙◌, [], rules, unwrap_or}
use Rattle.jp_document.specs.Location.{named}
use Rattle.jp_flat.specs.Flat.{meaning, shown}
use Rattle.jp_flat.specs.FlatValue.{flat_entry}
use Rattle.jp_flat.specs.Private.Parts.{member_at}
use Rattle.jp_flat.proofs.Inside.{member-name, member-sound, member_entry, object-entry}
use Rattle.jp_flat.proofs.flat_value.FlatValue.member_entry.Goals as goal

pub text_at-name-requires : goal.text_at-name-requires
text_at-name-requires c =
    member-name (shown c.args.tables.now) c.args.span c.args.position c.in_ok-member.member c.requires
    (sym c.in_ok-member.ensures.member)

pub returns-clause-entry : goal.returns-clause-entry
returns-clause-entry c =
    let t = shown c.args.tables.now in
    let m = c.in_ok-member.member in
    let there : Some m ≡ member_at t c.args.span c.args.position = c.in_ok-member.ensures.member in
    ap (λ o. Some (named (unwrap_or o []), meaning t m.item)) c.text_at-name.ensures
    ∙ ap (option_map (member_entry t)) there
    ∙ object-entry t c.args.span c.args.position c.requires

pub returns-in_err-member-clause-entry : goal.returns-in_err-member-clause-entry
returns-in_err-member-clause-entry c =
    let t = shown c.args.tables.now in
    let there : None ≡ member_at t c.args.span c.args.position = search rules in
    ap (option_map flat_entry) c.from_residual.ensures
    ∙ ap (option_map (member_entry t)) there
    ∙ object-entry t c.args.span c.args.position c.requires

pub invariant_of-result : goal.invariant_of-result
invariant_of-result c =
    record {
      sound = member-sound (shown c.args.tables.now) c.args.span c.args.position c.in_ok-member.member c.requires
          (sym c.in_ok-member.ensures.member);
    }
