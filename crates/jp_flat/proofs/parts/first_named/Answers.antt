use Rattle.std.proofs.Common.{◌≡◌, ◌∙◌, ap, arith, sym, inl, inr}
use Rattle.std.proofs.lemmas.List.{get_or_default}
use Rattle.std.proofs.lemmas.Bool.{cases_lt}
use Rattle.jp_flat.specs.Flat.{shown}
use Rattle.jp_flat.specs.Private.Parts.{is_named}
use Rattle.jp_flat.proofs.parts.first_named.Goals as goal

pub members-preserved : goal.members-preserved
members-preserved c =
    let at = c.members.at in
    let more = c.members-test.true in
    let named = is_named (shown c.args.tables.now) c.args.name.now in
    record {
      within = omega (arith, more);
      none =
          λ i m below. elim (cases_lt i at) [
            | inl less ↦ c.members.invariant.none i m less
            | inr from ↦
                let is : i ≡ at = omega (arith, below, from) in
                rw is
                (ap named (get_or_default c.args.members.now at m _ (omega (arith, more))) ∙ sym c.if-is_named.ensures)
          ];
    }
