use Rattle.std.proofs.Common.{◌≡◌, ◌<◌, ◌∙◌, length, sym, arith}
use Rattle.std.specs.BTreeMap.{insert_entry}
use Rattle.jp_exact.proofs.LastMembers.{before-more, last-more, name_order}
use Rattle.jp_exact.proofs.members.last_members.Goals as goal

pub members-preserved : goal.members-preserved
members-preserved c =
    let ms = c.args.members.now in
    let i = c.members.index in
    let m = c.index-members-index.result in
    let es = c.members.last.entries in
    let more = c.insert.new.self.entries in
    let within : i < length ms = omega (arith, c.members-test.true) in
    let grown : more ≡ insert_entry name_order es m.0 i = c.in_ok-insert.ensures.entries in (
      sym (last-more ms es more m i within c.index-members-index.is grown) ∙ c.members.invariant.0,
      before-more (length ms) es more m.0 i within grown c.members.invariant.1,
    )
