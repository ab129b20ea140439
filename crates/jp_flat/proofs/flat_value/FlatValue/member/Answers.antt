use Rattle.std.proofs.Common.{ap, option_map, sym}
use Rattle.jp_document.specs.Location.{named}
use Rattle.jp_flat.specs.Flat.{shown}
use Rattle.jp_flat.proofs.Inside.{no-member}
use Rattle.jp_flat.proofs.flat_value.FlatValue.member.Goals as goal

pub returns-in-Null : goal.returns-in-Null
returns-in-Null c =
    sym
    (ap (option_map (λ w. (named c.args.name.now, w)))
    (no-member (shown c.args.self.tables.now) c.args.self.item c.args.name.now c.args.self.sound
    c.in-Null.is))
