use Rattle.std.proofs.Common.{refl}
use Rattle.jp_json.proofs.Blocks.{string-stops}
use Rattle.jp_json.proofs.lanes.string_stops.Goals as goal

pub returns : goal.returns
returns c = string-stops c.args.block _ _ _ c.fits-block.0 c.fits-block.1 refl refl refl
