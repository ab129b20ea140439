use Rattle.std.proofs.Common.{refl}
use Rattle.jp_json.proofs.Blocks.{line-stops}
use Rattle.jp_json.proofs.lanes.line_stops.Goals as goal

pub returns : goal.returns
returns c = line-stops c.args.block _ _ c.fits-block.0 c.fits-block.1 refl refl
