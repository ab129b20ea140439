use Rattle.std.proofs.Common.{refl}
use Rattle.jp_flat.proofs.Blocks.{stops_of}
use Rattle.jp_flat.proofs.runs.stops.Goals as goal

pub returns : goal.returns
returns c = stops_of c.args.block _ _ _ c.fits-block.0 c.fits-block.1 refl refl refl
