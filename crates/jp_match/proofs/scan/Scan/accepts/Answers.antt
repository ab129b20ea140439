use Rattle.jp_match.proofs.Texts.Scanning.{left_ends}
use Rattle.jp_match.proofs.scan.Scan.accepts.Goals as goal

pub returns : goal.returns
returns c = left_ends _ _ _ _ _ c.ends.ensures
