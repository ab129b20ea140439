use Rattle.jp_iregexp.proofs.Languages.{branches_unite, sequences_cut, repeats_cut}
use Rattle.jp_iregexp.proofs.laws.languages.Goals as goal

pub returns : goal.returns
returns c = record { branches = branches_unite; sequences = sequences_cut; repeats = repeats_cut }
