-- Parts that a loop writes one after another.
use Rattle.std.proofs.Common.{ℕ, ltb, cond, List, ◌++◌}
use Rattle.std.specs.List.{flat_map}
use Rattle.jp_reading.specs.Texts.{Text}
use Rattle.jp_canon.specs.Canon.{separated}

-- the texts from index i on, with a separator before each but the first of all
abbrev pub texts_from : ℕ → Text → List Text → Text
texts_from i separator ts = cond (ltb 0 i) (flat_map (λ t. separator ++ t) ts) (separated separator ts)
