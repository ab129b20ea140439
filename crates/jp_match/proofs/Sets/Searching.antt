-- What a search finds.
use Rattle.std.proofs.Common.{ℕ, Result}
use Rattle.std.proofs.lemmas.Result.{IfOk-weaker}
use Rattle.jp_match.specs.Private.Search.{IsFound}

pub finds_as : {T E : Type 0} {P Q : T → Type 0} {before after : ℕ} {result : Result T E}
    → ((x : T) → P x → Q x) → IsFound P before after result → IsFound Q before after result
finds_as {P = P} {Q} {result = result} so finds = record {
  found = IfOk-weaker result P Q so finds.found;
  kept = finds.kept;
}
