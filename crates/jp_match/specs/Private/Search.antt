-- What a search in a text does.
use Rattle.std.specs.Prelude.{◌≡◌, ℕ, ◌≤◌, List, Result, IfOk, OnOk}
use Rattle.jp_match.specs.declared.search.Search.{Search}
use Rattle.jp_match.specs.Private.Offset.{IsImage}

-- what is found is so, and tests are only added
pub record IsFound {T E : Type 0} (IsSo : T → Type 0) (before after : ℕ) (result : Result T E) :
    Type 0 where
  pub found : IfOk result IsSo
  pub kept : before ≤ after

-- the offsets are replaced by those that words of the language reach from them, and tests are only
-- added
pub record Leads {T E : Type 0} (L : List ℕ → Type 0) (before after : Search) (result : Result T E)
    : Type 0 where
  pub text : after.ground.text.now ≡ before.ground.text.now
  pub image : OnOk result (IsImage L before.ground.text.now before.offsets.items after.offsets.items)
  pub kept : before.tests ≤ after.tests
