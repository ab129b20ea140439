-- What stands in a `Room` between documents.
use Rattle.std.specs.Prelude.{◌≡◌, []}
use Rattle.jp_flat.specs.declared.reading.Pending.{Pending}

-- no part of a list or of an object is being read
pub record IsIdle (p : Pending) : Type 0 where
  pub items : p.items.items ≡ []
  pub members : p.members.items ≡ []
