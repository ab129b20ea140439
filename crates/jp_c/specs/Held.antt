-- What the pointer behind a handle owns: nothing, or a box with what is kept.
use Rattle.std.specs.Prelude.{Option, None, Some}
use base.Fml.{Fml, ftrue}
use denote.RawPtr.{Ptr}
use Rattle.std.specs.contracts.impls.GlobalAllocator.TheImpl.{ghosts}
use Rattle.std.specs.declared.alloc.Global.{Global}
use Rattle.std_alloc.specs.Box.Ownership.{box_owns}
use Rattle.jp_c.specs.contracts.kept.Kept.{the_row}
use Rattle.jp_c.specs.declared.kept.Kept.{Kept}

abbrev pub held_at : Global → Ptr → Option Kept → Fml
held_at alloc p None = ftrue
held_at alloc p (Some kept) = box_owns (ghosts.dealloc_token alloc) the_row p kept
