-- What values that are lent stand for.
use Rattle.jp_document.specs.Location.{Step, step_of}
use Rattle.jp_document.specs.Value.{Value, null, boolean, whole, decimal, text, list, object}
use Rattle.jp_document.specs.Value.{no_items}
use Rattle.jp_document.specs.Value.{no_members}
use Rattle.jp_document.specs.declared.location.Step as code
use Rattle.jp_lent.specs.declared.seen.Seen.{Seen}
use Rattle.jp_lent.specs.declared.seen.Seen.TheVariants as seen

-- a step with a value, where f says what the value stands for
abbrev pub step_with : {V : Type 0} → (V → Value) → code.Step × V → Step × Value
step_with f e = (step_of e.0, f e.1)

-- the value without its step
abbrev pub entry_value : Step × Value → Value
entry_value e = e.1

-- a value without what is in it: of a list and of an object the empty one
abbrev pub bare : Value → Value
bare (list vs) = list no_items
bare (object ms) = object no_members
bare v = v

-- the value that is seen, without what is in it
abbrev pub seen_value : Seen → Value
seen_value seen.Null = null
seen_value (seen.Bool b) = boolean b
seen_value (seen.Whole z) = whole z
seen_value (seen.Decimal e c) = decimal c e
seen_value (seen.Text s) = text s.now
seen_value seen.List = list no_items
seen_value seen.Members = object no_members
