-- Whether a pattern has the empty word.
use Rattle.std.specs.Prelude.{ℕ, Bool, true, false, ◌&&◌, ◌||◌, nat_le, Option, Some, None}
use Rattle.jp_iregexp.specs.Tree.{Tree, class, nothing, either, empty, sequence, repeat}

-- a repeat may take so few words
abbrev pub is_within : ℕ → Option ℕ → Bool
is_within least None = true
is_within least (Some most) = nat_le least most

abbrev pub has_empty : Tree → Bool
has_empty (class negated items) = false
has_empty nothing = false
has_empty (either a b) = has_empty a || has_empty b
has_empty empty = true
has_empty (sequence a b) = has_empty a && has_empty b
has_empty (repeat a least most) = is_within least most && (nat_le least 0 || has_empty a)
