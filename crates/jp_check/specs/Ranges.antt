-- Which whole numbers may be an index or a part of a slice (RFC 9535 section 2.1).
use Rattle.std.specs.Prelude.{suc, pos, negsuc, nat_le, Bool, false}
use Rattle.jp_reading.specs.Numbers.{largest_exact}
use Rattle.jp_tree.specs.declared.tree.Numeral.{Numeral}
use Rattle.jp_tree.specs.declared.tree.Numeral.TheVariants.{Whole}

-- a whole number from -(2^53)+1 to (2^53)-1
abbrev pub is_in_index_range : Numeral → Bool
is_in_index_range (Whole (pos size)) = nat_le size largest_exact
is_in_index_range (Whole (negsuc less)) = nat_le (suc less) largest_exact
is_in_index_range _ = false
