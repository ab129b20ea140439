-- Classes of characters in names (RFC 9535 sections 2.4 and 2.5.1.1).
use Rattle.std.specs.Prelude.{ℕ, Bool}
use Rattle.jp_query.specs.declared.names.NameCharacter.{NameCharacter}
use Rattle.jp_query.specs.declared.names.NameCharacter.TheVariants.{First, Member, Function}
use Rattle.jp_query.specs.Names.{is_name_first, is_name_char, is_function_char}

-- whether a character is of the class
abbrev pub is_one_of : NameCharacter → ℕ → Bool
is_one_of First = is_name_first
is_one_of Member = is_name_char
is_one_of Function = is_function_char
