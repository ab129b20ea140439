-- The kinds of refusal: their numbers and their names; and the text of a refusal.
use Rattle.std.specs.Prelude.{ℕ, List, ◌++◌, codes}
use Rattle.std.specs.Fmt.{decimal}
use Rattle.jp_query.specs.declared.refusal.Refusal.{Refusal}
use Rattle.jp_query.specs.declared.refusal.RefusalKind.{RefusalKind}
use Rattle.jp_query.specs.declared.refusal.RefusalKind.TheVariants.{Syntax, TooDeep, NotWhole}
use Rattle.jp_query.specs.declared.refusal.RefusalKind.TheVariants.{NumberRange, IndexRange}
use Rattle.jp_query.specs.declared.refusal.RefusalKind.TheVariants.{UnknownFunction, ArgumentCount}
use Rattle.jp_query.specs.declared.refusal.RefusalKind.TheVariants.{NotSingular, IllTyped, NoMemory}
use Rattle.jp_query.specs.declared.refusal.RefusalKind.TheVariants.{TextTooLong}

-- the number of a kind
abbrev pub number_of : RefusalKind → ℕ
number_of Syntax = 1
number_of TooDeep = 2
number_of NotWhole = 3
number_of NumberRange = 4
number_of IndexRange = 5
number_of UnknownFunction = 6
number_of ArgumentCount = 7
number_of NotSingular = 8
number_of IllTyped = 9
number_of NoMemory = 10
number_of TextTooLong = 11

-- the name of a kind, in ASCII
abbrev pub name_of : RefusalKind → List ℕ
name_of Syntax = codes "Syntax"
name_of TooDeep = codes "TooDeep"
name_of NotWhole = codes "NotWhole"
name_of NumberRange = codes "NumberRange"
name_of IndexRange = codes "IndexRange"
name_of UnknownFunction = codes "UnknownFunction"
name_of ArgumentCount = codes "ArgumentCount"
name_of NotSingular = codes "NotSingular"
name_of IllTyped = codes "IllTyped"
name_of NoMemory = codes "NoMemory"
name_of TextTooLong = codes "TextTooLong"

-- what a refusal says of itself: its kind, and the byte of the query where it is
abbrev pub refusal_text : Refusal → List ℕ
refusal_text r = name_of r.kind ++ (codes " at " ++ decimal r.place)
