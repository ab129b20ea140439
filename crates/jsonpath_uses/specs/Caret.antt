-- A refusal below its query.
use Rattle.std.specs.Prelude.{ℕ, List, ◌++◌, length, take, codes}
use Rattle.std.specs.List.{repeat}
use Rattle.std.specs.Str.{chars}
use Rattle.jsonpath.specs.Refusal.{refusal_text}
use Rattle.jp_query.specs.declared.refusal.Refusal.{Refusal}

-- the query, and below it a caret behind so many blanks and what the refusal says
abbrev pub text_at : List ℕ → ℕ → Refusal → List ℕ
text_at query column r = query ++ (codes "\n" ++ (repeat column (codes " ")
    ++ (codes "^ " ++ (refusal_text r ++ codes "\n"))))

-- how many characters of the query stand before the byte at the place
abbrev pub column_of : List ℕ → ℕ → ℕ
column_of query place = length (chars (take place query))

-- the caret stands under the character at the place
abbrev pub caret_text : List ℕ → Refusal → List ℕ
caret_text query r = text_at query (column_of query r.place) r
