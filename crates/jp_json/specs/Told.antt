-- How a misreading is told in one line.
use Rattle.std.specs.Prelude.{ℕ, List, ◌++◌, codes, string_bytes, Option, Some, None, String}
use Rattle.std.specs.Fmt.{decimal}
use Rattle.jp_json.specs.declared.misreading.Misreading.{Misreading}

-- with the path of a number that is not whole, or without
abbrev pub told_with : {Z : Type 0} → ℕ → ℕ → Option (String Z) → List ℕ → List ℕ
told_with line column (Some path) sentence =
    codes "line " ++ (decimal line ++ (codes ", column " ++ (decimal column
    ++ (codes ", at " ++ (string_bytes path ++ (codes ": " ++ sentence))))))
told_with line column None sentence =
    codes "line " ++ (decimal line ++ (codes ", column " ++ (decimal column
    ++ (codes ": " ++ sentence))))

-- the line, the column, the path of a number, and the sentence
abbrev pub misreading_text : Misreading → List ℕ
misreading_text m = told_with m.line m.column m.path m.sentence.now
