-- A function is found by the bytes of its name.
use Rattle.std.proofs.Common.{◌≡◌, cond, ℕ, Bool, true, ◌&&◌, List, [], ◌∷◌}
use Rattle.std.proofs.Common.{Some, refl, sym, ap, ◌∙◌}
use Rattle.std.specs.Bool.{Decides}
use Rattle.std.specs.Map.{lookup}
use Rattle.std.specs.Str.{IsUtf8, bytes_eq, chars}
use lib.Utf8.{encode}
use Rattle.std.proofs.Math.Utf8.{encodes}
use Rattle.std.proofs.lemmas.Bool.{and_parts}
use Rattle.std.proofs.lemmas.Bool.Decides.{same_from_decides}
use Rattle.std.proofs.lemmas.Slice.Eq.{bytes_eq-Decides}
use Rattle.std.proofs.lemmas.Str.{chars_from_encodes, encodes-chars}
use Rattle.jp_tree.specs.Functions.{all_functions, function_of_name}

-- the bytes are the word, which is ASCII, exactly if their characters are
same-test : (bs word : List ℕ) → IsUtf8 bs → encodes word ≡ word
    → bytes_eq (chars bs) word ≡ bytes_eq bs word
same-test bs word utf8 ascii =
    same_from_decides (bytes_eq (chars bs) word) (bytes_eq bs word) decides
    (bytes_eq-Decides bs word)
  where
    decides : Decides (bytes_eq (chars bs) word) (bs ≡ word)
    decides = (
      λ same. sym (encodes-chars bs utf8)
          ∙ ap encodes ((bytes_eq-Decides (chars bs) word).0 same)
          ∙ ascii,
      λ e. (bytes_eq-Decides (chars bs) word).1
          (sym (chars_from_encodes word bs utf8 (ascii ∙ sym e))),
    )

-- each name is ASCII
abbrev are_ascii : {X : Type 0} → List (List ℕ × X) → Bool
are_ascii [] = true
are_ascii (e ∷ es) = bytes_eq (encodes e.0) e.0 && are_ascii es

same-lookup : {X : Type 0} (bs : List ℕ) (es : List (List ℕ × X)) → IsUtf8 bs
    → are_ascii es ≡ true → lookup (bytes_eq (chars bs)) es ≡ lookup (bytes_eq bs) es
same-lookup bs [] utf8 ascii = refl
same-lookup bs (e ∷ es) utf8 ascii =
    let both = and_parts (bytes_eq (encodes e.0) e.0) (are_ascii es) ascii in
    ap (λ same. cond same (Some e.1) (lookup (bytes_eq (chars bs)) es))
    (same-test bs e.0 utf8 ((bytes_eq-Decides (encodes e.0) e.0).0 both.0))
    ∙ ap (cond (bytes_eq bs e.0) (Some e.1)) (same-lookup bs es utf8 both.1)

pub function_of_name_bytes : (bs : List ℕ) → IsUtf8 bs
    → function_of_name (chars bs) ≡ lookup (bytes_eq bs) all_functions
unfolding encode
function_of_name_bytes bs utf8 = same-lookup bs all_functions utf8 refl
