-- What the reader of patterns does, a function for each rule of the grammar (RFC 9485 section 3).
use Rattle.std.specs.Prelude.{ℕ, zero, suc, ◌||◌, ◌&&◌, not, nat_lt, Bool, true, false}
use Rattle.std.specs.Prelude.{if◌then◌else◌, List, [], ◌∷◌, ◌++◌, Option, Some, None}
use Rattle.std.specs.Char.{is_ascii_alphabetic}
use Rattle.jp_reading.specs.Characters as char
use Rattle.jp_reading.specs.Outcome.{State, Outcome, took, stuck, deep, ◌>>=◌, head, past}
use Rattle.jp_reading.specs.Outcome.{passes, is, is_at, is_end, take_if, expect, each}
use Rattle.jp_reading.specs.NumberReading.{digits_at, capped}
use Rattle.jp_reading.specs.Views.{outcome_map, with_prefix}
use Rattle.jp_iregexp.specs.declared.category.Category.{Category}
use Rattle.jp_iregexp.specs.declared.class.ClassElement.{ClassElement}
use Rattle.jp_iregexp.specs.declared.class.ClassElement.TheVariants as element
use Rattle.jp_iregexp.specs.declared.quantifiers.Count.{Count}
use Rattle.jp_iregexp.specs.Characters.{is_normal, is_plain, is_escaped, meant}
use Rattle.jp_iregexp.specs.declared.characters.Characters.{Characters}
use Rattle.jp_iregexp.specs.declared.characters.Characters.TheVariants as characters
use Rattle.jp_iregexp.specs.Private.CodeReading.{code_of}
use Rattle.jp_iregexp.specs.Tree.{Tree, class, repeat, branches, pieces}
use Rattle.jp_iregexp.specs.Grammar.{one, dot}

-- a value, if it is there
abbrev pub there : {A : Type 0} → Option A → State → Outcome A
there None p = stuck p
there (Some x) p = took x p

-- whether a character begins a category after `\`
abbrev pub is_category_sign : ℕ → Bool
is_category_sign c = is char.letter_p c || is char.capital_p c

-- whether a character begins an element after the first one of a class
abbrev pub begins_element : ℕ → Bool
begins_element c = not (is char.hyphen c || is char.closing_bracket c)

-- whether a character begins a quantifier
abbrev pub begins_quantifier : ℕ → Bool
begins_quantifier c = is char.star c
    || (is char.plus c || (is char.question_mark c || is char.opening_brace c))

-- whether a character begins a piece
abbrev pub begins_piece : ℕ → Bool
begins_piece c = not (is char.bar c || is char.closing_parenthesis c)

-- whether a character is one of these
abbrev pub is_one_of : Characters → ℕ → Bool
is_one_of characters.Normal = is_normal
is_one_of characters.Plain = is_plain
is_one_of characters.Escaped = is_escaped
is_one_of characters.CategorySign = is_category_sign
is_one_of characters.Letter = is_ascii_alphabetic
is_one_of characters.Element = begins_element
is_one_of characters.Quantifier = begins_quantifier
is_one_of characters.Piece = begins_piece

-- after `\`: a character
unfoldable pub escaped_at : State → Outcome ℕ
escaped_at p = take_if is_escaped p >>= λ e q. took (meant e) q

-- a character of a class
unfoldable pub character_at : State → Outcome ℕ
character_at p = if is_at char.backslash p then escaped_at (past p) else take_if is_plain p

-- the letters of a code, up to the brace after it
abbrev pub second_at : State → Outcome (Option ℕ)
second_at p = if is_at char.closing_brace p then took None p else outcome_map Some
    (take_if is_ascii_alphabetic p)

-- the code of a category
unfoldable pub code_at : State → Outcome Category
code_at p = take_if is_ascii_alphabetic p >>= λ a q. second_at q >>= λ b r. there (code_of a b) r

-- after `\`: a category, or what is outside it
unfoldable pub category_at : State → Outcome ClassElement
category_at p =
    take_if is_category_sign p >>= λ c q. expect char.opening_brace q >>= λ _ q. code_at q
    >>= λ k q. expect char.closing_brace q
    >>= λ _ q. took (element.Category k (is char.capital_p c)) q

-- the range that begins with a character: of that character alone, unless a `-` stands next that
-- does not end the class
unfoldable pub range_at : ℕ → State → Outcome ClassElement
range_at c p =
    if is_at char.hyphen p
    && not (is_at char.closing_bracket (past p)) then
    (character_at (past p)
    >>= λ d q. if nat_lt d c then stuck q else took (element.Range c d) q) else took
    (element.Range c c) p

-- whether a category begins
abbrev pub is_at_category : State → Bool
is_at_category p = is_at char.backslash p && passes is_category_sign (head (past p))

-- an element of a class
unfoldable pub element_at : State → Outcome ClassElement
element_at p =
    if is_at_category p then category_at (past p) else (character_at p >>= λ c q. range_at c q)

-- a `-` that stands for itself
abbrev pub hyphen_at : State → Outcome ClassElement
hyphen_at p = expect char.hyphen p >>= λ _ q. took (element.Range char.hyphen char.hyphen) q

-- the first element of a class
abbrev pub first_at : State → Outcome ClassElement
first_at p = if is_at char.hyphen p then hyphen_at p else element_at p

-- element after element, as long as another begins
abbrev pub elements_at : State → Outcome (List ClassElement)
elements_at = each (λ q. passes begins_element (head q)) element_at

-- the end of a class, after these elements
abbrev pub last_at : List ClassElement → State → Outcome (List ClassElement)
last_at xs p = if is_at char.hyphen p then outcome_map (λ x. xs ++ x ∷ []) (hyphen_at p) else took xs p

-- the elements of a class
unfoldable pub all_elements_at : State → Outcome (List ClassElement)
all_elements_at p = first_at p >>= λ x q. with_prefix (x ∷ []) (elements_at q) >>= λ xs q. last_at xs q

-- whether a class is negated
abbrev pub negation_at : State → Outcome Bool
negation_at p = if is_at char.caret p then took true (past p) else took false p

-- a class
unfoldable pub class_at : State → Outcome Tree
class_at p =
    expect char.opening_bracket p >>= λ _ q. negation_at q >>= λ b q. all_elements_at q
    >>= λ xs q. expect char.closing_bracket q
    >>= λ _ q. took (class b xs) q

-- a number of a quantifier
unfoldable pub number_at : State → Outcome ℕ
number_at p =
    outcome_map (capped 1000000000 0) (digits_at p)
    >>= λ n q. if nat_lt 999999999 n then stuck q else took n q

-- after the least number of a quantifier: its most
unfoldable pub most_at : ℕ → State → Outcome (Option ℕ)
most_at n p =
    if is_at char.closing_brace p then took (Some n) p
    else
    (expect char.comma p
    >>= λ _ q. if is_at char.closing_brace q then took None q else
    (number_at q >>= λ m r. if nat_lt m n then stuck r else took (Some m) r))

-- the numbers of a quantifier, between braces
unfoldable pub braces_at : State → Outcome Count
braces_at p =
    expect char.opening_brace p >>= λ _ q. number_at q >>= λ n q. most_at n q
    >>= λ m q. expect char.closing_brace q
    >>= λ _ q. took (record {
      least = n;
      most = m;
    }) q

-- a quantifier
unfoldable pub quantifier_at : State → Outcome Count
quantifier_at p =
    if is_at char.star p then took (record { least = 0; most = None }) (past p)
    else if is_at char.plus p then took (record { least = 1; most = None }) (past p)
    else if is_at char.question_mark p then took (record { least = 0; most = Some 1 }) (past p)
    else braces_at p

-- after `\` outside a class: a category or a character
unfoldable pub escape_at : State → Outcome Tree
escape_at p =
    if passes is_category_sign (head p) then outcome_map (λ i. class false (i ∷ []))
    (category_at p) else outcome_map one (escaped_at p)

module _ (inside : State → Outcome Tree) where
  -- a pattern in parentheses
  unfoldable pub group_at : State → Outcome Tree
  group_at p = expect char.opening_parenthesis p >>= λ _ q. inside q
      >>= λ x q. expect char.closing_parenthesis q >>= λ _ q. took x q

  -- an atom
  unfoldable pub atom_at : State → Outcome Tree
  atom_at p =
      if is_at char.opening_parenthesis p then group_at p
      else if is_at char.opening_bracket p then class_at p
      else if is_at char.dot p then took dot (past p)
      else if is_at char.backslash p then escape_at (past p)
      else outcome_map one (take_if is_normal p)

  -- a piece
  unfoldable pub piece_at : State → Outcome Tree
  piece_at p =
      atom_at p
      >>= λ a q. if passes begins_quantifier (head q) then outcome_map (λ k. repeat a k.least k.most)
      (quantifier_at q) else took a q

  -- piece after piece, as long as another begins
  abbrev pub pieces_at : State → Outcome (List Tree)
  pieces_at = each (λ q. passes begins_piece (head q)) piece_at

  -- a branch
  unfoldable pub branch_at : State → Outcome Tree
  branch_at p = outcome_map pieces (pieces_at p)

  -- a `|` and the branch after it
  unfoldable pub next_branch_at : State → Outcome Tree
  next_branch_at p = expect char.bar p >>= λ _ q. branch_at q

  -- branches
  unfoldable pub branches_at : State → Outcome Tree
  branches_at p =
      branch_at p >>= λ x q. outcome_map (λ xs. branches (x ∷ xs)) (each (is_at char.bar) next_branch_at q)

-- the pattern of a group; with no level left it would need one more
unfoldable pub inside_at : ℕ → State → Outcome Tree
inside_at zero p = deep p
inside_at (suc n) p = branches_at (inside_at n) p

-- a whole pattern: the text ends after it
unfoldable pub pattern_at : ℕ → State → Outcome Tree
pattern_at n p = branches_at (inside_at n) p >>= λ x q. if is_end q then took x q else stuck q
