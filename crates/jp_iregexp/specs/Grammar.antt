-- Which text spells which pattern (RFC 9485 section 3), with at most n groups inside one another.
use Rattle.std.specs.Prelude.{◌≡◌, ◌≢◌, ℕ, zero, suc, ◌≤◌, true, false, List}
use Rattle.std.specs.Prelude.{[], ◌∷◌, ◌++◌, Option, Some, None, codes}
use Rattle.jp_reading.specs.Characters.{caret, carriage_return, hyphen, line_feed}
use Rattle.jp_reading.specs.Texts.{Text, Spans}
use Rattle.jp_reading.specs.Forms.{Form, word, ◌⌢◌, Each, Separated, Never}
use Rattle.jp_reading.specs.Numbers.{Digits, value_from}
use Rattle.jp_reading.specs.Texts.{first_of}
use Rattle.jp_iregexp.specs.declared.category.Category.{Category}
use Rattle.jp_iregexp.specs.declared.class.ClassElement.{ClassElement}
use Rattle.jp_iregexp.specs.declared.class.ClassElement.TheVariants as element
use Rattle.jp_iregexp.specs.Characters.{PatternCharacter, is_normal, is_plain}
use Rattle.jp_iregexp.specs.Codes.{letters}
use Rattle.jp_iregexp.specs.Tree.{Tree, class, repeat, branches, pieces}

-- charClassEsc: catEsc, the characters of a category, or complEsc, all others
pub data ClassEscape (x : ClassElement) (s : Spans) (o : ℕ) (t : Text) : Type 0 where
  within : (code : Category) → x ≡ element.Category code false
      → (word (codes "\\p{") ⌢ word (letters code) ⌢ word (codes "}")) s o t → ClassEscape x s o t
  outside : (code : Category) → x ≡ element.Category code true
      → (word (codes "\\P{") ⌢ word (letters code) ⌢ word (codes "}")) s o t → ClassEscape x s o t

-- a `-` that stands for itself
pub record Hyphen (x : ClassElement) (s : Spans) (o : ℕ) (t : Text) : Type 0 where
  pub element : x ≡ element.Range hyphen hyphen
  pub is : word (codes "-") s o t

-- CCE1: a character, a range that does not end below its start, or an escape
pub data Element (x : ClassElement) (s : Spans) (o : ℕ) (t : Text) : Type 0 where
  single : (c : ℕ) → x ≡ element.Range c c → PatternCharacter is_plain c s o t → Element x s o t
  range : (first last : ℕ) → x ≡ element.Range first last → first ≤ last
      → (PatternCharacter is_plain first ⌢ word (codes "-") ⌢ PatternCharacter is_plain last) s o t
      → Element x s o t
  class_escape : ClassEscape x s o t → Element x s o t

-- the first element of a class: a `-` may stand there
pub data First (x : ClassElement) (s : Spans) (o : ℕ) (t : Text) : Type 0 where
  first_hyphen : Hyphen x s o t → First x s o t
  first_element : Element x s o t → First x s o t

-- the end of a class: a `-` may stand there
pub data Last (xs : List ClassElement) (s : Spans) (o : ℕ) (t : Text) : Type 0 where
  no_hyphen : xs ≡ [] → word [] s o t → Last xs s o t
  last_hyphen : (x : ClassElement) → xs ≡ x ∷ [] → Hyphen x s o t → Last xs s o t

-- the elements of a class in the text's order
pub record Elements (xs : List ClassElement) (s : Spans) (o : ℕ) (t : Text) : Type 0 where
  pub first : ClassElement
  pub others : List ClassElement
  pub last : List ClassElement
  pub are : xs ≡ first ∷ (others ++ last)
  pub is : (First first ⌢ Each Element others ⌢ Last last) s o t

-- the same, not beginning with `^`
pub record NotAtCaret (xs : List ClassElement) (s : Spans) (o : ℕ) (t : Text) : Type 0 where
  pub begins : first_of t ≢ Some caret
  pub is : Elements xs s o t

-- charClassExpr: `^` right after `[` is always the negation
pub data Class (x : Tree) (s : Spans) (o : ℕ) (t : Text) : Type 0 where
  plain : (xs : List ClassElement) → x ≡ class false xs
      → (word (codes "[") ⌢ NotAtCaret xs ⌢ word (codes "]")) s o t → Class x s o t
  negated : (xs : List ClassElement) → x ≡ class true xs
      → (word (codes "[^") ⌢ Elements xs ⌢ word (codes "]")) s o t → Class x s o t

-- QuantExact: a number in base ten, at most 999,999,999; leading zeros are allowed
pub record QuantExact (n : ℕ) (s : Spans) (o : ℕ) (t : Text) : Type 0 where
  pub digits : Text
  pub value : n ≡ value_from 0 digits
  pub small : n ≤ 999999999
  pub is : Digits digits s o t

-- how often at most, after how often at least: as often, with no upper end, or up to another
-- number
pub data Most (least : ℕ) (most : Option ℕ) (s : Spans) (o : ℕ) (t : Text) : Type 0 where
  exactly : most ≡ Some least → word [] s o t → Most least most s o t
  from : most ≡ None → word (codes ",") s o t → Most least most s o t
  to : (n : ℕ) → most ≡ Some n → least ≤ n → (word (codes ",") ⌢ QuantExact n) s o t
      → Most least most s o t

-- quantifier: how often at least, and how often at most or with no upper end
pub data Quantifier (least : ℕ) (most : Option ℕ) (s : Spans) (o : ℕ) (t : Text) : Type 0 where
  any : least ≡ 0 → most ≡ None → word (codes "*") s o t → Quantifier least most s o t
  some : least ≡ 1 → most ≡ None → word (codes "+") s o t → Quantifier least most s o t
  optional : least ≡ 0 → most ≡ Some 1 → word (codes "?") s o t → Quantifier least most s o t
  braces : (word (codes "{") ⌢ QuantExact least ⌢ Most least most ⌢ word (codes "}")) s o t
      → Quantifier least most s o t

-- the class of one character
abbrev pub one : ℕ → Tree
one c = class false (element.Range c c ∷ [])

-- all characters but line feed and carriage return
abbrev pub dot : Tree
dot =
    class true
    (element.Range line_feed line_feed ∷ element.Range carriage_return carriage_return ∷ [])

module _ (Group : Tree → Form) where
  -- atom: a character, a dot, an escape, a class, or a pattern in parentheses
  pub data Atom (x : Tree) (s : Spans) (o : ℕ) (t : Text) : Type 0 where
    character : (c : ℕ) → x ≡ one c → PatternCharacter is_normal c s o t → Atom x s o t
    anything : x ≡ dot → word (codes ".") s o t → Atom x s o t
    category : (i : ClassElement) → x ≡ class false (i ∷ []) → ClassEscape i s o t → Atom x s o t
    brackets : Class x s o t → Atom x s o t
    group : (word (codes "(") ⌢ Group x ⌢ word (codes ")")) s o t → Atom x s o t

  -- piece: an atom, with a quantifier a repeat
  pub data Piece (x : Tree) (s : Spans) (o : ℕ) (t : Text) : Type 0 where
    once : Atom x s o t → Piece x s o t
    repeated : (a : Tree) (least : ℕ) (most : Option ℕ) → x ≡ repeat a least most
        → (Atom a ⌢ Quantifier least most) s o t → Piece x s o t

  -- branch: pieces, or none
  pub record Branch (x : Tree) (s : Spans) (o : ℕ) (t : Text) : Type 0 where
    pub parts : List Tree
    pub tree : x ≡ pieces parts
    pub is : Each Piece parts s o t

  -- i-regexp: branches with `|` between them
  pub record Branches (x : Tree) (s : Spans) (o : ℕ) (t : Text) : Type 0 where
    pub parts : List Tree
    pub tree : x ≡ branches parts
    pub is : Separated (word (codes "|")) Branch parts s o t

-- the pattern of a group, with at most n groups inside one another, itself counted
abbrev pub Grouped : ℕ → Tree → Form
Grouped zero x = Never
Grouped (suc n) x = Branches (Grouped n) x

-- a text spells a pattern with at most n groups inside one another; a pattern has no components
pub record SpellsPattern (n : ℕ) (x : Tree) (text : Text) : Type 0 where
  pub is : Branches (Grouped n) x [] 0 text
