-- What the tokens of a document are read as, where not all of it is kept.
use Rattle.std.specs.Prelude.{◌≡◌, ◌⊎◌, ◌++◌, ◌∷◌, [], ℕ, suc, Bool, false, true, List}
use Rattle.std.specs.Prelude.{IfSome, Some, String, drop, length}
use Rattle.std.specs.declared.alloc.Global.{Global}
use Rattle.json.specs.Token.{Token}
use Rattle.jp_document.specs.Value.{Value, everywhere, everywhere_in_items, everywhere_in_members}
use Rattle.jp_document.specs.Value.{items_of, list, members_of, object}
use Rattle.jp_flat.specs.Private.Bounded.{is_bounded}
use Rattle.jp_flat.specs.Asked.{IsKept, IsThinned, is_listed, is_leaf, is_name}
use Rattle.jp_flat.specs.Flat.{Shown, flat_value}
use Rattle.jp_document.specs.OfJson.{most_levels}
use Rattle.jp_document.specs.NumberTexts.{numbers_of}
use Rattle.jp_flat.specs.Private.FromTokens.{ReadsItems, ReadsMembers, ReadsText, ReadsValue}
use Rattle.jp_flat.specs.Private.Reading.{IsAboveLast}
use Rattle.jp_flat.specs.Private.Tokens.{HasSpan, said}
use Rattle.jp_flat.specs.declared.asked.AskedFor.{AskedFor}
use Rattle.jp_flat.specs.declared.item.Item.{Item}
use Rattle.jp_flat.specs.declared.item.Named.{Named}
use Rattle.jp_flat.specs.declared.token.Spelled.{Spelled}

-- Where Keeps v u says that u may be kept of v.
module _ (Keeps : Value → Value → Type 0) where
  -- the tokens begin with a value, nested no deeper than the number, and the rest follows; the item
  -- has what is kept of it
  pub record KeepsFlat (depth : ℕ) (ts rest : List Token) (t : Shown) (i : Item) : Type 0 where
    pub value : Value
    pub kept : Value
    pub reads : ReadsValue (numbers_of t.exact) depth ts rest value
    pub short : everywhere is_bounded value ≡ true
    pub keeps : Keeps value kept
    pub means : flat_value depth t i ≡ Some kept

  -- the same of the items of a list, of which the item is made
  pub record KeepsFlatItems (depth : ℕ) (ts rest : List Token) (t : Shown) (i : Item) : Type 0
    where
      pub values : List Value
      pub kept : Value
      pub reads : ReadsItems (numbers_of t.exact) depth (length ts) ts rest (items_of values)
      pub within : everywhere_in_items is_bounded (items_of values) ≡ true
      pub short : is_bounded (list (items_of values)) ≡ true
      pub keeps : Keeps (list (items_of values)) kept
      pub means : flat_value (suc depth) t i ≡ Some kept

  -- the same of the members of an object
  pub record KeepsFlatMembers (depth : ℕ) (ts rest : List Token) (t : Shown) (i : Item) : Type 0
    where
      pub members : List (List ℕ × Value)
      pub kept : Value
      pub reads : ReadsMembers (numbers_of t.exact) depth (length ts) ts rest members
      pub within : everywhere_in_members is_bounded (members_of members) ≡ true
      pub keeps : Keeps (object (members_of members)) kept
      pub means : flat_value (suc depth) t i ≡ Some kept

-- a reading of the text holds a value, of which the item has what is kept
pub record KeepsFlatText (asked : AskedFor) (source : List ℕ) (t : Shown) (i : Item) : Type 0 where
  pub value : Value
  pub kept : Value
  pub reads : ReadsText (numbers_of t.exact) source value
  pub short : everywhere is_bounded value ≡ true
  pub keeps : IsKept asked value kept
  pub means : flat_value most_levels t i ≡ Some kept

-- nothing can be inside what the item stands for
abbrev pub IsBare : Shown → Item → Type 0
IsBare t i = (n : ℕ) (v : Value) → flat_value n t i ≡ Some v → is_leaf v ≡ true

-- of the value v of a member of the name m so much is kept as u, where the members of the name n are
-- kept whole
abbrev pub IsKeptNamed : List ℕ → List ℕ → Value → Value → Type 0
IsKeptNamed n m v u = (u ≡ v) ⊎ ((is_name n m ≡ false) × IsThinned n v u)

-- the name is spelled so, and it is another one
pub record IsSaidOther (n : List ℕ) (name : Spelled) : Type 0 where
  pub text : List ℕ
  pub says : said name ≡ Some text
  pub other : is_name n text ≡ false

-- so much is kept of the value of a member whose name is spelled so; where it is spare, the member
-- may be missing
pub record IsMemberKept (n : List ℕ) (name : Spelled) (spare : Bool) (v u : Value) : Type 0 where
  pub keeps : (k : List ℕ) → said name ≡ Some k → IsKeptNamed n k v u
  pub missing : spare ≡ true → IsSaidOther n name × (is_leaf v ≡ true)

-- no member stands behind the old ones, and a spare one is left out
pub record IsLeftOut (spare rises still : Bool) (base : ℕ) (old new : List Named) : Type 0 where
  pub may_be : spare ≡ true
  pub alone : length old ≡ base
  pub same : new ≡ old
  pub rise : still ≡ rises

-- the member with the item and the name that is spelled so stands behind the old ones; the names
-- from the base on still rise only if they rose and it is above them
pub record IsPushed (before after : Shown) (name : Spelled) (i : Item) (rises still : Bool) (base : ℕ)
    (old new : List Named) : Type 0 where
  pub member : Named
  pub pushed : new ≡ old ++ member ∷ []
  pub item : member.item ≡ i
  pub named : HasSpan after member.name (said name)
  pub rose : still ≡ true → rises ≡ true
  pub above : still ≡ true → IfSome (said name) (IsAboveLast before (drop base old))

-- the name is spelled so, and it is one of these or not
pub record IsSaidAmong (names : List (String Global)) (name : Spelled) (is : Bool) : Type 0 where
  pub text : List ℕ
  pub says : said name ≡ Some text
  pub told : is ≡ is_listed names text
