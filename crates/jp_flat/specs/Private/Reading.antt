-- What the tokens of a document are read as, value by value.
use Rattle.std.specs.Prelude.{◌≡◌, ◌≤◌, ℕ, ℤ, suc, true, List, [], ◌∷◌, ◌++◌, length, Option, Some}
use Rattle.std.specs.BTreeMap.{insert_entry}
use Rattle.std.specs.Cmp.Lexicographic.{slice_cmp}
use Rattle.std.specs.Ordering.{is_lt, nat_cmp}
use Rattle.json.specs.Token.{Token}
use Rattle.jp_document.specs.Location.{entries}
use Rattle.jp_document.specs.NumberTexts.{numbers_of}
use Rattle.jp_flat.specs.Private.Integer.{IsWholeText}
use Rattle.jp_flat.specs.Private.FromTokens.{ReadsItems, ReadsMembers, ReadsText}
use Rattle.jp_flat.specs.Private.FromTokens.{ReadsValue}
use Rattle.jp_document.specs.Value.{Value, everywhere, everywhere_in_items, everywhere_in_members}
use Rattle.jp_document.specs.Value.{items_of, list, members_of, object, whole}
use Rattle.jp_flat.specs.Private.Bounded.{is_bounded}
use Rattle.jp_flat.specs.Flat.{Grows, Shown, all_of, flat_value, member_with}
use Rattle.jp_document.specs.OfJson.{most_levels}
use Rattle.jp_flat.specs.Flat.{text_at}
use Rattle.jp_flat.specs.declared.item.Item.{Item}
use Rattle.jp_flat.specs.declared.item.Named.{Named}

-- the tokens begin with the value of the item, nested no deeper than the number, and the rest
-- follows
pub record ReadsFlat (depth : ℕ) (ts rest : List Token) (t : Shown) (i : Item) : Type 0 where
  pub value : Value
  pub reads : ReadsValue (numbers_of t.exact) depth ts rest value
  pub short : everywhere is_bounded value ≡ true
  pub means : flat_value depth t i ≡ Some value

-- the same of the items of a list, of which the item is made
pub record ReadsFlatItems (depth : ℕ) (ts rest : List Token) (t : Shown) (i : Item) : Type 0 where
  pub values : List Value
  pub reads : ReadsItems (numbers_of t.exact) depth (length ts) ts rest (items_of values)
  pub within : everywhere_in_items is_bounded (items_of values) ≡ true
  pub short : is_bounded (list (items_of values)) ≡ true
  pub means : flat_value (suc depth) t i ≡ Some (list (items_of values))

-- the same of the members of an object
pub record ReadsFlatMembers (depth : ℕ) (ts rest : List Token) (t : Shown) (i : Item) : Type 0
  where
    pub members : List (List ℕ × Value)
    pub reads : ReadsMembers (numbers_of t.exact) depth (length ts) ts rest members
    pub within : everywhere_in_members is_bounded (members_of members) ≡ true
    pub means : flat_value (suc depth) t i ≡ Some (object (members_of members))

-- the tokens begin with these values in a list: with whatever values the rest goes on, these and
-- those are read as one list
pub record BeginsValues (numbers : List ℕ → Option Value) (depth : ℕ) (ts rest : List Token)
    (values : List Value) : Type 0 where
  pub rounds : ℕ
  pub enough : length rest ≤ rounds
  pub ahead : (vs : List Value) (end : List Token)
      → ReadsItems numbers depth rounds rest end (items_of vs)
      → ReadsItems numbers depth (length ts) ts end (items_of (values ++ vs))
  pub short : everywhere_in_items is_bounded (items_of values) ≡ true

-- the same of the values of items
pub record BeginsItems (depth : ℕ) (ts rest : List Token) (t : Shown) (items : List Item) : Type 0
  where
    pub values : List Value
    pub begins : BeginsValues (numbers_of t.exact) depth ts rest values
    pub open begins use *
    pub mean : all_of (flat_value depth t) items ≡ Some values

-- tables with other items
abbrev pub with_items : Shown → List Item → Shown
with_items t items = record t { items = items }

-- the token alone is the value of the item, whatever items the tables hold, and nothing stands in it
abbrev pub ReadsLeaf : Token → Shown → Item → Type 0
ReadsLeaf token t i =
    (depth : ℕ) (rest : List Token) (items : List Item)
    → (x : ReadsFlat depth (token ∷ rest) rest (with_items t items) i) × (entries x.value ≡ [])

-- the tokens begin with the values of the items in a list that the later tables hold behind those
-- of the earlier ones, and need none of them
pub record ReadsLeaves (ts rest : List Token) (before after : Shown) : Type 0 where
  pub new : List Item
  pub behind : after.items ≡ before.items ++ new
  pub begins : (depth : ℕ) → BeginsItems depth ts rest (with_items after before.items) new
  pub grows : Grows before (with_items after before.items)

-- whatever values the items have in the earlier tables, the item is their list in the later ones
abbrev pub IsTheListOf : List Item → Shown → Shown → Item → Type 0
IsTheListOf items before after i =
    (n : ℕ) (vs : List Value) → all_of (flat_value n before) items ≡ Some vs
    → flat_value (suc n) after i ≡ Some (list (items_of vs))

-- the same of members and their object
abbrev pub IsObjectOf : List Named → Shown → Shown → Item → Type 0
IsObjectOf members before after i =
    (n : ℕ) (ms : List (List ℕ × Value))
    → all_of (member_with (flat_value n before) before) members ≡ Some ms
    → flat_value (suc n) after i ≡ Some (object (members_of ms))

-- a reading of the text holds the value of the item
pub record ReadsFlatText (source : List ℕ) (t : Shown) (i : Item) : Type 0 where
  pub value : Value
  pub reads : ReadsText (numbers_of t.exact) source value
  pub short : everywhere is_bounded value ≡ true
  pub means : flat_value most_levels t i ≡ Some value

-- the characters write the whole number that the item is
pub record IsWholeItem (s : List ℕ) (i : Item) : Type 0 where
  pub number : ℤ
  pub written : IsWholeText s number
  pub means : (n : ℕ) (t : Shown) → flat_value n t i ≡ Some (whole number)

-- the members one after another, each instead of an earlier one of its name
abbrev pub put_all : List (List ℕ × Value) → List (List ℕ × Value) → List (List ℕ × Value)
put_all found [] = found
put_all found (m ∷ ms) = put_all (insert_entry (slice_cmp nat_cmp) found m.0 m.1) ms

-- the name is above that of the last of the members, if there is one
abbrev pub IsAboveLast : Shown → List Named → List ℕ → Type 0
IsAboveLast t ms name =
    (front : List Named) (last : Named) (x : List ℕ) → ms ≡ front ++ last ∷ []
    → text_at t last.name ≡ Some x → is_lt (slice_cmp nat_cmp x name) ≡ true
