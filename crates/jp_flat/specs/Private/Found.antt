-- What is found at a location while the tokens of a document are read.
use Rattle.std.specs.Prelude.{◌≡◌, ℕ, true, List, ◌∷◌, Option, Some, None, length, map}
use Rattle.std.specs.Prelude.{if◌then◌else◌, option_map}
use Rattle.std.specs.Borrow.{Bor}
use Rattle.std.specs.Ordering.{is_eq}
use Rattle.json.specs.Token.{Token}
use Rattle.jp_document.specs.Location.{Location, Step, named, owned_step, step_cmp, value_at}
use Rattle.jp_document.specs.NumberTexts.{numbers_of}
use Rattle.jp_flat.specs.Private.FromTokens.{ReadsItems, ReadsMembers, ReadsText, ReadsValue}
use Rattle.jp_document.specs.Value.{Value, everywhere, everywhere_in_items, everywhere_in_members}
use Rattle.jp_document.specs.Value.{items_of, list, members_of, object}
use Rattle.jp_flat.specs.Private.Bounded.{is_bounded}
use Rattle.jp_document.specs.declared.location.OwnedStep as code
use Rattle.jp_flat.specs.Flat.{Shown, flat_value}
use Rattle.jp_document.specs.OfJson.{most_levels}
use Rattle.jp_flat.specs.Private.Tokens.{said}
use Rattle.jp_flat.specs.declared.finding.Sought.{Sought}
use Rattle.jp_flat.specs.declared.item.Item.{Item}
use Rattle.jp_flat.specs.declared.token.Spelled.{Spelled}

-- the location of these steps, if there are some
abbrev pub location_of : Option (Bor (List code.OwnedStep)) → Option Location
location_of = option_map (λ steps. map owned_step steps.now)

-- the location that is sought in a list or an object
abbrev pub whole_location : Sought → Location
whole_location s = owned_step s.step.now ∷ map owned_step s.rest.now

-- what is sought in the part at a step of a value in which that is sought
abbrev pub sought_at : Step → Option Location → Option Location
sought_at k (Some (j ∷ l)) = if is_eq (step_cmp j k) then Some l else None
sought_at k _ = None

-- the name is spelled so, and that is sought in the member that has it
pub record IsSoughtIn (name : Spelled) (whole inside : Option Location) : Type 0 where
  pub text : List ℕ
  pub says : said name ≡ Some text
  pub is : inside ≡ sought_at (named text) whole

-- the value at the location in v, if there is one, and if a location is sought
abbrev pub value_sought : Option Location → Value → Option Value
value_sought None v = None
value_sought (Some l) v = value_at v l

-- of what is found in an earlier part and in a later one, what counts: the later one, if something
-- is sought in it
abbrev pub later : Option Location → Option Item → Option Item → Option Item
later None before here = before
later (Some l) before here = here

-- the item has that value in the tables, or neither is there
abbrev pub IsFoundAs : ℕ → Shown → Option Value → Option Item → Type 0
IsFoundAs n t o None = o ≡ None
IsFoundAs n t o (Some i) = (v : Value) × (o ≡ Some v) × (flat_value n t i ≡ Some v)

-- the tokens begin with a value, nested no deeper than the number, and the rest follows; what is
-- sought in it is found as the item
pub record FindsAt (depth : ℕ) (ts rest : List Token) (t : Shown) (l : Option Location)
    (i : Option Item) : Type 0 where
  pub value : Value
  pub reads : ReadsValue (numbers_of t.exact) depth ts rest value
  pub short : everywhere is_bounded value ≡ true
  pub found : IsFoundAs depth t (value_sought l value) i

-- the same of the items of a list
pub record FindsItem (depth : ℕ) (ts rest : List Token) (t : Shown) (l : Option Location)
    (i : Option Item) : Type 0 where
  pub values : List Value
  pub reads : ReadsItems (numbers_of t.exact) depth (length ts) ts rest (items_of values)
  pub within : everywhere_in_items is_bounded (items_of values) ≡ true
  pub short : is_bounded (list (items_of values)) ≡ true
  pub found : IsFoundAs depth t (value_sought l (list (items_of values))) i

-- the same of the members of an object
pub record FindsMember (depth : ℕ) (ts rest : List Token) (t : Shown) (l : Option Location)
    (i : Option Item) : Type 0 where
  pub members : List (List ℕ × Value)
  pub reads : ReadsMembers (numbers_of t.exact) depth (length ts) ts rest members
  pub within : everywhere_in_members is_bounded (members_of members) ≡ true
  pub found : IsFoundAs depth t (value_sought l (object (members_of members))) i

-- the same of a whole text
pub record FindsInText (source : List ℕ) (t : Shown) (l : Location) (i : Option Item) : Type 0
  where
    pub value : Value
    pub reads : ReadsText (numbers_of t.exact) source value
    pub short : everywhere is_bounded value ≡ true
    pub found : IsFoundAs most_levels t (value_at value l) i

-- the tokens begin with a value, as the tables take numbers, and the rest follows; nothing is sought in it
abbrev pub PassesValue : Shown → ℕ → List Token → List Token → Type 0
PassesValue t depth ts rest = FindsAt depth ts rest t None None

-- the same of the items of a list
abbrev pub PassesItems : Shown → ℕ → List Token → List Token → Type 0
PassesItems t depth ts rest = FindsItem depth ts rest t None None

-- the same of the members of an object
abbrev pub PassesMembers : Shown → ℕ → List Token → List Token → Type 0
PassesMembers t depth ts rest = FindsMember depth ts rest t None None

-- the token alone is such a value
abbrev pub PassesLeaf : Shown → Token → Type 0
PassesLeaf t token = (depth : ℕ) (rest : List Token) → PassesValue t depth (token ∷ rest) rest
