-- What is kept of a document of which a query asks only for some members (RFC 9535 section 2.3.1).
use Rattle.std.specs.Prelude.{◌≡◌, ℕ, Bool, true, false, List, [], ◌∷◌, ◌||◌, ◌⊎◌}
use Rattle.std.specs.Prelude.{if◌then◌else◌, String, string_bytes}
use Rattle.std.specs.Cmp.Lexicographic.{slice_cmp}
use Rattle.std.specs.Ordering.{is_eq, nat_cmp}
use Rattle.std.specs.declared.alloc.Global.{Global}
use Rattle.jp_decimal.specs.declared.numbers.Numbers.{Numbers}
use Rattle.jp_document.specs.Exact.{IsDocumentIn}
use Rattle.jp_document.specs.Value.{Value, null, boolean, whole, decimal, text, list, object}
use Rattle.jp_document.specs.Value.{Items, no_items, item, Members, no_members, member}
use Rattle.jp_flat.specs.FlatValue.{document_in}
use Rattle.jp_flat.specs.declared.asked.AskedFor.{AskedFor}
use Rattle.jp_flat.specs.declared.asked.AskedFor.TheVariants.{OfRoot, OfItems, Anywhere}
use Rattle.jp_flat.specs.declared.flat.Flat.{Flat}

-- two names are the same
abbrev pub is_name : List ℕ → List ℕ → Bool
is_name n m = is_eq (slice_cmp nat_cmp n m)

-- the name is one of these
abbrev pub is_listed : List (String Global) → List ℕ → Bool
is_listed [] m = false
is_listed (n ∷ ns) m = is_name (string_bytes n) m || is_listed ns m

-- the members whose names pass the test
abbrev pub members_named : (List ℕ → Bool) → Members → Members
members_named p no_members = no_members
members_named p (member n v ms) =
    if p n then member n v (members_named p ms) else members_named p ms

-- v with these members alone, if it is an object
abbrev pub with_members : (List ℕ → Bool) → Value → Value
with_members p (object ms) = object (members_named p ms)
with_members p v = v

-- the items with these members alone, where they are objects
abbrev pub items_with : (List ℕ → Bool) → Items → Items
items_with p no_items = no_items
items_with p (item v vs) = item (with_members p v) (items_with p vs)

-- d, if it is a list, with these members alone in its items
abbrev pub with_items_of : (List ℕ → Bool) → Value → Value
with_items_of p (list vs) = list (items_with p vs)
with_items_of p v = v

-- nothing can be inside v: it is no list and no object
abbrev pub is_leaf : Value → Bool
is_leaf null = true
is_leaf (boolean b) = true
is_leaf (whole z) = true
is_leaf (decimal c e) = true
is_leaf (text s) = true
is_leaf (list vs) = false
is_leaf (object ms) = false

-- Of v so much is kept as u: all of it, but members of other names than n in whose values nothing
-- can be inside may be missing, wherever they stand outside the values of members named n.
mutual
  pub data IsThinned (n : List ℕ) : Value → Value → Type 0 where
    all : (v : Value) → IsThinned n v v
    in_list : (vs us : Items) → AreThinned n vs us → IsThinned n (list vs) (list us)
    in_object : (ms ks : Members) → LeavesMembers n ms ks → IsThinned n (object ms) (object ks)

  -- the same of each item
  pub data AreThinned (n : List ℕ) : Items → Items → Type 0 where
    no_item : AreThinned n no_items no_items
    next_item : (v u : Value) (vs us : Items) → IsThinned n v u → AreThinned n vs us
        → AreThinned n (item v vs) (item u us)

  -- the same of each member, of which some may be missing
  pub data LeavesMembers (n : List ℕ) : Members → Members → Type 0 where
    no_member : LeavesMembers n no_members no_members
    kept : (m : List ℕ) (v : Value) (ms ks : Members) → LeavesMembers n ms ks
        → LeavesMembers n (member m v ms) (member m v ks)
    thinned : (m : List ℕ) (v u : Value) (ms ks : Members) → is_name n m ≡ false → IsThinned n v u
        → LeavesMembers n ms ks → LeavesMembers n (member m v ms) (member m u ks)
    missing : (m : List ℕ) (v : Value) (ms ks : Members) → is_name n m ≡ false
        → is_leaf v ≡ true → LeavesMembers n ms ks → LeavesMembers n (member m v ms) ks

-- of a document's value d so much is kept as u, where that is asked of it: all of it, or what is
-- asked for
abbrev pub IsKept : AskedFor → Value → Value → Type 0
IsKept (OfRoot names) d u = (u ≡ d) ⊎ (u ≡ with_members (is_listed names.items) d)
IsKept (OfItems names) d u = (u ≡ d) ⊎ (u ≡ with_items_of (is_listed names.items) d)
IsKept (Anywhere name) d u = IsThinned (string_bytes name) d u

-- the bytes are a document with such numbers, of which so much is kept as that is asked of it
pub record IsReadFor (numbers : Numbers) (asked : AskedFor) (bytes : List ℕ) (f : Flat) : Type 0
  where
    pub document : Value
    pub is : IsDocumentIn numbers bytes document
    pub kept : IsKept asked document (document_in f)
