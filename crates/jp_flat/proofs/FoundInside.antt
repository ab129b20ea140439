-- What is found as an object or a list goes on: for the loops of `finding`, and for those of
-- `passing`, where nothing is sought.
use Rattle.std.proofs.Common.{◌≡◌, ◌+◌, ◌-◌, ◌^◌, ◌<◌, ◌≤◌, ◌++◌, ℕ, zero, suc, Bool, true, false}
use Rattle.std.proofs.Common.{List, [], ◌∷◌, Option, Some, None, cond, length, map, option_map}
use Rattle.std.proofs.Common.{option_and_then, refl, sym, ap, subst, ◌∙◌, arith, Ordering, Less}
use Rattle.std.proofs.Common.{Equal, Greater, is_eq, nat_cmp, inl, inr}
use Rattle.std.proofs.lemmas.Bool.{cases_lt}
use Rattle.std.specs.BTreeMap.{insert_entry}
use Rattle.std.specs.Cmp.{nat_cmp_is}
use Rattle.std.specs.List.{slice_get}
use Rattle.std.specs.Map.{lookup}
use Rattle.std.specs.Ordering.{eq_by_cmp}
use Rattle.std.proofs.lemmas.List.{length-append}
use Rattle.std.proofs.lemmas.Map.Lookups.{exact_bytes}
use Rattle.json.specs.Json.{after_end_array, read_key}
use Rattle.json.specs.Token.{Token}
use Rattle.jp_document.specs.Location.{Location, Step, child, entries, named, nth, owned_step, step_cmp}
use Rattle.jp_document.specs.Location.{value_at}
use Rattle.jp_flat.specs.Private.FromTokens.{ReadsValue}
use Rattle.jp_document.specs.Value.{Value, items_of, list, members_of, object}
use Rattle.jp_document.proofs.Descent.Items.{child-nth}
use Rattle.jp_document.proofs.Descent.Steps.{step_same}
use Rattle.jp_document.proofs.Members.ByName.{bytes_cmp, child-list_named, child-named}
use Rattle.jp_document.proofs.Members.ByName.{child-object_nth}
use Rattle.jp_flat.proofs.Ahead.{MembersAhead, ahead-in, ahead_member, ahead_members_end}
use Rattle.jp_reading.proofs.Conjunctions.{and-both}
use Rattle.jp_flat.specs.Flat.{Grows, Shown}
use Rattle.jp_flat.specs.Private.Found.{FindsAt, FindsItem, FindsMember, IsFoundAs, later, sought_at}
use Rattle.jp_flat.specs.Private.Found.{value_sought, whole_location}
use Rattle.jp_flat.specs.Private.Reading.{BeginsValues, ReadsLeaf}
use Rattle.jp_flat.specs.declared.finding.Sought.{Sought}
use Rattle.jp_flat.specs.declared.item.Item.{Item}
use Rattle.jp_flat.proofs.Growth.{flat_deeper, grows_on, grows_same, value_grows}
use Rattle.jp_flat.proofs.Leaves.{reads_list, reads_object}
use Rattle.jp_flat.proofs.Loops.{begins-in, few_fit, values_end, values_more, values_none}
use Rattle.jp_document.specs.NumberTexts.{numbers_of}

-- ---- what is found stays, in tables that grow and with more levels

pub found_grows : (n : ℕ) (t s : Shown) (o : Option Value) (i : Option Item) → Grows t s
    → IsFoundAs n t o i → IsFoundAs n s o i
found_grows n t s o None more is = is
found_grows n t s o (Some i) more is = (is.0, is.1, value_grows n t s more i is.0 is.2)

found_deeper : (n : ℕ) (t : Shown) (o : Option Value) (i : Option Item) → IsFoundAs n t o i
    → IsFoundAs (suc n) t o i
found_deeper n t o None is = is
found_deeper n t o (Some i) is = (is.0, is.1, flat_deeper n t i is.0 is.2)

-- ---- one part more

-- the value after it has that part at the step k, and at other steps what the value before has
abbrev HasAlso : Value → Step → Value → Value → Type 0
HasAlso before k v after =
    (q : Step) → child after q ≡ cond (is_eq (step_cmp q k)) (Some v) (child before q)

found_by : (b : Bool) (n : ℕ) (t : Shown) (l : Location) (v : Value) (o : Option Value)
    (i j : Option Item) → IsFoundAs n t (option_and_then (λ w. value_at w l) o) i
    → IsFoundAs n t (value_sought (cond b (Some l) None) v) j
    → IsFoundAs n t (option_and_then (λ w. value_at w l) (cond b (Some v) o))
    (later (cond b (Some l) None) i j)
found_by true n t l v o i j old new = new
found_by false n t l v o i j old new = old

found_more : (n : ℕ) (t : Shown) (s : Option Sought) (k : Step) (before v after : Value)
    (i j : Option Item) → HasAlso before k v after
    → IsFoundAs n t (value_sought (option_map whole_location s) before) i
    → IsFoundAs n t (value_sought (sought_at k (option_map whole_location s)) v) j
    → IsFoundAs n t (value_sought (option_map whole_location s) after)
    (later (sought_at k (option_map whole_location s)) i j)
found_more n t None k before v after i j also old new = old
found_more n t (Some s) k before v after i j also old new =
    let q = owned_step s.step.now in
    let l = map owned_step s.rest.now in
    subst (λ o. IsFoundAs n t (option_and_then (λ w. value_at w l) o)
    (later (sought_at k (Some (q ∷ l))) i j)) (sym (also q))
    (found_by (is_eq (step_cmp q k)) n t l v (child before q) i j old new)

-- ---- items

cmp-suc : (i n : ℕ) → nat_cmp i n ≡ nat_cmp (suc i) (suc n)
cmp-suc i n = elim (cases_lt i n) [
  | inl below ↦
      sym (nat_cmp_is i n Less below) ∙ nat_cmp_is (suc i) (suc n) Less (omega arith)
  | inr past ↦ elim (cases_lt n i) [
    | inl above ↦
        sym (nat_cmp_is i n Greater above) ∙ nat_cmp_is (suc i) (suc n) Greater (omega arith)
    | inr here ↦
        sym (nat_cmp_is i n Equal (omega arith)) ∙ nat_cmp_is (suc i) (suc n) Equal (omega arith)
  ]
]

get-push : (vs : List Value) (v : Value) (i : ℕ)
    → slice_get (vs ++ v ∷ []) i ≡ cond (is_eq (nat_cmp i (length vs))) (Some v) (slice_get vs i)
get-push [] v zero = refl
get-push [] v (suc i) =
    ap (λ o. cond (is_eq o) (Some v) None) (nat_cmp_is (suc i) 0 Greater (omega arith))
get-push (w ∷ vs) v zero =
    ap (λ o. cond (is_eq o) (Some v) (Some w)) (nat_cmp_is 0 (suc (length vs)) Less (omega arith))
get-push (w ∷ vs) v (suc i) =
    get-push vs v i
    ∙ ap (λ o. cond (is_eq o) (Some v) (slice_get vs i)) (cmp-suc i (length vs))

has_item : (vs : List Value) (v : Value)
    → HasAlso (list (items_of vs)) (nth (length vs)) v (list (items_of (vs ++ v ∷ [])))
has_item vs v (named q) =
    child-list_named q (items_of (vs ++ v ∷ [])) ∙ sym (child-list_named q (items_of vs))
has_item vs v (nth i) =
    child-nth i (vs ++ v ∷ []) ∙ get-push vs v i
    ∙ ap (cond (is_eq (nat_cmp i (length vs))) (Some v)) (sym (child-nth i vs))

-- the items so far, what is found in them, and the items to come
pub record ItemsFound (depth : ℕ) (initial ts : List Token) (before now : Shown) (s : Option Sought)
    (index : ℕ) (found : Option Item) : Type 0 where
  pub values : List Value
  pub begins : BeginsValues (numbers_of now.exact) depth initial ts values
  pub shorter : length ts ≤ length initial
  pub at : index ≡ length values
  pub few : index < 2 ^ 32
  pub is : IsFoundAs depth now (value_sought (option_map whole_location s) (list (items_of values)))
      found
  pub grows : Grows before now

no_items_found : (n : ℕ) (t : Shown) (s : Option Sought)
    → IsFoundAs n t (value_sought (option_map whole_location s) (list (items_of []))) None
no_items_found n t None = refl
no_items_found n t (Some s) = refl

pub items_begin : (depth : ℕ) (ts : List Token) (t : Shown) (s : Option Sought)
    → ItemsFound depth ts ts t t s 0 None
items_begin depth ts t s = record {
  values = [];
  begins = values_none depth ts;
  shorter = omega arith;
  at = refl;
  few = omega arith;
  is = no_items_found depth t s;
  grows = grows_same t;
}

pub items_more : (depth : ℕ) (initial ts r : List Token) (t u w : Shown) (s : Option Sought)
    (index : ℕ) (l : Option Location) (found item : Option Item)
    → index + 1 < 2 ^ 32 → l ≡ sought_at (nth index) (option_map whole_location s)
    → length r < length ts → Grows u w → FindsAt depth ts r w l item → ItemsFound depth initial ts t u s index found
    → ItemsFound depth initial r t w s (index + 1) (later l found item)
items_more depth initial ts r t u w s index l found item few inside less more x so = record {
  values = so.values ++ x.value ∷ [];
  begins =
      values_more depth initial ts r so.values x.value less x.reads x.short
      (begins-in u.exact w.exact depth initial ts so.values more.exact so.begins);
  shorter = omega (arith, so.shorter);
  at = omega (arith, so.at, length-append so.values (x.value ∷ []));
  few = few;
  is =
      let k = nth (length so.values) in
      let here : l ≡ sought_at k (option_map whole_location s) =
      inside ∙ ap (λ n. sought_at (nth n) (option_map whole_location s)) so.at in
      let whole = option_map whole_location s in
      let old = found_grows depth u w (value_sought whole (list (items_of so.values))) found more so.is in
      subst (λ m. IsFoundAs depth w (value_sought whole (list (items_of (so.values ++ x.value ∷ []))))
      (later m found item)) (sym here)
      (found_more depth w s k (list (items_of so.values)) x.value
      (list (items_of (so.values ++ x.value ∷ []))) found item (has_item so.values x.value) old
      (subst (λ m. IsFoundAs depth w (value_sought m x.value) item) here x.found));
  grows = grows_on t u w so.grows more;
}

pub items_end : (depth : ℕ) (initial ts r : List Token) (t u : Shown) (s : Option Sought)
    (index : ℕ) (found : Option Item) → after_end_array ts ≡ Some r
    → ItemsFound depth initial ts t u s index found
    → FindsItem depth initial r u (option_map whole_location s) found
items_end depth initial ts r t u s index found over so = record {
  values = so.values;
  reads = values_end depth initial ts r so.values over so.begins;
  within = so.begins.short;
  short = few_fit so.values (omega (arith, so.at, so.few));
  found = so.is;
}

-- ---- members

swap-tests : {A : Type 0} (b c : Bool) (x y z : A) → (b ≡ true → c ≡ true → ⊥)
    → cond c y (cond b x z) ≡ cond b x (cond c y z)
swap-tests true true x y z apart = absurd (apart refl refl)
swap-tests true false x y z apart = refl
swap-tests false c x y z apart = refl

same-test : {A : Type 0} (b : Bool) (x y z : A) → cond b x z ≡ cond b x (cond b y z)
same-test true x y z = refl
same-test false x y z = refl

pub is_same : (q k : List ℕ) → is_eq (bytes_cmp q k) ≡ true → q ≡ k
is_same q k is = exact_bytes q k (by (bytes_cmp q k) is)
  where
    by : (o : Ordering) → is_eq o ≡ true → o ≡ Equal
    by Less is = absurd (cc)
    by Equal is = refl
    by Greater is = absurd (cc)

apart : (k n : List ℕ) → bytes_cmp k n ≡ Greater → k ≡ n → ⊥
apart k n is same =
    let equal : bytes_cmp k n ≡ Equal =
    subst (λ m. bytes_cmp k m ≡ Equal) same (step_same (named k)) in absurd (cc)

-- what is found of q once a member is put among others
abbrev AfterPut : List ℕ → List ℕ → Value → List (List ℕ × Value) → Type 0
AfterPut q k v ms =
    lookup (eq_by_cmp bytes_cmp q) (insert_entry bytes_cmp ms k v) ≡
    cond (is_eq (bytes_cmp q k)) (Some v) (lookup (eq_by_cmp bytes_cmp q) ms)

put_by : (q k : List ℕ) (v : Value) (m : List ℕ × Value) (ms : List (List ℕ × Value))
    (o : Ordering) → bytes_cmp k m.0 ≡ o → AfterPut q k v ms → AfterPut q k v (m ∷ ms)
put_by q k v m ms Less is later = rw is refl
put_by q k v m ms Equal is later =
    let same : k ≡ m.0 = exact_bytes k m.0 is in
    rw is (rw same (same-test (is_eq (bytes_cmp q m.0)) (Some v) (Some m.1)
    (lookup (eq_by_cmp bytes_cmp q) ms)))
put_by q k v m ms Greater is later =
    rw is (ap (cond (is_eq (bytes_cmp q m.0)) (Some m.1)) later
    ∙ swap-tests (is_eq (bytes_cmp q k)) (is_eq (bytes_cmp q m.0)) (Some v) (Some m.1)
    (lookup (eq_by_cmp bytes_cmp q) ms)
    (λ one two. apart k m.0 is (sym (is_same q k one) ∙ is_same q m.0 two)))

lookup-put : (q k : List ℕ) (v : Value) (ms : List (List ℕ × Value)) → AfterPut q k v ms
lookup-put q k v [] = refl
lookup-put q k v (m ∷ ms) =
    put_by q k v m ms (bytes_cmp k m.0) refl (lookup-put q k v ms)

has_member : (ms : List (List ℕ × Value)) (k : List ℕ) (v : Value)
    → HasAlso (object (members_of ms)) (named k) v
    (object (members_of (insert_entry bytes_cmp ms k v)))
has_member ms k v (named q) =
    child-named q (insert_entry bytes_cmp ms k v) ∙ lookup-put q k v ms
    ∙ ap (cond (is_eq (bytes_cmp q k)) (Some v)) (sym (child-named q ms))
has_member ms k v (nth i) =
    child-object_nth i (members_of (insert_entry bytes_cmp ms k v))
    ∙ sym (child-object_nth i (members_of ms))

-- the members so far, what is found in them, and the members to come
pub record MembersFound (depth : ℕ) (initial ts : List Token) (before now : Shown)
    (s : Option Sought) (found : Option Item) : Type 0 where
  pub rounds : ℕ
  pub enough : length ts ≤ rounds
  pub shorter : length ts ≤ length initial
  pub members : List (List ℕ × Value)
  pub ahead : MembersAhead (numbers_of now.exact) depth initial rounds ts members
  pub is :
      IsFoundAs depth now (value_sought (option_map whole_location s) (object (members_of members)))
      found
  pub grows : Grows before now

no_members_found : (n : ℕ) (t : Shown) (s : Option Sought)
    → IsFoundAs n t (value_sought (option_map whole_location s) (object (members_of []))) None
no_members_found n t None = refl
no_members_found n t (Some s) = refl

pub members_begin : (depth : ℕ) (ts : List Token) (t : Shown) (s : Option Sought)
    → MembersFound depth ts ts t t s None
members_begin depth ts t s = record {
  rounds = length ts;
  enough = omega arith;
  shorter = omega arith;
  members = [];
  ahead = record { ahead = refl; rise = refl; short = refl };
  is = no_members_found depth t s;
  grows = grows_same t;
}

pub members_more : (depth : ℕ) (initial ts a r : List Token) (t u w z : Shown) (s : Option Sought)
    (name : List ℕ) (l : Option Location) (found item : Option Item)
    → read_key ts ≡ Some (Some name, a)
    → l ≡ sought_at (named name) (option_map whole_location s) → length r < length ts → Grows u w
    → Grows w z → FindsAt depth a r z l item → MembersFound depth initial ts t u s found
    → MembersFound depth initial r t z s (later l found item)
members_more depth initial ts a r t u w z s name l found item key inside less one two x so =
    let more = grows_on u w z one two in
    let whole = option_map whole_location s in
    let after = insert_entry bytes_cmp so.members name x.value in
    record {
      rounds = so.rounds - 1;
      enough = omega (arith, so.enough);
      shorter = omega (arith, so.shorter);
      members = after;
      ahead =
          ahead_member depth initial so.rounds name ts a r so.members x.value
          (omega (arith, so.enough)) key x.reads x.short
          (ahead-in u.exact z.exact depth initial so.rounds ts so.members more.exact so.ahead);
      is =
          let old = found_grows depth u z (value_sought whole (object (members_of so.members))) found
          more so.is in
          subst (λ m. IsFoundAs depth z (value_sought whole (object (members_of after)))
          (later m found item)) (sym inside)
          (found_more depth z s (named name) (object (members_of so.members)) x.value
          (object (members_of after)) found item (has_member so.members name x.value) old
          (subst (λ m. IsFoundAs depth z (value_sought m x.value) item) inside x.found));
      grows = grows_on t u z so.grows more;
    }

pub members_end : (depth : ℕ) (initial ts r : List Token) (t u : Shown) (s : Option Sought)
    (found : Option Item) → read_key ts ≡ Some (None, r)
    → MembersFound depth initial ts t u s found
    → FindsMember depth initial r u (option_map whole_location s) found
members_end depth initial ts r t u s found over so = record {
  members = so.members;
  reads = ahead_members_end depth initial so.rounds ts r so.members so.enough over so.ahead;
  within = so.ahead.short;
  found = so.is;
}

-- ---- values

pub finds-list : (depth : ℕ) (ts q r : List Token) (t : Shown) (l : Option Location)
    (i : Option Item) → 0 < depth → ts ≡ Token.begin_array ∷ q → FindsItem (depth - 1) q r t l i
    → FindsAt depth ts r t l i
finds-list depth ts q r t l i deep first x = record {
  value = list (items_of x.values);
  reads = reads_list depth ts q r x.values deep first x.reads;
  short = and-both _ _ x.short x.within;
  found =
      let same : suc (depth - 1) ≡ depth = omega arith in
      let v = list (items_of x.values) in
      subst (λ n. IsFoundAs n t (value_sought l v) i) same
      (found_deeper (depth - 1) t (value_sought l v) i x.found);
}

pub finds-object : (depth : ℕ) (ts q r : List Token) (t : Shown) (l : Option Location)
    (i : Option Item) → 0 < depth → ts ≡ Token.begin_object ∷ q
    → FindsMember (depth - 1) q r t l i → FindsAt depth ts r t l i
finds-object depth ts q r t l i deep first x = record {
  value = object (members_of x.members);
  reads = reads_object depth ts q r x.members deep first x.reads;
  short = and-both _ _ refl x.within;
  found =
      let same : suc (depth - 1) ≡ depth = omega arith in
      let v = object (members_of x.members) in
      subst (λ n. IsFoundAs n t (value_sought l v) i) same
      (found_deeper (depth - 1) t (value_sought l v) i x.found);
}

nothing_inside : (n : ℕ) (t : Shown) (s : Option Sought) (v : Value) → entries v ≡ []
    → IsFoundAs n t (value_sought (option_map whole_location s) v) None
nothing_inside n t None v alone = refl
nothing_inside n t (Some s) v alone =
    let l = map owned_step s.rest.now in
    ap (λ es. option_and_then (λ w. value_at w l)
    (lookup (λ k. is_eq (step_cmp (owned_step s.step.now) k)) es)) alone

pub finds-leaf : (depth : ℕ) (ts r : List Token) (token : Token) (t : Shown) (i : Item)
    (s : Option Sought) → ts ≡ token ∷ r → ReadsLeaf token t i
    → FindsAt depth ts r t (option_map whole_location s) None
finds-leaf depth ts r token t i s first leaf =
    let x = leaf depth r t.items in
    record {
      value = x.0.value;
      reads = subst (λ ks. ReadsValue (numbers_of t.exact) depth ks r x.0.value) (sym first) x.0.reads;
      short = x.0.short;
      found = nothing_inside depth t s x.0.value x.1;
    }
