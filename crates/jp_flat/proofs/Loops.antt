-- Whatever items and members are to come, they complete those that were read: for the loops of
-- `items` and `members`.
use Rattle.std.proofs.Common.{◌≡◌, ◌+◌, ◌-◌, ◌^◌, ◌<◌, ◌≤◌, ◌++◌, ℕ, suc, Bool, true, List, [], ◌∷◌}
use Rattle.std.proofs.Common.{IfSome, Option, Some, None, length, drop, take, refl, sym, ap, subst}
use Rattle.std.proofs.Common.{◌∙◌, arith}
use Rattle.std.proofs.Common.{append_assoc, append-nil, option_map, option_and_then}
use Rattle.std.specs.Map.{keys_of}
use Rattle.std.proofs.Math.Seq.{drop-append_seam, take-append_seam}
use Rattle.std.proofs.lemmas.Bool.{and_from, le-leb}
use Rattle.std.proofs.lemmas.List.{length-append}
use Rattle.std.proofs.lemmas.List.Folds.{list_all-append}
use Rattle.json.specs.Json.{after_end_array, read_key}
use Rattle.json.specs.Token.{Token}
use Rattle.jp_flat.specs.Private.FromTokens.{ReadsItems, ReadsValue}
use Rattle.jp_document.specs.Value.{Value, everywhere, everywhere_in_items, item_count, items_of}
use Rattle.jp_document.specs.Value.{list, members_of, names_rise, object}
use Rattle.jp_flat.specs.Private.Bounded.{is_bounded}
use Rattle.jp_document.proofs.Descent.Inside.{all-items}
use Rattle.jp_flat.proofs.Ahead.{MembersAhead, ahead-in, ahead_member, ahead_members_end}
use Rattle.jp_flat.proofs.Rounds.{items_over, items_round}
use Rattle.jp_flat.specs.Flat.{Grows, Shown, all_of, flat_value, member_with, text_at}
use Rattle.jp_flat.specs.Private.Reading.{BeginsItems, BeginsValues, IsAboveLast, ReadsLeaf, IsTheListOf}
use Rattle.jp_flat.specs.Private.Reading.{ReadsFlat}
use Rattle.jp_flat.specs.Private.Reading.{ReadsFlatItems, ReadsFlatMembers, ReadsLeaves, put_all}
use Rattle.jp_flat.specs.Private.Reading.{with_items}
use Rattle.jp_flat.specs.declared.item.Item.{Item}
use Rattle.jp_flat.specs.declared.item.Named.{Named}
use Rattle.jp_flat.proofs.Growth.{all_of_grows, all_of_push, grows_on, grows_same, length-all_of}
use Rattle.jp_flat.proofs.Growth.{grows_beside, member_grows, text_grows, value_grows}
use Rattle.jp_flat.proofs.Leaves.{value_goes}
use Rattle.jp_flat.proofs.Names.{put_all-push, rise-push}
use Rattle.jp_document.specs.NumberTexts.{numbers_of}

pub cut_back : {A : Type 0} (base : ℕ) (old new all : List A) → all ≡ old ++ new → base ≡ length old
    → drop base all ≡ new
cut_back base old new all pushed at =
    ap (λ n. drop n all) at ∙ ap (drop (length old)) pushed ∙ drop-append_seam old new

pub cut_front : {A : Type 0} (base : ℕ) (old new all : List A) → all ≡ old ++ new
    → base ≡ length old → take base all ≡ old
cut_front base old new all pushed at =
    ap (λ n. take n all) at ∙ ap (take (length old)) pushed ∙ take-append_seam old new

-- ---- items

pub values_none : {N : List ℕ → Option Value} (depth : ℕ) (ts : List Token)
    → BeginsValues N depth ts ts []
values_none depth ts = record {
  rounds = length ts;
  enough = omega arith;
  ahead = λ vs r later. later;
  short = refl;
}

short_item : (values : List Value) (v : Value)
    → everywhere_in_items is_bounded (items_of values) ≡ true → everywhere is_bounded v ≡ true
    → everywhere_in_items is_bounded (items_of (values ++ v ∷ [])) ≡ true
short_item values v before here =
    all-items is_bounded (values ++ v ∷ [])
    ∙ list_all-append (everywhere is_bounded) values (v ∷ [])
    ∙ and_from _ _ (sym (all-items is_bounded values) ∙ before) (and_from _ _ here refl)

pub values_more : {N : List ℕ → Option Value} (depth : ℕ) (initial ts r : List Token) (values : List Value) (v : Value)
    → length r < length ts → ReadsValue N depth ts r v → everywhere is_bounded v ≡ true
    → BeginsValues N depth initial ts values → BeginsValues N depth initial r (values ++ v ∷ [])
values_more {N = N} depth initial ts r values v less x short so = record {
  rounds = so.rounds - 1;
  enough = omega (arith, so.enough);
  ahead = λ vs q later.
      subst (λ ws. ReadsItems N depth (length initial) initial q (items_of ws))
      (sym (append_assoc values (v ∷ []) vs))
      (so.ahead (v ∷ vs) q
      (items_round depth so.rounds ts r q v (items_of vs) (omega (arith, so.enough))
      (value_goes depth ts r v x) x later));
  short = short_item values v so.short short;
}

pub values_end : {N : List ℕ → Option Value} (depth : ℕ) (initial ts r : List Token) (values : List Value)
    → after_end_array ts ≡ Some r → BeginsValues N depth initial ts values
    → ReadsItems N depth (length initial) initial r (items_of values)
values_end {N = N} depth initial ts r values over so =
    subst (λ ws. ReadsItems N depth (length initial) initial r (items_of ws)) (append-nil values)
    (so.ahead [] r (items_over depth so.rounds ts r so.enough over))

-- the same where as much is taken
pub begins-in : (b c : Bool) (depth : ℕ) (ts rest : List Token) (values : List Value) → c ≡ b
    → BeginsValues (numbers_of b) depth ts rest values
    → BeginsValues (numbers_of c) depth ts rest values
begins-in b c depth ts rest values same so =
    subst (λ e. BeginsValues (numbers_of e) depth ts rest values) (sym same) so

item_count-items_of : (vs : List Value) → item_count (items_of vs) ≡ length vs
item_count-items_of [] = refl
item_count-items_of (v ∷ vs) = ap suc (item_count-items_of vs)

pub few_fit : (vs : List Value) → length vs < 2 ^ 32 → is_bounded (list (items_of vs)) ≡ true
few_fit vs few = le-leb _ _ (omega (arith, few, item_count-items_of vs))

begins_none : (depth : ℕ) (ts : List Token) (t : Shown) → BeginsItems depth ts ts t []
begins_none depth ts t = record { values = []; begins = values_none depth ts; mean = refl }

begins_more : (depth : ℕ) (initial ts r : List Token) (s u : Shown) (items : List Item) (i : Item)
    → length r < length ts → Grows s u → ReadsFlat depth ts r u i
    → BeginsItems depth initial ts s items → BeginsItems depth initial r u (items ++ i ∷ [])
begins_more depth initial ts r s u items i less more x so = record {
  values = so.values ++ x.value ∷ [];
  begins =
      values_more depth initial ts r so.values x.value less x.reads x.short
      (begins-in s.exact u.exact depth initial ts so.values more.exact so.begins);
  mean = all_of_push (flat_value depth u) items so.values i x.value
      (all_of_grows (flat_value depth s) (flat_value depth u) items so.values
      (value_grows depth s u more) so.mean) x.means;
}

begins_end : (depth : ℕ) (initial ts r : List Token) (s u : Shown) (items : List Item) (i : Item)
    → after_end_array ts ≡ Some r → length items < 2 ^ 32 → IsTheListOf items s u i
    → u.exact ≡ s.exact → BeginsItems depth initial ts s items → ReadsFlatItems depth initial r u i
begins_end depth initial ts r s u items i over few closed same so = record {
  values = so.values;
  reads =
      values_end depth initial ts r so.values over
      (begins-in s.exact u.exact depth initial ts so.values same so.begins);
  within = so.short;
  short =
      few_fit so.values
      (omega (arith, few, length-all_of (flat_value depth s) items so.values so.mean));
  means = closed depth so.values so.mean;
}

-- ---- leaves at the front of a list

pub leaves_begin : (ts : List Token) (t : Shown) → ReadsLeaves ts ts t t
leaves_begin ts t = record {
  new = [];
  behind = sym (append-nil t.items);
  begins = λ depth. begins_none depth ts t;
  grows = grows_same t;
}

pub leaves_more : (initial ts r : List Token) (token : Token) (t s u w : Shown) (i : Item)
    → ts ≡ token ∷ r → ReadsLeaf token u i → Grows s u → u.items ≡ s.items
    → w ≡ with_items u (u.items ++ i ∷ []) → ReadsLeaves initial ts t s → ReadsLeaves initial r t w
leaves_more initial ts r token t s u w i first leaf more same pushed so =
    let grown = grows_beside s u t.items more in
    subst (ReadsLeaves initial r t) (sym pushed) (record {
      new = so.new ++ i ∷ [];
      behind =
          ap (λ xs. xs ++ i ∷ []) (same ∙ so.behind) ∙ append_assoc t.items so.new (i ∷ []);
      begins = λ depth.
          begins_more depth initial ts r (with_items s t.items) (with_items u t.items) so.new i
          (omega (arith, ap length first)) grown
          (subst (λ ks. ReadsFlat depth ks r (with_items u t.items) i) (sym first)
          (leaf depth r t.items).0) (so.begins depth);
      grows = grows_on t (with_items s t.items) (with_items u t.items) so.grows grown;
    })

-- all the items of a list are leaves
pub leaves_end : (depth : ℕ) (initial ts r : List Token) (t s : Shown) (first : ℕ) (i : Item)
    → after_end_array ts ≡ Some r → first ≡ length t.items → length s.items < first + 2 ^ 32
    → IsTheListOf (drop first s.items) (with_items s (take first s.items)) s i
    → ReadsLeaves initial ts t s → ReadsFlatItems depth initial r s i
leaves_end depth initial ts r t s first i over at few closed so =
    let back = cut_back first t.items so.new s.items so.behind at in
    let front = cut_front first t.items so.new s.items so.behind at in
    begins_end depth initial ts r (with_items s t.items) s so.new i over
    (omega (arith, few, at, ap length so.behind, length-append t.items so.new))
    (subst (λ xs. IsTheListOf so.new (with_items s xs) s i) front
    (subst (λ xs. IsTheListOf xs (with_items s (take first s.items)) s i) back closed))
    refl (so.begins depth)

pub leaves_grow : (ts rest : List Token) (t s : Shown) → ReadsLeaves ts rest t s → Grows t s
leaves_grow ts rest t s so = record {
  exact = so.grows.exact;
  source = so.grows.source;
  spare = so.grows.spare;
  items = record { rest = so.new; is = so.behind };
  members = so.grows.members;
}

-- ---- items with parts, and those behind them

-- the items so far, which stand behind the old ones, and the items to come
pub record ItemsSoFar (depth : ℕ) (initial ts : List Token) (before now : Shown) (base : ℕ)
    (old all : List Item) : Type 0 where
  pub new : List Item
  pub begins : BeginsItems depth initial ts now new
  pub shorter : length ts ≤ length initial
  pub pushed : all ≡ old ++ new
  pub at : base ≡ length old
  pub grows : Grows before now

-- the leaves moved from the tables, and the first item that is none
pub items_begin : (depth : ℕ) (initial ts r : List Token) (t s u : Shown) (first base : ℕ)
    (old all : List Item) (i : Item) → first ≡ length t.items → base ≡ length old
    → length ts ≤ length initial → ReadsLeaves initial ts t s
    → all ≡ old ++ drop first s.items → Grows (with_items s (take first s.items)) u
    → length r < length ts → ReadsFlat depth ts r u i
    → ItemsSoFar depth initial r t u base old (all ++ i ∷ [])
items_begin depth initial ts r t s u first base old all i at here shorter leaves moved more less x =
    let back = cut_back first t.items leaves.new s.items leaves.behind at in
    let front = cut_front first t.items leaves.new s.items leaves.behind at in
    let grown : Grows (with_items s t.items) u =
    subst (λ xs. Grows (with_items s xs) u) front more in
    record {
      new = leaves.new ++ i ∷ [];
      begins =
          begins_more depth initial ts r (with_items s t.items) u leaves.new i less grown x
          (leaves.begins depth);
      shorter = omega (arith, less, shorter);
      pushed =
          ap (λ xs. xs ++ i ∷ []) (moved ∙ ap (λ xs. old ++ xs) back)
          ∙ append_assoc old leaves.new (i ∷ []);
      at = here;
      grows = grows_on t (with_items s t.items) u leaves.grows grown;
    }

pub items_more : (depth : ℕ) (initial ts r : List Token) (t s u : Shown) (base : ℕ)
    (old all : List Item) (i : Item) → length r < length ts → ReadsFlat depth ts r u i
    → Grows s u → ItemsSoFar depth initial ts t s base old all
    → ItemsSoFar depth initial r t u base old (all ++ i ∷ [])
items_more depth initial ts r t s u base old all i less x more so = record {
  new = so.new ++ i ∷ [];
  begins = begins_more depth initial ts r s u so.new i less more x so.begins;
  shorter = omega (arith, less, so.shorter);
  pushed = ap (λ xs. xs ++ i ∷ []) so.pushed ∙ append_assoc old so.new (i ∷ []);
  at = so.at;
  grows = grows_on t s u so.grows more;
}

pub items_end : (depth : ℕ) (initial ts r : List Token) (t s u : Shown) (base : ℕ)
    (old all : List Item) (i : Item) → after_end_array ts ≡ Some r → length all < base + 2 ^ 32
    → IsTheListOf (drop base all) s u i → Grows s u → ItemsSoFar depth initial ts t s base old all
    → ReadsFlatItems depth initial r u i
items_end depth initial ts r t s u base old all i over few closed more so =
    let back = cut_back base old so.new all so.pushed so.at in
    begins_end depth initial ts r s u so.new i over
    (omega (arith, few, so.at, ap length so.pushed, length-append old so.new))
    (subst (λ xs. IsTheListOf xs s u i) back closed) more.exact so.begins

-- ---- members

-- the members so far, which stand behind the old ones, and the members to come
pub record MembersSoFar (depth : ℕ) (initial ts : List Token) (before now : Shown) (base : ℕ)
    (rises : Bool) (old all : List Named) : Type 0 where
  pub rounds : ℕ
  pub enough : length ts ≤ rounds
  pub shorter : length ts ≤ length initial
  pub found : List (List ℕ × Value)
  pub ahead : MembersAhead (numbers_of now.exact) depth initial rounds ts (put_all [] found)
  pub new : List Named
  pub mean : all_of (member_with (flat_value depth now) now) new ≡ Some found
  pub pushed : all ≡ old ++ new
  pub at : base ≡ length old
  pub rise : rises ≡ true → names_rise (keys_of found) ≡ true
  pub grows : Grows before now

pub above_said : (t : Shown) (ms : List Named) (o : Option (List ℕ)) (name : List ℕ)
    → o ≡ Some name → IfSome o (IsAboveLast t ms) → IsAboveLast t ms name
above_said t ms o name says above = subst (λ q. IfSome q (IsAboveLast t ms)) says above

pub members_begin : (depth : ℕ) (ts : List Token) (t : Shown) (base : ℕ) (old : List Named)
    → base ≡ length old → MembersSoFar depth ts ts t t base true old old
members_begin depth ts t base old at = record {
  rounds = length ts;
  enough = omega arith;
  shorter = omega arith;
  found = [];
  ahead = record { ahead = refl; rise = refl; short = refl };
  new = [];
  mean = refl;
  pushed = sym (append-nil old);
  at = at;
  rise = λ r. refl;
  grows = grows_same t;
}

pub members_more : (depth : ℕ) (initial ts a r : List Token) (t s w u : Shown) (base : ℕ)
    (rises still : Bool) (old all : List Named) (name : List ℕ) (m : Named)
    → read_key ts ≡ Some (Some name, a) → length r < length ts → ReadsFlat depth a r u m.item
    → text_at w m.name ≡ Some name → Grows s w → Grows w u → (still ≡ true → rises ≡ true)
    → (still ≡ true → IsAboveLast s (drop base all) name)
    → MembersSoFar depth initial ts t s base rises old all
    → MembersSoFar depth initial r t u base still old (all ++ m ∷ [])
members_more depth initial ts a r t s w u base rises still old all name m key less x at one two rose
    above so =
    let more = grows_on s w u one two in
    let p : List ℕ × Value = (name, x.value) in
    let kept : all_of (member_with (flat_value depth u) u) so.new ≡ Some so.found =
    all_of_grows (member_with (flat_value depth s) s) (member_with (flat_value depth u) u) so.new
    so.found
    (member_grows (flat_value depth s) (flat_value depth u) s u more (value_grows depth s u more))
    so.mean in
    let here : member_with (flat_value depth u) u m ≡ Some p =
    ap (option_and_then (λ k. option_map (λ v. (k, v)) (flat_value depth u m.item)))
    (text_grows w u m.name name two at) ∙ ap (option_map (λ v. (name, v))) x.means in
    record {
      rounds = so.rounds - 1;
      enough = omega (arith, so.enough);
      shorter = omega (arith, so.shorter);
      found = so.found ++ p ∷ [];
      ahead =
          subst (MembersAhead (numbers_of u.exact) depth initial (so.rounds - 1) r)
          (sym (put_all-push [] so.found p))
          (ahead_member depth initial so.rounds name ts a r (put_all [] so.found) x.value
          (omega (arith, so.enough)) key x.reads x.short
          (ahead-in s.exact u.exact depth initial so.rounds ts (put_all [] so.found) more.exact so.ahead));
      new = so.new ++ m ∷ [];
      mean = all_of_push (member_with (flat_value depth u) u) so.new so.found m p kept here;
      pushed = ap (λ xs. xs ++ m ∷ []) so.pushed ∙ append_assoc old so.new (m ∷ []);
      at = so.at;
      rise = λ is.
          rise-push s so.new so.found name x.value (flat_value depth s) so.mean (so.rise (rose is))
          (subst (λ ms. IsAboveLast s ms name)
          (cut_back base old so.new all so.pushed so.at) (above is));
      grows = grows_on t s u so.grows more;
    }

pub members_end : (depth : ℕ) (initial ts r : List Token) (t s u : Shown) (base : ℕ) (rises : Bool)
    (old all : List Named) (i : Item) → read_key ts ≡ Some (None, r)
    → ((n : ℕ) (ms : List (List ℕ × Value)) → (rises ≡ true → names_rise (keys_of ms) ≡ true)
    → all_of (member_with (flat_value n s) s) (drop base all) ≡ Some ms
    → flat_value (suc n) u i ≡ Some (object (members_of (put_all [] ms)))) → Grows s u
    → MembersSoFar depth initial ts t s base rises old all → ReadsFlatMembers depth initial r u i
members_end depth initial ts r t s u base rises old all i over closed more so = record {
  members = put_all [] so.found;
  reads = ahead_members_end depth initial so.rounds ts r (put_all [] so.found) so.enough over
      (ahead-in s.exact u.exact depth initial so.rounds ts (put_all [] so.found) more.exact so.ahead);
  within = so.ahead.short;
  means = closed depth so.found so.rise
      (ap (all_of (member_with (flat_value depth s) s))
      (cut_back base old so.new all so.pushed so.at) ∙ so.mean);
}
