-- Whatever items and members are to come, they complete those that were read, of which some are kept:
-- for the loops of `picked_items` and `picked_members`.
use Rattle.std.proofs.Common.{◌≡◌, ◌+◌, ◌-◌, ◌^◌, ◌<◌, ◌≤◌, ◌++◌, ℕ, suc, Bool, true, false, List, []}
use Rattle.std.proofs.Common.{◌∷◌, Some, None, length, drop, map, refl, sym, ap, subst, ◌∙◌}
use Rattle.std.proofs.Common.{arith, append_assoc, append-nil, option_map, option_and_then}
use Rattle.std.specs.BTreeMap.{insert_entry}
use Rattle.std.specs.Map.{keys_of}
use Rattle.std.proofs.lemmas.List.{length-append, length-map, map-append}
use Rattle.json.specs.Json.{after_end_array, read_key}
use Rattle.json.specs.Token.{Token}
use Rattle.jp_document.specs.Value.{Value, everywhere, items_of, list, members_of}
use Rattle.jp_flat.specs.Private.Bounded.{is_bounded}
use Rattle.jp_document.specs.Value.{names_rise, object}
use Rattle.jp_document.proofs.Members.ByName.{bytes_cmp, names_of-members_of}
use Rattle.jp_flat.specs.Asked.{with_items_of, with_members}
use Rattle.jp_flat.specs.Flat.{Grows, Shown, all_of, flat_value, member_with, text_at}
use Rattle.jp_flat.specs.Private.FromTokens.{ReadsValue}
use Rattle.jp_flat.specs.Private.Kept.{KeepsFlat, KeepsFlatItems, KeepsFlatMembers}
use Rattle.jp_flat.specs.Private.Reading.{BeginsValues, IsAboveLast, IsTheListOf, ReadsFlat, put_all}
use Rattle.jp_flat.specs.declared.item.Item.{Item}
use Rattle.jp_flat.specs.declared.item.Named.{Named}
use Rattle.jp_flat.proofs.Ahead.{MembersAhead, ahead-in, ahead_member, ahead_members_end}
use Rattle.jp_flat.proofs.Growth.{all_of_grows, all_of_push, grows_on, grows_same, length-all_of}
use Rattle.jp_flat.proofs.Growth.{member_grows, text_grows, value_grows}
use Rattle.jp_flat.proofs.Loops.{begins-in, cut_back, few_fit, values_end, values_more, values_none}
use Rattle.jp_flat.proofs.Names.{Pair, put_all-push, rise-push}
use Rattle.jp_flat.proofs.Picked.{items_with-items_of, members_named-members_of, pairs_named}
use Rattle.jp_flat.proofs.Picked.{put-named, put-unnamed}
use Rattle.jp_document.specs.NumberTexts.{numbers_of}

-- ---- items

-- the items so far, which stand behind the old ones, and the items to come
pub record ItemsPicked (p : List ℕ → Bool) (depth : ℕ) (initial ts : List Token) (now : Shown)
    (base : ℕ) (old all : List Item) : Type 0 where
  pub new : List Item
  pub values : List Value
  pub begins : BeginsValues (numbers_of now.exact) depth initial ts values
  pub mean : all_of (flat_value depth now) new ≡ Some (map (with_members p) values)
  pub pushed : all ≡ old ++ new
  pub at : base ≡ length old

pub items-begin : (p : List ℕ → Bool) (depth : ℕ) (ts : List Token) (t : Shown) (base : ℕ)
    (old : List Item) → base ≡ length old → ItemsPicked p depth ts ts t base old old
items-begin p depth ts t base old at = record {
  new = [];
  values = [];
  begins = values_none depth ts;
  mean = refl;
  pushed = sym (append-nil old);
  at = at;
}

pub items-more : (p : List ℕ → Bool) (depth : ℕ) (initial ts r : List Token) (s u : Shown)
    (base : ℕ) (old all : List Item) (i : Item) → length r < length ts → Grows s u
    → KeepsFlat (λ v w. w ≡ with_members p v) depth ts r u i
    → ItemsPicked p depth initial ts s base old all
    → ItemsPicked p depth initial r u base old (all ++ i ∷ [])
items-more p depth initial ts r s u base old all i less more x so = record {
  new = so.new ++ i ∷ [];
  values = so.values ++ x.value ∷ [];
  begins =
      values_more depth initial ts r so.values x.value less x.reads x.short
      (begins-in s.exact u.exact depth initial ts so.values more.exact so.begins);
  mean =
      all_of_push (flat_value depth u) so.new (map (with_members p) so.values) i (with_members p x.value)
      (all_of_grows (flat_value depth s) (flat_value depth u) so.new (map (with_members p) so.values)
      (value_grows depth s u more) so.mean) (x.means ∙ ap Some x.keeps)
      ∙ ap Some (sym (map-append (with_members p) so.values (x.value ∷ [])));
  pushed = ap (λ xs. xs ++ i ∷ []) so.pushed ∙ append_assoc old so.new (i ∷ []);
  at = so.at;
}

pub items-end : (p : List ℕ → Bool) (depth : ℕ) (initial ts r : List Token) (s u : Shown) (base : ℕ)
    (old all : List Item) (i : Item) → after_end_array ts ≡ Some r → length all < base + 2 ^ 32
    → IsTheListOf (drop base all) s u i → Grows s u → ItemsPicked p depth initial ts s base old all
    → KeepsFlatItems (λ v w. w ≡ with_items_of p v) depth initial r u i
items-end p depth initial ts r s u base old all i over few closed more so =
    let back = cut_back base old so.new all so.pushed so.at in
    let kept = map (with_members p) so.values in
    record {
      values = so.values;
      kept = list (items_of kept);
      reads =
          values_end depth initial ts r so.values over
          (begins-in s.exact u.exact depth initial ts so.values more.exact so.begins);
      within = so.begins.short;
      short =
          few_fit so.values
          (omega (
            arith,
            few,
            so.at,
            ap length so.pushed,
            length-append old so.new,
            length-all_of (flat_value depth s) so.new kept so.mean,
            length-map so.values (with_members p),
          ));
      keeps = ap list (sym (items_with-items_of p so.values));
      means =
          subst (λ xs. IsTheListOf xs s u i) back closed depth kept so.mean;
    }

-- ---- members

-- the members so far, of which those that are kept stand behind the old ones, and those to come
pub record MembersPicked (p : List ℕ → Bool) (depth : ℕ) (initial ts : List Token)
    (before now : Shown) (base : ℕ) (rises : Bool) (old all : List Named) : Type 0 where
  pub rounds : ℕ
  pub enough : length ts ≤ rounds
  pub shorter : length ts ≤ length initial
  pub read : List Pair
  pub ahead : MembersAhead (numbers_of now.exact) depth initial rounds ts read
  pub found : List Pair
  pub kept : put_all [] found ≡ pairs_named p read
  pub new : List Named
  pub mean : all_of (member_with (flat_value depth now) now) new ≡ Some found
  pub pushed : all ≡ old ++ new
  pub at : base ≡ length old
  pub rise : rises ≡ true → names_rise (keys_of found) ≡ true
  pub grows : Grows before now

pub members-begin : (p : List ℕ → Bool) (depth : ℕ) (ts : List Token) (t : Shown) (base : ℕ)
    (old : List Named) → base ≡ length old → MembersPicked p depth ts ts t t base true old old
members-begin p depth ts t base old at = record {
  rounds = length ts;
  enough = omega arith;
  shorter = omega arith;
  read = [];
  ahead = record { ahead = refl; rise = refl; short = refl };
  found = [];
  kept = refl;
  new = [];
  mean = refl;
  pushed = sym (append-nil old);
  at = at;
  rise = λ r. refl;
  grows = grows_same t;
}

-- the values that were found so far stay, in tables that grow
found-stay : (depth : ℕ) (s u : Shown) (new : List Named) (found : List Pair) → Grows s u
    → all_of (member_with (flat_value depth s) s) new ≡ Some found
    → all_of (member_with (flat_value depth u) u) new ≡ Some found
found-stay depth s u new found more mean =
    all_of_grows (member_with (flat_value depth s) s) (member_with (flat_value depth u) u) new found
    (member_grows (flat_value depth s) (flat_value depth u) s u more (value_grows depth s u more))
    mean

-- a member that is kept
pub members_more : (p : List ℕ → Bool) (depth : ℕ) (initial ts a r : List Token)
    (t s w x u : Shown) (base : ℕ) (rises still : Bool) (old all : List Named) (name : List ℕ)
    (m : Named) → read_key ts ≡ Some (Some name, a) → p name ≡ true → length r < length ts
    → ReadsFlat depth a r u m.item → text_at x m.name ≡ Some name → Grows s w → Grows w x
    → Grows x u → (still ≡ true → rises ≡ true)
    → (still ≡ true → IsAboveLast w (drop base all) name)
    → MembersPicked p depth initial ts t s base rises old all
    → MembersPicked p depth initial r t u base still old (all ++ m ∷ [])
members_more p depth initial ts a r t s w x u base rises still old all name m key picked less y at
    one two three rose above so =
    let later = grows_on w x u two three in
    let more = grows_on s w u one later in
    let e : Pair = (name, y.value) in
    let here : member_with (flat_value depth u) u m ≡ Some e =
    ap (option_and_then (λ k. option_map (λ v. (k, v)) (flat_value depth u m.item)))
    (text_grows x u m.name name three at) ∙ ap (option_map (λ v. (name, v))) y.means in
    record {
      rounds = so.rounds - 1;
      enough = omega (arith, so.enough);
      shorter = omega (arith, so.shorter);
      read = insert_entry bytes_cmp so.read name y.value;
      ahead =
          ahead_member depth initial so.rounds name ts a r so.read y.value
          (omega (arith, so.enough)) key y.reads y.short
          (ahead-in s.exact u.exact depth initial so.rounds ts so.read more.exact so.ahead);
      found = so.found ++ e ∷ [];
      kept =
          put_all-push [] so.found e
          ∙ ap (λ ms. insert_entry bytes_cmp ms name y.value) so.kept
          ∙ put-named p name y.value so.read picked
          (ap names_rise (sym (names_of-members_of so.read)) ∙ so.ahead.rise);
      new = so.new ++ m ∷ [];
      mean =
          all_of_push (member_with (flat_value depth u) u) so.new so.found m e
          (found-stay depth s u so.new so.found more so.mean) here;
      pushed = ap (λ xs. xs ++ m ∷ []) so.pushed ∙ append_assoc old so.new (m ∷ []);
      at = so.at;
      rise = λ is.
          rise-push w so.new so.found name y.value (flat_value depth w)
          (found-stay depth s w so.new so.found one so.mean) (so.rise (rose is))
          (subst (λ ms. IsAboveLast w ms name)
          (cut_back base old so.new all so.pushed so.at) (above is));
      grows = grows_on t s u so.grows more;
    }

-- a member that is left out
pub members_past : (p : List ℕ → Bool) (depth : ℕ) (initial ts a r : List Token) (t s w u : Shown)
    (base : ℕ) (rises : Bool) (old all : List Named) (name : List ℕ) (v : Value)
    → read_key ts ≡ Some (Some name, a) → p name ≡ false → length r < length ts
    → ReadsValue (numbers_of u.exact) depth a r v → everywhere is_bounded v ≡ true → Grows s w → Grows w u
    → MembersPicked p depth initial ts t s base rises old all
    → MembersPicked p depth initial r t u base rises old all
members_past p depth initial ts a r t s w u base rises old all name v key dropped less x short one
    two so =
    let more = grows_on s w u one two in
    record {
      rounds = so.rounds - 1;
      enough = omega (arith, so.enough);
      shorter = omega (arith, so.shorter);
      read = insert_entry bytes_cmp so.read name v;
      ahead =
          ahead_member depth initial so.rounds name ts a r so.read v (omega (arith, so.enough)) key x
          short (ahead-in s.exact u.exact depth initial so.rounds ts so.read more.exact so.ahead);
      found = so.found;
      kept = so.kept ∙ put-unnamed p name v so.read dropped;
      new = so.new;
      mean = found-stay depth s u so.new so.found more so.mean;
      pushed = so.pushed;
      at = so.at;
      rise = so.rise;
      grows = grows_on t s u so.grows more;
    }

pub members-end : (p : List ℕ → Bool) (depth : ℕ) (initial ts r : List Token) (t s u : Shown)
    (base : ℕ) (rises : Bool) (old all : List Named) (i : Item) → read_key ts ≡ Some (None, r)
    → ((n : ℕ) (ms : List Pair) → (rises ≡ true → names_rise (keys_of ms) ≡ true)
    → all_of (member_with (flat_value n s) s) (drop base all) ≡ Some ms
    → flat_value (suc n) u i ≡ Some (object (members_of (put_all [] ms)))) → Grows s u
    → MembersPicked p depth initial ts t s base rises old all
    → KeepsFlatMembers (λ v w. w ≡ with_members p v) depth initial r u i
members-end p depth initial ts r t s u base rises old all i over closed more so = record {
  members = so.read;
  kept = object (members_of (put_all [] so.found));
  reads = ahead_members_end depth initial so.rounds ts r so.read so.enough over
      (ahead-in s.exact u.exact depth initial so.rounds ts so.read more.exact so.ahead);
  within = so.ahead.short;
  keeps =
      ap (λ ms. object (members_of ms)) so.kept
      ∙ ap object (sym (members_named-members_of p so.read));
  means = closed depth so.found so.rise
      (ap (all_of (member_with (flat_value depth s) s))
      (cut_back base old so.new all so.pushed so.at) ∙ so.mean);
}
