-- Whatever members are to come, they complete what was read and what was kept: for the loop of
-- `thin_members`.
use Rattle.std.proofs.Common.{Option, ◌≡◌, ◌-◌, ◌<◌, ◌≤◌, ◌++◌, ℕ, suc, Bool, true, false, List, []}
use Rattle.std.proofs.Common.{◌∷◌, Some, None, length, drop, refl, sym, ap, subst, ◌∙◌, arith}
use Rattle.std.proofs.Common.{◌⊎◌, inl, inr, not, append_assoc, append-nil, option_map, option_and_then}
use Rattle.std.specs.BTreeMap.{insert_entry}
use Rattle.std.specs.Map.{keys_of}
use Rattle.std.proofs.lemmas.List.{length-append}
use Rattle.json.specs.Json.{read_key}
use Rattle.json.specs.Token.{Token}
use Rattle.std.proofs.lemmas.Option.{same_Some}
use Rattle.json.proofs.Grammar.{read_key-shorter}
use Rattle.jp_document.specs.Value.{Value, everywhere}
use Rattle.jp_flat.specs.Private.Bounded.{is_bounded}
use Rattle.jp_document.specs.Value.{members_of, names_rise, object}
use Rattle.jp_document.proofs.Members.ByName.{bytes_cmp, names_of-members_of}
use Rattle.jp_flat.specs.Asked.{IsThinned, is_leaf, is_name}
use Rattle.jp_flat.specs.Asked.IsThinned.{in_object}
use Rattle.jp_flat.specs.Flat.{Grows, Shown, all_of, flat_value, member_with, text_at}
use Rattle.jp_flat.specs.Private.FromTokens.{ReadsValue}
use Rattle.jp_flat.specs.Private.Kept.{IsBare, IsKeptNamed, IsLeftOut, IsMemberKept, IsPushed}
use Rattle.jp_flat.specs.Private.Kept.{IsSaidOther, KeepsFlat, KeepsFlatMembers}
use Rattle.jp_flat.specs.Private.Reading.{IsAboveLast}
use Rattle.jp_flat.specs.Private.Reading.{ReadsFlat, put_all}
use Rattle.jp_flat.specs.Private.Tokens.{ReadsName, said}
use Rattle.jp_flat.specs.declared.item.Item.{Item}
use Rattle.jp_flat.specs.declared.item.Named.{Named}
use Rattle.jp_flat.specs.declared.token.Spelled.{Spelled}
use Rattle.jp_flat.proofs.Ahead.{MembersAhead, ahead-in, ahead_member, ahead_members_end}
use Rattle.jp_flat.proofs.Growth.{all_of_grows, all_of_push, grows_on, grows_same}
use Rattle.jp_flat.proofs.Growth.{member_grows, value_grows}
use Rattle.jp_flat.proofs.Loops.{above_said, cut_back}
use Rattle.jp_flat.proofs.Names.{Pair, put_all-push, rise-push}
use Rattle.jp_flat.proofs.Thinned.{LeavesPairs, leaves-members, put-both, put-left}
use Rattle.jp_flat.proofs.Thinned.LeavesPairs.{none}
use Rattle.jp_document.specs.NumberTexts.{numbers_of}

-- the members so far, with what is kept of them behind the old ones, and the members to come
pub record KeptMembers (n : List ℕ) (depth : ℕ) (initial ts : List Token) (before now : Shown)
    (base : ℕ) (rises : Bool) (old all : List Named) : Type 0 where
  pub rounds : ℕ
  pub enough : length ts ≤ rounds
  pub shorter : length ts ≤ length initial
  pub found : List Pair
  pub ahead : MembersAhead (numbers_of now.exact) depth initial rounds ts (put_all [] found)
  pub kept : List Pair
  pub less : LeavesPairs n (put_all [] found) (put_all [] kept)
  pub new : List Named
  pub mean : all_of (member_with (flat_value depth now) now) new ≡ Some kept
  pub pushed : all ≡ old ++ new
  pub at : base ≡ length old
  pub rise : rises ≡ true → names_rise (keys_of kept) ≡ true
  pub grows : Grows before now

pub kept_members-begin : (n : List ℕ) (depth : ℕ) (ts : List Token) (t : Shown) (base : ℕ)
    (old : List Named) → base ≡ length old → KeptMembers n depth ts ts t t base true old old
kept_members-begin n depth ts t base old at = record {
  rounds = length ts;
  enough = omega arith;
  shorter = omega arith;
  found = [];
  ahead = record { ahead = refl; rise = refl; short = refl };
  kept = [];
  less = none;
  new = [];
  mean = refl;
  pushed = sym (append-nil old);
  at = at;
  rise = λ r. refl;
  grows = grows_same t;
}

found-rise : {N : List ℕ → Option Value} (depth : ℕ) (initial : List Token) (n : ℕ) (ts : List Token) (found : List Pair)
    → MembersAhead N depth initial n ts found → names_rise (keys_of found) ≡ true
found-rise depth initial n ts found so =
    ap names_rise (sym (names_of-members_of found)) ∙ so.rise

-- a member of which something is kept: its value is read in the tables w, its name then in u
pub kept_members-more : (n : List ℕ) (depth : ℕ) (initial ts a r : List Token) (t s w u : Shown)
    (base : ℕ) (rises still : Bool) (old all : List Named) (name : List ℕ) (m : Named)
    → read_key ts ≡ Some (Some name, a) → length r < length ts
    → KeepsFlat (IsKeptNamed n name) depth a r w m.item → text_at u m.name ≡ Some name
    → Grows s w → Grows w u → (still ≡ true → rises ≡ true)
    → (still ≡ true → IsAboveLast w (drop base all) name)
    → KeptMembers n depth initial ts t s base rises old all
    → KeptMembers n depth initial r t u base still old (all ++ m ∷ [])
kept_members-more n depth initial ts a r t s w u base rises still old all name m key less x at one two
    rose above so =
    let f = λ (v : Shown). member_with (flat_value depth v) v in
    let in_w : all_of (f w) so.new ≡ Some so.kept =
    all_of_grows (f s) (f w) so.new so.kept
    (member_grows (flat_value depth s) (flat_value depth w) s w one (value_grows depth s w one))
    so.mean in
    let in_u : all_of (f u) so.new ≡ Some so.kept =
    all_of_grows (f w) (f u) so.new so.kept
    (member_grows (flat_value depth w) (flat_value depth u) w u two (value_grows depth w u two))
    in_w in
    let value : flat_value depth u m.item ≡ Some x.kept =
    value_grows depth w u two m.item x.kept x.means in
    let here : member_with (flat_value depth u) u m ≡ Some (name, x.kept) =
    ap (option_and_then (λ k. option_map (λ v. (k, v)) (flat_value depth u m.item))) at
    ∙ ap (option_map (λ v. (name, v))) value in
    let both =
    put-both n name x.value x.kept (put_all [] so.found) (put_all [] so.kept)
    (found-rise depth initial so.rounds ts (put_all [] so.found) so.ahead) x.keeps so.less in
    record {
      rounds = so.rounds - 1;
      enough = omega (arith, so.enough);
      shorter = omega (arith, so.shorter);
      found = so.found ++ (name, x.value) ∷ [];
      ahead =
          ahead-in w.exact u.exact depth initial (so.rounds - 1) r
          (put_all [] (so.found ++ (name, x.value) ∷ [])) two.exact
          (subst (MembersAhead (numbers_of w.exact) depth initial (so.rounds - 1) r)
          (sym (put_all-push [] so.found (name, x.value)))
          (ahead_member depth initial so.rounds name ts a r (put_all [] so.found) x.value
          (omega (arith, so.enough)) key x.reads x.short
          (ahead-in s.exact w.exact depth initial so.rounds ts (put_all [] so.found) one.exact
          so.ahead)));
      kept = so.kept ++ (name, x.kept) ∷ [];
      less =
          subst (λ ms. LeavesPairs n ms (put_all [] (so.kept ++ (name, x.kept) ∷ [])))
          (sym (put_all-push [] so.found (name, x.value)))
          (subst (LeavesPairs n (insert_entry bytes_cmp (put_all [] so.found) name x.value))
          (sym (put_all-push [] so.kept (name, x.kept))) both);
      new = so.new ++ m ∷ [];
      mean = all_of_push (f u) so.new so.kept m (name, x.kept) in_u here;
      pushed = ap (λ xs. xs ++ m ∷ []) so.pushed ∙ append_assoc old so.new (m ∷ []);
      at = so.at;
      rise = λ is.
          rise-push w so.new so.kept name x.kept (flat_value depth w) in_w (so.rise (rose is))
          (subst (λ ms. IsAboveLast w ms name)
          (cut_back base old so.new all so.pushed so.at) (above is));
      grows = grows_on t s u so.grows (grows_on s w u one two);
    }

nothing : {A : Type 0} (old new : List A) → length (old ++ new) ≡ length old → new ≡ []
nothing old [] same = refl
nothing old (x ∷ new) same = absurd (omega (arith, same, length-append old (x ∷ new)))

-- a member that is left out, where none is kept
pub kept_members-left : (n : List ℕ) (depth : ℕ) (initial ts a r : List Token) (t s w : Shown)
    (base : ℕ) (rises still : Bool) (old all : List Named) (name : List ℕ) (v : Value)
    → read_key ts ≡ Some (Some name, a) → length r < length ts → ReadsValue (numbers_of w.exact) depth a r v
    → everywhere is_bounded v ≡ true → is_name n name ≡ false → is_leaf v ≡ true
    → Grows s w → length all ≡ base → still ≡ rises
    → KeptMembers n depth initial ts t s base rises old all
    → KeptMembers n depth initial r t w base still old all
kept_members-left n depth initial ts a r t s w base rises still old all name v key less x short other
    leaf more alone same so =
    let empty : so.new ≡ [] =
    nothing old so.new (ap length (sym so.pushed) ∙ alone ∙ so.at) in
    let bare : so.kept ≡ [] =
    sym (same_Some [] so.kept
    (ap (all_of (member_with (flat_value depth s) s)) (sym empty) ∙ so.mean)) in
    let left =
    put-left n name v (put_all [] so.found) other leaf
    (subst (λ ks. LeavesPairs n (put_all [] so.found) (put_all [] ks)) bare so.less) in
    record {
      rounds = so.rounds - 1;
      enough = omega (arith, so.enough);
      shorter = omega (arith, so.shorter);
      found = so.found ++ (name, v) ∷ [];
      ahead =
          subst (MembersAhead (numbers_of w.exact) depth initial (so.rounds - 1) r)
          (sym (put_all-push [] so.found (name, v)))
          (ahead_member depth initial so.rounds name ts a r (put_all [] so.found) v
          (omega (arith, so.enough)) key x short
          (ahead-in s.exact w.exact depth initial so.rounds ts (put_all [] so.found) more.exact
          so.ahead));
      kept = [];
      less =
          subst (λ ms. LeavesPairs n ms []) (sym (put_all-push [] so.found (name, v))) left;
      new = [];
      mean = refl;
      pushed = so.pushed ∙ ap (λ xs. old ++ xs) empty;
      at = so.at;
      rise = λ is. refl;
      grows = grows_on t s w so.grows more;
    }

pub kept_members-end : (n : List ℕ) (depth : ℕ) (initial ts r : List Token) (t s u : Shown) (base : ℕ)
    (rises : Bool) (old all : List Named) (i : Item) → read_key ts ≡ Some (None, r)
    → ((k : ℕ) (ms : List Pair) → (rises ≡ true → names_rise (keys_of ms) ≡ true)
    → all_of (member_with (flat_value k s) s) (drop base all) ≡ Some ms
    → flat_value (suc k) u i ≡ Some (object (members_of (put_all [] ms)))) → Grows s u
    → KeptMembers n depth initial ts t s base rises old all
    → KeepsFlatMembers (IsThinned n) depth initial r u i
kept_members-end n depth initial ts r t s u base rises old all i over closed more so = record {
  members = put_all [] so.found;
  kept = object (members_of (put_all [] so.kept));
  reads = ahead_members_end depth initial so.rounds ts r (put_all [] so.found) so.enough over
      (ahead-in s.exact u.exact depth initial so.rounds ts (put_all [] so.found) more.exact so.ahead);
  within = so.ahead.short;
  keeps = in_object (members_of (put_all [] so.found)) (members_of (put_all [] so.kept))
      (leaves-members n (put_all [] so.found) (put_all [] so.kept) so.less);
  means = closed depth so.kept so.rise
      (ap (all_of (member_with (flat_value depth s) s))
      (cut_back base old so.new all so.pushed so.at) ∙ so.mean);
}

-- ---- members by the way that their names are spelled

not-true : (b : Bool) → not b ≡ true → b ≡ false
not-true true is = absurd (cc)
not-true false is = refl

-- of a leaf all is kept, and its member is spare if its name is another one
pub leaf-kept : (n : List ℕ) (name : Spelled) (may : Bool) (depth : ℕ) (ts r : List Token) (t : Shown)
    (i : Item) → ReadsFlat depth ts r t i → IsBare t i → (may ≡ false → IsSaidOther n name)
    → KeepsFlat (IsMemberKept n name (not may)) depth ts r t i
leaf-kept n name may depth ts r t i x bare told = record {
  value = x.value;
  kept = x.value;
  reads = x.reads;
  short = x.short;
  keeps = record {
    keeps = λ k says. inl refl;
    missing = λ is. (told (not-true may is), bare depth x.value x.means);
  };
  means = x.means;
}

-- a member is put or left out
pub kept_members-put : (n : List ℕ) (depth : ℕ) (initial ts a r : List Token) (t s w u : Shown)
    (base : ℕ) (rises still spare : Bool) (old all more : List Named) (name : Spelled) (i : Item)
    → ReadsName ts a (Some name) → length r < length a
    → KeepsFlat (IsMemberKept n name spare) depth a r w i → Grows s w → Grows w u
    → IsLeftOut spare rises still base all more ⊎ IsPushed w u name i rises still base all more
    → KeptMembers n depth initial ts t s base rises old all
    → KeptMembers n depth initial r t u base still old more
kept_members-put n depth initial ts a r t s w u base rises still spare old all more name i named short x
    one two (inl left) so =
    let gone = x.keeps.missing left.may_be in
    let k = gone.0.text in
    let key = named k gone.0.says in
    let less = read_key-shorter ts (Some k) a key in
    subst (KeptMembers n depth initial r t u base still old) (sym left.same)
    (kept_members-left n depth initial ts a r t s u base rises still old all k x.value key
    (omega (arith, less, short))
    (subst (λ e. ReadsValue (numbers_of e) depth a r x.value) (sym two.exact) x.reads) x.short
    gone.0.other gone.1 (grows_on s w u one two)
    left.alone left.rise so)
kept_members-put n depth initial ts a r t s w u base rises still spare old all more name i named short x
    one two (inr put) so =
    let k = put.named.text in
    let says = put.named.says in
    let key = named k says in
    let less = read_key-shorter ts (Some k) a key in
    let value : KeepsFlat (IsKeptNamed n k) depth a r w put.member.item =
    subst (KeepsFlat (IsKeptNamed n k) depth a r w) (sym put.item) (record {
      value = x.value;
      kept = x.kept;
      reads = x.reads;
      short = x.short;
      keeps = x.keeps.keeps k says;
      means = x.means;
    }) in
    subst (KeptMembers n depth initial r t u base still old) (sym put.pushed)
    (kept_members-more n depth initial ts a r t s w u base rises still old all k put.member key
    (omega (arith, less, short)) value put.named.there one two put.rose
    (λ is. above_said w (drop base all) (said name) k says (put.above is)) so)
