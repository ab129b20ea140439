-- `equals` answers true exactly where both sides are the same.
use Rattle.std.proofs.Common.{◌≡◌, ℕ, ◌↔◌, ◌&&◌, Bool, true, false, IsTrue, List, Option, Some, None}
use Rattle.std.proofs.Common.{refl, sym, ap, ap₂, ◌∙◌}
use Rattle.std.proofs.lemmas.Bool.{and_parts, and_from}
use Rattle.std.proofs.lemmas.Bool.Decides.{Decides-int_eq}
use Rattle.std.proofs.lemmas.Slice.Eq.{bytes_eq-Decides}
use Rattle.std.specs.Ordering.{int_eq}
use Rattle.std.specs.Str.{bytes_eq}
use Rattle.jp_document.specs.Value.{Value, null, boolean, whole, decimal, text, list, object}
use Rattle.jp_document.specs.Value.{Items, no_items, item, Members, no_members, member}
use Rattle.jp_select.specs.Comparison.{equals, same_value, same_items, same_members}

-- ---- each is the same as itself

same_bytes : (s : List ℕ) → bytes_eq s s ≡ true
same_bytes s = (bytes_eq-Decides s s).1 refl

mutual
  same_itself : (v : Value) → same_value v v ≡ true
  same_itself null = refl
  same_itself (boolean true) = refl
  same_itself (boolean false) = refl
  same_itself (whole z) = (Decides-int_eq z z).1 refl
  same_itself (decimal c e) =
      and_from (int_eq c c) (int_eq e e) ((Decides-int_eq c c).1 refl) ((Decides-int_eq e e).1 refl)
  same_itself (text s) = same_bytes s
  same_itself (list vs) = items_themselves vs
  same_itself (object ms) = members_themselves ms

  items_themselves : (vs : Items) → same_items vs vs ≡ true
  items_themselves no_items = refl
  items_themselves (item v vs) =
      and_from (same_value v v) (same_items vs vs) (same_itself v) (items_themselves vs)

  members_themselves : (ms : Members) → same_members ms ms ≡ true
  members_themselves no_members = refl
  members_themselves (member n v ms) =
      and_from (bytes_eq n n && same_value v v) (same_members ms ms)
      (and_from (bytes_eq n n) (same_value v v) (same_bytes n) (same_itself v))
      (members_themselves ms)

-- ---- and as no other

mutual
  same_is : (v w : Value) → same_value v w ≡ true → v ≡ w
  same_is null null h = refl
  same_is (boolean true) (boolean true) h = refl
  same_is (boolean false) (boolean false) h = refl
  same_is (whole x) (whole y) h = ap whole ((Decides-int_eq x y).0 h)
  same_is (decimal c e) (decimal d f) h =
      let both = and_parts (int_eq c d) (int_eq e f) h in
      ap₂ decimal ((Decides-int_eq c d).0 both.0) ((Decides-int_eq e f).0 both.1)
  same_is (text s) (text t) h = ap text ((bytes_eq-Decides s t).0 h)
  same_is (list vs) (list ws) h = ap list (items_are vs ws h)
  same_is (object ms) (object ns) h = ap object (members_are ms ns h)
  same_is _ _ h = absurd (cc)

  items_are : (vs ws : Items) → same_items vs ws ≡ true → vs ≡ ws
  items_are no_items no_items h = refl
  items_are (item v vs) (item w ws) h =
      let both = and_parts (same_value v w) (same_items vs ws) h in
      ap₂ item (same_is v w both.0) (items_are vs ws both.1)
  items_are _ _ h = absurd (cc)

  members_are : (ms ns : Members) → same_members ms ns ≡ true → ms ≡ ns
  members_are no_members no_members h = refl
  members_are (member m v ms) (member n w ns) h =
      let both = and_parts (bytes_eq m n && same_value v w) (same_members ms ns) h in
      let first = and_parts (bytes_eq m n) (same_value v w) both.0 in
      ap₂ (λ (f : Members → Members) r. f r)
      (ap₂ (λ k u. member k u) ((bytes_eq-Decides m n).0 first.0) (same_is v w first.1))
      (members_are ms ns both.1)
  members_are _ _ h = absurd (cc)

-- ---- with Nothing beside the values

pub equals_itself : (o : Option Value) → equals o o ≡ true
equals_itself None = refl
equals_itself (Some v) = same_itself v

pub equals_is : (o p : Option Value) → equals o p ≡ true → o ≡ p
equals_is None None h = refl
equals_is (Some v) (Some w) h = ap Some (same_is v w h)
equals_is _ _ h = absurd (cc)

pub equals-exact : (o p : Option Value) (r : Bool) → r ≡ equals o p → IsTrue r ↔ (o ≡ p)
equals-exact o p r is =
    (λ h. equals_is o p (sym is ∙ h), λ e. is ∙ sym (ap (equals o) e) ∙ equals_itself o)
