-- An object that ends behind its first member: for the loop of `members`.
use Rattle.std.proofs.Common.{◌≡◌, ◌<◌, ◌++◌, ℕ, Bool, false, List, [], ◌∷◌, Option, Some, None}
use Rattle.std.proofs.Common.{length, take, refl, sym, ap, subst, ◌∙◌}
use Rattle.std.proofs.Math.Seq.{take-length}
use Rattle.std.proofs.lemmas.Option.{same_Some}
use Rattle.json.specs.Json.{read_key}
use Rattle.json.specs.Token.{Token}
use Rattle.jp_document.specs.Value.{Value, members_of, object}
use Rattle.jp_document.proofs.Options.{some_from_both}
use Rattle.jp_flat.specs.Flat.{Grows, Shown, all_of, flat_value, member_with, text_at}
use Rattle.jp_flat.specs.Private.Reading.{IsObjectOf, ReadsFlat, ReadsFlatMembers, put_all}
use Rattle.jp_flat.specs.declared.item.Item.{Item}
use Rattle.jp_flat.specs.declared.item.Named.{Named}
use Rattle.jp_flat.proofs.Loops.{MembersSoFar, cut_back, cut_front, members_end, members_more}

put-one : (f : Named → Option (List ℕ × Value)) (m : Named) (ms : List (List ℕ × Value))
    → all_of f (m ∷ []) ≡ Some ms → put_all [] ms ≡ ms
put-one f m ms is =
    let h = some_from_both (λ y ys. y ∷ ys) (f m) (Some []) ms is in
    subst (λ ws. put_all [] ws ≡ ws) (ap (λ ys. h.0 ∷ ys) (same_Some [] h.1 h.3) ∙ h.4) refl

-- an object that ends behind its first member, which was not put to the others
pub members_lone : (depth : ℕ) (initial ts a r e : List Token) (t s w u v : Shown) (base : ℕ)
    (rises : Bool) (old all : List Named) (name : List ℕ) (m : Named) (i : Item)
    → read_key ts ≡ Some (Some name, a) → length r < length ts → ReadsFlat depth a r u m.item
    → text_at w m.name ≡ Some name → Grows s w → Grows w u → read_key r ≡ Some (None, e)
    → base ≡ length all → IsObjectOf (m ∷ []) u v i → Grows u v
    → MembersSoFar depth initial ts t s base rises old all → ReadsFlatMembers depth initial e v i
members_lone depth initial ts a r e t s w u v base rises old all name m i key less x at one two over
    alone closed three so =
    members_end depth initial r e t u v base false old (all ++ m ∷ []) i over
    (λ n ms rise is.
    let this : all_of (member_with (flat_value n u) u) (m ∷ []) ≡ Some ms =
    subst (λ xs. all_of (member_with (flat_value n u) u) xs ≡ Some ms)
    (cut_back base all (m ∷ []) (all ++ m ∷ []) refl alone) is in
    closed n ms this
    ∙ ap (λ ws. Some (object (members_of ws)))
    (sym (put-one (member_with (flat_value n u) u) m ms this))) three
    (members_more depth initial ts a r t s w u base rises false old all name m key less x at one two
    (λ never. absurd (cc)) (λ never. absurd (cc)) so)

-- where nothing was put to the old members, they are all there are
pub none-behind : (base : ℕ) (old new all : List Named) → all ≡ old ++ new → base ≡ length old
    → base ≡ length all → all ≡ old
none-behind base old new all pushed at alone =
    sym (take-length all) ∙ ap (λ n. take n all) (sym alone) ∙ cut_front base old new all pushed at
