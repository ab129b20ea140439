-- A reading turned into a value, part by part: for the loops of `json_of`.
use Rattle.std.proofs.Common.{◌≡◌, ℕ, List, [], ◌∷◌, ◌++◌}
use Rattle.std.proofs.Common.{length, map, Some, String, Global}
use Rattle.std.proofs.Common.{string_bytes, string_cmp, refl}
use Rattle.std.proofs.Common.{sym, ap, subst, ◌∙◌, append_assoc, append-nil, add-one}
use Rattle.std.specs.List.Sorted.{IsStrictlySortedBy}
use Rattle.std.specs.Map.{keys_of}
use Rattle.std.specs.Option.{option_map, option_and_then}
use Rattle.std.proofs.lemmas.List.{map-append, length_push}
use Rattle.std.proofs.lemmas.Map.Keys.{sorted_head, sorted_tail}
use Rattle.serde_json.specs.Data as parsed
use Rattle.serde_json.specs.Data.{Data}
use Rattle.serde_json.specs.View.{view, items_view, members_view}
use Rattle.serde_json.specs.declared.value.Value.{Value as Reading}
use Rattle.jp_document.specs.Document.{value_of_data, items_of_data, members_of_data}
use Rattle.jp_document.specs.Document.{data_items_from, data_members, IsFirstFraction}
use Rattle.jp_document.specs.Location.{named, nth, Location}
use Rattle.jp_document.specs.Value.{Value, item, items_of, member, members_of}
use Rattle.jp_document.specs.Value.{value_of, member_of}
use Rattle.jp_document.specs.declared.value.Json.{Json}
use Rattle.jp_document.specs.declared.value.Member.{Member}
use Rattle.jp_document.proofs.Readings.Above.{IsAbove-items, IsAbove-view}
use Rattle.jp_document.proofs.Readings.Fractions.{IsFirstIn}
use Rattle.jp_document.proofs.Readings.Fractions.{skipped, hit, IsFirstFraction-inside}

abbrev Entry : Type 0
Entry = String Global × Reading

-- ---- items

pub record ItemsSoFar (all rest : List Reading) (found : List Json) : Type 0 where
  pub value : (ws : List Value) → items_of_data (items_view rest) ≡ Some (items_of ws)
      → items_of_data (items_view all) ≡ Some (items_of (map value_of found ++ ws))
  pub first : (l : Location) → IsFirstIn (data_items_from (length found) (items_view rest)) l
      → IsFirstIn (data_items_from 0 (items_view all)) l

items_of_data-item : (d : Data) (v : Value) (ds : parsed.Items) (ws : List Value)
    → value_of_data d ≡ Some v → items_of_data ds ≡ Some (items_of ws)
    → items_of_data (parsed.item d ds) ≡ Some (items_of (v ∷ ws))
items_of_data-item d v ds ws here later =
    ap (option_and_then (λ w. option_map (item w) (items_of_data ds))) here
    ∙ ap (option_map (item v)) later

pub items_more : (all rest : List Reading) (found : List Json) (x : Reading) (j : Json)
    → value_of_data (view x) ≡ Some (value_of j) → ItemsSoFar all (x ∷ rest) found
    → ItemsSoFar all rest (found ++ j ∷ [])
items_more all rest found x j here so = record {
  value =
      λ ws is. so.value (value_of j ∷ ws)
      (items_of_data-item (view x) (value_of j) (items_view rest) ws here is)
      ∙ ap (λ vs. Some (items_of vs))
      (sym
      (ap (λ vs. vs ++ ws) (map-append value_of found (j ∷ []))
      ∙ append_assoc (map value_of found) (value_of j ∷ []) ws));
  first =
      λ l is. so.first l
      (skipped (nth (length found)) (view x) (value_of j) _ l here
      (IsAbove-items (length found) (items_view rest))
      (subst (λ n. IsFirstIn (data_items_from n (items_view rest)) l)
      (length_push found j ∙ add-one (length found)) is));
}

pub items_stop : (all rest : List Reading) (found : List Json) (x : Reading) (l : Location)
    → IsFirstFraction (view x) l → ItemsSoFar all (x ∷ rest) found
    → IsFirstFraction (parsed.array (items_view all)) (nth (length found) ∷ l)
items_stop all rest found x l first so =
    IsFirstFraction-inside (parsed.array (items_view all)) (nth (length found) ∷ l) (λ y is. cc)
    (so.first (nth (length found) ∷ l)
    (hit (nth (length found)) (view x) _ l (IsAbove-items (length found) (items_view rest))
    first))

pub items_end : (all : List Reading) (found : List Json) → ItemsSoFar all [] found
    → items_of_data (items_view all) ≡ Some (items_of (map value_of found))
items_end all found so =
    so.value [] refl ∙ ap (λ vs. Some (items_of vs)) (append-nil (map value_of found))

-- ---- members

pub record MembersSoFar (all rest : List Entry) (found : List Member) : Type 0 where
  pub value : (ws : List (List ℕ × Value))
      → members_of_data (members_view rest) ≡ Some (members_of ws)
      → members_of_data (members_view all) ≡ Some (members_of (map member_of found ++ ws))
  pub first : (l : Location) → IsFirstIn (data_members (members_view rest)) l
      → IsFirstIn (data_members (members_view all)) l
  pub sorted : IsStrictlySortedBy string_cmp (keys_of rest)

members_of_data-member : (n : List ℕ) (d : Data) (v : Value) (ms : parsed.Members)
    (ws : List (List ℕ × Value)) → value_of_data d ≡ Some v
    → members_of_data ms ≡ Some (members_of ws)
    → members_of_data (parsed.member n d ms) ≡ Some (members_of ((n, v) ∷ ws))
members_of_data-member n d v ms ws here later =
    ap (option_and_then (λ w. option_map (member n w) (members_of_data ms))) here
    ∙ ap (option_map (member n v)) later

pub members_more : (all rest : List Entry) (found : List Member) (e : Entry) (m : Member)
    (v : Value) → member_of m ≡ (string_bytes e.0, v) → value_of_data (view e.1) ≡ Some v
    → MembersSoFar all (e ∷ rest) found → MembersSoFar all rest (found ++ m ∷ [])
members_more all rest found e m v is here so =
    let p : List ℕ × Value = (string_bytes e.0, v) in
    let pushed : map member_of (found ++ m ∷ []) ≡ map member_of found ++ p ∷ [] =
    map-append member_of found (m ∷ []) ∙ ap (λ q. map member_of found ++ q ∷ []) is in
    record {
      value =
          λ ws later. so.value (p ∷ ws)
          (members_of_data-member (string_bytes e.0) (view e.1) v
          (members_view rest) ws here later)
          ∙ ap (λ ps. Some (members_of ps))
          (sym (ap (λ ps. ps ++ ws) pushed ∙ append_assoc (map member_of found) (p ∷ []) ws));
      first =
          λ l later. so.first l
          (skipped (named (string_bytes e.0)) (view e.1) v _ l here
          (IsAbove-view e.0 rest (sorted_head string_cmp e.0 (keys_of rest) so.sorted))
          later);
      sorted = sorted_tail string_cmp e.0 (keys_of rest) so.sorted;
    }

pub members_stop : (all rest : List Entry) (found : List Member) (e : Entry) (l : Location)
    → IsFirstFraction (view e.1) l → MembersSoFar all (e ∷ rest) found
    → IsFirstFraction (parsed.object (members_view all)) (named (string_bytes e.0) ∷ l)
members_stop all rest found e l first so =
    IsFirstFraction-inside (parsed.object (members_view all)) (named (string_bytes e.0) ∷ l)
    (λ y is. cc)
    (so.first (named (string_bytes e.0) ∷ l)
    (hit (named (string_bytes e.0)) (view e.1) _ l
    (IsAbove-view e.0 rest (sorted_head string_cmp e.0 (keys_of rest) so.sorted)) first))

pub members_end : (all : List Entry) (found : List Member) → MembersSoFar all [] found
    → members_of_data (members_view all) ≡ Some (members_of (map member_of found))
members_end all found so =
    so.value [] refl ∙ ap (λ ps. Some (members_of ps)) (append-nil (map member_of found))
