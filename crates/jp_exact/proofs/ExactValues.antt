-- What the grammar of JSON reads has a value, numbers exactly as the text writes them: for all that is
-- said of the value of a text.
use Rattle.std.proofs.Common.{◌≡◌, ℕ, List, [], Some, refl, ap, ◌∙◌, option_map, option_and_then}
use Rattle.std.specs.BTreeMap.{insert_entry}
use Rattle.json.specs.Json as json
use Rattle.jp_document.specs.NumberTexts.{exact_number}
use Rattle.jp_document.specs.OfJson.{items_of_json, members_of_json, value_of_json}
use Rattle.jp_document.specs.Value.{Value, item, list, members_of, object}
use Rattle.jp_document.proofs.Members.ByName.{bytes_cmp}
use Rattle.jp_exact.specs.Private.ExactValue.{items_in, members_in, value_in}

mutual
  pub value_in-is : (j : json.Json) → value_of_json exact_number j ≡ Some (value_in j)
  value_in-is json.null = refl
  value_in-is (json.boolean b) = refl
  value_in-is (json.number s) = refl
  value_in-is (json.string s) = refl
  value_in-is (json.array js) = ap (option_map list) (items_in-is js)
  value_in-is (json.object ms) =
      ap (option_map (λ found. object (members_of found))) (members_in-is ms [])

  items_in-is : (js : json.Items) → items_of_json exact_number js ≡ Some (items_in js)
  items_in-is json.no_items = refl
  items_in-is (json.item j js) =
      ap (option_and_then (λ v. option_map (item v) (items_of_json exact_number js))) (value_in-is j)
      ∙ ap (option_map (item (value_in j))) (items_in-is js)

  members_in-is : (ms : json.Members) (found : List (List ℕ × Value))
      → members_of_json exact_number ms found ≡ Some (members_in ms found)
  members_in-is json.no_members found = refl
  members_in-is (json.member k j ms) found =
      ap
      (option_and_then (λ v. members_of_json exact_number ms (insert_entry bytes_cmp found k v)))
      (value_in-is j) ∙ members_in-is ms (insert_entry bytes_cmp found k (value_in j))
