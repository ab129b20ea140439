-- How many of the words of `columns` are queries, as they are gone over.
use Rattle.std.proofs.Common.{◌≡◌, ◌∙◌, ◌+◌, ◌≤◌, ◌<◌, ℕ, true, false, List, [], ◌∷◌, length, drop, map}
use Rattle.std.proofs.Common.{Bor, ap, arith, refl, slice_index_or, sym}
use Rattle.std.specs.List.{prefix_len}
use Rattle.std.proofs.lemmas.List.{get_or-map, length-map}
use Rattle.std.proofs.lemmas.List.Sums.{prefix_len-drop_all, prefix_len-drop_no, prefix_len-drop_yes}
use Rattle.clap.specs.Words.{Text}
use Rattle.jp_lines.specs.CommandLine.{begins_query, query_count}

-- the first so many of the words, where there is one, are queries, and those behind are counted on
abbrev pub CountsOn : List Text → ℕ → Type 0
CountsOn words place =
    1 ≤ length words → query_count words ≡ place + prefix_len begins_query (drop place words)

pub counts-on_first : (words : List Text) → CountsOn words 1
counts-on_first [] some = absurd (omega arith)
counts-on_first (first ∷ rest) some = omega arith

-- of texts that are lent
module _ (lent : List (Bor Text)) where
  abbrev pub words : List Text
  words = map (λ w. w.now) lent

  at-place : (place : ℕ) (d : Bor Text) → place < length lent
      → begins_query (slice_index_or words place []) ≡ begins_query (slice_index_or lent place d).now
  at-place place d within = ap begins_query (get_or-map (λ w. w.now) lent place d [] within)

  pub counts-on_next : (place : ℕ) (d : Bor Text) → place < length lent
      → true ≡ begins_query (slice_index_or lent place d).now → CountsOn words place
      → CountsOn words (place + 1)
  counts-on_next place d within is so_far some =
      let long = length-map lent (λ w. w.now) in
      let on = prefix_len-drop_yes begins_query words place [] (omega arith)
      (at-place place d within ∙ sym is) in
      omega (arith, so_far some, on)

  pub counts_to : (place : ℕ) (d : Bor Text) → place < length lent
      → false ≡ begins_query (slice_index_or lent place d).now → CountsOn words place
      → place ≡ query_count words
  counts_to place d within is so_far =
      let long = length-map lent (λ w. w.now) in
      let none = prefix_len-drop_no begins_query words place [] (omega arith)
      (at-place place d within ∙ sym is) in
      omega (arith, so_far (omega arith), none)

-- all are queries
pub counts_all : (lent : List (Bor Text)) (place : ℕ) → length lent ≤ place
    → (1 ≤ length lent → place ≤ length lent) → CountsOn (map (λ w. w.now) lent) place
    → length lent ≡ query_count (map (λ w. w.now) lent)
counts_all [] place past within so_far = refl
counts_all (first ∷ rest) place past within so_far =
    let words = map (λ w. w.now) (first ∷ rest) in
    let long = length-map (first ∷ rest) (λ w. w.now) in
    let none = prefix_len-drop_all begins_query words place (omega arith) in
    let inside = within (omega arith) in
    omega (arith, so_far (omega arith), none)
