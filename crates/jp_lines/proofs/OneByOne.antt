-- Queries that are read one by one, and the first that is refused.
use Rattle.std.proofs.Common.{ℕ, ◌+◌, ◌<◌, List, [], ◌∷◌, ◌++◌, length, take, drop}
use Rattle.std.proofs.Common.{get_or, map, ap, sym, subst, ◌∙◌, suc, drop-cons}
use Rattle.std.proofs.lemmas.List.{get_or-map, length-map, take-append-drop}
use Rattle.jp_cells.proofs.Joining.{one-more}
use Rattle.jp_check.specs.declared.profile.Profile.{Profile}
use Rattle.jp_command.specs.Run.{IsAsked, RefusesQuery}
use Rattle.jp_command.specs.declared.fault.Fault.TheVariants as fault
use Rattle.jp_command.specs.declared.fault.Fault.TheVariants.{Document, DocumentTooLarge, NoMemory, Read}
use Rattle.jp_command.specs.declared.fault.Fault.TheVariants.{Write}
use Rattle.jp_query.specs.declared.refusal.Refusal.{Refusal}
use Rattle.jp_tree.specs.Tree.{QueryTree}
use Rattle.jp_lines.specs.Private.Halting.{StopsAtQuery, StopsReading}
use Rattle.jp_lines.specs.Request.{AreAsked, RefusesFirst}
use Rattle.jp_lines.specs.declared.halt.Unbegun.{Unbegun}
use Rattle.jp_lines.specs.declared.halt.Unbegun.TheVariants.{Expression, Fault, Query}

module _ (profile : Profile) where
  asked-more : (ts : List (List ℕ)) (qs : List QueryTree) (t : List ℕ) (q : QueryTree)
      → AreAsked profile ts qs → IsAsked profile t q
      → AreAsked profile (ts ++ t ∷ []) (qs ++ q ∷ [])
  asked-more [] [] t q asked is = (is, tt)
  asked-more [] (p ∷ qs) t q asked is = absurd asked
  asked-more (s ∷ ts) [] t q asked is = absurd asked
  asked-more (s ∷ ts) (p ∷ qs) t q asked is = (asked.0, asked-more ts qs t q asked.1 is)

  -- x says what a text in a list of them is
  module _ {X : Type 0} (x : X → List ℕ) (xs : List X) (n : ℕ) (d : X) (within : n < length xs)
      (qs : List QueryTree) (asked : AreAsked profile (take n (map x xs)) qs) where
    -- one text more is accepted
    pub one-asked : (q : QueryTree) → IsAsked profile (x (get_or xs n d)) q
        → AreAsked profile (take (n + 1) (map x xs)) (qs ++ q ∷ [])
    one-asked q is =
        subst (λ ts. AreAsked profile ts (qs ++ q ∷ [])) (sym (one-more x xs n d within))
        (asked-more (take n (map x xs)) qs (x (get_or xs n d)) q asked is)

    -- or refused
    pub one-refused : (r : Refusal) → RefusesQuery profile (x (get_or xs n d)) r
        → RefusesFirst profile (map x xs) r (x (get_or xs n d))
    one-refused r refuses =
        let inside : n < length (map x xs) = simp length-map within in
        record {
          before = take n (map x xs);
          after = drop (suc n) (map x xs);
          split =
              sym (take-append-drop n (map x xs))
              ∙ ap (λ ys. take n (map x xs) ++ ys)
              (drop-cons (map x xs) n [] inside
              ∙ ap (λ y. y ∷ drop (suc n) (map x xs)) (get_or-map x xs n d [] within));
          queries = qs;
          accepted = asked;
          refuses = refuses;
        }

  -- why no more queries are read
  pub stops-reading : (texts : List (List ℕ)) (text : List ℕ) (why : Unbegun)
      → StopsAtQuery profile text why
      → ((r : Refusal) → RefusesQuery profile text r → RefusesFirst profile texts r text)
      → StopsReading profile texts why
  stops-reading texts text (Query other r) stops first =
      subst (λ t. RefusesFirst profile texts r t) (sym stops.0) (first r stops.1)
  stops-reading texts text (Fault NoMemory) stops first = tt
  stops-reading texts text (Fault Write) stops first = absurd stops
  stops-reading texts text (Fault Read) stops first = absurd stops
  stops-reading texts text (Fault (fault.Query r)) stops first = absurd stops
  stops-reading texts text (Fault (Document d)) stops first = absurd stops
  stops-reading texts text (Fault DocumentTooLarge) stops first = absurd stops
  stops-reading texts text (Expression other r) stops first = absurd stops
