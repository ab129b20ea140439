-- What is read of a document for a query has the nodes that the query selects: for the calls of `Plan`.
use Rattle.std.proofs.Common.{ℕ, ◌+◌, ◌<◌, All, List, ap, get_or, length, map, option_to_list, refl, subst}
use Rattle.std.proofs.Common.{sym, take, ◌∙◌}
use Rattle.std.proofs.lemmas.List.Elements.{All-more, All-weaker}
use Rattle.jp_check.specs.Checked.{Profiled}
use Rattle.jp_decimal.specs.declared.numbers.Numbers.{Numbers}
use Rattle.jp_document.specs.Exact.{IsDocumentIn}
use Rattle.jp_document.specs.Location.{owned_step}
use Rattle.jp_document.specs.Node.{node_at}
use Rattle.jp_flat.specs.Asked.{IsReadFor}
use Rattle.jp_flat.specs.FlatValue.{document_in}
use Rattle.jp_flat.specs.declared.asked.AskedFor.{AskedFor}
use Rattle.jp_flat.specs.declared.flat.Flat.{Flat}
use Rattle.jp_held.specs.Portions.{IsExcerpt}
use Rattle.jp_held.specs.declared.portion.Excerpt.{Excerpt}
use Rattle.jp_held.specs.declared.portion.Excerpt.TheVariants as read
use Rattle.jp_held.specs.declared.portion.Portion.{Portion}
use Rattle.jp_held.specs.declared.portion.Portion.TheVariants.{Value, Members, Whole}
use Rattle.jp_tree.specs.Tree.{QueryTree}
use Rattle.jp_tree.specs.Views.{query_of}
use Rattle.jp_evaluate.specs.Named.{NamesLocation}
use Rattle.jp_evaluate.specs.Plan.{HoldsPortion, IsReadToAnswer, Serves}

pub answers-portion : (numbers : Numbers) (q : QueryTree) (p : Portion) (bytes : List ℕ) (e : Excerpt)
    → Serves q p → IsExcerpt numbers p bytes e → IsReadToAnswer numbers q bytes e
answers-portion numbers q (Value l) bytes (read.Value k found) names is =
    let at = is.1 in
    let names_it : NamesLocation q (map owned_step k.now) =
    subst (λ ks. NamesLocation q (map owned_step ks)) (sym is.0) names in
    record {
      document = at.document;
      is = at.is;
      same = ap (λ o. map (node_at (map owned_step k.now)) (option_to_list o)) (sym at.at)
          ∙ sym (names_it at.document);
    }
answers-portion numbers q (Members asked) bytes (read.Document f) no_more is = record {
  document = is.document;
  is = is.is;
  same = no_more is.document (document_in f) is.kept;
}
answers-portion numbers q Whole bytes (read.Document f) serves is =
    record { document = document_in f; is = is; same = refl }
answers-portion numbers q (Value l) bytes (read.Document f) names is = absurd is
answers-portion numbers q (Members asked) bytes (read.Value k found) no_more is = absurd is
answers-portion numbers q Whole bytes (read.Value k found) serves is = absurd is

-- what is kept of a document for what is asked of it
pub holds-members : (numbers : Numbers) (asked : AskedFor) (bytes : List ℕ) (f : Flat)
    → IsReadFor numbers asked bytes f → HoldsPortion numbers (Members asked) bytes f
holds-members numbers asked bytes f is = record {
  document = is.document;
  is = is.is;
  nodes = λ q serves. serves is.document (document_in f) is.kept;
  truth = λ e serves. serves is.document (document_in f) is.kept;
}

-- all of a document
pub holds-whole : (numbers : Numbers) (p : Portion) (bytes : List ℕ) (f : Flat)
    → IsDocumentIn numbers bytes (document_in f) → HoldsPortion numbers p bytes f
holds-whole numbers p bytes f is = record {
  document = document_in f;
  is = is;
  nodes = λ q serves. refl;
  truth = λ e serves. refl;
}

-- one more query is served, by a portion that serves those before it too
pub serves-more : (qs : List Profiled) (i : ℕ) (d : Profiled) (before after : Portion)
    → ((q : QueryTree) → Serves q before → Serves q after) → i < length qs
    → All (λ c. Serves (query_of c.query) before) (take i qs)
    → Serves (query_of (get_or qs i d).query) after
    → All (λ c. Serves (query_of c.query) after) (take (i + 1) qs)
serves-more qs i d before after wider within each one =
    All-more (λ (c : Profiled). Serves (query_of c.query) after) qs i d within
    (All-weaker (λ (c : Profiled). Serves (query_of c.query) before)
    (λ (c : Profiled). Serves (query_of c.query) after) (λ c. wider (query_of c.query)) (take i qs) each)
    one
