use Rattle.std.proofs.Common.{◌≡◌, ℕ, List, Result, Ok, Err, IfErr, IfOk, length, map, subst}
use Rattle.std.specs.Str.{chars}
use Rattle.jp_check.specs.Accepted.{IsAcceptedAs}
use Rattle.jp_check.specs.declared.profile.Profile.{Profile}
use Rattle.jp_decimal.specs.declared.numbers.Numbers.TheVariants.{Whole}
use Rattle.jp_evaluate.specs.Plan.{IsReadToAnswer, nodes_read}
use Rattle.jp_held.specs.declared.portion.Excerpt.{Excerpt}
use Rattle.jp_limit.specs.declared.output_limit.OutputLimit.{OutputLimit}
use Rattle.jp_tree.specs.Tree.{QueryTree}
use Rattle.jp_tree.specs.Views.{query_of}
use Rattle.jsonpath.specs.Find.{Finds, FindsNotWithin, GivesUp, IsGivenUp, bytes_of, match_texts}
use Rattle.jsonpath.specs.Find.{texts_of}
use Rattle.jsonpath.specs.Size.{Fits}
use Rattle.jsonpath.specs.declared.fault.FindFault.{FindFault}
use Rattle.jsonpath.specs.declared.fault.FindFault.TheVariants.{Query, Document, DocumentTooLarge}
use Rattle.jsonpath.specs.declared.fault.FindFault.TheVariants.{NoMemory, StepsUsedUp}
use Rattle.jsonpath.specs.declared.fault.FindFault.TheVariants.{TooManyNodes, TooManyBytes}
use Rattle.jsonpath.proofs.finding.find_within.Goals as goal

-- what is found in what was read for the query is found in the document
module _ (limit : OutputLimit) (profile : Profile) (text bytes : List ℕ) (q : QueryTree) (e : Excerpt)
    (accepted : IsAcceptedAs profile (chars text) q) (fits : Fits bytes)
    (read : IsReadToAnswer Whole q bytes e) where
  finds : {A : Type 0} (texts : A → List (List ℕ × List ℕ)) (r : Result A FindFault)
      → IfOk r (λ a. texts a ≡ map texts_of (nodes_read q e))
      → IfOk r (λ a. Finds profile text bytes (texts a))
  finds texts (Ok a) are = record {
    d = read.document;
    nodes = nodes_read q e;
    document = read.is;
    fits = fits;
    selected = record { q = q; accepted = accepted; are = read.same };
    are = are;
  }
  finds texts (Err f) are = tt

  gives-up : (f : FindFault)
      → IsGivenUp limit (length (nodes_read q e)) (bytes_of (map texts_of (nodes_read q e))) f
      → GivesUp limit profile text bytes f
  gives-up f why = record {
    q = q;
    d = read.document;
    accepted = accepted;
    document = read.is;
    fits = fits;
    why = subst (λ ns. IsGivenUp limit (length ns) (bytes_of (map texts_of ns)) f) read.same why;
  }

  finds-not : {A : Type 0} (r : Result A FindFault)
      → IfErr r (IsGivenUp limit (length (nodes_read q e)) (bytes_of (map texts_of (nodes_read q e))))
      → IfErr r (FindsNotWithin limit profile text bytes)
  finds-not (Ok a) why = tt
  finds-not (Err NoMemory) why = tt
  finds-not (Err StepsUsedUp) why = gives-up StepsUsedUp why
  finds-not (Err TooManyNodes) why = gives-up TooManyNodes why
  finds-not (Err TooManyBytes) why = gives-up TooManyBytes why
  finds-not (Err (Query r)) why = absurd why
  finds-not (Err (Document f)) why = absurd why
  finds-not (Err DocumentTooLarge) why = absurd why

pub returns-clause-found : goal.returns-clause-found
returns-clause-found c =
    let q = query_of c.in_ok-query.query.query in
    finds c.args.limit c.args.profile c.args.text.now c.args.bytes.now q c.in_ok-read.read
    c.in_ok-query.ensures.accepted c.in_ok-check_size.ensures.fits
    (c.in_ok-read.ensures.ok q c.in_ok-plan.ensures.serves)
    (λ found. map match_texts found.items) c.matches_read.result c.matches_read.ensures.found

pub returns-clause-fault : goal.returns-clause-fault
returns-clause-fault c =
    let q = query_of c.in_ok-query.query.query in
    finds-not c.args.limit c.args.profile c.args.text.now c.args.bytes.now q c.in_ok-read.read
    c.in_ok-query.ensures.accepted c.in_ok-check_size.ensures.fits
    (c.in_ok-read.ensures.ok q c.in_ok-plan.ensures.serves) c.matches_read.result
    c.matches_read.ensures.given_up
