-- The headline of jp in a profile, sentence by sentence: of documents, queries, nodelists, paths,
-- canonical texts and refusals, and of what runs answer and write. What is said of an input's bytes
-- has the premise that the input tells them; what is said of an output's bytes is said where the
-- output tells them.
use Rattle.std.specs.Prelude.{◌≡◌, ℕ, ◌≤◌, Bool, true, false, List}
use Rattle.std.specs.Prelude.{length, Option, Some, Result, Ok, Err}
use Rattle.std.specs.Io.KnownBytes.{Appends}
use Rattle.jp_canon.specs.Laws.{CanonTellsApart}
use Rattle.jp_check.specs.Laws.{DecimalIsExtended, FaultAtItsComponent, OneAnswer}
use Rattle.jp_check.specs.Laws.{StandardIsExtended, WholeIsDecimal}
use Rattle.jp_check.specs.Numbers.{numbers}
use Rattle.jp_check.specs.declared.profile.Profile.{Profile}
use Rattle.jp_document.specs.ChildNodes.{ChildrenAreExact}
use Rattle.jp_document.specs.Exact.{DocumentIsExact, IsDocumentIn}
use Rattle.jp_document.specs.Laws.{NodesDiffer}
use Rattle.jp_document.specs.Value.{Value}
use Rattle.jp_document.specs.declared.fault.DocumentFault.{DocumentFault}
use Rattle.jp_exact.specs.Laws.{OneDocumentOrDefect}
use Rattle.jp_evaluate.specs.Laws.{PathSelectsItsNode, SelectsNodesAlone}
use Rattle.jp_iregexp.specs.Matches.{MatchesAreTested, PartMatchesAreTested}
use Rattle.jp_query.specs.Laws.{OneRefusal}
use Rattle.jp_tree.specs.Tree.{QueryTree}
use Rattle.jp_query.specs.declared.refusal.Refusal.{Refusal}
use Rattle.jp_command.specs.NodeTask.{output_asked}
use Rattle.jp_command.specs.Canon.{RunsCanon, canon_line}
use Rattle.jp_command.specs.Check.{RunsCheck, accepted_line}
use Rattle.jp_command.specs.Input.{ReadsTooMuch}
use Rattle.jp_command.specs.Limits.{document_limit}
use Rattle.jp_command.specs.Run.{IsAsked, RefusesDocument, RefusesQuery, RunsNodes}
use Rattle.jp_command.specs.declared.fault.Fault.{Fault}
use Rattle.jp_command.specs.declared.fault.Fault.TheVariants.{Query, Document, DocumentTooLarge}
use Rattle.jp_command.specs.declared.node_task.NodeTask.{NodeTask}

-- the query or the document is refused; other faults are those of the memory and of the streams
abbrev pub is_refusal : Fault → Bool
is_refusal (Query r) = true
is_refusal (Document f) = true
is_refusal DocumentTooLarge = true
is_refusal _ = false

-- i and j are the input before and after a run, o and p the output
module _ (profile : Profile) {R W : Type 0} (remaining : R → Option (List ℕ))
    (has_failed : R → Bool) (read_gives : R → Option (List ℕ) → R → Type 0)
    (contents : W → Option (List ℕ)) (writes_failed : W → Bool) where
  -- the text is asked as the query q, and what the input tells is a document with the numbers of the
  -- profile, not too large, of the value d
  pub record IsAcceptedPair (text : List ℕ) (i : R) (q : QueryTree) (d : Value) : Type 0 where
    pub bytes : List ℕ
    pub tells : remaining i ≡ Some bytes
    pub few : length bytes ≤ document_limit
    pub asked : IsAsked profile text q
    pub document : IsDocumentIn (numbers profile) bytes d

  -- a run of the query ended with this answer
  abbrev pub Runs : NodeTask → List ℕ → R → R → W → W → Result (Unit {0}) Fault → Type 0
  Runs = RunsNodes profile remaining has_failed read_gives contents writes_failed

  -- a run that wrote the line of an accepted query
  pub record WritesLine (line_of : QueryTree → List ℕ) (text : List ℕ) (o p : W) : Type 0 where
    pub q : QueryTree
    pub asked : IsAsked profile text q
    pub writes : Appends (contents o) (contents p) (line_of q)

  -- what a run answers of a query that it refuses: what the query is, at its place; nothing is
  -- read or written
  abbrev pub Refuses : List ℕ → Refusal → R → R → W → W → Type 0
  Refuses text r i j o p = RefusesQuery profile text r × (j ≡ i) × (p ≡ o)

  -- what it answers of a document that it refuses: its query is asked, and what was read has that
  -- fault; nothing is written
  abbrev pub RefusesRead : List ℕ → DocumentFault → R → R → W → W → Type 0
  RefusesRead text f i j o p =
      RefusesDocument profile remaining has_failed read_gives contents writes_failed text i j f
      × (p ≡ o)

  -- the same of one that is too large, as soon as more was read than a document may have
  abbrev pub RefusesLarge : List ℕ → R → R → W → W → Type 0
  RefusesLarge text i j o p = ((q : QueryTree) × IsAsked profile text q)
      × ReadsTooMuch remaining has_failed read_gives i j × (p ≡ o)

  pub record Headline : Type 0 where
    -- Bytes are the document of one value, or have one defect, and not both.
    pub documents : OneDocumentOrDefect (numbers profile)
    -- A document of whole numbers is one of decimals, of the same value.
    pub whole_documents : DocumentIsExact
    -- A text is accepted as one query, or is refused in one way, and not both.
    pub queries : (text : List ℕ) → OneAnswer profile text
    -- An accepted query over an accepted document is not refused,
    pub accepted : (nodes : NodeTask) (text : List ℕ) (i j : R) (o p : W) (q : QueryTree) (d : Value)
        (f : Fault) → IsAcceptedPair text i q d
        → Runs nodes text i j o p (Err f)
        → is_refusal f ≡ false
    -- and no other query over no other bytes is answered.
    pub no_other : (nodes : NodeTask) (text bytes : List ℕ) (i j : R) (o p : W)
        → remaining i ≡ Some bytes
        → Runs nodes text i j o p (Ok tt)
        → (q : QueryTree) × (d : Value) × IsAcceptedPair text i q d
    -- Whatever its input tells, a run answers accepted queries alone,
    pub asked : (nodes : NodeTask) (text : List ℕ) (i j : R) (o p : W)
        → Runs nodes text i j o p (Ok tt)
        → (q : QueryTree) × IsAsked profile text q
    -- and refuses a query for what it is,
    pub refused : (nodes : NodeTask) (text : List ℕ) (i j : R) (o p : W) (r : Refusal)
        → Runs nodes text i j o p (Err (Query r))
        → Refuses text r i j o p
    -- a document for what it is,
    pub refused_document : (nodes : NodeTask) (text : List ℕ) (i j : R) (o p : W) (f : DocumentFault)
        → Runs nodes text i j o p (Err (Document f))
        → RefusesRead text f i j o p
    -- and one that is too large as such.
    pub refused_large : (nodes : NodeTask) (text : List ℕ) (i j : R) (o p : W)
        → Runs nodes text i j o p (Err DocumentTooLarge)
        → RefusesLarge text i j o p
    -- What is written of an accepted pair is the lines of its nodelist, and nothing else
    -- (RFC 9535 section 2.1.2).
    pub nodelist : (nodes : NodeTask) (text : List ℕ) (i j : R) (o p : W) (q : QueryTree) (d : Value)
        → IsAcceptedPair text i q d
        → Runs nodes text i j o p (Ok tt)
        → Appends (contents o) (contents p) (output_asked nodes q d)
    -- The tests of `match` and `search`, which compute, tell exactly the texts that match, and those
    -- of which some part does (sections 2.4.6 and 2.4.7).
    pub matches : MatchesAreTested
    pub part_matches : PartMatchesAreTested
    -- A nodelist has nodes of the document alone, each with the value that stands at its location.
    pub own_nodes : SelectsNodesAlone
    -- The children of a node are the document's nodes one step further on, members in the order of
    -- their names' bytes and items by their indexes (section 1.1).
    pub children : ChildrenAreExact
    -- Two nodes of a document have equal normalized paths exactly if they are the same node
    -- (section 2.7),
    pub paths : NodesDiffer
    -- and each path, read as a query in any profile, selects that node alone.
    pub path_selects : PathSelectsItsNode
    -- A query that is accepted in `Standard` is accepted in `Extended`, and one that is accepted over whole
    -- numbers is accepted over decimals, as the same tree;
    pub extended : StandardIsExtended
    pub extended_decimal : DecimalIsExtended
    pub whole_queries : WholeIsDecimal
    -- and two that are accepted, each in some profile, have equal canonical texts exactly if their trees
    -- are equal.
    pub canonical_texts : CanonTellsApart
    -- That text is what a run for it writes of an accepted query,
    pub canonical_lines : (text : List ℕ) (o p : W)
        → RunsCanon profile contents writes_failed text o p (Ok (tt {0}))
        → WritesLine canon_line text o p
    -- and `accepted` what a run that only checks one does.
    pub checked_lines : (text : List ℕ) (o p : W)
        → RunsCheck profile contents writes_failed text o p (Ok (tt {0}))
        → WritesLine accepted_line text o p
    -- A text that spells no query is refused with one kind and at one place,
    pub syntax_places : OneRefusal
    -- and one that spells a query with a fault, where the text of the faulty component starts.
    pub fault_places : FaultAtItsComponent profile
