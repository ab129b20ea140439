-- Why a run over an accepted query and an accepted document is not refused, and writes the lines of
-- their nodelist.
use Rattle.std.proofs.Common.{◌≡◌, ◌≢◌, ℕ, ◌+◌, ◌≤◌, Bool, false, List, ◌++◌, length, Option, Some}
use Rattle.std.proofs.Common.{None, Result, Ok, Err, refl, sym, ◌∙◌, ap, ap₂, subst, arith}
use Rattle.std.proofs.Common.{string_bytes}
use Rattle.std.proofs.lemmas.List.{append-nil, length-append}
use Rattle.std.specs.Io.KnownBytes.{Appends, Consumes, IsAtEnd}
use Rattle.std.specs.Str.{chars}
use Rattle.jp_check.specs.Laws.{OneAnswer}
use Rattle.jp_check.specs.Numbers.{numbers}
use Rattle.jp_check.specs.declared.profile.Profile.{Profile}
use Rattle.jp_document.specs.Document.{IsDocument, IsDocumentFault, list_too_long, not_json}
use Rattle.jp_document.specs.Exact.{IsDocumentIn, IsExactDocument}
use Rattle.jp_exact.specs.Defects as exact
use Rattle.jp_exact.specs.Defects.{IsDocumentFaultIn, IsExactFault}
use Rattle.jp_exact.specs.Laws.{ExactOrDefect, OneDocumentOrDefect}
use Rattle.jp_decimal.specs.declared.numbers.Numbers.{Numbers}
use Rattle.jp_decimal.specs.declared.numbers.Numbers.TheVariants.{Whole, Decimal}
use Rattle.jp_document.specs.Document.{not_whole}
use Rattle.jp_document.specs.Laws.{DocumentOrDefect}
use Rattle.jp_document.specs.Value.{Value}
use Rattle.jp_document.specs.declared.fault.DocumentFault.{DocumentFault}
use Rattle.jp_document.specs.declared.fault.DocumentFault.TheVariants as document
use Rattle.jp_tree.specs.Tree.{QueryTree}
use Rattle.jp_command.specs.NodeTask.{output_asked}
use Rattle.jp_command.specs.Headline.{IsAcceptedPair, Runs, WritesLine, is_refusal}
use Rattle.jp_command.specs.Input.{ReadsAll, ReadsTooMuch}
use Rattle.jp_command.specs.Limits.{document_limit}
use Rattle.jp_command.specs.QueryLine.{RunsQueryLine}
use Rattle.jp_command.specs.Run.{IsAsked, IsNodesOutput, RefusesQuery, refused, too_long}
use Rattle.jp_command.specs.declared.fault.Fault.{Fault}
use Rattle.jp_command.specs.declared.fault.Fault.TheVariants.{Query, Document, DocumentTooLarge}
use Rattle.jp_command.specs.declared.fault.Fault.TheVariants.{NoMemory, Read, Write}
use Rattle.jp_command.specs.declared.node_task.NodeTask.{NodeTask}

-- what came of known bytes until their end is all of them
came-all : (bytes came : List ℕ) (left : Option (List ℕ)) → Consumes (Some bytes) left came
    → IsAtEnd left → came ≡ bytes
came-all bytes came None consumed ended = absurd consumed
came-all bytes came (Some rest) consumed ended =
    sym (consumed ∙ ap (λ t. came ++ t) ended ∙ append-nil came)

-- and never more than all of them
came-within : (bytes came : List ℕ) (left : Option (List ℕ)) → Consumes (Some bytes) left came
    → length came ≤ length bytes
came-within bytes came None consumed = absurd consumed
came-within bytes came (Some rest) consumed =
    let whole : length bytes ≡ length came + length rest =
    ap length consumed ∙ length-append came rest in
    omega (arith, whole)

-- a query that is asked is not refused
pub asked-is_taken : (profile : Profile) (text : List ℕ) (q : QueryTree) (r : _)
    → IsAsked profile text q → RefusesQuery profile text r → ⊥
asked-is_taken profile text q r asked (too_long long is) = omega (arith, asked.short, long)
asked-is_taken profile text q r asked (refused short none own) = none q asked.accepted

-- a document has no fault: of whole numbers,
whole-is_taken : DocumentOrDefect → (bytes : List ℕ) (d : Value) (f : DocumentFault)
    → IsDocument bytes d → IsDocumentFault bytes f → f ≢ document.NoMemory → ⊥
whole-is_taken law bytes d document.NotJson is has known =
    (law bytes).not_both d not_json is has
whole-is_taken law bytes d (document.NotWhole path) is has known =
    (law bytes).not_both d (not_whole (string_bytes path)) is has
whole-is_taken law bytes d document.ListTooLong is has known =
    (law bytes).not_both d list_too_long is has
whole-is_taken law bytes d (document.NumberRange path) is has known = has
whole-is_taken law bytes d document.NoMemory is has known = known refl

-- of decimals,
decimal-is_taken : ExactOrDefect → (bytes : List ℕ) (d : Value) (f : DocumentFault)
    → IsExactDocument bytes d → IsExactFault bytes f → f ≢ document.NoMemory → ⊥
decimal-is_taken law bytes d document.NotJson is has known =
    (law bytes).not_both d exact.not_json is has
decimal-is_taken law bytes d (document.NotWhole path) is has known = has
decimal-is_taken law bytes d document.ListTooLong is has known =
    (law bytes).not_both d exact.list_too_long is has
decimal-is_taken law bytes d (document.NumberRange path) is has known =
    (law bytes).not_both d (exact.number_range (string_bytes path)) is has
decimal-is_taken law bytes d document.NoMemory is has known = known refl

-- and of either
document-is_taken : (n : Numbers) → OneDocumentOrDefect n → (bytes : List ℕ) (d : Value)
    (f : DocumentFault) → IsDocumentIn n bytes d → IsDocumentFaultIn n bytes f
    → f ≢ document.NoMemory → ⊥
document-is_taken Whole = whole-is_taken
document-is_taken Decimal = decimal-is_taken

-- the law of such numbers, of those of each
pub law-of : (n : Numbers) → DocumentOrDefect → ExactOrDefect → OneDocumentOrDefect n
law-of Whole whole decimal = whole
law-of Decimal whole decimal = decimal

-- bytes are the document of one value
one-value : (n : Numbers) → OneDocumentOrDefect n → (bytes : List ℕ) (v w : Value)
    → IsDocumentIn n bytes v → IsDocumentIn n bytes w → v ≡ w
one-value Whole law bytes = (law bytes).one_value
one-value Decimal law bytes = (law bytes).one_value

module _ (profile : Profile) {R W : Type 0} (remaining : R → Option (List ℕ))
    (has_failed : R → Bool) (read_gives : R → Option (List ℕ) → R → Type 0)
    (contents : W → Option (List ℕ)) (writes_failed : W → Bool) where
  abbrev Accepted : List ℕ → R → QueryTree → Value → Type 0
  Accepted = IsAcceptedPair profile remaining has_failed read_gives contents writes_failed

  abbrev Ran : NodeTask → List ℕ → R → R → W → W → Result (Unit {0}) Fault → Type 0
  Ran = Runs profile remaining has_failed read_gives contents writes_failed

  -- the bytes that a run has read are those that its input told
  read-all : (i j : R) (bytes came : List ℕ) → remaining i ≡ Some bytes
      → ReadsAll remaining has_failed read_gives i j came → came ≡ bytes
  read-all i j bytes came tells reads =
      came-all bytes came (remaining j)
      (subst (λ a. Consumes a (remaining j) came) tells reads.came) reads.ended

  -- an accepted query over an accepted document is not refused
  pub accepted-is_taken : OneDocumentOrDefect (numbers profile) → (nodes : NodeTask) (text : List ℕ) (i j : R) (o p : W)
      (q : QueryTree) (d : Value) (f : Fault)
      → Accepted text i q d
      → Ran nodes text i j o p (Err f)
      → is_refusal f ≡ false
  accepted-is_taken law nodes text i j o p q d (Query r) is run =
      absurd (asked-is_taken profile text q r is.asked run.0)
  accepted-is_taken law nodes text i j o p q d (Document f) is run =
      let same : run.0.bytes ≡ is.bytes = read-all i j is.bytes run.0.bytes is.tells run.0.reads in
      absurd (document-is_taken (numbers profile) law is.bytes d f is.document
      (subst (λ b. IsDocumentFaultIn (numbers profile) b f) same run.0.fault) run.0.known)
  accepted-is_taken law nodes text i j o p q d DocumentTooLarge is run =
      let much : ReadsTooMuch remaining has_failed read_gives i j = run.1 in
      let bytes = much.before ++ much.rest in
      let within : length bytes ≤ length is.bytes =
      came-within is.bytes bytes (remaining j)
      (subst (λ a. Consumes a (remaining j) bytes) is.tells much.came) in
      absurd (omega (arith, within, is.few, much.many))
  accepted-is_taken law nodes text i j o p q d NoMemory is run = refl
  accepted-is_taken law nodes text i j o p q d Read is run = refl
  accepted-is_taken law nodes text i j o p q d Write is run = refl

  -- what there is an output of was accepted
  pub output-is_accepted : (nodes : NodeTask) (text bytes output : List ℕ) (i j : R)
      → remaining i ≡ Some bytes
      → IsNodesOutput profile remaining has_failed read_gives contents writes_failed nodes text i j output
      → (q : QueryTree) × (d : Value) × Accepted text i q d
  output-is_accepted nodes text bytes output i j tells given =
      let same : given.bytes ≡ bytes = read-all i j bytes given.bytes tells given.reads in (
        given.q,
        given.d,
        record {
          bytes = bytes;
          tells = tells;
          few = subst (λ b. length b ≤ document_limit) same given.reads.few;
          asked = given.asked;
          document = subst (λ b. IsDocumentIn (numbers profile) b given.d) same given.document;
        },
      )

  -- and so was what is answered
  pub answered-is_accepted : (nodes : NodeTask) (text bytes : List ℕ) (i j : R) (o p : W)
      → remaining i ≡ Some bytes
      → Ran nodes text i j o p (Ok tt)
      → (q : QueryTree) × (d : Value) × Accepted text i q d
  answered-is_accepted nodes text bytes i j o p tells run =
      output-is_accepted nodes text bytes run.output i j tells run.is

  -- the query and the document of a run of an accepted pair are these
  pub pair-is_that : OneDocumentOrDefect (numbers profile) → ((text : List ℕ) → OneAnswer profile text)
      → (nodes : NodeTask) (text output : List ℕ) (i j : R) (q : QueryTree) (d : Value)
      → Accepted text i q d
      → (given : IsNodesOutput profile remaining has_failed read_gives contents writes_failed nodes
      text i j output)
      → (given.q ≡ q) × (given.d ≡ d)
  pair-is_that documents queries nodes text output i j q d is given =
      let same : given.bytes ≡ is.bytes = read-all i j is.bytes given.bytes is.tells given.reads in (
        (queries (chars text)).one_tree given.q q given.asked.accepted is.asked.accepted,
        one-value (numbers profile) documents is.bytes given.d d
            (subst (λ b. IsDocumentIn (numbers profile) b given.d) same given.document) is.document,
      )

  -- what a run of an accepted pair writes is the lines of its nodelist
  pub output-is_that : OneDocumentOrDefect (numbers profile) → ((text : List ℕ) → OneAnswer profile text)
      → (nodes : NodeTask) (text output : List ℕ) (i j : R) (q : QueryTree) (d : Value)
      → Accepted text i q d
      → IsNodesOutput profile remaining has_failed read_gives contents writes_failed nodes text i j output
      → output ≡ output_asked nodes q d
  output-is_that documents queries nodes text output i j q d is given =
      let same = pair-is_that documents queries nodes text output i j q d is given in
      given.is ∙ ap₂ (output_asked nodes) same.0 same.1

  -- and they are written
  pub writes-nodelist : OneDocumentOrDefect (numbers profile) → ((text : List ℕ) → OneAnswer profile text)
      → (nodes : NodeTask) (text : List ℕ) (i j : R) (o p : W) (q : QueryTree) (d : Value)
      → Accepted text i q d
      → Ran nodes text i j o p (Ok tt)
      → Appends (contents o) (contents p) (output_asked nodes q d)
  writes-nodelist documents queries nodes text i j o p q d is run =
      subst (Appends (contents o) (contents p))
      (output-is_that documents queries nodes text run.output i j q d is run.is) run.writes.written

  -- a run that writes one line for a query writes that of an accepted one
  pub line-is_written : (line_of : QueryTree → List ℕ) (text : List ℕ) (o p : W)
      → RunsQueryLine profile line_of contents writes_failed text o p (Ok (tt {0}))
      → WritesLine profile remaining has_failed read_gives contents writes_failed line_of text o p
  line-is_written line_of text o p run = record {
    q = run.is.q;
    asked = run.is.asked;
    writes = subst (Appends (contents o) (contents p)) run.is.is run.writes.written;
  }
