-- What `find`, `find_within` and `find_nodes` say with their answers.
use Rattle.std.specs.Prelude.{◌≡◌, ◌≢◌, ◌⊎◌, ◌+◌, ℕ, List, length, map, string_bytes, sum_by}
use Rattle.std.specs.Str.{chars}
use Rattle.jp_reading.specs.Texts.{Text}
use Rattle.jp_check.specs.Accepted.{IsAcceptedAs, IsNotAccepted}
use Rattle.jp_check.specs.Refused.{IsRefusedForItself}
use Rattle.jp_check.specs.declared.profile.Profile.{Profile}
use Rattle.jp_document.specs.Document.{IsDocument, IsDocumentFault}
use Rattle.jp_document.specs.Node.{Node}
use Rattle.jp_document.specs.Path.{path_of}
use Rattle.jp_document.specs.Text.{text_of}
use Rattle.jp_document.specs.Value.{Value}
use Rattle.jp_document.specs.declared.fault.DocumentFault.TheVariants as document
use Rattle.jp_evaluate.specs.Nodelist.{nodelist}
use Rattle.jp_limit.specs.OutputLimit.{Exceeds}
use Rattle.jp_limit.specs.declared.output_limit.OutputLimit.{OutputLimit}
use Rattle.jp_query.specs.declared.refusal.Refusal.{Refusal}
use Rattle.jp_query.specs.declared.refusal.RefusalKind.TheVariants as kind
use Rattle.jp_tree.specs.Tree.{QueryTree}
use Rattle.jsonpath.specs.declared.fault.FindFault.{FindFault}
use Rattle.jsonpath.specs.Size.{Fits, IsTooLarge}
use Rattle.jsonpath.specs.declared.fault.FindFault.TheVariants.{Query, Document, DocumentTooLarge}
use Rattle.jsonpath.specs.declared.fault.FindFault.TheVariants.{NoMemory, StepsUsedUp}
use Rattle.jsonpath.specs.declared.fault.FindFault.TheVariants.{TooManyNodes, TooManyBytes}
use Rattle.jsonpath.specs.declared.finding.Match.{Match}

-- the text is accepted as a query, in that profile, whose nodelist over the document d these nodes
-- are (RFC 9535 section 2.1.2)
pub record Selects (profile : Profile) (text : Text) (d : Value) (nodes : List Node) : Type 0 where
  pub q : QueryTree
  pub accepted : IsAcceptedAs profile text q
  pub are : nodes ≡ nodelist q d

-- a node as texts: its normalized path (section 2.7), and the compact text of its value
abbrev pub texts_of : Node → List ℕ × List ℕ
texts_of n = (path_of n.location, text_of n.value)

-- how many bytes the two texts of a node have, and those of nodes together
abbrev pub texts_size : List ℕ × List ℕ → ℕ
texts_size t = length t.0 + length t.1

abbrev pub bytes_of : List (List ℕ × List ℕ) → ℕ
bytes_of ts = sum_by texts_size ts

-- the texts that a match has
abbrev pub match_texts : Match → List ℕ × List ℕ
match_texts m = (string_bytes m.path, string_bytes m.value)

-- the bytes are a document that is not too large, and the texts are those of the nodes that the query
-- selects in it
pub record Finds (profile : Profile) (text bytes : List ℕ) (texts : List (List ℕ × List ℕ))
    : Type 0 where
  pub d : Value
  pub nodes : List Node
  pub document : IsDocument bytes d
  pub fits : Fits bytes
  pub selected : Selects profile (chars text) d nodes
  pub are : texts ≡ map texts_of nodes

-- the text is accepted as no query, and is refused so for what it is
abbrev pub RefusesText : Profile → Text → Refusal → Type 0
RefusesText profile text r = IsNotAccepted profile text × IsRefusedForItself profile text r

-- the same, or memory ran out, which has the place 0
abbrev pub RefusesOrRanOut : Profile → Text → Refusal → Type 0
RefusesOrRanOut profile text r =
    (r ≡ record { kind = kind.NoMemory; place = 0 }) ⊎ RefusesText profile text r

-- why nothing is found: the query is refused; or it is accepted, and the bytes are too many, or no
-- document, with that fault; running out of memory says nothing of either
abbrev pub FindsNot : Profile → List ℕ → List ℕ → FindFault → Type 0
FindsNot profile text bytes (Query r) = RefusesText profile (chars text) r
FindsNot profile text bytes (Document f) =
    ((q : QueryTree) × IsAcceptedAs profile (chars text) q) × IsDocumentFault bytes f
    × (f ≢ document.NoMemory) × Fits bytes
FindsNot profile text bytes DocumentTooLarge =
    ((q : QueryTree) × IsAcceptedAs profile (chars text) q) × IsTooLarge bytes
FindsNot profile text bytes NoMemory = Unit {0}
FindsNot profile text bytes StepsUsedUp = ⊥
FindsNot profile text bytes TooManyNodes = ⊥
FindsNot profile text bytes TooManyBytes = ⊥

-- why of so many nodes, whose texts have so many bytes, nothing is given: there are more nodes than the limit
-- says, or more bytes; or more steps are needed than are allowed; or memory ran out
abbrev pub IsGivenUp : OutputLimit → ℕ → ℕ → FindFault → Type 0
IsGivenUp limit nodes bytes TooManyNodes = Exceeds limit.nodes nodes
IsGivenUp limit nodes bytes TooManyBytes = Exceeds limit.bytes bytes
IsGivenUp limit nodes bytes StepsUsedUp = Unit {0}
IsGivenUp limit nodes bytes NoMemory = Unit {0}
IsGivenUp limit nodes bytes (Query r) = ⊥
IsGivenUp limit nodes bytes (Document f) = ⊥
IsGivenUp limit nodes bytes DocumentTooLarge = ⊥

-- the query is accepted, the bytes are a document, and for that fault nothing is given of its nodes
pub record GivesUp (limit : OutputLimit) (profile : Profile) (text bytes : List ℕ) (fault : FindFault)
    : Type 0 where
  pub q : QueryTree
  pub d : Value
  pub accepted : IsAcceptedAs profile (chars text) q
  pub document : IsDocument bytes d
  pub fits : Fits bytes
  pub why : IsGivenUp limit (length (nodelist q d)) (bytes_of (map texts_of (nodelist q d))) fault

-- the same where steps, nodes and bytes are limited
abbrev pub FindsNotWithin : OutputLimit → Profile → List ℕ → List ℕ → FindFault → Type 0
FindsNotWithin limit profile text bytes StepsUsedUp = GivesUp limit profile text bytes StepsUsedUp
FindsNotWithin limit profile text bytes TooManyNodes = GivesUp limit profile text bytes TooManyNodes
FindsNotWithin limit profile text bytes TooManyBytes = GivesUp limit profile text bytes TooManyBytes
FindsNotWithin limit profile text bytes fault = FindsNot profile text bytes fault
