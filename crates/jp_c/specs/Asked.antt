-- Queries and documents as bytes: what is accepted, what is answered, and why nothing is.
use Rattle.std.specs.Prelude.{◌≡◌, ◌≢◌, ℕ, List, length}
use Rattle.std.specs.Str.{chars, IsUtf8}
use Rattle.std.specs.Str.Lossy.{utf8_valid_len}
use Rattle.jp_canon.specs.Canon.{canon_of}
use Rattle.jp_check.specs.Accepted.{IsAcceptedAs}
use Rattle.jp_check.specs.Numbers.{numbers}
use Rattle.jp_check.specs.declared.profile.Profile.{Profile}
use Rattle.jp_command.specs.Lines.{output_of}
use Rattle.jp_command.specs.declared.form.Form.{Form}
use Rattle.jp_decimal.specs.declared.numbers.Numbers.{Numbers}
use Rattle.jp_document.specs.Exact.{IsDocumentIn}
use Rattle.jp_document.specs.Value.{Value}
use Rattle.jp_document.specs.declared.fault.DocumentFault.TheVariants as document
use Rattle.jp_evaluate.specs.Nodelist.{nodelist}
use Rattle.jp_exact.specs.Defects.{IsDocumentFaultIn}
use Rattle.jp_limit.specs.OutputLimit.{StaysWithin}
use Rattle.jp_limit.specs.declared.output_limit.OutputLimit.{OutputLimit}
use Rattle.jp_query.specs.declared.refusal.Refusal.{Refusal}
use Rattle.jp_query.specs.declared.refusal.RefusalKind.TheVariants.{Syntax}
use Rattle.jp_tree.specs.Tree.{QueryTree}
use Rattle.jsonpath.specs.Find.{IsGivenUp, RefusesText}
use Rattle.jsonpath.specs.Size.{Fits, IsTooLarge}
use Rattle.jsonpath.specs.declared.fault.FindFault.{FindFault}
use Rattle.jsonpath.specs.declared.fault.FindFault.TheVariants.{Query, Document, DocumentTooLarge}
use Rattle.jsonpath.specs.declared.fault.FindFault.TheVariants.{NoMemory, StepsUsedUp}
use Rattle.jsonpath.specs.declared.fault.FindFault.TheVariants.{TooManyNodes, TooManyBytes}

-- the bytes are a text (RFC 3629), which in the profile is accepted as the tree q
pub record IsAcceptedInBytes (profile : Profile) (bytes : List ℕ) (q : QueryTree) : Type 0 where
  pub utf8 : IsUtf8 bytes
  pub accepted : IsAcceptedAs profile (chars bytes) q

-- the bytes are no text: `Syntax` at the first byte that belongs to none
pub record IsRefusedAsBytes (bytes : List ℕ) (r : Refusal) : Type 0 where
  pub none : ¬ IsUtf8 bytes
  pub is : r ≡ record { kind = Syntax; place = utf8_valid_len bytes }

-- the bytes are no text, or one that in the profile is refused so for what it is
pub data RefusesBytes (profile : Profile) (bytes : List ℕ) (r : Refusal) : Type 0 where
  no_text : IsRefusedAsBytes bytes r → RefusesBytes profile bytes r
  refused : IsUtf8 bytes → RefusesText profile (chars bytes) r → RefusesBytes profile bytes r

-- why no query is read; running out of memory says nothing of the bytes
abbrev pub IsQueryFault : Profile → List ℕ → FindFault → Type 0
IsQueryFault profile bytes (Query r) = RefusesBytes profile bytes r
IsQueryFault profile bytes (Document f) = ⊥
IsQueryFault profile bytes DocumentTooLarge = ⊥
IsQueryFault profile bytes NoMemory = Unit {0}
IsQueryFault profile bytes StepsUsedUp = ⊥
IsQueryFault profile bytes TooManyNodes = ⊥
IsQueryFault profile bytes TooManyBytes = ⊥

-- why no document with such numbers is read: the bytes are too many, or they are none, with that fault;
-- running out of memory says nothing of them
abbrev pub IsNoDocument : Numbers → List ℕ → FindFault → Type 0
IsNoDocument n bytes (Query r) = ⊥
IsNoDocument n bytes (Document f) =
    IsDocumentFaultIn n bytes f × (f ≢ document.NoMemory) × Fits bytes
IsNoDocument n bytes DocumentTooLarge = IsTooLarge bytes
IsNoDocument n bytes NoMemory = Unit {0}
IsNoDocument n bytes StepsUsedUp = ⊥
IsNoDocument n bytes TooManyNodes = ⊥
IsNoDocument n bytes TooManyBytes = ⊥

-- the text is the lines, in that form, of the nodes that the query selects in the document, which is read with
-- the numbers of the query's profile, as many as may come out
pub record IsAnswer (most : OutputLimit) (profile : Profile) (form : Form) (query bytes text : List ℕ)
    : Type 0 where
  pub q : QueryTree
  pub d : Value
  pub asked : IsAcceptedInBytes profile query q
  pub document : IsDocumentIn (numbers profile) bytes d
  pub fits : Fits bytes
  pub lines : text ≡ output_of form q d
  pub within : StaysWithin most (length (nodelist q d)) (length text)

-- the query is accepted, the bytes are a document with the numbers of its profile, and for that fault no lines of
-- its nodes are given
pub record GivesNoLines (most : OutputLimit) (profile : Profile) (form : Form) (query bytes : List ℕ)
    (fault : FindFault) : Type 0 where
  pub q : QueryTree
  pub d : Value
  pub asked : IsAcceptedInBytes profile query q
  pub document : IsDocumentIn (numbers profile) bytes d
  pub fits : Fits bytes
  pub why : IsGivenUp most (length (nodelist q d)) (length (output_of form q d)) fault

-- why there is no answer: the query is refused; or it is accepted and the bytes are too many, or no
-- document with the numbers of its profile, with that fault; or it is accepted, the bytes are a document, and
-- more steps are needed than are allowed, or more comes out than may; running out of memory says nothing of either
abbrev pub IsNoAnswer : OutputLimit → Profile → Form → List ℕ → List ℕ → FindFault → Type 0
IsNoAnswer most profile form query bytes (Query r) = RefusesBytes profile query r
IsNoAnswer most profile form query bytes (Document f) =
    ((q : QueryTree) × IsAcceptedInBytes profile query q) × IsDocumentFaultIn (numbers profile) bytes f
    × (f ≢ document.NoMemory) × Fits bytes
IsNoAnswer most profile form query bytes DocumentTooLarge =
    ((q : QueryTree) × IsAcceptedInBytes profile query q) × IsTooLarge bytes
IsNoAnswer most profile form query bytes StepsUsedUp =
    GivesNoLines most profile form query bytes StepsUsedUp
IsNoAnswer most profile form query bytes TooManyNodes =
    GivesNoLines most profile form query bytes TooManyNodes
IsNoAnswer most profile form query bytes TooManyBytes =
    GivesNoLines most profile form query bytes TooManyBytes
IsNoAnswer most profile form query bytes NoMemory = Unit {0}

-- the text is the canonical one of the query that the bytes are
pub record IsCanonOf (profile : Profile) (query text : List ℕ) : Type 0 where
  pub q : QueryTree
  pub asked : IsAcceptedInBytes profile query q
  pub canonical : chars text ≡ canon_of q
