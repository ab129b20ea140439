-- What is asked with a query that is kept, and how the answer is lent.
use Rattle.std.specs.Prelude.{◌≡◌, ◌≢◌, ◌⊎◌, ℕ, List, [], Option, None, Some, String, length, string_bytes}
use Rattle.std.specs.String.{string_vec}
use Rattle.std.specs.Vec.{vec_ptr}
use Rattle.std.specs.declared.alloc.Global.{Global}
use Rattle.jp_check.specs.Numbers.{numbers}
use Rattle.jp_check.specs.declared.profile.Profile.{Profile}
use Rattle.jp_command.specs.Lines.{lines_of}
use Rattle.jp_command.specs.Selecting.{nodes_behind}
use Rattle.jp_command.specs.declared.form.Form.{Form}
use Rattle.jp_decimal.specs.declared.numbers.Numbers.{Numbers}
use Rattle.jp_document.specs.Exact.{IsDocumentIn}
use Rattle.jp_document.specs.Node.{Node}
use Rattle.jp_document.specs.Value.{Value}
use Rattle.jp_evaluate.specs.Nodelist.{nodelist}
use Rattle.jp_limit.specs.OutputLimit.{StaysWithin}
use Rattle.jp_limit.specs.declared.output_limit.OutputLimit.{OutputLimit}
use Rattle.jp_tree.specs.Tree.{QueryTree}
use Rattle.jsonpath.specs.Find.{IsGivenUp}
use Rattle.jsonpath.specs.Size.{Fits}
use Rattle.jsonpath.specs.declared.fault.FindFault.{FindFault}
use Rattle.jsonpath.specs.declared.fault.FindFault.TheVariants as find
use Rattle.jp_c.specs.Asked.{IsNoDocument}
use Rattle.jp_c.specs.Calls.{IsPlaceless}
use Rattle.jp_c.specs.Handles.{document_kept, numbers_kept, profile_kept, query_kept}
use Rattle.jp_c.specs.Limit.{most_of}
use Rattle.jp_c.specs.Misread.{IsMisreadAt}
use Rattle.jp_c.specs.Numbers.{form_of}
use Rattle.jp_c.specs.Outcome.{report_of, status_of, told_text}
use Rattle.jp_c.specs.declared.kept.Kept.{Kept}
use Rattle.jp_c.specs.declared.kept.Kept.TheVariants as kept
use Rattle.jp_c.specs.declared.lent.Lent.{Lent}
use Rattle.jp_c.specs.declared.outcome.Outcome as outcome
use Rattle.jp_c.specs.declared.outcome.Outcome.TheVariants.{Text, Usage, Fault, Misread, OtherNumbers}
use Rattle.jp_c.specs.declared.outcome.Report.{Report}

-- the nodes that the query selects in the document behind the first `from` ones: so many of them, of 0 all
abbrev pub nodes_asked : ℕ → ℕ → QueryTree → Value → List Node
nodes_asked from count q d = nodes_behind from (most_of count) (nodelist q d)

-- their lines, in that form
abbrev pub answer_of : ℕ → ℕ → Form → QueryTree → Value → List ℕ
answer_of from count f q d = lines_of f (nodes_asked from count q d)

-- a form has that number, and the handle keeps a query, which is accepted in that profile
pub record IsAskedOf (form : ℕ) (query : Option Kept) (f : Form) (p : Profile) (q : QueryTree) : Type 0 where
  pub form_is : form_of form ≡ Some f
  pub profile_is : profile_kept query ≡ Some p
  pub query_is : query_kept query ≡ Some q

-- the bytes are a document with the numbers of the profile, and for that fault no lines of the nodes asked for are
-- given
abbrev pub GivesNoneOf : ℕ → ℕ → Form → Profile → QueryTree → List ℕ → OutputLimit → FindFault → Type 0
GivesNoneOf from count f p q bytes most fault =
    (d : Value) × IsDocumentIn (numbers p) bytes d × Fits bytes
    × IsGivenUp most (length (nodes_asked from count q d)) (length (answer_of from count f q d)) fault

-- why there is no answer of these bytes: they are no document with the numbers of the profile; or they are one,
-- and more steps are needed than are allowed, or more comes out than may
abbrev pub IsNoAnswerOf : ℕ → ℕ → Form → Profile → QueryTree → List ℕ → OutputLimit → FindFault → Type 0
IsNoAnswerOf from count f p q bytes most find.StepsUsedUp =
    GivesNoneOf from count f p q bytes most find.StepsUsedUp
IsNoAnswerOf from count f p q bytes most find.TooManyNodes =
    GivesNoneOf from count f p q bytes most find.TooManyNodes
IsNoAnswerOf from count f p q bytes most find.TooManyBytes =
    GivesNoneOf from count f p q bytes most find.TooManyBytes
IsNoAnswerOf from count f p q bytes most fault = IsNoDocument (numbers p) bytes fault

-- of `jp_ask`: the lines of the nodes asked for that the query kept by the handle selects in the document that
-- the bytes are with the numbers of its profile; or no form has that number, or the handle keeps no query; or why
-- there is no answer, with the place of a document that is refused
abbrev pub IsAskOutcome : ℕ → ℕ → ℕ → Option Kept → List ℕ → OutputLimit → outcome.Outcome → Type 0
IsAskOutcome form from count query bytes most (Text text) =
    (f : Form) × (p : Profile) × (q : QueryTree) × (d : Value) × IsAskedOf form query f p q
    × IsDocumentIn (numbers p) bytes d × Fits bytes × (string_bytes text ≡ answer_of from count f q d)
    × StaysWithin most (length (nodes_asked from count q d)) (length (string_bytes text))
IsAskOutcome form from count query bytes most Usage =
    (form_of form ≡ None) ⊎ (query_kept query ≡ None)
IsAskOutcome form from count query bytes most (Fault fault) =
    (f : Form) × (p : Profile) × (q : QueryTree) × IsAskedOf form query f p q
    × IsNoAnswerOf from count f p q bytes most fault × IsPlaceless fault
IsAskOutcome form from count query bytes most (Misread fault place) =
    (f : Form) × (p : Profile) × (q : QueryTree) × IsAskedOf form query f p q
    × IsNoDocument (numbers p) bytes (find.Document fault) × IsMisreadAt (numbers p) bytes place
IsAskOutcome form from count query bytes most OtherNumbers = ⊥

-- the handle keeps that document, read with the numbers of the profile
pub record IsKeptFor (p : Profile) (document : Option Kept) (d : Value) : Type 0 where
  pub document_is : document_kept document ≡ Some d
  pub numbers_are : numbers_kept document ≡ Some (numbers p)

-- of `jp_ask_document`: the same of the document that another handle keeps, which was read with the numbers of the
-- profile of the query; or it was read with others
abbrev pub IsAskDocumentOutcome : ℕ → ℕ → ℕ → Option Kept → Option Kept → OutputLimit
    → outcome.Outcome → Type 0
IsAskDocumentOutcome form from count query document most (Text text) =
    (f : Form) × (p : Profile) × (q : QueryTree) × (d : Value) × IsAskedOf form query f p q
    × IsKeptFor p document d × (string_bytes text ≡ answer_of from count f q d)
    × StaysWithin most (length (nodes_asked from count q d)) (length (string_bytes text))
IsAskDocumentOutcome form from count query document most Usage =
    (form_of form ≡ None) ⊎ (query_kept query ≡ None) ⊎ (document_kept document ≡ None)
IsAskDocumentOutcome form from count query document most (Fault fault) =
    (f : Form) × (p : Profile) × (q : QueryTree) × (d : Value) × IsAskedOf form query f p q
    × IsKeptFor p document d
    × IsGivenUp most (length (nodes_asked from count q d)) (length (answer_of from count f q d)) fault
IsAskDocumentOutcome form from count query document most (Misread fault place) = ⊥
IsAskDocumentOutcome form from count query document most OtherNumbers =
    (f : Form) × (p : Profile) × (q : QueryTree) × (n : Numbers) × IsAskedOf form query f p q
    × (numbers_kept document ≡ Some n) × (numbers p ≢ n)

-- the text that is kept with a query, as the answer of the last call
abbrev pub text_kept : Option Kept → Option (String Global)
text_kept (Some (kept.Query a)) = Some a.memory.text
text_kept _ = None

-- the bytes are lent: there are none; or the handle keeps a text of them, whose first byte is there
pub data Lends (now : Option Kept) (bytes : List ℕ) (lent : Lent) : Type 0 where
  nothing : bytes ≡ [] → lent.length ≡ 0 → Lends now bytes lent
  text : (t : String Global) → text_kept now ≡ Some t → string_bytes t ≡ bytes
      → lent.start ≡ vec_ptr (string_vec t) → lent.length ≡ length bytes → Lends now bytes lent

-- a call has an outcome of that kind, by the steps that are made for it, tells both, and lends the text of
-- the outcome from what the handle keeps now
pub record AnswersLent (IsOutcome : outcome.Outcome → ℕ → Type 0) (now : Option Kept) (lent : Lent)
    (report : Report) (status : ℕ) : Type 0 where
  pub o : outcome.Outcome
  pub made : ℕ
  pub is : IsOutcome o made
  pub reports : report ≡ report_of o made
  pub answers : status ≡ status_of o
  pub lends : Lends now (told_text o) lent
