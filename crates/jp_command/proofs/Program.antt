-- Why the program does what `Program` says: each sentence follows from what `RunsLine` tells of a run
-- with that status, and from the headline.
use Rattle.std.proofs.Common.{◌≡◌, ◌⊎◌, inl, inr, ℕ, ◌≤◌, Bool, true, false, List, [], ◌∷◌, length}
use Rattle.std.proofs.Common.{Option, Some, None, Result, Ok, Err, refl, sym, ◌∙◌, ap, ap₂, subst, arith}
use Rattle.std.proofs.KnownBytes.{Appends-nil}
use Rattle.std.proofs.lemmas.Bool.{true≢false}
use Rattle.std.proofs.lemmas.Option.{none-some, same_Some}
use Rattle.std.specs.Io.KnownBytes.{Appends}
use Rattle.std.specs.Str.{chars}
use Rattle.jp_check.specs.Laws.{OneAnswer}
use Rattle.jp_check.specs.Numbers.{numbers}
use Rattle.jp_check.specs.declared.profile.Profile.{Profile}
use Rattle.jp_document.specs.Exact.{IsDocumentIn}
use Rattle.jp_exact.specs.Laws.{OneDocumentOrDefect}
use Rattle.jp_document.specs.Node.{Node}
use Rattle.jp_document.specs.Value.{Value}
use Rattle.jp_document.specs.declared.fault.DocumentFault.{DocumentFault}
use Rattle.jp_evaluate.specs.Nodelist.{nodelist}
use Rattle.jp_tree.specs.Tree.{QueryTree}
use Rattle.jp_query.specs.declared.refusal.Refusal.{Refusal}
use Rattle.jp_command.specs.NodeTask.{output_asked, status_done}
use Rattle.jp_command.specs.Canon.{canon_line}
use Rattle.jp_command.specs.Check.{accepted_line}
use Rattle.jp_command.specs.CommandLine.{asked, jp}
use Rattle.jp_command.specs.Headline.{Refuses, is_refusal}
use Rattle.jp_command.specs.Help.{AsksToShow}
use Rattle.jp_command.specs.Line.{RunsLine, RunsTask, RunsWords, done, explained, fault, memory}
use Rattle.jp_command.specs.Line.{EndsShowing, IsWrittenBy, TellsExplained, TellsMisread, misread, shown}
use Rattle.jp_command.specs.Line.{status_of, status_of_done, usage}
use Rattle.jp_command.specs.Line as line
use Rattle.jp_command.specs.Limits.{document_limit}
use Rattle.jp_command.specs.Output.{AppendsPrefix, WritesPrefix}
use Rattle.jp_command.specs.Program.{AskFor, IsPair, ProgramRun, RefusesItsDocument}
use Rattle.jp_command.specs.Program.{RefusesItsQuery, RefusesItsWords, TellsLine, WritesText, in_part}
use Rattle.jp_command.specs.Program.{large, whole}
use Rattle.jp_command.specs.Program as program
use Rattle.jp_command.specs.QueryLine.{IsQueryLine, RunsQueryLine}
use Rattle.jp_command.specs.Run.{IsAsked, IsNodesOutput, RunsOut, at_a_node, at_a_read, at_the_document}
use Rattle.jp_command.specs.Run.{RefusesDocument, at_the_query}
use Rattle.jp_command.specs.declared.fault.Fault.{Fault}
use Rattle.jp_command.specs.declared.fault.Fault.TheVariants.{Query, Document, DocumentTooLarge}
use Rattle.jp_command.specs.declared.fault.Fault.TheVariants.{NoMemory, Read, Write}
use Rattle.jp_command.specs.declared.node_task.NodeTask.{NodeTask}
use Rattle.jp_command.specs.declared.words.Task.{Task}
use Rattle.jp_command.specs.declared.words.Task.TheVariants.{Check, Canon, Eval}
use Rattle.jp_command.proofs.Headline.{accepted-is_taken, answered-is_accepted, asked-is_taken}
use Rattle.jp_command.proofs.Headline.{output-is_that, pair-is_that, writes-nodelist}

-- the status of a fault is one from 1 to 5, and not 2
pub fault-is_told : (f : Fault) → status_of f ≡ 0 → ⊥
fault-is_told (Query r) is = omega (arith, is)
fault-is_told _ is = omega (arith, is)

fault-is_no_usage : (f : Fault) → status_of f ≡ 2 → ⊥
fault-is_no_usage (Query r) is = omega (arith, is)
fault-is_no_usage _ is = omega (arith, is)

pub fault-is_within : (f : Fault) → status_of f ≤ 5
fault-is_within (Query r) = omega arith
fault-is_within _ = omega arith

-- the status of a run that is done is 0 or 6
status-of_nodes : (tells_none : Bool) (ns : List Node)
    → (status_done tells_none ns ≡ 0) ⊎ (status_done tells_none ns ≡ 6)
status-of_nodes true [] = inr refl
status-of_nodes true (n ∷ ns) = inl refl
status-of_nodes false ns = inl refl

-- what is as it was has a prefix of any text more
prefix-none : {W : Type 0} (contents : W → Option (List ℕ)) (o p : W) (text : List ℕ) → p ≡ o
    → AppendsPrefix (contents o) (contents p) text
prefix-none contents o p text same = record {
  prefix = [];
  rest = text;
  is = refl;
  written = subst (λ w. Appends (contents o) (contents w) []) (sym same) (Appends-nil (contents o));
}

module _ {R W E : Type 0} (remaining : R → Option (List ℕ)) (has_failed : R → Bool)
    (read_gives : R → Option (List ℕ) → R → Type 0) (contents : W → Option (List ℕ))
    (writes_failed : W → Bool) (write_takes : W → Option (List ℕ) → W → Type 0)
    (holds_back : W → Bool) (reports : E → Option (List ℕ)) where
  abbrev pub It : Type 0
  It = ProgramRun remaining has_failed read_gives contents writes_failed write_takes holds_back reports

  abbrev pub Ran : Profile → Task → List ℕ → It → Result (Unit {0}) Fault → Type 0
  Ran profile task text it =
      RunsTask profile remaining has_failed read_gives contents writes_failed task text it.i it.j
      it.o it.p

  abbrev pub Ended : Profile → It → Result (Unit {0}) Fault → Type 0
  Ended profile it =
      RunsWords profile remaining has_failed read_gives contents writes_failed write_takes it.words
      it.i it.j it.o it.p

  abbrev Writes : It → ℕ → List ℕ → Type 0
  Writes = WritesText remaining has_failed read_gives contents writes_failed write_takes holds_back reports

  abbrev Pair : Profile → List ℕ → It → QueryTree → Value → Type 0
  Pair = IsPair remaining has_failed read_gives contents writes_failed write_takes holds_back reports

  abbrev pub Told : It → Fault → Type 0
  Told = TellsLine remaining has_failed read_gives contents writes_failed write_takes holds_back reports

  -- help or the version is shown with a status of 0, 4 or 5
  abbrev pub Showed : It → Type 0
  Showed it =
      EndsShowing contents writes_failed write_takes holds_back reports it.o it.p it.u it.v it.status

  pub shown-is_no : (it : It) (status : ℕ) → Showed it → it.status ≡ status
      → (status ≡ 0 → ⊥) → (status ≡ 4 → ⊥) → (status ≡ 5 → ⊥) → ⊥
  shown-is_no it status (line.whole text is quiet written goes handed) same zero four five =
      zero (sym same ∙ is)
  shown-is_no it status (line.unmade is none told) same zero four five = four (sym same ∙ is)
  shown-is_no it status (line.in_part text is written goes failed told) same zero four five =
      five (sym same ∙ is)

  -- this is what that task writes, and the status where it is done
  abbrev pub Written : Profile → Task → List ℕ → It → List ℕ → Type 0
  Written profile task text it = IsWrittenBy profile remaining has_failed read_gives contents
      writes_failed task text it.i it.j

  abbrev pub StatusOf : (profile : Profile) (task : Task) (text : List ℕ) (it : It) (output : List ℕ)
      → Written profile task text it output → ℕ
  StatusOf profile task text it = status_of_done profile remaining has_failed read_gives contents
      writes_failed task text it.i it.j

  -- the run has the status of that task
  abbrev pub DoneAs : Profile → Task → List ℕ → It → Type 0
  DoneAs profile task text it = (output : List ℕ) × (is : Written profile task text it output)
      × (it.status ≡ StatusOf profile task text it output is)

  -- which is 0 or 6
  status-of_task : (profile : Profile) (task : Task) (text : List ℕ) (it : It) (output : List ℕ)
      (is : Written profile task text it output)
      → (StatusOf profile task text it output is ≡ 0) ⊎ (StatusOf profile task text it output is ≡ 6)
  status-of_task profile Check text it output is = inl refl
  status-of_task profile Canon text it output is = inl refl
  status-of_task profile (Eval nodes) text it output is =
      status-of_nodes nodes.tells_none (nodelist is.q is.d)

  pub done-either : (profile : Profile) (task : Task) (text : List ℕ) (it : It)
      → DoneAs profile task text it → (it.status ≡ 0) ⊎ (it.status ≡ 6)
  done-either profile task text it is = go (status-of_task profile task text it is.0 is.1)
    where
      go : (StatusOf profile task text it is.0 is.1 ≡ 0) ⊎ (StatusOf profile task text it is.0 is.1 ≡ 6)
          → (it.status ≡ 0) ⊎ (it.status ≡ 6)
      go (inl zero) = inl (is.2 ∙ zero)
      go (inr six) = inr (is.2 ∙ six)

  pub either-is_no : (it : It) (status : ℕ) → (it.status ≡ 0) ⊎ (it.status ≡ 6) → it.status ≡ status
      → (status ≡ 0 → ⊥) → (status ≡ 6 → ⊥) → ⊥
  either-is_no it status (inl is) same zero six = zero (sym same ∙ is)
  either-is_no it status (inr is) same zero six = six (sym same ∙ is)

  pub done-is_no : (profile : Profile) (it : It) (run : Ended profile it (Ok tt))
      → it.status ≡ StatusOf profile run.task run.query it run.calls.0 run.calls.1
      → (status : ℕ) → it.status ≡ status → (status ≡ 0 → ⊥) → (status ≡ 6 → ⊥) → ⊥
  done-is_no profile it run is status =
      either-is_no it status (done-either profile run.task run.query it (run.calls.0, run.calls.1, is))

  -- how a run ends whose words ask for a task
  pub data Ends (profile : Profile) (task : Task) (text : List ℕ) (it : It) : Type 0 where
    well : DoneAs profile task text it → it.v ≡ it.u → Ran profile task text it (Ok tt)
        → Ends profile task text it
    badly : (f : Fault) → it.status ≡ status_of f → Ran profile task text it (Err f)
        → Ends profile task text it
    early : it.status ≡ 4 → it.j ≡ it.i → it.p ≡ it.o → Ends profile task text it

  -- the words ask for one task alone
  same-task : (profile run_profile : Profile) (task : Task) (text : List ℕ) (explains : Bool)
      (it : It) (answer : Result (Unit {0}) Fault) → AskFor it.words task text profile explains
      → Ended run_profile it answer → Ran profile task text it answer
  same-task profile run_profile task text explains it answer asks run =
      subst (λ a. Ran a.2 a.0 a.1 it answer)
      (same_Some _ _ (sym run.asks ∙ asks)) run.runs

  pub how-ends : (profile : Profile) (task : Task) (text : List ℕ) (explains : Bool) (it : It)
      → AskFor it.words task text profile explains
      → RunsLine remaining has_failed read_gives contents writes_failed write_takes holds_back reports it.words
      it.i it.j it.o it.p it.u it.v it.status
      → Ends profile task text it
  how-ends profile task text explains it asks (done other run is handed quiet) =
      well
      (subst (λ a. DoneAs a.2 a.0 a.1 it) (same_Some _ _ (sym run.asks ∙ asks))
      (run.calls.0, run.calls.1, is))
      quiet (same-task profile other task text explains it (Ok tt) asks run)
  how-ends profile task text explains it asks (fault other f is run told) =
      badly f is (same-task profile other task text explains it (Err f) asks run)
  how-ends profile task text explains it asks (explained other r is run asked told) =
      badly (Query r) is (same-task profile other task text explains it (Err (Query r)) asks run)
  how-ends profile task text explains it asks (misread other d is run asked refused told) =
      badly (Document d) is
      (same-task profile other task text explains it (Err (Document d)) asks run)
  how-ends profile task text explains it asks (usage is none wrong read written told) =
      absurd (none-some _ (sym none ∙ asks))
  how-ends profile task text explains it asks (shown none wants read shows) =
      absurd (none-some _ (sym none ∙ asks))
  how-ends profile task text explains it asks (memory is read written told) =
      early is read written

  -- what is written of an accepted query and an accepted document
  module _ (profile : Profile) (documents : OneDocumentOrDefect (numbers profile))
      (queries : (text : List ℕ) → OneAnswer profile text) (nodes : NodeTask) (text : List ℕ) (it : It)
      (q : QueryTree) (d : Value) (pair : Pair profile text it q d) where
    abbrev IsWritten : List ℕ → Type 0
    IsWritten = IsNodesOutput profile remaining has_failed read_gives contents writes_failed nodes text
        it.i it.j

    prefix-is_that : WritesPrefix contents writes_failed IsWritten it.o it.p
        → AppendsPrefix (contents it.o) (contents it.p) (output_asked nodes q d)
    prefix-is_that run = subst (AppendsPrefix (contents it.o) (contents it.p))
        (output-is_that profile remaining has_failed read_gives contents writes_failed documents
        queries nodes text run.output it.i it.j q d pair run.is) run.written

    nothing : it.p ≡ it.o → AppendsPrefix (contents it.o) (contents it.p) (output_asked nodes q d)
    nothing = prefix-none contents it.o it.p (output_asked nodes q d)

    prefix-exhausted : RunsOut profile remaining has_failed read_gives contents writes_failed nodes
        text it.i it.j it.o it.p
        → AppendsPrefix (contents it.o) (contents it.p) (output_asked nodes q d)
    prefix-exhausted (at_the_query read same) = nothing same
    prefix-exhausted (at_a_read tree asked reads same) = nothing same
    prefix-exhausted (at_the_document tree bytes asked reads same) = nothing same
    prefix-exhausted (at_a_node run) = prefix-is_that run

    taken : (f : Fault) → Ran profile (Eval nodes) text it (Err f) → is_refusal f ≡ false
    taken f run = accepted-is_taken profile remaining has_failed read_gives contents writes_failed
        documents nodes text it.i it.j it.o it.p q d f pair run

    -- the status of that nodelist
    abbrev status : ℕ
    status = status_done nodes.tells_none (nodelist q d)

    status-is_that : DoneAs profile (Eval nodes) text it → it.status ≡ status
    status-is_that is =
        let same = pair-is_that profile remaining has_failed read_gives contents writes_failed documents
        queries nodes text is.0 it.i it.j q d pair is.1 in
        is.2 ∙ ap₂ (λ tree value. status_done nodes.tells_none (nodelist tree value)) same.0 same.1

    lines-badly : (f : Fault) → it.status ≡ status_of f → Ran profile (Eval nodes) text it (Err f)
        → Writes it status (output_asked nodes q d)
    lines-badly NoMemory is run = in_part (inl is) (prefix-exhausted run.2)
    lines-badly Read is run = in_part (inr is) (nothing run.2)
    lines-badly Write is run = in_part (inr is) (prefix-is_that run.0)
    lines-badly f is run = absurd (true≢false (taken f run))

    pub writes-lines : Ends profile (Eval nodes) text it → Writes it status (output_asked nodes q d)
    writes-lines (well is quiet run) =
        whole (status-is_that is)
        (writes-nodelist profile remaining has_failed read_gives contents writes_failed documents
        queries nodes text it.i it.j it.o it.p q d pair run) quiet
    writes-lines (badly f is run) = lines-badly f is run
    writes-lines (early is read same) = in_part (inl is) (nothing same)

  -- what is written of an accepted query alone: its line
  module _ (profile : Profile) (queries : (text : List ℕ) → OneAnswer profile text)
      (line_of : QueryTree → List ℕ) (text : List ℕ) (it : It) (q : QueryTree)
      (is_asked : IsAsked profile text q) where
    abbrev RanLine : Result (Unit {0}) Fault → Type 0
    RanLine = RunsQueryLine profile line_of contents writes_failed text it.o it.p

    line-is_that : (line : List ℕ) → IsQueryLine profile line_of text line → line ≡ line_of q
    line-is_that line given = given.is ∙ ap line_of
        ((queries (chars text)).one_tree given.q q given.asked.accepted is_asked.accepted)

    line-well : it.status ≡ 0 → it.v ≡ it.u → RanLine (Ok tt) → Writes it 0 (line_of q)
    line-well is quiet run = whole is
        (subst (Appends (contents it.o) (contents it.p)) (line-is_that run.output run.is)
        run.writes.written) quiet

    line-badly : (f : Fault) → it.status ≡ status_of f → RanLine (Err f) → Writes it 0 (line_of q)
    line-badly (Query r) is run = absurd (asked-is_taken profile text q r is_asked run.0)
    line-badly NoMemory is run = in_part (inl is) (prefix-none contents it.o it.p (line_of q) run)
    line-badly Write is run =
        in_part (inr is)
        (subst (AppendsPrefix (contents it.o) (contents it.p)) (line-is_that run.0.output run.0.is)
        run.0.written)
    line-badly _ is run = absurd run

    line-early : it.status ≡ 4 → it.p ≡ it.o → Writes it 0 (line_of q)
    line-early is same = in_part (inl is) (prefix-none contents it.o it.p (line_of q) same)

  module _ (profile : Profile) (queries : (text : List ℕ) → OneAnswer profile text)
      (text : List ℕ) (it : It) (q : QueryTree) (is_asked : IsAsked profile text q) where
    pub writes-canonical : Ends profile Canon text it
        → (it.j ≡ it.i) × Writes it 0 (canon_line q)
    writes-canonical (well is quiet run) =
        (run.0, line-well profile queries canon_line text it q is_asked is.2 quiet run.1)
    writes-canonical (badly f is run) =
        (run.0, line-badly profile queries canon_line text it q is_asked f is run.1)
    writes-canonical (early is read same) =
        (read, line-early profile queries canon_line text it q is_asked is same)

    pub writes-accepted : Ends profile Check text it
        → (it.j ≡ it.i) × Writes it 0 (accepted_line q)
    writes-accepted (well is quiet run) =
        (run.0, line-well profile queries accepted_line text it q is_asked is.2 quiet run.1)
    writes-accepted (badly f is run) =
        (run.0, line-badly profile queries accepted_line text it q is_asked f is run.1)
    writes-accepted (early is read same) =
        (read, line-early profile queries accepted_line text it q is_asked is same)

  -- status 0 is that of accepted pairs, and of accepted queries
  pub zero-is_accepted : (profile : Profile) (nodes : NodeTask) (text bytes : List ℕ) (it : It)
      → Ends profile (Eval nodes) text it → remaining it.i ≡ Some bytes → it.status ≡ 0
      → (q : QueryTree) × (d : Value) × Pair profile text it q d
  zero-is_accepted profile nodes text bytes it (well is quiet run) tells none =
      answered-is_accepted profile remaining has_failed read_gives contents writes_failed nodes text
      bytes it.i it.j it.o it.p tells run
  zero-is_accepted profile nodes text bytes it (badly f is run) tells none =
      absurd (fault-is_told f (sym is ∙ none))
  zero-is_accepted profile nodes text bytes it (early is read same) tells none =
      absurd (omega (arith, is, none))

  -- what bytes have that are no document
  module _ (profile : Profile) (nodes : NodeTask) (text bytes : List ℕ) (it : It) (q : QueryTree)
      (is_asked : IsAsked profile text q) (tells : remaining it.i ≡ Some bytes)
      (none : (d : Value) → IsDocumentIn (numbers profile) bytes d → length bytes ≤ document_limit → ⊥) where
    none-paired : (tree : QueryTree) (d : Value) → Pair profile text it tree d → ⊥
    none-paired tree d pair =
        let same : pair.bytes ≡ bytes = same_Some _ _ (sym pair.tells ∙ tells) in
        none d (subst (λ b. IsDocumentIn (numbers profile) b d) same pair.document)
        (subst (λ b. length b ≤ document_limit) same pair.few)

    pub not-document : Ends profile (Eval nodes) text it
        → (it.status ≡ 3) ⊎ (it.status ≡ 4) ⊎ (it.status ≡ 5)
    not-document (well is quiet run) =
        let found = answered-is_accepted profile remaining has_failed read_gives contents
        writes_failed nodes text bytes it.i it.j it.o it.p tells run in
        absurd (none-paired found.0 found.1 found.2)
    not-document (badly (Query r) is run) =
        absurd (asked-is_taken profile text q r is_asked run.0)
    not-document (badly (Document e) is run) = inl is
    not-document (badly DocumentTooLarge is run) = inl is
    not-document (badly NoMemory is run) = inr (inl is)
    not-document (badly Read is run) = inr (inr is)
    not-document (badly Write is run) = inr (inr is)
    not-document (early is read same) = inr (inl is)

  pub task-asked : (profile : Profile) (task : Task) (text : List ℕ) (it : It)
      → Ran profile task text it (Ok tt) → (q : QueryTree) × IsAsked profile text q
  task-asked profile Check text it run = (run.1.is.q, run.1.is.asked)
  task-asked profile Canon text it run = (run.1.is.q, run.1.is.asked)
  task-asked profile (Eval nodes) text it run = (run.is.q, run.is.asked)

  pub zero-is_asked : (profile : Profile) (task : Task) (text : List ℕ) (it : It)
      → Ends profile task text it → it.status ≡ 0 → (q : QueryTree) × IsAsked profile text q
  zero-is_asked profile task text it (well is quiet run) none =
      task-asked profile task text it run
  zero-is_asked profile task text it (badly f is run) none =
      absurd (fault-is_told f (sym is ∙ none))
  zero-is_asked profile task text it (early is read same) none =
      absurd (omega (arith, is, none))

  -- what a query has that is not accepted: no other fault than its own, or of memory
  module _ (profile : Profile) (text : List ℕ) (it : It)
      (none : (q : QueryTree) → IsAsked profile text q → ⊥) where
    badly-refused : (task : Task) (f : Fault) → it.status ≡ status_of f
        → Ran profile task text it (Err f) → (it.status ≡ 1) ⊎ (it.status ≡ 4)
    badly-refused task (Query r) is run = inl is
    badly-refused task NoMemory is run = inr is
    badly-refused (Eval nodes) (Document e) is run = absurd (none run.0.q run.0.asked)
    badly-refused (Eval nodes) DocumentTooLarge is run = absurd (none run.0.0 run.0.1)
    badly-refused (Eval nodes) Read is run = absurd (none run.0.0 run.0.1)
    badly-refused (Eval nodes) Write is run = absurd (none run.0.is.q run.0.is.asked)
    badly-refused Check Write is run = absurd (none run.1.0.is.q run.1.0.is.asked)
    badly-refused Canon Write is run = absurd (none run.1.0.is.q run.1.0.is.asked)
    badly-refused Check _ is run = absurd run.1
    badly-refused Canon _ is run = absurd run.1

    pub not-accepted : (task : Task) → Ends profile task text it
        → (it.status ≡ 1) ⊎ (it.status ≡ 4)
    not-accepted task (well is quiet run) =
        let asked = task-asked profile task text it run in absurd (none asked.0 asked.1)
    not-accepted task (badly f is run) = badly-refused task f is run
    not-accepted task (early is read same) = inr is

  -- status 1
  task-refused : (profile : Profile) (task : Task) (text : List ℕ) (it : It) (r : Refusal)
      → Ran profile task text it (Err (Query r))
      → Refuses profile remaining has_failed read_gives contents writes_failed text r it.i it.j
      it.o it.p
  task-refused profile Check text it r run = (run.1.0, run.0, run.1.1)
  task-refused profile Canon text it r run = (run.1.0, run.0, run.1.1)
  task-refused profile (Eval nodes) text it r run = run

  abbrev QueryRefused : It → Type 0
  QueryRefused = RefusesItsQuery remaining has_failed read_gives contents writes_failed write_takes
      holds_back reports

  refused-so : (profile : Profile) (it : It) (r : Refusal) (run : Ended profile it (Err (Query r)))
      → Told it (Query r) ⊎ ((run.explains ≡ true)
      × TellsExplained profile run.query r (reports it.u) (reports it.v))
      → QueryRefused it
  refused-so profile it r run told = record {
    task = run.task;
    text = run.query;
    profile = profile;
    explains = run.explains;
    r = r;
    asks = run.asks;
    refuses = task-refused profile run.task run.query it r run.runs;
    tells = told;
  }

  abbrev pub Says : It → Type 0
  Says it = RunsLine remaining has_failed read_gives contents writes_failed write_takes holds_back reports
      it.words it.i it.j it.o it.p it.u it.v it.status

  one-so : (it : It) → Says it → it.status ≡ 1 → QueryRefused it
  one-so it (done profile run is handed quiet) one =
      absurd (done-is_no profile it run is 1 one (λ is. omega (arith, is)) (λ is. omega (arith, is)))
  one-so it (fault profile (Query r) is run told) one = refused-so profile it r run (inl told)
  one-so it (fault profile _ is run told) one = absurd (omega (arith, is, one))
  one-so it (explained profile r is run asks told) one =
      refused-so profile it r run (inr (asks, told))
  one-so it (misread profile d is run asks refused told) one = absurd (omega (arith, is, one))
  one-so it (usage is none wrong read written told) one = absurd (omega (arith, is, one))
  one-so it (shown none wants read shows) one = absurd (shown-is_no it 1 shows one
      (λ is. omega (arith, is)) (λ is. omega (arith, is)) (λ is. omega (arith, is)))
  one-so it (memory is read written told) one = absurd (omega (arith, is, one))

  pub one-is_refused : (it : It) → it.status ≡ 1 → QueryRefused it
  one-is_refused it one = one-so it it.says one

  -- status 2
  abbrev WordsRefused : It → Type 0
  WordsRefused = RefusesItsWords remaining has_failed read_gives contents writes_failed write_takes
      holds_back reports

  two-so : (it : It) → Says it → it.status ≡ 2 → WordsRefused it
  two-so it (done profile run is handed quiet) two =
      absurd (done-is_no profile it run is 2 two (λ is. omega (arith, is)) (λ is. omega (arith, is)))
  two-so it (fault profile f is run told) two = absurd (fault-is_no_usage f (sym is ∙ two))
  two-so it (explained profile r is run asks told) two = absurd (omega (arith, is, two))
  two-so it (misread profile d is run asks refused told) two = absurd (omega (arith, is, two))
  two-so it (usage is none wrong read written told) two = (none, wrong, read, written, told)
  two-so it (shown none wants read shows) two = absurd (shown-is_no it 2 shows two
      (λ is. omega (arith, is)) (λ is. omega (arith, is)) (λ is. omega (arith, is)))
  two-so it (memory is read written told) two = absurd (omega (arith, is, two))

  pub two-is_usage : (it : It) → it.status ≡ 2 → WordsRefused it
  two-is_usage it two = two-so it it.says two

  -- the status of words that ask for nothing
  abbrev UnaskedStatus : It → Type 0
  UnaskedStatus it = (it.status ≡ 2) ⊎ (it.status ≡ 4)
      ⊎ (AsksToShow jp it.words × ((it.status ≡ 0) ⊎ (it.status ≡ 5)))

  none-shown : (it : It) → AsksToShow jp it.words → Showed it → UnaskedStatus it
  none-shown it wants (line.whole text is quiet written goes handed) = inr (inr (wants, inl is))
  none-shown it wants (line.unmade is same told) = inr (inl is)
  none-shown it wants (line.in_part text is written goes failed told) = inr (inr (wants, inr is))

  none-so : (it : It) → Says it → asked it.words ≡ None → UnaskedStatus it
  none-so it (done profile run is handed quiet) none = absurd (none-some _ (sym none ∙ run.asks))
  none-so it (fault profile f is run told) none = absurd (none-some _ (sym none ∙ run.asks))
  none-so it (explained profile r is run asks told) none =
      absurd (none-some _ (sym none ∙ run.asks))
  none-so it (misread profile d is run asks refused told) none =
      absurd (none-some _ (sym none ∙ run.asks))
  none-so it (shown fact wants read shows) none = none-shown it wants shows
  none-so it (usage is fact wrong read written told) none = inl is
  none-so it (memory is read written told) none = inr (inl is)

  pub no-words : (it : It) → asked it.words ≡ None → UnaskedStatus it
  no-words it none = none-so it it.says none

  -- status 3
  abbrev DocumentRefused : It → Type 0
  DocumentRefused = RefusesItsDocument remaining has_failed read_gives contents writes_failed
      write_takes holds_back reports

  document-so : (profile : Profile) (task : Task) (text : List ℕ) (explains : Bool) (it : It)
      (d : DocumentFault) → AskFor it.words task text profile explains
      → Ran profile task text it (Err (Document d)) → Told it (Document d) → DocumentRefused it
  document-so profile Check text explains it d asks run told = absurd run.1
  document-so profile Canon text explains it d asks run told = absurd run.1
  document-so profile (Eval nodes) text explains it d asks run told =
      program.fault nodes text profile explains d asks run (inl told)

  misread-so : (profile : Profile) (task : Task) (text : List ℕ) (explains : Bool) (it : It)
      (d : DocumentFault) → AskFor it.words task text profile explains
      → Ran profile task text it (Err (Document d)) → explains ≡ true
      → (refused : RefusesDocument profile remaining has_failed read_gives contents writes_failed
      text it.i it.j d)
      → TellsMisread profile refused.bytes (Document d) (reports it.u) (reports it.v) → DocumentRefused it
  misread-so profile Check text explains it d asks run asked refused told = absurd run.1
  misread-so profile Canon text explains it d asks run asked refused told = absurd run.1
  misread-so profile (Eval nodes) text explains it d asks run asked refused told =
      program.fault nodes text profile explains d asks (refused, run.1) (inr (asked, told))

  large-so : (profile : Profile) (task : Task) (text : List ℕ) (explains : Bool) (it : It)
      → AskFor it.words task text profile explains
      → Ran profile task text it (Err DocumentTooLarge) → Told it DocumentTooLarge
      → DocumentRefused it
  large-so profile Check text explains it asks run told = absurd run.1
  large-so profile Canon text explains it asks run told = absurd run.1
  large-so profile (Eval nodes) text explains it asks run told =
      large nodes text profile explains asks run told

  three-so : (it : It) → Says it → it.status ≡ 3 → DocumentRefused it
  three-so it (done profile run is handed quiet) three =
      absurd (done-is_no profile it run is 3 three (λ is. omega (arith, is)) (λ is. omega (arith, is)))
  three-so it (fault profile (Document d) is run told) three =
      document-so profile run.task run.query run.explains it d run.asks run.runs told
  three-so it (fault profile DocumentTooLarge is run told) three =
      large-so profile run.task run.query run.explains it run.asks run.runs told
  three-so it (fault profile _ is run told) three = absurd (omega (arith, is, three))
  three-so it (explained profile r is run asks told) three = absurd (omega (arith, is, three))
  three-so it (misread profile d is run asks refused told) three =
      misread-so profile run.task run.query run.explains it d run.asks run.runs asks refused told
  three-so it (usage is none wrong read written told) three = absurd (omega (arith, is, three))
  three-so it (shown none wants read shows) three = absurd (shown-is_no it 3 shows three
      (λ is. omega (arith, is)) (λ is. omega (arith, is)) (λ is. omega (arith, is)))
  three-so it (memory is read written told) three = absurd (omega (arith, is, three))

  pub three-is_document : (it : It) → it.status ≡ 3 → DocumentRefused it
  three-is_document it three = three-so it it.says three

  -- status 4
  four-so : (it : It) → Says it → it.status ≡ 4 → Told it NoMemory
  four-so it (done profile run is handed quiet) four =
      absurd (done-is_no profile it run is 4 four (λ is. omega (arith, is)) (λ is. omega (arith, is)))
  four-so it (fault profile NoMemory is run told) four = told
  four-so it (fault profile _ is run told) four = absurd (omega (arith, is, four))
  four-so it (explained profile r is run asks told) four = absurd (omega (arith, is, four))
  four-so it (misread profile d is run asks refused told) four = absurd (omega (arith, is, four))
  four-so it (usage is none wrong read written told) four = absurd (omega (arith, is, four))
  four-so it (shown none wants read (line.unmade is same told)) four = told
  four-so it (shown none wants read (line.whole text is quiet written goes handed)) four =
      absurd (omega (arith, is, four))
  four-so it (shown none wants read (line.in_part text is written goes failed told)) four =
      absurd (omega (arith, is, four))
  four-so it (memory is read written told) four = told

  pub four-is_memory : (it : It) → it.status ≡ 4 → Told it NoMemory
  four-is_memory it four = four-so it it.says four

  -- no other
  within-either : (it : It) → (it.status ≡ 0) ⊎ (it.status ≡ 6) → it.status ≤ 6
  within-either it (inl is) = omega (arith, is)
  within-either it (inr is) = omega (arith, is)

  within-so : (it : It) → Says it → it.status ≤ 6
  within-so it (done profile run is handed quiet) =
      within-either it (done-either profile run.task run.query it (run.calls.0, run.calls.1, is))
  within-so it (fault profile f is run told) =
      let most : status_of f ≤ 5 = fault-is_within f in omega (arith, is, most)
  within-so it (explained profile r is run asks told) = omega (arith, is)
  within-so it (misread profile d is run asks refused told) = omega (arith, is)
  within-so it (shown none wants read (line.whole text is quiet written goes handed)) =
      omega (arith, is)
  within-so it (shown none wants read (line.unmade is same told)) = omega (arith, is)
  within-so it (shown none wants read (line.in_part text is written goes failed told)) = omega (arith, is)
  within-so it (usage is none wrong read written told) = omega (arith, is)
  within-so it (memory is read written told) = omega (arith, is)

  pub status-is_within : (it : It) → it.status ≤ 6
  status-is_within it = within-so it it.says
