-- Why a run with status 0 has read and written all, and how one with status 4 or 5 left its streams.
use Rattle.std.proofs.Common.{◌≡◌, ◌⊎◌, inl, inr, ℕ, ◌≤◌, Bool, true, false, List, [], ◌∷◌, length}
use Rattle.std.proofs.Common.{Option, Some, Result, Ok, Err, refl, sym, ◌∙◌, ap, subst, arith}
use Rattle.std.proofs.lemmas.Option.{same_Some}
use Rattle.jp_check.specs.Numbers.{numbers}
use Rattle.jp_check.specs.declared.profile.Profile.{Profile}
use Rattle.jp_document.specs.Exact.{IsDocumentIn}
use Rattle.jp_document.specs.Value.{Value}
use Rattle.jp_document.specs.Node.{Node}
use Rattle.jp_evaluate.specs.Nodelist.{nodelist}
use Rattle.jp_tree.specs.Tree.{QueryTree}
use Rattle.jp_command.specs.Line.{done, explained, fault, memory, misread, shown, usage}
use Rattle.jp_command.specs.Line as line
use Rattle.jp_command.specs.Limits.{document_limit}
use Rattle.jp_command.specs.Program.{AskFor, AskForAccepted, AskForNone, FailsAtItsStreams}
use Rattle.jp_command.specs.Lines.{lines_of}
use Rattle.jp_command.specs.NodeTask.{nodes_taken, status_done}
use Rattle.jp_command.specs.Program.{FinishesItsTask, IsOutputOf, ReadsFor, SelectsNothing, ShowsItsHelp}
use Rattle.jp_command.specs.Writes.{GoByCalls}
use Rattle.jp_command.specs.Run.{IsAsked, RunsOut, at_a_node, at_a_read, at_the_document}
use Rattle.jp_command.specs.Run.{at_the_query}
use Rattle.jp_command.specs.declared.fault.Fault.{Fault}
use Rattle.jp_command.specs.declared.fault.Fault.TheVariants.{NoMemory, Read, Write}
use Rattle.jp_command.specs.declared.node_task.NodeTask.{NodeTask}
use Rattle.jp_command.specs.declared.words.Task.{Task}
use Rattle.jp_command.specs.declared.words.Task.TheVariants.{Check, Canon, Eval}
use Rattle.jp_command.proofs.Headline.{output-is_accepted}
use Rattle.jp_command.proofs.Program.{badly, done-either, early, either-is_no, fault-is_told}
use Rattle.jp_command.proofs.Program.{fault-is_within, shown-is_no, task-asked, well}
use Rattle.jp_command.proofs.Program as runs

module _ {R W E : Type 0} (remaining : R → Option (List ℕ)) (has_failed : R → Bool)
    (read_gives : R → Option (List ℕ) → R → Type 0) (contents : W → Option (List ℕ))
    (writes_failed : W → Bool) (write_takes : W → Option (List ℕ) → W → Type 0)
    (holds_back : W → Bool) (reports : E → Option (List ℕ)) where
  abbrev It : Type 0
  It = runs.It remaining has_failed read_gives contents writes_failed write_takes holds_back reports

  abbrev Ran : Profile → Task → List ℕ → It → Result (Unit {0}) Fault → Type 0
  Ran = runs.Ran remaining has_failed read_gives contents writes_failed write_takes holds_back
      reports

  abbrev Ended : Profile → It → Result (Unit {0}) Fault → Type 0
  Ended = runs.Ended remaining has_failed read_gives contents writes_failed write_takes holds_back
      reports

  abbrev Says : It → Type 0
  Says = runs.Says remaining has_failed read_gives contents writes_failed write_takes holds_back
      reports

  abbrev Told : It → Fault → Type 0
  Told = runs.Told remaining has_failed read_gives contents writes_failed write_takes holds_back
      reports

  abbrev AsksFor : It → Task → List ℕ → Profile → Type 0
  AsksFor = AskForAccepted remaining has_failed read_gives contents writes_failed write_takes
      holds_back reports

  abbrev Output : It → Task → List ℕ → Profile → List ℕ → Type 0
  Output = IsOutputOf remaining has_failed read_gives contents writes_failed write_takes holds_back
      reports

  abbrev Reads : It → Task → Type 0
  Reads = ReadsFor remaining has_failed read_gives contents writes_failed write_takes holds_back
      reports

  asks-accepted : (profile : Profile) (task : Task) (text : List ℕ) (explains : Bool) (it : It)
      → AskFor it.words task text profile explains → (q : QueryTree) × IsAsked profile text q
      → AsksFor it task text profile
  asks-accepted profile task text explains it asks accepted =
      record { explains = explains; asks = asks; q = accepted.0; accepted = accepted.1 }

  abbrev StatusOf : (profile : Profile) (task : Task) (text : List ℕ) (it : It) (output : List ℕ)
      → Output it task text profile output → ℕ
  StatusOf = runs.StatusOf remaining has_failed read_gives contents writes_failed write_takes
      holds_back reports

  abbrev done-is_no : (profile : Profile) (it : It) (run : Ended profile it (Ok tt))
      → it.status ≡ StatusOf profile run.task run.query it run.calls.0 run.calls.1
      → (status : ℕ) → it.status ≡ status → (status ≡ 0 → ⊥) → (status ≡ 6 → ⊥) → ⊥
  done-is_no = runs.done-is_no remaining has_failed read_gives contents writes_failed write_takes
      holds_back reports

  -- what has an output is an accepted query,
  output-asked : (profile : Profile) (task : Task) (text output : List ℕ) (it : It)
      → Output it task text profile output → (q : QueryTree) × IsAsked profile text q
  output-asked profile Check text output it is = (is.q, is.asked)
  output-asked profile Canon text output it is = (is.q, is.asked)
  output-asked profile (Eval nodes) text output it is = (is.q, is.asked)

  -- and what its task reads was read, if nothing was read that it does not look at
  output-reads : (profile : Profile) (task : Task) (text output : List ℕ) (it : It)
      (answer : Result (Unit {0}) Fault) → Ran profile task text it answer
      → Output it task text profile output → Reads it task
  output-reads profile Check text output it answer run is = run.0
  output-reads profile Canon text output it answer run is = run.0
  output-reads profile (Eval nodes) text output it answer run is = (is.bytes, is.reads)

  -- status 0
  task-works : (profile : Profile) (task : Task) (text : List ℕ) (it : It)
      → Ran profile task text it (Ok tt) → writes_failed it.p ≡ writes_failed it.o
  task-works profile Check text it run = run.1.writes.works
  task-works profile Canon text it run = run.1.writes.works
  task-works profile (Eval nodes) text it run = run.writes.works

  abbrev Finishes : It → Type 0
  Finishes = FinishesItsTask remaining has_failed read_gives contents writes_failed write_takes
      holds_back reports

  finishes : (profile : Profile) (it : It) (run : Ended profile it (Ok tt))
      → it.status ≡ StatusOf profile run.task run.query it run.calls.0 run.calls.1
      → holds_back it.p ≡ false → it.v ≡ it.u → Finishes it
  finishes profile it run ends handed quiet =
      let output : List ℕ = run.calls.0 in
      let is : Output it run.task run.query profile output = run.calls.1 in record {
        task = run.task;
        text = run.query;
        profile = profile;
        asks = asks-accepted profile run.task run.query run.explains it run.asks
            (output-asked profile run.task run.query output it is);
        reads = output-reads profile run.task run.query output it (Ok tt) run.runs is;
        output = output;
        is = is;
        ends = ends;
        goes = run.calls.2;
        works = task-works profile run.task run.query it run.runs;
        handed_on = handed;
        quiet = quiet;
      }

  abbrev Helps : It → Type 0
  Helps = ShowsItsHelp remaining has_failed read_gives contents writes_failed write_takes holds_back
      reports

  zero-so : (it : It) → Says it → it.status ≡ 0 → Finishes it ⊎ Helps it
  zero-so it (done profile run is handed quiet) zero = inl (finishes profile it run is handed quiet)
  zero-so it (shown none wants read (line.whole text is quiet all goes handed)) zero = inr (record {
    asks = wants;
    unread = read;
    text = text;
    written = all.written;
    goes = goes;
    works = all.works;
    handed_on = handed;
    quiet = quiet;
  })
  zero-so it (shown none wants read (line.unmade is same told)) zero = absurd (omega (arith, is, zero))
  zero-so it (shown none wants read (line.in_part text is written goes failed told)) zero =
      absurd (omega (arith, is, zero))
  zero-so it (fault profile f is run told) zero = absurd (fault-is_told f (sym is ∙ zero))
  zero-so it (explained profile r is run asks told) zero = absurd (omega (arith, is, zero))
  zero-so it (misread profile d is run asks refused told) zero = absurd (omega (arith, is, zero))
  zero-so it (usage is none wrong read written told) zero = absurd (omega (arith, is, zero))
  zero-so it (memory is read written told) zero = absurd (omega (arith, is, zero))

  pub zero-is_finished : (it : It) → it.status ≡ 0 → Finishes it ⊎ Helps it
  zero-is_finished it zero = zero-so it it.says zero

  -- status 4
  abbrev NoneFails : It → Type 0
  NoneFails it = (has_failed it.j ≡ has_failed it.i) × (writes_failed it.p ≡ writes_failed it.o)

  none-fails : (it : It) → it.j ≡ it.i → it.p ≡ it.o → NoneFails it
  none-fails it read written = (ap has_failed read, ap writes_failed written)

  task-alone : (profile : Profile) (task : Task) (text : List ℕ) (it : It)
      → Ran profile task text it (Err NoMemory) → NoneFails it
  task-alone profile Check text it run = none-fails it run.0 run.1
  task-alone profile Canon text it run = none-fails it run.0 run.1
  task-alone profile (Eval nodes) text it run = (run.0, run.1)

  four-alone : (it : It) → Says it → it.status ≡ 4 → NoneFails it
  four-alone it (done profile run is handed quiet) four =
      absurd (done-is_no profile it run is 4 four (λ is. omega (arith, is)) (λ is. omega (arith, is)))
  four-alone it (fault profile NoMemory is run told) four =
      task-alone profile run.task run.query it run.runs
  four-alone it (fault profile _ is run told) four = absurd (omega (arith, is, four))
  four-alone it (explained profile r is run asks told) four = absurd (omega (arith, is, four))
  four-alone it (misread profile d is run asks refused told) four = absurd (omega (arith, is, four))
  four-alone it (shown none wants read (line.unmade is same told)) four = none-fails it read same
  four-alone it (shown none wants read (line.whole text is quiet written goes handed)) four =
      absurd (omega (arith, is, four))
  four-alone it (shown none wants read (line.in_part text is written goes failed told)) four =
      absurd (omega (arith, is, four))
  four-alone it (usage is none wrong read written told) four = absurd (omega (arith, is, four))
  four-alone it (memory is read written told) four = none-fails it read written

  pub four-is_alone : (it : It) → it.status ≡ 4 → NoneFails it
  four-is_alone it four = four-alone it it.says four

  abbrev AsksNone : It → Type 0
  AsksNone = AskForNone remaining has_failed read_gives contents writes_failed write_takes
      holds_back reports

  abbrev Untouched : It → Type 0
  Untouched it = (it.j ≡ it.i) × (it.p ≡ it.o)

  module _ (profile : Profile) (text : List ℕ) (it : It)
      (none : (q : QueryTree) → IsAsked profile text q → ⊥) where
    unasked-exhausted : (nodes : NodeTask) → RunsOut profile remaining has_failed read_gives contents
        writes_failed nodes text it.i it.j it.o it.p → Untouched it
    unasked-exhausted nodes (at_the_query read same) = (read, same)
    unasked-exhausted nodes (at_a_read q asked reads same) = absurd (none q asked)
    unasked-exhausted nodes (at_the_document q bytes asked reads same) = absurd (none q asked)
    unasked-exhausted nodes (at_a_node run) = absurd (none run.is.q run.is.asked)

    unasked-task : (task : Task) → Ran profile task text it (Err NoMemory) → Untouched it
    unasked-task Check run = run
    unasked-task Canon run = run
    unasked-task (Eval nodes) run = unasked-exhausted nodes run.2

  four-unasked : (it : It) → Says it → it.status ≡ 4 → AsksNone it → Untouched it
  four-unasked it (done profile run is handed quiet) four none =
      absurd (done-is_no profile it run is 4 four (λ is. omega (arith, is)) (λ is. omega (arith, is)))
  four-unasked it (fault profile NoMemory is run told) four none =
      unasked-task profile run.query it
      (λ q asked. none run.task run.query profile
      (asks-accepted profile run.task run.query run.explains it run.asks (q, asked)))
      run.task run.runs
  four-unasked it (fault profile _ is run told) four none = absurd (omega (arith, is, four))
  four-unasked it (explained profile r is run asks told) four none =
      absurd (omega (arith, is, four))
  four-unasked it (misread profile d is run asks refused told) four none =
      absurd (omega (arith, is, four))
  four-unasked it (shown nothing wants read (line.unmade is same told)) four none = (read, same)
  four-unasked it (shown nothing wants read (line.whole text is quiet written goes handed)) four none =
      absurd (omega (arith, is, four))
  four-unasked it (shown nothing wants read (line.in_part text is written goes failed told)) four none =
      absurd (omega (arith, is, four))
  four-unasked it (usage is nothing wrong read written told) four none =
      absurd (omega (arith, is, four))
  four-unasked it (memory is read written told) four none = (read, written)

  pub four-is_unasked : (it : It) → it.status ≡ 4 → AsksNone it → Untouched it
  four-is_unasked it four none = four-unasked it it.says four none

  -- what bytes have that are no document: nothing is written
  module _ (profile : Profile) (nodes : NodeTask) (text bytes : List ℕ) (it : It)
      (tells : remaining it.i ≡ Some bytes)
      (none : (d : Value) → IsDocumentIn (numbers profile) bytes d → length bytes ≤ document_limit → ⊥) where
    unwritten-exhausted : RunsOut profile remaining has_failed read_gives contents writes_failed nodes
        text it.i it.j it.o it.p → it.p ≡ it.o
    unwritten-exhausted (at_the_query read same) = same
    unwritten-exhausted (at_a_read q asked reads same) = same
    unwritten-exhausted (at_the_document q all asked reads same) = same
    unwritten-exhausted (at_a_node run) =
        let pair = output-is_accepted profile remaining has_failed read_gives contents
        writes_failed nodes text bytes run.output it.i it.j tells run.is in
        let same : pair.2.bytes ≡ bytes = same_Some _ _ (sym pair.2.tells ∙ tells) in
        absurd (none pair.1 (subst (λ b. IsDocumentIn (numbers profile) b pair.1) same pair.2.document)
        (subst (λ b. length b ≤ document_limit) same pair.2.few))

    pub four-is_unwritten : runs.Ends remaining has_failed read_gives contents writes_failed
        write_takes holds_back reports profile (Eval nodes) text it
        → it.status ≡ 4 → it.p ≡ it.o
    four-is_unwritten (well is quiet run) four = absurd (either-is_no remaining has_failed read_gives contents
        writes_failed write_takes holds_back reports it 4
        (done-either remaining has_failed read_gives contents writes_failed write_takes holds_back
        reports profile (Eval nodes) text it is) four
        (λ is. omega (arith, is)) (λ is. omega (arith, is)))
    four-is_unwritten (badly NoMemory is run) four = unwritten-exhausted run.2
    four-is_unwritten (badly _ is run) four = absurd (omega (arith, is, four))
    four-is_unwritten (early is read same) four = same

  -- status 5
  abbrev StreamsFail : It → Type 0
  StreamsFail = FailsAtItsStreams remaining has_failed read_gives contents writes_failed write_takes
      holds_back reports

  read-fails : (profile : Profile) (task : Task) (text : List ℕ) (explains : Bool) (it : It)
      → AskFor it.words task text profile explains → Ran profile task text it (Err Read)
      → Told it Read → StreamsFail it
  read-fails profile Check text explains it asks run told = absurd run.1
  read-fails profile Canon text explains it asks run told = absurd run.1
  read-fails profile (Eval nodes) text explains it asks run told = inl (record {
    nodes = nodes;
    text = text;
    profile = profile;
    asks = asks-accepted profile (Eval nodes) text explains it asks run.0;
    fails = run.1;
    unwritten = run.2;
    tells = told;
  })

  task-unwritten : (profile : Profile) (task : Task) (text : List ℕ) (it : It)
      → Ran profile task text it (Err Write) → writes_failed it.p ≡ true
  task-unwritten profile Check text it run = run.1.1
  task-unwritten profile Canon text it run = run.1.1
  task-unwritten profile (Eval nodes) text it run = run.1

  write-fails : (profile : Profile) (it : It) → Ended profile it (Err Write) → Told it Write
      → StreamsFail it
  write-fails profile it run told =
      let output : List ℕ = run.calls.0 in
      let is : Output it run.task run.query profile output = run.calls.1 in inr (inl (record {
        task = run.task;
        text = run.query;
        profile = profile;
        asks = asks-accepted profile run.task run.query run.explains it run.asks
            (output-asked profile run.task run.query output it is);
        reads = output-reads profile run.task run.query output it (Err Write) run.runs is;
        output = output;
        is = is;
        goes = run.calls.2;
        fails = task-unwritten profile run.task run.query it run.runs;
        tells = told;
      }))

  five-so : (it : It) → Says it → it.status ≡ 5 → StreamsFail it
  five-so it (done profile run is handed quiet) five =
      absurd (done-is_no profile it run is 5 five (λ is. omega (arith, is)) (λ is. omega (arith, is)))
  five-so it (fault profile Read is run told) five =
      read-fails profile run.task run.query run.explains it run.asks run.runs told
  five-so it (fault profile Write is run told) five = write-fails profile it run told
  five-so it (fault profile _ is run told) five = absurd (omega (arith, is, five))
  five-so it (explained profile r is run asks told) five = absurd (omega (arith, is, five))
  five-so it (misread profile d is run asks refused told) five = absurd (omega (arith, is, five))
  five-so it (shown none wants read (line.in_part text is written goes failed told)) five = inr (inr (record {
    asks = wants;
    unread = read;
    text = text;
    written = written;
    goes = goes;
    fails = failed;
    tells = told;
  }))
  five-so it (shown none wants read (line.whole text is quiet written goes handed)) five =
      absurd (omega (arith, is, five))
  five-so it (shown none wants read (line.unmade is same told)) five =
      absurd (omega (arith, is, five))
  five-so it (usage is none wrong read written told) five = absurd (omega (arith, is, five))
  five-so it (memory is read written told) five = absurd (omega (arith, is, five))

  pub five-is_streams : (it : It) → it.status ≡ 5 → StreamsFail it
  five-is_streams it five = five-so it it.says five

  -- status 6
  abbrev Nothing : It → Type 0
  Nothing = SelectsNothing remaining has_failed read_gives contents writes_failed write_takes
      holds_back reports

  none-selected : (tells_none : Bool) (ns : List Node) → status_done tells_none ns ≡ 6
      → (tells_none ≡ true) × (ns ≡ [])
  none-selected true [] six = (refl, refl)
  none-selected true (n ∷ ns) six = absurd (omega (arith, six))
  none-selected false ns six = absurd (omega (arith, six))

  -- of none, none is taken
  none-taken : (first : Bool) → nodes_taken first [] ≡ []
  none-taken true = refl
  none-taken false = refl

  selects-none : (profile : Profile) (task : Task) (text : List ℕ) (explains : Bool) (it : It)
      → AskFor it.words task text profile explains → Ran profile task text it (Ok tt)
      → (output : List ℕ) (is : Output it task text profile output)
      → GoByCalls write_takes it.o it.p output → StatusOf profile task text it output is ≡ 6
      → holds_back it.p ≡ false → it.v ≡ it.u → Nothing it
  selects-none profile Check text explains it asks run output is goes six handed quiet =
      absurd (omega (arith, six))
  selects-none profile Canon text explains it asks run output is goes six handed quiet =
      absurd (omega (arith, six))
  selects-none profile (Eval nodes) text explains it asks run output is goes six handed quiet =
      let none = none-selected nodes.tells_none (nodelist is.q is.d) six in
      let empty : output ≡ [] = is.is
      ∙ ap (λ ns. lines_of nodes.form (nodes_taken nodes.is_first ns)) none.1
      ∙ ap (lines_of nodes.form) (none-taken nodes.is_first) in record {
        nodes = nodes;
        text = text;
        profile = profile;
        asks = asks-accepted profile (Eval nodes) text explains it asks (is.q, is.asked);
        asks_status = none.0;
        is = record {
          q = is.q;
          bytes = is.bytes;
          d = is.d;
          asked = is.asked;
          reads = is.reads;
          document = is.document;
          is = sym empty ∙ is.is;
        };
        none = none.1;
        goes = subst (GoByCalls write_takes it.o it.p) empty goes;
        works = run.writes.works;
        handed_on = handed;
        quiet = quiet;
      }

  six-so : (it : It) → Says it → it.status ≡ 6 → Nothing it
  six-so it (done profile run is handed quiet) six =
      selects-none profile run.task run.query run.explains it run.asks run.runs run.calls.0 run.calls.1
      run.calls.2 (sym is ∙ six) handed quiet
  six-so it (fault profile f is run told) six =
      let most = fault-is_within f in absurd (omega (arith, is, six, most))
  six-so it (explained profile r is run asks told) six = absurd (omega (arith, is, six))
  six-so it (misread profile d is run asks refused told) six = absurd (omega (arith, is, six))
  six-so it (shown none wants read shows) six =
      absurd (shown-is_no remaining has_failed read_gives contents writes_failed write_takes holds_back
      reports it 6 shows six
      (λ is. omega (arith, is)) (λ is. omega (arith, is)) (λ is. omega (arith, is)))
  six-so it (usage is none wrong read written told) six = absurd (omega (arith, is, six))
  six-so it (memory is read written told) six = absurd (omega (arith, is, six))

  pub six-is_nothing : (it : It) → it.status ≡ 6 → Nothing it
  six-is_nothing it six = six-so it it.says six
