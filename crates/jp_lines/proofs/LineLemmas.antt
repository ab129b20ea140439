-- One line: its answer, its refusal, and why a run stops at it.
use Rattle.std.proofs.Common.{◌≡◌, ◌⊎◌, inl, inr, ℕ, suc, ◌≤◌, Bool, true, false, List, []}
use Rattle.std.proofs.Common.{◌∷◌}
use Rattle.std.proofs.Common.{length, Option, Some, Result, Ok, Err, IfOk, IfErr}
use Rattle.std.proofs.Common.{subst, refl, sym, ◌∙◌, ap, arith}
use Rattle.std.proofs.KnownBytes.{Keeps-refl}
use Rattle.std.proofs.lemmas.List.{append-nil}
use Rattle.std.specs.Io.KnownBytes.{Appends, Keeps}
use Rattle.std.specs.Prelude.{⊤}
use Rattle.std.specs.Result.{IsErrAnd}
use Rattle.jp_document.specs.Exact.{IsDocumentIn}
use Rattle.jp_document.specs.Value.{Value}
use Rattle.jp_document.specs.declared.fault.DocumentFault.{DocumentFault}
use Rattle.jp_document.specs.declared.fault.DocumentFault.TheVariants as document
use Rattle.jp_exact.specs.Defects.{IsDocumentFaultIn}
use Rattle.jp_check.specs.Numbers.{numbers}
use Rattle.jp_limit.specs.OutputLimit.{StaysWithin}
use Rattle.jp_command.specs.Limits.{document_limit}
use Rattle.jp_command.specs.Output.{AppendsPrefix, WritesAll}
use Rattle.jp_command.specs.Selecting.{IsBeyond}
use Rattle.jp_command.specs.Written.{StopsWriting}
use Rattle.jp_command.specs.declared.selection_fault.SelectionFault.{SelectionFault}
use Rattle.jp_command.specs.declared.selection_fault.SelectionFault.TheVariants as selection
use Rattle.jp_command.specs.declared.fault.Fault.{Fault}
use Rattle.jp_command.specs.declared.fault.Fault.TheVariants as fault
use Rattle.jp_command.proofs.Streams.{Appends-keeps, prefix-whole}
use Rattle.jp_lines.specs.Lines.{is_blank_line}
use Rattle.jp_lines.specs.Outcome.{LineOutcome, Answered, Blank, Refused, ComesTo, blank, document}
use Rattle.jp_lines.specs.Outcome.{IsDefective, IsRefusal, defective, no_document, steps_used_up, too_large}
use Rattle.jp_lines.specs.Outcome.{too_many_bytes, too_many_nodes}
use Rattle.jp_lines.specs.Outcome.{left_after, output_for, plus, refusals, tally_in, tally_of, told_of_all}
use Rattle.jp_lines.specs.Outcome.{written_of}
use Rattle.jp_lines.specs.Run.{Goes, GoesInPart, WritesInPart}
use Rattle.jp_lines.specs.Told.{Tells}
use Rattle.jp_lines.specs.Private.Answers.{AnswersOrRefuses, AnswersInPart, AnswersLine}
use Rattle.jp_lines.specs.Private.Answers.{IsDefectOfBytes, StopsAnswering}
use Rattle.jp_lines.specs.Private.Answers.{defect_of}
use Rattle.jp_lines.specs.Private.Limits.{WritesOrGivesUp, WritesWithin, stop_of}
use Rattle.jp_lines.specs.Private.Passing.{GoesThrough, Standing, StopsEnding, kept_of}
use Rattle.jp_lines.specs.Private.Treating.{Treats}
use Rattle.jp_lines.specs.Task.{Task, selected_in}
use Rattle.jp_lines.specs.declared.answer.Reply.{Reply}
use Rattle.jp_lines.specs.declared.answer.Reply.TheVariants as reply
use Rattle.jp_lines.specs.declared.answer.Reply.TheVariants.{Written}
use Rattle.jp_lines.specs.declared.defect.Defect.{Defect}
use Rattle.jp_lines.specs.declared.defect.Defect.TheVariants as defect
use Rattle.jp_lines.specs.declared.defect.RefusedLine.{RefusedLine}
use Rattle.jp_lines.specs.declared.options.Options.{Options}
use Rattle.jp_lines.specs.declared.stop.Stop.{Stop}
use Rattle.jp_lines.specs.declared.stop.Stop.TheVariants as stop
use Rattle.jp_lines.specs.declared.tally.Tally.{Tally}
use Rattle.jp_lines.proofs.Going.{goes-none}
use Rattle.jp_lines.proofs.Outcomes.{come-one, comes-kept}
use Rattle.jp_lines.proofs.Tallies.{plus-none, tally-one, told-none}
use Rattle.jp_lines.proofs.ToldLemmas.{Appends-none, tells-none, writes-none}

-- an error that is this one
pub err-is : {T E : Type 0} (r : Result T E) (e : E) (P : E → Type 0) → IsErrAnd r (λ x. x ≡ e) → P e
    → IfErr r P
err-is (Ok x) e P is holds = absurd is
err-is (Err x) e P is holds = subst P (sym is) holds

-- the defect of a line that is no document is the fault of its bytes
pub defect-of_bytes : (options : Options) (task : Task) (number : ℕ) (line : List ℕ) (d : Defect)
    → IsDefective options task number line d → IsDefectOfBytes options.profile line d
defect-of_bytes options task number line d (no_document fault few some is known) = is
defect-of_bytes options task number line d (too_large many) = tt
defect-of_bytes options task number line d (steps_used_up doc made few some is limit) = tt
defect-of_bytes options task number line d (too_many_nodes doc few some is beyond) = tt
defect-of_bytes options task number line d (too_many_bytes doc few some is beyond) = tt

-- where a text could not be made, nothing of it is written
pub stops-made : {W : Type 0} (contents : W → Option (List ℕ)) (has_failed : W → Bool)
    (f : SelectionFault) (made : ℕ) (text : List ℕ) (o : W)
    → IfErr (stop_of f made) (StopsWriting contents has_failed o o text)
stops-made contents has_failed selection.NoMemory made text o = (
  record { prefix = []; rest = text; is = refl; written = Appends-none (contents o) },
  refl,
)
stops-made contents has_failed selection.StepsUsedUp made text o = tt
stops-made contents has_failed selection.TooManyNodes made text o = tt
stops-made contents has_failed selection.TooManyBytes made text o = tt

module _ {W : Type 0} (contents : W → Option (List ℕ)) (has_failed : W → Bool) (options : Options)
    (count : ℕ) (text : List ℕ) (o : W) where
  pub within-made : (f : SelectionFault) (made : ℕ)
      → IfErr (stop_of f made) (WritesWithin contents has_failed options count text o o)
  within-made selection.NoMemory made = inl (refl, refl)
  within-made selection.StepsUsedUp made = tt
  within-made selection.TooManyNodes made = tt
  within-made selection.TooManyBytes made = tt

  -- why it could not is told
  pub gives-up : (f : SelectionFault) (made : ℕ)
      → IsBeyond options.output_limit count (length text) f
      → (f ≡ selection.StepsUsedUp → options.limit ≡ Some made)
      → IfOk (stop_of f made) (WritesOrGivesUp contents has_failed options count text o o)
  gives-up selection.NoMemory made beyond spent = tt
  gives-up selection.StepsUsedUp made beyond spent = (spent refl, refl)
  gives-up selection.TooManyNodes made beyond spent = (beyond, refl)
  gives-up selection.TooManyBytes made beyond spent = (beyond, refl)

module _ {W : Type 0} (contents : W → Option (List ℕ)) (has_failed : W → Bool) (options : Options)
    (task : Task) (n : ℕ) (line : List ℕ) where
  abbrev output : Value → List ℕ
  output d = output_for options task n line d

  pub answers-blank : (o : W) → length line ≤ document_limit → is_blank_line line ≡ true
      → AnswersOrRefuses contents has_failed options task n line o o reply.Blank
  answers-blank o few is = (blank few is, refl)

  answers-document : (d : Value) (o p : W) → length line ≤ document_limit
      → is_blank_line line ≡ false → IsDocumentIn (numbers options.profile) line d
      → StaysWithin options.output_limit (selected_in task d) (length (output d))
      → WritesAll contents has_failed o p (output d) → (selected : ℕ) → selected ≡ selected_in task d
      → AnswersLine contents has_failed options task n line o p selected
  answers-document d o p few some is within writes selected same = record {
    output = output d;
    comes = subst (λ b. ComesTo options task n line (Answered b (output d))) (sym same)
        (document d few some is within);
    writes = writes;
  }

  -- it is written, or given up
  pub answers-wanted : (d : Value) (o p : W) (given : Reply) → length line ≤ document_limit
      → is_blank_line line ≡ false → IsDocumentIn (numbers options.profile) line d
      → WritesOrGivesUp contents has_failed options (selected_in task d) (output d) o p given
      → AnswersOrRefuses contents has_failed options task n line o p given
  answers-wanted d o p reply.Blank few some is up = absurd up
  answers-wanted d o p (Written selected) few some is writes =
      answers-document d o p few some is writes.1 writes.2 selected writes.0
  answers-wanted d o p (reply.Refused (defect.StepsUsedUp made)) few some is up =
      (steps_used_up d made few some is up.0, up.1)
  answers-wanted d o p (reply.Refused defect.TooManyNodes) few some is up =
      (too_many_nodes d few some is up.0, up.1)
  answers-wanted d o p (reply.Refused defect.TooManyBytes) few some is up =
      (too_many_bytes d few some is up.0, up.1)
  answers-wanted d o p (reply.Refused (defect.Document f)) few some is up = absurd up.0
  answers-wanted d o p (reply.Refused defect.TooLarge) few some is up = absurd up.0

  pub stops-document : (d : Value) (o p : W) (f : Fault) → length line ≤ document_limit
      → is_blank_line line ≡ false → IsDocumentIn (numbers options.profile) line d
      → StopsWriting contents has_failed o p (output d) f
      → WritesWithin contents has_failed options (selected_in task d) (output d) o p f
      → StopsAnswering contents has_failed options task n line o p f
  stops-document d o p f few some is stops (inl none) =
      subst (StopsAnswering contents has_failed options task n line o p) (sym none.0)
      (inl none.1, ap has_failed none.1)
  stops-document d o p fault.NoMemory few some is stops (inr within) = (
    inr (record {
      selected = selected_in task d;
      output = output d;
      comes = document d few some is within;
      writes = stops.0;
    }),
    stops.1,
  )
  stops-document d o p fault.Write few some is stops (inr within) = (
    record {
      selected = selected_in task d;
      output = output d;
      comes = document d few some is within;
      writes = stops.0;
    },
    stops.1,
  )
  stops-document d o p (fault.Query r) few some is stops (inr within) = absurd stops
  stops-document d o p (fault.Document f) few some is stops (inr within) = absurd stops
  stops-document d o p fault.DocumentTooLarge few some is stops (inr within) = absurd stops
  stops-document d o p fault.Read few some is stops (inr within) = absurd stops

  -- both, where a count and a text are those of the document
  module _ (d : Value) (o p : W) (count : ℕ) (text : List ℕ) (few : length line ≤ document_limit)
      (some : is_blank_line line ≡ false) (is : IsDocumentIn (numbers options.profile) line d) (counted : count ≡ selected_in task d)
      (same : text ≡ output d) where
    pub answers-same : (given : Result Reply Fault)
        → IfOk given (WritesOrGivesUp contents has_failed options count text o p)
        → IfOk given (AnswersOrRefuses contents has_failed options task n line o p)
    answers-same (Ok reply) writes =
        answers-wanted d o p reply few some is
        (subst (λ t. WritesOrGivesUp contents has_failed options (selected_in task d) t o p reply) same
        (subst (λ k. WritesOrGivesUp contents has_failed options k text o p reply) counted writes))
    answers-same (Err f) writes = tt

    pub stops-same : (given : Result Reply Fault)
        → IfErr given (StopsWriting contents has_failed o p text)
        → IfErr given (WritesWithin contents has_failed options count text o p)
        → IfErr given (StopsAnswering contents has_failed options task n line o p)
    stops-same (Ok reply) stops within = tt
    stops-same (Err f) stops within =
        stops-document d o p f few some is
        (subst (λ t. StopsWriting contents has_failed o p t f) same stops)
        (subst (λ t. WritesWithin contents has_failed options (selected_in task d) t o p f) same
        (subst (λ k. WritesWithin contents has_failed options k text o p f) counted within))

  -- what is no document is refused, and want of memory stops
  pub refuses-document : (f : DocumentFault) (o : W) → length line ≤ document_limit
      → is_blank_line line ≡ false → IsDocumentFaultIn (numbers options.profile) line f
      → IfOk (defect_of f) (AnswersOrRefuses contents has_failed options task n line o o)
      × IfErr (defect_of f) (StopsAnswering contents has_failed options task n line o o)
  refuses-document document.NoMemory o few some is = (tt, (inl refl, refl))
  refuses-document (document.NumberRange path) o few some is =
      ((no_document (document.NumberRange path) few some is (λ e. cc), refl), tt)
  refuses-document document.NotJson o few some is =
      ((no_document document.NotJson few some is (λ e. cc), refl), tt)
  refuses-document (document.NotWhole path) o few some is =
      ((no_document (document.NotWhole path) few some is (λ e. cc), refl), tt)
  refuses-document document.ListTooLong o few some is =
      ((no_document document.ListTooLong few some is (λ e. cc), refl), tt)

-- a text that no refusal is told of
told-nothing : (lead : List ℕ) (most : Option ℕ) (x : LineOutcome) → refusals (x ∷ []) ≡ []
    → told_of_all lead most (x ∷ []) ≡ []
told-nothing lead most Blank none = told-none lead most
told-nothing lead most (Answered count output) none = told-none lead most
told-nothing lead most (Refused r) none = cc

module _ (options : Options) (lead : List ℕ) {W E : Type 0} (contents : W → Option (List ℕ))
    (writes_failed : W → Bool) (reports : E → Option (List ℕ)) (reports_failed : E → Bool)
    (task : Task) (n : ℕ) (kept line : List ℕ) (is : kept ≡ kept_of line) (before : Tally) where
  abbrev Comes : LineOutcome → Type 0
  Comes = ComesTo options task n kept

  -- how many refusals may be told still
  abbrev left : Option ℕ
  left = left_after before.refused options.reports

  abbrev Treated : Tally → W → W → E → E → Type 0
  Treated = Treats options lead contents writes_failed reports reports_failed task n line before

  abbrev Ends : W → W → E → E → Stop → Type 0
  Ends = StopsEnding options lead contents writes_failed reports reports_failed task n line before before

  abbrev Part : W → W → E → E → Type 0
  Part = GoesInPart options lead contents writes_failed reports reports_failed task left n (line ∷ [])
      ⊤ 0 (tally_of [])

  comes-line : (x : LineOutcome) → Comes x → ComesTo options task n line x
  comes-line x comes = comes-kept options task n line x (subst (λ l. ComesTo options task n l x) is comes)

  -- a line that is not refused
  treats-quietly : (x : LineOutcome) (after : Tally) (o p : W) (u : E) → refusals (x ∷ []) ≡ []
      → Comes x → WritesAll contents writes_failed o p (written_of x) → after ≡ plus before (tally_in x)
      → Treated after o p u u
  treats-quietly x after o p u none comes writes counts = record {
    outcome = x;
    goes = record {
      come = come-one options task n line x (comes-line x comes);
      writes = subst (WritesAll contents writes_failed o p) (sym (append-nil (written_of x))) writes;
      tells = subst (Tells reports reports_failed u u) (sym (told-nothing lead left x none))
          (tells-none reports reports_failed u);
      allowed = λ some. absurd (some none);
      quiet = λ e. refl;
    };
    counts = counts;
  }

  pub treats-blank : (o p r : W) (u : E)
      → AnswersOrRefuses contents writes_failed options task n kept o p reply.Blank
      → Keeps (contents p) (contents r) → writes_failed r ≡ writes_failed p → Treated before o r u u
  treats-blank o p r u answers keeps works =
      treats-quietly Blank before o r u refl answers.0
      (record {
        written = Appends-keeps _ _ _ _
            (subst (λ w. Appends (contents o) (contents w) []) (sym answers.1)
            (Appends-none (contents o))) keeps;
        works = works ∙ ap writes_failed answers.1;
      })
      (sym (plus-none before))

  pub treats-answered : (selected : ℕ) (after : Tally) (o p r : W) (u : E)
      → (answers : AnswersLine contents writes_failed options task n kept o p selected)
      → Keeps (contents p) (contents r) → writes_failed r ≡ writes_failed p
      → after ≡ plus before (tally_in (Answered selected answers.output)) → Treated after o r u u
  treats-answered selected after o p r u answers keeps works counts =
      treats-quietly (Answered selected answers.output) after o r u refl answers.comes
      (record {
        written = Appends-keeps _ _ _ _ answers.writes.written keeps;
        works = works ∙ answers.writes.works;
      })
      counts

  pub treats-refused : (d : Defect) (r : RefusedLine) (after : Tally) (o p : W) (u v : E)
      → IsDefective options task n kept d → IsRefusal options n kept d r → p ≡ o
      → Tells reports reports_failed u v (told_of_all lead left (Refused r ∷ []))
      → options.keep_going ≡ true → after ≡ plus before (tally_in (Refused r)) → Treated after o p u v
  treats-refused d r after o p u v has of same tells going counts = record {
    outcome = Refused r;
    goes = record {
      come = come-one options task n line (Refused r) (comes-line _ (defective d r has of));
      writes = subst (λ w. WritesAll contents writes_failed o w []) (sym same)
          (writes-none contents writes_failed o);
      tells = tells;
      allowed = λ e. going;
      quiet = λ e. cc;
    };
    counts = counts;
  }

  -- nothing of the line is told, and of what is to be written of it nothing, or a prefix
  in-part : (o p : W) (u v : E) → v ≡ u
      → Keeps (contents o) (contents p)
      ⊎ WritesInPart options lead contents writes_failed reports reports_failed task n (line ∷ []) ⊤ o p
      → Part o p u v
  in-part o p u v told next = record {
    lines = [];
    rest = line ∷ [];
    front = refl;
    complete = inr tt;
    outcomes = [];
    between = o;
    goes = subst
        (λ w. Goes options lead contents writes_failed reports reports_failed task left n [] [] o o u w)
        (sym told)
        (goes-none options lead contents writes_failed reports reports_failed task left n o u);
    counts = refl;
    answered = omega arith;
    next = subst
        (λ m. Keeps (contents o) (contents p)
        ⊎ WritesInPart options lead contents writes_failed reports reports_failed task m (line ∷ []) ⊤ o p)
        (omega arith) next;
  }

  part-none : (o p : W) (u v : E) → p ≡ o → v ≡ u → Part o p u v
  part-none o p u v written told =
      in-part o p u v told
      (inl (subst (λ r. Keeps (contents o) (contents r)) (sym written) (Keeps-refl (contents o))))

  part-written : (selected : ℕ) (text : List ℕ) (o p : W) (u : E) → Comes (Answered selected text)
      → AppendsPrefix (contents o) (contents p) text → Part o p u u
  part-written selected text o p u comes writes =
      in-part o p u u refl (inr (record {
        line = line;
        rest = [];
        first = refl;
        complete = inr tt;
        selected = selected;
        output = text;
        comes = comes-line _ comes;
        writes = writes;
      }))

  ends-exhausted : (o p : W) (u v : E) → Part o p u v → writes_failed p ≡ writes_failed o
      → Ends o p u v (stop.Run fault.NoMemory)
  ends-exhausted o p u v part works = record {
    more = tally_of [];
    counts = sym (plus-none before);
    stops = (part, works);
  }

  ends-failed : (o p : W) (u v : E) → Part o p u v → writes_failed p ≡ true
      → Ends o p u v (stop.Run fault.Write)
  ends-failed o p u v part fails = record {
    more = tally_of [];
    counts = sym (plus-none before);
    stops = (part, fails);
  }

  pub stops-answering : (f : Fault) (o p : W) (u : E)
      → StopsAnswering contents writes_failed options task n kept o p f → Ends o p u u (stop.Run f)
  stops-answering fault.NoMemory o p u stops = ends-exhausted o p u u (go stops.0) stops.1
    where
      go : (p ≡ o) ⊎ AnswersInPart contents writes_failed options task n kept o p → Part o p u u
      go (inl same) = part-none o p u u same refl
      go (inr part) = part-written part.selected part.output o p u part.comes part.writes
  stops-answering fault.Write o p u stops =
      ends-failed o p u u
      (part-written stops.0.selected stops.0.output o p u stops.0.comes stops.0.writes) stops.1
  stops-answering (fault.Query r) o p u stops = absurd stops
  stops-answering (fault.Document f) o p u stops = absurd stops
  stops-answering fault.DocumentTooLarge o p u stops = absurd stops
  stops-answering fault.Read o p u stops = absurd stops

  -- the flush after its answer failed
  pub stops-flushing : (selected : ℕ) (o p r : W) (u : E)
      → AnswersLine contents writes_failed options task n kept o p selected
      → Keeps (contents p) (contents r) → writes_failed r ≡ true
      → Ends o r u u (stop.Run fault.Write)
  stops-flushing selected o p r u answers keeps fails =
      ends-failed o r u u
      (part-written selected answers.output o r u answers.comes
      (prefix-whole _ _ _ (Appends-keeps _ _ _ _ answers.writes.written keeps))) fails

  -- the flush after a blank line failed
  pub stops-flushing_blank : (o p r : W) (u : E)
      → AnswersOrRefuses contents writes_failed options task n kept o p reply.Blank
      → Keeps (contents p) (contents r) → writes_failed r ≡ true
      → Ends o r u u (stop.Run fault.Write)
  stops-flushing_blank o p r u answers keeps fails =
      ends-failed o r u u
      (in-part o r u u refl
      (inl (subst (λ w. Keeps (contents w) (contents r)) answers.1 keeps))) fails

  -- there is no number for what is selected up to it
  pub stops-counting_nodes : (selected : ℕ) (o p r : W) (u : E)
      → AnswersLine contents writes_failed options task n kept o p selected
      → Keeps (contents p) (contents r) → writes_failed r ≡ writes_failed p
      → Ends o r u u (stop.Run fault.NoMemory)
  stops-counting_nodes selected o p r u answers keeps works =
      ends-exhausted o r u u
      (part-written selected answers.output o r u answers.comes
      (prefix-whole _ _ _ (Appends-keeps _ _ _ _ answers.writes.written keeps)))
      (works ∙ answers.writes.works)

  -- nor for the lines that are refused
  pub stops-counting_refusals : (o p : W) (u : E) → p ≡ o → Ends o p u u (stop.Run fault.NoMemory)
  stops-counting_refusals o p u same =
      ends-exhausted o p u u (part-none o p u u same refl) (ap writes_failed same)

  -- its refusal stops the run, or there is no memory to tell it
  pub stops-refusing : (d : Defect) (o p : W) (u v : E) (why : Stop)
      → IsDefective options task n kept d
      → p ≡ o → v ≡ u
      → (why ≡ stop.Run fault.NoMemory)
      ⊎ (((r : RefusedLine) × IsRefusal options n kept d r × (why ≡ stop.Line r))
      × (options.keep_going ≡ false))
      → Ends o p u v why
  stops-refusing d o p u v why has written told (inl is) =
      subst (Ends o p u v) (sym is)
      (ends-exhausted o p u v (part-none o p u v written told) (ap writes_failed written))
  stops-refusing d o p u v why has written told (inr is) =
      subst (Ends o p u v) (sym is.0.2) (record {
        more = tally_of [];
        counts = sym (plus-none before);
        stops = record {
          lines = [];
          line = line;
          rest = [];
          split = refl;
          outcomes = [];
          goes = subst
              (λ r. Goes options lead contents writes_failed reports reports_failed task left n [] [] o r
              u v)
              (sym written)
              (subst
              (λ w. Goes options lead contents writes_failed reports reports_failed task left n [] [] o o
              u w)
              (sym told)
              (goes-none options lead contents writes_failed reports reports_failed task left n o u));
          counts = refl;
          unrefused = refl;
          comes = subst (λ m. ComesTo options task m line (Refused is.0.0)) (omega arith)
              (comes-line _ (defective d is.0.0 has is.0.1));
          complete = inr (inl tt);
          answered = omega arith;
          stops = is.1;
        };
      })

module _ (options : Options) (lead : List ℕ) {W E : Type 0} (contents : W → Option (List ℕ))
    (writes_failed : W → Bool) (reports : E → Option (List ℕ)) (reports_failed : E → Bool)
    (task : Task) where
  -- a line that is treated is gone over
  pub over-line : (s t : Standing) (o p : W) (u v : E)
      → Treats options lead contents writes_failed reports reports_failed task s.number s.line
      s.tally t.tally o p u v
      → t.number ≡ suc s.number
      → GoesThrough options lead contents writes_failed reports reports_failed task (s.line ∷ []) s t
      o p u v
  over-line s t o p u v treats number = record {
    outcomes = treats.outcome ∷ [];
    goes = treats.goes;
    number = number ∙ omega arith;
    counts = treats.counts ∙ ap (plus s.tally) (sym (tally-one treats.outcome));
  }

  -- there are no numbers for the lines behind it
  pub stops-counting : (n : ℕ) (line : List ℕ) (before after : Tally) (o p : W) (u v : E)
      → Treats options lead contents writes_failed reports reports_failed task n line before after
      o p u v
      → StopsEnding options lead contents writes_failed reports reports_failed task n line before after
      o p u v (stop.Run fault.NoMemory)
  stops-counting n line before after o p u v treats = record {
    more = tally_in treats.outcome;
    counts = treats.counts;
    stops = (
      record {
        lines = line ∷ [];
        rest = [];
        front = refl;
        complete = inr tt;
        outcomes = treats.outcome ∷ [];
        between = p;
        goes = treats.goes;
        counts = sym (tally-one treats.outcome);
        answered = omega arith;
        next = inl (Keeps-refl (contents p));
      },
      treats.goes.writes.works,
    );
  }
