-- What the program says of a fault: its line, or that of a refused query or document with an explanation.
use Rattle.std.proofs.Common.{◌≡◌, ◌⊎◌, ◌∙◌, inl, inr, ℕ, Bool, true, List, Option, Err, subst, sym}
use Rattle.jp_check.specs.Numbers.{numbers}
use Rattle.jp_check.specs.declared.profile.Profile.{Profile}
use Rattle.jp_exact.specs.Defects.{IsDocumentFaultIn}
use Rattle.jp_document.specs.declared.fault.DocumentFault.{DocumentFault}
use Rattle.jp_command.specs.Line.{EndsAs, RunsLine, TellsExplained, TellsMisread, explained, fault}
use Rattle.jp_command.specs.Line.{fault_line, misread, status_of}
use Rattle.jp_command.specs.Output.{AppendsPrefix}
use Rattle.jp_command.specs.Private.Asked.{TellsFault, line_alone, with_explanation, with_misreading}
use Rattle.jp_command.specs.Private.Kept.{IsFaultOfBytes, KeepsRead}
use Rattle.jp_command.specs.declared.fault.Fault.{Fault}
use Rattle.jp_command.specs.declared.fault.Fault.TheVariants.{Query, Document, DocumentTooLarge}
use Rattle.jp_command.specs.declared.fault.Fault.TheVariants.{NoMemory, Read, Write}
use Rattle.jp_query.specs.declared.refusal.Refusal.{Refusal}

-- what is told of a refused query that the words ask to explain
pub tells-refusal : (old new : Option (List ℕ)) (explains : Bool) (profile : Profile)
    (query bytes : List ℕ) (r : Refusal) (f : Fault) → f ≡ Query r → explains ≡ true
    → AppendsPrefix old new (fault_line (Query r)) ⊎ TellsExplained profile query r old new
    → TellsFault old new explains profile query bytes f
tells-refusal old new explains profile query bytes r f is asks (inl prefix) =
    line_alone (subst (λ g. AppendsPrefix old new (fault_line g)) (sym is) prefix)
tells-refusal old new explains profile query bytes r f is asks (inr told) =
    with_explanation r is asks told

-- the same of a document
pub tells-document : (old new : Option (List ℕ)) (explains : Bool) (profile : Profile)
    (query bytes : List ℕ) (d : DocumentFault) (f : Fault) → f ≡ Document d → explains ≡ true
    → AppendsPrefix old new (fault_line f) ⊎ TellsMisread profile bytes f old new
    → TellsFault old new explains profile query bytes f
tells-document old new explains profile query bytes d f is asks (inl prefix) = line_alone prefix
tells-document old new explains profile query bytes d f is asks (inr told) =
    with_misreading d is asks (subst (λ g. TellsMisread profile bytes g old new) is told)

-- what is kept of a run is what the document's fault is of
module _ {R W : Type 0} (profile : Profile) (remaining : R → Option (List ℕ)) (has_failed : R → Bool)
    (read_gives : R → Option (List ℕ) → R → Type 0) (contents : W → Option (List ℕ))
    (writes_failed : W → Bool) (query : List ℕ) (i j : R) (bytes read : List ℕ) where
  pub kept-of_bytes : (f : Fault) → bytes ≡ read
      → KeepsRead profile remaining has_failed read_gives contents writes_failed query i j read f
      → IsFaultOfBytes profile bytes f
  kept-of_bytes (Document d) all kept =
      subst (λ t. IsDocumentFaultIn (numbers profile) t d) (sym (all ∙ kept.1)) kept.0.fault
  kept-of_bytes (Query r) all kept = tt
  kept-of_bytes DocumentTooLarge all kept = tt
  kept-of_bytes NoMemory all kept = tt
  kept-of_bytes Read all kept = tt
  kept-of_bytes Write all kept = tt

module _ {R W E : Type 0} (remaining : R → Option (List ℕ)) (has_failed : R → Bool)
    (read_gives : R → Option (List ℕ) → R → Type 0) (contents : W → Option (List ℕ))
    (writes_failed : W → Bool) (write_takes : W → Option (List ℕ) → W → Type 0)
    (holds_back : W → Bool) (reports : E → Option (List ℕ)) (words : List (List ℕ)) (i j : R) (o p : W) (u v : E)
    (status : ℕ) where
  abbrev Ended : Profile → Fault → Type 0
  Ended profile f = EndsAs remaining has_failed read_gives contents writes_failed write_takes
      profile words i j o p (Err f)

  abbrev Says : Type 0
  Says = RunsLine remaining has_failed read_gives contents writes_failed write_takes holds_back reports
      words i j o p u v status

  abbrev Keeps : Profile → List ℕ → List ℕ → Fault → Type 0
  Keeps profile query =
      KeepsRead profile remaining has_failed read_gives contents writes_failed query i j

  pub says-fault : (profile : Profile) (bytes read : List ℕ) (f : Fault) (run : Ended profile f)
      → status ≡ status_of f → bytes ≡ read → Keeps profile run.query read f
      → TellsFault (reports u) (reports v) run.explains profile run.query bytes f → Says
  says-fault profile bytes read f run is all kept (line_alone prefix) = fault profile f is run prefix
  says-fault profile bytes read f run is all kept (with_misreading d same asks told) =
      let P : Fault → Type 0 = λ g. (ended : Ended profile g) → status ≡ status_of g
      → ended.explains ≡ true → Keeps profile ended.query read g
      → TellsMisread profile bytes (Document d) (reports u) (reports v) → Says in
      subst P (sym same)
      (λ ended is asks kept told. misread profile d is ended asks kept.0
      (subst (λ t. TellsMisread profile t (Document d) (reports u) (reports v)) (all ∙ kept.1) told))
      run is asks kept told
  says-fault profile bytes read f run is all kept (with_explanation r same asks told) =
      let P : Fault → Type 0 = λ g. (ended : Ended profile g) → status ≡ status_of g
      → ended.explains ≡ true → TellsExplained profile ended.query r (reports u) (reports v)
      → Says in
      subst P (sym same) (λ ended is asks told. explained profile r is ended asks told)
      run is asks told
