-- How a run ends that has read its query: at a read, at its document, or with the output of the one
-- over the other.
use Rattle.std.proofs.Common.{◌≡◌, ◌≢◌, ℕ, Bool, List, Option, Result, Ok, Err, IfErr, IfOk}
use Rattle.std.proofs.Common.{OnOk, refl, subst, sym}
use Rattle.std.specs.Result.{IsErrAnd}
use Rattle.jp_check.specs.Numbers.{numbers}
use Rattle.jp_check.specs.declared.profile.Profile.{Profile}
use Rattle.jp_decimal.specs.declared.numbers.Numbers.{Numbers}
use Rattle.jp_decimal.specs.declared.numbers.Numbers.TheVariants.{Whole, Decimal}
use Rattle.jp_exact.specs.Defects.{IsDocumentFaultIn}
use Rattle.jp_document.specs.declared.fault.DocumentFault.{DocumentFault}
use Rattle.jp_document.specs.declared.fault.DocumentFault.TheVariants as document
use Rattle.jp_evaluate.specs.Nodelist.{nodelist}
use Rattle.jp_tree.specs.Tree.{QueryTree}
use Rattle.jp_command.specs.Input.{ReadsAll}
use Rattle.jp_command.specs.Output.{WritesAll}
use Rattle.jp_command.specs.NodeTask.{status_done}
use Rattle.jp_command.specs.Private.Ended.{IsDoneWith, ending}
use Rattle.jp_command.specs.Private.Faults.{fault_of_document}
use Rattle.jp_command.specs.Run.{IsAsked, IsNodesOutput, RefusesDocument}
use Rattle.jp_command.specs.Run.{RunsNodes, at_a_node, at_a_read, at_the_document}
use Rattle.jp_command.specs.Stops.{StopsReading}
use Rattle.jp_command.specs.Written.{GoesAs, StopsWriting}
use Rattle.jp_command.specs.declared.fault.Fault.{Fault}
use Rattle.jp_command.specs.declared.fault.Fault.TheVariants.{Query, Document, DocumentTooLarge}
use Rattle.jp_command.specs.declared.fault.Fault.TheVariants.{NoMemory, Read, Write}
use Rattle.jp_command.specs.declared.node_task.NodeTask.{NodeTask}
use Rattle.jp_command.specs.declared.words.Task.TheVariants.{Eval}

-- running out of memory says nothing of the bytes, whatever their numbers
no-memory : (n : Numbers) (bytes : List ℕ) → IsDocumentFaultIn n bytes document.NoMemory
no-memory Whole bytes = tt
no-memory Decimal bytes = tt

module _ (profile : Profile) {R W : Type 0} (remaining : R → Option (List ℕ))
    (has_failed : R → Bool) (read_gives : R → Option (List ℕ) → R → Type 0)
    (contents : W → Option (List ℕ)) (writes_failed : W → Bool) where
  abbrev Says : NodeTask → List ℕ → R → R → W → W → Result (Unit {0}) Fault → Type 0
  Says = RunsNodes profile remaining has_failed read_gives contents writes_failed

  -- a run that answers this fault says what it says of that one
  says-as : (X : Type 0) (nodes : NodeTask) (text : List ℕ) (i j : R) (o p : W) (r : Result X Fault)
      (f : Fault) → IsErrAnd r (λ e. e ≡ f) → Says nodes text i j o p (Err f)
      → Says nodes text i j o p (ending r)
  says-as X nodes text i j o p (Ok x) f is says = absurd is
  says-as X nodes text i j o p (Err e) f is says =
      subst (λ x. Says nodes text i j o p (Err x)) (sym is) says

  -- at a read
  at-read : (nodes : NodeTask) (text : List ℕ) (q : QueryTree) (i j : R) (o : W)
      (f : Fault) → IsAsked profile text q → StopsReading remaining has_failed read_gives i j f
      → Says nodes text i j o o (Err f)
  at-read nodes text q i j o DocumentTooLarge asked stopped = ((q, asked), stopped, refl)
  at-read nodes text q i j o Read asked stopped = ((q, asked), stopped, refl)
  at-read nodes text q i j o NoMemory asked stopped =
      (stopped.works, refl, at_a_read q asked stopped refl)
  at-read nodes text q i j o Write asked stopped = absurd stopped
  at-read nodes text q i j o (Query r) asked stopped = absurd stopped
  at-read nodes text q i j o (Document r) asked stopped = absurd stopped

  pub ends-reading : (X : Type 0) (nodes : NodeTask) (text : List ℕ) (q : QueryTree) (i j : R) (o : W)
      (r : Result X Fault) (f : Fault) → IsAsked profile text q
      → StopsReading remaining has_failed read_gives i j f → IsErrAnd r (λ e. e ≡ f)
      → Says nodes text i j o o (ending r)
  ends-reading X nodes text q i j o r f asked stopped is =
      says-as X nodes text i j o o r f is (at-read nodes text q i j o f asked stopped)

  -- at its document
  module _ (nodes : NodeTask) (text bytes : List ℕ) (q : QueryTree) (i j : R) (o : W)
      (asked : IsAsked profile text q) (reads : ReadsAll remaining has_failed read_gives i j bytes)
    where
      refuses : (f : DocumentFault) → IsDocumentFaultIn (numbers profile) bytes f → f ≢ document.NoMemory
          → RefusesDocument profile remaining has_failed read_gives contents writes_failed text i j f
      refuses f fault known =
          record { q = q; bytes = bytes; asked = asked; reads = reads; fault = fault; known = known }

      at-document : (f : DocumentFault) → IsDocumentFaultIn (numbers profile) bytes f
          → Says nodes text i j o o (Err (fault_of_document f))
      at-document document.NotJson fault = (refuses document.NotJson fault (λ is. cc), refl)
      at-document (document.NotWhole path) fault =
          (refuses (document.NotWhole path) fault (λ is. cc), refl)
      at-document document.ListTooLong fault = (refuses document.ListTooLong fault (λ is. cc), refl)
      at-document (document.NumberRange path) fault =
          (refuses (document.NumberRange path) fault (λ is. cc), refl)
      at-document document.NoMemory fault =
          (reads.works, refl, at_the_document q bytes asked reads refl)

      pub ends-document : (X : Type 0) (r : Result X Fault) (f : DocumentFault)
          → IsDocumentFaultIn (numbers profile) bytes f → IsErrAnd r (λ e. e ≡ fault_of_document f)
          → Says nodes text i j o o (ending r)
      ends-document X r f fault is =
          says-as X nodes text i j o o r (fault_of_document f) is (at-document f fault)

      pub ends-naming : (X : Type 0) (r : Result X Fault) → IsErrAnd r (λ e. e ≡ NoMemory)
          → Says nodes text i j o o (ending r)
      ends-naming X r is =
          says-as X nodes text i j o o r NoMemory is (at-document document.NoMemory (no-memory (numbers profile) bytes))

  -- with the output of the one over the other, written to its end or not
  pub run-ends : {X : Type 0} (nodes : NodeTask) (text : List ℕ) (i j : R) (o p : W) (output : List ℕ)
      (r : Result X Fault)
      → IsNodesOutput profile remaining has_failed read_gives contents writes_failed nodes text i j output
      → has_failed j ≡ has_failed i
      → OnOk r (WritesAll contents writes_failed o p output)
      → IfErr r (StopsWriting contents writes_failed o p output)
      → RunsNodes profile remaining has_failed read_gives contents writes_failed nodes text i j o p
      (ending r)
  run-ends nodes text i j o p output (Ok x) is works written stopped =
      record { output = output; is = is; writes = written }
  run-ends nodes text i j o p output (Err NoMemory) is works written stopped =
      (works, stopped.1, at_a_node (record { output = output; is = is; written = stopped.0 }))
  run-ends nodes text i j o p output (Err Write) is works written stopped =
      (record { output = output; is = is; written = stopped.0 }, stopped.1)
  run-ends nodes text i j o p output (Err (Query r)) is works written stopped = absurd stopped
  run-ends nodes text i j o p output (Err (Document f)) is works written stopped = absurd stopped
  run-ends nodes text i j o p output (Err DocumentTooLarge) is works written stopped =
      absurd stopped
  run-ends nodes text i j o p output (Err Read) is works written stopped = absurd stopped

  -- which is done with the status of its nodelist
  pub done-with : (write_takes : W → Option (List ℕ) → W → Type 0) (nodes : NodeTask) (text : List ℕ)
      (i j : R) (o p : W) (output : List ℕ) (r : Result ℕ Fault)
      (is : IsNodesOutput profile remaining has_failed read_gives contents writes_failed nodes text i j output)
      → GoesAs write_takes o p output r
      → IfOk r (λ status. status ≡ status_done nodes.tells_none (nodelist is.q is.d))
      → IfOk r (IsDoneWith profile remaining has_failed read_gives contents writes_failed write_takes
      (Eval nodes) text i j o p)
  done-with write_takes nodes text i j o p output (Ok status) is goes ends =
      record { output = output; is = is; goes = goes; ends = ends }
  done-with write_takes nodes text i j o p output (Err f) is goes ends = tt
