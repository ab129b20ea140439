-- What is kept of an input where a run ends: nothing is said of it, unless its document is refused.
use Rattle.std.proofs.Common.{◌≡◌, ℕ, Bool, List, Option, Result, Ok, Err, IfErr, refl, subst, sym}
use Rattle.std.specs.Result.{IsErrAnd}
use Rattle.jp_check.specs.Numbers.{numbers}
use Rattle.jp_check.specs.declared.profile.Profile.{Profile}
use Rattle.jp_exact.specs.Defects.{IsDocumentFaultIn}
use Rattle.jp_document.specs.declared.fault.DocumentFault.{DocumentFault}
use Rattle.jp_document.specs.declared.fault.DocumentFault.TheVariants as document
use Rattle.jp_tree.specs.Tree.{QueryTree}
use Rattle.jp_command.specs.Input.{ReadsAll}
use Rattle.jp_command.specs.Private.Faults.{fault_of_document}
use Rattle.jp_command.specs.Private.Kept.{KeepsRead}
use Rattle.jp_command.specs.QueryLine.{RunsQueryLine}
use Rattle.jp_command.specs.Run.{IsAsked}
use Rattle.jp_command.specs.Written.{StopsWriting}
use Rattle.jp_command.specs.declared.fault.Fault.{Fault}
use Rattle.jp_command.specs.declared.fault.Fault.TheVariants.{Query, Document, DocumentTooLarge}
use Rattle.jp_command.specs.declared.fault.Fault.TheVariants.{NoMemory, Read, Write}

module _ (profile : Profile) {R W : Type 0} (remaining : R → Option (List ℕ))
    (has_failed : R → Bool) (read_gives : R → Option (List ℕ) → R → Type 0)
    (contents : W → Option (List ℕ)) (writes_failed : W → Bool) (text : List ℕ) (i j : R)
    (bytes : List ℕ) where
  abbrev Keeps : Fault → Type 0
  Keeps = KeepsRead profile remaining has_failed read_gives contents writes_failed text i j bytes

  -- a run that refuses its document
  module _ (q : QueryTree) (asked : IsAsked profile text q)
      (reads : ReadsAll remaining has_failed read_gives i j bytes) where
    of-document : (f : DocumentFault) → IsDocumentFaultIn (numbers profile) bytes f → Keeps (fault_of_document f)
    of-document document.NoMemory has = tt
    of-document (document.NumberRange path) has = (
      record { q = q; bytes = bytes; asked = asked; reads = reads; fault = has; known = λ is. cc },
      refl,
    )
    of-document document.NotJson has = (
      record { q = q; bytes = bytes; asked = asked; reads = reads; fault = has; known = λ is. cc },
      refl,
    )
    of-document (document.NotWhole path) has = (
      record { q = q; bytes = bytes; asked = asked; reads = reads; fault = has; known = λ is. cc },
      refl,
    )
    of-document document.ListTooLong has = (
      record { q = q; bytes = bytes; asked = asked; reads = reads; fault = has; known = λ is. cc },
      refl,
    )

    pub keeps-document : {X : Type 0} (r : Result X Fault) (f : DocumentFault)
        → IsDocumentFaultIn (numbers profile) bytes f → IsErrAnd r (λ e. e ≡ fault_of_document f) → IfErr r Keeps
    keeps-document (Ok x) f has is = absurd is
    keeps-document (Err e) f has is = subst Keeps (sym is) (of-document f has)

  -- a run that writes what it finds
  pub keeps-writing : {X : Type 0} (o p : W) (output : List ℕ) (r : Result X Fault)
      → IfErr r (StopsWriting contents writes_failed o p output) → IfErr r Keeps
  keeps-writing o p output (Ok x) stopped = tt
  keeps-writing o p output (Err NoMemory) stopped = tt
  keeps-writing o p output (Err Write) stopped = tt
  keeps-writing o p output (Err (Query r)) stopped = tt
  keeps-writing o p output (Err (Document f)) stopped = absurd stopped
  keeps-writing o p output (Err DocumentTooLarge) stopped = tt
  keeps-writing o p output (Err Read) stopped = tt

  -- a run that reads no document
  pub keeps-line : {X : Type 0} (line_of : QueryTree → List ℕ) (o p : W) (r : Result X Fault)
      → RunsQueryLine profile line_of contents writes_failed text o p r → IfErr r Keeps
  keeps-line line_of o p (Ok x) runs = tt
  keeps-line line_of o p (Err (Query r)) runs = tt
  keeps-line line_of o p (Err NoMemory) runs = tt
  keeps-line line_of o p (Err Write) runs = tt
  keeps-line line_of o p (Err (Document f)) runs = absurd runs
  keeps-line line_of o p (Err DocumentTooLarge) runs = tt
  keeps-line line_of o p (Err Read) runs = tt
