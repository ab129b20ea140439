-- What a run of a query, in a profile, over an input says with its answer.
use Rattle.std.specs.Prelude.{◌≡◌, ◌≢◌, ℕ, ◌<◌, ◌≤◌, Bool, true, List, length, Option, Result}
use Rattle.std.specs.Prelude.{Ok, Err}
use Rattle.std.specs.Str.{chars}
use Rattle.jp_check.specs.Accepted.{IsAcceptedAs, IsNotAccepted}
use Rattle.jp_check.specs.Numbers.{numbers}
use Rattle.jp_check.specs.Refused.{IsRefusedForItself}
use Rattle.jp_check.specs.declared.profile.Profile.{Profile}
use Rattle.jp_document.specs.Exact.{IsDocumentIn}
use Rattle.jp_document.specs.Value.{Value}
use Rattle.jp_document.specs.declared.fault.DocumentFault.{DocumentFault}
use Rattle.jp_document.specs.declared.fault.DocumentFault.TheVariants as document
use Rattle.jp_exact.specs.Defects.{IsDocumentFaultIn}
use Rattle.jp_tree.specs.Tree.{QueryTree}
use Rattle.jp_query.specs.declared.refusal.Refusal.{Refusal}
use Rattle.jp_query.specs.declared.refusal.RefusalKind.TheVariants as kind
use Rattle.jp_command.specs.NodeTask.{all_nodes, output_asked}
use Rattle.jp_command.specs.Input.{FailsToRead, ReadsAll, ReadsSome, ReadsTooMuch}
use Rattle.jp_command.specs.Limits.{query_limit}
use Rattle.jp_command.specs.Output.{WritesOutput, WritesPrefix}
use Rattle.jp_command.specs.declared.fault.Fault.{Fault}
use Rattle.jp_command.specs.declared.fault.Fault.TheVariants.{Query, Document, DocumentTooLarge}
use Rattle.jp_command.specs.declared.fault.Fault.TheVariants.{NoMemory, Read, Write}
use Rattle.jp_command.specs.declared.form.Form.{Form}
use Rattle.jp_command.specs.declared.node_task.NodeTask.{NodeTask}

-- the query, in bytes, is not too long and in that profile is accepted as the tree q
pub record IsAsked (profile : Profile) (text : List ℕ) (q : QueryTree) : Type 0 where
  pub short : length text ≤ query_limit
  pub accepted : IsAcceptedAs profile (chars text) q

-- memory ran out, which says nothing of the query
abbrev pub RanOut : Refusal → Type 0
RanOut r = r ≡ record { kind = kind.NoMemory; place = 0 }

-- the query is too long, or else in that profile not accepted and refused with r for what it is;
-- running out of memory is no such refusal
pub data RefusesQuery (profile : Profile) (text : List ℕ) (r : Refusal) : Type 0 where
  too_long : query_limit < length text → r ≡ record { kind = kind.TextTooLong; place = 0 }
      → RefusesQuery profile text r
  refused : length text ≤ query_limit → IsNotAccepted profile (chars text)
      → IsRefusedForItself profile (chars text) r → RefusesQuery profile text r

-- i and j are the input before and after a run, o and p the output
module _ (profile : Profile) {R W : Type 0} (remaining : R → Option (List ℕ))
    (has_failed : R → Bool) (read_gives : R → Option (List ℕ) → R → Type 0)
    (contents : W → Option (List ℕ)) (writes_failed : W → Bool) where
  -- the query is asked, the input was read to its end and is a document, and this is the output of
  -- the one over the other
  pub record IsNodesOutput (nodes : NodeTask) (text : List ℕ) (i j : R) (output : List ℕ) : Type 0 where
    pub q : QueryTree
    pub bytes : List ℕ
    pub d : Value
    pub asked : IsAsked profile text q
    pub reads : ReadsAll remaining has_failed read_gives i j bytes
    pub document : IsDocumentIn (numbers profile) bytes d
    pub is : output ≡ output_asked nodes q d

  -- the same of all nodes in that form
  abbrev pub IsOutput : Form → List ℕ → R → R → List ℕ → Type 0
  IsOutput form = IsNodesOutput (all_nodes form)

  -- the query is asked, and what was read is no document, with the fault f, which is not that
  -- memory ran out
  pub record RefusesDocument (text : List ℕ) (i j : R) (f : DocumentFault) : Type 0 where
    pub q : QueryTree
    pub bytes : List ℕ
    pub asked : IsAsked profile text q
    pub reads : ReadsAll remaining has_failed read_gives i j bytes
    pub fault : IsDocumentFaultIn (numbers profile) bytes f
    pub known : f ≢ document.NoMemory

  -- memory ran out: for the query, and nothing was read or written; or the query is asked, and it
  -- was for a read, for the document, or for a node, and then a prefix of the output was written
  pub data RunsOut (nodes : NodeTask) (text : List ℕ) (i j : R) (o p : W) : Type 0 where
    at_the_query : j ≡ i → p ≡ o → RunsOut nodes text i j o p
    at_a_read : (q : QueryTree) → IsAsked profile text q
        → ReadsSome remaining has_failed read_gives i j → p ≡ o → RunsOut nodes text i j o p
    at_the_document : (q : QueryTree) (bytes : List ℕ) → IsAsked profile text q
        → ReadsAll remaining has_failed read_gives i j bytes → p ≡ o → RunsOut nodes text i j o p
    at_a_node : WritesPrefix contents writes_failed (IsNodesOutput nodes text i j) o p
        → RunsOut nodes text i j o p

  -- what a run says with its answer
  abbrev pub RunsNodes : {X : Type 0} → NodeTask → List ℕ → R → R → W → W → Result X Fault → Type 0
  RunsNodes nodes text i j o p (Ok x) =
      WritesOutput contents writes_failed (IsNodesOutput nodes text i j) o p
  RunsNodes nodes text i j o p (Err (Query r)) = RefusesQuery profile text r × (j ≡ i) × (p ≡ o)
  RunsNodes nodes text i j o p (Err (Document f)) = RefusesDocument text i j f × (p ≡ o)
  RunsNodes nodes text i j o p (Err DocumentTooLarge) =
      ((q : QueryTree) × IsAsked profile text q) × ReadsTooMuch remaining has_failed read_gives i j
      × (p ≡ o)
  RunsNodes nodes text i j o p (Err NoMemory) =
      (has_failed j ≡ has_failed i) × (writes_failed p ≡ writes_failed o)
      × RunsOut nodes text i j o p
  RunsNodes nodes text i j o p (Err Read) =
      ((q : QueryTree) × IsAsked profile text q) × FailsToRead remaining has_failed read_gives i j
      × (p ≡ o)
  RunsNodes nodes text i j o p (Err Write) =
      WritesPrefix contents writes_failed (IsNodesOutput nodes text i j) o p × (writes_failed p ≡ true)

  -- what one says that writes all nodes in a form
  abbrev pub RunsEval : {X : Type 0} → Form → List ℕ → R → R → W → W → Result X Fault → Type 0
  RunsEval form = RunsNodes (all_nodes form)
