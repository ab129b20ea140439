-- What a run says that does not begin, or begins with nothing, and what the program says of it.
use Rattle.std.proofs.Common.{◌≡◌, ℕ, Bool, List, [], Option, Some, Err, Result, refl, subst, sym}
use Rattle.std.proofs.KnownBytes.{Appends-nil}
use Rattle.jp_cells.specs.declared.style.Style.{Style}
use Rattle.jp_command.specs.Output.{WritesAll}
use Rattle.jp_command.specs.declared.fault.Fault.TheVariants as fault
use Rattle.jp_lines.specs.CommandLine.{asked}
use Rattle.jp_lines.specs.Private.Halting.{StopsAtExpression, StopsAtQuery, StopsReading}
use Rattle.jp_lines.specs.Program.{RunsJob, RunsProgram, TellsUnbegun, begun, exhausted, not_begun, refused}
use Rattle.jp_lines.specs.Program.{status_of_unbegun}
use Rattle.jp_lines.specs.Request.{ColumnsBy, Job, KeepBy, SelectBy}
use Rattle.jp_lines.specs.Views.{job_of, request_of}
use Rattle.jp_lines.specs.declared.halt.Ended.{Ended}
use Rattle.jp_lines.specs.declared.halt.Unbegun.{Unbegun}
use Rattle.jp_lines.specs.declared.halt.Unbegun.TheVariants as why
use Rattle.jp_lines.specs.declared.inputs.Unopened.{Unopened}
use Rattle.jp_lines.specs.declared.options.Extent.{Extent}
use Rattle.jp_lines.specs.declared.options.Wanted.{Wanted}
use Rattle.jp_lines.specs.declared.task.Job as declared
use Rattle.jp_lines.specs.declared.task.Request as requests

-- nothing is written
pub written-nothing : {W : Type 0} (contents : W → Option (List ℕ)) (has_failed : W → Bool) (o : W)
    → WritesAll contents has_failed o o []
written-nothing contents has_failed o = record { written = Appends-nil (contents o); works = refl }

-- a job whose request is known
pub job-as : (given : declared.Job) (asks : requests.Request) (P : Job → Type 0)
    → given.request ≡ asks → P (record (job_of given) { request = request_of asks }) → P (job_of given)
job-as given asks P is holds =
    subst (λ r. P (record (job_of given) { request = request_of r })) (sym is) holds

module _ {I R W E : Type 0} (opens : I → List ℕ → Result R Unopened → I → Type 0)
    (remaining : R → Option (List ℕ)) (has_failed : R → Bool)
    (read_gives : R → Option (List ℕ) → R → Type 0) (contents : W → Option (List ℕ))
    (writes_failed : W → Bool) (write_takes : W → Option (List ℕ) → W → Type 0)
    (holds_back : W → Bool) (reports : E → Option (List ℕ)) (reports_failed : E → Bool) where
  abbrev Runs : Job → I → I → W → W → E → E → Result Ended Unbegun → Type 0
  Runs = RunsJob opens remaining has_failed read_gives contents writes_failed write_takes holds_back reports
      reports_failed

  module _ (job : Job) (a : I) (o : W) (u : E) where
    out-of-memory : (asks : Job) → Runs asks a a o o u u (Err (why.Fault fault.NoMemory))
    out-of-memory asks = exhausted refl refl refl refl

    -- a query that is not read
    pub unread-query : (wanted : Wanted) (extent : Extent) (query : List ℕ) (given : Unbegun)
        → StopsAtQuery job.options.profile query given
        → Runs (record job { request = SelectBy wanted extent query }) a a o o u u (Err given)
    unread-query wanted extent query (why.Query text r) stops =
        refused (why.Query text r) refl stops refl refl refl
    unread-query wanted extent query (why.Fault fault.NoMemory) stops = exhausted refl refl refl refl
    unread-query wanted extent query (why.Fault fault.Write) stops = absurd stops
    unread-query wanted extent query (why.Fault fault.Read) stops = absurd stops
    unread-query wanted extent query (why.Fault (fault.Query r)) stops = absurd stops
    unread-query wanted extent query (why.Fault (fault.Document d)) stops = absurd stops
    unread-query wanted extent query (why.Fault fault.DocumentTooLarge) stops = absurd stops
    unread-query wanted extent query (why.Expression text r) stops = absurd stops

    -- an expression
    pub unread-expression : (text : List ℕ) (given : Unbegun) → StopsAtExpression job.options.profile text given
        → Runs (record job { request = KeepBy text }) a a o o u u (Err given)
    unread-expression text (why.Expression other r) stops =
        refused (why.Expression other r) refl stops refl refl refl
    unread-expression text (why.Fault fault.NoMemory) stops = exhausted refl refl refl refl
    unread-expression text (why.Fault fault.Write) stops = absurd stops
    unread-expression text (why.Fault fault.Read) stops = absurd stops
    unread-expression text (why.Fault (fault.Query r)) stops = absurd stops
    unread-expression text (why.Fault (fault.Document d)) stops = absurd stops
    unread-expression text (why.Fault fault.DocumentTooLarge) stops = absurd stops
    unread-expression text (why.Query query r) stops = absurd stops

    -- several queries that are not all read
    pub unread-queries : (style : Style) (named : Bool) (queries : List (List ℕ)) (given : Unbegun)
        → StopsReading job.options.profile queries given
        → Runs (record job { request = ColumnsBy style named queries }) a a o o u u (Err given)
    unread-queries style named queries (why.Query text r) stops =
        refused (why.Query text r) refl stops refl refl refl
    unread-queries style named queries (why.Fault fault.NoMemory) stops = exhausted refl refl refl refl
    unread-queries style named queries (why.Fault fault.Write) stops = absurd stops
    unread-queries style named queries (why.Fault fault.Read) stops = absurd stops
    unread-queries style named queries (why.Fault (fault.Query r)) stops = absurd stops
    unread-queries style named queries (why.Fault (fault.Document d)) stops = absurd stops
    unread-queries style named queries (why.Fault fault.DocumentTooLarge) stops = absurd stops
    unread-queries style named queries (why.Expression text r) stops = absurd stops

  module _ (job : Job) (a b : I) (o p : W) (u v : E) where
    -- a run that did not begin told nothing
    unbegun-quiet : (given : Unbegun) → Runs job a b o p u v (Err given) → v ≡ u
    unbegun-quiet given (begun task ended is asks runs) = cc
    unbegun-quiet given (refused other is refuses unopened same quiet) = quiet
    unbegun-quiet given (exhausted is unopened same quiet) = quiet
    unbegun-quiet given (not_begun task fault is asks stops unopened quiet) = quiet

    -- what the program says of it
    pub ends-unbegun : (hung_up : W → Bool) (words : List (List ℕ)) (given : Unbegun) (status : ℕ) (w : E)
        → asked words ≡ Some job → Runs job a b o p u v (Err given)
        → status ≡ status_of_unbegun given
        → TellsUnbegun reports reports_failed job.options.profile given (hung_up p) v w
        → RunsProgram opens remaining has_failed read_gives contents writes_failed write_takes holds_back reports
        reports_failed hung_up words a b o p u w status
    ends-unbegun hung_up words given status w asks runs is tells =
        let quiet = unbegun-quiet given runs in
        not_begun given
        (record {
          job = job;
          asks = asks;
          runs = subst (λ x. Runs job a b o p u x (Err given)) quiet runs;
        }) is
        (subst (λ x. TellsUnbegun reports reports_failed job.options.profile given (hung_up p) x w) quiet
        tells)
