-- The flush after a run: it leaves what was written, and is the last call.
use Rattle.std.proofs.Common.{◌≡◌, ℕ, List, [], Option, Some, None, Bool, true, Result, Ok, Err, ◌∙◌}
use Rattle.std.specs.Io.KnownBytes.{Keeps}
use Rattle.jp_check.specs.declared.profile.Profile.{Profile}
use Rattle.jp_command.specs.Line.{RunsTask}
use Rattle.jp_command.specs.Output.{WritesOutput, WritesPrefix}
use Rattle.jp_command.specs.Writes.{WritesByCalls}
use Rattle.jp_command.specs.declared.fault.Fault.{Fault}
use Rattle.jp_command.specs.declared.fault.Fault.TheVariants.{Write}
use Rattle.jp_command.specs.declared.words.Task.{Task}
use Rattle.jp_command.specs.declared.words.Task.TheVariants.{Check, Canon, Eval}
use Rattle.jp_command.proofs.Calls.{failure-behind, go-flushed}
use Rattle.jp_command.proofs.Streams.{Appends-keeps, prefix-whole}

module _ {W : Type 0} (contents : W → Option (List ℕ)) (has_failed : W → Bool)
    (IsOutput : List ℕ → Type 0) where
  output-prefix : (o p q : W) → WritesOutput contents has_failed IsOutput o p
      → Keeps (contents p) (contents q) → WritesPrefix contents has_failed IsOutput o q
  output-prefix o p q all kept = record {
    output = all.output;
    is = all.is;
    written = prefix-whole _ _ _ (Appends-keeps _ _ _ _ all.writes.written kept);
  }

  output-kept : (o p q : W) → WritesOutput contents has_failed IsOutput o p
      → Keeps (contents p) (contents q) → has_failed q ≡ has_failed p
      → WritesOutput contents has_failed IsOutput o q
  output-kept o p q all kept works = record {
    output = all.output;
    is = all.is;
    writes = record {
      written = Appends-keeps _ _ _ _ all.writes.written kept;
      works = works ∙ all.writes.works;
    };
  }

module _ {W : Type 0} (write_takes : W → Option (List ℕ) → W → Type 0) (IsOutput : List ℕ → Type 0)
  where
    abbrev Calls : W → W → Result (Unit {0}) Fault → Type 0
    Calls = WritesByCalls write_takes IsOutput

    pub calls-fail : (o p q : W) → Calls o p (Ok tt) → write_takes p None q → Calls o q (Err Write)
    calls-fail o p q run fails =
        (run.0, run.1, failure-behind write_takes o p q run.0 run.2 fails)

    pub calls-work : (o p q : W) → Calls o p (Ok tt) → write_takes p (Some []) q → Calls o q (Ok tt)
    calls-work o p q run takes = (run.0, run.1, go-flushed write_takes o p q run.0 run.2 takes)

module _ (profile : Profile) {R W : Type 0} (remaining : R → Option (List ℕ))
    (has_failed : R → Bool) (read_gives : R → Option (List ℕ) → R → Type 0)
    (contents : W → Option (List ℕ)) (writes_failed : W → Bool) where
  abbrev RanTask : Task → List ℕ → R → R → W → W → Result (Unit {0}) Fault → Type 0
  RanTask = RunsTask profile remaining has_failed read_gives contents writes_failed

  -- after one that fails a prefix is written
  pub flush-fails : (task : Task) (query : List ℕ) (i j : R) (o p q : W)
      → RanTask task query i j o p (Ok tt) → Keeps (contents p) (contents q)
      → writes_failed q ≡ true → RanTask task query i j o q (Err Write)
  flush-fails Check query i j o p q run kept fails =
      (run.0, (output-prefix contents writes_failed _ o p q run.1 kept, fails))
  flush-fails Canon query i j o p q run kept fails =
      (run.0, (output-prefix contents writes_failed _ o p q run.1 kept, fails))
  flush-fails (Eval nodes) query i j o p q run kept fails =
      (output-prefix contents writes_failed _ o p q run kept, fails)

  -- after one that is done the output is written
  pub flush-works : (task : Task) (query : List ℕ) (i j : R) (o p q : W)
      → RanTask task query i j o p (Ok tt) → Keeps (contents p) (contents q)
      → writes_failed q ≡ writes_failed p → RanTask task query i j o q (Ok tt)
  flush-works Check query i j o p q run kept works =
      (run.0, output-kept contents writes_failed _ o p q run.1 kept works)
  flush-works Canon query i j o p q run kept works =
      (run.0, output-kept contents writes_failed _ o p q run.1 kept works)
  flush-works (Eval nodes) query i j o p q run kept works =
      output-kept contents writes_failed _ o p q run kept works
