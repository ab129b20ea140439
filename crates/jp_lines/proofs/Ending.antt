-- How a run ends, by what came and how far it was passed.
use Rattle.std.proofs.Common.{◌≡◌, ap, arith, ℕ, ◌<◌, ◌≤◌, Bool, true, false, List, [], ◌∷◌, ◌++◌}
use Rattle.std.proofs.Common.{length, take, Option, Some, None, Ok, Err, Result, subst, refl, sym, ◌∙◌}
use Rattle.std.proofs.KnownBytes.{Consumes-kept, Consumes-trans}
use Rattle.std.proofs.lemmas.List.{append-nil, length-take-le}
use Rattle.std.specs.Prelude.{⊤}
use Rattle.std.specs.Result.{IsErrAnd}
use Rattle.std.specs.Io.KnownBytes.{Consumes, IsAtEnd, Keeps as KeepsBytes}
use Rattle.jp_command.specs.Limits.{chunk_size, document_limit}
use Rattle.jp_command.specs.Reads.{none, one_more}
use Rattle.jp_command.specs.declared.fault.Fault.TheVariants as fault
use Rattle.jp_lines.specs.Lines.{lines_of_input}
use Rattle.jp_lines.specs.Reads.{ReadsMore, ReadsSome, ReadsToEnd, ReadsToFailure, by_one_more}
use Rattle.jp_lines.specs.Reads.{so_far, to_end}
use Rattle.jp_lines.specs.Outcome.{LineOutcome, tally_of}
use Rattle.jp_lines.specs.Run.{Goes, GoesOver, StopsAmong, StopsAtLine}
use Rattle.jp_lines.specs.Private.Passing.{GoesThrough, Passes, Standing, StopsEnding, StopsWithin}
use Rattle.jp_lines.specs.Private.Passing.{is_in_line}
use Rattle.jp_lines.specs.Task.{Task}
use Rattle.jp_lines.specs.declared.options.Options.{Options}
use Rattle.jp_lines.specs.declared.stop.Stop.{Stop}
use Rattle.jp_lines.specs.declared.stop.Stop.TheVariants as stop
use Rattle.jp_lines.specs.declared.tally.Tally.{Tally}
use Rattle.jp_lines.proofs.Chunks.{passes-all}
use Rattle.jp_lines.proofs.Going.{over-more, passes-lines, passes-none, within-after}
use Rattle.jp_lines.proofs.Going.{within-over, within-whole}
use Rattle.jp_lines.proofs.Tallies.{left-all, none-plus}

-- what holds of a failure with this error holds of one whose error is this
pub err-so : {T E : Type 0} (r : Result T E) (e : E) (P : Result T E → Type 0)
    → IsErrAnd r (λ x. x ≡ e) → P (Err e) → P r
err-so (Ok x) e P is holds = absurd is
err-so (Err x) e P is holds = subst (λ y. P (Err y)) (sym is) holds

-- at the start of the first line
abbrev pub at_start : Standing
at_start = record { number = 1; line = []; tally = tally_of [] }

module _ {R : Type 0} (remaining : R → Option (List ℕ)) (has_failed : R → Bool)
    (read_gives : R → Option (List ℕ) → R → Type 0) where
  -- none yet
  pub reads-none : (i : R) → ReadsSome remaining has_failed read_gives i i []
  reads-none i = record { came = go (remaining i); works = refl; calls = none }
    where
      go : (known : Option (List ℕ)) → Consumes known known []
      go None = tt
      go (Some xs) = refl

  -- one read more that gave bytes, at most a chunk
  pub reads-more : (i j k : R) (bytes buffer : List ℕ) (n : ℕ)
      → ReadsSome remaining has_failed read_gives i j bytes
      → Consumes (remaining j) (remaining k) (take n buffer) → has_failed k ≡ has_failed j
      → read_gives j (Some (take n buffer)) k → n ≤ length buffer → 0 < n
      → length buffer ≡ chunk_size
      → ReadsMore remaining has_failed read_gives i k bytes (take n buffer)
  reads-more i j k bytes buffer n reads came works gives within some chunk = record {
    came = Consumes-trans _ _ _ _ _ reads.came came;
    works = works ∙ reads.works;
    between = j;
    calls = reads.calls;
    last = gives;
    some = rw (length-take-le n buffer within) some;
    small = rw (length-take-le n buffer within) (omega (arith, within, chunk));
  }

  -- and so these came
  pub reads-some : (i k : R) (before rest : List ℕ)
      → ReadsMore remaining has_failed read_gives i k before rest
      → ReadsSome remaining has_failed read_gives i k (before ++ rest)
  reads-some i k before rest more = record {
    came = more.came;
    works = more.works;
    calls = one_more more.between k before rest (before ++ rest) more.calls more.last more.some refl;
  }

  -- one that gave none
  pub reads-end : (i j k : R) (bytes : List ℕ)
      → ReadsSome remaining has_failed read_gives i j bytes
      → Consumes (remaining j) (remaining k) [] → IsAtEnd (remaining k)
      → has_failed k ≡ has_failed j → read_gives j (Some []) k
      → ReadsToEnd remaining has_failed read_gives i k bytes
  reads-end i j k bytes reads came ended works gives = record {
    came = subst (Consumes (remaining i) (remaining k)) (append-nil bytes)
        (Consumes-trans _ _ _ bytes [] reads.came came);
    ended = ended;
    works = works ∙ reads.works;
    between = j;
    calls = reads.calls;
    last = gives;
  }

  -- one that failed
  pub reads-fail : (i j k : R) (bytes : List ℕ)
      → ReadsSome remaining has_failed read_gives i j bytes
      → KeepsBytes (remaining j) (remaining k) → has_failed k ≡ true → read_gives j None k
      → ReadsToFailure remaining has_failed read_gives i k bytes
  reads-fail i j k bytes reads kept fails gives = record {
    came = Consumes-kept _ _ _ bytes reads.came kept;
    fails = fails;
    between = j;
    calls = reads.calls;
    last = gives;
  }

-- the run ends so: i and j are the input before and after
module _ (options : Options) (lead : List ℕ) {R W E : Type 0}
    (remaining : R → Option (List ℕ)) (has_failed : R → Bool)
    (read_gives : R → Option (List ℕ) → R → Type 0) (contents : W → Option (List ℕ))
    (writes_failed : W → Bool) (reports : E → Option (List ℕ)) (reports_failed : E → Bool)
    (task : Task) where
  abbrev Pass : List ℕ → Standing → Standing → W → W → E → E → Type 0
  Pass = Passes options lead contents writes_failed reports reports_failed task

  abbrev Go : Option ℕ → ℕ → List (List ℕ) → List LineOutcome → W → W → E → E → Type 0
  Go = Goes options lead contents writes_failed reports reports_failed task

  abbrev Over : List (List ℕ) → Standing → Standing → W → W → E → E → Type 0
  Over = GoesThrough options lead contents writes_failed reports reports_failed task

  abbrev Within : ℕ → List (List ℕ) → Type 0 → ℕ → Tally → Tally → W → W → E → E → Stop → Type 0
  Within = StopsWithin options lead contents writes_failed reports reports_failed task

  abbrev Runs : R → R → W → W → E → E → Tally → Result ⊤ Stop → Type 0
  Runs = GoesOver options lead remaining has_failed read_gives contents writes_failed reports
      reports_failed task

  -- the line that has begun is not too large for a run that does not go on
  abbrev Few : List ℕ → Type 0
  Few line = options.keep_going ≡ false → length line ≤ document_limit

  -- from the start on all may be told
  goes-start : (ls : List (List ℕ)) (s : Standing) (o p : W) (u v : E) → (over : Over ls at_start s o p u v)
      → Go options.reports 1 ls over.outcomes o p u v
  goes-start ls s o p u v over =
      subst (λ most. Go most 1 ls over.outcomes o p u v) (left-all options.reports) over.goes

  -- at the end of the input
  pub runs-end : (i j : R) (bytes : List ℕ) (s t : Standing) (o p r : W) (u v w : E)
      → ReadsToEnd remaining has_failed read_gives i j bytes → Pass bytes at_start s o p u v
      → is_in_line s.line ≡ true → Over (s.line ∷ []) s t p r v w
      → Runs i j o r u w t.tally (Ok tt)
  runs-end i j bytes s t o p r u v w reads passes in_line over =
      let all = over-more options lead contents writes_failed reports reports_failed task passes.lines
      (s.line ∷ []) at_start s t o p r u v w passes.over over in
      record {
        bytes = bytes;
        reads = reads;
        outcomes = all.outcomes;
        goes = subst (λ ls. Go options.reports 1 ls all.outcomes o r u w)
            (sym (passes-all options lead contents writes_failed reports reports_failed task bytes at_start
            s o p u v passes in_line))
            (goes-start (passes.lines ++ s.line ∷ []) t o r u w all);
        counts = all.counts ∙ none-plus (tally_of all.outcomes);
      }

  -- where a read fails
  pub runs-fail : (i j : R) (bytes : List ℕ) (s : Standing) (o p : W) (u v : E)
      → ReadsToFailure remaining has_failed read_gives i j bytes → Pass bytes at_start s o p u v
      → is_in_line s.line ≡ true → Few s.line
      → Runs i j o p u v s.tally (Err (stop.Run fault.Read))
  runs-fail i j bytes s o p u v reads passes in_line few = record {
    bytes = bytes;
    reads = reads;
    lines = passes.lines;
    last = s.line;
    split = passes-all options lead contents writes_failed reports reports_failed task bytes at_start s
        o p u v passes in_line;
    few = few;
    outcomes = passes.over.outcomes;
    goes = goes-start passes.lines s o p u v passes.over;
    counts = passes.over.counts ∙ none-plus (tally_of passes.over.outcomes);
  }

  -- a run that stopped at a line said so
  runs-stop : (i j : R) (o p : W) (u v : E) (tally : Tally) (why : Stop)
      → StopsAtLine options lead remaining has_failed read_gives contents writes_failed reports
      reports_failed task i j o p u v tally why
      → Runs i j o p u v tally (Err why)
  runs-stop i j o p u v tally (stop.Line r) stops = stops
  runs-stop i j o p u v tally (stop.Run fault.NoMemory) stops = stops
  runs-stop i j o p u v tally (stop.Run fault.Write) stops = stops
  runs-stop i j o p u v tally (stop.Run (fault.Query r)) stops = absurd stops.stops
  runs-stop i j o p u v tally (stop.Run (fault.Document f)) stops = absurd stops.stops
  runs-stop i j o p u v tally (stop.Run fault.DocumentTooLarge) stops = absurd stops.stops
  runs-stop i j o p u v tally (stop.Run fault.Read) stops = absurd stops.stops

  -- what is counted from the start on is all that is
  stops-start : (all : List (List ℕ)) (A : Type 0) (k : ℕ) (after : Tally) (o p : W) (u v : E)
      (why : Stop) → Within 1 all A k (tally_of []) after o p u v why
      → StopsAmong options lead contents writes_failed reports reports_failed task options.reports 1 all
      A k after o p u v why
  stops-start all A k after o p u v why within =
      subst
      (λ tally. StopsAmong options lead contents writes_failed reports reports_failed task
      options.reports 1 all A k tally o p u v why)
      (sym (within.counts ∙ none-plus within.more))
      (subst
      (λ most. StopsAmong options lead contents writes_failed reports reports_failed task most 1 all A k
      within.more o p u v why)
      (left-all options.reports) within.stops)

  -- it stopped in the bytes that came last
  pub runs-stop_in : (i j : R) (bytes more : List ℕ) (s : Standing) (after : Tally) (o p r : W)
      (u v w : E) (why : Stop) → ReadsMore remaining has_failed read_gives i j bytes more
      → Pass bytes at_start s o p u v → is_in_line s.line ≡ true → Few s.line
      → Within s.number (lines_of_input (s.line ++ more)) (false ≡ true) 0 s.tally after p r v w why
      → Runs i j o r u w after (Err why)
  runs-stop_in i j bytes more s after o p r u v w why reads passes in_line few within =
      runs-stop i j o r u w after why (record {
        before = bytes;
        rest = more;
        at_end = false;
        reads = by_one_more reads;
        ended = passes.lines;
        begun = s.line;
        split = passes-all options lead contents writes_failed reports reports_failed task bytes at_start
            s o p u v passes in_line;
        few = few;
        stops = stops-start (lines_of_input (bytes ++ more)) (false ≡ true) (length passes.lines) after
            o r u w why
            (subst (λ all. Within 1 all (false ≡ true) (length passes.lines) (tally_of []) after o r u w why)
            (sym (passes-lines options lead contents writes_failed reports reports_failed task bytes more
            at_start s o p u v passes))
            (within-after options lead contents writes_failed reports reports_failed task passes.lines
            (lines_of_input (s.line ++ more)) (false ≡ true) 0 (length passes.lines) at_start s after
            o p r u v w why (omega arith) passes.over within));
      })

  -- it stopped at the last line
  pub runs-stop_last : (i j : R) (bytes : List ℕ) (s : Standing) (after : Tally) (o p r : W)
      (u v w : E) (why : Stop) → ReadsToEnd remaining has_failed read_gives i j bytes
      → Pass bytes at_start s o p u v → is_in_line s.line ≡ true → Few s.line
      → StopsEnding options lead contents writes_failed reports reports_failed task s.number s.line
      s.tally after p r v w why
      → Runs i j o r u w after (Err why)
  runs-stop_last i j bytes s after o p r u v w why reads passes in_line few within =
      let lines = passes-all options lead contents writes_failed reports reports_failed task bytes at_start
      s o p u v passes in_line in
      runs-stop i j o r u w after why (record {
        before = bytes;
        rest = [];
        at_end = true;
        reads = to_end refl reads;
        ended = passes.lines;
        begun = s.line;
        split = lines;
        few = few;
        stops = stops-start (lines_of_input (bytes ++ [])) (true ≡ true) (length passes.lines) after
            o r u w why
            (subst (λ all. Within 1 all (true ≡ true) (length passes.lines) (tally_of []) after o r u w why)
            (sym (ap lines_of_input (append-nil bytes) ∙ lines))
            (within-after options lead contents writes_failed reports reports_failed task passes.lines
            (s.line ∷ []) (true ≡ true) 0 (length passes.lines) at_start s after o p r u v w why
            (omega arith) passes.over
            (within-whole options lead contents writes_failed reports reports_failed task s.number
            (s.line ∷ []) ⊤ (true ≡ true) 0 s.tally after p r v w why refl within)));
      })

  -- it stopped where all that came was gone over: there is no memory to read, or there are no
  -- numbers for more reads
  pub runs-stop_reading : (i j : R) (bytes : List ℕ) (s : Standing) (o p : W) (u v : E)
      → ReadsSome remaining has_failed read_gives i j bytes → Pass bytes at_start s o p u v
      → is_in_line s.line ≡ true → Few s.line
      → Runs i j o p u v s.tally (Err (stop.Run fault.NoMemory))
  runs-stop_reading i j bytes s o p u v reads passes in_line few =
      let lines = passes-all options lead contents writes_failed reports reports_failed task bytes at_start
      s o p u v passes in_line in
      runs-stop i j o p u v s.tally (stop.Run fault.NoMemory) (record {
        before = bytes;
        rest = [];
        at_end = false;
        reads = so_far refl reads;
        ended = passes.lines;
        begun = s.line;
        split = lines;
        few = few;
        stops = stops-start (lines_of_input (bytes ++ [])) (false ≡ true) (length passes.lines) s.tally
            o p u v (stop.Run fault.NoMemory)
            (subst
            (λ all. Within 1 all (false ≡ true) (length passes.lines) (tally_of []) s.tally o p u v
            (stop.Run fault.NoMemory))
            (sym (ap lines_of_input (append-nil bytes) ∙ lines))
            (within-over options lead contents writes_failed reports reports_failed task passes.lines
            (s.line ∷ []) (false ≡ true) (length passes.lines) at_start s o p u v (λ is. cc) (omega arith)
            passes.over));
      })

  -- the same before anything was read
  pub runs-stop_unread : (i : R) (o : W) (u : E)
      → Runs i i o o u u (tally_of []) (Err (stop.Run fault.NoMemory))
  runs-stop_unread i o u =
      runs-stop_reading i i [] at_start o o u u (reads-none remaining has_failed read_gives i)
      (passes-none options lead contents writes_failed reports reports_failed task at_start o u) refl
      (λ is. omega arith)
