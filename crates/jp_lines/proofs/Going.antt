-- Lines gone over after those before.
use Rattle.std.proofs.Common.{◌≡◌, ◌≢◌, ◌⊎◌, inl, inr, ℕ, ◌+◌, ◌≤◌, Bool, true, List, [], ◌∷◌}
use Rattle.std.proofs.Common.{◌++◌, length, Option, subst, refl, sym, ◌∙◌, ap, append_assoc}
use Rattle.std.proofs.Common.{arith}
use Rattle.std.proofs.KnownBytes.{Keeps-refl}
use Rattle.std.proofs.lemmas.Grind.{flat_map-append}
use Rattle.std.proofs.lemmas.List.{append-nil, length-append}
use Rattle.std.proofs.lemmas.List.Folds.{list_all-append}
use Rattle.std.specs.Io.KnownBytes.{Keeps}
use Rattle.jp_command.specs.Output.{WritesAll}
use Rattle.jp_command.specs.declared.fault.Fault.TheVariants.{Query, Document, DocumentTooLarge}
use Rattle.jp_command.specs.declared.fault.Fault.TheVariants.{NoMemory, Read, Write}
use Rattle.jp_lines.specs.Lines.{lines_of_input, newline}
use Rattle.jp_lines.specs.Outcome.{LineOutcome, Refused, ComesTo, left_after, none, plus, refusals}
use Rattle.jp_lines.specs.Outcome.{tally_of, written_of}
use Rattle.jp_lines.specs.Run.{Goes, GoesInPart, StopsAmong, WritesInPart}
use Rattle.jp_lines.specs.Told.{Tells}
use Rattle.jp_lines.specs.Private.Passing.{GoesThrough, Passes, Standing, StopsWithin, ended, is_in_line}
use Rattle.jp_lines.specs.Task.{Task}
use Rattle.jp_lines.specs.declared.options.Options.{Options}
use Rattle.jp_lines.specs.declared.stop.Stop.{Stop}
use Rattle.jp_lines.specs.declared.stop.Stop.TheVariants.{Run, Line}
use Rattle.jp_lines.specs.declared.tally.Tally.{Tally}
use Rattle.jp_lines.proofs.Outcomes.{come-append}
use Rattle.jp_lines.proofs.Splitting.{lines-ended}
use Rattle.jp_lines.proofs.Tallies.{all-unrefused, left-after, none-refused, none_where, plus-more}
use Rattle.jp_lines.proofs.Tallies.{plus-none, refused-counted, some-refused, tally-append, told-append, told-none}
use Rattle.jp_lines.proofs.ToldLemmas.{writes-none, writes-more, tells-none, tells-more}

append-some : {A : Type 0} (xs ys : List A) → ys ≢ [] → (xs ++ ys) ≢ []
append-some [] ys some is = some is
append-some (x ∷ xs) ys some is = cc

module _ (options : Options) (lead : List ℕ) {W E : Type 0} (contents : W → Option (List ℕ))
    (writes_failed : W → Bool) (reports : E → Option (List ℕ)) (reports_failed : E → Bool)
    (task : Task) where
  abbrev Go : Option ℕ → ℕ → List (List ℕ) → List LineOutcome → W → W → E → E → Type 0
  Go = Goes options lead contents writes_failed reports reports_failed task

  abbrev Over : List (List ℕ) → Standing → Standing → W → W → E → E → Type 0
  Over = GoesThrough options lead contents writes_failed reports reports_failed task

  abbrev Pass : List ℕ → Standing → Standing → W → W → E → E → Type 0
  Pass = Passes options lead contents writes_failed reports reports_failed task

  abbrev Stops : Option ℕ → ℕ → List (List ℕ) → Type 0 → ℕ → Tally → W → W → E → E → Stop → Type 0
  Stops = StopsAmong options lead contents writes_failed reports reports_failed task

  -- of how many refusals the lines from a standing on may be told
  abbrev pub left_at : Standing → Option ℕ
  left_at s = left_after s.tally.refused options.reports

  pub goes-none : (most : Option ℕ) (n : ℕ) (o : W) (u : E) → Go most n [] [] o o u u
  goes-none most n o u = record {
    come = none n;
    writes = writes-none contents writes_failed o;
    tells = subst (Tells reports reports_failed u u) (sym (told-none lead most))
        (tells-none reports reports_failed u);
    allowed = λ is. absurd (is refl);
    quiet = λ is. refl;
  }

  pub goes-more : (most : Option ℕ) (n : ℕ) (ls ms : List (List ℕ)) (xs ys : List LineOutcome)
      (o p r : W) (u v w : E) → Go most n ls xs o p u v
      → Go (left_after (length (refusals xs)) most) (n + length ls) ms ys p r v w
      → Go most n (ls ++ ms) (xs ++ ys) o r u w
  goes-more most n ls ms xs ys o p r u v w first second = record {
    come = come-append options task n ls ms xs ys first.come second.come;
    writes = subst (WritesAll contents writes_failed o r) (sym (flat_map-append written_of xs ys))
        (writes-more contents writes_failed o p r _ _ first.writes second.writes);
    tells = subst (Tells reports reports_failed u w) (sym (told-append lead most xs ys))
        (tells-more reports reports_failed u v w _ _ first.tells second.tells);
    allowed = λ is. allowed (some-refused xs ys is);
    quiet = λ is. quiet (none-refused xs ys is);
  }
    where
      allowed : (refusals xs ≢ []) ⊎ (refusals ys ≢ []) → options.keep_going ≡ true
      allowed (inl is) = first.allowed is
      allowed (inr is) = second.allowed is

      quiet : (refusals xs ≡ []) × (refusals ys ≡ []) → w ≡ u
      quiet both = second.quiet both.1 ∙ first.quiet both.0

  -- how many are left behind lines is so many fewer as are refused in them
  left-over : (ls : List (List ℕ)) (s t : Standing) (o p : W) (u v : E) → (over : Over ls s t o p u v)
      → left_at t ≡ left_after (length (refusals over.outcomes)) (left_at s)
  left-over ls s t o p u v over =
      ap (λ n. left_after n options.reports)
      (ap (λ t. t.refused) over.counts
      ∙ ap (λ n. s.tally.refused + n) (refused-counted over.outcomes))
      ∙ sym (left-after s.tally.refused (length (refusals over.outcomes)) options.reports)

  pub over-none : (s t : Standing) (o : W) (u : E) → t.number ≡ s.number → t.tally ≡ s.tally
      → Over [] s t o o u u
  over-none s t o u number tally = record {
    outcomes = [];
    goes = goes-none (left_at s) s.number o u;
    number = number ∙ omega arith;
    counts = tally ∙ sym (plus-none s.tally);
  }

  -- lines gone over behind those that lead from s to t
  goes-after : (ls ms : List (List ℕ)) (ys : List LineOutcome) (s t : Standing) (o p r : W) (u v w : E)
      → (over : Over ls s t o p u v) → Go (left_at t) t.number ms ys p r v w
      → Go (left_at s) s.number (ls ++ ms) (over.outcomes ++ ys) o r u w
  goes-after ls ms ys s t o p r u v w over goes =
      goes-more (left_at s) s.number ls ms over.outcomes ys o p r u v w over.goes
      (subst (λ most. Go most (s.number + length ls) ms ys p r v w) (left-over ls s t o p u v over)
      (subst (λ n. Go (left_at t) n ms ys p r v w) over.number goes))

  pub over-more : (ls ms : List (List ℕ)) (s t z : Standing) (o p r : W) (u v w : E)
      → Over ls s t o p u v → Over ms t z p r v w → Over (ls ++ ms) s z o r u w
  over-more ls ms s t z o p r u v w first second = record {
    outcomes = first.outcomes ++ second.outcomes;
    goes = goes-after ls ms second.outcomes s t o p r u v w first second.goes;
    number = omega (arith, first.number, second.number, length-append ls ms);
    counts = second.counts
        ∙ ap (λ t. plus t (tally_of second.outcomes)) first.counts
        ∙ plus-more s.tally (tally_of first.outcomes) (tally_of second.outcomes)
        ∙ ap (plus s.tally) (sym (tally-append first.outcomes second.outcomes));
  }

  pub passes-none : (s : Standing) (o : W) (u : E) → Pass [] s s o o u u
  passes-none s o u = record {
    lines = [];
    is = append-nil s.line;
    whole = refl;
    over = over-none s s o u refl refl;
  }

  -- bytes that end no line
  pub passes-kept : (bytes : List ℕ) (s t : Standing) (o : W) (u : E) → t.number ≡ s.number
      → t.tally ≡ s.tally → t.line ≡ s.line ++ bytes
      → Pass bytes s t o o u u
  passes-kept bytes s t o u number tally line = record {
    lines = [];
    is = sym line;
    whole = refl;
    over = over-none s t o u number tally;
  }

  -- the byte that ends one
  pub passes-end : (s t : Standing) (o p : W) (u v : E) → is_in_line s.line ≡ true → t.line ≡ []
      → Over (s.line ∷ []) s t o p u v → Pass (newline ∷ []) s t o p u v
  passes-end s t o p u v in_line next over = record {
    lines = s.line ∷ [];
    is = sym (ap (λ l. ended (s.line ∷ []) ++ l) next ∙ append-nil _ ∙ append-nil _);
    whole = rw in_line refl;
    over = over;
  }

  pub passes-more : (a b : List ℕ) (s t z : Standing) (o p r : W) (u v w : E)
      → Pass a s t o p u v → Pass b t z p r v w → Pass (a ++ b) s z o r u w
  passes-more a b s t z o p r u v w first second = record {
    lines = first.lines ++ second.lines;
    is = sym (append_assoc s.line a b)
        ∙ ap (λ l. l ++ b) first.is
        ∙ append_assoc (ended first.lines) t.line b
        ∙ ap (λ l. ended first.lines ++ l) second.is
        ∙ sym (append_assoc (ended first.lines) (ended second.lines) z.line)
        ∙ ap (λ l. l ++ z.line)
        (sym (flat_map-append (λ l. l ++ newline ∷ []) first.lines second.lines));
    whole = list_all-append is_in_line first.lines second.lines
        ∙ rw (first.whole, second.whole) refl;
    over = over-more _ _ s t z o p r u v w first.over second.over;
  }

  -- the lines of what came and of what is to come
  pub passes-lines : (a rest : List ℕ) (s t : Standing) (o p : W) (u v : E)
      → (passes : Pass a s t o p u v)
      → lines_of_input (s.line ++ (a ++ rest)) ≡ passes.lines ++ lines_of_input (t.line ++ rest)
  passes-lines a rest s t o p u v passes =
      ap lines_of_input
      (sym (append_assoc s.line a rest)
      ∙ ap (λ l. l ++ rest) passes.is
      ∙ append_assoc (ended passes.lines) t.line rest)
      ∙ lines-ended passes.lines (t.line ++ rest) passes.whole

  abbrev Part : Option ℕ → ℕ → List (List ℕ) → Type 0 → ℕ → Tally → W → W → E → E → Type 0
  Part = GoesInPart options lead contents writes_failed reports reports_failed task

  abbrev Next : ℕ → List (List ℕ) → Type 0 → W → W → Type 0
  Next n rest A p r = Keeps (contents p) (contents r)
      ⊎ WritesInPart options lead contents writes_failed reports reports_failed task n rest A p r

  counts-after : (xs ys : List LineOutcome) (more : Tally) → more ≡ tally_of ys
      → plus (tally_of xs) more ≡ tally_of (xs ++ ys)
  counts-after xs ys more is = ap (plus (tally_of xs)) is ∙ sym (tally-append xs ys)

  -- what is gone over is so in part
  part-over : (ls more : List (List ℕ)) (A : Type 0) (k : ℕ) (s t : Standing) (o p : W) (u v : E)
      → more ≢ [] → k ≤ length ls → (over : Over ls s t o p u v)
      → Part (left_at s) s.number (ls ++ more) A k (tally_of over.outcomes) o p u v
  part-over ls more A k s t o p u v some among over = record {
    lines = ls;
    rest = more;
    front = refl;
    complete = inl some;
    outcomes = over.outcomes;
    between = p;
    goes = over.goes;
    counts = refl;
    answered = among;
    next = inl (Keeps-refl (contents p));
  }

  part-after : (ls all : List (List ℕ)) (A : Type 0) (j k : ℕ) (more : Tally) (s t : Standing)
      (o p r : W) (u v w : E) → k ≤ length ls → (over : Over ls s t o p u v)
      → Part (left_at t) t.number all A j more p r v w
      → Part (left_at s) s.number (ls ++ all) A k (plus (tally_of over.outcomes) more) o r u w
  part-after ls all A j k more s t o p r u v w among over part = record {
    lines = ls ++ part.lines;
    rest = part.rest;
    front = ap (λ l. ls ++ l) part.front ∙ sym (append_assoc ls part.lines part.rest);
    complete = part.complete;
    outcomes = over.outcomes ++ part.outcomes;
    between = part.between;
    goes = goes-after ls part.lines part.outcomes s t o p part.between u v w over part.goes;
    counts = counts-after over.outcomes part.outcomes more part.counts;
    answered = omega (arith, among, length-append ls part.lines);
    next = subst (λ n. Next n part.rest A part.between r)
        (omega (arith, over.number, length-append ls part.lines)) part.next;
  }

  part-longer : (most : Option ℕ) (n : ℕ) (all more : List (List ℕ)) (A B : Type 0) (k : ℕ)
      (tally : Tally) (o p : W) (u v : E)
      → more ≢ [] → Part most n all A k tally o p u v → Part most n (all ++ more) B k tally o p u v
  part-longer most n all more A B k tally o p u v some part = record {
    lines = part.lines;
    rest = part.rest ++ more;
    front = ap (λ l. l ++ more) part.front ∙ append_assoc part.lines part.rest more;
    complete = inl (append-some part.rest more some);
    outcomes = part.outcomes;
    between = part.between;
    goes = part.goes;
    counts = part.counts;
    answered = part.answered;
    next = longer part.next;
  }
    where
      longer : Next (n + length part.lines) part.rest A part.between p
          → Next (n + length part.lines) (part.rest ++ more) B part.between p
      longer (inl kept) = inl kept
      longer (inr next) = inr (record {
        line = next.line;
        rest = next.rest ++ more;
        first = ap (λ l. l ++ more) next.first;
        complete = inl (append-some next.rest more some);
        selected = next.selected;
        output = next.output;
        comes = next.comes;
        writes = next.writes;
      })

  part-whole : (most : Option ℕ) (n : ℕ) (all : List (List ℕ)) (A B : Type 0) (k : ℕ) (tally : Tally)
      (o p : W) (u v : E) → B → Part most n all A k tally o p u v → Part most n all B k tally o p u v
  part-whole most n all A B k tally o p u v whole part = record {
    lines = part.lines;
    rest = part.rest;
    front = part.front;
    complete = inr whole;
    outcomes = part.outcomes;
    between = part.between;
    goes = part.goes;
    counts = part.counts;
    answered = part.answered;
    next = known part.next;
  }
    where
      known : Next (n + length part.lines) part.rest A part.between p
          → Next (n + length part.lines) part.rest B part.between p
      known (inl kept) = inl kept
      known (inr next) = inr (record {
        line = next.line;
        rest = next.rest;
        first = next.first;
        complete = inr whole;
        selected = next.selected;
        output = next.output;
        comes = next.comes;
        writes = next.writes;
      })

  -- why a run stops among these lines is why it stops among them and those before, of which so many
  -- had ended before the last read
  stops-after : (ls all : List (List ℕ)) (A : Type 0) (j k : ℕ) (more : Tally) (s t : Standing)
      (o p r : W) (u v w : E) (stop : Stop) → k ≤ length ls → (over : Over ls s t o p u v)
      → Stops (left_at t) t.number all A j more p r v w stop
      → Stops (left_at s) s.number (ls ++ all) A k (plus (tally_of over.outcomes) more) o r u w stop
  stops-after ls all A j k more s t o p r u v w (Line line) among over stops = record {
    lines = ls ++ stops.lines;
    line = stops.line;
    rest = stops.rest;
    split = ap (λ l. ls ++ l) stops.split ∙ sym (append_assoc ls stops.lines _);
    outcomes = over.outcomes ++ stops.outcomes;
    goes = goes-after ls stops.lines stops.outcomes s t o p r u v w over stops.goes;
    counts = counts-after over.outcomes stops.outcomes more stops.counts;
    unrefused = all-unrefused over.outcomes stops.outcomes
        (none_where (refusals over.outcomes) options.keep_going over.goes.allowed stops.stops)
        stops.unrefused;
    comes = subst (λ n. ComesTo options task n stops.line (Refused line))
        (omega (arith, over.number, length-append ls stops.lines)) stops.comes;
    complete = stops.complete;
    answered = omega (arith, among, length-append ls stops.lines);
    stops = stops.stops;
  }
  stops-after ls all A j k more s t o p r u v w (Run NoMemory) among over stops = (
    part-after ls all A j k more s t o p r u v w among over stops.0,
    stops.1 ∙ over.goes.writes.works,
  )
  stops-after ls all A j k more s t o p r u v w (Run Write) among over stops =
      (part-after ls all A j k more s t o p r u v w among over stops.0, stops.1)
  stops-after ls all A j k more s t o p r u v w (Run (Query f)) among over stops = absurd stops
  stops-after ls all A j k more s t o p r u v w (Run (Document f)) among over stops = absurd stops
  stops-after ls all A j k more s t o p r u v w (Run DocumentTooLarge) among over stops = absurd stops
  stops-after ls all A j k more s t o p r u v w (Run Read) among over stops = absurd stops

  -- and why it stops among them where others follow
  stops-longer : (most : Option ℕ) (n : ℕ) (all more : List (List ℕ)) (A B : Type 0) (k : ℕ)
      (tally : Tally) (o p : W) (u v : E) (stop : Stop) → more ≢ []
      → Stops most n all A k tally o p u v stop → Stops most n (all ++ more) B k tally o p u v stop
  stops-longer most n all more A B k tally o p u v (Line line) some stops = record {
    lines = stops.lines;
    line = stops.line;
    rest = stops.rest ++ more;
    split = ap (λ l. l ++ more) stops.split ∙ append_assoc stops.lines _ more;
    outcomes = stops.outcomes;
    goes = stops.goes;
    counts = stops.counts;
    unrefused = stops.unrefused;
    comes = stops.comes;
    complete = inl (append-some stops.rest more some);
    answered = stops.answered;
    stops = stops.stops;
  }
  stops-longer most n all more A B k tally o p u v (Run NoMemory) some stops =
      (part-longer most n all more A B k tally o p u v some stops.0, stops.1)
  stops-longer most n all more A B k tally o p u v (Run Write) some stops =
      (part-longer most n all more A B k tally o p u v some stops.0, stops.1)
  stops-longer most n all more A B k tally o p u v (Run (Query f)) some stops = absurd stops
  stops-longer most n all more A B k tally o p u v (Run (Document f)) some stops = absurd stops
  stops-longer most n all more A B k tally o p u v (Run DocumentTooLarge) some stops = absurd stops
  stops-longer most n all more A B k tally o p u v (Run Read) some stops = absurd stops

  -- and where the last line is known to be whole
  stops-whole : (most : Option ℕ) (n : ℕ) (all : List (List ℕ)) (A B : Type 0) (k : ℕ) (tally : Tally)
      (o p : W) (u v : E) (stop : Stop) → B → Stops most n all A k tally o p u v stop
      → Stops most n all B k tally o p u v stop
  stops-whole most n all A B k tally o p u v (Line line) whole stops = record {
    lines = stops.lines;
    line = stops.line;
    rest = stops.rest;
    split = stops.split;
    outcomes = stops.outcomes;
    goes = stops.goes;
    counts = stops.counts;
    unrefused = stops.unrefused;
    comes = stops.comes;
    complete = inr (inl whole);
    answered = stops.answered;
    stops = stops.stops;
  }
  stops-whole most n all A B k tally o p u v (Run NoMemory) whole stops =
      (part-whole most n all A B k tally o p u v whole stops.0, stops.1)
  stops-whole most n all A B k tally o p u v (Run Write) whole stops =
      (part-whole most n all A B k tally o p u v whole stops.0, stops.1)
  stops-whole most n all A B k tally o p u v (Run (Query f)) whole stops = absurd stops
  stops-whole most n all A B k tally o p u v (Run (Document f)) whole stops = absurd stops
  stops-whole most n all A B k tally o p u v (Run DocumentTooLarge) whole stops = absurd stops
  stops-whole most n all A B k tally o p u v (Run Read) whole stops = absurd stops

  -- ---- the same with what is counted before

  abbrev Within : ℕ → List (List ℕ) → Type 0 → ℕ → Tally → Tally → W → W → E → E → Stop → Type 0
  Within = StopsWithin options lead contents writes_failed reports reports_failed task

  -- it stops behind all that is gone over
  pub within-over : (ls more : List (List ℕ)) (A : Type 0) (k : ℕ) (s t : Standing) (o p : W) (u v : E)
      → more ≢ [] → k ≤ length ls → Over ls s t o p u v
      → Within s.number (ls ++ more) A k s.tally t.tally o p u v (Run NoMemory)
  within-over ls more A k s t o p u v some among over = record {
    more = tally_of over.outcomes;
    counts = over.counts;
    stops = (
      part-over ls more A k s t o p u v some among over,
      over.goes.writes.works,
    );
  }

  pub within-after : (ls all : List (List ℕ)) (A : Type 0) (j k : ℕ) (s t : Standing) (after : Tally)
      (o p r : W) (u v w : E) (stop : Stop) → k ≤ length ls → Over ls s t o p u v
      → Within t.number all A j t.tally after p r v w stop
      → Within s.number (ls ++ all) A k s.tally after o r u w stop
  within-after ls all A j k s t after o p r u v w stop among over within = record {
    more = plus (tally_of over.outcomes) within.more;
    counts = within.counts
        ∙ ap (λ t. plus t within.more) over.counts
        ∙ plus-more s.tally (tally_of over.outcomes) within.more;
    stops = stops-after ls all A j k within.more s t o p r u v w stop among over within.stops;
  }

  pub within-longer : (n : ℕ) (all more : List (List ℕ)) (A B : Type 0) (k : ℕ) (before after : Tally)
      (o p : W) (u v : E) (stop : Stop) → more ≢ [] → Within n all A k before after o p u v stop
      → Within n (all ++ more) B k before after o p u v stop
  within-longer n all more A B k before after o p u v stop some within = record {
    more = within.more;
    counts = within.counts;
    stops = stops-longer _ n all more A B k within.more o p u v stop some within.stops;
  }

  pub within-whole : (n : ℕ) (all : List (List ℕ)) (A B : Type 0) (k : ℕ) (before after : Tally)
      (o p : W) (u v : E) (stop : Stop) → B → Within n all A k before after o p u v stop
      → Within n all B k before after o p u v stop
  within-whole n all A B k before after o p u v stop whole within = record {
    more = within.more;
    counts = within.counts;
    stops = stops-whole _ n all A B k within.more o p u v stop whole within.stops;
  }
