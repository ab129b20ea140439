-- What is known of the rules for whole texts, of a query and of a filter's expression: each reads
-- exactly the texts that spell a tree.
use Rattle.std.proofs.Common.{ℕ, true, [], ◌∷◌, ◌++◌, List, refl, sym, append-nil, subst}
use Rattle.std.specs.Prelude.{codes}
use Rattle.jp_reading.specs.Texts.{Text, Spans, is_blank}
use Rattle.jp_reading.specs.Forms.{Form, ◌⌢◌, word, Each, Blank, AllPassing}
use Rattle.jp_reading.specs.Outcome.{State, skip}
use Rattle.jp_reading.specs.Rule.{here, beyond}
use Rattle.jp_reading.proofs.States.Steps.{skip-way}
use Rattle.jp_reading.proofs.States.Between.{Reads, Prefix, Stops, Has, Within, prefix-then, prefix-none}
use Rattle.jp_reading.proofs.States.Between.{prefix-as, reads-is, reads-then, reads-as, joined-over, has-as}
use Rattle.jp_reading.proofs.Forms.Levels.{Made}
use Rattle.jp_reading.proofs.Forms.Joining.{each-append, joined-assoc, after-within}
use Rattle.jp_reading.proofs.Forms.Same.{Same}
use Rattle.jp_reading.proofs.Rules.Form.{form, Alive, least, has}
use Rattle.jp_reading.proofs.Rules.Follow.{at_end}
use Rattle.jp_tree.specs.Tree.{ExprTree, SegmentTree, QueryTree, query, segments}
use Rattle.jp_query.specs.Grammar.{Expression, Segment, Segments, Inside, Spells, SpellsFilter}
use Rattle.jp_query.specs.Private.Rules as rules
use Rattle.jp_query.specs.Spelled.{Spelling}
use Rattle.jp_query.proofs.Rules.Conditions.{IsApart, segment-alive, query-alive, query-apart}
use Rattle.jp_query.proofs.Rules.Conditions.{filter-alive, filter-apart}
use Rattle.jp_query.proofs.Forms.Selectors.{opening_form, segment-same, query-same}
use Rattle.jp_query.proofs.Forms.Expressions.{filter-same}

-- a rule for whole texts, and the texts that it takes within n levels; where a text goes on after one
-- of them, more of such a text could stand past the blanks
pub record WholeRule {A : Type 0} (Spelt : Spelling A) (R : rules.QueryRule true here beyond A)
    : Type 1 where
  pub alive : Alive R
  pub apart : IsApart R alive at_end
  pub whole : ℕ → A → Form
  pub is_form : (n : ℕ) (x : A) → Same (form (opening_form (Inside n)) R x) (whole n x)
  pub spells : (n : ℕ) (x : A) (s : Spans) (text : Text) → whole n x s 0 text → Spelt n x s text
  pub spelt : (n : ℕ) (x : A) (s : Spans) (text : Text) → Spelt n x s text → whole n x s 0 text
  pub more : (n : ℕ) (x : A) (p r : State) → Reads (whole n x) p r → Stops (whole n) p (skip r)

-- ---- queries

-- the query of these segments
abbrev pub query_of_parts : List SegmentTree → QueryTree
query_of_parts xs = query true (segments xs)

-- a query with n levels, as it is read
abbrev pub whole : ℕ → QueryTree → Form
whole n q = word (codes "$") ⌢ Made query_of_parts (Segments (Inside n)) q

-- where the text goes on after its segments, yet another segment could follow past the blanks
another-segment : (n : ℕ) (x : QueryTree) (p r : State) → Reads (whole n x) p r
    → Stops (whole n) p (skip r)
another-segment n x p r h = record {
  value = query_of_parts (xs ++ y ∷ []);
  prefix =
      prefix-as ((word (codes "$") ⌢ Each F xs) ⌢ F y) (whole n (query_of_parts (xs ++ y ∷ []))) p
      (skip r) (λ s o t g. after-within (word (codes "$")) (Each F xs ⌢ F y)
      (Made query_of_parts (Segments (Inside n)) (query_of_parts (xs ++ y ∷ [])))
      (λ v i u k. record {
        part = xs ++ y ∷ [];
        same = refl;
        is = each-append F xs y v i u k;
      }) s o t (joined-assoc (word (codes "$")) (Each F xs) (F y) s o t g))
      (prefix-then (word (codes "$") ⌢ Each F xs) (F y) p r (skip r)
      (reads-is (whole n x) (word (codes "$") ⌢ Each F xs) p r h
      (joined-over (word (codes "$")) _ (Each F xs) h.spans p.at h.text h.is h.is.two.is))
      (prefix-then Blank (Segment (Inside n) y) r (skip r) (skip r) (skip-way r)
      (prefix-none (Segment (Inside n) y) (skip r) some)));
}
  where
    xs : List SegmentTree
    xs = h.is.two.part

    y : SegmentTree
    y = least rules.segment segment-alive

    F : SegmentTree → Form
    F z = Blank ⌢ Segment (Inside n) z

    some : Has (Segment (Inside n) y)
    some =
        has-as (form (opening_form (Inside n)) rules.segment y) (Segment (Inside n) y)
        (segment-same (Inside n) y).to (has (opening_form (Inside n)) rules.segment segment-alive)

query-spells : (n : ℕ) (q : QueryTree) (s : Spans) (text : Text) → whole n q s 0 text
    → Spells n q s text
query-spells n q s text h = record {
  parts = h.two.part;
  tree = h.two.same;
  is = joined-over (word (codes "$")) (Made query_of_parts (Segments (Inside n)) q)
      (Segments (Inside n) h.two.part) s 0 text h h.two.is;
}

query-spelt : (n : ℕ) (q : QueryTree) (s : Spans) (text : Text) → Spells n q s text
    → whole n q s 0 text
query-spelt n q s text h =
    joined-over (word (codes "$")) (Segments (Inside n) h.parts) _ s 0 text h.is
    (record { part = h.parts; same = h.tree; is = h.is.two })

pub queries : WholeRule Spells rules.query
queries = record {
  alive = query-alive;
  apart = query-apart;
  whole = whole;
  is_form = λ n q. query-same (Inside n) q;
  spells = query-spells;
  spelt = query-spelt;
  more = another-segment;
}

-- ---- expressions of filters

-- an expression with blanks around it, as it is read
abbrev pub whole_filter : ℕ → ExprTree → Form
whole_filter n e = Blank ⌢ Expression (Inside n) e ⌢ Blank

blanks-join : Within (Blank ⌢ Blank) Blank
blanks-join s o t h = record {
  none = rw (h.spans, h.one.none, h.two.none) refl;
  blank = rw h.is (all h.first h.second h.one.blank h.two.blank);
}
  where
    all : (t u : Text) → AllPassing is_blank t → AllPassing is_blank u
        → AllPassing is_blank (t ++ u)
    all [] u f g = g
    all (c ∷ t) u f g = (f.0, all t u f.1 g)

-- what was read is a prefix of itself
prefix-all : (P : Form) (p q : State) → Reads P p q → Prefix P p q
prefix-all P p q h = record {
  read = h.text;
  more = [];
  spans = h.spans;
  rest = h.way.rest;
  at = h.way.at;
  is = subst (P h.spans p.at) (sym (append-nil h.text)) h.is;
}

-- where the text goes on after an expression, more blanks may follow
more-blanks : (n : ℕ) (e : ExprTree) (p r : State) → Reads (whole_filter n e) p r
    → Stops (whole_filter n) p (skip r)
more-blanks n e p r h = record {
  value = e;
  prefix = prefix-all (whole_filter n e) p (skip r)
      (reads-as (whole_filter n e ⌢ Blank) (whole_filter n e) p (skip r) within
      (reads-then (whole_filter n e) Blank p r (skip r) h (skip-way r)));
}
  where
    E : Form
    E = Expression (Inside n) e

    within : Within (whole_filter n e ⌢ Blank) (whole_filter n e)
    within s o t k =
        after-within Blank ((E ⌢ Blank) ⌢ Blank) (E ⌢ Blank)
        (λ v i u j. after-within E (Blank ⌢ Blank) Blank blanks-join v i u
        (joined-assoc E Blank Blank v i u j)) s o t
        (joined-assoc Blank (E ⌢ Blank) Blank s o t k)

pub filters : WholeRule SpellsFilter rules.filter_text
filters = record {
  alive = filter-alive;
  apart = filter-apart;
  whole = whole_filter;
  is_form = λ n e. filter-same (Inside n) e;
  spells = λ n e s text h. h;
  spelt = λ n e s text h. h;
  more = more-blanks;
}
