-- Lines written one after another.
use Rattle.std.proofs.Common.{◌≡◌, ℕ, Bool, List, [], ◌∷◌, ◌++◌, Option, Result, Ok, Err, IfErr}
use Rattle.std.proofs.Common.{subst, refl, sym, ◌∙◌, ap, append_assoc, codes}
use Rattle.std.proofs.lemmas.Grind.{flat_map-append}
use Rattle.std.proofs.lemmas.List.{append-nil}
use Rattle.std.proofs.KnownBytes.{Appends-nil}
use Rattle.std.specs.Io.KnownBytes.{Appends}
use Rattle.std.specs.List.{flat_map}
use Rattle.std.specs.Result.{IsErrAnd}
use Rattle.jp_document.specs.Node.{Node}
use Rattle.jp_command.specs.Lead.{line_behind}
use Rattle.jp_command.specs.Lines.{text_in_line}
use Rattle.jp_command.specs.Output.{AppendsPrefix, WritesAll}
use Rattle.jp_command.specs.Private.AsFound.{WritesGiven, WritesPart}
use Rattle.jp_command.specs.Writes.{GoByCalls, GoesInPart, GoesToAFailure, none}
use Rattle.jp_command.specs.Written.{GoesAs, StopsWriting}
use Rattle.jp_command.specs.declared.fault.Fault.{Fault}
use Rattle.jp_command.specs.declared.form.Form.{Form}
use Rattle.jp_command.specs.declared.fault.Fault.TheVariants.{NoMemory}
use Rattle.jp_command.proofs.Calls.{failure-append, failure-longer, go-append}
use Rattle.jp_command.proofs.Calls.{part-append, part-none}
use Rattle.jp_command.proofs.Streams.{Appends-twice}

-- nodes that have the same in their lines have the same lines
pub line_alike : (lead : List ℕ) (form : Form) (n p : Node) → text_in_line form n ≡ text_in_line form p
    → line_behind lead form n ≡ line_behind lead form p
line_alike lead form n p same = ap (λ t. lead ++ (t ++ codes "\n")) same

-- o and p are the output before and now, and line_of is the line of each node
module _ {W : Type 0} (contents : W → Option (List ℕ)) (has_failed : W → Bool)
    (write_takes : W → Option (List ℕ) → W → Type 0) (line_of : Node → List ℕ) where
  -- the lines of some nodes
  abbrev lines : List Node → List ℕ
  lines ns = flat_map line_of ns

  abbrev Given : List Node → List Node → W → W → Type 0
  Given = WritesGiven contents write_takes line_of

  abbrev Part : List Node → List Node → W → W → Type 0
  Part = WritesPart contents write_takes line_of

  -- the lines of some nodes and of one more
  lines-more : (ns : List Node) (n : Node) → lines ns ++ line_of n ≡ lines (ns ++ n ∷ [])
  lines-more ns n = ap (λ t. lines ns ++ t) (sym (append-nil (line_of n)))
      ∙ sym (flat_map-append line_of ns (n ∷ []))

  -- no node is given yet
  pub given_none : (all : List Node) (o : W) → Given all all o o
  given_none all o = record {
    given = [];
    nodes = refl;
    written = Appends-nil (contents o);
    calls = none;
  }

  -- a node is given and its line is written
  pub given_more : (all rest more : List Node) (n : Node) (o p q : W) → Given all rest o p
      → rest ≡ n ∷ more → WritesAll contents has_failed p q (line_of n)
      → GoByCalls write_takes p q (line_of n) → Given all more o q
  given_more all rest more n o p q before next wrote went = record {
    given = before.given ++ n ∷ [];
    nodes = before.nodes ∙ ap (λ t. before.given ++ t) next
        ∙ sym (append_assoc before.given (n ∷ []) more);
    written = subst (Appends (contents o) (contents q)) (lines-more before.given n)
        (Appends-twice (contents o) (contents p) (contents q) (lines before.given)
        (line_of n) before.written wrote.written);
    calls = subst (GoByCalls write_takes o q) (lines-more before.given n)
        (go-append write_takes o p q (lines before.given) (line_of n) before.calls went);
  }

  -- a node is given and a part of its line is written
  pub given_part : (all rest more : List Node) (n : Node) (o p q : W) → Given all rest o p
      → rest ≡ n ∷ more → AppendsPrefix (contents p) (contents q) (line_of n)
      → GoesToAFailure write_takes p q (line_of n) → Part all more o q
  given_part all rest more n o p q before next part goes = record {
    given = before.given;
    last = n;
    nodes = before.nodes ∙ ap (λ t. before.given ++ t) next;
    prefix = part.prefix;
    left = part.rest;
    line = part.is;
    written = Appends-twice (contents o) (contents p) (contents q) (lines before.given)
        part.prefix before.written part.written;
    between = p;
    calls = before.calls;
    goes = goes;
  }

  -- what was written is a prefix of all the lines
  pub given-is_prefix : (all rest : List Node) (o p : W) → Given all rest o p
      → AppendsPrefix (contents o) (contents p) (lines all)
  given-is_prefix all rest o p before = record {
    prefix = lines before.given;
    rest = lines rest;
    is = ap (lines) before.nodes ∙ flat_map-append line_of before.given rest;
    written = before.written;
  }

  -- also with a part of a line
  pub part-is_prefix : (all rest : List Node) (o p : W) → Part all rest o p
      → AppendsPrefix (contents o) (contents p) (lines all)
  part-is_prefix all rest o p at = record {
    prefix = lines at.given ++ at.prefix;
    rest = at.left ++ lines rest;
    is = ap (lines) at.nodes
        ∙ flat_map-append line_of at.given (at.last ∷ rest)
        ∙ ap (λ t. lines at.given ++ t)
        (ap (λ t. t ++ lines rest) at.line
        ∙ append_assoc at.prefix at.left (lines rest))
        ∙ sym (append_assoc (lines at.given) at.prefix (at.left ++ lines rest));
    written = at.written;
  }

  -- memory ran out between two lines
  pub stops-for_memory : {X : Type 0} (all rest : List Node) (o p : W) (r : Result X Fault)
      → Given all rest o p → has_failed p ≡ has_failed o → IsErrAnd r (λ f. f ≡ NoMemory)
      → IfErr r (StopsWriting contents has_failed o p (lines all))
  stops-for_memory all rest o p (Ok x) before works is = absurd is
  stops-for_memory all rest o p (Err f) before works is =
      subst (StopsWriting contents has_failed o p (lines all)) (sym is)
      (given-is_prefix all rest o p before, works)

  -- all the lines, of which those so far went
  lines-split : (all given rest : List Node) → all ≡ given ++ rest
      → lines given ++ lines rest ≡ lines all
  lines-split all given rest are =
      sym (ap (lines) are ∙ flat_map-append line_of given rest)

  -- the lines so far are a part of all the lines
  pub given-goes : (all rest : List Node) (o p : W) → Given all rest o p
      → GoesInPart write_takes o p (lines all)
  given-goes all rest o p before =
      subst (GoesInPart write_takes o p) (lines-split all before.given rest before.nodes)
      (part-append write_takes o p p (lines before.given) (lines rest) before.calls
      (part-none write_takes p p (lines rest) refl))

  -- and so they are where a call failed in the next
  pub part-goes : (all rest : List Node) (o p : W) → Part all rest o p
      → GoesToAFailure write_takes o p (lines all)
  part-goes all rest o p at =
      subst (GoesToAFailure write_takes o p)
      (lines-split all at.given (at.last ∷ rest) at.nodes)
      (failure-append write_takes o at.between p (lines at.given) (lines (at.last ∷ rest)) at.calls
      (failure-longer write_takes at.between p (line_of at.last) (lines rest) at.goes))

  -- memory ran out between two lines
  pub goes-for_memory : {X : Type 0} (all rest : List Node) (o p : W) (r : Result X Fault)
      → Given all rest o p → IsErrAnd r (λ f. f ≡ NoMemory)
      → GoesAs write_takes o p (lines all) r
  goes-for_memory {X} all rest o p (Ok x) before is = absurd is
  goes-for_memory {X} all rest o p (Err f) before is =
      subst (λ e. GoesAs write_takes {X = X} o p (lines all) (Err e)) (sym is)
      (given-goes all rest o p before)
