-- What is written in two steps, and what comes by one read more.
use Rattle.std.proofs.Common.{◌≡◌, ℕ, ◌-◌, ◌<◌, ◌≤◌, List, [], ◌++◌, length, take, drop, Option}
use Rattle.std.proofs.Common.{Some, None, subst, Result, Ok, Err, OnErr, OnOk, refl, sym, ◌∙◌, ap}
use Rattle.std.proofs.Common.{Bool, IfErr, append_assoc, lit≤}
use Rattle.std.proofs.lemmas.List.{append-nil, length-take-le, take-append-drop, take_rest}
use Rattle.std.proofs.KnownBytes.{Appends-nil, Consumes-nil}
use Rattle.std.specs.Io.KnownBytes.{Appends, Keeps}
use Rattle.std.specs.Result.{IsErrAnd}
use Rattle.jp_command.specs.Input.{ReadsSome}
use Rattle.jp_command.specs.Output.{AppendsPrefix}
use Rattle.jp_command.specs.Reads.{ComeByReads}
use Rattle.jp_command.specs.Reads as reads
use Rattle.jp_command.specs.Stops.{StopsReading}
use Rattle.jp_command.specs.Writes.{GoByCalls, none}
use Rattle.jp_command.specs.declared.fault.Fault.{Fault}
use Rattle.jp_command.specs.declared.fault.Fault.TheVariants.{NoMemory}
use Rattle.jp_command.proofs.Calls.{go-more}

pub Appends-twice : (a b c : Option (List ℕ)) (x y : List ℕ)
    → Appends a b x → Appends b c y → Appends a c (x ++ y)
Appends-twice None b c x y first second = tt
Appends-twice (Some xs) None c x y first second = absurd first
Appends-twice (Some xs) (Some ys) None x y first second = absurd second
Appends-twice (Some ps) (Some qs) (Some rs) x y first second =
    second ∙ ap (λ t. t ++ y) first ∙ append_assoc ps x y

pub Appends-keeps : (a b c : Option (List ℕ)) (x : List ℕ)
    → Appends a b x → Keeps b c → Appends a c x
Appends-keeps None b c x first second = tt
Appends-keeps (Some xs) None c x first second = absurd first
Appends-keeps (Some xs) (Some ys) None x first second = absurd second
Appends-keeps (Some xs) (Some ys) (Some zs) x first second = second ∙ first

-- what was written of a text, of which the rest is left
module _ {W : Type 0} (contents : W → Option (List ℕ))
    (write_takes : W → Option (List ℕ) → W → Type 0) where
  pub record IsLeft (o p : W) (text rest : List ℕ) : Type 0 where
    pub prefix : List ℕ
    pub is : text ≡ prefix ++ rest
    pub written : Appends (contents o) (contents p) prefix
    pub calls : GoByCalls write_takes o p prefix

  pub left-all : (o : W) (text : List ℕ) → IsLeft o o text text
  left-all o text = record {
    prefix = [];
    is = refl;
    written = Appends-nil (contents o);
    calls = none;
  }

  -- one write more: what is written and the rest are still the whole
  pub left-less : (o p q : W) (text rest : List ℕ) (n : ℕ) → IsLeft o p text rest
      → Appends (contents p) (contents q) (take n rest) → write_takes p (Some (take n rest)) q
      → IsLeft o q text (take (length rest - n) (drop n rest))
  left-less o p q text rest n before written takes =
      let joined : (before.prefix ++ take n rest) ++ drop n rest ≡ before.prefix ++ rest =
      append_assoc before.prefix (take n rest) (drop n rest)
      ∙ ap (λ t. before.prefix ++ t) (take-append-drop n rest) in
      record {
        prefix = before.prefix ++ take n rest;
        is = rw take_rest (before.is ∙ sym joined);
        written = Appends-twice _ _ _ before.prefix (take n rest) before.written written;
        calls = go-more write_takes o p q before.prefix (take n rest) before.calls takes;
      }

  -- with nothing left all of it is written
  pub left-none : (o p : W) (text rest : List ℕ) → IsLeft o p text rest → rest ≡ []
      → Appends (contents o) (contents p) text × GoByCalls write_takes o p text
  left-none o p text rest before ended =
      let all : before.prefix ≡ text =
      sym (before.is ∙ ap (λ t. before.prefix ++ t) ended ∙ append-nil before.prefix) in (
        subst (Appends (contents o) (contents p)) all before.written,
        subst (GoByCalls write_takes o p) all before.calls,
      )

-- a whole text is a prefix of it
pub prefix-whole : (a b : Option (List ℕ)) (text : List ℕ) → Appends a b text
    → AppendsPrefix a b text
prefix-whole a b text written = record {
  prefix = text;
  rest = [];
  is = sym (append-nil text);
  written = written;
}

-- all of a text, or a prefix of it, is a prefix of it
pub prefix-either : {T E : Type 0} (a b : Option (List ℕ)) (text : List ℕ) (r : Result T E)
    → OnOk r (Appends a b text) → OnErr r (AppendsPrefix a b text) → AppendsPrefix a b text
prefix-either a b text (Ok x) whole prefix = prefix-whole a b text whole
prefix-either a b text (Err e) whole prefix = prefix

module _ {R : Type 0} (read_gives : R → Option (List ℕ) → R → Type 0) (i : R) where
  pub come-none : (bytes : List ℕ) → bytes ≡ [] → ComeByReads read_gives i i bytes
  come-none bytes is = subst (ComeByReads read_gives i i) (sym is) reads.none

  -- the part of a buffer that a read has filled came too
  pub come-more : (k j : R) (before bytes buffer : List ℕ) (n : ℕ)
      → ComeByReads read_gives i k before → read_gives k (Some (take n buffer)) j
      → n ≤ length buffer → 0 < n → bytes ≡ before ++ take n buffer
      → ComeByReads read_gives i j bytes
  come-more k j before bytes buffer n come gives within some is =
      reads.one_more k j before (take n buffer) bytes come gives
      (rw (length-take-le n buffer within) some) is

-- memory ran out after these bytes had come
module _ {R : Type 0} (remaining : R → Option (List ℕ)) (has_failed : R → Bool)
    (read_gives : R → Option (List ℕ) → R → Type 0) (i : R) where
  pub reads-none : ReadsSome remaining has_failed read_gives i i
  reads-none = record {
    bytes = [];
    came = Consumes-nil (remaining i);
    few = lit≤ tt;
    works = refl;
    calls = reads.none;
  }

  pub stops-for_reading : {X : Type 0} (j : R) (r : Result X Fault)
      → ReadsSome remaining has_failed read_gives i j → IsErrAnd r (λ f. f ≡ NoMemory)
      → IfErr r (StopsReading remaining has_failed read_gives i j)
  stops-for_reading j (Ok x) some is = absurd is
  stops-for_reading j (Err f) some is =
      subst (StopsReading remaining has_failed read_gives i j) (sym is) some
