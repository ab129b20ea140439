-- What is written or told in two steps.
use Rattle.std.proofs.Common.{◌≡◌, ℕ, Bool, true, false, List, [], ◌++◌, Option, Some, None, Result}
use Rattle.std.proofs.Common.{Ok, Err, IfErr, OnOk, OnErr}
use Rattle.std.proofs.Common.{subst, refl, sym, ◌∙◌, ap, append_assoc}
use Rattle.std.proofs.lemmas.List.{append-nil}
use Rattle.std.specs.Io.KnownBytes.{Appends}
use Rattle.jp_command.specs.Output.{AppendsPrefix, WritesAll}
use Rattle.jp_command.specs.Written.{StopsWriting}
use Rattle.jp_command.specs.declared.fault.Fault.{Fault}
use Rattle.jp_command.specs.declared.fault.Fault.TheVariants as fault
use Rattle.jp_command.proofs.Streams.{Appends-twice}
use Rattle.jp_lines.specs.Told.{Tells, whole, part, nothing}

pub Appends-none : (a : Option (List ℕ)) → Appends a a []
Appends-none None = tt
Appends-none (Some xs) = sym (append-nil xs)

prefix-after : (a b c : Option (List ℕ)) (x y : List ℕ) → Appends a b x → AppendsPrefix b c y
    → AppendsPrefix a c (x ++ y)
prefix-after a b c x y first second = record {
  prefix = x ++ second.prefix;
  rest = second.rest;
  is = ap (λ t. x ++ t) second.is ∙ sym (append_assoc x second.prefix second.rest);
  written = Appends-twice a b c x second.prefix first second.written;
}

prefix-longer : (a b : Option (List ℕ)) (x y : List ℕ) → AppendsPrefix a b x
    → AppendsPrefix a b (x ++ y)
prefix-longer a b x y first = record {
  prefix = first.prefix;
  rest = first.rest ++ y;
  is = ap (λ t. t ++ y) first.is ∙ append_assoc first.prefix first.rest y;
  written = first.written;
}

module _ {W : Type 0} (contents : W → Option (List ℕ)) (has_failed : W → Bool) where
  pub writes-none : (o : W) → WritesAll contents has_failed o o []
  writes-none o = record { written = Appends-none (contents o); works = refl }

  pub writes-more : (o p r : W) (x y : List ℕ) → WritesAll contents has_failed o p x
      → WritesAll contents has_failed p r y → WritesAll contents has_failed o r (x ++ y)
  writes-more o p r x y first second = record {
    written = Appends-twice _ _ _ x y first.written second.written;
    works = second.works ∙ first.works;
  }

  -- where the first of two writes stops, and where the second does
  pub stops-first : (o p : W) (x y : List ℕ) (f : Fault) → StopsWriting contents has_failed o p x f
      → StopsWriting contents has_failed o p (x ++ y) f
  stops-first o p x y fault.NoMemory stops = (prefix-longer _ _ x y stops.0, stops.1)
  stops-first o p x y fault.Write stops = (prefix-longer _ _ x y stops.0, stops.1)
  stops-first o p x y (fault.Query r) stops = absurd stops
  stops-first o p x y (fault.Document f) stops = absurd stops
  stops-first o p x y fault.DocumentTooLarge stops = absurd stops
  stops-first o p x y fault.Read stops = absurd stops

  pub stops-second : (o p r : W) (x y : List ℕ) (f : Fault) → WritesAll contents has_failed o p x
      → StopsWriting contents has_failed p r y f → StopsWriting contents has_failed o r (x ++ y) f
  stops-second o p r x y fault.NoMemory first stops =
      (prefix-after _ _ _ x y first.written stops.0, stops.1 ∙ first.works)
  stops-second o p r x y fault.Write first stops =
      (prefix-after _ _ _ x y first.written stops.0, stops.1)
  stops-second o p r x y (fault.Query q) first stops = absurd stops
  stops-second o p r x y (fault.Document f) first stops = absurd stops
  stops-second o p r x y fault.DocumentTooLarge first stops = absurd stops
  stops-second o p r x y fault.Read first stops = absurd stops

  pub stops-result : {X : Type 0} (o p r : W) (x y : List ℕ) (answer : Result X Fault)
      → WritesAll contents has_failed o p x → IfErr answer (StopsWriting contents has_failed p r y)
      → IfErr answer (StopsWriting contents has_failed o r (x ++ y))
  stops-result o p r x y (Ok v) first stops = tt
  stops-result o p r x y (Err f) first stops = stops-second o p r x y f first stops

module _ {E : Type 0} (reports : E → Option (List ℕ)) (has_failed : E → Bool) where
  abbrev Told : E → E → List ℕ → Type 0
  Told = Tells reports has_failed

  pub tells-none : (u : E) → Told u u []
  tells-none u = go (has_failed u) refl
    where
      go : (b : Bool) → has_failed u ≡ b → Told u u []
      go true is = nothing is refl
      go false is = whole is is (Appends-none (reports u))

  pub tells-more : (u v w : E) (x y : List ℕ) → Told u v x → Told v w y → Told u w (x ++ y)
  tells-more u v w x y (whole a b c) (whole d e f) = whole a e (Appends-twice _ _ _ x y c f)
  tells-more u v w x y (whole a b c) (part d e f) = part a e (prefix-after _ _ _ x y c f)
  tells-more u v w x y (whole a b c) (nothing d e) = cc
  tells-more u v w x y (part a b c) (whole d e f) = cc
  tells-more u v w x y (part a b c) (part d e f) = cc
  tells-more u v w x y (part a b c) (nothing d e) =
      part a (ap has_failed e ∙ b)
      (prefix-longer _ _ x y (subst (λ z. AppendsPrefix (reports u) (reports z) x) (sym e) c))
  tells-more u v w x y (nothing a e) (whole d f g) = cc
  tells-more u v w x y (nothing a e) (part d f g) = cc
  tells-more u v w x y (nothing a e) (nothing d f) = nothing a (f ∙ e)

  -- a text was told where no write had failed before, and then it was tried to tell another
  pub tells-behind : {X F : Type 0} (u v w : E) (x y : List ℕ) (r : Result X F)
      → has_failed u ≡ false → WritesAll reports has_failed u v x
      → OnOk r (WritesAll reports has_failed v w y)
      → OnErr r (AppendsPrefix (reports v) (reports w) y) → OnErr r (has_failed w ≡ true)
      → Told u w (x ++ y)
  tells-behind u v w x y (Ok a) works first all prefix fails =
      tells-more u v w x y (whole works (first.works ∙ works) first.written)
      (whole (first.works ∙ works) (all.works ∙ (first.works ∙ works)) all.written)
  tells-behind u v w x y (Err e) works first all prefix fails =
      tells-more u v w x y (whole works (first.works ∙ works) first.written)
      (part (first.works ∙ works) fails prefix)

  -- a write failed within the first of two texts
  pub tells-cut : (u v : E) (x y : List ℕ) → has_failed u ≡ false → has_failed v ≡ true
      → AppendsPrefix (reports u) (reports v) x → Told u v (x ++ y)
  tells-cut u v x y works fails prefix = part works fails (prefix-longer _ _ x y prefix)
