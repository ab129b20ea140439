-- Texts that go by one call of `write` after another.
use Rattle.std.proofs.Common.{◌≡◌, ℕ, List, [], ◌++◌, Option, Some, None, Result, Ok, Err}
use Rattle.std.proofs.Common.{inr, subst, sym, refl, ◌∙◌, ap, append_assoc}
use Rattle.std.proofs.lemmas.List.{append-nil}
use Rattle.std.specs.Result.{IsErrAnd}
use Rattle.jp_command.specs.Private.Ended.{ending}
use Rattle.jp_command.specs.Writes.{GoByCalls, GoesInPart, GoesToAFailure, WritesByCalls}
use Rattle.jp_command.specs.Writes.{none, one_more}
use Rattle.jp_command.specs.Written.{GoesAs}
use Rattle.jp_command.specs.declared.fault.Fault.{Fault}
use Rattle.jp_command.specs.declared.fault.Fault.TheVariants.{Query, Document, DocumentTooLarge}
use Rattle.jp_command.specs.declared.fault.Fault.TheVariants.{NoMemory, Read, Write}

module _ {W : Type 0} (write_takes : W → Option (List ℕ) → W → Type 0) where
  abbrev Go : W → W → List ℕ → Type 0
  Go = GoByCalls write_takes

  -- a call more, which takes these bytes
  pub go-more : (o k p : W) (x y : List ℕ) → Go o k x → write_takes k (Some y) p → Go o p (x ++ y)
  go-more o k p x y went takes = one_more k p x y (x ++ y) went takes refl

  pub go-append : (o k p : W) (x y : List ℕ) → Go o k x → Go k p y → Go o p (x ++ y)
  go-append o k p x y first none = subst (Go o k) (sym (append-nil x)) first
  go-append o k p x y first (one_more j q before last bytes went takes is) =
      one_more j q (x ++ before) last (x ++ bytes) (go-append o k j x before first went) takes
      (ap (λ t. x ++ t) is ∙ sym (append_assoc x before last))

  -- a text that went to its end, and a part of the next
  pub part-append : (o k p : W) (x y : List ℕ) → Go o k x → GoesInPart write_takes k p y
      → GoesInPart write_takes o p (x ++ y)
  part-append o k p x y first second = record {
    prefix = x ++ second.prefix;
    rest = second.rest;
    is = ap (λ t. x ++ t) second.is ∙ sym (append_assoc x second.prefix second.rest);
    calls = go-append o k p x second.prefix first second.calls;
  }

  -- the same where the part ends at a call that fails
  pub failure-append : (o k p : W) (x y : List ℕ) → Go o k x → GoesToAFailure write_takes k p y
      → GoesToAFailure write_takes o p (x ++ y)
  failure-append o k p x y first second = record {
    prefix = x ++ second.prefix;
    rest = second.rest;
    is = ap (λ t. x ++ t) second.is ∙ sym (append_assoc x second.prefix second.rest);
    between = second.between;
    calls = go-append o k second.between x second.prefix first second.calls;
    last = second.last;
  }

  -- a call that fails within a text fails within a longer one
  pub failure-longer : (o p : W) (x y : List ℕ) → GoesToAFailure write_takes o p x
      → GoesToAFailure write_takes o p (x ++ y)
  failure-longer o p x y first = record {
    prefix = first.prefix;
    rest = first.rest ++ y;
    is = ap (λ t. t ++ y) first.is ∙ append_assoc first.prefix first.rest y;
    between = first.between;
    calls = first.calls;
    last = first.last;
  }

  -- a call that takes nothing changes nothing of what went
  pub go-flushed : (o k p : W) (x : List ℕ) → Go o k x → write_takes k (Some []) p → Go o p x
  go-flushed o k p x went takes = one_more k p x [] x went takes (sym (append-nil x))

  -- a text that went to its end is a part of it
  pub part-whole : (o p : W) (text : List ℕ) → Go o p text → GoesInPart write_takes o p text
  part-whole o p text went =
      record { prefix = text; rest = []; is = sym (append-nil text); calls = went }

  -- so it is where a call fails behind it
  pub failure-behind : (o k p : W) (text : List ℕ) → Go o k text → write_takes k None p
      → GoesToAFailure write_takes o p text
  failure-behind o k p text went fails = record {
    prefix = text;
    rest = [];
    is = sym (append-nil text);
    between = k;
    calls = went;
    last = fails;
  }

  -- nothing of a text went
  pub part-none : (o p : W) (text : List ℕ) → p ≡ o → GoesInPart write_takes o p text
  part-none o p text same = record {
    prefix = [];
    rest = text;
    is = refl;
    calls = subst (λ q. Go o q []) (sym same) none;
  }

  -- nor of one of no bytes
  pub go-none : (o : W) (text : List ℕ) → text ≡ [] → Go o o text
  go-none o text is = subst (Go o o) (sym is) none

  -- memory ran out before the first call
  pub goes-nowhere : {X : Type 0} (o : W) (text : List ℕ) (r : Result X Fault)
      → IsErrAnd r (λ f. f ≡ NoMemory) → GoesAs write_takes o o text r
  goes-nowhere {X} o text (Ok x) is = absurd is
  goes-nowhere {X} o text (Err f) is =
      subst (λ e. GoesAs write_takes {X = X} o o text (Err e)) (sym is) (part-none o o text refl)

  -- how far a text went where a call failed, whatever else is answered with that
  pub goes-failing : (X Y : Type 0) (r : Result Y Fault) (f : Fault) (o p : W) (text : List ℕ)
      → IsErrAnd r (λ e. e ≡ f) → GoesAs write_takes {X = X} o p text (Err f)
      → GoesAs write_takes o p text r
  goes-failing X Y (Ok y) f o p text is goes = absurd is
  goes-failing X Y (Err Write) f o p text is goes =
      subst (λ x. GoesAs write_takes {X = X} o p text (Err x)) (sym is) goes
  goes-failing X Y (Err NoMemory) f o p text is goes =
      subst (λ x. GoesAs write_takes {X = X} o p text (Err x)) (sym is) goes
  goes-failing X Y (Err (Query r)) f o p text is goes =
      subst (λ x. GoesAs write_takes {X = X} o p text (Err x)) (sym is) goes
  goes-failing X Y (Err (Document d)) f o p text is goes =
      subst (λ x. GoesAs write_takes {X = X} o p text (Err x)) (sym is) goes
  goes-failing X Y (Err DocumentTooLarge) f o p text is goes =
      subst (λ x. GoesAs write_takes {X = X} o p text (Err x)) (sym is) goes
  goes-failing X Y (Err Read) f o p text is goes =
      subst (λ x. GoesAs write_takes {X = X} o p text (Err x)) (sym is) goes

  -- a run that wrote how far its output went says so
  pub writes-by_calls : {X : Type 0} (IsOutput : List ℕ → Type 0) (o p : W) (output : List ℕ)
      (r : Result X Fault) → IsOutput output → GoesAs write_takes o p output r
      → WritesByCalls write_takes IsOutput o p (ending r)
  writes-by_calls IsOutput o p output (Ok x) is goes = (output, is, goes)
  writes-by_calls IsOutput o p output (Err Write) is goes = (output, is, goes)
  writes-by_calls IsOutput o p output (Err NoMemory) is goes = inr (output, is, goes)
  writes-by_calls IsOutput o p output (Err (Query r)) is goes = inr (output, is, goes)
  writes-by_calls IsOutput o p output (Err (Document f)) is goes = inr (output, is, goes)
  writes-by_calls IsOutput o p output (Err DocumentTooLarge) is goes = inr (output, is, goes)
  writes-by_calls IsOutput o p output (Err Read) is goes = inr (output, is, goes)
