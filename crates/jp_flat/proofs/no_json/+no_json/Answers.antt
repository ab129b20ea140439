use Rattle.std.proofs.Common.{◌≡◌, ◌≢◌, ◌<◌, arith, ap, inl, inr, length, rules, ◌∙◌, subst}
use Rattle.jp_flat.specs.Private.NoJson.{IsAhead}
use Rattle.jp_flat.specs.declared.no_json.TokenKind.TheVariants.{EndArray, EndObject, Key}
use Rattle.jp_flat.proofs.NoValues.{closes-list, closes-object, halt-end, halt-key, halt-value, halts, if-err}
use Rattle.jp_flat.proofs.NoValues.{items-done, items-more, items-none, list-is, members-done}
use Rattle.jp_flat.proofs.NoValues.{members-more, members-none, members-unnamed, names, no-end-of}
use Rattle.jp_flat.proofs.NoValues.{no-key-of, no-value-of, not-list, not-object, object-is, on-ok, passes-leaf}
use Rattle.jp_flat.proofs.NoValues.{too-deep}
use Rattle.jp_flat.proofs.no_json.+no_json.Goals as goal

pub pass-returns-in-None-clause-halted : goal.pass-returns-in-None-clause-halted
pass-returns-in-None-clause-halted t c =
    let same : c.next.new.cursor ≡ c.args.cursor.now = grind arith in
    λ halt. rw (← same) (halt-value c.next.new.cursor.tokens halt c.args.depth)

pub pass_behind-returns-then-depth-eq0-clause-halted :
    goal.pass_behind-returns-then-depth-eq0-clause-halted
pass_behind-returns-then-depth-eq0-clause-halted t c =
    λ ts ahead. too-deep ts c.args.cursor.now.tokens c.args.depth c.if-depth-eq0.true
    (inl (subst (λ k. IsAhead ts k c.args.cursor.now.tokens) c.in-BeginArray.is ahead))

pub pass_behind-returns-then-depth-eq0-2-clause-halted :
    goal.pass_behind-returns-then-depth-eq0-2-clause-halted
pass_behind-returns-then-depth-eq0-2-clause-halted t c =
    λ ts ahead. too-deep ts c.args.cursor.now.tokens c.args.depth c.if-depth-eq0-2.true
    (inr (subst (λ k. IsAhead ts k c.args.cursor.now.tokens) c.in-BeginObject.is ahead))

pub pass_behind-returns-in-Leaf-clause-passed : goal.pass_behind-returns-in-Leaf-clause-passed
pass_behind-returns-in-Leaf-clause-passed t c =
    λ ts ahead. passes-leaf ts c.args.cursor.now.tokens c.args.depth
    (subst (λ k. IsAhead ts k c.args.cursor.now.tokens) c.in-Leaf.is ahead)

pub pass_behind-returns-else-depth-eq0-clause-passed :
    goal.pass_behind-returns-else-depth-eq0-clause-passed
pass_behind-returns-else-depth-eq0-clause-passed t c =
    let s = c.args.cursor.now.tokens in
    on-ok c.pass_items.result
    (λ x ts ahead. list-is ts s c.args.depth (omega (arith, c.if-depth-eq0.false))
    (subst (λ k. IsAhead ts k s) c.in-BeginArray.is ahead) ∙ x) c.pass_items.ensures.passed

pub pass_behind-returns-else-depth-eq0-clause-halted :
    goal.pass_behind-returns-else-depth-eq0-clause-halted
pass_behind-returns-else-depth-eq0-clause-halted t c =
    let s = c.args.cursor.now.tokens in
    if-err c.pass_items.result
    (λ h x ts ahead. halts h c.pass_items.new.cursor.tokens
    (not-list ts s c.args.depth (omega (arith, c.if-depth-eq0.false))
    (subst (λ k. IsAhead ts k s) c.in-BeginArray.is ahead)) x) c.pass_items.ensures.halted

pub pass_behind-returns-else-depth-eq0-2-clause-passed :
    goal.pass_behind-returns-else-depth-eq0-2-clause-passed
pass_behind-returns-else-depth-eq0-2-clause-passed t c =
    let s = c.args.cursor.now.tokens in
    on-ok c.pass_members.result
    (λ x ts ahead. object-is ts s c.args.depth (omega (arith, c.if-depth-eq0-2.false))
    (subst (λ k. IsAhead ts k s) c.in-BeginObject.is ahead) ∙ x) c.pass_members.ensures.passed

pub pass_behind-returns-else-depth-eq0-2-clause-halted :
    goal.pass_behind-returns-else-depth-eq0-2-clause-halted
pass_behind-returns-else-depth-eq0-2-clause-halted t c =
    let s = c.args.cursor.now.tokens in
    if-err c.pass_members.result
    (λ h x ts ahead. halts h c.pass_members.new.cursor.tokens
    (not-object ts s c.args.depth (omega (arith, c.if-depth-eq0-2.false))
    (subst (λ k. IsAhead ts k s) c.in-BeginObject.is ahead)) x) c.pass_members.ensures.halted

pub pass_behind-returns-in-EndArray-clause-halted :
    goal.pass_behind-returns-in-EndArray-clause-halted
pass_behind-returns-in-EndArray-clause-halted t c =
    let s = c.args.cursor.now.tokens in
    λ ts ahead. elim c.in-EndArray.is [
      | inl is ↦ no-value-of ts s EndArray c.args.depth (subst (λ k. IsAhead ts k s) is ahead) (λ e. cc e) (λ e. cc e) (λ e. cc e)
      | inr (inl is) ↦ no-value-of ts s EndObject c.args.depth (subst (λ k. IsAhead ts k s) is ahead) (λ e. cc e) (λ e. cc e) (λ e. cc e)
      | inr (inr is) ↦ no-value-of ts s Key c.args.depth (subst (λ k. IsAhead ts k s) is ahead) (λ e. cc e) (λ e. cc e) (λ e. cc e)
    ]

pub pass_items-returns-in-Some-EndArray-clause-passed :
    goal.pass_items-returns-in-Some-EndArray-clause-passed
pass_items-returns-in-Some-EndArray-clause-passed t c =
    let l = c.items.cursor.tokens in
    let s = c.next.new.cursor.tokens in
    let ahead : IsAhead l EndArray s =
    subst (λ k. IsAhead l k s) c.in-Some-EndArray.field-0-is c.in-Some-EndArray.ensures.ahead in
    items-done c.args.depth c.args.cursor.now.tokens l s c.items.invariant.left (closes-list l s ahead)

pub pass_items-items-preserved : goal.pass_items-items-preserved
pass_items-items-preserved t c =
    let l = c.items.cursor.tokens in
    let s = c.next.new.cursor.tokens in
    let r = c.pass_behind.new.cursor.tokens in
    let k = c.in-Some.kind in
    let ahead = c.in-Some.ensures.ahead in
    let other : k ≢ EndArray = grind arith in
    let less : length s < length l = omega (arith, ap length ahead.is) in
    let lesser : length r < length l = omega (arith, less, c.in-Ok.ensures.shorter) in
    record {
      left =
          items-more c.args.depth c.args.cursor.now.tokens l r c.items.invariant.left
          (no-end-of l s k ahead other) (c.in-Ok.ensures.passed l ahead) lesser;
      shorter = omega (arith, lesser, c.items.invariant.shorter);
      text = search rules;
    }

pub pass_items-returns-in-Err : goal.pass_items-returns-in-Err
pass_items-returns-in-Err t c =
    let l = c.items.cursor.tokens in
    let s = c.next.new.cursor.tokens in
    let k = c.in-Some.kind in
    let ahead = c.in-Some.ensures.ahead in
    let other : k ≢ EndArray = grind arith in
    record {
      passed = tt;
      halted =
          halts c.in-Err.halt c.pass_behind.new.cursor.tokens
          (items-none c.args.depth c.args.cursor.now.tokens l c.items.invariant.left
          (no-end-of l s k ahead other)) (c.in-Err.ensures.halted l ahead);
      shorter = tt;
      text = search rules;
    }

pub pass_items-returns-in-None-clause-halted : goal.pass_items-returns-in-None-clause-halted
pass_items-returns-in-None-clause-halted t c =
    let l = c.items.cursor.tokens in
    let same : c.next.new.cursor.tokens ≡ l = grind arith in
    λ halt. items-none c.args.depth c.args.cursor.now.tokens l c.items.invariant.left
    (rw (← same) (halt-end c.next.new.cursor.tokens halt))
    (rw (← same) (halt-value c.next.new.cursor.tokens halt c.args.depth))

pub pass_members-returns-in-Some-EndObject-clause-passed :
    goal.pass_members-returns-in-Some-EndObject-clause-passed
pass_members-returns-in-Some-EndObject-clause-passed t c =
    let l = c.members.cursor.tokens in
    let s = c.next.new.cursor.tokens in
    let ahead : IsAhead l EndObject s =
    subst (λ k. IsAhead l k s) c.in-Some-EndObject.field-0-is c.in-Some-EndObject.ensures.ahead in
    members-done c.args.depth c.args.cursor.now.tokens l s c.members.invariant.left
    (closes-object l s ahead)

pub pass_members-members-preserved : goal.pass_members-members-preserved
pass_members-members-preserved t c =
    let l = c.members.cursor.tokens in
    let s = c.next.new.cursor.tokens in
    let r = c.pass.new.cursor.tokens in
    let ahead : IsAhead l Key s =
    subst (λ k. IsAhead l k s) c.in-Some-Key.field-0-is c.in-Some-Key.ensures.ahead in
    let less : length s < length l = omega (arith, ap length ahead.is) in
    record {
      left =
          members-more c.args.depth c.args.cursor.now.tokens l ahead.of_kind.0 s r
          c.members.invariant.left (names l s ahead) c.in-Ok.ensures.passed c.in-Ok.ensures.shorter;
      shorter = omega (arith, less, c.in-Ok.ensures.shorter, c.members.invariant.shorter);
      text = search rules;
    }

pub pass_members-returns-in-Err-clause-halted : goal.pass_members-returns-in-Err-clause-halted
pass_members-returns-in-Err-clause-halted t c =
    let l = c.members.cursor.tokens in
    let s = c.next.new.cursor.tokens in
    let ahead : IsAhead l Key s =
    subst (λ k. IsAhead l k s) c.in-Some-Key.field-0-is c.in-Some-Key.ensures.ahead in
    halts c.in-Err.halt c.pass.new.cursor.tokens
    (members-none c.args.depth c.args.cursor.now.tokens l ahead.of_kind.0 s c.members.invariant.left
    (names l s ahead)) c.in-Err.ensures.halted

pub pass_members-returns-in-Some : goal.pass_members-returns-in-Some
pass_members-returns-in-Some t c =
    let l = c.members.cursor.tokens in
    let s = c.next.new.cursor.tokens in
    let k = c.in-Some.field-0 in
    let other : k ≢ EndObject = grind arith in
    let another : k ≢ Key = grind arith in
    record {
      passed = tt;
      halted =
          members-unnamed c.args.depth c.args.cursor.now.tokens l c.members.invariant.left
          (no-key-of l s k c.in-Some.ensures.ahead other another);
      shorter = tt;
      text = search rules;
    }

pub pass_members-returns-in-None-clause-halted : goal.pass_members-returns-in-None-clause-halted
pass_members-returns-in-None-clause-halted t c =
    let l = c.members.cursor.tokens in
    let same : c.next.new.cursor.tokens ≡ l = grind arith in
    λ halt. members-unnamed c.args.depth c.args.cursor.now.tokens l c.members.invariant.left
    (rw (← same) (halt-key c.next.new.cursor.tokens halt))
