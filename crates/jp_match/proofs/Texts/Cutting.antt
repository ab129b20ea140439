-- Words of at most so many characters: of more words than characters some are empty.
use Rattle.std.proofs.Common.{◌≡◌, ◌↔◌, inl, inr, ℕ, zero, suc, ◌+◌, ◌-◌, ◌≤◌, ◌<◌, List, [], ◌∷◌, ◌++◌}
use Rattle.std.proofs.Common.{Option, Some, None, length, take, map, get_or, refl, sym, ap, ◌∙◌, subst, arith}
use Rattle.std.proofs.lemmas.Bool.{cases_lt}
use Rattle.std.proofs.lemmas.List.{length-append, map-append, take_more}
use Rattle.jp_iregexp.specs.declared.pattern.Pattern.{Pattern}
use Rattle.jp_iregexp.specs.Tree.{Tree, tree, nothing, repeat, branches, pieces}
use Rattle.jp_iregexp.specs.Language.{Concatenation, Power, IsAtMost, Language}
use Rattle.jp_match.specs.Part.{HasPart}
use Rattle.jp_match.specs.Private.Cutting.{IsSameUpTo, HasNoneUpTo, AreSameUpTo}

-- one of more words than characters is empty: they are one word less
fewer_first : (L : List ℕ → Type 0) (w prefix suffix : List ℕ) → length w ≤ 0
    → w ≡ prefix ++ suffix → L prefix → suffix ≡ [] → L [] × (w ≡ [])
fewer_first L w [] suffix few is first second = (first, is ∙ second)
fewer_first L w (c ∷ prefix) suffix few is first second =
    let size : length w ≡ suc (length prefix) + length suffix = ap length is ∙ length-append (c ∷
    prefix) suffix in
    absurd (omega (arith, size, few))

fewer_next : (L : List ℕ → Type 0) (k : ℕ) (w prefix suffix : List ℕ) → length w ≤ suc k
    → ((v : List ℕ) → length v ≤ k → Power L (suc k) v → L [] × Power L k v)
    → w ≡ prefix ++ suffix → L prefix → Power L (suc k) suffix → L [] × Power L (suc k) w
fewer_next L k w [] suffix few less is first second =
    (first, subst (Power L (suc k)) (sym is) second)
fewer_next L k w (c ∷ prefix) suffix few less is first second =
    let size : length w ≡ suc (length prefix) + length suffix = ap length is ∙ length-append (c ∷
    prefix) suffix in
    let rest = less suffix (omega (arith, size, few)) second in (
      rest.0,
      record { prefix = c ∷ prefix; suffix = suffix; is = is; first = first; second = rest.1 },
    )

fewer : (L : List ℕ → Type 0) (k : ℕ) (w : List ℕ) → length w ≤ k → Power L (suc k) w
    → L [] × Power L k w
fewer L zero w few j = fewer_first L w j.prefix j.suffix few j.is j.first j.second
fewer L (suc k) w few j = fewer_next L k w j.prefix j.suffix few (fewer L k) j.is j.first j.second

one_empty : (L : List ℕ → Type 0) (k : ℕ) (w : List ℕ) → length w < k → Power L k w → L []
one_empty L zero w few p = absurd (omega (arith, few))
one_empty L (suc k) w few p = (fewer L k w (omega (arith, few)) p).0

reduced : (L : List ℕ → Type 0) (d m s : ℕ) (w : List ℕ) → s ≡ d + m → length w ≤ m
    → Power L s w → Power L m w
reduced L zero m s w is few p = subst (λ k. Power L k w) (omega (arith, is)) p
reduced L (suc d) m zero w is few p = absurd (omega (arith, is))
reduced L (suc d) m (suc s) w is few p = reduced L d m s w (omega (arith, is)) few (fewer L s w
    (omega (arith, is, few)) p).1

padded : (L : List ℕ → Type 0) (d k s : ℕ) (w : List ℕ) → s ≡ d + k → L [] → Power L k w
    → Power L s w
padded L zero k s w is nil p = subst (λ k. Power L k w) (omega (arith, is)) p
padded L (suc d) k zero w is nil p = absurd (omega (arith, is))
padded L (suc d) k (suc s) w is nil p = record {
  prefix = [];
  suffix = w;
  is = refl;
  first = nil;
  second = padded L d k s w (omega (arith, is)) nil p;
}

-- a most that is no less than the characters is no most
pub no_most : (a : Tree) (least most chars : ℕ) → least ≤ most → chars ≤ most
    → IsSameUpTo chars (Language (repeat a least None)) (Language (repeat a least (Some most)))
no_most a least most chars ordered enough = record {
  each = λ w few. (
    λ h. let (k, from, within, p) = h in elim (cases_lt most k) [
      | inl over ↦ (
        most,
        ordered,
        omega arith,
        reduced (Language a) (k - most) most k w (omega (arith, over)) (omega (
          arith,
          few,
          enough,
        )) p,
      )
      | inr under ↦ (k, from, under, p)
    ],
    λ h. let (k, from, within, p) = h in (k, from, tt, p),
  );
}

-- a least that is no less than the characters is none where the empty word is there
pub no_least : (a : Tree) (least : ℕ) (most : Option ℕ) (chars : ℕ) → IsAtMost most least
    → chars ≤ least → Language a []
    → IsSameUpTo chars (Language (repeat a 0 None)) (Language (repeat a least most))
no_least a least most chars ordered enough nil = record {
  each = λ w few. (
    λ h. let (k, from, within, p) = h in (
      least,
      omega arith,
      ordered,
      elim (cases_lt k least) [
        | inl under ↦ padded (Language a) (least - k) k least w (omega (arith, under)) nil p
        | inr over ↦ reduced (Language a) (k - least) least k w (omega (arith, over)) (omega (
          arith,
          few,
          enough,
        )) p
      ],
    ),
    λ h. let (k, from, within, p) = h in (k, omega arith, tt, p),
  );
}

-- and else there is no word
pub too_many : (a : Tree) (least : ℕ) (most : Option ℕ) (chars : ℕ) → chars < least
    → (Language a [] → ⊥) → HasNoneUpTo chars (Language (repeat a least most))
too_many a least most chars many never w few h =
    let (k, from, within, p) = h in
    never (one_empty (Language a) k w (omega (arith, many, few, from)) p)

pub none_between : (a : Tree) (least most chars : ℕ) → most < least
    → HasNoneUpTo chars (Language (repeat a least (Some most)))
none_between a least most chars crossed w few h =
    let (k, from, within, p) = h in absurd (omega (arith, crossed, from, within))

pub same_none : (L : List ℕ → Type 0) (chars : ℕ) → HasNoneUpTo chars L
    → IsSameUpTo chars (Language nothing) L
same_none L chars none = record {
  each = λ w few. (λ h. absurd h, λ h. absurd (none w few h));
}

pub same_self : (L : List ℕ → Type 0) (chars : ℕ) → IsSameUpTo chars L L
same_self L chars = record { each = λ w few. (λ h. h, λ h. h) }

pub same_then : (L M N : List ℕ → Type 0) (chars : ℕ) → IsSameUpTo chars L M
    → IsSameUpTo chars M N → IsSameUpTo chars L N
same_then L M N chars first second = record {
  each = λ w few. (
    λ h. (second.each w few).0 ((first.each w few).0 h),
    λ h. (first.each w few).1 ((second.each w few).1 h),
  );
}

joined_to : (L L' M M' : List ℕ → Type 0) (chars : ℕ) (w : List ℕ) → length w ≤ chars
    → ((v : List ℕ) → length v ≤ chars → L v → L' v)
    → ((v : List ℕ) → length v ≤ chars → M v → M' v) → Concatenation L M w → Concatenation L' M' w
joined_to L L' M M' chars w few first second j =
    let size : length w ≡ length j.prefix + length j.suffix = ap length j.is ∙ length-append
    j.prefix j.suffix in
    record {
      prefix = j.prefix;
      suffix = j.suffix;
      is = j.is;
      first = first j.prefix (omega (arith, size, few)) j.first;
      second = second j.suffix (omega (arith, size, few)) j.second;
    }

same_joined : (L L' M M' : List ℕ → Type 0) (chars : ℕ) → IsSameUpTo chars L L'
    → IsSameUpTo chars M M' → IsSameUpTo chars (Concatenation L M) (Concatenation L' M')
same_joined L L' M M' chars first second = record {
  each = λ w few. (
    joined_to L L' M M' chars w few (λ v short. (first.each v short).0) (λ v short. (second.each v
        short).0),
    joined_to L' L M' M chars w few (λ v short. (first.each v short).1) (λ v short. (second.each v
        short).1),
  );
}

same_power : (L M : List ℕ → Type 0) (chars k : ℕ) → IsSameUpTo chars L M
    → IsSameUpTo chars (Power L k) (Power M k)
same_power L M chars zero same = same_self (Power L 0) chars
same_power L M chars (suc k) same = same_joined L M (Power L k) (Power M k) chars same (same_power L
    M chars k same)

pub same_repeat : (a b : Tree) (least : ℕ) (most : Option ℕ) (chars : ℕ)
    → IsSameUpTo chars (Language a) (Language b)
    → IsSameUpTo chars (Language (repeat a least most)) (Language (repeat b least most))
same_repeat a b least most chars same = record {
  each = λ w few. (
    λ h. let (k, from, within, p) = h in
        (k, from, within, ((same_power (Language a) (Language b) chars k same).each w few).0 p),
    λ h. let (k, from, within, p) = h in
        (k, from, within, ((same_power (Language a) (Language b) chars k same).each w few).1 p),
  );
}

pub same_branches : (xs ys : List Tree) (chars : ℕ) → AreSameUpTo chars xs ys
    → IsSameUpTo chars (Language (branches xs)) (Language (branches ys))
same_branches [] [] chars same = same_self (Language nothing) chars
same_branches [] (b ∷ ys) chars same = absurd same
same_branches (a ∷ xs) [] chars same = absurd same
same_branches (a ∷ xs) (b ∷ ys) chars same =
    let rest = same_branches xs ys chars same.1 in
    record {
      each = λ w few. (
        λ h. elim h [
          | inl l ↦ inl ((same.0.each w few).0 l)
          | inr r ↦ inr ((rest.each w few).0 r)
        ],
        λ h. elim h [
          | inl l ↦ inl ((same.0.each w few).1 l)
          | inr r ↦ inr ((rest.each w few).1 r)
        ],
      );
    }

pub same_pieces : (xs ys : List Tree) (chars : ℕ) → AreSameUpTo chars xs ys
    → IsSameUpTo chars (Language (pieces xs)) (Language (pieces ys))
same_pieces [] [] chars same = same_self (Language (pieces [])) chars
same_pieces [] (b ∷ ys) chars same = absurd same
same_pieces (a ∷ xs) [] chars same = absurd same
same_pieces (a ∷ xs) (b ∷ ys) chars same = same_joined (Language a) (Language b) (Language (pieces
    xs)) (Language (pieces ys)) chars same.0 (same_pieces xs ys chars same.1)

same_push : (xs ys : List Tree) (a b : Tree) (chars : ℕ) → AreSameUpTo chars xs ys
    → IsSameUpTo chars (Language a) (Language b) → AreSameUpTo chars (xs ++ a ∷ []) (ys ++ b ∷ [])
same_push [] [] a b chars same last = (last, tt)
same_push [] (y ∷ ys) a b chars same last = absurd same
same_push (x ∷ xs) [] a b chars same last = absurd same
same_push (x ∷ xs) (y ∷ ys) a b chars same last = (same.0, same_push xs ys a b chars same.1 last)

pub same_more : (all parts : List Pattern) (i : ℕ) (p q : Pattern) (chars : ℕ)
    → i < length parts → q ≡ get_or parts i q
    → AreSameUpTo chars (map tree all) (map tree (take i parts))
    → IsSameUpTo chars (Language (tree p)) (Language (tree q))
    → AreSameUpTo chars (map tree (all ++ p ∷ [])) (map tree (take (i + 1) parts))
same_more all parts i p q chars below item same last =
    let more : take (i + 1) parts ≡ take i parts ++ q ∷ [] = take_more parts i q below ∙ ap (λ r.
    take i parts ++ r ∷ []) (sym item) in
    rw (more, map-append tree all (p ∷ []), map-append tree (take i parts) (q ∷ [])) (same_push (map
    tree all) (map tree (take i parts)) (tree p) (tree q) chars same last)

part_to : (L M : List ℕ → Type 0) (text : List ℕ) → ((v : List ℕ) → length v ≤ length text → L v
    → M v) → HasPart L text → HasPart M text
part_to L M text to h =
    let size : length text ≡ length h.before + length (h.part ++ h.after) = ap length h.is ∙
    length-append h.before (h.part ++ h.after) in
    let inner = length-append h.part h.after in
    record {
      before = h.before;
      part = h.part;
      after = h.after;
      is = h.is;
      holds = to h.part (omega (arith, size, inner)) h.holds;
    }

pub same_part : (L M : List ℕ → Type 0) (text : List ℕ) → IsSameUpTo (length text) L M
    → HasPart L text ↔ HasPart M text
same_part L M text same = (
  part_to L M text (λ v few. (same.each v few).0),
  part_to M L text (λ v few. (same.each v few).1),
)

pub none_with : (a : Tree) (least most chars : ℕ)
    → HasNoneUpTo chars (Language (repeat a least None))
    → HasNoneUpTo chars (Language (repeat a least (Some most)))
none_with a least most chars none w few h =
    let (k, from, within, p) = h in none w few (k, from, tt, p)
