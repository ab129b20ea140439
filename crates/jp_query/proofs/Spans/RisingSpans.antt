-- Lists of spans in the order of their starts, of several with one start the longer first.
use Rattle.std.proofs.Common.{◌≡◌, ℕ, ◌<◌, ◌≤◌, ◌⊎◌, [], ◌∷◌, ◌++◌, Some, None, inl, inr, arith}
use Rattle.std.proofs.Math.Nat.{eq-or-lt_of_le}
use Rattle.jp_reading.specs.Texts.{Spans}
use Rattle.jp_reading.specs.declared.span.Span.{Span}
use Rattle.jp_query.specs.ComponentSpans.{ComesAfter, AllComeAfter, Rise}

-- each starts at one of the bytes from low up to high, and ends at high or before
abbrev pub StartWithin : ℕ → ℕ → Spans → Type 0
StartWithin low high [] = Unit {0}
StartWithin low high (None ∷ s) = StartWithin low high s
StartWithin low high (Some span ∷ s) =
    (low ≤ span.start) × (span.start < high) × (span.end ≤ high) × StartWithin low high s

pub within-wider : (low high lower higher : ℕ) → lower ≤ low → high ≤ higher → (s : Spans)
    → StartWithin low high s → StartWithin lower higher s
within-wider low high lower higher l h [] w = tt
within-wider low high lower higher l h (None ∷ s) w = within-wider low high lower higher l h s w
within-wider low high lower higher l h (Some span ∷ s) w = (
  omega (arith, w.0, l),
  omega (arith, w.1, h),
  omega (arith, w.2, h),
  within-wider low high lower higher l h s w.3,
)

pub within-append : (low high : ℕ) (s t : Spans) → StartWithin low high s → StartWithin low high t
    → StartWithin low high (s ++ t)
within-append low high [] t w v = v
within-append low high (None ∷ s) t w v = within-append low high s t w v
within-append low high (Some span ∷ s) t w v = (w.0, w.1, w.2, within-append low high s t w.3 v)

-- what starts later comes after
pub comes_after-within : (span : Span) (low high : ℕ) → span.start < low → (s : Spans)
    → StartWithin low high s → AllComeAfter span s
comes_after-within span low high l [] w = tt
comes_after-within span low high l (None ∷ s) w = comes_after-within span low high l s w
comes_after-within span low high l (Some one ∷ s) w =
    (inl (omega (arith, l, w.0)), comes_after-within span low high l s w.3)

-- and so does what ends sooner
pub after-sooner : (span : Span) (low high : ℕ) → span.start ≤ low → high < span.end → (s : Spans)
    → StartWithin low high s → AllComeAfter span s
after-sooner span low high l h [] w = tt
after-sooner span low high l h (None ∷ s) w = after-sooner span low high l h s w
after-sooner span low high l h (Some one ∷ s) w =
    (comes (eq-or-lt_of_le (omega (arith, l, w.0))), after-sooner span low high l h s w.3)
  where
    comes : (span.start ≡ one.start) ⊎ (span.start < one.start) → ComesAfter one span
    comes (inl same) = inr (same, omega (arith, h, w.2))
    comes (inr less) = inl less

pub after-append : (span : Span) (s t : Spans) → AllComeAfter span s → AllComeAfter span t
    → AllComeAfter span (s ++ t)
after-append span [] t a b = b
after-append span (None ∷ s) t a b = after-append span s t a b
after-append span (Some one ∷ s) t a b = (a.0, after-append span s t a.1 b)

pub rise-append : (low middle high : ℕ) (s t : Spans) → StartWithin low middle s
    → StartWithin middle high t → Rise s → Rise t → Rise (s ++ t)
rise-append low middle high [] t w v r q = q
rise-append low middle high (None ∷ s) t w v r q = rise-append low middle high s t w v r q
rise-append low middle high (Some span ∷ s) t w v r q = (
  after-append span s t r.0 (comes_after-within span middle high w.1 t v),
  rise-append low middle high s t w.3 v r.1 q,
)
