-- What is told of parts of a query, one after another.
use Rattle.std.proofs.Common.{◌≡◌, ◌+◌, ◌++◌, ◌<◌, ◌≤◌, ◌&&◌, ℕ, zero, suc, Bool, true, false, List, [], ◌∷◌}
use Rattle.std.proofs.Common.{drop, length, slice_index_or, String, string_bytes, refl, ap, arith, sym, ◌∙◌}
use Rattle.std.specs.declared.alloc.Global.{Global}
use Rattle.std.proofs.lemmas.List.{drop_all, drop_more}
use Rattle.jp_reading.proofs.Conjunctions.{and-both, and-left, and-right}
use Rattle.jp_evaluate.specs.Private.Asks.{AskedOf, Collects, pass}

-- what a part, or all parts, ask for
abbrev pub Asks : Type 0
Asks = (List ℕ → Bool) → Bool

-- ---- one part, and then another

pub told-nothing : (ns ms : List (String Global)) (f g : Asks) (b : Bool) → Collects ns ms f b
    → Collects ns ms g false
told-nothing ns ms f g b tells = record { stand = tells.stand; told = λ is. absurd (cc) }

pub told-both : (ns ms os : List (String Global)) (f g : Asks) (b c : Bool) → b ≡ true
    → Collects ns ms f b → Collects ms os g c → Collects ns os (λ p. f p && g p) c
told-both ns ms os f g b c is one other = record {
  stand = λ p all. one.stand p (other.stand p all);
  told = λ both p all.
      and-both (f p) (g p) (one.told is p (other.stand p all)) (other.told both p all);
}

-- ---- each part of a list

-- while the names ns became ms, the parts before the position i were told: those from there on ask
-- for other names only if all parts do
pub record GoesOn {X : Type 0} (ns ms : List (String Global))
    (asks : (List ℕ → Bool) → List X → Bool) (xs : List X) (i : ℕ) : Type 0 where
  pub stand : AskedOf ms (λ p. pass p ns)
  pub on : (p : List ℕ → Bool) → pass p ms ≡ true → asks p (drop i xs) ≡ asks p xs

pub goes-first : {X : Type 0} (ns : List (String Global)) (asks : (List ℕ → Bool) → List X → Bool)
    (xs : List X) → GoesOn ns ns asks xs 0
goes-first ns asks xs = record { stand = λ p all. all; on = λ p all. refl }

pub goes-next : {X : Type 0} (ns ms os : List (String Global))
    (asks : (List ℕ → Bool) → List X → Bool) (one : (List ℕ → Bool) → X → Bool)
    → ((p : List ℕ → Bool) (x : X) (xs : List X) → asks p (x ∷ xs) ≡ (one p x && asks p xs))
    → (xs : List X) (i : ℕ) (x : X) (b : Bool) → b ≡ true
    → i < length xs → x ≡ slice_index_or xs i x → Collects ms os (λ p. one p x) b
    → GoesOn ns ms asks xs i → GoesOn ns os asks xs (i + 1)
goes-next ns ms os asks one each xs i x b is within at tells goes = record {
  stand = λ p all. goes.stand p (tells.stand p all);
  on = λ p all.
      sym (ap (λ c. c && asks p (drop (i + 1) xs)) (tells.told is p all))
      ∙ sym (each p x (drop (i + 1) xs))
      ∙ ap (asks p) (sym (drop_more xs i x within ∙ ap (λ y. y ∷ drop (i + 1) xs) (sym at)))
      ∙ goes.on p (tells.stand p all);
}

pub goes-stop : {X : Type 0} (ns ms os : List (String Global))
    (asks : (List ℕ → Bool) → List X → Bool) (f g : Asks) (xs : List X) (i : ℕ) (b : Bool)
    → Collects ms os f b → GoesOn ns ms asks xs i → Collects ns os g false
goes-stop ns ms os asks f g xs i b tells goes = record {
  stand = λ p all. goes.stand p (tells.stand p all);
  told = λ is. absurd (cc);
}

pub goes-end : {X : Type 0} (ns ms : List (String Global))
    (asks : (List ℕ → Bool) → List X → Bool) (xs : List X) (i : ℕ) → length xs ≤ i
    → ((p : List ℕ → Bool) → asks p [] ≡ true) → GoesOn ns ms asks xs i
    → Collects ns ms (λ p. asks p xs) true
goes-end ns ms asks xs i past none goes = record {
  stand = goes.stand;
  told = λ is p all. sym (goes.on p all) ∙ ap (asks p) (drop_all i xs past) ∙ none p;
}

-- ---- names

-- what passes of names is one of them
pub asked-one : (ns : List (String Global)) (i : ℕ) (d : String Global) (m : List ℕ)
    → i < length ns → string_bytes (slice_index_or ns i d) ≡ m → AskedOf ns (λ p. p m)
asked-one [] i d m within same = absurd (omega arith)
asked-one (n ∷ ns) zero d m within same = λ p all. ap p (sym same) ∙ and-left _ _ all
asked-one (n ∷ ns) (suc i) d m within same = λ p all.
    asked-one ns i d m (omega arith) same p (and-right _ _ all)

pass-append : (p : List ℕ → Bool) (ns ms : List (String Global))
    → pass p (ns ++ ms) ≡ (pass p ns && pass p ms)
pass-append p [] ms = refl
pass-append p (n ∷ ns) ms =
    ap (λ b. p (string_bytes n) && b) (pass-append p ns ms) ∙ regrouped (p (string_bytes n)) (pass p ns) (pass p ms)
  where
    regrouped : (a b c : Bool) → (a && (b && c)) ≡ ((a && b) && c)
    regrouped true b c = refl
    regrouped false b c = refl

pub told-pushed : (ns ms : List (String Global)) (n : String Global) → ms ≡ ns ++ n ∷ []
    → Collects ns ms (λ p. p (string_bytes n)) true
told-pushed ns ms n is = record {
  stand = λ p all. and-left (pass p ns) (pass p (n ∷ [])) (both p all);
  told = λ yes p all.
      and-left (p (string_bytes n)) true (and-right (pass p ns) (pass p (n ∷ [])) (both p all));
}
  where
    both : (p : List ℕ → Bool) → pass p ms ≡ true → (pass p ns && pass p (n ∷ [])) ≡ true
    both p all = sym (pass-append p ns (n ∷ [])) ∙ ap (pass p) (sym is) ∙ all
