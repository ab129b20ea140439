-- What a `Some` and a `None` were made of: for readings that are turned into values, and for values
-- found inside others.
use Rattle.std.proofs.Common.{◌≡◌, Bool, true, false, cond, Option, Some, None, option_map}
use Rattle.std.proofs.Common.{option_and_then, refl}
use Rattle.std.proofs.lemmas.Option.{same_Some}

pub some_from_map : {A B : Type 0} (f : A → B) (o : Option A) (b : B) → option_map f o ≡ Some b
    → (a : A) × (o ≡ Some a) × (f a ≡ b)
some_from_map f None b is = absurd (cc)
some_from_map f (Some a) b is = (a, refl, same_Some (f a) b is)

pub some_from_then : {A B : Type 0} (f : A → Option B) (o : Option A) (b : B)
    → option_and_then f o ≡ Some b → (a : A) × (o ≡ Some a) × (f a ≡ Some b)
some_from_then f None b is = absurd (cc)
some_from_then f (Some a) b is = (a, refl, is)

pub some_from_both : {A B C : Type 0} (f : A → B → C) (o : Option A) (p : Option B) (c : C)
    → option_and_then (λ a. option_map (f a) p) o ≡ Some c
    → (a : A) × (b : B) × (o ≡ Some a) × (p ≡ Some b) × (f a b ≡ c)
some_from_both f None p c is = absurd (cc)
some_from_both f (Some a) None c is = absurd (cc)
some_from_both f (Some a) (Some b) c is = (a, b, refl, refl, same_Some (f a b) c is)

pub none_from_map : {A B : Type 0} (f : A → B) (o : Option A) → option_map f o ≡ None → o ≡ None
none_from_map f None is = refl
none_from_map f (Some a) is = absurd (cc)

pub none_from_both : {A B C : Type 0} (f : A → B → C) (o : Option A) (p : Option B) (a : A)
    → option_and_then (λ a. option_map (f a) p) o ≡ None → o ≡ Some a → p ≡ None
none_from_both f None p a is here = absurd (cc)
none_from_both f (Some b) p a is here = none_from_map (f b) p is

pub some_from_if : {A : Type 0} (t : Bool) (o : Option A) (a : A) → cond t o None ≡ Some a
    → (t ≡ true) × (o ≡ Some a)
some_from_if true o a is = (refl, is)
some_from_if false o a is = absurd (cc)
