-- What the meanings of functions keep: it does not count for them how far on their nodes stand, they
-- answer nodes of their argument alone, and names rise in the values that they answer. A function has
-- one line here, in `is_lawful`; what goes through all functions goes by it.
use Rattle.std.proofs.Common.{◌≡◌, ℕ, pos, List, [], ◌∷◌, Option, Some, None, map, option_map}
use Rattle.std.proofs.Common.{refl, ap, subst}
use Rattle.std.proofs.lemmas.List.{length-map}
use Rattle.std.proofs.lemmas.List.Elements.{All-head}
use Rattle.std.proofs.lemmas.Option.{same_Some}
use Rattle.std.specs.List.{All, Contains}
use Rattle.jp_document.specs.Location.{Location}
use Rattle.jp_document.specs.Node.{Node}
use Rattle.jp_document.specs.Value.{NamesRise, Value, whole}
use Rattle.jp_select.specs.Subtree.{beyond}
use Rattle.jp_tree.specs.declared.function.Function.{Function}
use Rattle.jp_tree.specs.declared.function.Function.TheVariants.{Count, Distinct, Length, Match}
use Rattle.jp_tree.specs.declared.function.Function.TheVariants.{Search, ValueOf}
use Rattle.jp_evaluate.specs.Functions.{Meaning, count_of, length_of, meaning, nodes_of_nodes}
use Rattle.jp_evaluate.specs.Functions.{only_value, size_of, truth_of_values, value_of_nodes}
use Rattle.jp_evaluate.specs.Functions.{value_of_value}
use Rattle.jp_evaluate.proofs.Nodelists.Beyond.{only-beyond, repeats-beyond}
use Rattle.jp_evaluate.proofs.Nodelists.Repeats.{own}

-- names rise in the value, if there is one
abbrev pub Rises : Option Value → Type 0
Rises o = (v : Value) → o ≡ Some v → NamesRise v

-- the same of the value of a node
abbrev pub RisesAt : Node → Type 0
RisesAt n = NamesRise n.value

-- what a value of nodes keeps
pub record OfNodes (f : List Node → Option Value) : Type 0 where
  pub beyond : (l : Location) (ns : List Node) → f (map (beyond l) ns) ≡ f ns
  pub rises : (ns : List Node) → All RisesAt ns → Rises (f ns)

-- what nodes of nodes keep
pub record ToNodes (f : List Node → List Node) : Type 0 where
  pub beyond : (l : Location) (ns : List Node) → f (map (beyond l) ns) ≡ map (beyond l) (f ns)
  pub own : (ns : List Node) → All (Contains ns) (f ns)

-- what each kind of meaning keeps
abbrev pub IsLawful : Meaning → Type 0
IsLawful (value_of_value f) = (v : Option Value) → Rises v → Rises (f v)
IsLawful (value_of_nodes f) = OfNodes f
IsLawful (nodes_of_nodes f) = ToNodes f
IsLawful (truth_of_values f) = Unit {0}

-- ---- values

pub rises-none : Rises None
rises-none v is = absurd (cc)

pub rises-some : (w : Value) → NamesRise w → Rises (Some w)
rises-some w rise v is = subst NamesRise (same_Some w v is) rise

rises-length : (v : Option Value) → Rises (length_of v)
rises-length v = rises-size (size_of v)
  where
    rises-size : (o : Option ℕ) → Rises (option_map (λ n. whole (pos n)) o)
    rises-size None = rises-none
    rises-size (Some n) = rises-some _ refl

pub rises-only : (ns : List Node) → All RisesAt ns → Rises (only_value ns)
rises-only [] rise = rises-none
rises-only (n ∷ []) rise = rises-some n.value (All-head RisesAt n [] rise)
rises-only (n ∷ m ∷ ns) rise = rises-none

-- ---- each function

counting : OfNodes count_of
counting = record {
  beyond = λ l ns. ap (λ n. Some (whole (pos n))) (length-map ns (beyond l));
  rises = λ ns rise. rises-some _ refl;
}

pub is_lawful : (f : Function) → IsLawful (meaning f)
is_lawful Length = λ v rise. rises-length v
is_lawful Count = counting
is_lawful Match = tt
is_lawful Search = tt
is_lawful ValueOf = record { beyond = only-beyond; rises = rises-only }
is_lawful Distinct = record { beyond = repeats-beyond; own = own }
