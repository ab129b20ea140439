-- What a set of locations has.
use Rattle.std.specs.Prelude.{Bool, false, [], ◌∷◌}
use Rattle.std.specs.BTreeMap.{get_by}
use Rattle.std.specs.Option.{option_map_or}
use Rattle.jp_document.specs.Location.{Location, step_cmp, step_of}
use Rattle.jp_evaluate.specs.declared.location_set.LocationSet.{LocationSet, out-LocationSet}

-- a location is in it: the one without steps as it says, another as what stands at its first step says
-- of the rest
abbrev pub has : LocationSet → Location → Bool
has t [] = (out-LocationSet t).here
has t (s ∷ l) =
    option_map_or (λ u. has u l) (get_by (λ k. step_cmp s (step_of k)) (out-LocationSet t).inside) false
