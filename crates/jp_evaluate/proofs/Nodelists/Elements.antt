-- What holds of each element holds of all that each leads to.
use Rattle.std.proofs.Common.{List, [], ◌∷◌}
use Rattle.std.specs.List.{All, flat_map}
use Rattle.std.proofs.lemmas.List.Elements.{All-append, All-head, All-nil, All-tail}

pub All-flat_map_from : {X Y : Type 0} (Q : X → Type 0) (P : Y → Type 0) (f : X → List Y)
    (xs : List X) → ((x : X) → Q x → All P (f x)) → All Q xs → All P (flat_map f xs)
All-flat_map_from Q P f [] each all = All-nil P
All-flat_map_from Q P f (x ∷ xs) each all =
    All-append P (f x) (flat_map f xs) (each x (All-head Q x xs all))
    (All-flat_map_from Q P f xs each (All-tail Q x xs all))
