-- Iterators of nodes that end where memory runs out.
use Rattle.std.specs.Prelude.{◌≡◌, List, [], ◌∷◌, Bool, true, false, Option, Some, None, Result, Ok}
use Rattle.std.specs.Prelude.{Err}
use Rattle.jp_document.specs.Node.{Node, NodeView, node_of}

-- what one call of `next` does, where f says which node an item is, `rest` what is left and `failed`
-- whether memory ran out: an item is the first of the nodes left, an error ends the nodes for good,
-- and where it gives none without a fault there were none left
abbrev pub GivesNextAs : {W X E : Type 0} → (X → Node) → (W → List Node) → (W → Bool) → W
    → Option (Result X E) → W → Type 0
GivesNextAs f rest failed v (Some (Ok x)) w =
    (failed v ≡ false) × (failed w ≡ false) × (rest v ≡ f x ∷ rest w)
GivesNextAs f rest failed v (Some (Err e)) w = (failed v ≡ false) × (failed w ≡ true)
GivesNextAs f rest failed v None w =
    (failed w ≡ failed v) × (failed v ≡ false → (rest v ≡ []) × (rest w ≡ []))

-- the same of an iterator of the code's nodes
abbrev pub GivesNext : {W E : Type 0} → (W → List Node) → (W → Bool) → W
    → Option (Result NodeView E) → W → Type 0
GivesNext = GivesNextAs node_of
