-- A list that is mapped twice.
use Rattle.std.proofs.Common.{◌≡◌, List, [], ◌∷◌, map, refl, ap, ◌∙◌}

pub map_each : {X Y Z : Type 0} (f : Y → Z) (g : X → Y) (k : X → Z) (xs : List X) → ((x : X) → f (g x) ≡ k x) → map f (map g xs) ≡ map k xs
map_each f g k [] h = refl
map_each f g k (x ∷ xs) h = ap (λ y. y ∷ map f (map g xs)) (h x) ∙ ap (λ ys. k x ∷ ys) (map_each f g k xs h)
