-- What becomes of a list of mapped elements when one more is taken, and where it is cut at one.
use Rattle.std.specs.Prelude.{◌≡◌, ℕ, ◌+◌, ◌<◌, List, [], ◌∷◌, ◌++◌, length, map, take, drop, slice_index_or}
use Rattle.std.proofs.Common.{sym, ap, ◌∙◌}
use Rattle.std.proofs.lemmas.List.{drop_more, map-append, take-append-drop, take_more}

cut_at_one : {X : Type 0} (xs : List X) (i : ℕ) (d : X) → i < length xs → xs ≡ take i xs ++ slice_index_or xs i d ∷ drop (i + 1) xs
cut_at_one xs i d h = sym (take-append-drop i xs) ∙ ap (λ ys. take i xs ++ ys) (drop_more xs i d h)

pub map_taken : {X Y : Type 0} (f : X → Y) (xs : List X) (i : ℕ) (d : X) → i < length xs → map f (take (i + 1) xs) ≡ map f (take i xs) ++ f (slice_index_or xs i d) ∷ []
map_taken f xs i d h = ap (map f) (take_more xs i d h) ∙ map-append f (take i xs) (slice_index_or xs i d ∷ [])

pub map_cut : {X Y : Type 0} (f : X → Y) (xs : List X) (i : ℕ) (d : X) → i < length xs → map f xs ≡ map f (take i xs) ++ f (slice_index_or xs i d) ∷ map f (drop (i + 1) xs)
map_cut f xs i d h = ap (map f) (cut_at_one xs i d h) ∙ map-append f (take i xs) (slice_index_or xs i d ∷ drop (i + 1) xs)
