-- A list of which some are kept, walked.
use Rattle.std.proofs.Common.{◌≡◌, ℕ, ◌+◌, ◌<◌, ◌≤◌, Bool, List, [], ◌∷◌, ◌++◌, length, map, filter, take, get_or, ap, sym, ◌∙◌}
use Rattle.std.proofs.lemmas.List.{map_more, take_all}
use Rattle.std.proofs.lemmas.List.Elements.{filter-append}

pub filters_more : {X A : Type 0} (p : A → Bool) (g : X → A) (xs : List X) (i : ℕ) (x : X) (now next : List A) → i < length xs → x ≡ get_or xs i x → now ≡ filter p (map g (take i xs)) → next ≡ now ++ filter p (g x ∷ []) → next ≡ filter p (map g (take (i + 1) xs))
filters_more p g xs i x now next within is so_far one =
    let front = map g (take i xs) in
    one ∙ (ap (λ v. v ++ filter p (g x ∷ [])) so_far
    ∙ sym (ap (filter p) (map_more g xs i x within) ∙ (filter-append p front (g (get_or xs i x) ∷ []) ∙ ap (λ y. filter p front ++ filter p (g y ∷ [])) (sym is))))

pub filters_all : {X A : Type 0} (p : A → Bool) (g : X → A) (xs : List X) (i : ℕ) (now : List A) → length xs ≤ i → now ≡ filter p (map g (take i xs)) → now ≡ filter p (map g xs)
filters_all p g xs i now past so_far = so_far ∙ ap (λ v. filter p (map g v)) (take_all i xs past)
