-- Events behind others.
use Rattle.std.specs.List.{flat_map}
use Rattle.std.proofs.Common.{◌≡◌, ℕ, ◌+◌, ◌<◌, ◌≤◌, get_or, List, [], ◌∷◌, ◌++◌, length, map, take, sym, ap, ◌∙◌, append_assoc, append-nil}
use Rattle.std.proofs.lemmas.Grind.{flat_map-append}
use Rattle.std.proofs.lemmas.List.{map_more, take_all}
use Rattle.core_events.specs.Meant.{event_meant}
use Rattle.core_events.specs.declared.events.Event as code
use Rattle.protocol.specs.Events.{Event}
use Rattle.ready_listing.specs.Listed.{Adds}

pub adds_none : (xs : List code.Event) → Adds xs xs []
adds_none xs = sym (append-nil (map event_meant xs))

pub adds_both : (xs ys zs : List code.Event) (more rest : List Event) → Adds xs ys more → Adds ys zs rest → Adds xs zs (more ++ rest)
adds_both xs ys zs more rest h g = g ∙ (ap (λ v. v ++ rest) h ∙ append_assoc (map event_meant xs) more rest)

one_of : {A : Type 0} (f : A → List Event) (front : List A) (a : A) → flat_map f (front ++ a ∷ []) ≡ flat_map f front ++ f a
one_of f front a = flat_map-append f front (a ∷ []) ∙ ap (λ v. flat_map f front ++ v) (append-nil (f a))

-- a loop over a list is one element further
pub adds_more : {X A : Type 0} (f : A → List Event) (g : X → A) (xs : List X) (i : ℕ) (x : X) (base now next : List code.Event)
    → i < length xs → x ≡ get_or xs i x → Adds base now (flat_map f (map g (take i xs))) → Adds now next (f (g x)) → Adds base next (flat_map f (map g (take (i + 1) xs)))
adds_more f g xs i x base now next within is so_far one =
    adds_both base now next (flat_map f (map g (take i xs))) (f (g x)) so_far one
    ∙ ap (λ v. map event_meant base ++ v) (sym (ap (flat_map f) (map_more g xs i x within) ∙ one_of f (map g (take i xs)) (g (get_or xs i x)) ∙ ap (λ y. flat_map f (map g (take i xs)) ++ f (g y)) (sym is)))

-- at its end
pub adds_all : {X A : Type 0} (f : A → List Event) (g : X → A) (xs : List X) (i : ℕ) (base now : List code.Event) → length xs ≤ i → Adds base now (flat_map f (map g (take i xs))) → Adds base now (flat_map f (map g xs))
adds_all f g xs i base now past so_far = so_far ∙ ap (λ v. map event_meant base ++ flat_map f (map g v)) (take_all i xs past)
