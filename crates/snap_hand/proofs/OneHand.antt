-- A hand is told by its places, and by how many of them are for logs.
use Rattle.std.proofs.Common.{◌≡◌, ℕ, Option, Some, None, option_map, List, [], ◌∷◌, ◌++◌, length, map, take, drop, refl, sym, ap, ◌∙◌}
use Rattle.aml_slice.specs.Controls.{Rest}
use Rattle.core_rows.specs.book_part.Halves.{Halves}
use Rattle.core_rows.specs.log_set.Logs.{LogList}
use Rattle.protocol.specs.Parts.{Ring, Post, Desk, Cell}
use Rattle.snap_hand.specs.Hands.{Parts}
use Rattle.snap_hand.specs.Shown.{Shown, TheRing, TheBook, ThePost, TheDesk, TheLog, TheCell, places, no_parts}

abbrev ring_in : Option Shown → Option Ring
ring_in (Some (TheRing x)) = Some x
ring_in _ = None

abbrev book_in : Option Shown → Option Halves
book_in (Some (TheBook x)) = Some x
book_in _ = None

abbrev post_in : Option Shown → Option (Post Rest)
post_in (Some (ThePost x)) = Some x
post_in _ = None

abbrev desk_in : Option Shown → Option Desk
desk_in (Some (TheDesk x)) = Some x
desk_in _ = None

abbrev log_in : Option Shown → Option LogList
log_in (Some (TheLog x)) = Some x
log_in _ = None

abbrev cell_in : Option Shown → Option (Cell Rest)
cell_in (Some (TheCell x)) = Some x
cell_in _ = None

abbrev hand_in : ℕ → List (Option Shown) → Parts
hand_in n (r ∷ b ∷ p ∷ d ∷ xs) = record { ring = ring_in r; book = book_in b; post = post_in p; desk = desk_in d; logs = map log_in (take n xs); cells = map cell_in (drop n xs) }
hand_in n _ = no_parts 0 0

same_in : {X : Type 0} (into : X → Shown) (from : Option Shown → Option X) → ((x : X) → from (Some (into x)) ≡ Some x) → from None ≡ None → (o : Option X) → from (option_map into o) ≡ o
same_in into from one none None = none
same_in into from one none (Some x) = one x

-- a list of places read back, its first part and its rest
front_in : {X : Type 0} (into : X → Shown) (from : Option Shown → Option X) → ((o : Option X) → from (option_map into o) ≡ o)
    → (xs : List (Option X)) (ys : List (Option Shown)) → map from (take (length xs) (map (option_map into) xs ++ ys)) ≡ xs
front_in into from same [] ys = refl
front_in into from same (o ∷ xs) ys = ap (λ z. z ∷ map from (take (length xs) (map (option_map into) xs ++ ys))) (same o) ∙ ap (λ zs. o ∷ zs) (front_in into from same xs ys)

rest_in : {X : Type 0} (into : X → Shown) (xs : List (Option X)) (ys : List (Option Shown)) → drop (length xs) (map (option_map into) xs ++ ys) ≡ ys
rest_in into [] ys = refl
rest_in into (o ∷ xs) ys = rest_in into xs ys

all_in : {X : Type 0} (into : X → Shown) (from : Option Shown → Option X) → ((o : Option X) → from (option_map into o) ≡ o) → (xs : List (Option X)) → map from (map (option_map into) xs) ≡ xs
all_in into from same [] = refl
all_in into from same (o ∷ xs) = ap (λ z. z ∷ map from (map (option_map into) xs)) (same o) ∙ ap (λ zs. o ∷ zs) (all_in into from same xs)

abbrev parts_of : Option Ring → Option Halves → Option (Post Rest) → Option Desk → List (Option LogList) → List (Option (Cell Rest)) → Parts
parts_of r b p d ls cs = record { ring = r; book = b; post = p; desk = d; logs = ls; cells = cs }

read_back : (h : Parts) → hand_in (length h.logs) (places h) ≡ h
read_back h =
    let ls = map log_in (take (length h.logs) (map (option_map (λ x. TheLog x)) h.logs ++ map (option_map (λ x. TheCell x)) h.cells)) in
    let cs = map cell_in (drop (length h.logs) (map (option_map (λ x. TheLog x)) h.logs ++ map (option_map (λ x. TheCell x)) h.cells)) in
    let b = book_in (option_map (λ x. TheBook x) h.book) in
    let p = post_in (option_map (λ x. ThePost x) h.post) in
    let d = desk_in (option_map (λ x. TheDesk x) h.desk) in
    ap (λ z. parts_of z b p d ls cs) (same_in (λ x. TheRing x) ring_in (λ x. refl) refl h.ring)
    ∙ (ap (λ z. parts_of h.ring z p d ls cs) (same_in (λ x. TheBook x) book_in (λ x. refl) refl h.book)
    ∙ (ap (λ z. parts_of h.ring h.book z d ls cs) (same_in (λ x. ThePost x) post_in (λ x. refl) refl h.post)
    ∙ (ap (λ z. parts_of h.ring h.book h.post z ls cs) (same_in (λ x. TheDesk x) desk_in (λ x. refl) refl h.desk)
    ∙ (ap (λ z. parts_of h.ring h.book h.post h.desk z cs)
    (front_in (λ x. TheLog x) log_in (same_in (λ x. TheLog x) log_in (λ x. refl) refl) h.logs (map (option_map (λ x. TheCell x)) h.cells))
    ∙ ap (λ z. parts_of h.ring h.book h.post h.desk h.logs z)
    (ap (map cell_in) (rest_in (λ x. TheLog x) h.logs (map (option_map (λ x. TheCell x)) h.cells))
    ∙ all_in (λ x. TheCell x) cell_in (same_in (λ x. TheCell x) cell_in (λ x. refl) refl) h.cells)))))

pub one_hand : (g h : Parts) → length g.logs ≡ length h.logs → places g ≡ places h → g ≡ h
one_hand g h logs same = sym (read_back g) ∙ (ap (λ n. hand_in n (places g)) logs ∙ (ap (hand_in (length h.logs)) same ∙ read_back h))
