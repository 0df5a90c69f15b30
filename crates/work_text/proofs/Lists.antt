-- Lists by their elements, and lists of references.
use Rattle.std.proofs.Common.{◌≡◌, ℕ, ◌+◌, ◌<◌, List, [], ◌∷◌, ◌++◌, length, get_or, drop, take, map, refl, sym, ap, ◌∙◌, arith, Bool, true, false, eqb, zero, suc, Bor, not, ◌≢◌, length-append, ◌-◌}
use Rattle.std.specs.List.{AllByRecursion}
use Rattle.std.specs.Bool.{Decides}
use Rattle.std.specs.Cmp.Lexicographic.{pointwise}
use Rattle.std.proofs.lemmas.List.{drop_more, drop_all, get_or-map, take_more, map-append}
use Rattle.std.proofs.Math.Seq.{take-append_seam}
use Rattle.std.proofs.lemmas.Slice.Eq.{slice_eq-Decides}
use Rattle.std.proofs.lemmas.Bool.Decides.{Decides-eqb}

-- what `==` says of two byte strings
pub same_bytes : {xs ys : List ℕ} {r : Bool} → r ≡ pointwise eqb xs ys → Decides r (xs ≡ ys)
same_bytes {xs = xs} {ys = ys} {r = r} e = slice_eq-Decides Decides-eqb xs ys r e

-- and `!=`
not_false : (b : Bool) → not b ≡ false → b ≡ true
not_false true e = refl
not_false false e = cc

not_true : (b : Bool) → not b ≡ true → b ≡ false
not_true true e = cc
not_true false e = refl

pub not_differs : {xs ys : List ℕ} {r : Bool} → r ≡ not (pointwise eqb xs ys) → r ≡ false → xs ≡ ys
not_differs {xs = xs} {ys = ys} e f = (same_bytes {xs = xs} {ys = ys} {r = pointwise eqb xs ys} refl).0 (not_false (pointwise eqb xs ys) (sym e ∙ f))

pub differs : {xs ys : List ℕ} {r : Bool} → r ≡ not (pointwise eqb xs ys) → r ≡ true → xs ≢ ys
differs {xs = xs} {ys = ys} e t same = let f : pointwise eqb xs ys ≡ false = not_true (pointwise eqb xs ys) (sym e ∙ t) in cc ((same_bytes {xs = xs} {ys = ys} {r = pointwise eqb xs ys} refl).1 same)

-- a list by its elements, the first of those from a place on
pub drop_step : (xs : List (List ℕ)) (i : ℕ) (x : List ℕ) (more : List (List ℕ)) → i < length xs → get_or xs i [] ≡ x → drop (i + 1) xs ≡ more → drop i xs ≡ x ∷ more
drop_step xs i x more lt e rest = drop_more xs i [] lt ∙ ap (λ y. y ∷ drop (i + 1) xs) e ∙ ap (λ ys. x ∷ ys) rest

pub six_lines : (xs : List (List ℕ)) (a b c d e f : List ℕ) → length xs ≡ 6 → get_or xs 0 [] ≡ a → get_or xs 1 [] ≡ b → get_or xs 2 [] ≡ c → get_or xs 3 [] ≡ d → get_or xs 4 [] ≡ e → get_or xs 5 [] ≡ f
    → xs ≡ a ∷ b ∷ c ∷ d ∷ e ∷ f ∷ []
six_lines xs a b c d e f n p0 p1 p2 p3 p4 p5 =
    drop_step xs 0 a _ (omega arith) p0 (drop_step xs 1 b _ (omega arith) p1 (drop_step xs 2 c _ (omega arith) p2
    (drop_step xs 3 d _ (omega arith) p3 (drop_step xs 4 e _ (omega arith) p4 (drop_step xs 5 f _ (omega arith) p5 (drop_all 6 xs (omega arith)))))))

-- an element behind a reference
pub now_at : (xs : List (Bor (List ℕ))) (i : ℕ) (d : Bor (List ℕ)) → i < length xs → get_or (map (λ y. y.now) xs) i [] ≡ (get_or xs i d).now
now_at xs i d lt = get_or-map (λ (y : Bor (List ℕ)). y.now) xs i d [] lt

-- what all words are spelled by, each is
pub spelled_at : {X : Type 0} (P : X → Type 0) (f : X → List ℕ) (xs : List X) (words : List (List ℕ)) (i : ℕ) → words ≡ map f xs → AllByRecursion P xs → i < length words → (x : X) × P x × (get_or words i [] ≡ f x)
spelled_at P f [] [] i e all lt = absurd (omega arith)
spelled_at P f [] (w ∷ words) i e all lt = cc
spelled_at P f (x ∷ xs) [] i e all lt = absurd (omega arith)
spelled_at P f (x ∷ xs) (w ∷ words) zero e all lt = (x, all.0, let h : w ≡ f x = cc in h)
spelled_at P f (x ∷ xs) (w ∷ words) (suc i) e all lt = spelled_at P f xs words i (let h : words ≡ map f xs = cc in h) all.1 (omega arith)

-- one more word
pub spelled_more : {X : Type 0} (f : X → List ℕ) (words : List (Bor (List ℕ))) (xs : List X) (i : ℕ) (d : Bor (List ℕ)) (x : X) → i < length words → (get_or words i d).now ≡ f x
    → map (λ y. y.now) (take i words) ≡ map f xs → map (λ y. y.now) (take (i + 1) words) ≡ map f (xs ++ x ∷ [])
spelled_more f words xs i d x lt e so_far =
    ap (λ ys. map (λ (y : Bor (List ℕ)). y.now) ys) (take_more words i d lt) ∙ map-append (λ (y : Bor (List ℕ)). y.now) (take i words) (get_or words i d ∷ [])
    ∙ ap (λ ys. ys ++ (get_or words i d).now ∷ []) so_far ∙ ap (λ y. map f xs ++ y ∷ []) e ∙ sym (map-append f xs (x ∷ []))

-- what stands before an end
pub front_before : (xs front end : List ℕ) → xs ≡ front ++ end → take (length xs - length end) xs ≡ front
front_before xs front end e = ap (λ k. take k xs) (omega (arith, ap length e, length-append front end)) ∙ ap (take (length front)) e ∙ take-append_seam front end

pub not_empty : (n : ℕ) (b : Bool) → b ≡ eqb n 0 → b ≡ false → 0 < n
not_empty zero b e f = cc
not_empty (suc n) b e f = omega arith
