-- A loop from a list's end to its front, which takes out what is meant and remembers the first of it.
use Rattle.std.proofs.Common.{◌≡◌, ℕ, suc, ◌+◌, ◌<◌, Bool, true, false, not, List, [], ◌∷◌, ◌++◌, length, get_or, take, drop, Some, refl, sym, ap, ◌∙◌, arith, append_assoc}
use Rattle.std.specs.Prelude.{filter}
use Rattle.std.specs.List.{remove, find}
use Rattle.std.proofs.lemmas.Bool.{cond-true, cond-false, not_from_true, not_from_false}
use Rattle.std.proofs.lemmas.List.{take_more, drop_more, take_at, drop_at, get_or_at, length-take-le}

module _ {X : Type 0} where
  -- ys is xs, but from i on only what is not meant is left
  abbrev pub left_from : (X → Bool) → List X → ℕ → List X
  left_from meant xs i = take i xs ++ filter (λ x. not (meant x)) (drop i xs)

  -- what stood at i + 1 stands there still
  opened : (meant : X → Bool) (xs : List X) (i : ℕ) (d : X) → i < length xs → left_from meant xs (i + 1) ≡ take i xs ++ get_or xs i d ∷ filter (λ x. not (meant x)) (drop (i + 1) xs)
  opened meant xs i d lt =
      rw (take_more xs i d lt) (append_assoc (take i xs) (get_or xs i d ∷ []) (filter (λ x. not (meant x)) (drop (i + 1) xs)))

  pub same_place : (meant : X → Bool) (xs ys : List X) (i : ℕ) (d : X) → i < length xs → ys ≡ left_from meant xs (i + 1) → get_or ys i d ≡ get_or xs i d
  same_place meant xs ys i d lt e =
      ap (λ zs. get_or zs i d) (e ∙ opened meant xs i d lt) ∙ get_or_at (take i xs) (get_or xs i d) (filter (λ x. not (meant x)) (drop (i + 1) xs)) d i (length-take-le i xs (omega arith))

  pub taken_out : (meant : X → Bool) (xs ys : List X) (i : ℕ) (d : X) → i < length xs → ys ≡ left_from meant xs (i + 1) → meant (get_or xs i d) ≡ true → remove ys i ≡ left_from meant xs i
  taken_out meant xs ys i d lt e t =
      let front = take i xs in
      let x = get_or xs i d in
      let rest = filter (λ z. not (meant z)) (drop (i + 1) xs) in
      let long : length front ≡ i = length-take-le i xs (omega arith) in
      let kept : filter (λ z. not (meant z)) (drop i xs) ≡ rest =
      ap (λ zs. filter (λ z. not (meant z)) zs) (drop_more xs i d lt) ∙ cond-false (not (meant x)) (x ∷ rest) rest (not_from_true (meant x) t) in
      let ahead : take i (front ++ x ∷ rest) ≡ front = take_at front (x ∷ rest) i long in
      let behind : drop (suc i) (front ++ x ∷ rest) ≡ rest =
      ap (λ zs. drop (suc i) zs) (sym (append_assoc front (x ∷ []) rest)) ∙ drop_at (front ++ x ∷ []) rest (suc i) (omega (arith, length-snoc front x, long)) in
      rw (e ∙ opened meant xs i d lt, ahead, behind, kept) refl
    where
      length-snoc : (zs : List X) (z : X) → length (zs ++ z ∷ []) ≡ length zs + 1
      length-snoc [] z = refl
      length-snoc (y ∷ zs) z = omega (arith, length-snoc zs z)

  pub left_in : (meant : X → Bool) (xs ys : List X) (i : ℕ) (d : X) → i < length xs → ys ≡ left_from meant xs (i + 1) → meant (get_or xs i d) ≡ false → ys ≡ left_from meant xs i
  left_in meant xs ys i d lt e t =
      let x = get_or xs i d in
      let rest = filter (λ z. not (meant z)) (drop (i + 1) xs) in
      let kept : filter (λ z. not (meant z)) (drop i xs) ≡ x ∷ rest =
      ap (λ zs. filter (λ z. not (meant z)) zs) (drop_more xs i d lt) ∙ cond-true (not (meant x)) (x ∷ rest) rest (not_from_false (meant x) t) in
      e ∙ opened meant xs i d lt ∙ sym (ap (λ zs. take i xs ++ zs) kept)

  pub found_here : (meant : X → Bool) (xs : List X) (i : ℕ) (d : X) → i < length xs → meant (get_or xs i d) ≡ true → find meant (drop i xs) ≡ Some (get_or xs i d)
  found_here meant xs i d lt t =
      ap (find meant) (drop_more xs i d lt) ∙ cond-true (meant (get_or xs i d)) (Some (get_or xs i d)) (find meant (drop (i + 1) xs)) t

  pub not_here : (meant : X → Bool) (xs : List X) (i : ℕ) (d : X) → i < length xs → meant (get_or xs i d) ≡ false → find meant (drop i xs) ≡ find meant (drop (i + 1) xs)
  not_here meant xs i d lt t =
      ap (find meant) (drop_more xs i d lt) ∙ cond-false (meant (get_or xs i d)) (Some (get_or xs i d)) (find meant (drop (i + 1) xs)) t
