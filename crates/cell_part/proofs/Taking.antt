-- What passes a test is taken out of a list, and the first of it is told.
use Rattle.std.proofs.Common.{◌≡◌, ℕ, suc, ◌+◌, ◌<◌, ◌≤◌, Bool, true, false, not, cond, List, [], ◌∷◌, length, get_or, Some, None, refl, ap, arith}
use Rattle.std.specs.Prelude.{filter, nat_lt, position}
use Rattle.std.specs.List.{remove, find, position_or_len}

-- where a place is told, it is this one, and it is in the list
told : (k n i : ℕ) → Some i ≡ cond (nat_lt k n) (Some k) None → (k < n) × (i ≡ k)
told k n i h = grind arith

not_told : (k n : ℕ) → None ≡ cond (nat_lt k n) (Some k) None → n ≤ k
not_told k n h = grind arith

module _ {X : Type 0} (p : X → Bool) where
  -- what does not pass
  abbrev left : List X → List X
  left xs = filter (λ x. not (p x)) xs

  found_next : (x : X) (xs : List X) (d : X) (k : ℕ) (b : Bool) → (k < length xs → find p xs ≡ Some (get_or xs k d))
      → cond (not b) (1 + k) 0 < length (x ∷ xs) → cond b (Some x) (find p xs) ≡ Some (get_or (x ∷ xs) (cond (not b) (1 + k) 0) d)
  found_next x xs d k true h lt = refl
  found_next x xs d k false h lt = let next : 1 + k ≡ suc k = omega arith in rw next (h (omega (arith, lt)))

  found_at : (xs : List X) (d : X) → position_or_len p xs < length xs → find p xs ≡ Some (get_or xs (position_or_len p xs) d)
  found_at [] d lt = absurd (omega (arith, lt))
  found_at (x ∷ xs) d lt = found_next x xs d (position_or_len p xs) (p x) (found_at xs d) lt

  left_next : (x : X) (xs : List X) (k : ℕ) (b : Bool) → p x ≡ b → (k < length xs → left (remove xs k) ≡ left xs)
      → cond (not b) (1 + k) 0 < length (x ∷ xs) → left (remove (x ∷ xs) (cond (not b) (1 + k) 0)) ≡ cond (not b) (x ∷ left xs) (left xs)
  left_next x xs k true e h lt = refl
  left_next x xs k false e h lt =
      let next : 1 + k ≡ suc k = omega arith in
      rw (next, e) (ap (λ ys. x ∷ ys) (h (omega (arith, lt))))

  left_at : (xs : List X) → position_or_len p xs < length xs → left (remove xs (position_or_len p xs)) ≡ left xs
  left_at [] lt = absurd (omega (arith, lt))
  left_at (x ∷ xs) lt = left_next x xs (position_or_len p xs) (p x) refl (left_at xs) lt

  none_next : (x : X) (xs : List X) (k : ℕ) (b : Bool) → (length xs ≤ k → (find p xs ≡ None) × (left xs ≡ xs))
      → length (x ∷ xs) ≤ cond (not b) (1 + k) 0 → (cond b (Some x) (find p xs) ≡ None) × (cond (not b) (x ∷ left xs) (left xs) ≡ x ∷ xs)
  none_next x xs k true h le = absurd (omega (arith, le))
  none_next x xs k false h le = let rest = h (omega (arith, le)) in (rest.0, ap (λ ys. x ∷ ys) rest.1)

  none_at : (xs : List X) → length xs ≤ position_or_len p xs → (find p xs ≡ None) × (left xs ≡ xs)
  none_at [] le = (refl, refl)
  none_at (x ∷ xs) le = none_next x xs (position_or_len p xs) (p x) (none_at xs) le

  pub within : (xs : List X) (i : ℕ) → Some i ≡ position p xs → i < length xs
  within xs i h = let t = told (position_or_len p xs) (length xs) i h in omega (arith, t.0, t.1)

  pub found : (xs : List X) (i : ℕ) (d : X) → Some i ≡ position p xs → find p xs ≡ Some (get_or xs i d)
  found xs i d h =
      let t = told (position_or_len p xs) (length xs) i h in
      rw t.1 (found_at xs d t.0)

  pub left_over : (xs : List X) (i : ℕ) → Some i ≡ position p xs → left (remove xs i) ≡ left xs
  left_over xs i h =
      let t = told (position_or_len p xs) (length xs) i h in
      rw t.1 (left_at xs t.0)

  pub none_found : (xs : List X) → None ≡ position p xs → find p xs ≡ None
  none_found xs h = (none_at xs (not_told (position_or_len p xs) (length xs) h)).0

  pub all_left : (xs : List X) → None ≡ position p xs → left xs ≡ xs
  all_left xs h = (none_at xs (not_told (position_or_len p xs) (length xs) h)).1
