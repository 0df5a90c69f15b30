-- Batches by number, stage and mark: what settling and cascades say over a list of these.
use Rattle.std.specs.Prelude.{◌≡◌, refl, ℕ, ◌+◌, ◌-◌, ◌<◌, ◌≤◌, nat_le, Bool, true, false, ◌||◌, ◌⊎◌, List, [], ◌∷◌, ◌++◌, map}
use Rattle.std.specs.List.{AllByRecursion}
use Rattle.std.proofs.Common.{arith, sym, ap, subst, inl, inr, ◌∙◌}
use Rattle.std.proofs.lemmas.Bool.{and_right, lt-leb, or_parts}
use Rattle.protocol.specs.Parts.{Stage, Cascade}
use Rattle.protocol.specs.Words.{covers, is_aborted, is_formed, is_committing, is_settled}

-- ---- keys

pub record Key : Type 0 where
  pub bid : ℕ
  pub stage : Stage
  pub aborted : Bool

pub IsIn : Key → List Key → Type 0
IsIn y [] = ⊥
IsIn y (x ∷ xs) = (x ≡ y) ⊎ IsIn y xs

-- numbers ascend strictly, from one on and below another
unfoldable pub Rises : ℕ → ℕ → List Key → Type 0
Rises low high [] = low ≤ high
Rises low high (x ∷ xs) = (low ≤ x.bid) × Rises (x.bid + 1) high xs

pub rises_more : (low high : ℕ) (xs : List Key) (x : Key) → x.bid ≡ high → Rises low high xs → Rises low (high + 1) (xs ++ x ∷ [])
unfolding Rises
rises_more low high [] x e h = (omega (arith, h, e), omega (arith, e))
rises_more low high (y ∷ ys) x e h = (h.0, rises_more (y.bid + 1) high ys x e h.1)

pub rises_top : (low high : ℕ) (xs : List Key) → Rises low high xs → low ≤ high
unfolding Rises
rises_top low high [] h = h
rises_top low high (x ∷ xs) h = omega (arith, h.0, rises_top (x.bid + 1) high xs h.1)

pub rises_rest : (low high : ℕ) (x : Key) (xs : List Key) → Rises low high (x ∷ xs) → (low ≤ x.bid) × Rises (x.bid + 1) high xs
unfolding Rises
rises_rest low high x xs h = h

pub rises_within : (low high : ℕ) (y : Key) (xs : List Key) → Rises low high xs → IsIn y xs → (low ≤ y.bid) × (y.bid < high)
unfolding Rises IsIn
rises_within low high y [] h i = absurd i
rises_within low high y (x ∷ xs) h (inl e) = subst (λ z. (low ≤ z.bid) × (z.bid < high)) e (h.0, omega (arith, rises_top (x.bid + 1) high xs h.1))
rises_within low high y (x ∷ xs) h (inr i) = let g = rises_within (x.bid + 1) high y xs h.1 i in (omega (arith, g.0, h.0), g.1)

pub one_key : (low high : ℕ) (y z : Key) (xs : List Key) → Rises low high xs → IsIn y xs → IsIn z xs → y.bid ≡ z.bid → y ≡ z
unfolding Rises IsIn
one_key low high y z [] h i j e = absurd i
one_key low high y z (x ∷ xs) h (inl p) (inl q) e = sym p ∙ q
one_key low high y z (x ∷ xs) h (inl p) (inr j) e = absurd (omega (arith, ap (λ v. v.bid) p, e, (rises_within (x.bid + 1) high z xs h.1 j).0))
one_key low high y z (x ∷ xs) h (inr i) (inl q) e = absurd (omega (arith, ap (λ v. v.bid) q, e, (rises_within (x.bid + 1) high y xs h.1 i).0))
one_key low high y z (x ∷ xs) h (inr i) (inr j) e = one_key (x.bid + 1) high y z xs h.1 i j e

-- ---- what is kept

abbrev pub is_over : Key → Bool
is_over y = y.aborted || is_settled y.stage

unfoldable pub OverBelow : ℕ → List Key → Type 0
OverBelow k xs = (y : Key) → IsIn y xs → y.bid < k → is_over y ≡ true

pub Ascend : ℕ → ℕ → List Cascade → Type 0
Ascend low high [] = low ≤ high
Ascend low high (c ∷ cs) = (low ≤ c.first) × (c.first ≤ c.upto) × Ascend (c.upto + 1) high cs

pub record Settle (low next settled : ℕ) (cs : List Cascade) (xs : List Key) : Type 0 where
  pub some : 1 ≤ low
  pub rises : Rises low next xs
  pub marked : (y : Key) → IsIn y xs → y.aborted ≡ is_aborted y.bid cs
  pub formed : (y : Key) → IsIn y xs → y.aborted ≡ true → is_formed y.stage ≡ true
  pub based : low - 1 ≤ settled
  pub reached : (settled ≡ low - 1) ⊎ ((y : Key) × IsIn y xs × (is_settled y.stage ≡ true) × (y.bid ≡ settled))
  pub most : (y : Key) → IsIn y xs → is_settled y.stage ≡ true → y.bid ≤ settled
  pub below_settled : OverBelow (settled + 1) xs
  pub below_committing : (y : Key) → IsIn y xs → is_committing y.stage ≡ true → OverBelow y.bid xs
  pub below_cascades : AllByRecursion (λ c. OverBelow c.first xs) cs
  pub ascend : Ascend low next cs

-- ---- lists of keys

pub in_more : (y x : Key) (xs : List Key) → IsIn y (xs ++ x ∷ []) → IsIn y xs ⊎ (x ≡ y)
unfolding IsIn
in_more y x [] (inl e) = inr e
in_more y x [] (inr i) = inl i
in_more y x (z ∷ zs) (inl e) = inl (inl e)
in_more y x (z ∷ zs) (inr i) = elim (in_more y x zs i) [ inl a ↦ inl (inr a) | inr b ↦ inr b ]

pub in_front : (y x : Key) (xs : List Key) → IsIn y xs → IsIn y (xs ++ x ∷ [])
unfolding IsIn
in_front y x [] i = absurd i
in_front y x (z ∷ zs) (inl e) = inl e
in_front y x (z ∷ zs) (inr i) = inr (in_front y x zs i)

pub in_map : (f : Key → Key) (y : Key) (xs : List Key) → IsIn y (map f xs) → (x : Key) × IsIn x xs × (f x ≡ y)
unfolding IsIn
in_map f y [] i = absurd i
in_map f y (x ∷ xs) (inl e) = (x, inl refl, e)
in_map f y (x ∷ xs) (inr i) = let g = in_map f y xs i in (g.0, inr g.1, g.2)

pub mapped_in : (f : Key → Key) (y : Key) (xs : List Key) → IsIn y xs → IsIn (f y) (map f xs)
unfolding IsIn
mapped_in f y [] i = absurd i
mapped_in f y (x ∷ xs) (inl e) = inl (ap f e)
mapped_in f y (x ∷ xs) (inr i) = inr (mapped_in f y xs i)

pub rises_map : (low high : ℕ) (f : Key → Key) (xs : List Key) → ((x : Key) → (f x).bid ≡ x.bid) → Rises low high xs → Rises low high (map f xs)
unfolding Rises
rises_map low high f [] k h = h
rises_map low high f (x ∷ xs) k h = (omega (arith, h.0, k x), subst (λ n. Rises (n + 1) high (map f xs)) (sym (k x)) (rises_map (x.bid + 1) high f xs k h.1))

pub over_map : (f : Key → Key) (j : ℕ) (xs : List Key) → ((x : Key) → (f x).bid ≡ x.bid) → ((x : Key) → IsIn x xs → is_over x ≡ true → is_over (f x) ≡ true) → OverBelow j xs → OverBelow j (map f xs)
unfolding OverBelow
over_map f j xs kb ko h = λ y i l. let g = in_map f y xs i in subst (λ z. is_over z ≡ true) g.2 (ko g.0 g.1 (h g.0 g.1 (omega (arith, l, kb g.0, ap (λ z. z.bid) g.2))))

-- ---- cascades

pub ascend_top : (low high : ℕ) (cs : List Cascade) → Ascend low high cs → low ≤ high
unfolding Ascend
ascend_top low high [] h = h
ascend_top low high (c ∷ cs) h = omega (arith, h.0, h.1, ascend_top (c.upto + 1) high cs h.2)

pub ascend_higher : (low high : ℕ) (cs : List Cascade) → Ascend low high cs → Ascend low (high + 1) cs
unfolding Ascend
ascend_higher low high [] h = omega (arith, h)
ascend_higher low high (c ∷ cs) h = (h.0, h.1, ascend_higher (c.upto + 1) high cs h.2)

pub none_covers : (low high : ℕ) (cs : List Cascade) → Ascend low high cs → is_aborted high cs ≡ false
unfolding Ascend
none_covers low high [] h = refl
none_covers low high (c ∷ cs) h = rw (lt-leb high c.upto (omega (arith, ascend_top (c.upto + 1) high cs h.2)), and_right (nat_le c.first high) false refl) (none_covers (c.upto + 1) high cs h.2)

pub firsts : (low high : ℕ) (cs : List Cascade) → Ascend low high cs → AllByRecursion (λ c. c.first < high) cs
unfolding Ascend
firsts low high [] h = tt
firsts low high (c ∷ cs) h = (omega (arith, h.1, ascend_top (c.upto + 1) high cs h.2), firsts (c.upto + 1) high cs h.2)

pub aborted_more : (k : ℕ) (cs : List Cascade) (c : Cascade) → is_aborted k (cs ++ c ∷ []) ≡ (is_aborted k cs || covers k c)
aborted_more k [] c = by (covers k c)
  where
    by : (b : Bool) → (b || false) ≡ b
    by true = refl
    by false = refl
aborted_more k (d ∷ cs) c = rw (aborted_more k cs c) (by (covers k d))
  where
    by : (b : Bool) → (b || (is_aborted k cs || covers k c)) ≡ ((b || is_aborted k cs) || covers k c)
    by true = refl
    by false = refl

pub not_covered : (k : ℕ) (cs : List Cascade) → is_aborted k cs ≡ false → AllByRecursion (λ c. covers k c ≡ false) cs
not_covered k [] h = tt
not_covered k (c ∷ cs) h = let p = or_parts (covers k c) (is_aborted k cs) h in (p.0, not_covered k cs p.1)

pub ascend_more : (low high : ℕ) (cs : List Cascade) (c : Cascade) → low ≤ c.first → c.first ≤ c.upto → c.upto + 1 ≤ high → AllByRecursion (λ d. d.upto < c.first) cs → Ascend low high cs → Ascend low high (cs ++ c ∷ [])
unfolding Ascend
ascend_more low high [] c a b e u h = (a, b, e)
ascend_more low high (d ∷ cs) c a b e u h = (h.0, h.1, ascend_more (d.upto + 1) high cs c (omega (arith, u.0)) b e u.1 h.2)

-- ---- for other files

pub over_at : (k : ℕ) (xs : List Key) (y : Key) → OverBelow k xs → IsIn y xs → y.bid < k → is_over y ≡ true
unfolding OverBelow
over_at k xs y h i l = h y i l

pub over_from : (k : ℕ) (xs : List Key) → ((y : Key) → IsIn y xs → y.bid < k → is_over y ≡ true) → OverBelow k xs
unfolding OverBelow
over_from k xs h = h

-- one more that is not below the number
pub over_more : (k : ℕ) (xs : List Key) (x : Key) → k ≤ x.bid → OverBelow k xs → OverBelow k (xs ++ x ∷ [])
unfolding OverBelow
over_more k xs x l h = λ y i m. elim (in_more y x xs i) [ inl a ↦ h y a m | inr b ↦ absurd (omega (arith, l, m, ap (λ z. z.bid) b)) ]

pub here : (x y : Key) (xs : List Key) → x ≡ y → IsIn y (x ∷ xs)
unfolding IsIn
here x y xs e = inl e

pub there : (x y : Key) (xs : List Key) → IsIn y xs → IsIn y (x ∷ xs)
unfolding IsIn
there x y xs i = inr i

pub nowhere : {P : Type 0} (y : Key) → IsIn y [] → P
unfolding IsIn
nowhere y i = absurd i

pub where_in : (y x : Key) (xs : List Key) → IsIn y (x ∷ xs) → (x ≡ y) ⊎ IsIn y xs
unfolding IsIn
where_in y x xs i = i

pub ascend_step : (low high : ℕ) (c : Cascade) (cs : List Cascade) → Ascend low high (c ∷ cs) → (low ≤ c.first) × (c.first ≤ c.upto) × Ascend (c.upto + 1) high cs
unfolding Ascend
ascend_step low high c cs h = h

pub nothing_yet : (low : ℕ) → 1 ≤ low → Settle low low (low - 1) [] []
unfolding IsIn Rises OverBelow Ascend
nothing_yet low some = record {
  some = some;
  rises = omega arith;
  marked = λ y i. absurd i;
  formed = λ y i. absurd i;
  based = omega arith;
  reached = inl refl;
  most = λ y i. absurd i;
  below_settled = λ y i. absurd i;
  below_committing = λ y i. absurd i;
  below_cascades = tt;
  ascend = omega arith;
}
