-- Lists by place: what is held, and the parts, after a value was put or an event happened.
use Rattle.std.proofs.Common.{◌≡◌, ◌≢◌, ℕ, zero, suc, ◌<◌, List, [], ◌∷◌, set, length, Option, Some, None, IsSome, is_some, slice_get, ap, ap₂, sym, subst, refl, ◌∙◌, true≢false, length-set, arith}
use Rattle.std.proofs.lemmas.Option.{slice_get_within}
pub use Rattle.snap_base.proofs.Options.{none_is_some}
use mathlib.Core.Logic.{dite}
use native.Mathlib.Decide.{ℕ_discrete}
use Rattle.turn_table.specs.Places.{at, put_at, one, Covers, before, values, replaced, held_after}

module _ {P : Type 0} where
  pub put_here : (hs : List (Option P)) (i : ℕ) (x : Option P) → at (put_at hs i x) i ≡ x
  put_here [] zero x = refl
  put_here [] (suc i) x = put_here [] i x
  put_here (h ∷ hs) zero x = refl
  put_here (h ∷ hs) (suc i) x = put_here hs i x

  pub put_else : (hs : List (Option P)) (i j : ℕ) (x : Option P) → j ≢ i → at (put_at hs i x) j ≡ at hs j
  put_else [] zero zero x n = absurd (n refl)
  put_else [] zero (suc j) x n = refl
  put_else [] (suc i) zero x n = refl
  put_else [] (suc i) (suc j) x n = put_else [] i j x (λ e. n (ap suc e))
  put_else (h ∷ hs) zero zero x n = absurd (n refl)
  put_else (h ∷ hs) zero (suc j) x n = refl
  put_else (h ∷ hs) (suc i) zero x n = refl
  put_else (h ∷ hs) (suc i) (suc j) x n = put_else hs i j x (λ e. n (ap suc e))

  pub get_set_here : (xs : List P) (i : ℕ) (p : P) → i < length xs → slice_get (set xs i p) i ≡ Some p
  get_set_here [] i p h = absurd (omega arith)
  get_set_here (x ∷ xs) zero p h = refl
  get_set_here (x ∷ xs) (suc i) p h = get_set_here xs i p (omega arith)

  pub get_set_else : (xs : List P) (i j : ℕ) (p : P) → j ≢ i → slice_get (set xs i p) j ≡ slice_get xs j
  get_set_else [] i j p n = refl
  get_set_else (x ∷ xs) zero zero p n = absurd (n refl)
  get_set_else (x ∷ xs) zero (suc j) p n = refl
  get_set_else (x ∷ xs) (suc i) zero p n = refl
  get_set_else (x ∷ xs) (suc i) (suc j) p n = get_set_else xs i j p (λ e. n (ap suc e))

  pub some_of : (o : Option P) → IsSome o → (p : P) × (o ≡ Some p)
  some_of None h = absurd (true≢false (sym h))
  some_of (Some p) h = (p, refl)

  pub none_is_zero : (o : Option P) → one o < 1 → (p : P) → o ≡ Some p → ⊥
  none_is_zero o h p e = let q : one o ≡ 1 = ap one e in omega arith

  pub some_is_one : (o : Option P) (p : P) → o ≡ Some p → one o ≡ 1
  some_is_one o p e = ap one e

  one_of_some : (o : Option P) → IsSome o → one o ≡ 1
  one_of_some None h = absurd (true≢false (sym h))
  one_of_some (Some p) h = refl

  pub zero_of_none : (o : Option P) → ((p : P) → o ≡ Some p → ⊥) → one o ≡ 0
  zero_of_none None h = refl
  zero_of_none (Some p) h = absurd (h p refl)

  -- where f covers the numbers, and g has each of its values, both have the same values there
  pub values_same : (f g : ℕ → Option P) (is : List ℕ) → Covers f is → ((i : ℕ) (p : P) → f i ≡ Some p → g i ≡ Some p) → (values g is ≡ values f is) × Covers g is
  values_same f g [] c e = (refl, tt)
  values_same f g (i ∷ is) c e =
      let s = some_of (f i) c.0 in
      let q : g i ≡ Some s.0 = e i s.0 s.1 in
      let t = values_same f g is c.1 e in
      (ap₂ before (q ∙ sym s.1) t.0, (ap is_some q, t.1))

  some_put : (hs : List (Option P)) (i j : ℕ) (p : P) → IsSome (at hs j) → IsSome (at (put_at hs i (Some p)) j)
  some_put hs i j p h =
      dite
      (ℕ_discrete j i)
      (λ e. subst (λ (k : ℕ). IsSome (at (put_at hs i (Some p)) k)) (sym e) (ap is_some (put_here hs i (Some p))))
      (λ n. ap is_some (put_else hs i j (Some p) n) ∙ h)

  covers_put : (hs : List (Option P)) (i : ℕ) (p : P) (is : List ℕ) → Covers (at hs) is → Covers (at (put_at hs i (Some p))) is
  covers_put hs i p [] c = tt
  covers_put hs i p (j ∷ js) c = (some_put hs i j p c.0, covers_put hs i p js c.1)

  one_put : (hs : List (Option P)) (i j : ℕ) (p : P) → IsSome (at hs i) → one (at (put_at hs i (Some p)) j) ≡ one (at hs j)
  one_put hs i j p h =
      dite
      (ℕ_discrete j i)
      (λ e. subst (λ (k : ℕ). one (at (put_at hs i (Some p)) k) ≡ one (at hs k)) (sym e) (ap one (put_here hs i (Some p)) ∙ sym (one_of_some (at hs i) h)))
      (λ n. ap one (put_else hs i j (Some p) n))

  -- an event takes no turn and gives none
  pub one_held_after : (hs : List (Option P)) (is : List ℕ) (ps : List P) (j : ℕ) → Covers (at hs) is → one (at (held_after hs is ps) j) ≡ one (at hs j)
  one_held_after hs [] ps j c = refl
  one_held_after hs (i ∷ is) [] j c = refl
  one_held_after hs (i ∷ is) (p ∷ ps) j c = one_held_after (put_at hs i (Some p)) is ps j (covers_put hs i p is c.1) ∙ one_put hs i j p c.0

  pub length-replaced : (xs : List P) (is : List ℕ) (ps : List P) → length (replaced xs is ps) ≡ length xs
  length-replaced xs [] ps = refl
  length-replaced xs (i ∷ is) [] = refl
  length-replaced xs (i ∷ is) (p ∷ ps) = length-replaced (set xs i p) is ps ∙ length-set xs i p

  -- a part that is not held by who covers the footprint stays
  pub replaced_else : (hs : List (Option P)) (xs : List P) (is : List ℕ) (ps : List P) (j : ℕ) → Covers (at hs) is → one (at hs j) ≡ 0 → slice_get (replaced xs is ps) j ≡ slice_get xs j
  replaced_else hs xs [] ps j c z = refl
  replaced_else hs xs (i ∷ is) [] j c z = refl
  replaced_else hs xs (i ∷ is) (p ∷ ps) j c z =
      let o : one (at hs i) ≡ 1 = one_of_some (at hs i) c.0 in
      let n : j ≢ i = λ e. (let q : one (at hs j) ≡ one (at hs i) = ap (λ (k : ℕ). one (at hs k)) e in omega arith) in
      replaced_else hs (set xs i p) is ps j c.1 z ∙ get_set_else xs i j p n

  agree_put : (hs : List (Option P)) (xs : List P) (i : ℕ) (p : P) → IsSome (at hs i) → ((j : ℕ) (q : P) → at hs j ≡ Some q → slice_get xs j ≡ Some q) → (j : ℕ) (q : P) → at (put_at hs i (Some p)) j ≡ Some q → slice_get (set xs i p) j ≡ Some q
  agree_put hs xs i p h a j q e =
      let s = some_of (at hs i) h in
      let w = slice_get_within xs i s.0 (a i s.0 s.1) in
      dite
      (ℕ_discrete j i)
      (λ d.
      let b : slice_get (set xs i p) j ≡ Some p = ap (λ (k : ℕ). slice_get (set xs i p) k) d ∙ get_set_here xs i p w in
      let f : at (put_at hs i (Some p)) j ≡ Some p = ap (λ (k : ℕ). at (put_at hs i (Some p)) k) d ∙ put_here hs i (Some p) in
      b ∙ sym f ∙ e)
      (λ n. get_set_else xs i j p n ∙ a j q (sym (put_else hs i j (Some p) n) ∙ e))

  -- what is held agrees with the parts, also after an event whose footprint is held
  pub agree_after : (hs : List (Option P)) (xs : List P) (is : List ℕ) (ps : List P) → Covers (at hs) is → ((j : ℕ) (q : P) → at hs j ≡ Some q → slice_get xs j ≡ Some q) → (j : ℕ) (q : P) → at (held_after hs is ps) j ≡ Some q → slice_get (replaced xs is ps) j ≡ Some q
  agree_after hs xs [] ps c a = a
  agree_after hs xs (i ∷ is) [] c a = a
  agree_after hs xs (i ∷ is) (p ∷ ps) c a = agree_after (put_at hs i (Some p)) (set xs i p) is ps (covers_put hs i p is c.1) (agree_put hs xs i p c.0 a)
