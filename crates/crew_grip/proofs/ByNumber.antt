-- Lists by number: what stands there after an event, and in lists that are set.
use Rattle.std.proofs.Common.{◌≡◌, ◌≢◌, ℕ, zero, suc, ◌<◌, ◌==◌, ◌||◌, Bool, true, false, inl, inr, List, [], ◌∷◌, length, map, replicate, get_or, nat_lt, slice_get, slice_set, Option, None, Some, IsSome, is_some, ap, sym, subst, refl, ◌∙◌, arith}
use Rattle.std.specs.Option.{option_flatten}
use Rattle.std.proofs.lemmas.Bool.{true≢false, or_parts, ltb-false, ltb-true}
use Rattle.std.proofs.lemmas.Bool.Decides.{eqb_tells}
use Rattle.std.proofs.lemmas.Option.{slice_get_past, slice_get_read}
use Rattle.turn_table.proofs.ByPlace.{put_here, put_else, some_of}
use Rattle.turn_table.specs.Places.{at, put_at, Covers, before, values, held_after}
use Rattle.protocol.specs.Words.{is_among}

module _ {P : Type 0} where
  pub set_here : (hs : List (Option P)) (i : ℕ) (x : Option P) → i < length hs → at (slice_set hs i x) i ≡ x
  set_here [] i x h = absurd (omega (arith, h))
  set_here (y ∷ hs) zero x h = refl
  set_here (y ∷ hs) (suc i) x h = set_here hs i x (omega (arith, h))

  pub set_else : (hs : List (Option P)) (i j : ℕ) (x : Option P) → i ≢ j → at (slice_set hs i x) j ≡ at hs j
  set_else [] i j x n = refl
  set_else (y ∷ hs) zero zero x n = absurd (n refl)
  set_else (y ∷ hs) zero (suc j) x n = refl
  set_else (y ∷ hs) (suc i) zero x n = refl
  set_else (y ∷ hs) (suc i) (suc j) x n = set_else hs i j x (λ e. n (ap suc e))

  -- what is set to nothing holds nothing, however long the list is
  pub set_none : (hs : List (Option P)) (i : ℕ) → at (slice_set hs i None) i ≡ None
  set_none [] i = refl
  set_none (y ∷ hs) zero = refl
  set_none (y ∷ hs) (suc i) = set_none hs i

  -- the same in other words
  pub flat_at : (hs : List (Option P)) (i : ℕ) → option_flatten (slice_get hs i) ≡ at hs i
  flat_at [] i = refl
  flat_at (None ∷ hs) zero = refl
  flat_at (Some x ∷ hs) zero = refl
  flat_at (h ∷ hs) (suc i) = flat_at hs i

  pub at_none : (n i : ℕ) → at (replicate {A = Option P} n None) i ≡ None
  at_none zero i = refl
  at_none (suc n) zero = refl
  at_none (suc n) (suc i) = at_none n i

  pub at_within : (hs : List (Option P)) (i : ℕ) (x : P) → at hs i ≡ Some x → i < length hs
  at_within [] i x e = absurd (cc e)
  at_within (h ∷ hs) zero x e = omega arith
  at_within (h ∷ hs) (suc i) x e = let l = at_within hs i x e in omega (arith, l)

  pub none_of : (o : Option P) → is_some o ≡ false → o ≡ None
  none_of None h = refl
  none_of (Some x) h = absurd (true≢false h)

  pub slice_at : (hs : List (Option P)) (i : ℕ) (x : P) → at hs i ≡ Some x → slice_get hs i ≡ Some (Some x)
  slice_at [] i x e = absurd (cc e)
  slice_at (h ∷ hs) zero x e = ap Some e
  slice_at (h ∷ hs) (suc i) x e = slice_at hs i x e

  -- the numbers that are covered
  pub covered : (f : ℕ → Option P) (is : List ℕ) (i : ℕ) → Covers f is → is_among i is ≡ true → IsSome (f i)
  covered f [] i c e = absurd (true≢false (sym e))
  covered f (j ∷ js) i c e = elim (eqb_tells j i) [
    | inl h ↦ subst (λ k. IsSome (f k)) h.1 c.0
    | inr h ↦ covered f js i c.1 (sym (ap (λ b. b || is_among i js) h.0) ∙ e)
  ]

  pub after_else : (hs : List (Option P)) (is : List ℕ) (ps : List P) (i : ℕ) → is_among i is ≡ false → at (held_after hs is ps) i ≡ at hs i
  after_else hs [] ps i n = refl
  after_else hs (j ∷ js) [] i n = refl
  after_else hs (j ∷ js) (p ∷ ps) i n =
      let parts = or_parts (j == i) (is_among i js) n in
      after_else (put_at hs j (Some p)) js ps i parts.1 ∙ put_else hs j i (Some p) (elim (eqb_tells j i) [ inl h ↦ absurd (true≢false (sym h.0 ∙ parts.0)) | inr h ↦ λ e. h.1 (sym e) ])

  put_then : (hs : List (Option P)) (f : ℕ → Option P) (j : ℕ) (js : List ℕ) (i : ℕ) (x : P) (b : Bool) → is_among i js ≡ b → is_among i (j ∷ js) ≡ true → f j ≡ Some x
      → ((gs : List (Option P)) → is_among i js ≡ true → at (held_after gs js (values f js)) i ≡ f i)
      → at (held_after (put_at hs j (Some x)) js (values f js)) i ≡ f i
  put_then hs f j js i x true later e is rest = rest (put_at hs j (Some x)) later
  put_then hs f j js i x false later e is rest = elim (eqb_tells j i) [
    | inl h ↦ after_else (put_at hs j (Some x)) js (values f js) i later ∙ (subst (λ k. at (put_at hs j (Some x)) k ≡ Some x) h.1 (put_here hs j (Some x)) ∙ (sym is ∙ ap f h.1))
    | inr h ↦ absurd (true≢false (sym e ∙ (ap (λ b. b || is_among i js) h.0 ∙ later)))
  ]

  -- after an event that made the values of f of its footprint
  pub after_here : (hs : List (Option P)) (f : ℕ → Option P) (is : List ℕ) (i : ℕ) → Covers f is → is_among i is ≡ true → at (held_after hs is (values f is)) i ≡ f i
  after_here hs f [] i c e = absurd (true≢false (sym e))
  after_here hs f (j ∷ js) i c e =
      let p = some_of (f j) c.0 in
      subst (λ o. at (held_after hs (j ∷ js) (before o (values f js))) i ≡ f i) (sym p.1)
      (put_then hs f j js i p.0 (is_among i js) refl e p.1 (λ gs later. after_here gs f js i c.1 later))

-- lists in which something stands at the same places
pub same_there : {P Q : Type 0} (xs : List (Option P)) (ys : List (Option Q)) (i : ℕ) → map is_some xs ≡ map is_some ys → is_some (at xs i) ≡ is_some (at ys i)
same_there [] [] i e = refl
same_there [] (y ∷ ys) i e = absurd (cc e)
same_there (x ∷ xs) [] i e = absurd (cc e)
same_there (x ∷ xs) (y ∷ ys) zero e = cc e
same_there (x ∷ xs) (y ∷ ys) (suc i) e = same_there xs ys i (cc e)

pub map_there : {P : Type 0} (xs : List (Option P)) (i : ℕ) (x : P) → at xs i ≡ Some x → slice_get (map is_some xs) i ≡ Some true
map_there [] i x e = absurd (cc e)
map_there (y ∷ ys) zero x e = ap (λ o. Some (is_some o)) e
map_there (y ∷ ys) (suc i) x e = map_there ys i x e

module _ {P : Type 0} where
  pub at_get : (hs : List (Option P)) (i : ℕ) (x : Option P) → slice_get hs i ≡ Some x → at hs i ≡ x
  at_get hs i x e = sym (flat_at hs i) ∙ (ap option_flatten e ∙ flat x) where
    flat : (o : Option P) → option_flatten (Some o) ≡ o
    flat None = refl
    flat (Some y) = refl

  pub at_past : (hs : List (Option P)) (i : ℕ) → slice_get hs i ≡ None → at hs i ≡ None
  at_past hs i e = sym (flat_at hs i) ∙ ap option_flatten e

  -- what `get` told
  pub got_some : (hs ys : List (Option P)) (i : ℕ) (o : Option P) → ys ≡ hs → true ≡ nat_lt i (length ys) → o ≡ get_or ys i o → at hs i ≡ o
  got_some hs ys i o same within is = at_get hs i o (ap (λ zs. slice_get zs i) (sym same) ∙ slice_get_read ys (length ys) i o refl (ltb-true i (length ys) (sym within)) is)

  pub got_none : (hs ys : List (Option P)) (i : ℕ) → ys ≡ hs → false ≡ nat_lt i (length ys) → at hs i ≡ None
  got_none hs ys i same past = at_past hs i (ap (λ zs. slice_get zs i) (sym same) ∙ slice_get_past ys i (ltb-false i (length ys) (sym past)))

  pub at_or : (hs : List (Option P)) (i : ℕ) (d : Option P) → i < length hs → d ≡ get_or hs i d → d ≡ at hs i
  at_or [] i d h e = absurd (omega (arith, h))
  at_or (x ∷ xs) zero d h e = e
  at_or (x ∷ xs) (suc i) d h e = at_or xs i d (omega (arith, h)) e

  pub set_twice : (hs : List (Option P)) (i : ℕ) (x y : Option P) → slice_set (slice_set hs i x) i y ≡ slice_set hs i y
  set_twice [] i x y = refl
  set_twice (h ∷ hs) zero x y = refl
  set_twice (h ∷ hs) (suc i) x y = ap (λ ys. h ∷ ys) (set_twice hs i x y)
