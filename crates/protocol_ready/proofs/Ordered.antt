-- The order of events, and putting one in.
use Rattle.std.specs.Prelude.{◌≡◌, refl, ℕ, ◌<◌, ◌==◌, nat_lt, Bool, true, false, if◌then◌else◌, List, [], ◌∷◌, ◌⊎◌, filter, slice_index_or}
use Rattle.std.proofs.Common.{arith, sym, ap, inl, inr, ◌∙◌}
use Rattle.std.proofs.lemmas.Bool.{eqb-true, eq-eqb, and_parts, and_from, or_left, or_right, or_cases, ltb-true, lt-ltb, true≢false, cases_lt}
use Rattle.protocol.specs.Events.{Event, Submit, Pass, Form, Admit, Arrive, Ask, Take, Run, Send, End, Close, Complete, Sync, Note, Commit, Settle, Abort, Rollback, DropSub, DropControl, Prepare, Vouch, Decide, Seal, Finish, Reply, Trim}
use Rattle.protocol.specs.Schedule.{Rank, rank, ranked, is_rank_below, IsBelowEach, AscendByRank}
use Rattle.protocol_ready.specs.Ready.{put}
use Rattle.protocol_ready.proofs.Listing.{Has}

-- ---- ranks

pub Less : Rank → Rank → Type 0
Less x y = (x.kind < y.kind) ⊎ ((x.kind ≡ y.kind) × ((x.first < y.first) ⊎ ((x.first ≡ y.first) × (x.second < y.second))))

pub less : (x y : Rank) → is_rank_below x y ≡ true → Less x y
unfolding Less
less x y h = elim (or_cases (nat_lt x.kind y.kind) _ h) [
  | inl a ↦ inl (ltb-true x.kind y.kind a)
  | inr b ↦ let q = and_parts (x.kind == y.kind) _ b in inr (
    eqb-true x.kind y.kind q.0,
    elim (or_cases (nat_lt x.first y.first) _ q.1) [
      | inl c ↦ inl (ltb-true x.first y.first c)
      | inr d ↦ let r = and_parts (x.first == y.first) _ d in inr (eqb-true x.first y.first r.0, ltb-true x.second y.second r.1)
    ],
  )
]

pub is_less : (x y : Rank) → Less x y → is_rank_below x y ≡ true
unfolding Less
is_less x y (inl a) = or_left (nat_lt x.kind y.kind) _ (lt-ltb x.kind y.kind a)
is_less x y (inr (e, inl c)) = or_right (nat_lt x.kind y.kind) _ (and_from (x.kind == y.kind) _ (eq-eqb x.kind y.kind e) (or_left (nat_lt x.first y.first) _ (lt-ltb x.first y.first c)))
is_less x y (inr (e, inr (f, d))) = or_right (nat_lt x.kind y.kind) _ (and_from (x.kind == y.kind) _ (eq-eqb x.kind y.kind e) (or_right (nat_lt x.first y.first) _ (and_from (x.first == y.first) _ (eq-eqb x.first y.first f) (lt-ltb x.second y.second d))))

pub through : (x y z : Rank) → Less x y → Less y z → Less x z
unfolding Less
through x y z (inl a) (inl b) = inl (omega (arith, a, b))
through x y z (inl a) (inr (e, g)) = inl (omega (arith, a, e))
through x y z (inr (e, g)) (inl b) = inl (omega (arith, e, b))
through x y z (inr (e, inl a)) (inr (f, inl b)) = inr (e ∙ f, inl (omega (arith, a, b)))
through x y z (inr (e, inl a)) (inr (f, inr (g, b))) = inr (e ∙ f, inl (omega (arith, a, g)))
through x y z (inr (e, inr (g, a))) (inr (f, inl b)) = inr (e ∙ f, inl (omega (arith, g, b)))
through x y z (inr (e, inr (g, a))) (inr (f, inr (h, b))) = inr (e ∙ f, inr (g ∙ h, omega (arith, a, b)))

rank_is : (k l f g m n : ℕ) → k ≡ l → f ≡ g → m ≡ n → ranked k f m ≡ ranked l g n
rank_is k l f g m n d e h = rw (d, e, h) refl

pub compared : (x y : Rank) → Less x y ⊎ (Less y x ⊎ (x ≡ y))
unfolding Less
compared x y = elim (cases_lt x.kind y.kind) [ inl a ↦ inl (inl a) | inr b ↦ elim (cases_lt y.kind x.kind) [ inl c ↦ inr (inl (inl c)) | inr d ↦ firsts (omega (arith, b, d)) ] ]
  where
    same : x.kind ≡ y.kind → x.first ≡ y.first → x.second ≡ y.second → x ≡ y
    same e f g = rank_is x.kind y.kind x.first y.first x.second y.second e f g

    seconds : x.kind ≡ y.kind → x.first ≡ y.first → Less x y ⊎ (Less y x ⊎ (x ≡ y))
    seconds e f = elim (cases_lt x.second y.second) [ inl a ↦ inl (inr (e, inr (f, a))) | inr b ↦ elim (cases_lt y.second x.second) [ inl c ↦ inr (inl (inr (sym e, inr (sym f, c)))) | inr d ↦ inr (inr (same e f (omega (arith, b, d)))) ] ]

    firsts : x.kind ≡ y.kind → Less x y ⊎ (Less y x ⊎ (x ≡ y))
    firsts e = elim (cases_lt x.first y.first) [ inl a ↦ inl (inr (e, inl a)) | inr b ↦ elim (cases_lt y.first x.first) [ inl c ↦ inr (inl (inr (sym e, inl c))) | inr d ↦ seconds e (omega (arith, b, d)) ] ]

pub not_itself : (x : Rank) → is_rank_below x x ≡ true → ⊥
unfolding Less
not_itself x h = no (less x x h)
  where
    no : Less x x → ⊥
    no (inl a) = omega (arith, a)
    no (inr (e, inl a)) = omega (arith, a)
    no (inr (e, inr (f, a))) = omega (arith, a)

pub below_apart : (x : Rank) → is_rank_below x x ≡ false
below_apart x = by (is_rank_below x x) refl
  where
    by : (b : Bool) → is_rank_below x x ≡ b → is_rank_below x x ≡ false
    by true e = absurd (not_itself x e)
    by false e = e

pub below_through : (x y z : Rank) → is_rank_below x y ≡ true → is_rank_below y z ≡ true → is_rank_below x z ≡ true
below_through x y z h g = is_less x z (through x y z (less x y h) (less y z g))

pub below_same : (x y : Rank) → is_rank_below x y ≡ false → is_rank_below y x ≡ false → x ≡ y
below_same x y h g = elim (compared x y) [
  | inl a ↦ absurd (true≢false (sym (is_less x y a) ∙ h))
  | inr o ↦ elim o [ inl a ↦ absurd (true≢false (sym (is_less y x a) ∙ g)) | inr e ↦ e ]
]

-- ---- a rank is of one event

of_rank : Rank → Event
of_rank r = slice_index_or (
    Submit r.first ∷ Submit r.first ∷ Pass r.first ∷ Form r.first ∷ Admit r.first
    ∷ Arrive r.first r.second ∷ Ask r.first r.second ∷ Take r.first r.second ∷ Run r.first r.second ∷ Send r.first r.second ∷ End r.first r.second ∷ Close r.first r.second ∷ Complete r.first r.second
    ∷ Sync r.first ∷ Note r.first r.second ∷ Commit r.first ∷ Settle r.first ∷ Abort r.first ∷ Rollback r.first ∷ DropSub r.first r.second ∷ DropControl r.first
    ∷ Prepare r.first r.second ∷ Vouch r.first r.second ∷ Decide r.first ∷ Seal r.first ∷ Finish r.first r.second ∷ Reply r.first ∷ Trim r.first r.second ∷ []) r.kind (Submit 0)

back : (e : Event) → of_rank (rank e) ≡ e
unfolding of_rank
back (Submit n) = refl
back (Pass c) = refl
back (Form k) = refl
back (Admit t) = refl
back (Arrive k a) = refl
back (Ask t a) = refl
back (Take t a) = refl
back (Run t a) = refl
back (Send t a) = refl
back (End t a) = refl
back (Close t a) = refl
back (Complete k a) = refl
back (Sync l) = refl
back (Note k a) = refl
back (Commit k) = refl
back (Settle k) = refl
back (Abort k) = refl
back (Rollback a) = refl
back (DropSub k a) = refl
back (DropControl t) = refl
back (Prepare t a) = refl
back (Vouch t a) = refl
back (Decide t) = refl
back (Seal t) = refl
back (Finish t a) = refl
back (Reply n) = refl
back (Trim k a) = refl

pub one_event : (e f : Event) → rank e ≡ rank f → e ≡ f
one_event e f h = sym (back e) ∙ (ap of_rank h ∙ back f)

-- ---- order

below_filter : (r : Rank) (p : Event → Bool) (xs : List Event) → IsBelowEach r xs → IsBelowEach r (filter p xs)
below_filter r p [] h = tt
below_filter r p (x ∷ xs) h = by (p x) (below_filter r p xs h.1)
  where
    by : (b : Bool) → IsBelowEach r (filter p xs) → IsBelowEach r (if b then x ∷ filter p xs else filter p xs)
    by true g = (h.0, g)
    by false g = g

below_more : (q r : Rank) (xs : List Event) → is_rank_below q r ≡ true → IsBelowEach r xs → IsBelowEach q xs
below_more q r [] h g = tt
below_more q r (x ∷ xs) h g = (is_less q (rank x) (through q r (rank x) (less q r h) (less r (rank x) g.0)), below_more q r xs h g.1)

below_put : (r : Rank) (e : Event) (xs : List Event) → is_rank_below r (rank e) ≡ true → IsBelowEach r xs → IsBelowEach r (put e xs)
below_put r e [] h g = (h, tt)
below_put r e (x ∷ xs) h g = by (is_rank_below (rank e) (rank x)) (is_rank_below (rank x) (rank e)) (below_put r e xs h g.1)
  where
    by : (b c : Bool) → IsBelowEach r (put e xs) → IsBelowEach r (if b then e ∷ x ∷ xs else if c then x ∷ put e xs else x ∷ xs)
    by true c i = (h, g)
    by false true i = (g.0, i)
    by false false i = g

pub ascends_put : (e : Event) (xs : List Event) → AscendByRank xs → AscendByRank (put e xs)
ascends_put e [] h = (tt, tt)
ascends_put e (x ∷ xs) h = by (is_rank_below (rank e) (rank x)) refl (is_rank_below (rank x) (rank e)) refl (ascends_put e xs h.1)
  where
    by : (b : Bool) → is_rank_below (rank e) (rank x) ≡ b → (c : Bool) → is_rank_below (rank x) (rank e) ≡ c → AscendByRank (put e xs) → AscendByRank (if b then e ∷ x ∷ xs else if c then x ∷ put e xs else x ∷ xs)
    by true p c q i = ((p, below_more (rank e) (rank x) xs p h.0), h)
    by false p true q i = (below_put (rank x) e xs q h.0, i)
    by false p false q i = h

-- ---- what it has

pub put_has : (e : Event) (xs : List Event) (f : Event) → Has (e ∷ xs) f → Has (put e xs) f
put_has e [] f h = h
put_has e (x ∷ xs) f h = by (is_rank_below (rank e) (rank x)) refl (is_rank_below (rank x) (rank e)) refl h (put_has e xs f)
  where
    by : (b : Bool) → is_rank_below (rank e) (rank x) ≡ b → (c : Bool) → is_rank_below (rank x) (rank e) ≡ c → Has (e ∷ x ∷ xs) f → (Has (e ∷ xs) f → Has (put e xs) f) → Has (if b then e ∷ x ∷ xs else if c then x ∷ put e xs else x ∷ xs) f
    by true p c q g i = g
    by false p true q (inl g) i = inr (i (inl g))
    by false p true q (inr (inl g)) i = inl g
    by false p true q (inr (inr g)) i = inr (i (inr g))
    by false p false q (inl g) i = elim (compared (rank e) (rank x)) [
      | inl a ↦ absurd (true≢false (sym (is_less (rank e) (rank x) a) ∙ p))
      | inr o ↦ elim o [ inl a ↦ absurd (true≢false (sym (is_less (rank x) (rank e) a) ∙ q)) | inr a ↦ inl (sym (one_event e x a) ∙ g) ]
    ]
    by false p false q (inr g) i = g

pub put_from : (e : Event) (xs : List Event) (f : Event) → Has (put e xs) f → Has (e ∷ xs) f
put_from e [] f h = h
put_from e (x ∷ xs) f h = by (is_rank_below (rank e) (rank x)) (is_rank_below (rank x) (rank e)) h (put_from e xs f)
  where
    by : (b c : Bool) → Has (if b then e ∷ x ∷ xs else if c then x ∷ put e xs else x ∷ xs) f → (Has (put e xs) f → Has (e ∷ xs) f) → Has (e ∷ x ∷ xs) f
    by true c g i = g
    by false true (inl g) i = inr (inl g)
    by false true (inr g) i = elim (i g) [ inl a ↦ inl a | inr b ↦ inr (inr b) ]
    by false false g i = inr g
