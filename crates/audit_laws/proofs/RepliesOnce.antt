-- Each transaction is replied to once: who was replied to is marked, and a reply marks one more.
use Rattle.std.specs.Prelude.{◌≡◌, refl, ℕ, zero, suc, ◌+◌, ◌<◌, ◌==◌, not, Bool, true, false, ◌||◌, Some, List, [], ◌∷◌, ◌++◌, length, replicate, slice_get, slice_set, ⊤}
use Rattle.std.specs.List.{AllByRecursion, list_all}
use Rattle.std.proofs.Common.{arith, sym, ap, subst, ◌∙◌}
use Rattle.std.proofs.lemmas.Bool.{true≢false, eqb-true, eq-eqb, or_parts}
use Rattle.std.proofs.lemmas.List.{append_assoc}
use Rattle.snap_base.proofs.Options.{somebody}
use Rattle.snap_base.specs.declared.verdicts.Verdict.{Verdict}
use Rattle.protocol.specs.Conditions.{IsAllowed, conditions}
use Rattle.protocol.specs.Effects.{after}
use Rattle.protocol.specs.Events.{Event, Reply}
use Rattle.protocol.specs.Fixed.{Fixed}
use Rattle.protocol.specs.Parts.{Machine}
use Rattle.protocol.specs.Report.{replied}
use Rattle.protocol.specs.Runs.{opening, reached, state_after, EachAllowed, IsRun}
use Rattle.protocol.specs.Verdicts.{verdict}
use Rattle.protocol.specs.Words.{holds, is_among}
use Rattle.audit_words.specs.Reports.{AnswersStand}

-- ---- marks

abbrev pub mark : List Bool → ℕ → Bool
mark xs n = holds (λ r. r) (slice_get xs n)

abbrev pub marks : List Bool → ℕ
marks [] = 0
marks (true ∷ xs) = suc (marks xs)
marks (false ∷ xs) = marks xs

mark_kept : (xs : List Bool) (n m : ℕ) → mark xs m ≡ true → mark (slice_set xs n true) m ≡ true
mark_kept [] n m h = h
mark_kept (x ∷ xs) zero zero h = refl
mark_kept (x ∷ xs) zero (suc m) h = h
mark_kept (x ∷ xs) (suc n) zero h = h
mark_kept (x ∷ xs) (suc n) (suc m) h = mark_kept xs n m h

mark_new : (xs : List Bool) (n : ℕ) → holds not (slice_get xs n) ≡ true → mark (slice_set xs n true) n ≡ true
mark_new [] n h = absurd (true≢false (sym h))
mark_new (x ∷ xs) zero h = refl
mark_new (x ∷ xs) (suc n) h = mark_new xs n h

not_marked : (xs : List Bool) (n : ℕ) → holds not (slice_get xs n) ≡ true → mark xs n ≡ false
not_marked [] n h = refl
not_marked (true ∷ xs) zero h = absurd (true≢false (sym h))
not_marked (false ∷ xs) zero h = refl
not_marked (x ∷ xs) (suc n) h = not_marked xs n h

within : (xs : List Bool) (n : ℕ) → holds not (slice_get xs n) ≡ true → n < length xs
within [] n h = absurd (true≢false (sym h))
within (x ∷ xs) zero h = omega arith
within (x ∷ xs) (suc n) h = omega (arith, within xs n h)

one_more : (xs : List Bool) (n : ℕ) → holds not (slice_get xs n) ≡ true → marks (slice_set xs n true) ≡ marks xs + 1
one_more [] n h = absurd (true≢false (sym h))
one_more (true ∷ xs) zero h = absurd (true≢false (sym h))
one_more (false ∷ xs) zero h = omega arith
one_more (true ∷ xs) (suc n) h = omega (arith, one_more xs n h)
one_more (false ∷ xs) (suc n) h = one_more xs n h

as_long : (xs : List Bool) (n : ℕ) → length (slice_set xs n true) ≡ length xs
as_long [] n = refl
as_long (x ∷ xs) zero = refl
as_long (x ∷ xs) (suc n) = omega (arith, as_long xs n)

all_marked : (xs : List Bool) → list_all (λ r. r) xs ≡ true → marks xs ≡ length xs
all_marked [] h = refl
all_marked (true ∷ xs) h = omega (arith, all_marked xs h)
all_marked (false ∷ xs) h = absurd (true≢false (sym h))

none_marked : (n : ℕ) → marks (replicate n false) ≡ 0
none_marked zero = refl
none_marked (suc n) = none_marked n

so_long : (n : ℕ) → length (replicate n false) ≡ n
so_long zero = refl
so_long (suc n) = omega (arith, so_long n)

-- ---- what an event does to them

abbrev replied_by : Event → List Bool → List Bool
replied_by (Reply n) xs = slice_set xs n true
replied_by _ xs = xs

replied_is : {C : Type 0} (w : Fixed C) (e : Event) (s : Machine C) → (after w e s).desk.replied ≡ replied_by e s.desk.replied
unfolding after
replied_is w (Reply n) s = refl
replied_is w e s = refl

may_reply : {C : Type 0} (w : Fixed C) (n : ℕ) (s : Machine C) → IsAllowed w (Reply n) s → holds not (slice_get s.desk.replied n) ≡ true
unfolding conditions
may_reply w n s ok = ok.0

-- ---- along a run

-- each is below the bound, and none of those before it
abbrev pub NewEach : ℕ → List ℕ → List ℕ → Type 0
NewEach most seen [] = ⊤
NewEach most seen (n ∷ ns) = (n < most) × (is_among n seen ≡ false) × NewEach most (seen ++ n ∷ []) ns

abbrev AllMarked : List Bool → List ℕ → Type 0
AllMarked xs seen = (m : ℕ) → is_among m seen ≡ true → mark xs m ≡ true

unmarked : (xs : List Bool) (seen : List ℕ) (n : ℕ) → AllMarked xs seen → mark xs n ≡ false → is_among n seen ≡ false
unmarked xs seen n k h = by (is_among n seen) refl
  where
    by : (b : Bool) → is_among n seen ≡ b → b ≡ false
    by true e = absurd (true≢false (sym (k n e) ∙ h))
    by false e = refl

pub among_join : (m : ℕ) (xs ys : List ℕ) → is_among m (xs ++ ys) ≡ (is_among m xs || is_among m ys)
among_join m [] ys = refl
among_join m (x ∷ xs) ys = by (x == m) (among_join m xs ys)
  where
    by : (b : Bool) → is_among m (xs ++ ys) ≡ (is_among m xs || is_among m ys) → (b || is_among m (xs ++ ys)) ≡ ((b || is_among m xs) || is_among m ys)
    by true e = refl
    by false e = e

marked_more : (xs : List Bool) (seen : List ℕ) (n : ℕ) → holds not (slice_get xs n) ≡ true → AllMarked xs seen → AllMarked (slice_set xs n true) (seen ++ n ∷ [])
marked_more xs seen n h k m e = by (is_among m seen) refl (n == m) refl (sym (among_join m seen (n ∷ [])) ∙ e)
  where
    by : (b : Bool) → is_among m seen ≡ b → (c : Bool) → (n == m) ≡ c → (b || (c || false)) ≡ true → mark (slice_set xs n true) m ≡ true
    by true p c q r = mark_kept xs n m (k m p)
    by false p true q r = subst (λ i. mark (slice_set xs n true) i ≡ true) (eqb-true n m q) (mark_new xs n h)
    by false p false q r = absurd (true≢false (sym r))

news : {C : Type 0} (w : Fixed C) (most : ℕ) (es : List Event) (s : Machine C) (seen : List ℕ) → length s.desk.replied ≡ most → AllMarked s.desk.replied seen → EachAllowed w es s → NewEach most seen (replied es)
news w most [] s seen l k run = tt
news w most (Reply n ∷ es) s seen l k run =
    let h = may_reply w n s run.0 in
    let e = replied_is w (Reply n) s in (
      subst (λ i. n < i) l (within s.desk.replied n h),
      unmarked s.desk.replied seen n k (not_marked s.desk.replied n h),
      news w most es (after w (Reply n) s) (seen ++ n ∷ []) (ap length e ∙ (as_long s.desk.replied n ∙ l)) (subst (λ xs. AllMarked xs (seen ++ n ∷ [])) (sym e) (marked_more s.desk.replied seen n h k)) run.1,
    )
news w most (e ∷ es) s seen l k run =
    news w most es (after w e s) seen (ap length (replied_is w e s) ∙ l) (subst (λ xs. AllMarked xs seen) (sym (replied_is w e s)) k) run.1

pub replies_new : {C : Type 0} (w : Fixed C) (es : List Event) → IsRun w es → NewEach (length w.text.txs) [] (replied es)
replies_new w es run = news w (length w.text.txs) es (opening w) [] (so_long (length w.text.txs)) (λ m e. absurd (true≢false (sym e))) run

counted : {C : Type 0} (w : Fixed C) (es : List Event) (s : Machine C) → EachAllowed w es s → marks (state_after w es s).desk.replied ≡ marks s.desk.replied + length (replied es)
counted w [] s run = omega arith
counted w (Reply n ∷ es) s run =
    omega (arith, counted w es (after w (Reply n) s) run.1, ap marks (replied_is w (Reply n) s), one_more s.desk.replied n (may_reply w n s run.0))
counted w (e ∷ es) s run = counted w es (after w e s) run.1 ∙ ap (λ (z : ℕ). z + length (replied es)) (ap marks (replied_is w e s))

kept_length : {C : Type 0} (w : Fixed C) (es : List Event) (s : Machine C) → length (state_after w es s).desk.replied ≡ length s.desk.replied
kept_length w [] s = refl
kept_length w (e ∷ es) s = kept_length w es (after w e s) ∙ (ap length (replied_is w e s) ∙ by e)
  where
    by : (e : Event) → length (replied_by e s.desk.replied) ≡ length s.desk.replied
    by (Reply n) = as_long s.desk.replied n
    by e = refl

pub as_many_replies : {C : Type 0} (w : Fixed C) (es : List Event) → IsRun w es → list_all (λ r. r) (reached w es).desk.replied ≡ true → length (replied es) ≡ length w.text.txs
as_many_replies w es run all =
    omega (arith, counted w es (opening w) run, none_marked (length w.text.txs), all_marked (reached w es).desk.replied all, kept_length w es (opening w), so_long (length w.text.txs))

-- ---- verdicts of who was replied to

abbrev pub IsKnown : {C : Type 0} → Machine C → ℕ → Type 0
IsKnown s n = (v : Verdict) × (verdict n s.book s.desk ≡ Some v)

pub state_join : {C : Type 0} (w : Fixed C) (es fs : List Event) (s : Machine C) → state_after w (es ++ fs) s ≡ state_after w fs (state_after w es s)
state_join w [] fs s = refl
state_join w (e ∷ es) fs s = state_join w es fs (after w e s)

has_verdict : {C : Type 0} (w : Fixed C) (n : ℕ) (s : Machine C) → IsAllowed w (Reply n) s → IsKnown s n
unfolding conditions
has_verdict w n s ok = somebody (verdict n s.book s.desk) ok.1.0

knowns : {C : Type 0} (w : Fixed C) (es : List Event) → AnswersStand w es → (front later : List Event) → es ≡ front ++ later → EachAllowed w later (reached w front) → AllByRecursion (IsKnown (reached w es)) (replied later)
knowns w es k front [] e run = tt
knowns {C} w es k front (d ∷ later) e run = by d e run.0 (knowns w es k (front ++ d ∷ []) later (e ∙ sym (append_assoc front (d ∷ []) later)) (subst (EachAllowed w later) (sym (state_join w front (d ∷ []) (opening w))) run.1))
  where
    by : (d : Event) → es ≡ front ++ d ∷ later → IsAllowed w d (reached w front) → AllByRecursion (IsKnown (reached w es)) (replied later) → AllByRecursion (IsKnown (reached w es)) (replied (d ∷ later))
    by (Reply n) e ok rest = let v = has_verdict w n (reached w front) ok in ((v.0, k.stay front (Reply n ∷ later) e n v.0 v.1), rest)
    by d e ok rest = rest

pub replies_known : {C : Type 0} (w : Fixed C) (es : List Event) → IsRun w es → AnswersStand w es → AllByRecursion (IsKnown (reached w es)) (replied es)
replies_known w es run k = knowns w es k [] es refl run

-- ---- who is marked was replied to

down : (n m : ℕ) → (suc n == suc m) ≡ false → (n == m) ≡ false
down n m h = by (n == m) refl
  where
    by : (c : Bool) → (n == m) ≡ c → c ≡ false
    by true e = absurd (true≢false (sym (eq-eqb (suc n) (suc m) (ap suc (eqb-true n m e))) ∙ h))
    by false e = refl

mark_other : (xs : List Bool) (n m : ℕ) → (n == m) ≡ false → mark (slice_set xs n true) m ≡ true → mark xs m ≡ true
mark_other [] n m e h = h
mark_other (x ∷ xs) zero zero e h = absurd (true≢false e)
mark_other (x ∷ xs) zero (suc m) e h = h
mark_other (x ∷ xs) (suc n) zero e h = h
mark_other (x ∷ xs) (suc n) (suc m) e h = mark_other xs n m (down n m e) h

marked_from : {C : Type 0} (w : Fixed C) (es : List Event) (s : Machine C) (n : ℕ) → mark (state_after w es s).desk.replied n ≡ true → is_among n (replied es) ≡ false → mark s.desk.replied n ≡ true
marked_from w [] s n h k = h
marked_from w (Reply m ∷ es) s n h k =
    let q = or_parts (m == n) (is_among n (replied es)) k in
    mark_other s.desk.replied m n q.0 (subst (λ xs. mark xs n ≡ true) (replied_is w (Reply m) s) (marked_from w es (after w (Reply m) s) n h q.1))
marked_from w (e ∷ es) s n h k = subst (λ xs. mark xs n ≡ true) (replied_is w e s) (marked_from w es (after w e s) n h k)

none_there : (m n : ℕ) → mark (replicate m false) n ≡ false
none_there zero n = refl
none_there (suc m) zero = refl
none_there (suc m) (suc n) = none_there m n

each_marked : (xs : List Bool) (n : ℕ) → list_all (λ r. r) xs ≡ true → n < length xs → mark xs n ≡ true
each_marked [] n h l = absurd (omega (arith, l))
each_marked (true ∷ xs) zero h l = refl
each_marked (true ∷ xs) (suc n) h l = each_marked xs n h (omega (arith, l))
each_marked (false ∷ xs) n h l = absurd (true≢false (sym h))

pub each_replied : {C : Type 0} (w : Fixed C) (es : List Event) → IsRun w es → list_all (λ r. r) (reached w es).desk.replied ≡ true → (n : ℕ) → n < length w.text.txs → is_among n (replied es) ≡ true
each_replied w es run all n l = by (is_among n (replied es)) refl
  where
    by : (b : Bool) → is_among n (replied es) ≡ b → b ≡ true
    by true e = refl
    by false e = absurd (true≢false (sym (marked_from w es (opening w) n (each_marked (reached w es).desk.replied n all (omega (arith, l, kept_length w es (opening w), so_long (length w.text.txs)))) e) ∙ none_there (length w.text.txs) n))
