-- Two steps of a table, of which the later has all entries of the earlier.
use Rattle.std.proofs.Common.{◌≡◌, ℕ, zero, suc, ◌<◌, ◌≤◌, inl, inr, List, [], ◌∷◌, ◌++◌, length, nat_eq, Contains, Option, Some, slice_get, slice_index, append-nil, length-append, ap, sym, subst, refl, ◌∙◌, lt_of_not-le, lt-ltb, arith}
use Rattle.std.proofs.lemmas.Option.{slice_get_within}
use Rattle.std.proofs.lemmas.Bool.Decides.{eqb_tells}
use mathlib.Core.Option as maybe
use mathlib.Core.Logic.{dite}
use native.Mathlib.Decide.{ℕ_discrete, dec_le}
use lib.ListN.{get_elem?}
use Rattle.snap_base.proofs.Options.{same_some}
use Rattle.atomic_table.specs.Table.{State}
use Rattle.turn_table.specs.declared.views.View.{View}
use Rattle.turn_table.specs.Places.{at, total, times, once_below, count_if, Stand}
use Rattle.turn_table.specs.Runs.{AllLeave, AllLeaveFrom, GoesOnWithout, Leaves}
use Rattle.turn_table.specs.Rule.{HoldsOn, IsEntry, IsLater, Kept}
use Rattle.turn_table.proofs.ByPlace.{some_of}

-- ---- entries

module _ {E : Type 0} where
  times_has : (k : ℕ) (es : List (ℕ × E)) → 0 < times k es → (e : E) × Contains es (k, e)
  times_has k [] h = absurd (omega arith)
  times_has k (d ∷ es) h = elim (eqb_tells d.0 k) [
    | inl q ↦ (d.1, (0, omega arith, λ i. (q.1 i, d.1)))
    | inr q ↦ (
        let z : count_if (nat_eq d.0 k) ≡ 0 = ap count_if q.0 in
        let r = times_has k es (omega arith) in
        (r.0, (suc r.1.0, omega (arith, r.1.1), r.1.2))
        )
  ]

  pub stand_has : (h : List E) (es : List (ℕ × E)) (e : ℕ × E) → Stand h es → Contains es e → slice_get h e.0 ≡ Some e.1
  stand_has h [] e s c = absurd (omega (arith, c.1))
  stand_has h (d ∷ es) e s (zero, lt, is) = subst (λ (x : ℕ × E). slice_get h x.0 ≡ Some x.1) is s.0
  stand_has h (d ∷ es) e s (suc k, lt, is) = stand_has h es e s.1 (k, omega (arith, lt), is)

  leaves_at : (footprint : E → List ℕ) (i n : ℕ) (es : List (ℕ × E)) (e : ℕ × E) → AllLeaveFrom footprint i n es → Contains es e → n ≤ e.0 → Leaves footprint i e.1
  leaves_at footprint i n [] e a c le = absurd (omega (arith, c.1))
  leaves_at footprint i n (d ∷ es) e a (zero, lt, is) le = subst (λ (x : ℕ × E). n ≤ x.0 → Leaves footprint i x.1) is a.0 le
  leaves_at footprint i n (d ∷ es) e a (suc k, lt, is) le = leaves_at footprint i n es e a.1 (k, omega (arith, lt), is) le

  -- ---- histories

  -- a list whose first elements are those of another
  front_is : (xs ys : List E) → length xs ≤ length ys → ((k : ℕ) → k < length xs → slice_get xs k ≡ slice_get ys k) → (more : List E) × (ys ≡ xs ++ more)
  front_is [] ys l h = (ys, refl)
  front_is (x ∷ xs) [] l h = absurd (omega arith)
  front_is (x ∷ xs) (y ∷ ys) l h =
      let a : x ≡ y = same_some x y (h 0 (omega arith)) in
      let r = front_is xs ys (omega arith) (λ k lt. h (suc k) (omega arith)) in
      (r.0, λ i. sym a i ∷ r.1 i)

  and_none : (xs more : List E) → length more ≡ 0 → xs ++ more ≡ xs
  and_none xs [] z = append-nil xs
  and_none xs (e ∷ more) z = absurd (omega arith)

  and_next : (xs more : List E) (e : E) → slice_get (xs ++ more) (length xs) ≡ Some e → (rest : List E) × (more ≡ e ∷ rest)
  and_next [] [] e h = absurd (cc h)
  and_next [] (d ∷ more) e h = let a : d ≡ e = same_some d e h in (more, λ i. a i ∷ more)
  and_next (x ∷ xs) more e h = and_next xs more e h

  all_leave : (footprint : E → List ℕ) (i : ℕ) (es : List E) → ((k : ℕ) (e : E) → slice_get es k ≡ Some e → Leaves footprint i e) → AllLeave footprint i es
  all_leave footprint i [] h = tt
  all_leave footprint i (e ∷ es) h = (h 0 e refl, all_leave footprint i es (λ k d is. h (suc k) d is))

  leave_behind : (footprint : E → List ℕ) (i : ℕ) (xs more : List E) → ((k : ℕ) (e : E) → length xs ≤ k → slice_get (xs ++ more) k ≡ Some e → Leaves footprint i e) → AllLeave footprint i more
  leave_behind footprint i [] more h = all_leave footprint i more (λ k e is. h k e (omega arith) is)
  leave_behind footprint i (x ∷ xs) more h = leave_behind footprint i xs more (λ k e le is. h (suc k) e (omega arith) is)

found : {V : Type 0} (f : V → ℕ) (vs : List V) → 0 < total f vs → (j : ℕ) × (v : V) × (get_elem? vs j ≡ maybe.some v) × (0 < f v)
found f [] h = absurd (omega arith)
found f (v ∷ vs) h = dite
    (dec_le 1 (f v))
    (λ le. (0, v, refl, omega arith))
    (λ no. (let g = lt_of_not-le no in let r = found f vs (omega arith) in (suc r.0, r.1, r.2, r.3)))

module _ {P E : Type 0} (footprint : E → List ℕ) (happens : E → List P → List P → Type 0) (start : List P) where
  -- each event of the history is some view's entry
  entry_at : (s : State (Option P) (View P E)) (k : Kept footprint happens start s) (n : ℕ) → n < length k.history → (e : E) × IsEntry s (n, e)
  entry_at s k n lt =
      let one : once_below n (length k.history) ≡ 1 = ap count_if (lt-ltb n (length k.history) lt) in
      let sum = k.numbers n in
      let there = found (λ (v : View P E). times n v.entries) s.views (omega arith) in
      let has = times_has n there.1.entries there.3 in
      (has.0, (there.0, there.1, there.2, has.1))

  -- and stands there
  entry_stands : (s : State (Option P) (View P E)) (k : Kept footprint happens start s) (e : ℕ × E) → IsEntry s e → slice_get k.history e.0 ≡ Some e.1
  entry_stands s k e there = stand_has k.history there.1.entries e (k.each there.0 there.1 there.2).stand there.3

  module _ (s t : State (Option P) (View P E)) (k : Kept footprint happens start s) (l : Kept footprint happens start t) (later : IsLater s t) where
    same_at : (n : ℕ) → n < length k.history → slice_get k.history n ≡ slice_get l.history n
    same_at n lt =
        let e = entry_at s k n lt in
        entry_stands s k (n, e.0) e.1 ∙ sym (entry_stands t l (n, e.0) (later (n, e.0) e.1))

    as_long : length k.history ≤ length l.history
    as_long = dite
        (dec_le (length k.history) (length l.history))
        (λ le. le)
        (λ no.
        let lt = lt_of_not-le no in
        let e = entry_at s k (length l.history) lt in
        let w = slice_get_within l.history (length l.history) e.0 (entry_stands t l (length l.history, e.0) (later (length l.history, e.0) e.1)) in
        absurd (omega (arith, w)))

    pub goes_on : (more : List E) × (l.history ≡ k.history ++ more)
    goes_on = front_is k.history l.history as_long same_at

    pub goes_on_none : slice_index t.words 0 ≡ slice_index s.words 0 → l.history ≡ k.history
    goes_on_none same =
        let on = goes_on in
        on.1 ∙ and_none k.history on.0 (omega (arith, length-append k.history on.0, ap (λ (es : List E). length es) on.1, k.count, l.count, same))

    pub goes_on_next : (e : E) → IsEntry t (slice_index s.words 0, e) → (more : List E) × (l.history ≡ k.history ++ e ∷ more)
    goes_on_next e there =
        let on = goes_on in
        let at_count : slice_get l.history (slice_index s.words 0) ≡ Some e = entry_stands t l (slice_index s.words 0, e) there in
        let next = and_next k.history on.0 e (ap (λ (es : List E). slice_get es (length k.history)) (sym on.1) ∙ (ap (λ (n : ℕ). slice_get l.history n) (sym k.count) ∙ at_count)) in
        (next.0, on.1 ∙ ap (λ (es : List E). k.history ++ es) next.1)

    module _ (i j : ℕ) (on : HoldsOn s t i j) where
      -- an event that was recorded in between leaves the part
      between : (n : ℕ) (e : E) → length k.history ≤ n → slice_get l.history n ≡ Some e → Leaves footprint i e
      between n e le is =
          let within = slice_get_within l.history n e is in
          let x = entry_at t l n within in
          let same : x.0 ≡ e = same_some x.0 e (sym (entry_stands t l (n, x.0) x.1) ∙ is) in
          let mine = some_of (at on.before.held i) on.held.0 in
          let now = some_of (at on.after.held i) on.held.1 in
          let low = (k.each j on.before on.was).since i mine.0 mine.1 in
          let count : on.since ≡ low.0 = same_some on.since low.0 (sym on.taken.0 ∙ low.1) in
          subst (λ (d : E). Leaves footprint i d) same (dite
          (ℕ_discrete j x.1.0)
          (λ h.
          let here : x.1.1 ≡ on.after = maybe.some-injective x.1.1 on.after (sym x.1.2 ∙ (ap (get_elem? t.views) (sym h) ∙ on.is)) in
          let old = subst (λ (es : List (ℕ × E)). Contains es (n, x.0)) (ap (λ (v : View P E). v.entries) here ∙ on.entries) x.1.3 in
          let early = slice_get_within k.history n x.0 (stand_has k.history on.before.entries (n, x.0) (k.each j on.before on.was).stand old) in
          absurd (omega (arith, early, le)))
          (λ ne. leaves_at footprint i on.since x.1.1.entries (n, x.0) (l.alone j x.1.0 on.after x.1.1 on.is x.1.2 ne i on.since now.0 now.1 on.taken.1) x.1.3 (omega (arith, count, low.2, le))))

      pub left : GoesOnWithout footprint i k.history l.history
      left =
          let on_it = goes_on in
          (on_it.0, on_it.1, leave_behind footprint i k.history on_it.0 (λ n e le is. between n e le (ap (λ (es : List E). slice_get es n) on_it.1 ∙ is)))
