-- One pass over the ACTs carries numbers through all pairs, since tids ascend along the book and who stands behind is older.
use Rattle.std.specs.Prelude.{◌≡◌, refl, ℕ, ◌+◌, ◌<◌, ◌≤◌, ◌==◌, max, not, Bool, true, false, ◌&&◌, ◌↔◌, if◌then◌else◌, List, [], ◌∷◌, ◌++◌, map, filter}
use Rattle.std.specs.List.{AllByRecursion}
use Rattle.std.proofs.Common.{arith, sym, ap, subst, inl, inr, ◌∙◌}
use Rattle.std.proofs.lemmas.Bool.{and_parts, or_cases, eqb-true, eq-eqb, ne_eqb, true≢false}
use Rattle.snap_base.specs.declared.transactions.State.{State}
use Rattle.snap_base.specs.declared.transactions.Tx.{Tx}
use Rattle.protocol.specs.Facts.{Alone}
use Rattle.protocol.specs.Fixed.{Fixed}
use Rattle.protocol.specs.Parts.{Act, Pair, Machine}
use Rattle.protocol.specs.Events.{Ask}
use Rattle.protocol.specs.Words.{greatest, is_doomed, lock_of, floor_at}
use Rattle.protocol.specs.Spread.{stands_behind}
use Rattle.protocol.specs.Standing.{IsOlder}
use Rattle.protocol.specs.OnBook as book
use Rattle.protocol.specs.Rows as rows
use Rattle.protocol.specs.Rows.{IsCarried, AreCarried, RisesAgree}
use Rattle.protocol.specs.Effects.{after, cell_at}
use Rattle.protocol.specs.Events.{Event}
use Rattle.protocol.specs.Runs.{IsRun, reached}
use Rattle.protocol.specs.History.{History, history}
use Rattle.protocol_laws.proofs.first.Lists.{weaker, both_all}
use Rattle.protocol_laws.proofs.first.PairsFound as found
use Rattle.protocol_laws.proofs.first.PairsFound.{Ascend, TidsAscend}
use Rattle.protocol_laws.proofs.machine.Good.{Given}
use Rattle.protocol_laws.proofs.machine.AllGood as all
use Rattle.protocol_laws.proofs.machine.AllGood.{AllGood}
use Rattle.protocol_laws.proofs.machine.Higher as higher
use Rattle.protocol_theorems.proofs.sets.BeforeSets.{joined_tids}
use Rattle.protocol_theorems.proofs.sets.RowsAgree.{RowsStand, rows_stand, rise_at}

-- ---- the numbers that the pass gives

-- what the ACT has then
abbrev most : List Pair → Act → List Act → ℕ
most ps x others = max x.m (greatest (map (λ u. u.m) (filter (rows.carries ps x) others)))

abbrev given : List Pair → List Act → ℕ → ℕ
given ps [] t = 0
given ps (x ∷ xs) t = if x.tid == t then most ps x (rows.risen ps xs) else given ps xs t

above : (low high : ℕ) (xs : List Act) → Ascend low high (map (λ x. x.tid) xs) → AllByRecursion (λ y. low ≤ y.tid) xs
unfolding Ascend
above low high [] a = tt
above low high (x ∷ xs) a = (a.0, weaker (λ y. x.tid + 1 ≤ y.tid) (λ y. low ≤ y.tid) xs (λ y l. omega (arith, l, a.0)) (above (x.tid + 1) high xs a.1))

own : (ps : List Pair) (x : Act) (xs : List Act) → given ps (x ∷ xs) x.tid ≡ most ps x (rows.risen ps xs)
own ps x xs = rw (eq-eqb x.tid x.tid refl) refl

-- those further on have the numbers that they have without it
past : (ps : List Pair) (x : Act) (xs : List Act) → AllByRecursion (λ y. x.tid + 1 ≤ y.tid) xs → AllByRecursion (λ y. given ps (x ∷ xs) y.tid ≡ given ps xs y.tid) xs
past ps x xs l = weaker (λ y. x.tid + 1 ≤ y.tid) (λ y. given ps (x ∷ xs) y.tid ≡ given ps xs y.tid) xs (λ y k. rw (ne_eqb x.tid y.tid (λ q. omega (arith, k, q))) refl) l

same_numbers : (f g : ℕ → ℕ) (xs : List Act) → AllByRecursion (λ x. f x.tid ≡ g x.tid) xs → map (rows.renumbered f) xs ≡ map (rows.renumbered g) xs
same_numbers f g [] h = refl
same_numbers f g (x ∷ xs) h = rw (h.0, same_numbers f g xs h.1) refl

risen_are : (ps : List Pair) (low high : ℕ) (xs : List Act) → Ascend low high (map (λ x. x.tid) xs) → rows.risen ps xs ≡ map (rows.renumbered (given ps xs)) xs
unfolding Ascend
risen_are ps low high [] a = refl
risen_are ps low high (x ∷ xs) a =
    let later = above (x.tid + 1) high xs a.1 in
    ap (λ n. record x { m = n } ∷ rows.risen ps xs) (sym (own ps x xs))
    ∙ ap (λ zs. rows.renumbered (given ps (x ∷ xs)) x ∷ zs) (risen_are ps (x.tid + 1) high xs a.1 ∙ sym (same_numbers (given ps (x ∷ xs)) (given ps xs) xs (past ps x xs later)))

-- ---- they are carried through all pairs

at_most : (ps : List Pair) (x : Act) (g : ℕ → ℕ) (us : List Act) → AllByRecursion (λ u. rows.carries ps x u ≡ true → g u.tid ≤ greatest (map (λ u. u.m) (filter (rows.carries ps x) (map (rows.renumbered g) us)))) us
at_most ps x g [] = tt
at_most ps x g (u ∷ us) = by (rows.carries ps x u) refl (at_most ps x g us)
  where
    rest : ℕ
    rest = greatest (map (λ u. u.m) (filter (rows.carries ps x) (map (rows.renumbered g) us)))

    by : (b : Bool) → rows.carries ps x u ≡ b → AllByRecursion (λ u. rows.carries ps x u ≡ true → g u.tid ≤ rest) us
        → (rows.carries ps x u ≡ true → g u.tid ≤ greatest (map (λ u. u.m) (if b then rows.renumbered g u ∷ filter (rows.carries ps x) (map (rows.renumbered g) us) else filter (rows.carries ps x) (map (rows.renumbered g) us))))
        × AllByRecursion (λ v. rows.carries ps x v ≡ true → g v.tid ≤ greatest (map (λ u. u.m) (if b then rows.renumbered g u ∷ filter (rows.carries ps x) (map (rows.renumbered g) us) else filter (rows.carries ps x) (map (rows.renumbered g) us)))) us
    by true e h = ((λ c. omega arith), weaker (λ v. rows.carries ps x v ≡ true → g v.tid ≤ rest) (λ v. rows.carries ps x v ≡ true → g v.tid ≤ max (g u.tid) rest) us (λ v k c. omega (arith, k c)) h)
    by false e h = ((λ c. absurd (true≢false (sym c ∙ e))), h)

within : (ps : List Pair) (x : Act) (g : ℕ → ℕ) (n : ℕ) (us : List Act) → AllByRecursion (λ u. rows.carries ps x u ≡ true → g u.tid ≤ n) us → greatest (map (λ u. u.m) (filter (rows.carries ps x) (map (rows.renumbered g) us))) ≤ n
within ps x g n [] h = omega arith
within ps x g n (u ∷ us) h = by (rows.carries ps x u) refl (within ps x g n us h.1)
  where
    by : (b : Bool) → rows.carries ps x u ≡ b → greatest (map (λ u. u.m) (filter (rows.carries ps x) (map (rows.renumbered g) us))) ≤ n → greatest (map (λ u. u.m) (if b then rows.renumbered g u ∷ filter (rows.carries ps x) (map (rows.renumbered g) us) else filter (rows.carries ps x) (map (rows.renumbered g) us))) ≤ n
    by true e r = omega (arith, r, h.0 e)
    by false e r = r

older_of : (ps : List Pair) (t u : ℕ) → AllByRecursion IsOlder ps → stands_behind ps t u ≡ true → t < u
older_of [] t u o h = absurd (true≢false (sym h))
older_of (p ∷ ps) t u o h = elim (or_cases ((p.behind == t) && (p.ahead == u)) (stands_behind ps t u) h) [
  | inl e ↦ let v = and_parts (p.behind == t) (p.ahead == u) e in omega (arith, eqb-true p.behind t v.0, eqb-true p.ahead u v.1, o.0)
  | inr e ↦ older_of ps t u o.1 e
]

-- nobody carries its number to one that is not older
carries_older : (ps : List Pair) (x u : Act) → AllByRecursion IsOlder ps → rows.carries ps x u ≡ true → x.tid < u.tid
carries_older ps x u o c = older_of ps x.tid u.tid o (and_parts (not (is_doomed u.status)) (stands_behind ps x.tid u.tid) c).1

reaches : (ps : List Pair) (low high : ℕ) (xs : List Act) → Ascend low high (map (λ x. x.tid) xs) → AllByRecursion (λ x. x.m ≤ given ps xs x.tid) xs
unfolding Ascend
reaches ps low high [] a = tt
reaches ps low high (x ∷ xs) a = (omega (arith, own ps x xs), both_all (λ y. given ps (x ∷ xs) y.tid ≡ given ps xs y.tid) (λ y. y.m ≤ given ps xs y.tid) (λ y. y.m ≤ given ps (x ∷ xs) y.tid) xs (λ y e l. omega (arith, e, l)) (past ps x xs (above (x.tid + 1) high xs a.1)) (reaches ps (x.tid + 1) high xs a.1))

closed : (ps : List Pair) (low high : ℕ) (xs : List Act) → Ascend low high (map (λ x. x.tid) xs) → AllByRecursion IsOlder ps → AllByRecursion (λ x. AllByRecursion (λ u. rows.carries ps x u ≡ true → given ps xs u.tid ≤ given ps xs x.tid) xs) xs
unfolding Ascend
closed ps low high [] a o = tt
closed ps low high (x ∷ xs) a o = (head, both_all (λ y. (x.tid + 1 ≤ y.tid) × (given ps (x ∷ xs) y.tid ≡ given ps xs y.tid)) (λ y. AllByRecursion (λ u. rows.carries ps y u ≡ true → given ps xs u.tid ≤ given ps xs y.tid) xs) _ xs row (both_all (λ y. x.tid + 1 ≤ y.tid) (λ y. given ps (x ∷ xs) y.tid ≡ given ps xs y.tid) _ xs (λ y l e. (l, e)) later same) (closed ps (x.tid + 1) high xs a.1 o))
  where
    later : AllByRecursion (λ y. x.tid + 1 ≤ y.tid) xs
    later = above (x.tid + 1) high xs a.1

    same : AllByRecursion (λ y. given ps (x ∷ xs) y.tid ≡ given ps xs y.tid) xs
    same = past ps x xs later

    carried : AllByRecursion (λ u. rows.carries ps x u ≡ true → given ps xs u.tid ≤ greatest (map (λ u. u.m) (filter (rows.carries ps x) (rows.risen ps xs)))) xs
    carried = subst (λ zs. AllByRecursion (λ u. rows.carries ps x u ≡ true → given ps xs u.tid ≤ greatest (map (λ u. u.m) (filter (rows.carries ps x) zs))) xs) (sym (risen_are ps (x.tid + 1) high xs a.1)) (at_most ps x (given ps xs) xs)

    head : AllByRecursion (λ u. rows.carries ps x u ≡ true → given ps (x ∷ xs) u.tid ≤ given ps (x ∷ xs) x.tid) (x ∷ xs)
    head = ((λ c. omega arith), both_all (λ u. given ps (x ∷ xs) u.tid ≡ given ps xs u.tid) (λ u. rows.carries ps x u ≡ true → given ps xs u.tid ≤ greatest (map (λ u. u.m) (filter (rows.carries ps x) (rows.risen ps xs)))) _ xs (λ u e k c. omega (arith, e, k c, own ps x xs)) same carried)

    row : (y : Act) → (x.tid + 1 ≤ y.tid) × (given ps (x ∷ xs) y.tid ≡ given ps xs y.tid) → AllByRecursion (λ u. rows.carries ps y u ≡ true → given ps xs u.tid ≤ given ps xs y.tid) xs → AllByRecursion (λ u. rows.carries ps y u ≡ true → given ps (x ∷ xs) u.tid ≤ given ps (x ∷ xs) y.tid) (x ∷ xs)
    row y q h = ((λ c. absurd (omega (arith, q.0, carries_older ps y x o c))), both_all (λ u. given ps (x ∷ xs) u.tid ≡ given ps xs u.tid) (λ u. rows.carries ps y u ≡ true → given ps xs u.tid ≤ given ps xs y.tid) _ xs (λ u e k c. omega (arith, e, q.1, k c)) same h)

-- ---- and no further

least : (ps : List Pair) (low high : ℕ) (xs : List Act) (f : ℕ → ℕ) → Ascend low high (map (λ x. x.tid) xs) → AllByRecursion (λ x. x.m ≤ f x.tid) xs → AllByRecursion (λ x. AllByRecursion (λ u. rows.carries ps x u ≡ true → f u.tid ≤ f x.tid) xs) xs → AllByRecursion (λ x. given ps xs x.tid ≤ f x.tid) xs
unfolding Ascend
least ps low high [] f a r c = tt
least ps low high (x ∷ xs) f a r c =
    let rest = least ps (x.tid + 1) high xs f a.1 r.1 (weaker (λ y. AllByRecursion (λ u. rows.carries ps y u ≡ true → f u.tid ≤ f y.tid) (x ∷ xs)) (λ y. AllByRecursion (λ u. rows.carries ps y u ≡ true → f u.tid ≤ f y.tid) xs) xs (λ y q. q.1) c.1) in
    (omega (arith, own ps x xs, r.0, reach rest), both_all (λ y. given ps (x ∷ xs) y.tid ≡ given ps xs y.tid) (λ y. given ps xs y.tid ≤ f y.tid) _ xs (λ y e k. omega (arith, e, k)) (past ps x xs (above (x.tid + 1) high xs a.1)) rest)
  where
    reach : AllByRecursion (λ y. given ps xs y.tid ≤ f y.tid) xs → greatest (map (λ u. u.m) (filter (rows.carries ps x) (rows.risen ps xs))) ≤ f x.tid
    reach rest = subst (λ zs. greatest (map (λ u. u.m) (filter (rows.carries ps x) zs)) ≤ f x.tid) (sym (risen_are ps (x.tid + 1) high xs a.1)) (within ps x (given ps xs) (f x.tid) xs (both_all (λ u. given ps xs u.tid ≤ f u.tid) (λ u. rows.carries ps x u ≡ true → f u.tid ≤ f x.tid) _ xs (λ u k h e. omega (arith, k, h e)) rest c.0.1))

-- ---- so they are the numbers that are carried

given_is_carried : (ps : List Pair) (low high : ℕ) (xs : List Act) → Ascend low high (map (λ x. x.tid) xs) → AllByRecursion IsOlder ps → IsCarried ps xs (given ps xs)
given_is_carried ps low high xs a o = record {
  on = record { reaches = reaches ps low high xs a; closed = closed ps low high xs a o };
  least = λ f c. least ps low high xs f a c.reaches c.closed;
}

-- two that are carried are the same
one_carried : (ps : List Pair) (xs : List Act) (f g : ℕ → ℕ) → IsCarried ps xs f → IsCarried ps xs g → AllByRecursion (λ x. f x.tid ≡ g x.tid) xs
one_carried ps xs f g i j = both_all (λ x. f x.tid ≤ g x.tid) (λ x. g x.tid ≤ f x.tid) (λ x. f x.tid ≡ g x.tid) xs (λ x a b. omega (arith, a, b)) (i.least g j.on) (j.least f i.on)

pass_carries : (ps : List Pair) (low high : ℕ) (xs ys : List Act) → Ascend low high (map (λ x. x.tid) xs) → AllByRecursion IsOlder ps → AreCarried ps xs ys ↔ (ys ≡ rows.risen ps xs)
pass_carries ps low high xs ys a o =
    let i = given_is_carried ps low high xs a o in
    let r = risen_are ps low high xs a in (
      (λ k. k.are ∙ (same_numbers k.number (given ps xs) xs (one_carried ps xs k.number (given ps xs) k.is_carried i) ∙ sym r)),
      (λ e. record { number = given ps xs; is_carried = i; are = e ∙ r }),
    )

-- ---- over every run

rises_at : {C : Type 0} (w : Fixed C) (Of : Tx → C → Type 0) (finish : C → List State → Alone) (s : Machine C) (h : History) → Given w Of finish → AllGood w Of finish s h → RowsStand w s h → RisesAgree w finish s h
unfolding after TidsAscend
rises_at w Of finish s h v g i t a ok e =
    let m = max (cell_at s a).last (floor_at t s.book.acts (cell_at s a)) in
    let ps = s.book.pairs ++ book.new_pairs t a (book.met (lock_of t s.book.acts) (cell_at s a).entries) s.book.acts in
    let xs = book.changed_act t (book.joins a m) s.book.acts in
    let high = higher.kept w Of finish (Ask t a) s h v ok g i.before.high in
    let o : AllByRecursion IsOlder ps = subst (λ z. AllByRecursion IsOlder (book.asked_pairs z (book.met (lock_of t s.book.acts) (cell_at s a).entries) t a s.book)) e (found.stand w (after w (Ask t a) s) high.tids high.pairs_stand).older in
    let asc : Ascend 0 s.ring.next_tid (map (λ x. x.tid) xs) = subst (Ascend 0 s.ring.next_tid) (sym (joined_tids t a m s.book.acts)) g.ascend in
    λ ys. subst (λ z. AreCarried ps xs ys ↔ (ys ≡ z)) (sym (rise_at w Of finish t a m s h v ok g i)) (pass_carries ps 0 s.ring.next_tid xs ys asc o)

pub rises_agree : {C : Type 0} (w : Fixed C) (Of : Tx → C → Type 0) (finish : C → List State → Alone) (es : List Event) → Given w Of finish → IsRun w es → RisesAgree w finish (reached w es) (history w es)
rises_agree w Of finish es v run = rises_at w Of finish (reached w es) (history w es) v (all.all_good w Of finish es v run) (rows_stand w Of finish es v run)
