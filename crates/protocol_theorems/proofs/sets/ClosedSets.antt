-- What stands before an ACT stands before each that stands behind it, event by event: the sets are closed along the pairs
-- whose ACT ahead is not doomed.
use Rattle.std.specs.Prelude.{◌≡◌, refl, ◌≢◌, ℕ, ◌+◌, ◌<◌, ◌≤◌, ◌==◌, not, Bool, true, false, ◌&&◌, if◌then◌else◌, Option, Some, None, is_some, List, [], ◌∷◌, ◌++◌, map, filter}
use Rattle.std.specs.List.{AllByRecursion, flat_map}
use Rattle.std.proofs.Common.{arith, sym, ap, subst, inl, inr, ◌∙◌}
use Rattle.std.proofs.lemmas.Bool.{eqb-true, eq-eqb, and_parts, or_cases, or_left, or_right, true≢false}
use Rattle.protocol.specs.Fixed.{Fixed, base}
use Rattle.protocol.specs.Rivals.{Lock}
use Rattle.protocol.specs.Parts.{Act, Pair, Machine}
use Rattle.protocol.specs.Events.{Event, Admit, Arrive, Ask, Abort, Finish}
use Rattle.protocol.specs.Words.{holds, is_among, is_doomed, act_of, lock_of}
use Rattle.protocol.specs.Spread.{stands_behind}
use Rattle.protocol.specs.Conditions.{IsAllowed, conditions}
use Rattle.protocol.specs.Effects.{after, cell_at}
use Rattle.protocol.specs.OnBook as book
use Rattle.protocol.specs.Standing.{IsOlder}
use Rattle.protocol.specs.History.{History, grown, with_at, is_none, carrying, gained, spread_sets, asked_set, asked_gains, asked_before, gains_after_ask}
use Rattle.protocol_theorems.specs.Sets.{HoldsAll}
use Rattle.protocol_laws.specs.Highs.{doomed_at}
use Rattle.protocol_laws.proofs.machine.ActsGrow.{acts_grow}
use Rattle.protocol_laws.proofs.machine.TurnsKept.{one_is}
use Rattle.protocol_laws.proofs.first.PairsFound as found
use Rattle.protocol_laws.proofs.first.PairsFound.{Ascend, TidsAscend}
use Rattle.protocol_laws.proofs.first.Lists.{all_join, all_filter, weaker, both_all}
use Rattle.protocol_theorems.proofs.sets.SpreadSets.{at_it, at_other}
use Rattle.protocol_theorems.proofs.sets.GainsKept.{IsIn, GainsAre, PairsIn, in_grows, out}
use Rattle.protocol_theorems.proofs.sets.BeforeSets.{SetsWith, self_pairs}
use Rattle.protocol_theorems.proofs.quiet.InLine.{among_front}

-- ---- the spread closes

among_join : (k : ℕ) (xs ys : List ℕ) → is_among k ys ≡ true → is_among k (xs ++ ys) ≡ true
among_join k [] ys h = h
among_join k (x ∷ xs) ys h = or_right (x == k) _ (among_join k xs ys h)

-- what one ahead has is gained
gained_among : (gs : List Pair) (t u k : ℕ) (f : ℕ → List ℕ) → stands_behind gs t u ≡ true → is_among k (f u) ≡ true → is_among k (gained gs t f) ≡ true
gained_among [] t u k f h i = absurd (true≢false (sym h))
gained_among (p ∷ ps) t u k f h i = by (p.behind == t) refl (or_cases ((p.behind == t) && (p.ahead == u)) (stands_behind ps t u) h) (gained_among ps t u k f)
  where
    by : (b : Bool) → (p.behind == t) ≡ b → Rattle.std.specs.Prelude.◌⊎◌ (((p.behind == t) && (p.ahead == u)) ≡ true) (stands_behind ps t u ≡ true) → (stands_behind ps t u ≡ true → is_among k (f u) ≡ true → is_among k (gained ps t f) ≡ true)
        → is_among k (flat_map (λ p. f p.ahead) (if b then p ∷ filter (λ p. p.behind == t) ps else filter (λ p. p.behind == t) ps)) ≡ true
    by true e (inl q) r = among_front k (f p.ahead) (gained ps t f) (subst (λ z. is_among k (f z) ≡ true) (sym (eqb-true p.ahead u (and_parts (p.behind == t) (p.ahead == u) q).1)) i)
    by true e (inr q) r = among_join k (f p.ahead) (gained ps t f) (r q i)
    by false e (inl q) r = absurd (true≢false (sym (and_parts (p.behind == t) (p.ahead == u) q).0 ∙ e))
    by false e (inr q) r = r q i

in_above : (low high t : ℕ) (xs : List Act) → Ascend low high (map (λ x. x.tid) xs) → IsIn xs t → low ≤ t
in_above low high t xs a h = by (act_of t xs) refl h
  where
    by : (o : Option Act) → act_of t xs ≡ o → is_some o ≡ true → low ≤ t
    by None e q = absurd (true≢false (sym q))
    by (Some x) e q = found.further low high t xs x a e

in_below : (low high t : ℕ) (xs : List Act) → Ascend low high (map (λ x. x.tid) xs) → IsIn xs t → t < high
unfolding Ascend
in_below low high t [] a h = absurd (true≢false (sym h))
in_below low high t (x ∷ xs) a h = by (x.tid == t) refl h (in_below (x.tid + 1) high t xs a.1)
  where
    reach : (low high : ℕ) (xs : List Act) → Ascend low high (map (λ x. x.tid) xs) → low ≤ high
    reach low high [] a = a
    reach low high (x ∷ xs) a = omega (arith, a.0, reach (x.tid + 1) high xs a.1)

    by : (b : Bool) → (x.tid == t) ≡ b → is_some (if b then Some x else act_of t xs) ≡ true → (IsIn xs t → t < high) → t < high
    by true e q r = omega (arith, eqb-true x.tid t e, reach (x.tid + 1) high xs a.1)
    by false e q r = r q

-- One pass is enough, the youngest first: who stands behind is older, and has its turn when the set ahead is whole.
pub spread_closes : (gs : List Pair) (low high : ℕ) (xs : List Act) (b : ℕ → List ℕ) (t u k : ℕ) → Ascend low high (map (λ x. x.tid) xs) → stands_behind gs t u ≡ true → t < u → IsIn xs t → is_among k (spread_sets gs xs b u) ≡ true → is_among k (spread_sets gs xs b t) ≡ true
unfolding Ascend
spread_closes gs low high [] b t u k a s l i h = absurd (true≢false (sym i))
spread_closes gs low high (x ∷ xs) b t u k a s l i h = by (x.tid == t) refl i (spread_closes gs (x.tid + 1) high xs b t u k a.1 s l)
  where
    f : ℕ → List ℕ
    f = spread_sets gs xs b

    new : List ℕ
    new = spread_sets gs xs b x.tid ++ gained gs x.tid (spread_sets gs xs b)

    by : (c : Bool) → (x.tid == t) ≡ c → is_some (if c then Some x else act_of t xs) ≡ true → (IsIn xs t → is_among k (f u) ≡ true → is_among k (f t) ≡ true) → is_among k (with_at x.tid new f t) ≡ true
    by true e q r =
        let same : x.tid ≡ t = eqb-true x.tid t e in
        let ahead : is_among k (f u) ≡ true = subst (λ z. is_among k z ≡ true) (at_other x.tid u new f (λ v. omega (arith, v, same, l))) h in
        subst (λ z. is_among k z ≡ true) (sym (ap (with_at x.tid new f) (sym same) ∙ at_it x.tid new f)) (among_join k (f x.tid) (gained gs x.tid f) (subst (λ z. is_among k (gained gs z f) ≡ true) (sym same) (gained_among gs t u k f s ahead)))
    by false e q r =
        let up = in_above (x.tid + 1) high t xs a.1 q in
        let ahead : is_among k (f u) ≡ true = subst (λ z. is_among k z ≡ true) (at_other x.tid u new f (λ v. omega (arith, v, up, l))) h in
        subst (λ z. is_among k z ≡ true) (sym (at_other x.tid t new f (λ v. omega (arith, v, up)))) (r q ahead)

-- ---- sets

all_among : (ks : List ℕ) (js : List ℕ) → ((k : ℕ) → is_among k js ≡ true → is_among k ks ≡ true) → HoldsAll ks js
all_among ks [] h = tt
all_among ks (j ∷ js) h = (h j (or_left (j == j) _ (eq-eqb j j refl)), all_among ks js (λ k q. h k (or_right (j == k) _ q)))

-- along these pairs
abbrev pub ClosedOver : (ℕ → List ℕ) → List Pair → Type 0
ClosedOver before ps = AllByRecursion (λ p. HoldsAll (before p.behind) (before p.ahead)) ps

pub record Closed {C : Type 0} (s : Machine C) (h : History) : Type 0 where
  pub behind_in : AllByRecursion (λ p. IsIn s.book.acts p.behind) h.gains
  pub closed : ClosedOver h.before h.gains

-- what is behind is in the book
asked_behind : {C : Type 0} (t a : ℕ) (s : Machine C) (h : History) → IsIn s.book.acts t → AllByRecursion (λ p. IsIn s.book.acts p.behind) h.gains → AllByRecursion (λ p. IsIn s.book.acts p.behind) (asked_gains t a s h)
asked_behind t a s h i g = all_join (λ (p : Pair). IsIn s.book.acts p.behind) h.gains _ g (each (filter (λ x. not (book.is_doomed_act s.book.acts x)) (book.met (lock_of t s.book.acts) (cell_at s a).entries)))
  where
    each : (xs : List Lock) → AllByRecursion (λ (p : Pair). IsIn s.book.acts p.behind) (map (λ (x : Lock). record { behind = t; ahead = x.tid; actor = a }) xs)
    each [] = tt
    each (x ∷ xs) = (i, each xs)

still_in : {C : Type 0} (w : Fixed C) (e : Event) (s : Machine C) (ps : List Pair) → AllByRecursion (λ p. IsIn s.book.acts p.behind) ps → AllByRecursion (λ p. IsIn (after w e s).book.acts p.behind) ps
still_in w e s ps h = weaker (λ p. IsIn s.book.acts p.behind) (λ p. IsIn (after w e s).book.acts p.behind) ps (λ p q. in_grows s.book.acts (after w e s).book.acts p.behind (acts_grow w e s) q) h

live_in : (t : ℕ) (xs : List Act) → holds (λ x. not (is_doomed x.status)) (act_of t xs) ≡ true → IsIn xs t
live_in t xs h = let x = one_is (λ x. not (is_doomed x.status)) (act_of t xs) h in ap is_some x.1

asked_in_book : {C : Type 0} (t a : ℕ) (o : Option ℕ) (s : Machine C) (h : History) → IsIn s.book.acts t → AllByRecursion (λ p. IsIn s.book.acts p.behind) h.gains → AllByRecursion (λ p. IsIn s.book.acts p.behind) (gains_after_ask (is_none o) t a s h)
asked_in_book t a None s h i g = asked_behind t a s h i g
asked_in_book t a (Some x) s h i g = g

behind_kept : {C : Type 0} (w : Fixed C) (e : Event) (s : Machine C) (h : History) → IsAllowed w e s → AllByRecursion (λ p. IsIn s.book.acts p.behind) h.gains → AllByRecursion (λ p. IsIn (after w e s).book.acts p.behind) (grown w e s h).gains
unfolding conditions grown
behind_kept w (Arrive k a) s h ok g = still_in w (Arrive k a) s _ (all_filter (λ p. IsIn s.book.acts p.behind) _ h.gains g)
behind_kept w (Ask t a) s h ok g = still_in w (Ask t a) s _ (all_filter (λ p. IsIn s.book.acts p.behind) _ (gains_after_ask (is_none (book.in_the_way (lock_of t s.book.acts) (cell_at s a).entries)) t a s h) (asked_in_book t a (book.in_the_way (lock_of t s.book.acts) (cell_at s a).entries) s h (live_in t s.book.acts ok.1.0) g))
behind_kept w (Abort k) s h ok g = still_in w (Abort k) s _ (all_filter (λ p. IsIn s.book.acts p.behind) _ h.gains g)
behind_kept w (Finish t a) s h ok g = still_in w (Finish t a) s _ (all_filter (λ p. IsIn s.book.acts p.behind) _ h.gains g)
behind_kept w e s h ok g = still_in w e s h.gains g

-- ---- an admission

-- a new set is that of nobody in a pair
admits : {C : Type 0} (w : Fixed C) (t : ℕ) (v : List ℕ) (s : Machine C) (h : History) (ps : List Pair) → t ≡ s.ring.next_tid → TidsAscend s → AllByRecursion (λ p. IsIn s.book.acts p.behind) ps → AllByRecursion (λ p. IsIn s.book.acts p.ahead) ps → ClosedOver h.before ps → ClosedOver (with_at t v h.before) ps
unfolding TidsAscend
admits w t v s h ps e asc b a c = both_all (λ p. HoldsAll (h.before p.behind) (h.before p.ahead)) (λ p. IsIn s.book.acts p.behind × IsIn s.book.acts p.ahead) (λ p. HoldsAll (with_at t v h.before p.behind) (with_at t v h.before p.ahead)) ps
    (λ p q i. subst (λ z. HoldsAll z (with_at t v h.before p.ahead)) (sym (at_other t p.behind v h.before (λ n. omega (arith, n, e, in_below 0 s.ring.next_tid p.behind s.book.acts asc i.0)))) (subst (λ z. HoldsAll (h.before p.behind) z) (sym (at_other t p.ahead v h.before (λ n. omega (arith, n, e, in_below 0 s.ring.next_tid p.ahead s.book.acts asc i.1)))) q))
    c (both_all (λ p. IsIn s.book.acts p.behind) (λ p. IsIn s.book.acts p.ahead) (λ p. IsIn s.book.acts p.behind × IsIn s.book.acts p.ahead) ps (λ p x y. (x, y)) b a)

-- ---- an Ask

asked_closed : {C : Type 0} (t a : ℕ) (s : Machine C) (h : History) → TidsAscend s → IsIn s.book.acts t → AllByRecursion IsOlder (asked_gains t a s h) → AllByRecursion (λ p. IsIn s.book.acts p.behind) h.gains → ClosedOver (asked_before true t a s h) (asked_gains t a s h)
unfolding TidsAscend
asked_closed t a s h asc i older g =
    let gs = asked_gains t a s h in
    both_all (λ p. stands_behind gs p.behind p.ahead ≡ true) (λ p. IsOlder p × IsIn s.book.acts p.behind) (λ p. HoldsAll (asked_before true t a s h p.behind) (asked_before true t a s h p.ahead)) gs
    (λ p q o. all_among (asked_before true t a s h p.behind) (asked_before true t a s h p.ahead) (λ k m. spread_closes gs 0 s.ring.next_tid s.book.acts (with_at t (h.before t ++ asked_set t a s h) h.before) p.behind p.ahead k asc q o.0 o.1 m))
    (self_pairs gs gs (λ t u q. q)) (both_all IsOlder (λ p. IsIn s.book.acts p.behind) (λ p. IsOlder p × IsIn s.book.acts p.behind) gs (λ p x y. (x, y)) older (asked_behind t a s h i g))

asks_closed : {C : Type 0} (w : Fixed C) (t a : ℕ) (s : Machine C) (h : History) → IsIn s.book.acts t → SetsWith w (Ask t a) s h → Closed s h → (o : Option ℕ) → book.in_the_way (lock_of t s.book.acts) (cell_at s a).entries ≡ o → ClosedOver (asked_before (is_none o) t a s h) (gains_after_ask (is_none o) t a s h)
unfolding GainsAre after
asks_closed w t a s h i k g (Some x) e = g.closed
asks_closed w t a s h i k g None e =
    let ps = subst (λ o. AllByRecursion IsOlder (book.asked_pairs o (book.met (lock_of t s.book.acts) (cell_at s a).entries) t a s.book)) e (found.stand w (after w (Ask t a) s) k.tids_then k.pairs_then).older in
    let new = book.new_pairs t a (book.met (lock_of t s.book.acts) (cell_at s a).entries) s.book.acts in
    asked_closed t a s h k.tids i (all_join IsOlder h.gains new (subst (AllByRecursion IsOlder) (sym k.gains) (all_filter IsOlder _ s.book.pairs (first s.book.pairs new ps))) (last s.book.pairs new ps)) g.behind_in
  where
    first : (xs ys : List Pair) → AllByRecursion IsOlder (xs ++ ys) → AllByRecursion IsOlder xs
    first [] ys h = tt
    first (x ∷ xs) ys h = (h.0, first xs ys h.1)

    last : (xs ys : List Pair) → AllByRecursion IsOlder (xs ++ ys) → AllByRecursion IsOlder ys
    last [] ys h = h
    last (x ∷ xs) ys h = last xs ys h.1

-- ---- all events

over_filter : (b : ℕ → List ℕ) (test : Pair → Bool) (ps : List Pair) → ClosedOver b ps → ClosedOver b (filter test ps)
over_filter b test ps h = all_filter (λ p. HoldsAll (b p.behind) (b p.ahead)) test ps h

pub closed_kept : {C : Type 0} (w : Fixed C) (e : Event) (s : Machine C) (h : History) → IsAllowed w e s → SetsWith w e s h → Closed s h → ClosedOver (grown w e s h).before (grown w e s h).gains
unfolding GainsAre PairsIn conditions grown
closed_kept w (Admit t) s h ok k g = admits w t (base w.text ∷ []) s h h.gains (eqb-true t s.ring.next_tid ok.0) k.tids g.behind_in (subst (λ ps. AllByRecursion (λ p. IsIn s.book.acts p.ahead) ps) (sym k.gains) (all_filter (λ p. IsIn s.book.acts p.ahead) _ s.book.pairs k.pairs_in)) g.closed
closed_kept w (Arrive j a) s h ok k g = over_filter h.before _ h.gains g.closed
closed_kept w (Ask t a) s h ok k g = over_filter (asked_before (is_none (book.in_the_way (lock_of t s.book.acts) (cell_at s a).entries)) t a s h) _ (gains_after_ask (is_none (book.in_the_way (lock_of t s.book.acts) (cell_at s a).entries)) t a s h) (asks_closed w t a s h (live_in t s.book.acts ok.1.0) k g (book.in_the_way (lock_of t s.book.acts) (cell_at s a).entries) refl)
closed_kept w (Abort j) s h ok k g = over_filter h.before _ h.gains g.closed
closed_kept w (Finish t a) s h ok k g = over_filter h.before _ h.gains g.closed
closed_kept w e s h ok k g = g.closed

pub kept : {C : Type 0} (w : Fixed C) (e : Event) (s : Machine C) (h : History) → IsAllowed w e s → SetsWith w e s h → Closed s h → Closed (after w e s) (grown w e s h)
kept w e s h ok k g = record { behind_in = behind_kept w e s h ok g.behind_in; closed = closed_kept w e s h ok k g }

-- along the pairs whose ACT ahead is not doomed
pub over_pairs : (before : ℕ → List ℕ) (acts : List Act) (ps : List Pair) → ClosedOver before (carrying acts ps) → AllByRecursion (λ p. doomed_at acts p.ahead ≡ false → HoldsAll (before p.behind) (before p.ahead)) ps
over_pairs before acts [] h = tt
over_pairs before acts (p ∷ ps) h = by (out acts p) refl h (over_pairs before acts ps)
  where
    by : (b : Bool) → out acts p ≡ b → ClosedOver before (if not b then p ∷ carrying acts ps else carrying acts ps) → (ClosedOver before (carrying acts ps) → AllByRecursion (λ p. doomed_at acts p.ahead ≡ false → HoldsAll (before p.behind) (before p.ahead)) ps) → (doomed_at acts p.ahead ≡ false → HoldsAll (before p.behind) (before p.ahead)) × AllByRecursion (λ p. doomed_at acts p.ahead ≡ false → HoldsAll (before p.behind) (before p.ahead)) ps
    by true e h r = ((λ d. absurd (true≢false (sym e ∙ d))), r h)
    by false e h r = ((λ d. h.0), r h.1)
