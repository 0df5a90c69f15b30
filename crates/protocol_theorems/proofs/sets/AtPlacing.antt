-- Where a batch or an ACT is placed on an actor, the numbers of who was live are the ends of its sets behind that event,
-- also where it is given up there.
use Rattle.std.specs.Prelude.{◌≡◌, refl, ℕ, ◌==◌, max, Bool, true, false, if◌then◌else◌, Option, Some, None, List, [], ◌∷◌, ◌++◌, map}
use Rattle.std.specs.List.{AllByRecursion}
use Rattle.std.proofs.Common.{sym, ap, subst, ◌∙◌}
use Rattle.snap_base.specs.declared.transactions.State.{State}
use Rattle.snap_base.specs.declared.transactions.Tx.{Tx}
use Rattle.protocol.specs.Fixed.{Fixed}
use Rattle.protocol.specs.Facts.{Alone}
use Rattle.protocol.specs.Parts.{Act, Pair, Cascade, Machine}
use Rattle.protocol.specs.Events.{Arrive, Ask}
use Rattle.protocol.specs.Words.{greatest, is_live_status, act_of, lock_of, floor_at}
use Rattle.protocol.specs.Spread.{raised, carried, crossed_out}
use Rattle.protocol.specs.Conditions.{IsAllowed}
use Rattle.protocol.specs.Effects.{after, cell_at}
use Rattle.protocol.specs.OnBook as book
use Rattle.protocol.specs.History.{History, Ran, grown, is_none, asked_before}
use Rattle.protocol_theorems.specs.Sets.{least_in, StandsBehind, AfterIsLeast, IsGreatest}
use Rattle.protocol_theorems.proofs.sets.BeforeSets as befores
use Rattle.protocol_theorems.proofs.sets.AfterSets as afters
use Rattle.protocol_theorems.proofs.sets.BeforeStand as before_stand
use Rattle.protocol_theorems.proofs.sets.BeforeStand.{BeforeStand}
use Rattle.protocol_theorems.proofs.sets.AfterStand.{AfterStand}
use Rattle.protocol_laws.proofs.machine.Good.{Given}
use Rattle.protocol_laws.proofs.machine.AllGood.{AllGood}
use Rattle.protocol_laws.proofs.machine.Higher as higher
use Rattle.protocol_laws.proofs.machine.ShowsKept as shows
use Rattle.protocol_laws.proofs.first.Statuses.{live_not_doomed}
use Rattle.protocol_laws.proofs.first.Lists.{all_found}

-- ---- an ACT and its sets

pub record AtEnds {C : Type 0} (s : Machine C) (h : History) (x : Act) : Type 0 where
  pub m : x.m ≡ greatest (h.before x.tid)
  pub n : x.n ≡ least_in (h.behind x.tid)
  pub there : AllByRecursion (StandsBehind s.book.cascades h.long x.tid) (h.behind x.tid)

-- ---- found behind a change

found_back : (f : Act → Act) (t : ℕ) (xs : List Act) (y : Act) → ((x : Act) → (f x).tid ≡ x.tid) → act_of t (map f xs) ≡ Some y → (z : Act) × ((act_of t xs ≡ Some z) × (f z ≡ y))
found_back f t [] y k e = absurd (cc e)
found_back f t (x ∷ xs) y k e = by (x.tid == t) refl (subst (λ z. (if z == t then Some (f x) else act_of t (map f xs)) ≡ Some y) (k x) e) (found_back f t xs y k)
  where
    by : (b : Bool) → (x.tid == t) ≡ b → (if b then Some (f x) else act_of t (map f xs)) ≡ Some y → (act_of t (map f xs) ≡ Some y → (z : Act) × ((act_of t xs ≡ Some z) × (f z ≡ y)))
        → (z : Act) × (((if b then Some x else act_of t xs) ≡ Some z) × (f z ≡ y))
    by true q e r = (x, (refl, cc e))
    by false q e r = r e

raised_back : (ps : List Pair) (t : ℕ) (xs : List Act) (y : Act) → act_of t (raised ps xs) ≡ Some y → (z : Act) × ((act_of t xs ≡ Some z) × (y.status ≡ z.status))
raised_back ps t [] y e = absurd (cc e)
raised_back ps t (x ∷ xs) y e = by (x.tid == t) e (raised_back ps t xs y)
  where
    one : (y z : Act) → Some y ≡ Some z → y ≡ z
    one y z e = cc e

    by : (b : Bool) → (if b then Some (record x { m = max x.m (carried ps x (raised ps xs)) }) else act_of t (raised ps xs)) ≡ Some y → (act_of t (raised ps xs) ≡ Some y → (z : Act) × ((act_of t xs ≡ Some z) × (y.status ≡ z.status)))
        → (z : Act) × (((if b then Some x else act_of t xs) ≡ Some z) × (y.status ≡ z.status))
    by true e r = (x, (refl, ap (λ (o : Act). o.status) (sym (one (record x { m = max x.m (carried ps x (raised ps xs)) }) y e))))
    by false e r = r e

-- ---- before who stands between batches is given up

-- of those that are live the numbers are the ends
abbrev Ends : List Cascade → (ℕ → List Ran) → (ℕ → List ℕ) → (ℕ → List ℕ) → Act → Type 0
Ends cs long before behind x = (x.m ≡ greatest (before x.tid)) × ((x.n ≡ least_in (behind x.tid)) × AllByRecursion (StandsBehind cs long x.tid) (behind x.tid))

both_ends : (cs : List Cascade) (long : ℕ → List Ran) (before behind : ℕ → List ℕ) (t : ℕ) (xs : List Act) (z : Act) → AllByRecursion (IsGreatest before) xs → AllByRecursion (AfterIsLeast cs long behind) xs → act_of t xs ≡ Some z → is_live_status z.status ≡ true → Ends cs long before behind z
both_ends cs long before behind t xs z g l e live =
    ((all_found (IsGreatest before) (λ x. x.tid == t) xs z g e).0 (live_not_doomed z.status live), (all_found (AfterIsLeast cs long behind) (λ x. x.tid == t) xs z l e).0 live)

-- and stay so behind it
crossed_ends : (cs : List Cascade) (long : ℕ → List Ran) (before behind : ℕ → List ℕ) (a t : ℕ) (xs : List Act) (y : Act) → AllByRecursion (IsGreatest before) xs → AllByRecursion (AfterIsLeast cs long behind) xs → act_of t (map (crossed_out a) xs) ≡ Some y
    → ((z : Act) → act_of t xs ≡ Some z → is_live_status z.status ≡ true) → Ends cs long before behind y
crossed_ends cs long before behind a t xs y g l e live =
    let z = found_back (crossed_out a) t xs y (λ x. refl) e in
    let k = both_ends cs long before behind t xs z.0 g l z.1.0 (live z.0 z.1.0) in
    subst (Ends cs long before behind) z.1.1 k

same_live : (x y : Act) (o : Option Act) → o ≡ Some x → is_live_status x.status ≡ true → o ≡ Some y → is_live_status y.status ≡ true
same_live x y o e l f = subst (λ (z : Act). is_live_status z.status ≡ true) (one x y (sym e ∙ f)) l
  where
    one : (x y : Act) → Some x ≡ Some y → x ≡ y
    one x y e = cc e

-- ---- a batch arrives

pub arrive_ends : {C : Type 0} (w : Fixed C) (Of : Tx → C → Type 0) (finish : C → List State → Alone) (k a t : ℕ) (s : Machine C) (h : History) (x y : Act) → IsAllowed w (Arrive k a) s → AllGood w Of finish s h → BeforeStand w s h → AfterStand w s h
    → act_of t s.book.acts ≡ Some x → is_live_status x.status ≡ true → act_of t (after w (Arrive k a) s).book.acts ≡ Some y → AtEnds (after w (Arrive k a) s) (grown w (Arrive k a) s h) y
unfolding befores.Sets after grown
arrive_ends w Of finish k a t s h x y ok g b f e live there =
    let tids = book.tids_on (cell_at s a).entries in
    let xs = map (book.lowered k tids) s.book.acts in
    let q = crossed_ends s.book.cascades (grown w (Arrive k a) s h).long (grown w (Arrive k a) s h).before (grown w (Arrive k a) s h).behind a t xs y
    (befores.mapped h.before (book.lowered k tids) s.book.acts (λ x. record { tid = refl; m = refl; doomed = λ d. d }) b.sets)
    (afters.arrived_least w k a s h ok (record { beside = higher.beside w Of finish s h g; placed = g.good.placed; tids = f.high.tids; none_live = f.high.none_live }) f.after_sets)
    there
    (λ z i. let v = found_back (book.lowered k tids) t s.book.acts z (λ x. refl) i in subst (λ (z : Act). is_live_status z.status ≡ true) v.1.1 (same_live x v.0 (act_of t s.book.acts) e live v.1.0)) in
    record { m = q.0; n = q.1.0; there = q.1.1 }

-- ---- an ACT asks, and nobody is in its way

pub status_joined : (c : Bool) (a m : ℕ) (x : Act) → (book.change_if c (book.joins a m) x).status ≡ x.status
status_joined true a m x = refl
status_joined false a m x = refl

tid_joined : (c : Bool) (a m : ℕ) (x : Act) → (book.change_if c (book.joins a m) x).tid ≡ x.tid
tid_joined true a m x = refl
tid_joined false a m x = refl

pub ask_ends : {C : Type 0} (w : Fixed C) (Of : Tx → C → Type 0) (finish : C → List State → Alone) (u a t : ℕ) (s : Machine C) (h : History) (x y : Act) → Given w Of finish → IsAllowed w (Ask u a) s → AllGood w Of finish s h → BeforeStand w s h → AfterStand w s h → book.in_the_way (lock_of u s.book.acts) (cell_at s a).entries ≡ None
    → act_of t s.book.acts ≡ Some x → is_live_status x.status ≡ true → act_of t (after w (Ask u a) s).book.acts ≡ Some y → AtEnds (after w (Ask u a) s) (grown w (Ask u a) s h) y
unfolding befores.Sets shows.Owed after grown
ask_ends w Of finish u a t s h x y v ok g b f none e live there =
    let m = max (cell_at s a).last (floor_at u s.book.acts (cell_at s a)) in
    let group = book.met (lock_of u s.book.acts) (cell_at s a).entries in
    let joined = book.changed_act u (book.joins a m) s.book.acts in
    let xs = raised (s.book.pairs ++ book.new_pairs u a group s.book.acts) joined in
    let high' = higher.kept w Of finish (Ask u a) s h v ok g b.high in
    let q = crossed_ends s.book.cascades (grown w (Ask u a) s h).long (asked_before true u a s h) h.behind a t xs y
    (befores.asks_raised w u a s h (higher.owed w Of finish (Ask u a) s h v ok g) (before_stand.sets_with w Of finish (Ask u a) s h ok g b high') b.sets none)
    (afters.asked_least w u a s h (record { beside = higher.beside w Of finish s h g; placed = g.good.placed; tids = f.high.tids; none_live = f.high.none_live }) f.after_sets)
    (subst (λ o. act_of t (book.asked_acts o group u a m s.book) ≡ Some y) none there)
    (λ z i.
    let q = raised_back (s.book.pairs ++ book.new_pairs u a group s.book.acts) t joined z i in
    let r = found_back (λ x. book.change_if (x.tid == u) (book.joins a m) x) t s.book.acts q.0 (λ x. tid_joined (x.tid == u) a m x) q.1.0 in
    let l = same_live x r.0 (act_of t s.book.acts) e live r.1.0 in
    subst (λ st. is_live_status st ≡ true) (sym q.1.1) (subst (λ (z : Act). is_live_status z.status ≡ true) r.1.1 (subst (λ st. is_live_status st ≡ true) (sym (status_joined (r.0.tid == u) a m r.0)) l))) in
    let same : (grown w (Ask u a) s h).before ≡ asked_before true u a s h = ap (λ o. asked_before (is_none o) u a s h) none in
    record { m = q.0 ∙ ap (λ (f : ℕ → List ℕ). greatest (f y.tid)) (sym same); n = q.1.0; there = q.1.1 }
