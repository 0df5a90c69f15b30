-- The before number of an ACT that is not doomed is below its after number, over every run.
use Rattle.std.specs.Prelude.{◌≡◌, refl, ℕ, ◌<◌, ◌≤◌, ◌==◌, nat_le, min, max, not, Bool, true, false, ◌&&◌, if◌then◌else◌, Option, Some, None, is_some, List, [], ◌∷◌, ◌++◌, map}
use Rattle.std.specs.List.{AllByRecursion}
use Rattle.std.proofs.Common.{arith, sym, ap, subst, ◌∙◌}
use Rattle.std.proofs.lemmas.Bool.{eqb-true, leb-true, le-leb, and_from, not-true, true≢false, false_from_ne_true}
use Rattle.snap_base.specs.declared.transactions.State.{State}
use Rattle.snap_base.specs.declared.transactions.Tx.{Tx}
use Rattle.snap_base.specs.declared.verdicts.Verdict.{Verdict}
use Rattle.protocol.specs.Fixed.{Fixed, Next, Go, Ended}
use Rattle.protocol.specs.Facts.{Alone}
use Rattle.protocol.specs.Rivals.{Lock}
use Rattle.protocol.specs.Parts.{Act, Pair, Book, Batch, Status, Live, Doomed, Decided, Sealed, Outcome, OfBatch, Cell, Machine}
use Rattle.protocol.specs.Events.{Event, Admit, Arrive, Ask, End, Abort, Prepare, Vouch, Decide, Seal, Finish}
use Rattle.protocol.specs.Words.{holds, least_of, is_among, is_live_status, is_value, is_aborted, is_formed, is_open, act_of, batch_of, declared_of, has_act, outcome_of, is_ordered, lock_of, floor_at}
use Rattle.protocol.specs.Spread.{raised, carried, crossed_out, is_crossed, reaches}
use Rattle.protocol.specs.Conditions.{IsAllowed, conditions}
use Rattle.protocol.specs.Effects.{after, cell_at}
use Rattle.protocol.specs.Runs.{opening, IsRun, reached}
use Rattle.protocol.specs.OnBook as book
use Rattle.protocol.specs.History.{History, history, grown, no_history}
use Rattle.protocol_laws.specs.Rising.{OpenAbove}
use Rattle.protocol_laws.specs.Commits.{is_kept}
use Rattle.protocol_laws.specs.Marks.{Marked}
use Rattle.protocol_laws.proofs.first.SettlingKept as settling
use Rattle.protocol_laws.proofs.machine.TurnsKept.{one_is}
use Rattle.protocol_laws.proofs.machine.ActsKept.{Acts}
use Rattle.protocol_laws.proofs.first.PairsFound.{TidsAscend}
use Rattle.protocol_laws.proofs.machine.PlacesRise as places
use Rattle.protocol_laws.proofs.machine.ShowsKept as shows
use Rattle.protocol_theorems.proofs.sets.BeforeSets as sets
use Rattle.protocol_theorems.proofs.sets.AfterSets as afters
use Rattle.protocol_theorems.proofs.sets.AfterStand as stand
use Rattle.protocol_theorems.proofs.sets.AfterStand.{AfterStand}
use Rattle.protocol_laws.proofs.machine.Good.{Given}
use Rattle.protocol_laws.proofs.machine.AllGood as all
use Rattle.protocol_laws.proofs.machine.AllGood.{AllGood}
use Rattle.protocol_laws.proofs.machine.Higher as higher
use Rattle.protocol_laws.proofs.machine.BatchesCommit as commits
use Rattle.protocol_laws.proofs.first.Lists.{all_join, all_map, both_all, all_found}
use Rattle.protocol_laws.proofs.first.Statuses.{ordered_not_live}

-- one that has its place has a before number below its after number
abbrev pub IsBelow : Act → Type 0
IsBelow x = is_ordered x.status ≡ true → reaches x.m x.n ≡ false

same_below : (x y : Act) → y.m ≡ x.m → y.n ≡ x.n → (is_ordered y.status ≡ true → is_ordered x.status ≡ true) → IsBelow x → IsBelow y
same_below x y e f k h = λ p. rw (e, f) (h (k p))

placed_if : (c : Bool) (v : Verdict) (st : Status) → is_ordered (if c then Doomed v else st) ≡ true → is_ordered st ≡ true
placed_if true v st e = absurd (true≢false (sym e))
placed_if false v st e = e

below_if : (v : Bool) (f : Act → Act) (x : Act) → (IsBelow x → IsBelow (f x)) → IsBelow x → IsBelow (book.change_if v f x)
below_if true f x k h = k h
below_if false f x k h = h

below_changed : (t : ℕ) (f : Act → Act) (xs : List Act) → ((x : Act) → IsBelow x → IsBelow (f x)) → AllByRecursion IsBelow xs → AllByRecursion IsBelow (book.changed_act t f xs)
below_changed t f xs k h = all_map IsBelow IsBelow _ xs (λ x i. below_if (x.tid == t) f x (k x) i) h

below_crossed : (a : ℕ) (xs : List Act) → AllByRecursion IsBelow xs → AllByRecursion IsBelow (map (crossed_out a) xs)
below_crossed a xs h = all_map IsBelow IsBelow (crossed_out a) xs (λ x i. same_below x (crossed_out a x) refl refl (placed_if (is_crossed x) _ x.status) i) h

not_reached : (m k : ℕ) (n : Option ℕ) → m < k → reaches m n ≡ false → reaches m (Some (least_of k n)) ≡ false
not_reached m k None l h = false_from_ne_true (nat_le k m) (λ e. omega (arith, leb-true k m e, l))
not_reached m k (Some x) l h = false_from_ne_true (nat_le (min k x) m) (λ e. true≢false (sym (min_is k x (leb-true (min k x) m e) l) ∙ h))
  where
    min_is : (k x : ℕ) → min k x ≤ m → m < k → nat_le x m ≡ true
    min_is k x e l = le-leb x m (omega (arith, e, l))

below_lowered : (k : ℕ) (tids : List ℕ) (xs : List Act) → AllByRecursion (λ x. is_ordered x.status ≡ true → x.m < k) xs → AllByRecursion IsBelow xs → AllByRecursion IsBelow (map (book.lowered k tids) xs)
below_lowered k tids [] l h = tt
below_lowered k tids (x ∷ xs) l h = ((λ p. by (is_among x.tid tids) p), below_lowered k tids xs l.1 h.1)
  where
    by : (c : Bool) → is_ordered x.status ≡ true → reaches x.m (if c then Some (least_of k x.n) else x.n) ≡ false
    by true p = not_reached x.m k x.n (l.0 p) (h.0 p)
    by false p = h.0 p

below_raised : (ps : List Pair) (xs : List Act) → AllByRecursion IsBelow xs → AllByRecursion IsBelow (raised ps xs)
below_raised ps [] h = tt
below_raised ps (x ∷ xs) h = ((λ p. let e : max x.m (carried ps x (raised ps xs)) ≡ x.m = omega (arith, none ps (raised ps xs) p) in rw e (h.0 p)), below_raised ps xs h.1)
  where
    none : (ps : List Pair) (ys : List Act) → is_ordered x.status ≡ true → carried ps x ys ≡ 0
    none ps [] e = refl
    none ps (y ∷ ys) e = rw e (none ps ys e)

-- the one that asks is live
below_joined : (t a m : ℕ) (xs : List Act) → AllByRecursion (λ x. (x.tid == t) ≡ true → is_live_status x.status ≡ true) xs → AllByRecursion IsBelow xs → AllByRecursion IsBelow (book.changed_act t (book.joins a m) xs)
below_joined t a m [] l h = tt
below_joined t a m (x ∷ xs) l h = (by (x.tid == t) refl, below_joined t a m xs l.1 h.1)
  where
    by : (c : Bool) → (x.tid == t) ≡ c → IsBelow (book.change_if c (book.joins a m) x)
    by true e = λ p. absurd (true≢false (sym (l.0 e) ∙ ordered_not_live x.status p))
    by false e = h.0

below_asked : {C : Type 0} (t a : ℕ) (o : Option ℕ) (group : List Lock) (c : Cell C) (b : Book) → AllByRecursion (λ x. (x.tid == t) ≡ true → is_live_status x.status ≡ true) b.acts → AllByRecursion IsBelow b.acts → AllByRecursion IsBelow (book.asked_acts o group t a (max c.last (floor_at t b.acts c)) b)
below_asked t a (Some y) group c b l h = below_changed t _ b.acts (λ x i. same_below x (book.doomed_by (Rattle.protocol.specs.Verdicts.died a y t) x) refl refl (placed_if (is_live_status x.status) _ x.status) i) h
below_asked t a None group c b l h = below_crossed a (raised (b.pairs ++ book.new_pairs t a group b.acts) (book.changed_act t (book.joins a (max c.last (floor_at t b.acts c))) b.acts)) (below_raised (b.pairs ++ book.new_pairs t a group b.acts) (book.changed_act t (book.joins a (max c.last (floor_at t b.acts c))) b.acts) (below_joined t a (max c.last (floor_at t b.acts c)) b.acts l h))

below_ended : {C : Type 0} (t : ℕ) (v : Bool) (o : Option (Outcome C)) (xs : List Act) → AllByRecursion IsBelow xs → AllByRecursion IsBelow (if v then book.noted_from t o xs else xs)
below_ended t false o xs h = h
below_ended t true None xs h = h
below_ended {C} t true (Some x) xs h = by x.next
  where
    by : (y : Next C) → AllByRecursion IsBelow (book.noted_for t y xs)
    by (Go b c) = h
    by (Ended r) = below_changed t (book.with_result r) xs (λ x i. i) h

-- who gets its place was live and not crossed
below_decided : (c : ℕ) (x : Act) → is_crossed x ≡ false → IsBelow x → IsBelow (book.decided_as c x)
below_decided c x u h = by x.status refl
  where
    by : (st : Status) → x.status ≡ st → is_ordered (book.decided_status c (is_value x.result) st) ≡ true → reaches x.m x.n ≡ false
    by Live e p = subst (λ st. (is_live_status st && reaches x.m x.n) ≡ false) e u
    by (Doomed v) e p = absurd (true≢false (sym p))
    by (Decided d) e p = h (ap is_ordered e)
    by (Sealed d) e p = h (ap is_ordered e)

placed_sealed : (st : Status) → is_ordered (book.sealed_status st) ≡ true → is_ordered st ≡ true
placed_sealed Live e = e
placed_sealed (Doomed v) e = e
placed_sealed (Decided c) e = refl
placed_sealed (Sealed c) e = e

unfoldable pub AllBelow : {C : Type 0} → Machine C → Type 0
AllBelow s = AllByRecursion IsBelow s.book.acts

-- an open batch is strictly above
open_strictly : {C : Type 0} (w : Fixed C) (s : Machine C) (h : History) (n k : ℕ) (test : Batch → Bool) → settling.Settling w s → Marked s h → OpenAbove n s.desk.batches → holds test (batch_of k s.desk.batches) ≡ true → is_kept (OfBatch k) h.kept ≡ false → is_aborted k s.book.cascades ≡ false → n < k
unfolding settling.Settling Marked
open_strictly w s h n k test st m o d f a =
    let b = one_is test (batch_of k s.desk.batches) d in
    let i = settling.in_keys b.0 (λ x. x.bid == k) s.desk.batches b.1 in
    let e : b.0.bid ≡ k = eqb-true b.0.bid k i.1 in
    let formed : is_formed b.0.stage ≡ true = not_not (is_formed b.0.stage) (sym (m k b.0 b.1).known ∙ f) in
    let un : b.0.aborted ≡ false = st.marked (settling.key_of b.0) i.0 ∙ subst (λ z. is_aborted z s.book.cascades ≡ false) (sym e) a in
    let opened : is_open b.0 ≡ true = and_from (is_formed b.0.stage) (not b.0.aborted) formed (rw un refl) in
    omega (arith, e, (all_found (λ b. is_open b ≡ true → n < b.bid) (λ b. b.bid == k) s.desk.batches b.0 o b.1).0 opened)
  where
    not_not : (b : Bool) → not b ≡ false → b ≡ true
    not_not true e = refl
    not_not false e = absurd (true≢false e)

-- a batch that arrives is above all that have their place
arrives_above : {C : Type 0} (w : Fixed C) (Of : Tx → C → Type 0) (finish : C → List State → Alone) (k a : ℕ) (s : Machine C) (h : History) → IsAllowed w (Arrive k a) s → AllGood w Of finish s h → TidsAscend s → AllByRecursion (λ x. is_ordered x.status ≡ true → x.m < k) s.book.acts
unfolding TidsAscend Acts conditions
arrives_above w Of finish k a s h ok g asc = sets.find_self 0 s.ring.next_tid s.book.acts asc (λ x. is_ordered x.status ≡ true → x.m < k) (λ x e p.
    let low = places.settled_below w s x.m g.good.settling (omega (arith, (g.acts x.tid x e).settles p)) in
    open_strictly w s h x.m k (λ b. is_some (declared_of a b)) g.good.settling g.good.marked low.1 (shows.arrives_declared k a s g.good.from_desk ok.0) (commits.arrives_fresh w k a s h ok g.good.agreeing g.good.known g.good.marked g.good.placed g.good.from_desk) (not-true (is_aborted k s.book.cascades) ok.1.0))

pub asks_live : {C : Type 0} (t : ℕ) (s : Machine C) → holds (λ x. is_live_status x.status) (act_of t s.book.acts) ≡ true → TidsAscend s → AllByRecursion (λ x. (x.tid == t) ≡ true → is_live_status x.status ≡ true) s.book.acts
unfolding TidsAscend
asks_live t s l asc = sets.find_self 0 s.ring.next_tid s.book.acts asc (λ x. (x.tid == t) ≡ true → is_live_status x.status ≡ true) (λ x e q. subst (λ o. holds (λ x. is_live_status x.status) o ≡ true) e (subst (λ z. holds (λ x. is_live_status x.status) (act_of z s.book.acts) ≡ true) (sym (eqb-true x.tid t q)) l))

pub below_kept : {C : Type 0} (w : Fixed C) (Of : Tx → C → Type 0) (finish : C → List State → Alone) (e : Event) (s : Machine C) (h : History) → IsAllowed w e s → AllGood w Of finish s h → AfterStand w s h → AllBelow s → AllBelow (after w e s)
unfolding AllBelow afters.Uncrossed after
below_kept w Of finish (Admit t) s h ok g i b = all_join IsBelow s.book.acts _ b ((λ p. refl), tt)
below_kept w Of finish (Arrive k a) s h ok g i b = below_crossed a (map (book.lowered k (book.tids_on (cell_at s a).entries)) s.book.acts) (below_lowered k (book.tids_on (cell_at s a).entries) s.book.acts (arrives_above w Of finish k a s h ok g i.high.tids) b)
below_kept w Of finish (Ask t a) s h ok g i b = below_asked t a (book.in_the_way (lock_of t s.book.acts) (cell_at s a).entries) (book.met (lock_of t s.book.acts) (cell_at s a).entries) (cell_at s a) s.book (asks_live t s (higher.asks_live w Of finish t a s h ok g) i.high.tids) b
below_kept w Of finish (End t a) s h ok g i b = below_ended t (has_act t (cell_at s a).entries) (outcome_of t (cell_at s a).outbox) s.book.acts b
below_kept w Of finish (Abort k) s h ok g i b = all_map IsBelow IsBelow _ s.book.acts (λ x q p. refl) b
below_kept w Of finish (Prepare t a) s h ok g i b = below_changed t _ s.book.acts (λ x q. q) b
below_kept w Of finish (Vouch t a) s h ok g i b = below_changed t _ s.book.acts (λ x q. q) b
below_kept w Of finish (Decide t) s h ok g i b = all_map (λ x. (is_crossed x ≡ false) × IsBelow x) IsBelow (λ x. book.change_if (x.tid == t) (book.decided_as s.book.next_c) x) s.book.acts (λ x q. below_if (x.tid == t) (book.decided_as s.book.next_c) x (below_decided s.book.next_c x q.0) q.1) (both_all (λ x. is_crossed x ≡ false) IsBelow (λ x. (is_crossed x ≡ false) × IsBelow x) s.book.acts (λ x u q. (u, q)) i.uncrossed b)
below_kept w Of finish (Seal t) s h ok g i b = below_changed t _ s.book.acts (λ x q. same_below x (book.sealed x) refl refl (placed_sealed x.status) q) b
below_kept w Of finish (Finish t a) s h ok g i b = below_changed t _ s.book.acts (λ x q. q) b
below_kept w Of finish e s h ok g i b = b

pub record BelowStand {C : Type 0} (w : Fixed C) (s : Machine C) (h : History) : Type 0 where
  pub after_stand : AfterStand w s h
  pub below : AllBelow s

below_opened : {C : Type 0} (w : Fixed C) → AllBelow (opening w)
unfolding AllBelow
below_opened w = tt

pub below_step : {C : Type 0} (w : Fixed C) (Of : Tx → C → Type 0) (finish : C → List State → Alone) (e : Event) (s : Machine C) (h : History) → Given w Of finish → IsAllowed w e s → AllGood w Of finish s h → BelowStand w s h → BelowStand w (after w e s) (grown w e s h)
below_step w Of finish e s h v ok g i = record { after_stand = stand.kept w Of finish e s h v ok g i.after_stand; below = below_kept w Of finish e s h ok g i.after_stand i.below }

pub below_begins : {C : Type 0} (w : Fixed C) (Of : Tx → C → Type 0) (finish : C → List State → Alone) → Given w Of finish → BelowStand w (opening w) no_history
below_begins w Of finish v = record { after_stand = stand.opened w Of finish v; below = below_opened w }

-- Of those that have their place too the before number is below the after number.
pub placed_below_n : {C : Type 0} (w : Fixed C) (Of : Tx → C → Type 0) (finish : C → List State → Alone) (es : List Event) → Given w Of finish → IsRun w es → (t : ℕ) (x : Act) → act_of t (reached w es).book.acts ≡ Some x → is_ordered x.status ≡ true → reaches x.m x.n ≡ false
unfolding AllBelow
placed_below_n w Of finish es v run t x e p =
    let g : BelowStand w (reached w es) (history w es) = all.along_good w Of finish (BelowStand w) v (λ e s h ok g i. below_step w Of finish e s h v ok g i) (below_begins w Of finish v) es run in
    (all_found IsBelow (λ y. y.tid == t) (reached w es).book.acts x g.below e).0 p
