-- An ACT joins only actors that its control has visited, and so at most sixteen, each of them once.
use Rattle.std.specs.Prelude.{◌≡◌, refl, ℕ, zero, suc, ◌≤◌, ◌<◌, ◌==◌, Bool, true, false, Some, List, [], ◌∷◌, length, map, if◌then◌else◌}
use Rattle.std.specs.List.{AllByRecursion}
use Rattle.std.proofs.Common.{arith, sym, ap, subst, inl, inr, ◌∙◌}
use Rattle.std.proofs.lemmas.Bool.{true≢false, eqb-true, eq-eqb, or_cases}
use Rattle.snap_base.specs.declared.transactions.State.{State}
use Rattle.snap_base.specs.declared.transactions.Tx.{Tx}
use Rattle.protocol.specs.Facts.{Alone}
use Rattle.protocol.specs.Fixed.{Fixed, Next, Go, Ended, tx_at, root}
use Rattle.protocol.specs.Parts.{Act, Joined, Pact, ControlMessage, Waiting, Machine}
use Rattle.protocol.specs.Events.{Event, Form, Admit, Ask, Run, End, Decide, Finish}
use Rattle.protocol.specs.Words.{is_among, act_of, control_of, waiting_of}
use Rattle.protocol.specs.Numbers.{times, one_if, controls_in}
use Rattle.protocol.specs.Conditions.{IsAllowed, conditions}
use Rattle.protocol.specs.Effects.{after, cell_at}
use Rattle.protocol.specs.Rests.{IsRest, IsTxIn}
use Rattle.protocol.specs.Runs.{opening, IsRun, reached}
use Rattle.protocol.specs.History.{History}
use Rattle.protocol.specs.Laws.{AfterEveryRunWithHistory}
use Rattle.protocol.specs.OnRing as ring
use Rattle.protocol.specs.OnPost.{next_act}
use Rattle.protocol.specs.OnBook as book
use Rattle.protocol_laws.specs.Told.{EachAct}
use Rattle.protocol_theorems.specs.Bounds.{FewPlaces, PlacesAreFew}
use Rattle.protocol_laws.proofs.first.Times
use Rattle.protocol_laws.proofs.first.Controls as controls
use Rattle.protocol_laws.proofs.first.Lists.{all_found, all_join, all_map, both_all, weaker}
use Rattle.protocol_laws.proofs.machine.ActsFound as acts
use Rattle.protocol_laws.proofs.machine.ActsFound.{HoldsOpen}
use Rattle.protocol_laws.proofs.machine.ActResults.{ActsDrawn}
use Rattle.protocol_laws.proofs.machine.ControlWalk as walk
use Rattle.protocol_laws.proofs.machine.ControlWalk.{AllControls}
use Rattle.protocol_laws.proofs.machine.TrailsKept.{Told, at_most_one}
use Rattle.protocol_laws.proofs.machine.TurnsKept.{one_is}
use Rattle.protocol_laws.proofs.machine.Good.{Given}
use Rattle.protocol_laws.proofs.machine.AllGood as all
use Rattle.protocol_laws.proofs.machine.AllGood.{AllGood, none_allowed, drawn}
use Rattle.protocol_theorems.proofs.quiet.JoinsKept as joins
use Rattle.protocol_theorems.proofs.quiet.JoinsKept.{Joins, Arrived}
use Rattle.protocol_theorems.proofs.quiet.NumbersLow.{numbers_low}
use Rattle.protocol_theorems.proofs.bounds.Fewer.{fewer_of}
use Rattle.protocol_laws.proofs.machine.Resting.{numbered_from}

-- ---- places that a list of actors has

abbrev In : List ℕ → List Joined → Type 0
In visited ps = AllByRecursion (λ p. is_among p.actor visited ≡ true) ps

abbrev Visits : List ℕ → ℕ → ℕ → Act → Type 0
Visits visited v t x = t ≡ v → In visited x.places

in_marked : (visited : List ℕ) (a : ℕ) (f : Joined → Joined) (ps : List Joined) → ((p : Joined) → (f p).actor ≡ p.actor) → In visited ps → In visited (map (λ p. book.mark_if (p.actor == a) f p) ps)
in_marked visited a f [] i h = tt
in_marked visited a f (p ∷ ps) i h = (by (p.actor == a), in_marked visited a f ps i h.1)
  where
    by : (b : Bool) → is_among (book.mark_if b f p).actor visited ≡ true
    by true = ap (λ z. is_among z visited) (i p) ∙ h.0
    by false = h.0

visits_hold : (visited : List ℕ) (v : ℕ) → HoldsOpen (Visits visited v)
visits_hold visited v = record {
  numbered = λ t x n p. p;
  noted = λ t a x f i j p e. in_marked visited a f x.places i (p e);
  sealed = λ t x p. p;
  doomed = λ t x u l p. p;
  rises = λ t k x l p. p;
}

-- the ACT with the control's tid has joined only what the control has visited
abbrev Seen : {C : Type 0} → Fixed C → List Act → ℕ → Next C → Type 0
Seen w xs v (Go b c) = EachAct (Visits (w.code.visited c) v) xs
Seen w xs v (Ended r) = Unit {0}

-- where nobody joins
still_seen : {C : Type 0} (w : Fixed C) (e : Event) (s : Machine C) (v : ℕ) (n : Next C) → ((visited : List ℕ) → acts.ReadyToo w e s (Visits visited v)) → Seen w s.book.acts v n → Seen w (after w e s).book.acts v n
still_seen w e s v (Go b c) r h = acts.acts_move w e s (Visits (w.code.visited c) v) (visits_hold (w.code.visited c) v) (r (w.code.visited c)) h
still_seen w e s v (Ended x) r h = tt

all_still : {C : Type 0} (w : Fixed C) (e : Event) (s : Machine C) → ((visited : List ℕ) (v : ℕ) → acts.ReadyToo w e s (Visits visited v)) → AllControls (Seen w s.book.acts) s → AllControls (Seen w (after w e s).book.acts) s
all_still w e s r h = walk.both (Seen w s.book.acts) (λ t n. Unit {0}) (Seen w (after w e s).book.acts) s (λ v n p q. still_seen w e s v n (λ visited. r visited v) p) h (walk.trivial s)

-- ---- an ACT joins

-- only one has the tid
none_has : {C : Type 0} (t : ℕ) (ms : List (ControlMessage C)) → times t (map (λ m. m.tid) ms) ≤ 0 → (m : ControlMessage C) → AllByRecursion (λ y. y.tid ≡ t → y ≡ m) ms
none_has t [] l m = tt
none_has t (y ∷ ms) l m = (λ e. absurd (omega (arith, l, Times.times_cons t y.tid (map (λ m. m.tid) ms), ap one_if (eq-eqb y.tid t e))), none_has t ms (omega (arith, l, Times.times_cons t y.tid (map (λ m. m.tid) ms))) m)

only_one : {C : Type 0} (t : ℕ) (ms : List (ControlMessage C)) (m : ControlMessage C) → times t (map (λ m. m.tid) ms) ≤ 1 → control_of t ms ≡ Some m → AllByRecursion (λ y. y.tid ≡ t → y ≡ m) ms
only_one t [] m l e = tt
only_one {C} t (y ∷ ms) m l e = by (y.tid == t) refl e (only_one t ms m)
  where
    by : (b : Bool) → (y.tid == t) ≡ b → (if b then Some y else control_of t ms) ≡ Some m → (times t (map (λ m. m.tid) ms) ≤ 1 → control_of t ms ≡ Some m → AllByRecursion (λ y. y.tid ≡ t → y ≡ m) ms) → AllByRecursion (λ y. y.tid ≡ t → y ≡ m) (y ∷ ms)
    by true i q r = (λ u. cc q, none_has t ms (omega (arith, l, Times.times_cons t y.tid (map (λ m. m.tid) ms), ap one_if i)) m)
    by false i q r = (λ u. absurd (true≢false (sym (eq-eqb y.tid t u) ∙ i)), r (omega (arith, l, Times.times_cons t y.tid (map (λ m. m.tid) ms))) q)

found_times : {C : Type 0} (t : ℕ) (ms : List (ControlMessage C)) (m : ControlMessage C) → control_of t ms ≡ Some m → 1 ≤ times t (map (λ m. m.tid) ms)
found_times t [] m e = absurd (cc e)
found_times {C} t (y ∷ ms) m e = by (y.tid == t) refl e (found_times t ms m)
  where
    by : (b : Bool) → (y.tid == t) ≡ b → (if b then Some y else control_of t ms) ≡ Some m → (control_of t ms ≡ Some m → 1 ≤ times t (map (λ m. m.tid) ms)) → 1 ≤ times t (y.tid ∷ map (λ m. m.tid) ms)
    by true i q r = omega (arith, Times.times_cons t y.tid (map (λ m. m.tid) ms), ap one_if i)
    by false i q r = omega (arith, Times.times_cons t y.tid (map (λ m. m.tid) ms), r q)

-- its control lies in the post, and nowhere else
abbrev unposted : {C : Type 0} → Machine C → Machine C
unposted s = record s { post = record s.post { controls = [] } }

nowhere_else : {C : Type 0} (t : ℕ) (s : Machine C) → times t (controls_in s) ≤ 1 → 1 ≤ times t (map (λ m. m.tid) s.post.controls) → AllControls (λ u n. u ≡ t → ⊥) (unposted s)
nowhere_else t s one some = walk.none_there t (unposted s) (omega (
  arith,
  one,
  some,
  controls.parted t s.post.controls (map (λ c. c.inbox) s.cells) (map (λ c. c.outbox) s.cells),
  controls.parted t (unposted s).post.controls (map (λ c. c.inbox) s.cells) (map (λ c. c.outbox) s.cells),
))

visit_joins : (visited : List ℕ) (v t a m : ℕ) (x : Act) → (t ≡ v → is_among a visited ≡ true) → Visits visited v t x → Visits visited v t (book.joins a m x)
visit_joins visited v t a m x h p e = all_join (λ p. is_among p.actor visited ≡ true) x.places _ (p e) (h e, tt)

ask_seen : {C : Type 0} (w : Fixed C) (t a : ℕ) (s : Machine C) (v : ℕ) (n : Next C) → (v ≡ t → ⊥) → Seen w s.book.acts v n → Seen w (after w (Ask t a) s).book.acts v n
unfolding acts.ReadyToo
ask_seen w t a s v n d h = still_seen w (Ask t a) s v n (λ visited q x e p. visit_joins visited v t a 0 x (λ i. absurd (d (sym i))) p) h

own_seen : {C : Type 0} (w : Fixed C) (t a : ℕ) (s : Machine C) (v b : ℕ) (c : C) → is_among a (w.code.visited c) ≡ true → Seen w s.book.acts v (Go b c) → Seen w (after w (Ask t a) s).book.acts v (Go b c)
unfolding acts.ReadyToo
own_seen w t a s v b c i h = acts.acts_move w (Ask t a) s (Visits (w.code.visited c) v) (visits_hold (w.code.visited c) v) (λ q x e p. visit_joins (w.code.visited c) v t a 0 x (λ j. i) p) h

-- the control that asks has visited where it asks
asks_there : {C : Type 0} (w : Fixed C) (Of : Tx → C → Type 0) (finish : C → List State → Alone) (h : History) (v a b : ℕ) (c : C) → Given w Of finish → Told w Of finish h v (Go b c) → b ≡ a → is_among a (w.code.visited c) ≡ true
asks_there w Of finish h v a b c g told e =
    let o = told.of_it in
    subst (λ z. is_among z (w.code.visited c) ≡ true) (o.1 ∙ e) (g.facts.stood_here (tx_at w.text (h.trails v).tx) c o.0)

ask_all : {C : Type 0} (w : Fixed C) (Of : Tx → C → Type 0) (finish : C → List State → Alone) (t a : ℕ) (s : Machine C) (h : History) → Given w Of finish → IsAllowed w (Ask t a) s → AllGood w Of finish s h → AllControls (Seen w s.book.acts) s → AllControls (Seen w (after w (Ask t a) s).book.acts) s
unfolding conditions
ask_all {C} w Of finish t a s h v ok g seen =
    let m = one_is (λ m. m.to == a) (control_of t s.post.controls) ok.0 in
    let there = found_times t s.post.controls m.0 m.1 in
    let one = at_most_one t s g.good.held in
    let few : times t (map (λ m. m.tid) s.post.controls) ≤ 1 = omega (arith, one, controls.parted t s.post.controls (map (λ c. c.inbox) s.cells) (map (λ c. c.outbox) s.cells)) in
    let others = nowhere_else t s one there in
    record {
      posted = both_all (λ y. Seen w s.book.acts y.tid (Go y.to y.control)) (λ y. Told w Of finish h y.tid (Go y.to y.control) × (y.tid ≡ t → y ≡ m.0)) (λ y. Seen w (after w (Ask t a) s).book.acts y.tid (Go y.to y.control)) s.post.controls
          (λ y p q. asks m.0 (eqb-true m.0.to a m.2) y p q.0 q.1)
          seen.posted
          (both_all (λ y. Told w Of finish h y.tid (Go y.to y.control)) (λ y. y.tid ≡ t → y ≡ m.0) (λ y. Told w Of finish h y.tid (Go y.to y.control) × (y.tid ≡ t → y ≡ m.0)) s.post.controls (λ y p q. (p, q)) g.good.told.posted (only_one t s.post.controls m.0 few m.1));
      inboxes = λ b. both_all (λ x. Seen w s.book.acts x.tid (Go b x.control)) (λ x. x.tid ≡ t → ⊥) (λ x. Seen w (after w (Ask t a) s).book.acts x.tid (Go b x.control)) (cell_at s b).inbox (λ x p q. ask_seen w t a s x.tid (Go b x.control) q p) (seen.inboxes b) (others.inboxes b);
      outboxes = λ b. both_all (λ x. Seen w s.book.acts x.tid x.next) (λ x. x.tid ≡ t → ⊥) (λ x. Seen w (after w (Ask t a) s).book.acts x.tid x.next) (cell_at s b).outbox (λ x p q. ask_seen w t a s x.tid x.next q p) (seen.outboxes b) (others.outboxes b);
    }
  where
    asks : (m : ControlMessage C) → m.to ≡ a → (y : ControlMessage C) → Seen w s.book.acts y.tid (Go y.to y.control) → Told w Of finish h y.tid (Go y.to y.control) → (y.tid ≡ t → y ≡ m) → Seen w (after w (Ask t a) s).book.acts y.tid (Go y.to y.control)
    asks m to y p told is = elim (Rattle.std.proofs.lemmas.Bool.cases_Bool (y.tid == t)) [
      | inl e ↦ own_seen w t a s y.tid y.to y.control (asks_there w Of finish h y.tid a y.to y.control v told (ap (λ z. z.to) (is (eqb-true y.tid t e)) ∙ to)) p
      | inr e ↦ ask_seen w t a s y.tid (Go y.to y.control) (λ q. true≢false (sym (eq-eqb y.tid t q) ∙ e)) p
    ]

-- ---- every event

undrawn : {C : Type 0} (w : Fixed C) (xs : List Act) (next t b : ℕ) (c : C) → next ≤ t → ActsDrawn next xs → Seen w xs t (Go b c)
undrawn w xs next t b c l d = λ u x e i. absurd (omega (arith, d u x e, i, l))

new_seen : {C : Type 0} (w : Fixed C) (xs : List Act) (next : ℕ) (ps : List Pact) → ActsDrawn next xs → AllByRecursion (λ p. next ≤ p.tid) ps → AllByRecursion (λ q. Seen w xs q.tid (Go (root (tx_at w.text q.tx)) (w.code.start q.tid (tx_at w.text q.tx)))) ps
new_seen w xs next [] d l = tt
new_seen w xs next (p ∷ ps) d l = (undrawn w xs next p.tid (root (tx_at w.text p.tx)) (w.code.start p.tid (tx_at w.text p.tx)) l.0 d, new_seen w xs next ps d l.1)

in_further : (old new : List ℕ) (ps : List Joined) → ((a : ℕ) → is_among a old ≡ true → is_among a new ≡ true) → In old ps → In new ps
in_further old new ps k h = weaker (λ p. is_among p.actor old ≡ true) (λ p. is_among p.actor new ≡ true) ps (λ p q. k p.actor q) h

-- a slice goes on from where it stood
ran_seen : {C : Type 0} (w : Fixed C) (Of : Tx → C → Type 0) (finish : C → List State → Alone) (h : History) (xs : List Act) (v b : ℕ) (c : C) (st : State) → Given w Of finish → Told w Of finish h v (Go b c) → Seen w xs v (Go b c) → Seen w xs v (w.code.slice c st).next
ran_seen {C} w Of finish h xs v b c st g told seen = by (w.code.slice c st).next refl
  where
    by : (n : Next C) → (w.code.slice c st).next ≡ n → Seen w xs v n
    by (Ended r) e = tt
    by (Go d k) e = λ t x f i. in_further (w.code.visited c) (w.code.visited k) x.places (λ z q. g.facts.stood_before (tx_at w.text (h.trails v).tx) c k z d (record { from = st; of_it = told.of_it.0; goes = e }) q) (seen t x f i)

run_own : {C : Type 0} (w : Fixed C) (Of : Tx → C → Type 0) (finish : C → List State → Alone) (t a : ℕ) (s : Machine C) (h : History) → Given w Of finish → AllGood w Of finish s h → AllControls (Seen w s.book.acts) s
    → (x : Waiting C) → waiting_of t (cell_at s a).inbox ≡ Some x → Seen w (after w (Run t a) s).book.acts t (w.code.slice x.control (cell_at s a).state).next
unfolding acts.ReadyToo
run_own w Of finish t a s h v g i x e =
    let p = all_found (λ x. Seen w s.book.acts x.tid (Go a x.control)) (λ x. x.tid == t) (cell_at s a).inbox x (i.inboxes a) e in
    let q = all_found (λ x. Told w Of finish h x.tid (Go a x.control)) (λ x. x.tid == t) (cell_at s a).inbox x (g.good.told.inboxes a) e in
    let goes = ran_seen w Of finish h s.book.acts x.tid a x.control (cell_at s a).state v q.0 p.0 in
    still_seen w (Run t a) s t (w.code.slice x.control (cell_at s a).state).next (λ visited. tt) (subst (λ z. Seen w s.book.acts z (w.code.slice x.control (cell_at s a).state).next) (eqb-true x.tid t p.1) goes)

pub seen_kept : {C : Type 0} (w : Fixed C) (Of : Tx → C → Type 0) (finish : C → List State → Alone) (e : Event) (s : Machine C) (h : History) → Given w Of finish → IsAllowed w e s → AllGood w Of finish s h → AllControls (Seen w s.book.acts) s → AllControls (Seen w (after w e s).book.acts) (after w e s)
unfolding conditions walk.Ready acts.ReadyToo after
seen_kept w Of finish (Form k) s h v ok g i = walk.moves w (Form k) s (Seen w (after w (Form k) s).book.acts) ok (new_seen w s.book.acts s.ring.next_tid (ring.next_pacts w.text s.ring) (drawn s h g.acts) (numbered_from s.ring.next_tid s.ring.next_tid _ (omega arith))) (all_still w (Form k) s (λ visited u. tt) i)
seen_kept w Of finish (Admit t) s h v ok g i =
    let l : s.ring.next_tid ≤ t = omega (arith, eqb-true t s.ring.next_tid ok.0) in
    let start = w.code.start t (tx_at w.text (next_act s.ring)) in
    walk.moves w (Admit t) s (Seen w (after w (Admit t) s).book.acts) ok
    (acts.acts_move w (Admit t) s (Visits (w.code.visited start) t) (visits_hold (w.code.visited start) t) (λ n q. tt) (undrawn w s.book.acts s.ring.next_tid t 0 start l (drawn s h g.acts)))
    (all_still w (Admit t) s (λ visited u n q. tt) i)
seen_kept w Of finish (Ask t a) s h v ok g i = walk.moves w (Ask t a) s (Seen w (after w (Ask t a) s).book.acts) ok tt (ask_all w Of finish t a s h v ok g i)
seen_kept w Of finish (Run t a) s h v ok g i = walk.moves w (Run t a) s (Seen w (after w (Run t a) s).book.acts) ok (run_own w Of finish t a s h v g i) (all_still w (Run t a) s (λ visited u. tt) i)
seen_kept w Of finish (End t a) s h v ok g i = walk.moves w (End t a) s (Seen w (after w (End t a) s).book.acts) ok tt (all_still w (End t a) s (λ visited u x r f p. p) i)
seen_kept w Of finish (Decide t) s h v ok g i = walk.moves w (Decide t) s (Seen w (after w (Decide t) s).book.acts) ok tt (all_still w (Decide t) s (λ visited u x f p. p) i)
seen_kept w Of finish (Finish t a) s h v ok g i = walk.moves w (Finish t a) s (Seen w (after w (Finish t a) s).book.acts) ok tt (all_still w (Finish t a) s (λ visited u x f p q. in_marked visited a book.has_left x.places (λ z. refl) (p q)) i)
seen_kept w Of finish e s h v ok g i = walk.moves w e s (Seen w (after w e s).book.acts) ok tt (all_still w e s (λ visited u. tt) i)

-- ---- sixteen at most

abbrev Short : ℕ → Act → Type 0
Short t x = length x.places ≤ 16

short_holds : HoldsOpen Short
short_holds = record {
  numbered = λ t x n p. p;
  noted = λ t a x f i j p. omega (arith, p, Times.length_map (λ p. book.mark_if (p.actor == a) f p) x.places);
  sealed = λ t x p. p;
  doomed = λ t x v l p. p;
  rises = λ t k x l p. p;
}

among_times : (n : ℕ) (ns : List ℕ) → is_among n ns ≡ true → 1 ≤ times n ns
among_times n [] e = absurd (true≢false (sym e))
among_times n (x ∷ xs) e = elim (or_cases (x == n) (is_among n xs) e) [
  | inl q ↦ omega (arith, Times.times_cons n x xs, ap one_if q)
  | inr q ↦ omega (arith, Times.times_cons n x xs, among_times n xs q)
]

in_few : (visited : List ℕ) (ps : List Joined) → ((n : ℕ) → times n (map (λ p. p.actor) ps) ≤ 1) → In visited ps → length ps ≤ length visited
in_few visited ps once h = omega (arith, Times.length_map (λ p. p.actor) ps, fewer_of (map (λ p. p.actor) ps) visited once (all_map (λ p. is_among p.actor visited ≡ true) (λ n. 1 ≤ times n visited) (λ p. p.actor) ps (λ p q. among_times p.actor visited q) h))

pub record Kept {C : Type 0} (w : Fixed C) (s : Machine C) : Type 0 where
  pub seen : AllControls (Seen w s.book.acts) s
  pub joins : Joins s
  pub short : EachAct Short s.book.acts

ask_short : {C : Type 0} (w : Fixed C) (Of : Tx → C → Type 0) (finish : C → List State → Alone) (t a : ℕ) (s : Machine C) (h : History) → Given w Of finish → IsAllowed w (Ask t a) s → AllGood w Of finish s h → Kept w s → (x : Act) (m : ℕ) → act_of t s.book.acts ≡ Some x → length (book.joins a m x).places ≤ 16
unfolding conditions Joins
ask_short w Of finish t a s h v ok g i x m e =
    let c = one_is (λ m. m.to == a) (control_of t s.post.controls) ok.0 in
    let p = all_found (λ y. Seen w s.book.acts y.tid (Go y.to y.control)) (λ y. y.tid == t) s.post.controls c.0 i.seen.posted c.1 in
    let q = all_found (λ y. Told w Of finish h y.tid (Go y.to y.control)) (λ y. y.tid == t) s.post.controls c.0 g.good.told.posted c.1 in
    let here = asks_there w Of finish h c.0.tid a c.0.to c.0.control v q.0 (eqb-true c.0.to a c.2) in
    let visited = w.code.visited c.0.control in
    let new = joins.asks_new w t a s h ok g.none g.acts g.left g.standing x e in
    let once = joins.apart_more a (record { actor = a; prepared = false; vouched = false; finished = false }) x.places refl new (i.joins t x e) in
    let inside = all_join (λ p. is_among p.actor visited ≡ true) x.places (record { actor = a; prepared = false; vouched = false; finished = false } ∷ []) (p.0 t x e (sym (eqb-true c.0.tid t p.1))) (here, tt) in
    omega (arith, in_few visited (book.joins a m x).places once inside, v.facts.few_actors (tx_at w.text (h.trails c.0.tid).tx) c.0.control q.0.of_it.0)

short_kept : {C : Type 0} (w : Fixed C) (Of : Tx → C → Type 0) (finish : C → List State → Alone) (e : Event) (s : Machine C) (h : History) → Given w Of finish → IsAllowed w e s → AllGood w Of finish s h → Kept w s → EachAct Short (after w e s).book.acts
unfolding acts.ReadyToo
short_kept w Of finish (Admit t) s h v ok g i = acts.acts_move w (Admit t) s Short short_holds (λ n. omega arith) i.short
short_kept w Of finish (Ask t a) s h v ok g i = acts.acts_move w (Ask t a) s Short short_holds (λ q x e p. ask_short w Of finish t a s h v ok g i x 0 e) i.short
short_kept w Of finish (End t a) s h v ok g i = acts.acts_move w (End t a) s Short short_holds (λ x r e p. p) i.short
short_kept w Of finish (Decide t) s h v ok g i = acts.acts_move w (Decide t) s Short short_holds (λ x e p. p) i.short
short_kept w Of finish (Finish t a) s h v ok g i = acts.acts_move w (Finish t a) s Short short_holds (λ x e p. omega (arith, p, Times.length_map (λ p. book.mark_if (p.actor == a) book.has_left p) x.places)) i.short
short_kept w Of finish e s h v ok g i = acts.acts_move w e s Short short_holds tt i.short

-- ---- over every run

record Whole {C : Type 0} (w : Fixed C) (s : Machine C) : Type 0 where
  kept : Kept w s
  arrived : Arrived s

whole_kept : {C : Type 0} (w : Fixed C) (Of : Tx → C → Type 0) (finish : C → List State → Alone) (e : Event) (s : Machine C) (h : History) → Given w Of finish → IsAllowed w e s → AllGood w Of finish s h → Whole w s → Whole w (after w e s)
whole_kept w Of finish e s h v ok g i = record {
  kept = record {
    seen = seen_kept w Of finish e s h v ok g i.kept.seen;
    joins = joins.joins_kept w e s h ok g.none g.acts g.left g.standing i.kept.joins;
    short = short_kept w Of finish e s h v ok g i.kept;
  };
  arrived = joins.arrived_kept w e s g.opened i.arrived;
}

whole_opened : {C : Type 0} (w : Fixed C) (Of : Tx → C → Type 0) (finish : C → List State → Alone) → Given w Of finish → Whole w (opening w)
unfolding Joins Arrived
whole_opened {C} w Of finish v = record {
  kept = record {
    seen = walk.both _ (λ t n. Unit {0}) (Seen w (opening w).book.acts) (opening w) (λ t n p q. none t n) (all.opened w Of finish v).none (walk.trivial (opening w));
    joins = λ t x e. absurd (cc e);
    short = λ t x e. absurd (cc e);
  };
  arrived = λ t x e. absurd (cc e);
}
  where
    none : (t : ℕ) (n : Next C) → Seen w [] t n
    none t (Go b c) = λ u x e. absurd (cc e)
    none t (Ended r) = tt

whole : {C : Type 0} (w : Fixed C) (Of : Tx → C → Type 0) (finish : C → List State → Alone) (es : List Event) → Given w Of finish → IsRun w es → Whole w (reached w es)
whole w Of finish es v run = all.along_good w Of finish (λ s h. Whole w s) v (λ e s h ok g i. whole_kept w Of finish e s h v ok g i) (whole_opened w Of finish v) es run

few : {C : Type 0} (w : Fixed C) (Of : Tx → C → Type 0) (finish : C → List State → Alone) (es : List Event) → Given w Of finish → IsRun w es → (t : ℕ) (x : Act) → act_of t (reached w es).book.acts ≡ Some x → FewPlaces (reached w es).ring.next_bid x
unfolding Joins Arrived
few w Of finish es v run t x e =
    let i = whole w Of finish es v run in
    let low = all_found (λ y. y.m < (reached w es).ring.next_bid) (λ y. y.tid == t) (reached w es).book.acts x (numbers_low w Of finish es v run).acts e in
    record { once = i.kept.joins t x e; few = i.kept.short t x e; some = i.arrived t x e; before = low.0 }

pub places_are_few : {C : Type 0} → AfterEveryRunWithHistory (PlacesAreFew {C = C})
places_are_few {C} w finish es f t run = by es run (length w.text.opening.states) refl
  where
    by : (es : List Event) → IsRun w es → (n : ℕ) → length w.text.opening.states ≡ n → (u : ℕ) (x : Act) → act_of u (reached w es).book.acts ≡ Some x → FewPlaces (reached w es).ring.next_bid x
    by es run (suc n) l u x e = few w (IsRest w.code (IsTxIn w.text)) finish es (record { text = t; actors = omega (arith, l); facts = f }) run u x e
    by [] run zero l u x e = absurd (cc e)
    by (e ∷ es) run zero l u x q = absurd (none_allowed w e t l run.0)
