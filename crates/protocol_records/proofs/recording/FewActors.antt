-- An ACT has joined no actors but those on which its control has stood, so at most sixteen.
use Rattle.std.specs.Prelude.{◌≡◌, refl, ℕ, zero, suc, slice_index_or, ◌+◌, ◌≤◌, ◌==◌, Bool, true, false, if◌then◌else◌, Some, List, [], ◌∷◌, ◌++◌, length, map}
use Rattle.std.specs.List.{AllByRecursion}
use Rattle.std.proofs.Common.{arith, sym, ap, subst, ◌∙◌}
use Rattle.std.proofs.lemmas.Bool.{true≢false, eqb-true, eq-eqb}
use Rattle.snap_base.specs.declared.transactions.Tx.{Tx}
use Rattle.snap_base.specs.declared.transactions.State.{State}
use Rattle.protocol.specs.Facts.{Alone}
use Rattle.protocol.specs.Fixed.{Fixed, Next, Go, Ended, tx_at, root, base}
use Rattle.protocol.specs.Parts.{Act, Joined, ControlMessage, Pact, Waiting, Machine}
use Rattle.protocol.specs.Events.{Event, Form, Admit, Ask, Run, End, Decide, Finish}
use Rattle.protocol.specs.Words.{is_among, act_of, control_of, waiting_of, without_control}
use Rattle.protocol.specs.Conditions.{IsAllowed, conditions}
use Rattle.protocol.specs.Effects.{after, cell_at, no_cell}
use Rattle.protocol.specs.Runs.{opening, new_cell}
use Rattle.protocol.specs.Numbers.{times, one_if}
use Rattle.protocol.specs.OnBook as book
use Rattle.protocol.specs.OnPost as post
use Rattle.protocol.specs.OnRing as ring
use Rattle.protocol.specs.History.{History}
use Rattle.protocol_laws.specs.Told.{EachAct}
use Rattle.protocol_laws.specs.Trails.{IsOf}
use Rattle.protocol_laws.proofs.first.Controls as controls
use Rattle.protocol_laws.proofs.first.Lists.{all_found, weaker}
use Rattle.protocol_laws.proofs.first.Times
use Rattle.protocol_laws.proofs.machine.ControlWalk
use Rattle.protocol_laws.proofs.machine.ControlWalk.{AllControls, none_there}
use Rattle.protocol_laws.proofs.machine.TurnsKept.{one_is}
use Rattle.protocol_laws.proofs.machine.TrailsKept.{Told, at_most_one}
use Rattle.protocol_laws.proofs.machine.ActsFound as acts
use Rattle.protocol_laws.proofs.machine.ActsFound.{HoldsOpen}
use Rattle.protocol_laws.proofs.machine.ActResults.{ActsDrawn}
use Rattle.protocol_laws.proofs.machine.Good.{Given}
use Rattle.protocol_laws.proofs.machine.AllGood.{AllGood, drawn}
use Rattle.protocol_theorems.proofs.quiet.JoinsKept.{Joins, actors_marked, apart_more, asks_new}
use Rattle.protocol_records.proofs.recording.FewLists.{no_more_than}
use Rattle.protocol_laws.proofs.machine.Resting.{numbered_from}

-- its actors are among these
abbrev pub Within : ℕ → List ℕ → ℕ → Act → Type 0
Within t vs u x = u ≡ t → AllByRecursion (λ n. is_among n vs ≡ true) (map (λ p. p.actor) x.places)

-- where a control has stood are all actors of its ACT
abbrev pub Visited : {C : Type 0} → Fixed C → List Act → ℕ → Next C → Type 0
Visited w xs t (Go b c) = EachAct (Within t (w.code.visited c)) xs
Visited w xs t (Ended r) = Unit {0}

-- it goes where it has stood, as a control that stands there
abbrev pub OnVisited : {C : Type 0} → Fixed C → ℕ → Next C → Type 0
OnVisited w t (Go b c) = is_among b (w.code.visited c) ≡ true
OnVisited w t (Ended r) = Unit {0}

holds_within : (t : ℕ) (vs : List ℕ) → HoldsOpen (Within t vs)
holds_within t vs = record {
  numbered = λ u x n p. p;
  noted = λ u a x f i j p e. subst (AllByRecursion (λ n. is_among n vs ≡ true)) (sym (actors_marked a f x.places i)) (p e);
  sealed = λ u x p. p;
  doomed = λ u x v l p. p;
  rises = λ u k x l p. p;
}

-- events that let no ACT join keep it
abbrev IsPlain : Event → Type 0
IsPlain (Ask t a) = ⊥
IsPlain e = Unit {0}

ready_within : {C : Type 0} (w : Fixed C) (e : Event) (s : Machine C) (t : ℕ) (vs : List ℕ) → IsPlain e → acts.ReadyToo w e s (Within t vs)
unfolding acts.ReadyToo
ready_within w (Admit u) s t vs i = λ n e. tt
ready_within w (Ask u a) s t vs i = absurd i
ready_within w (End u a) s t vs i = λ x r e p. p
ready_within w (Decide u) s t vs i = λ x e p. p
ready_within w (Finish u a) s t vs i = λ x e p q. subst (AllByRecursion (λ n. is_among n vs ≡ true)) (sym (actors_marked a book.has_left x.places (λ q. refl))) (p q)
ready_within w e s t vs i = tt

stays_visited : {C : Type 0} (w : Fixed C) (e : Event) (s : Machine C) (t : ℕ) (n : Next C) → IsPlain e → Visited w s.book.acts t n → Visited w (after w e s).book.acts t n
stays_visited w e s t (Go b c) i p = acts.acts_move w e s (Within t (w.code.visited c)) (holds_within t (w.code.visited c)) (ready_within w e s t (w.code.visited c) i) p
stays_visited w e s t (Ended r) i p = tt

none_new : (next t : ℕ) (vs : List ℕ) (xs : List Act) → next ≤ t → ActsDrawn next xs → EachAct (Within t vs) xs
none_new next t vs xs l d = λ u x e i. absurd (omega (arith, d u x e, i, l))

new_controls : {C : Type 0} (w : Fixed C) (next : ℕ) (xs : List Act) (ps : List Pact) → ActsDrawn next xs → AllByRecursion (λ p. next ≤ p.tid) ps → AllByRecursion (λ q. Visited w xs q.tid (Go (root (tx_at w.text q.tx)) (w.code.start q.tid (tx_at w.text q.tx)))) ps
new_controls w next xs [] d l = tt
new_controls w next xs (p ∷ ps) d l = (none_new next p.tid (w.code.visited (w.code.start p.tid (tx_at w.text p.tx))) xs l.0 d, new_controls w next xs ps d l.1)

-- ---- a control that goes stands where it goes

on_visited : {C : Type 0} (w : Fixed C) (Of : Tx → C → Type 0) (finish : C → List State → Alone) (s : Machine C) (h : History) → Given w Of finish → AllControls (Told w Of finish h) s → AllControls (OnVisited w) s
on_visited {C} w Of finish s h v g = ControlWalk.both (Told w Of finish h) (λ u n. Unit {0}) (OnVisited w) s one g (ControlWalk.trivial s)
  where
    of_it : (tx : Tx) (t : ℕ) (n : Next C) → IsOf w Of tx n → OnVisited w t n
    of_it tx t (Go b c) i = subst (λ z. is_among z (w.code.visited c) ≡ true) i.1 (v.facts.stood_here tx c i.0)
    of_it tx t (Ended r) i = tt

    one : (t : ℕ) (n : Next C) → Told w Of finish h t n → Unit {0} → OnVisited w t n
    one t n p q = of_it (tx_at w.text (h.trails t).tx) t n p.of_it

-- ---- the one that asks is at the actor

post_without : {C : Type 0} (t : ℕ) (cs : List (ControlMessage C)) → times t (map (λ m. m.tid) (without_control t cs)) ≡ 0
post_without t [] = refl
post_without t (m ∷ ms) = by (m.tid == t) refl (post_without t ms)
  where
    by : (b : Bool) → (m.tid == t) ≡ b → times t (map (λ m. m.tid) (without_control t ms)) ≡ 0 → times t (map (λ m. m.tid) (if Rattle.std.specs.Prelude.not b then m ∷ without_control t ms else without_control t ms)) ≡ 0
    by true e h = h
    by false e h = omega (arith, Times.times_cons t m.tid (map (λ m. m.tid) (without_control t ms)), ap one_if e, h)

post_one : {C : Type 0} (t : ℕ) (m : ControlMessage C) (cs : List (ControlMessage C)) → control_of t cs ≡ Some m → 1 ≤ times t (map (λ m. m.tid) cs)
post_one t m [] e = absurd (cc e)
post_one t m (x ∷ xs) e = by (x.tid == t) refl e (post_one t m xs)
  where
    by : (b : Bool) → (x.tid == t) ≡ b → (if b then Some x else control_of t xs) ≡ Some m → (control_of t xs ≡ Some m → 1 ≤ times t (map (λ m. m.tid) xs)) → 1 ≤ times t (x.tid ∷ map (λ m. m.tid) xs)
    by true f e k = omega (arith, Times.times_cons t x.tid (map (λ m. m.tid) xs), ap one_if f)
    by false f e k = omega (arith, Times.times_cons t x.tid (map (λ m. m.tid) xs), k e)

only_one : {C : Type 0} (t : ℕ) (m : ControlMessage C) (cs : List (ControlMessage C)) → control_of t cs ≡ Some m → times t (map (λ m. m.tid) cs) ≤ 1 → AllByRecursion (λ x. x.tid ≡ t → x ≡ m) cs
only_one t m [] e l = tt
only_one {C} t m (x ∷ xs) e l = by (x.tid == t) refl e (only_one t m xs)
  where
    rest_none : (ys : List (ControlMessage C)) → times t (map (λ m. m.tid) ys) ≡ 0 → AllByRecursion (λ x. x.tid ≡ t → x ≡ m) ys
    rest_none [] z = tt
    rest_none (y ∷ ys) z = ((λ i. absurd (omega (arith, z, Times.times_cons t y.tid (map (λ m. m.tid) ys), ap one_if (eq-eqb y.tid t i)))), rest_none ys (omega (arith, z, Times.times_cons t y.tid (map (λ m. m.tid) ys))))

    by : (b : Bool) → (x.tid == t) ≡ b → (if b then Some x else control_of t xs) ≡ Some m → (control_of t xs ≡ Some m → times t (map (λ m. m.tid) xs) ≤ 1 → AllByRecursion (λ x. x.tid ≡ t → x ≡ m) xs) → AllByRecursion (λ x. x.tid ≡ t → x ≡ m) (x ∷ xs)
    by true f e r = let i : x ≡ m = cc e in ((λ j. i), rest_none xs (omega (arith, l, Times.times_cons t x.tid (map (λ m. m.tid) xs), ap one_if f)))
    by false f e r = ((λ j. absurd (true≢false (sym (eq-eqb x.tid t j) ∙ f))), r e (omega (arith, l, Times.times_cons t x.tid (map (λ m. m.tid) xs))))

abbrev IsAt : {C : Type 0} → ℕ → ℕ → C → ℕ → Next C → Type 0
IsAt t a c u n = u ≡ t → n ≡ Go a c

asks_alone : {C : Type 0} (w : Fixed C) (t a : ℕ) (s : Machine C) (m : ControlMessage C) → control_of t s.post.controls ≡ Some m → (m.to == a) ≡ true → controls.HeldIn s → AllControls (IsAt t a m.control) s
asks_alone {C} w t a s m e f one =
    let none = none_there t (record s { post = record s.post { controls = without_control t s.post.controls } }) (omega (
      arith,
      at_most_one t s one,
      post_one t m s.post.controls e,
      post_without t s.post.controls,
      controls.parted t s.post.controls (map (λ c. c.inbox) s.cells) (map (λ c. c.outbox) s.cells),
      controls.parted t (without_control t s.post.controls) (map (λ c. c.inbox) s.cells) (map (λ c. c.outbox) s.cells),
    )) in
    record {
      posted = weaker (λ x. x.tid ≡ t → x ≡ m) (λ x. IsAt t a m.control x.tid (Go x.to x.control)) s.post.controls (λ x k i. let q = k i in ap (λ z. Go z.to z.control) q ∙ ap (λ z. Go z m.control) (eqb-true m.to a f))
          (only_one t m s.post.controls e (omega (arith, at_most_one t s one, controls.parted t s.post.controls (map (λ c. c.inbox) s.cells) (map (λ c. c.outbox) s.cells))));
      inboxes = λ b. weaker (λ x. x.tid ≡ t → ⊥) (λ x. IsAt t a m.control x.tid (Go b x.control)) (cell_at s b).inbox (λ x k i. absurd (k i)) (none.inboxes b);
      outboxes = λ b. weaker (λ x. x.tid ≡ t → ⊥) (λ x. IsAt t a m.control x.tid x.next) (cell_at s b).outbox (λ x k i. absurd (k i)) (none.outboxes b);
    }

joined_more : (vs : List ℕ) (q : Joined) (ps : List Joined) → is_among q.actor vs ≡ true → AllByRecursion (λ n. is_among n vs ≡ true) (map (λ p. p.actor) ps) → AllByRecursion (λ n. is_among n vs ≡ true) (map (λ p. p.actor) (ps ++ q ∷ []))
joined_more vs q [] i h = (i, tt)
joined_more vs q (p ∷ ps) i h = (h.0, joined_more vs q ps i h.1)

-- ---- each event

pub visited_kept : {C : Type 0} (w : Fixed C) (Of : Tx → C → Type 0) (finish : C → List State → Alone) (e : Event) (s : Machine C) (h : History) → Given w Of finish → IsAllowed w e s → AllGood w Of finish s h → AllControls (Visited w s.book.acts) s → AllControls (Visited w (after w e s).book.acts) (after w e s)
unfolding conditions ControlWalk.Ready acts.ReadyToo after
visited_kept w Of finish (Form k) s h v ok g r = ControlWalk.both (Visited w s.book.acts) (λ u n. Unit {0}) (Visited w (after w (Form k) s).book.acts) (after w (Form k) s) (λ t n p q. stays_visited w (Form k) s t n tt p)
    (ControlWalk.moves w (Form k) s (Visited w s.book.acts) ok (new_controls w s.ring.next_tid s.book.acts (ring.next_pacts w.text s.ring) (drawn s h g.acts) (numbered_from s.ring.next_tid s.ring.next_tid _ (omega arith))) r) (ControlWalk.trivial (after w (Form k) s))
visited_kept w Of finish (Admit t) s h v ok g r =
    let l : s.ring.next_tid ≤ t = omega (arith, eqb-true t s.ring.next_tid ok.0) in
    let vs = w.code.visited (w.code.start t (tx_at w.text (post.next_act s.ring))) in
    ControlWalk.both (Visited w s.book.acts) (λ u n. Unit {0}) (Visited w (after w (Admit t) s).book.acts) (after w (Admit t) s) (λ u n p q. stays_visited w (Admit t) s u n tt p)
    (ControlWalk.moves w (Admit t) s (Visited w s.book.acts) ok (none_new s.ring.next_tid t vs s.book.acts l (drawn s h g.acts)) r) (ControlWalk.trivial (after w (Admit t) s))
visited_kept {C} w Of finish (Run t a) s h v ok g r = ControlWalk.moves w (Run t a) s (Visited w s.book.acts) ok slices r
  where
    slices : (x : Waiting C) → waiting_of t (cell_at s a).inbox ≡ Some x → Visited w s.book.acts t (w.code.slice x.control (cell_at s a).state).next
    slices x e =
        let old = all_found (λ x. Visited w s.book.acts x.tid (Go a x.control)) (λ x. x.tid == t) (cell_at s a).inbox x (r.inboxes a) e in
        let told = all_found (λ x. Told w Of finish h x.tid (Go a x.control)) (λ x. x.tid == t) (cell_at s a).inbox x (g.good.told.inboxes a) e in
        on (tx_at w.text (h.trails x.tid).tx) (subst (λ z. EachAct (Within z (w.code.visited x.control)) s.book.acts) (eqb-true x.tid t old.1) old.0) told.0.of_it.0 (w.code.slice x.control (cell_at s a).state).next refl
      where
        on : (tx : Tx) → EachAct (Within t (w.code.visited x.control)) s.book.acts → Of tx x.control → (n : Next C) → (w.code.slice x.control (cell_at s a).state).next ≡ n → Visited w s.book.acts t n
        on tx p o (Go b d) q = λ u y f i. weaker (λ n. is_among n (w.code.visited x.control) ≡ true) (λ n. is_among n (w.code.visited d) ≡ true) (map (λ p. p.actor) y.places) (λ n k. v.facts.stood_before tx x.control d n b (record { from = (cell_at s a).state; of_it = o; goes = q }) k) (p u y f i)
        on tx p o (Ended z) q = tt
visited_kept {C} w Of finish (Ask t a) s h v ok g r = ControlWalk.both (λ u n. Visited w s.book.acts u n × OnVisited w u n) (IsAt t a m.0.control) (Visited w (after w (Ask t a) s).book.acts) (after w (Ask t a) s) (λ u n p q. one u n p.0 p.1 q)
    (ControlWalk.moves w (Ask t a) s (λ u n. Visited w s.book.acts u n × OnVisited w u n) ok tt (ControlWalk.both (Visited w s.book.acts) (OnVisited w) (λ u n. Visited w s.book.acts u n × OnVisited w u n) s (λ u n p q. (p, q)) r (on_visited w Of finish s h v g.good.told)))
    (ControlWalk.moves w (Ask t a) s (IsAt t a m.0.control) ok tt (asks_alone w t a s m.0 m.1 m.2 g.good.held))
  where
    m : (m : ControlMessage C) × (control_of t s.post.controls ≡ Some m) × ((m.to == a) ≡ true)
    m = one_is (λ m. m.to == a) (control_of t s.post.controls) ok.0

    here : (b : ℕ) (c d : C) → Go b c ≡ Go a d → b ≡ a
    here b c d e = cc e

    one : (u : ℕ) (n : Next C) → Visited w s.book.acts u n → OnVisited w u n → IsAt t a m.0.control u n → Visited w (after w (Ask t a) s).book.acts u n
    one u (Go b c) p o q = acts.acts_move w (Ask t a) s (Within u (w.code.visited c)) (holds_within u (w.code.visited c))
        (λ z x e k i. joined_more (w.code.visited c) (record { actor = a; prepared = false; vouched = false; finished = false }) x.places (subst (λ y. is_among y (w.code.visited c) ≡ true) (here b c m.0.control (q (sym i))) o) (k i)) p
    one u (Ended z) p o q = tt
visited_kept w Of finish e s h v ok g r = ControlWalk.both (Visited w s.book.acts) (λ u n. Unit {0}) (Visited w (after w e s).book.acts) (after w e s) (λ t n p q. stays_visited w e s t n tt p) (ControlWalk.moves w e s (Visited w s.book.acts) ok tt r) (ControlWalk.trivial (after w e s))

-- ---- at most sixteen

unfoldable pub FewActs : {C : Type 0} → Machine C → Type 0
FewActs s = EachAct (λ t x. length x.places ≤ 16) s.book.acts

few_holds : HoldsOpen (λ t x. length x.places ≤ 16)
few_holds = record {
  numbered = λ u x n p. p;
  noted = λ u a x f i j p. omega (arith, p, Times.length_map (λ p. book.mark_if (p.actor == a) f p) x.places);
  sealed = λ u x p. p;
  doomed = λ u x v l p. p;
  rises = λ u k x l p. p;
}

pub few_acts_kept : {C : Type 0} (w : Fixed C) (Of : Tx → C → Type 0) (finish : C → List State → Alone) (e : Event) (s : Machine C) (h : History) → Given w Of finish → IsAllowed w e s → AllGood w Of finish s h → Joins s → AllControls (Visited w s.book.acts) s → FewActs s → FewActs (after w e s)
unfolding FewActs Joins acts.ReadyToo conditions
few_acts_kept w Of finish (Admit t) s h v ok g j r f = acts.acts_move w (Admit t) s _ few_holds (λ e. omega arith) f
few_acts_kept w Of finish (End t a) s h v ok g j r f = acts.acts_move w (End t a) s _ few_holds (λ x n e p. p) f
few_acts_kept w Of finish (Decide t) s h v ok g j r f = acts.acts_move w (Decide t) s _ few_holds (λ x e p. p) f
few_acts_kept w Of finish (Finish t a) s h v ok g j r f = acts.acts_move w (Finish t a) s _ few_holds (λ x e p. omega (arith, p, Times.length_map (λ p. book.mark_if (p.actor == a) book.has_left p) x.places)) f
few_acts_kept {C} w Of finish (Ask t a) s h v ok g j r f = acts.acts_move w (Ask t a) s _ few_holds (λ z x e p. few x e) f
  where
    m : (m : ControlMessage C) × (control_of t s.post.controls ≡ Some m) × ((m.to == a) ≡ true)
    m = one_is (λ m. m.to == a) (control_of t s.post.controls) ok.0

    few : (x : Act) → act_of t s.book.acts ≡ Some x → length (x.places ++ record { actor = a; prepared = false; vouched = false; finished = false } ∷ []) ≤ 16
    few x e =
        let q : Joined = record { actor = a; prepared = false; vouched = false; finished = false } in
        let old = all_found (λ m. Visited w s.book.acts m.tid (Go m.to m.control)) (λ m. m.tid == t) s.post.controls m.0 r.posted m.1 in
        let told = all_found (λ m. Told w Of finish h m.tid (Go m.to m.control)) (λ m. m.tid == t) s.post.controls m.0 g.good.told.posted m.1 in
        let there = all_found (λ m. OnVisited w m.tid (Go m.to m.control)) (λ m. m.tid == t) s.post.controls m.0 (on_visited w Of finish s h v g.good.told).posted m.1 in
        let among = joined_more (w.code.visited m.0.control) q x.places (subst (λ z. is_among z (w.code.visited m.0.control) ≡ true) (eqb-true m.0.to a m.2) there.0) (old.0 t x e (sym (eqb-true m.0.tid t old.1))) in
        let apart = apart_more a q x.places refl (asks_new w t a s h ok g.none g.acts g.left g.standing x e) (j t x e) in
        omega (arith, no_more_than (map (λ p. p.actor) (x.places ++ q ∷ [])) (w.code.visited m.0.control) apart among, Times.length_map (λ p. p.actor) (x.places ++ q ∷ []), v.facts.few_actors (tx_at w.text (h.trails m.0.tid).tx) m.0.control told.0.of_it.0)
few_acts_kept w Of finish e s h v ok g j r f = acts.acts_move w e s _ few_holds tt f

-- ---- the opening

no_waiting : {C : Type 0} (low : ℕ) (states : List State) (a : ℕ) → ((slice_index_or (map (new_cell {C = C} low) states) a no_cell).inbox ≡ []) × ((slice_index_or (map (new_cell {C = C} low) states) a no_cell).outbox ≡ [])
no_waiting low [] a = (refl, refl)
no_waiting low (x ∷ xs) zero = (refl, refl)
no_waiting low (x ∷ xs) (suc a) = no_waiting low xs a

pub visited_opened : {C : Type 0} (w : Fixed C) → AllControls (Visited w (opening w).book.acts) (opening w)
visited_opened w = record {
  posted = tt;
  inboxes = λ a. subst (AllByRecursion (λ x. Visited w [] x.tid (Go a x.control))) (sym (no_waiting (base w.text) w.text.opening.states a).0) tt;
  outboxes = λ a. subst (AllByRecursion (λ x. Visited w [] x.tid x.next)) (sym (no_waiting (base w.text) w.text.opening.states a).1) tt;
}
