-- Who may still commit and has no result has a control.
use Rattle.std.specs.Prelude.{◌≡◌, refl, ℕ, zero, suc, ◌+◌, ◌<◌, ◌≤◌, ◌==◌, not, Bool, true, false, ◌||◌, ◌⊎◌, if◌then◌else◌, Option, Some, None, is_some, List, [], ◌∷◌, ◌++◌, length, map, filter, take, slice_index_or}
use Rattle.std.specs.List.{AllByRecursion, list_any, list_all}
use Rattle.std.proofs.Common.{arith, sym, ap, subst, inl, inr, ◌∙◌}
use Rattle.std.proofs.lemmas.Bool.{true≢false, eqb-true, eqb-false, eq-eqb, ne_eqb, or_cases, and_parts, not-true, cases_Bool, false_from_ne_true}
use Rattle.snap_base.specs.declared.transactions.State.{State}
use Rattle.snap_base.specs.declared.transactions.Tx.{Tx}
use Rattle.snap_base.specs.declared.transactions.TxResult.{TxResult}
use Rattle.protocol.specs.Facts.{Alone}
use Rattle.protocol.specs.Fixed.{Fixed, Next, Go, Ended, Code}
use Rattle.protocol.specs.Parts.{Act, Batch, Pact, Slot, Who, OfBatch, OfAct, ControlMessage, Waiting, Outcome, Entry, BatchEntry, ActEntry, Cell, Machine}
use Rattle.protocol.specs.Events.{Event, Form, Admit, Ask, Take, Send, End, DropControl, Decide}
use Rattle.protocol.specs.Words.{holds, who_on, is_open, is_formed, is_going, is_ended, names_pact, act_of, batch_of, has_act, control_of, without_control, waiting_of, outcome_of}
use Rattle.protocol.specs.Numbers.{flat, times, one_if, waiting_tids, outcome_tids, tids_of_controls, controls_in}
use Rattle.protocol.specs.Conditions.{IsAllowed, conditions, queue}
use Rattle.protocol.specs.Effects.{after, cell_at, puts, no_cell}
use Rattle.protocol.specs.OnRing as ring
use Rattle.protocol.specs.OnPost as post
use Rattle.protocol.specs.OnBook as book
use Rattle.protocol.specs.OnDesk as desk
use Rattle.protocol.specs.OnCell as cell
use Rattle.protocol.specs.History.{History, grown, with_at, owned_by}
use Rattle.protocol_laws.specs.Told.{EachAct}
use Rattle.protocol_laws.specs.FromDesk.{is_pact_of, EntryOf, FromDesk}
use Rattle.protocol_laws.proofs.first.Times
use Rattle.protocol_laws.proofs.first.Controls as controls
use Rattle.protocol_laws.proofs.machine.TrailsKept as trails
use Rattle.protocol_laws.proofs.machine.TracksKept.{held}
use Rattle.protocol_laws.proofs.machine.TurnsKept.{one_is}
use Rattle.protocol_laws.proofs.machine.FromDeskKept as desks
use Rattle.protocol_laws.proofs.machine.ActsFound as acts
use Rattle.protocol_laws.proofs.machine.ActsFound.{Holds}
use Rattle.protocol_theorems.proofs.order.NamesKept as names
use Rattle.protocol_theorems.proofs.order.NamesKept.{Named}
use Rattle.protocol_theorems.proofs.order.RunsBefore.{lives, is_open_with}
use Rattle.protocol_theorems.proofs.order.SlicesKept.{runs}
use Rattle.protocol_laws.proofs.machine.AllGood.{AllGood}
use Rattle.protocol_theorems.proofs.quiet.JoinsKept as joins
use Rattle.protocol_theorems.proofs.quiet.EnteredKept as entering
use Rattle.protocol_theorems.proofs.quiet.EnteredKept.{Entered}
use Rattle.protocol_laws.proofs.first.Lists.{all_join, all_filter, both_all}

-- ---- whose a control is

abbrev pub IsWhose : {C : Type 0} → (ℕ → Who) → ControlMessage C → Type 0
IsWhose owners m = (m.who ≡ OfAct m.tid) ⊎ (m.who ≡ owners m.tid)

unfoldable pub Whose : {C : Type 0} → Machine C → History → Type 0
Whose s h = AllByRecursion (IsWhose h.owners) s.post.controls

still : {C : Type 0} (next : ℕ) (f g : ℕ → Who) (cs : List (ControlMessage C)) → ((t : ℕ) → t < next → g t ≡ f t) → AllByRecursion (λ m. m.tid < next) cs → AllByRecursion (IsWhose f) cs → AllByRecursion (IsWhose g) cs
still {C} next f g cs k l h = both_all (λ m. m.tid < next) (IsWhose f) (IsWhose g) cs (λ m v p. one m v p) l h
  where
    one : (m : ControlMessage C) → m.tid < next → IsWhose f m → IsWhose g m
    one m l (inl e) = inl e
    one m l (inr e) = inr (e ∙ sym (k m.tid l))

new_ones : {C : Type 0} (w : Fixed C) (k t : ℕ) (ns : List ℕ) (f g : ℕ → Who) → ((u : ℕ) → t ≤ u → g u ≡ owned_by k (ring.numbered t ns) f u) → AllByRecursion (IsWhose g) (map (λ q. post.first_control w (OfBatch k) q.tid q.tx) (ring.numbered t ns))
new_ones w k t [] f g e = tt
new_ones w k t (n ∷ ns) f g e = (inr (sym (e t (omega arith) ∙ rw (eq-eqb t t refl) refl)), new_ones w k (t + 1) ns f g (λ u q. e u (omega (arith, q)) ∙ rw (ne_eqb u t (λ v. omega (arith, v, q))) refl))

-- who an entry says
who_is : {C : Type 0} (s : Machine C) (h : History) (a t : ℕ) (es : List Entry) → Named s h → AllByRecursion (EntryOf a s.desk.batches) es → (who_on t es ≡ OfAct t) ⊎ (who_on t es ≡ h.owners t)
who_is s h a t [] g d = inl refl
who_is s h a t (BatchEntry b ∷ es) g d = by (Rattle.protocol.specs.Words.names_slot t b) refl (who_is s h a t es g d.1)
  where
    named : (ss : List Slot) → list_any (λ s. s.tid == t) ss ≡ true → AllByRecursion (λ z. is_pact_of z.tid b.bid s.desk.batches ≡ true) ss → is_pact_of t b.bid s.desk.batches ≡ true
    named [] e q = absurd (true≢false (sym e))
    named (x ∷ xs) e q = elim (or_cases (x.tid == t) (list_any (λ s. s.tid == t) xs) e) [ inl i ↦ subst (λ z. is_pact_of z b.bid s.desk.batches ≡ true) (eqb-true x.tid t i) q.0 | inr i ↦ named xs i q.1 ]

    by : (v : Bool) → Rattle.protocol.specs.Words.names_slot t b ≡ v → (who_on t es ≡ OfAct t) ⊎ (who_on t es ≡ h.owners t) → ((if v then OfBatch b.bid else who_on t es) ≡ OfAct t) ⊎ ((if v then OfBatch b.bid else who_on t es) ≡ h.owners t)
    by true e r = inr (sym (names.batch_owns s.ring.next_tid b.bid t h.owners h.trails s.desk.batches g.pacts (named b.slots e d.0.1)))
    by false e r = r
who_is s h a t (ActEntry x ∷ es) g d = by (x.tid == t) refl (who_is s h a t es g d.1)
  where
    by : (v : Bool) → (x.tid == t) ≡ v → (who_on t es ≡ OfAct t) ⊎ (who_on t es ≡ h.owners t) → ((if v then OfAct x.tid else who_on t es) ≡ OfAct t) ⊎ ((if v then OfAct x.tid else who_on t es) ≡ h.owners t)
    by true e r = inl (ap OfAct (eqb-true x.tid t e))
    by false e r = r

sends : {C : Type 0} (owners : ℕ → Who) (t : ℕ) (who : Who) (xs : List (Outcome C)) (o : Option (Outcome C)) → outcome_of t xs ≡ o → (who ≡ OfAct t) ⊎ (who ≡ owners t) → AllByRecursion (IsWhose owners) (post.handed_on who o)
sends owners t who xs None e h = tt
sends {C} owners t who xs (Some x) e h = by x.next
  where
    tid_of : (xs : List (Outcome C)) → outcome_of t xs ≡ Some x → x.tid ≡ t
    tid_of [] e = absurd (cc e)
    tid_of (y ∷ ys) e = at (y.tid == t) refl e (tid_of ys)
      where
        at : (v : Bool) → (y.tid == t) ≡ v → (if v then Some y else outcome_of t ys) ≡ Some x → (outcome_of t ys ≡ Some x → x.tid ≡ t) → x.tid ≡ t
        at true q e r = let i : y ≡ x = cc e in subst (λ z. z.tid ≡ t) i (eqb-true y.tid t q)
        at false q e r = r e

    by : (n : Next C) → AllByRecursion (IsWhose owners) (post.going_on who x.tid n)
    by (Go b c) = (subst (λ z. (who ≡ OfAct z) ⊎ (who ≡ owners z)) (sym (tid_of xs e)) h, tt)
    by (Ended r) = tt

pub whose_kept : {C : Type 0} (w : Fixed C) (e : Event) (s : Machine C) (h : History) → IsAllowed w e s → controls.HeldIn s → FromDesk s → Named s h → Whose s h → Whose (after w e s) (grown w e s h)
unfolding Whose conditions after grown
whose_kept w (Form k) s h ok one d n g =
    let asc = trails.new_tids s.ring.next_tid s.ring.next_tid (take w.text.batch (queue s.ring.pacts s.ring.holder)) (omega arith) in
    all_join (IsWhose (owned_by k (ring.next_pacts w.text s.ring) h.owners)) s.post.controls _ (still s.ring.next_tid h.owners (owned_by k (ring.next_pacts w.text s.ring) h.owners) s.post.controls (λ t l. names.owned_below k (ring.next_pacts w.text s.ring) s.ring.next_tid t h.owners asc l) (trails.drawn s one).posted g)
    (new_ones w k s.ring.next_tid (take w.text.batch (queue s.ring.pacts s.ring.holder)) h.owners (owned_by k (ring.next_pacts w.text s.ring) h.owners) (λ u l. refl))
whose_kept w (Admit t) s h ok one d n g =
    all_join (IsWhose (with_at t (OfAct t) h.owners)) s.post.controls _ (still s.ring.next_tid h.owners (with_at t (OfAct t) h.owners) s.post.controls (λ u l. rw (ne_eqb u t (λ q. omega (arith, q, l, eqb-true t s.ring.next_tid ok.0))) refl) (trails.drawn s one).posted g) (inl refl, tt)
whose_kept w (Ask t a) s h ok one d n g = all_filter (IsWhose h.owners) _ s.post.controls g
whose_kept w (Take t a) s h ok one d n g = all_filter (IsWhose h.owners) _ s.post.controls g
whose_kept w (DropControl t) s h ok one d n g = all_filter (IsWhose h.owners) _ s.post.controls g
whose_kept w (Send t a) s h ok one d n g = all_join (IsWhose h.owners) s.post.controls _ g (sends h.owners t (who_on t (cell_at s a).entries) (cell_at s a).outbox (outcome_of t (cell_at s a).outbox) refl (who_is s h a t (cell_at s a).entries n (d.entries a)))
whose_kept w e s h ok one d n g = g

-- ---- counts

pub others : {X : Type 0} (u t : ℕ) (f : X → ℕ) (xs : List X) → (u ≡ t → ⊥) → times u (map f (filter (λ x. not (f x == t)) xs)) ≡ times u (map f xs)
others u t f [] n = refl
others u t f (x ∷ xs) n = by (f x == t) refl (others u t f xs n)
  where
    by : (b : Bool) → (f x == t) ≡ b → times u (map f (filter (λ x. not (f x == t)) xs)) ≡ times u (map f xs) → times u (map f (if not b then x ∷ filter (λ x. not (f x == t)) xs else filter (λ x. not (f x == t)) xs)) ≡ times u (f x ∷ map f xs)
    by true e h = omega (arith, h, Times.times_cons u (f x) (map f xs), ap one_if (ne_eqb (f x) u (λ q. n (sym q ∙ eqb-true (f x) t e))))
    by false e h = omega (arith, h, Times.times_cons u (f x) (map f xs), Times.times_cons u (f x) (map f (filter (λ x. not (f x == t)) xs)))

pub spared : {X : Type 0} (u : ℕ) (gone : List Entry) (f : X → ℕ) (xs : List X) → cell.is_tid_among u gone ≡ false → times u (map f (filter (λ x. not (cell.is_tid_among (f x) gone)) xs)) ≡ times u (map f xs)
spared u gone f [] n = refl
spared u gone f (x ∷ xs) n = by (cell.is_tid_among (f x) gone) refl (spared u gone f xs n)
  where
    by : (b : Bool) → cell.is_tid_among (f x) gone ≡ b → times u (map f (filter (λ x. not (cell.is_tid_among (f x) gone)) xs)) ≡ times u (map f xs)
        → times u (map f (if not b then x ∷ filter (λ x. not (cell.is_tid_among (f x) gone)) xs else filter (λ x. not (cell.is_tid_among (f x) gone)) xs)) ≡ times u (f x ∷ map f xs)
    by true e h = omega (arith, h, Times.times_cons u (f x) (map f xs), ap one_if (ne_eqb (f x) u (λ q. true≢false (sym (subst (λ z. cell.is_tid_among z gone ≡ true) q e) ∙ n))))
    by false e h = omega (arith, h, Times.times_cons u (f x) (map f xs), Times.times_cons u (f x) (map f (filter (λ x. not (cell.is_tid_among (f x) gone)) xs)))

one_there : (t n : ℕ) → n ≡ t → times t (n ∷ []) ≡ 1
one_there t n e = omega (arith, Times.times_cons t n [], ap one_if (eq-eqb n t e))

inbox_set : {C : Type 0} (u : ℕ) (s : Machine C) (a : ℕ) (c : Cell C) → a < length s.cells
    → times u (flat (map waiting_tids (map (λ c. c.inbox) (puts s a c)))) + times u (waiting_tids (cell_at s a).inbox) ≡ times u (flat (map waiting_tids (map (λ c. c.inbox) s.cells))) + times u (waiting_tids c.inbox)
inbox_set u s a c r =
    rw (Times.map_set (λ c. c.inbox) s.cells a c, Times.map_set waiting_tids (map (λ c. c.inbox) s.cells) a c.inbox, sym (Times.map_at (λ c. c.inbox) s.cells a no_cell), sym (Times.map_at waiting_tids (map (λ c. c.inbox) s.cells) a []))
    (Times.times_set u (map waiting_tids (map (λ c. c.inbox) s.cells)) a (waiting_tids c.inbox) (omega (arith, r, Times.length_map waiting_tids (map (λ c. c.inbox) s.cells), Times.length_map (λ c. c.inbox) s.cells)))

outbox_set : {C : Type 0} (u : ℕ) (s : Machine C) (a : ℕ) (c : Cell C) → a < length s.cells
    → times u (flat (map outcome_tids (map (λ c. c.outbox) (puts s a c)))) + times u (outcome_tids (cell_at s a).outbox) ≡ times u (flat (map outcome_tids (map (λ c. c.outbox) s.cells))) + times u (outcome_tids c.outbox)
outbox_set u s a c r =
    rw (Times.map_set (λ c. c.outbox) s.cells a c, Times.map_set outcome_tids (map (λ c. c.outbox) s.cells) a c.outbox, sym (Times.map_at (λ c. c.outbox) s.cells a no_cell), sym (Times.map_at outcome_tids (map (λ c. c.outbox) s.cells) a []))
    (Times.times_set u (map outcome_tids (map (λ c. c.outbox) s.cells)) a (outcome_tids c.outbox) (omega (arith, r, Times.length_map outcome_tids (map (λ c. c.outbox) s.cells), Times.length_map (λ c. c.outbox) s.cells)))

at_most_flat : (u : ℕ) (xss : List (List ℕ)) (i : ℕ) → times u (slice_index_or xss i []) ≤ times u (flat xss)
at_most_flat u [] i = omega arith
at_most_flat u (xs ∷ xss) zero = omega (arith, Times.times_append u xs (flat xss))
at_most_flat u (xs ∷ xss) (suc i) = omega (arith, Times.times_append u xs (flat xss), at_most_flat u xss i)

inbox_in : {C : Type 0} (u : ℕ) (s : Machine C) (a : ℕ) → times u (waiting_tids (cell_at s a).inbox) ≤ times u (flat (map waiting_tids (map (λ c. c.inbox) s.cells)))
inbox_in u s a = rw (sym (Times.map_at (λ c. c.inbox) s.cells a no_cell), sym (Times.map_at waiting_tids (map (λ c. c.inbox) s.cells) a [])) (at_most_flat u (map waiting_tids (map (λ c. c.inbox) s.cells)) a)

pub outbox_in : {C : Type 0} (u : ℕ) (s : Machine C) (a : ℕ) → times u (outcome_tids (cell_at s a).outbox) ≤ times u (flat (map outcome_tids (map (λ c. c.outbox) s.cells)))
outbox_in u s a = rw (sym (Times.map_at (λ c. c.outbox) s.cells a no_cell), sym (Times.map_at outcome_tids (map (λ c. c.outbox) s.cells) a [])) (at_most_flat u (map outcome_tids (map (λ c. c.outbox) s.cells)) a)

-- what lies in the post and in one cell
local : {C : Type 0} → ℕ → List (ControlMessage C) → Cell C → ℕ
local u cs c = times u (map (λ m. m.tid) cs) + times u (waiting_tids c.inbox) + times u (outcome_tids c.outbox)

-- where the post and a cell become others, and there is no less there
no_less : {C : Type 0} (u : ℕ) (s : Machine C) (a : ℕ) (cs : List (ControlMessage C)) (c : Cell C) → a < length s.cells → local u s.post.controls (cell_at s a) ≤ local u cs c → 1 ≤ times u (controls_in s)
    → 1 ≤ times u (tids_of_controls cs (map (λ c. c.inbox) (puts s a c)) (map (λ c. c.outbox) (puts s a c)))
unfolding local
no_less u s a cs c r l h =
    omega (arith, l, h, controls.parted u cs (map (λ c. c.inbox) (puts s a c)) (map (λ c. c.outbox) (puts s a c)), controls.parted u s.post.controls (map (λ c. c.inbox) s.cells) (map (λ c. c.outbox) s.cells), inbox_set u s a c r, outbox_set u s a c r)

-- or one is there now
one_here : {C : Type 0} (u : ℕ) (s : Machine C) (a : ℕ) (cs : List (ControlMessage C)) (c : Cell C) → a < length s.cells → 1 ≤ local u cs c
    → 1 ≤ times u (tids_of_controls cs (map (λ c. c.inbox) (puts s a c)) (map (λ c. c.outbox) (puts s a c)))
unfolding local
one_here u s a cs c r l =
    omega (arith, l, controls.parted u cs (map (λ c. c.inbox) (puts s a c)) (map (λ c. c.outbox) (puts s a c)), inbox_set u s a c r, outbox_set u s a c r, inbox_in u s a, outbox_in u s a)

pub moved_post : {C : Type 0} (u : ℕ) (cs new : List (ControlMessage C)) (ins : List (List (Waiting C))) (outs : List (List (Outcome C))) → 1 ≤ times u (tids_of_controls cs ins outs) → 1 ≤ times u (tids_of_controls (cs ++ new) ins outs)
moved_post u cs new ins outs h = omega (arith, h, controls.parted u cs ins outs, controls.parted u (cs ++ new) ins outs, ap (times u) (Times.map_join (λ m. m.tid) cs new), Times.times_append u (map (λ m. m.tid) cs) (map (λ m. m.tid) new))

pub new_post : {C : Type 0} (u : ℕ) (cs new : List (ControlMessage C)) (ins : List (List (Waiting C))) (outs : List (List (Outcome C))) → 1 ≤ times u (map (λ m. m.tid) new) → 1 ≤ times u (tids_of_controls (cs ++ new) ins outs)
new_post u cs new ins outs h = omega (arith, h, controls.parted u (cs ++ new) ins outs, ap (times u) (Times.map_join (λ m. m.tid) cs new), Times.times_append u (map (λ m. m.tid) cs) (map (λ m. m.tid) new))

-- ---- a control arrives, runs, is sent

found_one : {C : Type 0} (t : ℕ) (p : ControlMessage C → Bool) (cs : List (ControlMessage C)) → holds p (control_of t cs) ≡ true → times t (map (λ x. x.tid) (cell.arrived (control_of t cs))) ≡ 1
found_one t p [] h = absurd (true≢false (sym h))
found_one t p (m ∷ cs) h = by (m.tid == t) refl h (found_one t p cs)
  where
    by : (v : Bool) → (m.tid == t) ≡ v → holds p (if v then Some m else control_of t cs) ≡ true → (holds p (control_of t cs) ≡ true → times t (map (λ x. x.tid) (cell.arrived (control_of t cs))) ≡ 1) → times t (map (λ x. x.tid) (cell.arrived (if v then Some m else control_of t cs))) ≡ 1
    by true e h r = one_there t m.tid (eqb-true m.tid t e)
    by false e h r = r h

pub comes : {C : Type 0} (u t : ℕ) (p : ControlMessage C → Bool) (s : Machine C) (a : ℕ) (c : Cell C) → a < length s.cells → holds p (control_of t s.post.controls) ≡ true → c.inbox ≡ (cell_at s a).inbox ++ cell.arrived (control_of t s.post.controls) → c.outbox ≡ (cell_at s a).outbox → 1 ≤ times u (controls_in s)
    → 1 ≤ times u (tids_of_controls (without_control t s.post.controls) (map (λ c. c.inbox) (puts s a c)) (map (λ c. c.outbox) (puts s a c)))
unfolding local
comes u t p s a c r q e f h = elim (cases_Bool (u == t)) [
  | inl i ↦
      let j : u ≡ t = eqb-true u t i in
      one_here u s a (without_control t s.post.controls) c r (omega (
        arith,
        subst (λ z. times z (map (λ x. x.tid) (cell.arrived (control_of t s.post.controls))) ≡ 1) (sym j) (found_one t p s.post.controls q),
        ap (λ z. times u (waiting_tids z)) e,
        ap (times u) (Times.map_join (λ x. x.tid) (cell_at s a).inbox (cell.arrived (control_of t s.post.controls))),
        Times.times_append u (waiting_tids (cell_at s a).inbox) (waiting_tids (cell.arrived (control_of t s.post.controls))),
      ))
  | inr i ↦ no_less u s a (without_control t s.post.controls) c r (omega (
    arith,
    others u t (λ m. m.tid) s.post.controls (eqb-false u t i),
    ap (λ z. times u (outcome_tids z)) f,
    ap (λ z. times u (waiting_tids z)) e,
    ap (times u) (Times.map_join (λ x. x.tid) (cell_at s a).inbox (cell.arrived (control_of t s.post.controls))),
    Times.times_append u (waiting_tids (cell_at s a).inbox) (waiting_tids (cell.arrived (control_of t s.post.controls))),
  )) h
]

ran_one : {C : Type 0} (code : Code C) (t : ℕ) (st : State) (xs : List (Waiting C)) → is_some (waiting_of t xs) ≡ true → times t (outcome_tids (cell.outcomes t (cell.sliced code st (waiting_of t xs)))) ≡ 1
ran_one {C} code t st xs h = by (waiting_of t xs) h
  where
    by : (o : Option (Waiting C)) → is_some o ≡ true → times t (outcome_tids (cell.outcomes t (cell.sliced code st o))) ≡ 1
    by None h = absurd (true≢false (sym h))
    by (Some x) h = one_there t t refl

pub runs_on : {C : Type 0} (w : Fixed C) (u t a : ℕ) (s : Machine C) → a < length s.cells → is_some (waiting_of t (cell_at s a).inbox) ≡ true → 1 ≤ times u (controls_in s)
    → 1 ≤ times u (tids_of_controls s.post.controls (map (λ c. c.inbox) (puts s a (cell.slice_run w.code t a (cell_at s a)))) (map (λ c. c.outbox) (puts s a (cell.slice_run w.code t a (cell_at s a)))))
unfolding local
runs_on w u t a s r q h =
    let c = cell.slice_run w.code t a (cell_at s a) in
    let new = cell.outcomes t (cell.slice_of w.code t (cell_at s a)) in
    elim (cases_Bool (u == t)) [
      | inl i ↦
          let j : u ≡ t = eqb-true u t i in
          one_here u s a s.post.controls c r (omega (
            arith,
            subst (λ z. times z (outcome_tids new) ≡ 1) (sym j) (ran_one w.code t (cell_at s a).state (cell_at s a).inbox q),
            ap (times u) (Times.map_join (λ x. x.tid) (cell_at s a).outbox new),
            Times.times_append u (outcome_tids (cell_at s a).outbox) (outcome_tids new),
          ))
      | inr i ↦ no_less u s a s.post.controls c r (omega (
        arith,
        others u t (λ x. x.tid) (cell_at s a).inbox (eqb-false u t i),
        ap (times u) (Times.map_join (λ x. x.tid) (cell_at s a).outbox new),
        Times.times_append u (outcome_tids (cell_at s a).outbox) (outcome_tids new),
      )) h
    ]

going_one : {C : Type 0} (t : ℕ) (who : Who) (xs : List (Outcome C)) → holds (λ x. is_going x.next) (outcome_of t xs) ≡ true → times t (map (λ m. m.tid) (post.handed_on who (outcome_of t xs))) ≡ 1
going_one t who [] h = absurd (true≢false (sym h))
going_one {C} t who (x ∷ xs) h = by (x.tid == t) refl h (going_one t who xs)
  where
    at : (n : Next C) → x.tid ≡ t → is_going n ≡ true → times t (map (λ m. m.tid) (post.going_on who x.tid n)) ≡ 1
    at (Go b c) e h = one_there t x.tid e
    at (Ended r) e h = absurd (true≢false (sym h))

    by : (v : Bool) → (x.tid == t) ≡ v → holds (λ x. is_going x.next) (if v then Some x else outcome_of t xs) ≡ true → (holds (λ x. is_going x.next) (outcome_of t xs) ≡ true → times t (map (λ m. m.tid) (post.handed_on who (outcome_of t xs))) ≡ 1)
        → times t (map (λ m. m.tid) (post.handed_on who (if v then Some x else outcome_of t xs))) ≡ 1
    by true e h r = at x.next (eqb-true x.tid t e) h
    by false e h r = r h

pub sends_on : {C : Type 0} (u t a : ℕ) (s : Machine C) → a < length s.cells → holds (λ x. is_going x.next) (outcome_of t (cell_at s a).outbox) ≡ true → 1 ≤ times u (controls_in s)
    → 1 ≤ times u (tids_of_controls (post.sent (who_on t (cell_at s a).entries) (outcome_of t (cell_at s a).outbox) s.post).controls (map (λ c. c.inbox) (puts s a (cell.outcome_taken t (cell_at s a)))) (map (λ c. c.outbox) (puts s a (cell.outcome_taken t (cell_at s a)))))
unfolding local
sends_on u t a s r q h =
    let c = cell.outcome_taken t (cell_at s a) in
    let new = post.handed_on (who_on t (cell_at s a).entries) (outcome_of t (cell_at s a).outbox) in
    elim (cases_Bool (u == t)) [
      | inl i ↦
          let j : u ≡ t = eqb-true u t i in
          one_here u s a (s.post.controls ++ new) c r (omega (
            arith,
            subst (λ z. times z (map (λ m. m.tid) new) ≡ 1) (sym j) (going_one t (who_on t (cell_at s a).entries) (cell_at s a).outbox q),
            ap (times u) (Times.map_join (λ m. m.tid) s.post.controls new),
            Times.times_append u (map (λ m. m.tid) s.post.controls) (map (λ m. m.tid) new),
          ))
      | inr i ↦ no_less u s a (s.post.controls ++ new) c r (omega (
        arith,
        others u t (λ x. x.tid) (cell_at s a).outbox (eqb-false u t i),
        ap (times u) (Times.map_join (λ m. m.tid) s.post.controls new),
        Times.times_append u (map (λ m. m.tid) s.post.controls) (map (λ m. m.tid) new),
      )) h
    ]

pub ends_other : {C : Type 0} (u t a : ℕ) (s : Machine C) → a < length s.cells → (u ≡ t → ⊥) → 1 ≤ times u (controls_in s) → 1 ≤ times u (tids_of_controls s.post.controls (map (λ c. c.inbox) (puts s a (cell.outcome_taken t (cell_at s a)))) (map (λ c. c.outbox) (puts s a (cell.outcome_taken t (cell_at s a)))))
unfolding local
ends_other u t a s r n h = no_less u s a s.post.controls (cell.outcome_taken t (cell_at s a)) r (omega (arith, others u t (λ x. x.tid) (cell_at s a).outbox n)) h

pub leaves_on : {C : Type 0} (u a : ℕ) (gone : List Entry) (s : Machine C) (c : Cell C) → a < length s.cells → cell.is_tid_among u gone ≡ false → c.inbox ≡ cell.inbox_without gone (cell_at s a).inbox → c.outbox ≡ cell.outbox_without gone (cell_at s a).outbox → 1 ≤ times u (controls_in s)
    → 1 ≤ times u (tids_of_controls s.post.controls (map (λ c. c.inbox) (puts s a c)) (map (λ c. c.outbox) (puts s a c)))
unfolding local
leaves_on u a gone s c r n e f h = no_less u s a s.post.controls c r (omega (arith, ap (λ z. times u (waiting_tids z)) e, ap (λ z. times u (outcome_tids z)) f, spared u gone (λ x. x.tid) (cell_at s a).inbox n, spared u gone (λ x. x.tid) (cell_at s a).outbox n)) h

pub drops_other : {C : Type 0} (u t : ℕ) (s : Machine C) → (u ≡ t → ⊥) → 1 ≤ times u (controls_in s) → 1 ≤ times u (tids_of_controls (without_control t s.post.controls) (map (λ c. c.inbox) s.cells) (map (λ c. c.outbox) s.cells))
drops_other u t s n h = omega (arith, h, others u t (λ m. m.tid) s.post.controls n, controls.parted u s.post.controls (map (λ c. c.inbox) s.cells) (map (λ c. c.outbox) s.cells), controls.parted u (without_control t s.post.controls) (map (λ c. c.inbox) s.cells) (map (λ c. c.outbox) s.cells))

pub same_places : {C : Type 0} (u : ℕ) (cs cs' : List (ControlMessage C)) (ins ins' : List (List (Waiting C))) (outs outs' : List (List (Outcome C))) → cs' ≡ cs → ins' ≡ ins → outs' ≡ outs → 1 ≤ times u (tids_of_controls cs ins outs) → 1 ≤ times u (tids_of_controls cs' ins' outs')
same_places u cs cs' ins ins' outs outs' a b c h = rw (a, b, c) h

-- ---- results stay

abbrev pub is_resulted : ℕ → Batch → Bool
is_resulted t b = list_all (λ p. not (p.tid == t) || is_some p.result) b.pacts

-- it has its result
unfoldable pub Resulted : {C : Type 0} → Machine C → Who → ℕ → Type 0
Resulted s (OfBatch k) t = holds (is_resulted t) (batch_of k s.desk.batches) ≡ true
Resulted s (OfAct u) t = EachAct (λ v x. v ≡ t → is_some x.result ≡ true) s.book.acts

noted_more : (t u : ℕ) (r : TxResult) (ps : List Pact) → list_all (λ p. not (p.tid == t) || is_some p.result) ps ≡ true → list_all (λ p. not (p.tid == t) || is_some p.result) (map (desk.with_result u r) ps) ≡ true
noted_more t u r [] h = h
noted_more t u r (p ∷ ps) h = let q = and_parts (not (p.tid == t) || is_some p.result) (list_all (λ p. not (p.tid == t) || is_some p.result) ps) h in rw (by (p.tid == u) (not (p.tid == t)) p.result q.0, noted_more t u r ps q.1) refl
  where
    by : (v n : Bool) (o : Option TxResult) → (n || is_some o) ≡ true → (n || is_some (if v then Some r else o)) ≡ true
    by true true o h = refl
    by true false o h = refl
    by false n o h = h

resulted_fixed : (t : ℕ) → desks.Fixedly (is_resulted t)
resulted_fixed t = record { places = λ b a f i h. h; pacts = λ b u r h. by b.aborted b u r h; stage = λ b st h. h; aborted = λ b v h. h }
  where
    by : (v : Bool) (b : Batch) (u : ℕ) (r : TxResult) → is_resulted t b ≡ true → list_all (λ p. not (p.tid == t) || is_some p.result) (if v then b.pacts else map (desk.with_result u r) b.pacts) ≡ true
    by true b u r h = h
    by false b u r h = noted_more t u r b.pacts h

resulted_holds : (t : ℕ) → Holds (λ v x. v ≡ t → is_some x.result ≡ true)
resulted_holds t = record { numbered = λ u x n p. p; marked = λ u a x f i p. p; sealed = λ u x p. p; doomed = λ u x v l p. p; rises = λ u k x l p. p }

pub resulted_stays : {C : Type 0} (w : Fixed C) (e : Event) (s : Machine C) (who : Who) (t : ℕ) → IsAllowed w e s → t < s.ring.next_tid → Resulted s who t → Resulted (after w e s) who t
unfolding Resulted acts.Ready conditions
resulted_stays w e s (OfBatch k) t ok l h = desks.desk_stays w e s (is_resulted t) (resulted_fixed t) k h
resulted_stays w (Admit v) s (OfAct u) t ok l h = acts.acts_keep w (Admit v) s (λ v x. v ≡ t → is_some x.result ≡ true) (resulted_holds t) (λ n i. absurd (omega (arith, i, l, eqb-true v s.ring.next_tid ok.0))) h
resulted_stays w (Ask v a) s (OfAct u) t ok l h = acts.acts_keep w (Ask v a) s (λ v x. v ≡ t → is_some x.result ≡ true) (resulted_holds t) (λ x e p. p) h
resulted_stays w (End v a) s (OfAct u) t ok l h = acts.acts_keep w (End v a) s (λ v x. v ≡ t → is_some x.result ≡ true) (resulted_holds t) (λ x r e p i. refl) h
resulted_stays w (Decide v) s (OfAct u) t ok l h = acts.acts_keep w (Decide v) s (λ v x. v ≡ t → is_some x.result ≡ true) (resulted_holds t) (λ x e p. p) h
resulted_stays w e s (OfAct u) t ok l h = acts.acts_keep w e s (λ v x. v ≡ t → is_some x.result ≡ true) (resulted_holds t) tt h

-- ---- it ends

holds_mapped : (p q : Batch → Bool) (f : Batch → Batch) → ((b : Batch) → (f b).bid ≡ b.bid) → ((b : Batch) → p b ≡ true → q (f b) ≡ true) → (k : ℕ) (bs : List Batch) → holds p (batch_of k bs) ≡ true → holds q (batch_of k (map f bs)) ≡ true
holds_mapped p q f i g k [] h = absurd (true≢false (sym h))
holds_mapped p q f i g k (x ∷ bs) h = subst (λ z. holds q (if z == k then Some (f x) else batch_of k (map f bs)) ≡ true) (sym (i x)) (by (x.bid == k) h (holds_mapped p q f i g k bs))
  where
    by : (v : Bool) → holds p (if v then Some x else batch_of k bs) ≡ true → (holds p (batch_of k bs) ≡ true → holds q (batch_of k (map f bs)) ≡ true) → holds q (if v then Some (f x) else batch_of k (map f bs)) ≡ true
    by true h r = g x h
    by false h r = r h

all_noted : (t : ℕ) (r : TxResult) (ps : List Pact) → list_all (λ p. not (p.tid == t) || is_some p.result) (map (desk.with_result t r) ps) ≡ true
all_noted t r [] = refl
all_noted t r (p ∷ ps) = rw (by (p.tid == t) p.result, all_noted t r ps) refl
  where
    by : (v : Bool) (o : Option TxResult) → (not v || is_some (if v then Some r else o)) ≡ true
    by true o = refl
    by false o = refl

open_noted : (t : ℕ) (r : TxResult) (b : Batch) → is_open_with t b ≡ true → is_resulted t (desk.with_results t r b) ≡ true
open_noted t r b h = by b.aborted (not-true b.aborted (and_parts (is_formed b.stage) (not b.aborted) (and_parts (is_open b) (names_pact t b) h).0).1)
  where
    by : (v : Bool) → v ≡ false → list_all (λ p. not (p.tid == t) || is_some p.result) (if v then b.pacts else map (desk.with_result t r) b.pacts) ≡ true
    by true e = absurd (true≢false e)
    by false e = all_noted t r b.pacts

ends_act : {C : Type 0} (t : ℕ) (v : Bool) (o : Option (Outcome C)) (xs : List Act) → v ≡ true → holds (λ x. is_ended x.next) o ≡ true → EachAct (λ u x. u ≡ t → is_some x.result ≡ true) (if v then book.noted_from t o xs else xs)
ends_act t false o xs e h = absurd (true≢false (sym e))
ends_act t true None xs e h = absurd (true≢false (sym h))
ends_act {C} t true (Some x) xs e h = by x.next h
  where
    by : (n : Next C) → is_ended n ≡ true → EachAct (λ u x. u ≡ t → is_some x.result ≡ true) (book.noted_for t n xs)
    by (Go b c) h = absurd (true≢false (sym h))
    by (Ended r) h = acts.each_changed (λ u x. Unit {0}) (λ u x. u ≡ t → is_some x.result ≡ true) t (book.with_result r) xs (λ x. refl) (λ u x d f p j. absurd (d j)) (λ x f p j. refl) (λ u x f. tt)

ends_pact : {C : Type 0} (t k : ℕ) (v : Bool) (o : Option (Outcome C)) (bs : List Batch) → v ≡ false → holds (λ x. is_ended x.next) o ≡ true → holds (is_open_with t) (batch_of k bs) ≡ true → holds (is_resulted t) (batch_of k (if v then bs else desk.noted_from t o bs)) ≡ true
ends_pact t k true o bs e h g = absurd (true≢false e)
ends_pact t k false None bs e h g = absurd (true≢false (sym h))
ends_pact {C} t k false (Some x) bs e h g = by x.next h
  where
    by : (n : Next C) → is_ended n ≡ true → holds (is_resulted t) (batch_of k (desk.noted_for t n bs)) ≡ true
    by (Go b c) h = absurd (true≢false (sym h))
    by (Ended r) h = holds_mapped (is_open_with t) (is_resulted t) (desk.with_results t r) (λ b. refl) (open_noted t r) k bs g

pub pact_of_open : (t k : ℕ) (bs : List Batch) → holds (is_open_with t) (batch_of k bs) ≡ true → is_pact_of t k bs ≡ true
pact_of_open t k bs h = by (batch_of k bs) h
  where
    by : (o : Option Batch) → holds (is_open_with t) o ≡ true → holds (names_pact t) o ≡ true
    by None h = h
    by (Some b) h = (and_parts (is_open b) (names_pact t b) h).1

some_out : {C : Type 0} (p : Outcome C → Bool) (o : Option (Outcome C)) → holds p o ≡ true → is_some o ≡ true
some_out p None h = h
some_out p (Some x) h = refl

pub ends_own : {C : Type 0} (w : Fixed C) (Of : Tx → C → Type 0) (finish : C → List State → Alone) (s : Machine C) (h : History) (who : Who) (t a : ℕ) → IsAllowed w (End t a) s → AllGood w Of finish s h → Entered s → runs s who t ≡ true → Resulted (after w (End t a) s) who t
unfolding Resulted conditions after
ends_own w Of finish s h (OfBatch k) t a ok g i r =
    let own : has_act t (cell_at s a).entries ≡ false = false_from_ne_true (has_act t (cell_at s a).entries) (λ q.
    let x = one_is _ (act_of t s.book.acts) (joins.stands s g.opened t a q) in entering.pact_no_act s h t k g.acts (pact_of_open t k s.desk.batches r) t x.0 x.1 refl) in
    ends_pact t k (has_act t (cell_at s a).entries) (outcome_of t (cell_at s a).outbox) s.desk.batches own (held (λ c. holds (λ x. is_ended x.next) (outcome_of t c.outbox)) s.cells a no_cell ok.0) r
ends_own w Of finish s h (OfAct u) t a ok g i r =
    let p = and_parts (u == t) (holds lives (act_of u s.book.acts)) r in
    let x = one_is lives (act_of t s.book.acts) (subst (λ z. holds lives (act_of z s.book.acts) ≡ true) (eqb-true u t p.0) p.1) in
    let o = held (λ c. holds (λ x. is_ended x.next) (outcome_of t c.outbox)) s.cells a no_cell ok.0 in
    ends_act t (has_act t (cell_at s a).entries) (outcome_of t (cell_at s a).outbox) s.book.acts (entering.ended_there s i t a x.0 x.1 (some_out _ (outcome_of t (cell_at s a).outbox) o)) o
