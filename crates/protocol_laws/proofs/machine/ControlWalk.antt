-- What holds of each control, wherever it lies, as controls move.
use Rattle.std.specs.Prelude.{◌≡◌, refl, ℕ, zero, suc, ◌≤◌, ◌==◌, not, Bool, true, false, if◌then◌else◌, Option, Some, None, List, [], ◌∷◌, length, map, filter, slice_index_or, slice_set}
use Rattle.std.specs.List.{AllByRecursion}
use Rattle.std.proofs.Common.{arith, sym, subst, ◌∙◌}
use Rattle.std.proofs.lemmas.Bool.{eqb-true, eq-eqb, true≢false}
use Rattle.snap_base.specs.declared.transactions.State.{State}
use Rattle.protocol.specs.Fixed.{Fixed, Next, Go, Ended, Code, tx_at, root, base}
use Rattle.protocol.specs.Parts.{Pact, ControlMessage, Waiting, Outcome, Who, OfBatch, Cell, Machine}
use Rattle.protocol.specs.Events.{Event, Form, Admit, Arrive, Ask, Take, Run, Send, End, Close, Complete, Rollback, DropControl, Finish, Trim}
use Rattle.protocol.specs.Words.{holds, control_of, waiting_of, without_waiting, outcome_of, who_on, lock_of}
use Rattle.protocol.specs.Conditions.{IsAllowed, conditions}
use Rattle.protocol.specs.Effects.{after, cell_at, puts, no_cell}
use Rattle.protocol.specs.Numbers.{flat, times, waiting_tids, controls_in}
use Rattle.protocol.specs.Runs.{opening, new_cell}
use Rattle.protocol.specs.OnPost as post
use Rattle.protocol.specs.OnBook as book
use Rattle.protocol.specs.OnCell as cell
use Rattle.protocol.specs.OnRing.{next_pacts}
use Rattle.protocol_laws.proofs.first.Times
use Rattle.protocol_laws.proofs.first.Controls as controls
use Rattle.protocol_laws.proofs.machine.FromDeskKept.{one_cell}
use Rattle.protocol_laws.proofs.first.Lists.{all_filter, all_found, all_join, both_all}

-- A control on its way, or at an actor, is one that goes there.
pub record AllControls {C : Type 0} (P : ℕ → Next C → Type 0) (s : Machine C) : Type 0 where
  pub posted : AllByRecursion (λ m. P m.tid (Go m.to m.control)) s.post.controls
  pub inboxes : (a : ℕ) → AllByRecursion (λ x. P x.tid (Go a x.control)) (cell_at s a).inbox
  pub outboxes : (a : ℕ) → AllByRecursion (λ x. P x.tid x.next) (cell_at s a).outbox

pub both : {C : Type 0} (P Q R : ℕ → Next C → Type 0) (s : Machine C) → ((t : ℕ) (n : Next C) → P t n → Q t n → R t n) → AllControls P s → AllControls Q s → AllControls R s
both P Q R s k h g = record {
  posted = both_all _ _ _ s.post.controls (λ m p q. k m.tid (Go m.to m.control) p q) h.posted g.posted;
  inboxes = λ a. both_all _ _ _ (cell_at s a).inbox (λ x p q. k x.tid (Go a x.control) p q) (h.inboxes a) (g.inboxes a);
  outboxes = λ a. both_all _ _ _ (cell_at s a).outbox (λ x p q. k x.tid x.next p q) (h.outboxes a) (g.outboxes a);
}

all_trivial : {X : Type 0} (xs : List X) → AllByRecursion (λ x. Unit {0}) xs
all_trivial [] = tt
all_trivial (x ∷ xs) = (tt, all_trivial xs)

pub trivial : {C : Type 0} (s : Machine C) → AllControls (λ t n. Unit {0}) s
trivial s = record { posted = all_trivial s.post.controls; inboxes = λ a. all_trivial (cell_at s a).inbox; outboxes = λ a. all_trivial (cell_at s a).outbox }

-- ---- moves

unfoldable pub Ready : {C : Type 0} → Fixed C → Event → Machine C → (ℕ → Next C → Type 0) → Type 0
Ready w (Form k) s P = AllByRecursion (λ q. P q.tid (Go (root (tx_at w.text q.tx)) (w.code.start q.tid (tx_at w.text q.tx)))) (next_pacts w.text s.ring)
Ready w (Admit t) s P = P t (Go (root (tx_at w.text (post.next_act s.ring))) (w.code.start t (tx_at w.text (post.next_act s.ring))))
Ready w (Run t a) s P = (x : Waiting _) → waiting_of t (cell_at s a).inbox ≡ Some x → P t (w.code.slice x.control (cell_at s a).state).next
Ready w _ s P = Unit {0}

first : {C : Type 0} (w : Fixed C) (k : ℕ) (P : ℕ → Next C → Type 0) (ps : List Pact) → AllByRecursion (λ q. P q.tid (Go (root (tx_at w.text q.tx)) (w.code.start q.tid (tx_at w.text q.tx)))) ps
    → AllByRecursion (λ m. P m.tid (Go m.to m.control)) (map (λ q. post.first_control w (OfBatch k) q.tid q.tx) ps)
first w k P [] h = tt
first w k P (p ∷ ps) h = (h.0, first w k P ps h.1)

came : {C : Type 0} (P : ℕ → Next C → Type 0) (t a : ℕ) (cs : List (ControlMessage C)) (o : Option (ControlMessage C)) → control_of t cs ≡ o → holds (λ m. m.to == a) o ≡ true → AllByRecursion (λ m. P m.tid (Go m.to m.control)) cs
    → AllByRecursion (λ x. P x.tid (Go a x.control)) (cell.arrived o)
came P t a cs None e h g = tt
came P t a cs (Some m) e h g = (subst (λ z. P m.tid (Go z m.control)) (eqb-true m.to a h) (all_found (λ m. P m.tid (Go m.to m.control)) (λ m. m.tid == t) cs m g e).0, tt)

asked : {C : Type 0} (P : ℕ → Next C → Type 0) (a : ℕ) (older : Option ℕ) (o : Option (ControlMessage C)) → AllByRecursion (λ x. P x.tid (Go a x.control)) (cell.arrived o) → AllByRecursion (λ x. P x.tid (Go a x.control)) (cell.where_placed older o)
asked P a None o h = h
asked P a (Some x) o h = tt

goes : {C : Type 0} (P : ℕ → Next C → Type 0) (who : Who) (t : ℕ) (n : Next C) → P t n → AllByRecursion (λ m. P m.tid (Go m.to m.control)) (post.going_on who t n)
goes P who t (Go b c) h = (h, tt)
goes P who t (Ended r) h = tt

sent : {C : Type 0} (P : ℕ → Next C → Type 0) (t : ℕ) (who : Who) (xs : List (Outcome C)) (o : Option (Outcome C)) → outcome_of t xs ≡ o → AllByRecursion (λ x. P x.tid x.next) xs → AllByRecursion (λ m. P m.tid (Go m.to m.control)) (post.handed_on who o)
sent P t who xs None e h = tt
sent P t who xs (Some x) e h = goes P who x.tid x.next (all_found (λ x. P x.tid x.next) (λ x. x.tid == t) xs x h e).0

ran : {C : Type 0} (P : ℕ → Next C → Type 0) (code : Code C) (t : ℕ) (c : Cell C) (o : Option (Waiting C)) → waiting_of t c.inbox ≡ o → ((x : Waiting C) → waiting_of t c.inbox ≡ Some x → P t (code.slice x.control c.state).next) → AllByRecursion (λ x. P x.tid x.next) (cell.outcomes t (cell.sliced code c.state o))
ran P code t c None e h = tt
ran P code t c (Some x) e h = (h x e, tt)

abbrev pub In : {C : Type 0} → (ℕ → Next C → Type 0) → ℕ → Cell C → Type 0
In P a c = AllByRecursion (λ x. P x.tid (Go a x.control)) c.inbox

abbrev pub Out : {C : Type 0} → (ℕ → Next C → Type 0) → ℕ → Cell C → Type 0
Out P a c = AllByRecursion (λ x. P x.tid x.next) c.outbox

in_same : {C : Type 0} (P : ℕ → Next C → Type 0) (s : Machine C) (a : ℕ) (c : Cell C) → c.inbox ≡ (cell_at s a).inbox → AllControls P s → (b : ℕ) → In P b (slice_index_or (slice_set s.cells a c) b no_cell)
in_same P s a c e h = one_cell (In P) s.cells a c (λ g. subst (AllByRecursion (λ x. P x.tid (Go a x.control))) (sym e) g) h.inboxes

out_same : {C : Type 0} (P : ℕ → Next C → Type 0) (s : Machine C) (a : ℕ) (c : Cell C) → c.outbox ≡ (cell_at s a).outbox → AllControls P s → (b : ℕ) → Out P b (slice_index_or (slice_set s.cells a c) b no_cell)
out_same P s a c e h = one_cell (Out P) s.cells a c (λ g. subst (AllByRecursion (λ x. P x.tid x.next)) (sym e) g) h.outboxes

pub moves : {C : Type 0} (w : Fixed C) (e : Event) (s : Machine C) (P : ℕ → Next C → Type 0) → IsAllowed w e s → Ready w e s P → AllControls P s → AllControls P (after w e s)
unfolding conditions after Ready
moves w (Form k) s P ok r h = record { posted = all_join _ s.post.controls _ h.posted (first w k P (next_pacts w.text s.ring) r); inboxes = h.inboxes; outboxes = h.outboxes }
moves w (Admit t) s P ok r h = record { posted = all_join _ s.post.controls _ h.posted (r, tt); inboxes = h.inboxes; outboxes = h.outboxes }
moves w (Arrive k a) s P ok r h = record { posted = h.posted; inboxes = in_same P s a _ refl h; outboxes = out_same P s a _ refl h }
moves w (Ask t a) s P ok r h = record {
  posted = all_filter _ _ s.post.controls h.posted;
  inboxes = one_cell (In P) s.cells a _ (λ g. all_join _ (cell_at s a).inbox _ g (asked P a (book.in_the_way (lock_of t s.book.acts) (cell_at s a).entries) (control_of t s.post.controls) (came P t a s.post.controls (control_of t s.post.controls) refl ok.0 h.posted))) h.inboxes;
  outboxes = out_same P s a _ refl h;
}
moves w (Take t a) s P ok r h = record {
  posted = all_filter _ _ s.post.controls h.posted;
  inboxes = one_cell (In P) s.cells a _ (λ g. all_join _ (cell_at s a).inbox _ g (came P t a s.post.controls (control_of t s.post.controls) refl ok.0 h.posted)) h.inboxes;
  outboxes = out_same P s a _ refl h;
}
moves w (Run t a) s P ok r h = record {
  posted = h.posted;
  inboxes = one_cell (In P) s.cells a _ (λ g. all_filter _ _ (cell_at s a).inbox g) h.inboxes;
  outboxes = one_cell (Out P) s.cells a _ (λ g. all_join _ (cell_at s a).outbox _ g (ran P w.code t (cell_at s a) (waiting_of t (cell_at s a).inbox) refl r)) h.outboxes;
}
moves w (Send t a) s P ok r h = record {
  posted = all_join _ s.post.controls _ h.posted (sent P t (who_on t (cell_at s a).entries) (cell_at s a).outbox (outcome_of t (cell_at s a).outbox) refl (h.outboxes a));
  inboxes = in_same P s a _ refl h;
  outboxes = one_cell (Out P) s.cells a _ (λ g. all_filter _ _ (cell_at s a).outbox g) h.outboxes;
}
moves w (End t a) s P ok r h = record { posted = h.posted; inboxes = in_same P s a _ refl h; outboxes = one_cell (Out P) s.cells a _ (λ g. all_filter _ _ (cell_at s a).outbox g) h.outboxes }
moves w (Close t a) s P ok r h = record { posted = h.posted; inboxes = in_same P s a _ refl h; outboxes = out_same P s a _ refl h }
moves w (Complete k a) s P ok r h = record { posted = h.posted; inboxes = in_same P s a _ refl h; outboxes = out_same P s a _ refl h }
moves w (Rollback a) s P ok r h = record { posted = h.posted; inboxes = one_cell (In P) s.cells a _ (λ g. all_filter _ _ (cell_at s a).inbox g) h.inboxes; outboxes = one_cell (Out P) s.cells a _ (λ g. all_filter _ _ (cell_at s a).outbox g) h.outboxes }
moves w (Finish t a) s P ok r h = record { posted = h.posted; inboxes = one_cell (In P) s.cells a _ (λ g. all_filter _ _ (cell_at s a).inbox g) h.inboxes; outboxes = one_cell (Out P) s.cells a _ (λ g. all_filter _ _ (cell_at s a).outbox g) h.outboxes }
moves w (Trim k a) s P ok r h = record { posted = h.posted; inboxes = in_same P s a _ refl h; outboxes = out_same P s a _ refl h }
moves w (DropControl t) s P ok r h = record { posted = all_filter _ _ s.post.controls h.posted; inboxes = h.inboxes; outboxes = h.outboxes }
moves w e s P ok r h = record { posted = h.posted; inboxes = h.inboxes; outboxes = h.outboxes }

-- ---- while one is taken out of its inbox, no other control is of the same transaction

none_of : {X : Type 0} (t : ℕ) (f : X → ℕ) (xs : List X) → times t (map f xs) ≡ 0 → AllByRecursion (λ x. f x ≡ t → ⊥) xs
none_of t f [] h = tt
none_of t f (x ∷ xs) h = by (f x == t) refl h (none_of t f xs)
  where
    by : (b : Bool) → (f x == t) ≡ b → length (if b then f x ∷ filter (λ n. n == t) (map f xs) else filter (λ n. n == t) (map f xs)) ≡ 0 → (times t (map f xs) ≡ 0 → AllByRecursion (λ x. f x ≡ t → ⊥) xs) → (f x ≡ t → ⊥) × AllByRecursion (λ x. f x ≡ t → ⊥) xs
    by true e h k = absurd (omega (arith, h))
    by false e h k = ((λ q. true≢false (sym (eq-eqb (f x) t q) ∙ e)), k h)

none_in : {C X : Type 0} (t : ℕ) (f : X → ℕ) (g : Cell C → List X) (cs : List (Cell C)) (d : Cell C) → g d ≡ [] → times t (flat (map (λ xs. map f xs) (map g cs))) ≡ 0 → (a : ℕ) → AllByRecursion (λ x. f x ≡ t → ⊥) (g (slice_index_or cs a d))
none_in t f g [] d e h a = rw e tt
none_in t f g (c ∷ cs) d e h zero = none_of t f (g c) (omega (arith, h, Times.times_append t (map f (g c)) (flat (map (λ xs. map f xs) (map g cs)))))
none_in t f g (c ∷ cs) d e h (suc a) = none_in t f g cs d e (omega (arith, h, Times.times_append t (map f (g c)) (flat (map (λ xs. map f xs) (map g cs))))) a

pub none_there : {C : Type 0} (t : ℕ) (s : Machine C) → times t (controls_in s) ≡ 0 → AllControls (λ u n. u ≡ t → ⊥) s
none_there t s h =
    let p = controls.parted t s.post.controls (map (λ c. c.inbox) s.cells) (map (λ c. c.outbox) s.cells) in
    record {
      posted = none_of t (λ m. m.tid) s.post.controls (omega (arith, h, p));
      inboxes = none_in t (λ x. x.tid) (λ c. c.inbox) s.cells no_cell refl (omega (arith, h, p));
      outboxes = none_in t (λ x. x.tid) (λ c. c.outbox) s.cells no_cell refl (omega (arith, h, p));
    }

without_none : {C : Type 0} (t : ℕ) (xs : List (Waiting C)) → times t (waiting_tids (without_waiting t xs)) ≡ 0
without_none t [] = refl
without_none t (x ∷ xs) = by (x.tid == t) refl (without_none t xs)
  where
    by : (b : Bool) → (x.tid == t) ≡ b → times t (waiting_tids (without_waiting t xs)) ≡ 0 → times t (waiting_tids (if not b then x ∷ without_waiting t xs else without_waiting t xs)) ≡ 0
    by true e h = h
    by false e h = rw e h

some_one : {C : Type 0} (t : ℕ) (x : Waiting C) (xs : List (Waiting C)) → waiting_of t xs ≡ Some x → 1 ≤ times t (waiting_tids xs)
some_one t x [] e = absurd (cc e)
some_one t x (y ∷ ys) e = by (y.tid == t) e (some_one t x ys)
  where
    by : (b : Bool) → (if b then Some y else waiting_of t ys) ≡ Some x → (waiting_of t ys ≡ Some x → 1 ≤ times t (waiting_tids ys)) → 1 ≤ length (if b then y.tid ∷ filter (λ n. n == t) (waiting_tids ys) else filter (λ n. n == t) (waiting_tids ys))
    by true e k = omega arith
    by false e k = k e

-- another cell in the same place
other_cell : {C : Type 0} (P : ℕ → Cell C → Type 0) (xs : List (Cell C)) (a : ℕ) (c d : Cell C) → (P a c → P a d) → ((b : ℕ) → P b (slice_index_or (slice_set xs a c) b no_cell)) → (b : ℕ) → P b (slice_index_or (slice_set xs a d) b no_cell)
other_cell P [] a c d k h b = h b
other_cell P (x ∷ xs) zero c d k h zero = k (h zero)
other_cell P (x ∷ xs) zero c d k h (suc b) = h (suc b)
other_cell P (x ∷ xs) (suc a) c d k h zero = h zero
other_cell P (x ∷ xs) (suc a) c d k h (suc b) = other_cell (λ i y. P (suc i) y) xs a c d k (λ i. h (suc i)) b

-- the machine while the control is out of the inbox
abbrev pub taken_out : {C : Type 0} → ℕ → ℕ → Machine C → Machine C
taken_out t a s = record s { cells = puts s a (record (cell_at s a) { inbox = without_waiting t (cell_at s a).inbox }) }

pub alone : {C : Type 0} (t a : ℕ) (s : Machine C) (x : Waiting C) → times t (controls_in s) ≤ 1 → waiting_of t (cell_at s a).inbox ≡ Some x → AllControls (λ u n. u ≡ t → ⊥) (taken_out t a s)
alone t a s x h e =
    let c = record (cell_at s a) { inbox = without_waiting t (cell_at s a).inbox } in
    none_there t (taken_out t a s) (omega (
      arith,
      h,
      some_one t x (cell_at s a).inbox e,
      without_none t (cell_at s a).inbox,
      controls.inbox_put t s a c,
      controls.outbox_put t s a c,
      controls.parted t s.post.controls (map (λ c. c.inbox) s.cells) (map (λ c. c.outbox) s.cells),
      controls.parted t s.post.controls (map (λ c. c.inbox) (puts s a c)) (map (λ c. c.outbox) (puts s a c)),
    ))

pub take_out : {C : Type 0} (P : ℕ → Next C → Type 0) (t a : ℕ) (s : Machine C) → AllControls P s → AllControls P (taken_out t a s)
take_out P t a s h = record {
  posted = h.posted;
  inboxes = one_cell (In P) s.cells a _ (λ g. all_filter _ _ (cell_at s a).inbox g) h.inboxes;
  outboxes = out_same P s a _ refl h;
}

-- A slice runs: of all others what held holds still, of this one the new fact.
pub run_moves : {C : Type 0} (w : Fixed C) (t a : ℕ) (s : Machine C) (x : Waiting C) (P Q : ℕ → Next C → Type 0) → times t (controls_in s) ≤ 1 → waiting_of t (cell_at s a).inbox ≡ Some x
    → ((u : ℕ) (n : Next C) → (u ≡ t → ⊥) → P u n → Q u n) → Q t (w.code.slice x.control (cell_at s a).state).next → AllControls P s → AllControls Q (after w (Run t a) s)
unfolding after
run_moves {C} w t a s x P Q one e k q h =
    let g = both P (λ u n. u ≡ t → ⊥) Q (taken_out t a s) (λ u n p o. k u n o p) (take_out P t a s h) (alone t a s x one e) in
    record {
      posted = g.posted;
      inboxes = other_cell (In Q) s.cells a _ _ (λ y. y) g.inboxes;
      outboxes = other_cell (Out Q) s.cells a _ _ (λ y. all_join _ (cell_at s a).outbox _ y (ran Q w.code t (cell_at s a) (waiting_of t (cell_at s a).inbox) refl (λ z f. same z f))) g.outboxes;
    }
  where
    same : (z : Waiting C) → waiting_of t (cell_at s a).inbox ≡ Some z → Q t (w.code.slice z.control (cell_at s a).state).next
    same z f = let i : x ≡ z = cc (sym e ∙ f) in subst (λ v. Q t (w.code.slice v.control (cell_at s a).state).next) i q

-- ---- the opening

no_inbox : (C : Type 0) (low : ℕ) (states : List State) (a : ℕ) → (slice_index_or (map (new_cell {C = C} low) states) a no_cell).inbox ≡ []
no_inbox C low [] a = refl
no_inbox C low (x ∷ xs) zero = refl
no_inbox C low (x ∷ xs) (suc a) = no_inbox C low xs a

no_outbox : (C : Type 0) (low : ℕ) (states : List State) (a : ℕ) → (slice_index_or (map (new_cell {C = C} low) states) a no_cell).outbox ≡ []
no_outbox C low [] a = refl
no_outbox C low (x ∷ xs) zero = refl
no_outbox C low (x ∷ xs) (suc a) = no_outbox C low xs a

-- there is no control yet
pub nowhere : {C : Type 0} (w : Fixed C) (P : ℕ → Next C → Type 0) → AllControls P (opening w)
nowhere {C} w P = record {
  posted = tt;
  inboxes = λ a. subst (AllByRecursion (λ x. P x.tid (Go a x.control))) (sym (no_inbox C (base w.text) w.text.opening.states a)) tt;
  outboxes = λ a. subst (AllByRecursion (λ x. P x.tid x.next)) (sym (no_outbox C (base w.text) w.text.opening.states a)) tt;
}
