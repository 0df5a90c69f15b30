-- An ACT that has a result has no control.
use Rattle.std.specs.Prelude.{◌≡◌, refl, ℕ, ◌≤◌, ◌<◌, ◌==◌, Bool, true, Option, Some, None, is_some, List, [], ◌∷◌}
use Rattle.std.specs.List.{AllByRecursion}
use Rattle.std.proofs.Common.{arith, sym, subst}
use Rattle.std.proofs.lemmas.Bool.{true≢false, eqb-true}
use Rattle.protocol.specs.Fixed.{Fixed, Next, Go}
use Rattle.protocol.specs.Parts.{Act, Pact, Waiting, Outcome, Machine}
use Rattle.protocol.specs.Events.{Event, Form, Admit, Ask, Run, End, Decide}
use Rattle.protocol.specs.Words.{holds, waiting_of, outcome_of, control_of, has_control_to}
use Rattle.protocol.specs.Conditions.{IsAllowed, conditions}
use Rattle.protocol.specs.Effects.{after, cell_at}
use Rattle.protocol.specs.OnRing as ring
use Rattle.protocol_laws.specs.Told.{EachAct}
use Rattle.protocol_laws.proofs.first.Controls as controls
use Rattle.protocol_laws.proofs.machine.ControlWalk
use Rattle.protocol_laws.proofs.machine.ControlWalk.{AllControls}
use Rattle.protocol_laws.proofs.machine.TurnsKept.{one_is}
use Rattle.protocol_laws.proofs.machine.Resting.{ended_alone, numbered_from}
use Rattle.protocol_laws.proofs.machine.ActsFound as acts
use Rattle.protocol_laws.proofs.machine.ActsFound.{Holds}
use Rattle.protocol_laws.proofs.first.Lists.{all_found}

-- the ACT with this tid has no result
abbrev pub NoActResult : ℕ → List Act → Type 0
NoActResult t xs = EachAct (λ u x. u ≡ t → x.result ≡ None) xs

abbrev pub NoneActed : {C : Type 0} → Machine C → ℕ → Next C → Type 0
NoneActed s t n = NoActResult t s.book.acts

abbrev pub ActsDrawn : ℕ → List Act → Type 0
ActsDrawn next xs = EachAct (λ u x. u < next) xs

unresulted : (t : ℕ) → Holds (λ u x. u ≡ t → x.result ≡ None)
unresulted t = record { numbered = λ u x n p. p; marked = λ u a x f i p. p; sealed = λ u x p. p; doomed = λ u x v l p. p; rises = λ u k x l p. p }

undrawn : (next t : ℕ) (xs : List Act) → next ≤ t → ActsDrawn next xs → NoActResult t xs
undrawn next t xs l d = λ u x e i. absurd (omega (arith, d u x e, i, l))

new_ready : (next : ℕ) (xs : List Act) (ps : List Pact) → ActsDrawn next xs → AllByRecursion (λ p. next ≤ p.tid) ps → AllByRecursion (λ q. NoActResult q.tid xs) ps
new_ready next xs [] d l = tt
new_ready next xs (p ∷ ps) d l = (undrawn next p.tid xs l.0 d, new_ready next xs ps d l.1)

pub results_kept : {C : Type 0} (w : Fixed C) (e : Event) (s : Machine C) → IsAllowed w e s → controls.HeldIn s → ActsDrawn s.ring.next_tid s.book.acts → AllControls (NoneActed s) s → AllControls (NoneActed (after w e s)) (after w e s)
unfolding conditions ControlWalk.Ready acts.Ready after
results_kept w (Form k) s ok one d g = ControlWalk.moves w (Form k) s (NoneActed s) ok (new_ready s.ring.next_tid s.book.acts (ring.next_pacts w.text s.ring) d (numbered_from s.ring.next_tid s.ring.next_tid _ (omega arith))) g
results_kept w (Admit t) s ok one d g =
    let l : s.ring.next_tid ≤ t = omega (arith, eqb-true t s.ring.next_tid ok.0) in
    ControlWalk.moves w (Admit t) s (NoneActed (after w (Admit t) s)) ok (acts.acts_keep w (Admit t) s (λ u x. u ≡ t → x.result ≡ None) (unresulted t) (λ n i. refl) (undrawn s.ring.next_tid t s.book.acts l d))
    (ControlWalk.both (NoneActed s) (λ u n. Unit {0}) (NoneActed (after w (Admit t) s)) s (λ v n p q. acts.acts_keep w (Admit t) s (λ u x. u ≡ v → x.result ≡ None) (unresulted v) (λ m i. refl) p) g (ControlWalk.trivial s))
results_kept w (Ask t a) s ok one d g = ControlWalk.both (NoneActed s) (λ u n. Unit {0}) (NoneActed (after w (Ask t a) s)) (after w (Ask t a) s) (λ v n p q. acts.acts_keep w (Ask t a) s (λ u x. u ≡ v → x.result ≡ None) (unresulted v) (λ x f k. k) p)
    (ControlWalk.moves w (Ask t a) s (NoneActed s) ok tt g) (ControlWalk.trivial (after w (Ask t a) s))
results_kept {C} w (Run t a) s ok one d g = ControlWalk.moves w (Run t a) s (NoneActed s) ok (λ x e. let own = all_found (λ x. NoneActed s x.tid (Go a x.control)) (λ x. x.tid == t) (cell_at s a).inbox x (g.inboxes a) e in subst (λ z. NoActResult z s.book.acts) (eqb-true x.tid t own.1) own.0) g
results_kept w (End t a) s ok one d g = ControlWalk.both (NoneActed s) (λ u n. u ≡ t → ⊥) (NoneActed (after w (End t a) s)) (after w (End t a) s) (λ v n p q. acts.acts_keep w (End t a) s (λ u x. u ≡ v → x.result ≡ None) (unresulted v) (λ x r f k i. absurd (q (sym i))) p)
    (ControlWalk.moves w (End t a) s (NoneActed s) ok tt g) (ended_alone w t a s ok one)
results_kept w (Decide t) s ok one d g = ControlWalk.both (NoneActed s) (λ u n. Unit {0}) (NoneActed (after w (Decide t) s)) (after w (Decide t) s) (λ v n p q. acts.acts_keep w (Decide t) s (λ u x. u ≡ v → x.result ≡ None) (unresulted v) (λ x f k. k) p)
    (ControlWalk.moves w (Decide t) s (NoneActed s) ok tt g) (ControlWalk.trivial (after w (Decide t) s))
results_kept w e s ok one d g = ControlWalk.both (NoneActed s) (λ u n. Unit {0}) (NoneActed (after w e s)) (after w e s) (λ v n p q. acts.acts_keep w e s (λ u x. u ≡ v → x.result ≡ None) (unresulted v) tt p)
    (ControlWalk.moves w e s (NoneActed s) ok tt g) (ControlWalk.trivial (after w e s))

-- ---- who has a control in a place

pub posted_none : {C : Type 0} (t a : ℕ) (s : Machine C) → has_control_to t a s.post.controls ≡ true → AllControls (NoneActed s) s → NoActResult t s.book.acts
posted_none {C} t a s e g =
    let m = one_is (λ m. m.to == a) (control_of t s.post.controls) e in
    let f = all_found (λ m. NoneActed s m.tid (Go m.to m.control)) (λ m. m.tid == t) s.post.controls m.0 g.posted m.1 in
    subst (λ z. NoActResult z s.book.acts) (eqb-true m.0.tid t f.1) f.0

pub waiting_none : {C : Type 0} (t a : ℕ) (s : Machine C) → is_some (waiting_of t (cell_at s a).inbox) ≡ true → AllControls (NoneActed s) s → NoActResult t s.book.acts
waiting_none {C} t a s e g = by (waiting_of t (cell_at s a).inbox) refl e
  where
    by : (o : Option (Waiting C)) → waiting_of t (cell_at s a).inbox ≡ o → is_some o ≡ true → NoActResult t s.book.acts
    by None f q = absurd (true≢false (sym q))
    by (Some x) f q = let h = all_found (λ x. NoneActed s x.tid (Go a x.control)) (λ x. x.tid == t) (cell_at s a).inbox x (g.inboxes a) f in subst (λ z. NoActResult z s.book.acts) (eqb-true x.tid t h.1) h.0

pub outcome_none : {C : Type 0} (p : Outcome C → Bool) (t a : ℕ) (s : Machine C) → holds p (outcome_of t (cell_at s a).outbox) ≡ true → AllControls (NoneActed s) s → NoActResult t s.book.acts
outcome_none p t a s e g =
    let m = one_is p (outcome_of t (cell_at s a).outbox) e in
    let f = all_found (λ x. NoneActed s x.tid x.next) (λ x. x.tid == t) (cell_at s a).outbox m.0 (g.outboxes a) m.1 in
    subst (λ z. NoActResult z s.book.acts) (eqb-true m.0.tid t f.1) f.0
