-- In a quiet state no control is left.
use Rattle.std.specs.Prelude.{◌≡◌, refl, ℕ, zero, suc, ◌+◌, ◌<◌, ◌≤◌, ◌==◌, Bool, true, false, ◌||◌, ◌&&◌, ◌⊎◌, if◌then◌else◌, Option, Some, None, is_some, List, [], ◌∷◌, ◌++◌, length, map, take, slice_index_or}
use Rattle.std.specs.List.{AllByRecursion, list_any, list_all}
use Rattle.std.proofs.Common.{arith, sym, ap, subst, inl, inr, ◌∙◌}
use Rattle.std.proofs.lemmas.Bool.{true≢false, eqb-true, eq-eqb, ne_eqb, or_cases, or_left, or_right, and_parts}
use Rattle.snap_base.specs.declared.transactions.State.{State}
use Rattle.snap_base.specs.declared.transactions.Tx.{Tx}
use Rattle.protocol.specs.Facts.{Alone}
use Rattle.protocol.specs.Fixed.{Fixed, Next, Go, Ended, base}
use Rattle.protocol.specs.Parts.{Act, Batch, Pact, Who, OfBatch, OfAct, ControlMessage, Waiting, Outcome, Entry, Machine}
use Rattle.protocol.specs.Events.{Event, Form, Admit, Ask, Take, Run, Send, DropControl}
use Rattle.protocol.specs.Words.{holds, names_pact, is_doomed, is_sealed, is_decided, is_settled, act_of, batch_of, has_entry, who_on, control_of, outcome_of}
use Rattle.protocol.specs.Conditions.{IsAllowed, conditions, queue, is_given_up}
use Rattle.protocol.specs.Effects.{after, cell_at, no_cell}
use Rattle.protocol.specs.Runs.{opening, new_cell, IsRun, IsQuiet, reached}
use Rattle.protocol.specs.OnRing as ring
use Rattle.protocol.specs.OnPost as post
use Rattle.protocol.specs.OnDesk as desk
use Rattle.protocol.specs.History.{History, no_history, history, grown, with_at, owned_by}
use Rattle.protocol_laws.specs.FromDesk.{is_pact_of, FromDesk}
use Rattle.protocol_theorems.specs.Quiet.{AllAnswered, is_over_batch, is_over_act}
use Rattle.protocol_laws.proofs.first.Controls as controls
use Rattle.protocol_laws.proofs.machine.ControlWalk
use Rattle.protocol_laws.proofs.machine.ControlWalk.{AllControls, Ready, nowhere}
use Rattle.protocol_laws.proofs.machine.TracksKept.{Tracked}
use Rattle.protocol_laws.proofs.machine.TurnsKept.{one_is}
use Rattle.protocol_laws.proofs.machine.TrailsKept as trails
use Rattle.protocol_laws.proofs.first.EpochsKept as epochs
use Rattle.protocol_laws.proofs.first.SettlingKept as settling
use Rattle.protocol_laws.proofs.machine.FromDeskKept as desks
use Rattle.protocol_laws.proofs.machine.RunOwed.{Valued}
use Rattle.protocol_laws.proofs.machine.QueuedKept.{in_book}
use Rattle.protocol_laws.proofs.machine.ActsKept.{Acts}
use Rattle.protocol_laws.proofs.machine.BatchesCommit.{list_all_at}
use Rattle.protocol_theorems.proofs.order.NamesKept as names
use Rattle.protocol_theorems.proofs.order.NamesKept.{Named}
use Rattle.protocol_laws.proofs.machine.Good.{Given}
use Rattle.protocol_laws.proofs.machine.AllGood as all
use Rattle.protocol_laws.proofs.machine.AllGood.{AllGood}
use Rattle.protocol_theorems.proofs.quiet.HasOneKept.{tid_found}
use Rattle.protocol_theorems.proofs.quiet.BoxedKept as boxing
use Rattle.protocol_theorems.proofs.quiet.BoxedKept.{Boxed, BoxedAt, In}
use Rattle.protocol_theorems.proofs.quiet.QuietOwed as owed
use Rattle.protocol_theorems.proofs.quiet.QuietOwed.{Held}
use Rattle.protocol_theorems.proofs.quiet.HomeKept.{pacts_at_home}
use Rattle.protocol_laws.proofs.first.Lists.{all_filter, all_found, all_join, both_all}
use Rattle.protocol_laws.proofs.first.Statuses.{settled_not_formed}

-- ---- each control is a PACT's of the desk, or an ACT's

abbrev pub InBook : {C : Type 0} → Machine C → ℕ → Next C → Type 0
InBook s t n = ((k : ℕ) × (is_pact_of t k s.desk.batches ≡ true)) ⊎ (is_some (act_of t s.book.acts) ≡ true)

stays : {C : Type 0} (w : Fixed C) (e : Event) (s : Machine C) (t : ℕ) (n : Next C) → InBook s t n → InBook (after w e s) t n
stays w e s t n (inl p) = inl (p.0, desks.desk_stays w e s _ (desks.pact_fixed t) p.0 p.1)
stays w e s t n (inr h) = inr (in_book w e s t h)

new_in : {C : Type 0} (w : Fixed C) (k : ℕ) (b : Batch) (s : Machine C) (ps : List Pact) → b.bid ≡ k → AllByRecursion (λ i. i < k) (map (λ b. b.bid) s.desk.batches) → ((t : ℕ) → list_any (λ p. p.tid == t) ps ≡ true → names_pact t b ≡ true)
    → AllByRecursion (λ q. (j : ℕ) × (is_pact_of q.tid j (s.desk.batches ++ b ∷ []) ≡ true)) ps
new_in w k b s [] e f n = tt
new_in w k b s (p ∷ ps) e f n = ((k, desks.found_new (names_pact p.tid) k b s.desk.batches f e (n p.tid (or_left (p.tid == p.tid) _ (eq-eqb p.tid p.tid refl)))), new_in w k b s ps e f (λ t q. n t (or_right (p.tid == t) _ q)))

as_in : {C : Type 0} (w : Fixed C) (s : Machine C) (ps : List Pact) (f : Pact → Next C) → AllByRecursion (λ q. (j : ℕ) × (is_pact_of q.tid j s.desk.batches ≡ true)) ps → AllByRecursion (λ q. InBook s q.tid (f q)) ps
as_in w s [] f h = tt
as_in w s (p ∷ ps) f h = (inl h.0, as_in w s ps f h.1)

some_last : (t : ℕ) (n : Act) (xs : List Act) → n.tid ≡ t → is_some (act_of t (xs ++ n ∷ [])) ≡ true
some_last t n [] e = rw (eq-eqb n.tid t e) refl
some_last t n (x ∷ xs) e = by (x.tid == t) (some_last t n xs e)
  where
    by : (v : Bool) → is_some (act_of t (xs ++ n ∷ [])) ≡ true → is_some (if v then Some x else act_of t (xs ++ n ∷ [])) ≡ true
    by true r = refl
    by false r = r

in_kept : {C : Type 0} (w : Fixed C) (e : Event) (s : Machine C) → IsAllowed w e s → epochs.Agreeing s → AllControls (InBook s) s → AllControls (InBook (after w e s)) (after w e s)
unfolding conditions Ready after
in_kept w (Form k) s ok ag g = ControlWalk.moves w (Form k) s (InBook (after w (Form k) s)) ok
    (as_in w (after w (Form k) s) (ring.next_pacts w.text s.ring) (λ q. Go (Rattle.protocol.specs.Fixed.root (Rattle.protocol.specs.Fixed.tx_at w.text q.tx)) (w.code.start q.tid (Rattle.protocol.specs.Fixed.tx_at w.text q.tx))) (new_in w k (desk.new_batch k (ring.next_actors w.text s.ring) (ring.next_pacts w.text s.ring)) s (ring.next_pacts w.text s.ring) refl (subst (λ z. AllByRecursion (λ i. i < z) (map (λ b. b.bid) s.desk.batches)) (sym (eqb-true k s.ring.next_bid ok.0)) (epochs.bids_below s ag)) (λ t q. q)))
    (ControlWalk.both (InBook s) (λ u n. Unit {0}) (InBook (after w (Form k) s)) s (λ u n p q. stays w (Form k) s u n p) g (ControlWalk.trivial s))
in_kept w (Admit t) s ok ag g = ControlWalk.moves w (Admit t) s (InBook (after w (Admit t) s)) ok (inr (some_last t _ s.book.acts refl))
    (ControlWalk.both (InBook s) (λ u n. Unit {0}) (InBook (after w (Admit t) s)) s (λ u n p q. stays w (Admit t) s u n p) g (ControlWalk.trivial s))
in_kept w (Run t a) s ok ag g = ControlWalk.moves w (Run t a) s (InBook s) ok (λ x e. let own = all_found (λ x. InBook s x.tid (Go a x.control)) (λ x. x.tid == t) (cell_at s a).inbox x (g.inboxes a) e in subst (λ z. ((k : ℕ) × (is_pact_of z k s.desk.batches ≡ true)) ⊎ (is_some (act_of z s.book.acts) ≡ true)) (eqb-true x.tid t own.1) own.0) g
in_kept w e s ok ag g = ControlWalk.moves w e s (InBook (after w e s)) ok tt (ControlWalk.both (InBook s) (λ u n. Unit {0}) (InBook (after w e s)) s (λ u n p q. stays w e s u n p) g (ControlWalk.trivial s))

-- ---- the post knows whose a control is

unfoldable pub Own : {C : Type 0} → Machine C → History → Type 0
Own s h = AllByRecursion (λ m. m.who ≡ h.owners m.tid) s.post.controls

new_own : {C : Type 0} (w : Fixed C) (k t : ℕ) (ns : List ℕ) (f g : ℕ → Who) → ((u : ℕ) → t ≤ u → g u ≡ owned_by k (ring.numbered t ns) f u) → AllByRecursion (λ m. m.who ≡ g m.tid) (map (λ q. post.first_control w (OfBatch k) q.tid q.tx) (ring.numbered t ns))
new_own w k t [] f g e = tt
new_own w k t (n ∷ ns) f g e = (sym (e t (omega arith) ∙ rw (eq-eqb t t refl) refl), new_own w k (t + 1) ns f g (λ u q. e u (omega (arith, q)) ∙ rw (ne_eqb u t (λ v. omega (arith, v, q))) refl))

sends : {C : Type 0} (owners : ℕ → Who) (es : List Entry) (t : ℕ) (who : Who) (xs : List (Outcome C)) (o : Option (Outcome C)) → outcome_of t xs ≡ o → In es (λ x. x.tid) xs → (has_entry t es ≡ true → who ≡ owners t) → AllByRecursion (λ m. m.who ≡ owners m.tid) (post.handed_on who o)
sends owners es t who xs None e h k = tt
sends {C} owners es t who xs (Some x) e h k = by x.next
  where
    f : (has_entry x.tid es ≡ true) × ((x.tid == t) ≡ true)
    f = all_found (λ x. has_entry x.tid es ≡ true) (λ x. x.tid == t) xs x h e

    i : x.tid ≡ t
    i = eqb-true x.tid t f.1

    by : (n : Next C) → AllByRecursion (λ m. m.who ≡ owners m.tid) (post.going_on who x.tid n)
    by (Go b c) = (k (subst (λ z. has_entry z es ≡ true) i f.0) ∙ ap owners (sym i), tt)
    by (Ended r) = tt

own_kept : {C : Type 0} (w : Fixed C) (e : Event) (s : Machine C) (h : History) → IsAllowed w e s → controls.HeldIn s → FromDesk s → Tracked w s h → Named s h → Boxed s → Own s h → Own (after w e s) (grown w e s h)
unfolding Own conditions after grown Boxed Tracked
own_kept w (Form k) s h ok one d tr n b g =
    let asc = trails.new_tids s.ring.next_tid s.ring.next_tid (take w.text.batch (queue s.ring.pacts s.ring.holder)) (omega arith) in
    let f = owned_by k (ring.next_pacts w.text s.ring) h.owners in
    all_join (λ m. m.who ≡ f m.tid) s.post.controls _ (both_all (λ m. m.tid < s.ring.next_tid) (λ m. m.who ≡ h.owners m.tid) (λ m. m.who ≡ f m.tid) s.post.controls (λ m l p. p ∙ sym (names.owned_below k (ring.next_pacts w.text s.ring) s.ring.next_tid m.tid h.owners asc l)) (trails.drawn s one).posted g)
    (new_own w k s.ring.next_tid (take w.text.batch (queue s.ring.pacts s.ring.holder)) h.owners f (λ u l. refl))
own_kept w (Admit t) s h ok one d tr n b g =
    let f = with_at t (OfAct t) h.owners in
    all_join (λ m. m.who ≡ f m.tid) s.post.controls _ (both_all (λ m. m.tid < s.ring.next_tid) (λ m. m.who ≡ h.owners m.tid) (λ m. m.who ≡ f m.tid) s.post.controls (λ m l p. p ∙ other m.tid (λ q. omega (arith, q, l, eqb-true t s.ring.next_tid ok.0))) (trails.drawn s one).posted g) (sym here, tt)
  where
    other : (u : ℕ) → (u ≡ t → ⊥) → h.owners u ≡ with_at t (OfAct t) h.owners u
    other u n = rw (ne_eqb u t n) refl

    here : with_at t (OfAct t) h.owners t ≡ OfAct t
    here = rw (eq-eqb t t refl) refl
own_kept w (Ask t a) s h ok one d tr n b g = all_filter (λ m. m.who ≡ h.owners m.tid) _ s.post.controls g
own_kept w (Take t a) s h ok one d tr n b g = all_filter (λ m. m.who ≡ h.owners m.tid) _ s.post.controls g
own_kept w (DropControl t) s h ok one d tr n b g = all_filter (λ m. m.who ≡ h.owners m.tid) _ s.post.controls g
own_kept w (Send t a) s h ok one d tr n b g = all_join (λ m. m.who ≡ h.owners m.tid) s.post.controls _ g (sends h.owners (cell_at s a).entries t (who_on t (cell_at s a).entries) (cell_at s a).outbox (outcome_of t (cell_at s a).outbox) refl (b a).1
    (λ q. sym (names.runs_for_owner s h t a (λ e. true) (tr a).stands (d.entries a) n (tid_found t (cell_at s a).entries q))))
own_kept w e s h ok one d tr n b g = g

-- ---- over every run

pub record Known {C : Type 0} (w : Fixed C) (Of : Tx → C → Type 0) (finish : C → List State → Alone) (s : Machine C) (h : History) : Type 0 where
  pub held : Held w Of finish s h
  pub boxed : Boxed s
  pub own : Own s h
  pub in_desk : AllControls (InBook s) s

known_kept : {C : Type 0} (w : Fixed C) (Of : Tx → C → Type 0) (finish : C → List State → Alone) (e : Event) (s : Machine C) (h : History) → Given w Of finish → IsAllowed w e s → AllGood w Of finish s h → Known w Of finish s h → Known w Of finish (after w e s) (grown w e s h)
known_kept w Of finish e s h v ok g i = record {
  held = owed.held_kept w Of finish e s h v ok g i.held;
  boxed = boxing.boxed_kept w e s ok g.good.none g.good.valued g.good.from_desk i.boxed;
  own = own_kept w e s h ok g.good.held g.good.from_desk g.good.tracked i.held.whole.ordered.named i.boxed i.own;
  in_desk = in_kept w e s ok g.good.agreeing i.in_desk;
}

known_opened : {C : Type 0} (w : Fixed C) (Of : Tx → C → Type 0) (finish : C → List State → Alone) → Given w Of finish → Known w Of finish (opening w) no_history
unfolding Boxed Own
known_opened {C} w Of finish v = record { held = owed.held_opened w Of finish v; boxed = λ a. nothing w.text.opening.states a; own = tt; in_desk = nowhere w (InBook (opening w)) }
  where
    nothing : (ss : List State) (a : ℕ) → BoxedAt a (slice_index_or (map (new_cell {C = C} (base w.text)) ss) a no_cell)
    nothing [] a = (tt, tt)
    nothing (x ∷ xs) zero = (tt, tt)
    nothing (x ∷ xs) (suc a) = nothing xs a

pub all_known : {C : Type 0} (w : Fixed C) (Of : Tx → C → Type 0) (finish : C → List State → Alone) (es : List Event) → Given w Of finish → IsRun w es → Known w Of finish (reached w es) (history w es)
all_known w Of finish es v run = all.along_good w Of finish (Known w Of finish) v (λ e s h ok g i. known_kept w Of finish e s h v ok g i) (known_opened w Of finish v) es run

-- ---- in a quiet state

no_box : {C : Type 0} (es : List Entry) (xs : List (Waiting C)) → es ≡ [] → In es (λ x. x.tid) xs → xs ≡ []
no_box es [] e h = refl
no_box es (x ∷ xs) e h = absurd (true≢false (sym h.0 ∙ ap (has_entry x.tid) e))

pub no_waiting : {C : Type 0} (w : Fixed C) (Of : Tx → C → Type 0) (finish : C → List State → Alone) (es : List Event) → Given w Of finish → IsRun w es → IsQuiet w (reached w es) → (a : ℕ) → a < length (reached w es).cells → (cell_at (reached w es) a).inbox ≡ []
unfolding Boxed
no_waiting w Of finish es v run q a l = no_box (cell_at (reached w es) a).entries (cell_at (reached w es) a).inbox ((owed.answered w Of finish es v run (pacts_at_home w Of finish es v run) q).entries a l) ((all_known w Of finish es v run).boxed a).0

given_up : {C : Type 0} (w : Fixed C) (Of : Tx → C → Type 0) (finish : C → List State → Alone) (s : Machine C) (h : History) (m : ControlMessage C) → AllGood w Of finish s h → Named s h → AllAnswered w s → m.who ≡ h.owners m.tid → InBook s m.tid (Go m.to m.control)
    → Rattle.protocol_laws.proofs.machine.Resting.NoResult m.tid s.desk.batches → Rattle.protocol_laws.proofs.machine.ActResults.NoActResult m.tid s.book.acts → is_given_up m.who s.book ≡ true
unfolding Valued Acts
given_up w Of finish s h m g n a o (inl p) r c =
    let i : m.who ≡ OfBatch p.0 = o ∙ names.batch_owns s.ring.next_tid p.0 m.tid h.owners h.trails s.desk.batches n.pacts p.1 in
    let b = one_is (names_pact m.tid) (batch_of p.0 s.desk.batches) p.1 in
    elim (or_cases b.0.aborted (is_settled b.0.stage && list_all (λ p. p.trimmed) b.0.places) (list_all_at (λ b. b.bid == p.0) is_over_batch b.0 s.desk.batches b.1 a.batches)) [
      | inl q ↦ subst (λ z. is_given_up z s.book ≡ true) (sym i) (sym (settling.mark_is w s p.0 b.0 b.1 g.good.settling) ∙ q)
      | inr q ↦ absurd (boxing.with_results m.tid p.0 b.0 s.desk.batches b.1 (g.good.valued p.0 b.0 b.1 (settled_not_formed b.0.stage (and_parts (is_settled b.0.stage) (list_all (λ p. p.trimmed) b.0.places) q).0)) r p.1)
    ]
given_up {C} w Of finish s h m g n a o (inr p) r c = by (act_of m.tid s.book.acts) refl p
  where
    by : (y : Option Act) → act_of m.tid s.book.acts ≡ y → is_some y ≡ true → is_given_up m.who s.book ≡ true
    by None e q = absurd (true≢false (sym q))
    by (Some x) e q =
        let i : m.who ≡ OfAct m.tid = o ∙ (names.act_owns s.ring.next_tid m.tid h.owners h.trails (λ x. true) s.book.acts (subst (λ z. holds (λ x. true) z ≡ true) (sym e) refl) n.acts).1 in
        let v = and_parts (is_doomed x.status || is_sealed x.status) (list_all (λ p. p.finished) x.places) (list_all_at (λ x. x.tid == m.tid) is_over_act x s.book.acts e a.acts) in
        elim (or_cases (is_doomed x.status) (is_sealed x.status) v.0) [
          | inl d ↦ subst (λ z. is_given_up z s.book ≡ true) (sym i) (subst (λ z. holds (λ x. is_doomed x.status) z ≡ true) (sym e) d)
          | inr d ↦ absurd (true≢false (sym ((g.acts m.tid x e).ended (or_right (is_decided x.status) (is_sealed x.status) d)) ∙ ap is_some (c m.tid x e refl)))
        ]

pub no_posted : {C : Type 0} (w : Fixed C) (Of : Tx → C → Type 0) (finish : C → List State → Alone) (es : List Event) → Given w Of finish → IsRun w es → IsQuiet w (reached w es) → (reached w es).post.controls ≡ []
unfolding Own conditions
no_posted {C} w Of finish es v run q = by (reached w es).post.controls refl
  where
    found : (m : ControlMessage C) (cs : List (ControlMessage C)) → control_of m.tid (m ∷ cs) ≡ Some m
    found m cs = rw (eq-eqb m.tid m.tid refl) refl

    by : (cs : List (ControlMessage C)) → (reached w es).post.controls ≡ cs → cs ≡ []
    by [] e = refl
    by (m ∷ cs) e =
        let s = reached w es in
        let h = history w es in
        let g = all.all_good w Of finish es v run in
        let i = all_known w Of finish es v run in
        let f : control_of m.tid s.post.controls ≡ Some m = ap (control_of m.tid) e ∙ found m cs in
        let u = given_up w Of finish s h m g i.held.whole.ordered.named (owed.answered w Of finish es v run (pacts_at_home w Of finish es v run) q)
        (subst (AllByRecursion (λ m. m.who ≡ h.owners m.tid)) e i.own).0
        (subst (AllByRecursion (λ m. InBook s m.tid (Go m.to m.control))) e i.in_desk.posted).0
        (subst (AllByRecursion (λ m. Rattle.protocol_laws.proofs.machine.Resting.NoResult m.tid s.desk.batches)) e g.good.none.posted).0
        (subst (AllByRecursion (λ m. Rattle.protocol_laws.proofs.machine.ActResults.NoActResult m.tid s.book.acts)) e g.none.posted).0 in
        absurd (q (DropControl m.tid) (ap is_some f, (subst (λ o. holds (λ m. is_given_up m.who s.book) o ≡ true) (sym f) u, tt)))
