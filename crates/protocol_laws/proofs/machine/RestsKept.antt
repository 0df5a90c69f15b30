-- A PACT is not done where its control rests, event by event; so a slice runs only of a PACT that is not done there.
use Rattle.std.specs.Prelude.{◌≡◌, refl, ℕ, ◌≤◌, ◌<◌, ◌==◌, Bool, true, false, if◌then◌else◌, Option, Some, None, is_some, List, [], ◌∷◌, length, take}
use Rattle.std.specs.List.{AllByRecursion, list_any}
use Rattle.std.proofs.Common.{arith, sym, ap, subst, inl, inr, ◌∙◌}
use Rattle.std.proofs.lemmas.Bool.{eqb-true, eq-eqb, ne_eqb, or_cases, true≢false}
use Rattle.snap_base.specs.declared.transactions.State.{State}
use Rattle.snap_base.specs.declared.transactions.Tx.{Tx}
use Rattle.protocol.specs.Fixed.{Fixed, Next, Go, Ended, tx_at, root, is_pact}
use Rattle.protocol.specs.Parts.{Pact, Batch, Slot, Entry, BatchEntry, ActEntry, Waiting, Machine}
use Rattle.protocol.specs.Events.{Event, Form, Admit, Run, Close}
use Rattle.protocol.specs.Words.{holds, names_pact, pact_result, batch_of, waiting_of}
use Rattle.protocol.specs.Conditions.{IsAllowed, conditions, queue}
use Rattle.protocol.specs.Effects.{after, cell_at, no_cell}
use Rattle.protocol.specs.Facts.{Alone, Facts}
use Rattle.protocol.specs.OnRing as ring
use Rattle.protocol.specs.History.{History, grown, begun}
use Rattle.protocol_laws.specs.Turns.{NotDone}
use Rattle.protocol_laws.specs.FromDesk.{is_pact_of, EntryOf, FromDesk}
use Rattle.protocol_laws.proofs.first.Controls as controls
use Rattle.protocol_laws.proofs.machine.ControlWalk
use Rattle.protocol_laws.proofs.machine.ControlWalk.{AllControls, Ready}
use Rattle.protocol_laws.proofs.machine.TracksKept.{held}
use Rattle.protocol_laws.proofs.machine.TrailsKept.{Told, at_most_one, drawn, begun_below, new_tids}
use Rattle.protocol_laws.proofs.machine.Resting.{EachPact, Drawn, NoneNoted, no_result, undone_stays, goes_on_undone, numbered_from}
use Rattle.protocol.specs.Rests.{IsTxIn}
use Rattle.protocol_laws.proofs.first.Lists.{all_found}

-- of transaction x, which has this tid
abbrev pub RestsAt : {C : Type 0} → Fixed C → Machine C → ℕ → ℕ → Next C → Type 0
RestsAt w s x t (Go b c) = is_pact (tx_at w.text x) ≡ true → (i : ℕ) → w.code.rests_on c i ≡ true → AllByRecursion (NotDone t) (cell_at s i).entries
RestsAt w s x t (Ended r) = Unit {0}

abbrev pub Rests : {C : Type 0} → Fixed C → Machine C → History → ℕ → Next C → Type 0
Rests w s h t n = RestsAt w s (h.trails t).tx t n

weaker : {C : Type 0} (w : Fixed C) (s z : Machine C) (x y t : ℕ) (n : Next C) → y ≡ x → ((i : ℕ) → AllByRecursion (NotDone t) (cell_at s i).entries → AllByRecursion (NotDone t) (cell_at z i).entries) → RestsAt w s x t n → RestsAt w z y t n
weaker w s z x y t (Go b c) e k h = λ p i r. k i (h (ap (λ v. is_pact (tx_at w.text v)) (sym e) ∙ p) i r)
weaker w s z x y t (Ended r) e k h = tt

-- ---- a new tid is nowhere

found_drawn : (t k next : ℕ) (bs : List Batch) → is_pact_of t k bs ≡ true → EachPact (λ u r. u < next) bs → t < next
found_drawn t k next [] e h = absurd (true≢false (sym e))
found_drawn t k next (b ∷ bs) e h = by (b.bid == k) e (λ q. found_drawn t k next bs q h.1)
  where
    named : (ps : List Pact) → list_any (λ p. p.tid == t) ps ≡ true → AllByRecursion (λ p. p.tid < next) ps → t < next
    named [] q g = absurd (true≢false (sym q))
    named (p ∷ ps) q g = elim (or_cases (p.tid == t) (list_any (λ p. p.tid == t) ps) q) [ inl v ↦ omega (arith, eqb-true p.tid t v, g.0) | inr v ↦ named ps v g.1 ]

    by : (v : Bool) → holds (names_pact t) (if v then Some b else batch_of k bs) ≡ true → (holds (names_pact t) (batch_of k bs) ≡ true → t < next) → t < next
    by true q k = named b.pacts q h.0
    by false q k = k q

fresh : (a t next : ℕ) (bs : List Batch) (es : List Entry) → next ≤ t → EachPact (λ u r. u < next) bs → AllByRecursion (EntryOf a bs) es → AllByRecursion (NotDone t) es
fresh a t next bs [] l d h = tt
fresh a t next bs (BatchEntry b ∷ es) l d h = (slots b.slots h.0.1, fresh a t next bs es l d h.1)
  where
    slots : (ss : List Slot) → AllByRecursion (λ s. is_pact_of s.tid b.bid bs ≡ true) ss → AllByRecursion (λ s. s.tid ≡ t → s.done ≡ false) ss
    slots [] g = tt
    slots (s ∷ ss) g = (λ e. absurd (omega (arith, e, l, found_drawn s.tid b.bid next bs g.0 d)), slots ss g.1)
fresh a t next bs (ActEntry x ∷ es) l d h = (tt, fresh a t next bs es l d h.1)

first_rests : {C : Type 0} (w : Fixed C) (s : Machine C) (txs : ℕ → ℕ) (low : ℕ) (ps : List Pact) → AllByRecursion (λ p. low ≤ p.tid) ps → ((t : ℕ) → low ≤ t → (i : ℕ) → AllByRecursion (NotDone t) (cell_at s i).entries)
    → AllByRecursion (λ q. RestsAt w s (txs q.tid) q.tid (Go (root (tx_at w.text q.tx)) (w.code.start q.tid (tx_at w.text q.tx)))) ps
first_rests w s txs low [] l f = tt
first_rests w s txs low (p ∷ ps) l f = (λ q i r. f p.tid l.0 i, first_rests w s txs low ps l.1 f)

-- no event but these marks PACTs, and none but these begins or goes on with trails
pub kept : {C : Type 0} (w : Fixed C) (Of : Tx → C → Type 0) (finish : C → List State → Alone) (e : Event) (s : Machine C) (h : History) → Facts (length w.text.opening.states) w.code (IsTxIn w.text) Of finish → IsAllowed w e s → controls.HeldIn s → Drawn s → FromDesk s
    → AllControls (NoneNoted s) s → AllControls (Told w Of finish h) s → AllControls (Rests w s h) s → AllControls (Rests w (after w e s) (grown w e s h)) (after w e s)
unfolding Drawn conditions grown Ready after
kept w Of finish (Form k) s h f ok one d fd n told g =
    let asc = new_tids s.ring.next_tid s.ring.next_tid (take w.text.batch (queue s.ring.pacts s.ring.holder)) (omega arith) in
    ControlWalk.moves w (Form k) s (Rests w (after w (Form k) s) (grown w (Form k) s h)) ok
    (first_rests w (after w (Form k) s) (λ t. (begun (ring.next_pacts w.text s.ring) h.trails t).tx) s.ring.next_tid (ring.next_pacts w.text s.ring) (numbered_from s.ring.next_tid s.ring.next_tid _ (omega arith)) (λ t l i. fresh i t s.ring.next_tid s.desk.batches (cell_at s i).entries l d (fd.entries i)))
    (ControlWalk.both (Rests w s h) (λ u n. u < s.ring.next_tid) _ s (λ t m p q. weaker w s (after w (Form k) s) (h.trails t).tx _ t m (ap (λ z. z.tx) (begun_below (ring.next_pacts w.text s.ring) s.ring.next_tid t h.trails asc q)) (λ i v. v) p) g (drawn s one))
kept w Of finish (Admit t) s h f ok one d fd n told g =
    let j : t ≡ s.ring.next_tid = eqb-true t s.ring.next_tid ok.0 in
    ControlWalk.moves w (Admit t) s (Rests w (after w (Admit t) s) (grown w (Admit t) s h)) ok
    (λ q i r. fresh i t s.ring.next_tid s.desk.batches (cell_at s i).entries (omega (arith, j)) d (fd.entries i))
    (ControlWalk.both (Rests w s h) (λ u n. u < s.ring.next_tid) _ s (λ u m p q. weaker w s (after w (Admit t) s) (h.trails u).tx _ u m (rw (ne_eqb u t (λ v. omega (arith, v, j, q))) refl) (λ i v. v) p) g (drawn s one))
kept {C} w Of finish (Run t a) s h f ok one d fd n told g = by (waiting_of t (cell_at s a).inbox) refl (held (λ c. is_some (waiting_of t c.inbox)) s.cells a no_cell ok.0)
  where
    by : (o : Option (Waiting C)) → waiting_of t (cell_at s a).inbox ≡ o → is_some o ≡ true → AllControls (Rests w (after w (Run t a) s) (grown w (Run t a) s h)) (after w (Run t a) s)
    by None e q = absurd (true≢false (sym q))
    by (Some x) e q =
        let own = all_found (λ x. Rests w s h x.tid (Go a x.control)) (λ x. x.tid == t) (cell_at s a).inbox x (g.inboxes a) e in
        let of_it = all_found (λ x. Told w Of finish h x.tid (Go a x.control)) (λ x. x.tid == t) (cell_at s a).inbox x (told.inboxes a) e in
        let i : x.tid ≡ t = eqb-true x.tid t own.1 in
        ControlWalk.run_moves w t a s x (Rests w s h) (Rests w (after w (Run t a) s) (grown w (Run t a) s h)) (at_most_one t s one) e
        (λ u m v p. weaker w s (after w (Run t a) s) (h.trails u).tx _ u m (rw (ne_eqb u t v) refl) (undone_stays w (Run t a) s u v) p)
        (next (w.code.slice x.control (cell_at s a).state).next refl (subst (λ z. RestsAt w s (h.trails z).tx z (Go a x.control)) i own.0) (subst (λ z. Of (tx_at w.text (h.trails z).tx) x.control) i of_it.0.of_it.0))
        g
      where
        next : (m : Next C) → (w.code.slice x.control (cell_at s a).state).next ≡ m → RestsAt w s (h.trails t).tx t (Go a x.control) → Of (tx_at w.text (h.trails t).tx) x.control → Rests w (after w (Run t a) s) (grown w (Run t a) s h) t m
        next (Ended r) v rests of_it = tt
        next (Go b c) v rests of_it = λ p. let p' : is_pact (tx_at w.text (h.trails t).tx) ≡ true = own_tx p in goes_on_undone w Of finish (tx_at w.text (h.trails t).tx) t a x.control c b x s f p' of_it e refl v (rests p')
          where
            own_tx : is_pact (tx_at w.text ((grown w (Run t a) s h).trails t).tx) ≡ true → is_pact (tx_at w.text (h.trails t).tx) ≡ true
            own_tx p = let same : ((grown w (Run t a) s h).trails t).tx ≡ (h.trails t).tx = rw (eq-eqb t t refl) refl in ap (λ v. is_pact (tx_at w.text v)) (sym same) ∙ p
kept w Of finish (Close t a) s h f ok one d fd n told g = ControlWalk.moves w (Close t a) s (Rests w (after w (Close t a) s) h) ok tt
    (ControlWalk.both (Rests w s h) (NoneNoted s) _ s (λ u m p q. weaker w s (after w (Close t a) s) (h.trails u).tx (h.trails u).tx u m refl (undone_stays w (Close t a) s u (λ v. no_result u s.desk.batches q (subst (λ z. is_some (pact_result z s.desk.batches) ≡ true) (sym v) ok.0))) p) g n)
kept w Of finish e s h f ok one d fd n told g = ControlWalk.moves w e s (Rests w (after w e s) (grown w e s h)) ok tt
    (ControlWalk.both (Rests w s h) (λ u m. Unit {0}) _ s (λ u m p q. weaker w s (after w e s) (h.trails u).tx (h.trails u).tx u m refl (undone_stays w e s u tt) p) g (ControlWalk.trivial s))

-- a PACT whose control is in an inbox is not done there
pub runs_undone : {C : Type 0} (w : Fixed C) (Of : Tx → C → Type 0) (finish : C → List State → Alone) (t a : ℕ) (s : Machine C) (h : History) (x : Waiting C) → Facts (length w.text.opening.states) w.code (IsTxIn w.text) Of finish → waiting_of t (cell_at s a).inbox ≡ Some x → is_pact (tx_at w.text (h.trails t).tx) ≡ true
    → AllControls (Told w Of finish h) s → AllControls (Rests w s h) s → AllByRecursion (NotDone t) (cell_at s a).entries
runs_undone w Of finish t a s h x f e p told g =
    let own = all_found (λ x. Rests w s h x.tid (Go a x.control)) (λ x. x.tid == t) (cell_at s a).inbox x (g.inboxes a) e in
    let of_it = all_found (λ x. Told w Of finish h x.tid (Go a x.control)) (λ x. x.tid == t) (cell_at s a).inbox x (told.inboxes a) e in
    let i : x.tid ≡ t = eqb-true x.tid t own.1 in
    let o : Of (tx_at w.text (h.trails t).tx) x.control = subst (λ z. Of (tx_at w.text (h.trails z).tx) x.control) i of_it.0.of_it.0 in
    (subst (λ z. RestsAt w s (h.trails z).tx z (Go a x.control)) i own.0) p a (ap (w.code.rests_on x.control) (sym of_it.0.of_it.1) ∙ f.rests_where_it_stands (tx_at w.text (h.trails t).tx) x.control p o)
