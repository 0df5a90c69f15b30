-- Who may still commit has a control or a result, after every run.
use Rattle.std.specs.Prelude.{◌≡◌, refl, ℕ, ◌≤◌, ◌==◌, not, Bool, true, false, ◌||◌, ◌⊎◌, if◌then◌else◌, Option, Some, None, is_some, List, [], ◌∷◌, ◌++◌, map, filter, find, max}
use Rattle.std.specs.List.{AllByRecursion, list_any}
use Rattle.std.proofs.Common.{arith, sym, ap, subst, inl, inr, ◌∙◌}
use Rattle.std.proofs.lemmas.Bool.{true≢false, eqb-true, eqb-false, eq-eqb, or_cases, or_left, or_right, and_parts, not-true, cases_Bool, false_from_ne_true}
use Rattle.snap_base.specs.declared.transactions.State.{State}
use Rattle.snap_base.specs.declared.transactions.Tx.{Tx}
use Rattle.protocol.specs.Facts.{Alone}
use Rattle.protocol.specs.Fixed.{Fixed}
use Rattle.protocol.specs.Parts.{Act, Pact, Status, Live, Doomed, Decided, Sealed, Who, OfBatch, OfAct, Entry, Machine}
use Rattle.protocol.specs.Events.{Event, Form, Admit, Ask, Take, Run, Send, End, Rollback, DropControl, Finish}
use Rattle.protocol.specs.Words.{holds, is_who, who_on, who_of, is_open, is_formed, is_doomed, is_sealed, is_aborted, is_live_status, names_pact, act_of, batch_of, is_entry_of, control_of, waiting_of, outcome_of, lock_of, floor_at}
use Rattle.protocol.specs.Contents.{Controls, Inboxes, Outboxes}
use Rattle.protocol.specs.Numbers.{times, one_if, tids_of_controls, controls_in}
use Rattle.protocol.specs.Conditions.{IsAllowed, conditions, is_given_up}
use Rattle.protocol.specs.Effects.{after, cell_at, no_cell}
use Rattle.protocol.specs.OnRing as ring
use Rattle.protocol.specs.OnPost as post
use Rattle.protocol.specs.OnBook as book
use Rattle.protocol.specs.OnCell as cell
use Rattle.protocol.specs.History.{History}
use Rattle.protocol_laws.specs.Tracks.{key_of, keys_in, is_key_among}
use Rattle.protocol_laws.specs.FromDesk.{EntryOf}
use Rattle.protocol_laws.proofs.first.Times
use Rattle.protocol_laws.proofs.first.Frames.{frame}
use Rattle.protocol_laws.proofs.machine.TrackLists
use Rattle.protocol_laws.proofs.machine.TracksKept.{Tracked, held, in_range}
use Rattle.protocol_laws.proofs.machine.TurnsKept.{one_is}
use Rattle.protocol_laws.proofs.first.SettlingKept as settling
use Rattle.protocol_laws.proofs.machine.ActsFound as acts
use Rattle.protocol_theorems.proofs.order.NamesKept as names
use Rattle.protocol_theorems.proofs.order.NamesKept.{Named, OwnsIt}
use Rattle.protocol_theorems.proofs.order.RunsBefore.{lives, is_open_with}
use Rattle.protocol_theorems.proofs.order.SlicesKept.{runs, runs_was, runs_named, stays_ahead, finishes_other, IsNew}
use Rattle.protocol_theorems.proofs.order.OwedHolds.{live_stay}
use Rattle.protocol_laws.proofs.machine.ActsOwed.{finish_exists}
use Rattle.protocol_laws.proofs.machine.StartsKept.{own_only, all_going}
use Rattle.protocol_laws.proofs.machine.AllGood.{AllGood}
use Rattle.protocol_theorems.proofs.quiet.EnteredKept as entering
use Rattle.protocol_theorems.proofs.quiet.EnteredKept.{Entered}
use Rattle.protocol_theorems.proofs.quiet.ControlsHeld as counts
use Rattle.protocol_theorems.proofs.quiet.ControlsHeld.{Whose, IsWhose, Resulted}
use Rattle.protocol_laws.proofs.first.Lists.{all_found}

unfoldable pub HasOne : {C : Type 0} → Machine C → Type 0
HasOne s = (who : Who) (t : ℕ) → runs s who t ≡ true → (1 ≤ times t (controls_in s)) ⊎ Resulted s who t

-- ---- a rollback takes no control of who stays

keys_each : (P : Who → Type 0) (es : List Entry) → AllByRecursion (λ k. P k.who) (map key_of es) → AllByRecursion (λ e. P (who_of e)) es
keys_each P [] h = tt
keys_each P (e ∷ es) h = (h.0, keys_each P es h.1)

each_keys : (P : Who → Type 0) (es : List Entry) → AllByRecursion (λ e. P (who_of e)) es → AllByRecursion (λ k. P k.who) (map key_of es)
each_keys P [] h = tt
each_keys P (e ∷ es) h = (h.0, each_keys P es h.1)

pub tid_found : (t : ℕ) (es : List Entry) → cell.is_tid_among t es ≡ true → holds (λ e. true) (find (is_entry_of t) es) ≡ true
tid_found t [] h = absurd (true≢false (sym h))
tid_found t (e ∷ es) h = by (is_entry_of t e) h (tid_found t es)
  where
    by : (v : Bool) → (v || cell.is_tid_among t es) ≡ true → (cell.is_tid_among t es ≡ true → holds (λ e. true) (find (is_entry_of t) es) ≡ true) → holds (λ e. true) (if v then Some e else find (is_entry_of t) es) ≡ true
    by true h r = refl
    by false h r = r h

who_among : (t : ℕ) (es : List Entry) → cell.is_tid_among t es ≡ true → is_key_among (who_on t es) (map key_of es) ≡ true
who_among t [] h = absurd (true≢false (sym h))
who_among t (e ∷ es) h = by (is_entry_of t e) h (who_among t es)
  where
    by : (v : Bool) → (v || cell.is_tid_among t es) ≡ true → (cell.is_tid_among t es ≡ true → is_key_among (who_on t es) (map key_of es) ≡ true) → is_key_among (if v then who_of e else who_on t es) (map key_of (e ∷ es)) ≡ true
    by true h r = or_left (is_who (who_of e) (who_of e)) _ (TrackLists.is_who_refl (who_of e))
    by false h r = or_right (is_who (who_of e) (who_on t es)) _ (r h)

stays_here : {C : Type 0} (w : Fixed C) (Of : Tx → C → Type 0) (finish : C → List State → Alone) (s : Machine C) (h : History) (who : Who) (t a : ℕ) → AllGood w Of finish s h → Named s h → runs s who t ≡ true → cell.is_tid_among t (cell.going s.book.cascades (cell_at s a).entries) ≡ false
unfolding Tracked
stays_here w Of finish s h who t a g n r = false_from_ne_true _ (λ q.
    let gs = cell.going s.book.cascades (cell_at s a).entries in
    let owns : AllByRecursion (λ k. OwnsIt s.ring.next_tid h.owners k.who) (map key_of (cell_at s a).entries) = subst (AllByRecursion (λ k. OwnsIt s.ring.next_tid h.owners k.who)) (sym (g.good.tracked a).stands) (names.standing_keys (OwnsIt s.ring.next_tid h.owners) (h.long a) (n.standing a)) in
    let o : h.owners t ≡ who_on t gs = names.owner_on s.ring.next_tid a t h.owners h.trails s.desk.batches gs n.pacts (all_going (EntryOf a s.desk.batches) s.book.cascades (cell_at s a).entries (g.good.from_desk.entries a))
    (each_keys (OwnsIt s.ring.next_tid h.owners) gs (all_going (λ e. OwnsIt s.ring.next_tid h.owners (who_of e)) s.book.cascades (cell_at s a).entries (keys_each (OwnsIt s.ring.next_tid h.owners) (cell_at s a).entries owns))) (λ e. true) (tid_found t gs q) in
    let i : who_on t gs ≡ who = sym o ∙ (runs_named s h who t n r).1 in
    let m : is_key_among who (map key_of gs) ≡ true = subst (λ z. is_key_among z (map key_of gs) ≡ true) i (who_among t gs q) in
    let v : is_key_among who (TrackLists.keys_going s.book.cascades (keys_in (h.long a))) ≡ true = ap (λ ks. is_key_among who (TrackLists.keys_going s.book.cascades ks)) (sym (g.good.tracked a).stands) ∙ (sym (TrackLists.among_going s.book.cascades who (cell_at s a).entries) ∙ (TrackLists.among_entries who gs ∙ m)) in
    true≢false (sym v ∙ stays_ahead w s h who t a g.good.settling g.good.placed g.good.tracked (live_stay w Of finish (Rollback a) s h g) r))

-- ---- who finishes, dies or is given up is another one

act_owner : {C : Type 0} (s : Machine C) (h : History) (p : Act → Bool) (who : Who) (t u : ℕ) → Named s h → runs s who u ≡ true → holds p (act_of t s.book.acts) ≡ true → u ≡ t → who ≡ OfAct t
act_owner s h p who t u n r q e =
    let o = names.act_owns s.ring.next_tid t h.owners h.trails p s.book.acts q n.acts in
    sym (runs_named s h who u n r).1 ∙ (ap h.owners e ∙ o.1)

finishes : {C : Type 0} (s : Machine C) (h : History) (who : Who) (t u : ℕ) → Named s h → runs s who u ≡ true → holds (λ x. is_doomed x.status || is_sealed x.status) (act_of t s.book.acts) ≡ true → (u == t) ≡ false
finishes s h who t u n r q = false_from_ne_true (u == t) (λ e.
    let i = act_owner s h (λ x. is_doomed x.status || is_sealed x.status) who t u n r q (eqb-true u t e) in
    true≢false (sym (subst (λ z. is_who (OfAct t) z ≡ true) (sym i) (eq-eqb t t refl)) ∙ finishes_other s t u who q r))

dead : (t : ℕ) (v : Rattle.snap_base.specs.declared.verdicts.Verdict.Verdict) (xs : List Act) → holds lives (act_of t (book.changed_act t (book.doomed_by v) xs)) ≡ true → ⊥
dead t v xs h =
    let x = one_is lives (act_of t (book.changed_act t (book.doomed_by v) xs)) h in
    let e = acts.each_changed (λ u x. Unit {0}) (λ u x. u ≡ t → is_live_status x.status ≡ false) t (book.doomed_by v) xs (λ x. refl) (λ u x d f p j. absurd (d j)) (λ x f p j. by x (is_live_status x.status) refl) (λ u x f. tt) in
    true≢false (sym x.2 ∙ e t x.0 x.1 refl)
  where
    by : (x : Act) (b : Bool) → is_live_status x.status ≡ b → is_live_status (if b then Doomed v else x.status) ≡ false
    by x true e = refl
    by x false e = e

not_dropped : {C : Type 0} (w : Fixed C) (Of : Tx → C → Type 0) (finish : C → List State → Alone) (s : Machine C) (h : History) (who : Who) (t : ℕ) → AllGood w Of finish s h → Named s h → Whose s h → runs s who t ≡ true → holds (λ m. is_given_up m.who s.book) (control_of t s.post.controls) ≡ true → ⊥
unfolding Whose
not_dropped {C} w Of finish s h who t g n i r q =
    let m = one_is (λ m. is_given_up m.who s.book) (control_of t s.post.controls) q in
    let f = all_found (IsWhose h.owners) (λ m. m.tid == t) s.post.controls m.0 i m.1 in
    by m.0.who m.2 (subst (λ z. (m.0.who ≡ OfAct z) ⊎ (m.0.who ≡ h.owners z)) (eqb-true m.0.tid t f.1) f.0)
  where
    live_doomed : (o : Option Act) → holds lives o ≡ true → holds (λ x. is_doomed x.status) o ≡ true → ⊥
    live_doomed None a b = true≢false (sym a)
    live_doomed (Some x) a b = at x.status a b
      where
        at : (st : Status) → is_live_status st ≡ true → is_doomed st ≡ true → ⊥
        at Live a b = true≢false (sym b)
        at (Doomed v) a b = true≢false (sym a)
        at (Decided c) a b = true≢false (sym a)
        at (Sealed c) a b = true≢false (sym a)

    open_not : (k : ℕ) → holds (is_open_with t) (batch_of k s.desk.batches) ≡ true → is_aborted k s.book.cascades ≡ true → ⊥
    open_not k a b =
        let x = one_is (is_open_with t) (batch_of k s.desk.batches) a in
        let o = and_parts (is_formed x.0.stage) (not x.0.aborted) (and_parts (is_open x.0) (names_pact t x.0) x.2).0 in
        true≢false (sym b ∙ (sym (settling.mark_is w s k x.0 x.1 g.good.settling) ∙ not-true x.0.aborted o.1))

    lost : (who : Who) → runs s who t ≡ true → is_given_up who s.book ≡ true → ⊥
    lost (OfBatch k) r v = open_not k r v
    lost (OfAct u) r v = live_doomed (act_of u s.book.acts) (and_parts (u == t) (holds lives (act_of u s.book.acts)) r).1 v

    as_act : (who : Who) → runs s who t ≡ true → holds (λ x. is_doomed x.status) (act_of t s.book.acts) ≡ true → ⊥
    as_act (OfBatch k) r v = let x = one_is (λ x. is_doomed x.status) (act_of t s.book.acts) v in entering.pact_no_act s h t k g.acts (counts.pact_of_open t k s.desk.batches r) t x.0 x.1 refl
    as_act (OfAct u) r v = let p = and_parts (u == t) (holds lives (act_of u s.book.acts)) r in live_doomed (act_of u s.book.acts) p.1 (subst (λ z. holds (λ x. is_doomed x.status) (act_of z s.book.acts) ≡ true) (sym (eqb-true u t p.0)) v)

    by : (z : Who) → is_given_up z s.book ≡ true → (z ≡ OfAct t) ⊎ (z ≡ h.owners t) → ⊥
    by z v (inl e) = as_act who r (subst (λ y. is_given_up y s.book ≡ true) e v)
    by z v (inr e) = lost who r (subst (λ y. is_given_up y s.book ≡ true) (e ∙ (runs_named s h who t n r).1) v)

-- ---- one event

asks : {C : Type 0} (w : Fixed C) (Of : Tx → C → Type 0) (finish : C → List State → Alone) (s : Machine C) (h : History) (who : Who) (u t a : ℕ) (o : Option ℕ) → IsAllowed w (Ask t a) s → AllGood w Of finish s h → Named s h → runs s who u ≡ true
    → (u ≡ t → holds lives (act_of t (book.asked_acts o (book.met (lock_of t s.book.acts) (cell_at s a).entries) t a (max (cell_at s a).last (floor_at t s.book.acts (cell_at s a))) s.book)) ≡ true) → 1 ≤ times u (controls_in s)
    → 1 ≤ times u (tids_of_controls (Rattle.protocol.specs.Words.without_control t s.post.controls) (map (λ c. c.inbox) (Rattle.protocol.specs.Effects.puts s a (cell.act_placed (lock_of t s.book.acts) o (control_of t s.post.controls) (cell_at s a)))) (map (λ c. c.outbox) (Rattle.protocol.specs.Effects.puts s a (cell.act_placed (lock_of t s.book.acts) o (control_of t s.post.controls) (cell_at s a)))))
unfolding conditions
asks w Of finish s h who u t a None ok g n r l c = counts.comes u t (λ m. m.to == a) s a (cell.act_placed (lock_of t s.book.acts) None (control_of t s.post.controls) (cell_at s a)) (in_range _ s.cells a ok.1.1.0) ok.0 refl refl c
asks w Of finish s h who u t a (Some older) ok g n r l c = elim (cases_Bool (u == t)) [
  | inl e ↦ absurd (dead t _ s.book.acts (l (eqb-true u t e)))
  | inr e ↦ counts.leaves_on u a [] (record s { post = post.control_taken t s.post }) (cell.act_placed (lock_of t s.book.acts) (Some older) (control_of t s.post.controls) (cell_at s a)) (in_range _ s.cells a ok.1.1.0) refl (append_all (cell_at s a).inbox) (all_stay (cell_at s a).outbox) (counts.drops_other u t s (eqb-false u t e) c)
]
  where
    all_stay : {X : Type 0} (xs : List X) → xs ≡ filter (λ x. not false) xs
    all_stay [] = refl
    all_stay (x ∷ xs) = ap (λ z. x ∷ z) (all_stay xs)

    append_all : {X : Type 0} (xs : List X) → xs ++ [] ≡ filter (λ x. not false) xs
    append_all [] = refl
    append_all (x ∷ xs) = ap (λ z. x ∷ z) (append_all xs)

live_after : {C : Type 0} (s : Machine C) (who : Who) (u t : ℕ) → who ≡ OfAct t → runs s who u ≡ true → holds lives (act_of t s.book.acts) ≡ true
live_after s who u t e r = (and_parts (t == u) (holds lives (act_of t s.book.acts)) (subst (λ z. runs s z u ≡ true) e r)).1

pub still_one : {C : Type 0} (w : Fixed C) (Of : Tx → C → Type 0) (finish : C → List State → Alone) (e : Event) (s : Machine C) (h : History) (who : Who) (u : ℕ) → IsAllowed w e s → AllGood w Of finish s h → Named s h → Entered s → Whose s h → runs s who u ≡ true → runs (after w e s) who u ≡ true
    → 1 ≤ times u (controls_in s) → (1 ≤ times u (controls_in (after w e s))) ⊎ Resulted (after w e s) who u
unfolding conditions after
still_one w Of finish (Form k) s h who u ok g n i j r l c = inl (counts.moved_post u s.post.controls _ (map (λ c. c.inbox) s.cells) (map (λ c. c.outbox) s.cells) c)
still_one w Of finish (Admit t) s h who u ok g n i j r l c = inl (counts.moved_post u s.post.controls _ (map (λ c. c.inbox) s.cells) (map (λ c. c.outbox) s.cells) c)
still_one w Of finish (Ask t a) s h who u ok g n i j r l c = inl (asks w Of finish s h who u t a (book.in_the_way (lock_of t s.book.acts) (cell_at s a).entries) ok g n r (λ e. live_after (after w (Ask t a) s) who u t (act_owner s h (λ x. not (is_doomed x.status)) who t u n r ok.1.0 e) l) c)
still_one w Of finish (Take t a) s h who u ok g n i j r l c = inl (counts.comes u t (λ m. m.to == a) s a (cell.control_came (control_of t s.post.controls) (cell_at s a)) (in_range _ s.cells a ok.1.0) ok.0 refl refl c)
still_one w Of finish (Run t a) s h who u ok g n i j r l c = inl (counts.runs_on w u t a s (in_range _ s.cells a ok.0) (held (λ c. is_some (waiting_of t c.inbox)) s.cells a no_cell ok.0) c)
still_one w Of finish (Send t a) s h who u ok g n i j r l c = inl (counts.sends_on u t a s (in_range _ s.cells a ok.0) (held (λ c. holds (λ x. Rattle.protocol.specs.Words.is_going x.next) (outcome_of t c.outbox)) s.cells a no_cell ok.0) c)
still_one w Of finish (End t a) s h who u ok g n i j r l c = elim (cases_Bool (u == t)) [
  | inl e ↦ inr (subst (λ z. Resulted (after w (End t a) s) who z) (sym (eqb-true u t e)) (counts.ends_own w Of finish s h who t a ok g i (subst (λ z. runs s who z ≡ true) (eqb-true u t e) r)))
  | inr e ↦ inl (counts.ends_other u t a s (in_range _ s.cells a ok.0) (eqb-false u t e) c)
]
still_one w Of finish (Rollback a) s h who u ok g n i j r l c = inl (counts.leaves_on u a (cell.going s.book.cascades (cell_at s a).entries) s (cell.rolled_back s.book.cascades (cell_at s a)) (in_range _ s.cells a ok.0) (stays_here w Of finish s h who u a g n r) refl refl c)
still_one w Of finish (Finish t a) s h who u ok g n i j r l c = inl (counts.leaves_on u a (cell.own_entries t (cell_at s a).entries) s (cell.act_left t (act_of t s.book.acts) (cell_at s a)) (finish_exists w t a s h ok g.acts) (own_only t u (cell_at s a).entries (finishes s h who t u n r ok.0)) refl refl c)
still_one w Of finish (DropControl t) s h who u ok g n i j r l c = elim (cases_Bool (u == t)) [
  | inl e ↦ absurd (not_dropped w Of finish s h who t g n j (subst (λ z. runs s who z ≡ true) (eqb-true u t e) r) ok.1.0)
  | inr e ↦ inl (counts.drops_other u t s (eqb-false u t e) c)
]
still_one w Of finish e s h who u ok g n i j r l c = inl (counts.same_places u s.post.controls _ (map (λ c. c.inbox) s.cells) _ (map (λ c. c.outbox) s.cells) _ (frame w e s Controls refl) (frame w e s Inboxes refl) (frame w e s Outboxes refl) c)

-- ---- new ones

new_times : {C : Type 0} (w : Fixed C) (k t : ℕ) (ps : List Pact) → list_any (λ p. p.tid == t) ps ≡ true → 1 ≤ times t (map (λ m. m.tid) (map (λ q. post.first_control w (OfBatch k) q.tid q.tx) ps))
new_times w k t [] h = absurd (true≢false (sym h))
new_times w k t (p ∷ ps) h = elim (or_cases (p.tid == t) (list_any (λ p. p.tid == t) ps) h) [
  | inl e ↦ omega (arith, Times.times_cons t p.tid (map (λ m. m.tid) (map (λ q. post.first_control w (OfBatch k) q.tid q.tx) ps)), ap one_if e)
  | inr e ↦ omega (arith, Times.times_cons t p.tid (map (λ m. m.tid) (map (λ q. post.first_control w (OfBatch k) q.tid q.tx) ps)), new_times w k t ps e)
]

new_one : {C : Type 0} (w : Fixed C) (e : Event) (s : Machine C) (who : Who) (t : ℕ) → IsNew w e s who t → 1 ≤ times t (controls_in (after w e s))
unfolding after
new_one w (Form j) s (OfBatch k) t h = counts.new_post t s.post.controls _ (map (λ c. c.inbox) s.cells) (map (λ c. c.outbox) s.cells) (new_times w j t (ring.next_pacts w.text s.ring) h.1)
new_one w (Admit v) s (OfAct u) t h = counts.new_post t s.post.controls _ (map (λ c. c.inbox) s.cells) (map (λ c. c.outbox) s.cells) (omega (arith, Times.times_cons t v [], ap one_if (eq-eqb v t (is_it h.1))))
  where
    is_it : Rattle.protocol_theorems.proofs.order.RunsBefore.JustAdmitted (Admit v) t → v ≡ t
    is_it e = e
new_one w (Form j) s (OfAct u) t h = absurd h.1
new_one w (Admit v) s (OfBatch k) t h = absurd h
new_one w e s (OfBatch k) t h = absurd h
new_one w e s (OfAct u) t h = absurd h.1

pub one_kept : {C : Type 0} (w : Fixed C) (Of : Tx → C → Type 0) (finish : C → List State → Alone) (e : Event) (s : Machine C) (h : History) → IsAllowed w e s → AllGood w Of finish s h → Named s h → Entered s → Whose s h → HasOne s → HasOne (after w e s)
unfolding HasOne
one_kept w Of finish e s h ok g n i j o who t r = elim (runs_was w e s who t r) [
  | inl q ↦ elim (o who t q) [
    | inl c ↦ still_one w Of finish e s h who t ok g n i j q r c
    | inr x ↦ inr (counts.resulted_stays w e s who t ok (runs_named s h who t n q).0 x)
  ]
  | inr q ↦ inl (new_one w e s who t q)
]
