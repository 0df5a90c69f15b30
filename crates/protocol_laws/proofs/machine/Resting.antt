-- Who has a result has no control, and a PACT is not done where its control rests.
use Rattle.std.specs.Prelude.{◌≡◌, refl, ℕ, zero, suc, ◌+◌, ◌≤◌, ◌<◌, ◌==◌, not, Bool, true, false, ◌||◌, if◌then◌else◌, Option, Some, None, is_some, List, [], ◌∷◌, ◌++◌, length, map, filter, slice_index_or, slice_set}
use Rattle.std.specs.List.{AllByRecursion}
use Rattle.std.proofs.Common.{arith, sym, ap, subst, inl, inr, ◌∙◌}
use Rattle.std.proofs.lemmas.List.{append-nil}
use Rattle.std.proofs.lemmas.Bool.{eqb-true, ne_eqb, true≢false, cases_Bool}
use Rattle.snap_base.specs.declared.transactions.State.{State}
use Rattle.snap_base.specs.declared.transactions.Tx.{Tx}
use Rattle.snap_base.specs.declared.transactions.TxResult.{TxResult}
use Rattle.protocol.specs.Fixed.{Fixed, Next, Go, Ended, is_pact}
use Rattle.protocol.specs.Rivals.{Lock}
use Rattle.protocol.specs.Parts.{Pact, Batch, Entry, BatchEntry, ActEntry, Waiting, Outcome, SubBatch, Committing, Settled, Cascade, Cell, Machine}
use Rattle.protocol.specs.Events.{Event, Form, Admit, Arrive, Ask, Take, Run, Send, End, Close, Complete, Note, Commit, Settle, Abort, Rollback, Finish, Trim}
use Rattle.protocol.specs.Words.{holds, names_pact, pact_result, result_among, waiting_of, outcome_of, without_outcome, has_act, is_ended, who_of, sub_of, lock_of}
use Rattle.protocol.specs.Conditions.{IsAllowed, conditions}
use Rattle.protocol.specs.Effects.{after, cell_at, puts, no_cell}
use Rattle.protocol.specs.Facts.{Alone, Facts}
use Rattle.protocol.specs.Numbers.{times, outcome_tids}
use Rattle.protocol.specs.OnRing as ring
use Rattle.protocol.specs.OnBook as book
use Rattle.protocol.specs.OnDesk as desk
use Rattle.protocol.specs.OnCell as cell
use Rattle.protocol.specs.OnCell.{is_cut}
use Rattle.protocol_laws.specs.Turns.{NotDone}
use Rattle.protocol_laws.proofs.first.Controls as controls
use Rattle.protocol_laws.proofs.machine.ControlWalk
use Rattle.protocol_laws.proofs.machine.ControlWalk.{AllControls, Ready}
use Rattle.protocol_laws.proofs.machine.TracksKept.{held}
use Rattle.protocol_laws.proofs.machine.TrailsKept.{at_most_one}
use Rattle.protocol.specs.Rests.{IsTxIn}
use Rattle.protocol_laws.proofs.first.Lists.{all_found, all_join, all_map, weaker}

-- ---- facts of all PACTs of the desk

abbrev pub EachPact : (ℕ → Option TxResult → Type 0) → List Batch → Type 0
EachPact P bs = AllByRecursion (λ b. AllByRecursion (λ p. P p.tid p.result) b.pacts) bs

each_same : (P : ℕ → Option TxResult → Type 0) (f : Batch → Batch) (bs : List Batch) → ((b : Batch) → (f b).pacts ≡ b.pacts) → EachPact P bs → EachPact P (map f bs)
each_same P f bs e h = all_map _ _ f bs (λ b g. rw (e b) g) h

if_pacts : (v : Bool) (f : Batch → Batch) (b : Batch) → (f b).pacts ≡ b.pacts → (desk.change_if v f b).pacts ≡ b.pacts
if_pacts true f b h = h
if_pacts false f b h = refl

pub with_result : (P : ℕ → Option TxResult → Type 0) (t : ℕ) (r : TxResult) (bs : List Batch) → ((u : ℕ) (o : Option TxResult) → u ≡ t → P u o → P u (Some r)) → EachPact P bs → EachPact P (map (desk.with_results t r) bs)
with_result P t r bs n h = all_map _ _ (desk.with_results t r) bs (λ b g. one b.aborted b.pacts g) h
  where
    pact : (v : Bool) (p : Pact) → (p.tid == t) ≡ v → P p.tid p.result → P p.tid (if v then Some r else p.result)
    pact true p e g = n p.tid p.result (eqb-true p.tid t e) g
    pact false p e g = g

    one : (v : Bool) (ps : List Pact) → AllByRecursion (λ p. P p.tid p.result) ps → AllByRecursion (λ p. P p.tid p.result) (if v then ps else map (desk.with_result t r) ps)
    one true ps g = g
    one false ps g = all_map _ _ (desk.with_result t r) ps (λ p q. pact (p.tid == t) p refl q) g

pub each_stays : {C : Type 0} (w : Fixed C) (e : Event) (s : Machine C) (P : ℕ → Option TxResult → Type 0)
    → ((k : ℕ) → e ≡ Form k → AllByRecursion (λ p. P p.tid p.result) (ring.next_pacts w.text s.ring)) → ((t a : ℕ) → e ≡ End t a → (u : ℕ) (o : Option TxResult) (r : TxResult) → u ≡ t → P u o → P u (Some r))
    → EachPact P s.desk.batches → EachPact P (after w e s).desk.batches
unfolding after
each_stays w (Form k) s P f n h = all_join _ s.desk.batches _ h (f k refl, tt)
each_stays {C} w (End t a) s P f n h = by (has_act t (cell_at s a).entries) (outcome_of t (cell_at s a).outbox)
  where
    next : (x : Next C) → EachPact P (desk.noted_for t x s.desk.batches)
    next (Go b y) = h
    next (Ended r) = with_result P t r s.desk.batches (λ u o i g. n t a refl u o r i g) h

    by : (v : Bool) (o : Option (Outcome C)) → EachPact P (if v then s.desk.batches else desk.noted_from t o s.desk.batches)
    by true o = h
    by false None = h
    by false (Some x) = next x.next
each_stays w (Note k a) s P f n h = each_same P _ s.desk.batches (λ b. if_pacts (b.bid == k) (desk.marked a desk.is_noted) b refl) h
each_stays w (Commit k) s P f n h = each_same P _ s.desk.batches (λ b. if_pacts (b.bid == k) (desk.with_stage Committing) b refl) h
each_stays w (Settle k) s P f n h = each_same P _ s.desk.batches (λ b. if_pacts (b.bid == k) (desk.with_stage Settled) b refl) h
each_stays w (Abort k) s P f n h = each_same P _ s.desk.batches (λ b. refl) h
each_stays w (Trim k a) s P f n h = each_same P _ s.desk.batches (λ b. if_pacts (b.bid == k) (desk.marked a desk.is_trimmed) b refl) h
each_stays w e s P f n h = h

-- ---- tids of the desk were drawn

numbered_below : (t : ℕ) (ns : List ℕ) → AllByRecursion (λ p. p.tid < t + length (ring.numbered t ns)) (ring.numbered t ns)
numbered_below t [] = tt
numbered_below t (n ∷ ns) = (omega arith, weaker _ _ (ring.numbered (t + 1) ns) (λ p l. omega (arith, l)) (numbered_below (t + 1) ns))

unfoldable pub Drawn : {C : Type 0} → Machine C → Type 0
Drawn s = EachPact (λ t r. t < s.ring.next_tid) s.desk.batches

drawn_more : (n m : ℕ) (bs : List Batch) → n ≤ m → EachPact (λ t r. t < n) bs → EachPact (λ t r. t < m) bs
drawn_more n m bs l h = weaker _ _ bs (λ b g. weaker _ _ b.pacts (λ p q. omega (arith, q, l)) g) h

pub drawn_kept : {C : Type 0} (w : Fixed C) (e : Event) (s : Machine C) → Drawn s → Drawn (after w e s)
unfolding Drawn after
drawn_kept w (Form k) s h = all_join _ s.desk.batches _ (drawn_more s.ring.next_tid _ s.desk.batches (omega arith) h) (numbered_below s.ring.next_tid _, tt)
drawn_kept w (Admit t) s h = drawn_more s.ring.next_tid _ s.desk.batches (omega arith) h
drawn_kept w e s h = each_stays w e s (λ t r. t < s.ring.next_tid) (λ k f. absurd (cc f)) (λ t a f u o r i g. g) h

-- ---- who has a result has no control

abbrev pub NoResult : ℕ → List Batch → Type 0
NoResult t bs = EachPact (λ u r. u ≡ t → r ≡ None) bs

pub no_result : (t : ℕ) (bs : List Batch) → NoResult t bs → is_some (pact_result t bs) ≡ true → ⊥
no_result t [] h e = true≢false (sym e)
no_result t (b ∷ bs) h e = by (names_pact t b) e (no_result t bs h.1)
  where
    among : (ps : List Pact) → AllByRecursion (λ p. p.tid ≡ t → p.result ≡ None) ps → is_some (result_among t ps) ≡ true → ⊥
    among [] g q = true≢false (sym q)
    among (p ∷ ps) g q = at (p.tid == t) refl q (among ps g.1)
      where
        at : (v : Bool) → (p.tid == t) ≡ v → is_some (if v then p.result else result_among t ps) ≡ true → (is_some (result_among t ps) ≡ true → ⊥) → ⊥
        at true f q k = true≢false (sym q ∙ ap is_some (g.0 (eqb-true p.tid t f)))
        at false f q k = k q

    by : (v : Bool) → is_some (if v then result_among t b.pacts else pact_result t bs) ≡ true → (is_some (pact_result t bs) ≡ true → ⊥) → ⊥
    by true q k = among b.pacts h.0 q
    by false q k = k q

new_results : (t : ℕ) (k : ℕ) (ns : List ℕ) → AllByRecursion (λ p. p.tid ≡ t → p.result ≡ None) (ring.numbered k ns)
new_results t k [] = tt
new_results t k (n ∷ ns) = (λ q. refl, new_results t (k + 1) ns)

-- after a result is noted, no control of its transaction is left
outcome_none : {C : Type 0} (t : ℕ) (xs : List (Outcome C)) → times t (outcome_tids (without_outcome t xs)) ≡ 0
outcome_none t [] = refl
outcome_none t (x ∷ xs) = by (x.tid == t) refl (outcome_none t xs)
  where
    by : (b : Bool) → (x.tid == t) ≡ b → times t (outcome_tids (without_outcome t xs)) ≡ 0 → times t (outcome_tids (if not b then x ∷ without_outcome t xs else without_outcome t xs)) ≡ 0
    by true e h = h
    by false e h = rw e h

outcome_one : {C : Type 0} (t : ℕ) (p : Outcome C → Bool) (xs : List (Outcome C)) → holds p (outcome_of t xs) ≡ true → 1 ≤ times t (outcome_tids xs)
outcome_one t p [] e = absurd (true≢false (sym e))
outcome_one t p (y ∷ ys) e = by (y.tid == t) e (outcome_one t p ys)
  where
    by : (b : Bool) → holds p (if b then Some y else outcome_of t ys) ≡ true → (holds p (outcome_of t ys) ≡ true → 1 ≤ times t (outcome_tids ys)) → 1 ≤ length (if b then y.tid ∷ filter (λ n. n == t) (outcome_tids ys) else filter (λ n. n == t) (outcome_tids ys))
    by true e k = omega arith
    by false e k = k e

pub ended_alone : {C : Type 0} (w : Fixed C) (t a : ℕ) (s : Machine C) → IsAllowed w (End t a) s → controls.HeldIn s → AllControls (λ u n. u ≡ t → ⊥) (after w (End t a) s)
unfolding conditions after
ended_alone w t a s ok one =
    let c = cell.outcome_taken t (cell_at s a) in
    let g = ControlWalk.none_there t (record s { cells = puts s a c }) (omega (
      arith,
      at_most_one t s one,
      outcome_one t (λ x. is_ended x.next) (cell_at s a).outbox (held (λ c. holds (λ x. is_ended x.next) (outcome_of t c.outbox)) s.cells a no_cell ok.0),
      outcome_none t (cell_at s a).outbox,
      controls.inbox_put t s a c,
      controls.outbox_put t s a c,
      controls.parted t s.post.controls (map (λ c. c.inbox) s.cells) (map (λ c. c.outbox) s.cells),
      controls.parted t s.post.controls (map (λ c. c.inbox) (puts s a c)) (map (λ c. c.outbox) (puts s a c)),
    )) in
    record { posted = g.posted; inboxes = g.inboxes; outboxes = g.outboxes }

abbrev pub NoneNoted : {C : Type 0} → Machine C → ℕ → Next C → Type 0
NoneNoted s t n = NoResult t s.desk.batches

not_this : (n : ℕ) (t : ℕ) (bs : List Batch) → n ≤ t → EachPact (λ u r. u < n) bs → NoResult t bs
not_this n t bs l h = weaker _ _ bs (λ b g. weaker _ _ b.pacts (λ p q e. absurd (omega (arith, q, e, l))) g) h

new_ready : {C : Type 0} (w : Fixed C) (s : Machine C) (bs : List Batch) (low : ℕ) (ps : List Pact) → AllByRecursion (λ p. low ≤ p.tid) ps → ((t : ℕ) → low ≤ t → NoResult t bs) → AllByRecursion (λ q. NoResult q.tid bs) ps
new_ready w s bs low [] l h = tt
new_ready w s bs low (p ∷ ps) l h = (h p.tid l.0, new_ready w s bs low ps l.1 h)

pub numbered_from : (t u : ℕ) (ns : List ℕ) → t ≤ u → AllByRecursion (λ p. t ≤ p.tid) (ring.numbered u ns)
numbered_from t u [] l = tt
numbered_from t u (n ∷ ns) l = (l, numbered_from t (u + 1) ns (omega (arith, l)))

pub results_kept : {C : Type 0} (w : Fixed C) (e : Event) (s : Machine C) → IsAllowed w e s → controls.HeldIn s → Drawn s → AllControls (NoneNoted s) s → AllControls (NoneNoted (after w e s)) (after w e s)
unfolding Drawn conditions Ready after
results_kept w (Form k) s ok one d g =
    let old = ControlWalk.both (NoneNoted s) (λ u n. Unit {0}) (NoneNoted (after w (Form k) s)) s (λ t n p q. each_stays w (Form k) s _ (λ i q. new_results t s.ring.next_tid _) (λ u a f. absurd (cc f)) p) g (ControlWalk.trivial s) in
    ControlWalk.moves w (Form k) s (NoneNoted (after w (Form k) s)) ok
    (new_ready w s (after w (Form k) s).desk.batches s.ring.next_tid (ring.next_pacts w.text s.ring) (numbered_from s.ring.next_tid s.ring.next_tid _ (omega arith))
    (λ t l. each_stays w (Form k) s _ (λ i q. new_results t s.ring.next_tid _) (λ u a f. absurd (cc f)) (not_this s.ring.next_tid t s.desk.batches l d))) old
results_kept w (Admit t) s ok one d g = ControlWalk.moves w (Admit t) s (NoneNoted s) ok (not_this s.ring.next_tid t s.desk.batches (omega (arith, eqb-true t s.ring.next_tid ok.0)) d) g
results_kept {C} w (Run t a) s ok one d g = ControlWalk.moves w (Run t a) s (NoneNoted s) ok (λ x e. let own = all_found (λ x. NoneNoted s x.tid (Go a x.control)) (λ x. x.tid == t) (cell_at s a).inbox x (g.inboxes a) e in subst (λ z. NoResult z s.desk.batches) (eqb-true x.tid t own.1) own.0) g
results_kept w (End t a) s ok one d g =
    ControlWalk.both (NoneNoted s) (λ u n. u ≡ t → ⊥) (NoneNoted (after w (End t a) s)) (after w (End t a) s)
    (λ u n p q. each_stays w (End t a) s _ (λ i q. new_results u s.ring.next_tid _) (λ v b f x o r i k j. absurd (q (sym j ∙ (i ∙ same v b f)))) p)
    (ControlWalk.moves w (End t a) s (NoneNoted s) ok tt g) (ended_alone w t a s ok one)
  where
    same : (v b : ℕ) → End t a ≡ End v b → v ≡ t
    same v b f = cc f
results_kept w e s ok one d g = ControlWalk.both (NoneNoted s) (λ u n. Unit {0}) (NoneNoted (after w e s)) (after w e s) (λ t n p q. each_stays w e s _ (λ i q. new_results t s.ring.next_tid _) (λ u a f. absurd (cc f)) p)
    (ControlWalk.moves w e s (NoneNoted s) ok tt g) (ControlWalk.trivial (after w e s))

-- ---- a PACT is not done where its control rests

-- what one event leaves of it
pub others_undone : (t u : ℕ) (es : List Entry) → (u ≡ t → ⊥) → AllByRecursion (NotDone u) es → AllByRecursion (NotDone u) (map (cell.done_in t) es)
others_undone t u es d h = all_map (NotDone u) (NotDone u) (cell.done_in t) es (λ e g. one e g) h
  where
    or_no : (b : Bool) → (b || false) ≡ b
    or_no true = refl
    or_no false = refl

    one : (e : Entry) → NotDone u e → NotDone u (cell.done_in t e)
    one (BatchEntry b) g = all_map _ _ (cell.done_if t) b.slots (λ s q f. rw (ne_eqb s.tid t (λ v. d (sym f ∙ v))) (or_no s.done ∙ q f)) g
    one (ActEntry x) g = tt

one_at : {C : Type 0} (u : ℕ) (xs : List (Cell C)) (a : ℕ) (c : Cell C) → (AllByRecursion (NotDone u) (slice_index_or xs a no_cell).entries → AllByRecursion (NotDone u) c.entries) → (i : ℕ) → AllByRecursion (NotDone u) (slice_index_or xs i no_cell).entries → AllByRecursion (NotDone u) (slice_index_or (slice_set xs a c) i no_cell).entries
one_at u [] a c k i h = h
one_at u (x ∷ xs) zero c k zero h = k h
one_at u (x ∷ xs) zero c k (suc i) h = h
one_at u (x ∷ xs) (suc a) c k zero h = h
one_at u (x ∷ xs) (suc a) c k (suc i) h = one_at u xs a c k i h

-- the events that mark a PACT done
abbrev pub Spares : Event → ℕ → Type 0
Spares (Run t a) u = u ≡ t → ⊥
Spares (Close t a) u = u ≡ t → ⊥
Spares _ u = Unit {0}

new_undone : (u : ℕ) (ts : List ℕ) → AllByRecursion (λ s. s.tid ≡ u → s.done ≡ false) (map cell.not_done ts)
new_undone u [] = tt
new_undone u (t ∷ ts) = (λ q. refl, new_undone u ts)

arrive_undone : (u k : ℕ) (o : Option SubBatch) (es : List Entry) → AllByRecursion (NotDone u) es → AllByRecursion (NotDone u) (es ++ cell.batch_entries k o)
arrive_undone u k None es h = rw (append-nil es) h
arrive_undone u k (Some m) es h = all_join (NotDone u) es _ h (new_undone u m.tids, tt)

ask_undone : (u : ℕ) (t : Lock) (o : Option ℕ) (es : List Entry) → AllByRecursion (NotDone u) es → AllByRecursion (NotDone u) (es ++ cell.act_entries t o)
ask_undone u t None es h = all_join (NotDone u) es _ h (tt, tt)
ask_undone u t (Some x) es h = rw (append-nil es) h

run_undone : (u t : ℕ) (b : Bool) (es : List Entry) → (u ≡ t → ⊥) → AllByRecursion (NotDone u) es → AllByRecursion (NotDone u) (if b then map (cell.done_in t) es else es)
run_undone u t true es d h = others_undone t u es d h
run_undone u t false es d h = h

complete_undone : (u k : ℕ) (es : List Entry) → AllByRecursion (NotDone u) es → AllByRecursion (NotDone u) (map (cell.complete_in k) es)
complete_undone u k [] h = tt
complete_undone u k (BatchEntry b ∷ es) h = (h.0, complete_undone u k es h.1)
complete_undone u k (ActEntry x ∷ es) h = (tt, complete_undone u k es h.1)

filter_undone : (u : ℕ) (p : Entry → Bool) (es : List Entry) → AllByRecursion (NotDone u) es → AllByRecursion (NotDone u) (filter p es)
filter_undone u p [] h = tt
filter_undone u p (e ∷ es) h = by (p e) (filter_undone u p es h.1)
  where
    by : (b : Bool) → AllByRecursion (NotDone u) (filter p es) → AllByRecursion (NotDone u) (if b then e ∷ filter p es else filter p es)
    by true g = (h.0, g)
    by false g = g

stay_undone : (u : ℕ) (cs : List Cascade) (es : List Entry) → AllByRecursion (NotDone u) es → AllByRecursion (NotDone u) (cell.staying cs es)
stay_undone u cs [] h = tt
stay_undone u cs (e ∷ es) h = by (is_cut cs (who_of e)) (stay_undone u cs es h.1)
  where
    by : (b : Bool) → AllByRecursion (NotDone u) (cell.staying cs es) → AllByRecursion (NotDone u) (if b then [] else e ∷ cell.staying cs es)
    by true g = tt
    by false g = (h.0, g)

pub undone_stays : {C : Type 0} (w : Fixed C) (e : Event) (s : Machine C) (u : ℕ) → Spares e u → (i : ℕ) → (AllByRecursion (NotDone u) (cell_at s i).entries → AllByRecursion (NotDone u) (cell_at (after w e s) i).entries)
unfolding after
undone_stays w (Arrive k a) s u d i = one_at u s.cells a _ (arrive_undone u k (sub_of k a s.post.subs) (cell_at s a).entries) i
undone_stays w (Ask t a) s u d i = one_at u s.cells a _ (ask_undone u (lock_of t s.book.acts) (book.in_the_way (lock_of t s.book.acts) (cell_at s a).entries) (cell_at s a).entries) i
undone_stays w (Take t a) s u d i = one_at u s.cells a _ (λ g. g) i
undone_stays w (Run t a) s u d i = one_at u s.cells a _ (run_undone u t (cell.is_done_after w.code a (cell.slice_of w.code t (cell_at s a))) (cell_at s a).entries d) i
undone_stays w (Send t a) s u d i = one_at u s.cells a _ (λ g. g) i
undone_stays w (End t a) s u d i = one_at u s.cells a _ (λ g. g) i
undone_stays w (Close t a) s u d i = one_at u s.cells a _ (others_undone t u (cell_at s a).entries d) i
undone_stays w (Complete k a) s u d i = one_at u s.cells a _ (complete_undone u k (cell_at s a).entries) i
undone_stays w (Rollback a) s u d i = one_at u s.cells a _ (stay_undone u s.book.cascades (cell_at s a).entries) i
undone_stays w (Finish t a) s u d i = one_at u s.cells a _ (filter_undone u _ (cell_at s a).entries) i
undone_stays w (Trim k a) s u d i = one_at u s.cells a _ (filter_undone u _ (cell_at s a).entries) i
undone_stays w e s u d i = λ g. g

-- the slice that goes on
pub goes_on_undone : {C : Type 0} (w : Fixed C) (Of : Tx → C → Type 0) (finish : C → List State → Alone) (tx : Tx) (t a : ℕ) (c d : C) (b : ℕ) (x : Waiting C) (s : Machine C) → Facts (length w.text.opening.states) w.code (IsTxIn w.text) Of finish
    → is_pact tx ≡ true → Of tx c → waiting_of t (cell_at s a).inbox ≡ Some x → x.control ≡ c → (w.code.slice c (cell_at s a).state).next ≡ Go b d
    → ((i : ℕ) → w.code.rests_on c i ≡ true → AllByRecursion (NotDone t) (cell_at s i).entries)
    → (i : ℕ) → w.code.rests_on d i ≡ true → AllByRecursion (NotDone t) (cell_at (after w (Run t a) s) i).entries
unfolding after
goes_on_undone {C} w Of finish tx t a c d b x s f p o q e n h i r = elim (cases_Bool (a == i)) [
  | inl g ↦ let j : a ≡ i = eqb-true a i g in one_at t s.cells a _ (own (subst (λ z. w.code.rests_on d z ≡ true) (sym j) r)) i (h i (f.rests_no_further tx c d i b p (record { from = (cell_at s a).state; of_it = o; goes = n }) r))
  | inr g ↦ rw (Rattle.std.proofs.lemmas.List.get_or-set_other s.cells a i (cell.slice_run w.code t a (cell_at s a)) no_cell (λ v. Rattle.std.proofs.lemmas.Bool.eqb-false a i g (sym v))) (h i (f.rests_no_further tx c d i b p (record { from = (cell_at s a).state; of_it = o; goes = n }) r))
]
  where
    own : w.code.rests_on d a ≡ true → AllByRecursion (NotDone t) (cell_at s a).entries → AllByRecursion (NotDone t) (cell.slice_run w.code t a (cell_at s a)).entries
    own v k = rw (q, e, n, v) k
