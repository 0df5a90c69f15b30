-- Readers: a lock tells whether its ACT only reads, a reader has no slices on a long schedule, and its slices leave what they
-- find.
use Rattle.std.specs.Prelude.{◌≡◌, refl, ℕ, ◌<◌, ◌==◌, not, Bool, true, false, if◌then◌else◌, Option, Some, None, is_some, List, [], ◌∷◌, ◌++◌, map, find, take}
use Rattle.std.specs.List.{AllByRecursion}
use Rattle.std.proofs.Common.{arith, sym, ap, subst, ◌∙◌}
use Rattle.std.proofs.lemmas.List.{append-nil}
use Rattle.std.proofs.lemmas.Bool.{true≢false, eqb-true, eq-eqb, ne_eqb}
use Rattle.snap_base.specs.declared.transactions.State.{State}
use Rattle.snap_base.specs.declared.transactions.Tx.{Tx}
use Rattle.protocol.specs.Facts.{Alone, Facts}
use Rattle.protocol.specs.Fixed.{Fixed, Go, is_reader, tx_at}
use Rattle.protocol.specs.Rests.{IsTxIn}
use Rattle.protocol.specs.Rivals.{Lock}
use Rattle.protocol.specs.Parts.{Act, OfAct, SubBatch, Entry, BatchEntry, ActEntry, Waiting, Machine}
use Rattle.protocol.specs.Events.{Event, Form, Admit, Arrive, Ask, Take, Run, Send, End, Close, Complete, Rollback, Decide, Finish, Trim}
use Rattle.protocol.specs.Words.{holds, is_doomed, is_who, act_of, is_entry_of, names_slot, is_reader_entry, waiting_of, sub_of, lock_of}
use Rattle.protocol.specs.Conditions.{IsAllowed, conditions, queue}
use Rattle.protocol.specs.Effects.{after, cell_at, no_cell}
use Rattle.protocol.specs.OnRing as ring
use Rattle.protocol.specs.OnBook as book
use Rattle.protocol.specs.OnCell as cell
use Rattle.protocol.specs.History.{History, Step, Ran, Stands, Gone, grown, gone_on, is_reader_act}
use Rattle.protocol_laws.specs.Told.{EachAct}
use Rattle.protocol_laws.specs.Tracks.{Bare}
use Rattle.protocol_laws.specs.Turns.{Turns}
use Rattle.protocol_laws.proofs.first.Agree.{agree, agree_is, agree_same}
use Rattle.protocol_laws.proofs.first.Lists.{all_filter, all_found, all_join, all_map, weaker}
use Rattle.protocol_laws.proofs.machine.ActsFound as acts
use Rattle.protocol_laws.proofs.machine.ActsFound.{Holds}
use Rattle.protocol_laws.proofs.machine.ActsGrow.{Grows, acts_grow, grown_holds}
use Rattle.protocol_laws.proofs.machine.ActsKept.{Acts}
use Rattle.protocol_laws.proofs.machine.ControlWalk.{AllControls}
use Rattle.protocol_laws.proofs.machine.FromDeskKept.{one_cell, all_staying}
use Rattle.protocol_laws.proofs.machine.TracksKept.{LeavesIt, held}
use Rattle.protocol_laws.proofs.machine.TrailsKept as trails

-- ---- locks

-- the lock tells of an ACT of the book whether it only reads
abbrev pub LockOf : List Act → Entry → Type 0
LockOf acts (BatchEntry b) = Unit {0}
LockOf acts (ActEntry x) = holds (λ y. agree y.reader x.reader) (act_of x.tid acts) ≡ true

unfoldable pub Locks : {C : Type 0} → Machine C → Type 0
Locks s = (a : ℕ) → AllByRecursion (LockOf s.book.acts) (cell_at s a).entries

lock_grows : (acts acts' : List Act) (e : Entry) → Grows acts acts' → LockOf acts e → LockOf acts' e
lock_grows acts acts' (BatchEntry b) g h = tt
lock_grows acts acts' (ActEntry x) g h = grown_holds (λ y. agree y.reader x.reader) acts acts' x.tid (λ y z k q. subst (λ v. agree v x.reader ≡ true) (sym k.reader) q) g h

own_lock : (t : ℕ) (acts : List Act) → holds (λ x. not (is_doomed x.status)) (act_of t acts) ≡ true → LockOf acts (ActEntry (lock_of t acts))
own_lock t acts h = by (act_of t acts) h
  where
    by : (o : Option Act) → holds (λ x. not (is_doomed x.status)) o ≡ true → holds (λ y. agree y.reader (holds (λ x. x.reader) o)) o ≡ true
    by None q = absurd (true≢false (sym q))
    by (Some x) q = agree_same x.reader

ask : (acts : List Act) (t : Lock) (o : Option ℕ) (es : List Entry) → LockOf acts (ActEntry t) → AllByRecursion (LockOf acts) es → AllByRecursion (LockOf acts) (es ++ cell.act_entries t o)
ask acts t None es k h = all_join (LockOf acts) es _ h (k, tt)
ask acts t (Some x) es k h = rw (append-nil es) h

arrive : (acts : List Act) (k : ℕ) (o : Option SubBatch) (es : List Entry) → AllByRecursion (LockOf acts) es → AllByRecursion (LockOf acts) (es ++ cell.batch_entries k o)
arrive acts k None es h = rw (append-nil es) h
arrive acts k (Some m) es h = all_join (LockOf acts) es _ h (tt, tt)

lock_done : (acts : List Act) (t : ℕ) (e : Entry) → LockOf acts e → LockOf acts (cell.done_in t e)
lock_done acts t (BatchEntry b) h = tt
lock_done acts t (ActEntry x) h = h

lock_completed : (acts : List Act) (k : ℕ) (e : Entry) → LockOf acts e → LockOf acts (cell.complete_in k e)
lock_completed acts k (BatchEntry b) h = tt
lock_completed acts k (ActEntry x) h = h

run : (acts : List Act) (t : ℕ) (b : Bool) (es : List Entry) → AllByRecursion (LockOf acts) es → AllByRecursion (LockOf acts) (if b then map (cell.done_in t) es else es)
run acts t true es h = all_map (LockOf acts) (LockOf acts) (cell.done_in t) es (lock_done acts t) h
run acts t false es h = h

-- the book changes
booked : {C : Type 0} (w : Fixed C) (e : Event) (s : Machine C) → ((a : ℕ) → AllByRecursion (LockOf s.book.acts) (cell_at s a).entries) → (a : ℕ) → AllByRecursion (LockOf (after w e s).book.acts) (cell_at s a).entries
booked w e s h a = weaker _ _ (cell_at s a).entries (λ x. lock_grows s.book.acts (after w e s).book.acts x (acts_grow w e s)) (h a)

pub locks_kept : {C : Type 0} (w : Fixed C) (e : Event) (s : Machine C) → IsAllowed w e s → Locks s → Locks (after w e s)
unfolding Locks conditions after
locks_kept w (Arrive k a) s ok h = one_cell (λ b c. AllByRecursion (LockOf (after w (Arrive k a) s).book.acts) c.entries) s.cells a _ (arrive _ k (sub_of k a s.post.subs) (cell_at s a).entries) (booked w (Arrive k a) s h)
locks_kept w (Ask t a) s ok h = one_cell (λ b c. AllByRecursion (LockOf (after w (Ask t a) s).book.acts) c.entries) s.cells a _ (ask _ (lock_of t s.book.acts) (book.in_the_way (lock_of t s.book.acts) (cell_at s a).entries) (cell_at s a).entries (lock_grows s.book.acts (after w (Ask t a) s).book.acts (ActEntry (lock_of t s.book.acts)) (acts_grow w (Ask t a) s) (own_lock t s.book.acts ok.1.0))) (booked w (Ask t a) s h)
locks_kept w (Take t a) s ok h = one_cell (λ b c. AllByRecursion (LockOf s.book.acts) c.entries) s.cells a _ (λ x. x) h
locks_kept w (Run t a) s ok h = one_cell (λ b c. AllByRecursion (LockOf s.book.acts) c.entries) s.cells a _ (run s.book.acts t (cell.is_done_after w.code a (cell.slice_of w.code t (cell_at s a))) (cell_at s a).entries) h
locks_kept w (Send t a) s ok h = one_cell (λ b c. AllByRecursion (LockOf s.book.acts) c.entries) s.cells a _ (λ x. x) h
locks_kept w (End t a) s ok h = one_cell (λ b c. AllByRecursion (LockOf (after w (End t a) s).book.acts) c.entries) s.cells a _ (λ x. x) (booked w (End t a) s h)
locks_kept w (Close t a) s ok h = one_cell (λ b c. AllByRecursion (LockOf s.book.acts) c.entries) s.cells a _ (run s.book.acts t true (cell_at s a).entries) h
locks_kept w (Complete k a) s ok h = one_cell (λ b c. AllByRecursion (LockOf s.book.acts) c.entries) s.cells a _ (all_map (LockOf s.book.acts) (LockOf s.book.acts) (cell.complete_in k) (cell_at s a).entries (lock_completed s.book.acts k)) h
locks_kept w (Rollback a) s ok h = one_cell (λ b c. AllByRecursion (LockOf s.book.acts) c.entries) s.cells a _ (all_staying (LockOf s.book.acts) s.book.cascades (cell_at s a).entries) h
locks_kept w (Finish t a) s ok h = one_cell (λ b c. AllByRecursion (LockOf (after w (Finish t a) s).book.acts) c.entries) s.cells a _ (all_filter (LockOf (after w (Finish t a) s).book.acts) _ (cell_at s a).entries) (booked w (Finish t a) s h)
locks_kept w (Trim k a) s ok h = one_cell (λ b c. AllByRecursion (LockOf s.book.acts) c.entries) s.cells a _ (all_filter (LockOf s.book.acts) _ (cell_at s a).entries) h
locks_kept w e s ok h = booked w e s h

-- ---- what a lock tells

pub reader_of : (r : Bool) (o : Option Act) → holds (λ y. agree y.reader r) o ≡ true → is_reader_act o ≡ r
reader_of r None h = absurd (true≢false (sym h))
reader_of r (Some x) h = agree_is x.reader r h

-- the entry of a transaction is a reader's where its ACT is one
pub read_entry : (acts : List Act) (t : ℕ) (es : List Entry) → AllByRecursion (LockOf acts) es → holds is_reader_entry (find (is_entry_of t) es) ≡ true → is_reader_act (act_of t acts) ≡ true
read_entry acts t [] l h = absurd (true≢false (sym h))
read_entry acts t (BatchEntry b ∷ es) l h = by (names_slot t b) h (read_entry acts t es l.1)
  where
    by : (v : Bool) → holds is_reader_entry (if v then Some (BatchEntry b) else find (is_entry_of t) es) ≡ true → (holds is_reader_entry (find (is_entry_of t) es) ≡ true → is_reader_act (act_of t acts) ≡ true) → is_reader_act (act_of t acts) ≡ true
    by true q k = absurd (true≢false (sym q))
    by false q k = k q
read_entry acts t (ActEntry x ∷ es) l h = by (x.tid == t) refl h (read_entry acts t es l.1)
  where
    by : (v : Bool) → (x.tid == t) ≡ v → holds is_reader_entry (if v then Some (ActEntry x) else find (is_entry_of t) es) ≡ true → (holds is_reader_entry (find (is_entry_of t) es) ≡ true → is_reader_act (act_of t acts) ≡ true) → is_reader_act (act_of t acts) ≡ true
    by true e q k = subst (λ n. is_reader_act (act_of n acts) ≡ true) (eqb-true x.tid t e) (reader_of x.reader (act_of x.tid acts) l.0 ∙ q)
    by false e q k = k q

-- a reader has no slices on the long schedule
pub bare : (acts : List Act) (t : ℕ) (rs : List Ran) (es : List Entry) → Turns rs es → AllByRecursion (LockOf acts) es → is_reader_act (act_of t acts) ≡ true → Bare (OfAct t) rs
bare acts t [] es h l r = tt
bare acts t (Gone y ss ∷ rs) es h l r = bare acts t rs es h l r
bare acts t (Stands y c ss ∷ rs) [] h l r = absurd h
bare acts t (Stands y c ss ∷ rs) (BatchEntry b ∷ es) h l r = ((λ q. absurd (true≢false (sym (subst (λ z. is_who z (OfAct t) ≡ true) (sym h.0) q)))), bare acts t rs es h.2 l.1 r)
bare acts t (Stands y c ss ∷ rs) (ActEntry x ∷ es) h l r = ((λ q. let i : x.tid ≡ t = eqb-true x.tid t (subst (λ z. is_who z (OfAct t) ≡ true) (sym h.0) q) in h.1.1 (sym (reader_of x.reader (act_of x.tid acts) l.0) ∙ subst (λ n. is_reader_act (act_of n acts) ≡ true) (sym i) r)), bare acts t rs es h.2 l.1 r)

-- ---- the book and the text

-- an ACT is a reader where its transaction is one
abbrev pub ReadsAs : {C : Type 0} → Fixed C → History → ℕ → Act → Type 0
ReadsAs w h t x = x.reader ≡ is_reader w (h.trails t).tx

unfoldable pub ActReads : {C : Type 0} → Fixed C → Machine C → History → Type 0
ActReads w s h = EachAct (ReadsAs w h) s.book.acts

reads_holds : {C : Type 0} (w : Fixed C) (h : History) → Holds (ReadsAs w h)
reads_holds w h = record { numbered = λ t x n p. p; marked = λ t a x f i p. p; sealed = λ t x p. p; doomed = λ t x v l p. p; rises = λ t k x l p. p }

-- of the ACTs of the book trails keep their transactions
around : {C : Type 0} (w : Fixed C) (s : Machine C) (h g : History) → ((u : ℕ) → u < s.ring.next_tid → (g.trails u).tx ≡ (h.trails u).tx) → Acts s h → EachAct (ReadsAs w h) s.book.acts → EachAct (ReadsAs w g) s.book.acts
unfolding Acts
around w s h g k i r = λ t x e. r t x e ∙ ap (is_reader w) (sym (k t (i t x e).drawn))

pub act_reads_kept : {C : Type 0} (w : Fixed C) (e : Event) (s : Machine C) (h : History) → IsAllowed w e s → Acts s h → ActReads w s h → ActReads w (after w e s) (grown w e s h)
unfolding ActReads conditions acts.Ready grown
act_reads_kept w (Form k) s h ok i r =
    let asc = trails.new_tids s.ring.next_tid s.ring.next_tid (take w.text.batch (queue s.ring.pacts s.ring.holder)) (omega arith) in
    acts.acts_keep w (Form k) s _ (reads_holds w (grown w (Form k) s h)) tt (around w s h (grown w (Form k) s h) (λ u l. ap (λ z. z.tx) (trails.begun_below (ring.next_pacts w.text s.ring) s.ring.next_tid u h.trails asc l)) i r)
act_reads_kept w (Admit t) s h ok i r =
    let j : t ≡ s.ring.next_tid = eqb-true t s.ring.next_tid ok.0 in
    acts.acts_keep w (Admit t) s _ (reads_holds w (grown w (Admit t) s h)) (λ e. rw (eq-eqb t t refl) refl) (around w s h (grown w (Admit t) s h) (λ u l. rw (ne_eqb u t (λ v. omega (arith, v, j, l))) refl) i r)
act_reads_kept w (Ask t a) s h ok i r = acts.acts_keep w (Ask t a) s _ (reads_holds w (grown w (Ask t a) s h)) (λ x e p. p) r
act_reads_kept w (Run t a) s h ok i r = acts.acts_keep w (Run t a) s _ (reads_holds w (grown w (Run t a) s h)) tt (around w s h (grown w (Run t a) s h) (λ u l. same u (u == t) refl _) i r)
  where
    same : (u : ℕ) (b : Bool) → (u == t) ≡ b → (x : Step) → (if b then gone_on x (h.trails t) else h.trails u).tx ≡ (h.trails u).tx
    same u true e x = ap (λ z. (h.trails z).tx) (sym (eqb-true u t e))
    same u false e x = refl
act_reads_kept w (End t a) s h ok i r = acts.acts_keep w (End t a) s _ (reads_holds w (grown w (End t a) s h)) (λ x v e p. p) r
act_reads_kept w (Decide t) s h ok i r = acts.acts_keep w (Decide t) s _ (reads_holds w (grown w (Decide t) s h)) (λ x e p. p) r
act_reads_kept w e s h ok i r = acts.acts_keep w e s _ (reads_holds w (grown w e s h)) tt r

-- ---- a slice of a reader leaves what it found

pub leaves : {C : Type 0} (w : Fixed C) (Of : Tx → C → Type 0) (finish : C → List State → Alone) (t a : ℕ) (n : ℕ) (s : Machine C) (h : History) → Facts n w.code (IsTxIn w.text) Of finish → IsAllowed w (Run t a) s → AllControls (trails.Told w Of finish h) s → Locks s → ActReads w s h → LeavesIt w t a s
unfolding Locks ActReads conditions
leaves {C} w Of finish t a n s h f ok told l r q = by (waiting_of t (cell_at s a).inbox) refl (held (λ c. is_some (waiting_of t c.inbox)) s.cells a no_cell ok.0)
  where
    of_text : (o : Option Act) → act_of t s.book.acts ≡ o → is_reader_act o ≡ true → is_reader w (h.trails t).tx ≡ true
    of_text None e v = absurd (true≢false (sym v))
    of_text (Some x) e v = sym (r t x e) ∙ v

    by : (o : Option (Waiting C)) → waiting_of t (cell_at s a).inbox ≡ o → is_some o ≡ true → (cell.slice_run w.code t a (cell_at s a)).state ≡ (cell_at s a).state
    by None e v = absurd (true≢false (sym v))
    by (Some x) e v =
        let own = all_found (λ x. trails.Told w Of finish h x.tid (Go a x.control)) (λ x. x.tid == t) (cell_at s a).inbox x (told.inboxes a) e in
        let i : x.tid ≡ t = eqb-true x.tid t own.1 in
        rw e (f.readers_leave (tx_at w.text (h.trails t).tx) x.control (cell_at s a).state (of_text (act_of t s.book.acts) refl (read_entry s.book.acts t (cell_at s a).entries (l a) q)) (subst (λ z. Of (tx_at w.text (h.trails z).tx) x.control) i own.0.of_it.0))
