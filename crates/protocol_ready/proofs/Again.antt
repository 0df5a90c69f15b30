-- No event that was just taken is allowed right behind itself: each makes one of its own conditions false.
use Rattle.std.specs.Prelude.{◌≡◌, refl, ℕ, zero, suc, ◌+◌, ◌<◌, ◌≤◌, ◌%◌, ◌==◌, nat_lt, nat_le, not, ◌&&◌, ◌||◌, if◌then◌else◌, is_some, Bool, true, false, Some, None, List, [], ◌∷◌, length, map, filter, find, slice_get, slice_set}
use Rattle.std.specs.List.{list_any, list_all}
use Rattle.std.proofs.Common.{sym, ap, subst, ◌∙◌, arith, inl, inr, mod-eq_of_lt}
use Rattle.std.proofs.Math.Nat.{mod_self}
use Rattle.std.proofs.lemmas.Bool.{and_parts, both_ways, cases_lt, eqb-true, le-ltb, le-leb, not_from_true}
use Rattle.std.proofs.lemmas.List.{length-replicate}
use Rattle.std.proofs.lemmas.Nat.{mod_below}
use Rattle.snap_base.proofs.Booleans.{or_true}
use Rattle.protocol.specs.Fixed.{Fixed}
use Rattle.protocol.specs.Parts.{Status, Live, Doomed, Decided, Sealed, Act, Joined, Batch, Declared, Slot, Entry, BatchEntry, ActEntry, Ring, Machine}
use Rattle.protocol.specs.Events.{Event, Submit, Pass, Form, Admit, Arrive, Ask, Take, Run, Send, End, Close, Complete, Sync, Note, Commit, Settle, Abort, Rollback, DropSub, DropControl, Prepare, Vouch, Decide, Seal, Finish, Reply, Trim}
use Rattle.protocol.specs.Words.{holds, is_empty, act_of, batch_of, is_value, is_live_status, is_decided, is_open, is_formed, is_settled, declared_of, is_batch_entry, is_complete_batch, has_undone}
use Rattle.protocol.specs.Conditions.{conditions, queue, is_idle_at, is_idle}
use Rattle.protocol.specs.Effects.{after, cell_at, log_at}
use Rattle.protocol.specs.OnDesk as desk
use Rattle.protocol.specs.OnBook as book
use Rattle.protocol.specs.OnCell as cell
use Rattle.protocol.specs.Runs.{opening, reached, state_after}
use Rattle.protocol_ready.specs.Refusing.{RefusesItself}

-- ---- what is left out, and what is put in its place

none_left : {X : Type 0} (p : X → Bool) (xs : List X) → find p (filter (λ x. not (p x)) xs) ≡ None
none_left p [] = refl
none_left p (x ∷ xs) = by (p x) refl (none_left p xs)
  where
    by : (v : Bool) → p x ≡ v → find p (filter (λ y. not (p y)) xs) ≡ None → find p (if not v then x ∷ filter (λ y. not (p y)) xs else filter (λ y. not (p y)) xs) ≡ None
    by true e r = r
    by false e r = rw e r

pub put_fails : {X : Type 0} (test : X → Bool) (xs : List X) (i : ℕ) (x : X) → test x ≡ false → holds test (slice_get (slice_set xs i x) i) ≡ false
put_fails test [] i x h = refl
put_fails test (y ∷ xs) zero x h = h
put_fails test (y ∷ xs) (suc i) x h = put_fails test xs i x h

not_less : (n : ℕ) → nat_lt n n ≡ false
not_less n = le-ltb n n (omega arith)

-- ---- one batch, and one ACT, among all

-- the batch that is changed fails the test
batch_fails : (k : ℕ) (f : Batch → Batch) (test : Batch → Bool) (bs : List Batch) → ((b : Batch) → (f b).bid ≡ b.bid) → ((b : Batch) → test (f b) ≡ false) → holds test (batch_of k (desk.changed_batch k f bs)) ≡ false
batch_fails k f test [] same fails = refl
batch_fails k f test (b ∷ bs) same fails = by (b.bid == k) refl (batch_fails k f test bs same fails)
  where
    by : (v : Bool) → (b.bid == k) ≡ v → holds test (batch_of k (desk.changed_batch k f bs)) ≡ false
        → holds test (if (desk.change_if v f b).bid == k then Some (desk.change_if v f b) else batch_of k (desk.changed_batch k f bs)) ≡ false
    by true e r = rw (ap (λ n. n == k) (same b) ∙ e) (fails b)
    by false e r = rw e r

-- the batch's mark that is changed fails the test
place_fails : (a : ℕ) (f : Declared → Declared) (test : Declared → Bool) (ps : List Declared) → ((p : Declared) → (f p).actor ≡ p.actor) → ((p : Declared) → test (f p) ≡ false)
    → holds test (find (λ p. p.actor == a) (map (λ p. desk.mark_if (p.actor == a) f p) ps)) ≡ false
place_fails a f test [] same fails = refl
place_fails a f test (p ∷ ps) same fails = by (p.actor == a) refl (place_fails a f test ps same fails)
  where
    by : (v : Bool) → (p.actor == a) ≡ v → holds test (find (λ p. p.actor == a) (map (λ p. desk.mark_if (p.actor == a) f p) ps)) ≡ false
        → holds test (if (desk.mark_if v f p).actor == a then Some (desk.mark_if v f p) else find (λ p. p.actor == a) (map (λ p. desk.mark_if (p.actor == a) f p) ps)) ≡ false
    by true e r = rw (ap (λ n. n == a) (same p) ∙ e) (fails p)
    by false e r = rw e r

-- a batch from k on is aborted, and open no more
taken_fails : (k : ℕ) (x : Bool) (bs : List Batch) → holds (λ b. is_open b && x) (batch_of k (map (desk.taken k) bs)) ≡ false
taken_fails k x [] = refl
taken_fails k x (b ∷ bs) = by (b.bid == k) refl (taken_fails k x bs)
  where
    by : (v : Bool) → (b.bid == k) ≡ v → holds (λ b. is_open b && x) (batch_of k (map (desk.taken k) bs)) ≡ false
        → holds (λ b. is_open b && x) (if v then Some (desk.taken k b) else batch_of k (map (desk.taken k) bs)) ≡ false
    by true e r =
        let from : nat_le k b.bid ≡ true = le-leb k b.bid (omega (arith, eqb-true b.bid k e)) in
        rw (from, or_true b.aborted) (closed (is_formed b.stage) x)
      where
        closed : (f x : Bool) → ((f && false) && x) ≡ false
        closed true x = refl
        closed false x = refl
    by false e r = r

act_fails : (t : ℕ) (f : Act → Act) (test : Act → Bool) (xs : List Act) → ((x : Act) → (f x).tid ≡ x.tid) → ((x : Act) → test (f x) ≡ false) → holds test (act_of t (book.changed_act t f xs)) ≡ false
act_fails t f test [] same fails = refl
act_fails t f test (x ∷ xs) same fails = by (x.tid == t) refl (act_fails t f test xs same fails)
  where
    by : (v : Bool) → (x.tid == t) ≡ v → holds test (act_of t (book.changed_act t f xs)) ≡ false
        → holds test (if (book.change_if v f x).tid == t then Some (book.change_if v f x) else act_of t (book.changed_act t f xs)) ≡ false
    by true e r = rw (ap (λ n. n == t) (same x) ∙ e) (fails x)
    by false e r = rw e r

joined_fails : (a : ℕ) (f : Joined → Joined) (test : Joined → Bool) (ps : List Joined) → ((p : Joined) → (f p).actor ≡ p.actor) → ((p : Joined) → test (f p) ≡ false)
    → holds test (find (λ p. p.actor == a) (map (λ p. book.mark_if (p.actor == a) f p) ps)) ≡ false
joined_fails a f test [] same fails = refl
joined_fails a f test (p ∷ ps) same fails = by (p.actor == a) refl (joined_fails a f test ps same fails)
  where
    by : (v : Bool) → (p.actor == a) ≡ v → holds test (find (λ p. p.actor == a) (map (λ p. book.mark_if (p.actor == a) f p) ps)) ≡ false
        → holds test (if (book.mark_if v f p).actor == a then Some (book.mark_if v f p) else find (λ p. p.actor == a) (map (λ p. book.mark_if (p.actor == a) f p) ps)) ≡ false
    by true e r = rw (ap (λ n. n == a) (same p) ∙ e) (fails p)
    by false e r = rw e r

-- what fails, fails with more that is asked
and_fails : (x y : Bool) → y ≡ false → (x && y) ≡ false
and_fails true y h = h
and_fails false y h = refl

-- a batch's mark that is made is not to be made
pub note_fails : (k a : ℕ) (bs : List Batch) → holds (λ b. is_open b && holds (λ p. not p.noted) (declared_of a b)) (batch_of k (desk.changed_batch k (desk.marked a desk.is_noted) bs)) ≡ false
note_fails k a bs = batch_fails k (desk.marked a desk.is_noted) _ bs (λ b. refl) (λ b. and_fails (is_open b) _ (place_fails a desk.is_noted (λ p. not p.noted) b.places (λ p. refl) (λ p. refl)))

pub trim_fails : (k a : ℕ) (bs : List Batch)
    → holds (λ b. is_settled b.stage && (not b.aborted && holds (λ p. not p.trimmed) (declared_of a b))) (batch_of k (desk.changed_batch k (desk.marked a desk.is_trimmed) bs)) ≡ false
trim_fails k a bs =
    batch_fails k (desk.marked a desk.is_trimmed) _ bs (λ b. refl)
    (λ b. and_fails _ _ (and_fails _ _ (place_fails a desk.is_trimmed (λ p. not p.trimmed) b.places (λ p. refl) (λ p. refl))))

-- decided or failed, an ACT is live no more
decided_fails : (c : ℕ) (has_value : Bool) (st : Status) → is_live_status (book.decided_status c has_value st) ≡ false
decided_fails c true Live = refl
decided_fails c false Live = refl
decided_fails c has_value (Doomed v) = refl
decided_fails c has_value (Decided d) = refl
decided_fails c has_value (Sealed d) = refl

sealed_fails : (st : Status) → is_decided (book.sealed_status st) ≡ false
sealed_fails Live = refl
sealed_fails (Doomed v) = refl
sealed_fails (Decided c) = refl
sealed_fails (Sealed c) = refl

-- ---- on a schedule

slots_done : (t : ℕ) (ss : List Slot) → list_any (λ s. (s.tid == t) && not s.done) (map (cell.done_if t) ss) ≡ false
slots_done t [] = refl
slots_done t (s ∷ ss) = by (s.tid == t) s.done (slots_done t ss)
  where
    by : (v d : Bool) → list_any (λ s. (s.tid == t) && not s.done) (map (cell.done_if t) ss) ≡ false
        → ((v && not (d || v)) || list_any (λ s. (s.tid == t) && not s.done) (map (cell.done_if t) ss)) ≡ false
    by true true r = r
    by true false r = r
    by false d r = r

-- who is done there is not owed anything
none_undone : (t : ℕ) (es : List Entry) → has_undone t (map (cell.done_in t) es) ≡ false
none_undone t [] = refl
none_undone t (BatchEntry b ∷ es) = rw (slots_done t b.slots) (none_undone t es)
none_undone t (ActEntry x ∷ es) = none_undone t es

-- what is complete there lacks nothing
none_lacking : (k : ℕ) (es : List Entry) → holds (λ e. not (is_complete_batch e)) (find (is_batch_entry k) (map (cell.complete_in k) es)) ≡ false
none_lacking k [] = refl
none_lacking k (ActEntry x ∷ es) = none_lacking k es
none_lacking k (BatchEntry b ∷ es) = by (b.bid == k) (none_lacking k es)
  where
    by : (v : Bool) → holds (λ e. not (is_complete_batch e)) (find (is_batch_entry k) (map (cell.complete_in k) es)) ≡ false
        → holds (λ e. not (is_complete_batch e)) (if v then Some (BatchEntry (record b { complete = b.complete || v })) else find (is_batch_entry k) (map (cell.complete_in k) es)) ≡ false
    by true r = rw (or_true b.complete) refl
    by false r = r

-- ---- the token

-- there is a queue for each coordinator
pub record AreQueues {C : Type 0} (w : Fixed C) (s : Machine C) : Type 0 where
  pub pacts : length s.ring.pacts ≡ w.text.coordinators
  pub acts : length s.ring.acts ≡ w.text.coordinators

set_length : {X : Type 0} (xs : List X) (i : ℕ) (x : X) → length (slice_set xs i x) ≡ length xs
set_length [] i x = refl
set_length (y ∷ xs) zero x = refl
set_length (y ∷ xs) (suc i) x = ap suc (set_length xs i x)

either_length : (b : Bool) (xs ys : List (List ℕ)) (n : ℕ) → length xs ≡ n → length ys ≡ n → length (if b then xs else ys) ≡ n
either_length true xs ys n h k = h
either_length false xs ys n h k = k

queues_kept : {C : Type 0} (w : Fixed C) (e : Event) (s : Machine C) → AreQueues w s → AreQueues w (after w e s)
unfolding after
queues_kept w (Submit n) s h = record {
  pacts = either_length _ _ s.ring.pacts w.text.coordinators (set_length s.ring.pacts (n % w.text.coordinators) _ ∙ h.pacts) h.pacts;
  acts = either_length _ s.ring.acts _ w.text.coordinators h.acts (set_length s.ring.acts (n % w.text.coordinators) _ ∙ h.acts);
}
queues_kept w (Form k) s h = record { pacts = set_length s.ring.pacts s.ring.holder _ ∙ h.pacts; acts = h.acts }
queues_kept w (Admit t) s h = record { pacts = h.pacts; acts = set_length s.ring.acts s.ring.holder _ ∙ h.acts }
queues_kept w _ s h = record { pacts = h.pacts; acts = h.acts }

along : {C : Type 0} (w : Fixed C) (es : List Event) (s : Machine C) → AreQueues w s → AreQueues w (state_after w es s)
along w [] s h = h
along w (e ∷ es) s h = along w es (after w e s) (queues_kept w e s h)

pub are_queues : {C : Type 0} (w : Fixed C) (es : List Event) → AreQueues w (reached w es)
are_queues w es = along w es (opening w) (record { pacts = length-replicate w.text.coordinators []; acts = length-replicate w.text.coordinators [] })

-- where one is the next one behind itself there is one alone
alone : (c n : ℕ) → 1 ≤ n → c ≡ (c + 1) % n → (n ≡ 1) × (c ≡ 0)
alone c n some is = elim (cases_lt (c + 1) n) [
  | inl h ↦ absurd (omega (arith, is, mod-eq_of_lt h))
  | inr h ↦
      let below : c < n = omega (arith, is, mod_below (c + 1) n (omega (arith, some))) in
      let all : c + 1 ≡ n = omega (arith, below, h) in
      let none : (c + 1) % n ≡ 0 = subst (λ m. m % n ≡ 0) (sym all) (mod_self n) in
      (omega (arith, is, none, all), omega (arith, is, none))
]

-- and all is idle where its queue is empty
one_queue : (qs : List (List ℕ)) → length qs ≡ 1 → is_empty (queue qs 0) ≡ true → list_all is_empty qs ≡ true
one_queue [] many idle = absurd (omega (arith, many))
one_queue (q ∷ []) many idle = rw idle refl
one_queue (q ∷ r ∷ qs) many idle = absurd (omega (arith, many))

all_idle : (r : Ring) (n c : ℕ) → length r.pacts ≡ n → length r.acts ≡ n → 1 ≤ n → c ≡ (c + 1) % n → is_idle_at c r ≡ true → is_idle r ≡ true
all_idle r n c pacts acts some is idle =
    let one = alone c n some is in
    let both = and_parts (is_empty (queue r.pacts 0)) (is_empty (queue r.acts 0)) (subst (λ i. is_idle_at i r ≡ true) one.1 idle) in
    rw (one_queue r.pacts (pacts ∙ one.0) both.0, one_queue r.acts (acts ∙ one.0) both.1) refl

-- ---- each kind

pub not_again : {C : Type 0} (w : Fixed C) (s : Machine C) → 1 ≤ w.text.coordinators → AreQueues w s → RefusesItself w s
unfolding conditions after
not_again w s some queues (Submit n) ok again =
    let before = and_parts (n == s.ring.next_tx) (nat_lt n (length w.text.txs)) ok.0 in
    let behind = and_parts (n == s.ring.next_tx + 1) (nat_lt n (length w.text.txs)) again.0 in
    omega (arith, eqb-true n s.ring.next_tx before.0, eqb-true n (s.ring.next_tx + 1) behind.0)
not_again w s some queues (Pass c) ok again =
    let busy = all_idle (record s.ring { holder = c }) w.text.coordinators c queues.pacts queues.acts some (eqb-true c ((c + 1) % w.text.coordinators) again.0) again.1.0 in
    both_ways _ (not_from_true _ busy) again.1.1.0
not_again w s some queues (Form k) ok again = omega (arith, eqb-true k s.ring.next_bid ok.0, eqb-true k (s.ring.next_bid + 1) again.0)
not_again w s some queues (Admit t) ok again = omega (arith, eqb-true t s.ring.next_tid ok.0, eqb-true t (s.ring.next_tid + 1) again.0)
not_again w s some queues (Arrive k a) ok again = both_ways _ (ap is_some (none_left (λ m. (m.bid == k) && (m.actor == a)) s.post.subs)) again.0
not_again w s some queues (Ask t a) ok again = both_ways _ (ap (holds (λ m. m.to == a)) (none_left (λ m. m.tid == t) s.post.controls)) again.0
not_again w s some queues (Take t a) ok again = both_ways _ (ap (holds (λ m. m.to == a)) (none_left (λ m. m.tid == t) s.post.controls)) again.0
not_again w s some queues (Run t a) ok again = both_ways _ (put_fails _ s.cells a _ (ap is_some (none_left (λ x. x.tid == t) (cell_at s a).inbox))) again.0
not_again w s some queues (Send t a) ok again = both_ways _ (put_fails _ s.cells a _ (ap (holds _) (none_left (λ x. x.tid == t) (cell_at s a).outbox))) again.0
not_again w s some queues (End t a) ok again = both_ways _ (put_fails _ s.cells a _ (ap (holds _) (none_left (λ x. x.tid == t) (cell_at s a).outbox))) again.0
not_again w s some queues (Close t a) ok again = both_ways _ (put_fails _ s.cells a _ (none_undone t (cell_at s a).entries)) again.1.0
not_again w s some queues (Complete k a) ok again = both_ways _ (put_fails _ s.cells a _ (none_lacking k (cell_at s a).entries)) again.0
not_again w s some queues (Sync l) ok again = both_ways _ (put_fails _ s.logs l _ (not_less (length (log_at s l).records))) again.0
not_again w s some queues (Note k a) ok again = both_ways _ (note_fails k a s.desk.batches) again.0
not_again w s some queues (Commit k) ok again = both_ways _ (batch_fails k _ _ s.desk.batches (λ b. refl) (λ b. refl)) again.0
not_again w s some queues (Settle k) ok again = both_ways _ (batch_fails k _ _ s.desk.batches (λ b. refl) (λ b. refl)) again.0
not_again w s some queues (Abort k) ok again = both_ways _ (taken_fails k _ s.desk.batches) again.0
not_again w s some queues (Rollback a) ok again = both_ways _ (put_fails _ s.cells a _ (not_less (length s.book.cascades))) again.0
not_again w s some queues (DropSub k a) ok again = both_ways _ (ap is_some (none_left (λ m. (m.bid == k) && (m.actor == a)) s.post.subs)) again.0
not_again w s some queues (DropControl t) ok again = both_ways _ (ap is_some (none_left (λ m. m.tid == t) s.post.controls)) again.0
not_again w s some queues (Prepare t a) ok again =
    both_ways _ (act_fails t (book.marked a book.is_prepared) _ s.book.acts (λ x. refl) (λ x. joined_fails a book.is_prepared (λ p. not p.prepared) x.places (λ p. refl) (λ p. refl))) again.1.0
not_again w s some queues (Vouch t a) ok again =
    both_ways _ (act_fails t (book.marked a book.is_vouched) _ s.book.acts (λ x. refl)
    (λ x. and_fails _ _ (and_fails _ _ (joined_fails a book.is_vouched (λ p. p.prepared && not p.vouched) x.places (λ p. refl) (λ p. and_fails p.prepared false refl))))) again.0
not_again w s some queues (Decide t) ok again =
    both_ways _ (act_fails t (book.decided_as s.book.next_c) _ s.book.acts (λ x. refl) (λ x. and_fails (is_some x.result) _ (decided_fails s.book.next_c (is_value x.result) x.status))) again.0
not_again w s some queues (Seal t) ok again = both_ways _ (act_fails t book.sealed _ s.book.acts (λ x. refl) (λ x. sealed_fails x.status)) again.0
not_again w s some queues (Finish t a) ok again =
    both_ways _ (act_fails t (book.marked a book.has_left) _ s.book.acts (λ x. refl) (λ x. joined_fails a book.has_left (λ p. not p.finished) x.places (λ p. refl) (λ p. refl))) again.1.0
not_again w s some queues (Reply n) ok again = both_ways _ (put_fails not s.desk.replied n true refl) again.0
not_again w s some queues (Trim k a) ok again = both_ways _ (trim_fails k a s.desk.batches) again.0
