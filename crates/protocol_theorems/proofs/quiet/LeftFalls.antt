-- Every event lowers what is left, and at the opening it is at most 1,024 for each transaction.
use Rattle.std.specs.Prelude.{◌≡◌, refl, ℕ, zero, suc, ◌+◌, ◌-◌, ◌%◌, ◌<◌, ◌≤◌, ◌==◌, nat_lt, nat_le, not, Bool, true, false, ◌||◌, ◌&&◌, if◌then◌else◌, Option, Some, None, is_some, List, [], ◌∷◌, ◌++◌, length, map, find, take, slice_get, slice_set}
use Rattle.std.proofs.Common.{arith, sym, ap}
use Rattle.std.proofs.lemmas.Bool.{and_parts, true≢false, eqb-true, ltb-true}
use Rattle.snap_base.specs.declared.transactions.State.{State}
use Rattle.snap_base.specs.declared.transactions.Tx.{Tx}
use Rattle.protocol.specs.Fixed.{Fixed, Code, Go, base, tx_at, is_reader}
use Rattle.protocol.specs.Facts.{Alone}
use Rattle.protocol.specs.Parts.{Joined, Cascade, Committing, Settled, SubBatch, Entry, Cell, OfAct, OfBatch, Machine}
use Rattle.protocol.specs.Events.{Event, Submit, Pass, Form, Admit, Arrive, Ask, Take, Run, Send, End, Close, Complete, Sync, Note, Commit, Settle, Abort, Rollback, DropSub, DropControl, Prepare, Vouch, Decide, Seal, Finish, Reply, Trim}
use Rattle.protocol.specs.Words.{holds, is_among, is_value, values_of, is_live_status, is_live_act, is_doomed, is_decided, is_settled, is_committing, is_open, is_next_to_commit, act_of, joined_of, batch_of, declared_of, sub_of, control_of, waiting_of, outcome_of, is_going, is_ended, is_batch_entry, is_complete_batch, has_undone, has_act, who_on, lock_of}
use Rattle.protocol.specs.Conditions.{IsAllowed, conditions, epoch, queue}
use Rattle.protocol.specs.Effects.{after, cell_at, no_cell, log_at, no_log, act_commit, synced}
use Rattle.protocol.specs.Numbers.{flat, times, one_if, once_in}
use Rattle.protocol.specs.OnRing as ring
use Rattle.protocol.specs.OnPost as post
use Rattle.protocol.specs.OnBook as book
use Rattle.protocol.specs.OnDesk as desk
use Rattle.protocol.specs.OnCell as cell
use Rattle.protocol.specs.Left.{total, unless, act_left, joined_left, control_left, waiting_left, outcome_left, sub_left, entry_left, batch_left, reply_left, log_left, cell_left, act_tids, left_with_acts}
use Rattle.protocol_theorems.specs.Left.{IsSmall}
use Rattle.protocol_laws.proofs.first.Times
use Rattle.protocol_laws.proofs.first.Drawn as drawn
use Rattle.protocol_laws.proofs.first.Controls as controls
use Rattle.protocol_laws.proofs.machine.ControlWalk.{AllControls}
use Rattle.protocol_laws.proofs.machine.TracksKept.{held, in_range}
use Rattle.protocol_laws.proofs.machine.Good.{Given}
use Rattle.protocol_theorems.proofs.quiet.LeftLists
use Rattle.protocol_theorems.proofs.quiet.LeftLists.{total_join, total_filter, total_map, total_falls, total_set, total_set_most, total_each}
use Rattle.protocol_theorems.proofs.quiet.LeftParts
use Rattle.protocol_theorems.proofs.quiet.LeftParts.{RestOf}
use Rattle.protocol_theorems.proofs.quiet.LeftRing as token
use Rattle.protocol_laws.proofs.first.Lists.{all_found}

-- what is known of a state after a run
pub record Counted {C : Type 0} (w : Fixed C) (Of : Tx → C → Type 0) (s : Machine C) : Type 0 where
  pub round : token.IsRound w s
  pub cells : length s.cells ≡ length w.text.opening.states
  pub numbers : drawn.Drawn w s
  pub held : controls.HeldIn s
  pub rests : AllControls (λ t n. RestOf w Of n) s

-- ---- numbers

pub once_most : (low high n : ℕ) → once_in low high n ≤ 1
once_most low high n = by (Rattle.std.specs.Prelude.nat_le low n && nat_lt n high)
  where
    by : (b : Bool) → one_if b ≤ 1
    by true = omega arith
    by false = omega arith

act_once : {C : Type 0} (w : Fixed C) (s : Machine C) → drawn.Drawn w s → (t : ℕ) → times t (act_tids s) ≤ 1
unfolding drawn.Drawn
act_once w s d t = omega (arith, d.each t, Times.times_append t (flat (map (λ b. map (λ p. p.tid) b.pacts) s.desk.batches)) (act_tids s), once_most w.text.opening.next_tid s.ring.next_tid t)

acts_below : {C : Type 0} (w : Fixed C) (s : Machine C) → drawn.Drawn w s → (t : ℕ) → s.ring.next_tid ≤ t → is_among t (act_tids s) ≡ false
unfolding drawn.Drawn
acts_below w s d t l = LeftLists.never_among t (act_tids s) (omega (arith, d.each t, Times.times_append t (flat (map (λ b. map (λ p. p.tid) b.pacts) s.desk.batches)) (act_tids s), Times.once_from w.text.opening.next_tid s.ring.next_tid t l))

bid_once : {C : Type 0} (w : Fixed C) (s : Machine C) → drawn.Drawn w s → (k : ℕ) → times k (map (λ b. b.bid) s.desk.batches) ≤ 1
unfolding drawn.Drawn
bid_once w s d k = let n = length (map (λ b. b.bid) s.desk.batches) in omega (arith, ap (times k) d.are, Times.times_from w.text.opening.next_bid n k, once_most w.text.opening.next_bid (w.text.opening.next_bid + n) k)

-- ---- one cell

-- a cell that is there becomes another one
one_cell : {C : Type 0} (w : Fixed C) (tids : List ℕ) (e : ℕ) (s : Machine C) (a : ℕ) (c : Cell C) → a < length s.cells
    → total (cell_left w.code tids e) (slice_set s.cells a c) + cell_left w.code tids e (cell_at s a) ≡ total (cell_left w.code tids e) s.cells + cell_left w.code tids e c
one_cell w tids e s a c l = total_set (cell_left w.code tids e) s.cells a no_cell c l

a_cell : {C : Type 0} (w : Fixed C) (tids : List ℕ) (e : ℕ) (s : Machine C) (a : ℕ) (c : Cell C) → cell_left w.code tids e c ≤ cell_left w.code tids e (cell_at s a)
    → total (cell_left w.code tids e) (slice_set s.cells a c) ≤ total (cell_left w.code tids e) s.cells
a_cell w tids e s a c h = let k = total_set_most (cell_left w.code tids e) s.cells a no_cell c 0 (omega (arith, h)) in omega (arith, k)

run_entries : (b : Bool) (t : ℕ) (es : List Entry) → total entry_left (if b then map (cell.done_in t) es else es) ≤ total entry_left es
run_entries true t es = total_map entry_left (cell.done_in t) es (LeftLists.entry_done t)
run_entries false t es = omega arith

complete_most : (k : ℕ) (e : Entry) → entry_left (cell.complete_in k e) ≤ entry_left e
complete_most k (Rattle.protocol.specs.Parts.BatchEntry b) = by b.complete (b.bid == k)
  where
    by : (x y : Bool) → unless (x || y) 2 + total Rattle.protocol.specs.Left.slot_left b.slots ≤ unless x 2 + total Rattle.protocol.specs.Left.slot_left b.slots
    by true y = omega arith
    by false true = omega arith
    by false false = omega arith
complete_most k (Rattle.protocol.specs.Parts.ActEntry x) = omega arith

complete_falls : (k : ℕ) (e : Entry) → is_batch_entry k e ≡ true → not (is_complete_batch e) ≡ true → entry_left (cell.complete_in k e) + 2 ≤ entry_left e
complete_falls k (Rattle.protocol.specs.Parts.BatchEntry b) i n = by b.complete (b.bid == k) i n
  where
    by : (x y : Bool) → y ≡ true → not x ≡ true → unless (x || y) 2 + total Rattle.protocol.specs.Left.slot_left b.slots + 2 ≤ unless x 2 + total Rattle.protocol.specs.Left.slot_left b.slots
    by true y i n = absurd (true≢false (sym n))
    by false true i n = omega arith
    by false false i n = absurd (true≢false (sym i))
complete_falls k (Rattle.protocol.specs.Parts.ActEntry x) i n = absurd (true≢false (sym i))

staying_most : (cs : List Cascade) (es : List Entry) → total entry_left (cell.staying cs es) ≤ total entry_left es
staying_most cs [] = omega arith
staying_most cs (e ∷ es) = by (cell.is_cut cs (Rattle.protocol.specs.Words.who_of e)) (staying_most cs es)
  where
    by : (b : Bool) → total entry_left (cell.staying cs es) ≤ total entry_left es → total entry_left (if b then [] else e ∷ cell.staying cs es) ≤ entry_left e + total entry_left es
    by true h = omega arith
    by false h = omega (arith, h)

later : {C : Type 0} (code : Code C) (tids : List ℕ) (cs : List Cascade) (x : Cascade) (c : Cell C) → cell_left code tids (length (cs ++ x ∷ [])) c ≤ cell_left code tids (length cs) c + 1
later code tids cs x c = omega (arith, Times.length_join cs (x ∷ []))

-- ---- replies

reply_falls : (n : ℕ) (xs : List Bool) → holds not (slice_get xs n) ≡ true → total reply_left (slice_set xs n true) + 1 ≤ total reply_left xs
reply_falls n [] e = absurd (true≢false (sym e))
reply_falls zero (x ∷ xs) e = omega (arith, LeftParts.unmarked x 1 e)
reply_falls (suc n) (x ∷ xs) e = omega (arith, reply_falls n xs e)

-- ---- marks

prepared_most : (p : Joined) → joined_left (book.is_prepared p) ≤ joined_left p
prepared_most p = omega arith

vouched_most : (p : Joined) → joined_left (book.is_vouched p) ≤ joined_left p
vouched_most p = omega arith

finished_most : (p : Joined) → joined_left (book.has_left p) ≤ joined_left p
finished_most p = omega arith

cell_there : {C : Type 0} (e a : ℕ) (m : Option SubBatch) (cs : List (Cell C)) → holds (λ m. (m.epoch == e) && holds (λ c. c.epoch == e) (slice_get cs a)) m ≡ true → a < length cs
cell_there e a None cs h = absurd (true≢false (sym h))
cell_there e a (Some m) cs h = in_range (λ c. c.epoch == e) cs a (and_parts (m.epoch == e) (holds (λ c. c.epoch == e) (slice_get cs a)) h).1

-- ---- every event

-- with the ACTs' tids as they were
pub falls : {C : Type 0} (w : Fixed C) (Of : Tx → C → Type 0) (finish : C → List State → Alone) (e : Event) (s : Machine C) → Given w Of finish → IsSmall w → Counted w Of s → IsAllowed w e s → left_with_acts w (act_tids s) (after w e s) + 1 ≤ left_with_acts w (act_tids s) s
unfolding conditions after
falls w Of finish (Submit n) s v small g ok = omega (arith, token.submit_falls w n s.ring small.coordinators (first ok.0))
  where
    first : ((n == s.ring.next_tx) && nat_lt n (length w.text.txs)) ≡ true → s.ring.next_tx < length w.text.txs
    first e = let p = and_parts (n == s.ring.next_tx) (nat_lt n (length w.text.txs)) e in omega (arith, eqb-true n s.ring.next_tx p.0, ltb-true n (length w.text.txs) p.1)
falls w Of finish (Pass c) s v small g ok = omega (arith, token.pass_falls w.text.coordinators c s.ring (token.round_is w s g.round) ok.0 ok.1.0 ok.1.1.0)
falls w Of finish (Form k) s v small g ok =
    let p = length (take w.text.batch (queue s.ring.pacts s.ring.holder)) in
    omega (
      arith,
      token.form_falls w k s.ring small.coordinators ok.1.0,
      token.some_taken w.text.batch (queue s.ring.pacts s.ring.holder) v.text.some_batch ok.1.0,
      LeftParts.form_costs w k s.ring small.uses,
      drawn.length_numbered s.ring.next_tid (take w.text.batch (queue s.ring.pacts s.ring.holder)),
      total_join sub_left s.post.subs (map (ring.first_sub w.text k s.ring) (ring.next_actors w.text s.ring)),
      total_join (control_left w.code (act_tids s)) s.post.controls (map (λ q. post.first_control w (OfBatch k) q.tid q.tx) (ring.next_pacts w.text s.ring)),
      LeftParts.controls_cost w Of finish (act_tids s) k s.ring.next_tid s.ring.next_tid (take w.text.batch (queue s.ring.pacts s.ring.holder)) v.facts (omega arith) (acts_below w s g.numbers),
      total_join batch_left s.desk.batches (desk.new_batch k (ring.next_actors w.text s.ring) (ring.next_pacts w.text s.ring) ∷ []),
      LeftParts.adds_most s.logs (k % w.text.logs) (Rattle.protocol.specs.Records.BatchInfo k (ring.next_actors w.text s.ring) (map (λ p. p.tid) (ring.next_pacts w.text s.ring)) ∷ []),
    )
falls w Of finish (Admit t) s v small g ok =
    omega (
      arith,
      token.admit_falls w s.ring small.coordinators ok.1.0,
      total_join act_left s.book.acts (book.new_act t (post.next_act s.ring) (is_reader w (post.next_act s.ring)) (base w.text) ∷ []),
      total_join (control_left w.code (act_tids s)) s.post.controls (post.first_control w (OfAct t) t (post.next_act s.ring) ∷ []),
      LeftParts.act_costs (is_among t (act_tids s)) (w.code.visits_left (w.code.start t (tx_at w.text (post.next_act s.ring)))) (v.facts.few_visits t (tx_at w.text (post.next_act s.ring))),
    )
falls w Of finish (Arrive k a) s v small g ok =
    let m = sub_of k a s.post.subs in
    let c = cell_at s a in
    omega (
      arith,
      LeftParts.arrive_costs k a s.post.subs m refl ok.0,
      total_map act_left (Rattle.protocol.specs.Spread.crossed_out a) (map (book.lowered k (book.tids_on c.entries)) s.book.acts) (LeftParts.crossed_most a),
      total_map act_left (book.lowered k (book.tids_on c.entries)) s.book.acts (λ x. omega arith),
      one_cell w (act_tids s) (epoch s.book) s a (cell.batch_placed k m c) (cell_there (epoch s.book) a m s.cells ok.1.1.0),
      total_join entry_left c.entries (cell.batch_entries k m),
    )
falls w Of finish (Ask t a) s v small g ok =
    let c = cell_at s a in
    let m = control_of t s.post.controls in
    omega (
      arith,
      LeftParts.ask_costs w.code (act_tids s) t a (λ m. m.to == a) s.post.controls m (book.in_the_way (lock_of t s.book.acts) c.entries) (book.met (lock_of t s.book.acts) c.entries) c s.book refl ok.0 (LeftLists.found_among (λ x. x.tid) (λ x. not (is_doomed x.status)) t s.book.acts ok.1.0) (act_once w s g.numbers t),
      one_cell w (act_tids s) (epoch s.book) s a (cell.act_placed (lock_of t s.book.acts) (book.in_the_way (lock_of t s.book.acts) c.entries) m c) (in_range (λ c. c.epoch == epoch s.book) s.cells a ok.1.1.1.0),
      total_join entry_left c.entries (cell.act_entries (lock_of t s.book.acts) (book.in_the_way (lock_of t s.book.acts) c.entries)),
      LeftParts.no_entries (lock_of t s.book.acts) (book.in_the_way (lock_of t s.book.acts) c.entries),
      total_join (waiting_left w.code (act_tids s)) c.inbox (cell.where_placed (book.in_the_way (lock_of t s.book.acts) c.entries) m),
    )
falls w Of finish (Take t a) s v small g ok =
    let c = cell_at s a in
    let m = control_of t s.post.controls in
    omega (
      arith,
      LeftParts.take_costs w.code (act_tids s) t (λ m. m.to == a) s.post.controls m refl ok.0,
      one_cell w (act_tids s) (epoch s.book) s a (cell.control_came m c) (in_range (λ c. Rattle.protocol.specs.Words.has_entry t c.entries) s.cells a ok.1.0),
      total_join (waiting_left w.code (act_tids s)) c.inbox (cell.arrived m),
    )
falls w Of finish (Run t a) s v small g ok =
    let c = cell_at s a in
    omega (
      arith,
      LeftParts.slice_costs w Of finish (act_tids s) t a c.state c.inbox (waiting_of t c.inbox) v.facts refl (held (λ c. is_some (waiting_of t c.inbox)) s.cells a no_cell ok.0) (λ x e. all_found (λ x. RestOf w Of (Go a x.control)) (λ x. x.tid == t) c.inbox x (g.rests.inboxes a) e),
      one_cell w (act_tids s) (epoch s.book) s a (cell.slice_run w.code t a c) (in_range (λ c. is_some (waiting_of t c.inbox)) s.cells a ok.0),
      run_entries (cell.is_done_after w.code a (cell.slice_of w.code t c)) t c.entries,
      LeftParts.outbox_join w.code (act_tids s) c.outbox (cell.outcomes t (cell.slice_of w.code t c)),
    )
falls w Of finish (Send t a) s v small g ok =
    let c = cell_at s a in
    omega (
      arith,
      LeftParts.send_costs w.code (act_tids s) t (who_on t c.entries) c.outbox (outcome_of t c.outbox) refl (held (λ c. holds (λ x. is_going x.next) (outcome_of t c.outbox)) s.cells a no_cell ok.0),
      total_join (control_left w.code (act_tids s)) s.post.controls (post.handed_on (who_on t c.entries) (outcome_of t c.outbox)),
      one_cell w (act_tids s) (epoch s.book) s a (cell.outcome_taken t c) (in_range (λ c. holds (λ x. is_going x.next) (outcome_of t c.outbox)) s.cells a ok.0),
    )
falls w Of finish (End t a) s v small g ok =
    let c = cell_at s a in
    omega (
      arith,
      LeftParts.end_costs w.code (act_tids s) t c.outbox (outcome_of t c.outbox) refl (held (λ c. holds (λ x. is_ended x.next) (outcome_of t c.outbox)) s.cells a no_cell ok.0),
      LeftParts.ended_acts (has_act t c.entries) t (outcome_of t c.outbox) s.book.acts,
      LeftParts.ended_batches (has_act t c.entries) t (outcome_of t c.outbox) s.desk.batches,
      one_cell w (act_tids s) (epoch s.book) s a (cell.outcome_taken t c) (in_range (λ c. holds (λ x. is_ended x.next) (outcome_of t c.outbox)) s.cells a ok.0),
    )
falls w Of finish (Close t a) s v small g ok =
    let c = cell_at s a in
    omega (
      arith,
      LeftLists.entries_closed t c.entries (held (λ c. has_undone t c.entries) s.cells a no_cell ok.1.0),
      one_cell w (act_tids s) (epoch s.book) s a (cell.pact_closed t c) (in_range (λ c. has_undone t c.entries) s.cells a ok.1.0),
    )
falls w Of finish (Complete k a) s v small g ok =
    let c = cell_at s a in
    omega (
      arith,
      total_falls entry_left (cell.complete_in k) (is_batch_entry k) (λ e. not (is_complete_batch e)) 2 c.entries (complete_most k) (complete_falls k) (held (λ c. holds (λ e. not (is_complete_batch e)) (find (is_batch_entry k) c.entries)) s.cells a no_cell ok.0),
      one_cell w (act_tids s) (epoch s.book) s a (cell.batch_completed k c) (in_range (λ c. holds (λ e. not (is_complete_batch e)) (find (is_batch_entry k) c.entries)) s.cells a ok.0),
      LeftParts.adds_most s.logs (a % w.text.logs) (Rattle.protocol.specs.Records.BatchComplete k a c.state ∷ []),
    )
falls w Of finish (Sync l) s v small g ok =
    omega (
      arith,
      total_set log_left s.logs l no_log (synced (log_at s l)) (in_range (λ g. nat_lt g.synced (length g.records)) s.logs l ok.0),
      ltb-true (log_at s l).synced (length (log_at s l).records) (held (λ g. nat_lt g.synced (length g.records)) s.logs l no_log ok.0),
    )
falls w Of finish (Note k a) s v small g ok =
    omega (arith, LeftParts.batch_mark k a desk.is_noted (λ b. is_open b && holds (λ p. not p.noted) (declared_of a b)) (λ p. not p.noted) s.desk.batches (λ p. omega arith) (λ p e. omega (arith, LeftParts.unmarked p.noted 1 e)) (λ b e. (and_parts (is_open b) (holds (λ p. not p.noted) (declared_of a b)) e).1) ok.0)
falls w Of finish (Commit k) s v small g ok =
    omega (
      arith,
      LeftParts.stage_falls k 2 Committing (λ b. is_open b && is_next_to_commit k s.desk.batches) s.desk.batches (bid_once w s g.numbers k) (λ b e. LeftParts.commit_stage b (is_next_to_commit k s.desk.batches) e) ok.0,
      LeftParts.adds_most s.logs (k % w.text.logs) (Rattle.protocol.specs.Records.BatchDone k (values_of (batch_of k s.desk.batches)) ∷ []),
    )
falls w Of finish (Settle k) s v small g ok =
    omega (arith, LeftParts.stage_falls k 1 Settled (λ b. is_committing b.stage && not b.aborted) s.desk.batches (bid_once w s g.numbers k) LeftParts.settle_stage ok.0)
falls w Of finish (Abort k) s v small g ok =
    omega (
      arith,
      LeftParts.abort_falls k (is_next_to_commit k s.desk.batches) s.desk.batches ok.0,
      total_map act_left (book.cascaded k (book.failed_tx (book.why k s.desk))) s.book.acts (LeftParts.cascaded_most k (book.failed_tx (book.why k s.desk))),
      total_each (cell_left w.code (act_tids s) (epoch (book.batch_aborted k (s.ring.next_bid - 1) (book.why k s.desk) s.book))) (cell_left w.code (act_tids s) (epoch s.book)) s.cells (λ c. later w.code (act_tids s) s.book.cascades _ c),
      g.cells,
      small.actors,
    )
falls w Of finish (Rollback a) s v small g ok =
    let c = cell_at s a in
    omega (
      arith,
      ltb-true c.epoch (epoch s.book) (held (λ c. nat_lt c.epoch (epoch s.book)) s.cells a no_cell ok.0),
      one_cell w (act_tids s) (epoch s.book) s a (cell.rolled_back s.book.cascades c) (in_range (λ c. nat_lt c.epoch (epoch s.book)) s.cells a ok.0),
      staying_most s.book.cascades c.entries,
      total_filter (waiting_left w.code (act_tids s)) (λ x. not (cell.is_tid_among x.tid (cell.going s.book.cascades c.entries))) c.inbox,
      total_filter (outcome_left w.code (act_tids s)) (λ x. not (cell.is_tid_among x.tid (cell.going s.book.cascades c.entries))) c.outbox,
    )
falls w Of finish (DropSub k a) s v small g ok = omega (arith, LeftParts.sub_gone k a s.post.subs (sub_of k a s.post.subs) refl ok.0)
falls w Of finish (DropControl t) s v small g ok = omega (arith, LeftParts.control_gone w.code (act_tids s) t s.post.controls (control_of t s.post.controls) refl ok.0)
falls w Of finish (Prepare t a) s v small g ok =
    omega (
      arith,
      LeftParts.acts_fall t (book.marked a book.is_prepared) (λ x. holds (λ p. not p.prepared) (joined_of a x)) 2 s.book.acts (λ x. LeftParts.marked_most a book.is_prepared x prepared_most) (λ x e. LeftParts.marked_falls a book.is_prepared (λ p. not p.prepared) 2 x prepared_most (λ p q. omega (arith, LeftParts.unmarked p.prepared 2 q)) e) ok.1.0,
      LeftParts.adds_most s.logs (a % w.text.logs) (Rattle.protocol.specs.Records.ActPrepare t a (cell_at s a).state ∷ []),
    )
falls w Of finish (Vouch t a) s v small g ok =
    omega (
      arith,
      LeftParts.acts_fall t (book.marked a book.is_vouched) (λ x. is_live_act x && (not (is_doomed x.status) && holds (λ p. p.prepared && not p.vouched) (joined_of a x))) 1 s.book.acts (λ x. LeftParts.marked_most a book.is_vouched x vouched_most)
          (λ x e. LeftParts.marked_falls a book.is_vouched (λ p. p.prepared && not p.vouched) 1 x vouched_most (λ p q. omega (arith, LeftParts.unmarked p.vouched 1 (and_parts p.prepared (not p.vouched) q).1)) (and_parts (not (is_doomed x.status)) (holds (λ p. p.prepared && not p.vouched) (joined_of a x)) (and_parts (is_live_act x) (not (is_doomed x.status) && holds (λ p. p.prepared && not p.vouched) (joined_of a x)) e).1).1) ok.0,
    )
falls w Of finish (Decide t) s v small g ok =
    omega (
      arith,
      LeftParts.acts_fall t (book.decided_as s.book.next_c) (λ x. is_some x.result && is_live_status x.status) 2 s.book.acts (λ x. omega (arith, LeftParts.decided_most s.book.next_c (is_value x.result) x.status)) (λ x e. omega (arith, LeftParts.decided_falls s.book.next_c (is_value x.result) x.status (and_parts (is_some x.result) (is_live_status x.status) e).1)) ok.0,
      LeftParts.adds_most s.logs (t % w.text.logs) (act_commit s.book.next_c (act_of t s.book.acts)),
      LeftParts.commit_one s.book.next_c (act_of t s.book.acts),
    )
falls w Of finish (Seal t) s v small g ok =
    omega (arith, LeftParts.acts_fall t book.sealed (λ x. is_decided x.status) 1 s.book.acts (λ x. omega (arith, LeftParts.sealed_most x.status)) (λ x e. omega (arith, LeftParts.sealed_falls x.status e)) ok.0)
falls w Of finish (Finish t a) s v small g ok =
    let c = cell_at s a in
    omega (
      arith,
      LeftParts.acts_fall t (book.marked a book.has_left) (λ x. holds (λ p. not p.finished) (joined_of a x)) 1 s.book.acts (λ x. LeftParts.marked_most a book.has_left x finished_most) (λ x e. LeftParts.marked_falls a book.has_left (λ p. not p.finished) 1 x finished_most (λ p q. omega (arith, LeftParts.unmarked p.finished 1 q)) e) ok.1.0,
      a_cell w (act_tids s) (epoch s.book) s a (cell.act_left t (act_of t s.book.acts) c) (omega (
        arith,
        total_filter entry_left (λ e. not (Rattle.protocol.specs.Words.is_act_entry t e)) c.entries,
        total_filter (waiting_left w.code (act_tids s)) (λ x. not (cell.is_tid_among x.tid (cell.own_entries t c.entries))) c.inbox,
        total_filter (outcome_left w.code (act_tids s)) (λ x. not (cell.is_tid_among x.tid (cell.own_entries t c.entries))) c.outbox,
      )),
    )
falls w Of finish (Reply n) s v small g ok = omega (arith, reply_falls n s.desk.replied ok.0)
falls w Of finish (Trim k a) s v small g ok =
    let c = cell_at s a in
    omega (
      arith,
      LeftParts.batch_mark k a desk.is_trimmed (λ b. is_settled b.stage && (not b.aborted && holds (λ p. not p.trimmed) (declared_of a b))) (λ p. not p.trimmed) s.desk.batches (λ p. omega arith) (λ p e. omega (arith, LeftParts.unmarked p.trimmed 1 e))
          (λ b e. (and_parts (not b.aborted) (holds (λ p. not p.trimmed) (declared_of a b)) (and_parts (is_settled b.stage) (not b.aborted && holds (λ p. not p.trimmed) (declared_of a b)) e).1).1) ok.0,
      a_cell w (act_tids s) (epoch s.book) s a (cell.batch_left k c) (omega (arith, total_filter entry_left (λ e. not (is_batch_entry k e)) c.entries)),
    )
