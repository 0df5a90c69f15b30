-- What an event of an ACT, a reply or a trim leaves.
use Rattle.std.specs.Prelude.{◌≡◌, refl, ℕ, ◌%◌, false, map}
use Rattle.std.proofs.lemmas.Bool.{true≢false}
use Rattle.protocol.specs.Fixed.{Fixed}
use Rattle.protocol.specs.Parts.{Machine}
use Rattle.protocol.specs.Events.{Prepare, Vouch, Decide, Seal, Finish, Reply, Trim}
use Rattle.protocol.specs.Effects.{after}
use Rattle.protocol.specs.Contents.{Content, NextC, Pairs, ActTids, ActTxs, ActReaders, Befores, Afters, ActActors, PreparedMarks, VouchedMarks, FinishedMarks, ActResults, Statuses, Bids, BatchActors, BatchTids, BatchTxs, NotedMarks, TrimmedMarks, PactResults, Stages, AbortedMarks, Replied, Records, SyncedCounts, States, Images, CellEpochs, LastPlaced, LastTrimmed, Tails, Floors, EntryOwners, EntryTids, EntryReaders, DoneMarks, CompleteMarks, Inboxes, Outboxes, IsSame, is_changed}
use Rattle.protocol.specs.OnBook as book
use Rattle.protocol.specs.OnDesk as desk
use Rattle.protocol_laws.proofs.first.Kept.{cells_kept, logs_kept, changed_act_kept, marked_kept, changed_batch_kept, batch_marked_kept}

pub after_prepare : {C : Type 0} (w : Fixed C) (t a : ℕ) (s : Machine C) (q : Content) → is_changed q (Prepare t a) ≡ false → IsSame q s (after w (Prepare t a) s)
unfolding after
after_prepare w t a s ActTids h = changed_act_kept (λ x. x.tid) t (book.marked a book.is_prepared) s.book.acts (λ x. refl)
after_prepare w t a s ActTxs h = changed_act_kept (λ x. x.tx) t (book.marked a book.is_prepared) s.book.acts (λ x. refl)
after_prepare w t a s ActReaders h = changed_act_kept (λ x. x.reader) t (book.marked a book.is_prepared) s.book.acts (λ x. refl)
after_prepare w t a s Befores h = changed_act_kept (λ x. x.m) t (book.marked a book.is_prepared) s.book.acts (λ x. refl)
after_prepare w t a s Afters h = changed_act_kept (λ x. x.n) t (book.marked a book.is_prepared) s.book.acts (λ x. refl)
after_prepare w t a s ActActors h = changed_act_kept (λ x. map (λ p. p.actor) x.places) t (book.marked a book.is_prepared) s.book.acts (λ x. marked_kept (λ p. p.actor) a book.is_prepared x (λ p. refl))
after_prepare w t a s PreparedMarks h = absurd (true≢false h)
after_prepare w t a s VouchedMarks h = changed_act_kept (λ x. map (λ p. p.vouched) x.places) t (book.marked a book.is_prepared) s.book.acts (λ x. marked_kept (λ p. p.vouched) a book.is_prepared x (λ p. refl))
after_prepare w t a s FinishedMarks h = changed_act_kept (λ x. map (λ p. p.finished) x.places) t (book.marked a book.is_prepared) s.book.acts (λ x. marked_kept (λ p. p.finished) a book.is_prepared x (λ p. refl))
after_prepare w t a s ActResults h = changed_act_kept (λ x. x.result) t (book.marked a book.is_prepared) s.book.acts (λ x. refl)
after_prepare w t a s Statuses h = changed_act_kept (λ x. x.status) t (book.marked a book.is_prepared) s.book.acts (λ x. refl)
after_prepare w t a s Records h = absurd (true≢false h)
after_prepare w t a s SyncedCounts h = logs_kept (λ x. x.synced) s (a % w.text.logs) _ refl
after_prepare w t a s _ h = refl

pub after_vouch : {C : Type 0} (w : Fixed C) (t a : ℕ) (s : Machine C) (q : Content) → is_changed q (Vouch t a) ≡ false → IsSame q s (after w (Vouch t a) s)
unfolding after
after_vouch w t a s ActTids h = changed_act_kept (λ x. x.tid) t (book.marked a book.is_vouched) s.book.acts (λ x. refl)
after_vouch w t a s ActTxs h = changed_act_kept (λ x. x.tx) t (book.marked a book.is_vouched) s.book.acts (λ x. refl)
after_vouch w t a s ActReaders h = changed_act_kept (λ x. x.reader) t (book.marked a book.is_vouched) s.book.acts (λ x. refl)
after_vouch w t a s Befores h = changed_act_kept (λ x. x.m) t (book.marked a book.is_vouched) s.book.acts (λ x. refl)
after_vouch w t a s Afters h = changed_act_kept (λ x. x.n) t (book.marked a book.is_vouched) s.book.acts (λ x. refl)
after_vouch w t a s ActActors h = changed_act_kept (λ x. map (λ p. p.actor) x.places) t (book.marked a book.is_vouched) s.book.acts (λ x. marked_kept (λ p. p.actor) a book.is_vouched x (λ p. refl))
after_vouch w t a s PreparedMarks h = changed_act_kept (λ x. map (λ p. p.prepared) x.places) t (book.marked a book.is_vouched) s.book.acts (λ x. marked_kept (λ p. p.prepared) a book.is_vouched x (λ p. refl))
after_vouch w t a s VouchedMarks h = absurd (true≢false h)
after_vouch w t a s FinishedMarks h = changed_act_kept (λ x. map (λ p. p.finished) x.places) t (book.marked a book.is_vouched) s.book.acts (λ x. marked_kept (λ p. p.finished) a book.is_vouched x (λ p. refl))
after_vouch w t a s ActResults h = changed_act_kept (λ x. x.result) t (book.marked a book.is_vouched) s.book.acts (λ x. refl)
after_vouch w t a s Statuses h = changed_act_kept (λ x. x.status) t (book.marked a book.is_vouched) s.book.acts (λ x. refl)
after_vouch w t a s _ h = refl

pub after_decide : {C : Type 0} (w : Fixed C) (t : ℕ) (s : Machine C) (q : Content) → is_changed q (Decide t) ≡ false → IsSame q s (after w (Decide t) s)
unfolding after
after_decide w t s NextC h = absurd (true≢false h)
after_decide w t s ActTids h = changed_act_kept (λ x. x.tid) t (book.decided_as s.book.next_c) s.book.acts (λ x. refl)
after_decide w t s ActTxs h = changed_act_kept (λ x. x.tx) t (book.decided_as s.book.next_c) s.book.acts (λ x. refl)
after_decide w t s ActReaders h = changed_act_kept (λ x. x.reader) t (book.decided_as s.book.next_c) s.book.acts (λ x. refl)
after_decide w t s Befores h = changed_act_kept (λ x. x.m) t (book.decided_as s.book.next_c) s.book.acts (λ x. refl)
after_decide w t s Afters h = changed_act_kept (λ x. x.n) t (book.decided_as s.book.next_c) s.book.acts (λ x. refl)
after_decide w t s ActActors h = changed_act_kept (λ x. map (λ p. p.actor) x.places) t (book.decided_as s.book.next_c) s.book.acts (λ x. refl)
after_decide w t s PreparedMarks h = changed_act_kept (λ x. map (λ p. p.prepared) x.places) t (book.decided_as s.book.next_c) s.book.acts (λ x. refl)
after_decide w t s VouchedMarks h = changed_act_kept (λ x. map (λ p. p.vouched) x.places) t (book.decided_as s.book.next_c) s.book.acts (λ x. refl)
after_decide w t s FinishedMarks h = changed_act_kept (λ x. map (λ p. p.finished) x.places) t (book.decided_as s.book.next_c) s.book.acts (λ x. refl)
after_decide w t s ActResults h = changed_act_kept (λ x. x.result) t (book.decided_as s.book.next_c) s.book.acts (λ x. refl)
after_decide w t s Statuses h = absurd (true≢false h)
after_decide w t s Records h = absurd (true≢false h)
after_decide w t s SyncedCounts h = logs_kept (λ x. x.synced) s (t % w.text.logs) _ refl
after_decide w t s _ h = refl

pub after_seal : {C : Type 0} (w : Fixed C) (t : ℕ) (s : Machine C) (q : Content) → is_changed q (Seal t) ≡ false → IsSame q s (after w (Seal t) s)
unfolding after
after_seal w t s ActTids h = changed_act_kept (λ x. x.tid) t book.sealed s.book.acts (λ x. refl)
after_seal w t s ActTxs h = changed_act_kept (λ x. x.tx) t book.sealed s.book.acts (λ x. refl)
after_seal w t s ActReaders h = changed_act_kept (λ x. x.reader) t book.sealed s.book.acts (λ x. refl)
after_seal w t s Befores h = changed_act_kept (λ x. x.m) t book.sealed s.book.acts (λ x. refl)
after_seal w t s Afters h = changed_act_kept (λ x. x.n) t book.sealed s.book.acts (λ x. refl)
after_seal w t s ActActors h = changed_act_kept (λ x. map (λ p. p.actor) x.places) t book.sealed s.book.acts (λ x. refl)
after_seal w t s PreparedMarks h = changed_act_kept (λ x. map (λ p. p.prepared) x.places) t book.sealed s.book.acts (λ x. refl)
after_seal w t s VouchedMarks h = changed_act_kept (λ x. map (λ p. p.vouched) x.places) t book.sealed s.book.acts (λ x. refl)
after_seal w t s FinishedMarks h = changed_act_kept (λ x. map (λ p. p.finished) x.places) t book.sealed s.book.acts (λ x. refl)
after_seal w t s ActResults h = changed_act_kept (λ x. x.result) t book.sealed s.book.acts (λ x. refl)
after_seal w t s Statuses h = absurd (true≢false h)
after_seal w t s _ h = refl

pub after_finish : {C : Type 0} (w : Fixed C) (t a : ℕ) (s : Machine C) (q : Content) → is_changed q (Finish t a) ≡ false → IsSame q s (after w (Finish t a) s)
unfolding after
after_finish w t a s Pairs h = absurd (true≢false h)
after_finish w t a s ActTids h = changed_act_kept (λ x. x.tid) t (book.marked a book.has_left) s.book.acts (λ x. refl)
after_finish w t a s ActTxs h = changed_act_kept (λ x. x.tx) t (book.marked a book.has_left) s.book.acts (λ x. refl)
after_finish w t a s ActReaders h = changed_act_kept (λ x. x.reader) t (book.marked a book.has_left) s.book.acts (λ x. refl)
after_finish w t a s Befores h = changed_act_kept (λ x. x.m) t (book.marked a book.has_left) s.book.acts (λ x. refl)
after_finish w t a s Afters h = changed_act_kept (λ x. x.n) t (book.marked a book.has_left) s.book.acts (λ x. refl)
after_finish w t a s ActActors h = changed_act_kept (λ x. map (λ p. p.actor) x.places) t (book.marked a book.has_left) s.book.acts (λ x. marked_kept (λ p. p.actor) a book.has_left x (λ p. refl))
after_finish w t a s PreparedMarks h = changed_act_kept (λ x. map (λ p. p.prepared) x.places) t (book.marked a book.has_left) s.book.acts (λ x. marked_kept (λ p. p.prepared) a book.has_left x (λ p. refl))
after_finish w t a s VouchedMarks h = changed_act_kept (λ x. map (λ p. p.vouched) x.places) t (book.marked a book.has_left) s.book.acts (λ x. marked_kept (λ p. p.vouched) a book.has_left x (λ p. refl))
after_finish w t a s FinishedMarks h = absurd (true≢false h)
after_finish w t a s ActResults h = changed_act_kept (λ x. x.result) t (book.marked a book.has_left) s.book.acts (λ x. refl)
after_finish w t a s Statuses h = changed_act_kept (λ x. x.status) t (book.marked a book.has_left) s.book.acts (λ x. refl)
after_finish w t a s States h = absurd (true≢false h)
after_finish w t a s Images h = absurd (true≢false h)
after_finish w t a s CellEpochs h = cells_kept (λ c. c.epoch) s a _ refl
after_finish w t a s LastPlaced h = cells_kept (λ c. c.last) s a _ refl
after_finish w t a s LastTrimmed h = cells_kept (λ c. c.last_trimmed) s a _ refl
after_finish w t a s Tails h = cells_kept (λ c. c.tail) s a _ refl
after_finish w t a s Floors h = absurd (true≢false h)
after_finish w t a s EntryOwners h = absurd (true≢false h)
after_finish w t a s EntryTids h = absurd (true≢false h)
after_finish w t a s EntryReaders h = absurd (true≢false h)
after_finish w t a s DoneMarks h = absurd (true≢false h)
after_finish w t a s CompleteMarks h = absurd (true≢false h)
after_finish w t a s Inboxes h = absurd (true≢false h)
after_finish w t a s Outboxes h = absurd (true≢false h)
after_finish w t a s _ h = refl

pub after_reply : {C : Type 0} (w : Fixed C) (n : ℕ) (s : Machine C) (q : Content) → is_changed q (Reply n) ≡ false → IsSame q s (after w (Reply n) s)
unfolding after
after_reply w n s Replied h = absurd (true≢false h)
after_reply w n s _ h = refl

pub after_trim : {C : Type 0} (w : Fixed C) (k a : ℕ) (s : Machine C) (q : Content) → is_changed q (Trim k a) ≡ false → IsSame q s (after w (Trim k a) s)
unfolding after
after_trim w k a s Bids h = changed_batch_kept (λ b. b.bid) k (desk.marked a desk.is_trimmed) s.desk.batches (λ b. refl)
after_trim w k a s BatchActors h = changed_batch_kept (λ b. map (λ p. p.actor) b.places) k (desk.marked a desk.is_trimmed) s.desk.batches (λ b. batch_marked_kept (λ p. p.actor) a desk.is_trimmed b (λ p. refl))
after_trim w k a s BatchTids h = changed_batch_kept (λ b. map (λ p. p.tid) b.pacts) k (desk.marked a desk.is_trimmed) s.desk.batches (λ b. refl)
after_trim w k a s BatchTxs h = changed_batch_kept (λ b. map (λ p. p.tx) b.pacts) k (desk.marked a desk.is_trimmed) s.desk.batches (λ b. refl)
after_trim w k a s NotedMarks h = changed_batch_kept (λ b. map (λ p. p.noted) b.places) k (desk.marked a desk.is_trimmed) s.desk.batches (λ b. batch_marked_kept (λ p. p.noted) a desk.is_trimmed b (λ p. refl))
after_trim w k a s TrimmedMarks h = absurd (true≢false h)
after_trim w k a s PactResults h = changed_batch_kept (λ b. map (λ p. p.result) b.pacts) k (desk.marked a desk.is_trimmed) s.desk.batches (λ b. refl)
after_trim w k a s Stages h = changed_batch_kept (λ b. b.stage) k (desk.marked a desk.is_trimmed) s.desk.batches (λ b. refl)
after_trim w k a s AbortedMarks h = changed_batch_kept (λ b. b.aborted) k (desk.marked a desk.is_trimmed) s.desk.batches (λ b. refl)
after_trim w k a s States h = cells_kept (λ c. c.state) s a _ refl
after_trim w k a s Images h = absurd (true≢false h)
after_trim w k a s CellEpochs h = cells_kept (λ c. c.epoch) s a _ refl
after_trim w k a s LastPlaced h = cells_kept (λ c. c.last) s a _ refl
after_trim w k a s LastTrimmed h = absurd (true≢false h)
after_trim w k a s Tails h = cells_kept (λ c. c.tail) s a _ refl
after_trim w k a s Floors h = cells_kept (λ c. c.floors) s a _ refl
after_trim w k a s EntryOwners h = absurd (true≢false h)
after_trim w k a s EntryTids h = absurd (true≢false h)
after_trim w k a s EntryReaders h = absurd (true≢false h)
after_trim w k a s DoneMarks h = absurd (true≢false h)
after_trim w k a s CompleteMarks h = absurd (true≢false h)
after_trim w k a s Inboxes h = cells_kept (λ c. c.inbox) s a _ refl
after_trim w k a s Outboxes h = cells_kept (λ c. c.outbox) s a _ refl
after_trim w k a s _ h = refl
