-- What an event of a log or a batch leaves.
use Rattle.std.specs.Prelude.{◌≡◌, refl, ℕ, ◌%◌, false, map}
use Rattle.std.proofs.lemmas.Bool.{true≢false}
use Rattle.protocol.specs.Fixed.{Fixed}
use Rattle.protocol.specs.Parts.{Machine}
use Rattle.protocol.specs.Events.{Sync, Note, Commit, Settle, Abort, Rollback, DropSub, DropControl}
use Rattle.protocol.specs.Effects.{after}
use Rattle.protocol.specs.Contents.{Content, RingEpoch, Lasts, Cascades, ActTids, ActTxs, ActReaders, Befores, Afters, ActActors, PreparedMarks, VouchedMarks, FinishedMarks, ActResults, Statuses, Subs, Controls, Bids, BatchActors, BatchTids, BatchTxs, NotedMarks, TrimmedMarks, PactResults, Stages, AbortedMarks, SettledBatch, Records, SyncedCounts, States, Images, CellEpochs, LastPlaced, LastTrimmed, Tails, Floors, EntryOwners, EntryTids, EntryReaders, DoneMarks, CompleteMarks, Inboxes, Outboxes, IsSame, is_changed}
use Rattle.protocol.specs.OnDesk as desk
use Rattle.protocol_laws.proofs.first.Kept.{map_kept, cells_kept, logs_kept, changed_batch_kept, batch_marked_kept}

pub after_sync : {C : Type 0} (w : Fixed C) (l : ℕ) (s : Machine C) (q : Content) → is_changed q (Sync l) ≡ false → IsSame q s (after w (Sync l) s)
unfolding after
after_sync w l s Records h = logs_kept (λ x. x.records) s l _ refl
after_sync w l s SyncedCounts h = absurd (true≢false h)
after_sync w l s _ h = refl

pub after_note : {C : Type 0} (w : Fixed C) (k a : ℕ) (s : Machine C) (q : Content) → is_changed q (Note k a) ≡ false → IsSame q s (after w (Note k a) s)
unfolding after
after_note w k a s Bids h = changed_batch_kept (λ b. b.bid) k (desk.marked a desk.is_noted) s.desk.batches (λ b. refl)
after_note w k a s BatchActors h = changed_batch_kept (λ b. map (λ p. p.actor) b.places) k (desk.marked a desk.is_noted) s.desk.batches (λ b. batch_marked_kept (λ p. p.actor) a desk.is_noted b (λ p. refl))
after_note w k a s BatchTids h = changed_batch_kept (λ b. map (λ p. p.tid) b.pacts) k (desk.marked a desk.is_noted) s.desk.batches (λ b. refl)
after_note w k a s BatchTxs h = changed_batch_kept (λ b. map (λ p. p.tx) b.pacts) k (desk.marked a desk.is_noted) s.desk.batches (λ b. refl)
after_note w k a s NotedMarks h = absurd (true≢false h)
after_note w k a s TrimmedMarks h = changed_batch_kept (λ b. map (λ p. p.trimmed) b.places) k (desk.marked a desk.is_noted) s.desk.batches (λ b. batch_marked_kept (λ p. p.trimmed) a desk.is_noted b (λ p. refl))
after_note w k a s PactResults h = changed_batch_kept (λ b. map (λ p. p.result) b.pacts) k (desk.marked a desk.is_noted) s.desk.batches (λ b. refl)
after_note w k a s Stages h = changed_batch_kept (λ b. b.stage) k (desk.marked a desk.is_noted) s.desk.batches (λ b. refl)
after_note w k a s AbortedMarks h = changed_batch_kept (λ b. b.aborted) k (desk.marked a desk.is_noted) s.desk.batches (λ b. refl)
after_note w k a s _ h = refl

pub after_commit : {C : Type 0} (w : Fixed C) (k : ℕ) (s : Machine C) (q : Content) → is_changed q (Commit k) ≡ false → IsSame q s (after w (Commit k) s)
unfolding after
after_commit w k s Bids h = changed_batch_kept (λ b. b.bid) k _ s.desk.batches (λ b. refl)
after_commit w k s BatchActors h = changed_batch_kept (λ b. map (λ p. p.actor) b.places) k _ s.desk.batches (λ b. refl)
after_commit w k s BatchTids h = changed_batch_kept (λ b. map (λ p. p.tid) b.pacts) k _ s.desk.batches (λ b. refl)
after_commit w k s BatchTxs h = changed_batch_kept (λ b. map (λ p. p.tx) b.pacts) k _ s.desk.batches (λ b. refl)
after_commit w k s NotedMarks h = changed_batch_kept (λ b. map (λ p. p.noted) b.places) k _ s.desk.batches (λ b. refl)
after_commit w k s TrimmedMarks h = changed_batch_kept (λ b. map (λ p. p.trimmed) b.places) k _ s.desk.batches (λ b. refl)
after_commit w k s PactResults h = changed_batch_kept (λ b. map (λ p. p.result) b.pacts) k _ s.desk.batches (λ b. refl)
after_commit w k s Stages h = absurd (true≢false h)
after_commit w k s AbortedMarks h = changed_batch_kept (λ b. b.aborted) k _ s.desk.batches (λ b. refl)
after_commit w k s Records h = absurd (true≢false h)
after_commit w k s SyncedCounts h = logs_kept (λ x. x.synced) s (k % w.text.logs) _ refl
after_commit w k s _ h = refl

pub after_settle : {C : Type 0} (w : Fixed C) (k : ℕ) (s : Machine C) (q : Content) → is_changed q (Settle k) ≡ false → IsSame q s (after w (Settle k) s)
unfolding after
after_settle w k s Bids h = changed_batch_kept (λ b. b.bid) k _ s.desk.batches (λ b. refl)
after_settle w k s BatchActors h = changed_batch_kept (λ b. map (λ p. p.actor) b.places) k _ s.desk.batches (λ b. refl)
after_settle w k s BatchTids h = changed_batch_kept (λ b. map (λ p. p.tid) b.pacts) k _ s.desk.batches (λ b. refl)
after_settle w k s BatchTxs h = changed_batch_kept (λ b. map (λ p. p.tx) b.pacts) k _ s.desk.batches (λ b. refl)
after_settle w k s NotedMarks h = changed_batch_kept (λ b. map (λ p. p.noted) b.places) k _ s.desk.batches (λ b. refl)
after_settle w k s TrimmedMarks h = changed_batch_kept (λ b. map (λ p. p.trimmed) b.places) k _ s.desk.batches (λ b. refl)
after_settle w k s PactResults h = changed_batch_kept (λ b. map (λ p. p.result) b.pacts) k _ s.desk.batches (λ b. refl)
after_settle w k s Stages h = absurd (true≢false h)
after_settle w k s AbortedMarks h = changed_batch_kept (λ b. b.aborted) k _ s.desk.batches (λ b. refl)
after_settle w k s SettledBatch h = absurd (true≢false h)
after_settle w k s _ h = refl

pub after_abort : {C : Type 0} (w : Fixed C) (k : ℕ) (s : Machine C) (q : Content) → is_changed q (Abort k) ≡ false → IsSame q s (after w (Abort k) s)
unfolding after
after_abort w k s RingEpoch h = absurd (true≢false h)
after_abort w k s Lasts h = absurd (true≢false h)
after_abort w k s Cascades h = absurd (true≢false h)
after_abort w k s ActTids h = map_kept (λ x. x.tid) _ s.book.acts (λ x. refl)
after_abort w k s ActTxs h = map_kept (λ x. x.tx) _ s.book.acts (λ x. refl)
after_abort w k s ActReaders h = map_kept (λ x. x.reader) _ s.book.acts (λ x. refl)
after_abort w k s Befores h = map_kept (λ x. x.m) _ s.book.acts (λ x. refl)
after_abort w k s Afters h = absurd (true≢false h)
after_abort w k s ActActors h = map_kept (λ x. map (λ p. p.actor) x.places) _ s.book.acts (λ x. refl)
after_abort w k s PreparedMarks h = map_kept (λ x. map (λ p. p.prepared) x.places) _ s.book.acts (λ x. refl)
after_abort w k s VouchedMarks h = map_kept (λ x. map (λ p. p.vouched) x.places) _ s.book.acts (λ x. refl)
after_abort w k s FinishedMarks h = map_kept (λ x. map (λ p. p.finished) x.places) _ s.book.acts (λ x. refl)
after_abort w k s ActResults h = map_kept (λ x. x.result) _ s.book.acts (λ x. refl)
after_abort w k s Statuses h = absurd (true≢false h)
after_abort w k s Bids h = map_kept (λ b. b.bid) (desk.taken k) s.desk.batches (λ b. refl)
after_abort w k s BatchActors h = map_kept (λ b. map (λ p. p.actor) b.places) (desk.taken k) s.desk.batches (λ b. refl)
after_abort w k s BatchTids h = map_kept (λ b. map (λ p. p.tid) b.pacts) (desk.taken k) s.desk.batches (λ b. refl)
after_abort w k s BatchTxs h = map_kept (λ b. map (λ p. p.tx) b.pacts) (desk.taken k) s.desk.batches (λ b. refl)
after_abort w k s NotedMarks h = map_kept (λ b. map (λ p. p.noted) b.places) (desk.taken k) s.desk.batches (λ b. refl)
after_abort w k s TrimmedMarks h = map_kept (λ b. map (λ p. p.trimmed) b.places) (desk.taken k) s.desk.batches (λ b. refl)
after_abort w k s PactResults h = map_kept (λ b. map (λ p. p.result) b.pacts) (desk.taken k) s.desk.batches (λ b. refl)
after_abort w k s Stages h = map_kept (λ b. b.stage) (desk.taken k) s.desk.batches (λ b. refl)
after_abort w k s AbortedMarks h = absurd (true≢false h)
after_abort w k s _ h = refl

pub after_rollback : {C : Type 0} (w : Fixed C) (a : ℕ) (s : Machine C) (q : Content) → is_changed q (Rollback a) ≡ false → IsSame q s (after w (Rollback a) s)
unfolding after
after_rollback w a s States h = absurd (true≢false h)
after_rollback w a s Images h = absurd (true≢false h)
after_rollback w a s CellEpochs h = absurd (true≢false h)
after_rollback w a s LastPlaced h = absurd (true≢false h)
after_rollback w a s LastTrimmed h = cells_kept (λ c. c.last_trimmed) s a _ refl
after_rollback w a s Tails h = absurd (true≢false h)
after_rollback w a s Floors h = cells_kept (λ c. c.floors) s a _ refl
after_rollback w a s EntryOwners h = absurd (true≢false h)
after_rollback w a s EntryTids h = absurd (true≢false h)
after_rollback w a s EntryReaders h = absurd (true≢false h)
after_rollback w a s DoneMarks h = absurd (true≢false h)
after_rollback w a s CompleteMarks h = absurd (true≢false h)
after_rollback w a s Inboxes h = absurd (true≢false h)
after_rollback w a s Outboxes h = absurd (true≢false h)
after_rollback w a s _ h = refl

pub after_drop_sub : {C : Type 0} (w : Fixed C) (k a : ℕ) (s : Machine C) (q : Content) → is_changed q (DropSub k a) ≡ false → IsSame q s (after w (DropSub k a) s)
unfolding after
after_drop_sub w k a s Subs h = absurd (true≢false h)
after_drop_sub w k a s _ h = refl

pub after_drop_control : {C : Type 0} (w : Fixed C) (t : ℕ) (s : Machine C) (q : Content) → is_changed q (DropControl t) ≡ false → IsSame q s (after w (DropControl t) s)
unfolding after
after_drop_control w t s Controls h = absurd (true≢false h)
after_drop_control w t s _ h = refl
