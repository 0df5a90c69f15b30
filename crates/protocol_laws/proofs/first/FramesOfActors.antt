-- What an event at an actor leaves.
use Rattle.std.specs.Prelude.{◌≡◌, refl, ℕ, ◌%◌, false, map}
use Rattle.std.proofs.lemmas.Bool.{true≢false}
use Rattle.protocol.specs.Fixed.{Fixed}
use Rattle.protocol.specs.Parts.{Machine}
use Rattle.protocol.specs.Events.{Arrive, Ask, Take, Run, Send, End, Close, Complete}
use Rattle.protocol.specs.Words.{who_of, is_reader_entry}
use Rattle.protocol.specs.Spread.{crossed_out}
use Rattle.protocol.specs.Effects.{after, cell_at}
use Rattle.protocol.specs.Contents.{Content, Pairs, ActTids, ActTxs, ActReaders, Befores, Afters, ActActors, PreparedMarks, VouchedMarks, FinishedMarks, ActResults, Statuses, Subs, Controls, Bids, BatchActors, BatchTids, BatchTxs, NotedMarks, TrimmedMarks, PactResults, Stages, AbortedMarks, Records, SyncedCounts, States, Images, CellEpochs, LastPlaced, LastTrimmed, Tails, Floors, EntryOwners, EntryTids, EntryReaders, DoneMarks, CompleteMarks, Inboxes, Outboxes, slot_tids, slot_marks, complete_mark, IsSame, is_changed}
use Rattle.protocol.specs.OnBook as book
use Rattle.protocol.specs.OnCell as cell
use Rattle.protocol_laws.proofs.first.Kept.{map_kept, cells_kept, logs_kept}
use Rattle.std.proofs.Common.{◌∙◌}
use Rattle.protocol_laws.proofs.first.KeptByEvents.{owner_done, slot_tid_done, reader_done, reader_complete, complete_done, owner_complete, slot_tid_complete, mark_complete, asked_kept, with_results_kept, ended_act_kept, ended_batch_kept, run_entries_kept}

pub after_arrive : {C : Type 0} (w : Fixed C) (k a : ℕ) (s : Machine C) (q : Content) → is_changed q (Arrive k a) ≡ false → IsSame q s (after w (Arrive k a) s)
unfolding after
after_arrive w k a s ActTids h = map_kept (λ x. x.tid) (crossed_out a) _ (λ x. refl) ∙ map_kept (λ x. x.tid) (book.lowered k _) s.book.acts (λ x. refl)
after_arrive w k a s ActTxs h = map_kept (λ x. x.tx) (crossed_out a) _ (λ x. refl) ∙ map_kept (λ x. x.tx) (book.lowered k _) s.book.acts (λ x. refl)
after_arrive w k a s ActReaders h = map_kept (λ x. x.reader) (crossed_out a) _ (λ x. refl) ∙ map_kept (λ x. x.reader) (book.lowered k _) s.book.acts (λ x. refl)
after_arrive w k a s Befores h = map_kept (λ x. x.m) (crossed_out a) _ (λ x. refl) ∙ map_kept (λ x. x.m) (book.lowered k _) s.book.acts (λ x. refl)
after_arrive w k a s Afters h = absurd (true≢false h)
after_arrive w k a s ActActors h = map_kept (λ x. map (λ p. p.actor) x.places) (crossed_out a) _ (λ x. refl) ∙ map_kept (λ x. map (λ p. p.actor) x.places) (book.lowered k _) s.book.acts (λ x. refl)
after_arrive w k a s PreparedMarks h = map_kept (λ x. map (λ p. p.prepared) x.places) (crossed_out a) _ (λ x. refl) ∙ map_kept (λ x. map (λ p. p.prepared) x.places) (book.lowered k _) s.book.acts (λ x. refl)
after_arrive w k a s VouchedMarks h = map_kept (λ x. map (λ p. p.vouched) x.places) (crossed_out a) _ (λ x. refl) ∙ map_kept (λ x. map (λ p. p.vouched) x.places) (book.lowered k _) s.book.acts (λ x. refl)
after_arrive w k a s FinishedMarks h = map_kept (λ x. map (λ p. p.finished) x.places) (crossed_out a) _ (λ x. refl) ∙ map_kept (λ x. map (λ p. p.finished) x.places) (book.lowered k _) s.book.acts (λ x. refl)
after_arrive w k a s ActResults h = map_kept (λ x. x.result) (crossed_out a) _ (λ x. refl) ∙ map_kept (λ x. x.result) (book.lowered k _) s.book.acts (λ x. refl)
after_arrive w k a s Statuses h = absurd (true≢false h)
after_arrive w k a s Subs h = absurd (true≢false h)
after_arrive w k a s States h = cells_kept (λ c. c.state) s a _ refl
after_arrive w k a s Images h = cells_kept (λ c. c.images) s a _ refl
after_arrive w k a s CellEpochs h = cells_kept (λ c. c.epoch) s a _ refl
after_arrive w k a s LastPlaced h = absurd (true≢false h)
after_arrive w k a s LastTrimmed h = cells_kept (λ c. c.last_trimmed) s a _ refl
after_arrive w k a s Tails h = absurd (true≢false h)
after_arrive w k a s Floors h = cells_kept (λ c. c.floors) s a _ refl
after_arrive w k a s EntryOwners h = absurd (true≢false h)
after_arrive w k a s EntryTids h = absurd (true≢false h)
after_arrive w k a s EntryReaders h = absurd (true≢false h)
after_arrive w k a s DoneMarks h = absurd (true≢false h)
after_arrive w k a s CompleteMarks h = absurd (true≢false h)
after_arrive w k a s Inboxes h = cells_kept (λ c. c.inbox) s a _ refl
after_arrive w k a s Outboxes h = cells_kept (λ c. c.outbox) s a _ refl
after_arrive w k a s _ h = refl

pub after_ask : {C : Type 0} (w : Fixed C) (t a : ℕ) (s : Machine C) (q : Content) → is_changed q (Ask t a) ≡ false → IsSame q s (after w (Ask t a) s)
unfolding after
after_ask w t a s Pairs h = absurd (true≢false h)
after_ask w t a s ActTids h = asked_kept (λ x. x.tid) _ _ t a _ s.book (λ x st. refl) (λ x m. refl) (λ x m ps. refl)
after_ask w t a s ActTxs h = asked_kept (λ x. x.tx) _ _ t a _ s.book (λ x st. refl) (λ x m. refl) (λ x m ps. refl)
after_ask w t a s ActReaders h = asked_kept (λ x. x.reader) _ _ t a _ s.book (λ x st. refl) (λ x m. refl) (λ x m ps. refl)
after_ask w t a s Befores h = absurd (true≢false h)
after_ask w t a s Afters h = asked_kept (λ x. x.n) _ _ t a _ s.book (λ x st. refl) (λ x m. refl) (λ x m ps. refl)
after_ask w t a s ActActors h = absurd (true≢false h)
after_ask w t a s PreparedMarks h = absurd (true≢false h)
after_ask w t a s VouchedMarks h = absurd (true≢false h)
after_ask w t a s FinishedMarks h = absurd (true≢false h)
after_ask w t a s ActResults h = asked_kept (λ x. x.result) _ _ t a _ s.book (λ x st. refl) (λ x m. refl) (λ x m ps. refl)
after_ask w t a s Statuses h = absurd (true≢false h)
after_ask w t a s Controls h = absurd (true≢false h)
after_ask w t a s States h = cells_kept (λ c. c.state) s a _ refl
after_ask w t a s Images h = cells_kept (λ c. c.images) s a _ refl
after_ask w t a s CellEpochs h = cells_kept (λ c. c.epoch) s a _ refl
after_ask w t a s LastPlaced h = cells_kept (λ c. c.last) s a _ refl
after_ask w t a s LastTrimmed h = cells_kept (λ c. c.last_trimmed) s a _ refl
after_ask w t a s Tails h = cells_kept (λ c. c.tail) s a _ refl
after_ask w t a s Floors h = cells_kept (λ c. c.floors) s a _ refl
after_ask w t a s EntryOwners h = absurd (true≢false h)
after_ask w t a s EntryTids h = absurd (true≢false h)
after_ask w t a s EntryReaders h = absurd (true≢false h)
after_ask w t a s DoneMarks h = absurd (true≢false h)
after_ask w t a s CompleteMarks h = absurd (true≢false h)
after_ask w t a s Inboxes h = absurd (true≢false h)
after_ask w t a s Outboxes h = cells_kept (λ c. c.outbox) s a _ refl
after_ask w t a s _ h = refl

pub after_take : {C : Type 0} (w : Fixed C) (t a : ℕ) (s : Machine C) (q : Content) → is_changed q (Take t a) ≡ false → IsSame q s (after w (Take t a) s)
unfolding after
after_take w t a s Controls h = absurd (true≢false h)
after_take w t a s States h = cells_kept (λ c. c.state) s a _ refl
after_take w t a s Images h = cells_kept (λ c. c.images) s a _ refl
after_take w t a s CellEpochs h = cells_kept (λ c. c.epoch) s a _ refl
after_take w t a s LastPlaced h = cells_kept (λ c. c.last) s a _ refl
after_take w t a s LastTrimmed h = cells_kept (λ c. c.last_trimmed) s a _ refl
after_take w t a s Tails h = cells_kept (λ c. c.tail) s a _ refl
after_take w t a s Floors h = cells_kept (λ c. c.floors) s a _ refl
after_take w t a s EntryOwners h = cells_kept (λ c. map who_of c.entries) s a _ refl
after_take w t a s EntryTids h = cells_kept (λ c. map slot_tids c.entries) s a _ refl
after_take w t a s EntryReaders h = cells_kept (λ c. map is_reader_entry c.entries) s a _ refl
after_take w t a s DoneMarks h = cells_kept (λ c. map slot_marks c.entries) s a _ refl
after_take w t a s CompleteMarks h = cells_kept (λ c. map complete_mark c.entries) s a _ refl
after_take w t a s Inboxes h = absurd (true≢false h)
after_take w t a s Outboxes h = cells_kept (λ c. c.outbox) s a _ refl
after_take w t a s _ h = refl

pub after_run : {C : Type 0} (w : Fixed C) (t a : ℕ) (s : Machine C) (q : Content) → is_changed q (Run t a) ≡ false → IsSame q s (after w (Run t a) s)
unfolding after
after_run w t a s States h = absurd (true≢false h)
after_run w t a s Images h = absurd (true≢false h)
after_run w t a s CellEpochs h = cells_kept (λ c. c.epoch) s a _ refl
after_run w t a s LastPlaced h = cells_kept (λ c. c.last) s a _ refl
after_run w t a s LastTrimmed h = cells_kept (λ c. c.last_trimmed) s a _ refl
after_run w t a s Tails h = cells_kept (λ c. c.tail) s a _ refl
after_run w t a s Floors h = cells_kept (λ c. c.floors) s a _ refl
after_run w t a s EntryOwners h = cells_kept (λ c. map who_of c.entries) s a _ (run_entries_kept who_of w.code t a (cell_at s a) (owner_done t))
after_run w t a s EntryTids h = cells_kept (λ c. map slot_tids c.entries) s a _ (run_entries_kept slot_tids w.code t a (cell_at s a) (slot_tid_done t))
after_run w t a s EntryReaders h = cells_kept (λ c. map is_reader_entry c.entries) s a _ (run_entries_kept is_reader_entry w.code t a (cell_at s a) (reader_done t))
after_run w t a s DoneMarks h = absurd (true≢false h)
after_run w t a s CompleteMarks h = cells_kept (λ c. map complete_mark c.entries) s a _ (run_entries_kept complete_mark w.code t a (cell_at s a) (complete_done t))
after_run w t a s Inboxes h = absurd (true≢false h)
after_run w t a s Outboxes h = absurd (true≢false h)
after_run w t a s _ h = refl

pub after_send : {C : Type 0} (w : Fixed C) (t a : ℕ) (s : Machine C) (q : Content) → is_changed q (Send t a) ≡ false → IsSame q s (after w (Send t a) s)
unfolding after
after_send w t a s Controls h = absurd (true≢false h)
after_send w t a s States h = cells_kept (λ c. c.state) s a _ refl
after_send w t a s Images h = cells_kept (λ c. c.images) s a _ refl
after_send w t a s CellEpochs h = cells_kept (λ c. c.epoch) s a _ refl
after_send w t a s LastPlaced h = cells_kept (λ c. c.last) s a _ refl
after_send w t a s LastTrimmed h = cells_kept (λ c. c.last_trimmed) s a _ refl
after_send w t a s Tails h = cells_kept (λ c. c.tail) s a _ refl
after_send w t a s Floors h = cells_kept (λ c. c.floors) s a _ refl
after_send w t a s EntryOwners h = cells_kept (λ c. map who_of c.entries) s a _ refl
after_send w t a s EntryTids h = cells_kept (λ c. map slot_tids c.entries) s a _ refl
after_send w t a s EntryReaders h = cells_kept (λ c. map is_reader_entry c.entries) s a _ refl
after_send w t a s DoneMarks h = cells_kept (λ c. map slot_marks c.entries) s a _ refl
after_send w t a s CompleteMarks h = cells_kept (λ c. map complete_mark c.entries) s a _ refl
after_send w t a s Inboxes h = cells_kept (λ c. c.inbox) s a _ refl
after_send w t a s Outboxes h = absurd (true≢false h)
after_send w t a s _ h = refl

pub after_end : {C : Type 0} (w : Fixed C) (t a : ℕ) (s : Machine C) (q : Content) → is_changed q (End t a) ≡ false → IsSame q s (after w (End t a) s)
unfolding after
after_end w t a s ActTids h = ended_act_kept (λ x. x.tid) t (cell_at s a) s.book (λ x r. refl)
after_end w t a s ActTxs h = ended_act_kept (λ x. x.tx) t (cell_at s a) s.book (λ x r. refl)
after_end w t a s ActReaders h = ended_act_kept (λ x. x.reader) t (cell_at s a) s.book (λ x r. refl)
after_end w t a s Befores h = ended_act_kept (λ x. x.m) t (cell_at s a) s.book (λ x r. refl)
after_end w t a s Afters h = ended_act_kept (λ x. x.n) t (cell_at s a) s.book (λ x r. refl)
after_end w t a s ActActors h = ended_act_kept (λ x. map (λ p. p.actor) x.places) t (cell_at s a) s.book (λ x r. refl)
after_end w t a s PreparedMarks h = ended_act_kept (λ x. map (λ p. p.prepared) x.places) t (cell_at s a) s.book (λ x r. refl)
after_end w t a s VouchedMarks h = ended_act_kept (λ x. map (λ p. p.vouched) x.places) t (cell_at s a) s.book (λ x r. refl)
after_end w t a s FinishedMarks h = ended_act_kept (λ x. map (λ p. p.finished) x.places) t (cell_at s a) s.book (λ x r. refl)
after_end w t a s ActResults h = absurd (true≢false h)
after_end w t a s Statuses h = ended_act_kept (λ x. x.status) t (cell_at s a) s.book (λ x r. refl)
after_end w t a s Bids h = ended_batch_kept (λ b. b.bid) t (cell_at s a) s.desk (λ b r. refl)
after_end w t a s BatchActors h = ended_batch_kept (λ b. map (λ p. p.actor) b.places) t (cell_at s a) s.desk (λ b r. refl)
after_end w t a s BatchTids h = ended_batch_kept (λ b. map (λ p. p.tid) b.pacts) t (cell_at s a) s.desk (λ b r. with_results_kept (λ p. p.tid) t r b (λ p. refl))
after_end w t a s BatchTxs h = ended_batch_kept (λ b. map (λ p. p.tx) b.pacts) t (cell_at s a) s.desk (λ b r. with_results_kept (λ p. p.tx) t r b (λ p. refl))
after_end w t a s NotedMarks h = ended_batch_kept (λ b. map (λ p. p.noted) b.places) t (cell_at s a) s.desk (λ b r. refl)
after_end w t a s TrimmedMarks h = ended_batch_kept (λ b. map (λ p. p.trimmed) b.places) t (cell_at s a) s.desk (λ b r. refl)
after_end w t a s PactResults h = absurd (true≢false h)
after_end w t a s Stages h = ended_batch_kept (λ b. b.stage) t (cell_at s a) s.desk (λ b r. refl)
after_end w t a s AbortedMarks h = ended_batch_kept (λ b. b.aborted) t (cell_at s a) s.desk (λ b r. refl)
after_end w t a s States h = cells_kept (λ c. c.state) s a _ refl
after_end w t a s Images h = cells_kept (λ c. c.images) s a _ refl
after_end w t a s CellEpochs h = cells_kept (λ c. c.epoch) s a _ refl
after_end w t a s LastPlaced h = cells_kept (λ c. c.last) s a _ refl
after_end w t a s LastTrimmed h = cells_kept (λ c. c.last_trimmed) s a _ refl
after_end w t a s Tails h = cells_kept (λ c. c.tail) s a _ refl
after_end w t a s Floors h = cells_kept (λ c. c.floors) s a _ refl
after_end w t a s EntryOwners h = cells_kept (λ c. map who_of c.entries) s a _ refl
after_end w t a s EntryTids h = cells_kept (λ c. map slot_tids c.entries) s a _ refl
after_end w t a s EntryReaders h = cells_kept (λ c. map is_reader_entry c.entries) s a _ refl
after_end w t a s DoneMarks h = cells_kept (λ c. map slot_marks c.entries) s a _ refl
after_end w t a s CompleteMarks h = cells_kept (λ c. map complete_mark c.entries) s a _ refl
after_end w t a s Inboxes h = cells_kept (λ c. c.inbox) s a _ refl
after_end w t a s Outboxes h = absurd (true≢false h)
after_end w t a s _ h = refl

pub after_close : {C : Type 0} (w : Fixed C) (t a : ℕ) (s : Machine C) (q : Content) → is_changed q (Close t a) ≡ false → IsSame q s (after w (Close t a) s)
unfolding after
after_close w t a s States h = cells_kept (λ c. c.state) s a _ refl
after_close w t a s Images h = cells_kept (λ c. c.images) s a _ refl
after_close w t a s CellEpochs h = cells_kept (λ c. c.epoch) s a _ refl
after_close w t a s LastPlaced h = cells_kept (λ c. c.last) s a _ refl
after_close w t a s LastTrimmed h = cells_kept (λ c. c.last_trimmed) s a _ refl
after_close w t a s Tails h = cells_kept (λ c. c.tail) s a _ refl
after_close w t a s Floors h = cells_kept (λ c. c.floors) s a _ refl
after_close w t a s EntryOwners h = cells_kept (λ c. map who_of c.entries) s a _ (map_kept who_of (cell.done_in t) (cell_at s a).entries (owner_done t))
after_close w t a s EntryTids h = cells_kept (λ c. map slot_tids c.entries) s a _ (map_kept slot_tids (cell.done_in t) (cell_at s a).entries (slot_tid_done t))
after_close w t a s EntryReaders h = cells_kept (λ c. map is_reader_entry c.entries) s a _ (map_kept is_reader_entry (cell.done_in t) (cell_at s a).entries (reader_done t))
after_close w t a s DoneMarks h = absurd (true≢false h)
after_close w t a s CompleteMarks h = cells_kept (λ c. map complete_mark c.entries) s a _ (map_kept complete_mark (cell.done_in t) (cell_at s a).entries (complete_done t))
after_close w t a s Inboxes h = cells_kept (λ c. c.inbox) s a _ refl
after_close w t a s Outboxes h = cells_kept (λ c. c.outbox) s a _ refl
after_close w t a s _ h = refl

pub after_complete : {C : Type 0} (w : Fixed C) (k a : ℕ) (s : Machine C) (q : Content) → is_changed q (Complete k a) ≡ false → IsSame q s (after w (Complete k a) s)
unfolding after
after_complete w k a s Records h = absurd (true≢false h)
after_complete w k a s SyncedCounts h = logs_kept (λ x. x.synced) s (a % w.text.logs) _ refl
after_complete w k a s States h = cells_kept (λ c. c.state) s a _ refl
after_complete w k a s Images h = cells_kept (λ c. c.images) s a _ refl
after_complete w k a s CellEpochs h = cells_kept (λ c. c.epoch) s a _ refl
after_complete w k a s LastPlaced h = cells_kept (λ c. c.last) s a _ refl
after_complete w k a s LastTrimmed h = cells_kept (λ c. c.last_trimmed) s a _ refl
after_complete w k a s Tails h = cells_kept (λ c. c.tail) s a _ refl
after_complete w k a s Floors h = cells_kept (λ c. c.floors) s a _ refl
after_complete w k a s EntryOwners h = cells_kept (λ c. map who_of c.entries) s a _ (map_kept who_of (cell.complete_in k) (cell_at s a).entries (owner_complete k))
after_complete w k a s EntryTids h = cells_kept (λ c. map slot_tids c.entries) s a _ (map_kept slot_tids (cell.complete_in k) (cell_at s a).entries (slot_tid_complete k))
after_complete w k a s EntryReaders h = cells_kept (λ c. map is_reader_entry c.entries) s a _ (map_kept is_reader_entry (cell.complete_in k) (cell_at s a).entries (reader_complete k))
after_complete w k a s DoneMarks h = cells_kept (λ c. map slot_marks c.entries) s a _ (map_kept slot_marks (cell.complete_in k) (cell_at s a).entries (mark_complete k))
after_complete w k a s CompleteMarks h = absurd (true≢false h)
after_complete w k a s Inboxes h = cells_kept (λ c. c.inbox) s a _ refl
after_complete w k a s Outboxes h = cells_kept (λ c. c.outbox) s a _ refl
after_complete w k a s _ h = refl
