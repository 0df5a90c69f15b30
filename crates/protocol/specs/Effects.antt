-- What each event makes of a state: each part that it names becomes what the event makes of it, from the
-- parts of the event's footprint, and nothing else changes.
use Rattle.std.specs.Prelude.{ℕ, ◌-◌, ◌%◌, nat_le, max, if◌then◌else◌, Option, Some, None, List, [], ◌∷◌, ◌++◌, length, map, slice_set, slice_index_or}
use Rattle.protocol.specs.Fixed.{Fixed, base, no_state, is_reader}
use Rattle.protocol.specs.Records.{LogRecord, BatchInfo, BatchComplete, BatchDone, ActPrepare, ActDone}
use Rattle.protocol.specs.Parts.{Act, Log, Cell, Machine}
use Rattle.protocol.specs.Words.{is_value, value_of, values_of, act_of, batch_of, sub_of, control_of, who_on, outcome_of, has_act, lock_of, floor_at}
use Rattle.protocol.specs.Events.{Event, Submit, Pass, Form, Admit, Arrive, Ask, Take, Run, Send, End, Close, Complete, Sync, Note, Commit, Settle, Abort, Rollback, DropSub, DropControl, Prepare, Vouch, Decide, Seal, Finish, Reply, Trim}
use Rattle.protocol.specs.OnRing as ring
use Rattle.protocol.specs.OnPost as post
use Rattle.protocol.specs.OnBook as book
use Rattle.protocol.specs.OnDesk as desk
use Rattle.protocol.specs.OnCell as cell

-- ---- one cell, one log

abbrev pub no_cell : {C : Type 0} → Cell C
no_cell = record { state = no_state; images = []; epoch = 0; last = 0; last_trimmed = 0; tail = 0; floors = record { write = 0; read = 0 }; entries = []; inbox = []; outbox = [] }

abbrev pub cell_at : {C : Type 0} → Machine C → ℕ → Cell C
cell_at s a = slice_index_or s.cells a no_cell

abbrev pub no_log : Log
no_log = record { records = []; synced = 0 }

abbrev pub log_at : {C : Type 0} → Machine C → ℕ → Log
log_at s l = slice_index_or s.logs l no_log

-- records are added to a log
abbrev pub added : List LogRecord → Log → Log
added rs l = record l { records = l.records ++ rs }

abbrev pub synced : Log → Log
synced l = record l { synced = length l.records }

abbrev pub adds : {C : Type 0} → Machine C → ℕ → List LogRecord → List Log
adds s l rs = slice_set s.logs l (added rs (log_at s l))

-- the cell of an actor becomes another one
abbrev pub puts : {C : Type 0} → Machine C → ℕ → Cell C → List (Cell C)
puts s a c = slice_set s.cells a c

-- ---- the commit record of an ACT, which has its value

-- a number among ascending ones
abbrev pub put_in : ℕ → List ℕ → List ℕ
put_in n [] = n ∷ []
put_in n (x ∷ xs) = if nat_le n x then n ∷ x ∷ xs else x ∷ put_in n xs

abbrev pub ascending : List ℕ → List ℕ
ascending [] = []
ascending (n ∷ ns) = put_in n (ascending ns)

abbrev pub act_commit : ℕ → Option Act → List LogRecord
act_commit c None = []
act_commit c (Some x) = if is_value x.result then ActDone x.tid x.m c (value_of x.result) (ascending (map (λ p. p.actor) x.places)) ∷ [] else []

-- ---- the table

unfoldable pub after : {C : Type 0} → Fixed C → Event → Machine C → Machine C
after w (Submit n) s = record s { ring = ring.submitted w.text n s.ring }
after w (Pass c) s = record s { ring = ring.passed c s.ring }
after w (Form k) s = record s {
  ring = ring.formed (ring.planned w.text k s.ring) w.text.batch s.ring;
  post = post.posted_batch w (ring.planned w.text k s.ring) s.post;
  desk = desk.batch_formed (ring.planned w.text k s.ring) s.desk;
  logs = adds s (k % w.text.logs) (BatchInfo k (ring.next_actors w.text s.ring) (map (λ p. p.tid) (ring.next_pacts w.text s.ring)) ∷ []);
}
after w (Admit t) s = record s {
  ring = ring.admitted s.ring;
  book = book.act_admitted t (post.next_act s.ring) (is_reader w (post.next_act s.ring)) (base w.text) s.book;
  post = post.posted_act w t (post.next_act s.ring) s.post;
}
after w (Arrive k a) s = record s {
  book = book.batch_arrived k a (book.tids_on (cell_at s a).entries) s.book;
  post = post.sub_taken k a s.post;
  cells = puts s a (cell.batch_placed k (sub_of k a s.post.subs) (cell_at s a));
}
after w (Ask t a) s = record s {
  book = book.act_asked (book.in_the_way (lock_of t s.book.acts) (cell_at s a).entries) (book.met (lock_of t s.book.acts) (cell_at s a).entries) t a (max (cell_at s a).last (floor_at t s.book.acts (cell_at s a))) s.book;
  post = post.control_taken t s.post;
  cells = puts s a (cell.act_placed (lock_of t s.book.acts) (book.in_the_way (lock_of t s.book.acts) (cell_at s a).entries) (control_of t s.post.controls) (cell_at s a));
}
after w (Take t a) s = record s {
  post = post.control_taken t s.post;
  cells = puts s a (cell.control_came (control_of t s.post.controls) (cell_at s a));
}
after w (Run t a) s = record s { cells = puts s a (cell.slice_run w.code t a (cell_at s a)) }
after w (Send t a) s = record s {
  post = post.sent (who_on t (cell_at s a).entries) (outcome_of t (cell_at s a).outbox) s.post;
  cells = puts s a (cell.outcome_taken t (cell_at s a));
}
after w (End t a) s = record s {
  book = book.act_ended t (has_act t (cell_at s a).entries) (outcome_of t (cell_at s a).outbox) s.book;
  desk = desk.pact_ended t (has_act t (cell_at s a).entries) (outcome_of t (cell_at s a).outbox) s.desk;
  cells = puts s a (cell.outcome_taken t (cell_at s a));
}
after w (Close t a) s = record s { cells = puts s a (cell.pact_closed t (cell_at s a)) }
after w (Complete k a) s = record s {
  logs = adds s (a % w.text.logs) (BatchComplete k a (cell_at s a).state ∷ []);
  cells = puts s a (cell.batch_completed k (cell_at s a));
}
after w (Sync l) s = record s { logs = slice_set s.logs l (synced (log_at s l)) }
after w (Note k a) s = record s { desk = desk.batch_noted k a s.desk }
after w (Commit k) s = record s {
  desk = desk.batch_committing k s.desk;
  logs = adds s (k % w.text.logs) (BatchDone k (values_of (batch_of k s.desk.batches)) ∷ []);
}
after w (Settle k) s = record s { desk = desk.batch_settled k s.desk }
after w (Abort k) s = record s {
  ring = ring.cut s.ring;
  book = book.batch_aborted k (s.ring.next_bid - 1) (book.why k s.desk) s.book;
  desk = desk.batches_aborted k s.desk;
}
after w (Rollback a) s = record s { cells = puts s a (cell.rolled_back s.book.cascades (cell_at s a)) }
after w (DropSub k a) s = record s { post = post.sub_taken k a s.post }
after w (DropControl t) s = record s { post = post.control_taken t s.post }
after w (Prepare t a) s = record s {
  book = book.act_prepared t a s.book;
  logs = adds s (a % w.text.logs) (ActPrepare t a (cell_at s a).state ∷ []);
}
after w (Vouch t a) s = record s { book = book.act_vouched t a s.book }
after w (Decide t) s = record s {
  book = book.act_decided t s.book;
  logs = adds s (t % w.text.logs) (act_commit s.book.next_c (act_of t s.book.acts));
}
after w (Seal t) s = record s { book = book.act_sealed t s.book }
after w (Finish t a) s = record s {
  book = book.act_finished t a s.book;
  cells = puts s a (cell.act_left t (act_of t s.book.acts) (cell_at s a));
}
after w (Reply n) s = record s { desk = desk.replied_to n s.desk }
after w (Trim k a) s = record s {
  desk = desk.batch_trimmed k a s.desk;
  cells = puts s a (cell.batch_left k (cell_at s a));
}
