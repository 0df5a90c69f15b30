-- When each event is allowed: its conditions, in the order of their numbers, from 1 on. A condition on
-- something that does not exist is false.
use Rattle.std.specs.Prelude.{◌≡◌, ℕ, ◌+◌, ◌%◌, ◌==◌, nat_lt, nat_le, max, Bool, true, not, ◌&&◌, ◌||◌, if◌then◌else◌, is_some, List, [], ◌∷◌, length, find, slice_get, slice_index_or, ⊤}
use Rattle.std.specs.List.{list_all}
use Rattle.protocol.specs.Fixed.{Text, Fixed, base}
use Rattle.protocol.specs.Records.{LogRecord, is_info, is_complete, is_commit, is_prepare, is_act_commit}
use Rattle.protocol.specs.Parts.{Ring, Post, Desk, Batch, Book, Act, Who, OfBatch, OfAct, Cell, Log, Machine}
use Rattle.protocol.specs.Events.{Event, Submit, Pass, Form, Admit, Arrive, Ask, Take, Run, Send, End, Close, Complete, Sync, Note, Commit, Settle, Abort, Rollback, DropSub, DropControl, Prepare, Vouch, Decide, Seal, Finish, Reply, Trim}
use Rattle.protocol.specs.Words.{is_empty, holds, count, is_value, is_failure, is_aborted, is_live_status, is_doomed, is_decided, is_sealed, act_of, joined_of, is_live_act, is_vouched_everywhere, sub_of, control_of, has_control_to, is_committing, is_settled, batch_of, declared_of, pact_result, is_open, is_live_batch, is_next_to_commit, first_failed, is_durable, has_act, has_entry, is_clear, is_entry_of, is_turn_of, has_undone, is_batch_entry, is_all_done, is_complete_batch, ahead, waiting_of, outcome_of, is_going, is_ended}
use Rattle.protocol.specs.Verdicts.{verdict}

-- ---- the queues

-- what waits at a coordinator
abbrev pub queue : List (List ℕ) → ℕ → List ℕ
queue queues c = slice_index_or queues c []

abbrev pub is_idle_at : ℕ → Ring → Bool
is_idle_at c r = is_empty (queue r.pacts c) && is_empty (queue r.acts c)

abbrev pub is_idle : Ring → Bool
is_idle r = list_all is_empty r.pacts && list_all is_empty r.acts

-- ---- the present epoch

abbrev pub epoch : Book → ℕ
epoch b = length b.cascades

-- whose control it is, is given up: its batch is aborted, or it is a doomed ACT
abbrev pub is_given_up : Who → Book → Bool
is_given_up (OfBatch k) b = is_aborted k b.cascades
is_given_up (OfAct t) b = holds (λ x. is_doomed x.status) (act_of t b.acts)

-- ---- the words of the table: what is asked of each part

-- of the ring: the text has the transaction, and it is the next one to submit
abbrev pub is_in_text : ℕ → Text → Bool
is_in_text n w = nat_lt n (length w.txs)

abbrev pub is_next_to_submit : ℕ → Text → Ring → Bool
is_next_to_submit n w r = (n == r.next_tx) && is_in_text n w

-- the coordinator to which the token goes next
abbrev pub next_holder : Text → Ring → ℕ
next_holder w r = (r.holder + 1) % w.coordinators

-- no PACT, or no ACT, waits at the coordinator that has the token
abbrev pub lacks_pacts : Ring → Bool
lacks_pacts r = is_empty (queue r.pacts r.holder)

abbrev pub lacks_acts : Ring → Bool
lacks_acts r = is_empty (queue r.acts r.holder)

-- fewer batches, or ACTs, are live than the text allows
abbrev pub has_room_for_batch : Text → Desk → Bool
has_room_for_batch w d = nat_lt (count is_live_batch d.batches) w.batches

abbrev pub has_room_for_act : Text → Book → Bool
has_room_for_act w b = nat_lt (count is_live_act b.acts) w.acts

-- of the post: a sub-batch of batch k is on its way to actor a, and the control of transaction t is on its way somewhere
abbrev pub is_under_way : {C : Type 0} → ℕ → ℕ → Post C → Bool
is_under_way k a p = is_some (sub_of k a p.subs)

abbrev pub has_control : {C : Type 0} → ℕ → Post C → Bool
has_control t p = is_some (control_of t p.controls)

-- whose control it is, is given up
abbrev pub is_of_given_up : {C : Type 0} → ℕ → Machine C → Bool
is_of_given_up t s = holds (λ m. is_given_up m.who s.book) (control_of t s.post.controls)

-- of an actor: its cell is there, and passes the test
abbrev pub cell_is : {C : Type 0} → (Cell C → Bool) → ℕ → Machine C → Bool
cell_is test a s = holds test (slice_get s.cells a)

-- it has seen all cascades
abbrev pub is_present : {C : Type 0} → ℕ → Machine C → Bool
is_present a s = cell_is (λ c. c.epoch == epoch s.book) a s

-- the sub-batch is of the present epoch, and the actor has seen all cascades
abbrev pub is_of_epoch : {C : Type 0} → ℕ → ℕ → Machine C → Bool
is_of_epoch k a s = holds (λ m. (m.epoch == epoch s.book) && is_present a s) (sub_of k a s.post.subs)

-- the batch before it, in its epoch and on its actor, is the last one that came to the actor
abbrev pub follows_the_last : {C : Type 0} → ℕ → ℕ → Machine C → Bool
follows_the_last k a s = holds (λ m. cell_is (λ c. m.prev == c.tail) a s) (sub_of k a s.post.subs)

-- of a cell: fewer cascades than these have reached it
abbrev pub is_of_earlier_epoch : {C : Type 0} → ℕ → Cell C → Bool
is_of_earlier_epoch cascades c = nat_lt c.epoch cascades

-- the control of transaction t waits there, went on from there, or ended there
abbrev pub waits_in : {C : Type 0} → ℕ → Cell C → Bool
waits_in t c = is_some (waiting_of t c.inbox)

abbrev pub has_gone_on : {C : Type 0} → ℕ → Cell C → Bool
has_gone_on t c = holds (λ x. is_going x.next) (outcome_of t c.outbox)

abbrev pub has_ended_on : {C : Type 0} → ℕ → Cell C → Bool
has_ended_on t c = holds (λ x. is_ended x.next) (outcome_of t c.outbox)

-- ACT t does not stand there
abbrev pub is_new_to : {C : Type 0} → ℕ → Cell C → Bool
is_new_to t c = not (has_act t c.entries)

-- it is the turn of transaction t in its entry
abbrev pub has_its_turn : {C : Type 0} → ℕ → Cell C → Bool
has_its_turn t c = holds (is_turn_of t) (find (is_entry_of t) c.entries)

-- batch k stands there and is not complete; all that stands ahead of it is complete; and its PACTs are done there
abbrev pub lacks_completion : {C : Type 0} → ℕ → Cell C → Bool
lacks_completion k c = holds (λ e. not (is_complete_batch e)) (find (is_batch_entry k) c.entries)

abbrev pub is_complete_ahead : {C : Type 0} → ℕ → Cell C → Bool
is_complete_ahead k c = list_all is_complete_batch (ahead (is_batch_entry k) c.entries)

abbrev pub has_done_all : {C : Type 0} → ℕ → Cell C → Bool
has_done_all k c = holds is_all_done (find (is_batch_entry k) c.entries)

-- of a log: a record waits to be durable
abbrev pub has_unsynced : Log → Bool
has_unsynced g = nat_lt g.synced (length g.records)

-- the log in which records about number n lie has a durable one that passes the test
abbrev pub has_durable : {C : Type 0} → Fixed C → (LogRecord → Bool) → ℕ → Machine C → Bool
has_durable w test n s = holds (is_durable test) (slice_get s.logs (n % w.text.logs))

-- of a batch at the desk: it is open, and each smaller one is settled or aborted
abbrev pub is_next_open : ℕ → List Batch → Bool
is_next_open k batches = holds (λ b. is_open b && is_next_to_commit k batches) (batch_of k batches)

-- all its PACTs ended with a value
abbrev pub has_ended_well : ℕ → List Batch → Bool
has_ended_well k batches = holds (λ b. list_all (λ p. is_value p.result) b.pacts) (batch_of k batches)

-- some PACT of it failed, and all before that one ended with a value
abbrev pub has_failed_pact : ℕ → List Batch → Bool
has_failed_pact k batches = holds (λ b. is_some (first_failed b.pacts)) (batch_of k batches)

-- it is noted on all its actors
abbrev pub is_noted_everywhere : ℕ → List Batch → Bool
is_noted_everywhere k batches = holds (λ b. list_all (λ p. p.noted) b.places) (batch_of k batches)

-- it is open, and the actor is one of its own, not noted
abbrev pub awaits_note : ℕ → ℕ → List Batch → Bool
awaits_note k a batches = holds (λ b. is_open b && holds (λ p. not p.noted) (declared_of a b)) (batch_of k batches)

-- it commits, and is not aborted
abbrev pub awaits_settling : ℕ → List Batch → Bool
awaits_settling k batches = holds (λ b. is_committing b.stage && not b.aborted) (batch_of k batches)

-- it is settled, and the actor is one of its own, not trimmed
abbrev pub awaits_trim : ℕ → ℕ → List Batch → Bool
awaits_trim k a batches = holds (λ b. is_settled b.stage && (not b.aborted && holds (λ p. not p.trimmed) (declared_of a b))) (batch_of k batches)

-- the transaction is one of the text, and was not replied to
abbrev pub awaits_reply : ℕ → Desk → Bool
awaits_reply n d = holds not (slice_get d.replied n)

-- of an ACT in the book: it is not doomed
abbrev pub is_not_doomed : ℕ → List Act → Bool
is_not_doomed t acts = holds (λ x. not (is_doomed x.status)) (act_of t acts)

-- it ended with a value and is not doomed
abbrev pub gives_value : ℕ → List Act → Bool
gives_value t acts = holds (λ x. is_value x.result && not (is_doomed x.status)) (act_of t acts)

-- the actor is one of its own, not prepared
abbrev pub is_not_prepared : ℕ → ℕ → List Act → Bool
is_not_prepared t a acts = holds (λ x. holds (λ p. not p.prepared) (joined_of a x)) (act_of t acts)

-- it is live and not doomed, and the actor is one of its own, prepared and not vouched for
abbrev pub awaits_vouch : ℕ → ℕ → List Act → Bool
awaits_vouch t a acts = holds (λ x. is_live_act x && (not (is_doomed x.status) && holds (λ p. p.prepared && not p.vouched) (joined_of a x))) (act_of t acts)

-- it ended, and is neither doomed, decided nor sealed
abbrev pub awaits_decision : ℕ → List Act → Bool
awaits_decision t acts = holds (λ x. is_some x.result && is_live_status x.status) (act_of t acts)

-- it failed, or is vouched for on all its actors
abbrev pub failed_or_vouched : ℕ → List Act → Bool
failed_or_vouched t acts = holds (λ x. is_failure x.result || is_vouched_everywhere x) (act_of t acts)

-- the batches up to its before number are settled
abbrev pub is_behind_settled : {C : Type 0} → Fixed C → ℕ → Machine C → Bool
is_behind_settled w t s = holds (λ x. nat_le x.m (max s.desk.settled (base w.text))) (act_of t s.book.acts)

-- it is decided, and not sealed
abbrev pub awaits_seal : ℕ → List Act → Bool
awaits_seal t acts = holds (λ x. is_decided x.status) (act_of t acts)

-- it is doomed or sealed
abbrev pub may_leave : ℕ → List Act → Bool
may_leave t acts = holds (λ x. is_doomed x.status || is_sealed x.status) (act_of t acts)

-- the actor is one of its own, and it has not left it
abbrev pub has_not_left : ℕ → ℕ → List Act → Bool
has_not_left t a acts = holds (λ x. holds (λ p. not p.finished) (joined_of a x)) (act_of t acts)

-- ---- the table

unfoldable pub conditions : {C : Type 0} → Fixed C → Event → Machine C → List Bool
conditions w (Submit n) s =
    is_next_to_submit n w.text s.ring ∷ []
conditions w (Pass c) s =
    (c == next_holder w.text s.ring)
    ∷ is_idle_at s.ring.holder s.ring
    ∷ not (is_idle s.ring) ∷ []
conditions w (Form k) s =
    (k == s.ring.next_bid)
    ∷ not (lacks_pacts s.ring)
    ∷ has_room_for_batch w.text s.desk ∷ []
conditions w (Admit t) s =
    (t == s.ring.next_tid)
    ∷ not (lacks_acts s.ring)
    ∷ has_room_for_act w.text s.book ∷ []
conditions w (Arrive k a) s =
    is_under_way k a s.post
    ∷ not (is_aborted k s.book.cascades)
    ∷ is_of_epoch k a s
    ∷ follows_the_last k a s ∷ []
conditions w (Ask t a) s =
    has_control_to t a s.post.controls
    ∷ is_not_doomed t s.book.acts
    ∷ cell_is (is_new_to t) a s
    ∷ is_present a s ∷ []
conditions w (Take t a) s =
    has_control_to t a s.post.controls
    ∷ cell_is (λ c. has_entry t c.entries) a s ∷ []
conditions w (Run t a) s =
    cell_is (waits_in t) a s
    ∷ cell_is (λ c. is_clear t c.entries) a s
    ∷ cell_is (has_its_turn t) a s ∷ []
conditions w (Send t a) s =
    cell_is (has_gone_on t) a s ∷ []
conditions w (End t a) s =
    cell_is (has_ended_on t) a s ∷ []
conditions w (Close t a) s =
    is_some (pact_result t s.desk.batches)
    ∷ cell_is (λ c. has_undone t c.entries) a s ∷ []
conditions w (Complete k a) s =
    cell_is (lacks_completion k) a s
    ∷ cell_is (is_complete_ahead k) a s
    ∷ cell_is (has_done_all k) a s ∷ []
conditions w (Sync l) s =
    holds has_unsynced (slice_get s.logs l) ∷ []
conditions w (Note k a) s =
    awaits_note k a s.desk.batches
    ∷ has_durable w (is_complete k a) a s ∷ []
conditions w (Commit k) s =
    is_next_open k s.desk.batches
    ∷ has_ended_well k s.desk.batches
    ∷ is_noted_everywhere k s.desk.batches
    ∷ has_durable w (is_info k) k s ∷ []
conditions w (Settle k) s =
    awaits_settling k s.desk.batches
    ∷ has_durable w (is_commit k) k s ∷ []
conditions w (Abort k) s =
    is_next_open k s.desk.batches
    ∷ has_failed_pact k s.desk.batches ∷ []
conditions w (Rollback a) s =
    cell_is (is_of_earlier_epoch (epoch s.book)) a s ∷ []
conditions w (DropSub k a) s =
    is_under_way k a s.post
    ∷ is_aborted k s.book.cascades ∷ []
conditions w (DropControl t) s =
    has_control t s.post
    ∷ is_of_given_up t s ∷ []
conditions w (Prepare t a) s =
    gives_value t s.book.acts
    ∷ is_not_prepared t a s.book.acts ∷ []
conditions w (Vouch t a) s =
    awaits_vouch t a s.book.acts
    ∷ has_durable w (is_prepare t a) a s ∷ []
conditions w (Decide t) s =
    awaits_decision t s.book.acts
    ∷ failed_or_vouched t s.book.acts
    ∷ is_behind_settled w t s ∷ []
conditions w (Seal t) s =
    awaits_seal t s.book.acts
    ∷ has_durable w (is_act_commit t) t s ∷ []
conditions w (Finish t a) s =
    may_leave t s.book.acts
    ∷ has_not_left t a s.book.acts ∷ []
conditions w (Reply n) s =
    awaits_reply n s.desk
    ∷ is_some (verdict n s.book s.desk) ∷ []
conditions w (Trim k a) s =
    awaits_trim k a s.desk.batches ∷ []

-- ---- allowed, or the rule that refuses

abbrev pub AllTrue : List Bool → Type 0
AllTrue [] = ⊤
AllTrue (b ∷ bs) = (b ≡ true) × AllTrue bs

abbrev pub IsAllowed : {C : Type 0} → Fixed C → Event → Machine C → Type 0
IsAllowed w e s = AllTrue (conditions w e s)

-- the number of the first that is false, counted from this one on, or 0
abbrev pub first_false : ℕ → List Bool → ℕ
first_false rule [] = 0
first_false rule (b ∷ bs) = if b then first_false (rule + 1) bs else rule

-- the number of the first condition that is false, or 0 where the event is allowed
unfoldable pub refusal : {C : Type 0} → Fixed C → Event → Machine C → ℕ
refusal w e s = first_false 1 (conditions w e s)
