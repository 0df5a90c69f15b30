-- Which events an event may have made allowed or not: those that read what it changed, by number.
use Rattle.std.specs.Prelude.{◌≡◌, ℕ, ◌≤◌, length, false, ◌%◌, ◌==◌, nat_lt, nat_le, Bool, true, ◌&&◌, ◌||◌, if◌then◌else◌, Option, Some, None, List, [], ◌∷◌, ◌++◌, map, filter, drop, max}
use Rattle.std.specs.List.{list_any, AllByRecursion}
use Rattle.protocol.specs.Fixed.{Fixed}
use Rattle.protocol.specs.Records.{LogRecord, is_info, is_complete, is_commit, is_prepare, is_act_commit}
use Rattle.protocol.specs.Rivals.{Lock}
use Rattle.protocol.specs.Parts.{Act, Pair, Book, Who, OfBatch, OfAct, Pact, Batch, Log, Machine}
use Rattle.protocol.specs.Events.{Event, Submit, Pass, Form, Admit, Arrive, Ask, Take, Run, Send, End, Close, Complete, Sync, Note, Commit, Settle, Abort, Rollback, DropSub, DropControl, Prepare, Vouch, Decide, Seal, Finish, Reply, Trim}
use Rattle.protocol.specs.Words.{is_among, holds, control_of, batch_of, names_pact, lock_of, floor_at}
use Rattle.protocol.specs.Spread.{raised, carried, is_crossed}
use Rattle.protocol.specs.OnRing.{next_pacts}
use Rattle.protocol.specs.OnPost.{next_act}
use Rattle.protocol.specs.OnBook.{changed_act, joins, lowered, tids_on, new_pairs, met, in_the_way}
use Rattle.protocol.specs.OnCell.{is_done_after, slice_of}
use Rattle.protocol.specs.Effects.{after, cell_at, log_at}
use Rattle.protocol.specs.Conditions.{IsAllowed, conditions}
use Rattle.protocol.specs.Numbers.{from}

-- ---- what an event changes, by number

-- what waits on actor a for t
abbrev pub changes_inbox : Event → ℕ → ℕ → Bool
changes_inbox (Ask u b) t a = (b == a) && (u == t)
changes_inbox (Take u b) t a = (b == a) && (u == t)
changes_inbox (Run u b) t a = (b == a) && (u == t)
changes_inbox _ t a = false

-- what t left on actor a
abbrev pub changes_outbox : Event → ℕ → ℕ → Bool
changes_outbox (Run u b) t a = (b == a) && (u == t)
changes_outbox (Send u b) t a = (b == a) && (u == t)
changes_outbox (End u b) t a = (b == a) && (u == t)
changes_outbox _ t a = false

-- both boxes of actor a
abbrev pub changes_boxes : Event → ℕ → Bool
changes_boxes (Rollback b) a = b == a
changes_boxes (Finish u b) a = b == a
changes_boxes _ a = false

-- who stands on actor a's schedule
abbrev pub changes_entries : Event → ℕ → Bool
changes_entries (Arrive k b) a = b == a
changes_entries (Ask t b) a = b == a
changes_entries (Rollback b) a = b == a
changes_entries (Finish t b) a = b == a
changes_entries (Trim k b) a = b == a
changes_entries _ a = false

-- PACT t becomes done on actor a
abbrev pub changes_done : {C : Type 0} → Fixed C → Event → Machine C → ℕ → ℕ → Bool
changes_done w (Run u b) s t a = ((b == a) && (u == t)) && is_done_after w.code b (slice_of w.code u (cell_at s b))
changes_done w (Close u b) s t a = (b == a) && (u == t)
changes_done w _ s t a = false

-- some mark on actor a's schedule
abbrev pub changes_marks : {C : Type 0} → Fixed C → Event → Machine C → ℕ → Bool
changes_marks w (Run u b) s a = (b == a) && is_done_after w.code b (slice_of w.code u (cell_at s b))
changes_marks w (Close u b) s a = b == a
changes_marks w (Complete k b) s a = b == a
changes_marks w _ s a = false

-- the epoch of actor a's cell
abbrev pub changes_epoch : Event → ℕ → Bool
changes_epoch (Rollback b) a = b == a
changes_epoch _ a = false

abbrev pub changes_tail : Event → ℕ → Bool
changes_tail (Arrive k b) a = b == a
changes_tail (Rollback b) a = b == a
changes_tail _ a = false

-- the control of t in the post
abbrev pub changes_control : {C : Type 0} → Fixed C → Event → Machine C → ℕ → Bool
changes_control w (Form k) s t = list_any (λ p. p.tid == t) (next_pacts w.text s.ring)
changes_control w (Admit u) s t = u == t
changes_control w (Ask u a) s t = u == t
changes_control w (Take u a) s t = u == t
changes_control w (Send u a) s t = u == t
changes_control w (DropControl u) s t = u == t
changes_control w _ s t = false

-- the messages of batch k
abbrev pub changes_subs : Event → ℕ → Bool
changes_subs (Form j) k = j == k
changes_subs _ k = false

-- the message of batch k to actor a
abbrev pub changes_sub : Event → ℕ → ℕ → Bool
changes_sub (Arrive j b) k a = (j == k) && (b == a)
changes_sub (DropSub j b) k a = (j == k) && (b == a)
changes_sub _ k a = false

-- log l
abbrev pub changes_log : {C : Type 0} → Fixed C → Event → ℕ → Bool
changes_log w (Form k) l = k % w.text.logs == l
changes_log w (Complete k a) l = a % w.text.logs == l
changes_log w (Sync m) l = m == l
changes_log w (Commit k) l = k % w.text.logs == l
changes_log w (Prepare t a) l = a % w.text.logs == l
changes_log w (Decide t) l = t % w.text.logs == l
changes_log w _ l = false

-- what a sync makes durable
abbrev pub made_durable : Log → List LogRecord
made_durable g = drop g.synced g.records

-- a record of log l that the test holds of becomes durable
abbrev pub makes_durable : {C : Type 0} → Event → Machine C → (LogRecord → Bool) → ℕ → Bool
makes_durable (Sync m) s test l = (m == l) && list_any test (made_durable (log_at s m))
makes_durable _ s test l = false

-- ---- ACTs, but for their after numbers, which no condition reads

abbrev pub crossed_tids : List Act → List ℕ
crossed_tids acts = map (λ x. x.tid) (filter is_crossed acts)

-- those whose before number rises
abbrev pub risen_tids : List Pair → List Act → List ℕ
risen_tids pairs [] = []
risen_tids pairs (x ∷ xs) = if nat_le (carried pairs x (raised pairs xs)) x.m then risen_tids pairs xs else x.tid ∷ risen_tids pairs xs

abbrev pub spread_tids : List Pair → List Act → List ℕ
spread_tids pairs acts = risen_tids pairs acts ++ crossed_tids (raised pairs acts)

abbrev pub asked_tids : Option ℕ → List Lock → ℕ → ℕ → ℕ → Book → List ℕ
asked_tids (Some older) group t a m b = t ∷ []
asked_tids None group t a m b = t ∷ spread_tids (b.pairs ++ new_pairs t a group b.acts) (changed_act t (joins a m) b.acts)

abbrev pub acts_changed : {C : Type 0} → Event → Machine C → List ℕ
acts_changed (Admit u) s = u ∷ []
acts_changed (Arrive k a) s = crossed_tids (map (lowered k (tids_on (cell_at s a).entries)) s.book.acts)
acts_changed (Ask u a) s = asked_tids (in_the_way (lock_of u s.book.acts) (cell_at s a).entries) (met (lock_of u s.book.acts) (cell_at s a).entries) u a (max (cell_at s a).last (floor_at u s.book.acts (cell_at s a))) s.book
acts_changed (End u a) s = u ∷ []
acts_changed (Decide u) s = u ∷ []
acts_changed (Seal u) s = u ∷ []
acts_changed _ s = []

-- those that may be given up by the event, or are new
abbrev pub doomed_changed : {C : Type 0} → Event → Machine C → List ℕ
doomed_changed (Admit u) s = acts_changed (Admit u) s
doomed_changed (Arrive k a) s = acts_changed (Arrive k a) s
doomed_changed (Ask u a) s = acts_changed (Ask u a) s
doomed_changed _ s = []

abbrev pub changes_doom : {C : Type 0} → Event → Machine C → ℕ → Bool
changes_doom e s t = is_among t (doomed_changed e s)

abbrev pub changes_act : {C : Type 0} → Event → Machine C → ℕ → Bool
changes_act e s t = is_among t (acts_changed e s)

-- the marks of ACT t on actor a
abbrev pub changes_prepared : Event → ℕ → ℕ → Bool
changes_prepared (Prepare u b) t a = (b == a) && (u == t)
changes_prepared _ t a = false

abbrev pub changes_vouched : Event → ℕ → ℕ → Bool
changes_vouched (Vouch u b) t a = (b == a) && (u == t)
changes_vouched _ t a = false

abbrev pub changes_finished : Event → ℕ → ℕ → Bool
changes_finished (Finish u b) t a = (b == a) && (u == t)
changes_finished _ t a = false

-- a mark of ACT t
abbrev pub changes_votes : Event → ℕ → Bool
changes_votes (Vouch u b) t = u == t
changes_votes _ t = false

abbrev pub changes_left : Event → ℕ → Bool
changes_left (Finish u b) t = u == t
changes_left _ t = false

abbrev pub changes_who : {C : Type 0} → Event → Machine C → Who → Bool
changes_who e s (OfBatch k) = false
changes_who e s (OfAct t) = changes_doom e s t

-- ---- batches

-- the stage of batch k, or that it is there
abbrev pub changes_stage : Event → ℕ → Bool
changes_stage (Form j) k = j == k
changes_stage (Commit j) k = j == k
changes_stage (Settle j) k = j == k
changes_stage _ k = false

abbrev pub changes_note : Event → ℕ → ℕ → Bool
changes_note (Note j b) k a = (j == k) && (b == a)
changes_note _ k a = false

abbrev pub changes_noted : Event → ℕ → Bool
changes_noted (Note j b) k = j == k
changes_noted _ k = false

abbrev pub changes_trim : Event → ℕ → ℕ → Bool
changes_trim (Trim j b) k a = (j == k) && (b == a)
changes_trim _ k a = false

-- a result of batch k
abbrev pub changes_results : {C : Type 0} → Event → Machine C → ℕ → Bool
changes_results (End t a) s k = holds (names_pact t) (batch_of k s.desk.batches)
changes_results _ s k = false

-- the result of PACT t
abbrev pub changes_result : {C : Type 0} → Fixed C → Event → Machine C → ℕ → Bool
changes_result w (Form k) s t = list_any (λ p. p.tid == t) (next_pacts w.text s.ring)
changes_result w (End u a) s t = u == t
changes_result w _ s t = false

-- whether all smaller batches are over
abbrev pub changes_next : Event → ℕ → Bool
changes_next (Form j) k = nat_lt j k
changes_next (Settle j) k = true
changes_next _ k = false

abbrev pub changes_settled : Event → Bool
changes_settled (Settle j) = true
changes_settled _ = false

-- ---- verdicts

abbrev pub has_pact_with : (Pact → Bool) → List Batch → Bool
has_pact_with test batches = list_any (λ b. list_any test b.pacts) batches

-- the ACT of transaction n has this tid
abbrev pub names_act : ℕ → ℕ → List Act → Bool
names_act t n acts = list_any (λ x. (x.tid == t) && (x.tx == n)) acts

abbrev pub has_crossed_act : ℕ → List Act → Bool
has_crossed_act n acts = list_any (λ x. is_crossed x && (x.tx == n)) acts

abbrev pub asked_verdict : Option ℕ → List Lock → ℕ → ℕ → ℕ → Book → ℕ → Bool
asked_verdict (Some older) group t a m b n = names_act t n b.acts
asked_verdict None group t a m b n = has_crossed_act n (raised (b.pairs ++ new_pairs t a group b.acts) (changed_act t (joins a m) b.acts))

-- whether transaction n has one
abbrev pub changes_verdict : {C : Type 0} → Fixed C → Event → Machine C → ℕ → Bool
changes_verdict w (Form k) s n = list_any (λ p. p.tx == n) (next_pacts w.text s.ring)
changes_verdict w (Admit t) s n = next_act s.ring == n
changes_verdict w (Arrive k a) s n = has_crossed_act n (map (lowered k (tids_on (cell_at s a).entries)) s.book.acts)
changes_verdict w (Ask t a) s n = asked_verdict (in_the_way (lock_of t s.book.acts) (cell_at s a).entries) (met (lock_of t s.book.acts) (cell_at s a).entries) t a (max (cell_at s a).last (floor_at t s.book.acts (cell_at s a))) s.book n
changes_verdict w (End t a) s n = has_pact_with (λ p. (p.tid == t) && (p.tx == n)) s.desk.batches || names_act t n s.book.acts
changes_verdict w (Settle k) s n = list_any (λ b. (b.bid == k) && list_any (λ p. p.tx == n) b.pacts) s.desk.batches
changes_verdict w (Decide t) s n = names_act t n s.book.acts
changes_verdict w (Seal t) s n = names_act t n s.book.acts
changes_verdict w _ s n = false

abbrev pub changes_replied : Event → ℕ → Bool
changes_replied (Reply m) n = m == n
changes_replied _ n = false

-- ---- which events read what the event changed; after a cascade all are looked at again

abbrev pub reads_changed : {C : Type 0} → Fixed C → Event → Machine C → Event → Bool
reads_changed w e s (Submit n) = true
reads_changed w e s (Pass c) = true
reads_changed w e s (Form k) = true
reads_changed w e s (Admit t) = true
reads_changed w e s (Arrive k a) = (changes_subs e k || changes_sub e k a) || (changes_epoch e a || changes_tail e a)
reads_changed w e s (Ask t a) = changes_control w e s t || (changes_doom e s t || (changes_entries e a || changes_epoch e a))
reads_changed w e s (Take t a) = changes_control w e s t || changes_entries e a
reads_changed w e s (Run t a) = (changes_boxes e a || changes_inbox e t a) || (changes_entries e a || changes_marks w e s a)
reads_changed w e s (Send t a) = changes_boxes e a || changes_outbox e t a
reads_changed w e s (End t a) = changes_boxes e a || changes_outbox e t a
reads_changed w e s (Close t a) = changes_result w e s t || (changes_entries e a || changes_done w e s t a)
reads_changed w e s (Complete k a) = changes_entries e a || changes_marks w e s a
reads_changed w e s (Sync l) = changes_log w e l
reads_changed w e s (Note k a) = changes_stage e k || (changes_note e k a || makes_durable e s (is_complete k a) (a % w.text.logs))
reads_changed w e s (Commit k) = changes_stage e k || (changes_noted e k || (changes_results e s k || (changes_next e k || makes_durable e s (is_info k) (k % w.text.logs))))
reads_changed w e s (Settle k) = changes_stage e k || makes_durable e s (is_commit k) (k % w.text.logs)
reads_changed w e s (Abort k) = changes_stage e k || (changes_results e s k || changes_next e k)
reads_changed w e s (Rollback a) = changes_epoch e a
reads_changed w e s (DropSub k a) = changes_subs e k || changes_sub e k a
reads_changed w e s (DropControl t) = changes_control w e s t || holds (λ m. changes_who e s m.who) (control_of t s.post.controls)
reads_changed w e s (Prepare t a) = changes_act e s t || changes_prepared e t a
reads_changed w e s (Vouch t a) = changes_act e s t || ((changes_prepared e t a || changes_vouched e t a) || (changes_left e t || makes_durable e s (is_prepare t a) (a % w.text.logs)))
reads_changed w e s (Decide t) = changes_act e s t || (changes_votes e t || changes_settled e)
reads_changed w e s (Seal t) = changes_act e s t || makes_durable e s (is_act_commit t) (t % w.text.logs)
reads_changed w e s (Finish t a) = changes_act e s t || changes_finished e t a
reads_changed w e s (Reply n) = changes_replied e n || changes_verdict w e s n
reads_changed w e s (Trim k a) = changes_stage e k || changes_trim e k a

abbrev pub is_abort : Event → Bool
is_abort (Abort k) = true
is_abort _ = false

abbrev pub is_touched : {C : Type 0} → Fixed C → Event → Machine C → Event → Bool
is_touched w e s f = is_abort e || reads_changed w e s f

-- ---- what is used of a state: a log's synced front is in it, and batches have consecutive numbers

pub record IsSound {C : Type 0} (w : Fixed C) (s : Machine C) : Type 0 where
  pub synced : AllByRecursion (λ g. g.synced ≤ length g.records) s.logs
  pub bids : map (λ b. b.bid) s.desk.batches ≡ from w.text.opening.next_bid (length s.desk.batches)

-- an event leaves the conditions of those that it does not touch
abbrev pub LeavesUntouched : {C : Type 0} → Fixed C → Machine C → Type 0
LeavesUntouched w s = (e f : Event) → IsSound w s → IsAllowed w e s → is_touched w e s f ≡ false → conditions w f (after w e s) ≡ conditions w f s
