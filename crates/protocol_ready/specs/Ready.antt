-- The events that are looked at again after an event, since what it changed may have made them allowed or refused; and the
-- allowed events in order, revised by looking at some of them again.
use Rattle.std.specs.Prelude.{◌≡◌, ℕ, ◌%◌, ◌==◌, nat_lt, Bool, true, false, ◌&&◌, ◌||◌, if◌then◌else◌, Option, Some, None, List, [], ◌∷◌, ◌++◌, map, filter, max, Contains, ◌⊎◌}
use Rattle.std.specs.List.{flat_map}
use Rattle.protocol.specs.Fixed.{Fixed}
use Rattle.protocol.specs.Rivals.{Lock}
use Rattle.protocol.specs.Parts.{Act, Book, Machine}
use Rattle.protocol.specs.Events.{Event, Form, Admit, Arrive, Ask, Take, Run, Send, End, Close, Complete, Sync, Note, Commit, Settle, Abort, Rollback, DropSub, DropControl, Prepare, Vouch, Decide, Seal, Finish, Reply, Trim}
use Rattle.protocol.specs.Words.{act_of, is_open, names_pact, lock_of, floor_at}
use Rattle.protocol.specs.Spread.{raised, is_crossed}
use Rattle.protocol.specs.Numbers.{flat}
use Rattle.protocol.specs.Conditions.{IsAllowed, refusal}
use Rattle.protocol.specs.OnRing.{next_pacts}
use Rattle.protocol.specs.OnPost.{next_act}
use Rattle.protocol.specs.OnCell.{is_done_after, slice_of}
use Rattle.protocol.specs.OnBook.{changed_act, joins, lowered, tids_on, new_pairs, met, in_the_way}
use Rattle.protocol.specs.Effects.{after, cell_at, log_at}
use Rattle.protocol.specs.Schedule.{rank, is_rank_below}
use Rattle.protocol_ready.specs.Touched.{made_durable, acts_changed, doomed_changed, is_touched}
use Rattle.protocol_ready.specs.Lying.{on_boxes, arrivals, on_entries, on_marks, on_epoch, on_control, on_sub, on_subs, vouches_of, on_act, on_doom, on_settled, on_stage, ends_of, on_result, of_record, next_of_ring, live}

-- ---- what is listed, by what the event e changes; s is the state before it, and t the one in which it is listed

-- both boxes of an actor, where entries went
abbrev pub by_boxes : {C : Type 0} → Event → Machine C → List Event
by_boxes (Rollback b) t = on_boxes b t
by_boxes (Finish u b) t = on_boxes b t
by_boxes _ t = []

-- one control in an inbox
abbrev pub by_inbox : Event → List Event
by_inbox (Ask u b) = Run u b ∷ []
by_inbox (Take u b) = Run u b ∷ []
by_inbox (Run u b) = Run u b ∷ []
by_inbox _ = []

-- one outcome in an outbox
abbrev pub by_outbox : Event → List Event
by_outbox (Run u b) = Send u b ∷ End u b ∷ []
by_outbox (Send u b) = Send u b ∷ End u b ∷ []
by_outbox (End u b) = Send u b ∷ End u b ∷ []
by_outbox _ = []

-- who stands on a schedule
abbrev pub by_entries : {C : Type 0} → Event → Machine C → List Event
by_entries (Arrive k b) t = on_entries b t
by_entries (Ask u b) t = on_entries b t
by_entries (Rollback b) t = on_entries b t
by_entries (Finish u b) t = on_entries b t
by_entries (Trim k b) t = on_entries b t
by_entries _ t = []

-- how far a schedule is
abbrev pub by_mark : {C : Type 0} → Fixed C → Event → Machine C → Machine C → List Event
by_mark w (Run u b) s t = if is_done_after w.code b (slice_of w.code u (cell_at s b)) then Close u b ∷ on_marks b t else []
by_mark w (Close u b) s t = Close u b ∷ on_marks b t
by_mark w (Complete k b) s t = on_marks b t
by_mark w _ s t = []

-- an actor's epoch
abbrev pub by_epoch : {C : Type 0} → Event → Machine C → List Event
by_epoch (Rollback b) t = on_epoch b t
by_epoch _ t = []

-- the last batch of this epoch on an actor
abbrev pub by_tail : {C : Type 0} → Event → Machine C → List Event
by_tail (Arrive k b) t = arrivals b t
by_tail (Rollback b) t = arrivals b t
by_tail _ t = []

-- controls in the post
abbrev pub by_control : {C : Type 0} → Fixed C → Event → Machine C → Machine C → List Event
by_control w (Form k) s t = flat_map (λ p. on_control p.tid t) (next_pacts w.text s.ring)
by_control w (Admit u) s t = on_control u t
by_control w (Ask u a) s t = on_control u t
by_control w (Take u a) s t = on_control u t
by_control w (Send u a) s t = on_control u t
by_control w (DropControl u) s t = on_control u t
by_control w _ s t = []

-- sub-batches in the post
abbrev pub by_subs : {C : Type 0} → Event → Machine C → List Event
by_subs (Form k) t = on_subs k t
by_subs (Arrive k a) t = on_sub k a
by_subs (DropSub k a) t = on_sub k a
by_subs _ t = []

-- whether a log has records to sync
abbrev pub by_log : {C : Type 0} → Fixed C → Event → List Event
by_log w (Form k) = Sync (k % w.text.logs) ∷ []
by_log w (Complete k a) = Sync (a % w.text.logs) ∷ []
by_log w (Sync m) = Sync m ∷ []
by_log w (Commit k) = Sync (k % w.text.logs) ∷ []
by_log w (Prepare t a) = Sync (a % w.text.logs) ∷ []
by_log w (Decide t) = Sync (t % w.text.logs) ∷ []
by_log w _ = []

-- what becomes durable
abbrev pub by_fresh : {C : Type 0} → Event → Machine C → List Event
by_fresh (Sync m) s = flat_map of_record (made_durable (log_at s m))
by_fresh _ s = []

-- ACTs, but for their marks on actors
abbrev pub by_acts : {C : Type 0} → Event → Machine C → Machine C → List Event
by_acts e s t = flat_map (λ u. on_act u t) (acts_changed e s)

-- an ACT's marks on its actors
abbrev pub by_votes : {C : Type 0} → Event → Machine C → List Event
by_votes (Prepare u b) t = Prepare u b ∷ Vouch u b ∷ []
by_votes (Vouch u b) t = Vouch u b ∷ Decide u ∷ []
by_votes (Finish u b) t = Finish u b ∷ vouches_of u (act_of u t.book.acts)
by_votes _ t = []

-- ACTs that are given up, or are new
abbrev pub by_doom : {C : Type 0} → Event → Machine C → Machine C → List Event
by_doom e s t = flat_map (λ u. on_doom u t) (doomed_changed e s)

-- how far a batch is
abbrev pub by_stage : {C : Type 0} → Event → Machine C → List Event
by_stage (Form k) t = on_stage k t
by_stage (Commit k) t = on_stage k t
by_stage (Settle k) t = on_stage k t
by_stage _ t = []

-- a batch's marks on its actors
abbrev pub by_marks : Event → List Event
by_marks (Note k a) = Note k a ∷ Commit k ∷ []
by_marks (Trim k a) = Trim k a ∷ []
by_marks _ = []

-- whether a batch has all results, or a failed one
abbrev pub by_results : {C : Type 0} → Event → Machine C → List Event
by_results (End u a) s = ends_of (filter (names_pact u) s.desk.batches)
by_results _ s = []

-- the result of a PACT
abbrev pub by_result : {C : Type 0} → Fixed C → Event → Machine C → Machine C → List Event
by_result w (Form k) s t = flat_map (λ p. on_result p.tid t) (next_pacts w.text s.ring)
by_result w (End u a) s t = on_result u t
by_result w _ s t = []

-- whether all smaller batches are over
abbrev pub by_next : {C : Type 0} → Event → Machine C → List Event
by_next (Form j) t = ends_of (filter (λ b. is_open b && nat_lt j b.bid) t.desk.batches)
by_next (Settle j) t = ends_of (filter is_open t.desk.batches)
by_next _ t = []

-- the greatest batch that is settled
abbrev pub by_settled : {C : Type 0} → Event → Machine C → List Event
by_settled (Settle j) t = on_settled t
by_settled _ t = []

-- whether a transaction is answered
abbrev pub by_replied : Event → List Event
by_replied (Reply n) = Reply n ∷ []
by_replied _ = []

-- the transactions of the ACTs that are given up for their numbers
abbrev pub crossed_txs : List Act → List ℕ
crossed_txs acts = map (λ x. x.tx) (filter is_crossed acts)

-- the transaction of ACT t
abbrev pub txs_named : ℕ → List Act → List ℕ
txs_named t acts = map (λ x. x.tx) (filter (λ x. x.tid == t) acts)

-- of those that an ask gives up
abbrev pub asked_txs : Option ℕ → List Lock → ℕ → ℕ → ℕ → Book → List ℕ
asked_txs (Some older) group t a m b = txs_named t b.acts
asked_txs None group t a m b = crossed_txs (raised (b.pairs ++ new_pairs t a group b.acts) (changed_act t (joins a m) b.acts))

-- the transactions that the event may give a verdict
abbrev pub told_txs : {C : Type 0} → Fixed C → Event → Machine C → List ℕ
told_txs w (Form k) s = map (λ p. p.tx) (next_pacts w.text s.ring)
told_txs w (Admit t) s = next_act s.ring ∷ []
told_txs w (Arrive k a) s = crossed_txs (map (lowered k (tids_on (cell_at s a).entries)) s.book.acts)
told_txs w (Ask t a) s = asked_txs (in_the_way (lock_of t s.book.acts) (cell_at s a).entries) (met (lock_of t s.book.acts) (cell_at s a).entries) t a (max (cell_at s a).last (floor_at t s.book.acts (cell_at s a))) s.book
told_txs w (End t a) s = flat_map (λ b. map (λ p. p.tx) (filter (λ p. p.tid == t) b.pacts)) s.desk.batches ++ txs_named t s.book.acts
told_txs w (Settle k) s = flat_map (λ b. map (λ p. p.tx) b.pacts) (filter (λ b. b.bid == k) s.desk.batches)
told_txs w (Decide t) s = txs_named t s.book.acts
told_txs w (Seal t) s = txs_named t s.book.acts
told_txs w _ s = []

-- whether a transaction has a verdict
abbrev pub by_verdict : {C : Type 0} → Fixed C → Event → Machine C → List Event
by_verdict w e s = map Reply (told_txs w e s)

-- all of these, one after the other
abbrev pub groups : {C : Type 0} → Fixed C → Event → Machine C → Machine C → List (List Event)
groups w e s t =
    next_of_ring w t
    ∷ by_boxes e t
    ∷ by_inbox e
    ∷ by_outbox e
    ∷ by_entries e t
    ∷ by_epoch e t
    ∷ by_tail e t
    ∷ by_control w e s t
    ∷ by_subs e t
    ∷ by_log w e
    ∷ by_fresh e s
    ∷ by_acts e s t
    ∷ by_stage e t
    ∷ by_marks e
    ∷ by_results e s
    ∷ by_result w e s t
    ∷ by_next e t
    ∷ by_settled e t
    ∷ by_replied e
    ∷ by_verdict w e s
    ∷ by_mark w e s t
    ∷ by_votes e t ∷ by_doom e s t ∷ []

abbrev pub by_changes : {C : Type 0} → Fixed C → Event → Machine C → Machine C → List Event
by_changes w e s t = flat (groups w e s t)

-- the events that are looked at after an event
abbrev pub touched : {C : Type 0} → Fixed C → Event → Machine C → Machine C → List Event
touched w (Abort k) s t = live w t
touched w e s t = by_changes w e s t

-- ---- the allowed events in order, revised one by one

-- among ascending events, once
abbrev pub put : Event → List Event → List Event
put e [] = e ∷ []
put e (x ∷ xs) = if is_rank_below (rank e) (rank x) then e ∷ x ∷ xs else if is_rank_below (rank x) (rank e) then x ∷ put e xs else x ∷ xs

abbrev pub without : Event → List Event → List Event
without e xs = filter (λ x. is_rank_below (rank x) (rank e) || is_rank_below (rank e) (rank x)) xs

abbrev pub put_or_take : Bool → Event → List Event → List Event
put_or_take true e xs = put e xs
put_or_take false e xs = without e xs

-- Some events are looked at in state t, one after the other: what is allowed is put in, what is not is taken out.
abbrev pub revised : {C : Type 0} → Fixed C → Machine C → List Event → List Event → List Event
revised w t [] xs = xs
revised w t (e ∷ es) xs = revised w t es (put_or_take (refusal w e t == 0) e xs)

-- what an event may have changed: listed before it, and after it
abbrev pub looked : {C : Type 0} → Fixed C → Event → Machine C → List Event
looked w e s = touched w e s s ++ touched w e s (after w e s)

-- Some events are enough to look at after an event, where each that it touches and that is listed for it, and is allowed
-- before or after it, is among them.
abbrev pub AreEnough : {C : Type 0} → Fixed C → Event → Machine C → List Event → Type 0
AreEnough w e s es = (f : Event) → is_touched w e s f ≡ true → Contains (looked w e s) f → IsAllowed w f s ⊎ IsAllowed w f (after w e s) → Contains es f

-- Some events are enough to look at for a host that lists only after an event, where each that the event touches is among
-- them if the host had it among the allowed ones, and if it is listed for it after it and is allowed after it.
pub record AreRenewed {C : Type 0} (w : Fixed C) (e : Event) (s : Machine C) (all es : List Event) : Type 0 where
  pub had : (f : Event) → Contains all f → is_touched w e s f ≡ true → Contains es f
  pub listed : (f : Event) → is_touched w e s f ≡ true → Contains (touched w e s (after w e s)) f → IsAllowed w f (after w e s) → Contains es f

-- Some events are all to look at, where each that lies in the state and is allowed is among them.
abbrev pub AreAll : {C : Type 0} → Fixed C → Machine C → List Event → Type 0
AreAll w s es = (f : Event) → Contains (live w s) f → IsAllowed w f s → Contains es f
