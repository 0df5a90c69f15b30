-- What is listed of the ring and of the logs after an event.
use Rattle.std.specs.Prelude.{ℕ, ◌+◌, ◌%◌, ◌==◌, not, ◌&&◌, Bool, true, false, Option, Some, None, List, [], ◌∷◌, ◌++◌, length, slice_get}
use Rattle.snap_base.specs.declared.ids.TxNo.{TxNo}
use Rattle.snap_hand.specs.log_set.Logs.{LogList}
use Rattle.snap_hand.specs.token_ring.Asked.{first_waiting}
use Rattle.protocol.specs.Conditions.{has_room_for_act, has_room_for_batch, is_idle_at, lacks_acts, lacks_pacts, queue}
use Rattle.protocol.specs.Events.{Event, Submit, Pass, Form, Admit, Arrive, Ask, Complete, Sync, Commit, Abort, Prepare, Decide, Seal, Finish, Trim}
use Rattle.protocol.specs.Fixed.{Text}
use Rattle.protocol.specs.Parts.{Book, Desk, Ring}
use Rattle.ready_listing.specs.Listed.{on_ring}
use Rattle.ready_news.specs.InBook.{only}

-- the events that change the ring
abbrev pub changes_ring : Event → Bool
changes_ring (Submit n) = true
changes_ring (Pass c) = true
changes_ring (Form k) = true
changes_ring (Admit t) = true
changes_ring (Abort k) = true
changes_ring _ = false

-- the next batch, where such a PACT waits and one more batch may be live; and the next ACT, where it waits and may be live
abbrev pub forms : Bool → Text → Desk → Ring → List Event
forms waits w d r = only (waits && has_room_for_batch w d) (Form r.next_bid)

abbrev pub admits : Bool → Text → Book → Ring → List Event
admits waits w b r = only (waits && has_room_for_act w b) (Admit r.next_tid)

-- where any waits at the holder
abbrev pub forms_any : Text → Desk → Ring → List Event
forms_any w d r = forms (not (lacks_pacts r)) w d r

abbrev pub admits_any : Text → Book → Ring → List Event
admits_any w b r = admits (not (lacks_acts r)) w b r

-- the token may go on, where nothing waits at the holder
abbrev pub passes : ℕ → Ring → List Event
passes coordinators r = only (is_idle_at r.holder r) (Pass ((r.holder + 1) % coordinators))

-- a transaction is the first that waits, where one does
abbrev pub is_first : ℕ → Option TxNo → Bool
is_first n None = false
is_first n (Some m) = m.0 == n

-- where transaction n is the first that waits at the holder
abbrev pub forms_first : ℕ → Text → Desk → Ring → List Event
forms_first n w d r = forms (is_first n (first_waiting (queue r.pacts r.holder))) w d r

abbrev pub admits_first : ℕ → Text → Book → Ring → List Event
admits_first n w b r = admits (is_first n (first_waiting (queue r.acts r.holder))) w b r

-- fewer batches may be live after it, and fewer ACTs
abbrev pub frees_batches : Event → Bool
frees_batches (Trim k a) = true
frees_batches _ = false

abbrev pub frees_acts : Event → Bool
frees_acts (Arrive k a) = true
frees_acts (Ask t a) = true
frees_acts (Decide t) = true
frees_acts (Seal t) = true
frees_acts (Finish t a) = true
frees_acts _ = false

abbrev pub forms_if : Bool → Text → Desk → Ring → List Event
forms_if true w d r = forms_any w d r
forms_if false w d r = []

abbrev pub admits_if : Bool → Text → Book → Ring → List Event
admits_if true w b r = admits_any w b r
admits_if false w b r = []

abbrev pub draws : Event → Text → Desk → Book → Ring → List Event
draws e w d b r = forms_if (frees_batches e) w d r ++ admits_if (frees_acts e) w b r

-- after the submission of a transaction
abbrev pub submitted_listed : ℕ → Text → Desk → Book → Ring → List Event
submitted_listed n w d b r = ((Submit r.next_tx ∷ []) ++ (passes w.coordinators r ++ forms_first n w d r)) ++ admits_first n w b r

-- where the token went on, or a batch was formed
abbrev pub all_next : Text → Desk → Book → Ring → List Event
all_next w d b r = (passes w.coordinators r ++ forms_any w d r) ++ admits_any w b r

-- after another event that changes the ring, and after a cascade all that the ring has next
abbrev pub ring_listed : Event → Text → Desk → Book → Ring → List Event
ring_listed (Submit n) w d b r = submitted_listed n w d b r
ring_listed (Pass c) w d b r = all_next w d b r
ring_listed (Form k) w d b r = all_next w d b r
ring_listed (Admit t) w d b r = passes w.coordinators r ++ admits_any w b r
ring_listed (Abort k) w d b r = on_ring w.coordinators r
ring_listed e w d b r = draws e w d b r

-- one record alone waits in the log, or the log is not at hand
abbrev pub is_lone_in : Option (Option LogList) → Bool
is_lone_in None = true
is_lone_in (Some None) = true
is_lone_in (Some (Some x)) = length x.waiting == 1

-- the log of the records about a number, by these logs at hand: where others waited before, it may be synced already
abbrev pub added_to : ℕ → List (Option LogList) → ℕ → List Event
added_to logs at_hand n = only (is_lone_in (slice_get at_hand (n % logs))) (Sync (n % logs))

abbrev pub logs_listed : ℕ → List (Option LogList) → Event → List Event
logs_listed logs at_hand (Form k) = added_to logs at_hand k
logs_listed logs at_hand (Complete k a) = added_to logs at_hand a
logs_listed logs at_hand (Commit k) = added_to logs at_hand k
logs_listed logs at_hand (Prepare t a) = added_to logs at_hand a
logs_listed logs at_hand (Decide t) = added_to logs at_hand t
logs_listed logs at_hand _ = []
