-- What is listed of the actors after an event.
use Rattle.std.specs.Prelude.{ℕ, Bool, false, if◌then◌else◌, Option, Some, None, is_some, List, [], ◌∷◌, ◌++◌, length, map, filter, slice_get}
use Rattle.std.specs.List.{flat_map}
use Rattle.aml_slice.specs.Controls.{Rest}
use Rattle.listing_facts.specs.batch_table.Listed.{pact_tx}
use Rattle.listing_facts.specs.hybrid_schedule.Listed.{completable_on, undone_by}
use Rattle.listing_facts.specs.hybrid_schedule.Schedules.{can_run}
use Rattle.ready_listing.specs.Listed.{of_waiting, on_place}
use Rattle.protocol.specs.Conditions.{has_ended_on, has_gone_on}
use Rattle.protocol.specs.Events.{Event, Arrive, Ask, Take, Run, Send, End, Close, Complete, Abort, Rollback, Finish, Trim}
use Rattle.protocol.specs.Fixed.{Text, declared, tx_at}
use Rattle.protocol.specs.Parts.{Desk, Cell}
use Rattle.protocol.specs.Words.{below, has_undone, pact_result}
use Rattle.snap_hand.specs.Hands.{Parts}
use Rattle.ready_news.specs.InBook.{only}

-- ---- what may go on at an actor

-- who waits there and may run
abbrev pub runnable_in : Cell Rest → List ℕ
runnable_in c = filter (λ t. can_run t c.entries) (map (λ x. x.tid) c.inbox)

abbrev pub of_completable : ℕ → Option ℕ → List Event
of_completable a None = []
of_completable a (Some k) = Complete k a ∷ []

-- Run of each that may run at actor a, and Complete of the batch that can be completed there
abbrev pub wakes : ℕ → Cell Rest → List Event
wakes a c = flat_map (of_waiting a) (runnable_in c) ++ of_completable a (completable_on c.entries)

-- ---- what an event put there itself

-- what a slice of transaction t left, which is to be taken on
abbrev pub left_by : ℕ → ℕ → Cell Rest → List Event
left_by t a c = only (has_gone_on t c) (Send t a) ++ only (has_ended_on t c) (End t a)

-- the PACTs of the sub-batch of batch k whose results the desk had before it came
abbrev pub of_late : ℕ → Desk → ℕ → List Event
of_late a d t = only (is_some (pact_result t d.batches)) (Close t a)

abbrev pub late_by : ℕ → ℕ → Option Desk → Cell Rest → List Event
late_by k a None c = []
late_by k a (Some d) c = flat_map (of_late a d) (undone_by k c.entries)

abbrev pub put_there : Event → Option Desk → ℕ → Cell Rest → List Event
put_there (Run t b) d a c = left_by t a c
put_there (Arrive k b) d a c = late_by k a d c
put_there _ d a c = []

abbrev pub on_changed : Event → Option Desk → ℕ → Cell Rest → List Event
on_changed e d a c = put_there e d a c ++ wakes a c

-- the actor whose cell an event changes so that what is there may go on
abbrev pub changed_actor : Event → Option ℕ
changed_actor (Arrive k a) = Some a
changed_actor (Run t a) = Some a
changed_actor (Close t a) = Some a
changed_actor (Complete k a) = Some a
changed_actor (Finish t a) = Some a
changed_actor (Trim k a) = Some a
changed_actor _ = None

-- where there is such an actor, of what its cell shows
abbrev pub of_shown : (Cell Rest → List Event) → Option (Option (Cell Rest)) → List Event
of_shown f None = []
of_shown f (Some None) = []
of_shown f (Some (Some c)) = f c

abbrev pub of_actor : Event → Parts → Option ℕ → List Event
of_actor e h None = []
of_actor e h (Some a) = of_shown (on_changed e h.desk a) (slice_get h.cells a)

-- ---- a PACT that ended

-- whether it owes an actor something still, as the actor's cell tells
abbrev pub owes : ℕ → Option (Option (Cell Rest)) → Bool
owes t None = false
owes t (Some None) = false
owes t (Some (Some c)) = has_undone t c.entries

abbrev pub close_at : ℕ → Parts → ℕ → List Event
close_at t h a = only (owes t (slice_get h.cells a)) (Close t a)

-- the actors that a transaction has declared, where there is one
abbrev pub declared_in : Text → Option ℕ → List ℕ
declared_in w None = []
declared_in w (Some n) = declared (tx_at w n)

-- where the desk has its result, of the actors that it has declared those that it owes something
abbrev pub closes_behind : Text → ℕ → Option Desk → Parts → List Event
closes_behind w t None h = []
closes_behind w t (Some d) h = if is_some (pact_result t d.batches) then flat_map (close_at t h) (declared_in w (pact_tx t d.batches)) else []

-- ---- by event: after a cascade all, and what stays of an actor that follows one; where a control comes, its Run

abbrev pub cells_listed : Text → Event → Parts → List Event
cells_listed w (Abort k) h = flat_map (on_place h) (below (length h.cells))
cells_listed w (Rollback a) h = on_place h a
cells_listed w (Ask t a) h = Run t a ∷ []
cells_listed w (Take t a) h = Run t a ∷ []
cells_listed w (End t a) h = closes_behind w t h.desk h
cells_listed w e h = of_actor e h (changed_actor e)
