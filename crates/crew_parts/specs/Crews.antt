-- Where a crew begins and what it comes to: a run of the machine, the groups of its Syncs on the logs' devices, and the lines of
-- its replies in the output.
use Rattle.std.specs.Prelude.{◌≡◌, ℕ, ◌+◌, ◌<◌, ◌≤◌, if◌then◌else◌, Bool, true, false, Option, None, Some, List, [], ◌∷◌, ◌++◌, length, slice_get, ⊤}
use Rattle.std.specs.Io.KnownBytes.{Appends}
use Rattle.aml_slice.specs.Controls.{Rest}
use Rattle.snap_hand.specs.core_rows.OnRuns.{HasRun}
use Rattle.crew_parts.specs.Acts.{meant}
use Rattle.crew_parts.specs.Shares.{OutputState, ShareState, GetsNoMore}
use Rattle.crew_parts.specs.declared.acts.Act.{Act}
use Rattle.gate_log.specs.State.{LogState}
use Rattle.protocol.specs.Conditions.{IsAllowed}
use Rattle.protocol.specs.Events.{Event, Reply, Sync, desk, log}
use Rattle.protocol.specs.Fixed.{Fixed}
use Rattle.protocol.specs.Parts.{Machine}
use Rattle.protocol.specs.Runs.{IsRun, opening, reached}
use Rattle.run_effects.specs.record_log.declared.limits.TheConstants.{FARTHEST_APPEND}
use Rattle.run_effects.specs.Groups.{group_behind, groups_of}
use Rattle.run_effects.specs.Lines.{line_in, replies_text}
use Rattle.snap_hand.specs.Shown.{IsPartOf}
use Rattle.snap_outside.specs.Causes.{Rose}
use Rattle.run_effects.specs.Driven.{IsDriven}
use Rattle.turn_table.specs.Places.{at}

-- ---- the beginning

-- a journal that takes appends
pub record IsReady (j : Option LogState) : Type 0 where
  pub journal : LogState
  pub is : j ≡ Some journal
  pub ready : journal.shut ≡ false
  pub near : journal.end ≤ FARTHEST_APPEND

-- an output at which nothing failed yet
pub record IsFresh (o : Option OutputState) : Type 0 where
  pub output : OutputState
  pub is : o ≡ Some output
  pub ready : output.failed ≡ false

-- These are all parts that a run of the text begins with, the logs with open journals beside them, and the desk with the output.
pub record AreFirstShares (w : Fixed Rest) (start : List ShareState) : Type 0 where
  pub many : length start ≡ 4 + w.text.logs + length w.text.opening.states
  pub parts : (i : ℕ) (x : ShareState) → slice_get start i ≡ Some x → IsPartOf w (opening w) i x.part
  pub journals : (l : ℕ) (x : ShareState) → l < w.text.logs → slice_get start (log l) ≡ Some x → IsReady x.beside.journal
  pub output : (x : ShareState) → slice_get start desk ≡ Some x → IsFresh x.beside.output

-- ---- the events

abbrev pub added : Bool → Event → List Event
added true e = e ∷ []
added false e = []

-- those that happened to the machine
abbrev pub kept : List Act → List Event
kept [] = []
kept (a ∷ more) = added a.done (meant a) ++ kept more

-- ---- what they came to

-- A log's journal got a group for each Sync of the log; and where it is shut, a front of the append of what still waits.
abbrev pub JournalIs : Fixed Rest → List Event → ℕ → Option LogState → Option LogState → Type 0
JournalIs w es l None new = ⊥
JournalIs w es l (Some old) None = ⊥
JournalIs w es l (Some old) (Some new) = IsDriven old new (groups_of w l es) (if new.shut then Some (group_behind w l es) else None)

-- Where its journal is shut, the next Sync of the log is still to come.
abbrev pub IsStillDue : Fixed Rest → Machine Rest → ℕ → Option LogState → Type 0
IsStillDue w s l None = ⊤
IsStillDue w s l (Some j) = j.shut ≡ true → IsAllowed w (Sync l) s

-- It took the replies, and a front of the line of one that is still to come, where it failed.
pub record BrokeOff (w : Fixed Rest) (es : List Event) (old new : OutputState) : Type 0 where
  pub tx : ℕ
  pub allowed : IsAllowed w (Reply tx) (reached w es)
  pub front : List ℕ
  pub rest : List ℕ
  pub line : line_in (reached w es) tx ≡ front ++ rest
  pub taken : Appends old.taken new.taken (replies_text w es ++ front)
  pub rose : Rose old.faults new.faults

-- it took the replies, and a front of one more line where it failed
abbrev pub PrintedOrBrokeOff : Bool → Fixed Rest → List Event → OutputState → OutputState → Type 0
PrintedOrBrokeOff true w es old new = BrokeOff w es old new
PrintedOrBrokeOff false w es old new = Appends old.taken new.taken (replies_text w es)

abbrev pub OutputIs : Fixed Rest → List Event → Option OutputState → Option OutputState → Type 0
OutputIs w es None new = ⊥
OutputIs w es (Some old) None = ⊥
OutputIs w es (Some old) (Some new) = (old.faults ≤ new.faults) × PrintedOrBrokeOff new.failed w es old new × GetsNoMore old new

-- The events are a run of the machine, of whose state these are all parts; and the journals and the output got what the events give.
pub record HasCome (w : Fixed Rest) (start : List ShareState) (es : List Event) (now : List ShareState) : Type 0 where
  pub run : IsRun w es
  pub many : length now ≡ length start
  pub parts : (i : ℕ) (x : ShareState) → slice_get now i ≡ Some x → IsPartOf w (reached w es) i x.part
  pub journals : (l : ℕ) (x y : ShareState) → l < w.text.logs → slice_get start (log l) ≡ Some x → slice_get now (log l) ≡ Some y → JournalIs w es l x.beside.journal y.beside.journal
  pub due : (l : ℕ) (y : ShareState) → l < w.text.logs → slice_get now (log l) ≡ Some y → IsStillDue w (reached w es) l y.beside.journal
  pub output : (x y : ShareState) → slice_get start desk ≡ Some x → slice_get now desk ≡ Some y → OutputIs w es x.beside.output y.beside.output

-- ---- what who holds some of them knows

-- Some run from the beginning has come to shares among which are these, which are held.
pub record Stands (w : Fixed Rest) (start : List ShareState) (those : List (Option ShareState)) : Type 0 where
  pub events : List Event
  pub now : List ShareState
  pub come : HasCome w start events now
  pub lead : HasRun w (reached w events)
  pub held : (i : ℕ) (x : ShareState) → at those i ≡ Some x → slice_get now i ≡ Some x
