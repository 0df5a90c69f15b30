-- What workers do to the parts that they share: an event of the machine with what stands before it; or what stands before it
-- alone, where that met a fault.
use Rattle.std.specs.Prelude.{◌≡◌, ℕ, ◌<◌, ◌≤◌, ◌==◌, if◌then◌else◌, Bool, true, false, Option, None, Some, List, [], ◌∷◌, ◌++◌}
use Rattle.std.specs.Io.KnownBytes.{Appends}
use Rattle.aml_slice.specs.Controls.{Rest}
use Rattle.core_events.specs.Meant.{event_meant}
use Rattle.snap_hand.specs.core_rows.OnRuns.{HasRun}
use Rattle.crew_parts.specs.Shares.{OutputState, ShareState, GetsNoMore}
use Rattle.crew_parts.specs.declared.acts.Act.{Act}
use Rattle.gate_log.specs.State.{LogState}
use Rattle.protocol.specs.Conditions.{IsAllowed}
use Rattle.protocol.specs.Effects.{after, log_at}
use Rattle.protocol.specs.Events.{Event, Sync, Reply, desk, log, footprint}
use Rattle.protocol.specs.Fixed.{Fixed}
use Rattle.protocol.specs.Parts.{Machine}
use Rattle.run_effects.specs.Groups.{group_by, waiting}
use Rattle.run_effects.specs.Lines.{line_in}
use Rattle.snap_hand.specs.Shown.{IsPartOf}
use Rattle.snap_hand.specs.Tables.{fixed_of, text_of}
use Rattle.snap_hand.specs.declared.tables.Tables.{Tables}
use Rattle.snap_outside.specs.Causes.{Rose}
use Rattle.run_effects.specs.Driven.{IsDriven}
use Rattle.snap_hand.specs.txn_records.declared.records.Record.{Record}

abbrev pub meant : Act → Event
meant a = event_meant a.event

-- the parts that it touches, where there are so many logs
abbrev pub touched : Tables → Act → List ℕ
touched t a = footprint (text_of t).logs (meant a)

-- what stands before it may meet a fault: the append before a Sync, the line before a reply
abbrev pub may_break : Event → Bool
may_break (Sync l) = true
may_break (Reply n) = true
may_break e = false

-- the state behind it: where what stands before the event met a fault, nothing happened to the machine
abbrev pub behind : Fixed Rest → Bool → Event → Machine Rest → Machine Rest
behind w true e s = after w e s
behind w false e s = s

-- ---- the journal of a log

-- the group that log l gets
abbrev pub groups_by : ℕ → Bool → Event → Machine Rest → List (List Record)
groups_by l true e s = group_by l e s
groups_by l false e s = []

-- the group of a Sync of log l
abbrev pub tried_at : ℕ → Event → Machine Rest → Option (List Record)
tried_at l (Sync k) s = if k == l then Some (waiting (log_at s l)) else None
tried_at l _ s = None

-- the group whose append met a fault
abbrev pub tried_by : ℕ → Bool → Event → Machine Rest → Option (List Record)
tried_by l true e s = None
tried_by l false e s = tried_at l e s

-- its journal was open, and got that
abbrev pub JournalGoes : ℕ → Bool → Event → Machine Rest → Option LogState → Option LogState → Type 0
JournalGoes l done e s None new = ⊥
JournalGoes l done e s (Some old) None = ⊥
JournalGoes l done e s (Some old) (Some new) = (old.shut ≡ false) × IsDriven old new (groups_by l done e s) (tried_by l done e s)

-- ---- the output

-- the line that the event prints
abbrev pub line_at : Machine Rest → Event → List ℕ
line_at s (Reply n) = line_in s n
line_at s _ = []

-- It took these bytes.
pub record HasPrinted (line : List ℕ) (old new : OutputState) : Type 0 where
  pub taken : Appends old.taken new.taken line
  pub ready : new.failed ≡ false
  pub later : old.faults ≤ new.faults
  pub once : GetsNoMore old new

-- It took a front of the line of a reply, and failed.
pub record HasBroken (s : Machine Rest) (e : Event) (old new : OutputState) : Type 0 where
  pub tx : ℕ
  pub is : e ≡ Reply tx
  pub front : List ℕ
  pub rest : List ℕ
  pub line : line_in s tx ≡ front ++ rest
  pub taken : Appends old.taken new.taken front
  pub failed : new.failed ≡ true
  pub rose : Rose old.faults new.faults
  pub later : old.faults ≤ new.faults
  pub once : GetsNoMore old new

abbrev pub Prints : Bool → Event → Machine Rest → OutputState → OutputState → Type 0
Prints true e s old new = HasPrinted (line_at s e) old new
Prints false e s old new = HasBroken s e old new

-- the output had not failed, and took that
abbrev pub OutputGoes : Bool → Event → Machine Rest → Option OutputState → Option OutputState → Type 0
OutputGoes done e s None new = ⊥
OutputGoes done e s (Some old) None = ⊥
OutputGoes done e s (Some old) (Some new) = (old.failed ≡ false) × Prints done e s old new

-- ---- the parts

-- It makes the second of the first, which is part i.
pub record ShareGoes (w : Fixed Rest) (s : Machine Rest) (done : Bool) (e : Event) (i : ℕ) (old new : ShareState) : Type 0 where
  pub part : IsPartOf w (behind w done e s) i new.part
  pub journal : (l : ℕ) → l < w.text.logs → i ≡ log l → JournalGoes l done e s old.beside.journal new.beside.journal
  pub output : i ≡ desk → OutputGoes done e s old.beside.output new.beside.output

-- the event makes the second shares of the first, which are the parts with these numbers
abbrev pub EachGoes : Fixed Rest → Machine Rest → Bool → Event → List ℕ → List ShareState → List ShareState → Type 0
EachGoes w s done e [] olds news = (olds ≡ []) × (news ≡ [])
EachGoes w s done e (i ∷ is) [] news = ⊥
EachGoes w s done e (i ∷ is) (x ∷ xs) [] = ⊥
EachGoes w s done e (i ∷ is) (x ∷ xs) (y ∷ ys) = ShareGoes w s done e i x y × EachGoes w s done e is xs ys

-- they are the parts of this state with these numbers
abbrev pub AreShown : Fixed Rest → Machine Rest → List ℕ → List ShareState → Type 0
AreShown w s [] xs = xs ≡ []
AreShown w s (i ∷ is) [] = ⊥
AreShown w s (i ∷ is) (x ∷ xs) = IsPartOf w s i x.part × AreShown w s is xs

-- In each state that some run has come to and of which these are parts, the event is allowed, and those are what is made of them.
-- A fault comes of a Sync or a reply alone.
pub record Happens (w : Fixed Rest) (a : Act) (old new : List ShareState) : Type 0 where
  pub goes : (s : Machine Rest) → HasRun w s → AreShown w s (footprint w.text.logs (meant a)) old
      → IsAllowed w (meant a) s × EachGoes w s a.done (meant a) (footprint w.text.logs (meant a)) old new
  pub broken : a.done ≡ false → may_break (meant a) ≡ true

abbrev pub MayDo : Tables → Act → List ShareState → List ShareState → Type 0
MayDo t a = Happens (fixed_of t) a
