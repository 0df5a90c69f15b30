-- What an event, with what stands before it, makes of what a worker holds.
use Rattle.std.specs.List.{AllByRecursion}
use Rattle.std.specs.Prelude.{◌≡◌, ℕ, ◌<◌, ◌≤◌, Bool, true, false, is_some, Option, None, Some, Result, Ok, Err, List, [], ◌∷◌, ◌++◌, length}
use Rattle.aml_slice.specs.Controls.{Rest}
use Rattle.snap_hand.specs.core_rows.OnRuns.{HasRun}
use Rattle.crew_grip.specs.Grips.{CrewTurns, GripState, IsGripOf, share_at}
use Rattle.crew_grip.specs.declared.results.Acted.{Acted}
use Rattle.crew_grip.specs.declared.results.Acted.TheVariants as acted
use Rattle.crew_grip.specs.declared.results.NotDone.{NotDone}
use Rattle.crew_grip.specs.declared.results.NotDone.TheVariants as undone
use Rattle.core_events.specs.declared.events.Event as code
use Rattle.crew_parts.specs.Acts.{JournalGoes, OutputGoes, behind, may_break, meant}
use Rattle.crew_parts.specs.Besides.{IsSoundBeside}
use Rattle.crew_parts.specs.Crews.{Stands}
use Rattle.crew_parts.specs.Shares.{BesideState, ShareState}
use Rattle.crew_parts.specs.declared.acts.Act.{Act}
use Rattle.gate_log.specs.declared.logs.AppendNo.{AppendNo}
use Rattle.gate_log.specs.declared.logs.AppendNo.TheVariants as append
use Rattle.protocol.specs.Conditions.{IsAllowed}
use Rattle.protocol.specs.Events.{Event, desk, footprint, log}
use Rattle.protocol.specs.Fixed.{Fixed}
use Rattle.protocol.specs.Parts.{Machine}
use Rattle.protocol.specs.Words.{is_among}
use Rattle.snap_hand.specs.Hands.{Parts, Fits, IsHandOf, are_there}
use Rattle.snap_hand.specs.Steps.{IsRefusalOn, IsTakenOn}
use Rattle.snap_hand.specs.Tables.{fixed_of, text_of}
use Rattle.turn_table.specs.Places.{at, Covers, values}
use Rattle.turn_table.specs.Words.{tables_of, opening_of}

-- just the parts with these numbers are held
pub record IsJust (is : List ℕ) (held : List (Option ShareState)) : Type 0 where
  pub all : Covers (at held) is
  pub others : (i : ℕ) → is_among i is ≡ false → at held i ≡ None

-- It has just the parts that the event touches, and some run has come to these.
pub record IsJustHeld (turns : CrewTurns) (e : Event) (g : GripState) : Type 0 where
  pub held : List (Option ShareState)
  pub grip : IsGripOf (fixed_of (tables_of turns)) held g
  pub stands : Stands (fixed_of (tables_of turns)) (opening_of turns) held
  pub just : IsJust (footprint (text_of (tables_of turns)).logs e) held

-- the part is held, and what stands beside it can go on
pub record IsReadyAt (logs : ℕ) (g : GripState) (i : ℕ) : Type 0 where
  pub beside : BesideState
  pub there : at g.besides i ≡ Some beside
  pub sound : IsSoundBeside logs i beside

-- all parts that the event touches
abbrev pub AreReady : ℕ → Event → GripState → Type 0
AreReady logs e g = AllByRecursion (λ i. IsReadyAt logs g i) (footprint logs e)

-- in each state that the hand fits, the same condition of the event is the first false one
abbrev pub IsEventRefused : Fixed Rest → Event → Parts → Type 0
IsEventRefused w e h = (rule : ℕ) × ((1 ≤ rule) × IsRefusalOn w e h rule)

-- what stands beside each of them can go on
abbrev pub AreSound : ℕ → GripState → Type 0
AreSound logs g = (i : ℕ) (b : BesideState) → at g.besides i ≡ Some b → IsSoundBeside logs i b

-- what stands beside part i got what the event gives it
pub record BesideGoes (w : Fixed Rest) (s : Machine Rest) (done : Bool) (e : Event) (i : ℕ) (old new : BesideState) : Type 0 where
  pub journal : (l : ℕ) → l < w.text.logs → i ≡ log l → JournalGoes l done e s old.journal new.journal
  pub output : i ≡ desk → OutputGoes done e s old.output new.output

-- in each state that the hand fits
abbrev pub BesidesGo : Fixed Rest → Bool → Event → Parts → List (Option BesideState) → List (Option BesideState) → Type 0
BesidesGo w done e h old new =
    (s : Machine Rest) → HasRun w s → Fits h s → (i : ℕ) (a b : BesideState) → at old i ≡ Some a → at new i ≡ Some b → BesideGoes w s done e i a b

-- The outer work of the event was done, or met a fault: the same parts are held, and what stands beside them got what it gives.
pub record HasGoneOut (w : Fixed Rest) (done : Bool) (e : Event) (old new : GripState) : Type 0 where
  pub hand : new.hand ≡ old.hand
  pub besides : BesidesGo w done e old.hand old.besides new.besides
  pub many : length new.besides ≡ length old.besides
  pub there : (i : ℕ) → is_some (at new.besides i) ≡ is_some (at old.besides i)

-- why nothing was appended
abbrev pub why_of : AppendNo → NotDone
why_of append.Device = undone.Fault
why_of append.Shut = undone.Fault
why_of append.Memory = undone.Memory

abbrev pub IsOuter : Fixed Rest → Event → GripState → GripState → Result (Unit {0}) NotDone → Type 0
IsOuter w e old new (Ok _) = HasGoneOut w true e old new
IsOuter w e old new (Err undone.Fault) = (may_break e ≡ true) × HasGoneOut w false e old new
IsOuter w e old new (Err undone.Memory) = new ≡ old

-- In each state of a run that the hand fits the event is allowed; and where it was done, the hand fits the state after it. Where not,
-- it is one that may break.
pub record HasActed (w : Fixed Rest) (done : Bool) (e : Event) (old new : GripState) : Type 0 where
  pub allowed : (s : Machine Rest) → HasRun w s → Fits old.hand s → IsAllowed w e s
  pub fits : (s : Machine Rest) → HasRun w s → Fits old.hand s → Fits new.hand (behind w done e s)
  pub places : IsHandOf w new.hand
  pub same_parts : are_there new.hand ≡ are_there old.hand
  pub besides : BesidesGo w done e old.hand old.besides new.besides
  pub many : length new.besides ≡ length old.besides
  pub there : (i : ℕ) → is_some (at new.besides i) ≡ is_some (at old.besides i)
  pub broken : done ≡ false → may_break e ≡ true

-- The hand took the event, with the same parts, and what stands beside them stays.
pub record IsStepped (w : Fixed Rest) (e : Event) (old new : GripState) : Type 0 where
  pub taken : IsTakenOn w e old.hand new.hand
  pub places : IsHandOf w new.hand
  pub parts : are_there new.hand ≡ are_there old.hand
  pub besides : new.besides ≡ old.besides

-- ---- what is recorded

-- the shares of the act's footprint, as they are held now
abbrev pub made_in : GripState → Act → List ShareState
made_in g a = values (share_at g) (footprint (length g.hand.logs) (meant a))

-- one act more, where something was done
abbrev pub IsRecorded : code.Event → List (ℕ × Act) → List (ℕ × Act) → Acted → Type 0
IsRecorded e old new (acted.Done n) = new ≡ old ++ (n, record { event = e; done = true }) ∷ []
IsRecorded e old new (acted.Broken n) = new ≡ old ++ (n, record { event = e; done = false }) ∷ []
IsRecorded e old new _ = new ≡ old
