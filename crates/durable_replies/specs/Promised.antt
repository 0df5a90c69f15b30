-- What the traits of the outside promise of a call, by its answer and by what they tell before it and behind it.
use Rattle.std.specs.Prelude.{◌≡◌, ◌≢◌, ℕ, ◌+◌, ◌<◌, ◌≤◌, Option, Some, List, [], ◌++◌, length, take, drop}
use Rattle.std.specs.Io.KnownBytes.{Appends, Consumes, IsAtEnd, Keeps}
use Rattle.snap_outside.specs.Causes.{Rose}
use Rattle.snap_outside.specs.Disk.{DeviceHistory, content, AddsOperation, MayAdd}
use Rattle.snap_outside.specs.declared.devices.DevOp.{DevOp}
use Rattle.snap_outside.specs.declared.devices.DevOp.TheVariants.{Write, Sync}
use Rattle.durable_replies.specs.Bodies.{Answer, Failed, Done, Count, Bytes, Call, Length, Read, Change, Print, Trace, Take, Room}
use Rattle.durable_replies.specs.Plays.{Outside, Happening, Part, MayHappen, device_now, faults_in, input_now, part_of, printed_in, traced_in}

-- ---- a device

-- it is done, or has failed; a write that fails may have happened, and a sync that fails has not
abbrev pub IsChanged : DevOp → Answer → Option DeviceHistory → Option DeviceHistory → Type 0
IsChanged op Done old new = AddsOperation old new op
IsChanged (Write at bytes) Failed old new = MayAdd old new (Write at bytes)
IsChanged Sync Failed old new = new ≡ old
IsChanged op (Count n) old new = ⊥
IsChanged op (Bytes bytes) old new = ⊥

-- device d told this before the call, and tells that behind it
abbrev pub DeviceKeeps : ℕ → Call → Answer → DeviceHistory → DeviceHistory → Type 0
DeviceKeeps d (Length e) a old new = (new ≡ old) × (e ≡ d → (n : ℕ) → a ≡ Count n → n ≡ length (content old))
DeviceKeeps d (Read e at room) a old new = (new ≡ old) × (e ≡ d → (bytes : List ℕ) → a ≡ Bytes bytes → bytes ≡ take room (drop at (content old)))
DeviceKeeps d (Change e op) a old new = (e ≢ d → new ≡ old) × (e ≡ d → IsChanged op a (Some old) (Some new))
DeviceKeeps d (Print bytes) a old new = new ≡ old
DeviceKeeps d (Trace bytes) a old new = new ≡ old
DeviceKeeps d (Take room) a old new = new ≡ old
DeviceKeeps d (Room bytes) a old new = new ≡ old

-- ---- a sink, and the source

-- it took some of what it was offered, from the front; or it failed and took none
abbrev pub IsTaken : List ℕ → Answer → List ℕ → List ℕ → Type 0
IsTaken bytes (Count n) old new = (n ≤ length bytes) × (0 < length bytes → 0 < n) × Appends (Some old) (Some new) (take n bytes)
IsTaken bytes Failed old new = Keeps (Some old) (Some new)
IsTaken bytes Done old new = ⊥
IsTaken bytes (Bytes other) old new = ⊥

abbrev pub OutputKeeps : Call → Answer → List ℕ → List ℕ → Type 0
OutputKeeps (Print bytes) a old new = IsTaken bytes a old new
OutputKeeps (Length d) a old new = new ≡ old
OutputKeeps (Read d at room) a old new = new ≡ old
OutputKeeps (Change d op) a old new = new ≡ old
OutputKeeps (Trace bytes) a old new = new ≡ old
OutputKeeps (Take room) a old new = new ≡ old
OutputKeeps (Room bytes) a old new = new ≡ old

abbrev pub TraceKeeps : Call → Answer → List ℕ → List ℕ → Type 0
TraceKeeps (Trace bytes) a old new = IsTaken bytes a old new
TraceKeeps (Length d) a old new = new ≡ old
TraceKeeps (Read d at room) a old new = new ≡ old
TraceKeeps (Change d op) a old new = new ≡ old
TraceKeeps (Print bytes) a old new = new ≡ old
TraceKeeps (Take room) a old new = new ≡ old
TraceKeeps (Room bytes) a old new = new ≡ old

-- it gave bytes from the front, none into some room only at its end; or it failed and gave none
abbrev pub IsGiven : ℕ → Answer → List ℕ → List ℕ → Type 0
IsGiven room (Bytes bytes) old new = (length bytes ≤ room) × Consumes (Some old) (Some new) bytes × (bytes ≡ [] → 0 < room → IsAtEnd (Some new))
IsGiven room Failed old new = Keeps (Some old) (Some new)
IsGiven room Done old new = ⊥
IsGiven room (Count n) old new = ⊥

abbrev pub SourceKeeps : Call → Answer → List ℕ → List ℕ → Type 0
SourceKeeps (Take room) a old new = IsGiven room a old new
SourceKeeps (Length d) a old new = new ≡ old
SourceKeeps (Read d at room) a old new = new ≡ old
SourceKeeps (Change d op) a old new = new ≡ old
SourceKeeps (Print bytes) a old new = new ≡ old
SourceKeeps (Trace bytes) a old new = new ≡ old
SourceKeeps (Room bytes) a old new = new ≡ old

-- ---- all of them

-- A count of faults never falls, it rises where a call of the part fails, and at no other call.
pub record CountsFaults (c : Call) (a : Answer) (part : Part) (before now : ℕ) : Type 0 where
  pub later : before ≤ now
  pub failed : a ≡ Failed → part_of c ≡ part → Rose before now
  pub quiet : a ≢ Failed → now ≡ before
  pub others : part_of c ≢ part → now ≡ before

-- what happens at the call keeps what each trait promises
pub record KeepsPromises (o : Outside) (past : List Happening) (c : Call) (a : Answer) (new : List Happening) : Type 0 where
  pub devices : (d : ℕ) → DeviceKeeps d c a (device_now o past d) (device_now o (past ++ new) d)
  pub output : OutputKeeps c a (o.printed ++ printed_in past) (o.printed ++ printed_in (past ++ new))
  pub trace : TraceKeeps c a (o.traced ++ traced_in past) (o.traced ++ traced_in (past ++ new))
  pub source : SourceKeeps c a (input_now o past) (input_now o (past ++ new))
  pub faults : (part : Part) → CountsFaults c a part (o.faults part + faults_in part past) (o.faults part + faults_in part (past ++ new))

-- So each play is one with objects of these traits: what a function promises for all of them holds of it.
abbrev pub PlaysKeepPromises : Type 0
PlaysKeepPromises = (o : Outside) (past : List Happening) (c : Call) (a : Answer) (new : List Happening) → MayHappen o past c a new → KeepsPromises o past c a new
