-- What happens outside while a body runs: one list, in the order in which it happens. What each device got and what the output took are
-- read off it.
use Rattle.std.specs.Prelude.{◌≡◌, ℕ, ◌^◌, ◌<◌, ◌≤◌, ◌==◌, Bool, true, false, if◌then◌else◌, List, [], ◌∷◌, ◌++◌, length, take, drop, filter}
use Rattle.std.specs.List.{flat_map}
use Rattle.snap_outside.specs.declared.devices.DevOp.{DevOp}
use Rattle.snap_outside.specs.declared.devices.DevOp.TheVariants.{Write}
use Rattle.snap_outside.specs.Disk.{DeviceHistory, content, with_ops}
use Rattle.durable_replies.specs.Bodies.{Answer, Failed, Done, Count, Bytes, Body, Calls, Call, Length, Read, Change, Print, Trace, Take, Room}

-- ---- what happens

-- the parts of the outside, to one of which each call is made
pub data Part : Type 0 where
  device : (d : ℕ) → Part
  output : Part
  tracing : Part
  source : Part
  memory : Part

pub data Happening : Type 0 where
  -- device d got an operation
  Made : (d : ℕ) → DevOp → Happening
  -- the output took these bytes, or the trace did
  Printed : List ℕ → Happening
  Traced : List ℕ → Happening
  -- the input gave these bytes
  Given : List ℕ → Happening
  -- a call failed
  Broke : Part → Happening

-- ---- what it comes to

abbrev pub op_on : ℕ → Happening → List DevOp
op_on d (Made e op) = if e == d then op ∷ [] else []
op_on d (Printed bytes) = []
op_on d (Traced bytes) = []
op_on d (Given bytes) = []
op_on d (Broke part) = []

-- the operations that device d got, in order
abbrev pub ops_on : ℕ → List Happening → List DevOp
ops_on d hs = flat_map (op_on d) hs

abbrev pub printed_at : Happening → List ℕ
printed_at (Made e op) = []
printed_at (Printed bytes) = bytes
printed_at (Traced bytes) = []
printed_at (Given bytes) = []
printed_at (Broke part) = []

-- the bytes that the output took
abbrev pub printed_in : List Happening → List ℕ
printed_in hs = flat_map printed_at hs

abbrev pub traced_at : Happening → List ℕ
traced_at (Made e op) = []
traced_at (Printed bytes) = []
traced_at (Traced bytes) = bytes
traced_at (Given bytes) = []
traced_at (Broke part) = []

-- the bytes that the trace took
abbrev pub traced_in : List Happening → List ℕ
traced_in hs = flat_map traced_at hs

abbrev pub given_at : Happening → List ℕ
given_at (Made e op) = []
given_at (Printed bytes) = []
given_at (Traced bytes) = []
given_at (Given bytes) = bytes
given_at (Broke part) = []

-- the bytes that the input gave
abbrev pub given_in : List Happening → List ℕ
given_in hs = flat_map given_at hs

abbrev pub is_part : Part → Part → Bool
is_part (device d) (device e) = d == e
is_part output output = true
is_part tracing tracing = true
is_part source source = true
is_part memory memory = true
is_part _ _ = false

abbrev pub breaks : Part → Happening → Bool
breaks part (Made e op) = false
breaks part (Printed bytes) = false
breaks part (Traced bytes) = false
breaks part (Given bytes) = false
breaks part (Broke other) = is_part part other

-- how many calls of it failed
abbrev pub faults_in : Part → List Happening → ℕ
faults_in part hs = length (filter (breaks part) hs)

-- ---- what answers

-- The outside as a body begins: the words that it is given, the bytes of the input, the devices, what output and trace have taken before,
-- and how many calls of each part have failed before.
pub record Outside : Type 0 where
  pub words : List (List ℕ)
  pub input : List ℕ
  pub devices : ℕ → DeviceHistory
  pub printed : List ℕ
  pub traced : List ℕ
  pub faults : Part → ℕ

-- device d once this has happened
abbrev pub device_now : Outside → List Happening → ℕ → DeviceHistory
device_now o hs d = with_ops (o.devices d) (ops_on d hs)

-- what it holds
abbrev pub content_now : Outside → List Happening → ℕ → List ℕ
content_now o hs d = content (device_now o hs d)

-- what the input has not given yet
abbrev pub input_now : Outside → List Happening → List ℕ
input_now o hs = drop (length (given_in hs)) o.input

-- the part to which the call is made
abbrev pub part_of : Call → Part
part_of (Length d) = device d
part_of (Read d at room) = device d
part_of (Change d op) = device d
part_of (Print bytes) = output
part_of (Trace bytes) = tracing
part_of (Take room) = source
part_of (Room bytes) = memory

-- What a call may answer once all this has happened, and what happens then. Each call may fail; and a write that fails may have happened.
pub data MayHappen (o : Outside) (past : List Happening) : Call → Answer → List Happening → Type 0 where
  told_length : (d : ℕ) → length (content_now o past d) < 2 ^ 64 → MayHappen o past (Length d) (Count (length (content_now o past d))) []
  read : (d at room : ℕ) → MayHappen o past (Read d at room) (Bytes (take room (drop at (content_now o past d)))) []
  changed : (d : ℕ) (op : DevOp) → MayHappen o past (Change d op) Done (Made d op ∷ [])
  -- some bytes from the front, where there are some
  printed : (bytes : List ℕ) (n : ℕ) → n ≤ length bytes → (0 < length bytes → 0 < n) → MayHappen o past (Print bytes) (Count n) (Printed (take n bytes) ∷ [])
  traced : (bytes : List ℕ) (n : ℕ) → n ≤ length bytes → (0 < length bytes → 0 < n) → MayHappen o past (Trace bytes) (Count n) (Traced (take n bytes) ∷ [])
  -- some of what is left, where some is left and there is room
  given : (front rest : List ℕ) (room : ℕ) → input_now o past ≡ front ++ rest → length front ≤ room → (front ≡ [] → 0 < room → rest ≡ [])
      → MayHappen o past (Take room) (Bytes front) (Given front ∷ [])
  had_room : (bytes : ℕ) → MayHappen o past (Room bytes) Done []
  failed : (c : Call) → MayHappen o past c Failed (Broke (part_of c) ∷ [])
  failed_behind : (d at : ℕ) (bytes : List ℕ) → MayHappen o past (Change d (Write at bytes)) Failed (Made d (Write at bytes) ∷ Broke (device d) ∷ [])

-- A play of a body, cut off anywhere: these happened before it, all this has happened now, and so the body goes on.
pub data Play (o : Outside) : Body → List Happening → Body → List Happening → Type 0 where
  stands : {b : Body} {hs : List Happening} → Play o b hs b hs
  goes : {c : Call} {next : Answer → Body} {past new all : List Happening} {a : Answer} {rest : Body}
      → MayHappen o past c a new → Play o (next a) (past ++ new) rest all → Play o (Calls c next) past rest all
