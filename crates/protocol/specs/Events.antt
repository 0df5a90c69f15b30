-- The 27 kinds of events, and the parts that each reads and changes: its footprint.
use Rattle.std.specs.Prelude.{ℕ, ◌+◌, ◌%◌, List, [], ◌∷◌, ◌++◌, map, Option, slice_get}
use Rattle.protocol.specs.Parts.{Ring, Book, Post, Desk, Log, Cell, Machine}

-- k is a batch, t a tid, a an actor, l a log, c a coordinator and n a transaction of the text
pub data Event : Type 0 where
  -- ---- the coordinators
  -- transaction n joins its queue
  Submit : (n : ℕ) → Event
  -- the token goes to coordinator c
  Pass : (c : ℕ) → Event
  -- batch k is made of waiting PACTs
  Form : (k : ℕ) → Event
  -- a waiting ACT gets tid t and begins
  Admit : (t : ℕ) → Event
  -- ---- the actors
  -- batch k is placed on actor a
  Arrive : (k : ℕ) (a : ℕ) → Event
  -- ACT t is placed on actor a, or dies there
  Ask : (t : ℕ) (a : ℕ) → Event
  -- a control comes to an actor that its transaction has an entry on
  Take : (t : ℕ) (a : ℕ) → Event
  -- a slice runs
  Run : (t : ℕ) (a : ℕ) → Event
  -- the control goes to another actor
  Send : (t : ℕ) (a : ℕ) → Event
  -- the result is noted
  End : (t : ℕ) (a : ℕ) → Event
  -- PACT t ended and owes actor a nothing
  Close : (t : ℕ) (a : ℕ) → Event
  -- batch k is complete on actor a, and its record is added
  Complete : (k : ℕ) (a : ℕ) → Event
  -- ---- the batches
  -- all records of log l become durable
  Sync : (l : ℕ) → Event
  -- the desk learns that batch k is complete on actor a, durably
  Note : (k : ℕ) (a : ℕ) → Event
  -- the commit record of batch k is added
  Commit : (k : ℕ) → Event
  -- it is durable
  Settle : (k : ℕ) → Event
  -- batch k failed, and takes all behind it along
  Abort : (k : ℕ) → Event
  -- actor a gives back what aborted batches did there
  Rollback : (a : ℕ) → Event
  -- messages that nobody will take are dropped
  DropSub : (k : ℕ) (a : ℕ) → Event
  DropControl : (t : ℕ) → Event
  -- ---- the ACTs
  -- the record of ACT t's state on actor a is added
  Prepare : (t : ℕ) (a : ℕ) → Event
  -- it is durable
  Vouch : (t : ℕ) (a : ℕ) → Event
  -- ACT t gets its place in the serial order; with a value its commit record is added
  Decide : (t : ℕ) → Event
  -- it is durable
  Seal : (t : ℕ) → Event
  -- ACT t leaves actor a
  Finish : (t : ℕ) (a : ℕ) → Event
  -- ---- the ends
  -- transaction n is answered
  Reply : (n : ℕ) → Event
  -- a settled batch leaves actor a
  Trim : (k : ℕ) (a : ℕ) → Event

-- ---- the parts by number: ring, book, post and desk, then the logs, then the cells

pub data Part (C : Type 0) : Type 0 where
  RingPart : Ring → Part C
  BookPart : Book → Part C
  PostPart : Post C → Part C
  DeskPart : Desk → Part C
  LogPart : Log → Part C
  CellPart : Cell C → Part C

abbrev pub parts : {C : Type 0} → Machine C → List (Part C)
parts s = RingPart s.ring ∷ BookPart s.book ∷ PostPart s.post ∷ DeskPart s.desk ∷ (map LogPart s.logs ++ map CellPart s.cells)

abbrev pub part : {C : Type 0} → Machine C → ℕ → Option (Part C)
part s i = slice_get (parts s) i

abbrev pub ring : ℕ
ring = 0

abbrev pub book : ℕ
book = 1

abbrev pub post : ℕ
post = 2

abbrev pub desk : ℕ
desk = 3

-- log l
abbrev pub log : ℕ → ℕ
log l = 4 + l

-- the cell of actor a, where there are so many logs
abbrev pub cell : ℕ → ℕ → ℕ
cell logs a = 4 + logs + a

-- the numbers of an event's parts, ascending
abbrev pub footprint : ℕ → Event → List ℕ
footprint logs (Submit n) = ring ∷ []
footprint logs (Pass c) = ring ∷ []
footprint logs (Form k) = ring ∷ post ∷ desk ∷ log (k % logs) ∷ []
footprint logs (Admit t) = ring ∷ book ∷ post ∷ []
footprint logs (Arrive k a) = book ∷ post ∷ cell logs a ∷ []
footprint logs (Ask t a) = book ∷ post ∷ cell logs a ∷ []
footprint logs (Take t a) = post ∷ cell logs a ∷ []
footprint logs (Run t a) = cell logs a ∷ []
footprint logs (Send t a) = post ∷ cell logs a ∷ []
footprint logs (End t a) = book ∷ desk ∷ cell logs a ∷ []
footprint logs (Close t a) = desk ∷ cell logs a ∷ []
footprint logs (Complete k a) = log (a % logs) ∷ cell logs a ∷ []
footprint logs (Sync l) = log l ∷ []
footprint logs (Note k a) = desk ∷ log (a % logs) ∷ []
footprint logs (Commit k) = desk ∷ log (k % logs) ∷ []
footprint logs (Settle k) = desk ∷ log (k % logs) ∷ []
footprint logs (Abort k) = ring ∷ book ∷ desk ∷ []
footprint logs (Rollback a) = book ∷ cell logs a ∷ []
footprint logs (DropSub k a) = book ∷ post ∷ []
footprint logs (DropControl t) = book ∷ post ∷ []
footprint logs (Prepare t a) = book ∷ log (a % logs) ∷ cell logs a ∷ []
footprint logs (Vouch t a) = book ∷ log (a % logs) ∷ []
footprint logs (Decide t) = book ∷ desk ∷ log (t % logs) ∷ []
footprint logs (Seal t) = book ∷ log (t % logs) ∷ []
footprint logs (Finish t a) = book ∷ cell logs a ∷ []
footprint logs (Reply n) = book ∷ desk ∷ []
footprint logs (Trim k a) = desk ∷ cell logs a ∷ []
