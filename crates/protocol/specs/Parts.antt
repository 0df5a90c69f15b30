-- The parts of the machine: a ring of coordinators, the book of ACTs, the post, the desk of batches, a log
-- for each device, and a cell for each actor. Whose a number is (tid, batch, actor) its name says.
use Rattle.std.specs.Prelude.{ℕ, Bool, List, Option}
use Rattle.snap_base.specs.declared.transactions.State.{State}
use Rattle.snap_base.specs.declared.transactions.TxResult.{TxResult}
use Rattle.snap_base.specs.declared.verdicts.Verdict.{Verdict}
use Rattle.protocol.specs.Fixed.{Next}
use Rattle.protocol.specs.Records.{LogRecord}
use Rattle.protocol.specs.Rivals.{Lock}

-- ---- Ring: the token, the numbers that are drawn, and what waits at the coordinators

pub record Ring : Type 0 where
  -- the coordinator that has the token
  pub holder : ℕ
  -- the next transaction to submit, the next tid and the next batch number
  pub next_tx : ℕ
  pub next_tid : ℕ
  pub next_bid : ℕ
  -- how many cascades there were
  pub epoch : ℕ
  -- for each actor the last batch of this epoch that has it, 0 for none
  pub lasts : List ℕ
  -- for each coordinator the transactions that wait there, PACTs and ACTs
  pub pacts : List (List ℕ)
  pub acts : List (List ℕ)

-- ---- Book: the ACTs and the cascades

-- an actor that an ACT has joined
pub record Joined : Type 0 where
  pub actor : ℕ
  -- its state's record is added, the record is durable, the ACT has left the actor
  pub prepared : Bool
  pub vouched : Bool
  pub finished : Bool

pub data Status : Type 0 where
  Live : Status
  -- it is given up, for this reason
  Doomed : Verdict → Status
  -- it commits, as number c of the commits of ACTs
  Decided : (c : ℕ) → Status
  -- its commit is durable, or it failed by its own code and has nothing to keep
  Sealed : (c : ℕ) → Status

pub record Act : Type 0 where
  pub tid : ℕ
  pub tx : ℕ
  -- it only reads
  pub reader : Bool
  -- the before number: the greatest batch that stands before it
  pub m : ℕ
  -- the after number: the least batch that stands behind it
  pub n : Option ℕ
  -- in the order in which it joined them
  pub places : List Joined
  pub result : Option TxResult
  pub status : Status

-- an ACT stands behind another one, its rival, on an actor
pub record Pair : Type 0 where
  pub behind : ℕ
  pub ahead : ℕ
  pub actor : ℕ

-- a failing PACT took the batches from first to upto along
pub record Cascade : Type 0 where
  pub first : ℕ
  pub upto : ℕ
  -- the transaction that failed, the commit number that the next ACT would have drawn, and the code
  pub by : ℕ
  pub at : ℕ
  pub code : ℕ

pub record Book : Type 0 where
  pub next_c : ℕ
  pub cascades : List Cascade
  -- in the order in which they were admitted
  pub acts : List Act
  pub pairs : List Pair

-- ---- Post: what is under way, in the order of posting. Any of it may be taken next.

pub data Who : Type 0 where
  OfBatch : (bid : ℕ) → Who
  OfAct : (tid : ℕ) → Who

-- what an actor is told of a batch
pub record SubBatch : Type 0 where
  pub bid : ℕ
  pub actor : ℕ
  pub epoch : ℕ
  -- the batch before it on this actor in this epoch, or 0
  pub prev : ℕ
  -- those of its PACTs that declare the actor, ascending
  pub tids : List ℕ

-- a control on its way to an actor
pub record ControlMessage (C : Type 0) : Type 0 where
  pub tid : ℕ
  pub who : Who
  pub to : ℕ
  pub control : C

pub record Post (C : Type 0) : Type 0 where
  pub subs : List SubBatch
  pub controls : List (ControlMessage C)

-- ---- Desk: the batches

pub record Declared : Type 0 where
  pub actor : ℕ
  -- the batch is complete there, durably; the sub-batch has left the actor
  pub noted : Bool
  pub trimmed : Bool

pub record Pact : Type 0 where
  pub tid : ℕ
  pub tx : ℕ
  pub result : Option TxResult

pub data Stage : Type 0 where
  Formed : Stage
  Committing : Stage
  Settled : Stage

pub record Batch : Type 0 where
  pub bid : ℕ
  -- the actors that some PACT of it declares, ascending
  pub places : List Declared
  -- ascending by tid
  pub pacts : List Pact
  pub stage : Stage
  pub aborted : Bool

pub record Desk : Type 0 where
  -- in the order of their numbers
  pub batches : List Batch
  -- the greatest batch that is settled, at first base
  pub settled : ℕ
  -- for each transaction of the text whether it was replied to
  pub replied : List Bool

-- ---- Log: the records of this run, and how many of them, from the first on, are synced

pub record Log : Type 0 where
  pub records : List LogRecord
  pub synced : ℕ

-- ---- Cell: one actor

pub record Slot : Type 0 where
  pub tid : ℕ
  pub done : Bool

-- a batch on one actor
pub record PlacedBatch : Type 0 where
  pub bid : ℕ
  -- ascending by tid
  pub slots : List Slot
  pub complete : Bool

pub data Entry : Type 0 where
  BatchEntry : PlacedBatch → Entry
  ActEntry : Lock → Entry

-- the actor's state when somebody first ran there
pub record Image : Type 0 where
  pub who : Who
  pub state : State

-- a control that has arrived
pub record Waiting (C : Type 0) : Type 0 where
  pub tid : ℕ
  pub control : C

-- what a slice ended with, before it is passed on
pub record Outcome (C : Type 0) : Type 0 where
  pub tid : ℕ
  pub next : Next C

-- the greatest before number of an ACT that left sealed, at first base: of those that are no readers, and of readers
pub record FloorPair : Type 0 where
  pub write : ℕ
  pub read : ℕ

pub record Cell (C : Type 0) : Type 0 where
  pub state : State
  -- in the order in which they were taken
  pub images : List Image
  pub epoch : ℕ
  -- the greatest batch that was placed and not rolled back, at first base
  pub last : ℕ
  -- the greatest batch that was trimmed, at first base
  pub last_trimmed : ℕ
  -- the last batch that was placed in this epoch, or 0
  pub tail : ℕ
  pub floors : FloorPair
  -- the schedule, in order
  pub entries : List Entry
  pub inbox : List (Waiting C)
  pub outbox : List (Outcome C)

-- ---- the machine

pub record Machine (C : Type 0) : Type 0 where
  pub ring : Ring
  pub book : Book
  pub post : Post C
  pub desk : Desk
  pub logs : List Log
  pub cells : List (Cell C)
