-- What is fixed during a run: the sizes, the transactions, the opening, and what a slice of a method does.
-- Actors, coordinators, logs, transactions, tids and batches are numbers. C is the type of controls.
use Rattle.std.specs.Prelude.{◌≡◌, ℕ, ◌-◌, ◌^◌, ◌<◌, ◌≤◌, ◌==◌, Bool, true, false, pos, List, [], map, length, replicate, slice_index_or}
use Rattle.std.specs.List.{AllByRecursion, list_any}
use Rattle.snap_base.specs.declared.transactions.TheConstants.{FIELDS}
use Rattle.snap_base.specs.declared.ids.ActorId.{ActorId}
use Rattle.snap_base.specs.declared.transactions.Kind.{Kind}
use Rattle.snap_base.specs.declared.transactions.Kind.TheVariants as kinds
use Rattle.snap_base.specs.declared.transactions.State.{State}
use Rattle.snap_base.specs.declared.transactions.Tx.{Tx}
use Rattle.snap_base.specs.declared.transactions.TxResult.{TxResult}

-- ---- method code: a control is the rest of a transaction

-- where a slice leaves its transaction: on the way to another actor, or at its end
pub data Next (C : Type 0) : Type 0 where
  Go : ℕ → C → Next C
  Ended : TxResult → Next C

pub record Sliced (C : Type 0) : Type 0 where
  pub state : State
  pub next : Next C

pub record Code (C : Type 0) : Type 0 where
  -- the control of a transaction, with its tid, that has not begun
  pub start : ℕ → Tx → C
  -- the actor on which it stands
  pub at : C → ℕ
  -- a frame stands on the actor, or declared calls to it are left
  pub rests_on : C → ℕ → Bool
  -- the actors on which a frame has stood
  pub visited : C → List ℕ
  -- a bound of the visits that are left, this one among them
  pub visits_left : C → ℕ
  -- runs on the state of the actor on which the control stands, until it leaves the actor or ends
  pub slice : C → State → Sliced C
  -- the transaction's method only reads, and each method that it calls only reads, too
  pub only_reads : Tx → Bool

-- ---- the text, its limits, and what earlier runs left

pub record Opening : Type 0 where
  pub states : List State
  pub next_tid : ℕ
  pub next_bid : ℕ
  pub next_c : ℕ

-- a work: what the machine is to do, and from where
pub record Text : Type 0 where
  pub coordinators : ℕ
  pub logs : ℕ
  -- the most PACTs of a batch, live batches and live ACTs
  pub batch : ℕ
  pub batches : ℕ
  pub acts : ℕ
  pub txs : List Tx
  pub opening : Opening

-- a text with the code of its methods
pub record Fixed (C : Type 0) : Type 0 where
  pub text : Text
  pub code : Code C

-- The last batch number of earlier runs. It stands where no batch of this run stands before.
abbrev pub base : Text → ℕ
base w = w.opening.next_bid - 1

abbrev pub no_state : State
no_state = record { 0 = replicate FIELDS (pos 0) }

abbrev pub no_tx : Tx
no_tx = record { kind = kinds.Act; actor = record { 0 = 0 }; method = 0; args = []; uses = [] }

-- transaction n of the text
abbrev pub tx_at : Text → ℕ → Tx
tx_at w n = slice_index_or w.txs n no_tx

abbrev pub is_pact_kind : Kind → Bool
is_pact_kind kinds.Pact = true
is_pact_kind kinds.Act = false

abbrev pub is_pact : Tx → Bool
is_pact tx = is_pact_kind tx.kind

abbrev pub root : Tx → ℕ
root tx = tx.actor.0

-- transaction n of the text, as an ACT, is a reader
abbrev pub is_reader : {C : Type 0} → Fixed C → ℕ → Bool
is_reader w n = w.code.only_reads (tx_at w.text n)

-- the actors that a PACT declares
abbrev pub declared : Tx → List ℕ
declared tx = map (λ u. u.0.0) tx.uses

-- ---- what is known of it

-- each actor that the transaction names is below this number, and a PACT declares its root
pub record IsTxOf (actors : ℕ) (tx : Tx) : Type 0 where
  pub root_exists : root tx < actors
  pub declared_exist : AllByRecursion (λ a. a < actors) (declared tx)
  pub declares_root : is_pact tx ≡ true → list_any (λ a. a == root tx) (declared tx) ≡ true

-- ---- the limits of a text, each named here and nowhere else

abbrev pub most_coordinators : ℕ
most_coordinators = 8

abbrev pub most_logs : ℕ
most_logs = 4

-- PACTs of a batch
abbrev pub most_pacts : ℕ
most_pacts = 256

-- live at one time
abbrev pub most_batches : ℕ
most_batches = 32

abbrev pub most_acts : ℕ
most_acts = 32

abbrev pub most_actors : ℕ
most_actors = 256

abbrev pub most_txs : ℕ
most_txs = 20000

-- actors that a PACT declares, and its calls of each
abbrev pub most_uses : ℕ
most_uses = 16

abbrev pub most_calls : ℕ
most_calls = 64

-- a number that a batch, a transaction or a commit may have
abbrev pub greatest_number : ℕ
greatest_number = 2 ^ 62

-- A number that a run begins with. A run draws no more numbers than it has transactions, so it stays below the greatest
-- one, and the logs that it leaves are taken again.
abbrev pub greatest_first : ℕ
greatest_first = greatest_number - 2 ^ 20

abbrev pub IsUseInRange : ActorId × ℕ → Type 0
IsUseInRange u = (1 ≤ u.1) × (u.1 ≤ most_calls)

pub record HasFewUses (tx : Tx) : Type 0 where
  pub few : length tx.uses ≤ most_uses
  pub calls : AllByRecursion IsUseInRange tx.uses

-- an accepted text, and an opening for it
pub record IsText (w : Text) : Type 0 where
  pub some_coordinators : 1 ≤ w.coordinators
  pub few_coordinators : w.coordinators ≤ most_coordinators
  pub some_logs : 1 ≤ w.logs
  pub few_logs : w.logs ≤ most_logs
  pub some_batch : 1 ≤ w.batch
  pub small_batch : w.batch ≤ most_pacts
  pub some_batches : 1 ≤ w.batches
  pub few_batches : w.batches ≤ most_batches
  pub some_acts : 1 ≤ w.acts
  pub few_acts : w.acts ≤ most_acts
  pub few_actors : length w.opening.states ≤ most_actors
  pub txs : AllByRecursion (IsTxOf (length w.opening.states)) w.txs
  pub uses : AllByRecursion HasFewUses w.txs
  pub few_txs : length w.txs ≤ most_txs
  pub tids : 1 ≤ w.opening.next_tid
  pub tids_fit : w.opening.next_tid ≤ greatest_first
  pub bids : 1 ≤ w.opening.next_bid
  pub bids_fit : w.opening.next_bid ≤ greatest_first
  pub cs : 1 ≤ w.opening.next_c
  pub cs_fit : w.opening.next_c ≤ greatest_first
