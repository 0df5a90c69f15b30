-- What a record is, as bytes, and what is no record.
use Rattle.std.specs.Prelude.{ℕ, ℤ, ◌+◌, ◌<◌, ◌≤◌, ◌^◌, List, [], ◌∷◌, ◌++◌, length, FitsSigned, ⊤}
use Rattle.std.specs.List.{AllByRecursion, flat_map}
use Rattle.std.specs.Int.{to_be_bytes, cast_unsigned, w16, w64}
use Rattle.txn_records.specs.declared.limits.TheConstants.{MOST_ACT_ACTORS, MOST_LISTED, MOST_LOGS}
pub use Rattle.snap_base.specs.States.{IsState, actor_numbers, tid_numbers}
use Rattle.snap_base.specs.declared.ids.ActorId.{ActorId}
use Rattle.snap_base.specs.declared.ids.Bid.{Bid}
use Rattle.snap_base.specs.declared.ids.Tid.{Tid}
use Rattle.snap_base.specs.declared.transactions.State.{State}
use Rattle.txn_records.specs.declared.records.Record.{Record}
use Rattle.txn_records.specs.declared.records.Record.TheVariants.{Genesis, BatchInfo, BatchComplete, BatchCommit, ActPrepare, ActCommit, BatchDone, ActDone, Checkpoint}
use Rattle.txn_records.specs.declared.keys.Key.{Key}
use Rattle.txn_records.specs.declared.keys.Key.TheVariants as keys

-- ---- the spelling

-- a number with a sign stands in two's complement
unfoldable pub field_bytes : ℤ → List ℕ
field_bytes z = to_be_bytes w64 (cast_unsigned w64 z)

unfoldable pub state_bytes : State → List ℕ
state_bytes s = flat_map field_bytes s.0

abbrev pub states_bytes : List State → List ℕ
states_bytes states = flat_map state_bytes states

abbrev pub actors_bytes : List ActorId → List ℕ
actors_bytes actors = flat_map (λ (a : ActorId). to_be_bytes w16 a.0) actors

abbrev pub tids_bytes : List Tid → List ℕ
tids_bytes tids = flat_map (λ (t : Tid). to_be_bytes w64 t.0) tids

abbrev pub counted_states_bytes : List State → List ℕ
counted_states_bytes states = to_be_bytes w16 (length states) ++ states_bytes states

abbrev pub genesis_bytes : ℕ → List State → List ℕ
genesis_bytes logs states = (1 ∷ logs ∷ []) ++ counted_states_bytes states

abbrev pub info_bytes : Bid → List ActorId → List Tid → List ℕ
info_bytes bid actors tids =
    (2 ∷ []) ++ (to_be_bytes w64 bid.0
    ++ (to_be_bytes w16 (length actors) ++ (actors_bytes actors ++ (to_be_bytes w16 (length tids) ++ tids_bytes tids))))

abbrev pub complete_bytes : Bid → ActorId → State → List ℕ
complete_bytes bid actor state = (3 ∷ []) ++ (to_be_bytes w64 bid.0 ++ (to_be_bytes w16 actor.0 ++ state_bytes state))

abbrev pub commit_bytes : Bid → List ℕ
commit_bytes bid = (4 ∷ []) ++ to_be_bytes w64 bid.0

abbrev pub prepare_bytes : Tid → ActorId → State → List ℕ
prepare_bytes tid actor state = (5 ∷ []) ++ (to_be_bytes w64 tid.0 ++ (to_be_bytes w16 actor.0 ++ state_bytes state))

abbrev pub act_bytes : Tid → Bid → ℕ → List ActorId → List ℕ
act_bytes tid m c actors =
    (6 ∷ []) ++ (to_be_bytes w64 tid.0 ++ (to_be_bytes w64 m.0 ++ (to_be_bytes w64 c ++ (to_be_bytes w16 (length actors) ++ actors_bytes actors))))

abbrev pub values_bytes : List ℤ → List ℕ
values_bytes values = flat_map field_bytes values

abbrev pub done_bytes : Bid → List ℤ → List ℕ
done_bytes bid values = (7 ∷ []) ++ (to_be_bytes w64 bid.0 ++ (to_be_bytes w16 (length values) ++ values_bytes values))

abbrev pub act_done_bytes : Tid → Bid → ℕ → ℤ → List ActorId → List ℕ
act_done_bytes tid m c value actors =
    (8 ∷ []) ++ (to_be_bytes w64 tid.0 ++ (to_be_bytes w64 m.0 ++ (to_be_bytes w64 c
    ++ (field_bytes value ++ (to_be_bytes w16 (length actors) ++ actors_bytes actors)))))

-- the generation and the next numbers of a Checkpoint
abbrev pub next_bytes : ℕ → Tid → Bid → ℕ → List ℕ
next_bytes generation next_tid next_bid next_c =
    (16 ∷ []) ++ (to_be_bytes w64 generation ++ (to_be_bytes w64 next_tid.0 ++ (to_be_bytes w64 next_bid.0 ++ to_be_bytes w64 next_c)))

-- its counts and its states
abbrev pub so_far_bytes : ℕ → ℕ → List State → List ℕ
so_far_bytes batches acts states = to_be_bytes w64 batches ++ (to_be_bytes w64 acts ++ counted_states_bytes states)

abbrev pub checkpoint_bytes : ℕ → Tid → Bid → ℕ → ℕ → ℕ → List State → List ℕ
checkpoint_bytes generation next_tid next_bid next_c batches acts states = next_bytes generation next_tid next_bid next_c ++ so_far_bytes batches acts states

abbrev pub record_bytes : Record → List ℕ
record_bytes (Genesis logs states) = genesis_bytes logs states
record_bytes (BatchInfo bid actors tids) = info_bytes bid actors tids
record_bytes (BatchComplete bid actor state) = complete_bytes bid actor state
record_bytes (BatchCommit bid) = commit_bytes bid
record_bytes (ActPrepare tid actor state) = prepare_bytes tid actor state
record_bytes (ActCommit tid m c actors) = act_bytes tid m c actors
record_bytes (BatchDone bid values) = done_bytes bid values
record_bytes (ActDone tid m c value actors) = act_done_bytes tid m c value actors
record_bytes (Checkpoint generation next_tid next_bid next_c batches acts states) = checkpoint_bytes generation next_tid next_bid next_c batches acts states

-- ---- what has a spelling

abbrev pub IsCount : ℕ → Type 0
IsCount n = (1 ≤ n) × (n ≤ MOST_LISTED)

-- the numbers ascend strictly, from `low` on, and stay below `limit`
abbrev pub Ascend : ℕ → ℕ → List ℕ → Type 0
Ascend low limit [] = ⊤
Ascend low limit (n ∷ ns) = (low ≤ n) × (n < limit) × Ascend (n + 1) limit ns

pub record IsGenesis (logs : ℕ) (states : List State) : Type 0 where
  pub some_logs : 1 ≤ logs
  pub few_logs : logs ≤ MOST_LOGS
  pub some : 1 ≤ length states
  pub few : length states ≤ MOST_LISTED
  pub each : AllByRecursion IsState states

pub record IsInfo (bid : Bid) (actors : List ActorId) (tids : List Tid) : Type 0 where
  pub bid_fits : bid.0 < 2 ^ 64
  pub some_actors : 1 ≤ length actors
  pub few_actors : length actors ≤ MOST_LISTED
  pub actors_ascend : Ascend 0 (2 ^ 16) (actor_numbers actors)
  pub some_tids : 1 ≤ length tids
  pub few_tids : length tids ≤ MOST_LISTED
  pub tids_ascend : Ascend 0 (2 ^ 64) (tid_numbers tids)

pub record IsComplete (bid : Bid) (actor : ActorId) (state : State) : Type 0 where
  pub bid_fits : bid.0 < 2 ^ 64
  pub actor_fits : actor.0 < 2 ^ 16
  pub is_state : IsState state

pub record IsCommit (bid : Bid) : Type 0 where
  pub bid_fits : bid.0 < 2 ^ 64

pub record IsPrepare (tid : Tid) (actor : ActorId) (state : State) : Type 0 where
  pub tid_fits : tid.0 < 2 ^ 64
  pub actor_fits : actor.0 < 2 ^ 16
  pub is_state : IsState state

pub record IsAct (tid : Tid) (m : Bid) (c : ℕ) (actors : List ActorId) : Type 0 where
  pub tid_fits : tid.0 < 2 ^ 64
  pub m_fits : m.0 < 2 ^ 64
  pub c_fits : c < 2 ^ 64
  pub some : 1 ≤ length actors
  pub few : length actors ≤ MOST_ACT_ACTORS
  pub ascend : Ascend 0 (2 ^ 16) (actor_numbers actors)

pub record IsDone (bid : Bid) (values : List ℤ) : Type 0 where
  pub bid_fits : bid.0 < 2 ^ 64
  pub some : 1 ≤ length values
  pub few : length values ≤ MOST_LISTED
  pub each : AllByRecursion (FitsSigned w64) values

pub record IsActDone (tid : Tid) (m : Bid) (c : ℕ) (value : ℤ) (actors : List ActorId) : Type 0 where
  pub tid_fits : tid.0 < 2 ^ 64
  pub m_fits : m.0 < 2 ^ 64
  pub c_fits : c < 2 ^ 64
  pub value_fits : FitsSigned w64 value
  pub some : 1 ≤ length actors
  pub few : length actors ≤ MOST_ACT_ACTORS
  pub ascend : Ascend 0 (2 ^ 16) (actor_numbers actors)

pub record IsCheckpoint (generation : ℕ) (next_tid : Tid) (next_bid : Bid) (next_c batches acts : ℕ) (states : List State) : Type 0 where
  pub some_generation : 1 ≤ generation
  pub generation_fits : generation < 2 ^ 64
  pub some_tid : 1 ≤ next_tid.0
  pub tid_fits : next_tid.0 < 2 ^ 64
  pub some_bid : 1 ≤ next_bid.0
  pub bid_fits : next_bid.0 < 2 ^ 64
  pub some_c : 1 ≤ next_c
  pub c_fits : next_c < 2 ^ 64
  pub batches_fit : batches < 2 ^ 64
  pub acts_fit : acts < 2 ^ 64
  pub some : 1 ≤ length states
  pub few : length states ≤ MOST_LISTED
  pub each : AllByRecursion IsState states

abbrev pub IsRecord : Record → Type 0
IsRecord (Genesis logs states) = IsGenesis logs states
IsRecord (BatchInfo bid actors tids) = IsInfo bid actors tids
IsRecord (BatchComplete bid actor state) = IsComplete bid actor state
IsRecord (BatchCommit bid) = IsCommit bid
IsRecord (ActPrepare tid actor state) = IsPrepare tid actor state
IsRecord (ActCommit tid m c actors) = IsAct tid m c actors
IsRecord (BatchDone bid values) = IsDone bid values
IsRecord (ActDone tid m c value actors) = IsActDone tid m c value actors
IsRecord (Checkpoint generation next_tid next_bid next_c batches acts states) = IsCheckpoint generation next_tid next_bid next_c batches acts states

-- ---- what a record is about

abbrev pub key : Record → Key
key (Genesis logs states) = keys.Genesis
key (BatchInfo bid actors tids) = keys.Info bid
key (BatchComplete bid actor state) = keys.Complete bid actor
key (BatchCommit bid) = keys.Commit bid
key (ActPrepare tid actor state) = keys.Prepare tid actor
key (ActCommit tid m c actors) = keys.Act tid
key (BatchDone bid values) = keys.Commit bid
key (ActDone tid m c value actors) = keys.Act tid
key (Checkpoint generation next_tid next_bid next_c batches acts states) = keys.Checkpoint
