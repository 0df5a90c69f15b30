-- How many bytes a record takes.
use Rattle.std.proofs.Common.{◌≡◌, ℕ, ℤ, ◌+◌, ◌-◌, ◌*◌, ◌≤◌, List, [], ◌∷◌, ◌++◌, length, refl, sym, ◌∙◌, ap, arith}
use Rattle.std.proofs.lemmas.List.{length-append}
use Rattle.std.specs.Int.{to_be_bytes, w16}
use Rattle.std.specs.List.{AllByRecursion, flat_map}
use Rattle.snap_base.specs.declared.ids.ActorId.{ActorId}
use Rattle.snap_base.specs.declared.ids.Bid.{Bid}
use Rattle.snap_base.specs.declared.ids.Tid.{Tid}
use Rattle.snap_base.specs.declared.transactions.State.{State}
use Rattle.txn_records.specs.declared.limits.TheConstants.{LONGEST_RECORD}
use Rattle.txn_records.specs.declared.records.Record.{Record}
use Rattle.txn_records.specs.declared.records.Record.TheVariants.{Genesis, BatchInfo, BatchComplete, BatchCommit, ActPrepare, ActCommit, BatchDone, ActDone, Checkpoint}
use Rattle.txn_records.specs.Records.{field_bytes, state_bytes, states_bytes, actors_bytes, tids_bytes, genesis_bytes, info_bytes, complete_bytes, prepare_bytes, act_bytes, done_bytes, act_done_bytes, checkpoint_bytes, values_bytes, record_bytes, IsState, IsGenesis, IsInfo, IsAct, IsDone, IsActDone, IsCheckpoint, IsRecord}
use Rattle.txn_records.specs.Stops.{Stops}
use Rattle.txn_records.specs.Texts.{RecordTexts}

-- ---- lists of things that take so many bytes each

pub field_size : (z : ℤ) → length (field_bytes z) ≡ 8
unfolding field_bytes
field_size z = refl

pub fields_size : (zs : List ℤ) → length (flat_map field_bytes zs) ≡ 8 * length zs
fields_size [] = refl
fields_size (z ∷ zs) = omega (arith, length-append (field_bytes z) (flat_map field_bytes zs), field_size z, fields_size zs)

pub state_size : (s : State) → IsState s → length (state_bytes s) ≡ 128
unfolding state_bytes
state_size s is = fields_size s.0 ∙ ap (λ (n : ℕ). 8 * n) is.len

states_size : (ss : List State) → AllByRecursion IsState ss → length (states_bytes ss) ≡ 128 * length ss
states_size [] are = refl
states_size (s ∷ ss) are = omega (arith, length-append (state_bytes s) (states_bytes ss), state_size s are.0, states_size ss are.1)

pub actors_size : (actors : List ActorId) → length (actors_bytes actors) ≡ 2 * length actors
actors_size [] = refl
actors_size (a ∷ actors) = omega (arith, actors_size actors)

pub tids_size : (ts : List Tid) → length (tids_bytes ts) ≡ 8 * length ts
tids_size [] = refl
tids_size (t ∷ ts) = omega (arith, tids_size ts)

-- ---- one record, of which the longest is a Checkpoint of 256 states

abbrev pub IsSize : ℕ → Type 0
IsSize n = (1 ≤ n) × (n ≤ LONGEST_RECORD)

genesis_size : (logs : ℕ) (states : List State) → IsGenesis logs states → IsSize (length (genesis_bytes logs states))
genesis_size logs states is =
    let all : length (genesis_bytes logs states) ≡ 4 + length (states_bytes states) = omega arith in
    let each = states_size states is.each in
    (omega (arith, all), omega (arith, all, each, is.few))

info_size : (bid : Bid) (actors : List ActorId) (tids : List Tid) → IsInfo bid actors tids → IsSize (length (info_bytes bid actors tids))
info_size bid actors tids is =
    let behind : List ℕ = to_be_bytes w16 (length tids) ++ tids_bytes tids in
    let all : length (info_bytes bid actors tids) ≡ 11 + length (actors_bytes actors ++ behind) = omega arith in
    let two : length behind ≡ 2 + length (tids_bytes tids) = omega arith in
    let sum = length-append (actors_bytes actors) behind in
    (omega (arith, all), omega (arith, all, sum, two, actors_size actors, tids_size tids, is.few_actors, is.few_tids))

complete_size : (bid : Bid) (actor : ActorId) (state : State) → IsState state → IsSize (length (complete_bytes bid actor state))
complete_size bid actor state is =
    let all : length (complete_bytes bid actor state) ≡ 11 + length (state_bytes state) = omega arith in
    let one = state_size state is in
    (omega (arith, all), omega (arith, all, one))

prepare_size : (tid : Tid) (actor : ActorId) (state : State) → IsState state → IsSize (length (prepare_bytes tid actor state))
prepare_size tid actor state is =
    let all : length (prepare_bytes tid actor state) ≡ 11 + length (state_bytes state) = omega arith in
    let one = state_size state is in
    (omega (arith, all), omega (arith, all, one))

act_size : (tid : Tid) (m : Bid) (c : ℕ) (actors : List ActorId) → IsAct tid m c actors → IsSize (length (act_bytes tid m c actors))
act_size tid m c actors is =
    let all : length (act_bytes tid m c actors) ≡ 27 + length (actors_bytes actors) = omega arith in
    (omega (arith, all), omega (arith, all, actors_size actors, is.few))

done_size : (bid : Bid) (values : List ℤ) → IsDone bid values → IsSize (length (done_bytes bid values))
done_size bid values is =
    let all : length (done_bytes bid values) ≡ 11 + length (values_bytes values) = omega arith in
    (omega (arith, all), omega (arith, all, fields_size values, is.few))

act_done_size : (tid : Tid) (m : Bid) (c : ℕ) (value : ℤ) (actors : List ActorId) → IsActDone tid m c value actors → IsSize (length (act_done_bytes tid m c value actors))
act_done_size tid m c value actors is =
    let behind : List ℕ = to_be_bytes w16 (length actors) ++ actors_bytes actors in
    let all : length (act_done_bytes tid m c value actors) ≡ 25 + length (field_bytes value ++ behind) = omega arith in
    let two : length behind ≡ 2 + length (actors_bytes actors) = omega arith in
    let sum = length-append (field_bytes value) behind in
    (omega (arith, all), omega (arith, all, sum, two, field_size value, actors_size actors, is.few))

checkpoint_size : (generation : ℕ) (next_tid : Tid) (next_bid : Bid) (next_c batches acts : ℕ) (states : List State) → IsCheckpoint generation next_tid next_bid next_c batches acts states
    → IsSize (length (checkpoint_bytes generation next_tid next_bid next_c batches acts states))
checkpoint_size generation next_tid next_bid next_c batches acts states is =
    let all : length (checkpoint_bytes generation next_tid next_bid next_c batches acts states) ≡ 51 + length (states_bytes states) = omega arith in
    let each = states_size states is.each in
    (omega (arith, all), omega (arith, all, each, is.few))

pub record_size : (r : Record) → IsRecord r → IsSize (length (record_bytes r))
record_size (Genesis logs states) is = genesis_size logs states is
record_size (BatchInfo bid actors tids) is = info_size bid actors tids is
record_size (BatchComplete bid actor state) is = complete_size bid actor state is.is_state
record_size (BatchCommit bid) is = (omega arith, omega arith)
record_size (ActPrepare tid actor state) is = prepare_size tid actor state is.is_state
record_size (ActCommit tid m c actors) is = act_size tid m c actors is
record_size (BatchDone bid values) is = done_size bid values is
record_size (ActDone tid m c value actors) is = act_done_size tid m c value actors is
record_size (Checkpoint generation next_tid next_bid next_c batches acts states) is = checkpoint_size generation next_tid next_bid next_c batches acts states is

-- ---- what goes on as a record does is no longer than one

pub gone_is_short : (bytes : List ℕ) (left : ℕ) → Stops RecordTexts bytes left → length bytes - left ≤ LONGEST_RECORD
gone_is_short bytes left stop =
    let here : length bytes ≡ length stop.front + length stop.behind = ap (λ (l : List ℕ). length l) stop.parts ∙ length-append stop.front stop.behind in
    let goes : length (record_bytes stop.goes.2.0) ≡ length stop.front + length stop.goes.1 =
    sym (ap (λ (l : List ℕ). length l) stop.goes.2.2) ∙ ap (λ (l : List ℕ). length l) stop.goes.3 ∙ length-append stop.front stop.goes.1 in
    let short = record_size stop.goes.2.0 stop.goes.2.1 in
    omega (arith, here, goes, short.1, stop.left_is)
