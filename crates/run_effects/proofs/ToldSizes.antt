-- How many bytes a record of the machine takes.
use Rattle.std.proofs.Common.{◌≡◌, ℕ, ℤ, ◌+◌, ◌≤◌, List, ◌++◌, length, arith}
use Rattle.std.proofs.lemmas.List.{length-append}
use Rattle.std.specs.Int.{to_be_bytes, w16}
use Rattle.snap_base.specs.declared.ids.ActorId.{ActorId}
use Rattle.snap_base.specs.declared.ids.Bid.{Bid}
use Rattle.snap_base.specs.declared.ids.Tid.{Tid}
use Rattle.snap_base.specs.declared.transactions.State.{State}
use Rattle.protocol.specs.Records.{LogRecord, BatchInfo, BatchComplete, BatchDone, ActPrepare, ActDone}
use Rattle.record_log.specs.txn_records.Records.{field_bytes, state_bytes, actors_bytes, tids_bytes, info_bytes, complete_bytes, prepare_bytes, values_bytes, done_bytes, act_done_bytes, record_bytes, IsState, IsInfo, IsDone, IsActDone, IsRecord}
use Rattle.record_log.proofs.txn_records.RecordSizes.{field_size, fields_size, state_size, actors_size, tids_size}
use Rattle.snap_hand.specs.log_set.Told.{told, bid_of, tid_of, actor_of, tids_of, actor_ids}
use Rattle.run_effects.specs.Sizes.{longest_told}

-- ---- one record, of which the longest is an info

info_size : (bid : Bid) (actors : List ActorId) (tids : List Tid) → IsInfo bid actors tids → length (info_bytes bid actors tids) ≤ longest_told
info_size bid actors tids is =
    let behind : List ℕ = to_be_bytes w16 (length tids) ++ tids_bytes tids in
    let all : length (info_bytes bid actors tids) ≡ 11 + length (actors_bytes actors ++ behind) = omega arith in
    let two : length behind ≡ 2 + length (tids_bytes tids) = omega arith in
    let sum = length-append (actors_bytes actors) behind in
    omega (arith, all, sum, two, actors_size actors, tids_size tids, is.few_actors, is.few_tids)

complete_size : (bid : Bid) (actor : ActorId) (state : State) → IsState state → length (complete_bytes bid actor state) ≤ longest_told
complete_size bid actor state is =
    let all : length (complete_bytes bid actor state) ≡ 11 + length (state_bytes state) = omega arith in
    let one = state_size state is in
    omega (arith, all, one)

prepare_size : (tid : Tid) (actor : ActorId) (state : State) → IsState state → length (prepare_bytes tid actor state) ≤ longest_told
prepare_size tid actor state is =
    let all : length (prepare_bytes tid actor state) ≡ 11 + length (state_bytes state) = omega arith in
    let one = state_size state is in
    omega (arith, all, one)

done_size : (bid : Bid) (values : List ℤ) → IsDone bid values → length (done_bytes bid values) ≤ longest_told
done_size bid values is =
    let all : length (done_bytes bid values) ≡ 11 + length (values_bytes values) = omega arith in
    omega (arith, all, fields_size values, is.few)

act_size : (tid : Tid) (m : Bid) (c : ℕ) (value : ℤ) (actors : List ActorId) → IsActDone tid m c value actors → length (act_done_bytes tid m c value actors) ≤ longest_told
act_size tid m c value actors is =
    let behind : List ℕ = to_be_bytes w16 (length actors) ++ actors_bytes actors in
    let all : length (act_done_bytes tid m c value actors) ≡ 25 + length (field_bytes value ++ behind) = omega arith in
    let two : length behind ≡ 2 + length (actors_bytes actors) = omega arith in
    omega (arith, all, length-append (field_bytes value) behind, field_size value, two, actors_size actors, is.few)

pub told_size : (r : LogRecord) → IsRecord (told r) → length (record_bytes (told r)) ≤ longest_told
told_size (BatchInfo bid actors tids) is = info_size (bid_of bid) (actor_ids actors) (tids_of tids) is
told_size (BatchComplete bid actor state) is = complete_size (bid_of bid) (actor_of actor) state is.is_state
told_size (BatchDone bid values) is = done_size (bid_of bid) values is
told_size (ActPrepare tid actor state) is = prepare_size (tid_of tid) (actor_of actor) state is.is_state
told_size (ActDone tid m c value actors) is = act_size (tid_of tid) (bid_of m) c value (actor_ids actors) is
