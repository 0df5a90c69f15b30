-- The fields of a record, one behind the other: a stop at any of them is a stop of the record.
use Rattle.std.proofs.Common.{◌≡◌, ℕ, ℤ, ◌^◌, List, [], ◌++◌, pos, refl, sym, ◌∙◌, arith, FitsSigned}
use Rattle.std.specs.Int.{w16, w64, to_be_bytes}
use Rattle.snap_base.specs.declared.ids.ActorId.{ActorId}
use Rattle.snap_base.specs.declared.ids.Tid.{Tid}
use Rattle.snap_base.specs.declared.transactions.State.{State}
use Rattle.txn_records.specs.declared.numbers.Stop.{Stop}
use Rattle.txn_records.specs.Records.{IsState, field_bytes, state_bytes, states_bytes, actors_bytes, tids_bytes, values_bytes}
use Rattle.txn_records.specs.Stops.{IsWhyUnread, Any, Nil, Seq}
use Rattle.txn_records.specs.Numbers.{Between}
use Rattle.txn_records.specs.Texts.{one_byte, AreStates, AreActors, AreTids, AreValues, Count, FewCount, Number, SomeNumber, Actor, Field, GenesisTexts, InfoTexts, CompleteTexts, CommitTexts, ActTexts, DoneTexts, ActDoneTexts, CheckpointTexts, CountedStates}
use Rattle.txn_records.proofs.OneRecord.{SpelledApart, apart_through, apart16, apart64, Below, lists_apart, actors_apart, tids_apart, fields_apart, states_apart, actor_bytes, tid_bytes, IsActor, IsTid, are_actors, are_tids}
use Rattle.txn_records.proofs.Digits.{bytes_apart}
use Rattle.txn_records.proofs.Lists.{copies, are_copies, row, row_rises, fails_first, fails_after}

-- ---- no spelling of a field begins another

number_apart : SpelledApart (Between 0 18446744073709551615) (to_be_bytes w64)
number_apart = apart_through (Between 0 18446744073709551615) (Below (2 ^ 64)) (λ (n : ℕ). n) (to_be_bytes w64) (λ a p. omega (arith, p)) (λ a b p q e. e) apart64

some_number_apart : SpelledApart (Between 1 18446744073709551615) (to_be_bytes w64)
some_number_apart = apart_through (Between 1 18446744073709551615) (Below (2 ^ 64)) (λ (n : ℕ). n) (to_be_bytes w64) (λ a p. omega (arith, p)) (λ a b p q e. e) apart64

actor_apart : SpelledApart (Between 0 65535) (to_be_bytes w16)
actor_apart = apart_through (Between 0 65535) (Below (2 ^ 16)) (λ (n : ℕ). n) (to_be_bytes w16) (λ a p. omega (arith, p)) (λ a b p q e. e) apart16

count_apart : SpelledApart (Between 1 256) (to_be_bytes w16)
count_apart = apart_through (Between 1 256) (Below (2 ^ 16)) (λ (n : ℕ). n) (to_be_bytes w16) (λ a p. omega (arith, p)) (λ a b p q e. e) apart16

few_apart : SpelledApart (Between 1 16) (to_be_bytes w16)
few_apart = apart_through (Between 1 16) (Below (2 ^ 16)) (λ (n : ℕ). n) (to_be_bytes w16) (λ a p. omega (arith, p)) (λ a b p q e. e) apart16

so_many_states : (n : ℕ) → SpelledApart (AreStates n) states_bytes
so_many_states n = record { apart = λ a b x y p q e. lists_apart IsState state_bytes states_apart a b x y p.1 q.1 (p.0 ∙ sym q.0) e }

so_many_actors : (n : ℕ) → SpelledApart (AreActors n) actors_bytes
so_many_actors n = record { apart = λ a b x y p q e. lists_apart IsActor actor_bytes actors_apart a b x y (are_actors 0 a p.1) (are_actors 0 b q.1) (p.0 ∙ sym q.0) e }

so_many_tids : (n : ℕ) → SpelledApart (AreTids n) tids_bytes
so_many_tids n = record { apart = λ a b x y p q e. lists_apart IsTid tid_bytes tids_apart a b x y (are_tids 0 a p.1) (are_tids 0 b q.1) (p.0 ∙ sym q.0) e }

so_many_values : (n : ℕ) → SpelledApart (AreValues n) values_bytes
so_many_values n = record { apart = λ a b x y p q e. lists_apart (FitsSigned w64) field_bytes fields_apart a b x y p.1 q.1 (p.0 ∙ sym q.0) e }

-- ---- there is some text of each language

abbrev pub Some : (List ℕ → Type 0) → Type 0
Some F = (f : List ℕ) × F f

nil_some : Some Nil
nil_some = ([], refl)

seq_some : {X : Type 0} (Is : X → Type 0) (spell : X → List ℕ) (G : X → List ℕ → Type 0) (x : X) → Is x → Some (G x) → Some (Seq Is spell G)
seq_some Is spell G x p s = (spell x ++ s.0, (x, s.0, p, s.1, refl))

abbrev pub InfoTids : ℕ → List ℕ → Type 0
InfoTids n = Seq (AreTids n) tids_bytes (λ xs. Nil)

abbrev pub InfoActors : ℕ → List ℕ → Type 0
InfoActors n = Seq (AreActors n) actors_bytes (λ xs. Count InfoTids)

abbrev pub GenesisStates : ℕ → List ℕ → Type 0
GenesisStates n = Seq (AreStates n) states_bytes (λ xs. Nil)

abbrev pub CompleteState : ℕ → List ℕ → Type 0
CompleteState n = Seq IsState state_bytes (λ s. Nil)

abbrev pub ActActors : ℕ → List ℕ → Type 0
ActActors n = Seq (AreActors n) actors_bytes (λ xs. Nil)

abbrev pub ActCount : List ℕ → Type 0
ActCount = FewCount ActActors

abbrev pub ActNumber : List ℕ → Type 0
ActNumber = Number (λ c. ActCount)

abbrev pub ActBatch : List ℕ → Type 0
ActBatch = Number (λ m. ActNumber)

abbrev pub CheckpointActs : List ℕ → Type 0
CheckpointActs = Number (λ n. CountedStates)

abbrev pub CheckpointBatches : List ℕ → Type 0
CheckpointBatches = Number (λ m. CheckpointActs)

abbrev pub CheckpointC : List ℕ → Type 0
CheckpointC = SomeNumber (λ c. CheckpointBatches)

abbrev pub CheckpointBid : List ℕ → Type 0
CheckpointBid = SomeNumber (λ b. CheckpointC)

abbrev pub CheckpointTid : List ℕ → Type 0
CheckpointTid = SomeNumber (λ t. CheckpointBid)

abbrev pub DoneValues : ℕ → List ℕ → Type 0
DoneValues n = Seq (AreValues n) values_bytes (λ vs. Nil)

abbrev pub ActValue : List ℕ → Type 0
ActValue = Field (λ v. ActCount)

abbrev pub ActDoneNumber : List ℕ → Type 0
ActDoneNumber = Number (λ c. ActValue)

abbrev pub ActDoneBatch : List ℕ → Type 0
ActDoneBatch = Number (λ m. ActDoneNumber)

some_state : (s : State) × IsState s
some_state =
    let r = are_copies (FitsSigned w64) (pos 0) (omega arith) 16 in
    let s : State = record { 0 = copies (pos 0) 16 } in
    (s, record { len = r.0; fields = r.1 })

tids_some : (n : ℕ) → Between 1 256 n → Some (InfoTids n)
tids_some n p =
    let make : ℕ → Tid = λ m. let t : Tid = record { 0 = m } in t in
    seq_some (AreTids n) tids_bytes (λ xs. Nil) (row make 0 n) (row_rises (λ (t : Tid). t.0) make (λ m. refl) 0 (2 ^ 64) n (omega (arith, p))) nil_some

count_tids_some : Some (Count InfoTids)
count_tids_some = seq_some (Between 1 256) (to_be_bytes w16) InfoTids 1 (omega arith, omega arith) (tids_some 1 (omega arith, omega arith))

actors_some : (n : ℕ) → Between 1 256 n → Some (InfoActors n)
actors_some n p =
    let make : ℕ → ActorId = λ m. let t : ActorId = record { 0 = m } in t in
    seq_some (AreActors n) actors_bytes (λ xs. Count InfoTids) (row make 0 n) (row_rises (λ (t : ActorId). t.0) make (λ m. refl) 0 (2 ^ 16) n (omega (arith, p))) count_tids_some

count_actors_some : Some (Count InfoActors)
count_actors_some = seq_some (Between 1 256) (to_be_bytes w16) InfoActors 1 (omega arith, omega arith) (actors_some 1 (omega arith, omega arith))

states_some : (n : ℕ) → Some (GenesisStates n)
states_some n = seq_some (AreStates n) states_bytes (λ xs. Nil) (copies some_state.0 n) (are_copies IsState some_state.0 some_state.1 n) nil_some

count_states_some : Some (CountedStates)
count_states_some = seq_some (Between 1 256) (to_be_bytes w16) GenesisStates 1 (omega arith, omega arith) (states_some 1)

state_some : (n : ℕ) → Some (CompleteState n)
state_some n = seq_some IsState state_bytes (λ s. Nil) some_state.0 some_state.1 nil_some

actor_some : Some (Actor CompleteState)
actor_some = seq_some (Between 0 65535) (to_be_bytes w16) CompleteState 0 (omega arith, omega arith) (state_some 0)

act_actors_some : (n : ℕ) → Between 1 16 n → Some (ActActors n)
act_actors_some n p =
    let make : ℕ → ActorId = λ m. let t : ActorId = record { 0 = m } in t in
    seq_some (AreActors n) actors_bytes (λ xs. Nil) (row make 0 n) (row_rises (λ (t : ActorId). t.0) make (λ m. refl) 0 (2 ^ 16) n (omega (arith, p))) nil_some

act_count_some : Some ActCount
act_count_some = seq_some (Between 1 16) (to_be_bytes w16) ActActors 1 (omega arith, omega arith) (act_actors_some 1 (omega arith, omega arith))

number_some : (F : List ℕ → Type 0) → Some F → Some (Number (λ n. F))
number_some F s = seq_some (Between 0 18446744073709551615) (to_be_bytes w64) (λ n. F) 0 (omega arith, omega arith) s

some_number_some : (F : List ℕ → Type 0) → Some F → Some (SomeNumber (λ n. F))
some_number_some F s = seq_some (Between 1 18446744073709551615) (to_be_bytes w64) (λ n. F) 1 (omega arith, omega arith) s

act_number_some : Some ActNumber
act_number_some = number_some ActCount act_count_some

act_batch_some : Some ActBatch
act_batch_some = number_some ActNumber act_number_some

values_some : (n : ℕ) → Some (DoneValues n)
values_some n = seq_some (AreValues n) values_bytes (λ vs. Nil) (copies (pos 0) n) (are_copies (FitsSigned w64) (pos 0) (omega arith) n) nil_some

count_values_some : Some (Count DoneValues)
count_values_some = seq_some (Between 1 256) (to_be_bytes w16) DoneValues 1 (omega arith, omega arith) (values_some 1)

act_value_some : Some ActValue
act_value_some = seq_some (FitsSigned w64) field_bytes (λ v. ActCount) (pos 0) (omega arith) act_count_some

act_done_number_some : Some ActDoneNumber
act_done_number_some = number_some ActValue act_value_some

act_done_batch_some : Some ActDoneBatch
act_done_batch_some = number_some ActDoneNumber act_done_number_some

checkpoint_acts_some : Some CheckpointActs
checkpoint_acts_some = number_some CountedStates count_states_some

checkpoint_batches_some : Some CheckpointBatches
checkpoint_batches_some = number_some CheckpointActs checkpoint_acts_some

checkpoint_c_some : Some CheckpointC
checkpoint_c_some = some_number_some CheckpointBatches checkpoint_batches_some

checkpoint_bid_some : Some CheckpointBid
checkpoint_bid_some = some_number_some CheckpointC checkpoint_c_some

checkpoint_tid_some : Some CheckpointTid
checkpoint_tid_some = some_number_some CheckpointBid checkpoint_bid_some

-- ---- BatchCommit

pub commit_bid : (bytes : List ℕ) (stop : Stop) → IsWhyUnread (Number (λ n. Any)) bytes stop → IsWhyUnread CommitTexts bytes stop
commit_bid bytes stop s = fails_first (Between 0 18446744073709551615) (to_be_bytes w64) (λ n. Nil) bytes stop (λ n p. nil_some) s

pub commit_end : (n : ℕ) (bytes rest : List ℕ) (stop : Stop) → Between 0 18446744073709551615 n × (bytes ≡ to_be_bytes w64 n ++ rest) → IsWhyUnread Nil rest stop → IsWhyUnread CommitTexts bytes stop
commit_end n bytes rest stop p s = fails_after (Between 0 18446744073709551615) (to_be_bytes w64) (λ n. Nil) number_apart n bytes rest stop p.0 p.1 s

-- ---- BatchComplete

pub complete_bid : (bytes : List ℕ) (stop : Stop) → IsWhyUnread (Number (λ n. Any)) bytes stop → IsWhyUnread CompleteTexts bytes stop
complete_bid bytes stop s = fails_first (Between 0 18446744073709551615) (to_be_bytes w64) (λ n. Actor CompleteState) bytes stop (λ n p. actor_some) s

pub behind_complete_bid : (n : ℕ) (bytes rest : List ℕ) (stop : Stop) → Between 0 18446744073709551615 n × (bytes ≡ to_be_bytes w64 n ++ rest) → IsWhyUnread (Actor CompleteState) rest stop → IsWhyUnread CompleteTexts bytes stop
behind_complete_bid n bytes rest stop p s = fails_after (Between 0 18446744073709551615) (to_be_bytes w64) (λ n. Actor CompleteState) number_apart n bytes rest stop p.0 p.1 s

pub complete_actor : (bytes : List ℕ) (stop : Stop) → IsWhyUnread (Actor (λ n. Any)) bytes stop → IsWhyUnread (Actor CompleteState) bytes stop
complete_actor bytes stop s = fails_first (Between 0 65535) (to_be_bytes w16) CompleteState bytes stop (λ n p. state_some n) s

pub behind_complete_actor : (n : ℕ) (bytes rest : List ℕ) (stop : Stop) → Between 0 65535 n × (bytes ≡ to_be_bytes w16 n ++ rest) → IsWhyUnread (CompleteState n) rest stop → IsWhyUnread (Actor CompleteState) bytes stop
behind_complete_actor n bytes rest stop p s = fails_after (Between 0 65535) (to_be_bytes w16) CompleteState actor_apart n bytes rest stop p.0 p.1 s

pub complete_state : (n : ℕ) (bytes : List ℕ) (stop : Stop) → IsWhyUnread (Seq IsState state_bytes (λ s. Any)) bytes stop → IsWhyUnread (CompleteState n) bytes stop
complete_state n bytes stop s = fails_first IsState state_bytes (λ s. Nil) bytes stop (λ s p. nil_some) s

pub complete_end : (n : ℕ) (state : State) (bytes rest : List ℕ) (stop : Stop) → IsState state × (bytes ≡ state_bytes state ++ rest) → IsWhyUnread Nil rest stop → IsWhyUnread (CompleteState n) bytes stop
complete_end n state bytes rest stop p s = fails_after IsState state_bytes (λ s. Nil) states_apart state bytes rest stop p.0 p.1 s

-- ---- BatchInfo

pub info_bid : (bytes : List ℕ) (stop : Stop) → IsWhyUnread (Number (λ n. Any)) bytes stop → IsWhyUnread InfoTexts bytes stop
info_bid bytes stop s = fails_first (Between 0 18446744073709551615) (to_be_bytes w64) (λ n. Count InfoActors) bytes stop (λ n p. count_actors_some) s

pub behind_info_bid : (n : ℕ) (bytes rest : List ℕ) (stop : Stop) → Between 0 18446744073709551615 n × (bytes ≡ to_be_bytes w64 n ++ rest) → IsWhyUnread (Count InfoActors) rest stop → IsWhyUnread InfoTexts bytes stop
behind_info_bid n bytes rest stop p s = fails_after (Between 0 18446744073709551615) (to_be_bytes w64) (λ n. Count InfoActors) number_apart n bytes rest stop p.0 p.1 s

pub info_count : (bytes : List ℕ) (stop : Stop) → IsWhyUnread (Count (λ n. Any)) bytes stop → IsWhyUnread (Count InfoActors) bytes stop
info_count bytes stop s = fails_first (Between 1 256) (to_be_bytes w16) InfoActors bytes stop actors_some s

pub behind_info_count : (n : ℕ) (bytes rest : List ℕ) (stop : Stop) → Between 1 256 n × (bytes ≡ to_be_bytes w16 n ++ rest) → IsWhyUnread (InfoActors n) rest stop → IsWhyUnread (Count InfoActors) bytes stop
behind_info_count n bytes rest stop p s = fails_after (Between 1 256) (to_be_bytes w16) InfoActors count_apart n bytes rest stop p.0 p.1 s

pub info_actors : (n : ℕ) (bytes : List ℕ) (stop : Stop) → IsWhyUnread (Seq (AreActors n) actors_bytes (λ xs. Any)) bytes stop → IsWhyUnread (InfoActors n) bytes stop
info_actors n bytes stop s = fails_first (AreActors n) actors_bytes (λ xs. Count InfoTids) bytes stop (λ xs p. count_tids_some) s

pub behind_info_actors : (n : ℕ) (xs : List ActorId) (bytes rest : List ℕ) (stop : Stop) → AreActors n xs × (bytes ≡ actors_bytes xs ++ rest) → IsWhyUnread (Count InfoTids) rest stop → IsWhyUnread (InfoActors n) bytes stop
behind_info_actors n xs bytes rest stop p s = fails_after (AreActors n) actors_bytes (λ xs. Count InfoTids) (so_many_actors n) xs bytes rest stop p.0 p.1 s

pub info_count_2 : (bytes : List ℕ) (stop : Stop) → IsWhyUnread (Count (λ n. Any)) bytes stop → IsWhyUnread (Count InfoTids) bytes stop
info_count_2 bytes stop s = fails_first (Between 1 256) (to_be_bytes w16) InfoTids bytes stop tids_some s

pub behind_info_count_2 : (n : ℕ) (bytes rest : List ℕ) (stop : Stop) → Between 1 256 n × (bytes ≡ to_be_bytes w16 n ++ rest) → IsWhyUnread (InfoTids n) rest stop → IsWhyUnread (Count InfoTids) bytes stop
behind_info_count_2 n bytes rest stop p s = fails_after (Between 1 256) (to_be_bytes w16) InfoTids count_apart n bytes rest stop p.0 p.1 s

pub info_tids : (n : ℕ) (bytes : List ℕ) (stop : Stop) → IsWhyUnread (Seq (AreTids n) tids_bytes (λ xs. Any)) bytes stop → IsWhyUnread (InfoTids n) bytes stop
info_tids n bytes stop s = fails_first (AreTids n) tids_bytes (λ xs. Nil) bytes stop (λ xs p. nil_some) s

pub info_end : (n : ℕ) (xs : List Tid) (bytes rest : List ℕ) (stop : Stop) → AreTids n xs × (bytes ≡ tids_bytes xs ++ rest) → IsWhyUnread Nil rest stop → IsWhyUnread (InfoTids n) bytes stop
info_end n xs bytes rest stop p s = fails_after (AreTids n) tids_bytes (λ xs. Nil) (so_many_tids n) xs bytes rest stop p.0 p.1 s

-- ---- ActCommit

number_fails : (F : List ℕ → Type 0) → Some F → (bytes : List ℕ) (stop : Stop) → IsWhyUnread (Number (λ n. Any)) bytes stop → IsWhyUnread (Number (λ n. F)) bytes stop
number_fails F some bytes stop s = fails_first (Between 0 18446744073709551615) (to_be_bytes w64) (λ n. F) bytes stop (λ n p. some) s

behind_number : (F : List ℕ → Type 0) (n : ℕ) (bytes rest : List ℕ) (stop : Stop) → Between 0 18446744073709551615 n × (bytes ≡ to_be_bytes w64 n ++ rest) → IsWhyUnread F rest stop → IsWhyUnread (Number (λ n. F)) bytes stop
behind_number F n bytes rest stop p s = fails_after (Between 0 18446744073709551615) (to_be_bytes w64) (λ n. F) number_apart n bytes rest stop p.0 p.1 s

pub act_tid : (bytes : List ℕ) (stop : Stop) → IsWhyUnread (Number (λ n. Any)) bytes stop → IsWhyUnread ActTexts bytes stop
act_tid bytes stop s = number_fails ActBatch act_batch_some bytes stop s

pub behind_act_tid : (n : ℕ) (bytes rest : List ℕ) (stop : Stop) → Between 0 18446744073709551615 n × (bytes ≡ to_be_bytes w64 n ++ rest) → IsWhyUnread ActBatch rest stop → IsWhyUnread ActTexts bytes stop
behind_act_tid n bytes rest stop p s = behind_number ActBatch n bytes rest stop p s

pub act_batch : (bytes : List ℕ) (stop : Stop) → IsWhyUnread (Number (λ n. Any)) bytes stop → IsWhyUnread ActBatch bytes stop
act_batch bytes stop s = number_fails ActNumber act_number_some bytes stop s

pub behind_act_batch : (n : ℕ) (bytes rest : List ℕ) (stop : Stop) → Between 0 18446744073709551615 n × (bytes ≡ to_be_bytes w64 n ++ rest) → IsWhyUnread ActNumber rest stop → IsWhyUnread ActBatch bytes stop
behind_act_batch n bytes rest stop p s = behind_number ActNumber n bytes rest stop p s

pub act_number : (bytes : List ℕ) (stop : Stop) → IsWhyUnread (Number (λ n. Any)) bytes stop → IsWhyUnread ActNumber bytes stop
act_number bytes stop s = number_fails ActCount act_count_some bytes stop s

pub behind_act_number : (n : ℕ) (bytes rest : List ℕ) (stop : Stop) → Between 0 18446744073709551615 n × (bytes ≡ to_be_bytes w64 n ++ rest) → IsWhyUnread ActCount rest stop → IsWhyUnread ActNumber bytes stop
behind_act_number n bytes rest stop p s = behind_number ActCount n bytes rest stop p s

pub act_count : (bytes : List ℕ) (stop : Stop) → IsWhyUnread (FewCount (λ n. Any)) bytes stop → IsWhyUnread ActCount bytes stop
act_count bytes stop s = fails_first (Between 1 16) (to_be_bytes w16) ActActors bytes stop act_actors_some s

pub behind_act_count : (n : ℕ) (bytes rest : List ℕ) (stop : Stop) → Between 1 16 n × (bytes ≡ to_be_bytes w16 n ++ rest) → IsWhyUnread (ActActors n) rest stop → IsWhyUnread ActCount bytes stop
behind_act_count n bytes rest stop p s = fails_after (Between 1 16) (to_be_bytes w16) ActActors few_apart n bytes rest stop p.0 p.1 s

pub act_actors : (n : ℕ) (bytes : List ℕ) (stop : Stop) → IsWhyUnread (Seq (AreActors n) actors_bytes (λ xs. Any)) bytes stop → IsWhyUnread (ActActors n) bytes stop
act_actors n bytes stop s = fails_first (AreActors n) actors_bytes (λ xs. Nil) bytes stop (λ xs p. nil_some) s

pub act_end : (n : ℕ) (xs : List ActorId) (bytes rest : List ℕ) (stop : Stop) → AreActors n xs × (bytes ≡ actors_bytes xs ++ rest) → IsWhyUnread Nil rest stop → IsWhyUnread (ActActors n) bytes stop
act_end n xs bytes rest stop p s = fails_after (AreActors n) actors_bytes (λ xs. Nil) (so_many_actors n) xs bytes rest stop p.0 p.1 s

-- ---- BatchDone

pub done_bid : (bytes : List ℕ) (stop : Stop) → IsWhyUnread (Number (λ n. Any)) bytes stop → IsWhyUnread DoneTexts bytes stop
done_bid bytes stop s = number_fails (Count DoneValues) count_values_some bytes stop s

pub behind_done_bid : (n : ℕ) (bytes rest : List ℕ) (stop : Stop) → Between 0 18446744073709551615 n × (bytes ≡ to_be_bytes w64 n ++ rest) → IsWhyUnread (Count DoneValues) rest stop → IsWhyUnread DoneTexts bytes stop
behind_done_bid n bytes rest stop p s = behind_number (Count DoneValues) n bytes rest stop p s

pub done_count : (bytes : List ℕ) (stop : Stop) → IsWhyUnread (Count (λ n. Any)) bytes stop → IsWhyUnread (Count DoneValues) bytes stop
done_count bytes stop s = fails_first (Between 1 256) (to_be_bytes w16) DoneValues bytes stop (λ n p. values_some n) s

pub behind_done_count : (n : ℕ) (bytes rest : List ℕ) (stop : Stop) → Between 1 256 n × (bytes ≡ to_be_bytes w16 n ++ rest) → IsWhyUnread (DoneValues n) rest stop → IsWhyUnread (Count DoneValues) bytes stop
behind_done_count n bytes rest stop p s = fails_after (Between 1 256) (to_be_bytes w16) DoneValues count_apart n bytes rest stop p.0 p.1 s

pub done_values : (n : ℕ) (bytes : List ℕ) (stop : Stop) → IsWhyUnread (Seq (AreValues n) values_bytes (λ vs. Any)) bytes stop → IsWhyUnread (DoneValues n) bytes stop
done_values n bytes stop s = fails_first (AreValues n) values_bytes (λ vs. Nil) bytes stop (λ vs p. nil_some) s

pub done_end : (n : ℕ) (vs : List ℤ) (bytes rest : List ℕ) (stop : Stop) → AreValues n vs × (bytes ≡ values_bytes vs ++ rest) → IsWhyUnread Nil rest stop → IsWhyUnread (DoneValues n) bytes stop
done_end n vs bytes rest stop p s = fails_after (AreValues n) values_bytes (λ vs. Nil) (so_many_values n) vs bytes rest stop p.0 p.1 s

-- ---- ActDone, which ends as ActCommit does

pub act_done_tid : (bytes : List ℕ) (stop : Stop) → IsWhyUnread (Number (λ n. Any)) bytes stop → IsWhyUnread ActDoneTexts bytes stop
act_done_tid bytes stop s = number_fails ActDoneBatch act_done_batch_some bytes stop s

pub behind_act_done_tid : (n : ℕ) (bytes rest : List ℕ) (stop : Stop) → Between 0 18446744073709551615 n × (bytes ≡ to_be_bytes w64 n ++ rest) → IsWhyUnread ActDoneBatch rest stop → IsWhyUnread ActDoneTexts bytes stop
behind_act_done_tid n bytes rest stop p s = behind_number ActDoneBatch n bytes rest stop p s

pub act_done_batch : (bytes : List ℕ) (stop : Stop) → IsWhyUnread (Number (λ n. Any)) bytes stop → IsWhyUnread ActDoneBatch bytes stop
act_done_batch bytes stop s = number_fails ActDoneNumber act_done_number_some bytes stop s

pub behind_act_done_batch : (n : ℕ) (bytes rest : List ℕ) (stop : Stop) → Between 0 18446744073709551615 n × (bytes ≡ to_be_bytes w64 n ++ rest) → IsWhyUnread ActDoneNumber rest stop → IsWhyUnread ActDoneBatch bytes stop
behind_act_done_batch n bytes rest stop p s = behind_number ActDoneNumber n bytes rest stop p s

pub act_done_number : (bytes : List ℕ) (stop : Stop) → IsWhyUnread (Number (λ n. Any)) bytes stop → IsWhyUnread ActDoneNumber bytes stop
act_done_number bytes stop s = number_fails ActValue act_value_some bytes stop s

pub behind_act_done_number : (n : ℕ) (bytes rest : List ℕ) (stop : Stop) → Between 0 18446744073709551615 n × (bytes ≡ to_be_bytes w64 n ++ rest) → IsWhyUnread ActValue rest stop → IsWhyUnread ActDoneNumber bytes stop
behind_act_done_number n bytes rest stop p s = behind_number ActValue n bytes rest stop p s

pub act_value : (bytes : List ℕ) (stop : Stop) → IsWhyUnread (Seq (FitsSigned w64) field_bytes (λ v. Any)) bytes stop → IsWhyUnread ActValue bytes stop
act_value bytes stop s = fails_first (FitsSigned w64) field_bytes (λ v. ActCount) bytes stop (λ v p. act_count_some) s

pub behind_act_value : (v : ℤ) (bytes rest : List ℕ) (stop : Stop) → FitsSigned w64 v × (bytes ≡ field_bytes v ++ rest) → IsWhyUnread ActCount rest stop → IsWhyUnread ActValue bytes stop
behind_act_value v bytes rest stop p s = fails_after (FitsSigned w64) field_bytes (λ v. ActCount) fields_apart v bytes rest stop p.0 p.1 s

-- ---- Genesis, and the states with which it and a Checkpoint end

pub genesis_logs : (bytes : List ℕ) (stop : Stop) → IsWhyUnread (Seq (Between 1 4) one_byte (λ n. Any)) bytes stop → IsWhyUnread GenesisTexts bytes stop
genesis_logs bytes stop s = fails_first (Between 1 4) one_byte (λ n. CountedStates) bytes stop (λ n p. count_states_some) s

pub behind_genesis_logs : (n : ℕ) (bytes rest : List ℕ) (stop : Stop) → Between 1 4 n × (bytes ≡ one_byte n ++ rest) → IsWhyUnread (CountedStates) rest stop → IsWhyUnread GenesisTexts bytes stop
behind_genesis_logs n bytes rest stop p s = fails_after (Between 1 4) one_byte (λ n. CountedStates) (bytes_apart (Between 1 4)) n bytes rest stop p.0 p.1 s

pub states_count : (bytes : List ℕ) (stop : Stop) → IsWhyUnread (Count (λ n. Any)) bytes stop → IsWhyUnread (CountedStates) bytes stop
states_count bytes stop s = fails_first (Between 1 256) (to_be_bytes w16) GenesisStates bytes stop (λ n p. states_some n) s

pub behind_states_count : (n : ℕ) (bytes rest : List ℕ) (stop : Stop) → Between 1 256 n × (bytes ≡ to_be_bytes w16 n ++ rest) → IsWhyUnread (GenesisStates n) rest stop → IsWhyUnread (CountedStates) bytes stop
behind_states_count n bytes rest stop p s = fails_after (Between 1 256) (to_be_bytes w16) GenesisStates count_apart n bytes rest stop p.0 p.1 s

pub states_listed : (n : ℕ) (bytes : List ℕ) (stop : Stop) → IsWhyUnread (Seq (AreStates n) states_bytes (λ xs. Any)) bytes stop → IsWhyUnread (GenesisStates n) bytes stop
states_listed n bytes stop s = fails_first (AreStates n) states_bytes (λ xs. Nil) bytes stop (λ xs p. nil_some) s

pub states_end : (n : ℕ) (xs : List State) (bytes rest : List ℕ) (stop : Stop) → AreStates n xs × (bytes ≡ states_bytes xs ++ rest) → IsWhyUnread Nil rest stop → IsWhyUnread (GenesisStates n) bytes stop
states_end n xs bytes rest stop p s = fails_after (AreStates n) states_bytes (λ xs. Nil) (so_many_states n) xs bytes rest stop p.0 p.1 s

-- ---- Checkpoint

some_number_fails : (F : List ℕ → Type 0) → Some F → (bytes : List ℕ) (stop : Stop) → IsWhyUnread (SomeNumber (λ n. Any)) bytes stop → IsWhyUnread (SomeNumber (λ n. F)) bytes stop
some_number_fails F some bytes stop s = fails_first (Between 1 18446744073709551615) (to_be_bytes w64) (λ n. F) bytes stop (λ n p. some) s

behind_some_number : (F : List ℕ → Type 0) (n : ℕ) (bytes rest : List ℕ) (stop : Stop) → Between 1 18446744073709551615 n × (bytes ≡ to_be_bytes w64 n ++ rest) → IsWhyUnread F rest stop → IsWhyUnread (SomeNumber (λ n. F)) bytes stop
behind_some_number F n bytes rest stop p s = fails_after (Between 1 18446744073709551615) (to_be_bytes w64) (λ n. F) some_number_apart n bytes rest stop p.0 p.1 s

pub checkpoint_generation : (bytes : List ℕ) (stop : Stop) → IsWhyUnread (SomeNumber (λ n. Any)) bytes stop → IsWhyUnread CheckpointTexts bytes stop
checkpoint_generation bytes stop s = some_number_fails CheckpointTid checkpoint_tid_some bytes stop s

pub behind_checkpoint_generation : (n : ℕ) (bytes rest : List ℕ) (stop : Stop) → Between 1 18446744073709551615 n × (bytes ≡ to_be_bytes w64 n ++ rest) → IsWhyUnread CheckpointTid rest stop → IsWhyUnread CheckpointTexts bytes stop
behind_checkpoint_generation n bytes rest stop p s = behind_some_number CheckpointTid n bytes rest stop p s

pub checkpoint_tid : (bytes : List ℕ) (stop : Stop) → IsWhyUnread (SomeNumber (λ n. Any)) bytes stop → IsWhyUnread CheckpointTid bytes stop
checkpoint_tid bytes stop s = some_number_fails CheckpointBid checkpoint_bid_some bytes stop s

pub behind_checkpoint_tid : (n : ℕ) (bytes rest : List ℕ) (stop : Stop) → Between 1 18446744073709551615 n × (bytes ≡ to_be_bytes w64 n ++ rest) → IsWhyUnread CheckpointBid rest stop → IsWhyUnread CheckpointTid bytes stop
behind_checkpoint_tid n bytes rest stop p s = behind_some_number CheckpointBid n bytes rest stop p s

pub checkpoint_bid : (bytes : List ℕ) (stop : Stop) → IsWhyUnread (SomeNumber (λ n. Any)) bytes stop → IsWhyUnread CheckpointBid bytes stop
checkpoint_bid bytes stop s = some_number_fails CheckpointC checkpoint_c_some bytes stop s

pub behind_checkpoint_bid : (n : ℕ) (bytes rest : List ℕ) (stop : Stop) → Between 1 18446744073709551615 n × (bytes ≡ to_be_bytes w64 n ++ rest) → IsWhyUnread CheckpointC rest stop → IsWhyUnread CheckpointBid bytes stop
behind_checkpoint_bid n bytes rest stop p s = behind_some_number CheckpointC n bytes rest stop p s

pub checkpoint_c : (bytes : List ℕ) (stop : Stop) → IsWhyUnread (SomeNumber (λ n. Any)) bytes stop → IsWhyUnread CheckpointC bytes stop
checkpoint_c bytes stop s = some_number_fails CheckpointBatches checkpoint_batches_some bytes stop s

pub behind_checkpoint_c : (n : ℕ) (bytes rest : List ℕ) (stop : Stop) → Between 1 18446744073709551615 n × (bytes ≡ to_be_bytes w64 n ++ rest) → IsWhyUnread CheckpointBatches rest stop → IsWhyUnread CheckpointC bytes stop
behind_checkpoint_c n bytes rest stop p s = behind_some_number CheckpointBatches n bytes rest stop p s

pub checkpoint_batches : (bytes : List ℕ) (stop : Stop) → IsWhyUnread (Number (λ n. Any)) bytes stop → IsWhyUnread CheckpointBatches bytes stop
checkpoint_batches bytes stop s = number_fails CheckpointActs checkpoint_acts_some bytes stop s

pub behind_checkpoint_batches : (n : ℕ) (bytes rest : List ℕ) (stop : Stop) → Between 0 18446744073709551615 n × (bytes ≡ to_be_bytes w64 n ++ rest) → IsWhyUnread CheckpointActs rest stop → IsWhyUnread CheckpointBatches bytes stop
behind_checkpoint_batches n bytes rest stop p s = behind_number CheckpointActs n bytes rest stop p s

pub checkpoint_acts : (bytes : List ℕ) (stop : Stop) → IsWhyUnread (Number (λ n. Any)) bytes stop → IsWhyUnread CheckpointActs bytes stop
checkpoint_acts bytes stop s = number_fails CountedStates count_states_some bytes stop s

pub behind_checkpoint_acts : (n : ℕ) (bytes rest : List ℕ) (stop : Stop) → Between 0 18446744073709551615 n × (bytes ≡ to_be_bytes w64 n ++ rest) → IsWhyUnread CountedStates rest stop → IsWhyUnread CheckpointActs bytes stop
behind_checkpoint_acts n bytes rest stop p s = behind_number CountedStates n bytes rest stop p s
