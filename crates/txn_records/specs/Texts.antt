-- The fields of each kind of record, behind its tag.
use Rattle.std.specs.Prelude.{◌≡◌, ℕ, ℤ, ◌^◌, List, [], ◌∷◌, length, FitsSigned}
use Rattle.std.specs.List.{AllByRecursion}
use Rattle.std.specs.Int.{to_be_bytes, w16, w64}
use Rattle.txn_records.specs.declared.limits.TheConstants.{MOST_ACT_ACTORS, MOST_LISTED, MOST_LOGS}
use Rattle.snap_base.specs.declared.ids.ActorId.{ActorId}
use Rattle.snap_base.specs.declared.ids.Tid.{Tid}
use Rattle.snap_base.specs.declared.transactions.State.{State}
use Rattle.txn_records.specs.declared.records.Record.{Record}
use Rattle.txn_records.specs.Numbers.{Between}
use Rattle.txn_records.specs.Records.{Ascend, IsState, IsRecord, actor_numbers, tid_numbers, actors_bytes, tids_bytes, field_bytes, values_bytes, state_bytes, states_bytes, record_bytes}
use Rattle.txn_records.specs.Stops.{Nil, Seq}

abbrev pub AreStates : ℕ → List State → Type 0
AreStates n states = (length states ≡ n) × AllByRecursion IsState states

abbrev pub AreActors : ℕ → List ActorId → Type 0
AreActors n actors = (length actors ≡ n) × Ascend 0 (2 ^ 16) (actor_numbers actors)

abbrev pub AreTids : ℕ → List Tid → Type 0
AreTids n tids = (length tids ≡ n) × Ascend 0 (2 ^ 64) (tid_numbers tids)

abbrev pub AreValues : ℕ → List ℤ → Type 0
AreValues n values = (length values ≡ n) × AllByRecursion (FitsSigned w64) values

abbrev pub one_byte : ℕ → List ℕ
one_byte b = b ∷ []

abbrev pub Count : (ℕ → List ℕ → Type 0) → List ℕ → Type 0
Count G = Seq (Between 1 MOST_LISTED) (to_be_bytes w16) G

abbrev pub FewCount : (ℕ → List ℕ → Type 0) → List ℕ → Type 0
FewCount G = Seq (Between 1 MOST_ACT_ACTORS) (to_be_bytes w16) G

abbrev pub Number : (ℕ → List ℕ → Type 0) → List ℕ → Type 0
Number G = Seq (Between 0 18446744073709551615) (to_be_bytes w64) G

abbrev pub SomeNumber : (ℕ → List ℕ → Type 0) → List ℕ → Type 0
SomeNumber G = Seq (Between 1 18446744073709551615) (to_be_bytes w64) G

abbrev pub Actor : (ℕ → List ℕ → Type 0) → List ℕ → Type 0
Actor G = Seq (Between 0 65535) (to_be_bytes w16) G

abbrev pub Field : (ℤ → List ℕ → Type 0) → List ℕ → Type 0
Field G = Seq (FitsSigned w64) field_bytes G

abbrev pub CountedStates : List ℕ → Type 0
CountedStates = Count (λ n. Seq (AreStates n) states_bytes (λ xs. Nil))

abbrev pub GenesisTexts : List ℕ → Type 0
GenesisTexts = Seq (Between 1 MOST_LOGS) one_byte (λ l. CountedStates)

abbrev pub InfoTexts : List ℕ → Type 0
InfoTexts = Number (λ b. Count (λ n. Seq (AreActors n) actors_bytes (λ xs. Count (λ m. Seq (AreTids m) tids_bytes (λ ys. Nil)))))

abbrev pub CompleteTexts : List ℕ → Type 0
CompleteTexts = Number (λ b. Actor (λ a. Seq IsState state_bytes (λ s. Nil)))

abbrev pub CommitTexts : List ℕ → Type 0
CommitTexts = Number (λ b. Nil)

abbrev pub PrepareTexts : List ℕ → Type 0
PrepareTexts = Number (λ t. Actor (λ a. Seq IsState state_bytes (λ s. Nil)))

abbrev pub ActTexts : List ℕ → Type 0
ActTexts = Number (λ t. Number (λ m. Number (λ c. FewCount (λ n. Seq (AreActors n) actors_bytes (λ xs. Nil)))))

abbrev pub DoneTexts : List ℕ → Type 0
DoneTexts = Number (λ b. Count (λ n. Seq (AreValues n) values_bytes (λ vs. Nil)))

abbrev pub ActDoneTexts : List ℕ → Type 0
ActDoneTexts = Number (λ t. Number (λ m. Number (λ c. Field (λ v. FewCount (λ n. Seq (AreActors n) actors_bytes (λ xs. Nil))))))

abbrev pub CheckpointTexts : List ℕ → Type 0
CheckpointTexts = SomeNumber (λ g. SomeNumber (λ t. SomeNumber (λ b. SomeNumber (λ c. Number (λ m. Number (λ n. CountedStates))))))

-- the bytes of records
abbrev pub RecordTexts : List ℕ → Type 0
RecordTexts f = (r : Record) × IsRecord r × (f ≡ record_bytes r)
