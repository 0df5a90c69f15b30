-- Only private contracts cite this; the rule is specs/Opening.antt.
-- What a pass over one log gives. The log is number `log` of `logs`.
use Rattle.std.specs.Prelude.{◌≡◌, ◌≢◌, ℕ, ℤ, ◌%◌, ◌<◌, ◌⊎◌, Option, Some, None, List, [], ◌∷◌, ◌++◌, length, slice_index_or, Contains, ◌↔◌, cond, ◌==◌, ⊤}
use Rattle.std.specs.List.{AllByRecursion}
use Rattle.std.specs.declared.cmp.Ordering.{Ordering}
use Rattle.std.specs.Ordering.{nat_cmp, ordering_then}
use Rattle.std.specs.List.Sorted.{IsStrictlySortedBy, IsNonDecreasingBy}
use Rattle.snap_base.specs.declared.ids.ActorId.{ActorId}
use Rattle.snap_base.specs.declared.ids.Bid.{Bid}
use Rattle.snap_base.specs.declared.ids.Tid.{Tid}
use Rattle.snap_base.specs.declared.transactions.State.{State}
use Rattle.txn_records.specs.declared.records.Record.{Record}
use Rattle.txn_records.specs.declared.records.Record.TheVariants.{Genesis, BatchInfo, BatchComplete, BatchCommit, ActPrepare, ActCommit, BatchDone, ActDone, Checkpoint}
use Rattle.txn_records.specs.declared.keys.Key.{Key}
use Rattle.txn_records.specs.declared.keys.Key.TheVariants as keys
use Rattle.txn_records.specs.Records.{key}
use Rattle.snap_recover.specs.Logs.{HasKey, IsLastOf, log_of, states_in}
use Rattle.snap_recover.specs.declared.kinds.Kind.{Kind}
use Rattle.snap_recover.specs.declared.kinds.Kind.TheVariants as kinds
use Rattle.snap_recover.specs.declared.openings.Kept.{Kept}
use Rattle.snap_recover.specs.declared.openings.Kept.TheVariants as kept
use Rattle.snap_recover.specs.declared.refusals.RecoverNo.{RecoverNo}
use Rattle.snap_recover.specs.declared.refusals.RecoverNo.TheVariants.{NoGenesis, TwoGenesis, LogCount, Range, Missing, Values, Memory}
use Rattle.snap_recover.specs.Opening.{IsBatchWhole, IsIn, IsActIn, IsActWhole, IsActOf, HasItsValues, act_record, IsKeptIn}
use Rattle.snap_recover.specs.Refusals.{LacksInfo, LacksComplete, LacksPrepare, LacksValues, IsFirstBatchLacking, IsFirstActLacking, IsFirstLacking, IsFirstLackingValues}

abbrev pub bid_at : ℕ → Bid
bid_at n = record { 0 = n }

abbrev pub actor_at : ℕ → ActorId
actor_at n = record { 0 = n }

abbrev pub tid_at : ℕ → Tid
tid_at n = record { 0 = n }

-- the list has the number
abbrev pub In : List ℕ → ℕ → Type 0
In numbers n = Contains numbers n

abbrev pub pair_cmp : ℕ × ℕ → ℕ × ℕ → Ordering
pair_cmp x y = ordering_then (nat_cmp x.0 y.0) (nat_cmp x.1 y.1)

-- the list has the batch, or the ACT, with the actor
abbrev pub InPair : List (ℕ × ℕ) → ℕ × ℕ → Type 0
InPair pairs x = Contains pairs x

-- the place with this number, in the last pair that has the number
abbrev pub place_in : ℕ × ℕ → ℕ → Option ℕ → Option ℕ
place_in x n (Some place) = Some place
place_in x n None = cond (x.0 == n) (Some x.1) None

abbrev pub last_at : List (ℕ × ℕ) → ℕ → Option ℕ
last_at [] n = None
last_at (x ∷ xs) n = place_in x n (last_at xs n)

-- ---- keys by numbers

-- the key by which the batch, or the ACT, of this number is in
abbrev pub commit_key : Kind → ℕ → Key
commit_key kinds.Batch n = keys.Commit (bid_at n)
commit_key kinds.Act n = keys.Act (tid_at n)

-- the key of an actor's part of the batch, or the ACT
abbrev pub part_key : Kind → ℕ × ℕ → Key
part_key kinds.Batch x = keys.Complete (bid_at x.0) (actor_at x.1)
part_key kinds.Act x = keys.Prepare (tid_at x.0) (actor_at x.1)

-- the key of what tells the actors of the batch, or the ACT
abbrev pub info_key : Kind → ℕ → Key
info_key kinds.Batch n = keys.Info (bid_at n)
info_key kinds.Act n = keys.Act (tid_at n)

-- what the records have the key of, where it is at home in this log, is added
abbrev pub AddsKeyed : {X : Type 0} → (X → Type 0) → (X → Key) → List Record → (X → Type 0) → (X → Type 0) → Type 0
AddsKeyed {X} AtHome key_at rs Old New = (x : X) → New x ↔ (Old x ⊎ (AtHome x × HasKey rs (key_at x)))

-- the numbers of the batches, or the ACTs, whose commits stand in their log are added
abbrev pub AddsCommits : Kind → ℕ → ℕ → List Record → List ℕ → List ℕ → Type 0
AddsCommits kind log logs rs old new = AddsKeyed (λ n. n % logs ≡ log) (commit_key kind) rs (In old) (In new)

-- the parts that stand in their actor's log are added
abbrev pub AddsParts : Kind → ℕ → ℕ → List Record → List (ℕ × ℕ) → List (ℕ × ℕ) → Type 0
AddsParts kind log logs rs old new = AddsKeyed (λ (x : ℕ × ℕ). x.1 % logs ≡ log) (part_key kind) rs (InPair old) (InPair new)

-- the place of the last record with the key
abbrev pub IsLastPlace : Key → List Record → ℕ → Type 0
IsLastPlace k rs place =
    (front behind : List Record) × (r : Record) × (rs ≡ front ++ r ∷ behind)
    × (place ≡ length front) × (key r ≡ k) × AllByRecursion (λ x. key x ≢ k) behind

-- what was kept of a key is now the place of the last of these records with the key, and where there is none it is as it was
abbrev pub IsLastPlaced : Key → List Record → Option ℕ → Option ℕ → Type 0
IsLastPlaced k rs old new =
    ((place : ℕ) × (new ≡ Some place) × IsLastPlace k rs place)
    ⊎ (AllByRecursion (λ r. key r ≢ k) rs × (new ≡ old))

-- what was kept of a key is now the place of this record, where that has the key, and else it is as it was
abbrev pub IsPlacedBy : Key → ℕ → Record → Option ℕ → Option ℕ → Type 0
IsPlacedBy k at r old new = ((key r ≡ k) × (new ≡ Some at)) ⊎ ((key r ≢ k) × (new ≡ old))

-- the place of the record is added under the number of its key, where it has one and stands in its log
abbrev pub AddsInfo : (ℕ → Key) → ℕ → ℕ → ℕ → Record → List (ℕ × ℕ) → List (ℕ × ℕ) → Type 0
AddsInfo key_at log logs at r old new = (n : ℕ) →
    ((n % logs ≡ log → IsPlacedBy (key_at n) at r (last_at old n) (last_at new n))
    × (n % logs ≢ log → last_at new n ≡ last_at old n))

-- the places of the records with these keys that stand in their log are added
abbrev pub AddsInfos : (ℕ → Key) → ℕ → ℕ → List Record → List (ℕ × ℕ) → List (ℕ × ℕ) → Type 0
AddsInfos key_at log logs rs old new = (n : ℕ) →
    ((n % logs ≡ log → IsLastPlaced (key_at n) rs (last_at old n) (last_at new n))
    × (n % logs ≢ log → last_at new n ≡ last_at old n))

-- ---- over all logs

-- the list has the numbers of the batches, or the ACTs, that are in
abbrev pub TellsCommitted : Kind → List (List Record) → List ℕ → Type 0
TellsCommitted kind logs numbers = (n : ℕ) → In numbers n ↔ HasKey (log_of logs n) (commit_key kind n)

-- the list has the parts of batches, or ACTs, that stand in their actor's log
abbrev pub TellsParts : Kind → List (List Record) → List (ℕ × ℕ) → Type 0
TellsParts kind logs pairs = (x : ℕ × ℕ) → InPair pairs x ↔ HasKey (log_of logs x.1) (part_key kind x)

-- the list has the place of the last record with each key in its log
abbrev pub TellsInfos : (ℕ → Key) → List (List Record) → List (ℕ × ℕ) → Type 0
TellsInfos key_at logs places = (n : ℕ) → IsLastPlaced (key_at n) (log_of logs n) None (last_at places n)

-- the same in order
pub record HasCommitted (kind : Kind) (logs : List (List Record)) (numbers : List ℕ) : Type 0 where
  pub ascend : IsStrictlySortedBy nat_cmp numbers
  pub all : TellsCommitted kind logs numbers

pub record HasAllParts (kind : Kind) (logs : List (List Record)) (pairs : List (ℕ × ℕ)) : Type 0 where
  pub ascend : IsStrictlySortedBy pair_cmp pairs
  pub all : TellsParts kind logs pairs

pub record HasInfos (key_at : ℕ → Key) (logs : List (List Record)) (places : List (ℕ × ℕ)) : Type 0 where
  pub ascend : IsNonDecreasingBy (λ (x : ℕ × ℕ). x.0) places
  pub all : TellsInfos key_at logs places

-- ---- states

-- a record that tells a state of the actor, of one of these batches or of these ACTs
abbrev pub RecordTellsState : (ℕ → Type 0) → (ℕ → Type 0) → ℕ → Record → Type 0
RecordTellsState Batches Acts a (Genesis count states) = ⊥
RecordTellsState Batches Acts a (BatchInfo bid actors tids) = ⊥
RecordTellsState Batches Acts a (BatchComplete bid actor state) = (actor.0 ≡ a) × Batches bid.0
RecordTellsState Batches Acts a (BatchCommit bid) = ⊥
RecordTellsState Batches Acts a (ActPrepare tid actor state) = (actor.0 ≡ a) × Acts tid.0
RecordTellsState Batches Acts a (ActCommit tid m c actors) = ⊥
RecordTellsState Batches Acts a (BatchDone bid values) = ⊥
RecordTellsState Batches Acts a (ActDone tid m c value actors) = ⊥
RecordTellsState Batches Acts a (Checkpoint generation next_tid next_bid next_c batches acts states) = ⊥

-- the state of the last record that has P, and where none has it the first one
abbrev pub StateOver : (Record → Type 0) → List Record → State → State → Type 0
StateOver P rs first s =
    ((r : Record) × (states_in r ≡ s ∷ []) × IsLastOf P rs r)
    ⊎ (AllByRecursion (λ r. ¬ P r) rs × (s ≡ first))

-- the states of the actors whose log this is are those that it tells, and the others are as they were
pub record Replays (log logs : ℕ) (Batches Acts : ℕ → Type 0) (rs : List Record) (old new : List State) : Type 0 where
  pub long : length new ≡ length old
  pub here : (a : ℕ) (d : State) → a < length old → a % logs ≡ log
      → StateOver (RecordTellsState Batches Acts a) rs (slice_index_or old a d) (slice_index_or new a d)
  pub elsewhere : (a : ℕ) (d : State) → a < length old → a % logs ≢ log → slice_index_or new a d ≡ slice_index_or old a d

-- ---- what is whole

-- nothing is lacking of the batch, or the ACT, with this number
abbrev pub MemberWhole : Kind → List (List Record) → ℕ → Type 0
MemberWhole kinds.Batch logs n = IsBatchWhole logs (bid_at n)
MemberWhole kinds.Act logs n = IsActWhole logs (tid_at n)

-- the batch, or the ACT, with this number lacks the key in this log
abbrev pub MemberLacks : Kind → List (List Record) → ℕ → Key → ℕ → Type 0
MemberLacks kinds.Batch logs n k log = LacksInfo logs (bid_at n) k log ⊎ LacksComplete logs (bid_at n) k log
MemberLacks kinds.Act logs n k log = LacksPrepare logs (tid_at n) k log

-- the actors of the batch, or the ACT, as the last record with its key tells them
abbrev pub TellsActors : Kind → ℕ → List Record → List ActorId → Type 0
TellsActors kinds.Batch n rs actors =
    (tids : List Tid) × IsLastOf (λ r. key r ≡ keys.Info (bid_at n)) rs (BatchInfo (bid_at n) actors tids)
TellsActors kinds.Act n rs actors =
    (m : Bid) × (c : ℕ) × (value : Option ℤ)
    × IsLastOf (λ r. key r ≡ keys.Act (tid_at n)) rs (act_record (tid_at n) m c value actors)

-- the answer tells what the batch, or the ACT, lacks
abbrev pub IsLackOf : Kind → List (List Record) → ℕ → RecoverNo → Type 0
IsLackOf kind logs n NoGenesis = ⊥
IsLackOf kind logs n TwoGenesis = ⊥
IsLackOf kind logs n (LogCount count found) = ⊥
IsLackOf kind logs n (Range k log) = ⊥
IsLackOf kind logs n (Missing k log) = MemberLacks kind logs n k log
IsLackOf kind logs n (Values k log count found) = ⊥
IsLackOf kind logs n Memory = ⊤

-- the first key that is lacking of this kind, and its log
abbrev pub IsFirstLackingOf : Kind → List (List Record) → Key → ℕ → Type 0
IsFirstLackingOf kinds.Batch logs k log = IsFirstBatchLacking logs k log
IsFirstLackingOf kinds.Act logs k log = IsFirstActLacking logs k log

-- the answer tells the first key that is lacking of this kind
abbrev pub IsFirstLackOfKind : Kind → List (List Record) → RecoverNo → Type 0
IsFirstLackOfKind kind logs NoGenesis = ⊥
IsFirstLackOfKind kind logs TwoGenesis = ⊥
IsFirstLackOfKind kind logs (LogCount count found) = ⊥
IsFirstLackOfKind kind logs (Range k log) = ⊥
IsFirstLackOfKind kind logs (Missing k log) = IsFirstLackingOf kind logs k log
IsFirstLackOfKind kind logs (Values k log count found) = ⊥
IsFirstLackOfKind kind logs Memory = ⊤

-- the answer tells the first key that is lacking
abbrev pub IsFirstLackOf : List (List Record) → RecoverNo → Type 0
IsFirstLackOf logs NoGenesis = ⊥
IsFirstLackOf logs TwoGenesis = ⊥
IsFirstLackOf logs (LogCount count found) = ⊥
IsFirstLackOf logs (Range k log) = ⊥
IsFirstLackOf logs (Missing k log) = IsFirstLacking logs k log
IsFirstLackOf logs (Values k log count found) = ⊥
IsFirstLackOf logs Memory = ⊤

-- nothing is lacking of this kind
abbrev pub AllWhole : Kind → List (List Record) → Type 0
AllWhole kind logs = (n : ℕ) → HasKey (log_of logs n) (commit_key kind n) → MemberWhole kind logs n

-- nothing is lacking
pub record IsAllWhole (logs : List (List Record)) : Type 0 where
  pub batches : (bid : Bid) → IsIn logs bid → IsBatchWhole logs bid
  pub acts : (tid : Tid) → IsActIn logs tid → IsActWhole logs tid

-- the answer tells which values of this batch are lacking
abbrev pub IsValuesLackOf : List (List Record) → ℕ → RecoverNo → Type 0
IsValuesLackOf logs n NoGenesis = ⊥
IsValuesLackOf logs n TwoGenesis = ⊥
IsValuesLackOf logs n (LogCount count found) = ⊥
IsValuesLackOf logs n (Range k log) = ⊥
IsValuesLackOf logs n (Missing k log) = ⊥
IsValuesLackOf logs n (Values k log count found) = LacksValues logs (bid_at n) k log count found
IsValuesLackOf logs n Memory = ⊤

-- the answer tells the first batch whose values are lacking
abbrev pub IsFirstValuesLackOf : List (List Record) → RecoverNo → Type 0
IsFirstValuesLackOf logs NoGenesis = ⊥
IsFirstValuesLackOf logs TwoGenesis = ⊥
IsFirstValuesLackOf logs (LogCount count found) = ⊥
IsFirstValuesLackOf logs (Range k log) = ⊥
IsFirstValuesLackOf logs (Missing k log) = ⊥
IsFirstValuesLackOf logs (Values k log count found) = IsFirstLackingValues logs k log count found
IsFirstValuesLackOf logs Memory = ⊤

-- each batch that is in has its values
abbrev pub AllValued : List (List Record) → Type 0
AllValued logs = (n : ℕ) → HasKey (log_of logs n) (commit_key kinds.Batch n) → HasItsValues logs (bid_at n)

-- ---- the order of what is kept

-- a batch number, 0 for a batch and 1 for an ACT behind it, the commit number, and the tid
abbrev pub Spot : Type 0
Spot = ℕ × ℕ × ℕ × ℕ

abbrev pub spot_cmp : Spot → Spot → Ordering
spot_cmp x y = ordering_then (ordering_then (ordering_then (nat_cmp x.0 y.0) (nat_cmp x.1 y.1)) (nat_cmp x.2 y.2)) (nat_cmp x.3 y.3)

-- all of the numbers are in
abbrev pub HasIn : Kind → List (List Record) → List ℕ → Type 0
HasIn kind logs numbers = AllByRecursion (λ n. HasKey (log_of logs n) (commit_key kind n)) numbers

abbrev pub InSpots : List Spot → Spot → Type 0
InSpots spots x = Contains spots x

-- where something kept stands
abbrev pub spot_of : Kept → Spot
spot_of (kept.Batch bid tids values) = (bid.0, 0, 0, 0)
spot_of (kept.Act tid m c value) = (m.0, 1, c, tid.0)

abbrev pub IsBatchSpot : ℕ → Spot → Type 0
IsBatchSpot n x = x ≡ (n, 0, 0, 0)

-- the spot of this ACT, as its commit tells it
abbrev pub IsActSpot : List (List Record) → ℕ → Spot → Type 0
IsActSpot logs n x =
    (m : Bid) × (c : ℕ) × (value : Option ℤ) × (actors : List ActorId)
    × IsActOf logs (tid_at n) m c value actors × (x ≡ (m.0, 1, c, n))

-- the spots of these numbers are added
abbrev pub AddsSpots : (ℕ → Spot → Type 0) → List ℕ → List Spot → List Spot → Type 0
AddsSpots IsSpot numbers old new = (x : Spot) → InSpots new x ↔ (InSpots old x ⊎ ((n : ℕ) × Contains numbers n × IsSpot n x))

-- the spot of a batch or an ACT that is in
abbrev pub IsSpotIn : List (List Record) → Spot → Type 0
IsSpotIn logs x =
    ((n : ℕ) × IsIn logs (bid_at n) × IsBatchSpot n x)
    ⊎ ((n : ℕ) × IsActIn logs (tid_at n) × IsActSpot logs n x)

-- the spots of all that is in, in their order
pub record HasSpots (logs : List (List Record)) (spots : List Spot) : Type 0 where
  pub ascend : IsStrictlySortedBy spot_cmp spots
  pub all : (x : Spot) → InSpots spots x ↔ IsSpotIn logs x

-- what is kept at the spot
pub record IsKeptAt (logs : List (List Record)) (x : Spot) (k : Kept) : Type 0 where
  pub at : spot_of k ≡ x
  pub is_kept : IsKeptIn logs k
