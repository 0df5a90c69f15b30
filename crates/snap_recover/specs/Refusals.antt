-- Why logs recover to nothing. The causes stand in the order in which they are asked.
use Rattle.std.specs.Prelude.{◌≡◌, ◌≢◌, ℕ, ℤ, Option, ◌%◌, ◌<◌, ◌≤◌, ◌⊎◌, List, [], ◌∷◌, ◌++◌, length, ⊤}
use Rattle.std.specs.List.{AllByRecursion}
use Rattle.snap_base.specs.declared.ids.ActorId.{ActorId}
use Rattle.snap_base.specs.declared.ids.Bid.{Bid}
use Rattle.snap_base.specs.declared.ids.Tid.{Tid}
use Rattle.snap_base.specs.declared.transactions.State.{State}
use Rattle.txn_records.specs.declared.records.Record.{Record}
use Rattle.txn_records.specs.declared.records.Record.TheVariants.{Genesis, BatchDone}
use Rattle.txn_records.specs.declared.keys.Key.{Key}
use Rattle.txn_records.specs.declared.keys.Key.TheVariants as keys
use Rattle.txn_records.specs.Records.{key}
use Rattle.snap_recover.specs.declared.refusals.RecoverNo.{RecoverNo}
use Rattle.snap_recover.specs.declared.refusals.RecoverNo.TheVariants.{NoGenesis, TwoGenesis, LogCount, Range, Missing, Values, Memory}
use Rattle.snap_recover.specs.Logs.{all_of, log_of, HasKey, geneses}
use Rattle.snap_recover.specs.Opening.{IsIn, IsInfoOf, IsCommitOf, HasItsValues, HasCompleted, IsBatchWhole, IsActIn, IsActOf, HasPrepared, IsActWhole, IsInRange, AreBegunWith}

-- the first record, log by log, that is not in range, and the log in which it stands
abbrev pub IsFirstOutOfRange : ℕ → List (List Record) → Record → ℕ → Type 0
IsFirstOutOfRange actors logs r log =
    (before after : List (List Record)) × (front behind : List Record)
    × (logs ≡ before ++ (front ++ r ∷ behind) ∷ after) × (log ≡ length before)
    × AllByRecursion (IsInRange actors) (all_of before ++ front) × ¬ IsInRange actors r

-- a batch lacks its info
abbrev pub LacksInfo : List (List Record) → Bid → Key → ℕ → Type 0
LacksInfo logs bid k log = (k ≡ keys.Info bid) × (log ≡ bid.0 % length logs) × ¬ HasKey (log_of logs bid.0) k

-- an actor of the batch has not completed it, and all before it have
abbrev pub LacksComplete : List (List Record) → Bid → Key → ℕ → Type 0
LacksComplete logs bid k log =
    (front behind : List ActorId) × (actor : ActorId) × (tids : List Tid)
    × IsInfoOf logs bid (front ++ actor ∷ behind) tids × AllByRecursion (HasCompleted logs bid) front
    × (k ≡ keys.Complete bid actor) × (log ≡ actor.0 % length logs) × ¬ HasCompleted logs bid actor

-- an actor of the ACT has not prepared it, and all before it have
abbrev pub LacksPrepare : List (List Record) → Tid → Key → ℕ → Type 0
LacksPrepare logs tid k log =
    (front behind : List ActorId) × (actor : ActorId) × (m : Bid) × (c : ℕ) × (value : Option ℤ)
    × IsActOf logs tid m c value (front ++ actor ∷ behind) × AllByRecursion (HasPrepared logs tid) front
    × (k ≡ keys.Prepare tid actor) × (log ≡ actor.0 % length logs) × ¬ HasPrepared logs tid actor

-- the first key that is lacking of batches, by their numbers, and the log in which it should be
abbrev pub IsFirstBatchLacking : List (List Record) → Key → ℕ → Type 0
IsFirstBatchLacking logs k log =
    (bid : Bid) × IsIn logs bid × ((b : Bid) → b.0 < bid.0 → IsIn logs b → IsBatchWhole logs b)
    × (LacksInfo logs bid k log ⊎ LacksComplete logs bid k log)

-- the first key that is lacking of ACTs, by their tids, and the log in which it should be
abbrev pub IsFirstActLacking : List (List Record) → Key → ℕ → Type 0
IsFirstActLacking logs k log =
    (tid : Tid) × IsActIn logs tid × ((t : Tid) → t.0 < tid.0 → IsActIn logs t → IsActWhole logs t)
    × LacksPrepare logs tid k log

-- the first key that is lacking: that of an ACT only where nothing is lacking of the batches
abbrev pub IsFirstLacking : List (List Record) → Key → ℕ → Type 0
IsFirstLacking logs k log =
    IsFirstBatchLacking logs k log
    ⊎ (((bid : Bid) → IsIn logs bid → IsBatchWhole logs bid) × IsFirstActLacking logs k log)

-- the commit of a batch tells values, and not one for each of its transactions
abbrev pub LacksValues : List (List Record) → Bid → Key → ℕ → ℕ → ℕ → Type 0
LacksValues logs bid k log count found =
    (actors : List ActorId) × (tids : List Tid) × (values : List ℤ)
    × IsInfoOf logs bid actors tids × IsCommitOf logs bid (BatchDone bid values)
    × (count ≡ length tids) × (found ≡ length values) × (count ≢ found)
    × (k ≡ keys.Commit bid) × (log ≡ bid.0 % length logs)

-- the first batch whose commit tells values, and not one for each of its transactions, by the numbers
abbrev pub IsFirstLackingValues : List (List Record) → Key → ℕ → ℕ → ℕ → Type 0
IsFirstLackingValues logs k log count found =
    (bid : Bid) × IsIn logs bid × ((b : Bid) → b.0 < bid.0 → IsIn logs b → HasItsValues logs b)
    × LacksValues logs bid k log count found

-- nothing is lacking
abbrev pub NoneMissing : List (List Record) → Type 0
NoneMissing logs = ((bid : Bid) → IsIn logs bid → IsBatchWhole logs bid) × ((tid : Tid) → IsActIn logs tid → IsActWhole logs tid)

-- The logs are refused for this cause. A cause holds only where none that stands before it does. Memory says nothing of the logs.
abbrev pub IsRefused : List (List Record) → RecoverNo → Type 0
IsRefused logs NoGenesis = geneses logs ≡ []
IsRefused logs TwoGenesis = 2 ≤ length (geneses logs)
IsRefused logs (LogCount count found) =
    (first : List State) × (geneses logs ≡ Genesis count first ∷ []) × (found ≡ length logs) × (count ≢ found)
IsRefused logs (Range k log) =
    (first : List State) × (r : Record) × (geneses logs ≡ Genesis (length logs) first ∷ [])
    × IsFirstOutOfRange (length first) logs r log × (k ≡ key r)
IsRefused logs (Missing k log) = (first : List State) × AreBegunWith logs first × IsFirstLacking logs k log
IsRefused logs (Values k log count found) =
    (first : List State) × AreBegunWith logs first × NoneMissing logs × IsFirstLackingValues logs k log count found
IsRefused logs Memory = ⊤

-- ---- its parts alone

-- the logs are not begun: what is refused is their Genesis, or a number
abbrev pub IsNotBegun : List (List Record) → RecoverNo → Type 0
IsNotBegun logs NoGenesis = IsRefused logs NoGenesis
IsNotBegun logs TwoGenesis = IsRefused logs TwoGenesis
IsNotBegun logs (LogCount count found) = IsRefused logs (LogCount count found)
IsNotBegun logs (Range k log) = IsRefused logs (Range k log)
IsNotBegun logs (Missing k log) = ⊥
IsNotBegun logs (Values k log count found) = ⊥
IsNotBegun logs Memory = ⊥

-- something is lacking of what is committed
abbrev pub IsLack : List (List Record) → RecoverNo → Type 0
IsLack logs NoGenesis = ⊥
IsLack logs TwoGenesis = ⊥
IsLack logs (LogCount count found) = ⊥
IsLack logs (Range k log) = ⊥
IsLack logs (Missing k log) = IsFirstLacking logs k log
IsLack logs (Values k log count found) = NoneMissing logs × IsFirstLackingValues logs k log count found
IsLack logs Memory = ⊤
