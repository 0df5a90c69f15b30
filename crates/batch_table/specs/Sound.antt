-- What the desk keeps, beside what contracts see, so that no call walks the batches: numbers and tids ascend, each
-- transaction has a spot, the live batches are counted, and all batches below the front are over.
use Rattle.std.specs.Prelude.{◌≡◌, ℕ, zero, suc, ◌+◌, ◌<◌, ◌≤◌, Bool, true, false, ◌||◌, List, [], ◌∷◌, length, map, ⊤}
use Rattle.std.specs.List.{AllByRecursion}
use Rattle.protocol.specs.Parts.{Stage, Batch}
use Rattle.protocol.specs.Words.{is_formed, is_settled, count, is_live_batch}
use Rattle.protocol.specs.Numbers.{from}
use Rattle.batch_table.specs.declared.spots.Spot.{Spot}
use Rattle.batch_table.specs.Joining.{bids_of, batch_tids, batch_txs, first_or_zero, AreConsecutive}
use Rattle.batch_table.specs.Spots.{AreSpotted}

-- each batch has tids, one after another, and above all of the batches before it
abbrev pub TidsAscend : ℕ → List (List ℕ) → Type 0
TidsAscend low [] = ⊤
TidsAscend low (ts ∷ tss) = (low ≤ first_or_zero ts) × (0 < length ts) × AreConsecutive ts × TidsAscend (first_or_zero ts + length ts) tss

-- ---- the front: how many batches are over, all of them ahead of all others

-- whether a batch is aborted, and how far it is
pub record BatchStanding : Type 0 where
  pub aborted : Bool
  pub stage : Stage

abbrev pub batch_standing : Batch → BatchStanding
batch_standing b = record { aborted = b.aborted; stage = b.stage }

abbrev pub standings_of : List Batch → List BatchStanding
standings_of batches = map batch_standing batches

abbrev pub IsBatchOver : BatchStanding → Type 0
IsBatchOver m = (m.aborted || is_settled m.stage) ≡ true

-- under way
abbrev pub IsNotOver : BatchStanding → Type 0
IsNotOver m = (m.aborted ≡ false) × (is_settled m.stage ≡ false)

-- formed, and nothing else
abbrev pub IsOpen : BatchStanding → Type 0
IsOpen m = (m.aborted ≡ false) × (is_formed m.stage ≡ true)

-- the first so many are over, the next one is not, and those behind it are open
abbrev pub IsFrontCount : ℕ → List BatchStanding → Type 0
IsFrontCount zero [] = ⊤
IsFrontCount (suc n) [] = ⊥
IsFrontCount zero (m ∷ ms) = IsNotOver m × AllByRecursion IsOpen ms
IsFrontCount (suc n) (m ∷ ms) = IsBatchOver m × IsFrontCount n ms

-- ---- all of it

pub record IsSoundDesk (base : ℕ) (batches : List Batch) (settled : ℕ) (replied : List Bool) (spots : List Spot) (live front : ℕ) : Type 0 where
  pub numbered : bids_of batches ≡ from (base + 1) (length batches)
  pub begun : batches ≡ [] → settled ≡ base
  pub ascending : TidsAscend 0 (batch_tids batches)
  pub spotted : AreSpotted 0 spots (batch_txs batches)
  pub room : length spots ≡ length replied
  pub counted : live ≡ count is_live_batch batches
  pub parted : IsFrontCount front (standings_of batches)
