-- The records in front of a log, by which it is told whether it is a head.
use Rattle.std.specs.Prelude.{◌≡◌, ◌≤◌, ◌⊎◌, ℕ, List, [], ◌∷◌, ◌++◌, length, map, take, ⊤}
use Rattle.std.specs.List.{AllByRecursion}
use Rattle.gate_log.specs.Bytes.{IsLog}
use Rattle.txn_records.specs.declared.records.Record.{Record}
use Rattle.txn_records.specs.Records.{record_bytes, IsRecord}
use Rattle.record_log.specs.Records.{HoldsRecords}

-- the item is no record
abbrev pub IsNoRecord : List ℕ → Type 0
IsNoRecord item = (r : Record) → IsRecord r → ¬ (item ≡ record_bytes r)

-- there is no item, or the first one is no record
abbrev pub StopsAt : List (List ℕ) → Type 0
StopsAt [] = ⊤
StopsAt (item ∷ items) = IsNoRecord item

-- The records in front of these items: the first two, or all up to the first item that is no record.
pub record IsFront (items : List (List ℕ)) (front : List Record) : Type 0 where
  pub behind : List (List ℕ)
  pub parts : items ≡ map record_bytes front ++ behind
  pub each : AllByRecursion IsRecord front
  pub few : length front ≤ 2
  pub whole : (length front ≡ 2) ⊎ StopsAt behind

-- the bytes are a log with these records in front
abbrev pub HoldsFront : List ℕ → List Record → Type 0
HoldsFront bytes front = (items : List (List ℕ)) × IsLog bytes items × IsFront items front

-- ---- laws

-- items have one front at most
abbrev pub OneFront : Type 0
OneFront = (items : List (List ℕ)) (f g : List Record) → IsFront items f → IsFront items g → f ≡ g

-- of bytes that hold records the first two of these stand in front, and nothing else does
pub record FrontsOfRecords : Type 0 where
  pub one : (bytes : List ℕ) (rs f : List Record) → HoldsRecords bytes rs → HoldsFront bytes f → f ≡ take 2 rs
  pub there : (bytes : List ℕ) (rs : List Record) → HoldsRecords bytes rs → HoldsFront bytes (take 2 rs)
