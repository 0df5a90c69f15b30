-- The first offset at which no record goes on.
use Rattle.std.specs.Prelude.{◌≡◌, ℕ, ◌+◌, ◌<◌, ◌≤◌, List, ◌++◌, length, take, ⊤}
use Rattle.txn_records.specs.declared.records.Record.{Record}
use Rattle.txn_records.specs.declared.decoding.DecodeNo.{DecodeNo}
use Rattle.txn_records.specs.declared.decoding.DecodeNo.TheVariants.{Bad, Memory}
use Rattle.txn_records.specs.Records.{record_bytes, IsRecord}

-- some record's bytes begin so
abbrev pub BeginsRecord : List ℕ → Type 0
BeginsRecord front = (r : Record) × (rest : List ℕ) × IsRecord r × (record_bytes r ≡ front ++ rest)

-- Some record begins with the bytes before the offset. None begins with these and the byte at it, and where
-- there is none, no record's bytes are these.
pub record IsFirstBad (bytes : List ℕ) (offset : ℕ) : Type 0 where
  pub within : offset ≤ length bytes
  pub goes : BeginsRecord (take offset bytes)
  pub stops : offset < length bytes → BeginsRecord (take (offset + 1) bytes) → ⊥
  pub ends : offset ≡ length bytes → (r : Record) → IsRecord r → record_bytes r ≡ bytes → ⊥

-- why no record was read
abbrev pub IsNoRecord : List ℕ → DecodeNo → Type 0
IsNoRecord bytes (Bad offset) = IsFirstBad bytes offset
IsNoRecord bytes Memory = ⊤
