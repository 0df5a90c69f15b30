-- What holds of every record. A law of `src/laws.rt` says each of these, and a proof that rests on one takes it
-- as a premise.
use Rattle.std.specs.Prelude.{◌≡◌, ◌≤◌, length}
use Rattle.txn_records.specs.declared.limits.TheConstants.{LONGEST_RECORD}
use Rattle.txn_records.specs.declared.records.Record.{Record}
use Rattle.txn_records.specs.Records.{record_bytes, IsRecord}

-- bytes are those of one record at most
abbrev pub OneRecord : Type 0
OneRecord = (a b : Record) → IsRecord a → IsRecord b → record_bytes a ≡ record_bytes b → a ≡ b

-- a record has some bytes, and not too many
abbrev pub RecordsAreShort : Type 0
RecordsAreShort = (r : Record) → IsRecord r → (1 ≤ length (record_bytes r)) × (length (record_bytes r) ≤ LONGEST_RECORD)
