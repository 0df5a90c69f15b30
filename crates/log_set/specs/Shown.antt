-- Which log of the machine a log's list side shows.
use Rattle.std.specs.Prelude.{◌≡◌, ℕ, ◌≤◌, List, length, map, drop}
use Rattle.txn_records.specs.declared.keys.Key.{Key}
use Rattle.txn_records.specs.Records.{key, record_bytes}
use Rattle.log_set.specs.Logs.{LogList}
use Rattle.protocol.specs.Parts.{Log}
use Rattle.protocol.specs.Records.{LogRecord}
use Rattle.log_set.specs.Told.{told}

abbrev pub told_key : LogRecord → Key
told_key r = key (told r)

abbrev pub told_bytes : LogRecord → List ℕ
told_bytes r = record_bytes (told r)

-- it has the keys of this log's records, as many of them are synced, and what waits are the bytes of the others
pub record ShowsLog (list : LogList) (l : Log) : Type 0 where
  pub keys : list.keys ≡ map told_key l.records
  pub synced : list.synced ≡ l.synced
  pub within : l.synced ≤ length l.records
  pub waiting : list.waiting ≡ map told_bytes (drop l.synced l.records)
