-- A record as a log takes it.
use Rattle.std.specs.Prelude.{ℕ, List}
use Rattle.txn_records.specs.declared.keys.Key.{Key}
use Rattle.txn_records.specs.declared.records.Record.{Record}
use Rattle.txn_records.specs.Records.{key, record_bytes}

pub record Item : Type 0 where
  pub key : Key
  pub bytes : List ℕ

abbrev pub item_of : Record → Item
item_of r = record { key = key r; bytes = record_bytes r }
