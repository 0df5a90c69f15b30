-- What reading one item finds.
use Rattle.std.specs.Prelude.{◌≡◌, ℕ, ◌+◌, ◌≤◌, length, ⊤}
use Rattle.gate_log.specs.declared.limits.TheConstants.{LONGEST_ITEM, FARTHEST_END}
use Rattle.gate_log.specs.declared.logs.LogItem.{LogItem}
use Rattle.txn_records.specs.Faults.{IsFirstBad}
use Rattle.record_log.specs.declared.items.ItemsNo.{ItemsNo}
use Rattle.record_log.specs.declared.items.ItemsNo.TheVariants.{BadRecord, Memory}

-- an item whose bytes, and the end behind them, lie in a file that offsets can name
pub record IsNearItem (item : LogItem) : Type 0 where
  pub short : length item.bytes ≤ LONGEST_ITEM
  pub low : item.at + length item.bytes ≤ FARTHEST_END

-- why the item is no record
abbrev pub IsNoItem : LogItem → ItemsNo → Type 0
IsNoItem item (BadRecord offset) = (bad : ℕ) × IsFirstBad item.bytes bad × (offset ≡ item.at + bad)
IsNoItem item Memory = ⊤
