-- How many bytes items of records take.
use Rattle.std.proofs.Common.{◌≡◌, ℕ, ◌+◌, ◌*◌, ◌≤◌, List, [], ◌∷◌, length, arith}
use Rattle.std.proofs.lemmas.List.{length-append}
use Rattle.std.specs.List.{AllByRecursion}
use Rattle.gate_log.specs.declared.limits.TheConstants.{LARGEST_GROUP}
use Rattle.gate_log.specs.Bytes.{IsItem, item_bytes, items_bytes}
use Rattle.gate_log.specs.Device.{MayAppend}
use Rattle.txn_records.specs.declared.limits.TheConstants.{LONGEST_RECORD}
use Rattle.txn_records.specs.declared.records.Record.{Record}
use Rattle.txn_records.specs.RecordLaws.{RecordsAreShort}
use Rattle.txn_records.specs.Records.{record_bytes, IsRecord}
use Rattle.record_log.specs.declared.limits.TheConstants.{MOST_RECORDS, FARTHEST_APPEND}
use Rattle.record_log.specs.Records.{spelled}

module _ (law : RecordsAreShort) where
  spelled_are_items : (rs : List Record) → AllByRecursion IsRecord rs → AllByRecursion IsItem (spelled rs)
  spelled_are_items [] are = tt
  spelled_are_items (r ∷ rs) are =
      let size = law r are.0 in
      (record { some = size.0; short = omega (arith, size.1) }, spelled_are_items rs are.1)

  items_size : (rs : List Record) → AllByRecursion IsRecord rs → length (items_bytes (spelled rs)) ≤ (LONGEST_RECORD + 2) * length rs
  items_size [] are = omega arith
  items_size (r ∷ rs) are =
      let size = law r are.0 in
      let first : length (item_bytes (record_bytes r)) ≡ 2 + length (record_bytes r) = omega arith in
      omega (arith, length-append (item_bytes (record_bytes r)) (items_bytes (spelled rs)), first, size.1, items_size rs are.1)

  pub few_take_little : (rs : List Record) → AllByRecursion IsRecord rs → length rs ≤ MOST_RECORDS → length (items_bytes (spelled rs)) ≤ LARGEST_GROUP
  few_take_little rs are few = omega (arith, items_size rs are, few)

  pub few_may : (end : ℕ) (rs : List Record) → AllByRecursion IsRecord rs → length rs ≤ MOST_RECORDS → end ≤ FARTHEST_APPEND → MayAppend end (spelled rs)
  few_may end rs are few low =
      let little = few_take_little rs are few in
      record { items = spelled_are_items rs are; short = little; fits = omega (arith, little, low) }
