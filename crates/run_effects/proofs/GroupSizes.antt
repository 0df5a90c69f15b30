-- How many bytes groups of records take, and where the gate stands behind them.
use Rattle.std.proofs.Common.{◌≡◌, ℕ, ◌+◌, ◌*◌, ◌^◌, ◌≤◌, List, [], ◌∷◌, ◌++◌, length, refl, arith}
use Rattle.std.proofs.lemmas.List.{length-append}
use Rattle.std.specs.List.{AllByRecursion}
use Rattle.record_log.specs.gate_log.Appends.{end_behind}
use Rattle.record_log.specs.gate_log.Bytes.{IsItem, item_bytes, items_bytes}
use Rattle.protocol.specs.Records.{LogRecord}
use Rattle.record_log.specs.txn_records.declared.records.Record.{Record}
use Rattle.record_log.specs.txn_records.RecordLaws.{RecordsAreShort}
use Rattle.record_log.specs.txn_records.Records.{record_bytes, IsRecord}
use Rattle.snap_hand.specs.log_set.Told.{told, all_told}
use Rattle.record_log.specs.Growth.{all_records, end_behind_groups, MayAppendGroup, MayAppendGroups}
use Rattle.record_log.specs.Records.{spelled}
use Rattle.run_effects.specs.Sizes.{longest_told}
use Rattle.run_effects.proofs.ToldSizes.{told_size}

-- a record, and of few bytes
pub record IsShort (r : Record) : Type 0 where
  pub is : IsRecord r
  pub some : 1 ≤ length (record_bytes r)
  pub few : length (record_bytes r) ≤ longest_told

-- those of the machine are, where they are records
pub told_short : RecordsAreShort → (rs : List LogRecord) → AllByRecursion IsRecord (all_told rs) → AllByRecursion IsShort (all_told rs)
told_short law [] are = tt
told_short law (r ∷ rs) are = (record { is = are.0; some = (law (told r) are.0).0; few = told_size r are.0 }, told_short law rs are.1)

-- ---- one group

short_items : (rs : List Record) → AllByRecursion IsShort rs → AllByRecursion IsItem (spelled rs)
short_items [] are = tt
short_items (r ∷ rs) are = (record { some = are.0.some; short = omega (arith, are.0.few) }, short_items rs are.1)

short_records : (rs : List Record) → AllByRecursion IsShort rs → AllByRecursion IsRecord rs
short_records [] are = tt
short_records (r ∷ rs) are = (are.0.is, short_records rs are.1)

-- each takes its bytes, and two for its length
abbrev pub bytes_each : ℕ
bytes_each = longest_told + 2

pub short_size : (rs : List Record) → AllByRecursion IsShort rs → length (items_bytes (spelled rs)) ≤ bytes_each * length rs
short_size [] are = omega arith
short_size (r ∷ rs) are =
    let first : length (item_bytes (record_bytes r)) ≡ 2 + length (record_bytes r) = omega arith in
    omega (arith, length-append (item_bytes (record_bytes r)) (items_bytes (spelled rs)), first, are.0.few, short_size rs are.1)

-- at a gate that is not near the end of offsets
pub short_may : (end : ℕ) (rs : List Record) → AllByRecursion IsShort rs → bytes_each * length rs ≤ 2 ^ 30 → end ≤ 2 ^ 63 + 2 ^ 62 + 2 ^ 30 → MayAppendGroup end rs
short_may end rs are few low =
    let size = short_size rs are in
    record { records = short_records rs are; may = record { items = short_items rs are; short = omega (arith, size, few); fits = omega (arith, size, few, low) } }

pub short_end : (end : ℕ) (rs : List Record) → AllByRecursion IsShort rs → end_behind end (spelled rs) ≤ end + 5 + bytes_each * length rs
short_end end [] are = omega arith
short_end end (r ∷ rs) are = omega (arith, short_size (r ∷ rs) are)

-- ---- groups

-- what the gate goes on by, at most
pub way : List (List Record) → ℕ
way groups = 5 * length groups + bytes_each * length (all_records groups)

pub way_is : (groups : List (List Record)) → way groups ≡ 5 * length groups + bytes_each * length (all_records groups)
unfolding way
way_is groups = refl

pub way_on : (group : List Record) (groups : List (List Record)) → way (group ∷ groups) ≡ 5 + bytes_each * length group + way groups
unfolding way
way_on group groups = omega (arith, length-append group (all_records groups))

pub way_none : way [] ≡ 0
unfolding way
way_none = omega arith

pub way_join : (xs ys : List (List Record)) → way (xs ++ ys) ≡ way xs + way ys
way_join [] ys = omega (arith, way_none)
way_join (x ∷ xs) ys = omega (arith, way_on x (xs ++ ys), way_on x xs, way_join xs ys)

pub groups_end : (end : ℕ) (groups : List (List Record)) → AllByRecursion (AllByRecursion IsShort) groups → end_behind_groups end groups ≤ end + way groups
groups_end end [] are = omega arith
groups_end end (group ∷ groups) are =
    omega (arith, groups_end (end_behind end (spelled group)) groups are.1, short_end end group are.0, way_on group groups)

pub groups_may : (end : ℕ) (groups : List (List Record)) → AllByRecursion (AllByRecursion IsShort) groups → way groups ≤ 2 ^ 30 → end + way groups ≤ 2 ^ 63 + 2 ^ 62 + 2 ^ 30 → MayAppendGroups end groups
groups_may end [] are few low = tt
groups_may end (group ∷ groups) are few low =
    let one = way_on group groups in
    let next = short_end end group are.0 in (
      short_may end group are.0 (omega (arith, one, few)) (omega (arith, one, low)),
      groups_may (end_behind end (spelled group)) groups are.1 (omega (arith, one, few)) (omega (arith, one, next, low)),
    )
