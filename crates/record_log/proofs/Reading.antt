-- Items of a log that are read as records, one after the other.
use Rattle.std.proofs.Common.{◌≡◌, ℕ, ◌+◌, ◌<◌, ◌≤◌, ◌^◌, List, [], ◌∷◌, ◌++◌, length, take, drop, get_or, refl, sym, ◌∙◌, ap, subst, append_assoc, arith}
use Rattle.std.proofs.lemmas.List.{length-append, take-append-drop, take_more}
use Rattle.std.specs.List.{AllByRecursion}
use Rattle.snap_base.proofs.Lists.{all_join, each_read}
use Rattle.gate_log.specs.declared.logs.LogItem.{LogItem}
use Rattle.gate_log.specs.Bytes.{header, item_bytes, items_bytes, group_bytes, blocks, placed_items, placed_groups, IsItem, IsGroup, IsPlacedLogAt}
use Rattle.txn_records.specs.declared.records.Record.{Record}
use Rattle.record_log.specs.declared.items.ItemsNo.{ItemsNo}
use Rattle.record_log.specs.declared.items.ItemsNo.TheVariants.{BadRecord, Memory}
use Rattle.record_log.specs.Reading.{IsNearItem, IsNoItem}
use Rattle.record_log.specs.Records.{IsItemOf, AreItemsOf, AreNoRecords}

-- ---- where the items of a log lie

items_near : (place : ℕ) (items : List (List ℕ)) → AllByRecursion IsItem items → place + length (items_bytes items) ≤ 2 ^ 63 → AllByRecursion IsNearItem (placed_items place items)
items_near place [] are low = tt
items_near place (item ∷ items) are low =
    let size = length-append (item_bytes item) (items_bytes items) in
    let first : length (item_bytes item) ≡ 2 + length item = omega arith in
    (record { short = are.0.short; low = omega (arith, low, size, first) }, items_near (place + 2 + length item) items are.1 (omega (arith, low, size, first)))

groups_near : (place : ℕ) (groups : List (List (List ℕ))) → AllByRecursion IsGroup groups → place + length (blocks groups) ≤ 2 ^ 63 → AllByRecursion IsNearItem (placed_groups place groups)
groups_near place [] are low = tt
groups_near place (group ∷ groups) are low =
    let size = length-append (1 ∷ group_bytes group) (blocks groups) in
    let first : length (1 ∷ group_bytes group) ≡ 5 + length (items_bytes group) = omega arith in
    all_join IsNearItem (placed_items (place + 5) group) (placed_groups (place + 5 + length (items_bytes group)) groups)
    (items_near (place + 5) group are.0.items (omega (arith, low, size, first)))
    (groups_near (place + 5 + length (items_bytes group)) groups are.1 (omega (arith, low, size, first)))

log_near : (bytes : List ℕ) (end : ℕ) (items : List LogItem) → IsPlacedLogAt bytes end items → end ≤ 2 ^ 63 → AllByRecursion IsNearItem items
log_near bytes end items log low =
    let p = log.parts in
    let size : end ≡ 8 + length (blocks p.0) = p.6 ∙ length-append (header log.mark) (blocks p.0) in
    subst (λ (found : List LogItem). AllByRecursion IsNearItem found) (sym p.7) (groups_near 8 p.0 p.3 (omega (arith, size, low)))

pub near_at : (bytes : List ℕ) (end : ℕ) (items : List LogItem) (i : ℕ) (item : LogItem) → IsPlacedLogAt bytes end items → end ≤ 2 ^ 63
    → i < length items → item ≡ get_or items i item → IsNearItem item
near_at bytes end items i item log low within is =
    subst (λ (x : LogItem). IsNearItem x) (sym is) (each_read IsNearItem items i item (log_near bytes end items log low) within)

-- ---- the records so far

are_more : (items : List LogItem) (item : LogItem) (rs : List Record) (r : Record) → AreItemsOf items rs → IsItemOf item r → AreItemsOf (items ++ item ∷ []) (rs ++ r ∷ [])
are_more [] item rs r are is = (r, [], ap (λ (xs : List Record). xs ++ r ∷ []) are, is, refl)
are_more (first ∷ items) item rs r are is = (are.0, are.1 ++ r ∷ [], ap (λ (xs : List Record). xs ++ r ∷ []) are.2, are.3, are_more items item are.1 r are.4 is)

next_item : (items : List LogItem) (i : ℕ) (item : LogItem) → i < length items → item ≡ get_or items i item → take (i + 1) items ≡ take i items ++ item ∷ []
next_item items i item within is = take_more items i item within ∙ ap (λ (x : LogItem). take i items ++ x ∷ []) (sym is)

pub records_more : (items : List LogItem) (i : ℕ) (item : LogItem) (rs new : List Record) (r : Record) → i < length items → item ≡ get_or items i item
    → AreItemsOf (take i items) rs → IsItemOf item r → new ≡ rs ++ r ∷ [] → AreItemsOf (take (i + 1) items) new
records_more items i item rs new r within is are one more =
    subst (λ (xs : List LogItem). AreItemsOf xs new) (sym (next_item items i item within is))
    (subst (λ (xs : List Record). AreItemsOf (take i items ++ item ∷ []) xs) (sym more) (are_more (take i items) item rs r are one))

pub stops_at : (items : List LogItem) (i : ℕ) (item : LogItem) (rs : List Record) (why : ItemsNo) → i < length items → item ≡ get_or items i item
    → AreItemsOf (take i items) rs → IsNoItem item why → AreNoRecords items why
stops_at items i item rs (BadRecord offset) within is are bad =
    let parts : items ≡ take i items ++ item ∷ drop (i + 1) items =
    sym (take-append-drop (i + 1) items) ∙ ap (λ (xs : List LogItem). xs ++ drop (i + 1) items) (next_item items i item within is)
    ∙ append_assoc (take i items) (item ∷ []) (drop (i + 1) items) in
    (take i items, drop (i + 1) items, item, bad.0, parts, (rs, are), bad.1, bad.2)
stops_at items i item rs Memory within is are bad = tt
