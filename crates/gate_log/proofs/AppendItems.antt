-- What an item adds to the size of a group.
use Rattle.std.proofs.Common.{◌≡◌, ℕ, ◌+◌, ◌<◌, ◌≤◌, List, length, get_or, take, ap, arith}
use Rattle.std.proofs.lemmas.List.Folds.{length-flat_map-take}
use Rattle.gate_log.specs.Bytes.{item_bytes, items_bytes}

pub size_within : (items : List (List ℕ)) (i : ℕ) (item : List ℕ) → i < length items → item ≡ get_or items i item
    → length (items_bytes (take i items)) + (length item + 2) ≤ length (items_bytes items)
size_within items i item within is =
    omega (arith, length-flat_map-take item_bytes items i item within, ap (λ (u : List ℕ). length u) is)
