-- What a log is, as bytes: a header, groups of items behind open gates, and the first gate that is not open; and its format.
use Rattle.std.specs.Prelude.{◌≡◌, ◌≢◌, ℕ, ◌+◌, ◌==◌, ◌<◌, ◌≤◌, nat_le, if◌then◌else◌, ◌^◌, ◌⊎◌, List, [], ◌∷◌, ◌++◌, length, take, slice_index, codes}
use Rattle.std.specs.List.{AllByRecursion, flat_map}
use Rattle.gate_log.specs.declared.logs.LogItem.{LogItem}
use Rattle.std.specs.Int.{to_be_bytes, w16, w32}
use Rattle.gate_log.specs.declared.limits.TheConstants.{LONGEST_ITEM, NEW_LOG_SIZE}

-- each log begins with these bytes
abbrev pub magic : List ℕ
magic = codes "SNAPLOG"

-- the first eight bytes of a log with this mark
abbrev pub header : ℕ → List ℕ
header mark = magic ++ mark ∷ []

-- the first gate stands behind them, and behind the mark
abbrev pub FIRST_GATE : ℕ
FIRST_GATE = 8

-- ---- formats

-- the marks of logs of format 1, and of those that are written in format 2
abbrev pub MARK_1 : ℕ
MARK_1 = 49

abbrev pub MARK_2 : ℕ
MARK_2 = 50

-- every other mark is one of format 2
abbrev pub format_of : ℕ → ℕ
format_of mark = if mark == MARK_1 then 1 else 2

-- the format that the mark tells
abbrev pub marked_format : List ℕ → ℕ
marked_format bytes = format_of (slice_index bytes 7)

-- the format of bytes that are a log; where they are too few to hold an item it is format 2
abbrev pub format_in : List ℕ → ℕ
format_in bytes = if nat_le (length bytes) NEW_LOG_SIZE then 2 else marked_format bytes

-- ---- items

-- an item is its length in two bytes, and its bytes
abbrev pub item_bytes : List ℕ → List ℕ
item_bytes item = to_be_bytes w16 (length item) ++ item

-- the items, one behind the other
abbrev pub items_bytes : List (List ℕ) → List ℕ
items_bytes items = flat_map item_bytes items

-- a group is the length of its items in four bytes, and its items
abbrev pub group_bytes : List (List ℕ) → List ℕ
group_bytes items = to_be_bytes w32 (length (items_bytes items)) ++ items_bytes items

-- each group stands behind an open gate, the byte 1
abbrev pub blocks : List (List (List ℕ)) → List ℕ
blocks groups = flat_map (λ group. 1 ∷ group_bytes group) groups

-- the items of the groups, in order
abbrev pub items_of : List (List (List ℕ)) → List (List ℕ)
items_of groups = flat_map (λ (group : List (List ℕ)). group) groups

-- an item has some bytes, and no more than two bytes can count
pub record IsItem (item : List ℕ) : Type 0 where
  pub some : 1 ≤ length item
  pub short : length item ≤ LONGEST_ITEM

-- a group of items whose bytes four bytes can count
pub record IsGroup (group : List (List ℕ)) : Type 0 where
  pub items : AllByRecursion IsItem group
  pub short : length (items_bytes group) < 2 ^ 32

-- The bytes are a log whose first gate that is not open stands at `end`, and whose groups hold these items.
-- What lies behind that gate is no part of the log.
pub record IsLogAt (bytes : List ℕ) (end : ℕ) (items : List (List ℕ)) : Type 0 where
  pub mark : ℕ
  pub parts : (groups : List (List (List ℕ))) × (gate : ℕ) × (rest : List ℕ)
      × AllByRecursion IsGroup groups × (gate ≢ 1)
      × (bytes ≡ (header mark ++ blocks groups) ++ gate ∷ rest)
      × (end ≡ length (header mark ++ blocks groups))
      × (items ≡ items_of groups)

-- a file that is no longer than a new log holds no block, and stands for no item
abbrev pub IsLog : List ℕ → List (List ℕ) → Type 0
IsLog bytes items =
    ((length bytes ≤ NEW_LOG_SIZE) × (items ≡ []))
    ⊎ ((NEW_LOG_SIZE < length bytes) × ((end : ℕ) × IsLogAt bytes end items))

-- the bytes are a log of this format with these items
abbrev pub IsLogOf : List ℕ → ℕ → List (List ℕ) → Type 0
IsLogOf bytes format items = IsLog bytes items × (format ≡ format_in bytes)

-- the bytes are a log of format 1 with an item
abbrev pub IsOld : List ℕ → Type 0
IsOld bytes = (items : List (List ℕ)) × IsLogOf bytes 1 items × (items ≢ [])

-- ---- what is no log

-- the first byte that differs from those with which each log begins
pub record DiffersAt (bytes : List ℕ) (offset : ℕ) : Type 0 where
  pub within : offset < 7
  pub same : take offset bytes ≡ take offset magic
  pub differs : slice_index bytes offset ≢ slice_index magic offset

-- behind the open gate at the offset there is no whole group with a gate behind it
pub record IsDamagedAt (bytes : List ℕ) (offset : ℕ) : Type 0 where
  pub mark : ℕ
  pub parts : (groups : List (List (List ℕ))) × (rest : List ℕ)
      × AllByRecursion IsGroup groups
      × (bytes ≡ (header mark ++ blocks groups) ++ 1 ∷ rest)
      × (offset ≡ length (header mark ++ blocks groups))
      × ((group : List (List ℕ)) (gate : ℕ) (more : List ℕ) → IsGroup group → rest ≢ group_bytes group ++ gate ∷ more)

-- ---- where the items stand

-- the items of a group whose first length stands at an offset
abbrev pub placed_items : ℕ → List (List ℕ) → List LogItem
placed_items offset [] = []
placed_items offset (item ∷ items) = record { at = offset + 2; bytes = item } ∷ placed_items (offset + 2 + length item) items

-- the items of groups the first of whose gates stands at an offset
abbrev pub placed_groups : ℕ → List (List (List ℕ)) → List LogItem
placed_groups offset [] = []
placed_groups offset (group ∷ groups) = placed_items (offset + 5) group ++ placed_groups (offset + 5 + length (items_bytes group)) groups

-- the bytes are a log at `end` with these items at their places
pub record IsPlacedLogAt (bytes : List ℕ) (end : ℕ) (found : List LogItem) : Type 0 where
  pub mark : ℕ
  pub parts : (groups : List (List (List ℕ))) × (gate : ℕ) × (rest : List ℕ)
      × AllByRecursion IsGroup groups × (gate ≢ 1)
      × (bytes ≡ (header mark ++ blocks groups) ++ gate ∷ rest)
      × (end ≡ length (header mark ++ blocks groups))
      × (found ≡ placed_groups 8 groups)
