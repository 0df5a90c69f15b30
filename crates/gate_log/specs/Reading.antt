-- Only private contracts cite this; the rule is Bytes.antt.
-- What each step of reading a log's bytes finds.
use Rattle.std.specs.Prelude.{◌≡◌, ◌≢◌, ℕ, ◌+◌, ◌<◌, ◌^◌, Bool, true, false, List, ◌∷◌, ◌++◌, length, ⊤}
use Rattle.std.specs.List.{AllByRecursion}
use Rattle.std.specs.Int.{Width, to_be_bytes, w32}
use Rattle.gate_log.specs.declared.logs.LogItem.{LogItem}
use Rattle.gate_log.specs.declared.opens.OpenNo.{OpenNo}
use Rattle.gate_log.specs.declared.opens.OpenNo.TheVariants.{NotALog, Damage, Device, Memory}
use Rattle.gate_log.specs.Bytes.{header, item_bytes, items_bytes, group_bytes, blocks, IsItem, IsGroup, DiffersAt, IsDamagedAt, placed_items, placed_groups}

-- a piece behind its length
abbrev pub counted_piece : Width → List ℕ → List ℕ
counted_piece w piece = to_be_bytes w (length piece) ++ piece

-- ---- an item

-- the bytes are the item and the rest
pub record BeginsItem (bytes item rest : List ℕ) : Type 0 where
  pub is_item : IsItem item
  pub parts : bytes ≡ item_bytes item ++ rest

-- no item stands at the front
pub record BeginsNoItem (bytes : List ℕ) : Type 0 where
  pub none : (item rest : List ℕ) → IsItem item → bytes ≢ item_bytes item ++ rest

-- ---- the items of a group

-- The bytes are items, and these are added to those found, at their places from `at` on.
pub record FillsItems (place : ℕ) (bytes : List ℕ) (old new : List LogItem) : Type 0 where
  pub parts : (items : List (List ℕ)) × AllByRecursion IsItem items × (bytes ≡ items_bytes items) × (new ≡ old ++ placed_items place items)

-- the bytes are no items
pub record FillsNoItems (bytes : List ℕ) : Type 0 where
  pub none : (items : List (List ℕ)) → AllByRecursion IsItem items → bytes ≢ items_bytes items

-- whether the bytes are items, and what is found then
abbrev pub AreItems : Bool → ℕ → List ℕ → List LogItem → List LogItem → Type 0
AreItems true place bytes old new = FillsItems place bytes old new
AreItems false place bytes old new = FillsNoItems bytes

-- ---- a group behind an open gate

-- the bytes are a piece behind its length, and more behind it
pub record BeginsPiece (bytes piece rest : List ℕ) : Type 0 where
  pub short : length piece < 2 ^ 32
  pub some : 0 < length rest
  pub parts : bytes ≡ counted_piece w32 piece ++ rest

-- the bytes are no piece behind its length with more behind it
pub record BeginsNoPiece (bytes : List ℕ) : Type 0 where
  pub none : (piece more : List ℕ) (gate : ℕ) → length piece < 2 ^ 32 → bytes ≢ counted_piece w32 piece ++ gate ∷ more

-- behind the open gate at `place` stands a group, whose items are added to those found, and a gate behind it
pub record BeginsGroup (place : ℕ) (bytes rest : List ℕ) (old new : List LogItem) : Type 0 where
  pub some : 0 < length rest
  pub parts : (group : List (List ℕ)) × IsGroup group × (bytes ≡ group_bytes group ++ rest) × (new ≡ old ++ placed_items (place + 5) group)

-- the bytes are no group with a gate behind it
pub record BeginsNoGroup (bytes : List ℕ) : Type 0 where
  pub none : (group : List (List ℕ)) (gate : ℕ) (more : List ℕ) → IsGroup group → bytes ≢ group_bytes group ++ gate ∷ more

-- why there is no group behind the open gate at `place`
abbrev pub IsNoGroup : ℕ → List ℕ → OpenNo → Type 0
IsNoGroup place bytes (NotALog offset) = ⊥
IsNoGroup place bytes (Damage offset) = (offset ≡ place) × BeginsNoGroup bytes
IsNoGroup place bytes Device = ⊥
IsNoGroup place bytes Memory = ⊤

-- ---- the whole

-- groups stand before `place`, their items are found, and the rest begins with a gate
pub record GroupsSoFar (bytes : List ℕ) (place : ℕ) (rest : List ℕ) (found : List LogItem) : Type 0 where
  pub some : 0 < length rest
  pub mark : ℕ
  pub parts : (groups : List (List (List ℕ))) × AllByRecursion IsGroup groups
      × (bytes ≡ (header mark ++ blocks groups) ++ rest)
      × (place ≡ length (header mark ++ blocks groups))
      × (found ≡ placed_groups 8 groups)

-- why the bytes are no log
abbrev pub IsNoLog : List ℕ → OpenNo → Type 0
IsNoLog bytes (NotALog offset) = DiffersAt bytes offset
IsNoLog bytes (Damage offset) = IsDamagedAt bytes offset
IsNoLog bytes Device = ⊥
IsNoLog bytes Memory = ⊤
