-- What contracts see of a log's records, and what adding and syncing make of them.
use Rattle.std.specs.Prelude.{ℕ, Bool, List, [], ◌∷◌, ◌++◌, length, take}
use Rattle.std.specs.List.{list_any}
use Rattle.txn_records.specs.declared.keys.Key.{Key}
use Rattle.log_set.specs.Keys.{is_key}

pub record LogList : Type 0 where
  -- of all records, in the order in which they were added
  pub keys : List Key
  -- how many of them, from the first on, are synced
  pub synced : ℕ
  -- the bytes of the others, in order
  pub waiting : List (List ℕ)

pub record PendingState : Type 0 where
  pub log : LogList
  -- how many more records there is room for
  pub spare : ℕ

abbrev pub no_records : LogList
no_records = record { keys = []; synced = 0; waiting = [] }

-- one more record, which is not synced
abbrev pub with_record : Key → List ℕ → LogList → LogList
with_record key bytes l = record l { keys = l.keys ++ key ∷ []; waiting = l.waiting ++ bytes ∷ [] }

abbrev pub all_synced : LogList → LogList
all_synced l = record l { synced = length l.keys; waiting = [] }

-- one of the synced records has the key
abbrev pub is_key_durable : Key → LogList → Bool
is_key_durable key l = list_any (λ k. is_key k key) (take l.synced l.keys)
