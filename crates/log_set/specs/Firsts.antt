-- Where each key stands first.
use Rattle.std.specs.Prelude.{◌≡◌, ℕ, Option, List}
use Rattle.std.specs.List.{position_from}
use Rattle.txn_records.specs.declared.keys.Key.{Key}
use Rattle.log_set.specs.Keys.{is_key}

abbrev pub first_place : Key → List Key → Option ℕ
first_place key keys = position_from (λ k. is_key k key) 0 keys

-- the look-up gives each key's first place
abbrev pub ArePlaces : (Key → Option ℕ) → List Key → Type 0
ArePlaces place_of keys = (key : Key) → place_of key ≡ first_place key keys
