-- The bytes at a word's beginning, where a spelling has no leading zero and no needless sign.
use Rattle.std.specs.Prelude.{◌≡◌, ◌≢◌, ℕ, ◌<◌, List, length, slice_index, ◌⊎◌}

pub record IsPlain (word : List ℕ) : Type 0 where
  pub some : 0 < length word
  pub no_plus : slice_index word 0 ≢ 43
  pub no_zero : slice_index word 0 ≡ 48 → length word ≡ 1

pub record IsNegative (word : List ℕ) : Type 0 where
  pub more : 1 < length word
  pub minus : slice_index word 0 ≡ 45
  pub no_zero : slice_index word 1 ≢ 48

pub record IsUnsigned (word : List ℕ) : Type 0 where
  pub plain : IsPlain word
  pub no_minus : slice_index word 0 ≢ 45

abbrev pub IsSignedPlain : List ℕ → Type 0
IsSignedPlain word = IsNegative word ⊎ IsUnsigned word
