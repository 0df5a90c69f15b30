-- What a search for the last divider has found so far. Only private contracts cite this.
use Rattle.std.specs.Prelude.{ℕ, ◌≡◌, ◌≤◌, ◌⊎◌, Option, Some, None, List, ◌++◌, length, take, drop, Contains}
use Rattle.snap_base.specs.Lines.{lines}
use Rattle.audit_words.specs.Papers.{AreWhole, IsCutAt, ended}

-- in whole lines: they are cut at the divider, and what stands behind it is whole lines too
pub record FoundIn (divider text front part : List ℕ) : Type 0 where
  pub splits : text ≡ front ++ (ended divider ++ part)
  pub front_whole : AreWhole front
  pub part_whole : AreWhole part
  pub last : ¬ Contains (lines part) divider

abbrev pub SoFar : List ℕ → List ℕ → Option (ℕ × ℕ) → Type 0
SoFar divider text None = ¬ Contains (lines text) divider
SoFar divider text (Some x) = (x.0 ≤ x.1) × (x.1 ≤ length text) × FoundIn divider text (take x.0 text) (drop x.1 text)

-- in all of a text
abbrev pub InAll : List ℕ → List ℕ → Option (ℕ × ℕ) → Type 0
InAll divider text None = ¬ Contains (lines text) divider
InAll divider text (Some x) = (x.0 ≤ length text) × (x.1 ≤ length text) × IsCutAt divider text (take x.0 text) (drop x.1 text)

abbrev pub SearchedTo : ℕ → List ℕ → List ℕ → Option (ℕ × ℕ) → Type 0
SearchedTo at divider bytes found =
    (AreWhole (take at bytes) × SoFar divider (take at bytes) found) ⊎ ((at ≡ length bytes) × InAll divider bytes found)
