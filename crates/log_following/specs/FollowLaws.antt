-- What holds of every follower of the logs in use. A law of `src/laws.rt` says each of these.
use Rattle.std.specs.Prelude.{◌≡◌, ◌⊎◌, ℕ, List, []}
use Rattle.std.specs.List.{AllByRecursion}
use Rattle.txn_records.specs.declared.records.Record.{Record}
use Rattle.snap_recover.specs.declared.causes.LogCause.{LogCause}
use Rattle.log_compact.specs.declared.folds.Folded.{Folded}
use Rattle.log_compact.specs.Sets.{IsFolded}
use Rattle.log_following.specs.Rounds.{IsRoundCause}

-- lists that the round before read, or of which it read nothing
abbrev pub AreAlike : (before lists : List (List Record)) → Type 0
AreAlike before lists = (before ≡ lists) ⊎ AllByRecursion (λ (rs : List Record). rs ≡ []) before

-- A round over lists that fold is not refused, where the round before read the same, or nothing.
abbrev pub FoldedAreFollowed : Type 0
FoldedAreFollowed = (before lists : List (List Record)) (f : Folded) (log : ℕ) (c : LogCause) → IsFolded lists f → AreAlike before lists → ¬ IsRoundCause before lists log c
