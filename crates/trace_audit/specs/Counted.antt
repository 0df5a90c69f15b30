-- What is counted of the lines of a report so far.
use Rattle.std.specs.Prelude.{◌≡◌, ℕ, ◌<◌, Bool, Some, List, length, slice_get}
use Rattle.protocol.specs.Words.{count}
use Rattle.audit_words.specs.Papers.{Line}
use Rattle.audit_words.specs.Clauses.{is_answered, tells_commit, tells_other}

-- a mark for each transaction that was answered, and how many replies told a commit, and anything else
pub record Counted (txs : ℕ) (front : List Line) (answered : List Bool) (committed aborted : ℕ) : Type 0 where
  pub many : length answered ≡ txs
  pub marks : (n : ℕ) → n < txs → slice_get answered n ≡ Some (is_answered n front)
  pub commits : committed ≡ count tells_commit front
  pub others : aborted ≡ count tells_other front
