-- Only private contracts cite this; the rule is the report.
-- What one event adds to the counts of the report.
use Rattle.std.specs.Prelude.{◌≡◌, ℕ}
use Rattle.protocol.specs.Events.{Event, Settle}
use Rattle.protocol.specs.Parts.{Machine}
use Rattle.run_effects.specs.Replies.{commits_of, aborts_of}
use Rattle.run_printing.specs.declared.counts.Counts.{Counts}

-- whether the event settles a batch
abbrev pub settled_by : Event → ℕ
settled_by (Settle k) = 1
settled_by _ = 0

pub record IsAddedBy {C : Type 0} (s : Machine C) (e : Event) (c : Counts) : Type 0 where
  pub committed : c.committed ≡ commits_of s e
  pub aborted : c.aborted ≡ aborts_of s e
  pub batches : c.batches ≡ settled_by e
