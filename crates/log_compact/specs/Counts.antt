-- How much was committed before a checkpoint.
use Rattle.std.specs.Prelude.{◌≡◌, List}
use Rattle.txn_records.specs.declared.records.Record.{Record}
use Rattle.log_compact.specs.declared.checkpoints.Counts.{Counts}
use Rattle.log_compact.specs.Sets.{number_of, point_of}

-- what the checkpoint of the lists counts, and nothing where they have none
pub record CountsBefore (lists : List (List Record)) (c : Counts) : Type 0 where
  pub batches : c.batches ≡ number_of (λ p. p.batches) (point_of lists)
  pub acts : c.acts ≡ number_of (λ p. p.acts) (point_of lists)
