use Rattle.std.proofs.Common.{◌≡◌, drop}
use Rattle.batch_table.specs.Joining.{pact_txs}
use Rattle.batch_table.specs.Spots.{with_spots}
use Rattle.batch_table.proofs.spots.write_spots.Given as goal

abbrev pub invariant-loop-place : goal.invariant-loop-place
invariant-loop-place l = with_spots l.batch l.place (pact_txs (drop l.place l.pacts)) l.spots ≡ with_spots l.batch 0 (pact_txs l.pacts) l.initial.spots
