use Rattle.std.proofs.Common.{arith}
use Rattle.batch_table.proofs.BySpot.{tx_within}
use Rattle.batch_table.proofs.spots.write_spots.Goals as goal

pub bounds-spots-tx : goal.bounds-spots-tx
bounds-spots-tx c =
    omega (arith, c.tx-tx.ensures, c.loop-place.auto.spots, tx_within _ c.loop-place.place c.index-pacts-place.result c.args.pacts.now c.requires c.loop-place-test.true c.index-pacts-place.is)
