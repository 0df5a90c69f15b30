use Rattle.record_log.proofs.Reading.{near_at}
use Rattle.record_log.proofs.items.records_of.Goals as goal

pub record_of-requires : goal.record_of-requires
record_of-requires c =
    near_at c.requires.0 c.requires.1 c.args.items.now c.loop-item.item-index _ c.requires.2 c.requires.3 c.loop-item-test.true c.item-item.is
