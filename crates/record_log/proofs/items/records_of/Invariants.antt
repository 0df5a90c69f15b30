use Rattle.std.proofs.Common.{take}
use Rattle.record_log.specs.Records.{AreItemsOf}
use Rattle.record_log.proofs.items.records_of.Given as goal

abbrev pub invariant-loop-item : goal.invariant-loop-item
invariant-loop-item l = AreItemsOf (take l.item-index l.items) l.records
