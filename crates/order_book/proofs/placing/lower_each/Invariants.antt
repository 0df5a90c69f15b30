use Rattle.std.proofs.Common.{◌≡◌, take, map}
use Rattle.protocol.specs.Meant.{tid_number}
use Rattle.protocol.specs.OnBook.{lowered}
use Rattle.order_book.proofs.placing.lower_each.Given as goal

abbrev pub invariant-loop-t : goal.invariant-loop-t
invariant-loop-t l = l.register ≡ map (lowered l.bid.0 (map tid_number (take l.t-index l.acts))) l.fn.register
