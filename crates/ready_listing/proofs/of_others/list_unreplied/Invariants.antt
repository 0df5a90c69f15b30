use Rattle.std.specs.List.{flat_map}
use Rattle.std.proofs.Common.{map, take}
use Rattle.snap_base.specs.declared.ids.TxNo.{TxNo}
use Rattle.ready_listing.specs.Listed.{Adds, of_reply}
use Rattle.ready_listing.proofs.of_others.list_unreplied.Given as goal

abbrev pub invariant-loop-n : goal.invariant-loop-n
invariant-loop-n l = Adds l.initial.events.items l.events.items (flat_map of_reply (map (λ (n : TxNo). n.0) (take l.n-index l.txs)))
