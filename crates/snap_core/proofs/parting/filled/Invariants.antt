use Rattle.std.proofs.Common.{◌≡◌, ◌-◌, length}
use Rattle.snap_hand.specs.Tables.{fixed_of}
use Rattle.snap_core.proofs.Together.{MayGoOn}
use Rattle.snap_core.proofs.parting.filled.Given as goal

abbrev pub invariant-loop-put : goal.invariant-loop-put
invariant-loop-put l = MayGoOn (fixed_of l.fn.tables) l.fn.all.items l.parts.items (l.count - l._put) l.hand × (l.count ≡ length l.fn.all.items)
