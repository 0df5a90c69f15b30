use Rattle.std.proofs.Common.{◌≤◌, length, subst}
use Rattle.protocol.specs.Parts.{Desk}
use Rattle.snap_core.proofs.FewBatches.{desk_of_whole, few_batches}
use Rattle.snap_hand.specs.Tables.{fixed_of}
use Rattle.snap_core.proofs.cores.Core.settled_batches.Goals as goal

pub desk-requires : goal.desk-requires
desk-requires c = desk_of_whole c.self.inside.hand c.self.invariant.whole

pub settled_at-requires : goal.settled_at-requires
settled_at-requires c =
    let some = c.self.invariant.some in
    subst (λ (d : Desk). length d.batches ≤ 20000) (some.fits.desk _ c.desk.ensures)
    (few_batches (fixed_of c.self.inside.tables) some.state some.run c.sizes_hold.ensures c.numbers_are_drawn_once.ensures)
