use Rattle.std.proofs.Common.{◌≡◌, length, inl, refl, rules}
use Rattle.crew_host.proofs.Stopping.{none_enabled}
use Rattle.snap_core.specs.Cores.{state_at}
use Rattle.snap_hand.specs.Tables.{fixed_of}
use Rattle.crew_host.proofs.drives.quiet_or_memory.Goals as goal

pub returns-in-Ok : goal.returns-in-Ok
returns-in-Ok c = λ es at.
    let none : length c.in-Ok.list.events ≡ 0 = search rules in
    inl (refl, none_enabled (fixed_of c.args.core.now.tables) (state_at c.args.core.now es) c.in-Ok.list.events (c.in-Ok.ensures es at) none)
