use Rattle.std.proofs.Common.{arith}
use Rattle.crew_grip.proofs.Working.{has_room}
use Rattle.crew_grip.proofs.grips.Grip.leaves_room.Goals as goal

pub returns : goal.returns
returns g c =
    let pass = c.args.pass.now in
    let few = has_room c.tables.result.now c.args.turns.now.table.shared.key.tables.value c.tables.ensures c.passes_have_room.ensures c.args.turns.now.table.shared.key.parts.value.items
    pass.seat.me.0.held pass.entries.items pass.seat.me.0.entries c.requires.crew.begins c.requires.work.fits pass.same pass.ascending in
    omega (arith, few, pass.entries.ok.0)
