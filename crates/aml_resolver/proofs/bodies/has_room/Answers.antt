use Rattle.std.proofs.Common.{length}
use Rattle.aml_resolver.proofs.StatementSteps.{room_here}
use Rattle.aml_resolver.proofs.bodies.has_room.Goals as goal

pub returns : goal.returns
returns c = room_here (length c.args._names.now) c.args._statements.now c.args._at c.args._one.now c.requires.within c.requires.here c.requires.room
