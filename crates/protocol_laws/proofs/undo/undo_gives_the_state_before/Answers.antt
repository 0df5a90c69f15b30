use Rattle.protocol_laws.proofs.machine.UndoGives.{undo_gives}
use Rattle.protocol_laws.proofs.undo.undo_gives_the_state_before.Goals as goal

pub returns : goal.returns
returns g c = undo_gives
