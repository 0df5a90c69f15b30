use Rattle.std.proofs.Common.{arith}
use Rattle.turn_table.proofs.RecordStep.{record_allowed}
use Rattle.turn_table.proofs.turns.Turns.record_told.Goals as goal

pub fetch_add-requires : goal.fetch_add-requires
fetch_add-requires g c = (c.requires.own, omega arith, record_allowed _ _ _ g.W.Told.facts g.W.Told.after _ _ _ _ c.args.event.now (g.M.Makes.made c.args.values.now c.args.event.now) c.requires.rest c.requires.room c.requires.held c.requires.after c.requires.told)
