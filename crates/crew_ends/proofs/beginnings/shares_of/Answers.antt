use Rattle.std.proofs.Common.{[], false, map, refl}
use Rattle.crew_ends.proofs.Starting.{begin}
use Rattle.crew_parts.specs.Shares.{output_seen}
use Rattle.snap_hand.specs.Shown.{shown}
use Rattle.snap_hand.specs.Tables.{fixed_of}
use Rattle.crew_ends.proofs.beginnings.shares_of.Goals as goal

pub returns-in-Ok-into_parts-clause-begins : goal.returns-in-Ok-into_parts-clause-begins
returns-in-Ok-into_parts-clause-begins g c =
    begin (fixed_of c.args.core.tables) c.lay_out-shares.result.items (map shown c.in-Ok-into_parts.parts.items) c.args.logs.items (output_seen g.O.Sink.taken g.O.Sink.faults g.O.Sink.late false c.args.out)
    c.lay_out-shares.ensures.parts (c.in-Ok-into_parts.ensures.parts [] c.requires.new) (c.lay_out-shares.ensures.beside (output_seen g.O.Sink.taken g.O.Sink.faults g.O.Sink.late false c.args.out) c.with_output.ensures) c.requires.logs c.requires.open c.requires.ends refl

pub returns-in-Ok-into_parts-clause-beside : goal.returns-in-Ok-into_parts-clause-beside
returns-in-Ok-into_parts-clause-beside g c = c.lay_out-shares.ensures.beside (output_seen g.O.Sink.taken g.O.Sink.faults g.O.Sink.late false c.args.out) c.with_output.ensures
