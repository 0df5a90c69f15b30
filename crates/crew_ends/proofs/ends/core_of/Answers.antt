use Rattle.std.proofs.Common.{List, subst, sym}
use Rattle.protocol.specs.Runs.{reached}
use Rattle.snap_core.specs.Apart.{ShowSomeRun}
use Rattle.snap_hand.specs.Shown.{Shown, AreAllParts}
use Rattle.snap_hand.specs.Tables.{fixed_of}
use Rattle.crew_ends.proofs.Ending.{end_journals, end_many, end_output, end_shows, parts_shown}
use Rattle.crew_ends.proofs.ends.core_of.Goals as goal

pub take_apart-hand-requires-clause-journals : goal.take_apart-hand-requires-clause-journals
take_apart-hand-requires-clause-journals g c = end_journals (fixed_of c.args.tables) c.args.shares.items c.requires.come

pub take_apart-hand-requires-clause-output : goal.take_apart-hand-requires-clause-output
take_apart-hand-requires-clause-output g c = end_output (fixed_of c.args.tables) c.args.shares.items c.requires.come

pub from_parts-core-requires-clause-some : goal.from_parts-core-requires-clause-some
from_parts-core-requires-clause-some g c =
    let w = fixed_of c.args.tables in
    subst (λ (ps : List Shown). ShowSomeRun w ps) (sym c.take_apart-hand.ensures.parts) (end_shows w c.args.shares.items c.requires.come c.runs_lead.ensures)

pub returns-clause-core : goal.returns-clause-core
returns-clause-core g c = λ start es come.
    let w = fixed_of c.args.tables in
    c.from_parts-core.ensures.parts es come.run
    (subst (AreAllParts w (reached w es)) (sym c.take_apart-hand.ensures.parts) (parts_shown w (reached w es) c.args.shares.items (end_many w c.args.shares.items c.requires.come) come.parts))
