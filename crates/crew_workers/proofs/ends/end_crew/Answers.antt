use Rattle.std.proofs.Common.{List, subst}
use Rattle.crew_parts.specs.Acts.{MayDo, touched}
use Rattle.crew_parts.specs.Crews.{AreFirstShares, HasCome, kept}
use Rattle.crew_parts.specs.Shares.{ShareState}
use Rattle.crew_parts.specs.declared.acts.Act.{Act}
use Rattle.snap_hand.specs.Tables.{fixed_of}
use Rattle.turn_table.specs.Runs.{Run}
use Rattle.turn_table.specs.Words.{opening_of}
use Rattle.crew_workers.proofs.ends.end_crew.Goals as goal

pub returns-in-Ok-clause-come : goal.returns-in-Ok-clause-come
returns-in-Ok-clause-come g c =
    subst (λ t. (start : List ShareState) (acts : List Act) (now : List ShareState) → AreFirstShares (fixed_of t) start → Run (touched t) (MayDo t) start acts now → HasCome (fixed_of t) start (kept acts) now) c.tables.ensures c.acts_are_runs.ensures
    (opening_of c.args.turns) c.in-Ok.acts.items c.in-Ok.shares.items c.requires.crew.begins c.in-Ok.ensures.run
