use Rattle.snap_core.specs.snap_work.Works.{work_of}
use Rattle.crew_rows.proofs.texts.joined.Goals as goal

pub returns : goal.returns
returns c = c.works_are_texts.ensures (work_of c.args.work) c.args.opening c.requires.limits c.requires.begins
