use Rattle.run_opening.proofs.Starting.{no_fold}
use Rattle.run_opening.proofs.starts.go_on.Goals as goal

pub returns-in-Err : goal.returns-in-Err
returns-in-Err c = no_fold c.args.head c.args.logs c.args.states.now c.in-Err.no c.requires.some c.in-Err.ensures
