use Rattle.aml_flat.proofs.Laying.{found}
use Rattle.aml_resume.proofs.operations.step.Goals as goal

pub fetched-requires : goal.fetched-requires
fetched-requires c = let l = c.requires.stands.1 in (found c.args.operations.now c.args.from l.at l.left l.here.lies).within

pub leave-requires-clause-here : goal.leave-requires-clause-here
leave-requires-clause-here c = rw c.in-End.is at c.fetched.ensures.here

pub let_value-requires-clause-here : goal.let_value-requires-clause-here
let_value-requires-clause-here c = rw c.in-Let.is at c.fetched.ensures.here

pub ask-requires-clause-here : goal.ask-requires-clause-here
ask-requires-clause-here c = rw c.in-Call.is at c.fetched.ensures.here

pub set-requires-clause-here : goal.set-requires-clause-here
set-requires-clause-here c = rw c.in-Set.is at c.fetched.ensures.here

pub set_field-requires-clause-here : goal.set_field-requires-clause-here
set_field-requires-clause-here c = rw c.in-SetField.is at c.fetched.ensures.here

pub choice-requires-clause-here : goal.choice-requires-clause-here
choice-requires-clause-here c = rw c.in-If.is at c.fetched.ensures.here

pub either-requires-clause-here : goal.either-requires-clause-here
either-requires-clause-here c = rw c.in-IfElse.is at c.fetched.ensures.here

pub repeat-requires-clause-here : goal.repeat-requires-clause-here
repeat-requires-clause-here c = rw c.in-While.is at c.fetched.ensures.here

pub fail-requires-clause-here : goal.fail-requires-clause-here
fail-requires-clause-here c = rw c.in-Fail.is at c.fetched.ensures.here

pub give-requires-clause-here : goal.give-requires-clause-here
give-requires-clause-here c = rw c.in-Return.is at c.fetched.ensures.here
