use Rattle.actor_cell.proofs.Undoing.{none_of_cut_ran}
use Rattle.actor_cell.proofs.laws.nothing_behind_an_act_has_run.Goals as goal

pub returns : goal.returns
returns c = none_of_cut_ran
