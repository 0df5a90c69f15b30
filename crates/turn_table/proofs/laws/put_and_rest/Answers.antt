use Rattle.turn_table.proofs.ByPlace.{put_here, put_else}
use Rattle.turn_table.proofs.laws.put_and_rest.Goals as goal

pub returns-clause-there : goal.returns-clause-there
returns-clause-there g c = put_here

pub returns-clause-others : goal.returns-clause-others
returns-clause-others g c = put_else
