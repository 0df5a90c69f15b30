use Rattle.std.proofs.Common.{rules, ◌∙◌}
use Rattle.crew_grip.proofs.ByNumber.{at_or}
use Rattle.crew_grip.proofs.grips.Grip.take_up.Goals as goal

pub returns-clause-taken : goal.returns-clause-taken
returns-clause-taken g c = c.take.ensures.value ∙ at_or c.args.self.now.besides c.args.part c.index_mut.result.now c.requires (search rules)
