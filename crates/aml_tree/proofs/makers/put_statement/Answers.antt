use Rattle.aml_tree.specs.TreeRules.{put_last}
use Rattle.aml_tree.proofs.makers.put_statement.Goals as goal

pub returns : goal.returns
returns g c rest = rw c.in_ok-push.ensures.items (put_last c.args.block.now.items c.args.statement rest)
