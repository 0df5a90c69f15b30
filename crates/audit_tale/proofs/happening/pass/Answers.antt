use Rattle.audit_tale.proofs.Adding.{passed_known}
use Rattle.audit_tale.proofs.happening.pass.Goals as goal

pub returns : goal.returns
returns c reads w s e k = passed_known reads w c.args.c c.pass.result c.args.told.now c.pass.new.ring s k (c.pass.ensures w e)
