use Rattle.std.proofs.lemmas.Result.{IfOk-weaker}
use Rattle.audit_tale.proofs.Adding.{submitted_known}
use Rattle.audit_tale.proofs.happening.submit.Goals as goal

pub returns : goal.returns
returns c = IfOk-weaker c.submit.result _ _ (λ yes h reads w s e f k. submitted_known reads w c.args.n.0 yes c.args.told.now c.submit.new.ring s k (h w e f)) c.submit.ensures
