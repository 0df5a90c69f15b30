use Rattle.std.proofs.lemmas.Result.{on_ok_weaker}
use Rattle.audit_tale.proofs.Framing.{commit_leaves, stands_left}
use Rattle.audit_tale.proofs.happening.commit.Goals as goal

pub returns : goal.returns
returns c = on_ok_weaker c.commit.result (λ h reads w s sound k. record { names = h reads w s sound.drawn k.names; stands = stands_left w c.args.told.now c.commit.new.tale s _ (commit_leaves reads w c.args.k.0 s) k.stands }) c.commit.ensures
