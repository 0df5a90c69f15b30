use Rattle.std.proofs.lemmas.Result.{on_ok_weaker}
use Rattle.audit_tale.proofs.Framing.{decide_leaves, stands_left}
use Rattle.audit_tale.proofs.happening.decide.Goals as goal

pub returns : goal.returns
returns c = on_ok_weaker c.decide.result (λ h reads w s sound k. record { names = h reads w s sound.drawn k.names; stands = stands_left w c.args.told.now c.decide.new.tale s _ (decide_leaves reads w c.args.t.0 s) k.stands }) c.decide.ensures
