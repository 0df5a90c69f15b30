use Rattle.audit_tale.proofs.Framing.{settle_leaves, stands_left}
use Rattle.audit_tale.proofs.happening.settle.Goals as goal

pub returns : goal.returns
returns c reads w s sound k = record { names = c.settle.ensures reads w s sound.drawn k.names; stands = stands_left w c.args.told.now c.settle.new.tale s _ (settle_leaves reads w c.args.k.0 s) k.stands }
