use Rattle.audit_tale.proofs.Driven.{others_tell}
use Rattle.audit_tale.proofs.driving.tell.Goals as goal

pub returns-in_default : goal.returns-in_default
returns-in_default c f w s sound fits h =
    others_tell f w c.args.told.now s c.args.event c.requires.others c.in_default.not-Arrive c.in_default.not-Ask c.in_default.not-Run c.in_default.not-Commit c.in_default.not-Settle c.in_default.not-AbortBatch c.in_default.not-Rollback c.in_default.not-Decide
    c.in_default.not-Finish c.in_default.not-Trim h
