use Rattle.std.proofs.Common.{ap}
use Rattle.gate_log.specs.State.{LogState}
use Rattle.gate_log.proofs.UpgradeExits.{not_begun, done_ops, failed_ops, safely_done, safely_failed, upgraded, upgraded_ready, mark_within}
use Rattle.gate_log.proofs.logs.Log.upgrade.Goals as goal

pub returns-then-self-clause-crashes : goal.returns-then-self-clause-crashes
returns-then-self-clause-crashes g c = not_begun c.args.self.now.told c.args.self.now.end

pub write_mark-requires-clause-within : goal.write_mark-requires-clause-within
write_mark-requires-clause-within g c = mark_within _ _ _ _ (c.self.invariant c.if-self.false)

pub invariant_of-self-2 : goal.invariant_of-self-2
invariant_of-self-2 g c = λ open_log. upgraded_ready _ _ _ _ _ _ (c.self.invariant open_log) c.in-Ok.ensures.done c.in-Ok.ensures.same

pub returns-clause-upgraded : goal.returns-clause-upgraded
returns-clause-upgraded g c =
    upgraded _ _ _ _ _ _ _ (ap (λ (s : LogState). s.told) c.self.view_is) (ap (λ (s : LogState). s.end) c.self.view_is) (c.self.invariant c.if-self.false) c.in-Ok.ensures.done

pub returns-clause-crashes : goal.returns-clause-crashes
returns-clause-crashes g c = safely_done _ _ _ _ (ap (λ (s : LogState). s.told) c.self.view_is) c.in-Ok.ensures.done

pub returns-clause-ops : goal.returns-clause-ops
returns-clause-ops g c = done_ops _ _ _ (ap (λ (s : LogState). s.told) c.self.view_is) c.in-Ok.ensures.done

pub returns-in_default-clause-crashes : goal.returns-in_default-clause-crashes
returns-in_default-clause-crashes g c = safely_failed _ _ _ _ (ap (λ (s : LogState). s.told) c.self.view_is) c.in_default.ensures.fault

pub returns-in_default-clause-ops : goal.returns-in_default-clause-ops
returns-in_default-clause-ops g c = failed_ops _ _ _ (ap (λ (s : LogState). s.told) c.self.view_is) c.in_default.ensures.fault
