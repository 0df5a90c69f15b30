use Rattle.std.proofs.Common.{ap, arith}
use Rattle.gate_log.specs.State.{LogState}
use Rattle.gate_log.proofs.ClearExits.{not_begun, none_ops, done_ops, failed_ops, safely_done, safely_failed, cleared, ready_at}
use Rattle.gate_log.proofs.logs.Log.clear.Goals as goal

pub returns-then-self-clause-crashes : goal.returns-then-self-clause-crashes
returns-then-self-clause-crashes g c = not_begun c.args.self.now.told c.args.self.now.end

pub returns-then-self-le-FIRST_GATE-clause-cleared : goal.returns-then-self-le-FIRST_GATE-clause-cleared
returns-then-self-le-FIRST_GATE-clause-cleared g c =
    cleared c.args.self.now.told c.args.self.now.told c.args.self.now.end
    (none_ops c.args.self.now.told c.args.self.now.end (omega (arith, c.if-self-le-FIRST_GATE.true, ap (λ (s : LogState). s.end) c.self.view_is)))

pub returns-then-self-le-FIRST_GATE-clause-crashes : goal.returns-then-self-le-FIRST_GATE-clause-crashes
returns-then-self-le-FIRST_GATE-clause-crashes g c = not_begun c.args.self.now.told c.args.self.now.end

pub returns-then-self-le-FIRST_GATE-clause-ops : goal.returns-then-self-le-FIRST_GATE-clause-ops
returns-then-self-le-FIRST_GATE-clause-ops g c =
    none_ops c.args.self.now.told c.args.self.now.end (omega (arith, c.if-self-le-FIRST_GATE.true, ap (λ (s : LogState). s.end) c.self.view_is))

pub invariant_of-self : goal.invariant_of-self
invariant_of-self g c = λ open_log.
    ready_at _ _ _ _ c.self.inside.end _ (c.self.invariant open_log) (omega (arith, c.if-self-le-FIRST_GATE.false))
    c.in-Ok.ensures.done c.in-Ok.ensures.same

pub returns-in-Ok-clause-cleared : goal.returns-in-Ok-clause-cleared
returns-in-Ok-clause-cleared g c =
    cleared _ _ _ (done_ops _ _ _ _ c.self.inside.end
    (ap (λ (s : LogState). s.told) c.self.view_is) (ap (λ (s : LogState). s.end) c.self.view_is)
    (omega (arith, c.if-self-le-FIRST_GATE.false)) c.in-Ok.ensures.done)

pub returns-in-Ok-clause-crashes : goal.returns-in-Ok-clause-crashes
returns-in-Ok-clause-crashes g c =
    safely_done _ _ _ _ c.self.inside.end
    (ap (λ (s : LogState). s.told) c.self.view_is) (ap (λ (s : LogState). s.end) c.self.view_is)
    (omega (arith, c.if-self-le-FIRST_GATE.false)) c.in-Ok.ensures.done

pub returns-in-Ok-clause-ops : goal.returns-in-Ok-clause-ops
returns-in-Ok-clause-ops g c =
    done_ops _ _ _ _ c.self.inside.end
    (ap (λ (s : LogState). s.told) c.self.view_is) (ap (λ (s : LogState). s.end) c.self.view_is)
    (omega (arith, c.if-self-le-FIRST_GATE.false)) c.in-Ok.ensures.done

pub returns-in-Err-clause-crashes : goal.returns-in-Err-clause-crashes
returns-in-Err-clause-crashes g c =
    safely_failed _ _ _ _ c.self.inside.end
    (ap (λ (s : LogState). s.told) c.self.view_is) (ap (λ (s : LogState). s.end) c.self.view_is)
    (omega (arith, c.if-self-le-FIRST_GATE.false)) c.in-Err.ensures.fault

pub returns-in-Err-clause-ops : goal.returns-in-Err-clause-ops
returns-in-Err-clause-ops g c =
    failed_ops _ _ _ _ c.self.inside.end
    (ap (λ (s : LogState). s.told) c.self.view_is) (ap (λ (s : LogState). s.end) c.self.view_is)
    (omega (arith, c.if-self-le-FIRST_GATE.false)) c.in-Err.ensures.fault
