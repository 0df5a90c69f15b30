use Rattle.std.proofs.Common.{sym, subst, arith}
use Rattle.std.specs.List.{AllByRecursion}
use Rattle.log_compact.specs.Points.{IsPlain}
use Rattle.log_compact.specs.Refusals.{IsListFit}
use Rattle.log_compact.proofs.FirstStrays.{stray_at, all_plain_in}
use Rattle.log_compact.proofs.strays.first_stray.Goals as goal

pub returns-then-not-is_first_fit-clause-found : goal.returns-then-not-is_first_fit-clause-found
returns-then-not-is_first_fit-clause-found c =
    stray_at c.args.lists.now 0 c.index-lists-0.result (omega (arith, c.if-lists-eq0.false)) c.index-lists-0.is tt
    (λ fit. let t = c.is_first_fit.ensures.1 (subst (IsListFit 0) (sym c.as_slice.ensures) fit) in absurd (cc))

pub returns-then-not-all_plain-clause-found : goal.returns-then-not-all_plain-clause-found
returns-then-not-all_plain-clause-found c =
    stray_at c.args.lists.now c.loop-log.log c.index-lists-log.result c.loop-log-test.true c.index-lists-log.is c.loop-log.invariant
    (λ fit. let t = c.all_plain.ensures.1 (subst (AllByRecursion IsPlain) (sym c.as_slice-in-loop-log.ensures) (all_plain_in c.loop-log.log c.index-lists-log.result (omega (arith, c.loop-log.auto)) fit)) in absurd (cc))
