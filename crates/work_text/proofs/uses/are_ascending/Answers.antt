use Rattle.std.proofs.Common.{◌-◌, add-one, arith, refl}
use Rattle.work_text.proofs.UseWords.{ascending_at, ascending_by}
use Rattle.work_text.proofs.uses.are_ascending.Goals as goal

pub returns-then-uses-at : goal.returns-then-uses-at
returns-then-uses-at c = (
  λ t. absurd (cc t),
  λ h. absurd (omega (arith, c.if-uses-at.true, ascending_at c.args.uses.now (c.loop-at.at - 1) c.loop-at.at (record { 0 = 0 }, 0) (record { 0 = 0 }, 0) h (omega arith) (omega arith))),
)

pub returns : goal.returns
returns c = (λ t. ascending_by c.args.uses.now (λ d i lt. rw add-one at (c.loop-at.invariant d i (omega arith))), λ h. refl)
