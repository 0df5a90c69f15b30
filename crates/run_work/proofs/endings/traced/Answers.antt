use Rattle.std.specs.Prelude.{◌≡◌, refl, ◌⊎◌}
use Rattle.std.proofs.Common.{Err, ap, inl, inr}
use Rattle.run_printing.specs.declared.writes.WriteNo.{WriteNo}
use Rattle.run_printing.specs.declared.writes.WriteNo.TheVariants as no
use Rattle.run_work.proofs.endings.traced.Goals as goal
use Rattle.snap_report.specs.declared.statuses.Status.{Status}
use Rattle.snap_report.specs.declared.statuses.Status.TheVariants as status

-- where all was done, a trace that is not written tells of its sink or of want of memory
changed : (why : WriteNo) (before after : Status) (Failed : Type 0) → (why ≡ no.Fault → Failed) → (before ≡ status.Done → why ≡ no.Fault → after ≡ status.TraceFault) → (before ≡ status.Done → why ≡ no.Memory → after ≡ status.Memory) → before ≡ status.Done
    → (after ≡ status.Memory) ⊎ ((after ≡ status.TraceFault) × Failed)
changed no.Fault before after Failed failed fault memory done = inr (fault done refl, failed refl)
changed no.Memory before after Failed failed fault memory done = inl (memory done refl)

pub returns-in-Err-clause-traced : goal.returns-in-Err-clause-traced
returns-in-Err-clause-traced g c =
    inr (c.in-Err.ensures.lines, c.untraced.ensures.other, changed c.in-Err.no c.args.status c.untraced.result _ (λ e. c.in-Err.ensures.fault (ap Err e)) c.untraced.ensures.done c.untraced.ensures.memory)
