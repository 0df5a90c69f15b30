use Rattle.std.proofs.Common.{ℕ, ◌+◌, refl, sym, subst, take, drop, arith}
use Rattle.std.specs.Prelude.{slice_range}
use Rattle.log_opening.specs.Upgrades.{AreOld}
use Rattle.log_opening.proofs.Numbers.{part_long}
use Rattle.log_opening.proofs.Upgrading.{counts_old}
use Rattle.log_opening.proofs.upgrades.count_old.Goals as goal

pub old_logs-requires : goal.old_logs-requires
old_logs-requires g c = omega (arith, part_long c.args.logs.now c.args.head c.args.count c.requires.within, c.requires.within, c.requires.few)

pub returns : goal.returns
returns g c = λ before is.
    subst (λ (n : ℕ). AreOld (take c.args.count (drop c.args.head before)) n) (sym c.old_logs.ensures)
    (counts_old c.opening_is_safe.ensures.adds c.opening_is_safe.ensures.format before c.args.logs.now (slice_range c.args.logs.now c.args.head (c.args.head + c.args.count)) c.args.head c.args.count is refl)
