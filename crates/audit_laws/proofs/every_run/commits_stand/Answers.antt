use Rattle.std.specs.List.{AllByRecursion}
use Rattle.std.proofs.Common.{sym, ap, subst, ◌∙◌}
use Rattle.audit_laws.proofs.CommitsInOrder.{IsItself, both_along, fails_alone}
use Rattle.audit_laws.proofs.every_run.commits_stand.Goals as goal

pub returns : goal.returns
returns g c w finish es f text run =
    let both = both_along w es (λ fs k. (c.batches_settle_in_order.ensures w fs text k, (c.verdicts_tell_of_serial_runs.ensures w finish fs f text k).committed)) run in
    record {
      rise = both.0;
      codes = λ n p z e.
          let i = (c.committed_transactions_are_in_order.ensures w finish es f text run).stands.told_code n p z e in
          ap (λ x. x.side) (sym i.place) ∙ fails_alone i.front i.done i.rest z (subst (AllByRecursion IsItself) i.splits both.1) i.result;
    }
