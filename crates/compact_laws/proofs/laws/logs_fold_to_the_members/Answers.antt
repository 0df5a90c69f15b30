use Rattle.std.proofs.Common.{◌∙◌}
use Rattle.protocol.specs.Runs.{reached}
use Rattle.protocol.specs.Moments.{left_in}
use Rattle.protocol.specs.History.{history}
use Rattle.recovery_laws.specs.Grown.{grown}
use Rattle.log_compact.specs.Sets.{plain_lists}
use Rattle.compact_laws.specs.Steps.{fold_after}
use Rattle.compact_laws.proofs.ListsGrown.{begins_from, grown_folds, lists_long}
use Rattle.compact_laws.proofs.laws.logs_fold_to_the_members.Goals as goal

pub returns : goal.returns
returns g c w finish es m kept earlier f facts text run left many before begins =
    let s = reached w m.events in
    let logs = left_in (reached w m.events) kept in
    let r = c.logs_recover_from_greater_numbers.ensures w finish es m kept (plain_lists earlier) before.found facts text run left (lists_long earlier ∙ many) before.recovered (begins_from w earlier f before begins) in
    let folded = grown_folds w finish earlier f s (history w m.events) logs before r begins in
    record {
      folded = folded;
      taken = λ no n x. c.refused_are_not_folded.ensures (grown earlier logs) no (fold_after w f s logs) n x folded;
      ordered = r.ordered;
      alone = r.alone;
      above = r.above;
      states = r.states;
    }
