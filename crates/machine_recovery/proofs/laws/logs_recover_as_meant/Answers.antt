use Rattle.std.proofs.Common.{map, sym, ap, ◌∙◌}
use Rattle.recovery_laws.specs.Grown.{PlacedResult}
use Rattle.recovery_laws.proofs.RunsAgain.{results_at}
use Rattle.machine_recovery.proofs.laws.logs_recover_as_meant.Goals as goal

pub returns : goal.returns
returns c w es m kept earlier f is run left many before begins =
    let folds = c.logs_fold_to_the_members.ensures w es m kept earlier f is run left many before begins in
    let crash = c.recovered_transactions_are_in_order.ensures w es m kept is run left in
    let meant = c.recovered_transactions_are_as_meant.ensures w es m kept is run left in
    record {
      results = meant.results;
      values = ap (λ xs. map (λ (x : PlacedResult). x.2) xs) folds.ordered ∙ (results_at _ ∙ sym meant.results);
      states = λ a below. folds.states a below ∙ (sym (crash.states a below) ∙ meant.states a below);
      as_many = meant.as_many;
    }
