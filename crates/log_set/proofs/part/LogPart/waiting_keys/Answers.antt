use Rattle.std.proofs.Common.{ℕ, List, drop, ap, ◌∙◌}
use Rattle.std.proofs.lemmas.List.{drop-map}
use Rattle.txn_records.specs.declared.keys.Key.{Key}
use Rattle.log_set.specs.Logs.{PendingState}
use Rattle.log_set.specs.Shown.{told_key}
use Rattle.log_set.proofs.part.LogPart.waiting_keys.Goals as goal

pub returns : goal.returns
returns c = λ l shows.
    c.waiting_keys.ensures
    ∙ (ap (λ (x : PendingState). drop x.log.synced x.log.keys) c.self.view_is
    ∙ (ap (λ (n : ℕ). drop n c.args.self.now.log.keys) shows.synced
    ∙ (ap (λ (ks : List Key). drop l.synced ks) shows.keys ∙ drop-map told_key l.synced l.records)))
