use Rattle.audit_laws.proofs.NamesSeen.{names_along}
use Rattle.audit_laws.proofs.every_run.names_are_seen.Goals as goal

pub returns : goal.returns
returns g c w es text run = names_along w c.frame.ensures es (λ fs k. c.what_is_new_is_not_there.ensures w fs text k) (c.batches_are_counted.ensures w) run
