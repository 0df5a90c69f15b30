use Rattle.std.proofs.Common.{Result, subst}
use Rattle.run_opening.specs.log_opening.declared.refusals.LogsNo.{LogsNo}
use Rattle.run_work.proofs.Hosting.{unheard_host}
use Rattle.run_work.proofs.hosts.summed.Goals as goal
use Rattle.run_work.specs.Hosts.{HasHosted}
use Rattle.run_work.specs.Runs.{reporting}
use Rattle.run_work.specs.declared.hosts.Hosted.{Hosted}

pub returns-in-Ok-clause-left : goal.returns-in-Ok-clause-left
returns-in-Ok-clause-left c = λ w schedule before after replies out quiet silent is.
    unheard_host w schedule before after replies out c.in-Ok.hosted quiet silent
    (subst (λ (ran : Result Hosted LogsNo). HasHosted reporting w schedule before after replies ran) c.in-Ok.is is)

pub returns-in-Err-clause-left : goal.returns-in-Err-clause-left
returns-in-Err-clause-left c = λ w schedule before after replies out quiet silent is.
    let none = subst (λ (ran : Result Hosted LogsNo). HasHosted reporting w schedule before after replies ran) c.in-Err.is is in (none.0, silent)
