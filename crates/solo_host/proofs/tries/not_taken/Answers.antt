use Rattle.std.proofs.Common.{refl}
use Rattle.solo_host.proofs.Trying.{refused_by}
use Rattle.solo_host.proofs.tries.not_taken.Goals as goal

pub returns-in-NotNow : goal.returns-in-NotNow
returns-in-NotNow c e core said = refused_by c.allowed_or_refused.ensures c.args.no _ c.in-NotNow.is e core said

pub returns-in-Memory : goal.returns-in-Memory
returns-in-Memory c e core said = refl
