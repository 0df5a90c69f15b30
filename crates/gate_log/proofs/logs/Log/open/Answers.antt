use Rattle.gate_log.proofs.OpenCrashes.{opened_safely, refused_safely}
use Rattle.gate_log.proofs.logs.Log.open.Goals as goal

pub returns-in-Ok-clause-crashes : goal.returns-in-Ok-clause-crashes
returns-in-Ok-clause-crashes g c = opened_safely _ _ c.in-Ok.end c.in-Ok.found c.in-Ok.ensures.opened

pub returns-in-Err-clause-crashes : goal.returns-in-Err-clause-crashes
returns-in-Err-clause-crashes g c = refused_safely _ _ c.in-Err.no c.in-Err.ensures.refused
