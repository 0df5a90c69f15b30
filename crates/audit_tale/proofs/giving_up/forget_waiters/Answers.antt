use Rattle.std.proofs.Common.{[], arith, refl}
use Rattle.audit_tale.proofs.Dooms.{changes_one}
use Rattle.audit_tale.proofs.giving_up.forget_waiters.Goals as goal

pub returns : goal.returns
returns c = changes_one c.args.at (λ ws. []) c.index_mut.result.now _ c.args.ties.now.items (omega arith) c.index_mut.ensures.value c.clear.ensures.items refl
