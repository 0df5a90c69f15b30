use Rattle.std.proofs.Common.{sym}
use Rattle.protocol.specs.Conditions.{conditions}
use Rattle.core_rows.proofs.Rules.{refused, two}
use Rattle.core_rows.proofs.finishing.finish_refusal.Goals as goal

pub returns : goal.returns
unfolding conditions
returns g c w s r shows = refused w _ s _ _ (two
    (sym (c.may_leave-may_leave.ensures s.book shows))
    (sym (c.stands_on-stands.ensures s.book shows))) c.first_no.ensures
