use Rattle.std.proofs.Common.{sym, subst}
use Rattle.core_facts.specs.RowsMay.{RowsMay}
use Rattle.core_rows.proofs.laws.rows_may.Goals as goal

pub returns : goal.returns
returns g c w s r = subst (RowsMay w) (sym r.is_reached) (c.rows_may_be_taken.ensures w r.finish r.events r.facts r.text r.run)
