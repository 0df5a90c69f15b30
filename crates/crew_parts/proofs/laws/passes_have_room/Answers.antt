use Rattle.std.proofs.Common.{length, refl, arith}
use Rattle.crew_parts.proofs.FewActs.{no_more}
use Rattle.crew_parts.proofs.laws.passes_have_room.Goals as goal

pub returns : goal.returns
returns c start held entries begins fits rises =
    let few = c.acts_are_few.ensures start fits.0 fits.1 begins fits.2 in
    let within = no_more fits.0 entries (length entries) fits.4 rises refl in
    let txs = c.requires.accepted.few_txs in
    let logs = c.requires.accepted.few_logs in
    omega (arith, few, within, txs, logs)
