use Rattle.std.proofs.Common.{sym, subst}
use Rattle.turn_table.specs.Places.{AllBefore, Ascending}
use Rattle.turn_table.proofs.Histories.{ascending_more}
use Rattle.turn_table.proofs.turns.Turns.record.Goals as goal

pub invariant_of-pass-clause-ascending : goal.invariant_of-pass-clause-ascending
invariant_of-pass-clause-ascending g c =
    let later = subst (λ es. AllBefore c.record_told-number.result es) (sym c.args.pass.now.same) c.record_told-number.ensures.later in
    subst (λ es. Ascending es) (sym c.push_reserved.ensures.items) (ascending_more c.args.pass.now.entries.items c.record_told-number.result c.args.event c.args.pass.now.ascending later)
