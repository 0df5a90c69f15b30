use Rattle.std.proofs.Common.{subst}
use Rattle.aml_check.specs.Checked.{methods_of}
use Rattle.protocol.specs.Moments.{left_in}
use Rattle.protocol.specs.Runs.{EachAllowed, opening, reached}
use Rattle.protocol.specs.History.{history}
use Rattle.machine_laws.specs.Programs.{with_code}
use Rattle.machine_laws.proofs.TextTxs.{there_after}
use Rattle.machine_laws.proofs.AsMeant.{first_allowed, recovered_meant}
use Rattle.machine_laws.proofs.laws.recovered_transactions_are_as_meant.Goals as goal

pub returns : goal.returns
returns c w es at kept is run left =
    let p = methods_of c.args.program.now in
    let m = with_code p w in
    let so_far = first_allowed m at.events at.later (opening m) (subst (λ x. EachAllowed m x (opening m)) at.splits run) in
    let there = there_after m at.events so_far (c.transactions_are_in_one_place.ensures m at.events is.accepted so_far) (c.verdicts_tell_of_serial_runs.ensures w at.events is so_far).committed in
    recovered_meant p w es (reached m at.events) (history m at.events) (left_in (reached m at.events) kept) c.serial_as_meant.ensures is there (c.recovered_transactions_are_in_order.ensures w es at kept is run left)
