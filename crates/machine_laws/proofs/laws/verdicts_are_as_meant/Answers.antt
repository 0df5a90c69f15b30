use Rattle.std.proofs.Common.{subst}
use Rattle.aml_check.specs.Checked.{methods_of}
use Rattle.protocol.specs.Runs.{EachAllowed, opening}
use Rattle.machine_laws.specs.Programs.{with_code}
use Rattle.machine_laws.proofs.AsMeant.{first_allowed}
use Rattle.machine_laws.proofs.TextTxs.{there_after, pacts_there}
use Rattle.machine_laws.proofs.ToldMeant.{verdicts_meant}
use Rattle.machine_laws.proofs.laws.verdicts_are_as_meant.Goals as goal

pub returns : goal.returns
returns c w es is run =
    let p = methods_of c.args.program.now in
    let m = with_code p w in
    let told = c.verdicts_tell_of_serial_runs.ensures w es is run in
    let there = there_after m es run (c.transactions_are_in_one_place.ensures m es is.accepted run) told.committed in
    verdicts_meant p w es c.serial_as_meant.ensures is there
    (λ front later splits k b found. let so_far = first_allowed m front later (opening m) (subst (λ x. EachAllowed m x (opening m)) splits run) in pacts_there m front so_far (c.transactions_are_in_one_place.ensures m front is.accepted so_far) k b found)
    (c.committed_transactions_are_in_order.ensures w es is run).stands.serial (c.committed_transactions_are_as_meant.ensures w es is run).results (c.committed_transactions_are_as_meant.ensures w es is run).told (c.told_transactions_are_in_order.ensures w es is run) told
