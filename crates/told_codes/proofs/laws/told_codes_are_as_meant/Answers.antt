use Rattle.std.proofs.Common.{subst}
use Rattle.aml_check.specs.Checked.{methods_of}
use Rattle.protocol.specs.Runs.{EachAllowed, opening}
use Rattle.machine_laws.specs.Programs.{with_code, finish_of}
use Rattle.machine_laws.proofs.AsMeant.{first_allowed}
use Rattle.machine_laws.proofs.Instances.{facts_of_text}
use Rattle.machine_laws.proofs.TextTxs.{there_after, pacts_there}
use Rattle.told_codes.proofs.PlacesMeant.{codes_meant}
use Rattle.told_codes.proofs.laws.told_codes_are_as_meant.Goals as goal

pub returns : goal.returns
returns c w es is run =
    let p = methods_of c.args.program.now in
    let m = with_code p w in
    let facts = facts_of_text p w c.code_has_the_facts.ensures is in
    let there = there_after m es run (c.transactions_are_in_one_place.ensures m es is.accepted run) (c.verdicts_tell_of_serial_runs.ensures w es is run).committed in
    codes_meant p w es c.alone_as_meant.ensures c.serial_as_meant.ensures is there
    (λ front later splits k b found. let so_far = first_allowed m front later (opening m) (subst (λ x. EachAllowed m x (opening m)) splits run) in pacts_there m front so_far (c.transactions_are_in_one_place.ensures m front is.accepted so_far) k b found)
    (c.told_places_are_serial.ensures m (finish_of p w) es facts is.accepted run) (c.told_failures_are_serial.ensures m (finish_of p w) es facts is.accepted run)
