use Rattle.std.specs.Prelude.{refl, []}
use Rattle.std.proofs.Common.{arith}
use Rattle.snap_hand.specs.snap_work.Works.{work_of}
use Rattle.audit_laws.specs.InOrder.{first_machine}
use Rattle.audit_laws.proofs.inputs.first_events_are_in_range.Goals as goal

pub returns : goal.returns
returns c text events is run =
    let w = work_of c.args.work.now in
    let kept = c.transactions_may_run.ensures text w is in
    let accepted = c.works_are_texts.ensures w (record { states = w.states; committed = []; next_tid = record { 0 = 1 }; next_bid = record { 0 = 1 }; next_c = 1 }) kept (record { actors = refl; some_tid = omega arith; some_bid = omega arith; some_c = omega arith; tids = omega arith; bids = omega arith; cs = omega arith }) in
    c.taken_events_are_in_range.ensures (first_machine w) events accepted.accepted run
