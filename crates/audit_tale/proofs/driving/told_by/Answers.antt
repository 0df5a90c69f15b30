use Rattle.std.proofs.Common.{take, arith, subst}
use Rattle.std.proofs.lemmas.Bool.{MatchBool-at_false, MatchBool-at_true}
use Rattle.std.proofs.lemmas.List.{take_all}
use Rattle.core_events.specs.declared.events.Event.TheVariants as events
use Rattle.audit_words.specs.Happenings.{seen}
use Rattle.audit_tale.specs.Settings.{meant}
use Rattle.audit_tale.specs.Tellings.{IsTold}
use Rattle.audit_tale.proofs.Driven.{kept_is_small, not_met_at, setting_kept, told_first, told_more}
use Rattle.audit_tale.proofs.driving.told_by.Goals as goal

pub happen-requires-clause-tids : goal.happen-requires-clause-tids
happen-requires-clause-tids c =
    let small = kept_is_small c.args.coordinators c.args.batch c.args.actors c.loop-i.i c.args.txs.now c.args.reads.now c.args.events.now c.loop-i.told (omega arith) (omega arith) c.requires.reads c.loop-i.invariant in
    omega (arith, small.tids)

pub happen-requires-clause-bids : goal.happen-requires-clause-bids
happen-requires-clause-bids c =
    let small = kept_is_small c.args.coordinators c.args.batch c.args.actors c.loop-i.i c.args.txs.now c.args.reads.now c.args.events.now c.loop-i.told (omega arith) (omega arith) c.requires.reads c.loop-i.invariant in
    omega (arith, small.bids)

pub happen-requires-clause-epochs : goal.happen-requires-clause-epochs
happen-requires-clause-epochs c =
    let small = kept_is_small c.args.coordinators c.args.batch c.args.actors c.loop-i.i c.args.txs.now c.args.reads.now c.args.events.now c.loop-i.told (omega arith) (omega arith) c.requires.reads c.loop-i.invariant in
    omega (arith, small.epochs)

pub happen-requires-clause-settled : goal.happen-requires-clause-settled
happen-requires-clause-settled c =
    let small = kept_is_small c.args.coordinators c.args.batch c.args.actors c.loop-i.i c.args.txs.now c.args.reads.now c.args.events.now c.loop-i.told (omega arith) (omega arith) c.requires.reads c.loop-i.invariant in
    omega (arith, small.settled)

pub happen-requires-clause-numbers : goal.happen-requires-clause-numbers
happen-requires-clause-numbers c =
    let small = kept_is_small c.args.coordinators c.args.batch c.args.actors c.loop-i.i c.args.txs.now c.args.reads.now c.args.events.now c.loop-i.told (omega arith) (omega arith) c.requires.reads c.loop-i.invariant in
    omega (arith, small.numbers)

pub loop-i-preserved : goal.loop-i-preserved
loop-i-preserved c f w g m =
    let small = kept_is_small c.args.coordinators c.args.batch c.args.actors c.loop-i.i c.args.txs.now c.args.reads.now c.args.events.now c.loop-i.told (omega arith) (omega arith) c.requires.reads c.loop-i.invariant in
    let so_far = c.loop-i.invariant f w g m in
    let here = seen f w (meant (take c.loop-i.i c.args.events.now)) in
    let goes = MatchBool-at_true _ _ c.if-not-branch.false (c.in_ok-happen.ensures f w here (setting_kept c.args.coordinators c.args.batch c.args.actors c.loop-i.i c.args.txs.now w c.loop-i.told here small so_far.known g) m so_far.waits so_far.sound so_far.fits so_far.known) in
    told_more f w c.args.events.now c.loop-i.i (events.Submit record { 0 = 0 }) c.loop-i.told c.happen.new.told g.opening.bid c.loop-i-test.true so_far goes.0 goes.1

pub returns-then-not-branch : goal.returns-then-not-branch
returns-then-not-branch c w g =
    let small = kept_is_small c.args.coordinators c.args.batch c.args.actors c.loop-i.i c.args.txs.now c.args.reads.now c.args.events.now c.loop-i.told (omega arith) (omega arith) c.requires.reads c.loop-i.invariant in
    let f = c.requires.reads.0 in
    let so_far = c.loop-i.invariant f w g c.requires.reads.1 in
    let here = seen f w (meant (take c.loop-i.i c.args.events.now)) in
    not_met_at f w c.args.events.now c.loop-i.i (events.Submit record { 0 = 0 }) c.loop-i.told c.loop-i-test.true so_far
    (MatchBool-at_false _ _ c.if-not-branch.true (c.in_ok-happen.ensures f w here (setting_kept c.args.coordinators c.args.batch c.args.actors c.loop-i.i c.args.txs.now w c.loop-i.told here small so_far.known g) c.requires.reads.1 so_far.waits so_far.sound so_far.fits so_far.known))

pub returns : goal.returns
returns c f w g m = subst (λ es. IsTold f w (meant es) c.loop-i.told) (take_all c.loop-i.i c.args.events.now c.loop-i-test.false) (c.loop-i.invariant f w g m)

pub loop-i-init : goal.loop-i-init
loop-i-init c f w g m = told_first f w c.in_ok-told.told g.opening.tid g.opening.bid (c.in_ok-told.ensures w g.opening)
