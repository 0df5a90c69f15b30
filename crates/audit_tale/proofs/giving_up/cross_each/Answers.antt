use Rattle.std.proofs.Common.{ℕ, List, arith, subst, take}
use Rattle.std.proofs.lemmas.List.{length-map, take_all}
use Rattle.protocol.specs.Meant.{tid_number}
use Rattle.audit_words.specs.Happenings.{give_up}
use Rattle.audit_tale.specs.GivenUp.{crossings}
use Rattle.audit_tale.specs.Risen.{tids}
use Rattle.audit_tale.specs.Stands.{KnowsAll}
use Rattle.audit_tale.proofs.Dooms.{all_cross, crosses_none, crosses_on, may_again}
use Rattle.audit_tale.proofs.Walks.{next_tids}
use Rattle.audit_tale.proofs.giving_up.cross_each.Goals as goal

pub loop-u-init : goal.loop-u-init
loop-u-init c w s may h = crosses_none w c.args.told.now c.args.a.0 s may h

pub loop-u-preserved : goal.loop-u-preserved
loop-u-preserved c w s may h =
    subst (λ (us : List ℕ). KnowsAll w c.cross.new.told (give_up (crossings c.args.a.0 us s) s)) (next_tids c.args.us.now c.loop-u.u-index (record { 0 = 0 }) c.loop-u-test.true)
    (crosses_on w c.cross.new.told c.args.a.0 _ (take c.loop-u.u-index (tids c.args.us.now)) s
    (c.cross.ensures w (give_up (crossings c.args.a.0 (take c.loop-u.u-index (tids c.args.us.now)) s) s) (may_again s (crossings c.args.a.0 (take c.loop-u.u-index (tids c.args.us.now)) s) may) (c.loop-u.invariant w s may h)))

pub returns : goal.returns
returns c w s may all h =
    all_cross w c.loop-u.told c.args.a.0 (tids c.args.us.now) s all
    (subst (λ (us : List ℕ). KnowsAll w c.loop-u.told (give_up (crossings c.args.a.0 us s) s)) (take_all c.loop-u.u-index (tids c.args.us.now) (omega (arith, c.loop-u-test.false, length-map c.args.us.now tid_number))) (c.loop-u.invariant w s may h))
