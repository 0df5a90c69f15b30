use Rattle.std.proofs.Common.{◌+◌, [], take, refl, subst, arith}
use Rattle.std.proofs.lemmas.List.{take_all}
use Rattle.std.proofs.lemmas.List.Folds.{list_any_more}
use Rattle.snap_base.specs.declared.transactions.Who.TheVariants.{Batch}
use Rattle.audit_tale.specs.Coming.{is_kept_among, is_kept_at, lowered_act}
use Rattle.audit_tale.specs.Touching.{AreTouched}
use Rattle.audit_tale.proofs.Lowered.{lowered_twice}
use Rattle.audit_tale.proofs.Touched.{touched_none, touched_on}
use Rattle.audit_tale.proofs.arriving.lower_all.Goals as goal

pub loop-who-init : goal.loop-who-init
loop-who-init c = touched_none (lowered_act c.args.k c.args.a) (is_kept_among c.args.owners.now []) c.args.acts.now (λ i. refl)

pub loop-who-preserved : goal.loop-who-preserved
loop-who-preserved c =
    touched_on (lowered_act c.args.k c.args.a) (is_kept_among c.args.owners.now (take c.loop-who.who-index c.args.entries.now)) _ (is_kept_among c.args.owners.now (take (c.loop-who.who-index + 1) c.args.entries.now)) c.args.acts.now c.loop-who.acts c.lower_who.new.acts
    (lowered_twice c.args.k c.args.a) (λ i. list_any_more (is_kept_at c.args.owners.now i) c.args.entries.now c.loop-who.who-index (Batch (record { 0 = 0 })) c.loop-who-test.true) c.loop-who.invariant c.lower_who.ensures

pub returns : goal.returns
returns c = subst (λ es. AreTouched (lowered_act c.args.k c.args.a) (is_kept_among c.args.owners.now es) c.args.acts.now c.loop-who.acts) (take_all c.loop-who.who-index c.args.entries.now (omega arith)) c.loop-who.invariant
