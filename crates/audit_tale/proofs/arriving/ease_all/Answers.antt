use Rattle.std.proofs.Common.{◌+◌, [], take, refl, subst, arith}
use Rattle.std.proofs.lemmas.List.{take_all}
use Rattle.std.proofs.lemmas.List.Folds.{list_any_more}
use Rattle.snap_base.specs.declared.transactions.Who.TheVariants.{Batch}
use Rattle.audit_tale.specs.Coming.{is_kept_among, is_kept_at}
use Rattle.audit_tale.specs.Touching.{AreEased}
use Rattle.audit_tale.proofs.Touched.{eased_none, eased_on}
use Rattle.audit_tale.proofs.arriving.ease_all.Goals as goal

pub loop-who-init : goal.loop-who-init
loop-who-init c = eased_none (is_kept_among c.args.owners.now []) c.args.acts.now c.args.ties.now (λ i. refl)

pub loop-who-preserved : goal.loop-who-preserved
loop-who-preserved c =
    eased_on (is_kept_among c.args.owners.now (take c.loop-who.who-index c.args.entries.now)) _ (is_kept_among c.args.owners.now (take (c.loop-who.who-index + 1) c.args.entries.now)) c.args.acts.now c.args.ties.now c.loop-who.ties c.ease_who.new.ties
    (λ i. list_any_more (is_kept_at c.args.owners.now i) c.args.entries.now c.loop-who.who-index (Batch (record { 0 = 0 })) c.loop-who-test.true) c.loop-who.invariant c.ease_who.ensures

pub returns : goal.returns
returns c = subst (λ es. AreEased (is_kept_among c.args.owners.now es) c.args.acts.now c.args.ties.now c.loop-who.ties) (take_all c.loop-who.who-index c.args.entries.now (omega arith)) c.loop-who.invariant
