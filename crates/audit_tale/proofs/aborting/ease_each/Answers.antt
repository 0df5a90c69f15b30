use Rattle.std.proofs.Common.{ℕ, List, ◌+◌, ◌==◌, [], take, refl, subst, arith}
use Rattle.std.proofs.lemmas.List.{take_all}
use Rattle.std.proofs.lemmas.List.Folds.{list_any_more}
use Rattle.protocol.specs.Words.{is_among}
use Rattle.audit_tale.specs.Touching.{AreEased}
use Rattle.audit_tale.proofs.Touched.{eased_none, eased_on}
use Rattle.audit_tale.proofs.aborting.ease_each.Goals as goal

pub loop-at-init : goal.loop-at-init
loop-at-init c = eased_none (λ i. is_among i []) c.args.acts.now c.args.ties.now (λ i. refl)

pub loop-at-preserved : goal.loop-at-preserved
loop-at-preserved c =
    eased_on (λ i. is_among i (take c.loop-at.at-index c.args.going.now)) _ (λ i. is_among i (take (c.loop-at.at-index + 1) c.args.going.now)) c.args.acts.now c.args.ties.now c.loop-at.ties c.ease_at.new.ties
    (λ i. list_any_more (λ x. x == i) c.args.going.now c.loop-at.at-index 0 c.loop-at-test.true) c.loop-at.invariant c.ease_at.ensures

pub returns : goal.returns
returns c = subst (λ (ns : List ℕ). AreEased (λ i. is_among i ns) c.args.acts.now c.args.ties.now c.loop-at.ties) (take_all c.loop-at.at-index c.args.going.now (omega arith)) c.loop-at.invariant
