use Rattle.std.proofs.Common.{ℕ, List, ◌+◌, ◌==◌, [], take, refl, subst, arith}
use Rattle.std.proofs.lemmas.List.{take_all}
use Rattle.std.proofs.lemmas.List.Folds.{list_any_more}
use Rattle.protocol.specs.Words.{is_among}
use Rattle.audit_tale.specs.Cutting.{cut_act}
use Rattle.audit_tale.specs.Touching.{AreTouched}
use Rattle.audit_tale.proofs.CutOff.{cut_twice}
use Rattle.audit_tale.proofs.Touched.{touched_none, touched_on}
use Rattle.audit_tale.proofs.aborting.cut_each.Goals as goal

pub loop-at-init : goal.loop-at-init
loop-at-init c = touched_none (cut_act c.args.k) (λ i. is_among i []) c.args.acts.now (λ i. refl)

pub loop-at-preserved : goal.loop-at-preserved
loop-at-preserved c =
    touched_on (cut_act c.args.k) (λ i. is_among i (take c.loop-at.at-index c.args.going.now)) _ (λ i. is_among i (take (c.loop-at.at-index + 1) c.args.going.now)) c.args.acts.now c.loop-at.acts c.cut_at.new.acts
    (cut_twice c.args.k) (λ i. list_any_more (λ x. x == i) c.args.going.now c.loop-at.at-index 0 c.loop-at-test.true) c.loop-at.invariant c.cut_at.ensures

pub returns : goal.returns
returns c = subst (λ (ns : List ℕ). AreTouched (cut_act c.args.k) (λ i. is_among i ns) c.args.acts.now c.loop-at.acts) (take_all c.loop-at.at-index c.args.going.now (omega arith)) c.loop-at.invariant
