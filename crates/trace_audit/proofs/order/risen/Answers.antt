use Rattle.std.proofs.Common.{ℕ, ◌<◌, ◌&&◌, Bool, None, arith, ap, subst, sym, take, ◌∙◌}
use Rattle.std.specs.List.{AllByRecursion}
use Rattle.audit_tale.specs.declared.told.ActorTale.{ActorTale}
use Rattle.trace_audit.specs.Risen.{all_rise, chain_of, rises_to}
use Rattle.trace_audit.proofs.Walking.{rise_next}
use Rattle.trace_audit.proofs.order.risen.Goals as goal

pub loop-a-preserved : goal.loop-a-preserved
loop-a-preserved c =
    let ms = c.args.members.now in
    record {
      many = c.walk_actor.ensures.many ∙ c.loop-a.invariant.many;
      long = c.walk_actor.ensures.long ∙ c.loop-a.invariant.long;
      few = c.walk_actor.ensures.few c.loop-a.invariant.few;
      rises = λ n h.
          c.walk_actor.ensures.rises ms c.in_ok-groups.ensures (subst (λ (z : ℕ). AllByRecursion (λ m. m.tid.0 < z) ms) (sym c.loop-a.invariant.long) c.in_ok-stamps.ensures.many) c.loop-a.invariant.few n (omega (arith, h, c.walk_actor.ensures.many))
          ∙ (ap (λ (b : Bool). b && rises_to n None None (chain_of ms c.index-actors-a.result)) (c.loop-a.invariant.rises n (omega (arith, h, c.walk_actor.ensures.many)))
          ∙ (ap (λ (x : ActorTale). all_rise n ms (take c.loop-a.a c.args.actors.now) && rises_to n None None (chain_of ms x)) c.index-actors-a.is
          ∙ sym (rise_next n ms c.args.actors.now c.loop-a.a c.index-actors-a.result c.loop-a-test.true)));
    }

pub returns-clause-many : goal.returns-clause-many
returns-clause-many c = subst (λ (z : ℕ). AllByRecursion (λ m. m.tx.0 < z) c.args.members.now) (sym c.loop-a.invariant.many) c.in_ok-marks_for.ensures.many
