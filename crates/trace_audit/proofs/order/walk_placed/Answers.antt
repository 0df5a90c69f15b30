use Rattle.std.proofs.Common.{◌+◌, ◌++◌, List, drop, arith, ap, sym, ◌∙◌}
use Rattle.std.specs.List.{flat_map}
use Rattle.std.proofs.lemmas.List.{at_drop_all}
use Rattle.snap_base.specs.declared.transactions.Who.{Who}
use Rattle.audit_tale.specs.declared.tales.MemberTale.{MemberTale}
use Rattle.trace_audit.specs.Risen.{stamped, still_rises}
use Rattle.trace_audit.proofs.Walking.{flat_next}
use Rattle.trace_audit.proofs.order.walk_placed.Goals as goal

pub loop-who-preserved : goal.loop-who-preserved
loop-who-preserved c = record {
  many = c.walk_who.ensures.many ∙ c.loop-who.invariant.many;
  still_rises = λ n rest h.
      c.walk_who.ensures.still_rises n (flat_map (stamped c.args.groups.now.batches.items c.args.groups.now.acts.items c.args.stamps.now c.args.stamp) (drop (c.loop-who.who-index + 1) c.args.placed.now) ++ rest) (omega (arith, c.loop-who.invariant.many))
      ∙ (ap (λ (z : List MemberTale). still_rises n c.loop-who.walk.rises.items c.loop-who.walk.writers c.loop-who.walk.readers z)
      (flat_next (stamped c.args.groups.now.batches.items c.args.groups.now.acts.items c.args.stamps.now c.args.stamp) c.args.placed.now c.loop-who.who-index _ rest c.loop-who-test.true)
      ∙ c.loop-who.invariant.still_rises n rest h);
}

pub returns-clause-still_rises : goal.returns-clause-still_rises
returns-clause-still_rises c n rest h =
    sym (at_drop_all (λ (z : List Who). still_rises n c.loop-who.walk.rises.items c.loop-who.walk.writers c.loop-who.walk.readers (flat_map (stamped c.args.groups.now.batches.items c.args.groups.now.acts.items c.args.stamps.now c.args.stamp) z ++ rest)) c.args.placed.now c.loop-who.who-index (omega arith))
    ∙ c.loop-who.invariant.still_rises n rest h
