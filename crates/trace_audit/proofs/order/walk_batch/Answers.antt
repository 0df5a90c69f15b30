use Rattle.std.proofs.Common.{◌+◌, ◌++◌, List, drop, arith, ap, sym, ◌∙◌}
use Rattle.std.specs.Prelude.{filter}
use Rattle.std.proofs.lemmas.List.{at_drop_all}
use Rattle.audit_tale.specs.declared.tales.MemberTale.{MemberTale}
use Rattle.trace_audit.specs.Risen.{has_stamp, still_rises}
use Rattle.trace_audit.proofs.Walking.{filter_next}
use Rattle.trace_audit.proofs.order.walk_batch.Goals as goal

pub loop-member-preserved : goal.loop-member-preserved
loop-member-preserved c = record {
  many = c.step_if_ran.ensures.many ∙ c.loop-member.invariant.many;
  still_rises = λ n rest h.
      c.step_if_ran.ensures.still_rises n (filter (λ m. has_stamp c.args.stamps.now c.args.stamp m.tid.0) (drop (c.loop-member.member-index + 1) c.args.group.now) ++ rest) (omega (arith, c.loop-member.invariant.many))
      ∙ (ap (λ (z : List MemberTale). still_rises n c.loop-member.walk.rises.items c.loop-member.walk.writers c.loop-member.walk.readers z)
      (filter_next (λ m. has_stamp c.args.stamps.now c.args.stamp m.tid.0) c.args.group.now c.loop-member.member-index _ rest c.loop-member-test.true)
      ∙ c.loop-member.invariant.still_rises n rest h);
}

pub returns-clause-still_rises : goal.returns-clause-still_rises
returns-clause-still_rises c n rest h =
    sym (at_drop_all (λ (z : List MemberTale). still_rises n c.loop-member.walk.rises.items c.loop-member.walk.writers c.loop-member.walk.readers (filter (λ m. has_stamp c.args.stamps.now c.args.stamp m.tid.0) z ++ rest)) c.args.group.now c.loop-member.member-index (omega arith))
    ∙ c.loop-member.invariant.still_rises n rest h
