use Rattle.std.proofs.Common.{ℕ, [], ◌∷◌, ◌++◌, List, arith, ap, sym, subst, take, ◌∙◌}
use Rattle.std.proofs.lemmas.List.{length-map, take_all}
use Rattle.snap_base.specs.declared.ids.Tid.{Tid}
use Rattle.protocol.specs.Meant.{tid_number}
use Rattle.audit_tale.specs.Risen.{HasRisen, tids}
use Rattle.audit_tale.proofs.Walks.{act_known, among_this, first_rises, rises_on}
use Rattle.audit_tale.proofs.rising.rise.Goals as goal

pub loop-next-init : goal.loop-next-init
loop-next-init c = record {
  within = omega arith;
  knows = λ w s may h owned le.
      subst (λ (z : List ℕ). HasRisen w c.args.number.0 c.args.t.0 z [] c.raise.new.told s) (sym (ap tids (c.in_ok-push.ensures.items ∙ ap (λ (z : List Tid). z ++ c.args.t ∷ []) c.new-rising.ensures.items)))
      (first_rises w c.args.number.0 c.args.t.0 c.raise.new.told s (act_known w c.args.t.0 c.args.at c.args.told.now s h owned c.requires) le (c.raise.ensures.knows w s c.args.t.0 may h owned le));
}

pub loop-next-preserved : goal.loop-next-preserved
loop-next-preserved c = record {
  within = omega (arith, c.in_ok-lift_waiters.ensures.longer);
  knows = λ w s may h owned le.
      rises_on w c.args.number.0 c.args.t.0 c.loop-next.rising.items c.lift_waiters.new.rising.items c.in_ok-lift_waiters.ensures.more.0 c.loop-next.next c.index-visited.result.now c.lift_waiters.new.told s (omega arith) c.index-visited.ensures c.in_ok-lift_waiters.ensures.more.1
      (c.in_ok-lift_waiters.ensures.knows w s c.args.t.0 (take c.loop-next.next (tids c.loop-next.rising.items)) may (among_this c.loop-next.rising.items c.loop-next.next c.index-visited.result.now (omega arith) c.index-visited.ensures) (c.loop-next.invariant.knows w s may h owned le));
}

pub returns : goal.returns
returns c w s may h owned le =
    subst (λ (z : List ℕ). HasRisen w c.args.number.0 c.args.t.0 (tids c.loop-next.rising.items) z c.loop-next.told s) (take_all c.loop-next.next (tids c.loop-next.rising.items) (omega (arith, length-map c.loop-next.rising.items tid_number)))
    (c.loop-next.invariant.knows w s may h owned le)
