use Rattle.std.proofs.Common.{◌≡◌, ◌∙◌, ◌∷◌, ◌++◌, ap, map, false, arith, reverse, subst, List}
use Rattle.std.specs.List.{AllByRecursion}
use Rattle.snap_base.proofs.Lists.{all_but_last, all_last}
use Rattle.gate_log.specs.State.{LogState}
use Rattle.crew_parts.specs.Besides.{beside_log}
use Rattle.crew_ends.specs.Lists.{besides_of}
use Rattle.crew_ends.proofs.LaidOut.{one_log}
use Rattle.crew_ends.proofs.laying.lay_logs.Goals as goal

pub with_journal-requires-clause-open : goal.with_journal-requires-clause-open
with_journal-requires-clause-open g c = all_last (λ (j : LogState). j.shut ≡ false) c.pop.new.self.items c.in-Some.log
    (subst (λ (js : List LogState). AllByRecursion (λ (j : LogState). j.shut ≡ false) js) c.in-Some.ensures.items c.loop-log.invariant.ready)

pub with_journal-requires-clause-format : goal.with_journal-requires-clause-format
with_journal-requires-clause-format g c = all_last (λ (j : LogState). j.format ≡ 2) c.pop.new.self.items c.in-Some.log
    (subst (λ (js : List LogState). AllByRecursion (λ (j : LogState). j.format ≡ 2) js) c.in-Some.ensures.items c.loop-log.invariant.format)

pub loop-log-preserved : goal.loop-log-preserved
loop-log-preserved g c = record {
  parts = c.lay_last.ensures.parts ∙ c.loop-log.invariant.parts;
  besides = one_log c.loop-log.logs.items c.pop.new.self.items c.in-Some.log (besides_of (reverse c.loop-log.shares.items)) (besides_of (reverse c.lay_last.new.shares.items)) (map beside_log c.args.logs.now.items ++ besides_of (reverse c.args.shares.now.items)) c.loop-log.invariant.besides c.in-Some.ensures.items
      (c.lay_last.ensures.besides ∙ ap (λ b. b ∷ besides_of (reverse c.loop-log.shares.items)) c.with_journal.ensures);
  ready = all_but_last (λ (j : LogState). j.shut ≡ false) c.pop.new.self.items c.in-Some.log
      (subst (λ (js : List LogState). AllByRecursion (λ (j : LogState). j.shut ≡ false) js) c.in-Some.ensures.items c.loop-log.invariant.ready);
  format = all_but_last (λ (j : LogState). j.format ≡ 2) c.pop.new.self.items c.in-Some.log
      (subst (λ (js : List LogState). AllByRecursion (λ (j : LogState). j.format ≡ 2) js) c.in-Some.ensures.items c.loop-log.invariant.format);
  slots = omega (arith, c.in-Some.ensures.cases, c.in-Some-pop.ensures.cases);
  capacity = c.in-Some.ensures.capacity ∙ c.loop-log.invariant.capacity;
  fewer = omega (arith, c.in-Some.ensures.cases);
  more = omega (arith, c.in-Some.ensures.cases);
  room = c.lay_last.ensures.room ∙ c.loop-log.invariant.room;
  left = omega (arith, c.in-Some.ensures.cases);
}
