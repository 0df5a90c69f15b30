use Rattle.std.proofs.Common.{[], ◌∷◌, length, arith, ap, ◌∙◌}
use Rattle.std.proofs.lemmas.List.{length_push, map-append}
use Rattle.protocol.specs.Meant.{tid_number}
use Rattle.audit_tale.specs.Risen.{risen, tids}
use Rattle.audit_tale.specs.declared.tales.ActTale.{ActTale}
use Rattle.audit_tale.proofs.Walks.{high_lifts, low_lifts, may_still, nobody_lifts, with_before}
use Rattle.audit_tale.proofs.rising.lift.Goals as goal

pub returns-in_default-clause-knows : goal.returns-in_default-clause-knows
returns-in_default-clause-knows c w s t visited may reach h =
    nobody_lifts w c.args.number.0 t c.args.v.0 (tids c.args.rising.now.items) visited c.args.told.now s (c.in_default.ensures w (with_before (risen c.args.number.0 (tids c.args.rising.now.items) s.before) s) h.knows.names) h

pub returns-then-index-number-clause-knows : goal.returns-then-index-number-clause-knows
returns-then-index-number-clause-knows c w s t visited may reach h =
    high_lifts w c.args.number.0 t c.args.v.0 c.in-Some.at c.index.result.now (tids c.args.rising.now.items) visited c.args.told.now s c.in-Some.ensures.0 c.in-Some.ensures.1 (omega (arith, c.if-index-number.true, ap (λ (x : ActTale). x.before.0) c.index.ensures)) h

pub returns : goal.returns
returns c = record {
  longer = omega (arith, ap length c.in_ok-push.ensures.items, length_push c.args.rising.now.items c.args.v);
  fewer = omega (arith, ap length c.in_ok-push.ensures.items, length_push c.args.rising.now.items c.args.v, c.raise.ensures.fewer c.index.result.now (omega (arith, c.if-index-number.false, ap (λ (x : ActTale). x.before.0) c.index.ensures)));
  more = (c.args.v.0 ∷ [], ap tids c.in_ok-push.ensures.items ∙ map-append tid_number c.args.rising.now.items (c.args.v ∷ []));
  knows = λ w s t visited may reach h. low_lifts w c.args.number.0 t c.args.v.0 c.in-Some.at c.index.result.now (tids c.args.rising.now.items) (tids c.push.new.self.items) visited c.args.told.now c.raise.new.told s c.in-Some.ensures.0 c.in-Some.ensures.1
      (omega (arith, c.if-index-number.false, ap (λ (x : ActTale). x.before.0) c.index.ensures)) reach (ap tids c.in_ok-push.ensures.items ∙ map-append tid_number c.args.rising.now.items (c.args.v ∷ [])) h
      (λ le. c.raise.ensures.knows w (with_before (risen c.args.number.0 (tids c.args.rising.now.items) s.before) s) c.args.v.0 (may_still s (risen c.args.number.0 (tids c.args.rising.now.items) s.before) may) h.knows c.in-Some.ensures.0 le);
}
