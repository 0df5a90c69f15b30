use Rattle.std.proofs.Common.{subst}
use Rattle.std.specs.List.{AllByRecursion}
use Rattle.snap_hand.specs.Hands.{Has}
use Rattle.footprint_rows.proofs.steps.answer_on.Goals as goal

pub refusal-asked-requires-clause-asked : goal.refusal-asked-requires-clause-asked
refusal-asked-requires-clause-asked c = record {
  places = c.requires.places;
  parts = subst (AllByRecursion (Has c.args.hand.now)) c.footprint-parts.ensures (c.has_all.ensures c.if-not-has_all.false);
  some = c.requires.some;
}

pub rule_of_step-requires-clause-asked : goal.rule_of_step-requires-clause-asked
rule_of_step-requires-clause-asked c = record {
  places = c.requires.places;
  parts = subst (AllByRecursion (Has c.args.hand.now)) c.footprint-parts.ensures (c.has_all.ensures c.if-not-has_all.false);
  some = c.requires.some;
}
