use Rattle.std.proofs.Common.{sym, ◌∙◌}
use Rattle.std.proofs.lemmas.Bool.{eq-eqb, eqb-true, true≢false}
use Rattle.core_events.specs.Meant.{event_meant}
use Rattle.snap_hand.specs.Tables.{fixed_of}
use Rattle.ready_listing.proofs.Parts.{asked_is, is_had}
use Rattle.ready_listing.proofs.choosing.may_take.Goals as goal

pub returns-then-not-has_footprint-clause-due : goal.returns-then-not-has_footprint-clause-due
returns-then-not-has_footprint-clause-due c due =
    absurd (true≢false (sym (asked_is (fixed_of c.args.tables.now) c.args.hand.now (event_meant c.args.e) due.parts) ∙ (sym c.has_footprint.ensures ∙ c.if-not-has_footprint.true)))

pub refusal-requires-clause-asked : goal.refusal-requires-clause-asked
refusal-requires-clause-asked c = record {
  places = c.requires.places;
  parts = is_had (fixed_of c.args.tables.now) c.args.hand.now (event_meant c.args.e) (sym c.has_footprint.ensures ∙ c.if-not-has_footprint.false);
  some = c.requires.some;
}

pub returns-clause-offered : goal.returns-clause-offered
returns-clause-offered c is = (
  is_had (fixed_of c.args.tables.now) c.args.hand.now (event_meant c.args.e) (sym c.has_footprint.ensures ∙ c.if-not-has_footprint.false),
  λ s run fits. c.refusal.ensures s run fits ∙ eqb-true c.refusal.result 0 is,
)

pub returns-clause-due : goal.returns-clause-due
returns-clause-due c due =
    eq-eqb c.refusal.result 0 (sym (c.refusal.ensures due.state due.run due.fits) ∙ (c.allowed_or_refused.ensures (fixed_of c.args.tables.now) (event_meant c.args.e) due.state).1 due.allowed)
