use Rattle.std.proofs.Common.{sym, ◌∙◌}
use Rattle.std.proofs.lemmas.Bool.{eq-eqb, eqb-true, true≢false}
use Rattle.core_events.specs.Meant.{event_meant}
use Rattle.protocol.specs.Events.{footprint}
use Rattle.snap_hand.proofs.Held.{all_here}
use Rattle.snap_hand.specs.Tables.{fixed_of}
use Rattle.ready_renewal.proofs.asking.is_allowed.Goals as goal

pub refusal-requires-clause-asked : goal.refusal-requires-clause-asked
refusal-requires-clause-asked c = record {
  places = c.requires.places;
  parts = all_here c.args.hand.now c.requires.whole (footprint (fixed_of c.args.tables.now).text.logs (event_meant c.args.e));
  some = c.requires.some;
}

pub returns-clause-allowed : goal.returns-clause-allowed
returns-clause-allowed c is = λ s run fits.
    (c.allowed_or_refused.ensures (fixed_of c.args.tables.now) (event_meant c.args.e) s).0 (c.refusal.ensures s run fits ∙ eqb-true c.refusal.result 0 is)

pub returns-clause-refused : goal.returns-clause-refused
returns-clause-refused c is = λ s run fits ok.
    true≢false (sym (eq-eqb c.refusal.result 0 (sym (c.refusal.ensures s run fits) ∙ (c.allowed_or_refused.ensures (fixed_of c.args.tables.now) (event_meant c.args.e) s).1 ok)) ∙ is)
