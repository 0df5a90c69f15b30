use Rattle.std.proofs.Common.{◌≡◌, true, Result, OnOk, OnErr, sym, subst}
use Rattle.core_events.specs.Meant.{event_meant}
use Rattle.crew_grip.specs.Acted.{IsStepped}
use Rattle.crew_grip.specs.Grips.{GripState}
use Rattle.snap_base.specs.declared.memory.Memory.{Memory}
use Rattle.snap_hand.specs.Steps.{IsRefusalOn, MayBeAsked, may_want}
use Rattle.snap_hand.specs.Tables.{AreTables, fixed_of}
use Rattle.snap_hand.specs.declared.tables.Tables.{Tables}
use Rattle.crew_grip.proofs.ActsMade.{not_stepped, stepped}
use Rattle.crew_grip.proofs.grips.Grip.step.Goals as goal
use Rattle.crew_grip.proofs.grips.Grip.step.Goals.{in-Ok, in-Err}

pub take_on-requires-clause-tables : goal.take_on-requires-clause-tables
take_on-requires-clause-tables g c = subst AreTables (sym c.tables.ensures) c.requires.crew.tables

pub take_on-requires-clause-asked : goal.take_on-requires-clause-asked
take_on-requires-clause-asked g c =
    subst (λ (t : Tables). MayBeAsked (fixed_of t) (event_meant c.args.e) c.self.inside.hand) (sym c.tables.ensures)
    (subst (λ (x : GripState). MayBeAsked (fixed_of c.args.turns.now.table.shared.key.tables.value) (event_meant c.args.e) x.hand) (sym c.self.view_is) c.requires.asked)

pub take_on-requires-clause-allowed : goal.take_on-requires-clause-allowed
take_on-requires-clause-allowed g c =
    subst (λ (t : Tables). IsRefusalOn (fixed_of t) (event_meant c.args.e) c.self.inside.hand 0) (sym c.tables.ensures)
    (subst (λ (x : GripState). IsRefusalOn (fixed_of c.args.turns.now.table.shared.key.tables.value) (event_meant c.args.e) x.hand 0) (sym c.self.view_is) c.requires.allowed)

pub returns-clause-taken : goal.returns-clause-taken
returns-clause-taken g c = elim c.match-take_on.branch [
  | in-Ok w ↦ subst (λ (r : Result (Unit {0}) Memory). OnOk r (IsStepped (fixed_of c.args.turns.now.table.shared.key.tables.value) (event_meant c.args.e) c.args.self.now (record { hand = c.take_on.new.hand; besides = c.self.inside.besides.items }))) (sym w.result-is)
      (stepped c.tables.result.now c.args.turns.now.table.shared.key.tables.value (event_meant c.args.e) (record { hand = c.self.inside.hand; besides = c.self.inside.besides.items }) c.args.self.now c.take_on.new.hand
      c.tables.ensures c.self.view_is w.in-Ok.ensures.0 w.in-Ok.ensures.1 w.in-Ok.ensures.2)
  | in-Err w ↦ subst (λ (r : Result (Unit {0}) Memory). OnOk r (IsStepped (fixed_of c.args.turns.now.table.shared.key.tables.value) (event_meant c.args.e) c.args.self.now (record { hand = c.take_on.new.hand; besides = c.self.inside.besides.items }))) (sym w.result-is) tt
]

pub returns-clause-not : goal.returns-clause-not
returns-clause-not g c = elim c.match-take_on.branch [
  | in-Ok w ↦ subst (λ (r : Result (Unit {0}) Memory). OnErr r ((record { hand = c.take_on.new.hand; besides = c.self.inside.besides.items } ≡ c.args.self.now) × (may_want (event_meant c.args.e) ≡ true))) (sym w.result-is) tt
  | in-Err w ↦ subst (λ (r : Result (Unit {0}) Memory). OnErr r ((record { hand = c.take_on.new.hand; besides = c.self.inside.besides.items } ≡ c.args.self.now) × (may_want (event_meant c.args.e) ≡ true))) (sym w.result-is)
      (not_stepped c.tables.result.now c.args.turns.now.table.shared.key.tables.value (event_meant c.args.e) (record { hand = c.self.inside.hand; besides = c.self.inside.besides.items }) c.args.self.now c.take_on.new.hand w.in-Err.field-0
      c.tables.ensures c.self.view_is w.in-Err.ensures.0 w.in-Err.ensures.1 c.requires.allowed c.requires.asked.some)
]
