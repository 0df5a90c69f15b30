use Rattle.std.proofs.Common.{◌≤◌, ◌∙◌, sym, subst}
use Rattle.std.proofs.lemmas.Bool.{eq-eqb}
use Rattle.core_events.specs.Meant.{event_meant}
use Rattle.crew_grip.specs.Grips.{GripState}
use Rattle.protocol.specs.Events.{footprint}
use Rattle.snap_hand.specs.Steps.{IsRefusalOn, MayBeAsked}
use Rattle.snap_hand.specs.Tables.{AreTables, fixed_of}
use Rattle.snap_hand.specs.declared.tables.Tables.{Tables}
use Rattle.crew_grip.proofs.ActsMade.{covers_ready, may_be_asked, ready_now}
use Rattle.crew_grip.proofs.HandsHold.{on_some_run}
use Rattle.crew_grip.proofs.grips.Grip.may_do.Goals as goal

pub footprint-parts-requires : goal.footprint-parts-requires
footprint-parts-requires g c = subst (λ (t : Tables). 1 ≤ t.work.logs) (sym c.tables-tables.ensures) c.requires.crew.tables.accepted.some_logs

pub refusal-requires-clause-tables : goal.refusal-requires-clause-tables
refusal-requires-clause-tables g c = subst AreTables (sym c.tables-tables.ensures) c.requires.crew.tables

pub refusal-requires-clause-asked : goal.refusal-requires-clause-asked
refusal-requires-clause-asked g c =
    let t = c.args.turns.now.table.shared.key.tables.value in
    let w = fixed_of t in
    let start = c.args.turns.now.table.shared.key.parts.value.items in
    let now = c.requires.held in
    let e = event_meant c.args.e in
    let all = ready_now c.tables-tables.result.now t e c.args.self.now c.footprint-parts.result c.tables-tables.ensures c.footprint-parts.ensures (c.is_ready.ensures.only c.if-not-is_ready.false) in
    subst (λ (u : Tables). MayBeAsked (fixed_of u) e c.self.inside.hand) (sym c.tables-tables.ensures)
    (subst (λ (x : GripState). MayBeAsked w e x.hand) (sym c.self.view_is)
    (may_be_asked w e start now.held c.args.self.now c.places_are_set.ensures.told now.stands now.grip (covers_ready t.work.logs w now.held c.args.self.now (footprint t.work.logs e) now.grip all)))

pub returns-clause-all : goal.returns-clause-all
returns-clause-all g c ready allowed =
    let t = c.args.turns.now.table.shared.key.tables.value in
    let e = event_meant c.args.e in
    let now = c.requires.held in
    let says =
    subst (λ (u : Tables). IsRefusalOn (fixed_of u) e c.args.self.now.hand c.refusal.result) c.tables-tables.ensures
    (subst (λ (x : GripState). IsRefusalOn (fixed_of c.tables-tables.result.now) e x.hand c.refusal.result) c.self.view_is c.refusal.ensures) in
    let some = on_some_run (fixed_of t) c.args.turns.now.table.shared.key.parts.value.items now.held c.args.self.now now.stands now.grip in
    eq-eqb c.refusal.result 0 (sym (says some.state some.run some.fits) ∙ allowed some.state some.run some.fits)
