use Rattle.std.proofs.Common.{◌≤◌, sym, subst}
use Rattle.core_events.specs.Meant.{event_meant}
use Rattle.crew_grip.specs.Grips.{GripState}
use Rattle.protocol.specs.Events.{footprint}
use Rattle.snap_hand.specs.Steps.{IsRefusalOn, MayBeAsked}
use Rattle.snap_hand.specs.Tables.{AreTables, fixed_of}
use Rattle.snap_hand.specs.declared.tables.Tables.{Tables}
use Rattle.crew_grip.proofs.ActsMade.{are_sound, covers_ready, may_be_asked, ready_now, refused_now}
use Rattle.crew_grip.proofs.grips.Grip.act.Goals as goal

pub footprint-parts-requires : goal.footprint-parts-requires
footprint-parts-requires g c = subst (λ (t : Tables). 1 ≤ t.work.logs) (sym c.tables-tables.ensures) c.requires.crew.tables.accepted.some_logs

pub refusal-requires-clause-tables : goal.refusal-requires-clause-tables
refusal-requires-clause-tables g c = subst AreTables (sym c.tables-tables.ensures) c.requires.crew.tables

pub refusal-requires-clause-asked : goal.refusal-requires-clause-asked
refusal-requires-clause-asked g c =
    let t = c.args.turns.now.table.shared.key.tables.value in
    let w = fixed_of t in
    let start = c.args.turns.now.table.shared.key.parts.value.items in
    let held = c.args.pass.now.seat.me.0.held in
    let e = event_meant c.args.e in
    let grip = c.requires.work.grip in
    let all = ready_now c.tables-tables.result.now t e c.args.self.now c.footprint-parts.result c.tables-tables.ensures c.footprint-parts.ensures (c.is_ready.ensures.only c.if-not-is_ready.false) in
    subst (λ (u : Tables). MayBeAsked (fixed_of u) e c.self.inside.hand) (sym c.tables-tables.ensures)
    (subst (λ (x : GripState). MayBeAsked w e x.hand) (sym c.self.view_is)
    (may_be_asked w e start held c.args.self.now c.places_are_set.ensures.told c.requires.work.stands grip (covers_ready t.work.logs w held c.args.self.now (footprint t.work.logs e) grip all)))

pub act_allowed-requires-clause-just : goal.act_allowed-requires-clause-just
act_allowed-requires-clause-just g c =
    let t = c.args.turns.now.table.shared.key.tables.value in
    let e = event_meant c.args.e in
    let all = ready_now c.tables-tables.result.now t e c.args.self.now c.footprint-parts.result c.tables-tables.ensures c.footprint-parts.ensures (c.is_ready.ensures.only c.if-not-is_ready.false) in
    record {
      all = covers_ready t.work.logs (fixed_of t) c.args.pass.now.seat.me.0.held c.args.self.now (footprint t.work.logs e) c.requires.work.grip all;
      others = c.requires.others;
    }

pub act_allowed-requires-clause-sound : goal.act_allowed-requires-clause-sound
act_allowed-requires-clause-sound g c =
    let t = c.args.turns.now.table.shared.key.tables.value in
    let e = event_meant c.args.e in
    let all = ready_now c.tables-tables.result.now t e c.args.self.now c.footprint-parts.result c.tables-tables.ensures c.footprint-parts.ensures (c.is_ready.ensures.only c.if-not-is_ready.false) in
    are_sound t.work.logs (fixed_of t) c.args.pass.now.seat.me.0.held c.args.self.now (footprint t.work.logs e) c.requires.work.grip all c.requires.others

pub act_allowed-requires-clause-allowed : goal.act_allowed-requires-clause-allowed
act_allowed-requires-clause-allowed g c =
    refused_now c.tables-tables.result.now c.args.turns.now.table.shared.key.tables.value (event_meant c.args.e) c.args.self.now.hand c.refusal.result c.tables-tables.ensures c.if-refusal-ne0.false
    (subst (λ (x : GripState). IsRefusalOn (fixed_of c.tables-tables.result.now) (event_meant c.args.e) x.hand c.refusal.result) c.self.view_is c.refusal.ensures)
