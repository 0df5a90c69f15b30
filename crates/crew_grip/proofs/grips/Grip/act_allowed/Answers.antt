use Rattle.std.proofs.Common.{Err, sym, subst, ◌∙◌}
use Rattle.core_events.specs.Meant.{event_meant}
use Rattle.crew_grip.specs.Acted.{IsOuter}
use Rattle.crew_grip.specs.Grips.{IsAtWork}
use Rattle.crew_grip.specs.declared.results.NotDone.{NotDone}
use Rattle.snap_hand.specs.Tables.{fixed_of}
use Rattle.crew_grip.proofs.ActsMade.{acted_broken, acted_done, may_be_asked, still_allowed, still_asked}
use Rattle.crew_grip.proofs.grips.Grip.act_allowed.Goals as goal

pub go_out-requires-clause-held : goal.go_out-requires-clause-held
go_out-requires-clause-held g c = record { held = c.args.pass.now.seat.me.0.held; grip = c.requires.work.grip; stands = c.requires.work.stands; just = c.requires.just }

pub step-requires-clause-asked : goal.step-requires-clause-asked
step-requires-clause-asked g c =
    let w = fixed_of c.args.turns.now.table.shared.key.tables.value in
    let start = c.args.turns.now.table.shared.key.parts.value.items in
    let e = event_meant c.args.e in
    still_asked w e c.args.self.now c.go_out.new.self c.in-Ok.ensures.out
    (may_be_asked w e start c.args.pass.now.seat.me.0.held c.args.self.now c.places_are_set.ensures.told c.requires.work.stands c.requires.work.grip c.requires.just.all)

pub step-requires-clause-allowed : goal.step-requires-clause-allowed
step-requires-clause-allowed g c =
    still_allowed (fixed_of c.args.turns.now.table.shared.key.tables.value) (event_meant c.args.e) c.args.self.now c.go_out.new.self c.in-Ok.ensures.out c.requires.allowed

pub returns-in_default-clause-work : goal.returns-in_default-clause-work
returns-in_default-clause-work g c =
    let none = c.in_default.ensures.not in
    subst (IsAtWork c.args.turns.now c.args.pass.now.seat) (sym (none.0 ∙ c.go_out.ensures.nothing none.1)) c.requires.work

pub record-done-requires-clause-acted : goal.record-done-requires-clause-acted
record-done-requires-clause-acted g c =
    let w = fixed_of c.args.turns.now.table.shared.key.tables.value in (
      c.args.self.now,
      (
        c.requires.work.grip,
        (
          c.requires.just,
          acted_done w (event_meant c.args.e) c.args.self.now c.go_out.new.self c.step.new.self c.in-Ok.ensures.out c.in-Ok-step.ensures.taken,
        ),
      ),
    )

pub record-broken-requires-clause-acted : goal.record-broken-requires-clause-acted
record-broken-requires-clause-acted g c =
    let w = fixed_of c.args.turns.now.table.shared.key.tables.value in
    let e = event_meant c.args.e in
    let out = subst (λ (y : NotDone). IsOuter w e c.args.self.now c.go_out.new.self (Err y)) c.in-Err-Fault.field-0-is c.in-Err-Fault.ensures.out in (
      c.args.self.now,
      (
        c.requires.work.grip,
        (
          c.requires.just,
          acted_broken w e c.args.self.now c.go_out.new.self (λ s. (c.allowed_or_refused.ensures w e s).0) c.requires.allowed c.requires.work.grip.places out,
        ),
      ),
    )

pub returns-in-Err-Memory-clause-work : goal.returns-in-Err-Memory-clause-work
returns-in-Err-Memory-clause-work g c =
    let w = fixed_of c.args.turns.now.table.shared.key.tables.value in
    let out = subst (λ (y : NotDone). IsOuter w (event_meant c.args.e) c.args.self.now c.go_out.new.self (Err y)) c.in-Err-Memory.field-0-is c.in-Err-Memory.ensures.out in
    subst (IsAtWork c.args.turns.now c.args.pass.now.seat) (sym out) c.requires.work
