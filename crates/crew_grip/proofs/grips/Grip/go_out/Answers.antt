use Rattle.std.proofs.Common.{subst, sym}
use Rattle.core_events.specs.declared.events.Event as code
use Rattle.core_events.specs.Meant.{event_meant}
use Rattle.crew_grip.specs.Acted.{IsJustHeld, IsOuter}
use Rattle.snap_hand.specs.Steps.{IsRefusalOn}
use Rattle.snap_hand.specs.Tables.{fixed_of}
use Rattle.crew_grip.proofs.GoingOut.{no_reply_wants, no_sync_wants, nothing_before}
use Rattle.crew_grip.proofs.grips.Grip.go_out.Goals as goal

pub append_waiting-requires-clause-held : goal.append_waiting-requires-clause-held
append_waiting-requires-clause-held g c = subst (λ (e : code.Event). IsJustHeld c.args.turns.now (event_meant e) c.args.self.now) c.in-Sync.is c.requires.held

pub append_waiting-requires-clause-allowed : goal.append_waiting-requires-clause-allowed
append_waiting-requires-clause-allowed g c =
    subst (λ (e : code.Event). IsRefusalOn (fixed_of c.args.turns.now.table.shared.key.tables.value) (event_meant e) c.args.self.now.hand 0) c.in-Sync.is c.requires.allowed

pub returns-in-Sync-clause-out : goal.returns-in-Sync-clause-out
returns-in-Sync-clause-out g c =
    subst (λ (e : code.Event). IsOuter (fixed_of c.args.turns.now.table.shared.key.tables.value) (event_meant e) c.args.self.now c.append_waiting.new.self c.append_waiting.result) (sym c.in-Sync.is) c.append_waiting.ensures

pub returns-in-Sync-clause-nothing : goal.returns-in-Sync-clause-nothing
returns-in-Sync-clause-nothing g c wants = absurd (no_sync_wants c.args.e c.in-Sync.l c.in-Sync.is wants)

pub print_line-requires-clause-held : goal.print_line-requires-clause-held
print_line-requires-clause-held g c = subst (λ (e : code.Event). IsJustHeld c.args.turns.now (event_meant e) c.args.self.now) c.in-Reply.is c.requires.held

pub returns-in-Reply-clause-out : goal.returns-in-Reply-clause-out
returns-in-Reply-clause-out g c =
    subst (λ (e : code.Event). IsOuter (fixed_of c.args.turns.now.table.shared.key.tables.value) (event_meant e) c.args.self.now c.print_line.new.self c.print_line.result) (sym c.in-Reply.is) c.print_line.ensures

pub returns-in-Reply-clause-nothing : goal.returns-in-Reply-clause-nothing
returns-in-Reply-clause-nothing g c wants = absurd (no_reply_wants c.args.e c.in-Reply.n c.in-Reply.is wants)

pub returns-in_default-clause-out : goal.returns-in_default-clause-out
returns-in_default-clause-out g c =
    nothing_before (fixed_of c.args.turns.now.table.shared.key.tables.value) c.appends_drive.ensures.nothing c.args.e c.args.self.now c.in_default.not-Sync c.in_default.not-Reply c.requires.sound
