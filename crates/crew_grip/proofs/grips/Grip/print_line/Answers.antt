use Rattle.std.proofs.Common.{◌≡◌, ◌∙◌, ap, refl, subst, sym}
use Rattle.aml_slice.specs.Controls.{Rest}
use Rattle.protocol.specs.Events.{book, desk}
use Rattle.protocol.specs.Parts.{Machine}
use Rattle.crew_parts.specs.run_effects.Lines.{line_in, verdict_line}
use Rattle.crew_grip.specs.Grips.{GripState}
use Rattle.snap_hand.specs.Hands.{Fits, Has}
use Rattle.snap_hand.specs.Tables.{fixed_of}
use Rattle.crew_grip.proofs.GoingOut.{desk_held, line_is, no_line_before, not_written, written_out}
use Rattle.crew_grip.proofs.HandsHold.{has_held}
use Rattle.crew_grip.proofs.grips.Grip.print_line.Goals as goal

pub verdict-requires-clause-book : goal.verdict-requires-clause-book
verdict-requires-clause-book g c =
    let now = c.requires.held in
    subst (λ (g : GripState). Has g.hand book) (sym c.self.view_is)
    (has_held (fixed_of c.args.turns.now.table.shared.key.tables.value) now.held c.args.self.now book c.places_are_set.ensures.told now.grip now.just.all.0)

pub verdict-requires-clause-desk : goal.verdict-requires-clause-desk
verdict-requires-clause-desk g c =
    let now = c.requires.held in
    subst (λ (g : GripState). Has g.hand desk) (sym c.self.view_is)
    (has_held (fixed_of c.args.turns.now.table.shared.key.tables.value) now.held c.args.self.now desk c.places_are_set.ensures.told now.grip now.just.all.1.0)

pub returns-in_default : goal.returns-in_default
returns-in_default g c =
    no_line_before (fixed_of c.args.turns.now.table.shared.key.tables.value) c.appends_drive.ensures.nothing c.args.n.0 c.args.self.now c.requires.sound (λ s fits. ap (verdict_line c.args.n.0) (sym (c.in_default.ensures s (subst (λ (g : GripState). Fits g.hand s) (sym c.self.view_is) fits))))

pub write_at-requires : goal.write_at-requires
write_at-requires g c =
    let now = c.requires.held in
    let x = desk_held (fixed_of c.args.turns.now.table.shared.key.tables.value) now.held c.args.self.now now.grip now.just in (
      x.0.beside,
      (x.1.1, (c.requires.sound desk x.0.beside x.1.1).output refl),
    )

pub returns-in-Ok-write_at : goal.returns-in-Ok-write_at
returns-in-Ok-write_at g c =
    let w = fixed_of c.args.turns.now.table.shared.key.tables.value in
    let now = c.requires.held in
    let x = desk_held w now.held c.args.self.now now.grip now.just in
    let b = c.in-Ok-write_at.ensures x.0.beside x.1.1 in
    let line : (s : Machine Rest) → Fits c.args.self.now.hand s → c.as_bytes.result.now ≡ line_in s c.args.n.0 =
    line_is w now.held c.args.self.now c.args.n.0 now.grip now.just c.requires.sound c.in-Some.verdict c.as_bytes.result.now (c.as_bytes.ensures.value ∙ c.in-Ok.ensures) (λ s fits. c.in-Some.ensures s (subst (λ (g : GripState). Fits g.hand s) (sym c.self.view_is) fits)) in
    written_out w now.held c.args.self.now c.args.n.0 now.grip now.just c.requires.sound c.as_bytes.result.now line x.0.beside b.0 c.write_at.new.self x.1.1 b.1.0 b.1.1

pub returns : goal.returns
returns g c =
    let w = fixed_of c.args.turns.now.table.shared.key.tables.value in
    let now = c.requires.held in
    let x = desk_held w now.held c.args.self.now now.grip now.just in
    let b = c.in-Err.ensures x.0.beside x.1.1 in
    let line : (s : Machine Rest) → Fits c.args.self.now.hand s → c.as_bytes.result.now ≡ line_in s c.args.n.0 =
    line_is w now.held c.args.self.now c.args.n.0 now.grip now.just c.requires.sound c.in-Some.verdict c.as_bytes.result.now (c.as_bytes.ensures.value ∙ c.in-Ok.ensures) (λ s fits. c.in-Some.ensures s (subst (λ (g : GripState). Fits g.hand s) (sym c.self.view_is) fits)) in
    not_written w now.held c.args.self.now c.args.n.0 now.grip now.just c.requires.sound c.as_bytes.result.now line x.0.beside b.0 c.write_at.new.self c.in-Err.field-0 x.1.1 b.1.0 b.1.1
