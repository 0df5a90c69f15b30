use Rattle.std.proofs.Common.{◌≡◌, ◌<◌, ◌∙◌, ℕ, Err, List, Option, Some, ap, length, subst, sym, arith}
use Rattle.std.specs.Prelude.{slice_set}
use Rattle.protocol.specs.Events.{Sync, log}
use Rattle.crew_parts.specs.run_effects.RunsOf.{RunsOf}
use Rattle.turn_table.specs.Places.{at}
use Rattle.snap_hand.specs.Hands.{Parts, Fits, Has}
use Rattle.snap_hand.specs.Tables.{fixed_of}
use Rattle.crew_grip.specs.Acted.{IsOuter}
use Rattle.crew_grip.specs.Grips.{GripState}
use Rattle.crew_grip.specs.declared.results.NotDone.{NotDone}
use Rattle.crew_grip.proofs.GoingOut.{Drives, appended_out, log_held, may_append_to, not_appended, sync_within}
use Rattle.crew_grip.proofs.HandsHold.{has_held}
use Rattle.crew_parts.specs.Shares.{BesideState}
use Rattle.crew_grip.proofs.grips.Grip.append_waiting.Goals.{in-Ok, in-Err}
use Rattle.crew_grip.proofs.grips.Grip.append_waiting.Goals as goal

pub group-pieces-requires-clause-exists : goal.group-pieces-requires-clause-exists
group-pieces-requires-clause-exists g c =
    let w = fixed_of c.args.turns.now.table.shared.key.tables.value in
    let start = c.args.turns.now.table.shared.key.parts.value.items in
    let now = c.requires.held in
    let runs = subst (λ u. RunsOf (fixed_of u)) c.tables.ensures c.runs_of.ensures in
    let within : c.args.l < w.text.logs = sync_within w c.args.l start now.held c.args.self.now runs (λ s. (c.allowed_or_refused.ensures w (Sync c.args.l) s).0) now.stands now.grip c.requires.allowed in
    omega (arith, within, now.grip.places.logs, ap (λ (g : GripState). length g.hand.logs) c.self.view_is)

pub group-pieces-requires-clause-log : goal.group-pieces-requires-clause-log
group-pieces-requires-clause-log g c =
    let w = fixed_of c.args.turns.now.table.shared.key.tables.value in
    let now = c.requires.held in
    subst (λ (h : Parts). Has h (log c.args.l)) (sym (ap (λ (g : GripState). g.hand) c.self.view_is))
    (has_held w now.held c.args.self.now (log c.args.l) c.places_are_set.ensures.told now.grip now.just.all.0)

pub append_at-requires : goal.append_at-requires
append_at-requires g c =
    let w = fixed_of c.args.turns.now.table.shared.key.tables.value in
    let start = c.args.turns.now.table.shared.key.parts.value.items in
    let now = c.requires.held in
    let runs = subst (λ u. RunsOf (fixed_of u)) c.tables.ensures c.runs_of.ensures in
    let within : c.args.l < w.text.logs = sync_within w c.args.l start now.held c.args.self.now runs (λ s. (c.allowed_or_refused.ensures w (Sync c.args.l) s).0) now.stands now.grip c.requires.allowed in
    let laws : Drives = record { same = c.appends_drive.ensures.nothing; group = c.appends_drive.ensures.group; fault = c.appends_drive.ensures.fault; pieces = c.appends_drive.ensures.pieces } in
    let x = log_held w now.held c.args.self.now (log c.args.l) _ now.grip now.just in (
      x.0.beside,
      (
        subst (λ (p : ℕ). at c.self.inside.besides.items p ≡ Some x.0.beside) (sym c.part_of_log.ensures) (ap (λ (g : GripState). at g.besides (log c.args.l)) c.self.view_is ∙ x.1.1),
        may_append_to w laws runs start now.held c.args.self.now c.args.l within c.requires.crew.begins now.stands now.grip now.just c.requires.sound c.group-pieces.result.now
            (λ s fits. c.group-pieces.ensures s (subst (λ (g : GripState). Fits g.hand s) (sym c.self.view_is) fits)) x.0 x.1.0 x.1.1,
      ),
    )

made_by : (v g : GripState) (bs : List (Option BesideState)) (part l : ℕ) (y : BesideState) → v ≡ g → part ≡ log l → bs ≡ slice_set v.besides part (Some y)
    → record { hand = v.hand; besides = bs } ≡ record g { besides = slice_set g.besides (log l) (Some y) }
made_by v g bs part l y same place is =
    ap (λ cs. record { hand = v.hand; besides = cs }) is
    ∙ (ap (λ p. record { hand = v.hand; besides = slice_set v.besides p (Some y) }) place ∙ ap (λ (z : GripState). record { hand = z.hand; besides = slice_set z.besides (log l) (Some y) }) same)

pub returns : goal.returns
returns g c =
    let w = fixed_of c.args.turns.now.table.shared.key.tables.value in
    let start = c.args.turns.now.table.shared.key.parts.value.items in
    let now = c.requires.held in
    let old = c.args.self.now in
    let view : GripState = record { hand = c.self.inside.hand; besides = c.self.inside.besides.items } in
    let new : GripState = record { hand = c.self.inside.hand; besides = c.append_at.new.besides.items } in
    let runs = subst (λ u. RunsOf (fixed_of u)) c.tables.ensures c.runs_of.ensures in
    let within : c.args.l < w.text.logs = sync_within w c.args.l start now.held old runs (λ s. (c.allowed_or_refused.ensures w (Sync c.args.l) s).0) now.stands now.grip c.requires.allowed in
    let laws : Drives = record { same = c.appends_drive.ensures.nothing; group = c.appends_drive.ensures.group; fault = c.appends_drive.ensures.fault; pieces = c.appends_drive.ensures.pieces } in
    let x = log_held w now.held old (log c.args.l) _ now.grip now.just in
    let here = subst (λ (p : ℕ). at c.self.inside.besides.items p ≡ Some x.0.beside) (sym c.part_of_log.ensures) (ap (λ (g : GripState). at g.besides (log c.args.l)) c.self.view_is ∙ x.1.1) in
    elim c.match-append_at.branch [
      | in-Ok v ↦ (let b = v.in-Ok.ensures x.0.beside here in
          subst (λ r. IsOuter w (Sync c.args.l) old new r) (sym v.result-is)
          (appended_out w laws runs start now.held old c.args.l within c.requires.crew.begins now.stands now.grip now.just c.requires.sound c.group-pieces.result.now
          (λ s fits. c.group-pieces.ensures s (subst (λ (g : GripState). Fits g.hand s) (sym c.self.view_is) fits)) x.0 b.0 new x.1.0 x.1.1 b.1.0
          (made_by view old c.append_at.new.besides.items c.part_of_log.result c.args.l b.0 c.self.view_is c.part_of_log.ensures b.1.1)))
      | in-Err v ↦ (let b = v.in-Err.ensures x.0.beside here in
          subst (λ r. IsOuter w (Sync c.args.l) old new r) (sym (v.result-is ∙ ap (λ (y : NotDone). Err y) v.why_of.ensures))
          (not_appended w laws runs start now.held old c.args.l within c.requires.crew.begins now.stands now.grip now.just c.requires.sound c.group-pieces.result.now
          (λ s fits. c.group-pieces.ensures s (subst (λ (g : GripState). Fits g.hand s) (sym c.self.view_is) fits)) v.in-Err.no x.0 b.0 new x.1.0 x.1.1 b.1.0
          (made_by view old c.append_at.new.besides.items c.part_of_log.result c.args.l b.0 c.self.view_is c.part_of_log.ensures b.1.1)))
    ]
