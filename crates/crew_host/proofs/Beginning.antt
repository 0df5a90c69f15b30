-- A crew that did nothing.
use Rattle.std.proofs.Common.{◌≡◌, zero, suc, Bool, false, if◌then◌else◌, None, Some, List, [], ◌∷◌, refl, sym, subst, ◌∙◌, arith}
use Rattle.std.proofs.lemmas.Bool.{true≢false}
use Rattle.std.proofs.KnownBytes.{Appends-nil}
use Rattle.std.specs.List.{AllByRecursion}
use Rattle.aml_slice.specs.Controls.{Rest}
use Rattle.crew_ends.specs.Ends.{AreDue, log_at}
use Rattle.crew_parts.specs.Crews.{OutputIs, PrintedOrBrokeOff}
use Rattle.crew_parts.specs.Shares.{OutputState}
use Rattle.snap_outside.proofs.AtFault.{no_call}
use Rattle.gate_log.specs.State.{LogState, AreAllOpen, is_log_shut}
use Rattle.protocol.specs.Fixed.{Fixed}
use Rattle.run_effects.specs.Driven.{IsDriven, AreDriven}
use Rattle.run_effects.specs.Groups.{group_behind}

pub are_open : (logs : List LogState) → AllByRecursion (λ (l : LogState). l.shut ≡ false) logs → AreAllOpen logs
are_open [] all l lt = absurd (omega (arith, lt))
are_open (x ∷ logs) all zero lt = all.0
are_open (x ∷ logs) all (suc l) lt = are_open logs all.1 l (omega (arith, lt))

abbrev pub NothingDrives : Type 0
NothingDrives = (a : LogState) → a.shut ≡ false → IsDriven a a [] None

pub nothing_driven : NothingDrives → (w : Fixed Rest) (logs : List LogState) → AreAllOpen logs → AreDriven w [] (is_log_shut logs) logs logs
nothing_driven law w logs ready =
    (refl, λ l lt. subst (λ (t : Bool). IsDriven (log_at logs l) (log_at logs l) [] (if t then Some (group_behind w l []) else None)) (sym (ready l lt)) (law (log_at logs l) (ready l lt)))

pub nothing_due : (w : Fixed Rest) (logs : List LogState) → AreAllOpen logs → AreDue w [] logs
nothing_due w logs ready l lt shut = absurd (true≢false (sym shut ∙ ready l lt))

pub nothing_printed : (w : Fixed Rest) (out : OutputState) → out.failed ≡ false → OutputIs w [] (Some out) (Some out)
nothing_printed w out fresh = (omega arith, subst (λ (b : Bool). PrintedOrBrokeOff b w [] out out) (sym fresh) (Appends-nil out.taken), no_call _ _ _)
