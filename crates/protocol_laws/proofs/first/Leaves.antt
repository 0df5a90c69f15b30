-- An event leaves every part outside its footprint.
use Rattle.std.specs.Prelude.{◌≡◌, refl, ℕ, zero, suc, ◌+◌, ◌-◌, ◌<◌, ◌≤◌, false, option_map, List, length}
use Rattle.std.proofs.Common.{arith, sym, ap, subst, mod-lt, inl, inr, ◌∙◌}
use Rattle.std.proofs.lemmas.List.{length-replicate}
use Rattle.std.proofs.lemmas.Bool.{cases_lt}
use Rattle.protocol.specs.Fixed.{Fixed, IsText}
use Rattle.protocol.specs.Parts.{Machine}
use Rattle.protocol.specs.Events.{Event, Submit, Pass, Form, Admit, Arrive, Ask, Take, Run, Send, End, Close, Complete, Sync, Note, Commit, Settle, Abort, Rollback, DropSub, DropControl, Prepare, Vouch, Decide, Seal, Finish, Reply, Trim, LogPart, CellPart, part, footprint}
use Rattle.protocol.specs.Words.{is_among}
use Rattle.protocol.specs.Effects.{after, no_log}
use Rattle.protocol.specs.Runs.{opening, IsRun, reached}
use Rattle.protocol.specs.Footprints.{HasLogs, LeavesOthers, AscendsFrom}
use Rattle.protocol_laws.proofs.first.Along.{along}
use Rattle.protocol_laws.proofs.first.PartsByNumber.{part_log, part_cell}
use Rattle.protocol_laws.proofs.first.OutsideFootprint.{SameOutside, outside}

-- ---- part by part

by_number : {C : Type 0} (logs : ℕ) (fp : List ℕ) (s t : Machine C) → length s.logs ≡ logs → SameOutside logs fp s t → (i : ℕ) → is_among i fp ≡ false → part t i ≡ part s i
by_number logs fp s t e h zero q = rw (h.ring q) refl
by_number logs fp s t e h (suc zero) q = rw (h.book q) refl
by_number logs fp s t e h (suc (suc zero)) q = rw (h.post q) refl
by_number logs fp s t e h (suc (suc (suc zero))) q = rw (h.desk q) refl
by_number logs fp s t e h (suc (suc (suc (suc i)))) q = elim (cases_lt i logs) [ inl a ↦ in_logs a | inr b ↦ in_cells b ]
  where
    in_logs : i < logs → part t (suc (suc (suc (suc i)))) ≡ part s (suc (suc (suc (suc i))))
    in_logs a =
        let n : suc (suc (suc (suc i))) ≡ 4 + i = omega arith in
        let q' : is_among (4 + i) fp ≡ false = subst (λ z. is_among z fp ≡ false) n q in
        subst (λ z. part t z ≡ part s z) (sym n) (part_log t i (omega (arith, a, e, h.logs_length)) ∙ (ap (option_map LogPart) (h.log i q') ∙ sym (part_log s i (omega (arith, a, e)))))

    in_cells : logs ≤ i → part t (suc (suc (suc (suc i)))) ≡ part s (suc (suc (suc (suc i))))
    in_cells b =
        let n : suc (suc (suc (suc i))) ≡ 4 + logs + (i - logs) = omega (arith, b) in
        let q' : is_among (4 + logs + (i - logs)) fp ≡ false = subst (λ z. is_among z fp ≡ false) n q in
        subst (λ z. part t z ≡ part s z) (sym n) (part_cell t logs (i - logs) (h.logs_length ∙ e) ∙ (ap (option_map CellPart) (h.cell (i - logs) q') ∙ sym (part_cell s logs (i - logs) e)))

pub leaves_others : {C : Type 0} (w : Fixed C) (e : Event) (s : Machine C) → HasLogs w s → LeavesOthers w e s
leaves_others w e s h = by_number w.text.logs (footprint w.text.logs e) s (after w e s) h (outside w e s)

-- as many logs as before
pub logs_stay : {C : Type 0} (w : Fixed C) (e : Event) (s : Machine C) → HasLogs w s → HasLogs w (after w e s)
logs_stay w e s h = (outside w e s).logs_length ∙ h

pub has_logs : {C : Type 0} (w : Fixed C) (es : List Event) → IsText w.text → IsRun w es → HasLogs w (reached w es)
has_logs w es text run = along w (HasLogs w) (λ e s ok h. logs_stay w e s h) es (opening w) run (length-replicate w.text.logs no_log)

-- ---- the numbers

pub four_at_most : (logs : ℕ) (e : Event) → length (footprint logs e) ≤ 4
four_at_most logs (Submit n) = omega arith
four_at_most logs (Pass c) = omega arith
four_at_most logs (Form k) = omega arith
four_at_most logs (Admit t) = omega arith
four_at_most logs (Arrive k a) = omega arith
four_at_most logs (Ask t a) = omega arith
four_at_most logs (Take t a) = omega arith
four_at_most logs (Run t a) = omega arith
four_at_most logs (Send t a) = omega arith
four_at_most logs (End t a) = omega arith
four_at_most logs (Close t a) = omega arith
four_at_most logs (Complete k a) = omega arith
four_at_most logs (Sync l) = omega arith
four_at_most logs (Note k a) = omega arith
four_at_most logs (Commit k) = omega arith
four_at_most logs (Settle k) = omega arith
four_at_most logs (Abort k) = omega arith
four_at_most logs (Rollback a) = omega arith
four_at_most logs (DropSub k a) = omega arith
four_at_most logs (DropControl t) = omega arith
four_at_most logs (Prepare t a) = omega arith
four_at_most logs (Vouch t a) = omega arith
four_at_most logs (Decide t) = omega arith
four_at_most logs (Seal t) = omega arith
four_at_most logs (Finish t a) = omega arith
four_at_most logs (Reply n) = omega arith
four_at_most logs (Trim k a) = omega arith

pub ascends : (logs : ℕ) → 1 ≤ logs → (e : Event) → AscendsFrom 0 (footprint logs e)
ascends logs h (Submit n) = (omega arith, tt)
ascends logs h (Pass c) = (omega arith, tt)
ascends logs h (Form k) = (omega arith, (omega arith, (omega arith, (omega (arith, mod-lt k h), tt))))
ascends logs h (Admit t) = (omega arith, (omega arith, (omega arith, tt)))
ascends logs h (Arrive k a) = (omega arith, (omega arith, (omega arith, tt)))
ascends logs h (Ask t a) = (omega arith, (omega arith, (omega arith, tt)))
ascends logs h (Take t a) = (omega arith, (omega arith, tt))
ascends logs h (Run t a) = (omega arith, tt)
ascends logs h (Send t a) = (omega arith, (omega arith, tt))
ascends logs h (End t a) = (omega arith, (omega arith, (omega arith, tt)))
ascends logs h (Close t a) = (omega arith, (omega arith, tt))
ascends logs h (Complete k a) = (omega (arith, mod-lt a h), (omega (arith, mod-lt a h), tt))
ascends logs h (Sync l) = (omega arith, tt)
ascends logs h (Note k a) = (omega arith, (omega (arith, mod-lt a h), tt))
ascends logs h (Commit k) = (omega arith, (omega (arith, mod-lt k h), tt))
ascends logs h (Settle k) = (omega arith, (omega (arith, mod-lt k h), tt))
ascends logs h (Abort k) = (omega arith, (omega arith, (omega arith, tt)))
ascends logs h (Rollback a) = (omega arith, (omega arith, tt))
ascends logs h (DropSub k a) = (omega arith, (omega arith, tt))
ascends logs h (DropControl t) = (omega arith, (omega arith, tt))
ascends logs h (Prepare t a) = (omega arith, (omega (arith, mod-lt a h), (omega (arith, mod-lt a h), tt)))
ascends logs h (Vouch t a) = (omega arith, (omega (arith, mod-lt a h), tt))
ascends logs h (Decide t) = (omega arith, (omega arith, (omega (arith, mod-lt t h), tt)))
ascends logs h (Seal t) = (omega arith, (omega (arith, mod-lt t h), tt))
ascends logs h (Finish t a) = (omega arith, (omega arith, tt))
ascends logs h (Reply n) = (omega arith, (omega arith, tt))
ascends logs h (Trim k a) = (omega arith, (omega arith, tt))
