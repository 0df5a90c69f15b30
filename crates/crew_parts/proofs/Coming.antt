-- A crew's acts one after the other: where they come to.
use Rattle.std.proofs.Common.{◌≡◌, ℕ, if◌then◌else◌, Bool, true, false, inl, inr, Option, None, Some, List, [], ◌∷◌, ◌++◌, slice_get, refl, sym, ap, subst, ◌∙◌, arith, append_assoc, append-nil}
use Rattle.aml_slice.specs.Controls.{Rest}
use Rattle.crew_parts.specs.Acts.{Happens, behind, meant, groups_by}
use Rattle.crew_parts.specs.Crews.{AreFirstShares, HasCome, JournalIs, IsReady, IsFresh, OutputIs, PrintedOrBrokeOff, added, kept}
use Rattle.crew_parts.specs.LawsOfRuns.{LawsOfRuns, VerdictsGoOn}
use Rattle.crew_parts.specs.Shares.{OutputState, ShareState}
use Rattle.crew_parts.specs.declared.acts.Act.{Act}
use Rattle.gate_log.specs.State.{LogState}
use Rattle.protocol.specs.Conditions.{IsAllowed}
use Rattle.protocol.specs.Effects.{after}
use Rattle.protocol.specs.Events.{Event, desk, log, part, footprint}
use Rattle.protocol.specs.Fixed.{Fixed}
use Rattle.protocol.specs.Footprints.{HasLogs}
use Rattle.protocol.specs.Parts.{Machine}
use Rattle.protocol.specs.Runs.{EachAllowed, IsRun, opening, reached, state_after}
use Rattle.protocol.specs.Words.{is_among}
use Rattle.run_effects.specs.Groups.{group_behind, waiting}
use Rattle.snap_hand.specs.Shown.{IsPartOf}
use Rattle.run_effects.specs.Driven.{IsDriven}
use Rattle.std.proofs.KnownBytes.{Appends-nil}
use Rattle.snap_outside.proofs.AtFault.{no_call}
use Rattle.turn_table.specs.Places.{values, replaced}
use Rattle.turn_table.specs.Runs.{May, Run}
use Rattle.crew_parts.proofs.Replacing.{as_long, replaced_tells, covered_are_shown, goes_as_many, came_from}
use Rattle.crew_parts.proofs.PartsStay.{desk_is, log_stays, part_stays, same_log_at}
use Rattle.crew_parts.proofs.Outsides.{due_goes, due_none, due_stays, journal_goes, journal_stays, no_group, no_line, output_goes, output_stays}
use Rattle.run_effects.proofs.Driving.{driven_same}

one_more : (w : Fixed Rest) (es : List Event) (e : Event) (s : Machine Rest) → EachAllowed w es s → IsAllowed w e (state_after w es s) → EachAllowed w (es ++ e ∷ []) s
one_more w [] e s run ok = (ok, tt)
one_more w (d ∷ es) e s run ok = (run.0, one_more w es e (after w d s) run.1 ok)

pub behind_one : (w : Fixed Rest) (es : List Event) (e : Event) (s : Machine Rest) → state_after w (es ++ e ∷ []) s ≡ after w e (state_after w es s)
behind_one w [] e s = refl
behind_one w (d ∷ es) e s = behind_one w es e (after w d s)

module _ (w : Fixed Rest) (laws : LawsOfRuns w) where
  run_goes : (done : Bool) (es : List Event) (e : Event) → IsRun w es → IsAllowed w e (reached w es) → IsRun w (es ++ added done e)
  run_goes true es e run ok = one_more w es e (opening w) run ok
  run_goes false es e run ok = subst (IsRun w) (sym (append-nil es)) run

  state_is : (done : Bool) (es : List Event) (e : Event) → reached w (es ++ added done e) ≡ behind w done e (reached w es)
  state_is true es e = behind_one w es e (opening w)
  state_is false es e = ap (reached w) (append-nil es)

  tells_on : (done : Bool) (es : List Event) (e : Event) → IsRun w (es ++ added done e) → VerdictsGoOn w es (es ++ added done e)
  tells_on done es e run = laws.stay (es ++ added done e) run es (added done e) refl

  -- what it does not touch stays
  stays : (done : Bool) (e : Event) (s : Machine Rest) (i : ℕ) → HasLogs w s → is_among i (footprint w.text.logs e) ≡ false → part (behind w done e s) i ≡ part s i
  stays true e s i has none = laws.leaves e s has i none
  stays false e s i has none = refl

  no_groups : (done : Bool) (l : ℕ) (e : Event) (s : Machine Rest) → is_among (log l) (footprint w.text.logs e) ≡ false → groups_by l done e s ≡ []
  no_groups true l e s none = no_group w.text.logs l e s none
  no_groups false l e s none = refl

  module _ (start : List ShareState) where
    pub one_act : (a : Act) (es : List Event) (xs made : List ShareState) → HasCome w start es xs
        → May (λ b. footprint w.text.logs (meant b)) (Happens w) (slice_get xs) a made
        → HasCome w start (es ++ added a.done (meant a)) (replaced xs (footprint w.text.logs (meant a)) made)
    one_act a es xs made come may =
        let done = a.done in
        let e = meant a in
        let is = footprint w.text.logs e in
        let s = reached w es in
        let new = es ++ added done e in
        let ok = may.1.goes s (laws.lead es come.run) (covered_are_shown w s (slice_get xs) is come.parts may.0) in
        let run = run_goes done es e come.run ok.0 in
        let state : reached w new ≡ behind w done e s = state_is done es e in
        let tells = λ (i : ℕ) (y : ShareState). replaced_tells xs is made i y (goes_as_many w s done e is (values (slice_get xs) is) made ok.1) in
        let from = λ (i : ℕ) (y : ShareState). came_from w s done e (slice_get xs) is made i y may.0 ok.1 in
        let same : (i : ℕ) → is_among i is ≡ false → part (reached w new) i ≡ part s i = λ i none. subst (λ t. part t i ≡ part s i) (sym state) (stays done e s i (laws.runs.logs es come.run) none) in
        record {
          run = run;
          many = as_long xs is made ∙ come.many;
          parts = λ i y at. elim (tells i y at) [
            | inl to ↦ (let old = from i y to in subst (λ t. IsPartOf w t i y.part) (sym state) old.2.part)
            | inr here ↦ part_stays w s (reached w new) (laws.runs.logs es come.run) (laws.runs.logs new run) i y.part (same i here.1) (come.parts i y here.0)
          ];
          journals = λ l x y within at now. elim (tells (log l) y now) [
            | inl to ↦ (let old = from (log l) y to in
                journal_goes w laws.runs.grow es e done l x.beside.journal old.0.beside.journal y.beside.journal (come.journals l x old.0 within at old.1) (old.2.journal l within refl))
            | inr here ↦ journal_stays w laws.runs.grow es e done l x.beside.journal y.beside.journal (no_groups done l e s here.1)
                (ap waiting (sym (same_log_at w s (reached w new) (laws.runs.logs es come.run) (laws.runs.logs new run) l within (same (log l) here.1))))
                (come.journals l x y within at here.0)
          ];
          due = λ l y within now. elim (tells (log l) y now) [
            | inl to ↦ (let old = from (log l) y to in due_goes w l done e s (reached w new) old.0.beside.journal y.beside.journal state ok.0 (old.2.journal l within refl))
            | inr here ↦ due_stays w l s (reached w new) y.beside.journal
                (log_stays s (reached w new) l (omega (arith, within, laws.runs.logs es come.run)) (omega (arith, within, laws.runs.logs new run)) (same (log l) here.1))
                (come.due l y within here.0)
          ];
          output = λ x y at now. elim (tells desk y now) [
            | inl to ↦ (let old = from desk y to in
                output_goes w es e (laws.runs.replies es come.run) ok.0 done x.beside.output old.0.beside.output y.beside.output (come.output x old.0 at old.1) (old.2.output refl))
            | inr here ↦ output_stays w es e (laws.runs.replies es come.run) ok.0 done (desk_is s (reached w new) (sym (same desk here.1))) (tells_on done es e run) (no_line w es w.text.logs e here.1)
                x.beside.output y.beside.output (come.output x y at here.0)
          ];
        }

    pub acts_come : (acts : List Act) (es : List Event) (xs ys : List ShareState) → HasCome w start es xs
        → Run (λ b. footprint w.text.logs (meant b)) (Happens w) xs acts ys → HasCome w start (es ++ kept acts) ys
    acts_come [] es xs ys come run = subst (λ ds. HasCome w start ds ys) (sym (append-nil es)) (subst (HasCome w start es) run come)
    acts_come (a ∷ more) es xs ys come run =
        subst (λ ds. HasCome w start ds ys) (append_assoc es (added a.done (meant a)) (kept more))
        (acts_come more (es ++ added a.done (meant a)) (replaced xs (footprint w.text.logs (meant a)) run.0) ys (one_act a es xs run.0 come run.1) run.2)

    journal_begins : (l : ℕ) (j : Option LogState) → IsReady j → JournalIs w [] l j j
    journal_begins l j ready = subst (λ o. JournalIs w [] l o o) (sym ready.is)
        (subst (IsDriven ready.journal ready.journal []) (sym (ap (λ b. if b then Some (group_behind w l []) else None) ready.ready)) (driven_same ready.journal ready.ready))

    output_begins : (o : Option OutputState) → IsFresh o → OutputIs w [] o o
    output_begins o fresh = subst (λ p. OutputIs w [] p p) (sym fresh.is)
        (omega arith, subst (λ b. PrintedOrBrokeOff b w [] fresh.output fresh.output) (sym fresh.ready) (Appends-nil fresh.output.taken), no_call _ _ _)

    pub begins : AreFirstShares w start → HasCome w start [] start
    begins b = record {
      run = tt;
      many = refl;
      parts = b.parts;
      journals = λ l x y within at now. subst (λ z. JournalIs w [] l x.beside.journal z.beside.journal) (some_same x y (sym at ∙ now)) (journal_begins l x.beside.journal (b.journals l x within at));
      due = λ l y within now. due_none w l (reached w []) y.beside.journal (b.journals l y within now);
      output = λ x y at now. subst (λ z. OutputIs w [] x.beside.output z.beside.output) (some_same x y (sym at ∙ now)) (output_begins x.beside.output (b.output x at));
    } where
      some_same : (x y : ShareState) → Some x ≡ Some y → x ≡ y
      some_same x y e = cc e
