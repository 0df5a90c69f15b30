-- Shares to which a crew has come: what stands beside them, and what they are all parts of.
use Rattle.std.proofs.Common.{◌≡◌, ℕ, ◌+◌, ◌<◌, IsSome, Option, Some, None, List, length, slice_get, refl, sym, ap, subst, ◌∙◌, arith}
use Rattle.std.proofs.lemmas.List.{length-map}
use Rattle.std.proofs.lemmas.Option.{slice_get-get_or}
use Rattle.run_effects.specs.Driven.{AreDriven}
use Rattle.snap_base.proofs.Lists.{one_at, get_mapped}
use Rattle.aml_slice.specs.Controls.{Rest}
use Rattle.snap_hand.specs.core_rows.OnRuns.{HasRun}
use Rattle.crew_ends.specs.Ends.{AreBeside, AreDue, IsSomeEnd, log_at}
use Rattle.crew_ends.specs.Lists.{HaveJournals, HaveOutput, besides_of, parts_of}
use Rattle.crew_ends.proofs.OneOver.{mapped_from}
use Rattle.crew_parts.specs.Crews.{AreFirstShares, HasCome, IsStillDue, JournalIs, OutputIs}
use Rattle.crew_parts.specs.Shares.{BesideState, OutputState, ShareState}
use Rattle.gate_log.specs.State.{LogState, is_log_shut}
use Rattle.protocol.specs.Events.{Event, desk, log}
use Rattle.protocol.specs.Fixed.{Fixed}
use Rattle.protocol.specs.Parts.{Machine}
use Rattle.protocol.specs.Runs.{IsRun, opening, reached}
use Rattle.snap_core.specs.Apart.{ShowSomeRun}
use Rattle.snap_hand.specs.Shown.{Shown, AreAllParts, IsPartOf}

-- ---- parts of a state

pub parts_shown : (w : Fixed Rest) (s : Machine Rest) (xs : List ShareState) → length xs ≡ 4 + w.text.logs + length w.text.opening.states
    → ((i : ℕ) (x : ShareState) → slice_get xs i ≡ Some x → IsPartOf w s i x.part) → AreAllParts w s (parts_of xs)
parts_shown w s xs many each = record {
  all = length-map xs (λ (x : ShareState). x.part) ∙ many;
  each = λ i p at.
      let from = mapped_from (λ (x : ShareState). x.part) xs i p at in
      subst (IsPartOf w s i) from.1.1 (each i from.0 from.1.0);
}

-- each share has the part of its number
pub shares_begin : (w : Fixed Rest) (xs : List ShareState) (ps : List Shown) → parts_of xs ≡ ps → AreAllParts w (opening w) ps
    → (length xs ≡ 4 + w.text.logs + length w.text.opening.states) × ((i : ℕ) (x : ShareState) → slice_get xs i ≡ Some x → IsPartOf w (opening w) i x.part)
shares_begin w xs ps same parts =
    (sym (length-map xs (λ (x : ShareState). x.part)) ∙ (ap length same ∙ parts.all), λ i x at. parts.each i x.part (ap (λ qs. slice_get qs i) (sym same) ∙ at_part i x at)) where
      at_part : (i : ℕ) (x : ShareState) → slice_get xs i ≡ Some x → slice_get (parts_of xs) i ≡ Some x.part
      at_part i x at = one xs i x at where
        one : (ys : List ShareState) (j : ℕ) (y : ShareState) → slice_get ys j ≡ Some y → slice_get (parts_of ys) j ≡ Some y.part
        one ys j y h = get_mapped (λ (z : ShareState). z.part) ys j y h

-- ---- what stands beside them

module _ (w : Fixed Rest) (now : List ShareState) (end : IsSomeEnd w now) where
  pub end_many : length now ≡ 4 + w.text.logs + length w.text.opening.states
  end_many = end.come.many ∙ end.begun.many

  journal_some : (es : List Event) (l : ℕ) (a b : Option LogState) → JournalIs w es l a b → IsSome b
  journal_some es l None b is = absurd is
  journal_some es l (Some a) None is = absurd is
  journal_some es l (Some a) (Some b) is = refl

  output_some : (es : List Event) (a b : Option OutputState) → OutputIs w es a b → IsSome b
  output_some es None b is = absurd is
  output_some es (Some a) None is = absurd is
  output_some es (Some a) (Some b) is = refl

  pub end_journals : HaveJournals w.text.logs (besides_of now)
  end_journals l b within at =
      let from = mapped_from (λ (x : ShareState). x.beside) now (log l) b at in
      let first = one_at end.start (log l) (omega (arith, end.begun.many, within)) in
      subst (λ (c : BesideState). IsSome c.journal) from.1.1
      (journal_some end.events l first.0.beside.journal from.0.beside.journal (end.come.journals l first.0 from.0 within first.1 from.1.0))

  pub end_output : HaveOutput (besides_of now)
  end_output b at =
      let from = mapped_from (λ (x : ShareState). x.beside) now desk b at in
      let first = one_at end.start desk (omega (arith, end.begun.many)) in
      subst (λ (c : BesideState). IsSome c.output) from.1.1
      (output_some end.events first.0.beside.output from.0.beside.output (end.come.output first.0 from.0 first.1 from.1.0))

  pub end_shows : ((es : List Event) → IsRun w es → HasRun w (reached w es)) → ShowSomeRun w (parts_of now)
  end_shows lead = record {
    state = reached w end.events;
    run = lead end.events end.come.run;
    parts = parts_shown w (reached w end.events) now end_many end.come.parts;
  }

-- ---- what it made of the journals and the output

module _ (w : Fixed Rest) (start now : List ShareState) (es : List Event) (old new : List LogState) (before after : OutputState)
    (begun : AreFirstShares w start) (come : HasCome w start es now) (first : AreBeside old before start) (last : AreBeside new after now) where
  pub outputs_goes : OutputIs w es (Some before) (Some after)
  outputs_goes =
      let x = one_at start desk (omega (arith, begun.many)) in
      let y = one_at now desk (omega (arith, begun.many, come.many)) in
      subst (λ o. OutputIs w es o (Some after)) (first.desk x.0 x.1)
      (subst (OutputIs w es x.0.beside.output) (last.desk y.0 y.1) (come.output x.0 y.0 x.1 y.1))

  pub journals_driven : length old ≡ w.text.logs → length new ≡ w.text.logs → AreDriven w es (is_log_shut new) old new
  journals_driven olds news = (
    news ∙ sym olds,
    λ l within.
        let inside : l < w.text.logs = omega (arith, olds, within) in
        let inside_new : l < length new = omega (arith, news, inside) in
        let x = one_at start (log l) (omega (arith, begun.many, inside)) in
        let y = one_at now (log l) (omega (arith, begun.many, come.many, inside)) in
        let was : x.0.beside.journal ≡ Some (log_at old l) = first.logs l x.0 within x.1 ∙ slice_get-get_or old l _ within in
        let is : y.0.beside.journal ≡ Some (log_at new l) = last.logs l y.0 inside_new y.1 ∙ slice_get-get_or new l _ inside_new in
        subst (λ j. JournalIs w es l j (Some (log_at new l))) was (subst (JournalIs w es l x.0.beside.journal) is (come.journals l x.0 y.0 inside x.1 y.1)),
  )

module _ (w : Fixed Rest) (start now : List ShareState) (es : List Event) (new : List LogState) (after : OutputState)
    (begun : AreFirstShares w start) (come : HasCome w start es now) (last : AreBeside new after now) where
  pub still_due : length new ≡ w.text.logs → AreDue w es new
  still_due news l within shut =
      let inside : l < w.text.logs = omega (arith, news, within) in
      let y = one_at now (log l) (omega (arith, begun.many, come.many, inside)) in
      let is : y.0.beside.journal ≡ Some (log_at new l) = last.logs l y.0 within y.1 ∙ slice_get-get_or new l _ within in
      subst (IsStillDue w (reached w es) l) is (come.due l y.0 inside y.1) shut
