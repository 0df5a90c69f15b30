use Rattle.std.proofs.Common.{◌≡◌, ◌∙◌, [], None, Some, refl, sym}
use Rattle.crew_parts.specs.Crews.{kept}
use Rattle.crew_parts.proofs.laws.passes_stand.Goals as goal

pub returns-clause-knows : goal.returns-clause-knows
returns-clause-knows c start held entries begins fits =
    let come = c.acts_are_runs.ensures start fits.0 fits.1 begins fits.2 in
    record {
      events = kept fits.0;
      now = fits.1;
      come = come;
      lead = c.runs_lead.ensures (kept fits.0) come.run;
      held = fits.3;
    }

pub returns-clause-idle : goal.returns-clause-idle
returns-clause-idle c start held begins idle =
    let come = c.acts_are_runs.ensures start [] start begins refl in
    record {
      events = [];
      now = start;
      come = come;
      lead = c.runs_lead.ensures [] come.run;
      held = λ i x e. nothing x (sym (idle i) ∙ e);
    } where
      nothing : {X : Type 0} {Y : Type 0} (x : X) → None ≡ Some x → Y
      nothing x e = absurd (cc e)
