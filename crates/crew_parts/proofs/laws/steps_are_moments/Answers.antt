use Rattle.crew_parts.proofs.laws.steps_are_moments.Goals as goal

pub returns : goal.returns
returns g c start s begins kept =
    record {
      acts = kept.history;
      now = kept.parts;
      come = c.acts_are_runs.ensures start kept.history kept.parts begins kept.run;
      free = kept.free;
      held = λ i j v x there here. ((kept.each j v there).held i x here).1;
      alone = λ i j l within here there. c.one_view_holds_it.ensures start s i j l kept within here there;
    }
