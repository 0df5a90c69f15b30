use Rattle.std.proofs.Common.{List, [], refl, sym, subst}
use Rattle.crew_parts.specs.Crews.{HasCome, kept}
use Rattle.crew_parts.specs.Shares.{ShareState}
use Rattle.crew_parts.specs.declared.acts.Act.{Act}
use Rattle.snap_hand.specs.Tables.{fixed_of}
use Rattle.crew_host.proofs.drives.run_or_stay.Goals as goal

pub returns-in-Err-clause-come : goal.returns-in-Err-clause-come
returns-in-Err-clause-come g c =
    let m = fixed_of c.args.tables in
    let start = c.args.shares.items in
    let nothing : HasCome m start [] start = c.acts_are_runs.ensures start [] start c.requires.begins refl in
    subst (λ (acts : List Act). HasCome m start (kept acts) c.in-Err.shares.items) (sym c.new.ensures.items)
    (subst (λ (now : List ShareState). HasCome m start [] now) (sym c.in-Err.ensures.err.1) nothing)
