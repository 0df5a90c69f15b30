use Rattle.snap_hand.specs.Tables.{fixed_of, text_of}
use Rattle.crew_parts.proofs.laws.laws_of_runs.Goals as goal

pub returns : goal.returns
returns c = record {
  lead = c.runs_lead.ensures;
  runs = c.runs_of.ensures;
  leaves = c.events_leave_other_parts.ensures (fixed_of c.args.tables.now);
  stay = λ es run. (c.verdicts_have_evidence.ensures (text_of c.args.tables.now) es c.requires run).stay;
}
