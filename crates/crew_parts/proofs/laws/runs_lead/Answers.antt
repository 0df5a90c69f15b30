use Rattle.std.proofs.Common.{refl}
use Rattle.aml_slice.specs.aml_check.Checked.{methods_of}
use Rattle.machine_laws.specs.Programs.{finish_of}
use Rattle.snap_hand.specs.Tables.{text_of}
use Rattle.crew_parts.proofs.laws.runs_lead.Goals as goal

pub returns : goal.returns
returns c es run = record {
  finish = finish_of (methods_of c.args.tables.now.work.program) (text_of c.args.tables.now);
  facts = c.texts_have_the_facts.ensures (text_of c.args.tables.now) c.requires;
  text = c.requires.accepted;
  events = es;
  run = run;
  is_reached = refl;
}
