use Rattle.std.proofs.Common.{refl, []}
use Rattle.aml_check.specs.Checked.{methods_of}
use Rattle.machine_laws.specs.Programs.{finish_of}
use Rattle.protocol.specs.Runs.{opening}
use Rattle.snap_hand.specs.Tables.{fixed_of, text_of}
use Rattle.footprint_rows.proofs.steps.FootprintCore.open.Goals as goal

pub invariant_of-result : goal.invariant_of-result
invariant_of-result c = record {
  tables = c.requires;
  places = c.in_ok-hand.ensures.places;
  some = record {
    state = opening (fixed_of c.args.tables);
    run = record {
      finish = finish_of (methods_of c.args.tables.work.program) (text_of c.args.tables);
      facts = c.texts_have_the_facts.ensures (text_of c.args.tables) c.requires;
      text = c.requires.accepted;
      events = [];
      run = tt;
      is_reached = refl;
    };
    fits = c.in_ok-hand.ensures.fits;
  };
}
