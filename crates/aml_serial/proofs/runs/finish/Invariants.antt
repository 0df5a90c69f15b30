use Rattle.std.proofs.Common.{◌≡◌, length}
use Rattle.aml_check.specs.Checked.{methods_of}
use Rattle.aml_slice.specs.Controls.{IsRest, moves_left}
use Rattle.aml_slice.specs.Finishing.{finished}
use Rattle.aml_serial.specs.Images.{AreImagesWithin, put_back}
use Rattle.aml_serial.proofs.runs.finish.Given as goal

abbrev pub invariant-loop-rest : goal.invariant-loop-rest
invariant-loop-rest l = record {
  finishes : finished (methods_of l.program) l.actors l.initial.rest l.initial.world.items ≡ finished (methods_of l.program) l.actors l.rest l.world.items;
  kept : put_back l.images.items l.world.items ≡ put_back l.initial.images.items l.initial.world.items;
  rest : IsRest (methods_of l.program) l.actors l.rest;
  within : AreImagesWithin l.actors l.images.items;
  size : length l.world.items ≡ l.actors;
}

abbrev pub decreases-loop-rest : goal.decreases-loop-rest
decreases-loop-rest l = moves_left l.rest
