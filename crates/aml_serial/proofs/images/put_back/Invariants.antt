use Rattle.std.proofs.Common.{◌≡◌, length, drop}
use Rattle.aml_serial.specs.Images.{put_back}
use Rattle.aml_serial.proofs.images.put_back.Given as goal

abbrev pub invariant-loop-image : goal.invariant-loop-image
invariant-loop-image l = record {
  behind : put_back (drop l.image-index l.images) l.world.items ≡ put_back l.images l.initial.world.items;
  size : length l.world.items ≡ length l.initial.world.items;
}
