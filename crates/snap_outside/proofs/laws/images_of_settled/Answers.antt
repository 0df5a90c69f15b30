use Rattle.snap_outside.proofs.Images.{image_is}
use Rattle.snap_outside.proofs.laws.images_of_settled.Goals as goal

pub returns : goal.returns
returns c = image_is
