-- What the code's stages are in the words of the machine.
use Rattle.protocol.specs.Parts as parts
use Rattle.batch_table.specs.declared.stage.Stage.{Stage}
use Rattle.batch_table.specs.declared.stage.Stage.TheVariants.{Formed, Committing, Settled}

abbrev pub stage_meant : Stage → parts.Stage
stage_meant Formed = parts.Formed
stage_meant Committing = parts.Committing
stage_meant Settled = parts.Settled
