use Rattle.std.proofs.Common.{◌∙◌}
use Rattle.aml_slice.specs.Views.{rest_of}
use Rattle.aml_slice.proofs.ExactStarts.{started_so}
use Rattle.aml_slice.proofs.controls.Control.start.Goals as goal

pub returns : goal.returns
returns c = record { exactly = c.of.ensures ∙ started_so c.args.tid c.args.tx.now (rest_of c.in_ok-root.field-0.value) c.in_ok-root.ensures.admitted c.in_ok-root.ensures.frames.0 c.in_ok-root.ensures.frames.1 c.in_ok-root.ensures.frames.2 }
