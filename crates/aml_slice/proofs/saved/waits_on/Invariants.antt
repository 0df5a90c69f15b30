use Rattle.std.proofs.Common.{drop}
use Rattle.aml_slice.specs.Views.{WaitsOn}
use Rattle.aml_slice.proofs.saved.waits_on.Given as goal

-- what waits on the actor stands behind this place
abbrev pub invariant-loop-frame : goal.invariant-loop-frame
invariant-loop-frame l = WaitsOn l.frames l.actor → WaitsOn (drop l.frame-index l.frames) l.actor
