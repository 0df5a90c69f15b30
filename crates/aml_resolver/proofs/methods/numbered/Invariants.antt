use Rattle.std.proofs.Common.{◌≡◌, take}
use Rattle.aml_check.specs.Names.{counted_from}
use Rattle.aml_resolver.proofs.methods.numbered.Given as goal

abbrev pub invariant-loop-place : goal.invariant-loop-place
invariant-loop-place l = l.places ≡ counted_from 0 (take l.place l.words)
