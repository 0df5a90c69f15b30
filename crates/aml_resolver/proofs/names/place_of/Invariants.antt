use Rattle.std.proofs.Common.{◌≡◌, drop}
use Rattle.aml_resolver.specs.Names.{place_from, place_of}
use Rattle.aml_resolver.proofs.names.place_of.Given as goal

abbrev pub invariant-loop-place : goal.invariant-loop-place
invariant-loop-place l = place_from l.place (drop l.place l.names) l.name ≡ place_of l.names l.name
