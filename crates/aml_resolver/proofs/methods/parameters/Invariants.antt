use Rattle.std.proofs.Common.{◌≡◌, [], take, drop}
use Rattle.aml_resolver.specs.Faults.{repeated}
use Rattle.aml_resolver.specs.Names.{names_of}
use Rattle.aml_resolver.proofs.methods.parameters.Given as goal

abbrev pub invariant-loop-word : goal.invariant-loop-word
invariant-loop-word l = record {
  faultless : repeated l.names.items (drop l.word-index l.words) ≡ repeated [] l.words;
  named : l.names.items ≡ names_of (take l.word-index l.words);
}
