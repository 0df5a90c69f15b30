use Rattle.std.proofs.Common.{◌≡◌, drop}
use Rattle.aml_tokens.specs.Lexing.{symbol_of}
use Rattle.aml_tokens.proofs.words.symbol_in.Given as goal

abbrev pub invariant-loop-symbol : goal.invariant-loop-symbol
invariant-loop-symbol l = symbol_of (drop l.symbol-index l.symbols) l.bytes ≡ symbol_of l.symbols l.bytes
