use Rattle.std.proofs.Common.{◌≡◌, drop}
use Rattle.aml_tokens.specs.Lexing.{field_of, field_words}
use Rattle.aml_tokens.proofs.words.field_in.Given as goal

abbrev pub invariant-loop-field : goal.invariant-loop-field
invariant-loop-field l = field_of l.field (drop l.field field_words) l.bytes ≡ field_of 0 field_words l.bytes
