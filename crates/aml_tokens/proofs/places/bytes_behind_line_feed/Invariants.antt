use Rattle.std.proofs.Common.{◌≡◌, ◌≤◌, drop}
use Rattle.aml_tokens.specs.Lexing.{behind_line_feed}
use Rattle.aml_tokens.proofs.places.bytes_behind_line_feed.Given as goal

abbrev pub invariant-loop-byte : goal.invariant-loop-byte
invariant-loop-byte l = record {
  rest : behind_line_feed l.count (drop l.byte-index l.bytes) ≡ behind_line_feed 0 l.bytes;
  few : l.count ≤ l.byte-index;
}
