use Rattle.std.proofs.Common.{◌≡◌, false, drop}
use Rattle.std.specs.List.{between}
use Rattle.aml_tokens.specs.Lexing.{pieces_from, without_comments}
use Rattle.aml_tokens.specs.Reading.{pieces_at}
use Rattle.aml_tokens.proofs.pieces.piece_end.Given as goal

-- what was passed is open
abbrev pub invariant-loop-end : goal.invariant-loop-end
invariant-loop-end l = pieces_from l.end (between l.start l.end l.text) (without_comments false (drop l.end l.text)) ≡ pieces_at l.text l.start
