use Rattle.std.proofs.Common.{◌≡◌, drop, []}
use Rattle.aml_tokens.specs.Lexing.{pieces_from, without_comments}
use Rattle.aml_tokens.specs.Reading.{pieces_at}
use Rattle.aml_tokens.proofs.pieces.next_piece.Given as goal

-- no piece begins in what was passed
abbrev pub invariant-loop-at : goal.invariant-loop-at
invariant-loop-at l = pieces_from l.at [] (without_comments l.in_comment (drop l.at l.text)) ≡ pieces_at l.text l.from
