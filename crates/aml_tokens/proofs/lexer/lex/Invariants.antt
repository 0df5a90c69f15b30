use Rattle.std.proofs.Common.{◌≡◌, ◌≢◌, ◌==◌, ◌-◌, ◌<◌, ◌≤◌, false, length, get_or, take, count_by}
use Rattle.aml_tokens.specs.Bytes.{is_blank}
use Rattle.aml_tokens.specs.Token.{tokens_of}
use Rattle.aml_tokens.specs.Lexing.{lexed, tokens_in}
use Rattle.aml_tokens.specs.Reading.{pieces_at}
use Rattle.aml_tokens.proofs.Joined.{joined}
use Rattle.aml_tokens.proofs.lexer.lex.Given as goal

-- the tokens so far and those of the pieces that are left are the text's
abbrev pub invariant-loop-at : goal.invariant-loop-at
invariant-loop-at l = record {
  whole : joined (tokens_of l.tokens.items) l.places.items (tokens_in l.text (pieces_at l.text l.at)) ≡ lexed l.text;
  lines : l.lines ≡ count_by (λ b. b == 10) (take l.counted l.text);
  order : l.counted ≤ l.at;
  within : l.at ≤ length l.text;
  no_blank : l.at < length l.text → is_blank (get_or l.text l.at 0) ≡ false;
  no_comment : l.at < length l.text → get_or l.text l.at 0 ≢ 35;
}

abbrev pub decreases-loop-at : goal.decreases-loop-at
decreases-loop-at l = length l.text - l.at
