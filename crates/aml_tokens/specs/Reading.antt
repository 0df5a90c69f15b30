-- Only private contracts cite this; the rule is Lexing.antt.
-- The pieces from a place on, and the token that an answer of the code is.
use Rattle.std.specs.Prelude.{ℕ, false, List, [], drop, Result, Ok, Err}
use Rattle.aml_tokens.specs.declared.tokens.TextCause.{TextCause}
use Rattle.aml_tokens.specs.declared.tokens.Token as code
use Rattle.aml_tokens.specs.Token.{Token, token_of}
use Rattle.aml_tokens.specs.Lexing.{Piece, pieces_from, without_comments}

-- from a place in no piece and no comment
abbrev pub pieces_at : List ℕ → ℕ → List Piece
pieces_at text at = pieces_from at [] (without_comments false (drop at text))

abbrev pub as_token : Result code.Token TextCause → Result Token TextCause
as_token (Ok t) = Ok (token_of t)
as_token (Err cause) = Err cause
