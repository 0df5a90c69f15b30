-- Lines: no token of a text stands behind its last line, nor does anything in the tree that it spells.
use Rattle.std.proofs.Common.{ℕ, ◌+◌, ◌≤◌, nat_lt, nat_le, ◌==◌, ◌^◌, Bool, true, false, if◌then◌else◌, map, List, [], ◌∷◌, ◌++◌, length, take, Option, Some, None, Result, Ok, Err, codes, sym, subst, arith}
use Rattle.std.proofs.lemmas.List.{length-take}
use Rattle.std.proofs.lemmas.List.Sums.{count_by-le-length}
use Rattle.std.specs.List.{AllByRecursion}
use Rattle.std.specs.Str.{bytes_eq}
use Rattle.std.specs.Str.Parse.{digits_value}
use Rattle.aml_tokens.specs.declared.tokens.Symbol.{Symbol}
use Rattle.aml_tokens.specs.declared.tokens.TextCause.{TextCause}
use Rattle.aml_tokens.specs.declared.tokens.TextCause.TheVariants.{BadByte, BadToken, NumberRange, TooMany}
use Rattle.aml_tokens.specs.declared.tokens.Word.{Word}
use Rattle.aml_tokens.specs.Bytes.{is_letter, is_digit, keywords, signs}
use Rattle.aml_tokens.specs.Token.{Token}
use Rattle.aml_tokens.specs.Token as token
use Rattle.aml_tokens.specs.Lexing.{Piece, pieces, symbol_of, field_of, field_words, is_plain, number_token, either, word_token, sign_token, token_in, within, token_at, onto, tokens_in, Tokens, line_at}
use Rattle.aml_parser.specs.declared.faults.TextFault.{TextFault}
use Rattle.aml_tree.specs.Tree.{Expr, Number, Variable, Field, Own, Group, Negative, Binary, Code, End, Let, Call, Set, SetField, If, IfElse, While, Fail, Return, TextMethod}
use Rattle.aml_tree.specs.Grammar.{read_spelling, spelling, listed, block_spelling, name_spelling, method_spelling, program_spelling}
use Rattle.aml_tree.specs.Programs.{IsProgramText}
use Rattle.aml_parser.specs.Faults.{IsFirstTextFault}
use Rattle.aml_tree.specs.Lines.{WordUpTo, ExpressionUpTo, BlockUpTo, MethodUpTo, LinesUpTo}

-- ---- tokens

abbrev TokenUpTo : ℕ → Token → Type 0
TokenUpTo most (token.Name w) = w.line ≤ most
TokenUpTo most (token.Number n) = Unit {0}
TokenUpTo most (token.Field k line) = line ≤ most
TokenUpTo most (token.Sign s) = Unit {0}
TokenUpTo most (token.Let line) = line ≤ most
TokenUpTo most (token.CloseBrace line) = line ≤ most

abbrev TokensUpTo : ℕ → List Token → Type 0
TokensUpTo most ts = AllByRecursion (TokenUpTo most) ts

abbrev ResultUpTo : ℕ → Result Token TextCause → Type 0
ResultUpTo most (Ok t) = TokenUpTo most t
ResultUpTo most (Err c) = Unit {0}

number_up_to : (most : ℕ) (bytes : List ℕ) → ResultUpTo most (number_token bytes)
number_up_to most bytes = by (is_plain bytes) (nat_lt (digits_value 10 bytes) (2 ^ 63))
  where
    by : (p t : Bool) → ResultUpTo most (if p then (if t then Ok (token.Number (digits_value 10 bytes)) else Err NumberRange) else Err BadToken)
    by true true = tt
    by true false = tt
    by false t = tt

word_up_to : (most line : ℕ) (bytes : List ℕ) → line ≤ most → ResultUpTo most (word_token line bytes)
word_up_to most line bytes h = by (bytes_eq bytes (codes "let")) (symbol_of keywords bytes) (field_of 0 field_words bytes) (nat_le (length bytes) 32)
  where
    by : (l : Bool) (s : Option Symbol) (f : Option ℕ) (t : Bool)
        → ResultUpTo most (if l then Ok (token.Let line) else either s (λ s. Ok (token.Sign s)) (either f (λ k. Ok (token.Field k line)) (if t then Ok (token.Name (record { name = bytes; line = line })) else Err BadToken)))
    by true s f t = h
    by false (Some s) f t = tt
    by false None (Some k) t = h
    by false None None true = h
    by false None None false = tt

sign_up_to : (most line : ℕ) (bytes : List ℕ) → line ≤ most → ResultUpTo most (sign_token line bytes)
sign_up_to most line bytes h = by (bytes_eq bytes (codes "}")) (symbol_of signs bytes) (bytes_eq bytes (codes "!"))
  where
    by : (brace : Bool) (s : Option Symbol) (bang : Bool) → ResultUpTo most (if brace then Ok (token.CloseBrace line) else either s (λ s. Ok (token.Sign s)) (if bang then Err BadToken else Err BadByte))
    by true s bang = h
    by false (Some s) bang = tt
    by false None true = tt
    by false None false = tt

token_up_to : (most line : ℕ) (bytes : List ℕ) → line ≤ most → ResultUpTo most (token_in line bytes)
token_up_to most line [] h = tt
token_up_to most line (b ∷ bs) h = by (is_digit b) (is_letter b)
  where
    by : (digit letter : Bool) → ResultUpTo most (if digit then number_token (b ∷ bs) else (if letter then word_token line (b ∷ bs) else sign_token line (b ∷ bs)))
    by true letter = number_up_to most (b ∷ bs)
    by false true = word_up_to most line (b ∷ bs) h
    by false false = sign_up_to most line (b ∷ bs) h

within_up_to : (most : ℕ) (piece : Piece) (r : Result Token TextCause) → ResultUpTo most r → ResultUpTo most (within piece r)
within_up_to most piece (Err c) h = tt
within_up_to most piece (Ok t) h = by (nat_le (piece.at + length piece.bytes) 65536)
  where
    by : (b : Bool) → ResultUpTo most (if b then Ok t else Err TooMany)
    by true = h
    by false = tt

-- ---- the tokens of a text

pub line_within : (text : List ℕ) (at : ℕ) → line_at text at ≤ 1 + length text
line_within text at = omega (arith, count_by-le-length (λ (b : ℕ). b == 10) (take at text), length-take at text)

onto_up_to : (most at : ℕ) (r : Result Token TextCause) (behind : Tokens) → ResultUpTo most r → TokensUpTo most behind.tokens → TokensUpTo most (onto at r behind).tokens
onto_up_to most at (Ok t) behind h more = (h, more)
onto_up_to most at (Err c) behind h more = tt

pieces_up_to : (text : List ℕ) (ps : List Piece) → TokensUpTo (1 + length text) (tokens_in text ps).tokens
pieces_up_to text [] = tt
pieces_up_to text (p ∷ ps) =
    onto_up_to (1 + length text) p.at (token_at text p) (tokens_in text ps)
    (within_up_to (1 + length text) p (token_in (line_at text p.at) p.bytes) (token_up_to (1 + length text) (line_at text p.at) p.bytes (line_within text p.at)))
    (pieces_up_to text ps)

-- ---- the tokens of a tree

front_up_to : (most : ℕ) (xs ys : List Token) → TokensUpTo most (xs ++ ys) → TokensUpTo most xs
front_up_to most [] ys h = tt
front_up_to most (x ∷ xs) ys h = (h.0, front_up_to most xs ys h.1)

back_up_to : (most : ℕ) (xs ys : List Token) → TokensUpTo most (xs ++ ys) → TokensUpTo most ys
back_up_to most [] ys h = h
back_up_to most (x ∷ xs) ys h = back_up_to most xs ys h.1

abbrev Parts : ℕ → List Token → List Token → Type 0
Parts most xs ys = TokensUpTo most xs × TokensUpTo most ys

parts : (most : ℕ) (xs ys : List Token) → TokensUpTo most (xs ++ ys) → Parts most xs ys
parts most xs ys h = (front_up_to most xs ys h, back_up_to most xs ys h)

expression_up_to : (most : ℕ) (e : Expr Word) → TokensUpTo most (spelling e) → ExpressionUpTo most e
expression_up_to most (Number n) h = tt
expression_up_to most (Variable w) h = h.0
expression_up_to most (Field k line) h = h.0
expression_up_to most Own h = tt
expression_up_to most (Group e) h = expression_up_to most e (parts most (spelling e) _ h.1).0
expression_up_to most (Negative e) h = expression_up_to most e h.1
expression_up_to most (Binary o a b) h =
    let s = parts most (spelling a) _ h in (expression_up_to most a s.0, expression_up_to most b s.1.1)

arguments_up_to : (most : ℕ) (es : List (Expr Word)) → TokensUpTo most (listed (map spelling es)) → AllByRecursion (ExpressionUpTo most) es
arguments_up_to most [] h = tt
arguments_up_to most (e ∷ []) h = (expression_up_to most e h, tt)
arguments_up_to most (e ∷ f ∷ es) h =
    let s = parts most (spelling e) _ h in (expression_up_to most e s.0, arguments_up_to most (f ∷ es) s.1.1)

parameters_up_to : (most : ℕ) (ws : List Word) → TokensUpTo most (listed (map name_spelling ws)) → AllByRecursion (WordUpTo most) ws
parameters_up_to most [] h = tt
parameters_up_to most (w ∷ []) h = (h.0, tt)
parameters_up_to most (w ∷ v ∷ ws) h = (h.0, parameters_up_to most (v ∷ ws) h.1.1)

block_up_to : (most : ℕ) (b : Code Word Word) → TokensUpTo most (block_spelling b) → BlockUpTo most b
block_up_to most (End line) h = h.0
block_up_to most (Let line v value rest) h =
    let s = parts most (spelling value) _ h.1.1.1 in (h.0, h.1.0, expression_up_to most value s.0, block_up_to most rest s.1.1)
block_up_to most (Call line v target m arguments rest) h =
    let s = parts most (spelling target) _ h.1.1.1.1 in
    let t = parts most (listed (map spelling arguments)) _ s.1.1.1 in
    (h.0, h.1.0, expression_up_to most target s.0, s.1.0, arguments_up_to most arguments t.0, block_up_to most rest t.1.1.1)
block_up_to most (Set v value rest) h =
    let s = parts most (spelling value) _ h.1.1 in (h.0, expression_up_to most value s.0, block_up_to most rest s.1.1)
block_up_to most (SetField line k value rest) h =
    let s = parts most (spelling value) _ h.1.1 in (h.0, expression_up_to most value s.0, block_up_to most rest s.1.1)
block_up_to most (If condition first rest) h =
    let s = parts most (spelling condition) _ h.1 in
    let t = parts most (block_spelling first) _ s.1.1 in (expression_up_to most condition s.0, block_up_to most first t.0, block_up_to most rest t.1)
block_up_to most (IfElse condition first other rest) h =
    let s = parts most (spelling condition) _ h.1 in
    let t = parts most (block_spelling first) _ s.1.1 in
    let u = parts most (block_spelling other) _ t.1.1.1 in
    (expression_up_to most condition s.0, block_up_to most first t.0, block_up_to most other u.0, block_up_to most rest u.1)
block_up_to most (While condition body rest) h =
    let s = parts most (spelling condition) _ h.1 in
    let t = parts most (block_spelling body) _ s.1.1 in (expression_up_to most condition s.0, block_up_to most body t.0, block_up_to most rest t.1)
block_up_to most (Fail code rest) h = block_up_to most rest h.1.1.1
block_up_to most (Return value rest) h =
    let s = parts most (spelling value) _ h.1 in (expression_up_to most value s.0, block_up_to most rest s.1.1)

method_up_to : (most : ℕ) (m : TextMethod) → TokensUpTo most (method_spelling m) → MethodUpTo most m
method_up_to most m h =
    let b = (parts most (read_spelling m.is_read) _ h).1 in
    let s = parts most (listed (map name_spelling m.parameters)) _ b.1.1.1 in
    record { name = b.1.0; parameters = parameters_up_to most m.parameters s.0; body = block_up_to most m.body s.1.1.1 }

program_up_to : (most : ℕ) (p : List TextMethod) → TokensUpTo most (program_spelling p) → LinesUpTo most p
program_up_to most [] h = tt
program_up_to most (m ∷ ms) h =
    let s = parts most (method_spelling m) _ h in (method_up_to most m s.0, program_up_to most ms s.1)

-- ---- programs and faults of a text

pub lines_stand : (text : List ℕ) (p : List TextMethod) → IsProgramText text p → LinesUpTo (1 + length text) p
lines_stand text p h = program_up_to (1 + length text) p (subst (TokensUpTo (1 + length text)) h.spelled (pieces_up_to text (pieces text)))

pub fault_stands : (text : List ℕ) (f : TextFault) → IsFirstTextFault text f → f.line ≤ 1 + length text
fault_stands text f h =
    let w = h.wrong in subst (λ (n : ℕ). n ≤ 1 + length text) (sym w.4) (line_within text w.1)
