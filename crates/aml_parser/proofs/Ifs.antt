-- Reading statements with `if`, and what begins no statement, as the functions of the code read them.
use Rattle.std.proofs.Common.{◌≡◌, ◌≢◌, ℕ, ◌+◌, ◌≤◌, nat_lt, true, false, List, [], ◌∷◌, Some, None, refl, slice_get, tests, rules}
use Rattle.aml_tokens.specs.declared.tokens.Symbol.{Symbol}
use Rattle.aml_tokens.specs.declared.tokens.Symbol.TheVariants as symbol
use Rattle.aml_tokens.specs.declared.tokens.TextCause.TheVariants.{Unexpected}
use Rattle.aml_tokens.specs.declared.tokens.Word.{Word}
use Rattle.aml_tokens.specs.Token.{Token}
use Rattle.aml_tokens.specs.Token as token
use Rattle.aml_parser.specs.declared.readers.Sign.TheVariants as fixed
use Rattle.aml_tree.specs.Tree.{Expr, Code, Onto, If, IfElse}
use Rattle.aml_parser.specs.Items.{Opening, Expression, Block, To, Without, WithElse, is_else, if_of, block_by, block_by_sign}
use Rattle.aml_parser.specs.Reading.{Fault, Takes, StopsAt, TakesPart, there}
use Rattle.aml_parser.proofs.Steps.{takes_then, stops_then, stops_first, stops_by, stops_none}
use Rattle.aml_parser.proofs.Parts.{same_part}
use Rattle.aml_parser.proofs.Branches.{if_part, without_else, with_else, else_stops}

pub if_reads : (ts : List Token) (depth names at start m behind : ℕ) (c : Expr Word) (first : Code Word Word) (g : Onto Word Word) → slice_get ts at ≡ Some (token.Sign symbol.If) → ((rest : Code Word Word) → g rest ≡ If c first rest)
    → ((n : ℕ) → Takes ts (Expression depth (To fixed.OpenBrace) ∷ []) ((c, tt), tt) n (at + 1) n start) → Takes ts (Block (depth + 1) ∷ []) (first, tt) names start m behind
    → there is_else (slice_get ts behind) ≡ false → TakesPart ts depth g names at m behind
if_reads ts depth names at start m behind c first g is made x y none =
    same_part ts depth names at m behind (λ rest. if_of c first (Without rest)) g made
    (if_part ts depth names at m behind m behind c first Without is (takes_then (x names) y) (without_else ts depth m behind none))

pub if_else_reads : (ts : List Token) (depth names at start m behind opened after end : ℕ) (c : Expr Word) (first other : Code Word Word) (g : Onto Word Word) → slice_get ts at ≡ Some (token.Sign symbol.If)
    → ((rest : Code Word Word) → g rest ≡ IfElse c first other rest)
    → ((n : ℕ) → Takes ts (Expression depth (To fixed.OpenBrace) ∷ []) ((c, tt), tt) n (at + 1) n start) → Takes ts (Block (depth + 1) ∷ []) (first, tt) names start m behind
    → there is_else (slice_get ts behind) ≡ true → ((n : ℕ) → Takes ts (Opening depth fixed.OpenBrace ∷ []) (tt, tt) n (behind + 1) n opened)
    → Takes ts (Block (depth + 1) ∷ []) (other, tt) m opened after end → TakesPart ts depth g names at after end
if_else_reads ts depth names at start m behind opened after end c first other g is made x y else o z =
    same_part ts depth names at after end (λ rest. if_of c first (WithElse other rest)) g made
    (if_part ts depth names at m behind after end c first (WithElse other) is (takes_then (x names) y) (with_else ts depth m behind after end other else (takes_then (o m) z)))

pub if_condition_stops : (ts : List Token) (depth names at : ℕ) (fault : Fault) → slice_get ts at ≡ Some (token.Sign symbol.If)
    → ((n : ℕ) → StopsAt ts (Expression depth (To fixed.OpenBrace) ∷ []) n (at + 1) fault) → StopsAt ts (Block depth ∷ []) names at fault
if_condition_stops ts depth names at fault is x = stops_by ts (Block depth) (token.Sign symbol.If) _ names at fault is refl refl (stops_first (x names))

pub if_first_stops : (ts : List Token) (depth names at start : ℕ) (c : Expr Word) (fault : Fault) → slice_get ts at ≡ Some (token.Sign symbol.If)
    → ((n : ℕ) → Takes ts (Expression depth (To fixed.OpenBrace) ∷ []) ((c, tt), tt) n (at + 1) n start) → StopsAt ts (Block (depth + 1) ∷ []) names start fault → StopsAt ts (Block depth ∷ []) names at fault
if_first_stops ts depth names at start c fault is x y = stops_by ts (Block depth) (token.Sign symbol.If) _ names at fault is refl refl (stops_then (x names) (stops_first y))

pub if_open_stops : (ts : List Token) (depth names at start m behind : ℕ) (c : Expr Word) (first : Code Word Word) (fault : Fault) → slice_get ts at ≡ Some (token.Sign symbol.If)
    → ((n : ℕ) → Takes ts (Expression depth (To fixed.OpenBrace) ∷ []) ((c, tt), tt) n (at + 1) n start) → Takes ts (Block (depth + 1) ∷ []) (first, tt) names start m behind
    → there is_else (slice_get ts behind) ≡ true → ((n : ℕ) → StopsAt ts (Opening depth fixed.OpenBrace ∷ []) n (behind + 1) fault) → StopsAt ts (Block depth ∷ []) names at fault
if_open_stops ts depth names at start m behind c first fault is x y else o =
    stops_by ts (Block depth) (token.Sign symbol.If) _ names at fault is refl refl (stops_then (x names) (stops_then y (else_stops ts depth m behind fault else (stops_first (o m)))))

pub if_other_stops : (ts : List Token) (depth names at start m behind opened : ℕ) (c : Expr Word) (first : Code Word Word) (fault : Fault) → slice_get ts at ≡ Some (token.Sign symbol.If)
    → ((n : ℕ) → Takes ts (Expression depth (To fixed.OpenBrace) ∷ []) ((c, tt), tt) n (at + 1) n start) → Takes ts (Block (depth + 1) ∷ []) (first, tt) names start m behind
    → there is_else (slice_get ts behind) ≡ true → ((n : ℕ) → Takes ts (Opening depth fixed.OpenBrace ∷ []) (tt, tt) n (behind + 1) n opened)
    → StopsAt ts (Block (depth + 1) ∷ []) m opened fault → StopsAt ts (Block depth ∷ []) names at fault
if_other_stops ts depth names at start m behind opened c first fault is x y else o z =
    stops_by ts (Block depth) (token.Sign symbol.If) _ names at fault is refl refl (stops_then (x names) (stops_then y (else_stops ts depth m behind fault else (stops_then (o m) (stops_first z)))))

-- ---- levels

pub is_deeper : (depth : ℕ) → nat_lt depth 32 ≡ true → depth + 1 ≤ 32
is_deeper depth e = search (rules, tests)

-- ---- no statement

pub no_keyword : (depth : ℕ) (s : Symbol) → s ≢ symbol.If → s ≢ symbol.While → s ≢ symbol.Fail → s ≢ symbol.Return → block_by_sign depth s ≡ None
no_keyword depth symbol.If b c d e = absurd (b refl)
no_keyword depth symbol.While b c d e = absurd (c refl)
no_keyword depth symbol.Fail b c d e = absurd (d refl)
no_keyword depth symbol.Return b c d e = absurd (e refl)
no_keyword depth _ b c d e = refl

pub no_statement : (ts : List Token) (depth names at : ℕ) (t : Token) → slice_get ts at ≡ Some t → block_by depth t ≡ None → StopsAt ts (Block depth ∷ []) names at (at, Unexpected)
no_statement ts depth names at t is none = stops_none ts (Block depth) names at (Some t) is none

pub text_over : (ts : List Token) (depth names at : ℕ) → slice_get ts at ≡ None → StopsAt ts (Block depth ∷ []) names at (at, Unexpected)
text_over ts depth names at is = stops_none ts (Block depth) names at None is (λ s at. refl)
