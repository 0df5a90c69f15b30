-- Reading statements with `let`, as the functions of the code read them.
use Rattle.std.proofs.Common.{◌≡◌, ℕ, ◌+◌, true, false, List, [], ◌∷◌, Some, refl, slice_get}
use Rattle.aml_tokens.specs.declared.tokens.Word.{Word}
use Rattle.aml_tokens.specs.Token.{Token}
use Rattle.aml_tokens.specs.Token as token
use Rattle.aml_parser.specs.declared.readers.Sign.TheVariants as fixed
use Rattle.aml_tree.specs.Tree.{Expr, Code, Onto, Let, Call}
use Rattle.aml_parser.specs.Items.{Called, New, Fixed, Opening, Target, Expression, Argued, Letting, Block, To, Valued, Calling, is_call, let_of}
use Rattle.aml_parser.specs.Reading.{Fault, Takes, StopsAt, TakesPart, TakesLet, there}
use Rattle.aml_parser.proofs.Steps.{takes_then, stops_then, stops_first, stops_by}
use Rattle.aml_parser.proofs.Parts.{same_part}
use Rattle.aml_parser.proofs.Branches.{let_part, let_value_rests, let_value_stops, call_rests, call_stops}

-- ---- calls

pub call_reads : (ts : List Token) (depth at line named opening start closed end : ℕ) (v m : Word) (target : Expr Word) (es : List (Expr Word)) (g : Onto Word Word) → there is_call (slice_get ts at) ≡ true
    → ((rest : Code Word Word) → g rest ≡ Call line v target m es rest)
    → ((n : ℕ) → Takes ts (Target depth ∷ []) (target, tt) n (at + 1) n named) → ((n : ℕ) → Takes ts (Called ∷ []) (m, tt) n named n opening)
    → ((n : ℕ) → Takes ts (Opening depth fixed.Open ∷ []) (tt, tt) n opening n start) → ((n : ℕ) → Takes ts (Argued (depth + 1) ∷ []) (es, tt) n start n closed)
    → ((n : ℕ) → Takes ts (Fixed fixed.Semicolon ∷ []) (tt, tt) n closed n end) → (names : ℕ) → TakesLet ts depth line v g names at names end
call_reads ts depth at line named opening start closed end v m target es g is made a b c d e names = record {
  rest = Calling target m es;
  made = made;
  rests = call_rests ts depth names at end target m es is (takes_then (a names) (takes_then (b names) (takes_then (c names) (takes_then (d names) (e names)))));
}

pub call_target_stops : (ts : List Token) (depth at : ℕ) (fault : Fault) → there is_call (slice_get ts at) ≡ true
    → ((n : ℕ) → StopsAt ts (Target depth ∷ []) n (at + 1) fault) → (names : ℕ) → StopsAt ts (Letting depth ∷ []) names at fault
call_target_stops ts depth at fault is x names = call_stops ts depth names at fault is (stops_first (x names))

pub call_name_stops : (ts : List Token) (depth at named : ℕ) (target : Expr Word) (fault : Fault) → there is_call (slice_get ts at) ≡ true
    → ((n : ℕ) → Takes ts (Target depth ∷ []) (target, tt) n (at + 1) n named) → ((n : ℕ) → StopsAt ts (Called ∷ []) n named fault) → (names : ℕ) → StopsAt ts (Letting depth ∷ []) names at fault
call_name_stops ts depth at named target fault is a x names = call_stops ts depth names at fault is (stops_then (a names) (stops_first (x names)))

pub call_open_stops : (ts : List Token) (depth at named opening : ℕ) (m : Word) (target : Expr Word) (fault : Fault) → there is_call (slice_get ts at) ≡ true
    → ((n : ℕ) → Takes ts (Target depth ∷ []) (target, tt) n (at + 1) n named) → ((n : ℕ) → Takes ts (Called ∷ []) (m, tt) n named n opening)
    → ((n : ℕ) → StopsAt ts (Opening depth fixed.Open ∷ []) n opening fault) → (names : ℕ) → StopsAt ts (Letting depth ∷ []) names at fault
call_open_stops ts depth at named opening m target fault is a b x names = call_stops ts depth names at fault is (stops_then (a names) (stops_then (b names) (stops_first (x names))))

pub call_values_stop : (ts : List Token) (depth at named opening start : ℕ) (m : Word) (target : Expr Word) (fault : Fault) → there is_call (slice_get ts at) ≡ true
    → ((n : ℕ) → Takes ts (Target depth ∷ []) (target, tt) n (at + 1) n named) → ((n : ℕ) → Takes ts (Called ∷ []) (m, tt) n named n opening)
    → ((n : ℕ) → Takes ts (Opening depth fixed.Open ∷ []) (tt, tt) n opening n start)
    → ((n : ℕ) → StopsAt ts (Argued (depth + 1) ∷ []) n start fault) → (names : ℕ) → StopsAt ts (Letting depth ∷ []) names at fault
call_values_stop ts depth at named opening start m target fault is a b c x names = call_stops ts depth names at fault is (stops_then (a names) (stops_then (b names) (stops_then (c names) (stops_first (x names)))))

pub call_end_stops : (ts : List Token) (depth at named opening start closed : ℕ) (m : Word) (target : Expr Word) (es : List (Expr Word)) (fault : Fault) → there is_call (slice_get ts at) ≡ true
    → ((n : ℕ) → Takes ts (Target depth ∷ []) (target, tt) n (at + 1) n named) → ((n : ℕ) → Takes ts (Called ∷ []) (m, tt) n named n opening)
    → ((n : ℕ) → Takes ts (Opening depth fixed.Open ∷ []) (tt, tt) n opening n start) → ((n : ℕ) → Takes ts (Argued (depth + 1) ∷ []) (es, tt) n start n closed)
    → ((n : ℕ) → StopsAt ts (Fixed fixed.Semicolon ∷ []) n closed fault) → (names : ℕ) → StopsAt ts (Letting depth ∷ []) names at fault
call_end_stops ts depth at named opening start closed m target es fault is a b c d x names =
    call_stops ts depth names at fault is (stops_then (a names) (stops_then (b names) (stops_then (c names) (stops_then (d names) (stops_first (x names))))))

-- ---- variables

pub let_reads : (ts : List Token) (depth names at line behind start after end : ℕ) (v : Word) (g : Onto Word Word) → slice_get ts at ≡ Some (token.Let line)
    → Takes ts (New ∷ []) (v, tt) names (at + 1) (names + 1) behind → ((n : ℕ) → Takes ts (Fixed fixed.Assign ∷ []) (tt, tt) n behind n start)
    → TakesLet ts depth line v g (names + 1) start after end → TakesPart ts depth g names at after end
let_reads ts depth names at line behind start after end v g is a b x =
    same_part ts depth names at after end (λ rest. let_of line v (x.rest rest)) g x.made
    (let_part ts depth names at line (names + 1) start after end v x.rest is (takes_then a (b (names + 1))) x.rests)

pub let_value_reads : (ts : List Token) (depth names at line end : ℕ) (v : Word) (e : Expr Word) (g : Onto Word Word) → there is_call (slice_get ts at) ≡ false → ((rest : Code Word Word) → g rest ≡ Let line v e rest)
    → ((n : ℕ) → Takes ts (Expression depth (To fixed.Semicolon) ∷ []) ((e, tt), tt) n at n end) → TakesLet ts depth line v g names at names end
let_value_reads ts depth names at line end v e g none made x = record { rest = Valued e; made = made; rests = let_value_rests ts depth names at end e none (x names) }

pub let_name_stops : (ts : List Token) (depth names at line : ℕ) (fault : Fault) → slice_get ts at ≡ Some (token.Let line)
    → StopsAt ts (New ∷ []) names (at + 1) fault → StopsAt ts (Block depth ∷ []) names at fault
let_name_stops ts depth names at line fault is x = stops_by ts (Block depth) (token.Let line) _ names at fault is refl refl (stops_first x)

pub let_sign_stops : (ts : List Token) (depth names at line behind : ℕ) (v : Word) (fault : Fault) → slice_get ts at ≡ Some (token.Let line)
    → Takes ts (New ∷ []) (v, tt) names (at + 1) (names + 1) behind → ((n : ℕ) → StopsAt ts (Fixed fixed.Assign ∷ []) n behind fault) → StopsAt ts (Block depth ∷ []) names at fault
let_sign_stops ts depth names at line behind v fault is a x = stops_by ts (Block depth) (token.Let line) _ names at fault is refl refl (stops_then a (stops_first (x (names + 1))))

pub let_rest_stops : (ts : List Token) (depth names at line behind start : ℕ) (v : Word) (fault : Fault) → slice_get ts at ≡ Some (token.Let line)
    → Takes ts (New ∷ []) (v, tt) names (at + 1) (names + 1) behind → ((n : ℕ) → Takes ts (Fixed fixed.Assign ∷ []) (tt, tt) n behind n start)
    → StopsAt ts (Letting depth ∷ []) (names + 1) start fault → StopsAt ts (Block depth ∷ []) names at fault
let_rest_stops ts depth names at line behind start v fault is a b x = stops_by ts (Block depth) (token.Let line) _ names at fault is refl refl (stops_then a (stops_then (b (names + 1)) x))

pub let_end_stops : (ts : List Token) (depth names at line behind start : ℕ) (v : Word) (fault : Fault) → slice_get ts at ≡ Some (token.Let line)
    → Takes ts (New ∷ []) (v, tt) names (at + 1) (names + 1) behind → ((n : ℕ) → Takes ts (Fixed fixed.Assign ∷ []) (tt, tt) n behind n start) → there is_call (slice_get ts start) ≡ false
    → ((n : ℕ) → StopsAt ts (Expression depth (To fixed.Semicolon) ∷ []) n start fault) → StopsAt ts (Block depth ∷ []) names at fault
let_end_stops ts depth names at line behind start v fault is a b none x = let_rest_stops ts depth names at line behind start v fault is a b (let_value_stops ts depth (names + 1) start fault none (x (names + 1)))
