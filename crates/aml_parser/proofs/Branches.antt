-- Reading statements with `let` and `if`, whose rest begins with a token that tells which they are.
use Rattle.std.proofs.Common.{◌≡◌, ℕ, ◌+◌, true, false, List, [], ◌∷◌, ◌++◌, drop, Option, Some, None, Result, Ok, Err, refl, sym, ap, ◌∙◌, slice_get}
use Rattle.aml_tokens.specs.declared.tokens.Symbol.TheVariants as symbol
use Rattle.aml_tokens.specs.declared.tokens.Word.{Word}
use Rattle.aml_tokens.specs.Token.{Token}
use Rattle.aml_tokens.specs.Token as token
use Rattle.aml_parser.specs.declared.readers.Sign.TheVariants as fixed
use Rattle.aml_tree.specs.Tree.{Expr, Code, Onto, Number, Variable, Field, Own, Group, Negative}
use Rattle.aml_tree.specs.Limits.{opened}
use Rattle.aml_parser.specs.Items.{Item, Called, New, Fixed, Opening, Target, Operand, More, Expression, Argued, Letting, Block, After, To, LetRest, Valued, Calling, IfRest, Without, WithElse, Value, Values, counted, is_else, is_call, joined_values, let_of, if_of, all_attached, expand}
use Rattle.aml_parser.specs.Reading.{Fault, ◌>>=◌, production_begun, read, Takes, StopsAt, TakesPart, Rests, there}
use Rattle.aml_parser.proofs.ReadLaws.{fine}
use Rattle.aml_parser.proofs.Steps.{bound_twice, passed_twice, drop_none, begins, stops_by, paired}
use Rattle.aml_parser.proofs.Exprs.{Same, renamed_reads}

-- a part whose items come before an item that ends with the rest of the block
part_via : (ts : List Token) (depth names at m mid after end : ℕ) (is : List Item) (us : Values is) (j : Item) (f : Code Word Word → Value j) (part : Onto Word Word) (make : (s : List Item) → Values (is ++ (j ∷ s)) → Values (Block depth ∷ s))
    → ((s : List Item) → read (Block depth ∷ s) names at (drop at ts) ≡ (read (is ++ (j ∷ s)) names (at + 1) (drop (at + 1) ts) >>= λ vs. Ok (make s vs)))
    → ((s : List Item) (ws : Values (Block depth ∷ s)) → make s (joined_values is (j ∷ s) us (paired j s (f ws.0) ws.1)) ≡ paired (Block depth) s (part ws.0) ws.1)
    → Takes ts is us names (at + 1) m mid → Rests ts depth j f m mid after end → TakesPart ts depth part names at after end
part_via ts depth names at m mid after end is us j f part make first same x y = record {
  goes = λ s.
      first s ∙ ap (λ (r : Result (Values (is ++ (j ∷ s))) Fault). r >>= λ vs. Ok (make s vs)) (x.goes (j ∷ s))
      ∙ bound_twice (read (j ∷ s) m mid (drop mid ts)) (joined_values is (j ∷ s) us) (make s)
      ∙ ap (λ (r : Result (Values (j ∷ s)) Fault). r >>= λ vs. Ok (make s (joined_values is (j ∷ s) us vs))) (y.goes s)
      ∙ bound_twice (read (Block depth ∷ s) after end (drop end ts)) (λ vs. paired j s (f vs.0) vs.1) (λ vs. make s (joined_values is (j ∷ s) us vs))
      ∙ put s (read (Block depth ∷ s) after end (drop end ts));
}
  where
    put : (s : List Item) (r : Result (Values (Block depth ∷ s)) Fault) → (r >>= λ ws. Ok (make s (joined_values is (j ∷ s) us (paired j s (f ws.0) ws.1)))) ≡ (r >>= λ ws. Ok (paired (Block depth) s (part ws.0) ws.1))
    put s (Err e) = refl
    put s (Ok ws) = ap fine (same s ws)

pub let_part : (ts : List Token) (depth names at line m mid after end : ℕ) (v : Word) (f : Code Word Word → LetRest) → slice_get ts at ≡ Some (token.Let line)
    → Takes ts (New ∷ Fixed fixed.Assign ∷ []) (v, (tt, tt)) names (at + 1) m mid → Rests ts depth (Letting depth) f m mid after end → TakesPart ts depth (λ rest. let_of line v (f rest)) names at after end
let_part ts depth names at line m mid after end v f is x y =
    part_via ts depth names at m mid after end (New ∷ Fixed fixed.Assign ∷ []) (v, (tt, tt)) (Letting depth) f (λ rest. let_of line v (f rest))
    (λ s vs. paired (Block depth) s (let_of line vs.0 vs.1.1.0) vs.1.1.1) (λ s. begins ts (Block depth) s names at (token.Let line) is) (λ s ws. refl) x y

pub if_part : (ts : List Token) (depth names at m mid after end : ℕ) (c : Expr Word) (first : Code Word Word) (f : Code Word Word → IfRest) → slice_get ts at ≡ Some (token.Sign symbol.If)
    → Takes ts (Expression depth (To fixed.OpenBrace) ∷ Block (depth + 1) ∷ []) ((c, tt), (first, tt)) names (at + 1) m mid → Rests ts depth (After depth) f m mid after end
    → TakesPart ts depth (λ rest. if_of c first (f rest)) names at after end
if_part ts depth names at m mid after end c first f is x y =
    part_via ts depth names at m mid after end (Expression depth (To fixed.OpenBrace) ∷ Block (depth + 1) ∷ []) ((c, tt), (first, tt)) (After depth) f (λ rest. if_of c first (f rest))
    (λ s vs. paired (Block depth) s (if_of vs.0.0 vs.1.0 vs.1.1.0) vs.1.1.1) (λ s. begins ts (Block depth) s names at (token.Sign symbol.If) is) (λ s ws. refl) x y

-- ---- without `else`, and with it

after_same : (depth : ℕ) (o : Option Token) → there is_else o ≡ false → Same (After depth) (Block depth) Without o
after_same depth None e = λ s at. (refl, refl)
after_same depth (Some (token.Sign symbol.Else)) e = absurd cc
after_same depth (Some _) e = refl

pub without_else : (ts : List Token) (depth names at : ℕ) → there is_else (slice_get ts at) ≡ false → Rests ts depth (After depth) Without names at names at
without_else ts depth names at none = record { goes = λ s. renamed_reads ts (After depth) (Block depth) Without s names at (slice_get ts at) refl (after_same depth (slice_get ts at) none) }

else_is : (o : Option Token) → there is_else o ≡ true → o ≡ Some (token.Sign symbol.Else)
else_is None e = absurd cc
else_is (Some (token.Sign symbol.Else)) e = refl
else_is (Some _) e = absurd cc

pub with_else : (ts : List Token) (depth names at after end : ℕ) (other : Code Word Word) → there is_else (slice_get ts at) ≡ true
    → Takes ts (Opening depth fixed.OpenBrace ∷ Block (depth + 1) ∷ []) (tt, (other, tt)) names (at + 1) after end → Rests ts depth (After depth) (WithElse other) names at after end
with_else ts depth names at after end other is x = record {
  goes = λ s.
      begins ts (After depth) s names at (token.Sign symbol.Else) (else_is (slice_get ts at) is)
      ∙ ap (λ (r : Result (Values (Opening depth fixed.OpenBrace ∷ Block (depth + 1) ∷ Block depth ∷ s)) Fault). r >>= λ vs. Ok (paired (After depth) s (WithElse vs.1.0 vs.1.1.0) vs.1.1.1)) (x.goes (Block depth ∷ s))
      ∙ bound_twice (read (Block depth ∷ s) after end (drop end ts)) (joined_values (Opening depth fixed.OpenBrace ∷ Block (depth + 1) ∷ []) (Block depth ∷ s) (tt, (other, tt))) (λ vs. paired (After depth) s (WithElse vs.1.0 vs.1.1.0) vs.1.1.1);
}

pub else_stops : (ts : List Token) (depth names at : ℕ) (fault : Fault) → there is_else (slice_get ts at) ≡ true
    → StopsAt ts (Opening depth fixed.OpenBrace ∷ Block (depth + 1) ∷ Block depth ∷ []) names (at + 1) fault → StopsAt ts (After depth ∷ []) names at fault
else_stops ts depth names at fault is x = stops_by ts (After depth) (token.Sign symbol.Else) _ names at fault (else_is (slice_get ts at) is) refl refl x

-- ---- a value, and a call

abbrev pub let_value : (depth : ℕ) (s : List Item) → Values (Expression depth (To fixed.Semicolon) ∷ Block depth ∷ s) → Values (Letting depth ∷ s)
let_value depth s vs = paired (Letting depth) s (Valued vs.0.0 vs.1.0) vs.1.1

value_reads : (ts : List Token) (depth : ℕ) (s : List Item) (names at : ℕ) (o : Option Token) → slice_get ts at ≡ o → there is_call o ≡ false
    → read (Letting depth ∷ s) names at (drop at ts) ≡ (read (Expression depth (To fixed.Semicolon) ∷ Block depth ∷ s) names at (drop at ts) >>= λ vs. Ok (let_value depth s vs))
unfolding read
value_reads ts depth s names at None is none =
    let empty = drop_none ts at is in
    ap (read (Letting depth ∷ s) names at) empty ∙ sym (ap (λ (us : List Token). read (Expression depth (To fixed.Semicolon) ∷ Block depth ∷ s) names at us >>= λ vs. Ok (let_value depth s vs)) empty)
value_reads ts depth s names at (Some t) is none =
    begins ts (Letting depth) s names at t is ∙ by t none
    ∙ ap (λ (r : Result (Values (Expression depth (To fixed.Semicolon) ∷ Block depth ∷ s)) Fault). r >>= λ vs. Ok (let_value depth s vs)) (sym (begins ts (Expression depth (To fixed.Semicolon)) (Block depth ∷ s) names at t is))
  where
    by : (t : Token) → is_call t ≡ false
        → production_begun (Letting depth) s names at (expand (Letting depth) t) (λ p. read (p.items ++ s) (counted names p.event) (at + 1) (drop (at + 1) ts))
        ≡ (production_begun (Expression depth (To fixed.Semicolon)) (Block depth ∷ s) names at (expand (Expression depth (To fixed.Semicolon)) t) (λ p. read (p.items ++ (Block depth ∷ s)) (counted names p.event) (at + 1) (drop (at + 1) ts)) >>= λ vs. Ok (let_value depth s vs))
    by (token.Number n) e = sym (bound_twice (read (More depth false (To fixed.Semicolon) ∷ Block depth ∷ s) names (at + 1) (drop (at + 1) ts)) (λ vs. paired (Expression depth (To fixed.Semicolon)) (Block depth ∷ s) (all_attached (Number n) vs.0.0, vs.0.1) vs.1) (let_value depth s))
    by (token.Name w) e = sym (bound_twice (read (More depth false (To fixed.Semicolon) ∷ Block depth ∷ s) names (at + 1) (drop (at + 1) ts)) (λ vs. paired (Expression depth (To fixed.Semicolon)) (Block depth ∷ s) (all_attached (Variable w) vs.0.0, vs.0.1) vs.1) (let_value depth s))
    by (token.Field k line) e = sym (bound_twice (read (More depth false (To fixed.Semicolon) ∷ Block depth ∷ s) names (at + 1) (drop (at + 1) ts)) (λ vs. paired (Expression depth (To fixed.Semicolon)) (Block depth ∷ s) (all_attached (Field k line) vs.0.0, vs.0.1) vs.1) (let_value depth s))
    by (token.Sign symbol.Own) e = sym (bound_twice (read (More depth false (To fixed.Semicolon) ∷ Block depth ∷ s) names (at + 1) (drop (at + 1) ts)) (λ vs. paired (Expression depth (To fixed.Semicolon)) (Block depth ∷ s) (all_attached Own vs.0.0, vs.0.1) vs.1) (let_value depth s))
    by (token.Sign symbol.Open) e =
        passed_twice (opened depth) at (read (Expression (depth + 1) (To fixed.Close) ∷ More depth false (To fixed.Semicolon) ∷ Block depth ∷ s) names (at + 1) (drop (at + 1) ts))
        (λ vs. paired (Expression depth (To fixed.Semicolon)) (Block depth ∷ s) (all_attached (Group vs.0.0) vs.1.0.0, vs.1.0.1) vs.1.1) (let_value depth s)
    by (token.Sign symbol.Minus) e =
        passed_twice (opened depth) at (read (Operand (depth + 1) ∷ More depth false (To fixed.Semicolon) ∷ Block depth ∷ s) names (at + 1) (drop (at + 1) ts))
        (λ vs. paired (Expression depth (To fixed.Semicolon)) (Block depth ∷ s) (all_attached (Negative vs.0) vs.1.0.0, vs.1.0.1) vs.1.1) (let_value depth s)
    by (token.Sign symbol.Call) e = absurd cc
    by _ e = refl

pub let_value_rests : (ts : List Token) (depth names at end : ℕ) (e : Expr Word) → there is_call (slice_get ts at) ≡ false
    → Takes ts (Expression depth (To fixed.Semicolon) ∷ []) ((e, tt), tt) names at names end → Rests ts depth (Letting depth) (Valued e) names at names end
let_value_rests ts depth names at end e none x = record {
  goes = λ s.
      value_reads ts depth s names at (slice_get ts at) refl none
      ∙ ap (λ (r : Result (Values (Expression depth (To fixed.Semicolon) ∷ Block depth ∷ s)) Fault). r >>= λ vs. Ok (let_value depth s vs)) (x.goes (Block depth ∷ s))
      ∙ bound_twice (read (Block depth ∷ s) names end (drop end ts)) (λ vs. paired (Expression depth (To fixed.Semicolon)) (Block depth ∷ s) (e, tt) vs) (let_value depth s);
}

pub let_value_stops : (ts : List Token) (depth names at : ℕ) (fault : Fault) → there is_call (slice_get ts at) ≡ false
    → StopsAt ts (Expression depth (To fixed.Semicolon) ∷ []) names at fault → StopsAt ts (Letting depth ∷ []) names at fault
let_value_stops ts depth names at fault none x = record {
  goes = λ s.
      value_reads ts depth s names at (slice_get ts at) refl none
      ∙ ap (λ (r : Result (Values (Expression depth (To fixed.Semicolon) ∷ Block depth ∷ s)) Fault). r >>= λ vs. Ok (let_value depth s vs)) (x.goes (Block depth ∷ s));
}

call_is : (o : Option Token) → there is_call o ≡ true → o ≡ Some (token.Sign symbol.Call)
call_is None e = absurd cc
call_is (Some (token.Sign symbol.Call)) e = refl
call_is (Some _) e = absurd cc

pub call_rests : (ts : List Token) (depth names at end : ℕ) (target : Expr Word) (m : Word) (es : List (Expr Word)) → there is_call (slice_get ts at) ≡ true
    → Takes ts (Target depth ∷ Called ∷ Opening depth fixed.Open ∷ Argued (depth + 1) ∷ Fixed fixed.Semicolon ∷ []) (target, (m, (tt, (es, (tt, tt))))) names (at + 1) names end
    → Rests ts depth (Letting depth) (Calling target m es) names at names end
call_rests ts depth names at end target m es is x = record {
  goes = λ s.
      begins ts (Letting depth) s names at (token.Sign symbol.Call) (call_is (slice_get ts at) is)
      ∙ ap (λ (r : Result (Values (Target depth ∷ Called ∷ Opening depth fixed.Open ∷ Argued (depth + 1) ∷ Fixed fixed.Semicolon ∷ Block depth ∷ s)) Fault). r >>= λ vs. Ok (paired (Letting depth) s (Calling vs.0 vs.1.0 vs.1.1.1.0 vs.1.1.1.1.1.0) vs.1.1.1.1.1.1)) (x.goes (Block depth ∷ s))
      ∙ bound_twice (read (Block depth ∷ s) names end (drop end ts)) (joined_values (Target depth ∷ Called ∷ Opening depth fixed.Open ∷ Argued (depth + 1) ∷ Fixed fixed.Semicolon ∷ []) (Block depth ∷ s) (target, (m, (tt, (es, (tt, tt))))))
      (λ vs. paired (Letting depth) s (Calling vs.0 vs.1.0 vs.1.1.1.0 vs.1.1.1.1.1.0) vs.1.1.1.1.1.1);
}

pub call_stops : (ts : List Token) (depth names at : ℕ) (fault : Fault) → there is_call (slice_get ts at) ≡ true
    → StopsAt ts (Target depth ∷ Called ∷ Opening depth fixed.Open ∷ Argued (depth + 1) ∷ Fixed fixed.Semicolon ∷ Block depth ∷ []) names (at + 1) fault → StopsAt ts (Letting depth ∷ []) names at fault
call_stops ts depth names at fault is x = stops_by ts (Letting depth) (token.Sign symbol.Call) _ names at fault (call_is (slice_get ts at) is) refl refl x
