-- Reading the parts of a block, as the functions of the code read them.
use Rattle.std.proofs.Common.{◌≡◌, ℕ, ◌+◌, ◌<◌, ◌≤◌, Bool, true, false, List, [], ◌∷◌, ◌++◌, drop, Option, Some, None, Result, Ok, Err, refl, sym, ap, ◌∙◌, slice_get}
use Rattle.aml_tokens.specs.declared.tokens.Symbol.{Symbol}
use Rattle.aml_tokens.specs.declared.tokens.Symbol.TheVariants as symbol
use Rattle.aml_tokens.specs.declared.tokens.TextCause.TheVariants.{Unexpected, TooDeep}
use Rattle.aml_tokens.specs.declared.tokens.Word.{Word}
use Rattle.aml_tokens.specs.Token.{Token}
use Rattle.aml_tokens.specs.Token as token
use Rattle.aml_parser.specs.declared.readers.Sign.{Sign}
use Rattle.aml_parser.specs.declared.readers.Sign.TheVariants as fixed
use Rattle.aml_tree.specs.Tree.{Expr, Code, Onto, Set, SetField, While, Fail, Return}
use Rattle.aml_parser.specs.Items.{Item, Fixed, Opening, Expression, Failing, Block, To, Values, Production, Plain, Opens, single, mark, counted, is_sign, on_test, joined_values, block_by}
use Rattle.aml_parser.specs.Reading.{Fault, ◌>>=◌, read, Takes, StopsAt, TakesPart, there, sign_there}
use Rattle.aml_parser.proofs.ReadLaws.{fine}
use Rattle.aml_parser.proofs.Steps.{bound_twice, begins, takes_none, takes_then, takes_by, stops_by, stops_limit, stops_none, stops_then, stops_first, NoBegin, paired}
use Rattle.aml_parser.proofs.Exprs.{is_open_level, is_deep_level}

-- ---- signs

record SignThere (sign : Sign) (t : Option Token) : Type 0 where
  symbol : Symbol
  is : t ≡ Some (token.Sign symbol)
  same : is_sign sign symbol ≡ true

sign_is_there : (sign : Sign) (t : Option Token) → sign_there sign t ≡ true → SignThere sign t
sign_is_there sign (Some (token.Sign s)) e = record { symbol = s; is = refl; same = e }
sign_is_there sign None e = absurd cc
sign_is_there sign (Some _) e = absurd cc

pub fixed_takes : (ts : List Token) (sign : Sign) (names at : ℕ) → sign_there sign (slice_get ts at) ≡ true → Takes ts (Fixed sign ∷ []) (tt, tt) names at names (at + 1)
fixed_takes ts sign names at there =
    let x = sign_is_there sign (slice_get ts at) there in
    takes_by ts (Fixed sign) (token.Sign x.symbol) (single Plain tt) tt names at names (at + 1) x.is (ap (λ (b : Bool). on_test b (single {i = Fixed sign} Plain tt)) x.same) refl (takes_none ts names (at + 1))

no_sign : (sign : Sign) (t : Option Token) → sign_there sign t ≡ false → NoBegin (Fixed sign) t
no_sign sign None e = λ s at. refl
no_sign sign (Some (token.Sign u)) e = ap (λ (b : Bool). on_test b (single {i = Fixed sign} Plain tt)) e
no_sign sign (Some _) e = refl

pub fixed_stops : (ts : List Token) (sign : Sign) (names at : ℕ) → sign_there sign (slice_get ts at) ≡ false → StopsAt ts (Fixed sign ∷ []) names at (at, Unexpected)
fixed_stops ts sign names at none = stops_none ts (Fixed sign) names at (slice_get ts at) refl (no_sign sign (slice_get ts at) none)

pub opening_takes : (ts : List Token) (depth : ℕ) (sign : Sign) (names at : ℕ) → sign_there sign (slice_get ts at) ≡ true → depth < 32 → Takes ts (Opening depth sign ∷ []) (tt, tt) names at names (at + 1)
opening_takes ts depth sign names at there lt =
    let x = sign_is_there sign (slice_get ts at) there in
    takes_by ts (Opening depth sign) (token.Sign x.symbol) (single (Opens depth) tt) tt names at names (at + 1) x.is (ap (λ (b : Bool). on_test b (single {i = Opening depth sign} (Opens depth) tt)) x.same) (is_open_level depth lt) (takes_none ts names (at + 1))

pub opening_deep : (ts : List Token) (depth : ℕ) (sign : Sign) (names at : ℕ) → sign_there sign (slice_get ts at) ≡ true → 32 ≤ depth → StopsAt ts (Opening depth sign ∷ []) names at (at, TooDeep)
opening_deep ts depth sign names at there le =
    let x = sign_is_there sign (slice_get ts at) there in
    stops_limit ts (Opening depth sign) (token.Sign x.symbol) (single (Opens depth) tt) names at TooDeep x.is (ap (λ (b : Bool). on_test b (single {i = Opening depth sign} (Opens depth) tt)) x.same) (is_deep_level depth le)

no_opening : (depth : ℕ) (sign : Sign) (t : Option Token) → sign_there sign t ≡ false → NoBegin (Opening depth sign) t
no_opening depth sign None e = λ s at. refl
no_opening depth sign (Some (token.Sign u)) e = ap (λ (b : Bool). on_test b (single {i = Opening depth sign} (Opens depth) tt)) e
no_opening depth sign (Some _) e = refl

pub opening_stops : (ts : List Token) (depth : ℕ) (sign : Sign) (names at : ℕ) → sign_there sign (slice_get ts at) ≡ false → StopsAt ts (Opening depth sign ∷ []) names at (at, Unexpected)
opening_stops ts depth sign names at none = stops_none ts (Opening depth sign) names at (slice_get ts at) refl (no_opening depth sign (slice_get ts at) none)

-- ---- statements with one production

-- a part whose items are read behind its first token, up to the rest of the block
pub part_of : (ts : List Token) (depth names at after end : ℕ) (is : List Item) (us : Values is) (m : ℕ) (part : Onto Word Word) (make : (s : List Item) → Values (is ++ (Block depth ∷ s)) → Values (Block depth ∷ s))
    → ((s : List Item) → read (Block depth ∷ s) names at (drop at ts) ≡ (read (is ++ (Block depth ∷ s)) m (at + 1) (drop (at + 1) ts) >>= λ vs. Ok (make s vs)))
    → ((s : List Item) (ws : Values (Block depth ∷ s)) → make s (joined_values is (Block depth ∷ s) us ws) ≡ paired (Block depth) s (part ws.0) ws.1)
    → Takes ts is us m (at + 1) after end → TakesPart ts depth part names at after end
part_of ts depth names at after end is us m part make first same x = record {
  goes = λ s.
      first s ∙ ap (λ (r : Result (Values (is ++ (Block depth ∷ s))) Fault). r >>= λ vs. Ok (make s vs)) (x.goes (Block depth ∷ s))
      ∙ bound_twice (read (Block depth ∷ s) after end (drop end ts)) (joined_values is (Block depth ∷ s) us) (make s)
      ∙ put s (read (Block depth ∷ s) after end (drop end ts));
}
  where
    put : (s : List Item) (r : Result (Values (Block depth ∷ s)) Fault) → (r >>= λ ws. Ok (make s (joined_values is (Block depth ∷ s) us ws))) ≡ (r >>= λ ws. Ok (paired (Block depth) s (part ws.0) ws.1))
    put s (Err e) = refl
    put s (Ok ws) = ap fine (same s ws)

pub set_part : (ts : List Token) (depth names at end : ℕ) (w : Word) (e : Expr Word) → slice_get ts at ≡ Some (token.Name w)
    → Takes ts (Fixed fixed.Assign ∷ Expression depth (To fixed.Semicolon) ∷ []) (tt, ((e, tt), tt)) names (at + 1) names end → TakesPart ts depth (Set w e) names at names end
set_part ts depth names at end w e is x =
    part_of ts depth names at names end (Fixed fixed.Assign ∷ Expression depth (To fixed.Semicolon) ∷ []) (tt, ((e, tt), tt)) names (Set w e)
    (λ s vs. paired (Block depth) s (Set w vs.1.0.0 vs.1.1.0) vs.1.1.1) (λ s. begins ts (Block depth) s names at (token.Name w) is) (λ s ws. refl) x

pub set_field_part : (ts : List Token) (depth names at end k line : ℕ) (e : Expr Word) → slice_get ts at ≡ Some (token.Field k line)
    → Takes ts (Fixed fixed.Assign ∷ Expression depth (To fixed.Semicolon) ∷ []) (tt, ((e, tt), tt)) names (at + 1) names end → TakesPart ts depth (SetField line k e) names at names end
set_field_part ts depth names at end k line e is x =
    part_of ts depth names at names end (Fixed fixed.Assign ∷ Expression depth (To fixed.Semicolon) ∷ []) (tt, ((e, tt), tt)) names (SetField line k e)
    (λ s vs. paired (Block depth) s (SetField line k vs.1.0.0 vs.1.1.0) vs.1.1.1) (λ s. begins ts (Block depth) s names at (token.Field k line) is) (λ s ws. refl) x

pub return_part : (ts : List Token) (depth names at end : ℕ) (e : Expr Word) → slice_get ts at ≡ Some (token.Sign symbol.Return)
    → Takes ts (Expression depth (To fixed.Semicolon) ∷ []) ((e, tt), tt) names (at + 1) names end → TakesPart ts depth (Return e) names at names end
return_part ts depth names at end e is x =
    part_of ts depth names at names end (Expression depth (To fixed.Semicolon) ∷ []) ((e, tt), tt) names (Return e)
    (λ s vs. paired (Block depth) s (Return vs.0.0 vs.1.0) vs.1.1) (λ s. begins ts (Block depth) s names at (token.Sign symbol.Return) is) (λ s ws. refl) x

pub fail_part : (ts : List Token) (depth names at end k : ℕ) → slice_get ts at ≡ Some (token.Sign symbol.Fail)
    → Takes ts (Failing ∷ Fixed fixed.Semicolon ∷ []) (k, (tt, tt)) names (at + 1) names end → TakesPart ts depth (Fail k) names at names end
fail_part ts depth names at end k is x =
    part_of ts depth names at names end (Failing ∷ Fixed fixed.Semicolon ∷ []) (k, (tt, tt)) names (Fail k)
    (λ s vs. paired (Block depth) s (Fail vs.0 vs.1.1.0) vs.1.1.1) (λ s. begins ts (Block depth) s names at (token.Sign symbol.Fail) is) (λ s ws. refl) x

pub while_part : (ts : List Token) (depth names at after end : ℕ) (e : Expr Word) (b : Code Word Word) → slice_get ts at ≡ Some (token.Sign symbol.While)
    → Takes ts (Expression depth (To fixed.OpenBrace) ∷ Block (depth + 1) ∷ []) ((e, tt), (b, tt)) names (at + 1) after end → TakesPart ts depth (While e b) names at after end
while_part ts depth names at after end e b is x =
    part_of ts depth names at after end (Expression depth (To fixed.OpenBrace) ∷ Block (depth + 1) ∷ []) ((e, tt), (b, tt)) names (While e b)
    (λ s vs. paired (Block depth) s (While vs.0.0 vs.1.0 vs.1.1.0) vs.1.1.1) (λ s. begins ts (Block depth) s names at (token.Sign symbol.While) is) (λ s ws. refl) x

-- a statement stops where the items behind its first token stop
pub part_items_stop : (ts : List Token) (depth names at : ℕ) (t : Token) (p : Production (Block depth)) (fault : Fault) → slice_get ts at ≡ Some t → block_by depth t ≡ Some p → mark names p.event ≡ None
    → StopsAt ts p.items (counted names p.event) (at + 1) fault → StopsAt ts (Block depth ∷ []) names at fault
part_items_stop ts depth names at t p fault is found unmarked x = stops_by ts (Block depth) t p names at fault is found unmarked x

-- the same part, by what its tree is
pub same_part : (ts : List Token) (depth names at after end : ℕ) (f g : Onto Word Word) → ((rest : Code Word Word) → g rest ≡ f rest) → TakesPart ts depth f names at after end → TakesPart ts depth g names at after end
same_part ts depth names at after end f g same x = record {
  goes = λ s. x.goes s ∙ put s (read (Block depth ∷ s) after end (drop end ts));
}
  where
    put : (s : List Item) (r : Result (Values (Block depth ∷ s)) Fault) → (r >>= λ vs. Ok (paired (Block depth) s (f vs.0) vs.1)) ≡ (r >>= λ vs. Ok (paired (Block depth) s (g vs.0) vs.1))
    put s (Err e) = refl
    put s (Ok vs) = ap (λ (c : Code Word Word). fine (paired (Block depth) s c vs.1)) (sym (same vs.0))

-- ---- what the functions cite

pub set_reads : (ts : List Token) (depth names at start end : ℕ) (w : Word) (e : Expr Word) (g : Onto Word Word) → slice_get ts at ≡ Some (token.Name w) → ((rest : Code Word Word) → g rest ≡ Set w e rest)
    → ((n : ℕ) → Takes ts (Fixed fixed.Assign ∷ []) (tt, tt) n (at + 1) n start) → ((n : ℕ) → Takes ts (Expression depth (To fixed.Semicolon) ∷ []) ((e, tt), tt) n start n end) → TakesPart ts depth g names at names end
set_reads ts depth names at start end w e g is made a b = same_part ts depth names at names end (Set w e) g made (set_part ts depth names at end w e is (takes_then (a names) (b names)))

pub set_field_reads : (ts : List Token) (depth names at start end k line : ℕ) (e : Expr Word) (g : Onto Word Word) → slice_get ts at ≡ Some (token.Field k line) → ((rest : Code Word Word) → g rest ≡ SetField line k e rest)
    → ((n : ℕ) → Takes ts (Fixed fixed.Assign ∷ []) (tt, tt) n (at + 1) n start) → ((n : ℕ) → Takes ts (Expression depth (To fixed.Semicolon) ∷ []) ((e, tt), tt) n start n end) → TakesPart ts depth g names at names end
set_field_reads ts depth names at start end k line e g is made a b = same_part ts depth names at names end (SetField line k e) g made (set_field_part ts depth names at end k line e is (takes_then (a names) (b names)))

pub return_reads : (ts : List Token) (depth names at end : ℕ) (e : Expr Word) (g : Onto Word Word) → slice_get ts at ≡ Some (token.Sign symbol.Return) → ((rest : Code Word Word) → g rest ≡ Return e rest)
    → ((n : ℕ) → Takes ts (Expression depth (To fixed.Semicolon) ∷ []) ((e, tt), tt) n (at + 1) n end) → TakesPart ts depth g names at names end
return_reads ts depth names at end e g is made a = same_part ts depth names at names end (Return e) g made (return_part ts depth names at end e is (a names))

pub return_stops : (ts : List Token) (depth names at : ℕ) (fault : Fault) → slice_get ts at ≡ Some (token.Sign symbol.Return)
    → ((n : ℕ) → StopsAt ts (Expression depth (To fixed.Semicolon) ∷ []) n (at + 1) fault) → StopsAt ts (Block depth ∷ []) names at fault
return_stops ts depth names at fault is x = stops_by ts (Block depth) (token.Sign symbol.Return) _ names at fault is refl refl (stops_first (x names))

-- an assignment stops at its sign, or in its value
pub set_sign_stops : (ts : List Token) (depth names at : ℕ) (w : Word) (fault : Fault) → slice_get ts at ≡ Some (token.Name w)
    → ((n : ℕ) → StopsAt ts (Fixed fixed.Assign ∷ []) n (at + 1) fault) → StopsAt ts (Block depth ∷ []) names at fault
set_sign_stops ts depth names at w fault is x = stops_by ts (Block depth) (token.Name w) _ names at fault is refl refl (stops_first (x names))

pub set_value_stops : (ts : List Token) (depth names at start : ℕ) (w : Word) (fault : Fault) → slice_get ts at ≡ Some (token.Name w) → ((n : ℕ) → Takes ts (Fixed fixed.Assign ∷ []) (tt, tt) n (at + 1) n start)
    → ((n : ℕ) → StopsAt ts (Expression depth (To fixed.Semicolon) ∷ []) n start fault) → StopsAt ts (Block depth ∷ []) names at fault
set_value_stops ts depth names at start w fault is a x = stops_by ts (Block depth) (token.Name w) _ names at fault is refl refl (stops_then (a names) (stops_first (x names)))

pub set_field_sign_stops : (ts : List Token) (depth names at k line : ℕ) (fault : Fault) → slice_get ts at ≡ Some (token.Field k line)
    → ((n : ℕ) → StopsAt ts (Fixed fixed.Assign ∷ []) n (at + 1) fault) → StopsAt ts (Block depth ∷ []) names at fault
set_field_sign_stops ts depth names at k line fault is x = stops_by ts (Block depth) (token.Field k line) _ names at fault is refl refl (stops_first (x names))

pub set_field_value_stops : (ts : List Token) (depth names at start k line : ℕ) (fault : Fault) → slice_get ts at ≡ Some (token.Field k line) → ((n : ℕ) → Takes ts (Fixed fixed.Assign ∷ []) (tt, tt) n (at + 1) n start)
    → ((n : ℕ) → StopsAt ts (Expression depth (To fixed.Semicolon) ∷ []) n start fault) → StopsAt ts (Block depth ∷ []) names at fault
set_field_value_stops ts depth names at start k line fault is a x = stops_by ts (Block depth) (token.Field k line) _ names at fault is refl refl (stops_then (a names) (stops_first (x names)))

pub fail_reads : (ts : List Token) (depth names at start end k : ℕ) (g : Onto Word Word) → slice_get ts at ≡ Some (token.Sign symbol.Fail) → ((rest : Code Word Word) → g rest ≡ Fail k rest)
    → ((n : ℕ) → Takes ts (Failing ∷ []) (k, tt) n (at + 1) n start) → ((n : ℕ) → Takes ts (Fixed fixed.Semicolon ∷ []) (tt, tt) n start n end) → TakesPart ts depth g names at names end
fail_reads ts depth names at start end k g is made a b = same_part ts depth names at names end (Fail k) g made (fail_part ts depth names at end k is (takes_then (a names) (b names)))

pub fail_code_stops : (ts : List Token) (depth names at : ℕ) (fault : Fault) → slice_get ts at ≡ Some (token.Sign symbol.Fail) → ((n : ℕ) → StopsAt ts (Failing ∷ []) n (at + 1) fault) → StopsAt ts (Block depth ∷ []) names at fault
fail_code_stops ts depth names at fault is x = stops_by ts (Block depth) (token.Sign symbol.Fail) _ names at fault is refl refl (stops_first (x names))

pub fail_end_stops : (ts : List Token) (depth names at start k : ℕ) (fault : Fault) → slice_get ts at ≡ Some (token.Sign symbol.Fail) → ((n : ℕ) → Takes ts (Failing ∷ []) (k, tt) n (at + 1) n start)
    → ((n : ℕ) → StopsAt ts (Fixed fixed.Semicolon ∷ []) n start fault) → StopsAt ts (Block depth ∷ []) names at fault
fail_end_stops ts depth names at start k fault is a x = stops_by ts (Block depth) (token.Sign symbol.Fail) _ names at fault is refl refl (stops_then (a names) (stops_first (x names)))

-- ---- loops

pub while_reads : (ts : List Token) (depth names at start after end : ℕ) (e : Expr Word) (b : Code Word Word) (g : Onto Word Word) → slice_get ts at ≡ Some (token.Sign symbol.While) → ((rest : Code Word Word) → g rest ≡ While e b rest)
    → ((n : ℕ) → Takes ts (Expression depth (To fixed.OpenBrace) ∷ []) ((e, tt), tt) n (at + 1) n start) → Takes ts (Block (depth + 1) ∷ []) (b, tt) names start after end → TakesPart ts depth g names at after end
while_reads ts depth names at start after end e b g is made x y = same_part ts depth names at after end (While e b) g made (while_part ts depth names at after end e b is (takes_then (x names) y))

pub while_condition_stops : (ts : List Token) (depth names at : ℕ) (fault : Fault) → slice_get ts at ≡ Some (token.Sign symbol.While)
    → ((n : ℕ) → StopsAt ts (Expression depth (To fixed.OpenBrace) ∷ []) n (at + 1) fault) → StopsAt ts (Block depth ∷ []) names at fault
while_condition_stops ts depth names at fault is x = stops_by ts (Block depth) (token.Sign symbol.While) _ names at fault is refl refl (stops_first (x names))

pub while_body_stops : (ts : List Token) (depth names at start : ℕ) (e : Expr Word) (fault : Fault) → slice_get ts at ≡ Some (token.Sign symbol.While)
    → ((n : ℕ) → Takes ts (Expression depth (To fixed.OpenBrace) ∷ []) ((e, tt), tt) n (at + 1) n start) → StopsAt ts (Block (depth + 1) ∷ []) names start fault → StopsAt ts (Block depth ∷ []) names at fault
while_body_stops ts depth names at start e fault is x y = stops_by ts (Block depth) (token.Sign symbol.While) _ names at fault is refl refl (stops_then (x names) (stops_first y))
