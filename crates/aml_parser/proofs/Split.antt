-- Each value of the grammar is made by the production of its first token.
use Rattle.std.proofs.Common.{◌≡◌, ℕ, zero, suc, Bool, true, false, if◌then◌else◌, List, [], ◌∷◌, ◌++◌, Option, Some, None, refl, sym, ap, subst, ◌∙◌, inl, inr, ◌⊎◌, arith}
use Rattle.aml_tokens.specs.declared.tokens.Symbol.TheVariants as symbol
use Rattle.aml_tokens.specs.declared.tokens.Word.{Word}
use Rattle.aml_tokens.specs.Token.{Token}
use Rattle.aml_tokens.specs.Token as token
use Rattle.aml_tokens.specs.Names.{IsToken}
use Rattle.aml_parser.specs.declared.readers.Sign.{Sign}
use Rattle.aml_parser.specs.declared.readers.Sign.TheVariants as fixed
use Rattle.aml_tree.specs.declared.trees.Operator.{Operator}
use Rattle.aml_tree.specs.declared.trees.Operator.TheVariants as operator
use Rattle.aml_tree.specs.Tree.{Expr, Number, Variable, Field, Own, Group, Negative, Binary, End, Let, Call, Set, SetField, If, IfElse, While, Fail, Return, TextMethod}
use Rattle.aml_tree.specs.Grammar.{sign, IsAtLevel, IsExpression}
use Rattle.aml_parser.specs.Items.{Item, Called, New, Parameter, Fixed, Opening, Target, Operand, More, Expression, Argued, Failing, Letting, Block, After, Parameters, MoreParameters, Methods, Closer, To, Arguments, LetRest, Valued, Calling, IfRest, Without, WithElse, Value, Values, Production, Plain, Opens, single, closing, all_attached, compares, front, back, joined_values, Ending, Links, renamed, followed, on_test, is_sign, operator_of, expand, expression_by, is_close, is_call, is_else, block_by, letting_by, after_by}
use Rattle.aml_parser.proofs.Written.{symbol_of, Fits, AllFit, AreLinks, IsEnding}
use Rattle.aml_parser.proofs.Attached.{no_operator}
use Rattle.aml_parser.proofs.Flattened.{first_operand, operators, reattached, first_at, are_operators}

-- Methods come at the end alone.
abbrev pub Closed : List Item → Type 0
Closed [] = Unit {0}
Closed (Methods before ∷ s) = s ≡ []
Closed (i ∷ s) = Closed s

pub record Split (i : Item) (v : Value i) : Type 0 where
  pub token : Token
  pub is_token : IsToken token
  pub production : Production i
  pub found : expand i token ≡ Some production
  pub parts : Values production.items
  pub made : v ≡ production.make parts
  pub fits : AllFit production.items parts
  pub closed : (s : List Item) → Closed (i ∷ s) → Closed (production.items ++ s)

-- ---- joined values

pub front_joined : (is s : List Item) (us : Values is) (ws : Values s) → front is s (joined_values is s us ws) ≡ us
front_joined [] s us ws = refl
front_joined (i ∷ is) s us ws = ap (λ (vs : Values is). (us.0, vs)) (front_joined is s us.1 ws)

pub back_joined : (is s : List Item) (us : Values is) (ws : Values s) → back is s (joined_values is s us ws) ≡ ws
back_joined [] s us ws = refl
back_joined (i ∷ is) s us ws = back_joined is s us.1 ws

pub fit_joined : (is s : List Item) (us : Values is) (ws : Values s) → AllFit is us → AllFit s ws → AllFit (is ++ s) (joined_values is s us ws)
fit_joined [] s us ws a b = b
fit_joined (i ∷ is) s us ws a b = (a.0, fit_joined is s us.1 ws a.1 b)

-- ---- productions of other items

split_renamed : (i j : Item) (f : Value i → Value j) (v : Value i) (x : Split i v) → expand j x.token ≡ renamed f (expand i x.token) → ((s : List Item) → Closed (j ∷ s) → Closed (i ∷ s)) → Split j (f v)
split_renamed i j f v x same deeper = record {
  token = x.token;
  is_token = x.is_token;
  production = record { event = x.production.event; items = x.production.items; make = λ vs. f (x.production.make vs) };
  found = same ∙ ap (λ (o : Option (Production i)). renamed f o) x.found;
  parts = x.parts;
  made = ap f x.made;
  fits = x.fits;
  closed = λ s h. x.closed s (deeper s h);
}

append_three : (is js s : List Item) → (P : List Item → Type 0) → P (is ++ (js ++ s)) → P ((is ++ js) ++ s)
append_three [] js s P h = h
append_three (i ∷ is) js s P h = append_three is js s (λ l. P (i ∷ l)) h

split_followed : (i : Item) (is : List Item) (j : Item) (f : Value i → Values is → Value j) (v : Value i) (ws : Values is) (x : Split i v)
    → expand j x.token ≡ followed is f (expand i x.token) → AllFit is ws → ((s : List Item) → Closed (j ∷ s) → Closed (i ∷ (is ++ s))) → Split j (f v ws)
split_followed i is j f v ws x same fits deeper =
    let p = x.production in
    record {
      token = x.token;
      is_token = x.is_token;
      production = record { event = p.event; items = p.items ++ is; make = λ vs. f (p.make (front p.items is vs)) (back p.items is vs) };
      found = same ∙ ap (λ (o : Option (Production i)). followed is f o) x.found;
      parts = joined_values p.items is x.parts ws;
      made =
          ap (λ (u : Value i). f u ws) x.made
          ∙ ap (λ (us : Values p.items). f (p.make us) ws) (sym (front_joined p.items is x.parts ws))
          ∙ ap (λ (vs : Values is). f (p.make (front p.items is (joined_values p.items is x.parts ws))) vs) (sym (back_joined p.items is x.parts ws));
      fits = fit_joined p.items is x.parts ws x.fits fits;
      closed = λ s h. append_three p.items is s Closed (x.closed (is ++ s) (deeper s h));
    }

-- ---- signs

sign_found : (s : Sign) → is_sign s (symbol_of s) ≡ true
sign_found fixed.Open = refl
sign_found fixed.Close = refl
sign_found fixed.OpenBrace = refl
sign_found fixed.Semicolon = refl
sign_found fixed.Assign = refl
sign_found fixed.Method = refl

sign_no_operator : (s : Sign) → operator_of (symbol_of s) ≡ None
sign_no_operator fixed.Open = refl
sign_no_operator fixed.Close = refl
sign_no_operator fixed.OpenBrace = refl
sign_no_operator fixed.Semicolon = refl
sign_no_operator fixed.Assign = refl
sign_no_operator fixed.Method = refl

operator_found : (o : Operator) → operator_of (sign o) ≡ Some o
operator_found operator.Or = refl
operator_found operator.And = refl
operator_found operator.Equal = refl
operator_found operator.NotEqual = refl
operator_found operator.Less = refl
operator_found operator.LessOrEqual = refl
operator_found operator.Greater = refl
operator_found operator.GreaterOrEqual = refl
operator_found operator.Plus = refl
operator_found operator.Minus = refl
operator_found operator.Times = refl
operator_found operator.Over = refl
operator_found operator.Remainder = refl

-- ---- expressions

split_target : (depth : ℕ) (e : Expr Word) → Fits (Target depth) e → Split (Target depth) e
split_target depth (Number n) h = record { token = token.Number n; is_token = h; production = _; found = refl; parts = tt; made = refl; fits = tt; closed = λ s c. c }
split_target depth (Variable w) h = record { token = token.Name w; is_token = h; production = _; found = refl; parts = tt; made = refl; fits = tt; closed = λ s c. c }
split_target depth (Field k line) h = record { token = token.Field k line; is_token = h; production = _; found = refl; parts = tt; made = refl; fits = tt; closed = λ s c. c }
split_target depth Own h = record { token = token.Sign symbol.Own; is_token = tt; production = _; found = refl; parts = tt; made = refl; fits = tt; closed = λ s c. c }
split_target depth (Group e) h = record { token = token.Sign symbol.Open; is_token = tt; production = _; found = refl; parts = ((e, tt), tt); made = refl; fits = ((h, tt), tt); closed = λ s c. c }
split_target depth (Negative e) h = absurd h
split_target depth (Binary o a b) h = absurd h

split_operand : (depth : ℕ) (e : Expr Word) → IsAtLevel 0 e → Split (Operand depth) e
split_operand depth (Number n) h = record { token = token.Number n; is_token = h; production = _; found = refl; parts = tt; made = refl; fits = tt; closed = λ s c. c }
split_operand depth (Variable w) h = record { token = token.Name w; is_token = h; production = _; found = refl; parts = tt; made = refl; fits = tt; closed = λ s c. c }
split_operand depth (Field k line) h = record { token = token.Field k line; is_token = h; production = _; found = refl; parts = tt; made = refl; fits = tt; closed = λ s c. c }
split_operand depth Own h = record { token = token.Sign symbol.Own; is_token = tt; production = _; found = refl; parts = tt; made = refl; fits = tt; closed = λ s c. c }
split_operand depth (Group e) h = record { token = token.Sign symbol.Open; is_token = tt; production = _; found = refl; parts = ((e, tt), tt); made = refl; fits = ((h, tt), tt); closed = λ s c. c }
split_operand depth (Negative e) h = record { token = token.Sign symbol.Minus; is_token = tt; production = _; found = refl; parts = (e, tt); made = refl; fits = (h, tt); closed = λ s c. c }
split_operand depth (Binary o a b) h = absurd (no_operator o a b h)

expression_again : (depth : ℕ) (closer : Closer) (e : Expr Word) (a : Ending closer) → all_attached (first_operand e) (operators e) ≡ e → Split (Expression depth closer) (all_attached (first_operand e) (operators e), a) → Split (Expression depth closer) (e, a)
expression_again depth closer e a same x = subst (λ (f : Expr Word). Split (Expression depth closer) (f, a)) same x

split_expression : (depth : ℕ) (closer : Closer) (e : Expr Word) (a : Ending closer) → IsExpression e → IsEnding closer a → Split (Expression depth closer) (e, a)
split_expression depth closer e a h end =
    expression_again depth closer e a (reattached 5 e h)
    (split_followed (Operand depth) (More depth false closer ∷ []) (Expression depth closer) (λ e vs. (all_attached e vs.0.0, vs.0.1)) (first_operand e) ((operators e, a), tt)
    (split_operand depth (first_operand e) (first_at 5 e h)) refl ((are_operators 5 e false h (inl refl), end), tt) (λ s c. c))

split_ending : (depth : ℕ) (compared : Bool) (closer : Closer) (a : Ending closer) → IsEnding closer a → Split (More depth compared closer) ([], a)
split_ending depth compared (To s) a h = record {
  token = token.Sign (symbol_of s);
  is_token = tt;
  production = single (closing depth s) ([], tt);
  found = rw (sign_no_operator s, sign_found s) refl;
  parts = tt;
  made = refl;
  fits = tt;
  closed = λ s c. c;
}
split_ending depth compared Arguments [] h = record { token = token.Sign symbol.Close; is_token = tt; production = _; found = refl; parts = tt; made = refl; fits = tt; closed = λ s c. c }
split_ending depth compared Arguments (e ∷ es) h = record { token = token.Sign symbol.Comma; is_token = tt; production = _; found = refl; parts = ((e, es), tt); made = refl; fits = ((h.0, h.1), tt); closed = λ s c. c }

split_more : (depth : ℕ) (compared : Bool) (closer : Closer) (ls : Links) (a : Ending closer) → AreLinks compared ls → IsEnding closer a → Split (More depth compared closer) (ls, a)
split_more depth compared closer [] a are end = split_ending depth compared closer a end
split_more depth compared closer (l ∷ ls) a are end = record {
  token = token.Sign (sign l.operator);
  is_token = tt;
  production = record {
    event = Plain;
    items = Operand depth ∷ More depth (compares compared l.operator) closer ∷ [];
    make = λ vs. (record { operator = l.operator; operand = vs.0 } ∷ vs.1.0.0, vs.1.0.1);
  };
  found = rw (operator_found l.operator, are.0) refl;
  parts = (l.operand, ((ls, a), tt));
  made = refl;
  fits = (are.1, ((are.2, end), tt));
  closed = λ s c. c;
}

begins_no_close : (depth : ℕ) (closer : Closer) (t : Token) (p : Production (Expression depth closer)) → expression_by depth closer t ≡ Some p → is_close t ≡ false
begins_no_close depth closer (token.Sign symbol.Close) p e = absurd cc
begins_no_close depth closer _ p e = refl

begins_no_call : (depth : ℕ) (closer : Closer) (t : Token) (p : Production (Expression depth closer)) → expression_by depth closer t ≡ Some p → is_call t ≡ false
begins_no_call depth closer (token.Sign symbol.Call) p e = absurd cc
begins_no_call depth closer _ p e = refl

begins_no_else : (depth : ℕ) (t : Token) (p : Production (Block depth)) → block_by depth t ≡ Some p → is_else t ≡ false
begins_no_else depth (token.Sign symbol.Else) p e = absurd cc
begins_no_else depth _ p e = refl

split_argued : (depth : ℕ) (es : List (Expr Word)) → Fits (Argued depth) es → Split (Argued depth) es
split_argued depth [] h = record { token = token.Sign symbol.Close; is_token = tt; production = _; found = refl; parts = tt; made = refl; fits = tt; closed = λ s c. c }
split_argued depth (e ∷ es) h =
    let x = split_expression depth Arguments e es h.0 h.1 in
    split_renamed (Expression depth Arguments) (Argued depth) (λ e. e.0 ∷ e.1) (e, es) x
    (ap (λ (b : Bool). if b then Some (single Plain []) else renamed {i = Expression depth Arguments} {j = Argued depth} (λ e. e.0 ∷ e.1) (expression_by depth Arguments x.token))
    (begins_no_close depth Arguments x.token x.production x.found)) (λ s c. c)

-- ---- statements

split_letting : (depth : ℕ) (v : LetRest) → Fits (Letting depth) v → Split (Letting depth) v
split_letting depth (Calling target m es rest) h = record {
  token = token.Sign symbol.Call;
  is_token = tt;
  production = _;
  found = refl;
  parts = (target, (m, (tt, (es, (tt, (rest, tt))))));
  made = refl;
  fits = (h.0, (h.1, (tt, (h.2, (tt, (h.3, tt))))));
  closed = λ s c. c;
}
split_letting depth (Valued e rest) h =
    let x = split_expression depth (To fixed.Semicolon) e tt h.0 tt in
    split_followed (Expression depth (To fixed.Semicolon)) (Block depth ∷ []) (Letting depth) (λ e vs. Valued e.0 vs.0) (e, tt) (rest, tt) x
    (ap (λ (b : Bool). if b then calling else followed {i = Expression depth (To fixed.Semicolon)} {j = Letting depth} (Block depth ∷ []) (λ e vs. Valued e.0 vs.0) (expression_by depth (To fixed.Semicolon) x.token))
    (begins_no_call depth (To fixed.Semicolon) x.token x.production x.found)) (h.1, tt) (λ s c. c)
  where
    calling : Option (Production (Letting depth))
    calling = letting_by depth (token.Sign symbol.Call)

split_block : (depth : ℕ) (b : Value (Block depth)) → Fits (Block depth) b → Split (Block depth) b
split_block depth (End line) h = record { token = token.CloseBrace line; is_token = tt; production = _; found = refl; parts = tt; made = refl; fits = tt; closed = λ s c. c }
split_block depth (Let line v value rest) h = record {
  token = token.Let line;
  is_token = tt;
  production = _;
  found = refl;
  parts = (v, (tt, (Valued value rest, tt)));
  made = refl;
  fits = (h.0, (tt, ((h.1, h.2), tt)));
  closed = λ s c. c;
}
split_block depth (Call line v target m es rest) h = record {
  token = token.Let line;
  is_token = tt;
  production = _;
  found = refl;
  parts = (v, (tt, (Calling target m es rest, tt)));
  made = refl;
  fits = (h.0, (tt, ((h.1, h.2, h.3, h.4), tt)));
  closed = λ s c. c;
}
split_block depth (Set v value rest) h = record {
  token = token.Name v;
  is_token = h.0;
  production = _;
  found = refl;
  parts = (tt, ((value, tt), (rest, tt)));
  made = refl;
  fits = (tt, ((h.1, tt), (h.2, tt)));
  closed = λ s c. c;
}
split_block depth (SetField line k value rest) h = record {
  token = token.Field k line;
  is_token = h.0;
  production = _;
  found = refl;
  parts = (tt, ((value, tt), (rest, tt)));
  made = refl;
  fits = (tt, ((h.1, tt), (h.2, tt)));
  closed = λ s c. c;
}
split_block depth (If condition first rest) h = record {
  token = token.Sign symbol.If;
  is_token = tt;
  production = _;
  found = refl;
  parts = ((condition, tt), (first, (Without rest, tt)));
  made = refl;
  fits = ((h.0, tt), (h.1, (h.2, tt)));
  closed = λ s c. c;
}
split_block depth (IfElse condition first other rest) h = record {
  token = token.Sign symbol.If;
  is_token = tt;
  production = _;
  found = refl;
  parts = ((condition, tt), (first, (WithElse other rest, tt)));
  made = refl;
  fits = ((h.0, tt), (h.1, ((h.2, h.3), tt)));
  closed = λ s c. c;
}
split_block depth (While condition body rest) h = record {
  token = token.Sign symbol.While;
  is_token = tt;
  production = _;
  found = refl;
  parts = ((condition, tt), (body, (rest, tt)));
  made = refl;
  fits = ((h.0, tt), (h.1, (h.2, tt)));
  closed = λ s c. c;
}
split_block depth (Fail code rest) h = record {
  token = token.Sign symbol.Fail;
  is_token = tt;
  production = _;
  found = refl;
  parts = (code, (tt, (rest, tt)));
  made = refl;
  fits = (h.0, (tt, (h.1, tt)));
  closed = λ s c. c;
}
split_block depth (Return value rest) h = record {
  token = token.Sign symbol.Return;
  is_token = tt;
  production = _;
  found = refl;
  parts = ((value, tt), (rest, tt));
  made = refl;
  fits = ((h.0, tt), (h.1, tt));
  closed = λ s c. c;
}

split_after : (depth : ℕ) (v : IfRest) → Fits (After depth) v → Split (After depth) v
split_after depth (WithElse other rest) h = record {
  token = token.Sign symbol.Else;
  is_token = tt;
  production = _;
  found = refl;
  parts = (tt, (other, (rest, tt)));
  made = refl;
  fits = (tt, (h.0, (h.1, tt)));
  closed = λ s c. c;
}
split_after depth (Without rest) h =
    let x = split_block depth rest h in
    split_renamed (Block depth) (After depth) Without rest x
    (ap (λ (b : Bool). if b then otherwise else renamed {i = Block depth} {j = After depth} Without (block_by depth x.token)) (begins_no_else depth x.token x.production x.found)) (λ s c. c)
  where
    otherwise : Option (Production (After depth))
    otherwise = after_by depth (token.Sign symbol.Else)

-- ---- parameters and methods

split_parameters : (ws : List Word) → Fits Parameters ws → Split Parameters ws
split_parameters [] h = record { token = token.Sign symbol.Close; is_token = tt; production = _; found = refl; parts = tt; made = refl; fits = tt; closed = λ s c. c }
split_parameters (w ∷ ws) h = record { token = token.Name w; is_token = h.0; production = _; found = refl; parts = (ws, tt); made = refl; fits = (h.1, tt); closed = λ s c. c }

split_more_parameters : (ws : List Word) → Fits MoreParameters ws → Split MoreParameters ws
split_more_parameters [] h = record { token = token.Sign symbol.Close; is_token = tt; production = _; found = refl; parts = tt; made = refl; fits = tt; closed = λ s c. c }
split_more_parameters (w ∷ ws) h = record { token = token.Sign symbol.Comma; is_token = tt; production = _; found = refl; parts = (w, (ws, tt)); made = refl; fits = (h.0, (h.1, tt)); closed = λ s c. c }

split_methods : (before : ℕ) (m : TextMethod) (ms : List TextMethod) → Fits (Methods before) (m ∷ ms) → Split (Methods before) (m ∷ ms)
split_methods before m ms h = by m.is_read refl
  where
    by : (b : Bool) → m.is_read ≡ b → Split (Methods before) (m ∷ ms)
    by false is = record {
      token = token.Sign symbol.Method;
      is_token = tt;
      production = _;
      found = refl;
      parts = (m.name, (tt, (m.parameters, (tt, (m.body, (ms, tt))))));
      made = ap (λ (b : Bool). record { is_read = b; name = m.name; parameters = m.parameters; body = m.body } ∷ ms) is;
      fits = (h.1.0.name, (tt, (h.1.0.parameters, (tt, (h.1.0.body, ((λ e. absurd (omega (arith, e)), h.1.1), tt))))));
      closed = λ s c. c;
    }
    by true is = record {
      token = token.Sign symbol.Read;
      is_token = tt;
      production = _;
      found = refl;
      parts = (tt, (m.name, (tt, (m.parameters, (tt, (m.body, (ms, tt)))))));
      made = ap (λ (b : Bool). record { is_read = b; name = m.name; parameters = m.parameters; body = m.body } ∷ ms) is;
      fits = (tt, (h.1.0.name, (tt, (h.1.0.parameters, (tt, (h.1.0.body, ((λ e. absurd (omega (arith, e)), h.1.1), tt)))))));
      closed = λ s c. c;
    }

-- ---- every value

-- methods that are none, where some came before
abbrev pub Over : (i : Item) → Value i → Type 0
Over (Methods (suc before)) [] = Unit {0}
Over _ _ = ⊥

pub split : (i : Item) (v : Value i) → Fits i v → Split i v ⊎ Over i v
split Called w h = inl (record { token = token.Name w; is_token = h; production = _; found = refl; parts = tt; made = refl; fits = tt; closed = λ s c. c })
split New w h = inl (record { token = token.Name w; is_token = h; production = _; found = refl; parts = tt; made = refl; fits = tt; closed = λ s c. c })
split Parameter w h = inl (record { token = token.Name w; is_token = h; production = _; found = refl; parts = tt; made = refl; fits = tt; closed = λ s c. c })
split (Fixed s) v h =
    inl (record { token = token.Sign (symbol_of s); is_token = tt; production = single Plain tt; found = ap (λ (b : Bool). on_test b (single {i = Fixed s} Plain tt)) (sign_found s); parts = tt; made = refl; fits = tt; closed = λ s c. c })
split (Opening depth s) v h =
    inl (record { token = token.Sign (symbol_of s); is_token = tt; production = single (Opens depth) tt; found = ap (λ (b : Bool). on_test b (single {i = Opening depth s} (Opens depth) tt)) (sign_found s); parts = tt; made = refl; fits = tt; closed = λ s c. c })
split (Target depth) e h = inl (split_target depth e h)
split (Operand depth) e h = inl (split_operand depth e h)
split (More depth compared closer) v h = inl (split_more depth compared closer v.0 v.1 h.0 h.1)
split (Expression depth closer) v h = inl (split_expression depth closer v.0 v.1 h.0 h.1)
split (Argued depth) es h = inl (split_argued depth es h)
split Failing k h = inl (record { token = token.Number k; is_token = h; production = _; found = refl; parts = tt; made = refl; fits = tt; closed = λ s c. c })
split (Letting depth) v h = inl (split_letting depth v h)
split (Block depth) b h = inl (split_block depth b h)
split (After depth) v h = inl (split_after depth v h)
split Parameters ws h = inl (split_parameters ws h)
split MoreParameters ws h = inl (split_more_parameters ws h)
split (Methods zero) [] h = absurd (omega (arith, h.0 refl))
split (Methods (suc before)) [] h = inr tt
split (Methods before) (m ∷ ms) h = inl (split_methods before m ms h)
