-- Reading operators and what ends an expression, as the functions of the code read them.
use Rattle.std.proofs.Common.{◌≡◌, ℕ, ◌+◌, Bool, true, false, if◌then◌else◌, List, [], ◌∷◌, ◌++◌, drop, Option, Some, None, Result, Ok, Err, refl, sym, ap, ◌∙◌, append_assoc, subst, slice_get}
use Rattle.std.proofs.lemmas.List.{append-nil}
use Rattle.aml_tokens.specs.declared.tokens.Symbol.{Symbol}
use Rattle.aml_tokens.specs.declared.tokens.Symbol.TheVariants as symbol
use Rattle.aml_tokens.specs.declared.tokens.TextCause.TheVariants.{Unexpected, TooDeep}
use Rattle.aml_tokens.specs.declared.tokens.Word.{Word}
use Rattle.aml_tokens.specs.Token.{Token}
use Rattle.aml_tokens.specs.Token as token
use Rattle.aml_parser.specs.declared.readers.Sign.{Sign}
use Rattle.aml_parser.specs.declared.readers.Sign.TheVariants as fixed
use Rattle.aml_tree.specs.declared.trees.Operator.{Operator}
use Rattle.aml_tree.specs.Tree.{Expr}
use Rattle.aml_parser.specs.Items.{Item, Operand, More, Expression, Closer, To, Ending, Links, Values, Plain, mark, counted, closing, single, attached, all_attached, allowed, compares, is_sign, operator_of, more_by, expand, on_test}
use Rattle.aml_parser.specs.Reading.{Fault, ◌>>=◌, production_begun, read, Takes, StopsAt, there, sign_there, if_allowed, operator_there, Chains, Chained, may_close}
use Rattle.aml_parser.proofs.Flattened.{all_attached-append}
use Rattle.aml_parser.proofs.ReadLaws.{fine}
use Rattle.aml_parser.proofs.Steps.{bound_twice, begins, takes_none, takes_by, stops_limit, stops_none, NoBegin, paired}

-- ---- an operator that is allowed

record Allowed (compared : Bool) (o : Operator) (t : Option Token) : Type 0 where
  sign : Symbol
  is : t ≡ Some (token.Sign sign)
  operator : operator_of sign ≡ Some o
  ok : allowed compared o ≡ true

if_allowed_is : (c : Bool) (x : Option Operator) (o : Operator) → if_allowed c x ≡ Some o → (x ≡ Some o) × (allowed c o ≡ true)
if_allowed_is c None o e = absurd cc
if_allowed_is c (Some p) o e = by (allowed c p) refl e
  where
    by : (b : Bool) → allowed c p ≡ b → (if b then Some p else None) ≡ Some o → (Some p ≡ Some o) × (allowed c o ≡ true)
    by true a e = let same : p ≡ o = cc in (e, ap (allowed c) (sym same) ∙ a)
    by false a e = absurd cc

allowed_is : (c : Bool) (t : Option Token) (o : Operator) → operator_there c t ≡ Some o → Allowed c o t
allowed_is c (Some (token.Sign s)) o e = let x = if_allowed_is c (operator_of s) o e in record { sign = s; is = refl; operator = x.0; ok = x.1 }
allowed_is c None o e = absurd cc
allowed_is c (Some _) o e = absurd cc

abbrev linked : (depth : ℕ) (c : Bool) (o : Operator) (closer : Closer) (s : List Item) → Values (Operand depth ∷ More depth (compares c o) closer ∷ s) → Values (More depth c closer ∷ s)
linked depth c o closer s vs = ((record { operator = o; operand = vs.0 } ∷ vs.1.0.0, vs.1.0.1), vs.1.1)

more_reads : (ts : List Token) (depth : ℕ) (c : Bool) (o : Operator) (closer : Closer) (s : List Item) (names at : ℕ) → Allowed c o (slice_get ts at)
    → read (More depth c closer ∷ s) names at (drop at ts) ≡ (read (Operand depth ∷ More depth (compares c o) closer ∷ s) names (at + 1) (drop (at + 1) ts) >>= λ vs. Ok (linked depth c o closer s vs))
more_reads ts depth c o closer s names at x =
    begins ts (More depth c closer) s names at (token.Sign x.sign) x.is
    ∙ ap (λ (q : Option Operator). production_begun (More depth c closer) s names at (more_by depth c closer x.sign q) (λ p. read (p.items ++ s) (counted names p.event) (at + 1) (drop (at + 1) ts))) x.operator
    ∙ ap (λ (b : Bool). production_begun (More depth c closer) s names at
    (on_test b (record { event = Plain; items = Operand depth ∷ More depth (compares c o) closer ∷ []; make = λ vs. (record { operator = o; operand = vs.0 } ∷ vs.1.0.0, vs.1.0.1) }))
    (λ p. read (p.items ++ s) (counted names p.event) (at + 1) (drop (at + 1) ts))) x.ok

abbrev with_links : (depth : ℕ) (c : Bool) (closer : Closer) (s : List Item) (first : Expr Word) (ls : Links) → Values (More depth c closer ∷ s) → Values (Expression depth closer ∷ s)
with_links depth c closer s first ls vs = ((all_attached first (ls ++ vs.0.0), vs.0.1), vs.1)

one_link : (depth : ℕ) (c : Bool) (o : Operator) (closer : Closer) (s : List Item) (first x : Expr Word) (ls : Links) (r : Result (Values (More depth (compares c o) closer ∷ s)) Fault)
    → (r >>= λ vs. Ok (with_links depth c closer s first ls (linked depth c o closer s (paired (Operand depth) (More depth (compares c o) closer ∷ s) x vs))))
    ≡ (r >>= λ vs. Ok (with_links depth (compares c o) closer s first (ls ++ record { operator = o; operand = x } ∷ []) vs))
one_link depth c o closer s first x ls (Err e) = refl
one_link depth c o closer s first x ls (Ok vs) =
    ap (λ (ms : Links). fine (paired (Expression depth closer) s (all_attached first ms, vs.0.1) vs.1)) (sym (append_assoc ls (record { operator = o; operand = x } ∷ []) vs.0.0))

pub chain_goes : (ts : List Token) (depth at end next : ℕ) (c : Bool) (o : Operator) (e x new : Expr Word) → Chains ts depth at e c end → operator_there c (slice_get ts end) ≡ Some o
    → ((names : ℕ) → Takes ts (Operand depth ∷ []) (x, tt) names (end + 1) names next) → new ≡ attached e o x → Chains ts depth at new (compares c o) next
chain_goes ts depth at end next c o e x new chain is operand made =
    let a = allowed_is c (slice_get ts end) o is in
    record {
      first = chain.first;
      links = chain.links ++ record { operator = o; operand = x } ∷ [];
      tree = made ∙ ap (λ (e : Expr Word). attached e o x) chain.tree ∙ sym (all_attached-append chain.links (record { operator = o; operand = x } ∷ []) chain.first);
      goes = λ closer s names.
          chain.goes closer s names
          ∙ ap (λ (r : Result (Values (More depth c closer ∷ s)) Fault). r >>= λ vs. Ok (with_links depth c closer s chain.first chain.links vs)) (more_reads ts depth c o closer s names end a)
          ∙ bound_twice (read (Operand depth ∷ More depth (compares c o) closer ∷ s) names (end + 1) (drop (end + 1) ts)) (linked depth c o closer s) (with_links depth c closer s chain.first chain.links)
          ∙ ap (λ (r : Result (Values (Operand depth ∷ More depth (compares c o) closer ∷ s)) Fault). r >>= λ vs. Ok (with_links depth c closer s chain.first chain.links (linked depth c o closer s vs)))
          ((operand names).goes (More depth (compares c o) closer ∷ s))
          ∙ bound_twice (read (More depth (compares c o) closer ∷ s) names next (drop next ts)) (λ vs. paired (Operand depth) (More depth (compares c o) closer ∷ s) x vs)
          (λ vs. with_links depth c closer s chain.first chain.links (linked depth c o closer s vs))
          ∙ one_link depth c o closer s chain.first x chain.links (read (More depth (compares c o) closer ∷ s) names next (drop next ts));
    }

pub chain_stops : (ts : List Token) (depth at end : ℕ) (c : Bool) (o : Operator) (e : Expr Word) (fault : Fault) → Chains ts depth at e c end → operator_there c (slice_get ts end) ≡ Some o
    → ((names : ℕ) → StopsAt ts (Operand depth ∷ []) names (end + 1) fault) → (closer : Closer) (names : ℕ) → StopsAt ts (Expression depth closer ∷ []) names at fault
chain_stops ts depth at end c o e fault chain is operand closer names = record {
  goes = λ s.
      chain.goes closer s names
      ∙ ap (λ (r : Result (Values (More depth c closer ∷ s)) Fault). r >>= λ vs. Ok (with_links depth c closer s chain.first chain.links vs))
      (more_reads ts depth c o closer s names end (allowed_is c (slice_get ts end) o is)
      ∙ ap (λ (r : Result (Values (Operand depth ∷ More depth (compares c o) closer ∷ s)) Fault). r >>= λ vs. Ok (linked depth c o closer s vs)) ((operand names).goes (More depth (compares c o) closer ∷ s)));
}

-- ---- the end of an expression

-- what follows a chain is what ends it
pub chain_ends : (ts : List Token) (depth at end next : ℕ) (closer : Closer) (e : Expr Word) (a : Ending closer) (names : ℕ) (chain : Chained ts depth at e end)
    → Takes ts (More depth chain.compared closer ∷ []) (([], a), tt) names end names next → Takes ts (Expression depth closer ∷ []) ((e, a), tt) names at names next
chain_ends ts depth at end next closer e a names chain x = record {
  goes = λ s.
      chain.chain.goes closer s names
      ∙ ap (λ (r : Result (Values (More depth chain.compared closer ∷ s)) Fault). r >>= λ vs. Ok (with_links depth chain.compared closer s chain.chain.first chain.chain.links vs)) (x.goes s)
      ∙ bound_twice (read s names next (drop next ts)) (λ vs. paired (More depth chain.compared closer) s ([], a) vs) (with_links depth chain.compared closer s chain.chain.first chain.chain.links)
      ∙ ap (λ (f : Expr Word). read s names next (drop next ts) >>= λ vs. Ok (paired (Expression depth closer) s (f, a) vs)) (ap (all_attached chain.chain.first) (append-nil chain.chain.links) ∙ sym chain.chain.tree);
}

pub end_stops : (ts : List Token) (depth at end : ℕ) (closer : Closer) (e : Expr Word) (names : ℕ) (fault : Fault) (chain : Chained ts depth at e end)
    → StopsAt ts (More depth chain.compared closer ∷ []) names end fault → StopsAt ts (Expression depth closer ∷ []) names at fault
end_stops ts depth at end closer e names fault chain x = record {
  goes = λ s.
      chain.chain.goes closer s names
      ∙ ap (λ (r : Result (Values (More depth chain.compared closer ∷ s)) Fault). r >>= λ vs. Ok (with_links depth chain.compared closer s chain.chain.first chain.chain.links vs)) (x.goes s);
}

record SignThere (sign : Sign) (t : Option Token) : Type 0 where
  symbol : Symbol
  is : t ≡ Some (token.Sign symbol)
  same : is_sign sign symbol ≡ true

sign_is_there : (sign : Sign) (t : Option Token) → sign_there sign t ≡ true → SignThere sign t
sign_is_there sign (Some (token.Sign s)) e = record { symbol = s; is = refl; same = e }
sign_is_there sign None e = absurd cc
sign_is_there sign (Some _) e = absurd cc

no_operator : (sign : Sign) (u : Symbol) → is_sign sign u ≡ true → operator_of u ≡ None
no_operator fixed.Open symbol.Open e = refl
no_operator fixed.Close symbol.Close e = refl
no_operator fixed.OpenBrace symbol.OpenBrace e = refl
no_operator fixed.Semicolon symbol.Semicolon e = refl
no_operator fixed.Assign symbol.Assign e = refl
no_operator fixed.Method symbol.Method e = refl
no_operator _ _ e = absurd cc

sign_found : (depth : ℕ) (c : Bool) (sign : Sign) (u : Symbol) → is_sign sign u ≡ true → expand (More depth c (To sign)) (token.Sign u) ≡ Some (single (closing depth sign) ([], tt))
sign_found depth c sign u e =
    ap (λ (q : Option Operator). more_by depth c (To sign) u q) (no_operator sign u e) ∙ ap (λ (b : Bool). on_test b (single {i = More depth c (To sign)} (closing depth sign) ([], tt))) e

may_close_mark : (depth names : ℕ) (sign : Sign) → may_close depth sign ≡ true → mark names (closing depth sign) ≡ None
may_close_mark depth names fixed.Open e = refl
may_close_mark depth names fixed.Close e = refl
may_close_mark depth names fixed.OpenBrace e = rw e refl
may_close_mark depth names fixed.Semicolon e = refl
may_close_mark depth names fixed.Assign e = refl
may_close_mark depth names fixed.Method e = refl

deep_close_mark : (depth names : ℕ) (sign : Sign) → may_close depth sign ≡ false → mark names (closing depth sign) ≡ Some TooDeep
deep_close_mark depth names fixed.Open e = absurd cc
deep_close_mark depth names fixed.Close e = absurd cc
deep_close_mark depth names fixed.OpenBrace e = rw e refl
deep_close_mark depth names fixed.Semicolon e = absurd cc
deep_close_mark depth names fixed.Assign e = absurd cc
deep_close_mark depth names fixed.Method e = absurd cc

counted_close : (depth names : ℕ) (sign : Sign) → counted names (closing depth sign) ≡ names
counted_close depth names fixed.Open = refl
counted_close depth names fixed.Close = refl
counted_close depth names fixed.OpenBrace = refl
counted_close depth names fixed.Semicolon = refl
counted_close depth names fixed.Assign = refl
counted_close depth names fixed.Method = refl

pub sign_ends : (ts : List Token) (depth at end : ℕ) (sign : Sign) (e : Expr Word) (chain : Chained ts depth at e end) → sign_there sign (slice_get ts end) ≡ true → may_close depth sign ≡ true
    → (names : ℕ) → Takes ts (Expression depth (To sign) ∷ []) ((e, tt), tt) names at names (end + 1)
sign_ends ts depth at end sign e chain there may names =
    let x = sign_is_there sign (slice_get ts end) there in
    chain_ends ts depth at end (end + 1) (To sign) e tt names chain
    (takes_by ts (More depth chain.compared (To sign)) (token.Sign x.symbol) (single (closing depth sign) ([], tt)) tt names end names (end + 1) x.is (sign_found depth chain.compared sign x.symbol x.same) (may_close_mark depth names sign may)
    (counted_takes ts names (counted names (closing depth sign)) (end + 1) (counted_close depth names sign)))
  where
    counted_takes : (ts : List Token) (names n end : ℕ) → n ≡ names → Takes ts [] tt n end names end
    counted_takes ts names n end same = subst (λ (k : ℕ). Takes ts [] tt k end names end) (sym same) (takes_none ts names end)

pub sign_deep : (ts : List Token) (depth at end : ℕ) (sign : Sign) (e : Expr Word) (chain : Chained ts depth at e end) → sign_there sign (slice_get ts end) ≡ true → may_close depth sign ≡ false
    → (names : ℕ) → StopsAt ts (Expression depth (To sign) ∷ []) names at (end, TooDeep)
sign_deep ts depth at end sign e chain there deep names =
    let x = sign_is_there sign (slice_get ts end) there in
    end_stops ts depth at end (To sign) e names (end, TooDeep) chain
    (stops_limit ts (More depth chain.compared (To sign)) (token.Sign x.symbol) (single (closing depth sign) ([], tt)) names end TooDeep x.is (sign_found depth chain.compared sign x.symbol x.same) (deep_close_mark depth names sign deep))

-- no sign and no operator that is allowed
nothing_more : (depth : ℕ) (c : Bool) (sign : Sign) (t : Option Token) → operator_there c t ≡ None → sign_there sign t ≡ false → NoBegin (More depth c (To sign)) t
nothing_more depth c sign None over none = λ s at. refl
nothing_more depth c sign (Some (token.Sign u)) over none = by (operator_of u) over
  where
    not_allowed : (p : Operator) (b : Bool) → (if b then Some p else None) ≡ None → b ≡ false
    not_allowed p true e = absurd cc
    not_allowed p false e = refl

    by : (q : Option Operator) → if_allowed c q ≡ None → more_by depth c (To sign) u q ≡ None
    by None e = ap (λ (b : Bool). on_test b (single {i = More depth c (To sign)} (closing depth sign) ([], tt))) none
    by (Some p) e = ap (λ (b : Bool). on_test b (record { event = Plain; items = Operand depth ∷ More depth (compares c p) (To sign) ∷ []; make = λ vs. (record { operator = p; operand = vs.0 } ∷ vs.1.0.0, vs.1.0.1) })) (not_allowed p (allowed c p) e)
nothing_more depth c sign (Some _) over none = refl

pub sign_none : (ts : List Token) (depth at end : ℕ) (sign : Sign) (e : Expr Word) (chain : Chained ts depth at e end) → sign_there sign (slice_get ts end) ≡ false
    → (names : ℕ) → StopsAt ts (Expression depth (To sign) ∷ []) names at (end, Unexpected)
sign_none ts depth at end sign e chain none names =
    end_stops ts depth at end (To sign) e names (end, Unexpected) chain
    (stops_none ts (More depth chain.compared (To sign)) names end (slice_get ts end) refl (nothing_more depth chain.compared sign (slice_get ts end) chain.over none))
