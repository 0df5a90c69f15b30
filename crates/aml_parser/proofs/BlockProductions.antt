-- Every production of statements, parameters and methods makes what is written as its token and its
-- items, and so does every production.
use Rattle.std.proofs.Common.{◌≡◌, ℕ, ◌+◌, true, false, List, [], ◌∷◌, ◌++◌, length, map, None, refl, sym, ap, ◌∙◌, append_assoc, arith}
use Rattle.std.proofs.lemmas.List.{append-nil}
use Rattle.std.proofs.lemmas.List.Concat.{flat_map-cons}
use Rattle.aml_tokens.specs.Names.{IsToken}
use Rattle.aml_tokens.specs.declared.tokens.Symbol.TheVariants as symbol
use Rattle.aml_tokens.specs.declared.tokens.Word.{Word}
use Rattle.aml_tokens.specs.Token.{Token}
use Rattle.aml_tokens.specs.Token as token
use Rattle.aml_parser.specs.declared.readers.Sign.TheVariants as fixed
use Rattle.aml_tree.specs.Tree.{Expr, Code, TextMethod}
use Rattle.aml_tree.specs.Grammar.{spelling, block_spelling, read_spelling, method_spelling, program_spelling, name_spelling, listed, IsExpression, IsBlock}
use Rattle.aml_tree.specs.Limits.{Mark, method, opened, named, marks, lets, block_marks, head_marks, method_marks, methods_marks, listed_marks, parameter_marks}
use Rattle.aml_parser.specs.Items.{Item, Called, New, Parameter, Fixed, Opening, Target, Operand, More, Expression, Argued, Failing, Letting, Block, After, Parameters, MoreParameters, Methods, To, LetRest, Valued, Calling, IfRest, Without, WithElse, expression_by, letting_by, let_of, if_of, block_by, after_by, parameters_by, more_parameters_by, expand}
use Rattle.aml_parser.proofs.Written.{let_rest, if_rest, let_marks, if_marks, let_names, if_names, parameters, parameters_marks, method_names, IsLetRest, IsIfRest}
use Rattle.aml_parser.proofs.Lists.{arguments_listed, arguments_marked, parameters_listed, parameters_marked}
use Rattle.aml_parser.proofs.Made.{Good, good_renamed, Joins, good_followed}
use Rattle.aml_parser.proofs.Productions.{good_called, good_new, good_parameter, good_fixed, good_opening, good_failing, good_target, good_operand, good_expression, good_behind, good_argued}

-- ---- statements with a rest

let_tokens : (line : ℕ) (v : Word) (r : LetRest) → block_spelling (let_of line v r) ≡ token.Let line ∷ token.Name v ∷ token.Sign symbol.Assign ∷ let_rest r
let_tokens line v (Valued e rest) = refl
let_tokens line v (Calling target m es rest) =
    ap (λ (ts : List Token). token.Let line ∷ token.Name v ∷ token.Sign symbol.Assign ∷ token.Sign symbol.Call ∷ (spelling target ++ token.Name m ∷ token.Sign symbol.Open ∷ ts))
    (arguments_listed es (token.Sign symbol.Semicolon ∷ block_spelling rest))

let_marked : (depth n line : ℕ) (v : Word) (r : LetRest) → block_marks depth n (let_of line v r) ≡ None ∷ named n ∷ None ∷ let_marks depth (n + 1) r
let_marked depth n line v (Valued e rest) = refl
let_marked depth n line v (Calling target m es rest) =
    ap (λ (ms : List Mark). None ∷ named n ∷ None ∷ None ∷ (marks depth target ++ None ∷ opened depth ∷ ms)) (arguments_marked (depth + 1) es (None ∷ block_marks depth (n + 1) rest))

let_named : (n line : ℕ) (v : Word) (r : LetRest) → n + lets (let_of line v r) ≡ n + 1 + let_names r
let_named n line v (Valued e rest) = omega arith
let_named n line v (Calling target m es rest) = omega arith

let_fits : (line : ℕ) (v : Word) (r : LetRest) (h : IsToken (token.Name v)) → IsLetRest r → IsBlock (let_of line v r)
let_fits line v (Valued e rest) h fit = (h, fit.0, fit.1)
let_fits line v (Calling target m es rest) h fit = (h, fit.0, fit.1, fit.2, fit.3)

if_tokens : (c : Expr Word) (first : Code Word Word) (r : IfRest) → block_spelling (if_of c first r) ≡ token.Sign symbol.If ∷ (spelling c ++ token.Sign symbol.OpenBrace ∷ (block_spelling first ++ if_rest r))
if_tokens c first (Without rest) = refl
if_tokens c first (WithElse other rest) = refl

if_marked : (depth n : ℕ) (c : Expr Word) (first : Code Word Word) (r : IfRest) → block_marks depth n (if_of c first r) ≡ None ∷ (marks depth c ++ opened depth ∷ (block_marks (depth + 1) n first ++ if_marks depth (n + lets first) r))
if_marked depth n c first (Without rest) = refl
if_marked depth n c first (WithElse other rest) = refl

if_named : (n : ℕ) (c : Expr Word) (first : Code Word Word) (r : IfRest) → n + lets (if_of c first r) ≡ n + lets first + if_names r
if_named n c first (Without rest) = omega arith
if_named n c first (WithElse other rest) = omega arith

if_fits : (c : Expr Word) (first : Code Word Word) (r : IfRest) → IsExpression c → IsBlock first → IsIfRest r → IsBlock (if_of c first r)
if_fits c first (Without rest) a b fit = (a, b, fit)
if_fits c first (WithElse other rest) a b fit = (a, b, fit.0, fit.1)

-- ---- statements

good_block : (depth : ℕ) (t : Token) → IsToken t → Good (Block depth) t (block_by depth t)
good_block depth (token.CloseBrace line) h = λ us. record { fits = λ _. tt; tokens = refl; marks = λ n. refl; names = λ n. omega arith }
good_block depth (token.Name w) h = λ us. record {
  fits = λ fit. (h, fit.1.0.0, fit.1.1.0);
  tokens = simp (append_assoc, append-nil) refl;
  marks = λ n. simp (append_assoc, append-nil) refl;
  names = λ n. refl;
}
good_block depth (token.Field k line) h = λ us. record {
  fits = λ fit. (h, fit.1.0.0, fit.1.1.0);
  tokens = simp (append_assoc, append-nil) refl;
  marks = λ n. simp (append_assoc, append-nil) refl;
  names = λ n. refl;
}
good_block depth (token.Let line) h = λ us. record {
  fits = λ fit. let_fits line us.0 us.1.1.0 fit.0 fit.1.1.0;
  tokens = let_tokens line us.0 us.1.1.0 ∙ ap (λ (ts : List Token). token.Let line ∷ token.Name us.0 ∷ token.Sign symbol.Assign ∷ ts) (sym (append-nil (let_rest us.1.1.0)));
  marks = λ n. let_marked depth n line us.0 us.1.1.0 ∙ ap (λ (ms : List Mark). None ∷ named n ∷ None ∷ ms) (sym (append-nil (let_marks depth (n + 1) us.1.1.0)));
  names = λ n. let_named n line us.0 us.1.1.0;
}
good_block depth (token.Sign symbol.If) h = λ us. record {
  fits = λ fit. if_fits us.0.0 us.1.0 us.1.1.0 fit.0.0 fit.1.0 fit.1.1.0;
  tokens = if_tokens us.0.0 us.1.0 us.1.1.0 ∙ simp (append_assoc, append-nil) refl;
  marks = λ n. if_marked depth n us.0.0 us.1.0 us.1.1.0 ∙ simp (append_assoc, append-nil) refl;
  names = λ n. if_named n us.0.0 us.1.0 us.1.1.0;
}
good_block depth (token.Sign symbol.While) h = λ us. record {
  fits = λ fit. (fit.0.0, fit.1.0, fit.1.1.0);
  tokens = simp (append_assoc, append-nil) refl;
  marks = λ n. simp (append_assoc, append-nil) refl;
  names = λ n. omega arith;
}
good_block depth (token.Sign symbol.Fail) h = λ us. record {
  fits = λ fit. (fit.0, fit.1.1.0);
  tokens = simp (append_assoc, append-nil) refl;
  marks = λ n. simp (append_assoc, append-nil) refl;
  names = λ n. refl;
}
good_block depth (token.Sign symbol.Return) h = λ us. record {
  fits = λ fit. (fit.0.0, fit.1.0);
  tokens = simp (append_assoc, append-nil) refl;
  marks = λ n. simp (append_assoc, append-nil) refl;
  names = λ n. refl;
}
good_block depth _ h = tt

joins_let : (depth : ℕ) → Joins (Expression depth (To fixed.Semicolon)) (Block depth ∷ []) (Letting depth) (λ e vs. Valued e.0 vs.0)
joins_let depth = record {
  fits = λ e vs h fit. (h.0, fit.0);
  tokens = λ e vs. simp (append_assoc, append-nil) refl;
  marks = λ n e vs. simp (append_assoc, append-nil) refl;
  names = λ n e vs. refl;
}

good_letting : (depth : ℕ) (t : Token) → IsToken t → Good (Letting depth) t (letting_by depth t)
good_letting depth (token.Sign symbol.Call) h = λ us. record {
  fits = λ fit. (fit.0, fit.1.0, fit.1.1.1.0, fit.1.1.1.1.1.0);
  tokens = simp (append_assoc, append-nil) refl;
  marks = λ n. simp (append_assoc, append-nil) refl;
  names = λ n. refl;
}
good_letting depth t h =
    good_followed (Expression depth (To fixed.Semicolon)) (Block depth ∷ []) (Letting depth) (λ e vs. Valued e.0 vs.0) t (expression_by depth (To fixed.Semicolon) t) (joins_let depth) (good_expression depth (To fixed.Semicolon) t h)

good_after : (depth : ℕ) (t : Token) → IsToken t → Good (After depth) t (after_by depth t)
good_after depth (token.Sign symbol.Else) h = λ us. record {
  fits = λ fit. (fit.1.0, fit.1.1.0);
  tokens = simp (append_assoc, append-nil) refl;
  marks = λ n. simp (append_assoc, append-nil) refl;
  names = λ n. omega arith;
}
good_after depth t h =
    good_renamed (Block depth) (After depth) Without t (block_by depth t) (record { fits = λ e h. h; tokens = λ e. refl; marks = λ n e. refl; names = λ n e. refl }) (good_block depth t h)

-- ---- parameters and methods

good_parameters : (t : Token) → IsToken t → Good Parameters t (parameters_by t)
good_parameters (token.Sign symbol.Close) h = λ us. record { fits = λ _. tt; tokens = refl; marks = λ n. refl; names = λ n. omega arith }
good_parameters (token.Name w) h = λ us. record {
  fits = λ fit. (h, fit.0);
  tokens = simp (append-nil) refl;
  marks = λ n. simp (append-nil) refl;
  names = λ n. omega arith;
}
good_parameters _ h = tt

good_more_parameters : (t : Token) → IsToken t → Good MoreParameters t (more_parameters_by t)
good_more_parameters (token.Sign symbol.Close) h = λ us. record { fits = λ _. tt; tokens = refl; marks = λ n. refl; names = λ n. omega arith }
good_more_parameters (token.Sign symbol.Comma) h = λ us. record {
  fits = λ fit. (fit.0, fit.1.0);
  tokens = simp (append-nil) refl;
  marks = λ n. simp (append-nil) refl;
  names = λ n. omega arith;
}
good_more_parameters _ h = tt

method_tokens : (m : TextMethod) (rest : List Token)
    → method_spelling m ++ rest ≡ read_spelling m.is_read ++ token.Sign symbol.Method ∷ token.Name m.name ∷ token.Sign symbol.Open ∷ (parameters m.parameters ++ token.Sign symbol.OpenBrace ∷ (block_spelling m.body ++ rest))
method_tokens m rest =
    append_assoc (read_spelling m.is_read) (token.Sign symbol.Method ∷ token.Name m.name ∷ token.Sign symbol.Open ∷ (listed (map name_spelling m.parameters) ++ token.Sign symbol.Close ∷ token.Sign symbol.OpenBrace ∷ block_spelling m.body)) rest
    ∙ ap (λ (ts : List Token). read_spelling m.is_read ++ token.Sign symbol.Method ∷ token.Name m.name ∷ token.Sign symbol.Open ∷ ts)
    (append_assoc (listed (map name_spelling m.parameters)) (token.Sign symbol.Close ∷ token.Sign symbol.OpenBrace ∷ block_spelling m.body) rest
    ∙ parameters_listed m.parameters (token.Sign symbol.OpenBrace ∷ (block_spelling m.body ++ rest)))

method_marked : (before : ℕ) (m : TextMethod) (rest : List Mark)
    → method_marks before m ++ rest ≡ head_marks m.is_read before ++ None ∷ opened 0 ∷ (parameters_marks 0 m.parameters ++ opened 0 ∷ (block_marks 1 (length m.parameters) m.body ++ rest))
method_marked before m rest =
    append_assoc (head_marks m.is_read before) (None ∷ opened 0 ∷ (listed_marks (parameter_marks 0 m.parameters) ++ None ∷ opened 0 ∷ block_marks 1 (length m.parameters) m.body)) rest
    ∙ ap (λ (ms : List Mark). head_marks m.is_read before ++ None ∷ opened 0 ∷ ms)
    (append_assoc (listed_marks (parameter_marks 0 m.parameters)) (None ∷ opened 0 ∷ block_marks 1 (length m.parameters) m.body) rest
    ∙ parameters_marked 0 m.parameters (opened 0 ∷ (block_marks 1 (length m.parameters) m.body ++ rest)))

good_methods : (before : ℕ) (t : Token) → Good (Methods before) t (expand (Methods before) t)
good_methods before (token.Sign symbol.Read) = λ us.
    let m : TextMethod = record { is_read = true; name = us.1.0; parameters = us.1.1.1.0; body = us.1.1.1.1.1.0 } in
    let count : length m.parameters ≡ 0 + length m.parameters = omega arith in
    record {
      fits = λ fit. (λ _. omega arith, (record { name = fit.1.0; parameters = fit.1.1.1.0; body = fit.1.1.1.1.1.0 }, fit.1.1.1.1.1.1.0.1));
      tokens = flat_map-cons method_spelling m us.1.1.1.1.1.1.0 ∙ method_tokens m (program_spelling us.1.1.1.1.1.1.0) ∙ simp (append_assoc, append-nil) refl;
      marks = λ n.
          method_marked before m (methods_marks (before + 1) us.1.1.1.1.1.1.0)
          ∙ ap (λ (k : ℕ). method before ∷ None ∷ None ∷ opened 0 ∷ (parameters_marks 0 m.parameters ++ opened 0 ∷ (block_marks 1 k m.body ++ methods_marks (before + 1) us.1.1.1.1.1.1.0))) count
          ∙ simp (append_assoc, append-nil) refl;
      names = λ n. ap (λ (k : ℕ). method_names (k + lets m.body) us.1.1.1.1.1.1.0) count;
    }
good_methods before (token.Sign symbol.Method) = λ us.
    let m : TextMethod = record { is_read = false; name = us.0; parameters = us.1.1.0; body = us.1.1.1.1.0 } in
    let count : length m.parameters ≡ 0 + length m.parameters = omega arith in
    record {
      fits = λ fit. (λ _. omega arith, (record { name = fit.0; parameters = fit.1.1.0; body = fit.1.1.1.1.0 }, fit.1.1.1.1.1.0.1));
      tokens = flat_map-cons method_spelling m us.1.1.1.1.1.0 ∙ method_tokens m (program_spelling us.1.1.1.1.1.0) ∙ simp (append_assoc, append-nil) refl;
      marks = λ n.
          method_marked before m (methods_marks (before + 1) us.1.1.1.1.1.0)
          ∙ ap (λ (k : ℕ). method before ∷ None ∷ opened 0 ∷ (parameters_marks 0 m.parameters ++ opened 0 ∷ (block_marks 1 k m.body ++ methods_marks (before + 1) us.1.1.1.1.1.0))) count
          ∙ simp (append_assoc, append-nil) refl;
      names = λ n. ap (λ (k : ℕ). method_names (k + lets m.body) us.1.1.1.1.1.0) count;
    }
good_methods before _ = tt

-- ---- every item

pub good : (i : Item) (t : Token) → IsToken t → Good i t (expand i t)
good Called t h = good_called t h
good New t h = good_new t h
good Parameter t h = good_parameter t h
good (Fixed s) t h = good_fixed s t
good (Opening depth s) t h = good_opening depth s t
good (Target depth) t h = good_target depth t h
good (Operand depth) t h = good_operand depth t h
good (More depth compared closer) t h = good_behind depth compared closer t
good (Expression depth closer) t h = good_expression depth closer t h
good (Argued depth) t h = good_argued depth t h
good Failing t h = good_failing t h
good (Letting depth) t h = good_letting depth t h
good (Block depth) t h = good_block depth t h
good (After depth) t h = good_after depth t h
good Parameters t h = good_parameters t h
good MoreParameters t h = good_more_parameters t h
good (Methods before) t h = good_methods before t
