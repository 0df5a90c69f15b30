-- A program with all in the first line: its tokens, its grammar, its limits and its words.
use Rattle.std.proofs.Common.{◌≡◌, ℕ, ◌+◌, ◌-◌, ◌<◌, ◌≤◌, Bool, true, false, None, List, [], ◌∷◌, ◌++◌, length, map, refl, sym, ap, subst, ◌∙◌}
use Rattle.std.specs.List.{AllByRecursion}
use Rattle.std.proofs.lemmas.List.{map-append, length-map}
use Rattle.std.proofs.lemmas.List.Concat.{flat_map-cons}
use Rattle.aml_tokens.specs.declared.limits.TheConstants.{LONGEST_PROGRAM}
use Rattle.aml_tokens.specs.declared.tokens.Word.{Word}
use Rattle.aml_tokens.specs.declared.tokens.Symbol.TheVariants as symbol
use Rattle.aml_tokens.specs.Token.{Token, Name, Sign}
use Rattle.aml_tokens.specs.Lexing.{stop, tokens}
use Rattle.aml_tokens.specs.Names.{IsToken}
use Rattle.aml_tokens.specs.Writing.{nothing_written, with_tokens, in_first_line, IsReadBack}
use Rattle.aml_tree.specs.Tree.{Expr, Number, Variable, Field, Own, Group, Negative, Binary, Code, End, Let, Call, Set, SetField, If, IfElse, While, Fail, Return, TextMethod, bare_expression, without_lines, bare}
use Rattle.aml_tree.specs.Grammar.{sign, spelling, listed, block_spelling, name_spelling, read_spelling, method_spelling, program_spelling, IsWord, IsAtLevel, IsExpression, IsPrimary, IsBlock, IsMethod, level, lean}
use Rattle.aml_tree.specs.Limits.{Mark, marks, lets, block_marks, parameter_marks, method_marks, methods_marks}
use Rattle.aml_tree.specs.Programs.{IsUnmarked, IsProgram, IsProgramText, IsTextOfProgram}
use Rattle.aml_print.specs.Printing.{after}
use Rattle.aml_print.proofs.PrintingTokens.{program_tokens}

abbrev one : Word → Word
one w = record { name = w.name; line = 1 }

abbrev name_of : Word → List ℕ
name_of w = w.name

abbrev lined : Expr Word → Expr Word
lined (Number n) = Number n
lined (Variable w) = Variable (one w)
lined (Field k line) = Field k 1
lined Own = Own
lined (Group e) = Group (lined e)
lined (Negative e) = Negative (lined e)
lined (Binary o a b) = Binary o (lined a) (lined b)

abbrev block_lined : Code Word Word → Code Word Word
block_lined (End line) = End 1
block_lined (Let line v value rest) = Let 1 (one v) (lined value) (block_lined rest)
block_lined (Call line v target m arguments rest) = Call 1 (one v) (lined target) (one m) (map lined arguments) (block_lined rest)
block_lined (Set v value rest) = Set (one v) (lined value) (block_lined rest)
block_lined (SetField line k value rest) = SetField 1 k (lined value) (block_lined rest)
block_lined (If condition first rest) = If (lined condition) (block_lined first) (block_lined rest)
block_lined (IfElse condition first other rest) = IfElse (lined condition) (block_lined first) (block_lined other) (block_lined rest)
block_lined (While condition body rest) = While (lined condition) (block_lined body) (block_lined rest)
block_lined (Fail code rest) = Fail code (block_lined rest)
block_lined (Return value rest) = Return (lined value) (block_lined rest)

abbrev method_lined : TextMethod → TextMethod
method_lined m = record { is_read = m.is_read; name = one m.name; parameters = map one m.parameters; body = block_lined m.body }

-- ---- tokens

spelling_lined : (e : Expr Word) → spelling (lined e) ≡ map in_first_line (spelling e)
spelling_lined (Number n) = refl
spelling_lined (Variable w) = refl
spelling_lined (Field k line) = refl
spelling_lined Own = refl
spelling_lined (Group e) = rw (spelling_lined e, map-append in_first_line (spelling e) (Sign symbol.Close ∷ [])) refl
spelling_lined (Negative e) = rw (spelling_lined e) refl
spelling_lined (Binary o a b) = rw (spelling_lined a, spelling_lined b, map-append in_first_line (spelling a) (Sign (sign o) ∷ spelling b)) refl

listed_lined : (ls : List (List Token)) → listed (map (map in_first_line) ls) ≡ map in_first_line (listed ls)
listed_lined [] = refl
listed_lined (x ∷ []) = refl
listed_lined (x ∷ y ∷ more) = rw (listed_lined (y ∷ more), map-append in_first_line x (Sign symbol.Comma ∷ listed (y ∷ more))) refl

arguments_lined : (es : List (Expr Word)) → map spelling (map lined es) ≡ map (map in_first_line) (map spelling es)
arguments_lined [] = refl
arguments_lined (e ∷ es) = rw (spelling_lined e, arguments_lined es) refl

names_lined : (ws : List Word) → map name_spelling (map one ws) ≡ map (map in_first_line) (map name_spelling ws)
names_lined [] = refl
names_lined (w ∷ ws) = rw (names_lined ws) refl

given_lined : (es : List (Expr Word)) → listed (map spelling (map lined es)) ≡ map in_first_line (listed (map spelling es))
given_lined es = ap listed (arguments_lined es) ∙ listed_lined (map spelling es)

parameters_lined : (ws : List Word) → listed (map name_spelling (map one ws)) ≡ map in_first_line (listed (map name_spelling ws))
parameters_lined ws = ap listed (names_lined ws) ∙ listed_lined (map name_spelling ws)

value_lined : (e : Expr Word) (t : Token) (b c : List Token) → c ≡ map in_first_line b → spelling (lined e) ++ in_first_line t ∷ c ≡ map in_first_line (spelling e ++ t ∷ b)
value_lined e t b c h = rw (spelling_lined e, h, map-append in_first_line (spelling e) (t ∷ b)) refl

joined_lined : (a x b c : List Token) → x ≡ map in_first_line a → c ≡ map in_first_line b → x ++ c ≡ map in_first_line (a ++ b)
joined_lined a x b c h k = rw (h, k, map-append in_first_line a b) refl

block_spelling_lined : (c : Code Word Word) → block_spelling (block_lined c) ≡ map in_first_line (block_spelling c)
block_spelling_lined (End line) = refl
block_spelling_lined (Let line v value rest) =
    rw (value_lined value (Sign symbol.Semicolon) (block_spelling rest) (block_spelling (block_lined rest)) (block_spelling_lined rest)) refl
block_spelling_lined (Call line v target m arguments rest) =
    let given : listed (map spelling (map lined arguments)) ++ Sign symbol.Close ∷ Sign symbol.Semicolon ∷ block_spelling (block_lined rest) ≡ map in_first_line (listed (map spelling arguments) ++ Sign symbol.Close ∷ Sign symbol.Semicolon ∷ block_spelling rest) =
    joined_lined (listed (map spelling arguments)) (listed (map spelling (map lined arguments))) (Sign symbol.Close ∷ Sign symbol.Semicolon ∷ block_spelling rest) (Sign symbol.Close ∷ Sign symbol.Semicolon ∷ block_spelling (block_lined rest)) (given_lined arguments) (rw (block_spelling_lined rest) refl) in
    rw (spelling_lined target, given, map-append in_first_line (spelling target) (Name m ∷ Sign symbol.Open ∷ (listed (map spelling arguments) ++ Sign symbol.Close ∷ Sign symbol.Semicolon ∷ block_spelling rest))) refl
block_spelling_lined (Set v value rest) =
    rw (value_lined value (Sign symbol.Semicolon) (block_spelling rest) (block_spelling (block_lined rest)) (block_spelling_lined rest)) refl
block_spelling_lined (SetField line k value rest) =
    rw (value_lined value (Sign symbol.Semicolon) (block_spelling rest) (block_spelling (block_lined rest)) (block_spelling_lined rest)) refl
block_spelling_lined (If condition first rest) =
    rw (value_lined condition (Sign symbol.OpenBrace) (block_spelling first ++ block_spelling rest) (block_spelling (block_lined first) ++ block_spelling (block_lined rest))
    (joined_lined (block_spelling first) (block_spelling (block_lined first)) (block_spelling rest) (block_spelling (block_lined rest)) (block_spelling_lined first) (block_spelling_lined rest))) refl
block_spelling_lined (IfElse condition first other rest) =
    let second : block_spelling (block_lined other) ++ block_spelling (block_lined rest) ≡ map in_first_line (block_spelling other ++ block_spelling rest) =
    joined_lined (block_spelling other) (block_spelling (block_lined other)) (block_spelling rest) (block_spelling (block_lined rest)) (block_spelling_lined other) (block_spelling_lined rest) in
    let behind : block_spelling (block_lined first) ++ Sign symbol.Else ∷ Sign symbol.OpenBrace ∷ (block_spelling (block_lined other) ++ block_spelling (block_lined rest)) ≡ map in_first_line (block_spelling first ++ Sign symbol.Else ∷ Sign symbol.OpenBrace ∷ (block_spelling other ++ block_spelling rest)) =
    joined_lined (block_spelling first) (block_spelling (block_lined first)) (Sign symbol.Else ∷ Sign symbol.OpenBrace ∷ (block_spelling other ++ block_spelling rest)) (Sign symbol.Else ∷ Sign symbol.OpenBrace ∷ (block_spelling (block_lined other) ++ block_spelling (block_lined rest))) (block_spelling_lined first) (rw second refl) in
    rw (value_lined condition (Sign symbol.OpenBrace) (block_spelling first ++ Sign symbol.Else ∷ Sign symbol.OpenBrace ∷ (block_spelling other ++ block_spelling rest)) (block_spelling (block_lined first) ++ Sign symbol.Else ∷ Sign symbol.OpenBrace ∷ (block_spelling (block_lined other) ++ block_spelling (block_lined rest))) behind) refl
block_spelling_lined (While condition body rest) =
    rw (value_lined condition (Sign symbol.OpenBrace) (block_spelling body ++ block_spelling rest) (block_spelling (block_lined body) ++ block_spelling (block_lined rest))
    (joined_lined (block_spelling body) (block_spelling (block_lined body)) (block_spelling rest) (block_spelling (block_lined rest)) (block_spelling_lined body) (block_spelling_lined rest))) refl
block_spelling_lined (Fail code rest) = rw (block_spelling_lined rest) refl
block_spelling_lined (Return value rest) =
    rw (value_lined value (Sign symbol.Semicolon) (block_spelling rest) (block_spelling (block_lined rest)) (block_spelling_lined rest)) refl

read_lined : (b : Bool) → read_spelling b ≡ map in_first_line (read_spelling b)
read_lined true = refl
read_lined false = refl

method_spelling_lined : (m : TextMethod) → method_spelling (method_lined m) ≡ map in_first_line (method_spelling m)
method_spelling_lined m =
    joined_lined (read_spelling m.is_read) (read_spelling m.is_read)
    (Sign symbol.Method ∷ Name m.name ∷ Sign symbol.Open ∷ (listed (map name_spelling m.parameters) ++ Sign symbol.Close ∷ Sign symbol.OpenBrace ∷ block_spelling m.body))
    (Sign symbol.Method ∷ Name (one m.name) ∷ Sign symbol.Open ∷ (listed (map name_spelling (map one m.parameters)) ++ Sign symbol.Close ∷ Sign symbol.OpenBrace ∷ block_spelling (block_lined m.body)))
    (read_lined m.is_read)
    (rw (joined_lined (listed (map name_spelling m.parameters)) (listed (map name_spelling (map one m.parameters))) (Sign symbol.Close ∷ Sign symbol.OpenBrace ∷ block_spelling m.body) (Sign symbol.Close ∷ Sign symbol.OpenBrace ∷ block_spelling (block_lined m.body)) (parameters_lined m.parameters) (rw (block_spelling_lined m.body) refl)) refl)

program_spelling_lined : (p : List TextMethod) → program_spelling (map method_lined p) ≡ map in_first_line (program_spelling p)
program_spelling_lined [] = refl
program_spelling_lined (m ∷ ms) =
    flat_map-cons method_spelling (method_lined m) (map method_lined ms)
    ∙ joined_lined (method_spelling m) (method_spelling (method_lined m)) (program_spelling ms) (program_spelling (map method_lined ms)) (method_spelling_lined m) (program_spelling_lined ms)
    ∙ ap (map in_first_line) (sym (flat_map-cons method_spelling m ms))

-- ---- grammar

at_lined : (e : Expr Word) (k : ℕ) → IsAtLevel k e → IsAtLevel k (lined e)
at_lined (Number n) k h = h
at_lined (Variable w) k h = h
at_lined (Field f line) k h = h
at_lined Own k h = tt
at_lined (Group e) k h = at_lined e 5 h
at_lined (Negative e) k h = at_lined e 0 h
at_lined (Binary o a b) k h = (h.0, at_lined a (lean (level o)) h.1, at_lined b (level o - 1) h.2)

primary_lined : (e : Expr Word) → IsPrimary e → IsPrimary (lined e)
primary_lined (Number n) h = h
primary_lined (Variable w) h = h
primary_lined (Field f line) h = h
primary_lined Own h = tt
primary_lined (Group e) h = at_lined e 5 h
primary_lined (Negative e) h = h
primary_lined (Binary o a b) h = h

all_lined : (es : List (Expr Word)) → AllByRecursion IsExpression es → AllByRecursion IsExpression (map lined es)
all_lined [] h = tt
all_lined (e ∷ es) h = (at_lined e 5 h.0, all_lined es h.1)

is_block_lined : (c : Code Word Word) → IsBlock c → IsBlock (block_lined c)
is_block_lined (End line) h = tt
is_block_lined (Let line v value rest) h = (h.0, at_lined value 5 h.1, is_block_lined rest h.2)
is_block_lined (Call line v target m arguments rest) h = (h.0, primary_lined target h.1, h.2, all_lined arguments h.3, is_block_lined rest h.4)
is_block_lined (Set v value rest) h = (h.0, at_lined value 5 h.1, is_block_lined rest h.2)
is_block_lined (SetField line k value rest) h = (h.0, at_lined value 5 h.1, is_block_lined rest h.2)
is_block_lined (If condition first rest) h = (at_lined condition 5 h.0, is_block_lined first h.1, is_block_lined rest h.2)
is_block_lined (IfElse condition first other rest) h = (at_lined condition 5 h.0, is_block_lined first h.1, is_block_lined other h.2, is_block_lined rest h.3)
is_block_lined (While condition body rest) h = (at_lined condition 5 h.0, is_block_lined body h.1, is_block_lined rest h.2)
is_block_lined (Fail code rest) h = (h.0, is_block_lined rest h.1)
is_block_lined (Return value rest) h = (at_lined value 5 h.0, is_block_lined rest h.1)

words_lined : (ws : List Word) → AllByRecursion IsWord ws → AllByRecursion IsWord (map one ws)
words_lined [] h = tt
words_lined (w ∷ ws) h = (h.0, words_lined ws h.1)

methods_lined : (p : List TextMethod) → AllByRecursion IsMethod p → AllByRecursion IsMethod (map method_lined p)
methods_lined [] h = tt
methods_lined (m ∷ ms) h = (record { name = h.0.name; parameters = words_lined m.parameters h.0.parameters; body = is_block_lined m.body h.0.body }, methods_lined ms h.1)

-- ---- limits

marks_lined : (e : Expr Word) (d : ℕ) → marks d (lined e) ≡ marks d e
marks_lined (Number n) d = refl
marks_lined (Variable w) d = refl
marks_lined (Field k line) d = refl
marks_lined Own d = refl
marks_lined (Group e) d = rw (marks_lined e (d + 1)) refl
marks_lined (Negative e) d = rw (marks_lined e (d + 1)) refl
marks_lined (Binary o a b) d = rw (marks_lined a d, marks_lined b d) refl

given_marks_lined : (es : List (Expr Word)) (d : ℕ) → map (marks d) (map lined es) ≡ map (marks d) es
given_marks_lined [] d = refl
given_marks_lined (e ∷ es) d = rw (marks_lined e d, given_marks_lined es d) refl

lets_lined : (c : Code Word Word) → lets (block_lined c) ≡ lets c
lets_lined (End line) = refl
lets_lined (Let line v value rest) = rw (lets_lined rest) refl
lets_lined (Call line v target m arguments rest) = rw (lets_lined rest) refl
lets_lined (Set v value rest) = lets_lined rest
lets_lined (SetField line k value rest) = lets_lined rest
lets_lined (If condition first rest) = rw (lets_lined first, lets_lined rest) refl
lets_lined (IfElse condition first other rest) = rw (lets_lined first, lets_lined other, lets_lined rest) refl
lets_lined (While condition body rest) = rw (lets_lined body, lets_lined rest) refl
lets_lined (Fail code rest) = lets_lined rest
lets_lined (Return value rest) = lets_lined rest

block_marks_lined : (c : Code Word Word) (d n : ℕ) → block_marks d n (block_lined c) ≡ block_marks d n c
block_marks_lined (End line) d n = refl
block_marks_lined (Let line v value rest) d n = rw (marks_lined value d, block_marks_lined rest d (n + 1)) refl
block_marks_lined (Call line v target m arguments rest) d n = rw (marks_lined target d, given_marks_lined arguments (d + 1), block_marks_lined rest d (n + 1)) refl
block_marks_lined (Set v value rest) d n = rw (marks_lined value d, block_marks_lined rest d n) refl
block_marks_lined (SetField line k value rest) d n = rw (marks_lined value d, block_marks_lined rest d n) refl
block_marks_lined (If condition first rest) d n = rw (marks_lined condition d, block_marks_lined first (d + 1) n, lets_lined first, block_marks_lined rest d (n + lets first)) refl
block_marks_lined (IfElse condition first other rest) d n =
    rw (marks_lined condition d, block_marks_lined first (d + 1) n, lets_lined first, lets_lined other, block_marks_lined other (d + 1) (n + lets first), block_marks_lined rest d (n + lets first + lets other)) refl
block_marks_lined (While condition body rest) d n = rw (marks_lined condition d, block_marks_lined body (d + 1) n, lets_lined body, block_marks_lined rest d (n + lets body)) refl
block_marks_lined (Fail code rest) d n = rw (block_marks_lined rest d n) refl
block_marks_lined (Return value rest) d n = rw (marks_lined value d, block_marks_lined rest d n) refl

parameter_marks_lined : (ws : List Word) (n : ℕ) → parameter_marks n (map one ws) ≡ parameter_marks n ws
parameter_marks_lined [] n = refl
parameter_marks_lined (w ∷ ws) n = rw (parameter_marks_lined ws (n + 1)) refl

method_marks_lined : (m : TextMethod) (n : ℕ) → method_marks n (method_lined m) ≡ method_marks n m
method_marks_lined m n = rw (parameter_marks_lined m.parameters 0, length-map m.parameters one, block_marks_lined m.body 1 (length m.parameters)) refl

methods_marks_lined : (p : List TextMethod) (n : ℕ) → methods_marks n (map method_lined p) ≡ methods_marks n p
methods_marks_lined [] n = refl
methods_marks_lined (m ∷ ms) n =
    ap (λ (x : List Mark). x ++ methods_marks (n + 1) (map method_lined ms)) (method_marks_lined m n)
    ∙ ap (λ (x : List Mark). method_marks n m ++ x) (methods_marks_lined ms (n + 1))

program_lined : (p : List TextMethod) → IsProgram p → IsProgram (map method_lined p)
program_lined p h = record {
  grammar = record { some = subst (λ (n : ℕ). 0 < n) (sym (length-map p method_lined)) h.grammar.some; methods = methods_lined p h.grammar.methods };
  limits = subst (λ (ms : List Mark). AllByRecursion IsUnmarked ms) (sym (methods_marks_lined p 0)) h.limits;
}

-- ---- words

expression_words : (e : Expr Word) → bare_expression (lined e) ≡ bare_expression e
expression_words (Number n) = refl
expression_words (Variable w) = refl
expression_words (Field k line) = refl
expression_words Own = refl
expression_words (Group e) = rw (expression_words e) refl
expression_words (Negative e) = rw (expression_words e) refl
expression_words (Binary o a b) = rw (expression_words a, expression_words b) refl

given_words : (es : List (Expr Word)) → map bare_expression (map lined es) ≡ map bare_expression es
given_words [] = refl
given_words (e ∷ es) = rw (expression_words e, given_words es) refl

block_words : (c : Code Word Word) → without_lines (block_lined c) ≡ without_lines c
block_words (End line) = refl
block_words (Let line v value rest) = rw (expression_words value, block_words rest) refl
block_words (Call line v target m arguments rest) = rw (expression_words target, given_words arguments, block_words rest) refl
block_words (Set v value rest) = rw (expression_words value, block_words rest) refl
block_words (SetField line k value rest) = rw (expression_words value, block_words rest) refl
block_words (If condition first rest) = rw (expression_words condition, block_words first, block_words rest) refl
block_words (IfElse condition first other rest) = rw (expression_words condition, block_words first, block_words other, block_words rest) refl
block_words (While condition body rest) = rw (expression_words condition, block_words body, block_words rest) refl
block_words (Fail code rest) = rw (block_words rest) refl
block_words (Return value rest) = rw (expression_words value, block_words rest) refl

parameter_words : (ws : List Word) → map name_of (map one ws) ≡ map name_of ws
parameter_words [] = refl
parameter_words (w ∷ ws) = rw (parameter_words ws) refl

bare_lined : (p : List TextMethod) → bare (map method_lined p) ≡ bare p
bare_lined [] = refl
bare_lined (m ∷ ms) = rw (parameter_words m.parameters, block_words m.body, bare_lined ms) refl

-- ---- the printed text

-- the text that a tree's tokens are written as
abbrev pub line_of : List TextMethod → List ℕ
line_of p = (with_tokens nothing_written (program_spelling p)).text

pub after_is : (p : List TextMethod) → (after nothing_written (program_spelling p)).text ≡ line_of p
unfolding after
after_is p = refl

-- a text with the tokens of a program, all in the first line
read_as : (p : List TextMethod) (text : List ℕ) → IsProgram p → IsReadBack text (program_spelling p) → IsTextOfProgram text p
read_as p text h r = (
  map method_lined p,
  record { whole = r.whole; spelled = r.same ∙ sym (program_spelling_lined p); program = program_lined p h },
  bare_lined p,
)

abbrev TokensAreRead : Type 0
TokensAreRead = (ts : List Token) → AllByRecursion IsToken ts → length (with_tokens nothing_written ts).text ≤ LONGEST_PROGRAM → IsReadBack (with_tokens nothing_written ts).text ts

abbrev WrittenIsRead : Type 0
WrittenIsRead = (source : List ℕ) → stop source ≡ None → IsReadBack (with_tokens nothing_written (tokens source)).text (tokens source)

pub printed : TokensAreRead → (p : List TextMethod) → IsProgram p → length (line_of p) ≤ LONGEST_PROGRAM → IsTextOfProgram (line_of p) p
printed law p h fits = read_as p (line_of p) h (law (program_spelling p) (program_tokens p h.grammar.methods) fits)

pub printed_again : WrittenIsRead → (p : List TextMethod) (source : List ℕ) → IsProgramText source p → IsTextOfProgram (line_of p) p
printed_again law p source h =
    let Back : List Token → Type 0 = λ ts. IsReadBack (with_tokens nothing_written ts).text ts in
    read_as p (line_of p) h.program (subst Back h.spelled (law source h.whole))
