-- What the values of items are written as: their tokens, the limits that those pass, the names that
-- they declare, and which of them are of the grammar.
use Rattle.std.proofs.Common.{◌≡◌, ℕ, ◌+◌, ◌<◌, ◌^◌, Bool, true, List, [], ◌∷◌, ◌++◌, length, None}
use Rattle.std.specs.List.{AllByRecursion}
use Rattle.aml_tokens.specs.declared.tokens.Symbol.{Symbol}
use Rattle.aml_tokens.specs.declared.tokens.Symbol.TheVariants as symbol
use Rattle.aml_tokens.specs.declared.tokens.Word.{Word}
use Rattle.aml_tokens.specs.Token.{Token}
use Rattle.aml_tokens.specs.Token as token
use Rattle.aml_parser.specs.declared.readers.Sign.{Sign}
use Rattle.aml_parser.specs.declared.readers.Sign.TheVariants as fixed
use Rattle.aml_tree.specs.Tree.{Expr, TextMethod}
use Rattle.aml_tree.specs.Grammar.{sign, spelling, block_spelling, program_spelling, IsWord, IsAtLevel, IsExpression, IsPrimary, IsBlock, IsMethod}
use Rattle.aml_tree.specs.Limits.{Mark, opened, parameter, named, code_mark, marks, lets, block_marks, methods_marks}
use Rattle.aml_parser.specs.Items.{Item, Called, New, Parameter, Fixed, Opening, Target, Operand, More, Expression, Argued, Failing, Letting, Block, After, Parameters, MoreParameters, Methods, Closer, To, Arguments, LetRest, Valued, Calling, IfRest, Without, WithElse, Links, Ending, Value, Values, allowed, compares}

-- ---- signs

abbrev pub symbol_of : Sign → Symbol
symbol_of fixed.Open = symbol.Open
symbol_of fixed.Close = symbol.Close
symbol_of fixed.OpenBrace = symbol.OpenBrace
symbol_of fixed.Semicolon = symbol.Semicolon
symbol_of fixed.Assign = symbol.Assign
symbol_of fixed.Method = symbol.Method

-- ---- tokens of values

abbrev pub further : List (Expr Word) → List Token
further [] = token.Sign symbol.Close ∷ []
further (e ∷ es) = token.Sign symbol.Comma ∷ (spelling e ++ further es)

abbrev pub arguments : List (Expr Word) → List Token
arguments [] = token.Sign symbol.Close ∷ []
arguments (e ∷ es) = spelling e ++ further es

abbrev pub ending : (closer : Closer) → Ending closer → List Token
ending (To s) a = token.Sign (symbol_of s) ∷ []
ending Arguments es = further es

abbrev pub links : Links → List Token
links [] = []
links (l ∷ ls) = token.Sign (sign l.operator) ∷ (spelling l.operand ++ links ls)

abbrev pub let_rest : LetRest → List Token
let_rest (Valued e rest) = spelling e ++ token.Sign symbol.Semicolon ∷ block_spelling rest
let_rest (Calling target m es rest) =
    token.Sign symbol.Call ∷ (spelling target ++ token.Name m ∷ token.Sign symbol.Open ∷ (arguments es ++ token.Sign symbol.Semicolon ∷ block_spelling rest))

abbrev pub if_rest : IfRest → List Token
if_rest (Without rest) = block_spelling rest
if_rest (WithElse other rest) = token.Sign symbol.Else ∷ token.Sign symbol.OpenBrace ∷ (block_spelling other ++ block_spelling rest)

abbrev pub more_parameters : List Word → List Token
more_parameters [] = token.Sign symbol.Close ∷ []
more_parameters (w ∷ ws) = token.Sign symbol.Comma ∷ token.Name w ∷ more_parameters ws

abbrev pub parameters : List Word → List Token
parameters [] = token.Sign symbol.Close ∷ []
parameters (w ∷ ws) = token.Name w ∷ more_parameters ws

abbrev pub spells : (i : Item) → Value i → List Token
spells Called w = token.Name w ∷ []
spells New w = token.Name w ∷ []
spells Parameter w = token.Name w ∷ []
spells (Fixed s) v = token.Sign (symbol_of s) ∷ []
spells (Opening depth s) v = token.Sign (symbol_of s) ∷ []
spells (Target depth) e = spelling e
spells (Operand depth) e = spelling e
spells (More depth compared closer) v = links v.0 ++ ending closer v.1
spells (Expression depth closer) v = spelling v.0 ++ ending closer v.1
spells (Argued depth) es = arguments es
spells Failing k = token.Number k ∷ []
spells (Letting depth) v = let_rest v
spells (Block depth) b = block_spelling b
spells (After depth) v = if_rest v
spells Parameters ws = parameters ws
spells MoreParameters ws = more_parameters ws
spells (Methods before) ms = program_spelling ms

abbrev pub spelled : (is : List Item) → Values is → List Token
spelled [] vs = []
spelled (i ∷ is) vs = spells i vs.0 ++ spelled is vs.1

-- ---- limits

abbrev pub further_marks : ℕ → List (Expr Word) → List Mark
further_marks depth [] = None ∷ []
further_marks depth (e ∷ es) = None ∷ (marks depth e ++ further_marks depth es)

abbrev pub argument_marks : ℕ → List (Expr Word) → List Mark
argument_marks depth [] = None ∷ []
argument_marks depth (e ∷ es) = marks depth e ++ further_marks depth es

abbrev pub closing_mark : ℕ → Sign → Mark
closing_mark depth fixed.OpenBrace = opened depth
closing_mark depth _ = None

abbrev pub ending_marks : ℕ → (closer : Closer) → Ending closer → List Mark
ending_marks depth (To s) a = closing_mark depth s ∷ []
ending_marks depth Arguments es = further_marks depth es

abbrev pub link_marks : ℕ → Links → List Mark
link_marks depth [] = []
link_marks depth (l ∷ ls) = None ∷ (marks depth l.operand ++ link_marks depth ls)

abbrev pub let_marks : ℕ → ℕ → LetRest → List Mark
let_marks depth names (Valued e rest) = marks depth e ++ None ∷ block_marks depth names rest
let_marks depth names (Calling target m es rest) =
    None ∷ (marks depth target ++ None ∷ opened depth ∷ (argument_marks (depth + 1) es ++ None ∷ block_marks depth names rest))

abbrev pub if_marks : ℕ → ℕ → IfRest → List Mark
if_marks depth names (Without rest) = block_marks depth names rest
if_marks depth names (WithElse other rest) = None ∷ opened depth ∷ (block_marks (depth + 1) names other ++ block_marks depth (names + lets other) rest)

abbrev pub more_parameter_marks : ℕ → List Word → List Mark
more_parameter_marks names [] = None ∷ []
more_parameter_marks names (w ∷ ws) = None ∷ parameter names ∷ more_parameter_marks (names + 1) ws

abbrev pub parameters_marks : ℕ → List Word → List Mark
parameters_marks names [] = None ∷ []
parameters_marks names (w ∷ ws) = parameter names ∷ more_parameter_marks (names + 1) ws

abbrev pub marked : (i : Item) → ℕ → Value i → List Mark
marked Called names w = None ∷ []
marked New names w = named names ∷ []
marked Parameter names w = parameter names ∷ []
marked (Fixed s) names v = None ∷ []
marked (Opening depth s) names v = opened depth ∷ []
marked (Target depth) names e = marks depth e
marked (Operand depth) names e = marks depth e
marked (More depth compared closer) names v = link_marks depth v.0 ++ ending_marks depth closer v.1
marked (Expression depth closer) names v = marks depth v.0 ++ ending_marks depth closer v.1
marked (Argued depth) names es = argument_marks depth es
marked Failing names k = code_mark k ∷ []
marked (Letting depth) names v = let_marks depth names v
marked (Block depth) names b = block_marks depth names b
marked (After depth) names v = if_marks depth names v
marked Parameters names ws = parameters_marks names ws
marked MoreParameters names ws = more_parameter_marks names ws
marked (Methods before) names ms = methods_marks before ms

-- ---- names

abbrev pub let_names : LetRest → ℕ
let_names (Valued e rest) = lets rest
let_names (Calling target m es rest) = lets rest

abbrev pub if_names : IfRest → ℕ
if_names (Without rest) = lets rest
if_names (WithElse other rest) = lets other + lets rest

abbrev pub method_names : ℕ → List TextMethod → ℕ
method_names names [] = names
method_names names (m ∷ ms) = method_names (length m.parameters + lets m.body) ms

-- how many are declared behind a value, where so many are before it
abbrev pub then_named : (i : Item) → ℕ → Value i → ℕ
then_named Called names w = names
then_named New names w = names + 1
then_named Parameter names w = names + 1
then_named (Fixed s) names v = names
then_named (Opening depth s) names v = names
then_named (Target depth) names e = names
then_named (Operand depth) names e = names
then_named (More depth compared closer) names v = names
then_named (Expression depth closer) names v = names
then_named (Argued depth) names es = names
then_named Failing names k = names
then_named (Letting depth) names v = names + let_names v
then_named (Block depth) names b = names + lets b
then_named (After depth) names v = names + if_names v
then_named Parameters names ws = names + length ws
then_named MoreParameters names ws = names + length ws
then_named (Methods before) names ms = method_names names ms

abbrev pub all_marked : (is : List Item) → ℕ → Values is → List Mark
all_marked [] names vs = []
all_marked (i ∷ is) names vs = marked i names vs.0 ++ all_marked is (then_named i names vs.0) vs.1

abbrev pub all_named : (is : List Item) → ℕ → Values is → ℕ
all_named [] names vs = names
all_named (i ∷ is) names vs = all_named is (then_named i names vs.0) vs.1

-- ---- grammar

abbrev pub AreLinks : Bool → Links → Type 0
AreLinks compared [] = Unit {0}
AreLinks compared (l ∷ ls) = (allowed compared l.operator ≡ true) × IsAtLevel 0 l.operand × AreLinks (compares compared l.operator) ls

abbrev pub IsEnding : (closer : Closer) → Ending closer → Type 0
IsEnding (To s) a = Unit {0}
IsEnding Arguments es = AllByRecursion IsExpression es

abbrev pub IsLetRest : LetRest → Type 0
IsLetRest (Valued e rest) = IsExpression e × IsBlock rest
IsLetRest (Calling target m es rest) = IsPrimary target × IsWord m × AllByRecursion IsExpression es × IsBlock rest

abbrev pub IsIfRest : IfRest → Type 0
IsIfRest (Without rest) = IsBlock rest
IsIfRest (WithElse other rest) = IsBlock other × IsBlock rest

abbrev pub Fits : (i : Item) → Value i → Type 0
Fits Called w = IsWord w
Fits New w = IsWord w
Fits Parameter w = IsWord w
Fits (Fixed s) v = Unit {0}
Fits (Opening depth s) v = Unit {0}
Fits (Target depth) e = IsPrimary e
Fits (Operand depth) e = IsAtLevel 0 e
Fits (More depth compared closer) v = AreLinks compared v.0 × IsEnding closer v.1
Fits (Expression depth closer) v = IsExpression v.0 × IsEnding closer v.1
Fits (Argued depth) es = AllByRecursion IsExpression es
Fits Failing k = k < 2 ^ 63
Fits (Letting depth) v = IsLetRest v
Fits (Block depth) b = IsBlock b
Fits (After depth) v = IsIfRest v
Fits Parameters ws = AllByRecursion IsWord ws
Fits MoreParameters ws = AllByRecursion IsWord ws
Fits (Methods before) ms = (before ≡ 0 → 0 < length ms) × AllByRecursion IsMethod ms

abbrev pub AllFit : (is : List Item) → Values is → Type 0
AllFit [] vs = Unit {0}
AllFit (i ∷ is) vs = Fits i vs.0 × AllFit is vs.1
