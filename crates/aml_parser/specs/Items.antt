-- Only private contracts cite this; the rule is Grammar.antt, with Limits.antt.
-- What is still to come in a text: items, and the values that are read of them. Each item begins with
-- a token, and its first token alone tells which items stand behind it.
use Rattle.std.specs.Prelude.{ℕ, ◌+◌, nat_lt, ◌==◌, Bool, true, false, if◌then◌else◌, List, [], ◌∷◌, ◌++◌, Option, Some, None, ⊤}
use Rattle.aml_tokens.specs.declared.tokens.Symbol.{Symbol}
use Rattle.aml_tokens.specs.declared.tokens.Symbol.TheVariants as symbol
use Rattle.aml_tokens.specs.declared.tokens.Word.{Word}
use Rattle.aml_tokens.specs.Token.{Token}
use Rattle.aml_tokens.specs.Token as token
use Rattle.aml_parser.specs.declared.readers.Sign.{Sign}
use Rattle.aml_parser.specs.declared.readers.Sign.TheVariants as fixed
use Rattle.aml_tree.specs.declared.trees.Operator.{Operator}
use Rattle.aml_tree.specs.declared.trees.Operator.TheVariants as operator
use Rattle.aml_tree.specs.declared.trees.Link.{Link}
use Rattle.aml_tree.specs.Grammar.{level}
use Rattle.aml_tree.specs.Limits.{Mark, opened, parameter, named, method, code_mark}
use Rattle.aml_tree.specs.Tree.{Expr, Number, Variable, Field, Own, Group, Negative, Binary, Code, End, Let, Call, Set, SetField, If, IfElse, While, Fail, Return, TextMethod}

-- ---- expressions as their operators come

-- an operator and its operand behind an expression: it takes the operands that bind more tightly
abbrev pub attached : {V : Type 0} → Expr V → Operator → Expr V → Expr V
attached (Binary p a b) o x = if nat_lt (level o) (level p) then Binary p a (attached b o x) else Binary o (Binary p a b) x
attached (Number n) o x = Binary o (Number n) x
attached (Variable v) o x = Binary o (Variable v) x
attached (Field k line) o x = Binary o (Field k line) x
attached Own o x = Binary o Own x
attached (Group e) o x = Binary o (Group e) x
attached (Negative e) o x = Binary o (Negative e) x

abbrev pub all_attached : {V : Type 0} → Expr V → List (Link (Expr V)) → Expr V
all_attached e [] = e
all_attached e (l ∷ ls) = all_attached (attached e l.operator l.operand) ls

-- An operator is allowed unless it compares and the conjunct has a comparison already.
abbrev pub allowed : Bool → Operator → Bool
allowed compared o = if compared then (if level o == 3 then false else true) else true

-- whether the conjunct has a comparison then
abbrev pub compares : Bool → Operator → Bool
compares compared o = if level o == 3 then true else (if nat_lt 3 (level o) then false else compared)

-- ---- items

-- what ends an expression: a sign, or, among arguments, a comma or the closing parenthesis
pub data Closer : Type 0 where
  To : (s : Sign) → Closer
  Arguments : Closer

-- Where depth is a number of levels that are open there.
pub data Item : Type 0 where
  -- a name of a method, of a new variable, of a parameter
  Called : Item
  New : Item
  Parameter : Item
  -- a sign, and one that opens a level
  Fixed : (s : Sign) → Item
  Opening : (depth : ℕ) → (s : Sign) → Item
  -- the actor of a call, an operand, and operators and operands behind one
  Target : (depth : ℕ) → Item
  Operand : (depth : ℕ) → Item
  More : (depth : ℕ) → (compared : Bool) → (closer : Closer) → Item
  -- an expression and what ends it, and the arguments of a call
  Expression : (depth : ℕ) → (closer : Closer) → Item
  Argued : (depth : ℕ) → Item
  -- the code behind `fail`
  Failing : Item
  -- what stands behind `let`, its name and `=`, up to the end of the block
  Letting : (depth : ℕ) → Item
  -- the rest of a block, and the same where `else` may come
  Block : (depth : ℕ) → Item
  After : (depth : ℕ) → Item
  -- the parameters, and those behind the first one
  Parameters : Item
  MoreParameters : Item
  -- the methods behind so many, up to the text's end
  Methods : (before : ℕ) → Item

pub data LetRest : Type 0 where
  Valued : (value : Expr Word) → (rest : Code Word Word) → LetRest
  Calling : (target : Expr Word) → (m : Word) → (arguments : List (Expr Word)) → (rest : Code Word Word) → LetRest

pub data IfRest : Type 0 where
  Without : (rest : Code Word Word) → IfRest
  WithElse : (other rest : Code Word Word) → IfRest

abbrev pub Links : Type 0
Links = List (Link (Expr Word))

-- the further arguments, where arguments are read
abbrev pub Ending : Closer → Type 0
Ending (To s) = ⊤
Ending Arguments = List (Expr Word)

abbrev pub Value : Item → Type 0
Value Called = Word
Value New = Word
Value Parameter = Word
Value (Fixed s) = ⊤
Value (Opening depth s) = ⊤
Value (Target depth) = Expr Word
Value (Operand depth) = Expr Word
Value (More depth compared closer) = Links × Ending closer
Value (Expression depth closer) = Expr Word × Ending closer
Value (Argued depth) = List (Expr Word)
Value Failing = ℕ
Value (Letting depth) = LetRest
Value (Block depth) = Code Word Word
Value (After depth) = IfRest
Value Parameters = List Word
Value MoreParameters = List Word
Value (Methods before) = List TextMethod

abbrev pub Values : List Item → Type 0
Values [] = ⊤
Values (i ∷ is) = Value i × Values is

-- values of items and of those behind them
abbrev pub front : (is behind : List Item) → Values (is ++ behind) → Values is
front [] behind vs = tt
front (i ∷ is) behind vs = (vs.0, front is behind vs.1)

abbrev pub back : (is behind : List Item) → Values (is ++ behind) → Values behind
back [] behind vs = vs
back (i ∷ is) behind vs = back is behind vs.1

abbrev pub joined_values : (is behind : List Item) → Values is → Values behind → Values (is ++ behind)
joined_values [] behind us vs = vs
joined_values (i ∷ is) behind us vs = (us.0, joined_values is behind us.1 vs)

-- ---- what a token does

pub data CountedEvent : Type 0 where
  Plain : CountedEvent
  Opens : (depth : ℕ) → CountedEvent
  Names : CountedEvent
  Parametrizes : CountedEvent
  Begins : (before : ℕ) → CountedEvent
  Codes : (code : ℕ) → CountedEvent

-- where so many names of the method are declared
abbrev pub mark : ℕ → CountedEvent → Mark
mark names Plain = None
mark names (Opens depth) = opened depth
mark names Names = named names
mark names Parametrizes = parameter names
mark names (Begins before) = method before
mark names (Codes code) = code_mark code

-- how many are declared then
abbrev pub counted : ℕ → CountedEvent → ℕ
counted names Plain = names
counted names (Opens depth) = names
counted names Names = names + 1
counted names Parametrizes = names + 1
counted names (Begins before) = 0
counted names (Codes code) = names

-- What an item's first token does, the items behind it, and the value that theirs make.
pub record Production (i : Item) : Type 0 where
  pub event : CountedEvent
  pub items : List Item
  pub make : Values items → Value i

abbrev pub renamed : {i j : Item} → (Value i → Value j) → Option (Production i) → Option (Production j)
renamed f None = None
renamed f (Some p) = Some (record { event = p.event; items = p.items; make = λ vs. f (p.make vs) })

abbrev pub followed : {i j : Item} → (is : List Item) → (Value i → Values is → Value j) → Option (Production i) → Option (Production j)
followed is f None = None
followed is f (Some p) = Some (record { event = p.event; items = p.items ++ is; make = λ vs. f (p.make (front p.items is vs)) (back p.items is vs) })

-- ---- the productions

abbrev pub is_sign : Sign → Symbol → Bool
is_sign fixed.Open symbol.Open = true
is_sign fixed.Close symbol.Close = true
is_sign fixed.OpenBrace symbol.OpenBrace = true
is_sign fixed.Semicolon symbol.Semicolon = true
is_sign fixed.Assign symbol.Assign = true
is_sign fixed.Method symbol.Method = true
is_sign _ _ = false

-- the level that a sign opens at the end of an expression
abbrev pub closing : ℕ → Sign → CountedEvent
closing depth fixed.OpenBrace = Opens depth
closing depth _ = Plain

-- the operator that a sign is
abbrev pub operator_of : Symbol → Option Operator
operator_of symbol.Or = Some operator.Or
operator_of symbol.And = Some operator.And
operator_of symbol.Equal = Some operator.Equal
operator_of symbol.NotEqual = Some operator.NotEqual
operator_of symbol.Less = Some operator.Less
operator_of symbol.LessOrEqual = Some operator.LessOrEqual
operator_of symbol.Greater = Some operator.Greater
operator_of symbol.GreaterOrEqual = Some operator.GreaterOrEqual
operator_of symbol.Plus = Some operator.Plus
operator_of symbol.Minus = Some operator.Minus
operator_of symbol.Times = Some operator.Times
operator_of symbol.Over = Some operator.Over
operator_of symbol.Remainder = Some operator.Remainder
operator_of _ = None

abbrev pub on_name : {A : Type 0} → (Word → A) → Token → Option A
on_name f (token.Name w) = Some (f w)
on_name f _ = None

abbrev pub on_sign : {A : Type 0} → (Symbol → Option A) → Token → Option A
on_sign f (token.Sign s) = f s
on_sign f _ = None

abbrev pub on_test : {A : Type 0} → Bool → A → Option A
on_test true x = Some x
on_test false x = None

-- a production of one token alone
abbrev pub single : {i : Item} → CountedEvent → Value i → Production i
single event v = record { event = event; items = []; make = λ _. v }

abbrev pub target_by_sign : (depth : ℕ) → Symbol → Option (Production (Target depth))
target_by_sign depth symbol.Own = Some (single Plain Own)
target_by_sign depth symbol.Open = Some (record { event = Opens depth; items = Expression (depth + 1) (To fixed.Close) ∷ []; make = λ vs. Group vs.0.0 })
target_by_sign depth _ = None

abbrev pub target_by : (depth : ℕ) → Token → Option (Production (Target depth))
target_by depth (token.Number n) = Some (single Plain (Number n))
target_by depth (token.Name w) = Some (single Plain (Variable w))
target_by depth (token.Field k line) = Some (single Plain (Field k line))
target_by depth (token.Sign s) = target_by_sign depth s
target_by depth (token.Let line) = None
target_by depth (token.CloseBrace line) = None

abbrev pub is_minus : Token → Bool
is_minus (token.Sign symbol.Minus) = true
is_minus _ = false

abbrev pub operand_by : (depth : ℕ) → Token → Option (Production (Operand depth))
operand_by depth t =
    if is_minus t
    then Some (record { event = Opens depth; items = Operand (depth + 1) ∷ []; make = λ vs. Negative vs.0 })
    else renamed {i = Target depth} {j = Operand depth} (λ e. e) (target_by depth t)

abbrev pub expression_by : (depth : ℕ) → (closer : Closer) → Token → Option (Production (Expression depth closer))
expression_by depth closer t = followed {i = Operand depth} {j = Expression depth closer} (More depth false closer ∷ []) (λ e vs. (all_attached e vs.0.0, vs.0.1)) (operand_by depth t)

abbrev pub ending_by : (depth : ℕ) → (compared : Bool) → (closer : Closer) → Symbol → Option (Production (More depth compared closer))
ending_by depth compared (To s) t = on_test (is_sign s t) (single (closing depth s) ([], tt))
ending_by depth compared Arguments symbol.Close = Some (single Plain ([], []))
ending_by depth compared Arguments symbol.Comma = Some (record { event = Plain; items = Expression depth Arguments ∷ []; make = λ vs. ([], vs.0.0 ∷ vs.0.1) })
ending_by depth compared Arguments _ = None

abbrev pub more_by : (depth : ℕ) → (compared : Bool) → (closer : Closer) → Symbol → Option Operator → Option (Production (More depth compared closer))
more_by depth compared closer s None = ending_by depth compared closer s
more_by depth compared closer s (Some o) =
    on_test (allowed compared o)
    (record { event = Plain; items = Operand depth ∷ More depth (compares compared o) closer ∷ []; make = λ vs. (record { operator = o; operand = vs.0 } ∷ vs.1.0.0, vs.1.0.1) })

abbrev pub is_close : Token → Bool
is_close (token.Sign symbol.Close) = true
is_close _ = false

abbrev pub argued_by : (depth : ℕ) → Token → Option (Production (Argued depth))
argued_by depth t =
    if is_close t then Some (single Plain []) else renamed {i = Expression depth Arguments} {j = Argued depth} (λ e. e.0 ∷ e.1) (expression_by depth Arguments t)

abbrev pub is_call : Token → Bool
is_call (token.Sign symbol.Call) = true
is_call _ = false

abbrev pub letting_by : (depth : ℕ) → Token → Option (Production (Letting depth))
letting_by depth t =
    if is_call t
    then Some (record {
      event = Plain;
      items = Target depth ∷ Called ∷ Opening depth fixed.Open ∷ Argued (depth + 1) ∷ Fixed fixed.Semicolon ∷ Block depth ∷ [];
      make = λ vs. Calling vs.0 vs.1.0 vs.1.1.1.0 vs.1.1.1.1.1.0;
    })
    else followed {i = Expression depth (To fixed.Semicolon)} {j = Letting depth} (Block depth ∷ []) (λ e vs. Valued e.0 vs.0) (expression_by depth (To fixed.Semicolon) t)

abbrev pub let_of : ℕ → Word → LetRest → Code Word Word
let_of line v (Valued value rest) = Let line v value rest
let_of line v (Calling target m arguments rest) = Call line v target m arguments rest

abbrev pub if_of : Expr Word → Code Word Word → IfRest → Code Word Word
if_of condition first (Without rest) = If condition first rest
if_of condition first (WithElse other rest) = IfElse condition first other rest

abbrev pub block_by_sign : (depth : ℕ) → Symbol → Option (Production (Block depth))
block_by_sign depth symbol.If =
    Some (record { event = Plain; items = Expression depth (To fixed.OpenBrace) ∷ Block (depth + 1) ∷ After depth ∷ []; make = λ vs. if_of vs.0.0 vs.1.0 vs.1.1.0 })
block_by_sign depth symbol.While =
    Some (record { event = Plain; items = Expression depth (To fixed.OpenBrace) ∷ Block (depth + 1) ∷ Block depth ∷ []; make = λ vs. While vs.0.0 vs.1.0 vs.1.1.0 })
block_by_sign depth symbol.Fail = Some (record { event = Plain; items = Failing ∷ Fixed fixed.Semicolon ∷ Block depth ∷ []; make = λ vs. Fail vs.0 vs.1.1.0 })
block_by_sign depth symbol.Return = Some (record { event = Plain; items = Expression depth (To fixed.Semicolon) ∷ Block depth ∷ []; make = λ vs. Return vs.0.0 vs.1.0 })
block_by_sign depth _ = None

abbrev pub block_by : (depth : ℕ) → Token → Option (Production (Block depth))
block_by depth (token.CloseBrace line) = Some (single Plain (End line))
block_by depth (token.Name w) = Some (record { event = Plain; items = Fixed fixed.Assign ∷ Expression depth (To fixed.Semicolon) ∷ Block depth ∷ []; make = λ vs. Set w vs.1.0.0 vs.1.1.0 })
block_by depth (token.Field k line) = Some (record { event = Plain; items = Fixed fixed.Assign ∷ Expression depth (To fixed.Semicolon) ∷ Block depth ∷ []; make = λ vs. SetField line k vs.1.0.0 vs.1.1.0 })
block_by depth (token.Sign s) = block_by_sign depth s
block_by depth (token.Let line) = Some (record { event = Plain; items = New ∷ Fixed fixed.Assign ∷ Letting depth ∷ []; make = λ vs. let_of line vs.0 vs.1.1.0 })
block_by depth (token.Number n) = None

abbrev pub is_else : Token → Bool
is_else (token.Sign symbol.Else) = true
is_else _ = false

abbrev pub after_by : (depth : ℕ) → Token → Option (Production (After depth))
after_by depth t =
    if is_else t
    then Some (record { event = Plain; items = Opening depth fixed.OpenBrace ∷ Block (depth + 1) ∷ Block depth ∷ []; make = λ vs. WithElse vs.1.0 vs.1.1.0 })
    else renamed {i = Block depth} {j = After depth} Without (block_by depth t)

abbrev pub failing_by : Token → Option (Production Failing)
failing_by (token.Number n) = Some (single (Codes n) n)
failing_by _ = None

abbrev pub parameters_by : Token → Option (Production Parameters)
parameters_by t =
    if is_close t then Some (single Plain []) else on_name (λ w. record { event = Parametrizes; items = MoreParameters ∷ []; make = λ vs. w ∷ vs.0 }) t

abbrev pub is_comma : Token → Bool
is_comma (token.Sign symbol.Comma) = true
is_comma _ = false

abbrev pub more_parameters_by : Token → Option (Production MoreParameters)
more_parameters_by t =
    if is_close t then Some (single Plain []) else on_test (is_comma t) (record { event = Plain; items = Parameter ∷ MoreParameters ∷ []; make = λ vs. vs.0 ∷ vs.1.0 })

abbrev pub is_method : Token → Bool
is_method (token.Sign symbol.Method) = true
is_method _ = false

abbrev pub is_read : Token → Bool
is_read (token.Sign symbol.Read) = true
is_read _ = false

abbrev pub methods_by_sign : (before : ℕ) → Symbol → Option (Production (Methods before))
methods_by_sign before symbol.Method =
    Some (record {
      event = Begins before;
      items = Called ∷ Opening 0 fixed.Open ∷ Parameters ∷ Opening 0 fixed.OpenBrace ∷ Block 1 ∷ Methods (before + 1) ∷ [];
      make = λ vs. record { is_read = false; name = vs.0; parameters = vs.1.1.0; body = vs.1.1.1.1.0 } ∷ vs.1.1.1.1.1.0;
    })
methods_by_sign before symbol.Read =
    Some (record {
      event = Begins before;
      items = Fixed fixed.Method ∷ Called ∷ Opening 0 fixed.Open ∷ Parameters ∷ Opening 0 fixed.OpenBrace ∷ Block 1 ∷ Methods (before + 1) ∷ [];
      make = λ vs. record { is_read = true; name = vs.1.0; parameters = vs.1.1.1.0; body = vs.1.1.1.1.1.0 } ∷ vs.1.1.1.1.1.1.0;
    })
methods_by_sign before _ = None

-- what an item's first token is followed by
abbrev pub expand : (i : Item) → Token → Option (Production i)
expand Called t = on_name (λ w. single Plain w) t
expand New t = on_name (λ w. single Names w) t
expand Parameter t = on_name (λ w. single Parametrizes w) t
expand (Fixed s) t = on_sign (λ u. on_test (is_sign s u) (single Plain tt)) t
expand (Opening depth s) t = on_sign (λ u. on_test (is_sign s u) (single (Opens depth) tt)) t
expand (Target depth) t = target_by depth t
expand (Operand depth) t = operand_by depth t
expand (More depth compared closer) t = on_sign (λ s. more_by depth compared closer s (operator_of s)) t
expand (Expression depth closer) t = expression_by depth closer t
expand (Argued depth) t = argued_by depth t
expand Failing t = failing_by t
expand (Letting depth) t = letting_by depth t
expand (Block depth) t = block_by depth t
expand (After depth) t = after_by depth t
expand Parameters t = parameters_by t
expand MoreParameters t = more_parameters_by t
expand (Methods before) t = on_sign (methods_by_sign before) t
