-- Only private contracts cite this; the rules are Programs.antt and Faults.antt.
-- Reading tokens from left to right: what the items to come are, or the first token with which nothing
-- goes on or which passes a limit.
use Rattle.std.specs.Prelude.{◌≡◌, ℕ, suc, ◌+◌, nat_lt, Bool, true, false, if◌then◌else◌, slice_get, List, [], ◌∷◌, ◌++◌, drop, Option, Some, None, Result, Ok, Err, ⊤}
use Rattle.aml_tokens.specs.declared.tokens.TextCause.{TextCause}
use Rattle.aml_tokens.specs.declared.tokens.TextCause.TheVariants.{Unexpected}
use Rattle.aml_tokens.specs.declared.tokens.Word.{Word}
use Rattle.aml_tokens.specs.Token.{Token}
use Rattle.aml_tokens.specs.Token as token
use Rattle.aml_parser.specs.declared.readers.Sign.{Sign}
use Rattle.aml_parser.specs.declared.readers.Sign.TheVariants as fixed
use Rattle.aml_tree.specs.declared.trees.Operator.{Operator}
use Rattle.aml_parser.specs.declared.readers.ReadNo.{ReadNo}
use Rattle.aml_parser.specs.declared.readers.ReadNo.TheVariants as no
use Rattle.aml_tree.specs.declared.limits.TheConstants.{MOST_LEVELS}
use Rattle.aml_tree.specs.Limits.{Mark}
use Rattle.aml_tree.specs.Tree.{Expr, Code, TextMethod, Onto}
use Rattle.aml_parser.specs.Items.{Item, Called, Opening, Parameters, Expression, More, Methods, Block, Letting, LetRest, Closer, Links, Value, Values, all_attached, allowed, let_of, is_sign, operator_of, Production, front, back, joined_values, mark, counted, expand}

-- the place of a token, and what is wrong with it
abbrev pub Fault : Type 0
Fault = ℕ × TextCause

infixl 10 ◌>>=◌
abbrev pub ◌>>=◌ : {A B : Type 0} → Result A Fault → (A → Result B Fault) → Result B Fault
(Ok x) >>= f = f x
(Err e) >>= f = Err e

-- a limit that is passed at a place
abbrev pub passing : {A : Type 0} → Mark → ℕ → Result A Fault → Result A Fault
passing None at read = read
passing (Some cause) at read = Err (at, cause)

-- behind a first token that is followed so, or with which nothing goes on
abbrev pub production_begun : (i : Item) → (s : List Item) → ℕ → ℕ → Option (Production i) → ((p : Production i) → Result (Values (p.items ++ s)) Fault) → Result (Values (i ∷ s)) Fault
production_begun i s names at None go = Err (at, Unexpected)
production_begun i s names at (Some p) go = passing (mark names p.event) at (go p >>= λ vs. Ok (p.make (front p.items s vs), back p.items s vs))

-- A text may end where methods come, if one was there.
abbrev pub text_ended : (i : Item) → (s : List Item) → ℕ → Result (Values (i ∷ s)) Fault
text_ended (Methods (suc before)) [] at = Ok ([], tt)
text_ended _ _ at = Err (at, Unexpected)

-- The items to come as the tokens from a place on have them, where so many names are declared.
unfoldable pub read : (s : List Item) → ℕ → ℕ → List Token → Result (Values s) Fault
read [] names at [] = Ok tt
read [] names at (t ∷ ts) = Err (at, Unexpected)
read (i ∷ s) names at [] = text_ended i s at
read (i ∷ s) names at (t ∷ ts) = production_begun i s names at (expand i t) (λ p. read (p.items ++ s) (counted names p.event) (at + 1) ts)

-- a program
abbrev pub program : List Token → Result (List TextMethod) Fault
program ts = read (Methods 0 ∷ []) 0 0 ts >>= λ vs. Ok vs.0

-- ---- what a function of the code reads

-- Items are these values, from a place and a number of names on up to another: behind them is read
-- what is read from there.
pub record Takes (ts : List Token) (is : List Item) (us : Values is) (names at after end : ℕ) : Type 0 where
  pub goes : (s : List Item) → read (is ++ s) names at (drop at ts) ≡ (read s after end (drop end ts) >>= λ vs. Ok (joined_values is s us vs))

-- Items are not there, for the fault.
pub record StopsAt (ts : List Token) (is : List Item) (names at : ℕ) (fault : Fault) : Type 0 where
  pub goes : (s : List Item) → read (is ++ s) names at (drop at ts) ≡ Err fault

-- a part at the front of a block
pub record TakesPart (ts : List Token) (depth : ℕ) (part : Onto Word Word) (names at after end : ℕ) : Type 0 where
  pub goes : (s : List Item) → read (Block depth ∷ s) names at (drop at ts) ≡ (read (Block depth ∷ s) after end (drop end ts) >>= λ vs. Ok (part vs.0, vs.1))

-- What a function returned is read there, or it is not there, unless memory ran out.
abbrev pub FailsToRead : (Fault → Type 0) → ReadNo → Type 0
FailsToRead stops no.Memory = ⊤
FailsToRead stops (no.At place cause) = stops (place, cause)

abbrev pub ReadsOrStops : {X : Type 0} → (X → Type 0) → (Fault → Type 0) → Result X ReadNo → Type 0
ReadsOrStops takes stops (Ok x) = takes x
ReadsOrStops takes stops (Err e) = FailsToRead stops e

-- ---- what stands at a place

abbrev pub there : (Token → Bool) → Option Token → Bool
there test None = false
there test (Some t) = test t

abbrev pub sign_there : Sign → Option Token → Bool
sign_there s (Some (token.Sign u)) = is_sign s u
sign_there s _ = false

-- an operator that is allowed
abbrev pub if_allowed : Bool → Option Operator → Option Operator
if_allowed compared None = None
if_allowed compared (Some o) = if allowed compared o then Some o else None

abbrev pub operator_there : Bool → Option Token → Option Operator
operator_there compared (Some (token.Sign s)) = if_allowed compared (operator_of s)
operator_there compared _ = None

-- An operand and the operators behind it, up to a place where no operator is allowed: what ends the
-- expression is not read yet.
pub record Chains (ts : List Token) (depth at : ℕ) (e : Expr Word) (compared : Bool) (end : ℕ) : Type 0 where
  pub first : Expr Word
  pub links : Links
  pub tree : e ≡ all_attached first links
  pub goes : (closer : Closer) (s : List Item) (names : ℕ)
      → read (Expression depth closer ∷ s) names at (drop at ts)
      ≡ (read (More depth compared closer ∷ s) names end (drop end ts) >>= λ vs. Ok ((all_attached first (links ++ vs.0.0), vs.0.1), vs.1))

pub record Chained (ts : List Token) (depth at : ℕ) (e : Expr Word) (end : ℕ) : Type 0 where
  pub compared : Bool
  pub chain : Chains ts depth at e compared end
  pub over : operator_there compared (slice_get ts end) ≡ None

-- ---- clauses of the functions that read

-- an item that declares no name, whatever is declared before it
abbrev pub ReadsItem : {X : Type 0} → (ts : List Token) → (i : Item) → (X → Value i) → (X → ℕ) → ℕ → Result X ReadNo → Type 0
ReadsItem ts i view end at result = ReadsOrStops (λ x. (names : ℕ) → Takes ts (i ∷ []) (view x, tt) names at names (end x)) (λ fault. (names : ℕ) → StopsAt ts (i ∷ []) names at fault) result

-- an operand and its operators, whatever ends the expression
abbrev pub ReadsChain : {X : Type 0} → (ts : List Token) → ℕ → (X → Expr Word) → (X → ℕ) → ℕ → Result X ReadNo → Type 0
ReadsChain ts depth view end at result = ReadsOrStops (λ x. Chained ts depth at (view x) (end x)) (λ fault. (closer : Closer) (names : ℕ) → StopsAt ts (Expression depth closer ∷ []) names at fault) result

-- whether the level that a sign opens at an expression's end may be opened
abbrev pub may_close : ℕ → Sign → Bool
may_close depth fixed.OpenBrace = nat_lt depth MOST_LEVELS
may_close depth _ = true

-- an item that ends with the rest of the block
pub record Rests (ts : List Token) (depth : ℕ) (j : Item) (f : Code Word Word → Value j) (names at after end : ℕ) : Type 0 where
  pub goes : (s : List Item) → read (j ∷ s) names at (drop at ts) ≡ (read (Block depth ∷ s) after end (drop end ts) >>= λ vs. Ok (f vs.0, vs.1))

-- what stands behind `let`, in a line, the variable and `=`, up to the rest of the block
pub record TakesLet (ts : List Token) (depth line : ℕ) (v : Word) (part : Onto Word Word) (names at after end : ℕ) : Type 0 where
  pub rest : Code Word Word → LetRest
  pub made : (code : Code Word Word) → part code ≡ let_of line v (rest code)
  pub rests : Rests ts depth (Letting depth) rest names at after end

abbrev pub ReadsLet : {X : Type 0} → (ts : List Token) → ℕ → ℕ → Word → (X → Onto Word Word) → (X → ℕ) → ℕ → Result X ReadNo → Type 0
ReadsLet ts depth line v view end at result = ReadsOrStops (λ x. (names : ℕ) → TakesLet ts depth line v (view x) names at names (end x)) (λ fault. (names : ℕ) → StopsAt ts (Letting depth ∷ []) names at fault) result

-- an item from a number of names on up to another, a part of a block, and an item that ends with the
-- block's rest
abbrev pub ReadsFrom : {X : Type 0} → (ts : List Token) → (i : Item) → (X → Value i) → (X → ℕ) → (X → ℕ) → ℕ → ℕ → Result X ReadNo → Type 0
ReadsFrom ts i view after end names at result = ReadsOrStops (λ x. Takes ts (i ∷ []) (view x, tt) names at (after x) (end x)) (λ fault. StopsAt ts (i ∷ []) names at fault) result

abbrev pub ReadsPart : {X : Type 0} → (ts : List Token) → ℕ → (X → Onto Word Word) → (X → ℕ) → (X → ℕ) → ℕ → ℕ → Result X ReadNo → Type 0
ReadsPart ts depth view after end names at result = ReadsOrStops (λ x. TakesPart ts depth (view x) names at (after x) (end x)) (λ fault. StopsAt ts (Block depth ∷ []) names at fault) result

-- a method behind the words with which it begins, where names are counted anew, up to some number of them
abbrev pub method_items : List Item
method_items = Called ∷ Opening 0 fixed.Open ∷ Parameters ∷ Opening 0 fixed.OpenBrace ∷ Block 1 ∷ []

pub record TakesMethod (ts : List Token) (is_read : Bool) (m : TextMethod) (at end : ℕ) : Type 0 where
  pub promise : m.is_read ≡ is_read
  pub after : ℕ
  pub takes : Takes ts method_items (m.name, (tt, (m.parameters, (tt, (m.body, tt))))) 0 at after end

abbrev pub ReadsMethod : {X : Type 0} → (ts : List Token) → Bool → (X → TextMethod) → (X → ℕ) → ℕ → Result X ReadNo → Type 0
ReadsMethod ts is_read view end at result = ReadsOrStops (λ x. TakesMethod ts is_read (view x) at (end x)) (λ fault. StopsAt ts method_items 0 at fault) result

-- the value that a method's parts make, with that of the methods behind it
abbrev pub begin_method : (is_read : Bool) → (before : ℕ) → Values (method_items ++ (Methods (before + 1) ∷ [])) → Values (Methods before ∷ [])
begin_method is_read before vs = (record { is_read = is_read; name = vs.0; parameters = vs.1.1.0; body = vs.1.1.1.1.0 } ∷ vs.1.1.1.1.1.0, tt)

-- the words with which a method begins behind so many others, from a place up to another
pub record TakesHead (ts : List Token) (before : ℕ) (is_read : Bool) (at start : ℕ) : Type 0 where
  pub goes : (names : ℕ) → read (Methods before ∷ []) names at (drop at ts) ≡ (read (method_items ++ (Methods (before + 1) ∷ [])) 0 start (drop start ts) >>= λ vs. Ok (begin_method is_read before vs))

abbrev pub ReadsHead : {X : Type 0} → (ts : List Token) → ℕ → (X → Bool) → (X → ℕ) → ℕ → Result X ReadNo → Type 0
ReadsHead ts before view start at result = ReadsOrStops (λ x. TakesHead ts before (view x) at (start x)) (λ fault. (names : ℕ) → read (Methods before ∷ []) names at (drop at ts) ≡ Err fault) result

-- a name, whatever item it is
abbrev pub is_name : Token → Bool
is_name (token.Name w) = true
is_name _ = false

abbrev pub ReadsName : (ts : List Token) → ℕ → Result (Word × ℕ) ReadNo → Type 0
ReadsName ts at result = ReadsOrStops (λ x. (slice_get ts at ≡ Some (token.Name x.0)) × (x.1 ≡ at + 1)) (λ fault. (fault ≡ (at, Unexpected)) × (there is_name (slice_get ts at) ≡ false)) result

-- the line of a closing brace
abbrev pub brace_there : Option Token → Option ℕ
brace_there (Some (token.CloseBrace line)) = Some line
brace_there _ = None

-- a number
abbrev pub number_there : Option Token → Option ℕ
number_there (Some (token.Number n)) = Some n
number_there _ = None
