-- The tokens of a program's tree are tokens that a text may have.
use Rattle.std.proofs.Common.{ℕ, ◌-◌, Bool, true, false, List, [], ◌∷◌, ◌++◌, map, subst, sym}
use Rattle.std.specs.List.{AllByRecursion}
use Rattle.std.proofs.lemmas.List.Concat.{flat_map-cons}
use Rattle.aml_tokens.specs.declared.tokens.Word.{Word}
use Rattle.aml_tokens.specs.Token.{Token}
use Rattle.aml_tokens.specs.Names.{IsToken}
use Rattle.aml_tree.specs.Tree.{Expr, Number, Variable, Field, Own, Group, Negative, Binary, Code, End, Let, Call, Set, SetField, If, IfElse, While, Fail, Return, TextMethod}
use Rattle.aml_tree.specs.Grammar.{spelling, listed, block_spelling, name_spelling, read_spelling, method_spelling, program_spelling, IsWord, IsAtLevel, IsExpression, IsPrimary, IsBlock, IsMethod, level, lean}

abbrev Are : List Token → Type 0
Are ts = AllByRecursion IsToken ts

both : (xs ys : List Token) → Are xs → Are ys → Are (xs ++ ys)
both [] ys h k = k
both (x ∷ xs) ys h k = (h.0, both xs ys h.1 k)

expression : (e : Expr Word) (k : ℕ) → IsAtLevel k e → Are (spelling e)
expression (Number n) k h = (h, tt)
expression (Variable w) k h = (h, tt)
expression (Field f line) k h = (h, tt)
expression Own k h = (tt, tt)
expression (Group e) k h = (tt, both (spelling e) _ (expression e 5 h) (tt, tt))
expression (Negative e) k h = (tt, expression e 0 h)
expression (Binary o a b) k h = both (spelling a) _ (expression a (lean (level o)) h.1) (tt, expression b (level o - 1) h.2)

primary : (e : Expr Word) → IsPrimary e → Are (spelling e)
primary (Number n) h = (h, tt)
primary (Variable w) h = (h, tt)
primary (Field f line) h = (h, tt)
primary Own h = (tt, tt)
primary (Group e) h = (tt, both (spelling e) _ (expression e 5 h) (tt, tt))
primary (Negative e) h = absurd h
primary (Binary o a b) h = absurd h

all_listed : (ls : List (List Token)) → AllByRecursion (λ (ts : List Token). Are ts) ls → Are (listed ls)
all_listed [] h = tt
all_listed (x ∷ []) h = h.0
all_listed (x ∷ y ∷ more) h = both x _ h.0 (tt, all_listed (y ∷ more) h.1)

arguments : (es : List (Expr Word)) → AllByRecursion IsExpression es → AllByRecursion (λ (ts : List Token). Are ts) (map spelling es)
arguments [] h = tt
arguments (e ∷ es) h = (expression e 5 h.0, arguments es h.1)

parameters : (ws : List Word) → AllByRecursion IsWord ws → AllByRecursion (λ (ts : List Token). Are ts) (map name_spelling ws)
parameters [] h = tt
parameters (w ∷ ws) h = ((h.0, tt), parameters ws h.1)

block : (c : Code Word Word) → IsBlock c → Are (block_spelling c)
block (End line) h = (tt, tt)
block (Let line v value rest) h = (tt, (h.0, (tt, both (spelling value) _ (expression value 5 h.1) (tt, block rest h.2))))
block (Call line v target m given rest) h =
    (tt, (h.0, (tt, (tt, both (spelling target) _ (primary target h.1) (h.2, (tt, both (listed (map spelling given)) _ (all_listed (map spelling given) (arguments given h.3)) (tt, (tt, block rest h.4))))))))
block (Set v value rest) h = (h.0, (tt, both (spelling value) _ (expression value 5 h.1) (tt, block rest h.2)))
block (SetField line k value rest) h = (h.0, (tt, both (spelling value) _ (expression value 5 h.1) (tt, block rest h.2)))
block (If condition first rest) h = (tt, both (spelling condition) _ (expression condition 5 h.0) (tt, both (block_spelling first) _ (block first h.1) (block rest h.2)))
block (IfElse condition first other rest) h =
    (tt, both (spelling condition) _ (expression condition 5 h.0) (tt, both (block_spelling first) _ (block first h.1) (tt, (tt, both (block_spelling other) _ (block other h.2) (block rest h.3)))))
block (While condition body rest) h = (tt, both (spelling condition) _ (expression condition 5 h.0) (tt, both (block_spelling body) _ (block body h.1) (block rest h.2)))
block (Fail code rest) h = (tt, (h.0, (tt, block rest h.1)))
block (Return value rest) h = (tt, both (spelling value) _ (expression value 5 h.0) (tt, block rest h.1))

read_word : (b : Bool) → Are (read_spelling b)
read_word true = (tt, tt)
read_word false = tt

method : (m : TextMethod) → IsMethod m → Are (method_spelling m)
method m h = both (read_spelling m.is_read) _ (read_word m.is_read) (tt, (h.name, (tt, both (listed (map name_spelling m.parameters)) _ (all_listed (map name_spelling m.parameters) (parameters m.parameters h.parameters)) (tt, (tt, block m.body h.body)))))

pub program_tokens : (p : List TextMethod) → AllByRecursion IsMethod p → AllByRecursion IsToken (program_spelling p)
program_tokens [] h = tt
program_tokens (m ∷ ms) h =
    subst (λ (ts : List Token). AllByRecursion IsToken ts) (sym (flat_map-cons method_spelling m ms)) (both (method_spelling m) (program_spelling ms) (method m h.0) (program_tokens ms h.1))
