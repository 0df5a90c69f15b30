-- Short programs, their spelling and their marks, evaluated.
use Rattle.std.proofs.Common.{◌≡◌, ℕ, Bool, true, false, Some, None, inr, List, [], ◌∷◌, ◌++◌, codes, refl, slice_get, arith}
use Rattle.aml_tree.specs.Grammar.{IsGrammatical}
use Rattle.aml_parser.specs.Faults.{IsFirstTextFault}
use Rattle.aml_tokens.specs.declared.tokens.TextCause.TheVariants as cause
use Rattle.aml_tokens.specs.declared.tokens.Symbol.TheVariants as symbol
use Rattle.aml_tokens.specs.Token.{Token, Sign}
use Rattle.aml_tokens.specs.Lexing.{tokens, places, column_at}
use Rattle.aml_tree.specs.declared.trees.Operator.TheVariants as operator
use Rattle.aml_tree.specs.Tree.{Number, Variable, Field, Own, Group, Negative, Binary, End, Call, Set, SetField, IfElse, While, Fail, Return, TextMethod}
use Rattle.aml_tree.specs.Grammar.{program_spelling, read_spelling, IsAtLevel}
use Rattle.aml_tree.specs.Limits.{marks, opened, named, parameter, method, code_mark}

put_text : tokens (codes "method put(n) {\n f0 = f0 + n;\n return f0; }") ≡ program_spelling (record { is_read = false; name = record { name = codes "put"; line = 1 }; parameters = record { name = codes "n"; line = 1 } ∷ []; body = SetField 2 0 (Binary operator.Plus (Field 0 2) (Variable (record { name = codes "n"; line = 2 }))) (Return (Field 0 3) (End 3)) } ∷ [])
put_text = refl

move_text : tokens (codes "method move(to, n) { if f0 < n { fail 7; } else { } let r = call to put(n, -(1)); while not { r = self; } return r; }") ≡ program_spelling (record {
  is_read = false;
  name = record { name = codes "move"; line = 1 };
  parameters = record { name = codes "to"; line = 1 } ∷ record { name = codes "n"; line = 1 } ∷ [];
  body = IfElse (Binary operator.Less (Field 0 1) (Variable (record { name = codes "n"; line = 1 }))) (Fail 7 (End 1)) (End 1)
      (Call 1 (record { name = codes "r"; line = 1 }) (Variable (record { name = codes "to"; line = 1 })) (record { name = codes "put"; line = 1 }) (Variable (record { name = codes "n"; line = 1 }) ∷ Negative (Group (Number 1)) ∷ [])
      (While (Variable (record { name = codes "not"; line = 1 })) (Set (record { name = codes "r"; line = 1 }) Own (End 1)) (Return (Variable (record { name = codes "r"; line = 1 })) (End 1))));
} ∷ [])
move_text = refl

-- a method that promises only to read
peek_text : tokens (codes "read method peek() { return f0; }") ≡ program_spelling (record { is_read = true; name = record { name = codes "peek"; line = 1 }; parameters = []; body = Return (Field 0 1) (End 1) } ∷ [])
peek_text = refl

-- the token that no program goes on with has the column 29
return_for_semicolon : (slice_get (places (codes "method put(n) { f0 = f0 + n return f0; }")) 11 ≡ Some 28) × (column_at (codes "method put(n) { f0 = f0 + n return f0; }") 28 ≡ 29)
return_for_semicolon = (refl, refl)

-- minus joins from the left, and comparisons make no chain
from_the_left : IsAtLevel 5 (Binary operator.Minus (Binary operator.Minus (Number 7) (Number 2)) (Number 1))
from_the_left = search arith

not_from_the_right : ¬ IsAtLevel 5 (Binary operator.Minus (Number 7) (Binary operator.Minus (Number 2) (Number 1)))
not_from_the_right h = absurd (omega (arith, h.2.0))

no_chain : ¬ IsAtLevel 5 (Binary operator.Less (Binary operator.Less (Number 1) (Number 2)) (Number 3))
no_chain h = absurd (omega (arith, h.1.0))

last_and_first_beyond : (opened 31 ≡ None) × (opened 32 ≡ Some cause.TooDeep) × (parameter 7 ≡ None) × (parameter 8 ≡ Some cause.TooMany) × (named 31 ≡ None) × (named 32 ≡ Some cause.TooMany)
    × (method 63 ≡ None) × (method 64 ≡ Some cause.TooMany) × (code_mark 0 ≡ Some cause.NumberRange) × (code_mark 999 ≡ None) × (code_mark 1000 ≡ Some cause.NumberRange)
last_and_first_beyond = (refl, refl, refl, refl, refl, refl, refl, refl, refl, refl, refl)

-- signs and groups are one depth, and so is the block around them
one_depth : marks {V = ℕ} 31 (Negative (Group (Number 1))) ≡ None ∷ Some cause.TooDeep ∷ None ∷ None ∷ []
one_depth = refl

-- a program has at least the word `method`
not_empty : (p : List TextMethod) → IsGrammatical p → ¬ (program_spelling p ≡ [])
not_empty [] g e = absurd (omega (arith, g.some))
not_empty (m ∷ ms) g e = absurd (begun m.is_read _ _ e)
  where
    begun : (b : Bool) (ts us : List Token) → (read_spelling b ++ Sign symbol.Method ∷ ts) ++ us ≡ [] → ⊥
    begun true ts us e = cc
    begun false ts us e = cc

-- `method f() { }` is of the grammar
least_program : IsGrammatical (record { is_read = false; name = record { name = codes "f"; line = 1 }; parameters = []; body = End 1 } ∷ [])
least_program = search arith

-- the empty text ends too early, in line 1 at column 1
empty_text : IsFirstTextFault [] (record { line = 1; column = 1; cause = cause.Unexpected })
empty_text = record {
  wrong = (
    0,
    0,
    ((record { is_read = false; name = record { name = codes "f"; line = 1 }; parameters = []; body = End 1 } ∷ []), record { grammar = least_program; goes = (_, refl) }, tt),
    inr (refl, (refl, refl, not_empty)),
    refl,
    refl,
  );
}
