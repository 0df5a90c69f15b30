-- The program of the generated works, as a tree and checked.
use Rattle.std.proofs.Common.{◌≡◌, ℕ, ◌≤◌, Bool, true, false, List, [], ◌∷◌, codes, refl, arith}
use Rattle.std.specs.Prelude.{None, Some, ◌&&◌}
use Rattle.std.specs.List.{AllByRecursion, list_all}
use Rattle.aml_tokens.specs.declared.tokens.Word.{Word}
use Rattle.aml_tokens.specs.Lexing.{tokens, stop}
use Rattle.aml_tree.specs.declared.trees.Operator.TheVariants as operator
use Rattle.aml_tree.specs.Tree.{Expr, Number, Variable, Field, Binary, End, Let, Call, SetField, If, Return, TextMethod, CheckedMethod}
use Rattle.aml_tree.specs.Grammar.{program_spelling, IsAtLevel, IsGrammatical, IsMethod, IsWord}
use Rattle.aml_tree.specs.Limits.{Mark, program_marks}
use Rattle.aml_tree.specs.Programs.{IsProgramText, IsUnmarked}
use Rattle.aml_resolver.specs.Faults.{IsCheckedProgram}
use Rattle.aml_resolver.specs.Names.{checked_program}
use Rattle.work_text.specs.Lines.{text_of}
use Rattle.work_gen.specs.Generated.{program_lines}

abbrev word : List ℕ → ℕ → Word
word name line = record { name = name; line = line }

abbrev v : ℕ → Word
v line = word (codes "v") line

abbrev sum : ℕ → Expr Word
sum line = Binary operator.Plus (Field 0 line) (Field 1 line)

abbrev balance : TextMethod
balance = record { is_read = false; name = word (codes "balance") 1; parameters = []; body = Return (sum 1) (End 1) }

abbrev deposit : TextMethod
deposit = record {
  is_read = false;
  name = word (codes "deposit") 2;
  parameters = v 2 ∷ [];
  body = SetField 2 0 (Binary operator.Plus (Field 0 2) (Variable (v 2))) (Return (Field 0 2) (End 2));
}

abbrev savings : TextMethod
savings = record {
  is_read = false;
  name = word (codes "savings") 3;
  parameters = v 3 ∷ [];
  body = SetField 3 1 (Binary operator.Plus (Field 1 3) (Variable (v 3))) (Return (Field 1 3) (End 3));
}

abbrev amalgamate : TextMethod
amalgamate = record {
  is_read = false;
  name = word (codes "amalgamate") 4;
  parameters = word (codes "b") 4 ∷ [];
  body =
      Let 4 (word (codes "s") 4) (sum 4)
      (SetField 4 0 (Number 0)
      (SetField 4 1 (Number 0)
      (Call 4 (word (codes "r") 4) (Variable (word (codes "b") 4)) (word (codes "deposit") 4) (Variable (word (codes "s") 4) ∷ [])
      (Return (Variable (word (codes "r") 4)) (End 4)))));
}

abbrev check : TextMethod
check = record {
  is_read = false;
  name = word (codes "check") 5;
  parameters = v 5 ∷ [];
  body =
      If (Binary operator.Less (sum 5) (Variable (v 5)))
      (SetField 5 0 (Binary operator.Minus (Binary operator.Minus (Field 0 5) (Variable (v 5))) (Number 1)) (Return (Field 0 5) (End 5)))
      (SetField 5 0 (Binary operator.Minus (Field 0 5) (Variable (v 5))) (Return (Field 0 5) (End 5)));
}

abbrev pub methods : List TextMethod
methods = balance ∷ deposit ∷ savings ∷ amalgamate ∷ check ∷ []

abbrev pub program : List CheckedMethod
program = checked_program methods

-- ---- its text

whole : stop (text_of program_lines) ≡ None
whole = refl

spelled : tokens (text_of program_lines) ≡ program_spelling methods
spelled = refl

-- ---- its grammar

name_v : (line : ℕ) → IsWord (v line)
name_v line = record { first = refl; bytes = refl; short = omega arith; free = refl }

name_balance : IsWord balance.name
name_balance = record { first = refl; bytes = refl; short = omega arith; free = refl }

name_deposit : (line : ℕ) → IsWord (word (codes "deposit") line)
name_deposit line = record { first = refl; bytes = refl; short = omega arith; free = refl }

name_savings : IsWord savings.name
name_savings = record { first = refl; bytes = refl; short = omega arith; free = refl }

name_amalgamate : IsWord amalgamate.name
name_amalgamate = record { first = refl; bytes = refl; short = omega arith; free = refl }

name_check : IsWord check.name
name_check = record { first = refl; bytes = refl; short = omega arith; free = refl }

name_b : IsWord (word (codes "b") 4)
name_b = record { first = refl; bytes = refl; short = omega arith; free = refl }

name_s : IsWord (word (codes "s") 4)
name_s = record { first = refl; bytes = refl; short = omega arith; free = refl }

name_r : IsWord (word (codes "r") 4)
name_r = record { first = refl; bytes = refl; short = omega arith; free = refl }

sum_at : (k line : ℕ) → 2 ≤ k → IsAtLevel k (sum line)
sum_at k line le = (le, omega arith, omega arith)

of_balance : IsMethod balance
of_balance = record { name = name_balance; parameters = tt; body = (sum_at 5 1 (omega arith), tt) }

of_deposit : IsMethod deposit
of_deposit = record { name = name_deposit 2; parameters = (name_v 2, tt); body = (omega arith, (omega arith, omega arith, name_v 2), (omega arith, tt)) }

of_savings : IsMethod savings
of_savings = record { name = name_savings; parameters = (name_v 3, tt); body = (omega arith, (omega arith, omega arith, name_v 3), (omega arith, tt)) }

of_amalgamate : IsMethod amalgamate
of_amalgamate = record {
  name = name_amalgamate;
  parameters = (name_b, tt);
  body = (name_s, sum_at 5 4 (omega arith), (omega arith, omega arith, (omega arith, omega arith, (name_r, name_b, name_deposit 4, (name_s, tt), (name_r, tt)))));
}

of_check : IsMethod check
of_check = record {
  name = name_check;
  parameters = (name_v 5, tt);
  body = (
    (omega arith, sum_at 2 5 (omega arith), name_v 5),
    (omega arith, (omega arith, (omega arith, omega arith, name_v 5), omega arith), (omega arith, tt)),
    (omega arith, (omega arith, omega arith, name_v 5), (omega arith, tt)),
  );
}

grammar : IsGrammatical methods
grammar = record { some = omega arith; methods = (of_balance, (of_deposit, (of_savings, (of_amalgamate, (of_check, tt))))) }

-- ---- its limits

abbrev is_unmarked : Mark → Bool
is_unmarked None = true
is_unmarked (Some c) = false

one_unmarked : (m : Mark) → is_unmarked m ≡ true → IsUnmarked m
one_unmarked None e = refl
one_unmarked (Some c) e = absurd (cc e)

unmarked_by : (t : Bool) (m : Mark) (ms : List Mark) → is_unmarked m ≡ t → (t && list_all is_unmarked ms) ≡ true → (list_all is_unmarked ms ≡ true → AllByRecursion IsUnmarked ms) → AllByRecursion IsUnmarked (m ∷ ms)
unmarked_by true m ms e all more = (one_unmarked m e, more all)
unmarked_by false m ms e all more = absurd (cc all)

unmarked : (ms : List Mark) → list_all is_unmarked ms ≡ true → AllByRecursion IsUnmarked ms
unmarked [] e = tt
unmarked (m ∷ ms) e = unmarked_by (is_unmarked m) m ms refl e (unmarked ms)

limits : AllByRecursion IsUnmarked (program_marks methods)
limits = unmarked (program_marks methods) refl

pub program_text : IsProgramText (text_of program_lines) methods
program_text = record { whole = whole; spelled = spelled; program = record { grammar = grammar; limits = limits } }

pub checked : IsCheckedProgram methods program
checked = record { faultless = refl; resolved = refl }
