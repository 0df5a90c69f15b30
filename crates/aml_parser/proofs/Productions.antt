-- Every production makes what is written as its token and its items.
use Rattle.std.proofs.Common.{◌≡◌, ℕ, ◌+◌, Bool, true, false, List, [], ◌∷◌, ◌++◌, Option, Some, None, refl, sym, ap, ◌∙◌, append_assoc}
use Rattle.std.proofs.lemmas.List.{append-nil}
use Rattle.aml_tokens.specs.declared.tokens.Symbol.{Symbol}
use Rattle.aml_tokens.specs.declared.tokens.Symbol.TheVariants as symbol
use Rattle.aml_tokens.specs.declared.tokens.Word.{Word}
use Rattle.aml_tokens.specs.Token.{Token}
use Rattle.aml_tokens.specs.Token as token
use Rattle.aml_tokens.specs.Names.{IsToken}
use Rattle.aml_parser.specs.declared.readers.Sign.{Sign}
use Rattle.aml_parser.specs.declared.readers.Sign.TheVariants as fixed
use Rattle.aml_tree.specs.declared.trees.Operator.{Operator}
use Rattle.aml_tree.specs.Tree.{Expr, Number, Variable, Field, Own, Group, Negative, Binary}
use Rattle.aml_tree.specs.Grammar.{sign, spelling, IsAtLevel, IsPrimary}
use Rattle.aml_tree.specs.Limits.{Mark, opened, marks}
use Rattle.aml_parser.specs.Items.{Called, New, Parameter, Fixed, Opening, Target, Operand, More, Expression, Argued, Failing, Closer, To, Arguments, Plain, Opens, mark, counted, all_attached, allowed, compares, closing, single, is_sign, operator_of, target_by, operand_by, expression_by, ending_by, more_by, argued_by, expand}
use Rattle.aml_parser.proofs.Written.{symbol_of, closing_mark, further, ending, ending_marks, links, link_marks}
use Rattle.aml_parser.proofs.Attached.{all_attached_tokens, all_attached_marks, read_at}
use Rattle.aml_parser.proofs.Made.{Good, good_test, good_renamed, Joins, good_followed}

-- ---- signs

pub sign_is : (s : Sign) (u : Symbol) → is_sign s u ≡ true → u ≡ symbol_of s
sign_is fixed.Open symbol.Open e = refl
sign_is fixed.Close symbol.Close e = refl
sign_is fixed.OpenBrace symbol.OpenBrace e = refl
sign_is fixed.Semicolon symbol.Semicolon e = refl
sign_is fixed.Assign symbol.Assign e = refl
sign_is fixed.Method symbol.Method e = refl
sign_is _ _ e = absurd cc

abbrev IsSign : Symbol → Option Operator → Type 0
IsSign s None = Unit {0}
IsSign s (Some o) = s ≡ sign o

pub operator_is : (s : Symbol) → IsSign s (operator_of s)
operator_is symbol.Or = refl
operator_is symbol.And = refl
operator_is symbol.Equal = refl
operator_is symbol.NotEqual = refl
operator_is symbol.Less = refl
operator_is symbol.LessOrEqual = refl
operator_is symbol.Greater = refl
operator_is symbol.GreaterOrEqual = refl
operator_is symbol.Plus = refl
operator_is symbol.Minus = refl
operator_is symbol.Times = refl
operator_is symbol.Over = refl
operator_is symbol.Remainder = refl
operator_is _ = tt

-- ---- one token

pub good_called : (t : Token) → IsToken t → Good Called t (expand Called t)
good_called (token.Name w) h = λ us. record { fits = λ _. h; tokens = refl; marks = λ n. refl; names = λ n. refl }
good_called _ h = tt

pub good_new : (t : Token) → IsToken t → Good New t (expand New t)
good_new (token.Name w) h = λ us. record { fits = λ _. h; tokens = refl; marks = λ n. refl; names = λ n. refl }
good_new _ h = tt

pub good_parameter : (t : Token) → IsToken t → Good Parameter t (expand Parameter t)
good_parameter (token.Name w) h = λ us. record { fits = λ _. h; tokens = refl; marks = λ n. refl; names = λ n. refl }
good_parameter _ h = tt

one_token : (s : Sign) (u : Symbol) → is_sign s u ≡ true → token.Sign (symbol_of s) ∷ [] ≡ token.Sign u ∷ []
one_token s u e = ap (λ (u : Symbol). token.Sign u ∷ []) (sym (sign_is s u e))

pub good_fixed : (s : Sign) (t : Token) → Good (Fixed s) t (expand (Fixed s) t)
good_fixed s (token.Sign u) = good_test (Fixed s) (token.Sign u) (is_sign s u) (single Plain tt) (λ e us. record { fits = λ _. tt; tokens = one_token s u e; marks = λ n. refl; names = λ n. refl })
good_fixed s _ = tt

pub good_opening : (depth : ℕ) (s : Sign) (t : Token) → Good (Opening depth s) t (expand (Opening depth s) t)
good_opening depth s (token.Sign u) = good_test (Opening depth s) (token.Sign u) (is_sign s u) (single (Opens depth) tt) (λ e us. record { fits = λ _. tt; tokens = one_token s u e; marks = λ n. refl; names = λ n. refl })
good_opening depth s _ = tt

pub good_failing : (t : Token) → IsToken t → Good Failing t (expand Failing t)
good_failing (token.Number k) h = λ us. record { fits = λ _. h; tokens = refl; marks = λ n. refl; names = λ n. refl }
good_failing _ h = tt

-- ---- expressions

pub primary_at : (e : Expr Word) → IsPrimary e → IsAtLevel 0 e
primary_at (Number n) h = h
primary_at (Variable w) h = h
primary_at (Field f line) h = h
primary_at Own h = h
primary_at (Group e) h = h
primary_at (Negative e) h = absurd h
primary_at (Binary o a b) h = absurd h

pub good_target : (depth : ℕ) (t : Token) → IsToken t → Good (Target depth) t (target_by depth t)
good_target depth (token.Number n) h = λ us. record { fits = λ _. h; tokens = refl; marks = λ n. refl; names = λ n. refl }
good_target depth (token.Name w) h = λ us. record { fits = λ _. h; tokens = refl; marks = λ n. refl; names = λ n. refl }
good_target depth (token.Field k line) h = λ us. record { fits = λ _. h; tokens = refl; marks = λ n. refl; names = λ n. refl }
good_target depth (token.Sign symbol.Own) h = λ us. record { fits = λ _. tt; tokens = refl; marks = λ n. refl; names = λ n. refl }
good_target depth (token.Sign symbol.Open) h = λ us. record {
  fits = λ fit. fit.0.0;
  tokens = ap (λ (ts : List Token). token.Sign symbol.Open ∷ ts) (sym (append-nil (spelling us.0.0 ++ token.Sign symbol.Close ∷ [])));
  marks = λ n. ap (λ (ms : List Mark). opened depth ∷ ms) (sym (append-nil (marks (depth + 1) us.0.0 ++ None ∷ [])));
  names = λ n. refl;
}
good_target depth _ h = tt

pub good_operand : (depth : ℕ) (t : Token) → IsToken t → Good (Operand depth) t (operand_by depth t)
good_operand depth (token.Sign symbol.Minus) h = λ us. record {
  fits = λ fit. fit.0;
  tokens = ap (λ (ts : List Token). token.Sign symbol.Minus ∷ ts) (sym (append-nil (spelling us.0)));
  marks = λ n. ap (λ (ms : List Mark). opened depth ∷ ms) (sym (append-nil (marks (depth + 1) us.0)));
  names = λ n. refl;
}
good_operand depth t h =
    good_renamed (Target depth) (Operand depth) (λ e. e) t (target_by depth t) (record { fits = λ e h. primary_at e h; tokens = λ e. refl; marks = λ n e. refl; names = λ n e. refl }) (good_target depth t h)

joins_expression : (depth : ℕ) (closer : Closer) → Joins (Operand depth) (More depth false closer ∷ []) (Expression depth closer) (λ e vs. (all_attached e vs.0.0, vs.0.1))
joins_expression depth closer = record {
  fits = λ e vs h fit. (read_at e vs.0.0 h fit.0.0, fit.0.1);
  tokens = λ e vs. all_attached_tokens vs.0.0 e (ending closer vs.0.1) ∙ ap (λ (ts : List Token). spelling e ++ ts) (sym (append-nil (links vs.0.0 ++ ending closer vs.0.1)));
  marks = λ n e vs. all_attached_marks depth vs.0.0 e (ending_marks depth closer vs.0.1) ∙ ap (λ (ms : List Mark). marks depth e ++ ms) (sym (append-nil (link_marks depth vs.0.0 ++ ending_marks depth closer vs.0.1)));
  names = λ n e vs. refl;
}

pub good_expression : (depth : ℕ) (closer : Closer) (t : Token) → IsToken t → Good (Expression depth closer) t (expression_by depth closer t)
good_expression depth closer t h =
    good_followed (Operand depth) (More depth false closer ∷ []) (Expression depth closer) (λ e vs. (all_attached e vs.0.0, vs.0.1)) t (operand_by depth t) (joins_expression depth closer) (good_operand depth t h)

closing_is : (depth n : ℕ) (s : Sign) → closing_mark depth s ≡ mark n (closing depth s)
closing_is depth n fixed.Open = refl
closing_is depth n fixed.Close = refl
closing_is depth n fixed.OpenBrace = refl
closing_is depth n fixed.Semicolon = refl
closing_is depth n fixed.Assign = refl
closing_is depth n fixed.Method = refl

closing_names : (depth n : ℕ) (s : Sign) → n ≡ counted n (closing depth s)
closing_names depth n fixed.Open = refl
closing_names depth n fixed.Close = refl
closing_names depth n fixed.OpenBrace = refl
closing_names depth n fixed.Semicolon = refl
closing_names depth n fixed.Assign = refl
closing_names depth n fixed.Method = refl

good_ending : (depth : ℕ) (compared : Bool) (closer : Closer) (u : Symbol) → Good (More depth compared closer) (token.Sign u) (ending_by depth compared closer u)
good_ending depth compared (To s) u =
    good_test (More depth compared (To s)) (token.Sign u) (is_sign s u) (single (closing depth s) ([], tt)) (λ e us. record {
      fits = λ _. (tt, tt);
      tokens = one_token s u e;
      marks = λ n. ap (λ (m : Mark). m ∷ []) (closing_is depth n s);
      names = λ n. closing_names depth n s;
    })
good_ending depth compared Arguments symbol.Close = λ us. record { fits = λ _. (tt, tt); tokens = refl; marks = λ n. refl; names = λ n. refl }
good_ending depth compared Arguments symbol.Comma = λ us. record {
  fits = λ fit. (tt, fit.0);
  tokens = ap (λ (ts : List Token). token.Sign symbol.Comma ∷ ts) (sym (append-nil (spelling us.0.0 ++ further us.0.1)));
  marks = λ n. ap (λ (ms : List Mark). None ∷ ms) (sym (append-nil (marks depth us.0.0 ++ ending_marks depth Arguments us.0.1)));
  names = λ n. refl;
}
good_ending depth compared Arguments _ = tt

good_more : (depth : ℕ) (compared : Bool) (closer : Closer) (u : Symbol) (o : Option Operator) → IsSign u o → Good (More depth compared closer) (token.Sign u) (more_by depth compared closer u o)
good_more depth compared closer u None is = good_ending depth compared closer u
good_more depth compared closer u (Some o) is =
    good_test (More depth compared closer) (token.Sign u) (allowed compared o)
    (record { event = Plain; items = Operand depth ∷ More depth (compares compared o) closer ∷ []; make = λ vs. (record { operator = o; operand = vs.0 } ∷ vs.1.0.0, vs.1.0.1) })
    (λ e us. record {
      fits = λ fit. ((e, fit.0, fit.1.0.0), fit.1.0.1);
      tokens = ap (λ (v : Symbol). token.Sign v ∷ ((spelling us.0 ++ links us.1.0.0) ++ ending closer us.1.0.1)) (sym is)
          ∙ ap (λ (ts : List Token). token.Sign u ∷ ts) (append_assoc (spelling us.0) (links us.1.0.0) (ending closer us.1.0.1) ∙ ap (λ (ts : List Token). spelling us.0 ++ ts) (sym (append-nil (links us.1.0.0 ++ ending closer us.1.0.1))));
      marks = λ n.
          ap (λ (ms : List Mark). None ∷ ms) (append_assoc (marks depth us.0) (link_marks depth us.1.0.0) (ending_marks depth closer us.1.0.1)
          ∙ ap (λ (ms : List Mark). marks depth us.0 ++ ms) (sym (append-nil (link_marks depth us.1.0.0 ++ ending_marks depth closer us.1.0.1))));
      names = λ n. refl;
    })

pub good_behind : (depth : ℕ) (compared : Bool) (closer : Closer) (t : Token) → Good (More depth compared closer) t (expand (More depth compared closer) t)
good_behind depth compared closer (token.Sign u) = good_more depth compared closer u (operator_of u) (operator_is u)
good_behind depth compared closer _ = tt

pub good_argued : (depth : ℕ) (t : Token) → IsToken t → Good (Argued depth) t (argued_by depth t)
good_argued depth (token.Sign symbol.Close) h = λ us. record { fits = λ _. tt; tokens = refl; marks = λ n. refl; names = λ n. refl }
good_argued depth t h =
    good_renamed (Expression depth Arguments) (Argued depth) (λ e. e.0 ∷ e.1) t (expression_by depth Arguments t)
    (record { fits = λ e h. (h.0, h.1); tokens = λ e. refl; marks = λ n e. refl; names = λ n e. refl }) (good_expression depth Arguments t h)
