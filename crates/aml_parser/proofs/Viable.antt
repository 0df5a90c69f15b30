-- Where reading stops, values of the grammar begin with the tokens up to there and pass no limit in
-- them, and they go on with the next one where that passes a limit.
use Rattle.std.proofs.Common.{false, ◌≡◌, ℕ, suc, ◌+◌, ◌<◌, ◌≤◌, codes, List, [], ◌∷◌, ◌++◌, length, take, Some, None, Err, refl, sym, ap, subst, ◌∙◌, inl, inr, ◌⊎◌, slice_get, arith}
use Rattle.std.specs.List.{AllByRecursion}
use Rattle.aml_tokens.specs.Names.{IsToken}
use Rattle.aml_tokens.specs.declared.tokens.TextCause.{TextCause}
use Rattle.aml_tokens.specs.declared.tokens.TextCause.TheVariants.{Unexpected}
use Rattle.aml_tokens.specs.declared.tokens.Word.{Word}
use Rattle.aml_tokens.specs.Token.{Token}
use Rattle.aml_tree.specs.Tree.{Own, End}
use Rattle.aml_tree.specs.Grammar.{IsWord}
use Rattle.aml_tree.specs.Limits.{Mark}
use Rattle.aml_tree.specs.Programs.{IsUnmarked}
use Rattle.aml_parser.specs.Items.{Item, Called, New, Parameter, Fixed, Opening, Target, Operand, More, Expression, Argued, Failing, Letting, Block, After, Parameters, MoreParameters, Methods, Closer, To, Arguments, Valued, Without, Ending, Value, Values, Production, mark, counted, expand}
use Rattle.aml_parser.specs.Reading.{Fault, read}
use Rattle.aml_parser.proofs.Written.{spelled, all_marked, Fits, AllFit, IsEnding}
use Rattle.aml_parser.proofs.Made.{Made}
use Rattle.aml_parser.proofs.ReadLaws.{gathered, made_by, gathered_fits, gathered_tokens, gathered_marks, ended_not, halted, err_same}

-- ---- every item has a value

abbrev any_word : Word
any_word = record { name = codes "f"; line = 1 }

is_any_word : IsWord any_word
is_any_word = search arith

abbrev any_ending : (closer : Closer) → Ending closer
any_ending (To s) = tt
any_ending Arguments = []

is_any_ending : (closer : Closer) → IsEnding closer (any_ending closer)
is_any_ending (To s) = tt
is_any_ending Arguments = tt

abbrev any : (i : Item) → Value i
any Called = any_word
any New = any_word
any Parameter = any_word
any (Fixed s) = tt
any (Opening depth s) = tt
any (Target depth) = Own
any (Operand depth) = Own
any (More depth compared closer) = ([], any_ending closer)
any (Expression depth closer) = (Own, any_ending closer)
any (Argued depth) = []
any Failing = 0
any (Letting depth) = Valued Own (End 0)
any (Block depth) = End 0
any (After depth) = Without (End 0)
any Parameters = []
any MoreParameters = []
any (Methods before) = record { is_read = false; name = any_word; parameters = []; body = End 0 } ∷ []

any_fits : (i : Item) → Fits i (any i)
any_fits Called = is_any_word
any_fits New = is_any_word
any_fits Parameter = is_any_word
any_fits (Fixed s) = tt
any_fits (Opening depth s) = tt
any_fits (Target depth) = tt
any_fits (Operand depth) = tt
any_fits (More depth compared closer) = (tt, is_any_ending closer)
any_fits (Expression depth closer) = (tt, is_any_ending closer)
any_fits (Argued depth) = tt
any_fits Failing = omega arith
any_fits (Letting depth) = (tt, tt)
any_fits (Block depth) = tt
any_fits (After depth) = tt
any_fits Parameters = tt
any_fits MoreParameters = tt
any_fits (Methods before) = (λ e. omega arith, (record { name = is_any_word; parameters = tt; body = tt }, tt))

abbrev all_any : (s : List Item) → Values s
all_any [] = tt
all_any (i ∷ s) = (any i, all_any s)

all_any_fit : (s : List Item) → AllFit s (all_any s)
all_any_fit [] = tt
all_any_fit (i ∷ s) = (any_fits i, all_any_fit s)

-- ---- where reading stops

-- values go on with the token there, but pass a limit with it
pub record Passes (s : List Item) (names : ℕ) (ts : List Token) (gone : ℕ) (cause : TextCause) (vs : Values s) : Type 0 where
  pub within : gone < length ts
  pub more : List Token
  pub goes : spelled s vs ≡ take (suc gone) ts ++ more
  pub marked : slice_get (all_marked s names vs) gone ≡ Some (Some cause)

pub record Cut (s : List Item) (names at : ℕ) (ts : List Token) (fault : Fault) : Type 0 where
  pub gone : ℕ
  pub place : fault.0 ≡ at + gone
  pub within : gone ≤ length ts
  pub values : Values s
  pub fits : AllFit s values
  pub more : List Token
  pub goes : spelled s values ≡ take gone ts ++ more
  pub unmarked : AllByRecursion IsUnmarked (take gone (all_marked s names values))
  pub cause : (fault.1 ≡ Unexpected) ⊎ Passes s names ts gone fault.1 values

-- at the first token, with which nothing goes on
at_once : (s : List Item) (names at : ℕ) (ts : List Token) (fault : Fault) → (at, Unexpected) ≡ fault → Cut s names at ts fault
at_once s names at ts fault e =
    let place : at ≡ fault.0 = ap (λ (f : Fault). f.0) e in
    record {
      gone = 0;
      place = omega (arith, place);
      within = omega arith;
      values = all_any s;
      fits = all_any_fit s;
      more = spelled s (all_any s);
      goes = refl;
      unmarked = tt;
      cause = inl (sym (ap (λ (f : Fault). f.1) e));
    }

-- at the first token, which passes a limit
at_limit : (i : Item) (s : List Item) (names at : ℕ) (t : Token) (ts : List Token) (p : Production i) (c : TextCause) (fault : Fault) → Made i t p → mark names p.event ≡ Some c → (at, c) ≡ fault → Cut (i ∷ s) names at (t ∷ ts) fault
at_limit i s names at t ts p c fault made marked e =
    let place : at ≡ fault.0 = ap (λ (f : Fault). f.0) e in
    let behind : Values (p.items ++ s) = all_any (p.items ++ s) in
    let vs : Values (i ∷ s) = gathered i s p behind in
    let tokens : spelled (i ∷ s) vs ≡ t ∷ spelled (p.items ++ s) behind = gathered_tokens i s t p behind made in
    record {
      gone = 0;
      place = omega (arith, place);
      within = omega arith;
      values = vs;
      fits = gathered_fits i s t p behind made (all_any_fit (p.items ++ s));
      more = spelled (i ∷ s) vs;
      goes = refl;
      unmarked = tt;
      cause = inr (record {
        within = omega arith;
        more = spelled (p.items ++ s) behind;
        goes = tokens;
        marked =
            ap (λ (ms : List Mark). slice_get ms 0) (gathered_marks i s t p names behind made)
            ∙ ap (λ (m : Mark). Some m) (marked ∙ ap (λ (f : Fault). Some f.1) e);
      });
    }

limit_behind : (i : Item) (s : List Item) (names : ℕ) (t : Token) (ts : List Token) (p : Production i) (gone : ℕ) (c : TextCause) (behind : Values (p.items ++ s)) → Made i t p
    → Passes (p.items ++ s) (counted names p.event) ts gone c behind → Passes (i ∷ s) names (t ∷ ts) (suc gone) c (gathered i s p behind)
limit_behind i s names t ts p gone c behind made x = record {
  within = omega (arith, x.within);
  more = x.more;
  goes = gathered_tokens i s t p behind made ∙ ap (λ (us : List Token). t ∷ us) x.goes;
  marked = ap (λ (ms : List Mark). slice_get ms (suc gone)) (gathered_marks i s t p names behind made) ∙ x.marked;
}

-- behind the first token
behind_first : (i : Item) (s : List Item) (names at : ℕ) (t : Token) (ts : List Token) (p : Production i) (fault : Fault) → Made i t p → mark names p.event ≡ None
    → Cut (p.items ++ s) (counted names p.event) (at + 1) ts fault → Cut (i ∷ s) names at (t ∷ ts) fault
behind_first i s names at t ts p fault made unmarked x = record {
  gone = suc x.gone;
  place = omega (arith, x.place);
  within = omega (arith, x.within);
  values = gathered i s p x.values;
  fits = gathered_fits i s t p x.values made x.fits;
  more = x.more;
  goes = gathered_tokens i s t p x.values made ∙ ap (λ (us : List Token). t ∷ us) x.goes;
  unmarked = subst (λ (ms : List Mark). AllByRecursion IsUnmarked (take (suc x.gone) ms)) (sym (gathered_marks i s t p names x.values made)) (unmarked, x.unmarked);
  cause = elim x.cause [
    | inl none ↦ inl none
    | inr limit ↦ inr (limit_behind i s names t ts p x.gone fault.1 x.values made limit)
  ];
}

pub viable : (ts : List Token) (s : List Item) (names at : ℕ) (fault : Fault) → AllByRecursion IsToken ts → read s names at ts ≡ Err fault → Cut s names at ts fault
unfolding read
viable [] [] names at fault h e = absurd cc
viable (t ∷ ts) [] names at fault h e = at_once [] names at (t ∷ ts) fault (err_same (Values []) (at, Unexpected) fault e)
viable [] (i ∷ s) names at fault h e = at_once (i ∷ s) names at [] fault (ended_not i s at fault e)
viable (t ∷ ts) (i ∷ s) names at fault h e =
    elim (halted i s names at (expand i t) (λ p. read (p.items ++ s) (counted names p.event) (at + 1) ts) fault e) [
      | inl none ↦ at_once (i ∷ s) names at (t ∷ ts) fault none.1
      | inr some ↦
          let made = made_by i t some.0 h.0 some.1 in
          elim some.2 [
            | inl limit ↦ at_limit i s names at t ts some.0 limit.0 fault made limit.1 limit.2
            | inr on ↦ behind_first i s names at t ts some.0 fault made on.0 (viable ts (some.0.items ++ s) (counted names some.0.event) (at + 1) fault h.1 on.1)
          ]
    ]
