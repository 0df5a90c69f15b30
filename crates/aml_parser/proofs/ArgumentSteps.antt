-- Reading the arguments of a call, as the functions of the code read them.
use Rattle.std.proofs.Common.{◌≡◌, ℕ, ◌+◌, Bool, true, false, if◌then◌else◌, List, [], ◌∷◌, ◌++◌, drop, Option, Some, None, Result, Ok, Err, refl, sym, ap, ◌∙◌, append_assoc, slice_get}
use Rattle.std.proofs.lemmas.List.{append-nil}
use Rattle.aml_tokens.specs.declared.tokens.Symbol.TheVariants as symbol
use Rattle.aml_tokens.specs.declared.tokens.TextCause.TheVariants.{Unexpected}
use Rattle.aml_tokens.specs.declared.tokens.Word.{Word}
use Rattle.aml_tokens.specs.declared.tokens.Symbol.{Symbol}
use Rattle.aml_tokens.specs.Token.{Token}
use Rattle.aml_tokens.specs.Token as token
use Rattle.aml_tree.specs.declared.trees.Operator.{Operator}
use Rattle.aml_tree.specs.Tree.{Expr}
use Rattle.aml_parser.specs.Items.{Item, More, Operand, Expression, Argued, Arguments, Values, Plain, single, all_attached, allowed, compares, operator_of, is_close, is_comma, more_by, ending_by, on_test}
use Rattle.aml_parser.specs.Reading.{Fault, ◌>>=◌, read, Takes, StopsAt, Chained, there, if_allowed, operator_there}
use Rattle.aml_parser.proofs.ReadLaws.{fine}
use Rattle.aml_parser.proofs.Steps.{bound_twice, begins, takes_none, takes_by, stops_none, NoBegin, paired}
use Rattle.aml_parser.proofs.Exprs.{Same, renamed_reads}
use Rattle.aml_parser.proofs.ChainSteps.{chain_ends, end_stops}

abbrev pub behind_all : (depth : ℕ) (s : List Item) (es : List (Expr Word)) → Values (Expression depth Arguments ∷ s) → Values (Argued depth ∷ s)
behind_all depth s es vs = (es ++ vs.0.0 ∷ vs.0.1, vs.1)

-- arguments so far, and the place of the next
pub record Arguing (ts : List Token) (depth at : ℕ) (es : List (Expr Word)) (end : ℕ) : Type 0 where
  pub goes : (s : List Item) (names : ℕ) → read (Argued depth ∷ s) names at (drop at ts) ≡ (read (Expression depth Arguments ∷ s) names end (drop end ts) >>= λ vs. Ok (behind_all depth s es vs))

pub close_is : (o : Option Token) → there is_close o ≡ true → o ≡ Some (token.Sign symbol.Close)
close_is None e = absurd cc
close_is (Some (token.Sign symbol.Close)) e = refl
close_is (Some _) e = absurd cc

pub comma_is : (o : Option Token) → there is_comma o ≡ true → o ≡ Some (token.Sign symbol.Comma)
comma_is None e = absurd cc
comma_is (Some (token.Sign symbol.Comma)) e = refl
comma_is (Some _) e = absurd cc

pub no_arguments : (ts : List Token) (depth at : ℕ) → there is_close (slice_get ts at) ≡ true → (names : ℕ) → Takes ts (Argued depth ∷ []) ([], tt) names at names (at + 1)
no_arguments ts depth at is names = takes_by ts (Argued depth) (token.Sign symbol.Close) (single Plain []) tt names at names (at + 1) (close_is (slice_get ts at) is) refl refl (takes_none ts names (at + 1))

argued_same : (depth : ℕ) (o : Option Token) → there is_close o ≡ false → Same (Argued depth) (Expression depth Arguments) (λ e. e.0 ∷ e.1) o
argued_same depth None e = λ s at. (refl, refl)
argued_same depth (Some (token.Sign symbol.Close)) e = absurd cc
argued_same depth (Some _) e = refl

pub arguing_begins : (ts : List Token) (depth at : ℕ) → there is_close (slice_get ts at) ≡ false → Arguing ts depth at [] at
arguing_begins ts depth at none = record { goes = λ s names. renamed_reads ts (Argued depth) (Expression depth Arguments) (λ e. e.0 ∷ e.1) s names at (slice_get ts at) refl (argued_same depth (slice_get ts at) none) }

-- the items behind a comma
next_argument : (ts : List Token) (depth : ℕ) (c : Bool) (s : List Item) (names at : ℕ) → there is_comma (slice_get ts at) ≡ true
    → read (More depth c Arguments ∷ s) names at (drop at ts) ≡ (read (Expression depth Arguments ∷ s) names (at + 1) (drop (at + 1) ts) >>= λ vs. Ok (paired (More depth c Arguments) s ([], vs.0.0 ∷ vs.0.1) vs.1))
next_argument ts depth c s names at is = begins ts (More depth c Arguments) s names at (token.Sign symbol.Comma) (comma_is (slice_get ts at) is)

pub arguing_goes : (ts : List Token) (depth at end behind : ℕ) (es new : List (Expr Word)) (e : Expr Word) → Arguing ts depth at es end → Chained ts depth end e behind → there is_comma (slice_get ts behind) ≡ true → new ≡ es ++ e ∷ []
    → Arguing ts depth at new (behind + 1)
arguing_goes ts depth at end behind es new e so_far chain is pushed = record {
  goes = λ s names.
      so_far.goes s names
      ∙ ap (λ (r : Result (Values (Expression depth Arguments ∷ s)) Fault). r >>= λ vs. Ok (behind_all depth s es vs))
      (chain.chain.goes Arguments s names
      ∙ ap (λ (r : Result (Values (More depth chain.compared Arguments ∷ s)) Fault). r >>= λ vs. Ok (paired (Expression depth Arguments) s (all_attached chain.chain.first (chain.chain.links ++ vs.0.0), vs.0.1) vs.1)) (next_argument ts depth chain.compared s names behind is)
      ∙ bound_twice (read (Expression depth Arguments ∷ s) names (behind + 1) (drop (behind + 1) ts)) (λ vs. paired (More depth chain.compared Arguments) s ([], vs.0.0 ∷ vs.0.1) vs.1)
      (λ vs. paired (Expression depth Arguments) s (all_attached chain.chain.first (chain.chain.links ++ vs.0.0), vs.0.1) vs.1))
      ∙ bound_twice (read (Expression depth Arguments ∷ s) names (behind + 1) (drop (behind + 1) ts))
      (λ vs. paired (Expression depth Arguments) s (all_attached chain.chain.first (chain.chain.links ++ []), vs.0.0 ∷ vs.0.1) vs.1) (behind_all depth s es)
      ∙ put s (read (Expression depth Arguments ∷ s) names (behind + 1) (drop (behind + 1) ts));
}
  where
    put : (s : List Item) (r : Result (Values (Expression depth Arguments ∷ s)) Fault)
        → (r >>= λ vs. Ok (paired (Argued depth) s (es ++ all_attached chain.chain.first (chain.chain.links ++ []) ∷ (vs.0.0 ∷ vs.0.1)) vs.1)) ≡ (r >>= λ vs. Ok (behind_all depth s new vs))
    put s (Err f) = refl
    put s (Ok vs) =
        ap (λ (x : Expr Word). fine (paired (Argued depth) s (es ++ x ∷ (vs.0.0 ∷ vs.0.1)) vs.1)) (ap (all_attached chain.chain.first) (append-nil chain.chain.links) ∙ sym chain.chain.tree)
        ∙ ap (λ (xs : List (Expr Word)). fine (paired (Argued depth) s xs vs.1)) (sym (append_assoc es (e ∷ []) (vs.0.0 ∷ vs.0.1)) ∙ ap (λ (xs : List (Expr Word)). xs ++ vs.0.0 ∷ vs.0.1) (sym pushed))

pub arguing_ends : (ts : List Token) (depth at end behind : ℕ) (es new : List (Expr Word)) (e : Expr Word) → Arguing ts depth at es end → Chained ts depth end e behind → there is_close (slice_get ts behind) ≡ true → new ≡ es ++ e ∷ []
    → (names : ℕ) → Takes ts (Argued depth ∷ []) (new, tt) names at names (behind + 1)
arguing_ends ts depth at end behind es new e so_far chain is pushed names =
    let last = chain_ends ts depth end behind (behind + 1) Arguments e [] names chain
    (takes_by ts (More depth chain.compared Arguments) (token.Sign symbol.Close) (single Plain ([], [])) tt names behind names (behind + 1) (close_is (slice_get ts behind) is) refl refl (takes_none ts names (behind + 1))) in
    record {
      goes = λ s.
          so_far.goes s names
          ∙ ap (λ (r : Result (Values (Expression depth Arguments ∷ s)) Fault). r >>= λ vs. Ok (behind_all depth s es vs)) (last.goes s)
          ∙ bound_twice (read s names (behind + 1) (drop (behind + 1) ts)) (λ vs. paired (Expression depth Arguments) s (e, []) vs) (behind_all depth s es)
          ∙ ap (λ (xs : List (Expr Word)). read s names (behind + 1) (drop (behind + 1) ts) >>= λ vs. Ok (paired (Argued depth) s xs vs)) (sym pushed);
    }

pub arguing_stops : (ts : List Token) (depth at end : ℕ) (es : List (Expr Word)) (fault : Fault) → Arguing ts depth at es end → ((names : ℕ) → StopsAt ts (Expression depth Arguments ∷ []) names end fault) → (names : ℕ) → StopsAt ts (Argued depth ∷ []) names at fault
arguing_stops ts depth at end es fault so_far x names = record {
  goes = λ s. so_far.goes s names ∙ ap (λ (r : Result (Values (Expression depth Arguments ∷ s)) Fault). r >>= λ vs. Ok (behind_all depth s es vs)) ((x names).goes s);
}

nothing_more : (depth : ℕ) (c : Bool) (t : Option Token) → operator_there c t ≡ None → there is_close t ≡ false → there is_comma t ≡ false → NoBegin (More depth c Arguments) t
nothing_more depth c None over a b = λ s at. refl
nothing_more depth c (Some (token.Sign u)) over a b = by (operator_of u) over
  where
    not_allowed : (p : Operator) (b : Bool) → (if b then Some p else None) ≡ None → b ≡ false
    not_allowed p true e = absurd cc
    not_allowed p false e = refl

    no_ending : (u : Symbol) → is_close (token.Sign u) ≡ false → is_comma (token.Sign u) ≡ false → ending_by depth c Arguments u ≡ None
    no_ending symbol.Close a b = absurd cc
    no_ending symbol.Comma a b = absurd cc
    no_ending _ a b = refl

    by : (q : Option Operator) → if_allowed c q ≡ None → more_by depth c Arguments u q ≡ None
    by None e = no_ending u a b
    by (Some p) e = ap (λ (b : Bool). on_test b (record { event = Plain; items = Operand depth ∷ More depth (compares c p) Arguments ∷ []; make = λ vs. (record { operator = p; operand = vs.0 } ∷ vs.1.0.0, vs.1.0.1) })) (not_allowed p (allowed c p) e)
nothing_more depth c (Some _) over a b = refl

pub arguing_none : (ts : List Token) (depth at end behind : ℕ) (es : List (Expr Word)) (e : Expr Word) → Arguing ts depth at es end → Chained ts depth end e behind
    → there is_close (slice_get ts behind) ≡ false → there is_comma (slice_get ts behind) ≡ false → (names : ℕ) → StopsAt ts (Argued depth ∷ []) names at (behind, Unexpected)
arguing_none ts depth at end behind es e so_far chain a b names =
    arguing_stops ts depth at end es (behind, Unexpected) so_far
    (λ n. end_stops ts depth end behind Arguments e n (behind, Unexpected) chain (stops_none ts (More depth chain.compared Arguments) n behind (slice_get ts behind) refl (nothing_more depth chain.compared (slice_get ts behind) chain.over a b))) names
