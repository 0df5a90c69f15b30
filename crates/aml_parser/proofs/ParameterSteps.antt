-- Reading the parameters of a method, as the functions of the code read them.
use Rattle.std.proofs.Common.{◌≡◌, ℕ, ◌+◌, true, false, List, [], ◌∷◌, ◌++◌, drop, Option, Some, None, Result, Ok, Err, refl, sym, ap, ◌∙◌, append_assoc, slice_get}
use Rattle.aml_tokens.specs.declared.tokens.Symbol.TheVariants as symbol
use Rattle.aml_tokens.specs.declared.tokens.TextCause.TheVariants.{Unexpected}
use Rattle.aml_tokens.specs.declared.tokens.Word.{Word}
use Rattle.aml_tokens.specs.Token.{Token}
use Rattle.aml_tokens.specs.Token as token
use Rattle.aml_tree.specs.Limits.{parameter}
use Rattle.aml_parser.specs.Items.{Item, Parameter, Parameters, MoreParameters, Values, Plain, single, counted, is_close, is_comma, expand}
use Rattle.aml_parser.specs.Reading.{Fault, ◌>>=◌, production_begun, read, Takes, StopsAt, there}
use Rattle.aml_parser.proofs.ReadLaws.{fine}
use Rattle.aml_parser.proofs.Steps.{bound_twice, passed_twice, drop_none, begins, takes_none, takes_by, stops_none, NoBegin, paired}
use Rattle.aml_parser.proofs.ArgumentSteps.{close_is, comma_is}

abbrev pub behind_names : (s : List Item) (ws : List Word) → Values (Parameter ∷ MoreParameters ∷ s) → Values (Parameters ∷ s)
behind_names s ws vs = (ws ++ vs.0 ∷ vs.1.0, vs.1.1)

-- parameters so far, how many they are, and the place of the next
pub record Naming (ts : List Token) (at : ℕ) (ws : List Word) (count end : ℕ) : Type 0 where
  pub goes : (s : List Item) → read (Parameters ∷ s) 0 at (drop at ts) ≡ (read (Parameter ∷ MoreParameters ∷ s) count end (drop end ts) >>= λ vs. Ok (behind_names s ws vs))

pub no_parameters : (ts : List Token) (at : ℕ) → there is_close (slice_get ts at) ≡ true → Takes ts (Parameters ∷ []) ([], tt) 0 at 0 (at + 1)
no_parameters ts at is = takes_by ts Parameters (token.Sign symbol.Close) (single Plain []) tt 0 at 0 (at + 1) (close_is (slice_get ts at) is) refl refl (takes_none ts 0 (at + 1))

first_reads : (ts : List Token) (s : List Item) (names at : ℕ) (o : Option Token) → slice_get ts at ≡ o → there is_close o ≡ false
    → read (Parameters ∷ s) names at (drop at ts) ≡ (read (Parameter ∷ MoreParameters ∷ s) names at (drop at ts) >>= λ vs. Ok (behind_names s [] vs))
unfolding read
first_reads ts s names at None is none =
    let empty = drop_none ts at is in
    ap (read (Parameters ∷ s) names at) empty ∙ sym (ap (λ (us : List Token). read (Parameter ∷ MoreParameters ∷ s) names at us >>= λ vs. Ok (behind_names s [] vs)) empty)
first_reads ts s names at (Some t) is none =
    begins ts Parameters s names at t is ∙ by t none
    ∙ ap (λ (r : Result (Values (Parameter ∷ MoreParameters ∷ s)) Fault). r >>= λ vs. Ok (behind_names s [] vs)) (sym (begins ts Parameter (MoreParameters ∷ s) names at t is))
  where
    by : (t : Token) → is_close t ≡ false
        → production_begun Parameters s names at (expand Parameters t) (λ p. read (p.items ++ s) (counted names p.event) (at + 1) (drop (at + 1) ts))
        ≡ (production_begun Parameter (MoreParameters ∷ s) names at (expand Parameter t) (λ p. read (p.items ++ (MoreParameters ∷ s)) (counted names p.event) (at + 1) (drop (at + 1) ts)) >>= λ vs. Ok (behind_names s [] vs))
    by (token.Name w) e =
        passed_twice (parameter names) at (read (MoreParameters ∷ s) (names + 1) (at + 1) (drop (at + 1) ts)) (λ vs. paired Parameter (MoreParameters ∷ s) w vs) (behind_names s [])
    by (token.Sign symbol.Close) e = absurd cc
    by _ e = refl

pub naming_begins : (ts : List Token) (at : ℕ) → there is_close (slice_get ts at) ≡ false → Naming ts at [] 0 at
naming_begins ts at none = record { goes = λ s. first_reads ts s 0 at (slice_get ts at) refl none }

pub naming_goes : (ts : List Token) (at count end behind : ℕ) (ws new : List Word) (w : Word) → Naming ts at ws count end → Takes ts (Parameter ∷ []) (w, tt) count end (count + 1) behind → there is_comma (slice_get ts behind) ≡ true
    → new ≡ ws ++ w ∷ [] → Naming ts at new (count + 1) (behind + 1)
naming_goes ts at count end behind ws new w so_far x is pushed = record {
  goes = λ s.
      so_far.goes s
      ∙ ap (λ (r : Result (Values (Parameter ∷ MoreParameters ∷ s)) Fault). r >>= λ vs. Ok (behind_names s ws vs))
      (x.goes (MoreParameters ∷ s)
      ∙ ap (λ (r : Result (Values (MoreParameters ∷ s)) Fault). r >>= λ vs. Ok (paired Parameter (MoreParameters ∷ s) w vs)) (begins ts MoreParameters s (count + 1) behind (token.Sign symbol.Comma) (comma_is (slice_get ts behind) is))
      ∙ bound_twice (read (Parameter ∷ MoreParameters ∷ s) (count + 1) (behind + 1) (drop (behind + 1) ts)) (λ vs. paired MoreParameters s (vs.0 ∷ vs.1.0) vs.1.1) (λ vs. paired Parameter (MoreParameters ∷ s) w vs))
      ∙ bound_twice (read (Parameter ∷ MoreParameters ∷ s) (count + 1) (behind + 1) (drop (behind + 1) ts)) (λ vs. paired Parameter (MoreParameters ∷ s) w (paired MoreParameters s (vs.0 ∷ vs.1.0) vs.1.1)) (behind_names s ws)
      ∙ put s (read (Parameter ∷ MoreParameters ∷ s) (count + 1) (behind + 1) (drop (behind + 1) ts));
}
  where
    put : (s : List Item) (r : Result (Values (Parameter ∷ MoreParameters ∷ s)) Fault)
        → (r >>= λ vs. Ok (paired Parameters s (ws ++ w ∷ (vs.0 ∷ vs.1.0)) vs.1.1)) ≡ (r >>= λ vs. Ok (behind_names s new vs))
    put s (Err f) = refl
    put s (Ok vs) = ap (λ (xs : List Word). fine (paired Parameters s xs vs.1.1)) (sym (append_assoc ws (w ∷ []) (vs.0 ∷ vs.1.0)) ∙ ap (λ (xs : List Word). xs ++ vs.0 ∷ vs.1.0) (sym pushed))

pub naming_ends : (ts : List Token) (at count end behind : ℕ) (ws new : List Word) (w : Word) → Naming ts at ws count end → Takes ts (Parameter ∷ []) (w, tt) count end (count + 1) behind → there is_close (slice_get ts behind) ≡ true
    → new ≡ ws ++ w ∷ [] → Takes ts (Parameters ∷ []) (new, tt) 0 at (count + 1) (behind + 1)
naming_ends ts at count end behind ws new w so_far x is pushed =
    let last = takes_by ts MoreParameters (token.Sign symbol.Close) (single Plain []) tt (count + 1) behind (count + 1) (behind + 1) (close_is (slice_get ts behind) is) refl refl (takes_none ts (count + 1) (behind + 1)) in
    record {
      goes = λ s.
          so_far.goes s
          ∙ ap (λ (r : Result (Values (Parameter ∷ MoreParameters ∷ s)) Fault). r >>= λ vs. Ok (behind_names s ws vs))
          (x.goes (MoreParameters ∷ s) ∙ ap (λ (r : Result (Values (MoreParameters ∷ s)) Fault). r >>= λ vs. Ok (paired Parameter (MoreParameters ∷ s) w vs)) (last.goes s)
          ∙ bound_twice (read s (count + 1) (behind + 1) (drop (behind + 1) ts)) (λ vs. paired MoreParameters s [] vs) (λ vs. paired Parameter (MoreParameters ∷ s) w vs))
          ∙ bound_twice (read s (count + 1) (behind + 1) (drop (behind + 1) ts)) (λ vs. paired Parameter (MoreParameters ∷ s) w (paired MoreParameters s [] vs)) (behind_names s ws)
          ∙ ap (λ (xs : List Word). read s (count + 1) (behind + 1) (drop (behind + 1) ts) >>= λ vs. Ok (paired Parameters s xs vs)) (sym pushed);
    }

pub naming_stops : (ts : List Token) (at count end : ℕ) (ws : List Word) (fault : Fault) → Naming ts at ws count end → StopsAt ts (Parameter ∷ []) count end fault → StopsAt ts (Parameters ∷ []) 0 at fault
naming_stops ts at count end ws fault so_far x = record {
  goes = λ s. so_far.goes s ∙ ap (λ (r : Result (Values (Parameter ∷ MoreParameters ∷ s)) Fault). r >>= λ vs. Ok (behind_names s ws vs)) (x.goes (MoreParameters ∷ s));
}

no_more : (o : Option Token) → there is_close o ≡ false → there is_comma o ≡ false → NoBegin MoreParameters o
no_more None a b = λ s at. refl
no_more (Some (token.Sign symbol.Close)) a b = absurd cc
no_more (Some (token.Sign symbol.Comma)) a b = absurd cc
no_more (Some _) a b = refl

pub naming_none : (ts : List Token) (at count end behind : ℕ) (ws : List Word) (w : Word) → Naming ts at ws count end → Takes ts (Parameter ∷ []) (w, tt) count end (count + 1) behind
    → there is_close (slice_get ts behind) ≡ false → there is_comma (slice_get ts behind) ≡ false → StopsAt ts (Parameters ∷ []) 0 at (behind, Unexpected)
naming_none ts at count end behind ws w so_far x a b =
    let none = stops_none ts MoreParameters (count + 1) behind (slice_get ts behind) refl (no_more (slice_get ts behind) a b) in
    record {
      goes = λ s.
          so_far.goes s
          ∙ ap (λ (r : Result (Values (Parameter ∷ MoreParameters ∷ s)) Fault). r >>= λ vs. Ok (behind_names s ws vs))
          (x.goes (MoreParameters ∷ s) ∙ ap (λ (r : Result (Values (MoreParameters ∷ s)) Fault). r >>= λ vs. Ok (paired Parameter (MoreParameters ∷ s) w vs)) (none.goes s));
    }
