-- What is there is read, up to the first limit that it passes.
use Rattle.std.proofs.Common.{◌≡◌, ◌≢◌, ℕ, suc, ◌+◌, nat_lt, nat_le, ◌&&◌, Bool, true, false, cond, List, [], ◌∷◌, ◌++◌, Option, Some, None, Result, Ok, refl, sym, ap, subst, ◌∙◌, inl, inr}
use Rattle.std.specs.List.{AllByRecursion}
use Rattle.aml_tokens.specs.declared.tokens.TextCause.{TextCause}
use Rattle.aml_tokens.specs.declared.tokens.TextCause.TheVariants.{Unexpected, NumberRange, TooDeep, TooMany}
use Rattle.aml_tokens.specs.Token.{Token}
use Rattle.aml_tree.specs.Limits.{Mark}
use Rattle.aml_parser.specs.Items.{Item, Methods, Value, Values, Production, CountedEvent, Plain, Opens, Names, Parametrizes, Begins, Codes, mark, counted, front, joined_values, expand}
use Rattle.aml_parser.specs.Reading.{Fault, ◌>>=◌, passing, production_begun, read}
use Rattle.aml_parser.proofs.Written.{spelled, all_marked, AllFit}
use Rattle.aml_parser.proofs.Split.{Closed, Split, Over, split, front_joined, back_joined, fit_joined}
use Rattle.aml_parser.proofs.ReadLaws.{gathered, made_by, gathered_tokens, gathered_marks, passing_all, passing_all_map, over_again}

-- a limit is not that nothing goes on
abbrev pub IsLimit : Mark → Type 0
IsLimit m = m ≢ Some Unexpected

limit_test : (b : Bool) (c : TextCause) → c ≢ Unexpected → IsLimit (cond b None (Some c))
limit_test true c h e = absurd cc
limit_test false c h e = h cc

mark_limit : (names : ℕ) (event : CountedEvent) → IsLimit (mark names event)
mark_limit names Plain e = absurd cc
mark_limit names (Opens depth) e = limit_test (nat_lt depth 32) TooDeep (λ e. absurd cc) e
mark_limit names Names e = limit_test (nat_lt names 32) TooMany (λ e. absurd cc) e
mark_limit names Parametrizes e = limit_test (nat_lt names 8) TooMany (λ e. absurd cc) e
mark_limit names (Begins before) e = limit_test (nat_lt before 64) TooMany (λ e. absurd cc) e
mark_limit names (Codes code) e = limit_test (nat_le 1 code && nat_le code 999) NumberRange (λ e. absurd cc) e

pub record Again (ts : List Token) (s : List Item) (names at : ℕ) (vs : Values s) : Type 0 where
  pub reads : read s names at ts ≡ passing_all (all_marked s names vs) at (Ok vs)
  pub limits : AllByRecursion IsLimit (all_marked s names vs)

over_limits : (i : Item) (s : List Item) (names : ℕ) (v : Value i) (vs : Values s) → Over i v → Closed (i ∷ s) → AllByRecursion IsLimit (all_marked (i ∷ s) names (v, vs))
over_limits (Methods (suc before)) [] names [] vs over closed = tt
over_limits (Methods (suc before)) (j ∷ s) names [] vs over closed = absurd cc
over_limits _ s names v vs over closed = absurd over

-- a value that its first token's production makes
parted : (i : Item) (s : List Item) (v : Value i) (vs : Values s) (x : Split i v) → (v, vs) ≡ gathered i s x.production (joined_values x.production.items s x.parts vs)
parted i s v vs x =
    let p = x.production in
    ap (λ (u : Value i). (u, vs)) x.made
    ∙ ap (λ (us : Values p.items). (p.make us, vs)) (sym (front_joined p.items s x.parts vs))
    ∙ ap (λ (ws : Values s). (p.make (front p.items s (joined_values p.items s x.parts vs)), ws)) (sym (back_joined p.items s x.parts vs))

first_token : (i : Item) (s : List Item) (v : Value i) (vs : Values s) (x : Split i v) → spelled (i ∷ s) (v, vs) ≡ x.token ∷ spelled (x.production.items ++ s) (joined_values x.production.items s x.parts vs)
first_token i s v vs x =
    ap (λ (w : Values (i ∷ s)). spelled (i ∷ s) w) (parted i s v vs x)
    ∙ gathered_tokens i s x.token x.production (joined_values x.production.items s x.parts vs) (made_by i x.token x.production x.is_token x.found)

first_again : (t : Token) (ts : List Token) (i : Item) (s : List Item) (names at : ℕ) (v : Value i) (vs : Values s) (x : Split i v) → t ∷ ts ≡ spelled (i ∷ s) (v, vs) → AllFit s vs → Closed (i ∷ s)
    → ((s : List Item) (names at : ℕ) (vs : Values s) → ts ≡ spelled s vs → AllFit s vs → Closed s → Again ts s names at vs) → Again (t ∷ ts) (i ∷ s) names at (v, vs)
unfolding read
first_again t ts i s names at v vs x e fits closed others =
    let p = x.production in
    let behind : Values (p.items ++ s) = joined_values p.items s x.parts vs in
    let made = made_by i x.token p x.is_token x.found in
    let tokens : t ∷ ts ≡ x.token ∷ spelled (p.items ++ s) behind = e ∙ first_token i s v vs x in
    let first : t ≡ x.token = cc in
    let rest : ts ≡ spelled (p.items ++ s) behind = cc in
    let found : expand i t ≡ Some p = ap (λ (u : Token). expand i u) first ∙ x.found in
    let more = others (p.items ++ s) (counted names p.event) (at + 1) behind rest (fit_joined p.items s x.parts vs x.fits fits) (x.closed s closed) in
    let marked : all_marked (i ∷ s) names (v, vs) ≡ mark names p.event ∷ all_marked (p.items ++ s) (counted names p.event) behind =
    ap (λ (w : Values (i ∷ s)). all_marked (i ∷ s) names w) (parted i s v vs x) ∙ gathered_marks i s x.token p names behind made in
    record {
      reads =
          ap (λ (o : Option (Production i)). production_begun i s names at o (λ p. read (p.items ++ s) (counted names p.event) (at + 1) ts)) found
          ∙ ap (λ (r : Result (Values (p.items ++ s)) Fault). passing (mark names p.event) at (r >>= λ vs. Ok (gathered i s p vs))) more.reads
          ∙ ap (λ (r : Result (Values (i ∷ s)) Fault). passing (mark names p.event) at r) (passing_all_map (all_marked (p.items ++ s) (counted names p.event) behind) (at + 1) behind (gathered i s p))
          ∙ ap (λ (ms : List Mark). passing_all ms at (Ok (gathered i s p behind))) (sym marked)
          ∙ ap (λ (w : Values (i ∷ s)). passing_all (all_marked (i ∷ s) names (v, vs)) at (Ok w)) (sym (parted i s v vs x));
      limits = subst (λ (ms : List Mark). AllByRecursion IsLimit ms) (sym marked) (mark_limit names p.event, more.limits);
    }

pub again : (ts : List Token) (s : List Item) (names at : ℕ) (vs : Values s) → ts ≡ spelled s vs → AllFit s vs → Closed s → Again ts s names at vs
unfolding read
again [] [] names at vs e fits closed = record { reads = refl; limits = tt }
again (t ∷ ts) [] names at vs e fits closed = absurd cc
again [] (i ∷ s) names at vs e fits closed =
    elim (split i vs.0 fits.0) [
      | inl x ↦ let none = e ∙ first_token i s vs.0 vs.1 x in absurd cc
      | inr over ↦ record { reads = over_again i s names at vs.0 vs.1 [] over e closed; limits = over_limits i s names vs.0 vs.1 over closed }
    ]
again (t ∷ ts) (i ∷ s) names at vs e fits closed =
    elim (split i vs.0 fits.0) [
      | inl x ↦ first_again t ts i s names at vs.0 vs.1 x e fits.1 closed (λ s names at vs. again ts s names at vs)
      | inr over ↦ record { reads = over_again i s names at vs.0 vs.1 (t ∷ ts) over e closed; limits = over_limits i s names vs.0 vs.1 over closed }
    ]
