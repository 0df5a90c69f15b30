-- What a production makes of values is written as its token and those values, passes the limits of
-- both, and is of the grammar.
use Rattle.std.proofs.Common.{◌≡◌, ℕ, Bool, true, false, List, [], ◌∷◌, ◌++◌, Option, Some, None, refl, sym, ap, ◌∙◌, append_assoc}
use Rattle.aml_tokens.specs.Token.{Token}
use Rattle.aml_tree.specs.Limits.{Mark}
use Rattle.aml_parser.specs.Items.{Item, Value, Values, Production, mark, counted, front, back, renamed, followed, on_test}
use Rattle.aml_parser.proofs.Written.{spells, spelled, marked, all_marked, then_named, all_named, Fits, AllFit}

pub record MadeOf (i : Item) (t : Token) (p : Production i) (us : Values p.items) : Type 0 where
  pub fits : AllFit p.items us → Fits i (p.make us)
  pub tokens : spells i (p.make us) ≡ t ∷ spelled p.items us
  pub marks : (names : ℕ) → marked i names (p.make us) ≡ mark names p.event ∷ all_marked p.items (counted names p.event) us
  pub names : (names : ℕ) → then_named i names (p.make us) ≡ all_named p.items (counted names p.event) us

abbrev pub Made : (i : Item) → Token → Production i → Type 0
Made i t p = (us : Values p.items) → MadeOf i t p us

abbrev pub Good : (i : Item) → Token → Option (Production i) → Type 0
Good i t None = Unit {0}
Good i t (Some p) = Made i t p

pub good_test : (i : Item) (t : Token) (b : Bool) (p : Production i) → (b ≡ true → Made i t p) → Good i t (on_test b p)
good_test i t true p made = made refl
good_test i t false p made = tt

-- ---- items and those behind them

pub spelled_parts : (is js : List Item) (vs : Values (is ++ js)) → spelled (is ++ js) vs ≡ spelled is (front is js vs) ++ spelled js (back is js vs)
spelled_parts [] js vs = refl
spelled_parts (i ∷ is) js vs =
    ap (λ (ts : List Token). spells i vs.0 ++ ts) (spelled_parts is js vs.1) ∙ sym (append_assoc (spells i vs.0) (spelled is (front is js vs.1)) (spelled js (back is js vs.1)))

pub marked_parts : (is js : List Item) (names : ℕ) (vs : Values (is ++ js)) → all_marked (is ++ js) names vs ≡ all_marked is names (front is js vs) ++ all_marked js (all_named is names (front is js vs)) (back is js vs)
marked_parts [] js names vs = refl
marked_parts (i ∷ is) js names vs =
    let n : ℕ = then_named i names vs.0 in
    ap (λ (ms : List Mark). marked i names vs.0 ++ ms) (marked_parts is js n vs.1)
    ∙ sym (append_assoc (marked i names vs.0) (all_marked is n (front is js vs.1)) (all_marked js (all_named is n (front is js vs.1)) (back is js vs.1)))

pub named_parts : (is js : List Item) (names : ℕ) (vs : Values (is ++ js)) → all_named (is ++ js) names vs ≡ all_named js (all_named is names (front is js vs)) (back is js vs)
named_parts [] js names vs = refl
named_parts (i ∷ is) js names vs = named_parts is js (then_named i names vs.0) vs.1

pub fit_front : (is js : List Item) (vs : Values (is ++ js)) → AllFit (is ++ js) vs → AllFit is (front is js vs)
fit_front [] js vs h = tt
fit_front (i ∷ is) js vs h = (h.0, fit_front is js vs.1 h.1)

pub fit_back : (is js : List Item) (vs : Values (is ++ js)) → AllFit (is ++ js) vs → AllFit js (back is js vs)
fit_back [] js vs h = h
fit_back (i ∷ is) js vs h = fit_back is js vs.1 h.1

-- ---- productions of other items

pub record Renames (i j : Item) (f : Value i → Value j) : Type 0 where
  pub fits : (v : Value i) → Fits i v → Fits j (f v)
  pub tokens : (v : Value i) → spells j (f v) ≡ spells i v
  pub marks : (names : ℕ) (v : Value i) → marked j names (f v) ≡ marked i names v
  pub names : (names : ℕ) (v : Value i) → then_named j names (f v) ≡ then_named i names v

pub good_renamed : (i j : Item) (f : Value i → Value j) (t : Token) (o : Option (Production i)) → Renames i j f → Good i t o → Good j t (renamed f o)
good_renamed i j f t None same good = tt
good_renamed i j f t (Some p) same good = λ us. record {
  fits = λ h. same.fits (p.make us) ((good us).fits h);
  tokens = same.tokens (p.make us) ∙ (good us).tokens;
  marks = λ n. same.marks n (p.make us) ∙ (good us).marks n;
  names = λ n. same.names n (p.make us) ∙ (good us).names n;
}

pub record Joins (i : Item) (is : List Item) (j : Item) (f : Value i → Values is → Value j) : Type 0 where
  pub fits : (v : Value i) (vs : Values is) → Fits i v → AllFit is vs → Fits j (f v vs)
  pub tokens : (v : Value i) (vs : Values is) → spells j (f v vs) ≡ spells i v ++ spelled is vs
  pub marks : (names : ℕ) (v : Value i) (vs : Values is) → marked j names (f v vs) ≡ marked i names v ++ all_marked is (then_named i names v) vs
  pub names : (names : ℕ) (v : Value i) (vs : Values is) → then_named j names (f v vs) ≡ all_named is (then_named i names v) vs

pub good_followed : (i : Item) (is : List Item) (j : Item) (f : Value i → Values is → Value j) (t : Token) (o : Option (Production i)) → Joins i is j f → Good i t o → Good j t (followed is f o)
good_followed i is j f t None joins good = tt
good_followed i is j f t (Some p) joins good = λ vs.
    let us : Values p.items = front p.items is vs in
    let ws : Values is = back p.items is vs in
    record {
      fits = λ h. joins.fits (p.make us) ws ((good us).fits (fit_front p.items is vs h)) (fit_back p.items is vs h);
      tokens = joins.tokens (p.make us) ws ∙ ap (λ (ts : List Token). ts ++ spelled is ws) (good us).tokens ∙ ap (λ (ts : List Token). t ∷ ts) (sym (spelled_parts p.items is vs));
      marks = λ n.
          joins.marks n (p.make us) ws
          ∙ ap (λ (ms : List Mark). ms ++ all_marked is (then_named i n (p.make us)) ws) ((good us).marks n)
          ∙ ap (λ (m : ℕ). mark n p.event ∷ (all_marked p.items (counted n p.event) us ++ all_marked is m ws)) ((good us).names n)
          ∙ ap (λ (ms : List Mark). mark n p.event ∷ ms) (sym (marked_parts p.items is (counted n p.event) vs));
      names = λ n. joins.names n (p.make us) ws ∙ ap (λ (m : ℕ). all_named is m ws) ((good us).names n) ∙ sym (named_parts p.items is (counted n p.event) vs);
    }
