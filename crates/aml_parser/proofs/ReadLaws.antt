-- Reading items: what is read is there, what is there is read, where reading stops a program of the
-- grammar goes on up to there, and reading sees no token behind the one at which it stops.
use Rattle.std.proofs.Common.{◌≡◌, ℕ, suc, ◌+◌, ◌≤◌, List, [], ◌∷◌, ◌++◌, length, Option, Some, None, Result, Ok, Err, refl, sym, ap, subst, ◌∙◌, inl, inr, ◌⊎◌, arith}
use Rattle.std.specs.List.{AllByRecursion}
use Rattle.aml_tokens.specs.Names.{IsToken}
use Rattle.aml_tokens.specs.declared.tokens.TextCause.{TextCause}
use Rattle.aml_tokens.specs.declared.tokens.TextCause.TheVariants.{Unexpected}
use Rattle.aml_tokens.specs.Token.{Token}
use Rattle.aml_tree.specs.Limits.{Mark}
use Rattle.aml_tree.specs.Programs.{IsUnmarked}
use Rattle.aml_parser.specs.Items.{Item, Methods, Value, Values, Production, mark, counted, front, back, expand}
use Rattle.aml_parser.specs.Reading.{Fault, ◌>>=◌, passing, production_begun, text_ended, read}
use Rattle.aml_parser.proofs.Written.{spelled, all_marked, then_named, AllFit}
use Rattle.aml_parser.proofs.Made.{Made, Good, spelled_parts, marked_parts, fit_front, fit_back}
use Rattle.aml_parser.proofs.BlockProductions.{good}
use Rattle.aml_parser.proofs.Split.{Closed, Over}

-- ---- an item and its production

-- values behind a first token, as values of the item and of those behind it
abbrev pub gathered : (i : Item) (s : List Item) (p : Production i) → Values (p.items ++ s) → Values (i ∷ s)
gathered i s p vs = (p.make (front p.items s vs), back p.items s vs)

pub made_by : (i : Item) (t : Token) (p : Production i) → IsToken t → expand i t ≡ Some p → Made i t p
made_by i t p h e = subst (λ (o : Option (Production i)). Good i t o) e (good i t h)

pub gathered_fits : (i : Item) (s : List Item) (t : Token) (p : Production i) (vs : Values (p.items ++ s)) → Made i t p → AllFit (p.items ++ s) vs → AllFit (i ∷ s) (gathered i s p vs)
gathered_fits i s t p vs made h = ((made (front p.items s vs)).fits (fit_front p.items s vs h), fit_back p.items s vs h)

pub gathered_tokens : (i : Item) (s : List Item) (t : Token) (p : Production i) (vs : Values (p.items ++ s)) → Made i t p → spelled (i ∷ s) (gathered i s p vs) ≡ t ∷ spelled (p.items ++ s) vs
gathered_tokens i s t p vs made =
    ap (λ (ts : List Token). ts ++ spelled s (back p.items s vs)) ((made (front p.items s vs)).tokens) ∙ ap (λ (ts : List Token). t ∷ ts) (sym (spelled_parts p.items s vs))

pub gathered_marks : (i : Item) (s : List Item) (t : Token) (p : Production i) (names : ℕ) (vs : Values (p.items ++ s)) → Made i t p
    → all_marked (i ∷ s) names (gathered i s p vs) ≡ mark names p.event ∷ all_marked (p.items ++ s) (counted names p.event) vs
gathered_marks i s t p names vs made =
    let us : Values p.items = front p.items s vs in
    ap (λ (ms : List Mark). ms ++ all_marked s (then_named i names (p.make us)) (back p.items s vs)) ((made us).marks names)
    ∙ ap (λ (n : ℕ). mark names p.event ∷ (all_marked p.items (counted names p.event) us ++ all_marked s n (back p.items s vs))) ((made us).names names)
    ∙ ap (λ (ms : List Mark). mark names p.event ∷ ms) (sym (marked_parts p.items s (counted names p.event) vs))

-- ---- what is read is there

pub record Whole (s : List Item) (names : ℕ) (ts : List Token) (vs : Values s) : Type 0 where
  pub fits : AllFit s vs
  pub tokens : ts ≡ spelled s vs
  pub unmarked : AllByRecursion IsUnmarked (all_marked s names vs)

-- a reading that went well, and one that stopped
abbrev pub fine : {A : Type 0} → A → Result A Fault
fine x = Ok x

abbrev pub halt : (A : Type 0) → Fault → Result A Fault
halt A fault = Err fault

pub ok_same : {A : Type 0} (x y : A) → fine x ≡ fine y → x ≡ y
ok_same x y e = cc

pub err_same : (A : Type 0) (x y : Fault) → halt A x ≡ halt A y → x ≡ y
err_same A x y e = cc

ended_is : (i : Item) (s : List Item) (names at : ℕ) (vs : Values (i ∷ s)) → text_ended i s at ≡ Ok vs → Whole (i ∷ s) names [] vs
ended_is (Methods (suc before)) [] names at vs e =
    subst (λ (vs : Values (Methods (suc before) ∷ [])). Whole (Methods (suc before) ∷ []) names [] vs) (ok_same ([], tt) vs e)
    (record { fits = ((λ e. absurd (omega (arith, e)), tt), tt); tokens = refl; unmarked = tt })
ended_is _ _ names at vs e = absurd cc

passed_is : {A : Type 0} (m : Mark) (at : ℕ) (r : Result A Fault) (x : A) → passing m at r ≡ Ok x → (m ≡ None) × (r ≡ Ok x)
passed_is None at r x e = (refl, e)
passed_is (Some c) at r x e = absurd cc

pub bound_is : {A B : Type 0} (r : Result A Fault) (f : A → Result B Fault) (y : B) → (r >>= f) ≡ Ok y → (x : A) × (r ≡ Ok x) × (f x ≡ Ok y)
bound_is (Ok x) f y e = (x, refl, e)
bound_is (Err fault) f y e = absurd cc

record Began (i : Item) (s : List Item) (names : ℕ) (o : Option (Production i)) (go : (p : Production i) → Result (Values (p.items ++ s)) Fault) (vs : Values (i ∷ s)) : Type 0 where
  p : Production i
  found : o ≡ Some p
  unmarked : mark names p.event ≡ None
  behind : Values (p.items ++ s)
  reads : go p ≡ Ok behind
  made : gathered i s p behind ≡ vs

began : (i : Item) (s : List Item) (names at : ℕ) (o : Option (Production i)) (go : (p : Production i) → Result (Values (p.items ++ s)) Fault) (vs : Values (i ∷ s)) → production_begun i s names at o go ≡ Ok vs → Began i s names o go vs
began i s names at None go vs e = absurd cc
began i s names at (Some p) go vs e =
    let passed = passed_is (mark names p.event) at (go p >>= λ vs. Ok (gathered i s p vs)) vs e in
    let bound = bound_is (go p) (λ vs. Ok (gathered i s p vs)) vs passed.1 in
    record { p = p; found = refl; unmarked = passed.0; behind = bound.0; reads = bound.1; made = ok_same (gathered i s p bound.0) vs bound.2 }

pub sound : (ts : List Token) (s : List Item) (names at : ℕ) (vs : Values s) → AllByRecursion IsToken ts → read s names at ts ≡ Ok vs → Whole s names ts vs
unfolding read
sound [] [] names at vs h e = record { fits = tt; tokens = refl; unmarked = tt }
sound (t ∷ ts) [] names at vs h e = absurd cc
sound [] (i ∷ s) names at vs h e = ended_is i s names at vs e
sound (t ∷ ts) (i ∷ s) names at vs h e =
    let b = began i s names at (expand i t) (λ p. read (p.items ++ s) (counted names p.event) (at + 1) ts) vs e in
    let made = made_by i t b.p h.0 b.found in
    let w = sound ts (b.p.items ++ s) (counted names b.p.event) (at + 1) b.behind h.1 b.reads in
    subst (λ (vs : Values (i ∷ s)). Whole (i ∷ s) names (t ∷ ts) vs) b.made
    (record {
      fits = gathered_fits i s t b.p b.behind made w.fits;
      tokens = ap (λ (ts : List Token). t ∷ ts) w.tokens ∙ sym (gathered_tokens i s t b.p b.behind made);
      unmarked = subst (λ (ms : List Mark). AllByRecursion IsUnmarked ms) (sym (gathered_marks i s t b.p names b.behind made)) (b.unmarked, w.unmarked);
    })

-- ---- where reading stops

pub ended_not : (i : Item) (s : List Item) (at : ℕ) (fault : Fault) → text_ended i s at ≡ Err fault → (at, Unexpected) ≡ fault
ended_not (Methods (suc before)) [] at fault e = absurd cc
ended_not _ _ at fault e = cc

-- how a reading that begins with a token stops: at it, or behind it
abbrev pub Halts : (i : Item) (s : List Item) (names at : ℕ) → Option (Production i) → ((p : Production i) → Result (Values (p.items ++ s)) Fault) → Fault → Type 0
Halts i s names at o go fault =
    ((o ≡ None) × ((at, Unexpected) ≡ fault))
    ⊎ ((p : Production i) × (o ≡ Some p) × (((c : TextCause) × (mark names p.event ≡ Some c) × ((at, c) ≡ fault)) ⊎ ((mark names p.event ≡ None) × (go p ≡ Err fault))))

passing_err : {A : Type 0} (m : Mark) (at : ℕ) (r : Result A Fault) (fault : Fault) → passing m at r ≡ Err fault → ((c : TextCause) × (m ≡ Some c) × ((at, c) ≡ fault)) ⊎ ((m ≡ None) × (r ≡ Err fault))
passing_err None at r fault e = inr (refl, e)
passing_err {A} (Some c) at r fault e = inl (c, refl, err_same A (at, c) fault e)

pub bound_err : {A B : Type 0} (r : Result A Fault) (f : A → B) (fault : Fault) → (r >>= λ x. Ok (f x)) ≡ Err fault → r ≡ Err fault
bound_err (Ok x) f fault e = absurd cc
bound_err {A} {B} (Err other) f fault e = ap (λ (x : Fault). halt A x) (err_same B other fault e)

pub halted : (i : Item) (s : List Item) (names at : ℕ) (o : Option (Production i)) (go : (p : Production i) → Result (Values (p.items ++ s)) Fault) (fault : Fault) → production_begun i s names at o go ≡ Err fault → Halts i s names at o go fault
halted i s names at None go fault e = inl (refl, err_same (Values (i ∷ s)) (at, Unexpected) fault e)
halted i s names at (Some p) go fault e =
    elim (passing_err (mark names p.event) at (go p >>= λ vs. Ok (gathered i s p vs)) fault e) [
      | inl limit ↦ inr (p, refl, inl limit)
      | inr on ↦ inr (p, refl, inr (on.0, bound_err (go p) (gathered i s p) fault on.1))
    ]

at_place : (at : ℕ) (c : TextCause) (fault : Fault) → (at, c) ≡ fault → at ≤ fault.0
at_place at c fault e = let same : at ≡ fault.0 = ap (λ (f : Fault). f.0) e in omega (arith, same)

pub later : (ts : List Token) (s : List Item) (names at : ℕ) (fault : Fault) → read s names at ts ≡ Err fault → at ≤ fault.0
unfolding read
later [] [] names at fault e = absurd cc
later (t ∷ ts) [] names at fault e = at_place at Unexpected fault (err_same (Values []) (at, Unexpected) fault e)
later [] (i ∷ s) names at fault e = at_place at Unexpected fault (ended_not i s at fault e)
later (t ∷ ts) (i ∷ s) names at fault e =
    elim (halted i s names at (expand i t) (λ p. read (p.items ++ s) (counted names p.event) (at + 1) ts) fault e) [
      | inl none ↦ at_place at Unexpected fault none.1
      | inr some ↦ elim some.2 [
        | inl limit ↦ at_place at limit.0 fault limit.2
        | inr on ↦ let le = later ts (some.0.items ++ s) (counted names some.0.event) (at + 1) fault on.1 in omega (arith, le)
      ]
    ]

-- ---- no token behind the stop is seen

go_stops : (i : Item) (s : List Item) (names at : ℕ) (o : Option (Production i)) (go other : (p : Production i) → Result (Values (p.items ++ s)) Fault) (fault : Fault)
    → ((p : Production i) → go p ≡ Err fault → other p ≡ Err fault) → production_begun i s names at o go ≡ Err fault → production_begun i s names at o other ≡ Err fault
go_stops i s names at None go other fault more e = e
go_stops i s names at (Some p) go other fault more e =
    elim (passing_err (mark names p.event) at (go p >>= λ vs. Ok (gathered i s p vs)) fault e) [
      | inl limit ↦ rw limit.1 (ap (λ (f : Fault). halt (Values (i ∷ s)) f) limit.2)
      | inr on ↦ rw (on.0, more p (bound_err (go p) (gathered i s p) fault on.1)) refl
    ]

pub steady : (before : List Token) (t : Token) (ts us : List Token) (s : List Item) (names at : ℕ) (fault : Fault) → fault.0 ≤ at + length before
    → read s names at (before ++ t ∷ ts) ≡ Err fault → read s names at (before ++ t ∷ us) ≡ Err fault
unfolding read
steady [] t ts us [] names at fault le e = e
steady [] t ts us (i ∷ s) names at fault le e =
    go_stops i s names at (expand i t) (λ p. read (p.items ++ s) (counted names p.event) (at + 1) ts) (λ p. read (p.items ++ s) (counted names p.event) (at + 1) us) fault
    (λ p on. absurd (omega (arith, le, later ts (p.items ++ s) (counted names p.event) (at + 1) fault on))) e
steady (b ∷ before) t ts us [] names at fault le e = e
steady (b ∷ before) t ts us (i ∷ s) names at fault le e =
    go_stops i s names at (expand i b) (λ p. read (p.items ++ s) (counted names p.event) (at + 1) (before ++ t ∷ ts)) (λ p. read (p.items ++ s) (counted names p.event) (at + 1) (before ++ t ∷ us)) fault
    (λ p on. steady before t ts us (p.items ++ s) (counted names p.event) (at + 1) fault (omega (arith, le)) on) e

-- ---- what is there is read, up to the first limit

abbrev pub passing_all : {A : Type 0} → List Mark → ℕ → Result A Fault → Result A Fault
passing_all [] at r = r
passing_all (m ∷ ms) at r = passing m at (passing_all ms (at + 1) r)

passing_map : {A B : Type 0} (m : Mark) (at : ℕ) (r : Result A Fault) (f : A → B) → (passing m at r >>= λ x. Ok (f x)) ≡ passing m at (r >>= λ x. Ok (f x))
passing_map None at r f = refl
passing_map (Some c) at r f = refl

pub passing_all_map : {A B : Type 0} (ms : List Mark) (at : ℕ) (x : A) (f : A → B) → (passing_all ms at (Ok x) >>= λ x. Ok (f x)) ≡ passing_all ms at (Ok (f x))
passing_all_map [] at x f = refl
passing_all_map (m ∷ ms) at x f = passing_map m at (passing_all ms (at + 1) (Ok x)) f ∙ ap (λ r. passing m at r) (passing_all_map ms (at + 1) x f)

pub over_again : (i : Item) (s : List Item) (names at : ℕ) (v : Value i) (vs : Values s) (ts : List Token) → Over i v → ts ≡ spelled (i ∷ s) (v, vs) → Closed (i ∷ s)
    → read (i ∷ s) names at ts ≡ passing_all (all_marked (i ∷ s) names (v, vs)) at (Ok (v, vs))
unfolding read
over_again (Methods (suc before)) [] names at [] vs [] over e closed = refl
over_again (Methods (suc before)) [] names at [] vs (t ∷ ts) over e closed = absurd cc
over_again (Methods (suc before)) (j ∷ s) names at [] vs ts over e closed = absurd cc
over_again _ s names at v vs ts over e closed = absurd over
