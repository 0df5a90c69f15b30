-- Reading methods and programs, as the functions of the code read them.
use Rattle.std.proofs.Common.{◌≡◌, ℕ, zero, suc, ◌+◌, ◌<◌, ◌≤◌, nat_lt, Bool, true, false, List, [], ◌∷◌, ◌++◌, drop, length, Option, Some, None, Result, Ok, Err, refl, sym, ap, subst, ◌∙◌, append_assoc, slice_get, rules, tests, arith}
use Rattle.std.proofs.lemmas.List.{append-nil}
use Rattle.aml_tokens.specs.declared.tokens.Symbol.TheVariants as symbol
use Rattle.aml_tokens.specs.declared.tokens.TextCause.TheVariants.{Unexpected, TooMany}
use Rattle.aml_tokens.specs.declared.tokens.Word.{Word}
use Rattle.aml_tokens.specs.Token.{Token}
use Rattle.aml_tokens.specs.Token as token
use Rattle.aml_parser.specs.declared.readers.Sign.TheVariants as fixed
use Rattle.aml_tree.specs.Tree.{TextMethod}
use Rattle.aml_tree.specs.Limits.{Mark, method}
use Rattle.aml_parser.specs.Items.{Item, Called, Fixed, Opening, Parameters, Block, Methods, Values, is_method, is_read, joined_values, expand}
use Rattle.aml_parser.specs.Reading.{Fault, ◌>>=◌, passing, read, program, Takes, StopsAt, TakesHead, TakesMethod, begin_method, method_items, there}
use Rattle.aml_parser.proofs.ReadLaws.{fine}
use Rattle.aml_parser.proofs.Steps.{bound_twice, drop_none, begins, stops_none, takes_then, stops_then, stops_first, paired}

-- ---- one method

pub method_takes : (ts : List Token) (is_read : Bool) (at opening start closed first count after end : ℕ) (m : TextMethod)
    → m.is_read ≡ is_read → ((n : ℕ) → Takes ts (Called ∷ []) (m.name, tt) n at n opening) → ((n : ℕ) → Takes ts (Opening 0 fixed.Open ∷ []) (tt, tt) n opening n start) → Takes ts (Parameters ∷ []) (m.parameters, tt) 0 start count closed
    → ((n : ℕ) → Takes ts (Opening 0 fixed.OpenBrace ∷ []) (tt, tt) n closed n first) → Takes ts (Block 1 ∷ []) (m.body, tt) count first after end → TakesMethod ts is_read m at end
method_takes ts is_read at opening start closed first count after end m p a b c d e = record { promise = p; after = after; takes = takes_then (a 0) (takes_then (b 0) (takes_then c (takes_then (d count) e))) }

pub method_name_stops : (ts : List Token) (at : ℕ) (fault : Fault) → ((n : ℕ) → StopsAt ts (Called ∷ []) n at fault) → StopsAt ts method_items 0 at fault
method_name_stops ts at fault x = stops_first (x 0)

pub method_open_stops : (ts : List Token) (at opening : ℕ) (w : Word) (fault : Fault) → ((n : ℕ) → Takes ts (Called ∷ []) (w, tt) n at n opening) → ((n : ℕ) → StopsAt ts (Opening 0 fixed.Open ∷ []) n opening fault) → StopsAt ts method_items 0 at fault
method_open_stops ts at opening w fault a x = stops_then (a 0) (stops_first (x 0))

pub method_parameters_stop : (ts : List Token) (at opening start : ℕ) (w : Word) (fault : Fault) → ((n : ℕ) → Takes ts (Called ∷ []) (w, tt) n at n opening) → ((n : ℕ) → Takes ts (Opening 0 fixed.Open ∷ []) (tt, tt) n opening n start)
    → StopsAt ts (Parameters ∷ []) 0 start fault → StopsAt ts method_items 0 at fault
method_parameters_stop ts at opening start w fault a b x = stops_then (a 0) (stops_then (b 0) (stops_first x))

pub method_brace_stops : (ts : List Token) (at opening start closed count : ℕ) (w : Word) (ws : List Word) (fault : Fault)
    → ((n : ℕ) → Takes ts (Called ∷ []) (w, tt) n at n opening) → ((n : ℕ) → Takes ts (Opening 0 fixed.Open ∷ []) (tt, tt) n opening n start) → Takes ts (Parameters ∷ []) (ws, tt) 0 start count closed
    → ((n : ℕ) → StopsAt ts (Opening 0 fixed.OpenBrace ∷ []) n closed fault) → StopsAt ts method_items 0 at fault
method_brace_stops ts at opening start closed count w ws fault a b c x = stops_then (a 0) (stops_then (b 0) (stops_then c (stops_first (x count))))

pub method_body_stops : (ts : List Token) (at opening start closed first count : ℕ) (w : Word) (ws : List Word) (fault : Fault)
    → ((n : ℕ) → Takes ts (Called ∷ []) (w, tt) n at n opening) → ((n : ℕ) → Takes ts (Opening 0 fixed.Open ∷ []) (tt, tt) n opening n start) → Takes ts (Parameters ∷ []) (ws, tt) 0 start count closed
    → ((n : ℕ) → Takes ts (Opening 0 fixed.OpenBrace ∷ []) (tt, tt) n closed n first) → StopsAt ts (Block 1 ∷ []) count first fault → StopsAt ts method_items 0 at fault
method_body_stops ts at opening start closed first count w ws fault a b c d x = stops_then (a 0) (stops_then (b 0) (stops_then c (stops_then (d count) x)))

-- ---- methods

abbrev pub behind_methods : (before : ℕ) (ms : List TextMethod) → Values (Methods before ∷ []) → Values (Methods 0 ∷ [])
behind_methods before ms vs = paired (Methods 0) [] (ms ++ vs.0) tt

-- methods so far, how many they are, and the place of the next
pub record Listing (ts : List Token) (ms : List TextMethod) (end : ℕ) : Type 0 where
  pub names : ℕ
  pub goes : read (Methods 0 ∷ []) 0 0 ts ≡ (read (Methods (length ms) ∷ []) names end (drop end ts) >>= λ vs. Ok (behind_methods (length ms) ms vs))

pub listing_begins : (ts : List Token) → Listing ts [] 0
listing_begins ts = record { names = 0; goes = put (read (Methods 0 ∷ []) 0 0 ts) }
  where
    put : (r : Result (Values (Methods 0 ∷ [])) Fault) → r ≡ (r >>= λ vs. Ok (behind_methods 0 [] vs))
    put (Err f) = refl
    put (Ok vs) = refl

method_is : (o : Option Token) → there is_method o ≡ true → o ≡ Some (token.Sign symbol.Method)
method_is None e = absurd cc
method_is (Some (token.Sign symbol.Method)) e = refl
method_is (Some _) e = absurd cc

read_is : (o : Option Token) → there is_read o ≡ true → o ≡ Some (token.Sign symbol.Read)
read_is None e = absurd cc
read_is (Some (token.Sign symbol.Read)) e = refl
read_is (Some _) e = absurd cc

few_methods : (before : ℕ) → before < 64 → method before ≡ None
few_methods before lt = let e : nat_lt before 64 ≡ true = search (rules, tests) in rw e refl

many_methods : (before : ℕ) → 64 ≤ before → method before ≡ Some TooMany
many_methods before le = let e : nat_lt before 64 ≡ false = search (rules, tests) in rw e refl

-- ---- the words with which a method begins

-- what stands behind them, and the methods behind it
abbrev Behind : ℕ → List Item
Behind before = method_items ++ (Methods (before + 1) ∷ [])

method_begins : (ts : List Token) (before names at : ℕ) → there is_method (slice_get ts at) ≡ true
    → read (Methods before ∷ []) names at (drop at ts) ≡ passing (method before) at (read (Behind before) 0 (at + 1) (drop (at + 1) ts) >>= λ vs. Ok (begin_method false before vs))
method_begins ts before names at is = begins ts (Methods before) [] names at (token.Sign symbol.Method) (method_is (slice_get ts at) is)

pub head_method : (ts : List Token) (before at : ℕ) → there is_method (slice_get ts at) ≡ true → before < 64 → TakesHead ts before false at (at + 1)
head_method ts before at is lt = record {
  goes = λ names.
      method_begins ts before names at is
      ∙ ap (λ (m : Mark). passing m at (read (Behind before) 0 (at + 1) (drop (at + 1) ts) >>= λ vs. Ok (begin_method false before vs))) (few_methods before lt);
}

pub head_method_many : (ts : List Token) (before names at : ℕ) → there is_method (slice_get ts at) ≡ true → 64 ≤ before → read (Methods before ∷ []) names at (drop at ts) ≡ Err (at, TooMany)
head_method_many ts before names at is le =
    method_begins ts before names at is
    ∙ ap (λ (m : Mark). passing m at (read (Behind before) 0 (at + 1) (drop (at + 1) ts) >>= λ vs. Ok (begin_method false before vs))) (many_methods before le)

abbrev begin_reader : (before : ℕ) → Values (Fixed fixed.Method ∷ Behind before) → Values (Methods before ∷ [])
begin_reader before vs = begin_method true before vs.1

read_begins : (ts : List Token) (before names at : ℕ) → there is_read (slice_get ts at) ≡ true
    → read (Methods before ∷ []) names at (drop at ts) ≡ passing (method before) at (read (Fixed fixed.Method ∷ Behind before) 0 (at + 1) (drop (at + 1) ts) >>= λ vs. Ok (begin_reader before vs))
read_begins ts before names at is = begins ts (Methods before) [] names at (token.Sign symbol.Read) (read_is (slice_get ts at) is)

read_runs : (ts : List Token) (before names at : ℕ) → there is_read (slice_get ts at) ≡ true → before < 64
    → read (Methods before ∷ []) names at (drop at ts) ≡ (read (Fixed fixed.Method ∷ Behind before) 0 (at + 1) (drop (at + 1) ts) >>= λ vs. Ok (begin_reader before vs))
read_runs ts before names at is lt =
    read_begins ts before names at is
    ∙ ap (λ (m : Mark). passing m at (read (Fixed fixed.Method ∷ Behind before) 0 (at + 1) (drop (at + 1) ts) >>= λ vs. Ok (begin_reader before vs))) (few_methods before lt)

pub head_read : (ts : List Token) (before at start : ℕ) → there is_read (slice_get ts at) ≡ true → before < 64 → ((n : ℕ) → Takes ts (Fixed fixed.Method ∷ []) (tt, tt) n (at + 1) n start) → TakesHead ts before true at start
head_read ts before at start is lt word = record {
  goes = λ names.
      read_runs ts before names at is lt
      ∙ ap (λ (r : Result (Values (Fixed fixed.Method ∷ Behind before)) Fault). r >>= λ vs. Ok (begin_reader before vs)) ((word 0).goes (Behind before))
      ∙ bound_twice (read (Behind before) 0 start (drop start ts)) (joined_values (Fixed fixed.Method ∷ []) (Behind before) (tt, tt)) (begin_reader before);
}

pub head_read_many : (ts : List Token) (before names at : ℕ) → there is_read (slice_get ts at) ≡ true → 64 ≤ before → read (Methods before ∷ []) names at (drop at ts) ≡ Err (at, TooMany)
head_read_many ts before names at is le =
    read_begins ts before names at is
    ∙ ap (λ (m : Mark). passing m at (read (Fixed fixed.Method ∷ Behind before) 0 (at + 1) (drop (at + 1) ts) >>= λ vs. Ok (begin_reader before vs))) (many_methods before le)

pub head_word_stops : (ts : List Token) (before names at : ℕ) (fault : Fault) → there is_read (slice_get ts at) ≡ true → before < 64 → ((n : ℕ) → StopsAt ts (Fixed fixed.Method ∷ []) n (at + 1) fault)
    → read (Methods before ∷ []) names at (drop at ts) ≡ Err fault
head_word_stops ts before names at fault is lt word =
    read_runs ts before names at is lt
    ∙ ap (λ (r : Result (Values (Fixed fixed.Method ∷ Behind before)) Fault). r >>= λ vs. Ok (begin_reader before vs)) ((word 0).goes (Behind before))

-- no method, where the text does not end behind one
pub head_none : (ts : List Token) (before names at : ℕ) (o : Option Token) → slice_get ts at ≡ o → there is_method o ≡ false → there is_read o ≡ false → (0 < before → at < length ts)
    → read (Methods before ∷ []) names at (drop at ts) ≡ Err (at, Unexpected)
unfolding read
head_none ts zero names at None is none no_read more = ap (read (Methods zero ∷ []) names at) (drop_none ts at is)
head_none ts (suc before) names at None is none no_read more = let lt = more (search (rules, tests)) in let le = past ts at is in absurd (omega (arith, lt, le))
  where
    past : (ts : List Token) (at : ℕ) → slice_get ts at ≡ None → length ts ≤ at
    past [] at e = search (rules, tests)
    past (t ∷ ts) zero e = absurd cc
    past (t ∷ ts) (suc at) e = let le = past ts at e in omega (arith, le)
head_none ts before names at (Some t) is none no_read more = (stops_none ts (Methods before) names at (Some t) is (by t none no_read)).goes []
  where
    by : (t : Token) → is_method t ≡ false → is_read t ≡ false → expand (Methods before) t ≡ None
    by (token.Sign symbol.Method) e f = absurd cc
    by (token.Sign symbol.Read) e f = absurd cc
    by _ e f = refl

-- ---- methods one after the other

length_after : (ms : List TextMethod) (m : TextMethod) → length (ms ++ m ∷ []) ≡ length ms + 1
length_after [] m = refl
length_after (x ∷ xs) m = let e = length_after xs m in omega (arith, e)

-- the words of the method behind so many
pub head_so_far : (ts : List Token) (before end start : ℕ) (ms : List TextMethod) (is_read : Bool) → before ≡ length ms → TakesHead ts before is_read end start → TakesHead ts (length ms) is_read end start
head_so_far ts before end start ms is_read same head = subst (λ (n : ℕ). TakesHead ts n is_read end start) same head

pub listing_goes : (ts : List Token) (end start behind : ℕ) (ms new : List TextMethod) (is_read : Bool) (m : TextMethod) → Listing ts ms end → TakesHead ts (length ms) is_read end start → TakesMethod ts is_read m start behind → new ≡ ms ++ m ∷ []
    → Listing ts new behind
listing_goes ts end start behind ms new is_read m so_far given x pushed =
    let head : TakesHead ts (length ms) m.is_read end start = subst (λ (b : Bool). TakesHead ts (length ms) b end start) (sym x.promise) given in
    subst (λ (ns : List TextMethod). Listing ts ns behind) (sym pushed) (record {
      names = x.after;
      goes =
          so_far.goes
          ∙ ap (λ (r : Result (Values (Methods (length ms) ∷ [])) Fault). r >>= λ vs. Ok (behind_methods (length ms) ms vs))
          (head.goes so_far.names
          ∙ ap (λ (r : Result (Values (Behind (length ms))) Fault). r >>= λ vs. Ok (begin_method m.is_read (length ms) vs)) (x.takes.goes (Methods (length ms + 1) ∷ []))
          ∙ bound_twice (read (Methods (length ms + 1) ∷ []) x.after behind (drop behind ts)) (joined_values method_items (Methods (length ms + 1) ∷ []) (m.name, (tt, (m.parameters, (tt, (m.body, tt)))))) (begin_method m.is_read (length ms)))
          ∙ bound_twice (read (Methods (length ms + 1) ∷ []) x.after behind (drop behind ts)) (λ vs. paired (Methods (length ms)) [] (m ∷ vs.0) tt) (behind_methods (length ms) ms)
          ∙ put (length ms + 1) (read (Methods (length ms + 1) ∷ []) x.after behind (drop behind ts))
          ∙ counts (length_after ms m);
    })
  where
    put : (n : ℕ) (r : Result (Values (Methods n ∷ [])) Fault) → (r >>= λ vs. Ok (paired (Methods 0) [] (ms ++ m ∷ vs.0) tt)) ≡ (r >>= λ vs. Ok (behind_methods n (ms ++ m ∷ []) vs))
    put n (Err f) = refl
    put n (Ok vs) = ap (λ (xs : List TextMethod). fine (paired (Methods 0) [] xs tt)) (sym (append_assoc ms (m ∷ []) vs.0))

    counts : {n k : ℕ} → k ≡ n
        → (read (Methods n ∷ []) x.after behind (drop behind ts) >>= λ vs. Ok (behind_methods n (ms ++ m ∷ []) vs)) ≡ (read (Methods k ∷ []) x.after behind (drop behind ts) >>= λ vs. Ok (behind_methods k (ms ++ m ∷ []) vs))
    counts {n} {k} e = subst (λ (j : ℕ). (read (Methods n ∷ []) x.after behind (drop behind ts) >>= λ vs. Ok (behind_methods n (ms ++ m ∷ []) vs)) ≡ (read (Methods j ∷ []) x.after behind (drop behind ts) >>= λ vs. Ok (behind_methods j (ms ++ m ∷ []) vs))) (sym e) refl

-- a program reads as its methods do
program_of : (ts : List Token) (r : Result (Values (Methods 0 ∷ [])) Fault) → read (Methods 0 ∷ []) 0 0 ts ≡ r → program ts ≡ (r >>= λ vs. Ok vs.0)
program_of ts r e = ap (λ (q : Result (Values (Methods 0 ∷ [])) Fault). q >>= λ vs. Ok vs.0) e

abbrev pub halted : Fault → Result (List TextMethod) Fault
halted fault = Err fault

abbrev pub stopped_at : (before : ℕ) → Fault → Result (Values (Methods before ∷ [])) Fault
stopped_at before fault = Err fault

listing_halts : (ts : List Token) (end : ℕ) (ms : List TextMethod) (fault : Fault) (so_far : Listing ts ms end) → read (Methods (length ms) ∷ []) so_far.names end (drop end ts) ≡ Err fault → program ts ≡ Err fault
listing_halts ts end ms fault so_far e =
    program_of ts (stopped_at 0 fault) (so_far.goes ∙ ap (λ (r : Result (Values (Methods (length ms) ∷ [])) Fault). r >>= λ vs. Ok (behind_methods (length ms) ms vs)) e)

pub listing_headless : (ts : List Token) (before end : ℕ) (ms : List TextMethod) (fault : Fault) → Listing ts ms end → before ≡ length ms → ((names : ℕ) → read (Methods before ∷ []) names end (drop end ts) ≡ Err fault) → program ts ≡ Err fault
listing_headless ts before end ms fault so_far same none =
    listing_halts ts end ms fault so_far (subst (λ (n : ℕ). read (Methods n ∷ []) so_far.names end (drop end ts) ≡ stopped_at n fault) same (none so_far.names))

pub listing_stops : (ts : List Token) (end start : ℕ) (ms : List TextMethod) (is_read : Bool) (fault : Fault) → Listing ts ms end → TakesHead ts (length ms) is_read end start → StopsAt ts method_items 0 start fault → program ts ≡ Err fault
listing_stops ts end start ms is_read fault so_far head x =
    listing_halts ts end ms fault so_far
    (head.goes so_far.names ∙ ap (λ (r : Result (Values (Behind (length ms))) Fault). r >>= λ vs. Ok (begin_method is_read (length ms) vs)) (x.goes (Methods (length ms + 1) ∷ [])))

drop_past : (ts : List Token) (at : ℕ) → length ts ≤ at → drop at ts ≡ []
drop_past [] zero le = refl
drop_past [] (suc at) le = refl
drop_past (t ∷ ts) zero le = absurd (omega (arith, le))
drop_past (t ∷ ts) (suc at) le = drop_past ts at (omega (arith, le))

ends_there : (n names at : ℕ) → 0 < n → read (Methods n ∷ []) names at [] ≡ Ok (paired (Methods n) [] [] tt)
unfolding read
ends_there zero names at lt = absurd (omega (arith, lt))
ends_there (suc n) names at lt = refl

pub listing_ends : (ts : List Token) (end : ℕ) (ms : List TextMethod) → Listing ts ms end → 0 < length ms → length ts ≤ end → program ts ≡ Ok ms
listing_ends ts end ms so_far some le =
    ap (λ (q : Result (Values (Methods 0 ∷ [])) Fault). q >>= λ vs. Ok vs.0)
    (so_far.goes
    ∙ ap (λ (us : List Token). read (Methods (length ms) ∷ []) so_far.names end us >>= λ vs. Ok (behind_methods (length ms) ms vs)) (drop_past ts end le)
    ∙ ap (λ (r : Result (Values (Methods (length ms) ∷ [])) Fault). r >>= λ vs. Ok (behind_methods (length ms) ms vs)) (ends_there (length ms) so_far.names end some))
    ∙ ap fine (append-nil ms)
