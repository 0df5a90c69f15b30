-- Reading expressions, as the functions of the code read them.
use Rattle.std.proofs.Common.{◌≡◌, ◌≢◌, ℕ, ◌+◌, ◌<◌, ◌≤◌, nat_lt, true, false, List, [], ◌∷◌, ◌++◌, drop, Option, Some, None, Result, Ok, Err, refl, sym, ap, ◌∙◌, slice_get, rules, tests}
use Rattle.aml_tokens.specs.declared.tokens.Symbol.{Symbol}
use Rattle.aml_tokens.specs.declared.tokens.Symbol.TheVariants as symbol
use Rattle.aml_tokens.specs.declared.tokens.TextCause.TheVariants.{Unexpected, TooDeep}
use Rattle.aml_tokens.specs.declared.tokens.Word.{Word}
use Rattle.aml_tokens.specs.Token.{Token}
use Rattle.aml_tokens.specs.Token as token
use Rattle.aml_parser.specs.declared.readers.ReadNo.{ReadNo}
use Rattle.aml_parser.specs.declared.readers.ReadNo.TheVariants as no
use Rattle.aml_parser.specs.declared.readers.Sign.TheVariants as fixed
use Rattle.aml_tree.specs.Tree.{Expr, Number, Variable, Field, Own, Group, Negative}
use Rattle.aml_tree.specs.Limits.{opened}
use Rattle.aml_parser.specs.Items.{Item, Target, Operand, More, Expression, Closer, To, Value, Values, Production, Plain, mark, counted, single, all_attached, is_minus, target_by, renamed, expand}
use Rattle.aml_parser.specs.Reading.{Fault, ◌>>=◌, production_begun, text_ended, read, Takes, StopsAt, there, Chains, ReadsItem}
use Rattle.aml_parser.proofs.ReadLaws.{gathered}
use Rattle.aml_parser.proofs.Steps.{bound_twice, passed_twice, drop_none, begins, takes_none, takes_by, stops_by, stops_limit, stops_none, paired}

-- ---- one item read as another

abbrev pub Same : (j i : Item) (f : Value i → Value j) → Option Token → Type 0
Same j i f None = (s : List Item) (at : ℕ) → (text_ended j s at ≡ Err (at, Unexpected)) × (text_ended i s at ≡ Err (at, Unexpected))
Same j i f (Some t) = expand j t ≡ renamed f (expand i t)

renamed_begun : (j i : Item) (f : Value i → Value j) (s : List Item) (names at : ℕ) (rest : List Token) (o : Option (Production i))
    → production_begun j s names at (renamed f o) (λ p. read (p.items ++ s) (counted names p.event) (at + 1) rest)
    ≡ (production_begun i s names at o (λ p. read (p.items ++ s) (counted names p.event) (at + 1) rest) >>= λ vs. Ok (paired j s (f vs.0) vs.1))
renamed_begun j i f s names at rest None = refl
renamed_begun j i f s names at rest (Some p) =
    passed_twice (mark names p.event) at (read (p.items ++ s) (counted names p.event) (at + 1) rest) (gathered i s p) (λ vs. paired j s (f vs.0) vs.1)

pub renamed_reads : (ts : List Token) (j i : Item) (f : Value i → Value j) (s : List Item) (names at : ℕ) (o : Option Token) → slice_get ts at ≡ o → Same j i f o
    → read (j ∷ s) names at (drop at ts) ≡ (read (i ∷ s) names at (drop at ts) >>= λ vs. Ok (paired j s (f vs.0) vs.1))
unfolding read
renamed_reads ts j i f s names at None is same =
    let none = drop_none ts at is in
    ap (read (j ∷ s) names at) none ∙ (same s at).0
    ∙ sym (ap (λ (us : List Token). read (i ∷ s) names at us >>= λ vs. Ok (paired j s (f vs.0) vs.1)) none ∙ ap (λ (r : Result (Values (i ∷ s)) Fault). r >>= λ vs. Ok (paired j s (f vs.0) vs.1)) (same s at).1)
renamed_reads ts j i f s names at (Some t) is same =
    begins ts j s names at t is
    ∙ ap (λ (o : Option (Production j)). production_begun j s names at o (λ p. read (p.items ++ s) (counted names p.event) (at + 1) (drop (at + 1) ts))) same
    ∙ renamed_begun j i f s names at (drop (at + 1) ts) (expand i t)
    ∙ ap (λ (r : Result (Values (i ∷ s)) Fault). r >>= λ vs. Ok (paired j s (f vs.0) vs.1)) (sym (begins ts i s names at t is))

pub renamed_takes : (ts : List Token) (j i : Item) (f : Value i → Value j) (v : Value i) (names at after end : ℕ) (o : Option Token) → slice_get ts at ≡ o → Same j i f o
    → Takes ts (i ∷ []) (v, tt) names at after end → Takes ts (j ∷ []) (f v, tt) names at after end
renamed_takes ts j i f v names at after end o is same x = record {
  goes = λ s.
      renamed_reads ts j i f s names at o is same ∙ ap (λ (r : Result (Values (i ∷ s)) Fault). r >>= λ vs. Ok (paired j s (f vs.0) vs.1)) (x.goes s)
      ∙ bound_twice (read s after end (drop end ts)) (λ vs. paired i s v vs) (λ vs. paired j s (f vs.0) vs.1);
}

pub renamed_stops : (ts : List Token) (j i : Item) (f : Value i → Value j) (names at : ℕ) (fault : Fault) (o : Option Token) → slice_get ts at ≡ o → Same j i f o
    → StopsAt ts (i ∷ []) names at fault → StopsAt ts (j ∷ []) names at fault
renamed_stops ts j i f names at fault o is same x = record {
  goes = λ s. renamed_reads ts j i f s names at o is same ∙ ap (λ (r : Result (Values (i ∷ s)) Fault). r >>= λ vs. Ok (paired j s (f vs.0) vs.1)) (x.goes s);
}

-- ---- operands

pub target_one : (ts : List Token) (depth at : ℕ) (t : Token) (e : Expr Word) → slice_get ts at ≡ Some t → target_by depth t ≡ Some (single Plain e) → (names : ℕ) → Takes ts (Target depth ∷ []) (e, tt) names at names (at + 1)
target_one ts depth at t e is found names = takes_by ts (Target depth) t (single Plain e) tt names at names (at + 1) is found refl (takes_none ts names (at + 1))

abbrev pub no_target : (depth : ℕ) (o : Option Token) → Type 0
no_target depth None = Unit {0}
no_target depth (Some t) = target_by depth t ≡ None

pub no_target_sign : (depth : ℕ) (s : Symbol) → s ≢ symbol.Own → s ≢ symbol.Open → target_by depth (token.Sign s) ≡ None
no_target_sign depth symbol.Own a b = absurd (a refl)
no_target_sign depth symbol.Open a b = absurd (b refl)
no_target_sign depth _ a b = refl

pub target_none : (ts : List Token) (depth at : ℕ) (o : Option Token) → slice_get ts at ≡ o → no_target depth o → (names : ℕ) → StopsAt ts (Target depth ∷ []) names at (at, Unexpected)
target_none ts depth at None is none names = stops_none ts (Target depth) names at None is (λ s at. refl)
target_none ts depth at (Some t) is none names = stops_none ts (Target depth) names at (Some t) is none

pub is_open_level : (depth : ℕ) → depth < 32 → opened depth ≡ None
is_open_level depth lt = let e : nat_lt depth 32 ≡ true = search (rules, tests) in rw e refl

pub is_deep_level : (depth : ℕ) → 32 ≤ depth → opened depth ≡ Some TooDeep
is_deep_level depth le = let e : nat_lt depth 32 ≡ false = search (rules, tests) in rw e refl

pub group_takes : (ts : List Token) (depth at end : ℕ) (e : Expr Word) → slice_get ts at ≡ Some (token.Sign symbol.Open) → depth < 32
    → ((names : ℕ) → Takes ts (Expression (depth + 1) (To fixed.Close) ∷ []) ((e, tt), tt) names (at + 1) names end) → (names : ℕ) → Takes ts (Target depth ∷ []) (Group e, tt) names at names end
group_takes ts depth at end e is lt inner names = takes_by ts (Target depth) (token.Sign symbol.Open) _ ((e, tt), tt) names at names end is refl (is_open_level depth lt) (inner names)

pub group_stops : (ts : List Token) (depth at : ℕ) (fault : Fault) → slice_get ts at ≡ Some (token.Sign symbol.Open) → depth < 32
    → ((names : ℕ) → StopsAt ts (Expression (depth + 1) (To fixed.Close) ∷ []) names (at + 1) fault) → (names : ℕ) → StopsAt ts (Target depth ∷ []) names at fault
group_stops ts depth at fault is lt inner names = stops_by ts (Target depth) (token.Sign symbol.Open) _ names at fault is refl (is_open_level depth lt) (inner names)

pub group_deep : (ts : List Token) (depth at : ℕ) → slice_get ts at ≡ Some (token.Sign symbol.Open) → 32 ≤ depth → (names : ℕ) → StopsAt ts (Target depth ∷ []) names at (at, TooDeep)
group_deep ts depth at is le names = stops_limit ts (Target depth) (token.Sign symbol.Open) _ names at TooDeep is refl (is_deep_level depth le)

minus_is : (o : Option Token) → there is_minus o ≡ true → o ≡ Some (token.Sign symbol.Minus)
minus_is None e = absurd cc
minus_is (Some (token.Sign symbol.Minus)) e = refl
minus_is (Some _) e = absurd cc

pub negative_takes : (ts : List Token) (depth at end : ℕ) (e : Expr Word) → there is_minus (slice_get ts at) ≡ true → depth < 32
    → ((names : ℕ) → Takes ts (Operand (depth + 1) ∷ []) (e, tt) names (at + 1) names end) → (names : ℕ) → Takes ts (Operand depth ∷ []) (Negative e, tt) names at names end
negative_takes ts depth at end e is lt inner names = takes_by ts (Operand depth) (token.Sign symbol.Minus) _ (e, tt) names at names end (minus_is (slice_get ts at) is) refl (is_open_level depth lt) (inner names)

pub negative_stops : (ts : List Token) (depth at : ℕ) (fault : Fault) → there is_minus (slice_get ts at) ≡ true → depth < 32
    → ((names : ℕ) → StopsAt ts (Operand (depth + 1) ∷ []) names (at + 1) fault) → (names : ℕ) → StopsAt ts (Operand depth ∷ []) names at fault
negative_stops ts depth at fault is lt inner names = stops_by ts (Operand depth) (token.Sign symbol.Minus) _ names at fault (minus_is (slice_get ts at) is) refl (is_open_level depth lt) (inner names)

pub negative_deep : (ts : List Token) (depth at : ℕ) → there is_minus (slice_get ts at) ≡ true → 32 ≤ depth → (names : ℕ) → StopsAt ts (Operand depth ∷ []) names at (at, TooDeep)
negative_deep ts depth at is le names = stops_limit ts (Operand depth) (token.Sign symbol.Minus) _ names at TooDeep (minus_is (slice_get ts at) is) refl (is_deep_level depth le)

operand_same : (depth : ℕ) (o : Option Token) → there is_minus o ≡ false → Same (Operand depth) (Target depth) (λ e. e) o
operand_same depth None e = λ s at. (refl, refl)
operand_same depth (Some (token.Sign symbol.Minus)) e = absurd cc
operand_same depth (Some _) e = refl

pub operand_else : {X : Type 0} (ts : List Token) (depth at : ℕ) (view : X → Expr Word) (end : X → ℕ) (r : Result X ReadNo) → there is_minus (slice_get ts at) ≡ false
    → ReadsItem ts (Target depth) view end at r → ReadsItem ts (Operand depth) view end at r
operand_else ts depth at view end (Ok x) none h = λ names. renamed_takes ts (Operand depth) (Target depth) (λ e. e) (view x) names at names (end x) (slice_get ts at) refl (operand_same depth (slice_get ts at) none) (h names)
operand_else ts depth at view end (Err no.Memory) none h = tt
operand_else ts depth at view end (Err (no.At place cause)) none h = λ names. renamed_stops ts (Operand depth) (Target depth) (λ e. e) names at (place, cause) (slice_get ts at) refl (operand_same depth (slice_get ts at) none) (h names)

-- ---- operators behind an operand

abbrev pub chain_value : (depth : ℕ) (closer : Closer) (s : List Item) → Values (Operand depth ∷ More depth false closer ∷ s) → Values (Expression depth closer ∷ s)
chain_value depth closer s vs = ((all_attached vs.0 vs.1.0.0, vs.1.0.1), vs.1.1)

expression_reads : (ts : List Token) (depth : ℕ) (closer : Closer) (s : List Item) (names at : ℕ) (o : Option Token) → slice_get ts at ≡ o
    → read (Expression depth closer ∷ s) names at (drop at ts) ≡ (read (Operand depth ∷ More depth false closer ∷ s) names at (drop at ts) >>= λ vs. Ok (chain_value depth closer s vs))
unfolding read
expression_reads ts depth closer s names at None is =
    let none = drop_none ts at is in
    ap (read (Expression depth closer ∷ s) names at) none
    ∙ sym (ap (λ (us : List Token). read (Operand depth ∷ More depth false closer ∷ s) names at us >>= λ vs. Ok (chain_value depth closer s vs)) none)
expression_reads ts depth closer s names at (Some t) is =
    begins ts (Expression depth closer) s names at t is ∙ by t
    ∙ ap (λ (r : Result (Values (Operand depth ∷ More depth false closer ∷ s)) Fault). r >>= λ vs. Ok (chain_value depth closer s vs)) (sym (begins ts (Operand depth) (More depth false closer ∷ s) names at t is))
  where
    by : (t : Token)
        → production_begun (Expression depth closer) s names at (expand (Expression depth closer) t) (λ p. read (p.items ++ s) (counted names p.event) (at + 1) (drop (at + 1) ts))
        ≡ (production_begun (Operand depth) (More depth false closer ∷ s) names at (expand (Operand depth) t) (λ p. read (p.items ++ (More depth false closer ∷ s)) (counted names p.event) (at + 1) (drop (at + 1) ts)) >>= λ vs. Ok (chain_value depth closer s vs))
    by (token.Number n) = sym (bound_twice (read (More depth false closer ∷ s) names (at + 1) (drop (at + 1) ts)) (λ vs. paired (Operand depth) (More depth false closer ∷ s) (Number n) vs) (chain_value depth closer s))
    by (token.Name w) = sym (bound_twice (read (More depth false closer ∷ s) names (at + 1) (drop (at + 1) ts)) (λ vs. paired (Operand depth) (More depth false closer ∷ s) (Variable w) vs) (chain_value depth closer s))
    by (token.Field k line) = sym (bound_twice (read (More depth false closer ∷ s) names (at + 1) (drop (at + 1) ts)) (λ vs. paired (Operand depth) (More depth false closer ∷ s) (Field k line) vs) (chain_value depth closer s))
    by (token.Sign symbol.Own) = sym (bound_twice (read (More depth false closer ∷ s) names (at + 1) (drop (at + 1) ts)) (λ vs. paired (Operand depth) (More depth false closer ∷ s) Own vs) (chain_value depth closer s))
    by (token.Sign symbol.Open) =
        passed_twice (opened depth) at (read (Expression (depth + 1) (To fixed.Close) ∷ More depth false closer ∷ s) names (at + 1) (drop (at + 1) ts)) (λ vs. paired (Operand depth) (More depth false closer ∷ s) (Group vs.0.0) vs.1) (chain_value depth closer s)
    by (token.Sign symbol.Minus) =
        passed_twice (opened depth) at (read (Operand (depth + 1) ∷ More depth false closer ∷ s) names (at + 1) (drop (at + 1) ts)) (λ vs. paired (Operand depth) (More depth false closer ∷ s) (Negative vs.0) vs.1) (chain_value depth closer s)
    by _ = refl

pub chain_begins : (ts : List Token) (depth at end : ℕ) (e : Expr Word) → ((names : ℕ) → Takes ts (Operand depth ∷ []) (e, tt) names at names end) → Chains ts depth at e false end
chain_begins ts depth at end e x = record {
  first = e;
  links = [];
  tree = refl;
  goes = λ closer s names.
      expression_reads ts depth closer s names at (slice_get ts at) refl
      ∙ ap (λ (r : Result (Values (Operand depth ∷ More depth false closer ∷ s)) Fault). r >>= λ vs. Ok (chain_value depth closer s vs)) ((x names).goes (More depth false closer ∷ s))
      ∙ bound_twice (read (More depth false closer ∷ s) names end (drop end ts)) (λ vs. paired (Operand depth) (More depth false closer ∷ s) e vs) (chain_value depth closer s);
}

pub first_stops : (ts : List Token) (depth at : ℕ) (fault : Fault) → ((names : ℕ) → StopsAt ts (Operand depth ∷ []) names at fault) → (closer : Closer) (names : ℕ) → StopsAt ts (Expression depth closer ∷ []) names at fault
first_stops ts depth at fault x closer names = record {
  goes = λ s.
      expression_reads ts depth closer s names at (slice_get ts at) refl
      ∙ ap (λ (r : Result (Values (Operand depth ∷ More depth false closer ∷ s)) Fault). r >>= λ vs. Ok (chain_value depth closer s vs)) ((x names).goes (More depth false closer ∷ s));
}
