-- What a program without faults and within its limits is once its names are resolved: expressions and
-- blocks.
use Rattle.std.proofs.Common.{◌≡◌, ℕ, ◌+◌, ◌-◌, ◌≤◌, ◌<◌, Bool, true, false, ◌&&◌, nat_lt, nat_le, ◌==◌, if◌then◌else◌, Option, Some, None, IfSome, is_some, unwrap_or, List, [], ◌∷◌, ◌++◌, length, length-take, take, map, get_or, refl, sym, ap, ◌∙◌, subst, arith, length-append}
use Rattle.std.specs.List.{AllByRecursion, flat_map}
use Rattle.std.specs.Str.{bytes_eq}
use Rattle.std.proofs.lemmas.Bool.Decides.{nat_tests}
use Rattle.std.proofs.lemmas.Bool.{eqb-true, and_parts}
use Rattle.std.proofs.lemmas.List.{get_or-map, length-map, take_more}
use Rattle.aml_tokens.specs.declared.tokens.Word.{Word}
use Rattle.aml_tokens.specs.declared.tokens.TextCause.{TextCause}
use Rattle.aml_tree.specs.Tree.{Expr, Number, Variable, Field, Own, Group, Negative, Binary, Code, End, Let, Call, Set, SetField, If, IfElse, While, Fail, Return, TextMethod, CheckedMethod}
use Rattle.aml_tree.specs.Limits.{Mark, opened, marks, listed_marks, lets, block_marks}
use Rattle.aml_tree.specs.Programs.{IsUnmarked}
use Rattle.aml_tree.specs.Grammar.{lean, level, IsAtLevel, IsExpression, IsPrimary, IsBlock}
use Rattle.aml_tokens.specs.declared.tokens.TextCause.TheVariants.{NumberRange}
use Rattle.aml_resolver.specs.declared.faults.CheckFault.{CheckFault}
use Rattle.aml_resolver.specs.declared.faults.CheckCause.TheVariants.{UnknownName, ArgCount}
use Rattle.aml_resolver.specs.Names.{place_from, place_of, placed, checked_expression, checked_block, checked_method, checked_program}
use Rattle.aml_check.specs.Names.{method_names, method_at, no_method, counted_from}
use Rattle.aml_resolver.specs.Faults.{fault_at, unknown, duplicate, faults, call_faults_at, call_faults, is_writer, promise_faults, block_faults}
use Rattle.aml_check.specs.Closed.{IsClosedExpression, IsClosedCall, IsClosedBlock}
use Rattle.aml_resolver.proofs.Lookup.{among_from}

-- ---- lists

pub none_left : (fs gs : List CheckFault) → fs ++ gs ≡ [] → fs ≡ []
none_left [] gs e = refl
none_left (f ∷ fs) gs e = absurd cc

pub none_right : (fs gs : List CheckFault) → fs ++ gs ≡ [] → gs ≡ []
none_right [] gs e = e
none_right (f ∷ fs) gs e = absurd cc

pub all_left : (xs ys : List Mark) → AllByRecursion IsUnmarked (xs ++ ys) → AllByRecursion IsUnmarked xs
all_left [] ys all = tt
all_left (x ∷ xs) ys all = (all.0, all_left xs ys all.1)

pub all_right : (xs ys : List Mark) → AllByRecursion IsUnmarked (xs ++ ys) → AllByRecursion IsUnmarked ys
all_right [] ys all = all
all_right (x ∷ xs) ys all = all_right xs ys all.1

-- ---- tests

by_bound : (b : Bool) (c : TextCause) → (if b then None else Some c) ≡ None → b ≡ true
by_bound true c e = refl
by_bound false c e = absurd cc

pub below : (n m : ℕ) (c : TextCause) → (if nat_lt n m then None else Some c) ≡ None → n < m
below n m c e = let t : nat_lt n m ≡ true = by_bound (nat_lt n m) c e in grind (arith, nat_tests)

pub in_bounds : (n low high : ℕ) (c : TextCause) → (if nat_le low n && nat_le n high then None else Some c) ≡ None → (low ≤ n) × (n ≤ high)
in_bounds n low high c e =
    let t = and_parts (nat_le low n) (nat_le n high) (by_bound (nat_le low n && nat_le n high) c e) in
    let t0 : nat_le low n ≡ true = t.0 in
    let t1 : nat_le n high ≡ true = t.1 in
    (grind (arith, nat_tests), grind (arith, nat_tests))

-- ---- names

if_later : (k n : ℕ) (o : Option ℕ) → IfSome o (λ j. j < (k + 1) + n) → IfSome o (λ j. j < k + (1 + n))
if_later k n (Some j) h = omega (arith, h)
if_later k n None h = tt

place_by : (b : Bool) (k n : ℕ) (o : Option ℕ) → IfSome o (λ j. j < (k + 1) + n) → IfSome (if b then Some k else o) (λ j. j < k + (1 + n))
place_by true k n o h = omega arith
place_by false k n o h = if_later k n o h

pub place_in : (k : ℕ) (ns : List (List ℕ)) (name : List ℕ) → IfSome (place_from k ns name) (λ j. j < k + length ns)
place_in k [] name = tt
place_in k (n ∷ ns) name =
    let P : ℕ → Type 0 = λ m. IfSome (place_from k (n ∷ ns) name) (λ j. j < k + m) in
    let e : 1 + length ns ≡ length (n ∷ ns) = omega arith in
    subst P e (place_by (bytes_eq n name) k (length ns) (place_from (k + 1) ns name) (place_in (k + 1) ns name))

known_by : (o : Option ℕ) (w : Word) → (if is_some o then [] else fault_at w UnknownName) ≡ [] → is_some o ≡ true
known_by (Some j) w e = refl
known_by None w e = absurd cc

within_by : (o : Option ℕ) (n : ℕ) → is_some o ≡ true → IfSome o (λ j. j < 0 + n) → unwrap_or o n < n
within_by (Some j) n e h = omega (arith, h)
within_by None n e h = absurd cc

pub known_place : (ns : List (List ℕ)) (w : Word) → unknown ns w ≡ [] → placed ns w < length ns
known_place ns w e =
    let P : Bool → Type 0 = λ b. (if b then [] else fault_at w UnknownName) ≡ [] in
    within_by (place_of ns w.name) (length ns) (known_by (place_of ns w.name) w (subst P (among_from 0 ns w) e)) (place_in 0 ns w.name)

-- ---- expressions

pub closed_expression : (ns : List (List ℕ)) (k : ℕ) (e : Expr Word) → IsAtLevel k e → faults ns e ≡ [] → IsClosedExpression (length ns) (checked_expression ns e)
closed_expression ns k (Number n) rule none = rule
closed_expression ns k (Variable w) rule none = known_place ns w none
closed_expression ns k (Field f line) rule none = rule
closed_expression ns k Own rule none = tt
closed_expression ns k (Group e) rule none = closed_expression ns 5 e rule none
closed_expression ns k (Negative e) rule none = closed_expression ns 0 e rule none
closed_expression ns k (Binary o a b) rule none = (
  closed_expression ns (lean (level o)) a rule.1 (none_left (faults ns a) (faults ns b) none),
  closed_expression ns (level o - 1) b rule.2 (none_right (faults ns a) (faults ns b) none),
)

closed_all : (ns : List (List ℕ)) (es : List (Expr Word)) → AllByRecursion IsExpression es → flat_map (faults ns) es ≡ [] → AllByRecursion (IsClosedExpression (length ns)) (map (checked_expression ns) es)
closed_all ns [] rules none = tt
closed_all ns (e ∷ es) rules none = (
  closed_expression ns 5 e rules.0 (none_left (faults ns e) (flat_map (faults ns) es) none),
  closed_all ns es rules.1 (none_right (faults ns e) (flat_map (faults ns) es) none),
)

primary_at : (e : Expr Word) → IsPrimary e → IsAtLevel 0 e
primary_at (Number n) rule = rule
primary_at (Variable w) rule = rule
primary_at (Field f line) rule = rule
primary_at Own rule = rule
primary_at (Group e) rule = rule
primary_at (Negative e) rule = absurd rule
primary_at (Binary o a b) rule = absurd rule

-- ---- calls

pub counted_length : {V : Type 0} (k : ℕ) (vs : List V) → length (counted_from k vs) ≡ length vs
counted_length k [] = refl
counted_length k (v ∷ vs) = omega (arith, counted_length (k + 1) vs)

counted_push : {V : Type 0} (k : ℕ) (vs : List V) (v : V) → counted_from k (vs ++ v ∷ []) ≡ counted_from k vs ++ (k + length vs) ∷ []
counted_push k [] v = ap (λ n. n ∷ []) (omega arith)
counted_push k (w ∷ vs) v =
    let e : (k + 1) + length vs ≡ k + length (w ∷ vs) = omega arith in
    ap (λ ks. k ∷ ks) (counted_push (k + 1) vs v ∙ ap (λ n. counted_from (k + 1) vs ++ n ∷ []) e)

pub counted_more : {V : Type 0} (vs : List V) (i : ℕ) (v : V) → i < length vs → v ≡ get_or vs i v → counted_from 0 (take (i + 1) vs) ≡ counted_from 0 (take i vs) ++ i ∷ []
counted_more vs i v h is =
    let e : 0 + length (take i vs) ≡ i = omega (arith, length-take i vs) in
    ap (counted_from 0) (take_more vs i v h ∙ ap (λ w. take i vs ++ w ∷ []) (sym is)) ∙ counted_push 0 (take i vs) v ∙ ap (λ n. counted_from 0 (take i vs) ++ n ∷ []) e

-- the method at a place has as many parameters once names are resolved
same_parameters : (p : List TextMethod) (place : ℕ) → place < length p → length (method_at (checked_program p) place).parameters ≡ length (method_at p place).parameters
same_parameters p place h =
    ap (λ (m : CheckedMethod). length m.parameters) (get_or-map (checked_method (method_names p)) p place no_method no_method h)
    ∙ counted_length 0 (method_at p place).parameters

by_count : (b : Bool) (w : Word) → (if b then [] else fault_at w ArgCount) ≡ [] → b ≡ true
by_count true w e = refl
by_count false w e = absurd cc

closed_by : (p : List TextMethod) (w : Word) (n : ℕ) (o : Option ℕ) → IfSome o (λ j. j < 0 + length (method_names p)) → call_faults_at p w n o ≡ [] → IsClosedCall (checked_program p) (unwrap_or o (length (method_names p))) n
closed_by p w n (Some place) inside e =
    let h : place < length p = omega (arith, inside, length-map p (λ (m : TextMethod). m.name.name)) in
    let same : length (method_at p place).parameters ≡ n = eqb-true (length (method_at p place).parameters) n (by_count (length (method_at p place).parameters == n) w e) in
    (omega (arith, h, length-map p (checked_method (method_names p))), sym (same_parameters p place h ∙ same))
closed_by p w n None inside e = absurd cc

closed_call : (p : List TextMethod) (w : Word) (n : ℕ) → call_faults p w n ≡ [] → IsClosedCall (checked_program p) (placed (method_names p) w) n
closed_call p w n e = closed_by p w n (place_of (method_names p) w.name) (place_in 0 (method_names p) w.name) e

-- ---- blocks

closed_next : (c : List CheckedMethod) (ns : List (List ℕ)) (x : List ℕ) (b : Code ℕ ℕ) → IsClosedBlock c (length (ns ++ x ∷ [])) b → IsClosedBlock c (length ns + 1) b
closed_next c ns x b closed =
    let P : ℕ → Type 0 = λ n. IsClosedBlock c n b in
    let e : length (ns ++ x ∷ []) ≡ length ns + 1 = rw length-append (omega arith) in
    subst P e closed

abbrev AllUnmarked : List Mark → Type 0
AllUnmarked ms = AllByRecursion IsUnmarked ms

pub closed_block : (p : List TextMethod) (r : Bool) (ns : List (List ℕ)) (d k : ℕ) (b : Code Word Word) → IsBlock b → block_faults p r ns b ≡ [] → AllUnmarked (block_marks d k b) → IsClosedBlock (checked_program p) (length ns) (checked_block (method_names p) ns b)
closed_block p r ns d k (End line) rule none free = tt
closed_block p r ns d k (Let line v value rest) rule none free =
    let later = none_right (duplicate ns v) (faults ns value ++ block_faults p r (ns ++ v.name ∷ []) rest) none in (
      refl,
      closed_expression ns 5 value rule.1 (none_left (faults ns value) (block_faults p r (ns ++ v.name ∷ []) rest) later),
      closed_next (checked_program p) ns v.name (checked_block (method_names p) (ns ++ v.name ∷ []) rest) (closed_block p r (ns ++ v.name ∷ []) d (k + 1) rest rule.2 (none_right (faults ns value) (block_faults p r (ns ++ v.name ∷ []) rest) later)
          (all_right (marks d value) (None ∷ block_marks d (k + 1) rest) free.1.1.1).1),
    )
closed_block p r ns d k (Call line v target m arguments rest) rule none free =
    let behind = block_faults p r (ns ++ v.name ∷ []) rest in
    let all = flat_map (faults ns) arguments in
    let promised = none_right (promise_faults (r && is_writer p m) line) (duplicate ns v ++ (faults ns target ++ (call_faults p m (length arguments) ++ (all ++ behind)))) none in
    let a = none_right (duplicate ns v) (faults ns target ++ (call_faults p m (length arguments) ++ (all ++ behind))) promised in
    let b = none_right (faults ns target) (call_faults p m (length arguments) ++ (all ++ behind)) a in
    let c = none_right (call_faults p m (length arguments)) (all ++ behind) b in
    let free_after = all_right (marks d target) (None ∷ opened d ∷ (listed_marks (map (marks (d + 1)) arguments) ++ None ∷ None ∷ block_marks d (k + 1) rest)) free.1.1.1.1 in
    let P : ℕ → Type 0 = λ n. IsClosedCall (checked_program p) (placed (method_names p) m) n in (
      refl,
      closed_expression ns 0 target (primary_at target rule.1) (none_left (faults ns target) (call_faults p m (length arguments) ++ (all ++ behind)) a),
      subst P (sym (length-map arguments (checked_expression ns))) (closed_call p m (length arguments) (none_left (call_faults p m (length arguments)) (all ++ behind) b)),
      closed_all ns arguments rule.3 (none_left all behind c),
      closed_next (checked_program p) ns v.name (checked_block (method_names p) (ns ++ v.name ∷ []) rest) (closed_block p r (ns ++ v.name ∷ []) d (k + 1) rest rule.4 (none_right all behind c)
          (all_right (listed_marks (map (marks (d + 1)) arguments)) (None ∷ None ∷ block_marks d (k + 1) rest) free_after.1.1).1.1),
    )
closed_block p r ns d k (Set v value rest) rule none free =
    let later = none_right (unknown ns v) (faults ns value ++ block_faults p r ns rest) none in (
      known_place ns v (none_left (unknown ns v) (faults ns value ++ block_faults p r ns rest) none),
      closed_expression ns 5 value rule.1 (none_left (faults ns value) (block_faults p r ns rest) later),
      closed_block p r ns d k rest rule.2 (none_right (faults ns value) (block_faults p r ns rest) later) (all_right (marks d value) (None ∷ block_marks d k rest) free.1.1).1,
    )
closed_block p r ns d k (SetField line f value rest) rule none free =
    let promised = none_right (promise_faults r line) (faults ns value ++ block_faults p r ns rest) none in (
      rule.0,
      closed_expression ns 5 value rule.1 (none_left (faults ns value) (block_faults p r ns rest) promised),
      closed_block p r ns d k rest rule.2 (none_right (faults ns value) (block_faults p r ns rest) promised) (all_right (marks d value) (None ∷ block_marks d k rest) free.1.1).1,
    )
closed_block p r ns d k (If condition first rest) rule none free =
    let later = none_right (faults ns condition) (block_faults p r ns first ++ block_faults p r ns rest) none in
    let inside = (all_right (marks d condition) (opened d ∷ (block_marks (d + 1) k first ++ block_marks d (k + lets first) rest)) free.1).1 in (
      closed_expression ns 5 condition rule.0 (none_left (faults ns condition) (block_faults p r ns first ++ block_faults p r ns rest) none),
      closed_block p r ns (d + 1) k first rule.1 (none_left (block_faults p r ns first) (block_faults p r ns rest) later) (all_left (block_marks (d + 1) k first) (block_marks d (k + lets first) rest) inside),
      closed_block p r ns d (k + lets first) rest rule.2 (none_right (block_faults p r ns first) (block_faults p r ns rest) later) (all_right (block_marks (d + 1) k first) (block_marks d (k + lets first) rest) inside),
    )
closed_block p r ns d k (IfElse condition first other rest) rule none free =
    let one = none_right (faults ns condition) (block_faults p r ns first ++ (block_faults p r ns other ++ block_faults p r ns rest)) none in
    let two = none_right (block_faults p r ns first) (block_faults p r ns other ++ block_faults p r ns rest) one in
    let ends_marks = block_marks (d + 1) (k + lets first) other ++ block_marks d (k + lets first + lets other) rest in
    let inside = (all_right (marks d condition) (opened d ∷ (block_marks (d + 1) k first ++ None ∷ opened d ∷ ends_marks)) free.1).1 in
    let last = (all_right (block_marks (d + 1) k first) (None ∷ opened d ∷ ends_marks) inside).1.1 in (
      closed_expression ns 5 condition rule.0 (none_left (faults ns condition) (block_faults p r ns first ++ (block_faults p r ns other ++ block_faults p r ns rest)) none),
      closed_block p r ns (d + 1) k first rule.1 (none_left (block_faults p r ns first) (block_faults p r ns other ++ block_faults p r ns rest) one) (all_left (block_marks (d + 1) k first) (None ∷ opened d ∷ ends_marks) inside),
      closed_block p r ns (d + 1) (k + lets first) other rule.2 (none_left (block_faults p r ns other) (block_faults p r ns rest) two) (all_left (block_marks (d + 1) (k + lets first) other) (block_marks d (k + lets first + lets other) rest) last),
      closed_block p r ns d (k + lets first + lets other) rest rule.3 (none_right (block_faults p r ns other) (block_faults p r ns rest) two) (all_right (block_marks (d + 1) (k + lets first) other) (block_marks d (k + lets first + lets other) rest) last),
    )
closed_block p r ns d k (While condition body rest) rule none free =
    let later = none_right (faults ns condition) (block_faults p r ns body ++ block_faults p r ns rest) none in
    let inside = (all_right (marks d condition) (opened d ∷ (block_marks (d + 1) k body ++ block_marks d (k + lets body) rest)) free.1).1 in (
      closed_expression ns 5 condition rule.0 (none_left (faults ns condition) (block_faults p r ns body ++ block_faults p r ns rest) none),
      closed_block p r ns (d + 1) k body rule.1 (none_left (block_faults p r ns body) (block_faults p r ns rest) later) (all_left (block_marks (d + 1) k body) (block_marks d (k + lets body) rest) inside),
      closed_block p r ns d (k + lets body) rest rule.2 (none_right (block_faults p r ns body) (block_faults p r ns rest) later) (all_right (block_marks (d + 1) k body) (block_marks d (k + lets body) rest) inside),
    )
closed_block p r ns d k (Fail code rest) rule none free = (in_bounds code 1 999 NumberRange free.1.0, closed_block p r ns d k rest rule.1 none free.1.1.1)
closed_block p r ns d k (Return value rest) rule none free = (
  closed_expression ns 5 value rule.0 (none_left (faults ns value) (block_faults p r ns rest) none),
  closed_block p r ns d k rest rule.1 (none_right (faults ns value) (block_faults p r ns rest) none) (all_right (marks d value) (None ∷ block_marks d k rest) free.1).1,
)
