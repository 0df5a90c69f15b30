-- A program without faults and within its limits is closed once its names are resolved.
use Rattle.std.proofs.Common.{◌≡◌, ◌≢◌, ℕ, zero, suc, ◌+◌, ◌≤◌, ◌<◌, Bool, true, false, ◌&&◌, if◌then◌else◌, None, List, [], ◌∷◌, ◌++◌, length, map, get_or, refl, sym, ap, ◌∙◌, subst, arith, length-append, inl, inr, append_assoc, append-nil}
use Rattle.std.specs.List.{AllByRecursion}
use Rattle.std.specs.Str.{bytes_eq}
use Rattle.std.proofs.lemmas.Bool.{cases_lt}
use Rattle.std.proofs.lemmas.List.{length-map, get_or_append_left}
use Rattle.std.proofs.Math.Seq.{get_or-append_seam}
use Rattle.std.proofs.lemmas.List.Folds.{list_any_at}
use Rattle.std.proofs.lemmas.Slice.Eq.{bytes_eq-Decides}
use Rattle.aml_tokens.specs.declared.tokens.Word.{Word}
use Rattle.aml_tokens.specs.declared.tokens.TextCause.TheVariants.{TooDeep, TooMany}
use Rattle.aml_tree.specs.declared.trees.Method as code
use Rattle.aml_tree.specs.Tree.{method_tree, block_tree, Code, End, Let, Call, Set, SetField, If, IfElse, While, Fail, Return, TextMethod, CheckedMethod}
use Rattle.aml_tree.specs.Limits.{Mark, opened, marks, listed_marks, lets, block_marks, parameter_marks, head_marks, method_marks, methods_marks}
use Rattle.aml_tree.specs.Programs.{IsUnmarked, IsProgram}
use Rattle.aml_tree.specs.Grammar.{IsMethod}
use Rattle.aml_resolver.specs.declared.faults.CheckCause.TheVariants.{Duplicate, NoReturn}
use Rattle.aml_resolver.specs.declared.faults.CheckFault.{CheckFault}
use Rattle.aml_resolver.specs.Names.{names_of, checked_block, checked_method, checked_program}
use Rattle.aml_check.specs.Names.{method_names, counted_from}
use Rattle.aml_resolver.specs.Faults.{fault_at, is_name_among, duplicate, repeated, block_faults, last_line, end_faults, method_faults, faults_behind, program_faults, IsCheckedProgram}
use Rattle.aml_check.specs.Closed.{IsClosedBlock, nesting, IsClosedMethod, AreDistinct, IsClosedProgram, if_last, ends}
use Rattle.aml_resolver.proofs.ClosedParts.{none_left, none_right, all_left, all_right, below, counted_length, closed_block}
use Rattle.aml_resolver.proofs.Promises.{keeps_promise}

abbrev AllUnmarked : List Mark → Type 0
AllUnmarked ms = AllByRecursion IsUnmarked ms

-- ---- names and levels

pub room_of : (d k : ℕ) (b : Code Word Word) → k ≤ 32 → AllUnmarked (block_marks d k b) → k + lets b ≤ 32
room_of d k (End line) fits free = omega (arith, fits)
room_of d k (Let line v value rest) fits free =
    omega (arith, room_of d (k + 1) rest (omega (arith, below k 32 TooMany free.1.0)) (all_right (marks d value) (None ∷ block_marks d (k + 1) rest) free.1.1.1).1)
room_of d k (Call line v target m arguments rest) fits free =
    let after = all_right (marks d target) (None ∷ opened d ∷ (listed_marks (map (marks (d + 1)) arguments) ++ None ∷ None ∷ block_marks d (k + 1) rest)) free.1.1.1.1 in
    omega (arith, room_of d (k + 1) rest (omega (arith, below k 32 TooMany free.1.0)) (all_right (listed_marks (map (marks (d + 1)) arguments)) (None ∷ None ∷ block_marks d (k + 1) rest) after.1.1).1.1)
room_of d k (Set v value rest) fits free = room_of d k rest fits (all_right (marks d value) (None ∷ block_marks d k rest) free.1.1).1
room_of d k (SetField line f value rest) fits free = room_of d k rest fits (all_right (marks d value) (None ∷ block_marks d k rest) free.1.1).1
room_of d k (If condition first rest) fits free =
    let inside = (all_right (marks d condition) (opened d ∷ (block_marks (d + 1) k first ++ block_marks d (k + lets first) rest)) free.1).1 in
    let one = room_of (d + 1) k first fits (all_left (block_marks (d + 1) k first) (block_marks d (k + lets first) rest) inside) in
    omega (arith, room_of d (k + lets first) rest one (all_right (block_marks (d + 1) k first) (block_marks d (k + lets first) rest) inside))
room_of d k (IfElse condition first other rest) fits free =
    let behind = block_marks (d + 1) (k + lets first) other ++ block_marks d (k + lets first + lets other) rest in
    let inside = (all_right (marks d condition) (opened d ∷ (block_marks (d + 1) k first ++ None ∷ opened d ∷ behind)) free.1).1 in
    let last = (all_right (block_marks (d + 1) k first) (None ∷ opened d ∷ behind) inside).1.1 in
    let one = room_of (d + 1) k first fits (all_left (block_marks (d + 1) k first) (None ∷ opened d ∷ behind) inside) in
    let two = room_of (d + 1) (k + lets first) other one (all_left (block_marks (d + 1) (k + lets first) other) (block_marks d (k + lets first + lets other) rest) last) in
    omega (arith, room_of d (k + lets first + lets other) rest two (all_right (block_marks (d + 1) (k + lets first) other) (block_marks d (k + lets first + lets other) rest) last))
room_of d k (While condition body rest) fits free =
    let inside = (all_right (marks d condition) (opened d ∷ (block_marks (d + 1) k body ++ block_marks d (k + lets body) rest)) free.1).1 in
    let one = room_of (d + 1) k body fits (all_left (block_marks (d + 1) k body) (block_marks d (k + lets body) rest) inside) in
    omega (arith, room_of d (k + lets body) rest one (all_right (block_marks (d + 1) k body) (block_marks d (k + lets body) rest) inside))
room_of d k (Fail code rest) fits free = room_of d k rest fits free.1.1.1
room_of d k (Return value rest) fits free = room_of d k rest fits (all_right (marks d value) (None ∷ block_marks d k rest) free.1).1

deep_of : (ms ns : List (List ℕ)) (d k : ℕ) (b : Code Word Word) → d ≤ 32 → AllUnmarked (block_marks d k b) → d + nesting (checked_block ms ns b) ≤ 33
deep_of ms ns d k (End line) fits free = omega (arith, fits)
deep_of ms ns d k (Let line v value rest) fits free = deep_of ms (ns ++ v.name ∷ []) d (k + 1) rest fits (all_right (marks d value) (None ∷ block_marks d (k + 1) rest) free.1.1.1).1
deep_of ms ns d k (Call line v target m arguments rest) fits free =
    let after = all_right (marks d target) (None ∷ opened d ∷ (listed_marks (map (marks (d + 1)) arguments) ++ None ∷ None ∷ block_marks d (k + 1) rest)) free.1.1.1.1 in
    deep_of ms (ns ++ v.name ∷ []) d (k + 1) rest fits (all_right (listed_marks (map (marks (d + 1)) arguments)) (None ∷ None ∷ block_marks d (k + 1) rest) after.1.1).1.1
deep_of ms ns d k (Set v value rest) fits free = deep_of ms ns d k rest fits (all_right (marks d value) (None ∷ block_marks d k rest) free.1.1).1
deep_of ms ns d k (SetField line f value rest) fits free = deep_of ms ns d k rest fits (all_right (marks d value) (None ∷ block_marks d k rest) free.1.1).1
deep_of ms ns d k (If condition first rest) fits free =
    let inner = all_right (marks d condition) (opened d ∷ (block_marks (d + 1) k first ++ block_marks d (k + lets first) rest)) free.1 in
    let one = deep_of ms ns (d + 1) k first (omega (arith, below d 32 TooDeep inner.0)) (all_left (block_marks (d + 1) k first) (block_marks d (k + lets first) rest) inner.1) in
    omega (arith, one, deep_of ms ns d (k + lets first) rest fits (all_right (block_marks (d + 1) k first) (block_marks d (k + lets first) rest) inner.1))
deep_of ms ns d k (IfElse condition first other rest) fits free =
    let behind = block_marks (d + 1) (k + lets first) other ++ block_marks d (k + lets first + lets other) rest in
    let inner = all_right (marks d condition) (opened d ∷ (block_marks (d + 1) k first ++ None ∷ opened d ∷ behind)) free.1 in
    let last = (all_right (block_marks (d + 1) k first) (None ∷ opened d ∷ behind) inner.1).1 in
    let one = deep_of ms ns (d + 1) k first (omega (arith, below d 32 TooDeep inner.0)) (all_left (block_marks (d + 1) k first) (None ∷ opened d ∷ behind) inner.1) in
    let two = deep_of ms ns (d + 1) (k + lets first) other (omega (arith, below d 32 TooDeep inner.0)) (all_left (block_marks (d + 1) (k + lets first) other) (block_marks d (k + lets first + lets other) rest) last.1) in
    omega (arith, one, two, deep_of ms ns d (k + lets first + lets other) rest fits (all_right (block_marks (d + 1) (k + lets first) other) (block_marks d (k + lets first + lets other) rest) last.1))
deep_of ms ns d k (While condition body rest) fits free =
    let inner = all_right (marks d condition) (opened d ∷ (block_marks (d + 1) k body ++ block_marks d (k + lets body) rest)) free.1 in
    let one = deep_of ms ns (d + 1) k body (omega (arith, below d 32 TooDeep inner.0)) (all_left (block_marks (d + 1) k body) (block_marks d (k + lets body) rest) inner.1) in
    omega (arith, one, deep_of ms ns d (k + lets body) rest fits (all_right (block_marks (d + 1) k body) (block_marks d (k + lets body) rest) inner.1))
deep_of ms ns d k (Fail code rest) fits free = deep_of ms ns d k rest fits free.1.1.1
deep_of ms ns d k (Return value rest) fits free = deep_of ms ns d k rest fits (all_right (marks d value) (None ∷ block_marks d k rest) free.1).1

-- ---- what names do not change

same_lets : (ms ns : List (List ℕ)) (b : Code Word Word) → lets (checked_block ms ns b) ≡ lets b
same_lets ms ns (End line) = refl
same_lets ms ns (Let line v value rest) = ap (λ n. 1 + n) (same_lets ms (ns ++ v.name ∷ []) rest)
same_lets ms ns (Call line v target m arguments rest) = ap (λ n. 1 + n) (same_lets ms (ns ++ v.name ∷ []) rest)
same_lets ms ns (Set v value rest) = same_lets ms ns rest
same_lets ms ns (SetField line f value rest) = same_lets ms ns rest
same_lets ms ns (If condition first rest) = omega (arith, same_lets ms ns first, same_lets ms ns rest)
same_lets ms ns (IfElse condition first other rest) = omega (arith, same_lets ms ns first, same_lets ms ns other, same_lets ms ns rest)
same_lets ms ns (While condition body rest) = omega (arith, same_lets ms ns body, same_lets ms ns rest)
same_lets ms ns (Fail code rest) = same_lets ms ns rest
same_lets ms ns (Return value rest) = same_lets ms ns rest

same_last : (ms ns : List (List ℕ)) (b : Code Word Word) (x y : Bool) → if_last (checked_block ms ns b) x y ≡ if_last b x y
same_last ms ns (End line) x y = refl
same_last ms ns (Let line v value rest) x y = refl
same_last ms ns (Call line v target m arguments rest) x y = refl
same_last ms ns (Set v value rest) x y = refl
same_last ms ns (SetField line f value rest) x y = refl
same_last ms ns (If condition first rest) x y = refl
same_last ms ns (IfElse condition first other rest) x y = refl
same_last ms ns (While condition body rest) x y = refl
same_last ms ns (Fail code rest) x y = refl
same_last ms ns (Return value rest) x y = refl

same_ends : (ms ns : List (List ℕ)) (b : Code Word Word) → ends (checked_block ms ns b) ≡ ends b
same_ends ms ns (End line) = refl
same_ends ms ns (Let line v value rest) = same_ends ms (ns ++ v.name ∷ []) rest
same_ends ms ns (Call line v target m arguments rest) = same_ends ms (ns ++ v.name ∷ []) rest
same_ends ms ns (Set v value rest) = same_ends ms ns rest
same_ends ms ns (SetField line f value rest) = same_ends ms ns rest
same_ends ms ns (If condition first rest) = same_ends ms ns rest
same_ends ms ns (IfElse condition first other rest) =
    same_last ms ns rest (ends (checked_block ms ns first) && ends (checked_block ms ns other)) (ends (checked_block ms ns rest))
    ∙ ap (λ x. if_last rest (x && ends (checked_block ms ns other)) (ends (checked_block ms ns rest))) (same_ends ms ns first)
    ∙ ap (λ x. if_last rest (ends first && x) (ends (checked_block ms ns rest))) (same_ends ms ns other)
    ∙ ap (if_last rest (ends first && ends other)) (same_ends ms ns rest)
same_ends ms ns (While condition body rest) = same_ends ms ns rest
same_ends ms ns (Fail code rest) = same_last ms ns rest true (ends (checked_block ms ns rest)) ∙ ap (if_last rest true) (same_ends ms ns rest)
same_ends ms ns (Return value rest) = same_last ms ns rest true (ends (checked_block ms ns rest)) ∙ ap (if_last rest true) (same_ends ms ns rest)

-- ---- methods

counted_again : {V : Type 0} (k : ℕ) (vs : List V) → counted_from k vs ≡ counted_from k (counted_from k vs)
counted_again k [] = refl
counted_again k (v ∷ vs) = ap (λ ks. k ∷ ks) (counted_again (k + 1) vs)

parameter_count : {V : Type 0} (k : ℕ) (vs : List V) → k ≤ 8 → AllUnmarked (listed_marks (parameter_marks k vs)) → k + length vs ≤ 8
parameter_count k [] fits free = omega (arith, fits)
parameter_count k (v ∷ []) fits free = omega (arith, below k 8 TooMany free.0)
parameter_count k (v ∷ w ∷ vs) fits free = omega (arith, parameter_count (k + 1) (w ∷ vs) (omega (arith, below k 8 TooMany free.0)) free.1.1)

-- what a method within the limits has
pub record IsWithin (m : TextMethod) : Type 0 where
  pub parameters : length m.parameters ≤ 8
  pub body : AllUnmarked (block_marks 1 (length m.parameters) m.body)

within_limits : (i : ℕ) (m : TextMethod) → AllUnmarked (method_marks i m) → IsWithin m
within_limits i m free =
    let behind = all_right (head_marks m.is_read i) (None ∷ opened 0 ∷ (listed_marks (parameter_marks 0 m.parameters) ++ None ∷ opened 0 ∷ block_marks 1 (length m.parameters) m.body)) free in
    let ps = listed_marks (parameter_marks 0 m.parameters) in
    let body = block_marks 1 (length m.parameters) m.body in
    record {
      parameters = omega (arith, parameter_count 0 m.parameters (omega arith) (all_left ps (None ∷ opened 0 ∷ body) behind.1.1));
      body = (all_right ps (None ∷ opened 0 ∷ body) behind.1.1).1.1;
    }

head_count : (b : Bool) (i : ℕ) (behind : List Mark) → AllUnmarked (head_marks b i ++ behind) → i < 64
head_count true i behind free = below i 64 TooMany free.0
head_count false i behind free = below i 64 TooMany free.0

pub method_count : (i : ℕ) (p : List TextMethod) → i ≤ 64 → AllUnmarked (methods_marks i p) → i + length p ≤ 64
method_count i [] fits free = omega (arith, fits)
method_count i (m ∷ ms) fits free =
    let here = all_left (method_marks i m) (methods_marks (i + 1) ms) free in
    omega (arith, method_count (i + 1) ms (omega (arith, head_count m.is_read i _ here)) (all_right (method_marks i m) (methods_marks (i + 1) ms) free))

abbrev no_return : ℕ → List CheckFault
no_return line = record { line = line; cause = NoReturn } ∷ []

by_end : (b : Bool) (line : ℕ) → (if b then [] else no_return line) ≡ [] → b ≡ true
by_end true line e = refl
by_end false line e = absurd cc

closed_method : (p : List TextMethod) (front : List (List ℕ)) (i : ℕ) (m : TextMethod) → IsMethod m → method_faults p front m ≡ [] → AllUnmarked (method_marks i m) → IsClosedMethod (checked_program p) (checked_method (method_names p) m)
closed_method p front i m rule none free =
    let ns = names_of m.parameters in
    let within = within_limits i m free in
    let a = none_right (duplicate front m.name) (repeated [] m.parameters ++ (block_faults p m.is_read ns m.body ++ end_faults m.body)) none in
    let b = none_right (repeated [] m.parameters) (block_faults p m.is_read ns m.body ++ end_faults m.body) a in
    let counted = counted_length 0 m.parameters in
    let P : ℕ → Type 0 = λ n. IsClosedBlock (checked_program p) n (checked_block (method_names p) ns m.body) in
    record {
      places = counted_again 0 m.parameters;
      parameters = omega (arith, counted, within.parameters);
      variables = omega (arith, counted, same_lets (method_names p) ns m.body, room_of 1 (length m.parameters) m.body (omega (arith, within.parameters)) within.body);
      deep = omega (arith, deep_of (method_names p) ns 1 (length m.parameters) m.body (omega arith) within.body);
      body = subst P (length-map m.parameters (λ (w : Word). w.name) ∙ sym counted) (closed_block p m.is_read ns 1 (length m.parameters) m.body rule.body (none_left (block_faults p m.is_read ns m.body) (end_faults m.body) b) within.body);
      promise = λ yes. keeps_promise p ns m.body (subst (λ (r : Bool). block_faults p r ns m.body ≡ []) yes (none_left (block_faults p m.is_read ns m.body) (end_faults m.body) b));
      ended = same_ends (method_names p) ns m.body ∙ by_end (ends m.body) (last_line m.body) (none_right (block_faults p m.is_read ns m.body) (end_faults m.body) b);
    }

closed_methods : (p : List TextMethod) (front : List (List ℕ)) (i : ℕ) (ms : List TextMethod) → AllByRecursion IsMethod ms → faults_behind p front ms ≡ [] → AllUnmarked (methods_marks i ms) → AllByRecursion (IsClosedMethod (checked_program p)) (map (checked_method (method_names p)) ms)
closed_methods p front i [] rules none free = tt
closed_methods p front i (m ∷ ms) rules none free = (
  closed_method p front i m rules.0 (none_left (method_faults p front m) (faults_behind p (front ++ m.name.name ∷ []) ms) none) (all_left (method_marks i m) (methods_marks (i + 1) ms) free),
  closed_methods p (front ++ m.name.name ∷ []) (i + 1) ms rules.1 (none_right (method_faults p front m) (faults_behind p (front ++ m.name.name ∷ []) ms) none) (all_right (method_marks i m) (methods_marks (i + 1) ms) free),
)

-- ---- distinct names

by_new : (b : Bool) (w : Word) → (if b then fault_at w Duplicate else []) ≡ [] → b ≡ false
by_new true w e = absurd cc
by_new false w e = refl

not_here : (front : List (List ℕ)) (w : Word) (i : ℕ) → is_name_among front w ≡ false → i < length front → get_or front i [] ≢ w.name
not_here front w i new h e =
    let same : bytes_eq (get_or front i []) w.name ≡ true = (bytes_eq-Decides (get_or front i []) w.name).1 e in
    let found : is_name_among front w ≡ true = list_any_at (λ (n : List ℕ). bytes_eq n w.name) front i [] h same in
    cc

distinct_push : (front : List (List ℕ)) (w : Word) → AreDistinct front → is_name_among front w ≡ false → AreDistinct (front ++ w.name ∷ [])
distinct_push front w d new i j hi hj e =
    let whole : length (front ++ w.name ∷ []) ≡ length front + 1 = rw length-append (omega arith) in
    let last : get_or (front ++ w.name ∷ []) (length front) [] ≡ w.name = get_or-append_seam front w.name [] [] in
    elim (cases_lt i (length front)) [
      | inl a ↦ elim (cases_lt j (length front)) [
        | inl b ↦ d i j a b (sym (get_or_append_left front (w.name ∷ []) [] i a) ∙ e ∙ get_or_append_left front (w.name ∷ []) [] j b)
        | inr b ↦ let at_end : j ≡ length front = omega arith in
            absurd (not_here front w i new a (sym (get_or_append_left front (w.name ∷ []) [] i a) ∙ e ∙ ap (λ k. get_or (front ++ w.name ∷ []) k []) at_end ∙ last))
      ]
      | inr a ↦ elim (cases_lt j (length front)) [
        | inl b ↦ let at_end : i ≡ length front = omega arith in
            absurd (not_here front w j new b (sym (get_or_append_left front (w.name ∷ []) [] j b) ∙ sym e ∙ ap (λ k. get_or (front ++ w.name ∷ []) k []) at_end ∙ last))
        | inr b ↦ omega arith
      ]
    ]

distinct_all : (p : List TextMethod) (front : List (List ℕ)) (ms : List TextMethod) → AreDistinct front → faults_behind p front ms ≡ [] → AreDistinct (front ++ method_names ms)
distinct_all p front [] d none = subst AreDistinct (sym (append-nil front)) d
distinct_all p front (m ∷ ms) d none =
    let ns = names_of m.parameters in
    let here = none_left (method_faults p front m) (faults_behind p (front ++ m.name.name ∷ []) ms) none in
    let new = by_new (is_name_among front m.name) m.name (none_left (duplicate front m.name) (repeated [] m.parameters ++ (block_faults p m.is_read ns m.body ++ end_faults m.body)) here) in
    subst AreDistinct (append_assoc front (m.name.name ∷ []) (method_names ms)) (distinct_all p (front ++ m.name.name ∷ []) ms (distinct_push front m.name d new) (none_right (method_faults p front m) (faults_behind p (front ++ m.name.name ∷ []) ms) none))

same_names : (methods : List (List ℕ)) (ms : List TextMethod) → method_names (map (checked_method methods) ms) ≡ method_names ms
same_names methods [] = refl
same_names methods (m ∷ ms) = ap (λ ns. m.name.name ∷ ns) (same_names methods ms)

none_distinct : AreDistinct []
none_distinct i j hi hj e = absurd (omega (arith, hi))

pub closed_program : (p : List TextMethod) → IsProgram p → program_faults p ≡ [] → IsClosedProgram (checked_program p)
closed_program p rule none = record {
  few = omega (arith, length-map p (checked_method (method_names p)), method_count 0 p (omega arith) rule.limits);
  distinct = subst AreDistinct (sym (same_names (method_names p) p)) (distinct_all p [] p none_distinct none);
  methods = closed_methods p [] 0 p rule.grammar.methods none rule.limits;
}

pub closed_checked : (p : List TextMethod) (c : List CheckedMethod) → IsProgram p → IsCheckedProgram p c → IsClosedProgram c
closed_checked p c rule checked = subst IsClosedProgram (sym checked.resolved) (closed_program p rule checked.faultless)

-- ---- the methods of a program, as the code has them

pub room_at : (ms : List (code.Method Word Word)) (k i : ℕ) (m : code.Method Word Word) → AllUnmarked (methods_marks k (map method_tree ms)) → i < length ms → m ≡ get_or ms i m → length m.parameters + lets (block_tree m.body) ≤ 32
room_at [] k i m free h is = absurd (omega (arith, h))
room_at (n ∷ ms) k zero m free h is =
    let P : code.Method Word Word → Type 0 = λ x. length x.parameters + lets (block_tree x.body) ≤ 32 in
    let within = within_limits k (method_tree n) (all_left (method_marks k (method_tree n)) (methods_marks (k + 1) (map method_tree ms)) free) in
    subst P (sym is) (room_of 1 (length n.parameters) (block_tree n.body) (omega (arith, within.parameters)) within.body)
room_at (n ∷ ms) k (suc i) m free h is = room_at ms (k + 1) i m (all_right (method_marks k (method_tree n)) (methods_marks (k + 1) (map method_tree ms)) free) (omega (arith, h)) is
