-- What the language gives has the numbers of its types: values have 64 bits, codes have 16, and states stay states.
use Rattle.std.specs.Prelude.{◌≡◌, refl, ℕ, zero, suc, ◌+◌, ◌-◌, ◌<◌, ◌≤◌, ◌^◌, nat_lt, ◌==◌, ◌||◌, Bool, true, false, if◌then◌else◌, ℤ, pos, negsuc, int_lt, int_div, ◌+ℤ◌, ◌-ℤ◌, ◌*ℤ◌, Result, Ok, Err, Option, Some, None, List, [], ◌∷◌, ◌++◌, length, take, slice_set, FitsSigned, ⊤}
use Rattle.std.specs.List.{AllByRecursion, list_any}
use Rattle.std.specs.Int.{w64}
use Rattle.std.specs.Ordering.{int_eq}
use Rattle.std.proofs.Common.{arith, sym, subst, ◌∙◌}
use Rattle.std.proofs.lemmas.Bool.{ltb-true}
use Rattle.std.proofs.lemmas.List.{length-set}
use Rattle.snap_base.specs.States.{IsState}
use Rattle.snap_base.specs.declared.ids.ActorId.{ActorId}
use Rattle.snap_base.specs.declared.transactions.State.{State}
use Rattle.snap_base.specs.declared.transactions.Tx.{Tx}
use Rattle.snap_base.specs.declared.transactions.TxResult.{TxResult}
use Rattle.snap_base.specs.declared.transactions.TxResult.TheVariants as result
use Rattle.snap_base.specs.Outcomes.{Alone}
use Rattle.snap_base.proofs.Lists.{all_get, all_push, all_set, all_take}
use Rattle.aml_slice.specs.aml_tree.declared.trees.Operator.{Operator}
use Rattle.aml_slice.specs.aml_tree.declared.trees.Operator.TheVariants as operator
use Rattle.aml_slice.specs.aml_tree.Tree.{Expr, Number, Variable, Field, Own, Group, Negative, Binary, Code, End, Let, Call, Set, SetField, If, IfElse, While, Fail, Return, CheckedMethod}
use Rattle.aml_slice.specs.aml_check.Closed.{IsClosedBlock, IsClosedMethod, IsClosedProgram}
use Rattle.aml_slice.specs.aml_check.declared.limits.TheConstants.{MOST_CALLED_ACTORS, MOST_CALLS, MOST_OPEN_CALLS, MOST_STATEMENTS}
use Rattle.aml_slice.specs.aml_check.Meaning.{◌>>=◌, Caller, Exit, Goes, Gives, Progress, actor_of, admitted, alone, beginning, behind, block, by_declaration, called, decided, declared, divided, ended_alone, given, in_range, is_nonzero, joined, no_actor, one_call, overflow, state_at, statement_begun, turns, unless_decided, used, value_of, values_of, with_actor, with_field, with_left, zero_divisor}
use Rattle.aml_slice.specs.aml_check.Names.{method_at}
use Rattle.run_effects.proofs.ValuesFit.{AllFit, Each, Fits, Has, Small, method_small, nought_fits, value_fits, values_fit, with_field_is_state, zero_is_state}

-- ---- a result with its codes

-- a value has P, and a code has 16 bits
abbrev pub Holds : {A : Type 0} → (A → Type 0) → Result A ℕ → Type 0
Holds P (Ok x) = P x
Holds P (Err code) = code < 2 ^ 16

holds_bind : {A B : Type 0} (P : A → Type 0) (Q : B → Type 0) (m : Result A ℕ) (f : A → Result B ℕ) → Holds P m → ((x : A) → P x → Holds Q (f x)) → Holds Q (m >>= f)
holds_bind P Q (Ok x) f h k = k x h
holds_bind P Q (Err code) f h k = h

-- a code alone
abbrev IsCoded : {A : Type 0} → Result A ℕ → Type 0
IsCoded m = Holds (λ x. ⊤) m

both : {A : Type 0} (P : A → Type 0) (m : Result A ℕ) → Has P m → IsCoded m → Holds P m
both P (Ok x) h c = h
both P (Err code) h c = c

coded_bind : {A B : Type 0} (m : Result A ℕ) (f : A → Result B ℕ) → IsCoded m → ((x : A) → IsCoded (f x)) → IsCoded (m >>= f)
coded_bind (Ok x) f h k = k x
coded_bind (Err code) f h k = h

choice : {A : Type 0} (P : A → Type 0) (b : Bool) (x y : A) → P x → P y → P (if b then x else y)
choice P true x y p q = p
choice P false x y p q = q

-- ---- values

range_coded : (z : ℤ) → IsCoded (in_range z)
range_coded z = choice IsCoded (int_lt z (negsuc (2 ^ 63 - 1)) || int_lt (pos (2 ^ 63 - 1)) z) (Err overflow) (Ok z) (omega arith) tt

divided_coded : (a b : ℤ) → IsCoded (divided a b)
divided_coded a b = choice IsCoded (int_eq b (pos 0)) (Err zero_divisor) (in_range (int_div a b)) (omega arith) (range_coded (int_div a b))

joined_coded : (o : Operator) (a b : ℤ) → IsCoded (joined o a b)
joined_coded operator.Or a b = tt
joined_coded operator.And a b = tt
joined_coded operator.Equal a b = tt
joined_coded operator.NotEqual a b = tt
joined_coded operator.Less a b = tt
joined_coded operator.LessOrEqual a b = tt
joined_coded operator.Greater a b = tt
joined_coded operator.GreaterOrEqual a b = tt
joined_coded operator.Plus a b = range_coded (a +ℤ b)
joined_coded operator.Minus a b = range_coded (a -ℤ b)
joined_coded operator.Times a b = range_coded (a *ℤ b)
joined_coded operator.Over a b = divided_coded a b
joined_coded operator.Remainder a b = coded_bind (divided a b) _ (divided_coded a b) (λ x. tt)

unless_coded : (o : Option ℤ) (m : Result ℤ ℕ) → IsCoded m → IsCoded (unless_decided o m)
unless_coded None m h = h
unless_coded (Some v) m h = tt

value_coded : (own : ℕ) (vs : List ℤ) (s : State) (e : Expr ℕ) → IsCoded (value_of own vs s e)
value_coded own vs s (Number n) = tt
value_coded own vs s (Variable place) = tt
value_coded own vs s (Field k line) = tt
value_coded own vs s Own = tt
value_coded own vs s (Group e) = value_coded own vs s e
value_coded own vs s (Negative e) = coded_bind (value_of own vs s e) _ (value_coded own vs s e) (λ x. range_coded (pos 0 -ℤ x))
value_coded own vs s (Binary o a b) =
    coded_bind (value_of own vs s a) _ (value_coded own vs s a) (λ x. unless_coded (decided o x) (value_of own vs s b >>= λ y. joined o x y) (coded_bind (value_of own vs s b) _ (value_coded own vs s b) (λ y. joined_coded o x y)))

values_coded : (own : ℕ) (vs : List ℤ) (s : State) (es : List (Expr ℕ)) → IsCoded (values_of own vs s es)
values_coded own vs s [] = tt
values_coded own vs s (e ∷ es) = coded_bind (value_of own vs s e) _ (value_coded own vs s e) (λ x. coded_bind (values_of own vs s es) _ (values_coded own vs s es) (λ xs. tt))

-- ---- the world

-- each is a state, and they are not too many
pub record AreStates (world : List State) : Type 0 where
  pub each : AllByRecursion IsState world
  pub few : length world ≤ 2 ^ 63

-- the state of an actor
here : (world : List State) (a : ℕ) → AreStates world → AllFit (state_at world a).0
here world a h = (all_get IsState world a _ zero_is_state h.each).fields

state_set : (world : List State) (own k : ℕ) (x : ℤ) → AreStates world → Fits x → AreStates (slice_set world own (with_field (state_at world own) k x))
state_set world own k x h f = record {
  each = all_set IsState world own _ (with_field_is_state (state_at world own) k x f (all_get IsState world own _ zero_is_state h.each)) h.each;
  few = subst (λ (n : ℕ). n ≤ 2 ^ 63) (sym (length-set world own (with_field (state_at world own) k x))) h.few;
}

-- ---- under way

abbrev FitExit : Exit × Progress → Type 0
FitExit (Goes vs, r) = AllFit vs × AreStates r.world
FitExit (Gives v, r) = Fits v × AreStates r.world

abbrev FitGiven : ℤ × Progress → Type 0
FitGiven x = Fits x.0 × AreStates (x.1).world

-- from variables and a world that fit
abbrev Body : (List ℤ → Progress → Result (Exit × Progress) ℕ) → Type 0
Body next = (vs : List ℤ) (r : Progress) → AllFit vs → AreStates r.world → Holds FitExit (next vs r)

abbrev Calls : Caller → Type 0
Calls call = (target : ℤ) (m : ℕ) (xs : List ℤ) (r : Progress) → AllFit xs → AreStates r.world → Holds FitGiven (call target m xs r)

-- the same world
abbrev SameWorld : Progress → Progress → Type 0
SameWorld r q = q.world ≡ r.world

begun_same : (r : Progress) → Holds (SameWorld r) (statement_begun r)
begun_same r = choice (Holds (SameWorld r)) (nat_lt r.statements MOST_STATEMENTS) _ _ refl (omega arith)

one_call_same : (r : Progress) → Holds (SameWorld r) (one_call r)
one_call_same r = choice (Holds (SameWorld r)) (nat_lt r.calls MOST_CALLS) _ _ refl (omega arith)

with_actor_same : (a : ℕ) (r : Progress) → Holds (SameWorld r) (with_actor a r)
with_actor_same a r =
    choice (Holds (SameWorld r)) (list_any (λ b. b == a) r.actors) _ _ refl (choice (Holds (SameWorld r)) (nat_lt (length r.actors) MOST_CALLED_ACTORS) _ _ refl (omega arith))

left_same : (r : Progress) (o : Option (List (ActorId × ℕ))) → Holds (SameWorld r) (with_left r o)
left_same r None = omega arith
left_same r (Some us) = refl

declared_same : (a : ℕ) (r : Progress) (o : Option (List (ActorId × ℕ))) → Holds (SameWorld r) (by_declaration a r o)
declared_same a r None = refl
declared_same a r (Some us) = left_same r (used a us)

admitted_same : (a : ℕ) (r : Progress) → Holds (SameWorld r) (admitted a r)
admitted_same a r =
    holds_bind (SameWorld r) (SameWorld r) (one_call r) _ (one_call_same r) (λ x e.
    holds_bind (SameWorld x) (SameWorld r) (with_actor a x) _ (with_actor_same a x) (λ y f.
    weaken y (declared a y) (f ∙ e) (declared_same a y y.left)))
  where
    weaken : (y : Progress) (m : Result Progress ℕ) → y.world ≡ r.world → Holds (SameWorld y) m → Holds (SameWorld r) m
    weaken y (Ok z) e h = h ∙ e
    weaken y (Err code) e h = h

actor_below : (count : ℕ) (target : ℤ) → Holds (λ a. a < count) (actor_of count target)
actor_below count (pos n) = by (nat_lt n count) refl
  where
    by : (b : Bool) → nat_lt n count ≡ b → Holds (λ a. a < count) (if b then Ok n else Err no_actor)
    by true e = ltb-true n count e
    by false e = omega arith
actor_below count (negsuc n) = omega arith

-- ---- codes of a method

abbrev EachCode : Code ℕ ℕ → Type 0
EachCode (End line) = ⊤
EachCode (Let line v value rest) = EachCode rest
EachCode (Call line v target m arguments rest) = EachCode rest
EachCode (Set v value rest) = EachCode rest
EachCode (SetField line k value rest) = EachCode rest
EachCode (If condition first rest) = EachCode first × EachCode rest
EachCode (IfElse condition first other rest) = EachCode first × EachCode other × EachCode rest
EachCode (While condition body rest) = EachCode body × EachCode rest
EachCode (Fail code rest) = (code < 2 ^ 16) × EachCode rest
EachCode (Return value rest) = EachCode rest

block_codes : (p : List CheckedMethod) (n : ℕ) (b : Code ℕ ℕ) → IsClosedBlock p n b → EachCode b
block_codes p n (End line) c = tt
block_codes p n (Let line v value rest) c = block_codes p (n + 1) rest c.2
block_codes p n (Call line v target m arguments rest) c = block_codes p (n + 1) rest c.4
block_codes p n (Set v value rest) c = block_codes p n rest c.2
block_codes p n (SetField line k value rest) c = block_codes p n rest c.2
block_codes p n (If condition first rest) c = (block_codes p n first c.1, block_codes p n rest c.2)
block_codes p n (IfElse condition first other rest) c = (block_codes p n first c.1, block_codes p n other c.2, block_codes p n rest c.3)
block_codes p n (While condition body rest) c = (block_codes p n body c.1, block_codes p n rest c.2)
block_codes p n (Fail code rest) c = (omega (arith, (c.0).1), block_codes p n rest c.1)
block_codes p n (Return value rest) c = block_codes p n rest c.1

method_codes : (p ms : List CheckedMethod) (m : ℕ) → AllByRecursion (IsClosedMethod p) ms → EachCode (method_at ms m).body
method_codes p [] m closed = tt
method_codes p (x ∷ ms) zero closed = block_codes p (length x.parameters) x.body (closed.0).body
method_codes p (x ∷ ms) (suc m) closed = method_codes p ms m closed.1

-- ---- statements

-- a statement begins, an expression gives a value, and it goes on
counting : {B : Type 0} (Q : B → Type 0) (own : ℕ) (vs : List ℤ) (r : Progress) (e : Expr ℕ) (next : Progress → ℤ → Result B ℕ) → own < 2 ^ 63 → AllFit vs → AreStates r.world → Small e
    → ((q : Progress) (x : ℤ) → AreStates q.world → Fits x → Holds Q (next q x)) → Holds Q (statement_begun r >>= λ q. value_of own vs (state_at q.world own) e >>= λ x. next q x)
counting Q own vs r e next few all h small k =
    holds_bind (SameWorld r) Q (statement_begun r) _ (begun_same r) (λ q i.
    let w : AreStates q.world = subst AreStates (sym i) h in
    holds_bind Fits Q (value_of own vs (state_at q.world own) e) _ (both Fits (value_of own vs (state_at q.world own) e) (value_fits own vs (state_at q.world own) e few all (here q.world own w) small) (value_coded own vs (state_at q.world own) e)) (λ x f. k q x w f))

behind_fits : (vs : List ℤ) (m : Result (Exit × Progress) ℕ) (next : List ℤ → Progress → Result (Exit × Progress) ℕ) → Holds FitExit m → Body next → Holds FitExit (behind vs m next)
behind_fits vs (Ok (Goes inner, r)) next h k = k (take (length vs) inner) r (all_take Fits (length vs) inner h.0) h.1
behind_fits vs (Ok (Gives v, r)) next h k = h
behind_fits vs (Err code) next h k = h

turns_fit : (n own : ℕ) (condition : Expr ℕ) (body : List ℤ → Progress → Result (Exit × Progress) ℕ) → own < 2 ^ 63 → Small condition → Body body → Body (turns n own condition body)
turns_fit zero own condition body few small b = λ vs r all h. omega arith
turns_fit (suc n) own condition body few small b = λ vs r all h.
    counting FitExit own vs r condition (λ q v. if is_nonzero v then behind vs (body vs q) (turns n own condition body) else Ok (Goes vs, q)) few all h small
    (λ q x w f. choice (Holds FitExit) (is_nonzero x) _ _ (behind_fits vs (body vs q) (turns n own condition body) (b vs q all w) (turns_fit n own condition body few small b)) (all, w))

block_fits : (call : Caller) (own : ℕ) (b : Code ℕ ℕ) → Calls call → own < 2 ^ 63 → Each Small b → EachCode b → Body (block call own b)
block_fits call own (End line) calls few small codes = λ vs r all h. (all, h)
block_fits call own (Let line v value rest) calls few small codes = λ vs r all h.
    counting FitExit own vs r value _ few all h small.0 (λ q x w f. block_fits call own rest calls few small.1 codes (vs ++ x ∷ []) q (all_push Fits vs x all f) w)
block_fits call own (Call line v target m arguments rest) calls few small codes = λ vs r all h.
    counting FitExit own vs r target _ few all h small.0 (λ q a w f.
    holds_bind AllFit FitExit (values_of own vs (state_at q.world own) arguments) _ (both AllFit (values_of own vs (state_at q.world own) arguments) (values_fit own vs (state_at q.world own) arguments few all (here q.world own w) small.1) (values_coded own vs (state_at q.world own) arguments)) (λ xs g.
    holds_bind FitGiven FitExit (call a m xs q) _ (calls a m xs q g w) (λ x i. block_fits call own rest calls few small.2 codes (vs ++ x.0 ∷ []) x.1 (all_push Fits vs x.0 all i.0) i.1)))
block_fits call own (Set v value rest) calls few small codes = λ vs r all h.
    counting FitExit own vs r value _ few all h small.0 (λ q x w f. block_fits call own rest calls few small.1 codes (slice_set vs v x) q (all_set Fits vs v x f all) w)
block_fits call own (SetField line k value rest) calls few small codes = λ vs r all h.
    counting FitExit own vs r value _ few all h small.0 (λ q x w f. block_fits call own rest calls few small.1 codes vs (record q { world = slice_set q.world own (with_field (state_at q.world own) k x) }) all (state_set q.world own k x w f))
block_fits call own (If condition first rest) calls few small codes = λ vs r all h.
    counting FitExit own vs r condition _ few all h small.0 (λ q x w f.
    behind_fits vs (if is_nonzero x then block call own first vs q else Ok (Goes vs, q)) (block call own rest)
    (choice (Holds FitExit) (is_nonzero x) _ _ (block_fits call own first calls few small.1 codes.0 vs q all w) (all, w)) (block_fits call own rest calls few small.2 codes.1))
block_fits call own (IfElse condition first other rest) calls few small codes = λ vs r all h.
    counting FitExit own vs r condition _ few all h small.0 (λ q x w f.
    behind_fits vs (if is_nonzero x then block call own first vs q else block call own other vs q) (block call own rest)
    (choice (Holds FitExit) (is_nonzero x) _ _ (block_fits call own first calls few small.1 codes.0 vs q all w) (block_fits call own other calls few small.2 codes.1 vs q all w)) (block_fits call own rest calls few small.3 codes.2))
block_fits call own (While condition body rest) calls few small codes = λ vs r all h.
    behind_fits vs (turns (1 + MOST_STATEMENTS - r.statements) own condition (block call own body) vs r) (block call own rest)
    (turns_fit (1 + MOST_STATEMENTS - r.statements) own condition (block call own body) few small.0 (block_fits call own body calls few small.1 codes.0) vs r all h) (block_fits call own rest calls few small.2 codes.1)
block_fits call own (Fail code rest) calls few small codes = λ vs r all h. holds_bind (SameWorld r) FitExit (statement_begun r) _ (begun_same r) (λ q i. codes.0)
block_fits call own (Return value rest) calls few small codes = λ vs r all h.
    counting FitExit own vs r value _ few all h small.0 (λ q x w f. (f, w))

-- ---- calls

given_fits : (m : Result (Exit × Progress) ℕ) → Holds FitExit m → Holds FitGiven (given m)
given_fits (Ok (Goes vs, r)) h = (nought_fits, h.1)
given_fits (Ok (Gives v, r)) h = h
given_fits (Err code) h = h

called_fits : (p : List CheckedMethod) (more : ℕ) → IsClosedProgram p → Calls (called p more)
called_fits p zero closed = λ target m xs r all h. holds_bind (λ a. a < length r.world) FitGiven (actor_of (length r.world) target) _ (actor_below (length r.world) target) (λ a l. omega arith)
called_fits p (suc more) closed = λ target m xs r all h.
    holds_bind (λ a. a < length r.world) FitGiven (actor_of (length r.world) target) _ (actor_below (length r.world) target) (λ a l.
    holds_bind (SameWorld r) FitGiven (admitted a r) _ (admitted_same a r) (λ q i.
    given_fits (block (called p more) a (method_at p m).body xs q)
    (block_fits (called p more) a (method_at p m).body (called_fits p more closed) (omega (arith, l, h.few)) (method_small p p m closed.methods) (method_codes p p m closed.methods) xs q all (subst AreStates (sym i) h))))

-- ---- transactions

-- a value has 64 bits, a code has 16
abbrev pub IsResult : TxResult → Type 0
IsResult (result.Value v) = FitsSigned w64 v
IsResult (result.Fail code) = code < 2 ^ 16

pub record AloneFits (x : Alone) : Type 0 where
  pub is_result : IsResult x.result
  pub states : AreStates x.world

ended_fits : (world : List State) (m : Result (ℤ × Progress) ℕ) → AreStates world → Holds FitGiven m → AloneFits (ended_alone world m)
ended_fits world (Ok (v, r)) h k = record { is_result = k.0; states = k.1 }
ended_fits world (Err code) h k = record { is_result = k; states = h }

pub alone_fits : (p : List CheckedMethod) (world : List State) (tx : Tx) → IsClosedProgram p → AllFit tx.args → AreStates world → AloneFits (alone p world tx)
alone_fits p world tx closed all h =
    ended_fits world (called p MOST_OPEN_CALLS (pos tx.actor.0) tx.method tx.args (beginning world tx)) h (called_fits p MOST_OPEN_CALLS closed (pos tx.actor.0) tx.method tx.args (beginning world tx) all h)
