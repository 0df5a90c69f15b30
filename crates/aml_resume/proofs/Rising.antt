-- Statements are never taken back: not by a block whose calls take none back, nor by a call of the meaning.
use Rattle.std.proofs.Common.{◌≡◌, ℕ, zero, suc, ◌+◌, ◌-◌, ◌≤◌, nat_lt, ◌==◌, Bool, true, false, if◌then◌else◌, ℤ, Result, Ok, Err, Option, Some, None, List, [], ◌∷◌, ◌++◌, length, refl, arith}
use Rattle.std.specs.List.{list_any}
use Rattle.snap_base.specs.declared.ids.ActorId.{ActorId}
use Rattle.aml_tree.specs.Tree.{Expr, End, Let, Call, Set, SetField, If, IfElse, While, Fail, Return, CheckedMethod}
use Rattle.aml_check.specs.Names.{method_at}
use Rattle.aml_check.specs.Meaning.{◌>>=◌, Progress, Exit, Goes, Gives, too_many_statements, statement_begun, state_at, value_of, values_of, is_nonzero, block, behind, turns, called, given, actor_of, admitted, one_call, with_actor, declared, by_declaration, with_left, used}
use Rattle.aml_resume.specs.Resuming.{AtLeast, BlocksRise, CallsRise, Rises}

-- what goes on behind a block
abbrev pub Going : Type 0
Going = List ℤ → Progress → Result (Exit × Progress) ℕ

-- a run of so many statements at least
abbrev pub Reaches : ℕ → Result Progress ℕ → Type 0
Reaches n (Ok q) = n ≤ q.statements
Reaches n (Err code) = Unit {0}

-- ---- by parts

pub by_equation : {A : Type 0} (n : ℕ) (o : Result (A × Progress) ℕ) → ((v : A) (q : Progress) → o ≡ Ok (v, q) → n ≤ q.statements) → AtLeast n o
by_equation n (Ok x) h = h x.0 x.1 refl
by_equation n (Err code) h = tt

result_of : {A : Type 0} (n : ℕ) (o : Result (A × Progress) ℕ) (v : A) (q : Progress) → AtLeast n o → o ≡ Ok (v, q) → n ≤ q.statements
result_of n (Ok x) v q h e = let same : x.1.statements ≡ q.statements = cc in omega (arith, same, h)
result_of n (Err code) v q h e = absurd cc

pub of_equation : {A : Type 0} (n : ℕ) (o : Result (A × Progress) ℕ) (v : A) (q : Progress) → AtLeast n o → o ≡ Ok (v, q) → n ≤ q.statements
of_equation n o v q h e = result_of n o v q h e

pub fewer : {A : Type 0} (m n : ℕ) (o : Result (A × Progress) ℕ) → m ≤ n → AtLeast n o → AtLeast m o
fewer m n (Ok x) less h = omega (arith, less, h)
fewer m n (Err code) less h = tt

pub after_any : {A B : Type 0} (n : ℕ) (o : Result A ℕ) (f : A → Result (B × Progress) ℕ) → ((x : A) → AtLeast n (f x)) → AtLeast n (o >>= f)
after_any n (Ok x) f h = h x
after_any n (Err code) f h = tt

pub after_run : {B : Type 0} (n : ℕ) (o : Result Progress ℕ) (f : Progress → Result (B × Progress) ℕ) → Reaches n o → ((q : Progress) → n ≤ q.statements → AtLeast n (f q)) → AtLeast n (o >>= f)
after_run n (Ok q) f r h = h q r
after_run n (Err code) f r h = tt

pub after_both : {A B : Type 0} (n : ℕ) (o : Result (A × Progress) ℕ) (f : A × Progress → Result (B × Progress) ℕ) → AtLeast n o → ((x : A × Progress) → n ≤ x.1.statements → AtLeast n (f x)) → AtLeast n (o >>= f)
after_both n (Ok x) f r h = h x r
after_both n (Err code) f r h = tt

pub after_inner : (n : ℕ) (vs : List ℤ) (o : Result (Exit × Progress) ℕ) (next : List ℤ → Progress → Result (Exit × Progress) ℕ) → AtLeast n o → ((ws : List ℤ) (q : Progress) → n ≤ q.statements → AtLeast n (next ws q)) → AtLeast n (behind vs o next)
after_inner n vs (Ok (Goes inner, r)) next h on = on _ r h
after_inner n vs (Ok (Gives v, r)) next h on = h
after_inner n vs (Err code) next h on = tt

by_test : {A : Type 0} (n : ℕ) (b : Bool) (x y : Result (A × Progress) ℕ) → AtLeast n x → AtLeast n y → AtLeast n (if b then x else y)
by_test n true x y h k = h
by_test n false x y h k = k

begun_by : (b : Bool) (r : Progress) → Reaches r.statements (if b then Ok (record r { statements = r.statements + 1 }) else Err too_many_statements)
begun_by true r = omega arith
begun_by false r = tt

pub begun_reaches : (r : Progress) → Reaches r.statements (statement_begun r)
begun_reaches r = begun_by (nat_lt r.statements 10000) r

-- a statement counts, and then goes on
pub counts : {B : Type 0} (r : Progress) (f : Progress → Result (B × Progress) ℕ) → ((q : Progress) → r.statements ≤ q.statements → AtLeast r.statements (f q)) → AtLeast r.statements (statement_begun r >>= f)
counts r f h = after_run r.statements (statement_begun r) f (begun_reaches r) h

-- ---- blocks

turns_rise : (n own : ℕ) (e : Expr ℕ) (body : List ℤ → Progress → Result (Exit × Progress) ℕ) → ((vs : List ℤ) (r : Progress) → AtLeast r.statements (body vs r)) → (vs : List ℤ) (r : Progress) → AtLeast r.statements (turns n own e body vs r)
turns_rise zero own e body h vs r = tt
turns_rise (suc n) own e body h vs r =
    counts r (λ q. value_of own vs (state_at q.world own) e >>= λ v. if is_nonzero v then behind vs (body vs q) (turns n own e body) else Ok (Goes vs, q)) (λ q k.
    after_any r.statements (value_of own vs (state_at q.world own) e) (λ v. if is_nonzero v then behind vs (body vs q) (turns n own e body) else Ok (Goes vs, q)) (λ v.
    by_test r.statements (is_nonzero v) (behind vs (body vs q) (turns n own e body)) (Ok (Goes vs, q))
    (after_inner r.statements vs (body vs q) (turns n own e body) (fewer r.statements q.statements (body vs q) k (h vs q)) (λ ws z l. fewer r.statements z.statements (turns n own e body ws z) l (turns_rise n own e body h ws z)))
    k))

pub block_rises : BlocksRise
block_rises call rising own (End line) vs r = omega arith
block_rises call rising own (Let line v value rest) vs r =
    counts r (λ q. value_of own vs (state_at q.world own) value >>= λ x. block call own rest (vs ++ x ∷ []) q) (λ q k.
    after_any r.statements (value_of own vs (state_at q.world own) value) (λ x. block call own rest (vs ++ x ∷ []) q) (λ x.
    fewer r.statements q.statements (block call own rest (vs ++ x ∷ []) q) k (block_rises call rising own rest (vs ++ x ∷ []) q)))
block_rises call rising own (Call line v target m arguments rest) vs r =
    counts r (λ q. value_of own vs (state_at q.world own) target >>= λ a. values_of own vs (state_at q.world own) arguments >>= λ xs. call a m xs q >>= λ x. block call own rest (vs ++ x.0 ∷ []) x.1) (λ q k.
    after_any r.statements (value_of own vs (state_at q.world own) target) (λ a. values_of own vs (state_at q.world own) arguments >>= λ xs. call a m xs q >>= λ x. block call own rest (vs ++ x.0 ∷ []) x.1) (λ a.
    after_any r.statements (values_of own vs (state_at q.world own) arguments) (λ xs. call a m xs q >>= λ x. block call own rest (vs ++ x.0 ∷ []) x.1) (λ xs.
    after_both r.statements (call a m xs q) (λ x. block call own rest (vs ++ x.0 ∷ []) x.1)
    (fewer r.statements q.statements (call a m xs q) k (by_equation q.statements (call a m xs q) (λ v z e. rising a m xs q z v e)))
    (λ x l. fewer r.statements x.1.statements (block call own rest (vs ++ x.0 ∷ []) x.1) l (block_rises call rising own rest (vs ++ x.0 ∷ []) x.1)))))
block_rises call rising own (Set v value rest) vs r =
    counts r _ (λ q k. after_any r.statements (value_of own vs (state_at q.world own) value) _ (λ x. fewer r.statements q.statements _ k (block_rises call rising own rest _ q)))
block_rises call rising own (SetField line k value rest) vs r =
    counts r _ (λ q l. after_any r.statements (value_of own vs (state_at q.world own) value) _ (λ x. fewer r.statements q.statements _ l (block_rises call rising own rest vs _)))
block_rises call rising own (If condition first rest) vs r =
    counts r _ (λ q k. after_any r.statements (value_of own vs (state_at q.world own) condition) _ (λ x.
    after_inner r.statements vs (if is_nonzero x then block call own first vs q else Ok (Goes vs, q)) (block call own rest)
    (by_test r.statements (is_nonzero x) (block call own first vs q) (Ok (Goes vs, q)) (fewer r.statements q.statements (block call own first vs q) k (block_rises call rising own first vs q)) k)
    (λ ws z l. fewer r.statements z.statements (block call own rest ws z) l (block_rises call rising own rest ws z))))
block_rises call rising own (IfElse condition first other rest) vs r =
    counts r _ (λ q k. after_any r.statements (value_of own vs (state_at q.world own) condition) _ (λ x.
    after_inner r.statements vs (if is_nonzero x then block call own first vs q else block call own other vs q) (block call own rest)
    (by_test r.statements (is_nonzero x) (block call own first vs q) (block call own other vs q)
    (fewer r.statements q.statements (block call own first vs q) k (block_rises call rising own first vs q))
    (fewer r.statements q.statements (block call own other vs q) k (block_rises call rising own other vs q)))
    (λ ws z l. fewer r.statements z.statements (block call own rest ws z) l (block_rises call rising own rest ws z))))
block_rises call rising own (While condition body rest) vs r =
    after_inner r.statements vs (turns (10001 - r.statements) own condition (block call own body) vs r) (block call own rest)
    (turns_rise (10001 - r.statements) own condition (block call own body) (block_rises call rising own body) vs r)
    (λ ws z l. fewer r.statements z.statements (block call own rest ws z) l (block_rises call rising own rest ws z))
block_rises call rising own (Fail code rest) vs r = counts r (λ q. Err code) (λ q k. tt)
block_rises call rising own (Return value rest) vs r =
    counts r _ (λ q k. after_any r.statements (value_of own vs (state_at q.world own) value) _ (λ x. k))

-- ---- calls

pub given_rises : (n : ℕ) (o : Result (Exit × Progress) ℕ) → AtLeast n o → AtLeast n (given o)
given_rises n (Ok (Goes variables, r)) h = h
given_rises n (Ok (Gives v, r)) h = h
given_rises n (Err code) h = h

-- a call that is admitted counts no statement
one_call_by : (b : Bool) (r : Progress) (code : ℕ) → Reaches r.statements (if b then Ok (record r { calls = r.calls + 1 }) else Err code)
one_call_by true r code = omega arith
one_call_by false r code = tt

actor_by : (a : ℕ) (b c : Bool) (r : Progress) (code : ℕ) → Reaches r.statements (if b then Ok r else (if c then Ok (record r { actors = r.actors ++ a ∷ [] }) else Err code))
actor_by a true c r code = omega arith
actor_by a false true r code = omega arith
actor_by a false false r code = tt

left_by : (r : Progress) (o : Option (List (ActorId × ℕ))) → Reaches r.statements (with_left r o)
left_by r None = tt
left_by r (Some us) = omega arith

declared_by : (a : ℕ) (r : Progress) (o : Option (List (ActorId × ℕ))) → Reaches r.statements (by_declaration a r o)
declared_by a r None = omega arith
declared_by a r (Some us) = left_by r (used a us)

then_reaches : (n : ℕ) (o : Result Progress ℕ) (f : Progress → Result Progress ℕ) → Reaches n o → ((q : Progress) → n ≤ q.statements → Reaches n (f q)) → Reaches n (o >>= f)
then_reaches n (Ok q) f r h = h q r
then_reaches n (Err code) f r h = tt

reaches_fewer : (m n : ℕ) (o : Result Progress ℕ) → m ≤ n → Reaches n o → Reaches m o
reaches_fewer m n (Ok q) less h = omega (arith, less, h)
reaches_fewer m n (Err code) less h = tt

pub admitted_reaches : (a : ℕ) (r : Progress) → Reaches r.statements (admitted a r)
admitted_reaches a r =
    then_reaches r.statements (one_call r) _ (one_call_by (nat_lt r.calls 64) r _) (λ q k.
    then_reaches r.statements (with_actor a q) _ (reaches_fewer r.statements q.statements (with_actor a q) k (actor_by a (list_any (λ b. b == a) q.actors) (nat_lt (length q.actors) 16) q _)) (λ z l.
    reaches_fewer r.statements z.statements (declared a z) l (declared_by a z z.left)))

called_by : (p : List CheckedMethod) (more : ℕ) → Rises (called p more) → (target : ℤ) (m : ℕ) (arguments : List ℤ) (r : Progress) → AtLeast r.statements (called p (suc more) target m arguments r)
called_by p more rising target m arguments r =
    after_any r.statements (actor_of (length r.world) target) _ (λ a.
    after_run r.statements (admitted a r) _ (admitted_reaches a r) (λ q k.
    fewer r.statements q.statements _ k (given_rises q.statements _ (block_rises (called p more) rising a (method_at p m).body arguments q))))

pub refused_by : (o : Result ℕ ℕ) (code : ℕ) (v : ℤ) (q : Progress) (n : ℕ) → (let refused : Result (ℤ × Progress) ℕ = (o >>= λ a. Err code) in refused ≡ Ok (v, q)) → n ≤ q.statements
refused_by (Ok a) code v q n e = absurd cc
refused_by (Err c) code v q n e = absurd cc

-- a call of the meaning takes no statements back
pub called_rises : CallsRise
called_rises p zero target m arguments r q v e = refused_by (actor_of (length r.world) target) _ v q r.statements e
called_rises p (suc more) target m arguments r q v e = of_equation r.statements _ v q (called_by p more (called_rises p more) target m arguments r) e
