-- Numbers of a program's methods stay within 64 bits, and fields of a state with them.
use Rattle.std.proofs.Common.{◌≡◌, ℕ, zero, suc, ◌+◌, ◌<◌, ◌≤◌, ◌%◌, ◌^◌, List, [], ◌∷◌, length, get_or, refl, ◌∙◌, ℤ, pos, negsuc, neg_ℤ, Option, None, Some, IfSome, Result, Ok, Err, Bool, true, false, cond, arith, w64, FitsSigned, replicate}
use Rattle.std.specs.List.{AllByRecursion}
use Rattle.std.specs.Prelude.{◌+ℤ◌, ◌-ℤ◌, ◌*ℤ◌, int_div, int_rem, unsigned_abs}
use Rattle.std.specs.Ordering.{int_eq}
use Rattle.std.proofs.Math.Nat.{mod-le}
use Rattle.std.proofs.lemmas.Bool.Decides.{nat_tests}
use Rattle.std.proofs.lemmas.List.{length-set}
use Rattle.snap_base.specs.declared.transactions.State.{State}
use Rattle.aml_slice.specs.aml_tree.declared.trees.Operator.{Operator}
use Rattle.aml_slice.specs.aml_tree.declared.trees.Operator.TheVariants as operator
use Rattle.aml_slice.specs.aml_tree.Tree.{Expr, Number, Variable, Field, Own, Group, Negative, Binary, Code, End, Let, Call, Set, SetField, If, IfElse, While, Fail, Return, CheckedMethod}
use Rattle.aml_slice.specs.aml_check.Closed.{IsClosedExpression, IsClosedBlock, IsClosedMethod}
use Rattle.aml_slice.specs.aml_check.Meaning.{◌>>=◌, overflow, zero_divisor, value_of, values_of, in_range, truth, is_nonzero, divided, joined, decided, unless_decided, zero_state, with_field}
use Rattle.aml_slice.specs.aml_check.Names.{method_at}
use Rattle.record_log.specs.txn_records.Records.{IsState}
use Rattle.run_effects.proofs.Elements.{all_set}

-- where there is a value, it has P
abbrev pub Has : {A : Type 0} → (A → Type 0) → Result A ℕ → Type 0
Has P (Ok x) = P x
Has P (Err code) = Unit {0}

pub has_bind : {A B : Type 0} (P : A → Type 0) (Q : B → Type 0) (m : Result A ℕ) (f : A → Result B ℕ) → Has P m → ((x : A) → P x → Has Q (f x)) → Has Q (m >>= f)
has_bind P Q (Ok x) f p h = h x p
has_bind P Q (Err code) f p h = tt

-- what holds of both choices holds of the choice
pub either : {A : Type 0} (P : A → Type 0) (b : Bool) (x y : A) → P x → P y → P (cond b x y)
either P true x y p q = p
either P false x y p q = q

-- ---- lists

pub at_any : {A : Type 0} (P : A → Type 0) (xs : List A) (i : ℕ) (d : A) → P d → AllByRecursion P xs → P (get_or xs i d)
at_any P [] i d here h = here
at_any P (x ∷ xs) zero d here h = h.0
at_any P (x ∷ xs) (suc i) d here h = at_any P xs i d here h.1

-- ---- each expression of a block

abbrev pub Each : (Expr ℕ → Type 0) → Code ℕ ℕ → Type 0
Each E (End line) = Unit {0}
Each E (Let line v value rest) = E value × Each E rest
Each E (Call line v target m arguments rest) = E target × AllByRecursion E arguments × Each E rest
Each E (Set v value rest) = E value × Each E rest
Each E (SetField line k value rest) = E value × Each E rest
Each E (If condition first rest) = E condition × Each E first × Each E rest
Each E (IfElse condition first other rest) = E condition × Each E first × Each E other × Each E rest
Each E (While condition body rest) = E condition × Each E body × Each E rest
Each E (Fail code rest) = Each E rest
Each E (Return value rest) = E value × Each E rest

-- ---- numbers stay within 64 bits

abbrev pub Fits : ℤ → Type 0
Fits z = FitsSigned w64 z

pub nought_fits : Fits (pos 0)
nought_fits = record { sfits = omega arith }

one_fits : Fits (pos 1)
one_fits = record { sfits = omega arith }

truth_fits : (b : Bool) → Fits (truth b)
truth_fits true = one_fits
truth_fits false = nought_fits

range_fits : (b : Bool) (z : ℤ) → (b ≡ false → Fits z) → Has Fits (cond b (Err overflow) (Ok z))
range_fits true z h = tt
range_fits false z h = h refl

in_range_fits : (z : ℤ) → Has Fits (in_range z)
in_range_fits (pos n) = range_fits _ (pos n) (λ e. record { sfits = grind (arith, nat_tests, e) })
in_range_fits (negsuc n) = range_fits _ (negsuc n) (λ e. record { sfits = grind (arith, nat_tests, e) })

divided_fits : (a b : ℤ) → Has Fits (divided a b)
divided_fits a b = either (Has Fits) (int_eq b (pos 0)) (Err zero_divisor) (in_range (int_div a b)) tt (in_range_fits (int_div a b))

below_fits : (n : ℕ) → n ≤ 2 ^ 63 → Fits (neg_ℤ (pos n))
below_fits zero h = nought_fits
below_fits (suc n) h = record { sfits = omega arith }

remainder_fits : (a b : ℤ) → Fits a → Fits (int_rem a b)
remainder_fits (pos n) b h = record { sfits = omega (arith, h.sfits, mod-le n (unsigned_abs b)) }
remainder_fits (negsuc n) b h = below_fits (suc n % unsigned_abs b) (omega (arith, h.sfits, mod-le (suc n) (unsigned_abs b)))

joined_fits : (o : Operator) (a b : ℤ) → Fits a → Has Fits (joined o a b)
joined_fits operator.Or a b h = truth_fits _
joined_fits operator.And a b h = truth_fits _
joined_fits operator.Equal a b h = truth_fits _
joined_fits operator.NotEqual a b h = truth_fits _
joined_fits operator.Less a b h = truth_fits _
joined_fits operator.LessOrEqual a b h = truth_fits _
joined_fits operator.Greater a b h = truth_fits _
joined_fits operator.GreaterOrEqual a b h = truth_fits _
joined_fits operator.Plus a b h = in_range_fits (a +ℤ b)
joined_fits operator.Minus a b h = in_range_fits (a -ℤ b)
joined_fits operator.Times a b h = in_range_fits (a *ℤ b)
joined_fits operator.Over a b h = divided_fits a b
joined_fits operator.Remainder a b h = has_bind Fits Fits (divided a b) _ (divided_fits a b) (λ q _. remainder_fits a b h)

decided_fits : (o : Operator) (a : ℤ) → IfSome (decided o a) Fits
decided_fits operator.Or a = either (λ (m : Option ℤ). IfSome m Fits) (is_nonzero a) (Some (pos 1)) None one_fits tt
decided_fits operator.And a = either (λ (m : Option ℤ). IfSome m Fits) (is_nonzero a) None (Some (pos 0)) tt nought_fits
decided_fits operator.Equal a = tt
decided_fits operator.NotEqual a = tt
decided_fits operator.Less a = tt
decided_fits operator.LessOrEqual a = tt
decided_fits operator.Greater a = tt
decided_fits operator.GreaterOrEqual a = tt
decided_fits operator.Plus a = tt
decided_fits operator.Minus a = tt
decided_fits operator.Times a = tt
decided_fits operator.Over a = tt
decided_fits operator.Remainder a = tt

unless_fits : (m : Option ℤ) (other : Result ℤ ℕ) → IfSome m Fits → Has Fits other → Has Fits (unless_decided m other)
unless_fits None other h rest = rest
unless_fits (Some v) other h rest = h

-- each number of the expression is below 2^63
abbrev pub Small : Expr ℕ → Type 0
Small (Number n) = n < 2 ^ 63
Small (Variable place) = Unit {0}
Small (Field k line) = Unit {0}
Small Own = Unit {0}
Small (Group e) = Small e
Small (Negative e) = Small e
Small (Binary o a b) = Small a × Small b

pub value_fits : (own : ℕ) (vs : List ℤ) (s : State) (e : Expr ℕ) → own < 2 ^ 63 → AllByRecursion Fits vs → AllByRecursion Fits s.0 → Small e → Has Fits (value_of own vs s e)
value_fits own vs s (Number n) few values fields small = record { sfits = small }
value_fits own vs s (Variable place) few values fields small = at_any Fits vs place (pos 0) nought_fits values
value_fits own vs s (Field k line) few values fields small = at_any Fits s.0 k (pos 0) nought_fits fields
value_fits own vs s Own few values fields small = record { sfits = few }
value_fits own vs s (Group e) few values fields small = value_fits own vs s e few values fields small
value_fits own vs s (Negative e) few values fields small =
    has_bind Fits Fits (value_of own vs s e) _ (value_fits own vs s e few values fields small) (λ x _. in_range_fits (pos 0 -ℤ x))
value_fits own vs s (Binary o a b) few values fields small =
    has_bind Fits Fits (value_of own vs s a) _ (value_fits own vs s a few values fields small.0) (λ x fits.
    unless_fits (decided o x) (value_of own vs s b >>= λ y. joined o x y) (decided_fits o x)
    (has_bind Fits Fits (value_of own vs s b) _ (value_fits own vs s b few values fields small.1) (λ y _. joined_fits o x y fits)))

abbrev pub AllFit : List ℤ → Type 0
AllFit vs = AllByRecursion Fits vs

pub values_fit : (own : ℕ) (vs : List ℤ) (s : State) (es : List (Expr ℕ)) → own < 2 ^ 63 → AllFit vs → AllFit s.0 → AllByRecursion Small es → Has AllFit (values_of own vs s es)
values_fit own vs s [] few values fields small = tt
values_fit own vs s (e ∷ es) few values fields small =
    has_bind Fits AllFit (value_of own vs s e) _ (value_fits own vs s e few values fields small.0) (λ x fits.
    has_bind AllFit AllFit (values_of own vs s es) _ (values_fit own vs s es few values fields small.1) (λ xs all. (fits, all)))

-- ---- states stay states

pub noughts_fit : (n : ℕ) → AllByRecursion (FitsSigned w64) (replicate n (pos 0))
noughts_fit zero = tt
noughts_fit (suc n) = (nought_fits, noughts_fit n)

pub zero_is_state : IsState zero_state
zero_is_state = record { len = refl; fields = noughts_fit 16 }

pub with_field_is_state : (s : State) (k : ℕ) (v : ℤ) → Fits v → IsState s → IsState (with_field s k v)
with_field_is_state s k v fits is = record { len = length-set s.0 k v ∙ is.len; fields = all_set Fits s.0 k v fits is.fields }

-- ---- programs

closed_small : (n : ℕ) (e : Expr ℕ) → IsClosedExpression n e → Small e
closed_small n (Number m) closed = closed
closed_small n (Variable place) closed = tt
closed_small n (Field k line) closed = tt
closed_small n Own closed = tt
closed_small n (Group e) closed = closed_small n e closed
closed_small n (Negative e) closed = closed_small n e closed
closed_small n (Binary o a b) closed = (closed_small n a closed.0, closed_small n b closed.1)

all_small : (n : ℕ) (es : List (Expr ℕ)) → AllByRecursion (IsClosedExpression n) es → AllByRecursion Small es
all_small n [] closed = tt
all_small n (e ∷ es) closed = (closed_small n e closed.0, all_small n es closed.1)

each_small : (p : List CheckedMethod) (n : ℕ) (b : Code ℕ ℕ) → IsClosedBlock p n b → Each Small b
each_small p n (End line) c = tt
each_small p n (Let line v value rest) c = (closed_small n value c.1, each_small p (n + 1) rest c.2)
each_small p n (Call line v target m arguments rest) c = (closed_small n target c.1, all_small n arguments c.3, each_small p (n + 1) rest c.4)
each_small p n (Set v value rest) c = (closed_small n value c.1, each_small p n rest c.2)
each_small p n (SetField line k value rest) c = (closed_small n value c.1, each_small p n rest c.2)
each_small p n (If condition first rest) c = (closed_small n condition c.0, each_small p n first c.1, each_small p n rest c.2)
each_small p n (IfElse condition first other rest) c = (closed_small n condition c.0, each_small p n first c.1, each_small p n other c.2, each_small p n rest c.3)
each_small p n (While condition body rest) c = (closed_small n condition c.0, each_small p n body c.1, each_small p n rest c.2)
each_small p n (Fail code rest) c = each_small p n rest c.1
each_small p n (Return value rest) c = (closed_small n value c.0, each_small p n rest c.1)

-- of each method of a program, and where there is none
pub method_small : (p ms : List CheckedMethod) (m : ℕ) → AllByRecursion (IsClosedMethod p) ms → Each Small (method_at ms m).body
method_small p [] m closed = tt
method_small p (x ∷ ms) zero closed = each_small p (length x.parameters) x.body closed.0.body
method_small p (x ∷ ms) (suc m) closed = method_small p ms m closed.1
