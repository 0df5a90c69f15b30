-- Expressions as their operators come: an operator that comes is attached where the grammar has it,
-- and each expression is its first operand with its operators attached.
use Rattle.std.proofs.Common.{◌≡◌, ℕ, ◌-◌, ◌<◌, ◌≤◌, nat_lt, ◌==◌, if◌then◌else◌, Bool, true, false, cond, List, [], ◌∷◌, ◌++◌, None, refl, sym, ap, ◌∙◌, append_assoc, inl, inr, ◌⊎◌, arith, rules, tests}
use Rattle.aml_tokens.specs.declared.tokens.Word.{Word}
use Rattle.aml_tokens.specs.Token.{Token}
use Rattle.aml_tokens.specs.Token as token
use Rattle.aml_tree.specs.declared.trees.Operator.{Operator}
use Rattle.aml_tree.specs.declared.trees.Operator.TheVariants as operator
use Rattle.aml_tree.specs.Tree.{Expr, Number, Variable, Field, Own, Group, Negative, Binary}
use Rattle.aml_tree.specs.Grammar.{sign, spelling, level, lean, IsAtLevel}
use Rattle.aml_tree.specs.Limits.{Mark, marks}
use Rattle.aml_parser.specs.Items.{attached, all_attached, allowed, compares, Links}
use Rattle.aml_parser.proofs.Written.{links, link_marks, AreLinks}

pub is_less : (a b : ℕ) → nat_lt a b ≡ true → a < b
is_less a b e = search (rules, tests)

pub is_not_less : (a b : ℕ) → nat_lt a b ≡ false → b ≤ a
is_not_less a b e = search (rules, tests)

-- ---- tokens and limits

attached_tokens : (e : Expr Word) (o : Operator) (x : Expr Word) → spelling (attached e o x) ≡ spelling e ++ token.Sign (sign o) ∷ spelling x
attached_tokens (Number n) o x = refl
attached_tokens (Variable v) o x = refl
attached_tokens (Field k line) o x = refl
attached_tokens Own o x = refl
attached_tokens (Group e) o x = refl
attached_tokens (Negative e) o x = refl
attached_tokens (Binary p a b) o x = by (nat_lt (level o) (level p)) (attached_tokens b o x)
  where
    by : (t : Bool) → spelling (attached b o x) ≡ spelling b ++ token.Sign (sign o) ∷ spelling x → spelling (cond t (Binary p a (attached b o x)) (Binary o (Binary p a b) x)) ≡ (spelling a ++ token.Sign (sign p) ∷ spelling b) ++ token.Sign (sign o) ∷ spelling x
    by true more = ap (λ (ts : List Token). spelling a ++ token.Sign (sign p) ∷ ts) more ∙ sym (append_assoc (spelling a) (token.Sign (sign p) ∷ spelling b) (token.Sign (sign o) ∷ spelling x))
    by false more = refl

attached_marks : (depth : ℕ) (e : Expr Word) (o : Operator) (x : Expr Word) → marks depth (attached e o x) ≡ marks depth e ++ None ∷ marks depth x
attached_marks depth (Number n) o x = refl
attached_marks depth (Variable v) o x = refl
attached_marks depth (Field k line) o x = refl
attached_marks depth Own o x = refl
attached_marks depth (Group e) o x = refl
attached_marks depth (Negative e) o x = refl
attached_marks depth (Binary p a b) o x = by (nat_lt (level o) (level p)) (attached_marks depth b o x)
  where
    by : (t : Bool) → marks depth (attached b o x) ≡ marks depth b ++ None ∷ marks depth x → marks depth (cond t (Binary p a (attached b o x)) (Binary o (Binary p a b) x)) ≡ (marks depth a ++ None ∷ marks depth b) ++ None ∷ marks depth x
    by true more = ap (λ (ts : List Mark). marks depth a ++ None ∷ ts) more ∙ sym (append_assoc (marks depth a) (None ∷ marks depth b) (None ∷ marks depth x))
    by false more = refl

pub all_attached_tokens : (ls : Links) (e : Expr Word) (rest : List Token) → spelling (all_attached e ls) ++ rest ≡ spelling e ++ (links ls ++ rest)
all_attached_tokens [] e rest = refl
all_attached_tokens (l ∷ ls) e rest =
    all_attached_tokens ls (attached e l.operator l.operand) rest
    ∙ ap (λ (ts : List Token). ts ++ (links ls ++ rest)) (attached_tokens e l.operator l.operand)
    ∙ append_assoc (spelling e) (token.Sign (sign l.operator) ∷ spelling l.operand) (links ls ++ rest)
    ∙ ap (λ (ts : List Token). spelling e ++ token.Sign (sign l.operator) ∷ ts) (sym (append_assoc (spelling l.operand) (links ls) rest))

pub all_attached_marks : (depth : ℕ) (ls : Links) (e : Expr Word) (rest : List Mark) → marks depth (all_attached e ls) ++ rest ≡ marks depth e ++ (link_marks depth ls ++ rest)
all_attached_marks depth [] e rest = refl
all_attached_marks depth (l ∷ ls) e rest =
    all_attached_marks depth ls (attached e l.operator l.operand) rest
    ∙ ap (λ (ts : List Mark). ts ++ (link_marks depth ls ++ rest)) (attached_marks depth e l.operator l.operand)
    ∙ append_assoc (marks depth e) (None ∷ marks depth l.operand) (link_marks depth ls ++ rest)
    ∙ ap (λ (ts : List Mark). marks depth e ++ None ∷ ts) (sym (append_assoc (marks depth l.operand) (link_marks depth ls) rest))

-- ---- grammar

pub level_some : (o : Operator) → (0 < level o) × (level o ≤ 5)
level_some operator.Or = (omega arith, omega arith)
level_some operator.And = (omega arith, omega arith)
level_some operator.Equal = (omega arith, omega arith)
level_some operator.NotEqual = (omega arith, omega arith)
level_some operator.Less = (omega arith, omega arith)
level_some operator.LessOrEqual = (omega arith, omega arith)
level_some operator.Greater = (omega arith, omega arith)
level_some operator.GreaterOrEqual = (omega arith, omega arith)
level_some operator.Plus = (omega arith, omega arith)
level_some operator.Minus = (omega arith, omega arith)
level_some operator.Times = (omega arith, omega arith)
level_some operator.Over = (omega arith, omega arith)
level_some operator.Remainder = (omega arith, omega arith)

-- an operand of a rule is one of each looser rule
pub looser : (j k : ℕ) (e : Expr Word) → j ≤ k → IsAtLevel j e → IsAtLevel k e
looser j k (Number n) le h = h
looser j k (Variable w) le h = h
looser j k (Field f line) le h = h
looser j k Own le h = h
looser j k (Group e) le h = h
looser j k (Negative e) le h = h
looser j k (Binary o a b) le h = let le' : level o ≤ k = omega (arith, h.0) in (le', h.1, h.2)

-- whether the last conjunct of an expression has a comparison
abbrev pub has_comparison : Expr Word → Bool
has_comparison (Binary p a b) = if level p == 3 then true else (if nat_lt 3 (level p) then has_comparison b else false)
has_comparison (Number n) = false
has_comparison (Variable w) = false
has_comparison (Field f line) = false
has_comparison Own = false
has_comparison (Group e) = false
has_comparison (Negative e) = false

-- a level is below, at or above that of comparisons
pub data Kind (k : ℕ) : Type 0 where
  Below : nat_lt 3 k ≡ false → (k == 3) ≡ false → lean k ≡ k → k < 3 → Kind k
  There : k ≡ 3 → Kind k
  Above : nat_lt 3 k ≡ true → (k == 3) ≡ false → lean k ≡ k → 3 < k → Kind k

pub kind : (o : Operator) → Kind (level o)
kind operator.Or = Above refl refl refl (omega arith)
kind operator.And = Above refl refl refl (omega arith)
kind operator.Equal = There refl
kind operator.NotEqual = There refl
kind operator.Less = There refl
kind operator.LessOrEqual = There refl
kind operator.Greater = There refl
kind operator.GreaterOrEqual = There refl
kind operator.Plus = Below refl refl refl (omega arith)
kind operator.Minus = Below refl refl refl (omega arith)
kind operator.Times = Below refl refl refl (omega arith)
kind operator.Over = Below refl refl refl (omega arith)
kind operator.Remainder = Below refl refl refl (omega arith)

pub less_is : (a b : ℕ) → a < b → nat_lt a b ≡ true
less_is a b h = search (rules, tests)

pub not_less_is : (a b : ℕ) → b ≤ a → nat_lt a b ≡ false
not_less_is a b h = search (rules, tests)

-- an operand has no operator
pub no_operator : (o : Operator) (a b : Expr Word) → ¬ IsAtLevel 0 (Binary o a b)
no_operator o a b h = absurd (omega (arith, h.0, (level_some o).0))

operand_has_none : (x : Expr Word) → IsAtLevel 0 x → has_comparison x ≡ false
operand_has_none (Number n) h = refl
operand_has_none (Variable w) h = refl
operand_has_none (Field f line) h = refl
operand_has_none Own h = refl
operand_has_none (Group e) h = refl
operand_has_none (Negative e) h = refl
operand_has_none (Binary o a b) h = absurd (no_operator o a b h)

-- whether there is one, by the operator that comes first
has_first : (p : Operator) (a b : Expr Word) → Kind (level p) → has_comparison (Binary p a b) ≡ false → (level p < 3) ⊎ ((3 < level p) × (has_comparison b ≡ false))
has_first p a b (Below x y z lt) none = inl lt
has_first p a b (There is) none = absurd (cc (sym none ∙ ap (λ (k : ℕ). if k == 3 then true else (if nat_lt 3 k then has_comparison b else false)) is))
has_first p a b (Above x y z lt) none =
    let there : has_comparison (Binary p a b) ≡ has_comparison b = rw (x, y) refl in inr (lt, sym there ∙ none)

joined_at : (k : ℕ) (e : Expr Word) (o : Operator) (x : Expr Word) → IsAtLevel (lean (level o)) e → level o ≤ k → IsAtLevel 0 x → IsAtLevel k (Binary o e x)
joined_at k e o x h le operand = (le, h, looser 0 (level o - 1) x (omega arith) operand)

left_at : (o p : Operator) (a b : Expr Word) → Kind (level o) → level p ≤ level o → (level o ≡ 3 → has_comparison (Binary p a b) ≡ false) → level p ≤ lean (level o)
left_at o p a b (Below x y z lt) le none = rw z le
left_at o p a b (There is) le none =
    let lean_is : lean (level o) ≡ 2 = ap lean is in
    elim (has_first p a b (kind p) (none is)) [
      | inl lt ↦ omega (arith, lt, lean_is)
      | inr above ↦ absurd (omega (arith, above.0, le, is))
    ]
left_at o p a b (Above x y z lt) le none = rw z le

pub attached_at : (k : ℕ) (e : Expr Word) (o : Operator) (x : Expr Word) → IsAtLevel k e → level o ≤ k → (level o ≡ 3 → has_comparison e ≡ false) → IsAtLevel 0 x → IsAtLevel k (attached e o x)
attached_at k (Number n) o x h le none operand = joined_at k (Number n) o x h le operand
attached_at k (Variable w) o x h le none operand = joined_at k (Variable w) o x h le operand
attached_at k (Field f line) o x h le none operand = joined_at k (Field f line) o x h le operand
attached_at k Own o x h le none operand = joined_at k Own o x h le operand
attached_at k (Group e) o x h le none operand = joined_at k (Group e) o x h le operand
attached_at k (Negative e) o x h le none operand = joined_at k (Negative e) o x h le operand
attached_at k (Binary p a b) o x h le none operand = by (nat_lt (level o) (level p)) refl (λ lt none'. attached_at (level p - 1) b o x h.2 (omega (arith, lt)) none' operand)
  where
    by : (t : Bool) → nat_lt (level o) (level p) ≡ t → (level o < level p → (level o ≡ 3 → has_comparison b ≡ false) → IsAtLevel (level p - 1) (attached b o x)) → IsAtLevel k (cond t (Binary p a (attached b o x)) (Binary o (Binary p a b) x))
    by true e more =
        let lt = is_less (level o) (level p) e in (
          h.0,
          h.1,
          more lt (λ three. elim (has_first p a b (kind p) (none three)) [
            | inl low ↦ absurd (omega (arith, low, lt, three))
            | inr above ↦ above.1
          ]),
        )
    by false e more = joined_at k (Binary p a b) o x (left_at o p a b (kind o) (is_not_less (level o) (level p) e) none, h.1, h.2) le operand

pub compares_low : (c : Bool) (o : Operator) → (level o == 3) ≡ false → nat_lt 3 (level o) ≡ false → compares c o ≡ c
compares_low c o a b = rw (a, b) refl

compares_there : (c : Bool) (o : Operator) → level o ≡ 3 → compares c o ≡ true
compares_there c o e = ap (λ (k : ℕ). if k == 3 then true else (if nat_lt 3 k then false else c)) e

pub compares_high : (c : Bool) (o : Operator) → (level o == 3) ≡ false → nat_lt 3 (level o) ≡ true → compares c o ≡ false
compares_high c o a b = rw (a, b) refl

joined_has : (e : Expr Word) (o : Operator) (x : Expr Word) → Kind (level o) → IsAtLevel 0 x → (level o < 3 → has_comparison e ≡ false) → has_comparison (Binary o e x) ≡ compares (has_comparison e) o
joined_has e o x (Below a b c lt) operand low = rw (a, b) (sym (low lt))
joined_has e o x (There is) operand low = ap (λ (k : ℕ). if k == 3 then true else (if nat_lt 3 k then has_comparison x else false)) is ∙ sym (compares_there (has_comparison e) o is)
joined_has e o x (Above a b c lt) operand low = rw (a, b) (operand_has_none x operand)

deeper_has : (p o : Operator) (a b y : Expr Word) → Kind (level p) → Kind (level o) → level o < level p → has_comparison y ≡ compares (has_comparison b) o → has_comparison (Binary p a y) ≡ compares (has_comparison (Binary p a b)) o
deeper_has p o a b y (Below u v w lt) (Below u' v' w' lt') less e = rw (u, v, u', v') refl
deeper_has p o a b y (Below u v w lt) (There is) less e = absurd (omega (arith, lt, less, is))
deeper_has p o a b y (Below u v w lt) (Above u' v' w' lt') less e = absurd (omega (arith, lt, less, lt'))
deeper_has p o a b y (There is) (Below u v w lt) less e =
    let one : has_comparison (Binary p a y) ≡ true = ap (λ (k : ℕ). if k == 3 then true else (if nat_lt 3 k then has_comparison y else false)) is in
    let two : has_comparison (Binary p a b) ≡ true = ap (λ (k : ℕ). if k == 3 then true else (if nat_lt 3 k then has_comparison b else false)) is in
    one ∙ sym (ap (λ (c : Bool). compares c o) two ∙ compares_low true o v u)
deeper_has p o a b y (There is) (There is') less e = absurd (omega (arith, less, is, is'))
deeper_has p o a b y (There is) (Above u v w lt) less e = absurd (omega (arith, less, is, lt))
deeper_has p o a b y (Above u v w lt) other less e =
    let one : has_comparison (Binary p a y) ≡ has_comparison y = rw (u, v) refl in
    let two : has_comparison (Binary p a b) ≡ has_comparison b = rw (u, v) refl in
    one ∙ e ∙ ap (λ (c : Bool). compares c o) (sym two)

low_has_none : (p : Operator) (a b : Expr Word) → Kind (level p) → level p < 3 → has_comparison (Binary p a b) ≡ false
low_has_none p a b (Below u v w lt) less = rw (u, v) refl
low_has_none p a b (There is) less = absurd (omega (arith, less, is))
low_has_none p a b (Above u v w lt) less = absurd (omega (arith, less, lt))

pub attached_has : (e : Expr Word) (o : Operator) (x : Expr Word) → IsAtLevel 0 x → has_comparison (attached e o x) ≡ compares (has_comparison e) o
attached_has (Number n) o x operand = joined_has (Number n) o x (kind o) operand (λ _. refl)
attached_has (Variable w) o x operand = joined_has (Variable w) o x (kind o) operand (λ _. refl)
attached_has (Field f line) o x operand = joined_has (Field f line) o x (kind o) operand (λ _. refl)
attached_has Own o x operand = joined_has Own o x (kind o) operand (λ _. refl)
attached_has (Group e) o x operand = joined_has (Group e) o x (kind o) operand (λ _. refl)
attached_has (Negative e) o x operand = joined_has (Negative e) o x (kind o) operand (λ _. refl)
attached_has (Binary p a b) o x operand = by (nat_lt (level o) (level p)) refl (attached_has b o x operand)
  where
    by : (t : Bool) → nat_lt (level o) (level p) ≡ t → has_comparison (attached b o x) ≡ compares (has_comparison b) o
        → has_comparison (cond t (Binary p a (attached b o x)) (Binary o (Binary p a b) x)) ≡ compares (has_comparison (Binary p a b)) o
    by true e more = deeper_has p o a b (attached b o x) (kind p) (kind o) (is_less (level o) (level p) e) more
    by false e more = joined_has (Binary p a b) o x (kind o) operand (λ lt. low_has_none p a b (kind p) (omega (arith, lt, is_not_less (level o) (level p) e)))

allowed_none : (c : Bool) (o : Operator) → allowed c o ≡ true → level o ≡ 3 → c ≡ false
allowed_none false o ok is = refl
allowed_none true o ok is = absurd (cc (sym ok ∙ ap (λ (k : ℕ). if k == 3 then false else true) is))

pub all_attached_at : (ls : Links) (c : Bool) (e : Expr Word) → IsAtLevel 5 e → has_comparison e ≡ c → AreLinks c ls → IsAtLevel 5 (all_attached e ls)
all_attached_at [] c e h has are = h
all_attached_at (l ∷ ls) c e h has are =
    all_attached_at ls (compares c l.operator) (attached e l.operator l.operand)
    (attached_at 5 e l.operator l.operand h (level_some l.operator).1 (λ three. has ∙ allowed_none c l.operator are.0 three) are.1)
    (attached_has e l.operator l.operand are.1 ∙ ap (λ (b : Bool). compares b l.operator) has) are.2

-- an operand with its operators, from the start
pub read_at : (x : Expr Word) (ls : Links) → IsAtLevel 0 x → AreLinks false ls → IsAtLevel 5 (all_attached x ls)
read_at x ls operand are = all_attached_at ls false x (looser 0 5 x (omega arith) operand) (operand_has_none x operand) are
