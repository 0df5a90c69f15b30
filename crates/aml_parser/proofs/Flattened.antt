-- Each expression of the grammar is its first operand with its operators attached, one after the other.
use Rattle.std.proofs.Common.{◌≡◌, ℕ, ◌+◌, ◌-◌, ◌<◌, ◌≤◌, ◌==◌, if◌then◌else◌, Bool, true, false, [], ◌∷◌, ◌++◌, refl, ap, ◌∙◌, inl, inr, ◌⊎◌, arith}
use Rattle.aml_tokens.specs.declared.tokens.Word.{Word}
use Rattle.aml_tree.specs.declared.trees.Operator.{Operator}
use Rattle.aml_tree.specs.declared.trees.Link.{Link}
use Rattle.aml_tree.specs.Tree.{Expr, Number, Variable, Field, Own, Group, Negative, Binary}
use Rattle.aml_tree.specs.Grammar.{level, lean, IsAtLevel}
use Rattle.aml_parser.specs.Items.{attached, all_attached, allowed, compares, Links}
use Rattle.aml_parser.proofs.Written.{AreLinks}
use Rattle.aml_parser.proofs.Attached.{less_is, not_less_is, level_some, Kind, Below, There, Above, kind, compares_low, compares_high}

abbrev pub first_operand : Expr Word → Expr Word
first_operand (Binary o a b) = first_operand a
first_operand (Number n) = Number n
first_operand (Variable w) = Variable w
first_operand (Field f line) = Field f line
first_operand Own = Own
first_operand (Group e) = Group e
first_operand (Negative e) = Negative e

abbrev pub operators : Expr Word → Links
operators (Binary o a b) = operators a ++ record { operator = o; operand = first_operand b } ∷ operators b
operators (Number n) = []
operators (Variable w) = []
operators (Field f line) = []
operators Own = []
operators (Group e) = []
operators (Negative e) = []

pub all_attached-append : (xs ys : Links) (e : Expr Word) → all_attached e (xs ++ ys) ≡ all_attached (all_attached e xs) ys
all_attached-append [] ys e = refl
all_attached-append (x ∷ xs) ys e = all_attached-append xs ys (attached e x.operator x.operand)

abbrev AreBelow : ℕ → Links → Type 0
AreBelow k [] = Unit {0}
AreBelow k (l ∷ ls) = (level l.operator < k) × AreBelow k ls

below_append : (k : ℕ) (xs ys : Links) → AreBelow k xs → AreBelow k ys → AreBelow k (xs ++ ys)
below_append k [] ys a b = b
below_append k (x ∷ xs) ys a b = (a.0, below_append k xs ys a.1 b)

below_more : (j k : ℕ) (xs : Links) → j ≤ k → AreBelow j xs → AreBelow k xs
below_more j k [] le a = tt
below_more j k (x ∷ xs) le a = (omega (arith, le, a.0), below_more j k xs le a.1)

lean_less : (o : Operator) → Kind (level o) → lean (level o) ≤ level o
lean_less o (Below x y z lt) = rw z (omega arith)
lean_less o (There is) = let two : lean (level o) ≡ 2 = ap lean is in omega (arith, two, is)
lean_less o (Above x y z lt) = rw z (omega arith)

operators_below : (k : ℕ) (e : Expr Word) → IsAtLevel k e → AreBelow (k + 1) (operators e)
operators_below k (Number n) h = tt
operators_below k (Variable w) h = tt
operators_below k (Field f line) h = tt
operators_below k Own h = tt
operators_below k (Group e) h = tt
operators_below k (Negative e) h = tt
operators_below k (Binary o a b) h =
    let le = lean_less o (kind o) in
    below_append (k + 1) (operators a) (record { operator = o; operand = first_operand b } ∷ operators b)
    (below_more (lean (level o) + 1) (k + 1) (operators a) (omega (arith, le, h.0)) (operators_below (lean (level o)) a h.1))
    (omega (arith, h.0), below_more (level o - 1 + 1) (k + 1) (operators b) (omega (arith, h.0, (level_some o).0)) (operators_below (level o - 1) b h.2))

-- operators that bind more tightly stay in the right operand
onto_right : (ls : Links) (o : Operator) (a y : Expr Word) → AreBelow (level o) ls → all_attached (Binary o a y) ls ≡ Binary o a (all_attached y ls)
onto_right [] o a y h = refl
onto_right (l ∷ ls) o a y h =
    ap (λ (t : Bool). all_attached (if t then Binary o a (attached y l.operator l.operand) else Binary l.operator (Binary o a y) l.operand) ls) (less_is (level l.operator) (level o) h.0)
    ∙ onto_right ls o a (attached y l.operator l.operand) h.1

beside : (o : Operator) (a x : Expr Word) → IsAtLevel (lean (level o)) a → attached a o x ≡ Binary o a x
beside o (Number n) x h = refl
beside o (Variable w) x h = refl
beside o (Field f line) x h = refl
beside o Own x h = refl
beside o (Group e) x h = refl
beside o (Negative e) x h = refl
beside o (Binary p a b) x h =
    ap (λ (t : Bool). if t then Binary p a (attached b o x) else Binary o (Binary p a b) x) (not_less_is (level o) (level p) (omega (arith, h.0, lean_less o (kind o))))

pub reattached : (k : ℕ) (e : Expr Word) → IsAtLevel k e → all_attached (first_operand e) (operators e) ≡ e
reattached k (Number n) h = refl
reattached k (Variable w) h = refl
reattached k (Field f line) h = refl
reattached k Own h = refl
reattached k (Group e) h = refl
reattached k (Negative e) h = refl
reattached k (Binary o a b) h =
    all_attached-append (operators a) (record { operator = o; operand = first_operand b } ∷ operators b) (first_operand a)
    ∙ ap (λ (e : Expr Word). all_attached (attached e o (first_operand b)) (operators b)) (reattached (lean (level o)) a h.1)
    ∙ ap (λ (e : Expr Word). all_attached e (operators b)) (beside o a (first_operand b) h.1)
    ∙ onto_right (operators b) o a (first_operand b) (below_more (level o - 1 + 1) (level o) (operators b) (omega (arith, (level_some o).0)) (operators_below (level o - 1) b h.2))
    ∙ ap (Binary o a) (reattached (level o - 1) b h.2)

pub first_at : (k : ℕ) (e : Expr Word) → IsAtLevel k e → IsAtLevel 0 (first_operand e)
first_at k (Number n) h = h
first_at k (Variable w) h = h
first_at k (Field f line) h = h
first_at k Own h = h
first_at k (Group e) h = h
first_at k (Negative e) h = h
first_at k (Binary o a b) h = first_at (lean (level o)) a h.1

-- ---- comparisons

abbrev flags : Bool → Links → Bool
flags c [] = c
flags c (l ∷ ls) = flags (compares c l.operator) ls

flags-append : (c : Bool) (xs ys : Links) → flags c (xs ++ ys) ≡ flags (flags c xs) ys
flags-append c [] ys = refl
flags-append c (x ∷ xs) ys = flags-append (compares c x.operator) xs ys

are_append : (c : Bool) (xs ys : Links) → AreLinks c xs → AreLinks (flags c xs) ys → AreLinks c (xs ++ ys)
are_append c [] ys a b = b
are_append c (x ∷ xs) ys a b = (a.0, a.1, are_append (compares c x.operator) xs ys a.2 b)

low : (o : Operator) (c : Bool) → Kind (level o) → level o ≤ 2 → compares c o ≡ c
low o c (Below x y z lt) le = compares_low c o y x
low o c (There is) le = absurd (omega (arith, is, le))
low o c (Above x y z lt) le = absurd (omega (arith, lt, le))

flags_low : (k : ℕ) (e : Expr Word) (c : Bool) → IsAtLevel k e → k ≤ 2 → flags c (operators e) ≡ c
flags_low k (Number n) c h le = refl
flags_low k (Variable w) c h le = refl
flags_low k (Field f line) c h le = refl
flags_low k Own c h le = refl
flags_low k (Group e) c h le = refl
flags_low k (Negative e) c h le = refl
flags_low k (Binary o a b) c h le =
    let less = lean_less o (kind o) in
    flags-append c (operators a) (record { operator = o; operand = first_operand b } ∷ operators b)
    ∙ ap (λ (f : Bool). flags (compares f o) (operators b)) (flags_low (lean (level o)) a c h.1 (omega (arith, less, h.0, le)))
    ∙ flags_low (level o - 1) b (compares c o) h.2 (omega (arith, h.0, le))
    ∙ low o c (kind o) (omega (arith, h.0, le))

any_allowed : (c : Bool) (o : Operator) → (level o == 3) ≡ false → allowed c o ≡ true
any_allowed true o e = rw e refl
any_allowed false o e = refl

not_low : (c : Bool) (k j : ℕ) → (c ≡ false) ⊎ (k ≤ 2) → 3 ≤ j → j ≤ k → c ≡ false
not_low c k j (inl e) a b = e
not_low c k j (inr le) a b = absurd (omega (arith, a, b, le))

pub are_operators : (k : ℕ) (e : Expr Word) (c : Bool) → IsAtLevel k e → (c ≡ false) ⊎ (k ≤ 2) → AreLinks c (operators e)
are_operators k (Number n) c h side = tt
are_operators k (Variable w) c h side = tt
are_operators k (Field f line) c h side = tt
are_operators k Own c h side = tt
are_operators k (Group e) c h side = tt
are_operators k (Negative e) c h side = tt
are_operators k (Binary o a b) c h side =
    let link : Link (Expr Word) = record { operator = o; operand = first_operand b } in
    are_append c (operators a) (link ∷ operators b) (left (kind o) (λ s. are_operators (lean (level o)) a c h.1 s))
    (ok (kind o), first_at (level o - 1) b h.2, right (kind o) (λ f s. are_operators (level o - 1) b f h.2 s))
  where
    left : Kind (level o) → ((c ≡ false) ⊎ (lean (level o) ≤ 2) → AreLinks c (operators a)) → AreLinks c (operators a)
    left (Below x y z lt) go = go (inr (rw z (omega arith)))
    left (There is) go = let two : lean (level o) ≡ 2 = ap lean is in go (inr (omega (arith, two)))
    left (Above x y z lt) go = go (inl (not_low c k (level o) side (omega arith) h.0))

    ok : Kind (level o) → allowed (flags c (operators a)) o ≡ true
    ok (Below x y z lt) = any_allowed (flags c (operators a)) o y
    ok (There is) =
        let two : lean (level o) ≡ 2 = ap lean is in
        let none : flags c (operators a) ≡ false = flags_low (lean (level o)) a c h.1 (omega (arith, two)) ∙ not_low c k (level o) side (omega (arith, is)) h.0 in
        ap (λ (b : Bool). allowed b o) none
    ok (Above x y z lt) = any_allowed (flags c (operators a)) o y

    right : Kind (level o) → ((d : Bool) → (d ≡ false) ⊎ (level o - 1 ≤ 2) → AreLinks d (operators b)) → AreLinks (compares (flags c (operators a)) o) (operators b)
    right (Below x y z lt) go = go (compares (flags c (operators a)) o) (inr (omega arith))
    right (There is) go = go (compares (flags c (operators a)) o) (inr (omega (arith, is)))
    right (Above x y z lt) go = go (compares (flags c (operators a)) o) (inl (compares_high (flags c (operators a)) o y x))
