-- What is left of a block behind some of its statements.
use Rattle.std.proofs.Common.{◌≡◌, ℕ, zero, suc, ◌+◌, ◌≤◌, ◌<◌, Bool, true, false, List, ◌∷◌, refl, sym, ap, ◌∙◌, subst, arith, ◌⊎◌, inl, inr}
use Rattle.aml_tree.specs.Tree.{CheckedMethod, Code, End, Let, Call, Set, SetField, If, IfElse, While, Fail, Return}
use Rattle.aml_flat.specs.declared.operations.Operation.{Operation}
use Rattle.aml_flat.specs.declared.operations.Operation.TheVariants as op
use Rattle.aml_flat.specs.Flat.{count_of, Lies}
use Rattle.aml_flat.proofs.Laying.{Told, told, found}
use Rattle.aml_check.specs.Closed.{nesting}
use Rattle.aml_resume.specs.declared.places.Spot.{Spot}
use Rattle.aml_resume.specs.Places.{behind_some, HasInner, IsPlace, IsRunnable, after_inner, inner_of, kept}

behind_suc : (n : ℕ) (b : Code ℕ ℕ) → behind_some (suc n) b ≡ behind_some 1 (behind_some n b)
behind_suc zero b = refl
behind_suc (suc n) (End line) = refl
behind_suc (suc n) (Let line v value rest) = behind_suc n rest
behind_suc (suc n) (Call line v target m arguments rest) = behind_suc n rest
behind_suc (suc n) (Set v value rest) = behind_suc n rest
behind_suc (suc n) (SetField line k value rest) = behind_suc n rest
behind_suc (suc n) (If condition first rest) = behind_suc n rest
behind_suc (suc n) (IfElse condition first other rest) = behind_suc n rest
behind_suc (suc n) (While condition body rest) = behind_suc n rest
behind_suc (suc n) (Fail code rest) = behind_suc n rest
behind_suc (suc n) (Return value rest) = behind_suc n rest

-- one statement more
pub behind_more : (n : ℕ) (b : Code ℕ ℕ) → behind_some (n + 1) b ≡ behind_some 1 (behind_some n b)
behind_more n b = let e : n + 1 ≡ suc n = omega arith in ap (λ m. behind_some m b) e ∙ behind_suc n b

pub none_at_end : (other : Bool) (line : ℕ) → HasInner other (End line) → ⊥
none_at_end true line h = h
none_at_end false line h = h

-- ---- inner blocks are no deeper than the block but for one level

pub deep_some : (n : ℕ) (b : Code ℕ ℕ) → nesting (behind_some n b) ≤ nesting b
deep_some zero b = omega arith
deep_some (suc n) (End line) = omega arith
deep_some (suc n) (Let line v value rest) = deep_some n rest
deep_some (suc n) (Call line v target m arguments rest) = deep_some n rest
deep_some (suc n) (Set v value rest) = deep_some n rest
deep_some (suc n) (SetField line k value rest) = deep_some n rest
deep_some (suc n) (If condition first rest) = omega (arith, deep_some n rest)
deep_some (suc n) (IfElse condition first other rest) = omega (arith, deep_some n rest)
deep_some (suc n) (While condition body rest) = omega (arith, deep_some n rest)
deep_some (suc n) (Fail code rest) = deep_some n rest
deep_some (suc n) (Return value rest) = deep_some n rest

inner_deep : (other : Bool) (b : Code ℕ ℕ) → HasInner other b → nesting (inner_of other b) + 1 ≤ nesting b
inner_deep false (End line) h = absurd h
inner_deep true (End line) h = absurd h
inner_deep false (Let line v value rest) h = absurd h
inner_deep true (Let line v value rest) h = absurd h
inner_deep false (Call line v target m arguments rest) h = absurd h
inner_deep true (Call line v target m arguments rest) h = absurd h
inner_deep false (Set v value rest) h = absurd h
inner_deep true (Set v value rest) h = absurd h
inner_deep false (SetField line k value rest) h = absurd h
inner_deep true (SetField line k value rest) h = absurd h
inner_deep false (If condition first rest) h = omega arith
inner_deep true (If condition first rest) h = absurd h
inner_deep false (IfElse condition first other rest) h = omega arith
inner_deep true (IfElse condition first other rest) h = omega arith
inner_deep false (While condition body rest) h = omega arith
inner_deep true (While condition body rest) h = absurd h
inner_deep false (Fail code rest) h = absurd h
inner_deep true (Fail code rest) h = absurd h
inner_deep false (Return value rest) h = absurd h
inner_deep true (Return value rest) h = absurd h

pub deep_inside : (other : Bool) (n : ℕ) (b : Code ℕ ℕ) → HasInner other (behind_some n b) → nesting (inner_of other (behind_some n b)) + 1 ≤ nesting b
deep_inside other n b h = omega (arith, inner_deep other (behind_some n b) h, deep_some n b)

-- ---- the outermost open block

pub record Opened (p : List CheckedMethod) (n : ℕ) (b : Code ℕ ℕ) (q : Spot) (qs : List Spot) (next : ℕ) : Type 0 where
  pub has : HasInner q.other (behind_some q.at b)
  pub place : IsPlace p n (inner_of q.other (behind_some q.at b)) qs next
  pub keeps : q.keep ≤ kept n qs
  pub after : IsRunnable p q.keep (after_inner (behind_some q.at b))

pub opened : (p : List CheckedMethod) (n : ℕ) (b : Code ℕ ℕ) (path : List Spot) (q : Spot) (qs : List Spot) (next : ℕ) → path ≡ q ∷ qs → IsPlace p n b path next → Opened p n b q qs next
opened p n b path q qs next is place =
    let P : List Spot → Type 0 = λ ps. IsPlace p n b ps next in
    let h = subst P is place in
    record { has = h.0; place = h.1; keeps = h.2; after = h.3 }

-- ---- how many statements there are

pub some_level : (b : Code ℕ ℕ) → 1 ≤ nesting b
some_level (End line) = omega arith
some_level (Let line v value rest) = some_level rest
some_level (Call line v target m arguments rest) = some_level rest
some_level (Set v value rest) = some_level rest
some_level (SetField line k value rest) = some_level rest
some_level (If condition first rest) = omega (arith, some_level rest)
some_level (IfElse condition first other rest) = omega (arith, some_level rest)
some_level (While condition body rest) = omega (arith, some_level rest)
some_level (Fail code rest) = some_level rest
some_level (Return value rest) = some_level rest

pub count_behind : (k : ℕ) (b : Code ℕ ℕ) → k ≤ count_of b → count_of (behind_some k b) + k ≡ count_of b
count_behind zero b h = omega arith
count_behind (suc i) (End line) h = absurd (omega (arith, h))
count_behind (suc i) (Let line v value rest) h = omega (arith, count_behind i rest (omega (arith, h)))
count_behind (suc i) (Call line v target m arguments rest) h = omega (arith, count_behind i rest (omega (arith, h)))
count_behind (suc i) (Set v value rest) h = omega (arith, count_behind i rest (omega (arith, h)))
count_behind (suc i) (SetField line k value rest) h = omega (arith, count_behind i rest (omega (arith, h)))
count_behind (suc i) (If condition first rest) h = omega (arith, count_behind i rest (omega (arith, h)))
count_behind (suc i) (IfElse condition first other rest) h = omega (arith, count_behind i rest (omega (arith, h)))
count_behind (suc i) (While condition body rest) h = omega (arith, count_behind i rest (omega (arith, h)))
count_behind (suc i) (Fail code rest) h = omega (arith, count_behind i rest (omega (arith, h)))
count_behind (suc i) (Return value rest) h = omega (arith, count_behind i rest (omega (arith, h)))

-- behind all statements is the end
pub all_behind : (k : ℕ) (b : Code ℕ ℕ) → count_of b ≤ k → (line : ℕ) × (behind_some k b ≡ End line)
all_behind zero (End line) h = (line, refl)
all_behind zero (Let line v value rest) h = absurd (omega (arith, h))
all_behind zero (Call line v target m arguments rest) h = absurd (omega (arith, h))
all_behind zero (Set v value rest) h = absurd (omega (arith, h))
all_behind zero (SetField line k value rest) h = absurd (omega (arith, h))
all_behind zero (If condition first rest) h = absurd (omega (arith, h))
all_behind zero (IfElse condition first other rest) h = absurd (omega (arith, h))
all_behind zero (While condition body rest) h = absurd (omega (arith, h))
all_behind zero (Fail code rest) h = absurd (omega (arith, h))
all_behind zero (Return value rest) h = absurd (omega (arith, h))
all_behind (suc i) (End line) h = (line, refl)
all_behind (suc i) (Let line v value rest) h = all_behind i rest (omega (arith, h))
all_behind (suc i) (Call line v target m arguments rest) h = all_behind i rest (omega (arith, h))
all_behind (suc i) (Set v value rest) h = all_behind i rest (omega (arith, h))
all_behind (suc i) (SetField line k value rest) h = all_behind i rest (omega (arith, h))
all_behind (suc i) (If condition first rest) h = all_behind i rest (omega (arith, h))
all_behind (suc i) (IfElse condition first other rest) h = all_behind i rest (omega (arith, h))
all_behind (suc i) (While condition body rest) h = all_behind i rest (omega (arith, h))
all_behind (suc i) (Fail code rest) h = all_behind i rest (omega (arith, h))
all_behind (suc i) (Return value rest) h = all_behind i rest (omega (arith, h))

-- ---- where it lies

rest_told : (ops : List Operation) (from at : ℕ) (b : Code ℕ ℕ) (o : Operation) → Told ops from at b o → 1 ≤ count_of b → Lies ops (from + 1) (at + 1) (behind_some 1 b)
rest_told ops from at b op.End t h = absurd (omega (arith, ap count_of t.1, h))
rest_told ops from at b (op.Let e) t h = let P : Code ℕ ℕ → Type 0 = λ c. Lies ops (from + 1) (at + 1) c in subst P (sym (ap (behind_some 1) t.3)) t.4
rest_told ops from at b (op.Call place e method es) t h = let P : Code ℕ ℕ → Type 0 = λ c. Lies ops (from + 1) (at + 1) c in subst P (sym (ap (behind_some 1) t.4)) t.5
rest_told ops from at b (op.Set variable e) t h = let P : Code ℕ ℕ → Type 0 = λ c. Lies ops (from + 1) (at + 1) c in subst P (sym (ap (behind_some 1) t.1)) t.2
rest_told ops from at b (op.SetField field e) t h = let P : Code ℕ ℕ → Type 0 = λ c. Lies ops (from + 1) (at + 1) c in subst P (sym (ap (behind_some 1) t.2)) t.3
rest_told ops from at b (op.If place e to) t h = let P : Code ℕ ℕ → Type 0 = λ c. Lies ops (from + 1) (at + 1) c in subst P (sym (ap (behind_some 1) t.3)) t.5
rest_told ops from at b (op.IfElse place e to otherwise) t h = let P : Code ℕ ℕ → Type 0 = λ c. Lies ops (from + 1) (at + 1) c in subst P (sym (ap (behind_some 1) t.4)) t.7
rest_told ops from at b (op.While place e to) t h = let P : Code ℕ ℕ → Type 0 = λ c. Lies ops (from + 1) (at + 1) c in subst P (sym (ap (behind_some 1) t.3)) t.5
rest_told ops from at b (op.Fail c) t h = let P : Code ℕ ℕ → Type 0 = λ c. Lies ops (from + 1) (at + 1) c in subst P (sym (ap (behind_some 1) t.1)) t.2
rest_told ops from at b (op.Return e) t h = let P : Code ℕ ℕ → Type 0 = λ c. Lies ops (from + 1) (at + 1) c in subst P (sym (ap (behind_some 1) t.1)) t.2

rest_lies : (ops : List Operation) (from at : ℕ) (b : Code ℕ ℕ) → Lies ops from at b → 1 ≤ count_of b → Lies ops (from + 1) (at + 1) (behind_some 1 b)
rest_lies ops from at b h some = let f = found ops from at b h in rest_told ops from at b f.operation (told ops from at b f.operation f.is h) some

pub behind_lies : (ops : List Operation) (from : ℕ) (k : ℕ) (b : Code ℕ ℕ) → Lies ops from 0 b → k ≤ count_of b → Lies ops (from + k) k (behind_some k b)
behind_lies ops from zero b h few = let P : ℕ → Type 0 = λ i. Lies ops i 0 b in subst P (let e : from ≡ from + 0 = omega arith in e) h
behind_lies ops from (suc k) b h few =
    let less : k ≤ count_of b = omega (arith, few) in
    let on : Lies ops ((from + k) + 1) (k + 1) (behind_some 1 (behind_some k b)) = rest_lies ops (from + k) k (behind_some k b) (behind_lies ops from k b h less) (omega (arith, count_behind k b less, few)) in
    let P : Code ℕ ℕ → Type 0 = λ c. Lies ops ((from + k) + 1) (k + 1) c in
    let Q : ℕ → ℕ → Type 0 = λ i j. Lies ops i j (behind_some (suc k) b) in
    subst (λ i. Q i (suc k)) (let e : (from + k) + 1 ≡ from + suc k = omega arith in e) (subst (λ j. Q ((from + k) + 1) j) (let e : k + 1 ≡ suc k = omega arith in e) (subst P (sym (behind_suc k b)) on))

within_by : (k : ℕ) (b : Code ℕ ℕ) (other : Bool) → HasInner other (behind_some k b) → ((k < count_of b) ⊎ (count_of b ≤ k)) → k < count_of b
within_by k b other h (inl less) = less
within_by k b other h (inr past) = let e = all_behind k b past in absurd (none_at_end other e.0 (subst (HasInner other) e.1 h))

step_or_not : (k n : ℕ) → (k < n) ⊎ (n ≤ k) → (suc k < suc n) ⊎ (suc n ≤ suc k)
step_or_not k n (inl h) = inl (omega (arith, h))
step_or_not k n (inr h) = inr (omega (arith, h))

pub less_or_not : (k n : ℕ) → (k < n) ⊎ (n ≤ k)
less_or_not k zero = inr (omega arith)
less_or_not zero (suc n) = inl (omega arith)
less_or_not (suc k) (suc n) = step_or_not k n (less_or_not k n)

-- a place of a statement that has an inner block is one of the block's
pub inner_within : (k : ℕ) (b : Code ℕ ℕ) (other : Bool) → HasInner other (behind_some k b) → k < count_of b
inner_within k b other h = within_by k b other h (less_or_not k (count_of b))
