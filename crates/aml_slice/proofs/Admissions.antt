-- What a call that is admitted takes of a transaction's limits.
use Rattle.std.proofs.Common.{◌≡◌, ℕ, zero, suc, ◌+◌, ◌<◌, ◌≤◌, inl, inr, nat_lt, ◌==◌, Bool, true, false, if◌then◌else◌, Result, Ok, Err, Option, Some, None, List, [], ◌∷◌, ◌++◌, length, refl, sym, ap, ◌∙◌, subst, arith, length-append}
use Rattle.std.specs.List.{list_any, Contains}
use Rattle.std.proofs.lemmas.Bool.Decides.{nat_tests}
use Rattle.std.proofs.lemmas.List.Elements.{Contains-push, Contains-append_left}
use Rattle.snap_base.specs.declared.ids.ActorId.{ActorId}
use Rattle.aml_check.specs.Meaning.{◌>>=◌, Progress, too_many_calls, too_many_actors, one_call, with_actor, declared, by_declaration, with_left, used, before, one_less, admitted}
use Rattle.aml_slice.specs.Controls.{IsCallLeft, HasLeft}
use Rattle.aml_slice.specs.Views.{calls_of}
use Rattle.aml_slice.proofs.Askings.{any_contains}

-- what a call of an actor takes
pub record Admits (a : ℕ) (r q : Progress) : Type 0 where
  pub calls : (q.calls ≡ r.calls + 1) × (q.calls ≤ 64)
  pub few : length r.actors ≤ 16 → length q.actors ≤ 16
  pub visited : Contains q.actors a
  pub kept : (b : ℕ) → Contains r.actors b → Contains q.actors b
  pub left : (b : ℕ) → HasLeft q.left b → HasLeft r.left b
  pub was_left : (us : List (ActorId × ℕ)) → r.left ≡ Some us → HasLeft r.left a
  pub still : (us : List (ActorId × ℕ)) → r.left ≡ Some us → (vs : List (ActorId × ℕ)) × (q.left ≡ Some vs)
  pub statements : q.statements ≡ r.statements
  pub undeclared : r.left ≡ None → q.left ≡ None
  pub spent : (us vs : List (ActorId × ℕ)) → r.left ≡ Some us → q.left ≡ Some vs → calls_of us ≡ calls_of vs + 1

-- ---- one call

record Counts (r q : Progress) : Type 0 where
  calls : (q.calls ≡ r.calls + 1) × (q.calls ≤ 64)
  actors : q.actors ≡ r.actors
  left : q.left ≡ r.left
  statements : q.statements ≡ r.statements

counts_by : (r q : Progress) (b : Bool) → nat_lt r.calls 64 ≡ b → (let o : Result Progress ℕ = (if b then Ok (record r { calls = r.calls + 1 }) else Err too_many_calls) in o ≡ Ok q) → Counts r q
counts_by r q true t e =
    let same : record r { calls = r.calls + 1 } ≡ q = cc in
    let P : Progress → Type 0 = λ z. Counts r z in
    let below : r.calls < 64 = grind (arith, nat_tests) in
    subst P same (record { calls = (refl, omega arith); actors = refl; left = refl; statements = refl })
counts_by r q false t e = absurd cc

-- ---- actors

record Joins (a : ℕ) (r q : Progress) : Type 0 where
  calls : q.calls ≡ r.calls
  few : length r.actors ≤ 16 → length q.actors ≤ 16
  visited : Contains q.actors a
  kept : (b : ℕ) → Contains r.actors b → Contains q.actors b
  left : q.left ≡ r.left
  statements : q.statements ≡ r.statements

joins_by : (a : ℕ) (r q : Progress) (b c : Bool) → list_any (λ d. d == a) r.actors ≡ b → nat_lt (length r.actors) 16 ≡ c
    → (let o : Result Progress ℕ = (if b then Ok r else (if c then Ok (record r { actors = r.actors ++ a ∷ [] }) else Err too_many_actors)) in o ≡ Ok q) → Joins a r q
joins_by a r q true c among few e =
    let same : r ≡ q = cc in
    let P : Progress → Type 0 = λ z. Joins a r z in
    subst P same (record { calls = refl; few = λ h. h; visited = any_contains a r.actors among; kept = λ b h. h; left = refl; statements = refl })
joins_by a r q false true among few e =
    let same : record r { actors = r.actors ++ a ∷ [] } ≡ q = cc in
    let P : Progress → Type 0 = λ z. Joins a r z in
    let below : length r.actors < 16 = grind (arith, nat_tests) in
    subst P same (record {
      calls = refl;
      few = λ h. omega (arith, below, length-append r.actors (a ∷ []));
      visited = Contains-push r.actors a;
      kept = λ b h. Contains-append_left r.actors (a ∷ []) b h;
      left = refl;
      statements = refl;
    })
joins_by a r q false false among few e = absurd cc

-- ---- declarations

-- one call less
record Spends (a : ℕ) (us vs : List (ActorId × ℕ)) : Type 0 where
  left : (b : ℕ) → IsCallLeft vs b → IsCallLeft us b
  was_left : IsCallLeft us a
  fewer : calls_of us ≡ calls_of vs + 1

spends_less : (a : ℕ) (u : ActorId) (n : ℕ) (us vs : List (ActorId × ℕ)) → u.0 ≡ a → one_less u n us ≡ Some vs → Spends a ((u, n) ∷ us) vs
spends_less a u zero us vs here e = absurd cc
spends_less a u (suc n) us vs here e =
    let same : (u, n) ∷ us ≡ vs = cc in
    let P : List (ActorId × ℕ) → Type 0 = λ ws. Spends a ((u, suc n) ∷ us) ws in
    subst P same (record {
      left = λ b h. elim h [ inl x ↦ inl (x.0, omega arith) | inr more ↦ inr more ];
      was_left = inl (here, omega arith);
      fewer = omega arith;
    })

spends_later : (a : ℕ) (u : ActorId × ℕ) (us : List (ActorId × ℕ)) (o : Option (List (ActorId × ℕ))) (vs : List (ActorId × ℕ)) → ((ws : List (ActorId × ℕ)) → o ≡ Some ws → Spends a us ws) → before u o ≡ Some vs → Spends a (u ∷ us) vs
spends_later a u us None vs h e = absurd cc
spends_later a u us (Some ws) vs h e =
    let same : u ∷ ws ≡ vs = cc in
    let s = h ws refl in
    let P : List (ActorId × ℕ) → Type 0 = λ zs. Spends a (u ∷ us) zs in
    subst P same (record {
      left = λ b k. elim k [ inl x ↦ inl x | inr more ↦ inr (s.left b more) ];
      was_left = inr s.was_left;
      fewer = omega (arith, s.fewer);
    })

spends_by : (a : ℕ) (u : ActorId × ℕ) (us vs : List (ActorId × ℕ)) (t : Bool) → (u.0.0 == a) ≡ t → ((ws : List (ActorId × ℕ)) → used a us ≡ Some ws → Spends a us ws)
    → (let o : Option (List (ActorId × ℕ)) = (if t then one_less u.0 u.1 us else before u (used a us)) in o ≡ Some vs) → Spends a (u ∷ us) vs
spends_by a u us vs true here h e = let same : u.0.0 ≡ a = grind (arith, nat_tests) in spends_less a u.0 u.1 us vs same e
spends_by a u us vs false here h e = spends_later a u us (used a us) vs h e

spends : (a : ℕ) (us vs : List (ActorId × ℕ)) → used a us ≡ Some vs → Spends a us vs
spends a [] vs e = absurd cc
spends a (u ∷ us) vs e = spends_by a u us vs (u.0.0 == a) refl (spends a us) e

record Declares (a : ℕ) (r q : Progress) : Type 0 where
  calls : q.calls ≡ r.calls
  actors : q.actors ≡ r.actors
  left : (b : ℕ) → HasLeft q.left b → HasLeft r.left b
  was_left : (us : List (ActorId × ℕ)) → r.left ≡ Some us → HasLeft r.left a
  still : (us : List (ActorId × ℕ)) → r.left ≡ Some us → (vs : List (ActorId × ℕ)) × (q.left ≡ Some vs)
  statements : q.statements ≡ r.statements
  undeclared : r.left ≡ None → q.left ≡ None
  spent : (us vs : List (ActorId × ℕ)) → r.left ≡ Some us → q.left ≡ Some vs → calls_of us ≡ calls_of vs + 1

left_by : (a : ℕ) (r q : Progress) (us : List (ActorId × ℕ)) (o : Option (List (ActorId × ℕ))) → r.left ≡ Some us → used a us ≡ o → with_left r o ≡ Ok q → Declares a r q
left_by a r q us None has took e = absurd cc
left_by a r q us (Some vs) has took e =
    let same : record r { left = Some vs } ≡ q = cc in
    let s = spends a us vs took in
    let P : Progress → Type 0 = λ z. Declares a r z in
    let L : Option (List (ActorId × ℕ)) → ℕ → Type 0 = HasLeft in
    subst P same (record {
      calls = refl;
      actors = refl;
      left = λ b h. (let R : Option (List (ActorId × ℕ)) → Type 0 = λ m. HasLeft m b in subst R (sym has) (s.left b h));
      was_left = λ ws e2. (let R : Option (List (ActorId × ℕ)) → Type 0 = λ m. HasLeft m a in subst R (sym has) s.was_left);
      still = λ ws h. (vs, refl);
      statements = refl;
      undeclared = λ h. absurd cc;
      spent = λ ws zs h k. (let before_is : ws ≡ us = cc in let after_is : zs ≡ vs = cc in omega (arith, s.fewer, ap calls_of before_is, ap calls_of after_is));
    })

declares_by : (a : ℕ) (r q : Progress) (o : Option (List (ActorId × ℕ))) → r.left ≡ o → by_declaration a r o ≡ Ok q → Declares a r q
declares_by a r q None has e =
    let same : r ≡ q = cc in
    let P : Progress → Type 0 = λ z. Declares a r z in
    subst P same (record { calls = refl; actors = refl; left = λ b h. h; was_left = λ us h. absurd cc; still = λ us h. (us, h); statements = refl; undeclared = λ h. h; spent = λ us vs h k. absurd cc })
declares_by a r q (Some us) has e = left_by a r q us (used a us) has refl e

-- ---- together

declared_admits : (a : ℕ) (r x y q : Progress) → Counts r x → Joins a x y → Declares a y q → Admits a r q
declared_admits a r x y q c j d =
    let A : List ℕ → Type 0 = λ bs. Contains bs a in
    let L : (b : ℕ) → Option (List (ActorId × ℕ)) → Type 0 = λ b m. HasLeft m b in
    record {
      calls = (d.calls ∙ j.calls ∙ c.calls.0, omega (arith, d.calls, j.calls, c.calls.1));
      few = λ h. omega (arith, ap length d.actors, j.few (omega (arith, h, ap length c.actors)));
      visited = subst A (sym d.actors) j.visited;
      kept = λ b h. (let B : List ℕ → Type 0 = λ bs. Contains bs b in subst B (sym d.actors) (j.kept b (subst B (sym c.actors) h)));
      left = λ b h. subst (L b) (j.left ∙ c.left) (d.left b h);
      was_left = λ us h. subst (L a) (j.left ∙ c.left) (d.was_left us (j.left ∙ c.left ∙ h));
      still = λ us h. d.still us (j.left ∙ c.left ∙ h);
      statements = d.statements ∙ j.statements ∙ c.statements;
      undeclared = λ h. d.undeclared (j.left ∙ c.left ∙ h);
      spent = λ us vs h k. d.spent us vs (j.left ∙ c.left ∙ h) k;
    }

by_third : (a : ℕ) (r x q : Progress) (o : Result Progress ℕ) → with_actor a x ≡ o → Counts r x → (o >>= λ y. declared a y) ≡ Ok q → Admits a r q
by_third a r x q (Ok y) was c e =
    declared_admits a r x y q c (joins_by a x y (list_any (λ d. d == a) x.actors) (nat_lt (length x.actors) 16) refl refl was) (declares_by a y q y.left refl e)
by_third a r x q (Err code) was c e = absurd cc

by_second : (a : ℕ) (r q : Progress) (o : Result Progress ℕ) → one_call r ≡ o → (o >>= λ x. with_actor a x >>= λ y. declared a y) ≡ Ok q → Admits a r q
by_second a r q (Ok x) was e = by_third a r x q (with_actor a x) refl (counts_by r x (nat_lt r.calls 64) refl was) e
by_second a r q (Err code) was e = absurd cc

pub admits : (a : ℕ) (r q : Progress) → admitted a r ≡ Ok q → Admits a r q
admits a r q e = by_second a r q (one_call r) refl e
