-- Which words are a form, and which word is the wrong one, behind `gen` and `bench`.
use Rattle.std.proofs.Common.{◌≡◌, ℕ, ◌<◌, ◌≤◌, ◌^◌, List, [], ◌∷◌, length, refl, sym, subst, inl, inr, arith}
use Rattle.std.specs.Prelude.{codes}
use Rattle.std.specs.Fmt.{decimal}
use Rattle.command_words.proofs.Names.{heads, tails, run_gen, recover_gen, run_bench, recover_bench, gen_bench, gen_migrate, bench_migrate, gen_audit, bench_audit, gen_compact, bench_compact, gen_follow, bench_follow}
use Rattle.command_words.specs.Counts.{TakesCountAndSeed}
use Rattle.command_words.specs.Words.{with_workers, AreLastWorkers, IsForm, BeginsForm, IsUsageFault}

-- ---- what is behind `gen` and `bench`

behind_gen : (ws : List (List ℕ)) → IsForm (codes "gen" ∷ ws) → (count s : ℕ) × (ws ≡ decimal count ∷ decimal s ∷ []) × (count ≤ 20000) × (s < 2 ^ 64)
behind_gen ws (inl (n, s, run)) = absurd (run_gen (sym (heads _ _ ws _ run.1)))
behind_gen ws (inr (inl e)) = absurd (recover_gen (sym (heads _ _ ws _ e)))
behind_gen ws (inr (inr (inl (count, s, gen)))) = (count, s, tails _ _ ws _ gen.0, gen.1, gen.2)
behind_gen ws (inr (inr (inr (inl (count, s, n, bench))))) = absurd (gen_bench (heads _ _ ws _ bench.1))
behind_gen ws (inr (inr (inr (inr (inl e))))) = absurd (gen_migrate (heads _ _ ws _ e))
behind_gen ws (inr (inr (inr (inr (inr (inl e)))))) = absurd (gen_audit (heads _ _ ws _ e))
behind_gen ws (inr (inr (inr (inr (inr (inr (inl e))))))) = absurd (gen_compact (heads _ _ ws _ e))
behind_gen ws (inr (inr (inr (inr (inr (inr (inr (n, follow)))))))) = absurd (gen_follow (heads _ _ ws _ follow.0))

abbrev AreBenched : List (List ℕ) → Type 0
AreBenched ws = (count s n : ℕ) × (last : List (List ℕ)) × (ws ≡ decimal count ∷ decimal s ∷ last) × AreLastWorkers last n × (count ≤ 20000) × (s < 2 ^ 64)

behind_bench : (ws : List (List ℕ)) → IsForm (codes "bench" ∷ ws) → AreBenched ws
behind_bench ws (inl (n, s, run)) = absurd (run_bench (sym (heads _ _ ws _ run.1)))
behind_bench ws (inr (inl e)) = absurd (recover_bench (sym (heads _ _ ws _ e)))
behind_bench ws (inr (inr (inl (count, s, gen)))) = absurd (gen_bench (sym (heads _ _ ws _ gen.0)))
behind_bench ws (inr (inr (inr (inl (count, s, n, bench))))) = (count, s, n, bench.0, tails _ _ ws _ bench.1, bench.2, bench.3, bench.4)
behind_bench ws (inr (inr (inr (inr (inl e))))) = absurd (bench_migrate (heads _ _ ws _ e))
behind_bench ws (inr (inr (inr (inr (inr (inl e)))))) = absurd (bench_audit (heads _ _ ws _ e))
behind_bench ws (inr (inr (inr (inr (inr (inr (inl e))))))) = absurd (bench_compact (heads _ _ ws _ e))
behind_bench ws (inr (inr (inr (inr (inr (inr (inr (n, follow)))))))) = absurd (bench_follow (heads _ _ ws _ follow.0))

-- a count and a seed, and more
abbrev AreCounted : List (List ℕ) → Type 0
AreCounted ws = (count s : ℕ) × (last : List (List ℕ)) × (ws ≡ decimal count ∷ decimal s ∷ last) × (count ≤ 20000) × (s < 2 ^ 64)

behind_name : (name : List ℕ) (ws : List (List ℕ)) → TakesCountAndSeed name → IsForm (name ∷ ws) → AreCounted ws
behind_name name ws (inl is) h = let x = behind_gen ws (subst (λ (w : List ℕ). IsForm (w ∷ ws)) is h) in (x.0, x.1, [], x.2, x.3, x.4)
behind_name name ws (inr is) h = let x = behind_bench ws (subst (λ (w : List ℕ). IsForm (w ∷ ws)) is h) in (x.0, x.1, x.3, x.4, x.6, x.7)

-- the whole form
counted_form : (name : List ℕ) (count s : ℕ) → TakesCountAndSeed name → count ≤ 20000 → s < 2 ^ 64 → IsForm (name ∷ decimal count ∷ decimal s ∷ [])
counted_form name count s (inl is) few fits =
    subst (λ (w : List ℕ). IsForm (w ∷ decimal count ∷ decimal s ∷ [])) (sym is) (inr (inr (inl (count, s, (refl, few, fits)))))
counted_form name count s (inr is) few fits =
    subst (λ (w : List ℕ). IsForm (w ∷ decimal count ∷ decimal s ∷ [])) (sym is) (inr (inr (inr (inl (count, s, 0, ([], refl, inl (refl, refl), few, fits))))))

pub bench_form : (count s n : ℕ) → count ≤ 20000 → s < 2 ^ 64 → n ≤ 8 → IsForm (codes "bench" ∷ decimal count ∷ decimal s ∷ codes "--workers" ∷ decimal n ∷ [])
bench_form count s n few fits least = inr (inr (inr (inl (count, s, n, (with_workers n, refl, inr (refl, least), few, fits)))))

name_begins : (name : List ℕ) → TakesCountAndSeed name → BeginsForm (name ∷ [])
name_begins name takes = (decimal 0 ∷ decimal 0 ∷ [], counted_form name 0 0 takes (omega arith) (omega arith))

count_begins : (name : List ℕ) (count : ℕ) → TakesCountAndSeed name → count ≤ 20000 → BeginsForm (name ∷ decimal count ∷ [])
count_begins name count takes few = (decimal 0 ∷ [], counted_form name count 0 takes few (omega arith))

-- ---- the wrong word of the count and the seed

pub count_lacks : (name : List ℕ) → TakesCountAndSeed name → IsUsageFault (name ∷ []) 1
count_lacks name takes = record {
  no_form = λ h. let x = behind_name name [] takes h in let f : [] ≡ decimal x.0 ∷ decimal x.1 ∷ x.2 = x.3 in cc;
  wrong = inl (refl, name_begins name takes);
}

pub count_wrong : (name w : List ℕ) (ws : List (List ℕ)) → TakesCountAndSeed name → ((n : ℕ) → n ≤ 20000 → w ≡ decimal n → ⊥) → IsUsageFault (name ∷ w ∷ ws) 1
count_wrong name w ws takes none = record {
  no_form = not_count ws;
  wrong = inr (omega arith, name_begins name takes, λ b. not_count b.0 b.1);
} where
  not_count : (vs : List (List ℕ)) → IsForm (name ∷ w ∷ vs) → ⊥
  not_count vs h = let x = behind_name name (w ∷ vs) takes h in none x.0 x.4 (heads w _ vs _ x.3)

pub last_lacks : (name : List ℕ) (count : ℕ) → TakesCountAndSeed name → count ≤ 20000 → IsUsageFault (name ∷ decimal count ∷ []) 2
last_lacks name count takes few = record {
  no_form = λ h. let x = behind_name name (decimal count ∷ []) takes h in let f : decimal count ∷ [] ≡ decimal x.0 ∷ decimal x.1 ∷ x.2 = x.3 in cc;
  wrong = inl (refl, count_begins name count takes few);
}

pub last_wrong : (name : List ℕ) (count : ℕ) (w : List ℕ) (ws : List (List ℕ)) → TakesCountAndSeed name → count ≤ 20000 → ((n : ℕ) → n < 2 ^ 64 → w ≡ decimal n → ⊥)
    → IsUsageFault (name ∷ decimal count ∷ w ∷ ws) 2
last_wrong name count w ws takes few none = record {
  no_form = not_last ws;
  wrong = inr (omega arith, count_begins name count takes few, λ b. not_last b.0 b.1);
} where
  not_last : (vs : List (List ℕ)) → IsForm (name ∷ decimal count ∷ w ∷ vs) → ⊥
  not_last vs h =
      let x = behind_name name (decimal count ∷ w ∷ vs) takes h in
      none x.1 x.5 (heads w _ vs _ (tails _ _ (w ∷ vs) _ x.3))

-- ---- the wrong word behind them

pub gen_too_many : (count s : ℕ) (ws : List (List ℕ)) → count ≤ 20000 → s < 2 ^ 64 → 0 < length ws → IsUsageFault (codes "gen" ∷ decimal count ∷ decimal s ∷ ws) 3
gen_too_many count s [] few fits more = absurd (omega (arith, more))
gen_too_many count s (w ∷ ws) few fits more = record {
  no_form = not_more ws;
  wrong = inr (omega arith, ([], counted_form (codes "gen") count s (inl refl) few fits), λ b. not_more b.0 b.1);
} where
  not_more : (vs : List (List ℕ)) → IsForm (codes "gen" ∷ decimal count ∷ decimal s ∷ w ∷ vs) → ⊥
  not_more vs h =
      let x = behind_gen (decimal count ∷ decimal s ∷ w ∷ vs) h in
      let f : w ∷ vs ≡ [] = tails _ _ (w ∷ vs) _ (tails _ _ (decimal s ∷ w ∷ vs) _ x.2) in cc

-- what is behind the numbers of `bench`
last_of : (count s : ℕ) (ws : List (List ℕ)) → IsForm (codes "bench" ∷ decimal count ∷ decimal s ∷ ws) → (n : ℕ) × AreLastWorkers ws n
last_of count s ws h =
    let x = behind_bench (decimal count ∷ decimal s ∷ ws) h in
    (x.2, subst (λ (vs : List (List ℕ)). AreLastWorkers vs x.2) (sym (tails _ _ ws _ (tails _ _ (decimal s ∷ ws) _ x.4))) x.5)

pub bench_option_wrong : (count s : ℕ) (w : List ℕ) (ws : List (List ℕ)) → count ≤ 20000 → s < 2 ^ 64 → (w ≡ codes "--workers" → ⊥)
    → IsUsageFault (codes "bench" ∷ decimal count ∷ decimal s ∷ w ∷ ws) 3
bench_option_wrong count s w ws few fits other = record {
  no_form = not_option ws;
  wrong = inr (omega arith, ([], counted_form (codes "bench") count s (inr refl) few fits), λ b. not_option b.0 b.1);
} where
  not_option : (vs : List (List ℕ)) → IsForm (codes "bench" ∷ decimal count ∷ decimal s ∷ w ∷ vs) → ⊥
  not_option vs h = elim (last_of count s (w ∷ vs) h).1 [ inl x ↦ let f : w ∷ vs ≡ [] = x.0 in cc | inr x ↦ other (heads w _ vs _ x.0) ]

bench_begins : (count s : ℕ) → count ≤ 20000 → s < 2 ^ 64 → BeginsForm (codes "bench" ∷ decimal count ∷ decimal s ∷ codes "--workers" ∷ [])
bench_begins count s few fits = (decimal 0 ∷ [], bench_form count s 0 few fits (omega arith))

pub bench_lacks : (count s : ℕ) → count ≤ 20000 → s < 2 ^ 64 → IsUsageFault (codes "bench" ∷ decimal count ∷ decimal s ∷ codes "--workers" ∷ []) 4
bench_lacks count s few fits = record { no_form = not_last; wrong = inl (refl, bench_begins count s few fits) }
  where
    not_last : IsForm (codes "bench" ∷ decimal count ∷ decimal s ∷ codes "--workers" ∷ []) → ⊥
    not_last h = let x = last_of count s (codes "--workers" ∷ []) h in elim x.1 [
      | inl y ↦ let f : codes "--workers" ∷ [] ≡ [] = y.0 in cc
      | inr y ↦ let f : codes "--workers" ∷ [] ≡ codes "--workers" ∷ decimal x.0 ∷ [] = y.0 in cc
    ]

pub bench_wrong : (count s : ℕ) (w : List ℕ) (ws : List (List ℕ)) → count ≤ 20000 → s < 2 ^ 64 → ((n : ℕ) → n ≤ 8 → w ≡ decimal n → ⊥)
    → IsUsageFault (codes "bench" ∷ decimal count ∷ decimal s ∷ codes "--workers" ∷ w ∷ ws) 4
bench_wrong count s w ws few fits none = record {
  no_form = not_number ws;
  wrong = inr (omega arith, bench_begins count s few fits, λ b. not_number b.0 b.1);
} where
  not_number : (vs : List (List ℕ)) → IsForm (codes "bench" ∷ decimal count ∷ decimal s ∷ codes "--workers" ∷ w ∷ vs) → ⊥
  not_number vs h = let x = last_of count s (codes "--workers" ∷ w ∷ vs) h in elim x.1 [
    | inl y ↦ let f : codes "--workers" ∷ w ∷ vs ≡ [] = y.0 in cc
    | inr y ↦ none x.0 y.1 (heads w _ vs _ (tails _ _ (w ∷ vs) _ y.0))
  ]

pub bench_too_many : (count s n : ℕ) (ws : List (List ℕ)) → count ≤ 20000 → s < 2 ^ 64 → n ≤ 8 → 0 < length ws
    → IsUsageFault (codes "bench" ∷ decimal count ∷ decimal s ∷ codes "--workers" ∷ decimal n ∷ ws) 5
bench_too_many count s n [] few fits least more = absurd (omega (arith, more))
bench_too_many count s n (w ∷ ws) few fits least more = record {
  no_form = not_more ws;
  wrong = inr (omega arith, ([], bench_form count s n few fits least), λ b. not_more b.0 b.1);
} where
  not_more : (vs : List (List ℕ)) → IsForm (codes "bench" ∷ decimal count ∷ decimal s ∷ codes "--workers" ∷ decimal n ∷ w ∷ vs) → ⊥
  not_more vs h = let x = last_of count s (codes "--workers" ∷ decimal n ∷ w ∷ vs) h in elim x.1 [
    | inl y ↦ let f : codes "--workers" ∷ decimal n ∷ w ∷ vs ≡ [] = y.0 in cc
    | inr y ↦ let f : w ∷ vs ≡ [] = tails _ _ (w ∷ vs) _ (tails _ _ (decimal n ∷ w ∷ vs) _ y.0) in cc
  ]
