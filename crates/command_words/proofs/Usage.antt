-- Which words are a form, and which word is the wrong one: of none, of the first, and behind `run`.
use Rattle.std.proofs.Common.{◌≡◌, ℕ, ◌<◌, ◌≤◌, ◌^◌, ◌⊎◌, List, [], ◌∷◌, length, refl, sym, subst, inl, inr, arith}
use Rattle.std.specs.Prelude.{codes}
use Rattle.std.specs.Fmt.{decimal}
use Rattle.std.proofs.lemmas.Fmt.{decimal_injective}
use Rattle.command_words.proofs.Names.{heads, tails, run_recover, run_gen, run_bench, run_migrate, run_audit, run_compact, run_follow, workers_seed}
use Rattle.command_words.specs.Counts.{TakesCountAndSeed}
use Rattle.command_words.specs.Words.{Said, nothing, workers, seed, workers_and_seed, seed_and_workers, options, with_workers, with_seed, MaySay, IsForm, BeginsForm, IsUsageFault}

-- ---- the first word

-- the names of the commands
abbrev IsName : List ℕ → Type 0
IsName w = (w ≡ codes "run") ⊎ ((w ≡ codes "recover") ⊎ (TakesCountAndSeed w ⊎ ((w ≡ codes "migrate") ⊎ ((w ≡ codes "audit") ⊎ ((w ≡ codes "compact") ⊎ (w ≡ codes "follow"))))))

first_of : (w : List ℕ) (ws : List (List ℕ)) → IsForm (w ∷ ws) → IsName w
first_of w ws (inl (n, s, run)) = inl (heads w (codes "run") ws _ run.1)
first_of w ws (inr (inl e)) = inr (inl (heads w (codes "recover") ws _ e))
first_of w ws (inr (inr (inl (count, s, gen)))) = inr (inr (inl (inl (heads w (codes "gen") ws _ gen.0))))
first_of w ws (inr (inr (inr (inl (count, s, n, bench))))) = inr (inr (inl (inr (heads w (codes "bench") ws _ bench.1))))
first_of w ws (inr (inr (inr (inr (inl e))))) = inr (inr (inr (inl (heads w (codes "migrate") ws _ e))))
first_of w ws (inr (inr (inr (inr (inr (inl e)))))) = inr (inr (inr (inr (inl (heads w (codes "audit") ws _ e)))))
first_of w ws (inr (inr (inr (inr (inr (inr (inl e))))))) = inr (inr (inr (inr (inr (inl (heads w (codes "compact") ws _ e))))))
first_of w ws (inr (inr (inr (inr (inr (inr (inr (n, follow)))))))) = inr (inr (inr (inr (inr (inr (heads w (codes "follow") ws _ follow.0))))))

run_form : IsForm (codes "run" ∷ [])
run_form = inl (0, 0, (nothing, refl, (refl, refl), omega arith, omega arith))

pub no_words : IsUsageFault [] 0
no_words = record {
  no_form = no_form_of_none;
  wrong = inl (refl, (codes "run" ∷ [], run_form));
} where
  no_form_of_none : IsForm [] → ⊥
  no_form_of_none (inl (n, s, run)) = let f : [] ≡ codes "run" ∷ options run.0 n s = run.1 in cc
  no_form_of_none (inr (inl e)) = cc
  no_form_of_none (inr (inr (inl (count, s, gen)))) = let f : [] ≡ codes "gen" ∷ decimal count ∷ decimal s ∷ [] = gen.0 in cc
  no_form_of_none (inr (inr (inr (inl (count, s, n, bench))))) = let f : [] ≡ codes "bench" ∷ decimal count ∷ decimal s ∷ bench.0 = bench.1 in cc
  no_form_of_none (inr (inr (inr (inr (inl e))))) = cc
  no_form_of_none (inr (inr (inr (inr (inr (inl e)))))) = cc
  no_form_of_none (inr (inr (inr (inr (inr (inr (inl e))))))) = cc
  no_form_of_none (inr (inr (inr (inr (inr (inr (inr (n, follow)))))))) = let f : [] ≡ codes "follow" ∷ decimal n ∷ [] = follow.0 in cc

pub first_wrong : (w : List ℕ) (ws : List (List ℕ)) → (w ≡ codes "run" → ⊥) → (w ≡ codes "recover" → ⊥) → (w ≡ codes "migrate" → ⊥) → (w ≡ codes "compact" → ⊥) → (w ≡ codes "follow" → ⊥) → (w ≡ codes "audit" → ⊥) → (w ≡ codes "gen" → ⊥)
    → (w ≡ codes "bench" → ⊥) → IsUsageFault (w ∷ ws) 0
first_wrong w ws run recover migrate compact follow audit gen bench = record {
  no_form = not_first ws;
  wrong = inr (omega arith, (codes "run" ∷ [], run_form), λ b. not_first b.0 b.1);
} where
  not_name : IsName w → ⊥
  not_name (inl e) = run e
  not_name (inr (inl e)) = recover e
  not_name (inr (inr (inl (inl e)))) = gen e
  not_name (inr (inr (inl (inr e)))) = bench e
  not_name (inr (inr (inr (inl e)))) = migrate e
  not_name (inr (inr (inr (inr (inl e))))) = audit e
  not_name (inr (inr (inr (inr (inr (inl e)))))) = compact e
  not_name (inr (inr (inr (inr (inr (inr e)))))) = follow e

  not_first : (vs : List (List ℕ)) → IsForm (w ∷ vs) → ⊥
  not_first vs h = not_name (first_of w vs h)

-- ---- what is behind `run`

-- the options, and what they say
abbrev AreOptions : List (List ℕ) → ℕ → ℕ → Type 0
AreOptions ws n s = (said : Said) × (ws ≡ options said n s) × MaySay said n s × (n ≤ 8) × (s < 2 ^ 64)

behind_run : (ws : List (List ℕ)) → IsForm (codes "run" ∷ ws) → (n s : ℕ) × AreOptions ws n s
behind_run ws (inl (n, s, run)) = (n, s, (run.0, tails _ _ ws _ run.1, run.2, run.3, run.4))
behind_run ws (inr (inl e)) = absurd (run_recover (heads _ _ ws _ e))
behind_run ws (inr (inr (inl (count, s, gen)))) = absurd (run_gen (heads _ _ ws _ gen.0))
behind_run ws (inr (inr (inr (inl (count, s, n, bench))))) = absurd (run_bench (heads _ _ ws _ bench.1))
behind_run ws (inr (inr (inr (inr (inl e))))) = absurd (run_migrate (heads _ _ ws _ e))
behind_run ws (inr (inr (inr (inr (inr (inl e)))))) = absurd (run_audit (heads _ _ ws _ e))
behind_run ws (inr (inr (inr (inr (inr (inr (inl e))))))) = absurd (run_compact (heads _ _ ws _ e))
behind_run ws (inr (inr (inr (inr (inr (inr (inr (n, follow)))))))) = absurd (run_follow (heads _ _ ws _ follow.0))

abbrev IsOption : List ℕ → Type 0
IsOption w = (w ≡ codes "--workers") ⊎ (w ≡ codes "--seed")

option_by : (w : List ℕ) (ws : List (List ℕ)) (n s : ℕ) (said : Said) → w ∷ ws ≡ options said n s → IsOption w
option_by w ws n s nothing e = cc
option_by w ws n s workers e = inl (heads w _ ws _ e)
option_by w ws n s seed e = inr (heads w _ ws _ e)
option_by w ws n s workers_and_seed e = inl (heads w _ ws _ e)
option_by w ws n s seed_and_workers e = inr (heads w _ ws _ e)

option_of : (w : List ℕ) (ws : List (List ℕ)) → IsForm (codes "run" ∷ w ∷ ws) → IsOption w
option_of w ws h = let x = behind_run (w ∷ ws) h in option_by w ws x.0 x.1 x.2.0 x.2.1

pub option_wrong : (w : List ℕ) (ws : List (List ℕ)) → (w ≡ codes "--workers" → ⊥) → (w ≡ codes "--seed" → ⊥) → IsUsageFault (codes "run" ∷ w ∷ ws) 1
option_wrong w ws first second = record {
  no_form = not_option ws;
  wrong = inr (omega arith, ([], run_form), λ b. not_option b.0 b.1);
} where
  not_option : (vs : List (List ℕ)) → IsForm (codes "run" ∷ w ∷ vs) → ⊥
  not_option vs h = elim (option_of w vs h) [ inl e ↦ first e | inr e ↦ second e ]

-- ---- behind `run --workers`

-- a number of workers; or none, and a seed
abbrev AreWorkers : List (List ℕ) → Type 0
AreWorkers ws = ((n : ℕ) × (ws ≡ decimal n ∷ []) × (n ≤ 8)) ⊎ ((s : ℕ) × (ws ≡ decimal 0 ∷ with_seed s) × (s < 2 ^ 64))

workers_by : (ws : List (List ℕ)) (n s : ℕ) (said : Said) → codes "--workers" ∷ ws ≡ options said n s → MaySay said n s → n ≤ 8 → s < 2 ^ 64 → AreWorkers ws
workers_by ws n s nothing e may few fits = cc
workers_by ws n s workers e may few fits = inl (n, tails _ _ ws _ e, few)
workers_by ws n s seed e may few fits = absurd (workers_seed (heads _ _ ws _ e))
workers_by ws n s workers_and_seed e may few fits = inr (s, subst (λ (k : ℕ). ws ≡ decimal k ∷ with_seed s) may (tails _ _ ws _ e), fits)
workers_by ws n s seed_and_workers e may few fits = absurd (workers_seed (heads _ _ ws _ e))

behind_workers : (ws : List (List ℕ)) → IsForm (codes "run" ∷ codes "--workers" ∷ ws) → AreWorkers ws
behind_workers ws h = let x = behind_run (codes "--workers" ∷ ws) h in workers_by ws x.0 x.1 x.2.0 x.2.1 x.2.2 x.2.3 x.2.4

pub workers_form : (n : ℕ) → n ≤ 8 → IsForm (codes "run" ∷ codes "--workers" ∷ decimal n ∷ [])
workers_form n few = inl (n, 0, (workers, refl, refl, few, omega arith))

workers_begin : BeginsForm (codes "run" ∷ codes "--workers" ∷ [])
workers_begin = (decimal 0 ∷ [], workers_form 0 (omega arith))

pub workers_lack : IsUsageFault (codes "run" ∷ codes "--workers" ∷ []) 2
workers_lack = record { no_form = λ h. not_workers (behind_workers [] h); wrong = inl (refl, workers_begin) }
  where
    not_workers : AreWorkers [] → ⊥
    not_workers (inl (n, e, few)) = cc
    not_workers (inr (s, e, fits)) = let f : [] ≡ decimal 0 ∷ codes "--seed" ∷ decimal s ∷ [] = e in cc

pub workers_wrong : (w : List ℕ) (ws : List (List ℕ)) → ((n : ℕ) → n ≤ 8 → w ≡ decimal n → ⊥) → IsUsageFault (codes "run" ∷ codes "--workers" ∷ w ∷ ws) 2
workers_wrong w ws none = record {
  no_form = λ h. not_number ws (behind_workers (w ∷ ws) h);
  wrong = inr (omega arith, workers_begin, λ b. not_number b.0 (behind_workers (w ∷ b.0) b.1));
} where
  not_number : (vs : List (List ℕ)) → AreWorkers (w ∷ vs) → ⊥
  not_number vs (inl (n, e, few)) = none n few (heads w _ vs _ e)
  not_number vs (inr (s, e, fits)) = none 0 (omega arith) (heads w _ vs _ e)

-- workers take no seed
pub none_behind : (n : ℕ) (ws : List (List ℕ)) → 0 < n → n ≤ 8 → 0 < length ws → IsUsageFault (codes "run" ∷ codes "--workers" ∷ decimal n ∷ ws) 3
none_behind n [] some few more = absurd (omega (arith, more))
none_behind n (w ∷ ws) some few more = record {
  no_form = λ h. not_more ws (behind_workers (decimal n ∷ w ∷ ws) h);
  wrong = inr (omega arith, ([], workers_form n few), λ b. not_more b.0 (behind_workers (decimal n ∷ w ∷ b.0) b.1));
} where
  not_more : (vs : List (List ℕ)) → AreWorkers (decimal n ∷ w ∷ vs) → ⊥
  not_more vs (inl (k, e, less)) = let f : w ∷ vs ≡ [] = tails _ _ (w ∷ vs) [] e in cc
  not_more vs (inr (s, e, fits)) =
      let same : n ≡ 0 = decimal_injective n 0 (omega (arith, few)) (omega arith) (heads (decimal n) (decimal 0) (w ∷ vs) (with_seed s) e) in
      omega (arith, same, some)

-- ---- behind `run --workers 0`

-- nothing, or a seed
behind_none : (ws : List (List ℕ)) → IsForm (codes "run" ∷ codes "--workers" ∷ decimal 0 ∷ ws) → (ws ≡ []) ⊎ ((s : ℕ) × (ws ≡ with_seed s) × (s < 2 ^ 64))
behind_none ws h = seed_behind (behind_workers (decimal 0 ∷ ws) h)
  where
    seed_behind : AreWorkers (decimal 0 ∷ ws) → (ws ≡ []) ⊎ ((s : ℕ) × (ws ≡ with_seed s) × (s < 2 ^ 64))
    seed_behind (inl (n, e, few)) = inl (tails _ _ ws _ e)
    seed_behind (inr (s, e, fits)) = inr (s, tails _ _ ws _ e, fits)

pub none_and_seed : (s : ℕ) → s < 2 ^ 64 → IsForm (codes "run" ∷ codes "--workers" ∷ decimal 0 ∷ codes "--seed" ∷ decimal s ∷ [])
none_and_seed s fits = inl (0, s, (workers_and_seed, refl, refl, omega arith, fits))

none_and_seed_begins : BeginsForm (codes "run" ∷ codes "--workers" ∷ decimal 0 ∷ codes "--seed" ∷ [])
none_and_seed_begins = (decimal 0 ∷ [], none_and_seed 0 (omega arith))

pub seed_wanted : (w : List ℕ) (ws : List (List ℕ)) → (w ≡ codes "--seed" → ⊥) → IsUsageFault (codes "run" ∷ codes "--workers" ∷ decimal 0 ∷ w ∷ ws) 3
seed_wanted w ws other = record {
  no_form = not_seed ws;
  wrong = inr (omega arith, ([], workers_form 0 (omega arith)), λ b. not_seed b.0 b.1);
} where
  not_seed : (vs : List (List ℕ)) → IsForm (codes "run" ∷ codes "--workers" ∷ decimal 0 ∷ w ∷ vs) → ⊥
  not_seed vs h = elim (behind_none (w ∷ vs) h) [ inl e ↦ cc | inr x ↦ other (heads w _ vs _ x.1) ]

pub last_seed_lacks : IsUsageFault (codes "run" ∷ codes "--workers" ∷ decimal 0 ∷ codes "--seed" ∷ []) 4
last_seed_lacks = record {
  no_form = λ h. elim (behind_none (codes "--seed" ∷ []) h) [ inl e ↦ cc | inr x ↦ let f : codes "--seed" ∷ [] ≡ codes "--seed" ∷ decimal x.0 ∷ [] = x.1 in cc ];
  wrong = inl (refl, none_and_seed_begins);
}

pub last_seed_wrong : (w : List ℕ) (ws : List (List ℕ)) → ((n : ℕ) → n < 2 ^ 64 → w ≡ decimal n → ⊥) → IsUsageFault (codes "run" ∷ codes "--workers" ∷ decimal 0 ∷ codes "--seed" ∷ w ∷ ws) 4
last_seed_wrong w ws none = record {
  no_form = not_seed ws;
  wrong = inr (omega arith, none_and_seed_begins, λ b. not_seed b.0 b.1);
} where
  not_seed : (vs : List (List ℕ)) → IsForm (codes "run" ∷ codes "--workers" ∷ decimal 0 ∷ codes "--seed" ∷ w ∷ vs) → ⊥
  not_seed vs h = elim (behind_none (codes "--seed" ∷ w ∷ vs) h) [
    | inl e ↦ cc
    | inr x ↦ let f : codes "--seed" ∷ w ∷ vs ≡ codes "--seed" ∷ decimal x.0 ∷ [] = x.1 in none x.0 x.2 cc
  ]

pub too_many_seeds : (s : ℕ) (ws : List (List ℕ)) → s < 2 ^ 64 → 0 < length ws → IsUsageFault (codes "run" ∷ codes "--workers" ∷ decimal 0 ∷ codes "--seed" ∷ decimal s ∷ ws) 5
too_many_seeds s [] fits more = absurd (omega (arith, more))
too_many_seeds s (w ∷ ws) fits more = record {
  no_form = not_more ws;
  wrong = inr (omega arith, ([], none_and_seed s fits), λ b. not_more b.0 b.1);
} where
  not_more : (vs : List (List ℕ)) → IsForm (codes "run" ∷ codes "--workers" ∷ decimal 0 ∷ codes "--seed" ∷ decimal s ∷ w ∷ vs) → ⊥
  not_more vs h = elim (behind_none (codes "--seed" ∷ decimal s ∷ w ∷ vs) h) [
    | inl e ↦ cc
    | inr x ↦ let f : codes "--seed" ∷ decimal s ∷ w ∷ vs ≡ codes "--seed" ∷ decimal x.0 ∷ [] = x.1 in cc
  ]

-- ---- behind `run --seed`

-- a seed, and nothing or that there are no workers
abbrev IsSeed : List (List ℕ) → Type 0
IsSeed ws = (s : ℕ) × (s < 2 ^ 64) × ((ws ≡ decimal s ∷ []) ⊎ (ws ≡ decimal s ∷ with_workers 0))

seed_by : (ws : List (List ℕ)) (n s : ℕ) (said : Said) → codes "--seed" ∷ ws ≡ options said n s → MaySay said n s → s < 2 ^ 64 → IsSeed ws
seed_by ws n s nothing e may fits = cc
seed_by ws n s workers e may fits = absurd (workers_seed (sym (heads _ _ ws _ e)))
seed_by ws n s seed e may fits = (s, fits, inl (tails _ _ ws _ e))
seed_by ws n s workers_and_seed e may fits = absurd (workers_seed (sym (heads _ _ ws _ e)))
seed_by ws n s seed_and_workers e may fits = (s, fits, inr (subst (λ (k : ℕ). ws ≡ decimal s ∷ with_workers k) may (tails _ _ ws _ e)))

behind_seed : (ws : List (List ℕ)) → IsForm (codes "run" ∷ codes "--seed" ∷ ws) → IsSeed ws
behind_seed ws h = let x = behind_run (codes "--seed" ∷ ws) h in seed_by ws x.0 x.1 x.2.0 x.2.1 x.2.2 x.2.4

pub seed_form : (s : ℕ) → s < 2 ^ 64 → IsForm (codes "run" ∷ codes "--seed" ∷ decimal s ∷ [])
seed_form s fits = inl (0, s, (seed, refl, refl, omega arith, fits))

pub seed_and_none : (s : ℕ) → s < 2 ^ 64 → IsForm (codes "run" ∷ codes "--seed" ∷ decimal s ∷ codes "--workers" ∷ decimal 0 ∷ [])
seed_and_none s fits = inl (0, s, (seed_and_workers, refl, refl, omega arith, fits))

seed_begins : BeginsForm (codes "run" ∷ codes "--seed" ∷ [])
seed_begins = (decimal 0 ∷ [], seed_form 0 (omega arith))

seed_and_none_begins : (s : ℕ) → s < 2 ^ 64 → BeginsForm (codes "run" ∷ codes "--seed" ∷ decimal s ∷ codes "--workers" ∷ [])
seed_and_none_begins s fits = (decimal 0 ∷ [], seed_and_none s fits)

pub seed_lacks : IsUsageFault (codes "run" ∷ codes "--seed" ∷ []) 2
seed_lacks = record { no_form = λ h. not_seed (behind_seed [] h); wrong = inl (refl, seed_begins) }
  where
    not_seed : IsSeed [] → ⊥
    not_seed (s, fits, inl e) = cc
    not_seed (s, fits, inr e) = let f : [] ≡ decimal s ∷ codes "--workers" ∷ decimal 0 ∷ [] = e in cc

pub seed_wrong : (w : List ℕ) (ws : List (List ℕ)) → ((n : ℕ) → n < 2 ^ 64 → w ≡ decimal n → ⊥) → IsUsageFault (codes "run" ∷ codes "--seed" ∷ w ∷ ws) 2
seed_wrong w ws none = record {
  no_form = λ h. not_seed ws (behind_seed (w ∷ ws) h);
  wrong = inr (omega arith, seed_begins, λ b. not_seed b.0 (behind_seed (w ∷ b.0) b.1));
} where
  not_seed : (vs : List (List ℕ)) → IsSeed (w ∷ vs) → ⊥
  not_seed vs (s, fits, inl e) = none s fits (heads w _ vs _ e)
  not_seed vs (s, fits, inr e) = none s fits (heads w _ vs _ e)

-- behind the seed's number
behind_number : (s : ℕ) (ws : List (List ℕ)) → IsForm (codes "run" ∷ codes "--seed" ∷ decimal s ∷ ws) → (ws ≡ []) ⊎ (ws ≡ with_workers 0)
behind_number s ws h = workers_behind (behind_seed (decimal s ∷ ws) h)
  where
    workers_behind : IsSeed (decimal s ∷ ws) → (ws ≡ []) ⊎ (ws ≡ with_workers 0)
    workers_behind (k, fits, inl e) = inl (tails _ _ ws _ e)
    workers_behind (k, fits, inr e) = inr (tails _ _ ws _ e)

pub workers_wanted : (s : ℕ) (w : List ℕ) (ws : List (List ℕ)) → s < 2 ^ 64 → (w ≡ codes "--workers" → ⊥) → IsUsageFault (codes "run" ∷ codes "--seed" ∷ decimal s ∷ w ∷ ws) 3
workers_wanted s w ws fits other = record {
  no_form = not_workers ws;
  wrong = inr (omega arith, ([], seed_form s fits), λ b. not_workers b.0 b.1);
} where
  not_workers : (vs : List (List ℕ)) → IsForm (codes "run" ∷ codes "--seed" ∷ decimal s ∷ w ∷ vs) → ⊥
  not_workers vs h = elim (behind_number s (w ∷ vs) h) [ inl e ↦ cc | inr e ↦ other (heads w _ vs _ e) ]

pub last_none_lacks : (s : ℕ) → s < 2 ^ 64 → IsUsageFault (codes "run" ∷ codes "--seed" ∷ decimal s ∷ codes "--workers" ∷ []) 4
last_none_lacks s fits = record {
  no_form = λ h. elim (behind_number s (codes "--workers" ∷ []) h) [ inl e ↦ cc | inr e ↦ let f : codes "--workers" ∷ [] ≡ codes "--workers" ∷ decimal 0 ∷ [] = e in cc ];
  wrong = inl (refl, seed_and_none_begins s fits);
}

pub last_none_wrong : (s : ℕ) (w : List ℕ) (ws : List (List ℕ)) → s < 2 ^ 64 → (w ≡ decimal 0 → ⊥) → IsUsageFault (codes "run" ∷ codes "--seed" ∷ decimal s ∷ codes "--workers" ∷ w ∷ ws) 4
last_none_wrong s w ws fits other = record {
  no_form = not_none ws;
  wrong = inr (omega arith, seed_and_none_begins s fits, λ b. not_none b.0 b.1);
} where
  not_none : (vs : List (List ℕ)) → IsForm (codes "run" ∷ codes "--seed" ∷ decimal s ∷ codes "--workers" ∷ w ∷ vs) → ⊥
  not_none vs h = elim (behind_number s (codes "--workers" ∷ w ∷ vs) h) [
    | inl e ↦ cc
    | inr e ↦ let f : codes "--workers" ∷ w ∷ vs ≡ codes "--workers" ∷ decimal 0 ∷ [] = e in other cc
  ]

pub too_many_workers : (s : ℕ) (ws : List (List ℕ)) → s < 2 ^ 64 → 0 < length ws → IsUsageFault (codes "run" ∷ codes "--seed" ∷ decimal s ∷ codes "--workers" ∷ decimal 0 ∷ ws) 5
too_many_workers s [] fits more = absurd (omega (arith, more))
too_many_workers s (w ∷ ws) fits more = record {
  no_form = not_more ws;
  wrong = inr (omega arith, ([], seed_and_none s fits), λ b. not_more b.0 b.1);
} where
  not_more : (vs : List (List ℕ)) → IsForm (codes "run" ∷ codes "--seed" ∷ decimal s ∷ codes "--workers" ∷ decimal 0 ∷ w ∷ vs) → ⊥
  not_more vs h = elim (behind_number s (codes "--workers" ∷ decimal 0 ∷ w ∷ vs) h) [
    | inl e ↦ cc
    | inr e ↦ let f : codes "--workers" ∷ decimal 0 ∷ w ∷ vs ≡ codes "--workers" ∷ decimal 0 ∷ [] = e in cc
  ]
