-- The names of the commands differ, and those of the options.
use Rattle.std.proofs.Common.{◌≡◌, ℕ, List, [], ◌∷◌, get_or, drop, ap, arith}
use Rattle.std.specs.Prelude.{codes}

-- ---- the first word, and the others

pub heads : (x y : List ℕ) (xs ys : List (List ℕ)) → x ∷ xs ≡ y ∷ ys → x ≡ y
heads x y xs ys e = ap (λ (l : List (List ℕ)). get_or l 0 []) e

pub tails : (x y : List ℕ) (xs ys : List (List ℕ)) → x ∷ xs ≡ y ∷ ys → xs ≡ ys
tails x y xs ys e = ap (λ (l : List (List ℕ)). drop 1 l) e

-- ---- each pair by a letter

letter : (n : ℕ) (x y : List ℕ) → x ≡ y → get_or x n 0 ≡ get_or y n 0
letter n x y e = ap (λ (l : List ℕ). get_or l n 0) e

pub run_recover : codes "run" ≡ codes "recover" → ⊥
run_recover e = let h : 117 ≡ 101 = letter 1 (codes "run") (codes "recover") e in omega (arith, h)

pub run_gen : codes "run" ≡ codes "gen" → ⊥
run_gen e = let h : 114 ≡ 103 = letter 0 (codes "run") (codes "gen") e in omega (arith, h)

pub recover_gen : codes "recover" ≡ codes "gen" → ⊥
recover_gen e = let h : 114 ≡ 103 = letter 0 (codes "recover") (codes "gen") e in omega (arith, h)

pub run_bench : codes "run" ≡ codes "bench" → ⊥
run_bench e = let h : 114 ≡ 98 = letter 0 (codes "run") (codes "bench") e in omega (arith, h)

pub recover_bench : codes "recover" ≡ codes "bench" → ⊥
recover_bench e = let h : 114 ≡ 98 = letter 0 (codes "recover") (codes "bench") e in omega (arith, h)

pub gen_bench : codes "gen" ≡ codes "bench" → ⊥
gen_bench e = let h : 103 ≡ 98 = letter 0 (codes "gen") (codes "bench") e in omega (arith, h)

pub run_migrate : codes "run" ≡ codes "migrate" → ⊥
run_migrate e = let h : 114 ≡ 109 = letter 0 (codes "run") (codes "migrate") e in omega (arith, h)

pub recover_migrate : codes "recover" ≡ codes "migrate" → ⊥
recover_migrate e = let h : 114 ≡ 109 = letter 0 (codes "recover") (codes "migrate") e in omega (arith, h)

pub gen_migrate : codes "gen" ≡ codes "migrate" → ⊥
gen_migrate e = let h : 103 ≡ 109 = letter 0 (codes "gen") (codes "migrate") e in omega (arith, h)

pub bench_migrate : codes "bench" ≡ codes "migrate" → ⊥
bench_migrate e = let h : 98 ≡ 109 = letter 0 (codes "bench") (codes "migrate") e in omega (arith, h)

pub run_audit : codes "run" ≡ codes "audit" → ⊥
run_audit e = let h : 114 ≡ 97 = letter 0 (codes "run") (codes "audit") e in omega (arith, h)

pub recover_audit : codes "recover" ≡ codes "audit" → ⊥
recover_audit e = let h : 114 ≡ 97 = letter 0 (codes "recover") (codes "audit") e in omega (arith, h)

pub gen_audit : codes "gen" ≡ codes "audit" → ⊥
gen_audit e = let h : 103 ≡ 97 = letter 0 (codes "gen") (codes "audit") e in omega (arith, h)

pub bench_audit : codes "bench" ≡ codes "audit" → ⊥
bench_audit e = let h : 98 ≡ 97 = letter 0 (codes "bench") (codes "audit") e in omega (arith, h)

pub migrate_audit : codes "migrate" ≡ codes "audit" → ⊥
migrate_audit e = let h : 109 ≡ 97 = letter 0 (codes "migrate") (codes "audit") e in omega (arith, h)

pub run_compact : codes "run" ≡ codes "compact" → ⊥
run_compact e = let h : 114 ≡ 99 = letter 0 (codes "run") (codes "compact") e in omega (arith, h)

pub recover_compact : codes "recover" ≡ codes "compact" → ⊥
recover_compact e = let h : 114 ≡ 99 = letter 0 (codes "recover") (codes "compact") e in omega (arith, h)

pub gen_compact : codes "gen" ≡ codes "compact" → ⊥
gen_compact e = let h : 103 ≡ 99 = letter 0 (codes "gen") (codes "compact") e in omega (arith, h)

pub bench_compact : codes "bench" ≡ codes "compact" → ⊥
bench_compact e = let h : 98 ≡ 99 = letter 0 (codes "bench") (codes "compact") e in omega (arith, h)

pub migrate_compact : codes "migrate" ≡ codes "compact" → ⊥
migrate_compact e = let h : 109 ≡ 99 = letter 0 (codes "migrate") (codes "compact") e in omega (arith, h)

pub audit_compact : codes "audit" ≡ codes "compact" → ⊥
audit_compact e = let h : 97 ≡ 99 = letter 0 (codes "audit") (codes "compact") e in omega (arith, h)

pub run_follow : codes "run" ≡ codes "follow" → ⊥
run_follow e = let h : 114 ≡ 102 = letter 0 (codes "run") (codes "follow") e in omega (arith, h)

pub recover_follow : codes "recover" ≡ codes "follow" → ⊥
recover_follow e = let h : 114 ≡ 102 = letter 0 (codes "recover") (codes "follow") e in omega (arith, h)

pub gen_follow : codes "gen" ≡ codes "follow" → ⊥
gen_follow e = let h : 103 ≡ 102 = letter 0 (codes "gen") (codes "follow") e in omega (arith, h)

pub bench_follow : codes "bench" ≡ codes "follow" → ⊥
bench_follow e = let h : 98 ≡ 102 = letter 0 (codes "bench") (codes "follow") e in omega (arith, h)

pub migrate_follow : codes "migrate" ≡ codes "follow" → ⊥
migrate_follow e = let h : 109 ≡ 102 = letter 0 (codes "migrate") (codes "follow") e in omega (arith, h)

pub audit_follow : codes "audit" ≡ codes "follow" → ⊥
audit_follow e = let h : 97 ≡ 102 = letter 0 (codes "audit") (codes "follow") e in omega (arith, h)

pub compact_follow : codes "compact" ≡ codes "follow" → ⊥
compact_follow e = let h : 99 ≡ 102 = letter 0 (codes "compact") (codes "follow") e in omega (arith, h)

pub workers_seed : codes "--workers" ≡ codes "--seed" → ⊥
workers_seed e = let h : 119 ≡ 115 = letter 2 (codes "--workers") (codes "--seed") e in omega (arith, h)
