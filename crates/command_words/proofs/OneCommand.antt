-- Words ask for one thing at most.
use Rattle.std.proofs.Common.{◌≡◌, ℕ, ◌<◌, ◌≤◌, ◌^◌, List, [], ◌∷◌, length, get_or, refl, sym, ap, ◌∙◌, inl, inr, arith}
use Rattle.std.specs.Prelude.{codes}
use Rattle.std.specs.Fmt.{decimal}
use Rattle.std.proofs.lemmas.Fmt.{decimal_injective}
use Rattle.command_words.proofs.Names.{heads, tails, run_recover, run_gen, recover_gen, run_bench, recover_bench, gen_bench, run_migrate, recover_migrate, gen_migrate, bench_migrate, run_audit, recover_audit, migrate_audit, gen_audit, bench_audit, run_compact, recover_compact, migrate_compact, audit_compact, gen_compact, bench_compact, run_follow, recover_follow, migrate_follow, compact_follow, audit_follow, gen_follow, bench_follow, workers_seed}
use Rattle.command_words.specs.declared.commands.Command.{Command}
use Rattle.command_words.specs.declared.commands.Command.TheVariants.{Run, Recover, Migrate, Compact, Follow, Audit, Gen, Bench}
use Rattle.command_words.specs.Commands.{IsCommand}
use Rattle.command_words.specs.Words.{Said, nothing, workers, seed, workers_and_seed, seed_and_workers, options, with_workers, MaySay, AreLastWorkers, IsRunCommand, IsFollow, IsGen, IsBench}

-- the word at a place
word : (k : ℕ) (xs ys : List (List ℕ)) → xs ≡ ys → get_or xs k [] ≡ get_or ys k []
word k xs ys e = ap (λ (l : List (List ℕ)). get_or l k []) e

sizes : (xs ys : List (List ℕ)) → xs ≡ ys → length xs ≡ length ys
sizes xs ys e = ap (λ (l : List (List ℕ)). length l) e

-- the first word of a list is one word
same_first : (words : List (List ℕ)) (x y : List ℕ) (xs ys : List (List ℕ)) → words ≡ x ∷ xs → words ≡ y ∷ ys → x ≡ y
same_first words x y xs ys a b = heads x y xs ys (sym a ∙ b)

-- ---- `run`

-- the options of two runs are other ones, or say the same
module _ (n s m t : ℕ) (few : n ≤ 8) (fits : s < 2 ^ 64) (less : m ≤ 8) (below : t < 2 ^ 64) where
  same_workers : decimal n ≡ decimal m → n ≡ m
  same_workers e = decimal_injective n m (omega (arith, few)) (omega (arith, less)) e

  same_seed : decimal s ≡ decimal t → s ≡ t
  same_seed e = decimal_injective s t (omega (arith, fits)) (omega (arith, below)) e

  same_options : (a b : Said) → options a n s ≡ options b m t → MaySay a n s → MaySay b m t → (n ≡ m) × (s ≡ t)
  same_options nothing nothing e x y = (x.0 ∙ sym y.0, x.1 ∙ sym y.1)
  same_options nothing workers e x y = let h : 0 ≡ 2 = sizes _ _ e in omega (arith, h)
  same_options nothing seed e x y = let h : 0 ≡ 2 = sizes _ _ e in omega (arith, h)
  same_options nothing workers_and_seed e x y = let h : 0 ≡ 4 = sizes _ _ e in omega (arith, h)
  same_options nothing seed_and_workers e x y = let h : 0 ≡ 4 = sizes _ _ e in omega (arith, h)
  same_options workers nothing e x y = let h : 2 ≡ 0 = sizes _ _ e in omega (arith, h)
  same_options workers workers e x y = (same_workers (word 1 _ _ e), x ∙ sym y)
  same_options workers seed e x y = absurd (workers_seed (word 0 _ _ e))
  same_options workers workers_and_seed e x y = let h : 2 ≡ 4 = sizes _ _ e in omega (arith, h)
  same_options workers seed_and_workers e x y = let h : 2 ≡ 4 = sizes _ _ e in omega (arith, h)
  same_options seed nothing e x y = let h : 2 ≡ 0 = sizes _ _ e in omega (arith, h)
  same_options seed workers e x y = absurd (workers_seed (sym (word 0 _ _ e)))
  same_options seed seed e x y = (x ∙ sym y, same_seed (word 1 _ _ e))
  same_options seed workers_and_seed e x y = let h : 2 ≡ 4 = sizes _ _ e in omega (arith, h)
  same_options seed seed_and_workers e x y = let h : 2 ≡ 4 = sizes _ _ e in omega (arith, h)
  same_options workers_and_seed nothing e x y = let h : 4 ≡ 0 = sizes _ _ e in omega (arith, h)
  same_options workers_and_seed workers e x y = let h : 4 ≡ 2 = sizes _ _ e in omega (arith, h)
  same_options workers_and_seed seed e x y = let h : 4 ≡ 2 = sizes _ _ e in omega (arith, h)
  same_options workers_and_seed workers_and_seed e x y = (x ∙ sym y, same_seed (word 3 _ _ e))
  same_options workers_and_seed seed_and_workers e x y = absurd (workers_seed (word 0 _ _ e))
  same_options seed_and_workers nothing e x y = let h : 4 ≡ 0 = sizes _ _ e in omega (arith, h)
  same_options seed_and_workers workers e x y = let h : 4 ≡ 2 = sizes _ _ e in omega (arith, h)
  same_options seed_and_workers seed e x y = let h : 4 ≡ 2 = sizes _ _ e in omega (arith, h)
  same_options seed_and_workers workers_and_seed e x y = absurd (workers_seed (sym (word 0 _ _ e)))
  same_options seed_and_workers seed_and_workers e x y = (x ∙ sym y, same_seed (word 1 _ _ e))

one_run : (words : List (List ℕ)) (n s m t : ℕ) → IsRunCommand words n s → IsRunCommand words m t → Run n s ≡ Run m t
one_run words n s m t a b =
    let rests : options a.0 n s ≡ options b.0 m t = tails _ _ (options a.0 n s) (options b.0 m t) (sym a.1 ∙ b.1) in
    let same = same_options n s m t a.3 a.4 b.3 b.4 a.0 b.0 rests a.2 b.2 in
    let left : n ≡ m = same.0 in
    let right : s ≡ t = same.1 in
    cc

-- ---- `gen` and `bench`

one_gen : (words : List (List ℕ)) (n s m t : ℕ) → IsGen words n s → IsGen words m t → Gen n s ≡ Gen m t
one_gen words n s m t a b =
    let e : codes "gen" ∷ decimal n ∷ decimal s ∷ [] ≡ codes "gen" ∷ decimal m ∷ decimal t ∷ [] = sym a.0 ∙ b.0 in
    let left : n ≡ m = decimal_injective n m (omega (arith, a.1)) (omega (arith, b.1)) (word 1 _ _ e) in
    let right : s ≡ t = decimal_injective s t (omega (arith, a.2)) (omega (arith, b.2)) (word 2 _ _ e) in
    cc

last_workers : (xs ys : List (List ℕ)) (n m : ℕ) → xs ≡ ys → AreLastWorkers xs n → AreLastWorkers ys m → n ≡ m
last_workers xs ys n m e (inl a) (inl b) = a.1 ∙ sym b.1
last_workers xs ys n m e (inl a) (inr b) = let h : 0 ≡ 2 = sizes [] (with_workers m) (sym a.0 ∙ e ∙ b.0) in omega (arith, h)
last_workers xs ys n m e (inr a) (inl b) = let h : 2 ≡ 0 = sizes (with_workers n) [] (sym a.0 ∙ e ∙ b.0) in omega (arith, h)
last_workers xs ys n m e (inr a) (inr b) = decimal_injective n m (omega (arith, a.1)) (omega (arith, b.1)) (word 1 (with_workers n) (with_workers m) (sym a.0 ∙ e ∙ b.0))

one_bench : (words : List (List ℕ)) (n s k m t l : ℕ) → IsBench words n s k → IsBench words m t l → Bench n s k ≡ Bench m t l
one_bench words n s k m t l a b =
    let e : codes "bench" ∷ decimal n ∷ decimal s ∷ a.0 ≡ codes "bench" ∷ decimal m ∷ decimal t ∷ b.0 = sym a.1 ∙ b.1 in
    let left : n ≡ m = decimal_injective n m (omega (arith, a.3)) (omega (arith, b.3)) (word 1 _ _ e) in
    let right : s ≡ t = decimal_injective s t (omega (arith, a.4)) (omega (arith, b.4)) (word 2 _ _ e) in
    let last : k ≡ l = last_workers a.0 b.0 k l (tails _ _ a.0 b.0 (tails _ _ (decimal s ∷ a.0) (decimal t ∷ b.0) (tails _ _ (decimal n ∷ decimal s ∷ a.0) (decimal m ∷ decimal t ∷ b.0) e))) a.2 b.2 in
    cc

-- ---- `follow`

one_follow : (words : List (List ℕ)) (n m : ℕ) → IsFollow words n → IsFollow words m → Follow n ≡ Follow m
one_follow words n m a b =
    let e : codes "follow" ∷ decimal n ∷ [] ≡ codes "follow" ∷ decimal m ∷ [] = sym a.0 ∙ b.0 in
    let same : n ≡ m = decimal_injective n m (omega (arith, a.2)) (omega (arith, b.2)) (word 1 _ _ e) in
    cc

-- ---- all of them

pub one_command_by : (words : List (List ℕ)) (a b : Command) → IsCommand words a → IsCommand words b → a ≡ b
one_command_by words (Run n s) (Run m t) a b = one_run words n s m t a b
one_command_by words (Run n s) Recover a b = absurd (run_recover (same_first words _ _ _ _ a.1 b))
one_command_by words (Run n s) Migrate a b = absurd (run_migrate (same_first words _ _ _ _ a.1 b))
one_command_by words (Run n s) Compact a b = absurd (run_compact (same_first words _ _ _ _ a.1 b))
one_command_by words (Run n s) (Follow j) a b = absurd (run_follow (same_first words _ _ _ _ a.1 b.0))
one_command_by words (Run n s) Audit a b = absurd (run_audit (same_first words _ _ _ _ a.1 b))
one_command_by words (Run n s) (Gen m t) a b = absurd (run_gen (same_first words _ _ _ _ a.1 b.0))
one_command_by words (Run n s) (Bench m t l) a b = absurd (run_bench (same_first words _ _ _ _ a.1 b.1))
one_command_by words Recover (Run m t) a b = absurd (run_recover (same_first words _ _ _ _ b.1 a))
one_command_by words Recover Recover a b = refl
one_command_by words Recover Migrate a b = absurd (recover_migrate (same_first words _ _ _ _ a b))
one_command_by words Recover Compact a b = absurd (recover_compact (same_first words _ _ _ _ a b))
one_command_by words Recover (Follow j) a b = absurd (recover_follow (same_first words _ _ _ _ a b.0))
one_command_by words Recover Audit a b = absurd (recover_audit (same_first words _ _ _ _ a b))
one_command_by words Recover (Gen m t) a b = absurd (recover_gen (same_first words _ _ _ _ a b.0))
one_command_by words Recover (Bench m t l) a b = absurd (recover_bench (same_first words _ _ _ _ a b.1))
one_command_by words Migrate (Run m t) a b = absurd (run_migrate (same_first words _ _ _ _ b.1 a))
one_command_by words Migrate Recover a b = absurd (recover_migrate (same_first words _ _ _ _ b a))
one_command_by words Migrate Migrate a b = refl
one_command_by words Migrate Compact a b = absurd (migrate_compact (same_first words _ _ _ _ a b))
one_command_by words Migrate (Follow j) a b = absurd (migrate_follow (same_first words _ _ _ _ a b.0))
one_command_by words Migrate Audit a b = absurd (migrate_audit (same_first words _ _ _ _ a b))
one_command_by words Migrate (Gen m t) a b = absurd (gen_migrate (same_first words _ _ _ _ b.0 a))
one_command_by words Migrate (Bench m t l) a b = absurd (bench_migrate (same_first words _ _ _ _ b.1 a))
one_command_by words Compact (Run m t) a b = absurd (run_compact (same_first words _ _ _ _ b.1 a))
one_command_by words Compact Recover a b = absurd (recover_compact (same_first words _ _ _ _ b a))
one_command_by words Compact Migrate a b = absurd (migrate_compact (same_first words _ _ _ _ b a))
one_command_by words Compact Compact a b = refl
one_command_by words Compact (Follow j) a b = absurd (compact_follow (same_first words _ _ _ _ a b.0))
one_command_by words Compact Audit a b = absurd (audit_compact (same_first words _ _ _ _ b a))
one_command_by words Compact (Gen m t) a b = absurd (gen_compact (same_first words _ _ _ _ b.0 a))
one_command_by words Compact (Bench m t l) a b = absurd (bench_compact (same_first words _ _ _ _ b.1 a))
one_command_by words (Follow i) (Run m t) a b = absurd (run_follow (same_first words _ _ _ _ b.1 a.0))
one_command_by words (Follow i) Recover a b = absurd (recover_follow (same_first words _ _ _ _ b a.0))
one_command_by words (Follow i) Migrate a b = absurd (migrate_follow (same_first words _ _ _ _ b a.0))
one_command_by words (Follow i) Compact a b = absurd (compact_follow (same_first words _ _ _ _ b a.0))
one_command_by words (Follow i) (Follow j) a b = one_follow words i j a b
one_command_by words (Follow i) Audit a b = absurd (audit_follow (same_first words _ _ _ _ b a.0))
one_command_by words (Follow i) (Gen m t) a b = absurd (gen_follow (same_first words _ _ _ _ b.0 a.0))
one_command_by words (Follow i) (Bench m t l) a b = absurd (bench_follow (same_first words _ _ _ _ b.1 a.0))
one_command_by words Audit (Run m t) a b = absurd (run_audit (same_first words _ _ _ _ b.1 a))
one_command_by words Audit Recover a b = absurd (recover_audit (same_first words _ _ _ _ b a))
one_command_by words Audit Migrate a b = absurd (migrate_audit (same_first words _ _ _ _ b a))
one_command_by words Audit Compact a b = absurd (audit_compact (same_first words _ _ _ _ a b))
one_command_by words Audit (Follow j) a b = absurd (audit_follow (same_first words _ _ _ _ a b.0))
one_command_by words Audit Audit a b = refl
one_command_by words Audit (Gen m t) a b = absurd (gen_audit (same_first words _ _ _ _ b.0 a))
one_command_by words Audit (Bench m t l) a b = absurd (bench_audit (same_first words _ _ _ _ b.1 a))
one_command_by words (Gen n s) (Run m t) a b = absurd (run_gen (same_first words _ _ _ _ b.1 a.0))
one_command_by words (Gen n s) Recover a b = absurd (recover_gen (same_first words _ _ _ _ b a.0))
one_command_by words (Gen n s) Migrate a b = absurd (gen_migrate (same_first words _ _ _ _ a.0 b))
one_command_by words (Gen n s) Compact a b = absurd (gen_compact (same_first words _ _ _ _ a.0 b))
one_command_by words (Gen n s) (Follow j) a b = absurd (gen_follow (same_first words _ _ _ _ a.0 b.0))
one_command_by words (Gen n s) Audit a b = absurd (gen_audit (same_first words _ _ _ _ a.0 b))
one_command_by words (Gen n s) (Gen m t) a b = one_gen words n s m t a b
one_command_by words (Gen n s) (Bench m t l) a b = absurd (gen_bench (same_first words _ _ _ _ a.0 b.1))
one_command_by words (Bench n s k) (Run m t) a b = absurd (run_bench (same_first words _ _ _ _ b.1 a.1))
one_command_by words (Bench n s k) Recover a b = absurd (recover_bench (same_first words _ _ _ _ b a.1))
one_command_by words (Bench n s k) Migrate a b = absurd (bench_migrate (same_first words _ _ _ _ a.1 b))
one_command_by words (Bench n s k) Compact a b = absurd (bench_compact (same_first words _ _ _ _ a.1 b))
one_command_by words (Bench n s k) (Follow j) a b = absurd (bench_follow (same_first words _ _ _ _ a.1 b.0))
one_command_by words (Bench n s k) Audit a b = absurd (bench_audit (same_first words _ _ _ _ a.1 b))
one_command_by words (Bench n s k) (Gen m t) a b = absurd (gen_bench (same_first words _ _ _ _ b.0 a.1))
one_command_by words (Bench n s k) (Bench m t l) a b = one_bench words n s k m t l a b
