-- Lists of records and of logs.
use Rattle.std.specs.Prelude.{◌≡◌, refl, ℕ, zero, suc, ◌+◌, ◌-◌, ◌<◌, ◌≤◌, replicate, List, [], ◌∷◌, ◌++◌, length, take, slice_index_or}
use Rattle.std.proofs.Common.{arith, ap, ◌∙◌}
use Rattle.followed_logs.specs.OnRecords.{in_first}
use Rattle.log_set.specs.Told.{all_told}
use Rattle.protocol.specs.Effects.{no_log}
use Rattle.protocol.specs.Parts.{Log}
use Rattle.protocol.specs.Records.{LogRecord}
use Rattle.run_opening.specs.Opens.{records_at}
use Rattle.txn_records.specs.declared.records.Record.{Record}

pub nothing_past : (logs : List Log) (l : ℕ) → length logs ≤ l → slice_index_or logs l no_log ≡ no_log
nothing_past [] l h = refl
nothing_past (g ∷ logs) zero h = absurd (omega (arith, h))
nothing_past (g ∷ logs) (suc l) h = nothing_past logs l (omega (arith, h))

pub same_lists : (xs ys : List (List Record)) → length xs ≡ length ys → ((l : ℕ) → l < length xs → records_at xs l ≡ records_at ys l) → xs ≡ ys
same_lists [] [] e same = refl
same_lists [] (y ∷ ys) e same = absurd (omega (arith, e))
same_lists (x ∷ xs) [] e same = absurd (omega (arith, e))
same_lists (x ∷ xs) (y ∷ ys) e same =
    ap (λ (z : List Record). z ∷ xs) (same 0 (omega arith)) ∙ ap (λ (zs : List (List Record)). y ∷ zs) (same_lists xs ys (omega (arith, e)) (λ l lt. same (suc l) (omega (arith, lt))))

nothing_long : (n : ℕ) → length (replicate {A = List Record} n []) ≡ n
nothing_long zero = refl
nothing_long (suc n) = ap suc (nothing_long n)

pub first_long : (many : ℕ) (rs : List Record) → 1 ≤ many → length (in_first many rs) ≡ many
first_long many rs some = omega (arith, some, nothing_long (many - 1))

pub told_long : (rs : List LogRecord) → length (all_told rs) ≡ length rs
told_long [] = refl
told_long (r ∷ rs) = ap suc (told_long rs)

pub taken_long : (n : ℕ) (rs : List LogRecord) → n ≤ length rs → length (take n rs) ≡ n
taken_long zero rs h = refl
taken_long (suc n) [] h = absurd (omega (arith, h))
taken_long (suc n) (r ∷ rs) h = ap suc (taken_long n rs (omega (arith, h)))

pub joined_long : (xs ys : List Record) → length (xs ++ ys) ≡ length xs + length ys
joined_long [] ys = omega arith
joined_long (x ∷ xs) ys = omega (arith, joined_long xs ys)
