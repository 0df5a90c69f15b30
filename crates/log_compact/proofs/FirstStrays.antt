-- The first list in which a checkpoint stands where none may.
use Rattle.std.proofs.Common.{◌≡◌, ℕ, zero, suc, ◌<◌, ◌≤◌, List, [], ◌∷◌, ◌++◌, length, get_or, take, drop, refl, sym, ap, arith}
use Rattle.std.specs.List.{AllByRecursion}
use Rattle.txn_records.specs.declared.records.Record.{Record}
use Rattle.log_compact.specs.Points.{IsPlain}
use Rattle.log_compact.specs.Refusals.{IsListFit, IsFirstStray}
use Rattle.log_compact.specs.Sets.{HasNoStray}

split : (lists : List (List Record)) (n : ℕ) (rs : List Record) → n < length lists → rs ≡ get_or lists n rs → lists ≡ take n lists ++ rs ∷ drop (suc n) lists
split [] n rs l e = absurd (omega (arith, l))
split (x ∷ xs) zero rs l e = ap (λ z. z ∷ xs) (sym e)
split (x ∷ xs) (suc n) rs l e = ap (λ z. x ∷ z) (split xs n rs (omega (arith, l)) e)

taken : (lists : List (List Record)) (n : ℕ) → n < length lists → n ≡ length (take n lists)
taken [] n l = absurd (omega (arith, l))
taken (x ∷ xs) zero l = refl
taken (x ∷ xs) (suc n) l = ap (λ z. suc z) (taken xs n (omega (arith, l)))

pub stray_at : (lists : List (List Record)) (n : ℕ) (rs : List Record) → n < length lists → rs ≡ get_or lists n rs → HasNoStray (take n lists) → ¬ IsListFit n rs → IsFirstStray lists n
stray_at lists n rs l e none bad = (take n lists, drop (suc n) lists, rs, split lists n rs l e, taken lists n l, none, bad)

pub all_plain_in : (n : ℕ) (rs : List Record) → 1 ≤ n → IsListFit n rs → AllByRecursion IsPlain rs
all_plain_in zero rs some fit = absurd (omega (arith, some))
all_plain_in (suc n) rs some fit = fit
