-- Logs fold to as many states as they began with.
use Rattle.std.specs.Prelude.{◌≡◌, ℕ, ◌+◌, Bool, true, false, is_none, if◌then◌else◌, Option, Some, None, List, [], ◌∷◌, ◌++◌, length, map, filter}
use Rattle.std.specs.List.{AllByRecursion, enumerate_from}
use Rattle.std.proofs.Common.{refl, arith, sym, ap, subst, ◌∙◌}
use Rattle.snap_base.specs.declared.transactions.State.{State}
use Rattle.snap_base.proofs.Lists.{zip_length}
use Rattle.machine_recovery.specs.compact_laws.log_compact.declared.folds.Folded.{Folded}
use Rattle.machine_recovery.specs.compact_laws.log_compact.Points.{Point, IsPlain, is_plain, plains}
use Rattle.machine_recovery.specs.compact_laws.log_compact.Sets.{IsFolded, IsFirstList, point_in, without_point}
use Rattle.run_opening.specs.Begins.{BeganWith}
use Rattle.snap_recover.specs.declared.openings.Opening.{Opening}
use Rattle.snap_recover.specs.Logs.{all_of, geneses, is_genesis}
use Rattle.snap_recover.specs.Opening.{IsRecovered}
use Rattle.record_log.specs.txn_records.declared.records.Record.{Record}
use Rattle.record_log.specs.txn_records.declared.records.Record.TheVariants.{Genesis}

-- ---- lists without a checkpoint

same_plains : (rs : List Record) → AllByRecursion IsPlain rs → plains rs ≡ rs
same_plains [] h = refl
same_plains (r ∷ rs) h = by (is_plain r) (ap is_none h.0) (same_plains rs h.1)
  where
    by : (b : Bool) → b ≡ true → plains rs ≡ rs → (if b then r ∷ plains rs else plains rs) ≡ r ∷ rs
    by true e same = ap (λ z. r ∷ z) same
    by false e same = absurd (cc e)

all_same : (lists : List (List Record)) → AllByRecursion (AllByRecursion IsPlain) lists → map plains lists ≡ lists
all_same [] h = refl
all_same (rs ∷ lists) h = ap (λ z. z ∷ map plains lists) (same_plains rs h.0) ∙ ap (λ z. rs ∷ z) (all_same lists h.1)

-- ---- as many states

numbered_long : (n : ℕ) (states : List State) → length (enumerate_from n states) ≡ length states
numbered_long n [] = refl
numbered_long n (s ∷ ss) = omega (arith, numbered_long (n + 1) ss)

-- the states of the one Genesis
one_genesis : (logs : List (List Record)) (o : Opening) (count : ℕ) (first : List State) (rest : List Record) → IsRecovered logs o → geneses logs ≡ Genesis count first ∷ rest → length o.states ≡ length first
one_genesis logs o count first rest x found =
    let one : Genesis (length logs) x.begun.0 ∷ [] ≡ Genesis count first ∷ rest = sym x.begun.1.one ∙ found in
    let same : x.begun.0 ≡ first = cc in
    let long = zip_length _ (enumerate_from 0 x.begun.0) o.states x.begun.2 in
    omega (arith, long, numbered_long 0 x.begun.0, ap (λ (l : List State). length l) same)

-- a checkpoint's states are as many as those of the Genesis before it
found_long : (p : Option Point) (rs : List Record) (lists : List (List Record)) (states : List State) (o : Opening) → point_in rs ≡ p → IsFirstList rs p → AllByRecursion (AllByRecursion IsPlain) lists
    → IsRecovered (without_point rs p ∷ map plains lists) o → BeganWith (rs ∷ lists) states → length o.states ≡ length states
found_long None rs lists states o e first others x began =
    let same : plains rs ∷ map plains lists ≡ rs ∷ lists = ap (λ z. z ∷ map plains lists) (same_plains rs first) ∙ ap (λ z. rs ∷ z) (all_same lists others) in
    one_genesis (rs ∷ lists) o (length (rs ∷ lists)) states [] (subst (λ z. IsRecovered z o) same x) began
found_long (Some p) [] lists states o e first others x began = absurd (cc e)
found_long (Some p) (r ∷ []) lists states o e first others x began = absurd (cc e)
found_long (Some p) (Genesis count told ∷ y ∷ ys) lists states o e first others x began =
    let one : Genesis count told ∷ filter is_genesis (y ∷ (ys ++ all_of lists)) ≡ Genesis (length ((Genesis count told ∷ y ∷ ys) ∷ lists)) states ∷ [] = began in
    let same : told ≡ states = cc in
    let pointed = (Genesis count p.states ∷ plains ys) ∷ map plains lists in
    let rest = filter is_genesis (plains ys ++ all_of (map plains lists)) in
    one_genesis pointed o count p.states rest x refl ∙ (sym first.0 ∙ ap (λ (l : List State). length l) same)
found_long (Some p) (_ ∷ y ∷ ys) lists states o e first others x began = absurd (cc e)

pub fold_long : (lists : List (List Record)) (states : List State) (f : Folded) → IsFolded lists f → BeganWith lists states → length f.opening.states ≡ length states
fold_long [] states f x began = absurd (cc began)
fold_long (rs ∷ lists) states f x began =
    ap (λ (l : List State). length l) x.states ∙ found_long (point_in rs) rs lists states x.found refl x.no_stray.0 x.no_stray.1 x.recovered began
