-- Lists without a checkpoint fold to what they recover to.
use Rattle.std.proofs.Common.{◌≡◌, Bool, true, false, List, [], ◌∷◌, map, refl, sym, ap, subst, ◌∙◌, arith, None}
use Rattle.std.specs.Prelude.{is_none, if◌then◌else◌}
use Rattle.std.specs.List.{AllByRecursion}
use Rattle.txn_records.specs.declared.records.Record.{Record}
use Rattle.snap_recover.specs.Logs.{is_genesis}
use Rattle.snap_recover.specs.Opening.{IsRecovered}
use Rattle.log_compact.specs.Points.{point_told, IsPlain, is_plain, plains}
use Rattle.log_compact.specs.Sets.{point_in, point_of, without_point, plain_lists, number_of, count_batches, count_acts, PlainFolds}

pub same_plains : (rs : List Record) → AllByRecursion IsPlain rs → plains rs ≡ rs
same_plains [] h = refl
same_plains (r ∷ rs) h = by (is_plain r) (ap is_none h.0) (same_plains rs h.1)
  where
    by : (b : Bool) → b ≡ true → plains rs ≡ rs → (if b then r ∷ plains rs else plains rs) ≡ r ∷ rs
    by true e same = ap (λ z. r ∷ z) same
    by false e same = absurd (cc e)

pub all_same : (lists : List (List Record)) → AllByRecursion (AllByRecursion IsPlain) lists → map plains lists ≡ lists
all_same [] h = refl
all_same (rs ∷ lists) h = ap (λ z. z ∷ map plains lists) (same_plains rs h.0) ∙ ap (λ z. rs ∷ z) (all_same lists h.1)

pub no_point : (rs : List Record) → AllByRecursion IsPlain rs → point_in rs ≡ None
no_point [] h = refl
no_point (r ∷ []) h = refl
no_point (r ∷ x ∷ rs) h = by (is_genesis r)
  where
    by : (b : Bool) → (if b then point_told x else None) ≡ None
    by true = h.1.0
    by false = refl

pub no_points : (lists : List (List Record)) → AllByRecursion (AllByRecursion IsPlain) lists → point_of lists ≡ None
no_points [] h = refl
no_points (rs ∷ lists) h = no_point rs h.0

pub same_lists : (lists : List (List Record)) → AllByRecursion (AllByRecursion IsPlain) lists → plain_lists lists ≡ lists
same_lists [] h = refl
same_lists (rs ∷ lists) h =
    ap (λ p. without_point rs p ∷ map plains lists) (no_point rs h.0)
    ∙ (ap (λ z. z ∷ map plains lists) (same_plains rs h.0) ∙ ap (λ z. rs ∷ z) (all_same lists h.1))

pub plain_folds : PlainFolds
plain_folds lists f h x =
    let none = no_points lists h in
    let states : x.found.states ≡ f.opening.states = sym x.states in
    let since : x.found.committed ≡ f.opening.committed = sym x.since in
    let tid : x.found.next_tid.0 ≡ f.opening.next_tid.0 = omega (arith, x.next_tid, ap (number_of (λ p. p.next_tid)) none) in
    let bid : x.found.next_bid.0 ≡ f.opening.next_bid.0 = omega (arith, x.next_bid, ap (number_of (λ p. p.next_bid)) none) in
    let c : x.found.next_c ≡ f.opening.next_c = omega (arith, x.next_c, ap (number_of (λ p. p.next_c)) none) in
    let same : x.found ≡ f.opening = λ i. record { states = states i; committed = since i; next_tid = record { 0 = tid i }; next_bid = record { 0 = bid i }; next_c = c i } in (
      subst (λ o. IsRecovered lists o) same (subst (λ z. IsRecovered z x.found) (same_lists lists h) x.recovered),
      x.generation ∙ ap (number_of (λ p. p.generation)) none,
      omega (arith, x.batches, ap (number_of (λ p. p.batches)) none, ap count_batches since),
      omega (arith, x.acts, ap (number_of (λ p. p.acts)) none, ap count_acts since),
    )
