-- Lists without their checkpoint, one after the other.
use Rattle.std.proofs.Common.{◌≡◌, ℕ, zero, suc, ◌+◌, ◌-◌, ◌<◌, ◌≤◌, Bool, true, false, Option, None, List, [], ◌∷◌, ◌++◌, length, map, take, drop, get_or, refl, sym, ap, subst, ◌∙◌, arith}
use Rattle.std.specs.Prelude.{is_none, if◌then◌else◌}
use Rattle.std.specs.List.{AllByRecursion}
use Rattle.std.proofs.lemmas.List.{take_all, length-drop, length-map}
use Rattle.snap_base.specs.declared.ids.Bid.{Bid}
use Rattle.snap_base.specs.declared.ids.Tid.{Tid}
use Rattle.snap_base.specs.declared.transactions.State.{State}
use Rattle.txn_records.specs.declared.records.Record.{Record}
use Rattle.txn_records.specs.declared.records.Record.TheVariants.{Genesis, Checkpoint}
use Rattle.snap_recover.proofs.Steps.{taken}
use Rattle.log_compact.specs.Points.{Point, IsPlain, is_plain, plains}
use Rattle.log_compact.specs.Sets.{point_in, without_point, plain_lists, IsFirstList, HasNoStray}

same_plains : (rs : List Record) → AllByRecursion IsPlain rs → plains rs ≡ rs
same_plains [] h = refl
same_plains (r ∷ rs) h = by (is_plain r) (ap is_none h.0) (same_plains rs h.1)
  where
    by : (b : Bool) → b ≡ true → plains rs ≡ rs → (if b then r ∷ plains rs else plains rs) ≡ r ∷ rs
    by true e same = ap (λ z. r ∷ z) same
    by false e same = absurd (cc e)

all_same : (lists : List (List Record)) → AllByRecursion (AllByRecursion IsPlain) lists → map plains lists ≡ lists
all_same [] h = refl
all_same (rs ∷ lists) h = ap (λ z. z ∷ map plains lists) (same_plains rs h.0) ∙ ap (λ z. rs ∷ z) (all_same lists h.1)

-- ---- the first one

pub first_plain : (rs : List Record) → IsFirstList rs (point_in rs) → point_in rs ≡ None → without_point rs (point_in rs) ≡ rs
first_plain rs fit e = ap (λ (p : Option Point). without_point rs p) e ∙ same_plains rs (subst (IsFirstList rs) e fit)

pub all_behind : (rs : List Record) (i : ℕ) → take (length rs - i) (drop i rs) ≡ drop i rs
all_behind rs i = take_all (length rs - i) (drop i rs) (omega (arith, length-drop i rs))

pub first_restated : (rs : List Record) (count : ℕ) (first states : List State) (generation next_c batches acts : ℕ) (next_tid : Tid) (next_bid : Bid)
    → 1 < length rs → Genesis count first ≡ get_or rs 0 (Genesis count first) → Checkpoint generation next_tid next_bid next_c batches acts states ≡ get_or rs 1 (Checkpoint generation next_tid next_bid next_c batches acts states) → IsFirstList rs (point_in rs)
    → without_point rs (point_in rs) ≡ Genesis count states ∷ drop 2 rs
first_restated [] count first states generation next_c batches acts next_tid next_bid l g k fit = absurd (omega (arith, l))
first_restated (r ∷ []) count first states generation next_c batches acts next_tid next_bid l g k fit = absurd (omega (arith, l))
first_restated (r ∷ x ∷ rs) count first states generation next_c batches acts next_tid next_bid l g k fit =
    subst (λ (z : Record). IsFirstList (z ∷ x ∷ rs) (point_in (z ∷ x ∷ rs)) → without_point (z ∷ x ∷ rs) (point_in (z ∷ x ∷ rs)) ≡ Genesis count states ∷ rs) g
    (subst (λ (z : Record). IsFirstList (Genesis count first ∷ z ∷ rs) (point_in (Genesis count first ∷ z ∷ rs)) → without_point (Genesis count first ∷ z ∷ rs) (point_in (Genesis count first ∷ z ∷ rs)) ≡ Genesis count states ∷ rs) k
    (λ f. ap (λ (z : List Record). Genesis count states ∷ z) (same_plains rs f.1))) fit

-- ---- the others

-- so many lists are there
abbrev pub PlainThrough : List (List Record) → ℕ → List (List Record) → Type 0
PlainThrough lists i plain = (1 ≤ i) × (plain ≡ take i (plain_lists lists))

at_other : (lists : List (List Record)) → HasNoStray lists → (i : ℕ) (rs : List Record) → 1 ≤ i → rs ≡ get_or lists i rs → rs ≡ get_or (plain_lists lists) i rs
at_other [] h i rs some at = at
at_other (x ∷ lists) h zero rs some at = absurd (omega (arith, some))
at_other (x ∷ lists) h (suc i) rs some at = at ∙ ap (λ (z : List (List Record)). get_or z i rs) (sym (all_same lists h.1))

plain_length : (lists : List (List Record)) → length (plain_lists lists) ≡ length lists
plain_length [] = refl
plain_length (x ∷ lists) = ap suc (length-map lists plains)

pub plain_more : (lists : List (List Record)) → HasNoStray lists → (i : ℕ) (rs : List Record) (old new : List (List Record)) → i < length lists → rs ≡ get_or lists i rs → new ≡ old ++ rs ∷ [] → PlainThrough lists i old → PlainThrough lists (i + 1) new
plain_more lists h i rs old new l at e p =
    (omega (arith, p.0), e ∙ (ap (λ (z : List (List Record)). z ++ rs ∷ []) p.1 ∙ sym (taken (plain_lists lists) i rs (omega (arith, l, plain_length lists)) (at_other lists h i rs p.0 at))))
