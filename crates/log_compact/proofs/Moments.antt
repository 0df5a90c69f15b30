-- The set at each moment of compacting, and its fold.
use Rattle.std.proofs.Common.{◌≡◌, ℕ, zero, suc, ◌+◌, ◌<◌, ◌≤◌, ◌⊎◌, inl, inr, Bool, true, false, List, [], ◌∷◌, length, map, refl, sym, ap, subst, ◌∙◌, arith}
use Rattle.std.specs.Prelude.{◌==◌, if◌then◌else◌}
use Rattle.std.specs.List.{AllByRecursion, range_with_len}
use Rattle.std.proofs.lemmas.Bool.{cases_Bool, eqb-true, eqb-false}
use Rattle.snap_base.specs.declared.transactions.State.{State}
use Rattle.txn_records.specs.declared.records.Record.{Record}
use Rattle.txn_records.specs.declared.records.Record.TheVariants.{Genesis, Checkpoint}
use Rattle.snap_recover.specs.Opening.{IsRecovered}
use Rattle.log_compact.specs.declared.folds.Folded.{Folded}
use Rattle.log_compact.specs.Finding.{HasNoSet, IsUsed}
use Rattle.log_compact.specs.Sets.{IsHead, generation_of, IsSet, logs_from, IsFolded}
use Rattle.log_compact.specs.Compacting.{other_side, IsOnSide, group_for, IsBefore, IsBehind, MayCompact, FoldsTheSame, ClearingKeeps, CompactingKeeps, CompactingEnds}
use Rattle.log_compact.proofs.OneGenesis.{as_many_in}

-- ---- the two sides

-- a head other than device 0 has as many logs as its number
pub side_of : (head logs : ℕ) → (head ≡ 0) ⊎ (logs ≡ head) → 1 ≤ logs → (d : ℕ) → IsOnSide head logs d → ¬ IsOnSide (other_side head logs) logs d
side_of head logs s some d on = by (head == 0) refl
  where
    by : (b : Bool) → (head == 0) ≡ b → IsOnSide (if b then logs else 0) logs d → ⊥
    by true e off = omega (arith, eqb-true head 0 e, on.before, off.behind)
    by false e off = elim s [ inl z ↦ absurd (eqb-false head 0 e z) | inr z ↦ omega (arith, z, on.behind, off.before) ]

pub other_on : (head logs : ℕ) → 1 ≤ logs → IsOnSide (other_side head logs) logs (other_side head logs)
other_on head logs some = record { behind = omega arith; before = omega (arith, some) }

other_head : (head logs : ℕ) → logs ≤ 2 → (other_side head logs < 3) × ((other_side head logs ≡ 0) ⊎ (logs ≡ other_side head logs))
other_head head logs few = by (head == 0)
  where
    by : (b : Bool) → ((if b then logs else 0) < 3) × (((if b then logs else 0) ≡ 0) ⊎ (logs ≡ (if b then logs else 0)))
    by true = (omega (arith, few), inr refl)
    by false = (omega arith, inl refl)

same_lists : (devices now : ℕ → List Record) (from logs : ℕ) → ((d : ℕ) → IsOnSide from logs d → now d ≡ devices d) → logs_from now from logs ≡ logs_from devices from logs
same_lists devices now from zero h = refl
same_lists devices now from (suc logs) h = ap (λ e. e ∷ map now (range_with_len (from + 1) logs)) (h from (record { behind = omega arith; before = omega arith })) ∙ ap (λ es. devices from ∷ es) (same_lists devices now (from + 1) logs (λ d on. h d (record { behind = omega (arith, on.behind); before = omega (arith, on.before) })))

no_head : (d many : ℕ) (log : List Record) (states : List State) → log ≡ [] → IsHead d log many states → ⊥
no_head d many log states e h = cc (sym e ∙ h.begins)

-- what holds what it held or nothing is no new head
pub kept_head : (devices now : ℕ → List Record) (d many : ℕ) (states : List State) → (now d ≡ devices d) ⊎ (now d ≡ []) → IsHead d (now d) many states → (now d ≡ devices d)
kept_head devices now d many states (inl e) h = e
kept_head devices now d many states (inr e) h = absurd (no_head d many (now d) states e h)

pub on_side : (from logs d : ℕ) → IsOnSide from logs d ⊎ ¬ IsOnSide from logs d
on_side from logs d = elim (Rattle.std.proofs.lemmas.Bool.cases_lt d from) [
  | inl l ↦ inr (λ on. omega (arith, on.behind, l))
  | inr l ↦ elim (Rattle.std.proofs.lemmas.Bool.cases_lt d (from + logs)) [ inl k ↦ inl (record { behind = omega (arith, l); before = k }) | inr k ↦ inr (λ on. omega (arith, on.before, k)) ]
]

-- ---- before the group is there

-- the logs in use are those of one side
pub side_used : (devices : ℕ → List Record) (many head logs generation : ℕ) → IsUsed devices many head logs generation → (head ≡ 0) ⊎ (logs ≡ head)
side_used devices many head logs generation (inl s) = s.is_head.side
side_used devices many head logs generation (inr n) = inl n.1

own : (devices now : ℕ → List Record) (head logs : ℕ) → 1 ≤ logs → (head ≡ 0) ⊎ (logs ≡ head) → IsBefore devices now (other_side head logs) logs → (d : ℕ) → IsOnSide head logs d → now d ≡ devices d
own devices now head logs some side b d on = b.same d (side_of head logs side some d on)

lists_before : (devices now : ℕ → List Record) (many head logs generation : ℕ) → 1 ≤ logs → IsUsed devices many head logs generation → IsBefore devices now (other_side head logs) logs → logs_from now head logs ≡ logs_from devices head logs
lists_before devices now many head logs generation some u b = same_lists devices now head logs (own devices now head logs some (side_used devices many head logs generation u) b)

-- each device holds what it held, or none
old_or_none : (devices now : ℕ → List Record) (other logs : ℕ) → IsBefore devices now other logs → (d : ℕ) → (now d ≡ devices d) ⊎ (now d ≡ [])
old_or_none devices now other logs b d = by (on_side other logs d)
  where
    by : IsOnSide other logs d ⊎ ¬ IsOnSide other logs d → (now d ≡ devices d) ⊎ (now d ≡ [])
    by (inl on) = b.cleared d on
    by (inr off) = inl (b.same d off)

-- then no head is there that was not there
none_stays : (devices now : ℕ → List Record) → HasNoSet devices → ((d : ℕ) → (now d ≡ devices d) ⊎ (now d ≡ [])) → HasNoSet now
none_stays devices now none each = λ d many states h. none d many states (subst (λ z. IsHead d z many states) (kept_head devices now d many states (each d) h) h)

set_before : (devices now : ℕ → List Record) (head logs generation : ℕ) → 1 ≤ logs → IsSet devices head logs generation → IsBefore devices now (other_side head logs) logs → IsSet now head logs generation
set_before devices now head logs generation some s b = record {
  first = s.first;
  is_head = subst (λ z. IsHead head z logs s.first) (sym here) s.is_head;
  its = s.its ∙ ap generation_of (sym here);
  greatest = λ d many states h.
      let e : now d ≡ devices d = kept_head devices now d many states (old_or_none devices now (other_side head logs) logs b d) h in
      subst (λ z. (generation_of z < generation) ⊎ ((generation_of z ≡ generation) × (head ≤ d))) (sym e) (s.greatest d many states (subst (λ z. IsHead d z many states) e h));
}
  where
    here : now head ≡ devices head
    here = own devices now head logs some s.is_head.side b head (record { behind = omega arith; before = omega (arith, some) })

used_before : (devices now : ℕ → List Record) (many head logs generation : ℕ) → 1 ≤ logs → IsUsed devices many head logs generation → IsBefore devices now (other_side head logs) logs → IsUsed now many head logs generation
used_before devices now many head logs generation some (inl s) b = inl (set_before devices now head logs generation some s b)
used_before devices now many head logs generation some (inr n) b = inr (none_stays devices now n.0 (old_or_none devices now (other_side head logs) logs b), n.1, n.2, n.3)

before : (devices now : ℕ → List Record) (head logs : ℕ) (f : Folded) → MayCompact devices head logs f → IsBefore devices now (other_side head logs) logs → FoldsTheSame devices now head logs f
before devices now head logs f m b = record {
  head = head;
  fold = f;
  used = used_before devices now 1 head logs f.generation m.some m.used b;
  folded = subst (λ ls. IsFolded ls f) (sym (lists_before devices now 1 head logs f.generation m.some m.used b)) m.folded;
  same = record { states = refl; next_tid = refl; next_bid = refl; next_c = refl; batches = refl; acts = refl; first = refl };
  which = inl (refl, lists_before devices now 1 head logs f.generation m.some m.used b, refl);
}

-- ---- once it is there

behind_set : (devices now : ℕ → List Record) (head logs : ℕ) (f : Folded) → MayCompact devices head logs f → IsBehind devices now head (other_side head logs) logs (group_for logs f) → IsSet now (other_side head logs) logs (f.generation + 1)
behind_set devices now head logs f m b = record {
  first = f.first;
  is_head = record { low = (other_head head logs m.few).0; rest = Checkpoint (f.generation + 1) f.opening.next_tid f.opening.next_bid f.opening.next_c f.batches f.acts f.opening.states ∷ []; begins = b.there; side = (other_head head logs m.few).1 };
  its = sym (ap generation_of b.there);
  greatest = λ d many states h. elim (on_side (other_side head logs) logs d) [
    | inl on ↦ at d many states h on (cases_Bool (d == other_side head logs))
    | inr off ↦ inl (older d many states h off)
  ];
}
  where
    at : (d many : ℕ) (states : List State) → IsHead d (now d) many states → IsOnSide (other_side head logs) logs d → ((d == other_side head logs) ≡ true) ⊎ ((d == other_side head logs) ≡ false) → (generation_of (now d) < f.generation + 1) ⊎ ((generation_of (now d) ≡ f.generation + 1) × (other_side head logs ≤ d))
    at d many states h on (inl e) = let i : d ≡ other_side head logs = eqb-true d (other_side head logs) e in inr (ap (λ z. generation_of (now z)) i ∙ ap generation_of b.there, on.behind)
    at d many states h on (inr e) = absurd (no_head d many (now d) states (b.empty d on (eqb-false d (other_side head logs) e)) h)

    either : (d : ℕ) → ¬ IsOnSide (other_side head logs) logs d → IsOnSide head logs d ⊎ ¬ IsOnSide head logs d → (now d ≡ devices d) ⊎ (now d ≡ [])
    either d off (inl on) = b.cleared d on
    either d off (inr away) = inl (b.same d off away)

    before_it : (d many : ℕ) (states : List State) → IsHead d (devices d) many states → IsUsed devices 1 head logs f.generation → generation_of (devices d) < f.generation + 1
    before_it d many states h (inl s) = elim (s.greatest d many states h) [ inl l ↦ omega (arith, l) | inr q ↦ omega (arith, q.0) ]
    before_it d many states h (inr n) = absurd (n.0 d many states h)

    older : (d many : ℕ) (states : List State) → IsHead d (now d) many states → ¬ IsOnSide (other_side head logs) logs d → generation_of (now d) < f.generation + 1
    older d many states h off =
        let e : now d ≡ devices d = kept_head devices now d many states (either d off (on_side head logs d)) h in
        subst (λ z. generation_of z < f.generation + 1) (sym e) (before_it d many states (subst (λ z. IsHead d z many states) e h) m.used)

-- the fold of Genesis with a checkpoint, and logs that hold nothing
abbrev pub Begun : Type 0
Begun = (count : ℕ) (others : List (List Record)) (states : List State) → count ≡ length others + 1 → AllByRecursion (λ (rs : List Record). rs ≡ []) others
    → IsRecovered ((Genesis count states ∷ []) ∷ others) (record { states = states; committed = []; next_tid = record { 0 = 1 }; next_bid = record { 0 = 1 }; next_c = 1 })

fold_of : Folded → Folded
fold_of f = record {
  opening = record { states = f.opening.states; committed = []; next_tid = f.opening.next_tid; next_bid = f.opening.next_bid; next_c = f.opening.next_c };
  first = f.first;
  generation = f.generation + 1;
  batches = f.batches;
  acts = f.acts;
}

-- a fold has as many states as Genesis, and next numbers from 1 on
record IsFit (f : Folded) : Type 0 where
  as_many : length f.first ≡ length f.opening.states
  next_tid : 1 ≤ f.opening.next_tid.0
  next_bid : 1 ≤ f.opening.next_bid.0
  next_c : 1 ≤ f.opening.next_c

folded_one : Begun → (f : Folded) → IsFit f → (m : (devices : ℕ → List Record) × (head : ℕ) × MayCompact devices head 1 f) → IsFolded (group_for 1 f ∷ []) (fold_of f)
unfolding fold_of
folded_one begun f i m = record {
  no_stray = ((i.as_many, tt), tt);
  in_range = record { generation = m.2.generation; next_tid = m.2.next_tid; next_bid = m.2.next_bid; next_c = m.2.next_c; batches = m.2.batches; acts = m.2.acts };
  found = record { states = f.opening.states; committed = []; next_tid = record { 0 = 1 }; next_bid = record { 0 = 1 }; next_c = 1 };
  recovered = begun 1 [] f.opening.states refl tt;
  states = refl;
  next_tid = omega (arith, i.next_tid);
  next_bid = omega (arith, i.next_bid);
  next_c = omega (arith, i.next_c);
  batches = omega arith;
  acts = omega arith;
  first = refl;
  generation = refl;
  since = refl;
}

folded_two : Begun → (f : Folded) → IsFit f → (m : (devices : ℕ → List Record) × (head : ℕ) × MayCompact devices head 2 f) → IsFolded (group_for 2 f ∷ [] ∷ []) (fold_of f)
unfolding fold_of
folded_two begun f i m = record {
  no_stray = ((i.as_many, tt), (tt, tt));
  in_range = record { generation = m.2.generation; next_tid = m.2.next_tid; next_bid = m.2.next_bid; next_c = m.2.next_c; batches = m.2.batches; acts = m.2.acts };
  found = record { states = f.opening.states; committed = []; next_tid = record { 0 = 1 }; next_bid = record { 0 = 1 }; next_c = 1 };
  recovered = begun 2 ([] ∷ []) f.opening.states refl (refl, tt);
  states = refl;
  next_tid = omega (arith, i.next_tid);
  next_bid = omega (arith, i.next_bid);
  next_c = omega (arith, i.next_c);
  batches = omega arith;
  acts = omega arith;
  first = refl;
  generation = refl;
  since = refl;
}

is_fit : (devices : ℕ → List Record) (head logs : ℕ) (f : Folded) → MayCompact devices head logs f → IsFit f
is_fit devices head logs f m =
    let o = m.folded in
    record {
      as_many = as_many_in (logs_from devices head logs) f o;
      next_tid = omega (arith, o.next_tid, o.recovered.next_tid);
      next_bid = omega (arith, o.next_bid, o.recovered.next_bid);
      next_c = omega (arith, o.next_c, o.recovered.next_c);
    }

behind : Begun → (devices now : ℕ → List Record) (head logs : ℕ) (f : Folded) → MayCompact devices head logs f → IsBehind devices now head (other_side head logs) logs (group_for logs f) → FoldsTheSame devices now head logs f
unfolding fold_of
behind begun devices now head logs f m b = record {
  head = other_side head logs;
  fold = fold_of f;
  used = inl (behind_set devices now head logs f m b);
  folded = by logs m b;
  same = record { states = refl; next_tid = refl; next_bid = refl; next_c = refl; batches = refl; acts = refl; first = refl };
  which = inr (refl, refl, refl);
}
  where
    by : (logs : ℕ) → MayCompact devices head logs f → IsBehind devices now head (other_side head logs) logs (group_for logs f) → IsFolded (logs_from now (other_side head logs) logs) (fold_of f)
    by zero m b = absurd (omega (arith, m.some))
    by (suc zero) m b = subst (λ z. IsFolded (z ∷ []) (fold_of f)) (sym b.there) (folded_one begun f (is_fit devices head 1 f m) (devices, head, m))
    by (suc (suc zero)) m b =
        let e : now (other_side head 2 + 1) ≡ [] = b.empty (other_side head 2 + 1) (record { behind = omega arith; before = omega arith }) (λ q. omega (arith, q)) in
        subst (λ z. IsFolded (now (other_side head 2) ∷ z ∷ []) (fold_of f)) (sym e) (subst (λ z. IsFolded (z ∷ [] ∷ []) (fold_of f)) (sym b.there) (folded_two begun f (is_fit devices head 2 f m) (devices, head, m)))
    by (suc (suc (suc n))) m b = absurd (omega (arith, m.few))

pub compacting_keeps : Begun → CompactingKeeps
compacting_keeps begun devices now head logs f m (inl b) = before devices now head logs f m b
compacting_keeps begun devices now head logs f m (inr b) = behind begun devices now head logs f m b

pub compacting_ends : CompactingEnds
compacting_ends = behind_set

pub clearing_keeps : ClearingKeeps
clearing_keeps devices now many head logs generation some u b = (used_before devices now many head logs generation some u b, lists_before devices now many head logs generation some u b)
