-- Those that rest on somebody who is left out, as passes over the logs find them.
use Rattle.std.proofs.Common.{◌≡◌, ℕ, ◌+◌, ◌%◌, ◌<◌, ◌≤◌, inl, inr, ◌↔◌, List, [], ◌∷◌, ◌++◌, length, take, get_or, sym, subst, arith}
use Rattle.std.proofs.Math.Nat.{mod-lt}
use Rattle.std.specs.Prelude.{Contains}
use Rattle.std.specs.BTreeMap.{BTreeMap}
use Rattle.std.specs.BTreeSet.{BTreeSet}
use Rattle.snap_base.specs.declared.transactions.State.{State}
use Rattle.txn_records.specs.declared.records.Record.{Record}
use Rattle.txn_records.specs.declared.keys.Key.{Key}
use Rattle.snap_recover.specs.Logs.{log_of, states_in}
use Rattle.snap_recover.proofs.Homes.{Inserts, at_log, below_cases}
use Rattle.snap_recover.proofs.Lists.{contains_none, contains_cases, contains_here, contains_append, contains_left, contains_right}
use Rattle.snap_recover.proofs.Steps.{taken}
use Rattle.snap_follow.proofs.NumberSets.{empty_set}
use Rattle.snap_follow.proofs.Changes.{tells_one, changed_more, changed_keeps, changed_here, changed_none, ahead_more, ahead_keeps, ahead_here, ahead_none}
use Rattle.snap_follow.proofs.Held.{tells_another, not_held, is_another, another_held}
use Rattle.snap_follow.specs.declared.commits.Commits.{Commits}
use Rattle.snap_follow.specs.Followed.{Tells}
use Rattle.snap_follow.specs.Passes.{In, IsInSet, IsLeftOut, IsNewcomer, BeginsWith, IsHeld, HoldsStates, TellsAnother, RestsIn, HasBlocked, AddsLeaving, LeavesBlocked, NotesLeaving, BlocksOwn, NotesBlocked, AreLeaving}

-- ---- one of a log

-- nobody is added
pub leaves_nobody : (taken set : Commits) (k : Key) (a : ℕ) (blocked : BTreeSet ℕ) (leaving : List Key) → (IsNewcomer taken set k → In blocked a → ⊥) → LeavesBlocked taken set k a blocked leaving leaving
leaves_nobody taken set k a blocked leaving quiet j =
    ((λ h. inl h), λ h. elim h [ inl o ↦ o | inr p ↦ absurd (quiet p.1 p.2) ])

pub leaves_pushed : (taken set : Commits) (k : Key) (a : ℕ) (blocked : BTreeSet ℕ) (leaving new : List Key) → new ≡ leaving ++ k ∷ [] → IsNewcomer taken set k → In blocked a → LeavesBlocked taken set k a blocked leaving new
leaves_pushed taken set k a blocked leaving new e is_new inside j = (
  λ h. elim (contains_append leaving (k ∷ []) j (subst (λ (z : List Key). Contains z j) e h)) [
    | inl o ↦ inl o
    | inr i ↦ elim (contains_cases k j [] i) [ inl q ↦ inr (q, is_new, inside) | inr n ↦ absurd (contains_none j n) ]
  ],
  λ h. subst (λ (z : List Key). Contains z j) (sym e) (elim h [
    | inl o ↦ contains_left leaving (k ∷ []) j o
    | inr p ↦ subst (λ (z : Key). Contains (leaving ++ k ∷ []) z) p.0 (contains_right leaving (k ∷ []) k (contains_here k []))
  ]),
)

-- it blocks no actor
pub blocks_none : (first : List State) (there set : Commits) (k : Key) (a : ℕ) (s : State) (states : BTreeMap ℕ State) (blocked : BTreeSet ℕ) → (IsLeftOut there set k → ¬ IsHeld first states a s → ⊥) → BlocksOwn first there set k a s states blocked blocked
blocks_none first there set k a s states blocked quiet b =
    ((λ h. inl h), λ h. elim h [ inl o ↦ o | inr p ↦ absurd (quiet p.1 p.2) ])

pub blocks_put : (first : List State) (there set : Commits) (k : Key) (a : ℕ) (s : State) (states : BTreeMap ℕ State) (blocked new : BTreeSet ℕ) → Inserts a (In blocked) (In new) → IsLeftOut there set k → ¬ IsHeld first states a s → BlocksOwn first there set k a s states blocked new
blocks_put first there set k a s states blocked new ins left n b = (
  λ h. elim ((ins b).0 h) [ inl o ↦ inl o | inr e ↦ inr (e, left, n) ],
  λ h. elim h [ inl o ↦ (ins b).1 (inl o) | inr p ↦ (ins b).1 (inr p.0) ],
)

-- ---- one record

pub quiet_leaving : (taken set : Commits) (log logs : ℕ) (r : Record) (blocked : BTreeSet ℕ) (leaving : List Key) → ((a : ℕ) (k : Key) → a % logs ≡ log → ¬ Tells a k r) → NotesLeaving taken set log logs r blocked leaving leaving
quiet_leaving taken set log logs r blocked leaving quiet k =
    ((λ h. inl h), λ h. elim h [ inl o ↦ o | inr p ↦ absurd (quiet p.1.0 k p.1.1 p.1.2) ])

pub quiet_blocked : (first : List State) (there set : Commits) (log logs : ℕ) (r : Record) (states : BTreeMap ℕ State) (blocked : BTreeSet ℕ) → ((a : ℕ) (k : Key) → a % logs ≡ log → ¬ Tells a k r) → NotesBlocked first there set log logs r states blocked blocked
quiet_blocked first there set log logs r states blocked quiet a =
    ((λ h. inl h), λ h. elim h [ inl o ↦ o | inr p ↦ absurd (quiet a p.1.0 p.0 p.1.1) ])

pub told_leaving : (taken set : Commits) (log logs : ℕ) (r : Record) (k : Key) (a : ℕ) (blocked : BTreeSet ℕ) (old new : List Key) → a % logs ≡ log → Tells a k r → LeavesBlocked taken set k a blocked old new → NotesLeaving taken set log logs r blocked old new
told_leaving taken set log logs r k a blocked old new home told leaves j = (
  λ h. elim ((leaves j).0 h) [
    | inl o ↦ inl o
    | inr p ↦ inr (subst (IsNewcomer taken set) p.0 p.1, (a, home, subst (λ (z : Key). Tells a z r) p.0 told, p.2))
  ],
  λ h. elim h [
    | inl o ↦ (leaves j).1 (inl o)
    | inr p ↦
        let same = tells_one a p.1.0 k j r told p.1.2 in
        (leaves j).1 (inr (same.1, subst (IsNewcomer taken set) (sym same.1) p.0, subst (In blocked) (sym same.0) p.1.3))
  ],
)

pub told_blocked : (first : List State) (there set : Commits) (log logs : ℕ) (r : Record) (k : Key) (a : ℕ) (s : State) (states : BTreeMap ℕ State) (old new : BTreeSet ℕ) → a % logs ≡ log → Tells a k r → states_in r ≡ s ∷ []
    → BlocksOwn first there set k a s states old new → NotesBlocked first there set log logs r states old new
told_blocked first there set log logs r k a s states old new home told tells blocks b = (
  λ h. elim ((blocks b).0 h) [
    | inl o ↦ inl o
    | inr p ↦ inr (subst (λ (z : ℕ). z % logs ≡ log) p.0 home, (k, subst (λ (z : ℕ). Tells z k r) p.0 told, p.1, subst (λ (z : ℕ). TellsAnother first states z r) p.0 (tells_another first states a r s tells p.2)))
  ],
  λ h. elim h [
    | inl o ↦ (blocks b).1 (inl o)
    | inr p ↦
        let same = tells_one a b k p.1.0 r told p.1.1 in
        (blocks b).1 (inr (same.0, subst (IsLeftOut there set) (sym same.1) p.1.2, not_held first states a r s tells (subst (λ (z : ℕ). TellsAnother first states z r) (sym same.0) p.1.3)))
  ],
)

-- ---- one log

pub blocked_none : (first : List State) (there set : Commits) (log logs : ℕ) (blocked : BTreeSet ℕ) → blocked.keys ≡ [] → HasBlocked first there set log logs [] blocked
blocked_none first there set log logs blocked e a = ((λ h. absurd (empty_set blocked e a h)), λ h. absurd (changed_none (IsInSet there) (BeginsWith first) a h.1.0 h.1.1))

pub leaving_none : (first : List State) (there taken set : Commits) (log logs : ℕ) (leaving : List Key) → AddsLeaving first there taken set log logs [] leaving leaving
leaving_none first there taken set log logs leaving k = ((λ h. inl h), λ h. elim h [ inl o ↦ o | inr p ↦ absurd (ahead_none (IsInSet there) (BeginsWith first) p.1.0 p.1.2.0 k p.1.2.1) ])

blocked_more : (first : List State) (there set : Commits) (log logs : ℕ) (rs : List Record) (r : Record) (states : BTreeMap ℕ State) (old new : BTreeSet ℕ) → HoldsStates first there log logs rs states → HasBlocked first there set log logs rs old
    → NotesBlocked first there set log logs r states old new → HasBlocked first there set log logs (rs ++ r ∷ []) new
blocked_more first there set log logs rs r states old new holds h n a = (
  λ i. elim ((n a).0 i) [
    | inl o ↦ let p = (h a).0 o in (p.0, (p.1.0, changed_keeps (IsInSet there) (BeginsWith first) a p.1.0 rs (r ∷ []) p.1.1, p.1.2))
    | inr p ↦ (p.0, (p.1.0, changed_here (IsInSet there) (BeginsWith first) a p.1.0 rs r p.1.1 (is_another first there log logs rs states a r p.0 holds p.1.3), p.1.2))
  ],
  λ p. elim (changed_more (IsInSet there) (BeginsWith first) a p.1.0 rs r p.1.1) [
    | inl t ↦ (n a).1 (inl ((h a).1 (p.0, (p.1.0, t, p.1.2))))
    | inr t ↦ (n a).1 (inr (p.0, (p.1.0, t.0, p.1.2, another_held first there log logs rs states a r p.0 holds t.1)))
  ],
)

leaving_more : (first : List State) (there taken set : Commits) (log logs : ℕ) (rs : List Record) (r : Record) (blocked : BTreeSet ℕ) (old mid new : List Key) → HasBlocked first there set log logs rs blocked → AddsLeaving first there taken set log logs rs old mid → NotesLeaving taken set log logs r blocked mid new
    → AddsLeaving first there taken set log logs (rs ++ r ∷ []) old new
leaving_more first there taken set log logs rs r blocked old mid new b h n k = (
  λ i. elim ((n k).0 i) [
    | inl m ↦ elim ((h k).0 m) [
      | inl o ↦ inl o
      | inr p ↦ inr (p.0, (p.1.0, p.1.1, (p.1.2.0, ahead_keeps (IsInSet there) (BeginsWith first) p.1.0 p.1.2.0 k rs (r ∷ []) p.1.2.1, p.1.2.2)))
    ]
    | inr p ↦
        let q = (b p.1.0).0 p.1.3 in
        inr (p.0, (p.1.0, p.1.1, (q.1.0, ahead_here (IsInSet there) (BeginsWith first) p.1.0 q.1.0 k rs r p.1.2 q.1.1, q.1.2)))
  ],
  λ i. elim i [
    | inl o ↦ (n k).1 (inl ((h k).1 (inl o)))
    | inr p ↦ elim (ahead_more (IsInSet there) (BeginsWith first) p.1.0 p.1.2.0 k rs r p.1.2.1) [
      | inl ahead ↦ (n k).1 (inl ((h k).1 (inr (p.0, (p.1.0, p.1.1, (p.1.2.0, ahead, p.1.2.2))))))
      | inr t ↦ (n k).1 (inr (p.0, (p.1.0, p.1.1, t.0, (b p.1.0).1 (p.1.1, (p.1.2.0, t.1, p.1.2.2)))))
    ]
  ],
)

pub blocked_step : (first : List State) (there set : Commits) (log logs : ℕ) (rs : List Record) (i : ℕ) (r : Record) (states : BTreeMap ℕ State) (old new : BTreeSet ℕ) → i < length rs → r ≡ get_or rs i r → HoldsStates first there log logs (take i rs) states
    → HasBlocked first there set log logs (take i rs) old → NotesBlocked first there set log logs r states old new → HasBlocked first there set log logs (take (i + 1) rs) new
blocked_step first there set log logs rs i r states old new l at holds h n =
    subst (λ (z : List Record). HasBlocked first there set log logs z new) (sym (taken rs i r l at)) (blocked_more first there set log logs (take i rs) r states old new holds h n)

pub leaving_step : (first : List State) (there taken_before set : Commits) (log logs : ℕ) (rs : List Record) (i : ℕ) (r : Record) (blocked : BTreeSet ℕ) (old mid new : List Key) → i < length rs → r ≡ get_or rs i r → HasBlocked first there set log logs (take i rs) blocked
    → AddsLeaving first there taken_before set log logs (take i rs) old mid → NotesLeaving taken_before set log logs r blocked mid new → AddsLeaving first there taken_before set log logs (take (i + 1) rs) old new
leaving_step first there taken_before set log logs rs i r blocked old mid new l at b h n =
    subst (λ (z : List Record). AddsLeaving first there taken_before set log logs z old new) (sym (taken rs i r l at)) (leaving_more first there taken_before set log logs (take i rs) r blocked old mid new b h n)

-- ---- a pass for each log

-- those that rest on one that is left out, in the logs below this one
abbrev pub LeavingThrough : List State → Commits → Commits → Commits → List (List Record) → ℕ → List Key → Type 0
LeavingThrough first there taken_before set now i leaving = (k : Key) →
    Contains leaving k ↔ (IsNewcomer taken_before set k × ((a : ℕ) × (a % length now < i) × RestsIn first there set a (log_of now a) k))

pub leaving_through : (first : List State) (there taken_before set : Commits) (now : List (List Record)) (i : ℕ) (rs : List Record) (old new : List Key) → i < length now → rs ≡ get_or now i rs → AddsLeaving first there taken_before set i (length now) rs old new
    → LeavingThrough first there taken_before set now i old → LeavingThrough first there taken_before set now (i + 1) new
leaving_through first there taken_before set now i rs old new l at adds h k = (
  λ n. elim ((adds k).0 n) [
    | inl o ↦ let p = (h k).0 o in (p.0, (p.1.0, (let low : p.1.0 % length now < i = p.1.1 in omega arith), p.1.2))
    | inr p ↦ (p.0, (p.1.0, (let e : p.1.0 % length now ≡ i = p.1.1 in omega arith), subst (λ (z : List Record). RestsIn first there set p.1.0 z k) (sym (at_log now p.1.0 i rs l at p.1.1)) p.1.2))
  ],
  λ p. elim (below_cases (p.1.0 % length now) i p.1.1) [
    | inl low ↦ (adds k).1 (inl ((h k).1 (p.0, (p.1.0, low, p.1.2))))
    | inr e ↦ (adds k).1 (inr (p.0, (p.1.0, e, subst (λ (z : List Record). RestsIn first there set p.1.0 z k) (at_log now p.1.0 i rs l at e) p.1.2)))
  ],
)

pub leaving_end : (first : List State) (there taken_before set : Commits) (now : List (List Record)) (i : ℕ) (leaving : List Key) → 0 < length now → length now ≤ i → LeavingThrough first there taken_before set now i leaving → AreLeaving first there taken_before set now leaving
leaving_end first there taken_before set now i leaving some l h k = (
  λ c. let p = (h k).0 c in (p.0, (p.1.2.0, (p.1.0, p.1.2.1), p.1.2.2)),
  λ p. (h k).1 (p.0, (p.1.1.0, (let low = mod-lt p.1.1.0 some in omega (arith, low, l)), (p.1.0, p.1.1.1, p.1.2))),
)
