-- The states that are held of the actors of a log are those that its records leave, of those that are committed.
use Rattle.std.proofs.Common.{◌≡◌, ℕ, ◌+◌, ◌%◌, ◌<◌, ◌⊎◌, inl, inr, ◌↔◌, Option, Some, List, [], ◌∷◌, ◌++◌, length, take, get_or, sym, ap, subst, ◌∙◌}
use Rattle.std.specs.Prelude.{slice_get}
use Rattle.std.specs.Option.{option_or}
use Rattle.std.specs.Ordering.{nat_cmp}
use Rattle.std.specs.Map.{lookup}
use Rattle.std.specs.BTreeMap as table
use Rattle.std.specs.BTreeMap.{BTreeMap, is_at}
use Rattle.std.proofs.lemmas.Bool.{cases_Bool}
use Rattle.snap_base.specs.declared.transactions.State.{State}
use Rattle.txn_records.specs.declared.records.Record.{Record}
use Rattle.txn_records.specs.declared.keys.Key.{Key}
use Rattle.snap_recover.specs.Logs.{states_in}
use Rattle.snap_recover.proofs.Steps.{taken}
use Rattle.snap_follow.specs.declared.commits.Commits.{Commits}
use Rattle.snap_follow.specs.Followed.{Tells, IsAnother}
use Rattle.snap_follow.specs.Passes.{IsInSet, BeginsWith, IsHeld, held_state, HoldsStates, HoldsOwn, NotesStates, TellsAnother}
use Rattle.snap_follow.proofs.Changes.{tells_one, one_told, left_more, left_none}
use Rattle.snap_follow.proofs.Deciding.{same_number}
use Rattle.snap_follow.proofs.NumberSets.{at_true}

-- ---- one state

-- not one that is not there
pub holds_not_there : (first : List State) (there : Commits) (k : Key) (a : ℕ) (s : State) (states : BTreeMap ℕ State) → ¬ IsInSet there k → HoldsOwn first there k a s states states
holds_not_there first there k a s states off b t = ((λ h. inr ((λ p. off p.0), h)), λ h. elim h [ inl p ↦ absurd (off p.0) | inr p ↦ p.1 ])

-- it is held already
pub holds_same : (first : List State) (there : Commits) (k : Key) (a : ℕ) (s : State) (states : BTreeMap ℕ State) → IsInSet there k → IsHeld first states a s → HoldsOwn first there k a s states states
holds_same first there k a s states on held b t = (
  λ h. elim (same_number a b) [
    | inl e ↦ inl (on, e, one (subst (λ (z : ℕ). IsHeld first states z s) e held) h)
    | inr n ↦ inr ((λ p. n p.1), h)
  ],
  λ h. elim h [
    | inl p ↦ subst (λ (z : ℕ). IsHeld first states z t) p.1 (subst (IsHeld first states a) p.2 held)
    | inr p ↦ p.1
  ],
)
  where
    one : IsHeld first states b s → IsHeld first states b t → s ≡ t
    one g h = let both : ◌≡◌ {A = Option State} (Some s) (Some t) = sym g ∙ h in cc both

-- it is put in
pub holds_put : (first : List State) (there : Commits) (k : Key) (a : ℕ) (s : State) (old new : BTreeMap ℕ State) → IsInSet there k → table.Updates nat_cmp old new a (Some s) → HoldsOwn first there k a s old new
holds_put first there k a s old new on u b t = by (same_number a b)
  where
    other : ¬ (a ≡ b) → held_state first new b ≡ held_state first old b
    other n = elim (cases_Bool (is_at (nat_cmp a) b)) [
      | inl e ↦ absurd (n (at_true a b e))
      | inr e ↦ ap (λ (z : Option State). option_or z (slice_get first b)) (u.2 b e)
    ]

    here : a ≡ b → held_state first new b ≡ Some s
    here e = subst (λ (z : ℕ). held_state first new z ≡ Some s) e (ap (λ (z : Option State). option_or z (slice_get first a)) u.1)

    by : (a ≡ b) ⊎ (a ≡ b → ⊥) → IsHeld first new b t ↔ ((IsInSet there k × (a ≡ b) × (s ≡ t)) ⊎ (¬ (IsInSet there k × (a ≡ b)) × IsHeld first old b t))
    by (inl e) = (
      (λ h. inl (on, e, (let both : ◌≡◌ {A = Option State} (Some s) (Some t) = sym (here e) ∙ h in cc both))),
      λ h. elim h [ inl p ↦ here e ∙ ap (λ (z : State). Some z) p.2 | inr p ↦ absurd (p.0 (on, e)) ],
    )
    by (inr n) = (
      (λ h. inr ((λ p. n p.1), sym (other n) ∙ h)),
      λ h. elim h [ inl p ↦ absurd (n p.1) | inr p ↦ other n ∙ p.1 ],
    )

-- ---- one record

-- it tells no state of an actor whose log this is
pub states_quiet : (first : List State) (there : Commits) (log logs : ℕ) (r : Record) (states : BTreeMap ℕ State) → ((a : ℕ) (k : Key) → a % logs ≡ log → ¬ Tells a k r) → NotesStates first there log logs r states states
states_quiet first there log logs r states none a t home = (
  (λ h. inr ((λ p. none a p.0 home p.2), h)),
  λ h. elim h [ inl p ↦ absurd (none a p.1.0 home p.1.2) | inr p ↦ p.1 ],
)

pub states_told : (first : List State) (there : Commits) (log logs : ℕ) (r : Record) (k : Key) (a : ℕ) (s : State) (old new : BTreeMap ℕ State) → Tells a k r → states_in r ≡ s ∷ [] → HoldsOwn first there k a s old new → NotesStates first there log logs r old new
states_told first there log logs r k a s old new told tells holds b t home = (
  λ h. elim ((holds b t).0 h) [
    | inl p ↦ inl (tells ∙ ap (λ (z : State). z ∷ []) p.2, (k, p.0, subst (λ (z : ℕ). Tells z k r) p.1 told))
    | inr p ↦ inr ((λ q. let same = tells_one a b k q.0 r told q.2 in p.0 (subst (IsInSet there) (sym same.1) q.1, same.0)), p.1)
  ],
  λ h. elim h [
    | inl p ↦
        let same = tells_one a b k p.1.0 r told p.1.2 in
        (holds b t).1 (inl (subst (IsInSet there) (sym same.1) p.1.1, same.0, one_told r s t tells p.0))
    | inr p ↦ (holds b t).1 (inr ((λ q. p.0 (k, q.0, subst (λ (z : ℕ). Tells z k r) q.1 told)), p.1))
  ],
)

-- another than this one is held
pub tells_another : (first : List State) (states : BTreeMap ℕ State) (a : ℕ) (r : Record) (s : State) → states_in r ≡ s ∷ [] → ¬ IsHeld first states a s → TellsAnother first states a r
tells_another first states a r s tells n t h e = n (subst (IsHeld first states a) (one_told r t s e tells) h)

pub not_held : (first : List State) (states : BTreeMap ℕ State) (a : ℕ) (r : Record) (s : State) → states_in r ≡ s ∷ [] → TellsAnother first states a r → ¬ IsHeld first states a s
not_held first states a r s tells n h = n s h tells

-- ---- one log

pub holds_none : (first : List State) (there : Commits) (log logs : ℕ) (states : BTreeMap ℕ State) → states.entries ≡ [] → HoldsStates first there log logs [] states
holds_none first there log logs states e a s home = (
  (λ h. (left_none (IsInSet there) (BeginsWith first) a s).1 (sym is ∙ h)),
  λ h. is ∙ (left_none (IsInSet there) (BeginsWith first) a s).0 h,
)
  where
    is : held_state first states a ≡ slice_get first a
    is = ap (λ (z : List (ℕ × State)). option_or (lookup (is_at (nat_cmp a)) z) (slice_get first a)) e

holds_more : (first : List State) (there : Commits) (log logs : ℕ) (rs : List Record) (r : Record) (old new : BTreeMap ℕ State) → HoldsStates first there log logs rs old → NotesStates first there log logs r old new → HoldsStates first there log logs (rs ++ r ∷ []) new
holds_more first there log logs rs r old new h n a s home =
    let more = left_more (IsInSet there) (BeginsWith first) a rs r s in (
      λ i. more.1 (elim ((n a s home).0 i) [ inl p ↦ inl p | inr p ↦ inr (p.0, (h a s home).0 p.1) ]),
      λ i. (n a s home).1 (elim (more.0 i) [ inl p ↦ inl p | inr p ↦ inr (p.0, (h a s home).1 p.1) ]),
    )

pub holds_step : (first : List State) (there : Commits) (log logs : ℕ) (rs : List Record) (i : ℕ) (r : Record) (old new : BTreeMap ℕ State) → i < length rs → r ≡ get_or rs i r → HoldsStates first there log logs (take i rs) old → NotesStates first there log logs r old new
    → HoldsStates first there log logs (take (i + 1) rs) new
holds_step first there log logs rs i r old new l at h n = subst (λ (z : List Record). HoldsStates first there log logs z new) (sym (taken rs i r l at)) (holds_more first there log logs (take i rs) r old new h n)

-- what is held decides whether the record tells another state
pub is_another : (first : List State) (there : Commits) (log logs : ℕ) (rs : List Record) (states : BTreeMap ℕ State) (a : ℕ) (r : Record) → a % logs ≡ log → HoldsStates first there log logs rs states → TellsAnother first states a r → IsAnother (IsInSet there) (BeginsWith first) a rs r
is_another first there log logs rs states a r home h n s left = n s ((h a s home).1 left)

pub another_held : (first : List State) (there : Commits) (log logs : ℕ) (rs : List Record) (states : BTreeMap ℕ State) (a : ℕ) (r : Record) → a % logs ≡ log → HoldsStates first there log logs rs states → IsAnother (IsInSet there) (BeginsWith first) a rs r → TellsAnother first states a r
another_held first there log logs rs states a r home h n s held = n s ((h a s home).0 held)
