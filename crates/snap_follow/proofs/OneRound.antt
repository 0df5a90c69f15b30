-- A round gives one answer.
use Rattle.std.proofs.Common.{◌≡◌, ℕ, inl, inr, Option, Some, List, [], ◌∷◌, length, map, sym, ap, subst, ◌∙◌}
use Rattle.std.specs.Prelude.{Contains}
use Rattle.std.specs.List.{AllByRecursion, enumerate_from}
use Rattle.snap_base.specs.declared.transactions.State.{State}
use Rattle.txn_records.specs.declared.records.Record.{Record}
use Rattle.txn_records.specs.declared.records.Record.TheVariants.{Genesis}
use Rattle.txn_records.specs.declared.keys.Key.{Key}
use Rattle.snap_recover.specs.declared.openings.Kept.{Kept}
use Rattle.snap_recover.specs.Logs.{states_in, geneses}
use Rattle.snap_recover.specs.Opening.{IsKeptIn, AreBegunWith, commit_of}
use Rattle.snap_recover.proofs.Lists.{one_last, all_middle, zip_one, all_contains, contains_map, contains_unmap}
use Rattle.snap_recover.proofs.OneOpening.{one_committed, one_first_states}
use Rattle.log_compact.specs.Sets.{plain_lists}
use Rattle.snap_follow.specs.Followed.{AreMembers, CountsFor, IsFollowedState, AreFollowedStates}
use Rattle.snap_follow.specs.Laws.{OneRound}
use Rattle.snap_follow.specs.Rounds.{HasStates}
use Rattle.snap_follow.proofs.OneKept.{one_kept}
use Rattle.snap_follow.proofs.Taking.{one_taking}

-- ---- the members

members_within : (taken : List Key) (before now : List (List Record)) (xs ys : List Kept) → AreMembers taken before now xs → AreMembers taken before now ys → (x : Kept) → Contains xs x → Contains ys x
members_within taken before now xs ys p q x m =
    let here : IsKeptIn now x = all_contains (IsKeptIn now) xs x p.each m in
    let among = (one_taking taken before now (map commit_of xs) (map commit_of ys) p.takes q.takes (commit_of x)).0 (contains_map commit_of xs x m) in
    let r = contains_unmap commit_of ys (commit_of x) among in
    let there : IsKeptIn now r.0 = all_contains (IsKeptIn now) ys r.0 q.each r.1 in
    subst (Contains ys) (one_kept now r.0 x there here r.2) r.1

one_members : (taken : List Key) (before now : List (List Record)) (xs ys : List Kept) → AreMembers taken before now xs → AreMembers taken before now ys → xs ≡ ys
one_members taken before now xs ys p q = one_committed xs ys p.ascend q.ascend (members_within taken before now xs ys p q) (members_within taken before now ys xs q p)

-- ---- the states

one_state : (members : List Key) (now : List (List Record)) (a : ℕ) (first s t : State) → IsFollowedState members now a first s → IsFollowedState members now a first t → s ≡ t
one_state members now a first s t (inl (r, told, p)) (inl (q, given, h)) =
    let same : r ≡ q = one_last (CountsFor members a) p.0 p.1 h.0 h.1 r q (sym p.2 ∙ h.2) p.3 h.3 p.4 h.4 in
    let one : s ∷ [] ≡ t ∷ [] = sym told ∙ ap states_in same ∙ given in
    cc
one_state members now a first s t (inl (r, told, p)) (inr h) =
    absurd (all_middle (λ x. ¬ CountsFor members a x) p.0 r p.1 (subst (AllByRecursion (λ x. ¬ CountsFor members a x)) p.2 h.0) p.3)
one_state members now a first s t (inr h) (inl (r, told, p)) =
    absurd (all_middle (λ x. ¬ CountsFor members a x) p.0 r p.1 (subst (AllByRecursion (λ x. ¬ CountsFor members a x)) p.2 h.0) p.3)
one_state members now a first s t (inr p) (inr h) = p.1 ∙ sym h.1

one_states : (members : List Key) (now : List (List Record)) (first xs ys : List State) → AreFollowedStates members now first xs → AreFollowedStates members now first ys → xs ≡ ys
one_states members now first xs ys p q = zip_one (λ (x : ℕ × State) s. IsFollowedState members now x.0 x.1 s) (enumerate_from 0 first) xs ys (λ x s t h g. one_state members now x.0 x.1 s t h g) p q

no_genesis : (now : List (List Record)) (first : List State) → geneses now ≡ [] → AreBegunWith now first → ⊥
no_genesis now first e b = let bad : [] ≡ Genesis (length now) first ∷ [] = sym e ∙ b.one in cc bad

states_alone : (now : List (List Record)) (members : List Kept) (old x y : Option (List State)) → HasStates now members old x → HasStates now members old y → x ≡ y
states_alone now members old x y (inl p) (inl q) = p.1 ∙ sym q.1
states_alone now members old x y (inl p) (inr q) = absurd (no_genesis now q.0 p.0 q.2)
states_alone now members old x y (inr p) (inl q) = absurd (no_genesis now p.0 q.0 p.2)
states_alone now members old x y (inr p) (inr q) =
    let first : p.0 ≡ q.0 = one_first_states now p.0 q.0 p.2.one q.2.one in
    let told : AreFollowedStates (map commit_of members) now q.0 p.1 = subst (λ (z : List State). AreFollowedStates (map commit_of members) now z p.1) first p.4 in
    p.3 ∙ (ap (λ z. Some z) (one_states (map commit_of members) now q.0 p.1 q.1 told q.4) ∙ sym q.3)

-- ---- the whole

pub one_round : OneRound
one_round f lists g h x y =
    let before : g.before ≡ h.before = x.before ∙ sym y.before in
    let members : g.members ≡ h.members = one_members (map commit_of f.members) (plain_lists f.before) (plain_lists lists) g.members h.members x.members y.members in
    let states : g.states ≡ h.states = states_alone (plain_lists lists) h.members f.states g.states h.states (subst (λ (z : List Kept). HasStates (plain_lists lists) z f.states g.states) members x.states) y.states in
    λ i. record { before = before i; members = members i; states = states i }
