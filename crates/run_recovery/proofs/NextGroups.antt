-- The group that a log gets next, where its append has begun at a moment, is what waits there at that moment.
use Rattle.std.specs.Prelude.{◌≡◌, refl, ℕ, ◌%◌, ◌==◌, Bool, true, false, if◌then◌else◌, ◌⊎◌, Option, Some, None, List, [], ◌∷◌, ◌++◌}
use Rattle.std.proofs.Common.{inl, inr, sym, ap, subst, ◌∙◌}
use Rattle.std.proofs.lemmas.Bool.{eqb-true, eqb-false, eq-eqb}
use Rattle.std.proofs.lemmas.List.{append-nil, append_cancel_left, append_assoc}
use Rattle.run_effects.specs.Driven.{tried_on}
use Rattle.snap_base.proofs.Booleans.{first_false, second_false}
use Rattle.protocol.specs.Effects.{after, log_at}
use Rattle.protocol.specs.Events.{Event, Form, Complete, Sync, Commit, Prepare, Decide, book, cell, desk, footprint, log, post, ring}
use Rattle.protocol.specs.Fixed.{Fixed}
use Rattle.protocol.specs.Moments.{IsUnderWay, Moment, NoneTouches}
use Rattle.protocol.specs.Parts.{Machine}
use Rattle.protocol.specs.Runs.{opening, reached, state_after}
use Rattle.protocol.specs.Words.{is_among}
use Rattle.record_log.specs.Growth.{begun_groups}
use Rattle.run_effects.specs.Groups.{group_behind, group_by, groups_from, groups_of, waiting}
use Rattle.run_effects.proofs.RunsLonger.{state_longer}
use Rattle.run_effects.proofs.GroupsGrown.{set_elsewhere}
use Rattle.record_log.specs.txn_records.declared.records.Record.{Record}

-- ---- runs and lists, one behind the other

groups_join : {C : Type 0} (w : Fixed C) (l : ℕ) (es fs : List Event) (s : Machine C) → groups_from w l (es ++ fs) s ≡ groups_from w l es s ++ groups_from w l fs (state_after w es s)
groups_join w l [] fs s = refl
groups_join w l (e ∷ es) fs s = ap (λ gs. group_by l e s ++ gs) (groups_join w l es fs (after w e s)) ∙ sym (append_assoc (group_by l e s) (groups_from w l es (after w e s)) (groups_from w l fs (state_after w es (after w e s))))

begun_join : (xs ys : List (List Record)) (tried : Option (List Record)) → begun_groups (xs ++ ys) tried ≡ xs ++ begun_groups ys tried
begun_join xs ys None = refl
begun_join xs ys (Some group) = append_assoc xs ys (group ∷ [])

-- ---- an event that leaves the log alone

first_not : (l x : ℕ) (xs : List ℕ) → is_among (log l) (x ∷ xs) ≡ false → (x == log l) ≡ false
first_not l x xs e = first_false (x == log l) (is_among (log l) xs) e

rest_not : (l x : ℕ) (xs : List ℕ) → is_among (log l) (x ∷ xs) ≡ false → is_among (log l) xs ≡ false
rest_not l x xs e = second_false (x == log l) (is_among (log l) xs) e

second_not : (l x y : ℕ) (xs : List ℕ) → is_among (log l) (x ∷ y ∷ xs) ≡ false → (y == log l) ≡ false
second_not l x y xs e = first_not l y xs (rest_not l x (y ∷ xs) e)

third_not : (l x y z : ℕ) (xs : List ℕ) → is_among (log l) (x ∷ y ∷ z ∷ xs) ≡ false → (z == log l) ≡ false
third_not l x y z xs e = second_not l y z xs (rest_not l x (y ∷ z ∷ xs) e)

another : (k l : ℕ) → (log k == log l) ≡ false → k ≡ l → ⊥
another k l h e = eqb-false (log k) (log l) h (ap log e)

unchanged : {C : Type 0} (w : Fixed C) (e : Event) (s : Machine C) (l : ℕ) → is_among (log l) (footprint w.text.logs e) ≡ false → log_at (after w e s) l ≡ log_at s l
unfolding after
unchanged w (Form k) s l h =
    let n = k % w.text.logs in
    set_elsewhere s.logs n l _ (another n l (third_not l post desk (log n) [] (rest_not l ring (post ∷ desk ∷ log n ∷ []) h)))
unchanged w (Complete k a) s l h = let n = a % w.text.logs in set_elsewhere s.logs n l _ (another n l (first_not l (log n) (cell w.text.logs a ∷ []) h))
unchanged w (Sync k) s l h = set_elsewhere s.logs k l _ (another k l (first_not l (log k) [] h))
unchanged w (Commit k) s l h = let n = k % w.text.logs in set_elsewhere s.logs n l _ (another n l (second_not l desk (log n) [] h))
unchanged w (Prepare t a) s l h = let n = a % w.text.logs in set_elsewhere s.logs n l _ (another n l (second_not l book (log n) (cell w.text.logs a ∷ []) h))
unchanged w (Decide t) s l h = let n = t % w.text.logs in set_elsewhere s.logs n l _ (another n l (third_not l book desk (log n) [] h))
unchanged w _ s l h = refl

no_group : {C : Type 0} (logs : ℕ) (e : Event) (s : Machine C) (l : ℕ) → is_among (log l) (footprint logs e) ≡ false → group_by l e s ≡ []
no_group logs (Sync k) s l h = by (k == l) refl
  where
    by : (b : Bool) → (k == l) ≡ b → (if b then waiting (log_at s l) ∷ [] else []) ≡ []
    by true e = absurd (another k l (first_not l (log k) [] h) (eqb-true k l e))
    by false e = refl
no_group logs _ s l h = refl

record LeftAlone {C : Type 0} (w : Fixed C) (l : ℕ) (front : List Event) (s : Machine C) : Type 0 where
  same : log_at (state_after w front s) l ≡ log_at s l
  groups : (more : List Event) → groups_from w l (front ++ more) s ≡ groups_from w l more (state_after w front s)

left_alone : {C : Type 0} (w : Fixed C) (l : ℕ) (front : List Event) (s : Machine C) → NoneTouches w.text.logs l front → LeftAlone w l front s
left_alone w l [] s h = record { same = refl; groups = λ more. refl }
left_alone w l (e ∷ front) s h =
    let rest = left_alone w l front (after w e s) h.1 in
    record {
      same = rest.same ∙ unchanged w e s l h.0;
      groups = λ more. ap (λ gs. gs ++ groups_from w l (front ++ more) (after w e s)) (no_group w.text.logs e s l h.0) ∙ rest.groups more;
    }

-- ---- what the log gets from a moment on

-- the same that waits now, first of all; or nothing, and the same waits at the end
abbrev Gets : {C : Type 0} → Fixed C → ℕ → List Event → Machine C → Type 0
Gets w l fs s =
    ((groups_from w l fs s ≡ []) × (waiting (log_at (state_after w fs s) l) ≡ waiting (log_at s l)))
    ⊎ ((more : List (List Record)) × (groups_from w l fs s ≡ waiting (log_at s l) ∷ more))

synced_here : {C : Type 0} (l : ℕ) (s : Machine C) → group_by l (Sync l) s ≡ waiting (log_at s l) ∷ []
synced_here l s = ap (λ (b : Bool). if b then waiting (log_at s l) ∷ [] else []) (eq-eqb l l refl)

gets : {C : Type 0} (w : Fixed C) (l : ℕ) (fs : List Event) (s : Machine C) → IsUnderWay w.text.logs l fs → Gets w l fs s
gets {C} w l fs s u = by u.ends
  where
    alone : LeftAlone w l u.front s
    alone = left_alone w l u.front s u.untouched

    by : (u.rest ≡ []) ⊎ ((more : List Event) × (u.rest ≡ Sync l ∷ more)) → Gets w l fs s
    by (inl e) =
        let is : fs ≡ u.front ++ [] = u.splits ∙ ap (λ r. u.front ++ r) e in
        let at : state_after w fs s ≡ state_after w u.front s = ap (λ es. state_after w es s) (is ∙ append-nil u.front) in
        inl (ap (λ es. groups_from w l es s) is ∙ alone.groups [], ap (λ t. waiting (log_at t l)) at ∙ ap waiting alone.same)
    by (inr e) =
        let is : fs ≡ u.front ++ Sync l ∷ e.0 = u.splits ∙ ap (λ r. u.front ++ r) e.1 in
        let t = state_after w u.front s in
        inr (
          groups_from w l e.0 (after w (Sync l) t),
          ap (λ es. groups_from w l es s) is ∙ (alone.groups (Sync l ∷ e.0) ∙ (ap (λ gs. gs ++ groups_from w l e.0 (after w (Sync l) t)) (synced_here l t) ∙ ap (λ g. waiting g ∷ groups_from w l e.0 (after w (Sync l) t)) alone.same)),
        )

-- ---- the next group

tried_waits : (failed : ℕ → Bool) (l : ℕ) (behind group : List Record) (later : List (List Record)) → begun_groups [] (tried_on failed l behind) ≡ group ∷ later → group ≡ behind
tried_waits failed l behind group later e = by (failed l) e
  where
    by : (b : Bool) → begun_groups [] (if b then Some behind else None) ≡ group ∷ later → group ≡ behind
    by true i = let is : behind ≡ group = cc i in sym is
    by false i = absurd (cc i)

first_begun : (x : List Record) (xs : List (List Record)) (tried : Option (List Record)) (group : List Record) (later : List (List Record)) → begun_groups (x ∷ xs) tried ≡ group ∷ later → group ≡ x
first_begun x xs None group later e = let is : x ≡ group = cc e in sym is
first_begun x xs (Some g) group later e = let is : x ≡ group = cc e in sym is

next_of : {C : Type 0} (w : Fixed C) (l : ℕ) (fs : List Event) (s : Machine C) (failed : ℕ → Bool) (group : List Record) (later : List (List Record)) → Gets w l fs s
    → begun_groups (groups_from w l fs s) (tried_on failed l (waiting (log_at (state_after w fs s) l))) ≡ group ∷ later → group ≡ waiting (log_at s l)
next_of w l fs s failed group later (inl none) e =
    let waits = waiting (log_at (state_after w fs s) l) in
    tried_waits failed l waits group later (subst (λ gs. begun_groups gs (tried_on failed l waits) ≡ group ∷ later) none.0 e) ∙ none.1
next_of w l fs s failed group later (inr some) e =
    let tried = tried_on failed l (waiting (log_at (state_after w fs s) l)) in
    first_begun (waiting (log_at s l)) some.0 tried group later (subst (λ gs. begun_groups gs tried ≡ group ∷ later) some.1 e)

pub next_waits : {C : Type 0} (w : Fixed C) (es : List Event) (m : Moment w es) (l : ℕ) (failed : ℕ → Bool) (first : List (List Record)) (group : List Record) (later : List (List Record)) → m.has_begun l ≡ true
    → begun_groups (first ++ groups_of w l es) (tried_on failed l (group_behind w l es)) ≡ (first ++ groups_of w l m.events) ++ group ∷ later → group ≡ waiting (log_at (reached w m.events) l)
next_waits {C} w es m l failed first group later begun e = next_of w l m.later now failed group later (gets w l m.later now (m.begun l begun)) after_it
  where
    now : Machine C
    now = reached w m.events

    so_far : List (List Record)
    so_far = first ++ groups_of w l m.events

    groups : first ++ groups_of w l es ≡ so_far ++ groups_from w l m.later now
    groups =
        ap (λ fs. first ++ groups_of w l fs) m.splits
        ∙ (ap (λ gs. first ++ gs) (groups_join w l m.events m.later (opening w))
        ∙ sym (append_assoc first (groups_of w l m.events) (groups_from w l m.later now)))

    at : reached w es ≡ state_after w m.later now
    at = ap (λ fs. reached w fs) m.splits ∙ state_longer w m.events m.later (opening w)

    tried : Option (List Record)
    tried = tried_on failed l (waiting (log_at (state_after w m.later now) l))

    after_it : begun_groups (groups_from w l m.later now) tried ≡ group ∷ later
    after_it =
        append_cancel_left so_far (begun_groups (groups_from w l m.later now) tried) (group ∷ later)
        (sym (begun_join so_far (groups_from w l m.later now) tried)
        ∙ (ap (λ gs. begun_groups gs tried) (sym groups)
        ∙ (ap (λ t. begun_groups (first ++ groups_of w l es) (tried_on failed l (waiting (log_at t l)))) (sym at) ∙ e)))
