-- ACTs and the actors that they joined.
use Rattle.std.specs.Prelude.{◌≡◌, refl, ℕ, max, ◌%◌, ◌==◌, not, Bool, true, false, ◌&&◌, ◌||◌, ◌⊎◌, if◌then◌else◌, Option, Some, None, is_some, List, [], ◌∷◌, ◌++◌, map, find}
use Rattle.std.specs.List.{AllByRecursion, list_any}
use Rattle.std.proofs.Common.{sym, ap, subst, inl, inr, ◌∙◌}
use Rattle.std.proofs.lemmas.List.{append-nil}
use Rattle.std.proofs.lemmas.Bool.{true≢false, or_cases, or_left, or_right, and_parts, eqb-true, eq-eqb, cases_Bool, false_from_ne_true, or_from, or_parts, and_from}
use Rattle.protocol.specs.Fixed.{Fixed}
use Rattle.protocol.specs.Records.{is_prepare}
use Rattle.protocol.specs.Parts.{Act, Joined, Cascade, Who, OfBatch, OfAct, Machine}
use Rattle.protocol.specs.Events.{Event, Form, Admit, Arrive, Ask, Run, End, Complete, Sync, Commit, Rollback, Prepare, Vouch, Decide, Seal, Finish, Trim}
use Rattle.protocol.specs.Words.{holds, is_who, is_value, is_failure, is_doomed, is_live_act, is_ended, is_aborted, outcome_of, joined_of, act_of, value_of, lock_of, floor_at, who_on}
use Rattle.protocol.specs.Conditions.{IsAllowed, conditions}
use Rattle.protocol.specs.Effects.{after, cell_at, no_cell, act_commit}
use Rattle.protocol.specs.OnBook as book
use Rattle.protocol.specs.OnCell as cell
use Rattle.protocol.specs.History.{History, Ran, Stands, Gone, grown, with_at, not_run, completed, left_for_good, without_standing, long_staying, asks, is_traceless, ran_on}
use Rattle.protocol_records.specs.Logged.{is_ran_of, is_on, has_joined, ActStands, ActsStand, OnJoined, Prepared}
use Rattle.protocol_laws.specs.Told.{EachAct}
use Rattle.protocol_laws.specs.Tracks.{keys_in, is_key_among, NoneGone, CutIsEnd}
use Rattle.protocol_laws.proofs.machine.PlaceLists
use Rattle.protocol_laws.proofs.machine.PlacesKept.{Placed}
use Rattle.protocol_laws.proofs.machine.BehindKept.{none_bad}
use Rattle.protocol_laws.proofs.machine.TracksKept.{held}
use Rattle.protocol_laws.proofs.machine.TurnsKept.{one_is}
use Rattle.protocol_laws.proofs.machine.ControlWalk.{AllControls}
use Rattle.protocol_laws.proofs.machine.ActsFound as acts
use Rattle.protocol_laws.proofs.machine.ActsFound.{HoldsAnyway}
use Rattle.protocol_laws.proofs.machine.ActResults as results
use Rattle.protocol_laws.proofs.machine.ActResults.{NoneActed}
use Rattle.protocol_laws.proofs.machine.BehindKept.{Behind, AllBehind}
use Rattle.protocol_laws.proofs.machine.QueuedKept.{in_book}
use Rattle.protocol_records.proofs.crash.OnLong.{on_at, on_more, on_map, ran_same, completed_same, left_same, on_without}
use Rattle.protocol_records.proofs.crash.TellLists.{on_less_without, on_less_staying}
use Rattle.protocol_records.proofs.crash.Durable.{any_back, logged_added}
use Rattle.protocol_records.proofs.crash.KeptSure.{there_is}
use Rattle.protocol_laws.proofs.first.Lists.{all_join, all_map, any_front, some_held, some_of, weaker}
use Rattle.protocol_laws.proofs.first.Statuses.{decided_doomed, sealed_doomed, value_some}
use Rattle.protocol_laws.proofs.machine.MarksKept.{log_synced}
use Rattle.protocol_theorems.proofs.quiet.QuietEasy.{passes}

-- ---- a place that was joined stays

any_actor : (a b : ℕ) (f : Joined → Joined) (ps : List Joined) → ((p : Joined) → (f p).actor ≡ p.actor) → list_any (λ p. p.actor == a) (map (λ p. book.mark_if (p.actor == b) f p) ps) ≡ list_any (λ p. p.actor == a) ps
any_actor a b f [] i = refl
any_actor a b f (p ∷ ps) i = rw (any_actor a b f ps i, by (p.actor == b)) refl
  where
    by : (v : Bool) → (book.mark_if v f p).actor ≡ p.actor
    by true = i p
    by false = refl

holds_place : (t a : ℕ) → HoldsAnyway (λ u x. u ≡ t → has_joined a x ≡ true)
holds_place t a = record { numbered = λ u x n p. p; doomed = λ u x v l p. p; rises = λ u k x l p. p }

ready_place : {C : Type 0} (w : Fixed C) (e : Event) (s : Machine C) (t a : ℕ) → is_some (act_of t s.book.acts) ≡ true → acts.ReadyAll w e s (λ u x. u ≡ t → has_joined a x ≡ true)
unfolding acts.ReadyAll
ready_place w (Admit u) s t a q = λ e f. absurd (true≢false (sym q ∙ ap is_some (ap (λ z. act_of z s.book.acts) (sym f) ∙ e)))
ready_place w (Ask u b) s t a q = λ o x e p f. any_front (λ p. p.actor == a) x.places _ (p f)
ready_place w (End u b) s t a q = λ x r e p f. p f
ready_place w (Decide u) s t a q = λ x e p f. p f
ready_place w (Prepare u b) s t a q = λ x e p f. any_actor a b book.is_prepared x.places (λ p. refl) ∙ p f
ready_place w (Vouch u b) s t a q = λ x e p f. any_actor a b book.is_vouched x.places (λ p. refl) ∙ p f
ready_place w (Seal u) s t a q = λ x e p f. p f
ready_place w (Finish u b) s t a q = λ x e p f. any_actor a b book.has_left x.places (λ p. refl) ∙ p f
ready_place w e s t a q = tt

-- a fact of one ACT that is there
pub fact_stays : {C : Type 0} (w : Fixed C) (e : Event) (s : Machine C) (t : ℕ) (q : Act → Bool) → HoldsAnyway (λ u x. u ≡ t → q x ≡ true) → acts.ReadyAll w e s (λ u x. u ≡ t → q x ≡ true) → holds q (act_of t s.book.acts) ≡ true → holds q (act_of t (after w e s).book.acts) ≡ true
fact_stays w e s t q k r h =
    let each : EachAct (λ u x. u ≡ t → q x ≡ true) (after w e s).book.acts = acts.acts_change w e s (λ u x. u ≡ t → q x ≡ true) k r (λ u x f i. some_of q (act_of t s.book.acts) x (ap (λ z. act_of z s.book.acts) (sym i) ∙ f) h) in
    let y = one_is (λ x. true) (act_of t (after w e s).book.acts) (there_is (act_of t (after w e s).book.acts) (in_book w e s t (some_held q (act_of t s.book.acts) h))) in
    passes q (act_of t (after w e s).book.acts) y.0 y.1 (each t y.0 y.1 refl)

pub place_stays : {C : Type 0} (w : Fixed C) (e : Event) (s : Machine C) (t a : ℕ) → holds (has_joined a) (act_of t s.book.acts) ≡ true → holds (has_joined a) (act_of t (after w e s).book.acts) ≡ true
place_stays w e s t a h = fact_stays w e s t (has_joined a) (holds_place t a) (ready_place w e s t a (some_held (has_joined a) (act_of t s.book.acts) h)) h

-- ---- who is on an actor joined it

was_at : (y : Who) (b a : ℕ) (new : List Ran) (long : ℕ → List Ran) → (is_on y new ≡ true → is_on y (long b) ≡ true) → is_on y (with_at b new long a) ≡ true → is_on y (long a) ≡ true
was_at y b a new long k = by (a == b) refl
  where
    by : (v : Bool) → (a == b) ≡ v → is_on y (if v then new else long a) ≡ true → is_on y (long a) ≡ true
    by true f h = subst (λ z. is_on y (long z) ≡ true) (sym (eqb-true a b f)) (k h)
    by false f h = h

asked_place : {C : Type 0} (w : Fixed C) (t a : ℕ) (s : Machine C) → is_some (act_of t s.book.acts) ≡ true → book.in_the_way (lock_of t s.book.acts) (cell_at s a).entries ≡ None → holds (has_joined a) (act_of t (after w (Ask t a) s).book.acts) ≡ true
unfolding after
asked_place w t a s q n =
    let each : EachAct (λ u x. u ≡ t → has_joined a x ≡ true) (book.asked_acts (book.in_the_way (lock_of t s.book.acts) (cell_at s a).entries) (book.met (lock_of t s.book.acts) (cell_at s a).entries) t a (max (cell_at s a).last (floor_at t s.book.acts (cell_at s a))) s.book) = subst (λ o. EachAct (λ u x. u ≡ t → has_joined a x ≡ true) (book.asked_acts o (book.met (lock_of t s.book.acts) (cell_at s a).entries) t a (max (cell_at s a).last (floor_at t s.book.acts (cell_at s a))) s.book)) (sym n) start in
    let y = one_is (λ x. true) (act_of t (after w (Ask t a) s).book.acts) (there_is (act_of t (after w (Ask t a) s).book.acts) (in_book w (Ask t a) s t q)) in
    passes (has_joined a) (act_of t (after w (Ask t a) s).book.acts) y.0 y.1 (each t y.0 y.1 refl)
  where
    -- it has the place, or is another one
    start : EachAct (λ u x. u ≡ t → has_joined a x ≡ true) (book.asked_acts None (book.met (lock_of t s.book.acts) (cell_at s a).entries) t a (max (cell_at s a).last (floor_at t s.book.acts (cell_at s a))) s.book)
    start = acts.none_in_way (λ u x. u ≡ t → has_joined a x ≡ true) t a (cell_at s a) s.book (holds_place t a) (acts.each_changed (λ u x. Unit {0}) (λ u x. u ≡ t → has_joined a x ≡ true) t (book.joins a (max (cell_at s a).last (floor_at t s.book.acts (cell_at s a)))) s.book.acts (λ x. refl) (λ u x d e p i. absurd (d i)) (λ x e p i. any_back (λ p. p.actor == a) x.places _ (or_left (a == a) false (eq-eqb a a refl))) (λ u x e. tt))

pub on_joined : {C : Type 0} (w : Fixed C) (e : Event) (s : Machine C) (h : History) → IsAllowed w e s → OnJoined s h → OnJoined (after w e s) (grown w e s h)
unfolding OnJoined conditions grown
on_joined w (Arrive k b) s h ok g = λ t a o. place_stays w (Arrive k b) s t a (g t a (was_at (OfAct t) b a _ h.long (λ q. sym (on_more (OfAct t) (OfBatch k) (h.long b) refl) ∙ q) o))
on_joined w (Ask u b) s h ok g = λ t a o. by (book.in_the_way (lock_of u s.book.acts) (cell_at s b).entries) refl t a o
  where
    old : (t a : ℕ) → is_on (OfAct t) (h.long a) ≡ true → holds (has_joined a) (act_of t (after w (Ask u b) s).book.acts) ≡ true
    old t a o = place_stays w (Ask u b) s t a (g t a o)

    by : (o : Option ℕ) → book.in_the_way (lock_of u s.book.acts) (cell_at s b).entries ≡ o → (t a : ℕ) → is_on (OfAct t) (with_at b (h.long b ++ map not_run (asks u o)) h.long a) ≡ true → holds (has_joined a) (act_of t (after w (Ask u b) s).book.acts) ≡ true
    by (Some older) e t a o = old t a (was_at (OfAct t) b a _ h.long (λ q. sym (ap (is_on (OfAct t)) (append-nil (h.long b))) ∙ q) o)
    by None e t a o = elim (cases_Bool (a == b)) [
      | inr f ↦ old t a (subst (λ v. is_on (OfAct t) (if v then h.long b ++ not_run (OfAct u) ∷ [] else h.long a) ≡ true) f o)
      | inl f ↦ elim (cases_Bool (u == t)) [
        | inl i ↦ let j : a ≡ b = eqb-true a b f in let l : u ≡ t = eqb-true u t i in
            subst (λ z. holds (has_joined z) (act_of t (after w (Ask u b) s).book.acts) ≡ true) (sym j) (subst (λ z. holds (has_joined b) (act_of z (after w (Ask u b) s).book.acts) ≡ true) l (asked_place w u b s (some_held (λ x. not (is_doomed x.status)) (act_of u s.book.acts) ok.1.0) e))
        | inr i ↦ old t a (was_at (OfAct t) b a _ h.long (λ q. sym (on_more (OfAct t) (OfAct u) (h.long b) i) ∙ q) o)
      ]
    ]
on_joined w (Run u b) s h ok g = λ t a o. place_stays w (Run u b) s t a (g t a (was_at (OfAct t) b a _ h.long (λ q. read t (cell.reads_on u (cell_at s b).entries) q) o))
  where
    read : (t : ℕ) (v : Bool) → is_on (OfAct t) (ran_on v (who_on u (cell_at s b).entries) (record { tid = u; found = (cell_at s b).state; left = (cell.slice_run w.code u b (cell_at s b)).state }) (h.long b)) ≡ true → is_on (OfAct t) (h.long b) ≡ true
    read t true q = q
    read t false q = sym (on_map (OfAct t) _ (h.long b) (λ r. ran_same (OfAct t) _ _ r)) ∙ q
on_joined w (Complete k b) s h ok g = λ t a o. place_stays w (Complete k b) s t a (g t a (was_at (OfAct t) b a _ h.long (λ q. sym (on_map (OfAct t) (completed k) (h.long b) (completed_same (OfAct t) k)) ∙ q) o))
on_joined w (Rollback b) s h ok g = λ t a o. place_stays w (Rollback b) s t a (g t a (was_at (OfAct t) b a _ h.long (λ q. on_less_staying (OfAct t) s.book.cascades (h.long b) q) o))
on_joined w (Finish u b) s h ok g = λ t a o. place_stays w (Finish u b) s t a (g t a (was_at (OfAct t) b a _ h.long (λ q. by t (is_traceless (act_of u s.book.acts)) q) o))
  where
    by : (t : ℕ) (v : Bool) → is_on (OfAct t) (if v then without_standing (OfAct u) (h.long b) else map (left_for_good (OfAct u)) (h.long b)) ≡ true → is_on (OfAct t) (h.long b) ≡ true
    by t true q = on_less_without (OfAct t) (OfAct u) (h.long b) q
    by t false q = sym (on_map (OfAct t) (left_for_good (OfAct u)) (h.long b) (left_same (OfAct t) (OfAct u))) ∙ q
on_joined w (Trim k b) s h ok g = λ t a o. place_stays w (Trim k b) s t a (g t a (was_at (OfAct t) b a _ h.long (λ q. sym (on_map (OfAct t) (left_for_good (OfBatch k)) (h.long b) (left_same (OfAct t) (OfBatch k))) ∙ q) o))
on_joined w e s h ok g = λ t a o. place_stays w e s t a (g t a o)

-- ---- who has a record

holds_value : (t a : ℕ) → HoldsAnyway (λ u x. u ≡ t → (is_value x.result && has_joined a x) ≡ true)
holds_value t a = record { numbered = λ u x n p. p; doomed = λ u x v l p. p; rises = λ u k x l p. p }

ready_value : {C : Type 0} (w : Fixed C) (e : Event) (s : Machine C) (t a : ℕ) → IsAllowed w e s → AllControls (NoneActed s) s → holds (λ x. is_value x.result && has_joined a x) (act_of t s.book.acts) ≡ true → acts.ReadyAll w e s (λ u x. u ≡ t → (is_value x.result && has_joined a x) ≡ true)
unfolding acts.ReadyAll conditions
ready_value w (Admit u) s t a ok n q = λ e f. absurd (true≢false (sym (some_held (λ x. is_value x.result && has_joined a x) (act_of t s.book.acts) q) ∙ ap is_some (ap (λ z. act_of z s.book.acts) (sym f) ∙ e)))
ready_value w (Ask u b) s t a ok n q = λ o x e p f. let v = and_parts (is_value x.result) (has_joined a x) (p f) in and_from (is_value x.result) _ v.0 (any_front (λ p. p.actor == a) x.places _ v.1)
ready_value w (End u b) s t a ok n q = λ x r e p f. absurd (true≢false (sym (value_some x.result (and_parts (is_value x.result) (has_joined a x) (p f)).0) ∙ ap is_some (results.outcome_none (λ x. is_ended x.next) u b s (held (λ c. holds (λ x. is_ended x.next) (outcome_of u c.outbox)) s.cells b no_cell ok.0) n u x e refl)))
ready_value w (Decide u) s t a ok n q = λ x e p f. p f
ready_value w (Prepare u b) s t a ok n q = λ x e p f. let v = and_parts (is_value x.result) (has_joined a x) (p f) in and_from (is_value x.result) _ v.0 (any_actor a b book.is_prepared x.places (λ p. refl) ∙ v.1)
ready_value w (Vouch u b) s t a ok n q = λ x e p f. let v = and_parts (is_value x.result) (has_joined a x) (p f) in and_from (is_value x.result) _ v.0 (any_actor a b book.is_vouched x.places (λ p. refl) ∙ v.1)
ready_value w (Seal u) s t a ok n q = λ x e p f. p f
ready_value w (Finish u b) s t a ok n q = λ x e p f. let v = and_parts (is_value x.result) (has_joined a x) (p f) in and_from (is_value x.result) _ v.0 (any_actor a b book.has_left x.places (λ p. refl) ∙ v.1)
ready_value w e s t a ok n q = tt

value_stays : {C : Type 0} (w : Fixed C) (e : Event) (s : Machine C) (t a : ℕ) → IsAllowed w e s → AllControls (NoneActed s) s → holds (λ x. is_value x.result && has_joined a x) (act_of t s.book.acts) ≡ true → holds (λ x. is_value x.result && has_joined a x) (act_of t (after w e s).book.acts) ≡ true
value_stays w e s t a ok n h = fact_stays w e s t (λ x. is_value x.result && has_joined a x) (holds_value t a) (ready_value w e s t a ok n h) h

found_place : (a : ℕ) (ps : List Joined) (q : Joined → Bool) → holds q (find (λ p. p.actor == a) ps) ≡ true → list_any (λ p. p.actor == a) ps ≡ true
found_place a [] q h = absurd (true≢false (sym h))
found_place a (p ∷ ps) q h = by (p.actor == a) h (found_place a ps q)
  where
    by : (v : Bool) → holds q (if v then Some p else find (λ p. p.actor == a) ps) ≡ true → (holds q (find (λ p. p.actor == a) ps) ≡ true → list_any (λ p. p.actor == a) ps ≡ true) → (v || list_any (λ p. p.actor == a) ps) ≡ true
    by true h k = refl
    by false h k = k h

no_prepare : (t a c : ℕ) (o : Option Act) → list_any (is_prepare t a) (act_commit c o) ≡ true → ⊥
no_prepare t a c None h = true≢false (sym h)
no_prepare t a c (Some x) h = by (is_value x.result) h
  where
    by : (b : Bool) → list_any (is_prepare t a) (if b then Rattle.protocol.specs.Records.ActDone x.tid x.m c (value_of x.result) (Rattle.protocol.specs.Effects.ascending (map (λ p. p.actor) x.places)) ∷ [] else []) ≡ true → ⊥
    by true g = true≢false (sym g)
    by false g = true≢false (sym g)

pub prepared_kept : {C : Type 0} (w : Fixed C) (e : Event) (s : Machine C) → IsAllowed w e s → AllControls (NoneActed s) s → Prepared w s → Prepared w (after w e s)
unfolding Prepared conditions after
prepared_kept w (Form k) s ok n g = λ t a q. value_stays w (Form k) s t a ok n (elim (logged_added (is_prepare t a) _ s.logs (k % w.text.logs) (a % w.text.logs) q) [ inl v ↦ g t a v | inr v ↦ absurd (true≢false (sym v)) ])
prepared_kept w (Complete k b) s ok n g = λ t a q. value_stays w (Complete k b) s t a ok n (elim (logged_added (is_prepare t a) _ s.logs (b % w.text.logs) (a % w.text.logs) q) [ inl v ↦ g t a v | inr v ↦ absurd (true≢false (sym v)) ])
prepared_kept w (Commit k) s ok n g = λ t a q. value_stays w (Commit k) s t a ok n (elim (logged_added (is_prepare t a) _ s.logs (k % w.text.logs) (a % w.text.logs) q) [ inl v ↦ g t a v | inr v ↦ absurd (true≢false (sym v)) ])
prepared_kept w (Decide u) s ok n g = λ t a q. value_stays w (Decide u) s t a ok n (elim (logged_added (is_prepare t a) _ s.logs (u % w.text.logs) (a % w.text.logs) q) [ inl v ↦ g t a v | inr v ↦ absurd (no_prepare t a s.book.next_c (act_of u s.book.acts) v) ])
prepared_kept w (Sync l) s ok n g = λ t a q. value_stays w (Sync l) s t a ok n (g t a (sym (ap (list_any (is_prepare t a)) (log_synced s.logs l (a % w.text.logs))) ∙ q))
prepared_kept w (Prepare u b) s ok n g = λ t a q. value_stays w (Prepare u b) s t a ok n (elim (logged_added (is_prepare t a) _ s.logs (b % w.text.logs) (a % w.text.logs) q) [
  | inl v ↦ g t a v
  | inr v ↦ elim (or_cases ((u == t) && (b == a)) false v) [
    | inl i ↦ let j = and_parts (u == t) (b == a) i in subst (λ z. holds (λ x. is_value x.result && has_joined z x) (act_of t s.book.acts) ≡ true) (eqb-true b a j.1) (subst (λ z. holds (λ x. is_value x.result && has_joined b x) (act_of z s.book.acts) ≡ true) (eqb-true u t j.0) own)
    | inr i ↦ absurd (true≢false (sym i))
  ]
])
  where
    own : holds (λ x. is_value x.result && has_joined b x) (act_of u s.book.acts) ≡ true
    own =
        let x = one_is (λ x. is_value x.result && not (is_doomed x.status)) (act_of u s.book.acts) ok.0 in
        passes (λ x. is_value x.result && has_joined b x) (act_of u s.book.acts) x.0 x.1
        (and_from (is_value x.0.result) (has_joined b x.0) (and_parts (is_value x.0.result) (not (is_doomed x.0.status)) x.2).0
        (found_place b x.0.places (λ p. not p.prepared) (some_of (λ x. holds (λ p. not p.prepared) (joined_of b x)) (act_of u s.book.acts) x.0 x.1 ok.1.0)))
prepared_kept w e s ok n g = λ t a q. value_stays w e s t a ok n (g t a q)

-- ---- where an ACT is not undone, it is on all its actors

all_on : (t : ℕ) (long long' : ℕ → List Ran) (ps : List Joined) → ((a : ℕ) → is_on (OfAct t) (long a) ≡ true → is_on (OfAct t) (long' a) ≡ true) → AllByRecursion (λ p. is_on (OfAct t) (long p.actor) ≡ true) ps → AllByRecursion (λ p. is_on (OfAct t) (long' p.actor) ≡ true) ps
all_on t long long' ps k h = weaker _ _ ps (λ p q. k p.actor q) h

stands_on : (long long' : ℕ → List Ran) (xs : List Act) → ((t : ℕ) (x : Act) → act_of t xs ≡ Some x → is_doomed x.status ≡ false → (is_failure x.result || x.reader) ≡ false → (a : ℕ) → is_on (OfAct t) (long a) ≡ true → is_on (OfAct t) (long' a) ≡ true) → EachAct (ActStands long) xs → EachAct (ActStands long') xs
stands_on long long' xs k h = λ t x e. let p = h t x e in record { first = p.first; on = λ d f. all_on t long long' x.places (k t x e d f) (p.on d f) }

holds_stands : (long : ℕ → List Ran) → HoldsAnyway (ActStands long)
holds_stands long = record {
  numbered = λ t x n p. record { first = p.first; on = p.on };
  doomed = λ t x v l p. record { first = p.first; on = λ d. absurd (true≢false d) };
  rises = λ t k x l p. record { first = p.first; on = p.on };
}

mark_on : (t a : ℕ) (f : Joined → Joined) (long : ℕ → List Ran) (ps : List Joined) → ((p : Joined) → (f p).actor ≡ p.actor) → AllByRecursion (λ p. is_on (OfAct t) (long p.actor) ≡ true) ps → AllByRecursion (λ p. is_on (OfAct t) (long p.actor) ≡ true) (map (λ p. book.mark_if (p.actor == a) f p) ps)
mark_on t a f long ps i h = all_map _ _ _ ps (λ p q. by p (p.actor == a) q) h
  where
    by : (p : Joined) (v : Bool) → is_on (OfAct t) (long p.actor) ≡ true → is_on (OfAct t) (long (book.mark_if v f p).actor) ≡ true
    by p true q = subst (λ z. is_on (OfAct t) (long z) ≡ true) (sym (i p)) q
    by p false q = q

-- the place of an actor that is found, with marks
marked_found : (a b : ℕ) (f : Joined → Joined) (ps : List Joined) (q : Joined) → ((p : Joined) → (f p).actor ≡ p.actor) → find (λ p. p.actor == a) (map (λ p. book.mark_if (p.actor == b) f p) ps) ≡ Some q → (p : Joined) × (find (λ p. p.actor == a) ps ≡ Some p) × (book.mark_if (p.actor == b) f p ≡ q)
marked_found a b f [] q i e = absurd (cc e)
marked_found a b f (p ∷ ps) q i e = by (p.actor == a) (subst (λ z. (if z == a then Some (book.mark_if (p.actor == b) f p) else find (λ p. p.actor == a) (map (λ p. book.mark_if (p.actor == b) f p) ps)) ≡ Some q) (same (p.actor == b)) e) (marked_found a b f ps q i)
  where
    same : (v : Bool) → (book.mark_if v f p).actor ≡ p.actor
    same true = i p
    same false = refl

    by : (v : Bool) → (if v then Some (book.mark_if (p.actor == b) f p) else find (λ p. p.actor == a) (map (λ p. book.mark_if (p.actor == b) f p) ps)) ≡ Some q
        → (find (λ p. p.actor == a) (map (λ p. book.mark_if (p.actor == b) f p) ps) ≡ Some q → (p : Joined) × (find (λ p. p.actor == a) ps ≡ Some p) × (book.mark_if (p.actor == b) f p ≡ q))
        → (r : Joined) × ((if v then Some p else find (λ p. p.actor == a) ps) ≡ Some r) × (book.mark_if (r.actor == b) f r ≡ q)
    by true e k = (p, refl, cc e)
    by false e k = k e

prepare_first : (v : Bool) (p : Joined) → (p.vouched ≡ true → p.prepared ≡ true) → (book.mark_if v book.is_prepared p).vouched ≡ true → (book.mark_if v book.is_prepared p).prepared ≡ true
prepare_first true p h e = refl
prepare_first false p h e = h e

leave_first : (v : Bool) (p : Joined) → (p.vouched ≡ true → p.prepared ≡ true) → (book.mark_if v book.has_left p).vouched ≡ true → (book.mark_if v book.has_left p).prepared ≡ true
leave_first true p h e = h e
leave_first false p h e = h e

vouch_first : (v : Bool) (p : Joined) → (v ≡ true → p.prepared ≡ true) → (p.vouched ≡ true → p.prepared ≡ true) → (book.mark_if v book.is_vouched p).vouched ≡ true → (book.mark_if v book.is_vouched p).prepared ≡ true
vouch_first true p g h e = g refl
vouch_first false p g h e = h e

found_actor : (a : ℕ) (p : Joined) (ps : List Joined) → find (λ p. p.actor == a) ps ≡ Some p → p.actor ≡ a
found_actor a p [] e = absurd (cc e)
found_actor a p (x ∷ xs) e = by (x.actor == a) refl e (found_actor a p xs)
  where
    by : (v : Bool) → (x.actor == a) ≡ v → (if v then Some x else find (λ p. p.actor == a) xs) ≡ Some p → (find (λ p. p.actor == a) xs ≡ Some p → p.actor ≡ a) → p.actor ≡ a
    by true q e k = let j : x ≡ p = cc e in ap (λ z. z.actor) (sym j) ∙ eqb-true x.actor a q
    by false q e k = k e

more_found : (a : ℕ) (n q : Joined) (ps : List Joined) → find (λ p. p.actor == a) (ps ++ n ∷ []) ≡ Some q → (find (λ p. p.actor == a) ps ≡ Some q) ⊎ (n ≡ q)
more_found a n q [] e = by (n.actor == a) e
  where
    by : (v : Bool) → (if v then Some n else None) ≡ Some q → (find (λ p. p.actor == a) [] ≡ Some q) ⊎ (n ≡ q)
    by true e = inr (cc e)
    by false e = absurd (cc e)
more_found a n q (x ∷ xs) e = by (x.actor == a) e (more_found a n q xs)
  where
    by : (v : Bool) → (if v then Some x else find (λ p. p.actor == a) (xs ++ n ∷ [])) ≡ Some q → (find (λ p. p.actor == a) (xs ++ n ∷ []) ≡ Some q → (find (λ p. p.actor == a) xs ≡ Some q) ⊎ (n ≡ q)) → ((if v then Some x else find (λ p. p.actor == a) xs) ≡ Some q) ⊎ (n ≡ q)
    by true e k = inl e
    by false e k = k e

none_gone_key : (y : Who) (rs : List Ran) → NoneGone rs → is_on y rs ≡ true → is_key_among y (keys_in rs) ≡ true
none_gone_key y [] n o = o
none_gone_key y (Stands z c ss ∷ rs) n o = elim (or_cases (is_who z y) (is_on y rs) o) [ inl q ↦ or_left (is_who z y) _ q | inr q ↦ or_right (is_who z y) _ (none_gone_key y rs n q) ]
none_gone_key y (Gone z ss ∷ rs) n o = absurd n

-- nobody that is not given up is behind an aborted batch
stays_behind : (acts : List Act) (cs : List Cascade) (bad : Bool) (t : ℕ) (x : Act) (rs : List Ran) → act_of t acts ≡ Some x → is_doomed x.status ≡ false → CutIsEnd cs rs → Behind acts cs bad rs → is_on (OfAct t) rs ≡ true → ⊥ ⊎ (is_on (OfAct t) (long_staying cs rs) ≡ true)
stays_behind acts cs bad t x [] e d n h o = absurd (true≢false (sym o))
stays_behind acts cs bad t x (Gone (OfBatch k) ss ∷ rs) e d n h o = stays_behind acts cs (bad || is_aborted k cs) t x rs e d n h o
stays_behind acts cs bad t x (Gone (OfAct u) ss ∷ rs) e d n h o = elim (or_cases (u == t) (is_on (OfAct t) rs) o) [ inl q ↦ inr (or_left (u == t) _ q) | inr q ↦ elim (stays_behind acts cs bad t x rs e d n h q) [ inl v ↦ absurd v | inr v ↦ inr (or_right (u == t) _ v) ] ]
stays_behind acts cs bad t x (Stands (OfAct u) c ss ∷ rs) e d n h o = elim (or_cases (u == t) (is_on (OfAct t) rs) o) [ inl q ↦ inr (or_left (u == t) _ q) | inr q ↦ elim (stays_behind acts cs bad t x rs e d n.1 h.1 q) [ inl v ↦ absurd v | inr v ↦ inr (or_right (u == t) _ v) ] ]
stays_behind acts cs bad t x (Stands (OfBatch k) c ss ∷ rs) e d n h o = by (is_aborted k cs) refl (stays_behind acts cs (bad || is_aborted k cs) t x rs e d n.1 h o)
  where
    by : (v : Bool) → is_aborted k cs ≡ v → ⊥ ⊎ (is_on (OfAct t) (long_staying cs rs) ≡ true) → ⊥ ⊎ (is_on (OfAct t) (if v then [] else Stands (OfBatch k) c ss ∷ long_staying cs rs) ≡ true)
    by false f r = r
    by true f r = inl (none_bad acts cs (bad || is_aborted k cs) t x rs e d h (none_gone_key (OfAct t) rs (n.0 f) o) (or_right bad _ f))

pub stands_kept : {C : Type 0} (w : Fixed C) (e : Event) (s : Machine C) (h : History) → IsAllowed w e s → AllControls (NoneActed s) s → Placed w s h → AllBehind s h → ActsStand s h → ActsStand (after w e s) (grown w e s h)
unfolding ActsStand AllBehind Placed acts.ReadyAll conditions after grown
stands_kept w (Admit t) s h ok na pl b g = acts.acts_change w (Admit t) s (ActStands h.long) (holds_stands h.long) (λ e. record { first = λ a p q. absurd (cc q); on = λ d f. tt }) g
stands_kept w (Arrive k a) s h ok na pl b g = acts.acts_change w (Arrive k a) s (ActStands _) (holds_stands _) tt (stands_on h.long _ s.book.acts (λ t x e d f c o. on_at (OfAct t) a c _ h.long (on_more (OfAct t) (OfBatch k) (h.long a) refl) ∙ o) g)
stands_kept {C} w (Ask u a) s h ok na pl b g = by (book.in_the_way (lock_of u s.book.acts) (cell_at s a).entries) refl
  where
    grows : (t : ℕ) (rs : List Ran) → is_on (OfAct t) rs ≡ true → is_on (OfAct t) (rs ++ not_run (OfAct u) ∷ []) ≡ true
    grows t rs o = any_front (is_ran_of (OfAct t)) rs _ o

    at_more : (t c : ℕ) → is_on (OfAct t) (h.long c) ≡ true → is_on (OfAct t) (with_at a (h.long a ++ not_run (OfAct u) ∷ []) h.long c) ≡ true
    at_more t c o = elim (cases_Bool (c == a)) [
      | inl f ↦ rw f (grows t (h.long a) (subst (λ z. is_on (OfAct t) (h.long z) ≡ true) (eqb-true c a f) o))
      | inr f ↦ rw f o
    ]

    there : is_on (OfAct u) (with_at a (h.long a ++ not_run (OfAct u) ∷ []) h.long a) ≡ true
    there = rw (eq-eqb a a refl) (any_back (is_ran_of (OfAct u)) (h.long a) (not_run (OfAct u) ∷ []) (or_left (u == u) false (eq-eqb u u refl)))

    joins : (x : Act) → ActStands (with_at a (h.long a ++ not_run (OfAct u) ∷ []) h.long) u x → ActStands (with_at a (h.long a ++ not_run (OfAct u) ∷ []) h.long) u (book.joins a (max (cell_at s a).last (floor_at u s.book.acts (cell_at s a))) x)
    joins x p = record {
      first = λ c q e v. elim (more_found c (record { actor = a; prepared = false; vouched = false; finished = false }) q x.places e) [ inl f ↦ p.first c q f v | inr f ↦ absurd (true≢false (sym v ∙ ap (λ z. z.vouched) (sym f))) ];
      on = λ d f. all_join _ x.places _ (p.on d f) (there, tt);
    }

    by : (o : Option ℕ) → book.in_the_way (lock_of u s.book.acts) (cell_at s a).entries ≡ o → EachAct (ActStands (with_at a (h.long a ++ map not_run (asks u o)) h.long)) (book.asked_acts o (book.met (lock_of u s.book.acts) (cell_at s a).entries) u a (max (cell_at s a).last (floor_at u s.book.acts (cell_at s a))) s.book)
    by (Some older) e = acts.asked (ActStands _) u a (Some older) (cell_at s a) s.book (holds_stands _) (λ q. absurd (cc q)) (stands_on h.long _ s.book.acts (λ t x e d f c o. on_at (OfAct t) a c _ h.long (ap (is_on (OfAct t)) (append-nil (h.long a))) ∙ o) g)
    by None e = acts.asked (ActStands _) u a None (cell_at s a) s.book (holds_stands _) (λ q x f p. joins x p) (stands_on h.long _ s.book.acts (λ t x e d f c o. at_more t c o) g)
stands_kept w (Run u a) s h ok na pl b g = stands_on h.long _ s.book.acts (λ t x e d f c o. on_at (OfAct t) a c _ h.long (read t (cell.reads_on u (cell_at s a).entries)) ∙ o) g
  where
    read : (t : ℕ) (v : Bool) → is_on (OfAct t) (ran_on v (who_on u (cell_at s a).entries) (record { tid = u; found = (cell_at s a).state; left = (cell.slice_run w.code u a (cell_at s a)).state }) (h.long a)) ≡ is_on (OfAct t) (h.long a)
    read t true = refl
    read t false = on_map (OfAct t) _ (h.long a) (λ r. ran_same (OfAct t) _ _ r)
stands_kept w (Complete k a) s h ok na pl b g = stands_on h.long _ s.book.acts (λ t x e d f c o. on_at (OfAct t) a c _ h.long (on_map (OfAct t) (completed k) (h.long a) (completed_same (OfAct t) k)) ∙ o) g
stands_kept w (Trim k a) s h ok na pl b g = stands_on h.long _ s.book.acts (λ t x e d f c o. on_at (OfAct t) a c _ h.long (on_map (OfAct t) (left_for_good (OfBatch k)) (h.long a) (left_same (OfAct t) (OfBatch k))) ∙ o) g
stands_kept w (Rollback a) s h ok na pl b g = stands_on h.long _ s.book.acts (λ t x e d f c o. at_staying t x e d c o) g
  where
    at_staying : (t : ℕ) (x : Act) → act_of t s.book.acts ≡ Some x → is_doomed x.status ≡ false → (c : ℕ) → is_on (OfAct t) (h.long c) ≡ true → is_on (OfAct t) (with_at a (long_staying s.book.cascades (h.long a)) h.long c) ≡ true
    at_staying t x e d c o = elim (cases_Bool (c == a)) [
      | inl f ↦ rw f (elim (stays_behind s.book.acts s.book.cascades false t x (h.long a) e d (PlaceLists.cut_is_end s.desk.settled s.book.cascades (h.long a) (pl a).firm) (b a) (subst (λ z. is_on (OfAct t) (h.long z) ≡ true) (eqb-true c a f) o)) [ inl v ↦ absurd v | inr v ↦ v ])
      | inr f ↦ rw f o
    ]
stands_kept w (End u a) s h ok na pl b g = acts.acts_change w (End u a) s (ActStands h.long) (holds_stands h.long) (λ x r e p. record { first = p.first; on = λ d f. p.on d (or_from (is_failure x.result) x.reader (ap is_failure (results.outcome_none (λ x. is_ended x.next) u a s (held (λ c. holds (λ x. is_ended x.next) (outcome_of u c.outbox)) s.cells a no_cell ok.0) na u x e refl)) (or_parts (is_failure (Some r)) x.reader f).1) }) g
stands_kept w (Prepare u a) s h ok na pl b g = acts.acts_change w (Prepare u a) s (ActStands h.long) (holds_stands h.long) (λ x e p. record {
  first = λ c q f v. let m = marked_found c a book.is_prepared x.places q (λ p. refl) f in subst (λ z. z.prepared ≡ true) m.2 (prepare_first (m.0.actor == a) m.0 (p.first c m.0 m.1) (subst (λ z. z.vouched ≡ true) (sym m.2) v));
  on = λ d f. mark_on u a book.is_prepared h.long x.places (λ p. refl) (p.on d f);
}) g
stands_kept w (Vouch u a) s h ok na pl b g = acts.acts_change w (Vouch u a) s (ActStands h.long) (holds_stands h.long) (λ x e p. record {
  first = λ c q f v. let m = marked_found c a book.is_vouched x.places q (λ p. refl) f in subst (λ z. z.prepared ≡ true) m.2 (vouch_first (m.0.actor == a) m.0 (λ i. own x e c m.0 m.1 i) (p.first c m.0 m.1) (subst (λ z. z.vouched ≡ true) (sym m.2) v));
  on = λ d f. mark_on u a book.is_vouched h.long x.places (λ p. refl) (p.on d f);
}) g
  where
    own : (x : Act) → act_of u s.book.acts ≡ Some x → (c : ℕ) (m : Joined) → find (λ p. p.actor == c) x.places ≡ Some m → (m.actor == a) ≡ true → m.prepared ≡ true
    own x e c m f i =
        let j : c ≡ a = sym (found_actor c m x.places f) ∙ eqb-true m.actor a i in
        let z = and_parts (is_live_act x) (not (is_doomed x.status) && holds (λ p. p.prepared && not p.vouched) (joined_of a x)) (some_of (λ x. is_live_act x && (not (is_doomed x.status) && holds (λ p. p.prepared && not p.vouched) (joined_of a x))) (act_of u s.book.acts) x e ok.0) in
        let y = and_parts (not (is_doomed x.status)) (holds (λ p. p.prepared && not p.vouched) (joined_of a x)) z.1 in
        (and_parts m.prepared (not m.vouched) (some_of (λ p. p.prepared && not p.vouched) (joined_of a x) m (subst (λ n. find (λ p. p.actor == n) x.places ≡ Some m) j f) y.1)).0
stands_kept w (Decide u) s h ok na pl b g = acts.acts_change w (Decide u) s (ActStands h.long) (holds_stands h.long) (λ x e p. record { first = p.first; on = λ d f. p.on (sym (decided_doomed s.book.next_c (is_value x.result) x.status) ∙ d) f }) g
stands_kept w (Seal u) s h ok na pl b g = acts.acts_change w (Seal u) s (ActStands h.long) (holds_stands h.long) (λ x e p. record { first = p.first; on = λ d f. p.on (sym (sealed_doomed x.status) ∙ d) f }) g
stands_kept w (Finish u a) s h ok na pl b g = acts.acts_change w (Finish u a) s (ActStands _) (holds_stands _) (λ x e p. record {
  first = λ c q f v. let m = marked_found c a book.has_left x.places q (λ p. refl) f in subst (λ z. z.prepared ≡ true) m.2 (leave_first (m.0.actor == a) m.0 (p.first c m.0 m.1) (subst (λ z. z.vouched ≡ true) (sym m.2) v));
  on = λ d f. mark_on u a book.has_left (grown w (Finish u a) s h).long x.places (λ p. refl) (p.on d f);
}) (stands_on h.long _ s.book.acts (λ t x e d f c o. at_left t x e d f c o) g)
  where
    at_left : (t : ℕ) (x : Act) → act_of t s.book.acts ≡ Some x → is_doomed x.status ≡ false → (is_failure x.result || x.reader) ≡ false → (c : ℕ) → is_on (OfAct t) (h.long c) ≡ true → is_on (OfAct t) (with_at a (if is_traceless (act_of u s.book.acts) then without_standing (OfAct u) (h.long a) else map (left_for_good (OfAct u)) (h.long a)) h.long c) ≡ true
    at_left t x e d f c o = on_at (OfAct t) a c _ h.long (by (is_traceless (act_of u s.book.acts)) refl) ∙ o
      where
        by : (v : Bool) → is_traceless (act_of u s.book.acts) ≡ v → is_on (OfAct t) (if v then without_standing (OfAct u) (h.long a) else map (left_for_good (OfAct u)) (h.long a)) ≡ is_on (OfAct t) (h.long a)
        by false q = on_map (OfAct t) (left_for_good (OfAct u)) (h.long a) (left_same (OfAct t) (OfAct u))
        by true q = on_without (OfAct t) (OfAct u) (h.long a) (false_from_ne_true (u == t) (λ i. true≢false (sym q ∙ (ap is_traceless (ap (λ z. act_of z s.book.acts) (eqb-true u t i) ∙ e) ∙ or_no (is_doomed x.status) (is_failure x.result) x.reader d f))))
          where
            or_no : (x y z : Bool) → x ≡ false → (y || z) ≡ false → ((x || y) || z) ≡ false
            or_no true y z d f = absurd (true≢false d)
            or_no false y z d f = f
stands_kept w e s h ok na pl b g = acts.acts_change w e s (ActStands h.long) (holds_stands h.long) tt g
