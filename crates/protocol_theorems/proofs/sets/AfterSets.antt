-- The after number of a live ACT is the least of its set, and above its before number, event by event.
use Rattle.std.specs.Prelude.{◌≡◌, refl, ℕ, ◌+◌, ◌<◌, ◌≤◌, ◌==◌, nat_lt, nat_le, max, not, Bool, true, false, ◌&&◌, ◌||◌, ◌⊎◌, if◌then◌else◌, Option, Some, None, is_some, unwrap_or, List, [], ◌∷◌, ◌++◌, map, filter}
use Rattle.std.specs.List.{AllByRecursion}
use Rattle.std.proofs.Common.{arith, sym, ap, subst, inl, inr, ◌∙◌}
use Rattle.std.proofs.lemmas.List.{append-nil}
use Rattle.std.proofs.lemmas.Bool.{eqb-true, eq-eqb, leb-true, ltb-true, le-leb, lt-ltb, and_parts, and_from, or_cases, or_left, or_right, not-true, true≢false, false_from_ne_true, cases_Bool}
use Rattle.protocol.specs.Cutting.{Ascends}
use Rattle.snap_base.proofs.Booleans.{and_false}
use Rattle.protocol.specs.Fixed.{Fixed, Next, Go, Ended}
use Rattle.protocol.specs.Rivals.{Lock}
use Rattle.protocol.specs.Parts.{Act, Pair, Book, Batch, Cascade, Status, Live, Doomed, Decided, Sealed, Outcome, Who, OfBatch, OfAct, Entry, BatchEntry, ActEntry, Cell, Machine}
use Rattle.protocol.specs.Events.{Event, Admit, Arrive, Ask, Run, End, Complete, Abort, Rollback, Prepare, Vouch, Decide, Seal, Finish, Trim}
use Rattle.protocol.specs.Words.{holds, least_of, is_among, is_aborted, is_doomed, is_live_status, is_sealed, is_settled, is_formed, is_open, is_value, is_next_to_commit, is_who, who_on, act_of, batch_of, declared_of, has_act, outcome_of, lock_of, floor_at}
use Rattle.protocol.specs.Spread.{raised, carried, crossed_out, is_crossed, reaches}
use Rattle.protocol.specs.Conditions.{IsAllowed, conditions}
use Rattle.protocol.specs.Effects.{after, cell_at}
use Rattle.protocol.specs.OnBook as book
use Rattle.protocol.specs.OnCell as cell
use Rattle.protocol.specs.History.{History, Slice, Ran, Stands, Gone, grown, with_at, not_run, ran_in, completed, left_for_good, without_standing, long_staying, asks, batches_in, behind_too, is_traceless, ran_on}
use Rattle.protocol_laws.specs.Turns.{Turns}
use Rattle.protocol_laws.specs.Places.{FitsCell}
use Rattle.protocol_laws.specs.Commits.{is_kept, KeptFront, has_kept}
use Rattle.protocol_laws.specs.Marks.{Marked}
use Rattle.protocol_laws.specs.FromDesk.{is_declared, EntryOf}
use Rattle.protocol_laws.specs.Highs.{AllDoomed, TakenAlong, doomed_at}
use Rattle.protocol_theorems.specs.Sets.{least_in, is_ahead, StandsBehind, AfterIsLeast, IsUncrossed}
use Rattle.protocol_laws.proofs.machine.TrackLists
use Rattle.protocol_laws.proofs.first.PairsFound.{Ascend, TidsAscend}
use Rattle.protocol_laws.proofs.machine.PlaceLists
use Rattle.protocol_laws.proofs.machine.PlacesKept.{Placed}
use Rattle.protocol_laws.proofs.first.SettlingKept as settling
use Rattle.protocol_laws.proofs.machine.TurnsKept.{one_is, Turned}
use Rattle.protocol_laws.proofs.machine.ShowLists
use Rattle.protocol_laws.proofs.machine.ShowsKept as shows
use Rattle.protocol_theorems.proofs.sets.SpreadSets.{at_it, at_other}
use Rattle.protocol_laws.proofs.first.Lists.{all_join, all_map, weaker, both_all}
use Rattle.protocol_theorems.proofs.sets.BeforeSets.{find_self}
use Rattle.protocol_laws.proofs.machine.OversKept as overs
use Rattle.protocol_laws.proofs.machine.CommitsKept.{beside_carried, Committed}
use Rattle.protocol_laws.proofs.first.Statuses.{live_decided, live_if, live_sealed}

-- ---- m below n

-- n and m stay, and it is live no more than before
pub record Fewer (x y : Act) : Type 0 where
  pub tid : y.tid ≡ x.tid
  pub n : y.n ≡ x.n
  pub live : is_live_status y.status ≡ true → is_live_status x.status ≡ true

fewer_crossed : (x y : Act) → Fewer x y → y.m ≡ x.m → IsUncrossed x → IsUncrossed y
fewer_crossed x y k e h = by (is_live_status y.status) refl
  where
    by : (b : Bool) → is_live_status y.status ≡ b → (b && reaches y.m y.n) ≡ false
    by false q = refl
    by true q = rw (e, k.n) (subst (λ c. (c && reaches x.m x.n) ≡ false) (k.live q) h)

crossed_gone : (a : ℕ) (x : Act) → IsUncrossed (crossed_out a x)
crossed_gone a x = by (is_crossed x) refl
  where
    by : (c : Bool) → is_crossed x ≡ c → (is_live_status (if c then Doomed (Rattle.protocol.specs.Verdicts.out_of_order x.m (unwrap_or x.n 0) a) else x.status) && reaches x.m x.n) ≡ false
    by true e = refl
    by false e = e

all_crossed_gone : (a : ℕ) (xs : List Act) → AllByRecursion IsUncrossed (map (crossed_out a) xs)
all_crossed_gone a [] = tt
all_crossed_gone a (x ∷ xs) = (crossed_gone a x, all_crossed_gone a xs)

same_if : (v : Bool) (f : Act → Act) (x : Act) → (IsUncrossed x → IsUncrossed (f x)) → IsUncrossed x → IsUncrossed (book.change_if v f x)
same_if true f x k h = k h
same_if false f x k h = h

uncrossed_changed : (t : ℕ) (f : Act → Act) (xs : List Act) → ((x : Act) → IsUncrossed x → IsUncrossed (f x)) → AllByRecursion IsUncrossed xs → AllByRecursion IsUncrossed (book.changed_act t f xs)
uncrossed_changed t f xs k h = all_map IsUncrossed IsUncrossed _ xs (λ x i. same_if (x.tid == t) f x (k x) i) h

uncrossed_ended : {C : Type 0} (t : ℕ) (b : Bool) (o : Option (Outcome C)) (xs : List Act) → AllByRecursion IsUncrossed xs → AllByRecursion IsUncrossed (if b then book.noted_from t o xs else xs)
uncrossed_ended t false o xs h = h
uncrossed_ended t true None xs h = h
uncrossed_ended {C} t true (Some x) xs h = by x.next
  where
    by : (y : Next C) → AllByRecursion IsUncrossed (book.noted_for t y xs)
    by (Go b c) = h
    by (Ended r) = uncrossed_changed t (book.with_result r) xs (λ x i. i) h

uncrossed_asked : {C : Type 0} (t a : ℕ) (o : Option ℕ) (group : List Lock) (c : Cell C) (b : Book) → AllByRecursion IsUncrossed b.acts → AllByRecursion IsUncrossed (book.asked_acts o group t a (max c.last (floor_at t b.acts c)) b)
uncrossed_asked t a None group c b h = all_crossed_gone a _
uncrossed_asked t a (Some x) group c b h = uncrossed_changed t _ b.acts (λ y i. fewer_crossed y (book.doomed_by (Rattle.protocol.specs.Verdicts.died a x t) y) (record { tid = refl; n = refl; live = live_if (is_live_status y.status) _ y.status }) refl i) h

unfoldable pub Uncrossed : {C : Type 0} → Machine C → Type 0
Uncrossed s = AllByRecursion IsUncrossed s.book.acts

pub uncrossed_kept : {C : Type 0} (w : Fixed C) (e : Event) (s : Machine C) → Uncrossed s → Uncrossed (after w e s)
unfolding Uncrossed after
uncrossed_kept w (Admit t) s h = all_join IsUncrossed s.book.acts _ h (refl, tt)
uncrossed_kept w (Arrive k a) s h = all_crossed_gone a _
uncrossed_kept w (Ask t a) s h = uncrossed_asked t a (book.in_the_way (lock_of t s.book.acts) (cell_at s a).entries) (book.met (lock_of t s.book.acts) (cell_at s a).entries) (cell_at s a) s.book h
uncrossed_kept w (End t a) s h = uncrossed_ended t (has_act t (cell_at s a).entries) (outcome_of t (cell_at s a).outbox) s.book.acts h
uncrossed_kept w (Abort k) s h = all_map IsUncrossed IsUncrossed _ s.book.acts (λ x i. and_false (is_live_status (book.cascaded k (book.failed_tx (book.why k s.desk)) x).status)) h
uncrossed_kept w (Prepare t a) s h = uncrossed_changed t _ s.book.acts (λ x i. i) h
uncrossed_kept w (Vouch t a) s h = uncrossed_changed t _ s.book.acts (λ x i. i) h
uncrossed_kept w (Decide t) s h = uncrossed_changed t _ s.book.acts (λ x i. fewer_crossed x (book.decided_as s.book.next_c x) (record { tid = refl; n = refl; live = live_decided s.book.next_c (is_value x.result) x.status }) refl i) h
uncrossed_kept w (Seal t) s h = uncrossed_changed t _ s.book.acts (λ x i. fewer_crossed x (book.sealed x) (record { tid = refl; n = refl; live = live_sealed x.status }) refl i) h
uncrossed_kept w (Finish t a) s h = uncrossed_changed t _ s.book.acts (λ x i. i) h
uncrossed_kept w e s h = h

-- ---- who is ahead stays ahead

ahead_join : (t k : ℕ) (rs xs : List Ran) → is_ahead t k rs ≡ true → is_ahead t k (rs ++ xs) ≡ true
ahead_join t k [] xs h = absurd (true≢false (sym h))
ahead_join t k (Stands (OfBatch j) c ss ∷ rs) xs h = ahead_join t k rs xs h
ahead_join t k (Stands (OfAct u) c ss ∷ rs) xs h = elim (or_cases ((u == t) && is_among k (batches_in rs)) (is_ahead t k rs) h) [
  | inl q ↦ let p = and_parts (u == t) (is_among k (batches_in rs)) q in or_left ((u == t) && is_among k (batches_in (rs ++ xs))) _ (and_from (u == t) (is_among k (batches_in (rs ++ xs))) p.0 (shows.join_batches k rs xs p.1))
  | inr q ↦ or_right ((u == t) && is_among k (batches_in (rs ++ xs))) (is_ahead t k (rs ++ xs)) (ahead_join t k rs xs q)
]
ahead_join t k (Gone y ss ∷ rs) xs h = ahead_join t k rs xs h

-- a batch that is placed behind it
ahead_placed : (t k : ℕ) (rs : List Ran) (es : List Entry) → Turns rs es → is_among t (book.tids_on es) ≡ true → is_ahead t k (rs ++ not_run (OfBatch k) ∷ []) ≡ true
ahead_placed t k [] [] r h = absurd (true≢false (sym h))
ahead_placed t k [] (e ∷ es) r h = absurd r
ahead_placed t k (Gone y ss ∷ rs) es r h = ahead_placed t k rs es r h
ahead_placed t k (Stands y c ss ∷ rs) [] r h = absurd r
ahead_placed t k (Stands (OfBatch j) c ss ∷ rs) (BatchEntry b ∷ es) r h = ahead_placed t k rs es r.2 h
ahead_placed t k (Stands (OfBatch j) c ss ∷ rs) (ActEntry x ∷ es) r h = absurd (cc r.0)
ahead_placed t k (Stands (OfAct u) c ss ∷ rs) (BatchEntry b ∷ es) r h = absurd (cc r.0)
ahead_placed t k (Stands (OfAct u) c ss ∷ rs) (ActEntry x ∷ es) r h =
    let i : x.tid ≡ u = cc r.0 in
    elim (or_cases (x.tid == t) (is_among t (book.tids_on es)) h) [
      | inl q ↦ or_left ((u == t) && is_among k (batches_in (rs ++ not_run (OfBatch k) ∷ []))) _ (and_from (u == t) (is_among k (batches_in (rs ++ not_run (OfBatch k) ∷ []))) (subst (λ z. (z == t) ≡ true) i q) (last rs))
      | inr q ↦ or_right ((u == t) && is_among k (batches_in (rs ++ not_run (OfBatch k) ∷ []))) _ (ahead_placed t k rs es r.2 q)
    ]
  where
    among_last : (ks : List ℕ) → is_among k (ks ++ k ∷ []) ≡ true
    among_last [] = or_left (k == k) _ (eq-eqb k k refl)
    among_last (j ∷ js) = or_right (j == k) _ (among_last js)

    last : (rs : List Ran) → is_among k (batches_in (rs ++ not_run (OfBatch k) ∷ [])) ≡ true
    last rs = subst (λ z. is_among k z ≡ true) (sym (PlaceLists.batches_join rs (not_run (OfBatch k) ∷ []))) (among_last (batches_in rs))

ahead_ran : (t k : ℕ) (who : Who) (x : Slice) (rs : List Ran) → is_ahead t k rs ≡ true → is_ahead t k (map (ran_in who x) rs) ≡ true
ahead_ran t k who x [] h = h
ahead_ran t k who x (Stands (OfBatch j) c ss ∷ rs) h = ahead_ran t k who x rs h
ahead_ran t k who x (Stands (OfAct u) c ss ∷ rs) h = subst (λ z. (((u == t) && is_among k z) || is_ahead t k (map (ran_in who x) rs)) ≡ true) (sym (PlaceLists.batches_ran who x rs)) (elim (or_cases ((u == t) && is_among k (batches_in rs)) (is_ahead t k rs) h) [ inl q ↦ or_left ((u == t) && is_among k (batches_in rs)) _ q | inr q ↦ or_right ((u == t) && is_among k (batches_in rs)) _ (ahead_ran t k who x rs q) ])
ahead_ran t k who x (Gone y ss ∷ rs) h = ahead_ran t k who x rs h

ahead_completed : (t k j : ℕ) (rs : List Ran) → is_ahead t k rs ≡ true → is_ahead t k (map (completed j) rs) ≡ true
ahead_completed t k j [] h = h
ahead_completed t k j (Stands (OfBatch i) c ss ∷ rs) h = ahead_completed t k j rs h
ahead_completed t k j (Stands (OfAct u) c ss ∷ rs) h = subst (λ z. (((u == t) && is_among k z) || is_ahead t k (map (completed j) rs)) ≡ true) (sym (PlaceLists.batches_completed j rs)) (elim (or_cases ((u == t) && is_among k (batches_in rs)) (is_ahead t k rs) h) [ inl q ↦ or_left ((u == t) && is_among k (batches_in rs)) _ q | inr q ↦ or_right ((u == t) && is_among k (batches_in rs)) _ (ahead_completed t k j rs q) ])
ahead_completed t k j (Gone y ss ∷ rs) h = ahead_completed t k j rs h

-- somebody else leaves
ahead_left : (t k : ℕ) (who : Who) (rs : List Ran) → is_who (OfAct t) who ≡ false → is_ahead t k rs ≡ true → is_ahead t k (map (left_for_good who) rs) ≡ true
ahead_left t k who [] e h = h
ahead_left t k who (Stands (OfBatch j) c ss ∷ rs) e h = by (is_who (OfBatch j) who) (ahead_left t k who rs e h)
  where
    by : (b : Bool) → is_ahead t k (map (left_for_good who) rs) ≡ true → is_ahead t k ((if b then Gone (OfBatch j) ss else Stands (OfBatch j) c ss) ∷ map (left_for_good who) rs) ≡ true
    by true r = r
    by false r = r
ahead_left t k who (Stands (OfAct u) c ss ∷ rs) e h = by (is_who (OfAct u) who) refl (or_cases ((u == t) && is_among k (batches_in rs)) (is_ahead t k rs) h) (ahead_left t k who rs e)
  where
    by : (b : Bool) → is_who (OfAct u) who ≡ b → (((u == t) && is_among k (batches_in rs)) ≡ true) ⊎ (is_ahead t k rs ≡ true) → (is_ahead t k rs ≡ true → is_ahead t k (map (left_for_good who) rs) ≡ true)
        → is_ahead t k ((if b then Gone (OfAct u) ss else Stands (OfAct u) c ss) ∷ map (left_for_good who) rs) ≡ true
    by true q (inl v) r = absurd (true≢false (sym q ∙ subst (λ z. is_who (OfAct z) who ≡ false) (sym (eqb-true u t (and_parts (u == t) (is_among k (batches_in rs)) v).0)) e))
    by true q (inr v) r = r v
    by false q (inl v) r = or_left ((u == t) && is_among k (batches_in (map (left_for_good who) rs))) _ (subst (λ z. ((u == t) && is_among k z) ≡ true) (sym (PlaceLists.batches_left who rs)) v)
    by false q (inr v) r = or_right ((u == t) && is_among k (batches_in (map (left_for_good who) rs))) _ (r v)
ahead_left t k who (Gone y ss ∷ rs) e h = ahead_left t k who rs e h

ahead_undone : (t k u : ℕ) (rs : List Ran) → (t == u) ≡ false → is_ahead t k rs ≡ true → is_ahead t k (without_standing (OfAct u) rs) ≡ true
ahead_undone t k u [] e h = h
ahead_undone t k u (Stands (OfBatch j) c ss ∷ rs) e h = ahead_undone t k u rs e h
ahead_undone t k u (Stands (OfAct v) c ss ∷ rs) e h = by (v == u) refl (or_cases ((v == t) && is_among k (batches_in rs)) (is_ahead t k rs) h) (ahead_undone t k u rs e)
  where
    by : (b : Bool) → (v == u) ≡ b → (((v == t) && is_among k (batches_in rs)) ≡ true) ⊎ (is_ahead t k rs ≡ true) → (is_ahead t k rs ≡ true → is_ahead t k (without_standing (OfAct u) rs) ≡ true)
        → is_ahead t k (if b then without_standing (OfAct u) rs else Stands (OfAct v) c ss ∷ without_standing (OfAct u) rs) ≡ true
    by true q (inl i) r = absurd (true≢false (sym q ∙ subst (λ z. (z == u) ≡ false) (sym (eqb-true v t (and_parts (v == t) (is_among k (batches_in rs)) i).0)) e))
    by true q (inr i) r = r i
    by false q (inl i) r = or_left ((v == t) && is_among k (batches_in (without_standing (OfAct u) rs))) _ (subst (λ z. ((v == t) && is_among k z) ≡ true) (sym (PlaceLists.batches_without_act u rs)) i)
    by false q (inr i) r = or_right ((v == t) && is_among k (batches_in (without_standing (OfAct u) rs))) _ (r i)
ahead_undone t k u (Gone y ss ∷ rs) e h = ahead_undone t k u rs e h

-- a batch that is not aborted is not cut
unaborted : (next : ℕ) (cs : List Cascade) (ep tail k x : ℕ) (ks : List ℕ) → is_aborted x cs ≡ true → FitsCell next cs ep tail x → AllByRecursion (λ j. x < j) ks → AllByRecursion (FitsCell next cs ep tail) ks → is_among k ks ≡ true → is_aborted k cs ≡ true
unaborted next cs ep tail k x [] a f l g h = absurd (true≢false (sym h))
unaborted next cs ep tail k x (j ∷ js) a f l g h = elim (or_cases (j == k) (is_among k js) h) [
  | inl e ↦ subst (λ z. is_aborted z cs ≡ true) (eqb-true j k e) (PlaceLists.suffix x j cs a (omega (arith, l.0)) (omega (arith, g.0.placed, f.aborted a)))
  | inr e ↦ unaborted next cs ep tail k x js a f l.1 g.1 e
]

among_staying : (next : ℕ) (cs : List Cascade) (ep tail k : ℕ) (rs : List Ran) → is_aborted k cs ≡ false → AllByRecursion (FitsCell next cs ep tail) (batches_in rs) → Ascends (batches_in rs) → is_among k (batches_in rs) ≡ true → is_among k (batches_in (long_staying cs rs)) ≡ true
among_staying next cs ep tail k [] n f a h = h
among_staying next cs ep tail k (Stands (OfBatch j) c ss ∷ rs) n f a h = by (is_aborted j cs) refl (or_cases (j == k) (is_among k (batches_in rs)) h) (among_staying next cs ep tail k rs n f.1 a.1)
  where
    by : (b : Bool) → is_aborted j cs ≡ b → ((j == k) ≡ true) ⊎ (is_among k (batches_in rs) ≡ true) → (is_among k (batches_in rs) ≡ true → is_among k (batches_in (long_staying cs rs)) ≡ true)
        → is_among k (batches_in (if b then [] else Stands (OfBatch j) c ss ∷ long_staying cs rs)) ≡ true
    by true q (inl i) r = absurd (true≢false (sym (subst (λ z. is_aborted z cs ≡ true) (eqb-true j k i) q) ∙ n))
    by true q (inr i) r = absurd (true≢false (sym (unaborted next cs ep tail k j (batches_in rs) q f.0 a.0 f.1 i) ∙ n))
    by false q (inl i) r = or_left (j == k) _ i
    by false q (inr i) r = or_right (j == k) _ (r i)
among_staying next cs ep tail k (Stands (OfAct t) c ss ∷ rs) n f a h = among_staying next cs ep tail k rs n f a h
among_staying next cs ep tail k (Gone (OfBatch j) ss ∷ rs) n f a h = elim (or_cases (j == k) (is_among k (batches_in rs)) h) [ inl i ↦ or_left (j == k) _ i | inr i ↦ or_right (j == k) _ (among_staying next cs ep tail k rs n f.1 a.1 i) ]
among_staying next cs ep tail k (Gone (OfAct t) ss ∷ rs) n f a h = among_staying next cs ep tail k rs n f a h

none_ahead : (acts : List Act) (t k : ℕ) (rs : List Ran) → (doomed_at acts t ≡ true → ⊥) → AllDoomed acts rs → is_ahead t k rs ≡ true → ⊥
none_ahead acts t k [] d a h = true≢false (sym h)
none_ahead acts t k (Stands (OfBatch j) c ss ∷ rs) d a h = none_ahead acts t k rs d a h
none_ahead acts t k (Stands (OfAct u) c ss ∷ rs) d a h = elim (or_cases ((u == t) && is_among k (batches_in rs)) (is_ahead t k rs) h) [ inl q ↦ d (subst (λ z. doomed_at acts z ≡ true) (eqb-true u t (and_parts (u == t) (is_among k (batches_in rs)) q).0) a.0) | inr q ↦ none_ahead acts t k rs d a.1 q ]
none_ahead acts t k (Gone y ss ∷ rs) d a h = none_ahead acts t k rs d a h

ahead_staying : (next : ℕ) (cs : List Cascade) (ep tail : ℕ) (acts : List Act) (t k : ℕ) (rs : List Ran) → is_aborted k cs ≡ false → (doomed_at acts t ≡ true → ⊥) → TakenAlong cs acts rs → AllByRecursion (FitsCell next cs ep tail) (batches_in rs) → Ascends (batches_in rs)
    → is_ahead t k rs ≡ true → is_ahead t k (long_staying cs rs) ≡ true
ahead_staying next cs ep tail acts t k [] n d x f a h = h
ahead_staying next cs ep tail acts t k (Stands (OfBatch j) c ss ∷ rs) n d x f a h = by (is_aborted j cs) refl (ahead_staying next cs ep tail acts t k rs n d x.1 f.1 a.1 h)
  where
    by : (b : Bool) → is_aborted j cs ≡ b → is_ahead t k (long_staying cs rs) ≡ true → is_ahead t k (if b then [] else Stands (OfBatch j) c ss ∷ long_staying cs rs) ≡ true
    by true q r = absurd (none_ahead acts t k rs d (x.0 q) h)
    by false q r = r
ahead_staying next cs ep tail acts t k (Stands (OfAct u) c ss ∷ rs) n d x f a h = elim (or_cases ((u == t) && is_among k (batches_in rs)) (is_ahead t k rs) h) [
  | inl q ↦ let p = and_parts (u == t) (is_among k (batches_in rs)) q in or_left ((u == t) && is_among k (batches_in (long_staying cs rs))) _ (and_from (u == t) (is_among k (batches_in (long_staying cs rs))) p.0 (among_staying next cs ep tail k rs n f a p.1))
  | inr q ↦ or_right ((u == t) && is_among k (batches_in (long_staying cs rs))) _ (ahead_staying next cs ep tail acts t k rs n d x.1 f a q)
]
ahead_staying next cs ep tail acts t k (Gone (OfBatch j) ss ∷ rs) n d x f a h = ahead_staying next cs ep tail acts t k rs n d x f.1 a.1 h
ahead_staying next cs ep tail acts t k (Gone (OfAct u) ss ∷ rs) n d x f a h = ahead_staying next cs ep tail acts t k rs n d x f a h

-- ---- at an Abort: batches behind a live ACT have not committed

pub among_all : (P : ℕ → Type 0) (k : ℕ) (ks : List ℕ) → is_among k ks ≡ true → AllByRecursion P ks → P k
among_all P k [] h a = absurd (true≢false (sym h))
among_all P k (j ∷ js) h a = elim (or_cases (j == k) (is_among k js) h) [ inl e ↦ subst P (eqb-true j k e) a.0 | inr e ↦ among_all P k js e a.1 ]

ahead_among : (t k : ℕ) (rs : List Ran) → is_ahead t k rs ≡ true → is_among k (batches_in rs) ≡ true
ahead_among t k [] h = h
ahead_among t k (Stands (OfBatch j) c ss ∷ rs) h = or_right (j == k) _ (ahead_among t k rs h)
ahead_among t k (Stands (OfAct u) c ss ∷ rs) h = elim (or_cases ((u == t) && is_among k (batches_in rs)) (is_ahead t k rs) h) [ inl q ↦ (and_parts (u == t) (is_among k (batches_in rs)) q).1 | inr q ↦ ahead_among t k rs q ]
ahead_among t k (Gone (OfBatch j) ss ∷ rs) h = or_right (j == k) _ (ahead_among t k rs h)
ahead_among t k (Gone (OfAct u) ss ∷ rs) h = ahead_among t k rs h

behind_open : (kept : List Who) (cs : List Cascade) (bs : List Batch) (a n t k : ℕ) (rs : List Ran) (es : List Entry)
    → ((k : ℕ) → is_declared k a bs ≡ true → is_kept (OfBatch k) kept ≡ false → Rattle.protocol_laws.specs.Highs.is_above_or_aborted cs n k ≡ true)
    → is_kept (OfAct t) kept ≡ false → KeptFront kept rs → Turns rs es → AllByRecursion (EntryOf a bs) es → is_ahead t k rs ≡ true → Rattle.protocol_laws.specs.Highs.is_above_or_aborted cs n k ≡ true
behind_open kept cs bs a n t k [] es f e g r d h = absurd (true≢false (sym h))
behind_open kept cs bs a n t k (Gone y ss ∷ rs) es f e g r d h = behind_open kept cs bs a n t k rs es f e g.1 r d h
behind_open kept cs bs a n t k (Stands y c ss ∷ rs) [] f e g r d h = absurd r
behind_open kept cs bs a n t k (Stands (OfBatch j) c ss ∷ rs) (x ∷ es) f e g r d h = behind_open kept cs bs a n t k rs es f e g.1 r.2 d.1 h
behind_open kept cs bs a n t k (Stands (OfAct u) c ss ∷ rs) (x ∷ es) f e g r d h = elim (or_cases ((u == t) && is_among k (batches_in rs)) (is_ahead t k rs) h) [
  | inl q ↦
      let p = and_parts (u == t) (is_among k (batches_in rs)) q in
      among_all (λ k. Rattle.protocol_laws.specs.Highs.is_above_or_aborted cs n k ≡ true) k (batches_in rs) p.1
      (ShowLists.clear_behind kept cs bs a n rs es f (false_from_ne_true (has_kept kept rs) (λ v. true≢false (sym (g.0 v) ∙ subst (λ z. is_kept (OfAct z) kept ≡ false) (sym (eqb-true u t p.0)) e))) r.2 d.1)
  | inr q ↦ behind_open kept cs bs a n t k rs es f e g.1 r.2 d.1 q
]

-- ---- least

least_last : (k : ℕ) (ks : List ℕ) → least_in (ks ++ k ∷ []) ≡ Some (least_of k (least_in ks))
least_last k [] = refl
least_last k (j ∷ js) = rw (least_last k js) (by (least_in js))
  where
    by : (o : Option ℕ) → Some (least_of j (Some (least_of k o))) ≡ Some (least_of k (Some (least_of j o)))
    by None = ap (λ z. Some z) (omega arith)
    by (Some x) = ap (λ z. Some z) (omega arith)

abbrev pub Leasts : List Cascade → (ℕ → List Ran) → (ℕ → List ℕ) → List Act → Type 0
Leasts cs long behind acts = AllByRecursion (AfterIsLeast cs long behind) acts

unfoldable pub AfterSets : {C : Type 0} → Machine C → History → Type 0
AfterSets s h = Leasts s.book.cascades h.long h.behind s.book.acts

-- ---- ACTs change

fewer_least : (cs : List Cascade) (long : ℕ → List Ran) (b : ℕ → List ℕ) (x y : Act) → Fewer x y → AfterIsLeast cs long b x → AfterIsLeast cs long b y
fewer_least cs long b x y k h = λ l. let q = h (k.live l) in (k.n ∙ (q.0 ∙ ap (λ z. least_in (b z)) (sym k.tid)), subst (λ z. AllByRecursion (StandsBehind cs long z) (b z)) (sym k.tid) q.1)

least_map : (cs : List Cascade) (long : ℕ → List Ran) (b : ℕ → List ℕ) (f : Act → Act) (xs : List Act) → ((x : Act) → Fewer x (f x)) → Leasts cs long b xs → Leasts cs long b (map f xs)
least_map cs long b f xs k h = all_map (AfterIsLeast cs long b) (AfterIsLeast cs long b) f xs (λ x i. fewer_least cs long b x (f x) (k x) i) h

if_fewer : (v : Bool) (f : Act → Act) (x : Act) → Fewer x (f x) → Fewer x (book.change_if v f x)
if_fewer true f x h = h
if_fewer false f x h = record { tid = refl; n = refl; live = λ d. d }

least_changed : (cs : List Cascade) (long : ℕ → List Ran) (b : ℕ → List ℕ) (t : ℕ) (f : Act → Act) (xs : List Act) → ((x : Act) → Fewer x (f x)) → Leasts cs long b xs → Leasts cs long b (book.changed_act t f xs)
least_changed cs long b t f xs k h = least_map cs long b _ xs (λ x. if_fewer (x.tid == t) f x (k x)) h

least_raised : (cs : List Cascade) (long : ℕ → List Ran) (b : ℕ → List ℕ) (ps : List Pair) (xs : List Act) → Leasts cs long b xs → Leasts cs long b (raised ps xs)
least_raised cs long b ps [] h = tt
least_raised cs long b ps (x ∷ xs) h = (fewer_least cs long b x (record x { m = max x.m (carried ps x (raised ps xs)) }) (record { tid = refl; n = refl; live = λ d. d }) h.0, least_raised cs long b ps xs h.1)

least_asked : {C : Type 0} (cs : List Cascade) (long : ℕ → List Ran) (b : ℕ → List ℕ) (t a : ℕ) (o : Option ℕ) (group : List Lock) (c : Cell C) (k : Book) → Leasts cs long b k.acts → Leasts cs long b (book.asked_acts o group t a (max c.last (floor_at t k.acts c)) k)
least_asked cs long b t a (Some x) group c k h = least_changed cs long b t _ k.acts (λ y. record { tid = refl; n = refl; live = live_if (is_live_status y.status) _ y.status }) h
least_asked cs long b t a None group c k h =
    let joined = book.changed_act t (book.joins a (max c.last (floor_at t k.acts c))) k.acts in
    least_map cs long b (crossed_out a) (raised (k.pairs ++ book.new_pairs t a group k.acts) joined) (λ y. record { tid = refl; n = refl; live = live_if (is_crossed y) _ y.status }) (least_raised cs long b (k.pairs ++ book.new_pairs t a group k.acts) joined (least_changed cs long b t (book.joins a (max c.last (floor_at t k.acts c))) k.acts (λ y. record { tid = refl; n = refl; live = λ d. d }) h))

least_ended : {C : Type 0} (cs : List Cascade) (long : ℕ → List Ran) (b : ℕ → List ℕ) (t : ℕ) (v : Bool) (o : Option (Outcome C)) (xs : List Act) → Leasts cs long b xs → Leasts cs long b (if v then book.noted_from t o xs else xs)
least_ended cs long b t false o xs h = h
least_ended cs long b t true None xs h = h
least_ended {C} cs long b t true (Some x) xs h = by x.next
  where
    by : (y : Next C) → Leasts cs long b (book.noted_for t y xs)
    by (Go c d) = h
    by (Ended r) = least_changed cs long b t (book.with_result r) xs (λ x. record { tid = refl; n = refl; live = λ d. d }) h

-- ---- the long schedules change

-- of a live ACT, found by its tid
abbrev pub Stays : List Act → List Cascade → (ℕ → List Ran) → (ℕ → List Ran) → Type 0
Stays acts cs long long' = (x : Act) → act_of x.tid acts ≡ Some x → is_live_status x.status ≡ true → (k : ℕ) → is_aborted k cs ≡ false → (a : ℕ) → is_ahead x.tid k (long a) ≡ true → is_ahead x.tid k (long' a) ≡ true

least_long : (cs : List Cascade) (long long' : ℕ → List Ran) (b : ℕ → List ℕ) (low high : ℕ) (acts : List Act) → Ascend low high (map (λ x. x.tid) acts) → Stays acts cs long long' → Leasts cs long b acts → Leasts cs long' b acts
least_long cs long long' b low high acts asc k h =
    both_all (λ x. act_of x.tid acts ≡ Some x) (AfterIsLeast cs long b) (AfterIsLeast cs long' b) acts
    (λ x e i l. let q = i l in (q.0, weaker (StandsBehind cs long x.tid) (StandsBehind cs long' x.tid) (b x.tid) (λ j s. (s.0, (s.1.0, k x e l j s.0 s.1.0 s.1.1))) q.1))
    (find_self low high acts asc (λ x. act_of x.tid acts ≡ Some x) (λ x e. e)) h

-- at one actor
stays_at : (t k a : ℕ) (new : List Ran) (long : ℕ → List Ran) → (is_ahead t k (long a) ≡ true → is_ahead t k new ≡ true) → (b : ℕ) → is_ahead t k (long b) ≡ true → is_ahead t k (with_at a new long b) ≡ true
stays_at t k a new long step b i = beside_carried (λ b rs. is_ahead t k (long b) ≡ true → is_ahead t k rs ≡ true) a new long (λ j. step) (λ b i. i) b i

live_not_doomed : (acts : List Act) (x : Act) → act_of x.tid acts ≡ Some x → is_live_status x.status ≡ true → doomed_at acts x.tid ≡ true → ⊥
live_not_doomed acts x e l d = by x.status l (subst (λ o. holds (λ y. is_doomed y.status) o ≡ true) e d)
  where
    by : (st : Status) → is_live_status st ≡ true → is_doomed st ≡ true → ⊥
    by Live l d = true≢false (sym d)
    by (Doomed v) l d = true≢false (sym l)
    by (Decided c) l d = true≢false (sym l)
    by (Sealed c) l d = true≢false (sym l)

-- who finishes is not live
not_finished : (acts : List Act) (x : Act) (t : ℕ) → act_of x.tid acts ≡ Some x → is_live_status x.status ≡ true → holds (λ x. is_doomed x.status || is_sealed x.status) (act_of t acts) ≡ true → (x.tid == t) ≡ false
not_finished acts x t e l v = false_from_ne_true (x.tid == t) (λ q. by x.status l (subst (λ o. holds (λ x. is_doomed x.status || is_sealed x.status) o ≡ true) e (subst (λ z. holds (λ x. is_doomed x.status || is_sealed x.status) (act_of z acts) ≡ true) (sym (eqb-true x.tid t q)) v)))
  where
    by : (st : Status) → is_live_status st ≡ true → (is_doomed st || is_sealed st) ≡ true → ⊥
    by Live l d = true≢false (sym d)
    by (Doomed v) l d = true≢false (sym l)
    by (Decided c) l d = true≢false (sym l)
    by (Sealed c) l d = true≢false (sym l)

ask_ahead : (t k u : ℕ) (o : Option ℕ) (rs : List Ran) → is_ahead t k rs ≡ true → is_ahead t k (rs ++ map not_run (asks u o)) ≡ true
ask_ahead t k u None rs h = ahead_join t k rs (not_run (OfAct u) ∷ []) h
ask_ahead t k u (Some x) rs h = rw (append-nil rs) h

finish_ahead : (t k u : ℕ) (q : Bool) (rs : List Ran) → (t == u) ≡ false → is_ahead t k rs ≡ true → is_ahead t k (if q then without_standing (OfAct u) rs else map (left_for_good (OfAct u)) rs) ≡ true
finish_ahead t k u true rs e h = ahead_undone t k u rs e h
finish_ahead t k u false rs e h = ahead_left t k (OfAct u) rs e h

-- ---- a batch arrives behind ACTs

least_arrives : (cs : List Cascade) (long : ℕ → List Ran) (b : ℕ → List ℕ) (k : ℕ) (tids : List ℕ) (xs : List Act) → is_aborted k cs ≡ false → ((t : ℕ) → is_among t tids ≡ true → (a : ℕ) × (is_ahead t k (long a) ≡ true))
    → Leasts cs long b xs → Leasts cs long (behind_too k tids b) (map (book.lowered k tids) xs)
least_arrives cs long b k tids xs n p h = all_map (AfterIsLeast cs long b) (AfterIsLeast cs long (behind_too k tids b)) (book.lowered k tids) xs (λ x i l. by x (i l) (is_among x.tid tids) refl) h
  where
    by : (x : Act) → (x.n ≡ least_in (b x.tid)) × AllByRecursion (StandsBehind cs long x.tid) (b x.tid) → (c : Bool) → is_among x.tid tids ≡ c
        → ((if c then Some (least_of k x.n) else x.n) ≡ least_in (if c then b x.tid ++ k ∷ [] else b x.tid)) × AllByRecursion (StandsBehind cs long x.tid) (if c then b x.tid ++ k ∷ [] else b x.tid)
    by x q true e = (ap (λ z. Some (least_of k z)) q.0 ∙ sym (least_last k (b x.tid)), all_join (StandsBehind cs long x.tid) (b x.tid) (k ∷ []) q.1 ((n, p x.tid e), tt))
    by x q false e = q

-- ---- a cascade

filter_none : (p : ℕ → Bool) (ks : List ℕ) → AllByRecursion (λ k. p k ≡ false) ks → filter p ks ≡ []
filter_none p [] h = refl
filter_none p (k ∷ ks) h = rw h.0 (filter_none p ks h.1)

least_aborts : (cs cs' : List Cascade) (long : ℕ → List Ran) (b : ℕ → List ℕ) (keep : ℕ → Bool) (f : Act → Act) (acts : List Act) (low high : ℕ) → Ascend low high (map (λ x. x.tid) acts)
    → ((x : Act) → ((f x).tid ≡ x.tid) × ((f x).n ≡ None) × (is_live_status (f x).status ≡ true → is_live_status x.status ≡ true))
    → ((x : Act) → act_of x.tid acts ≡ Some x → is_live_status x.status ≡ true → (j : ℕ) → StandsBehind cs long x.tid j → keep j ≡ false) → Leasts cs long b acts → Leasts cs' long (λ t. filter keep (b t)) (map f acts)
least_aborts cs cs' long b keep f acts low high asc k r h =
    all_map (λ x. (act_of x.tid acts ≡ Some x) × AfterIsLeast cs long b x) (AfterIsLeast cs' long (λ t. filter keep (b t))) f acts
    (λ x p l.
    let live = (k x).2 l in
    let q = p.1 live in
    let none : filter keep (b (f x).tid) ≡ [] = subst (λ z. filter keep (b z) ≡ []) (sym (k x).0) (filter_none keep (b x.tid) (weaker (StandsBehind cs long x.tid) (λ j. keep j ≡ false) (b x.tid) (λ j s. r x p.0 live j s) q.1)) in
    ((k x).1 ∙ sym (ap least_in none), subst (AllByRecursion (StandsBehind cs' long (f x).tid)) (sym none) tt))
    (both_all (λ x. act_of x.tid acts ≡ Some x) (AfterIsLeast cs long b) (λ x. (act_of x.tid acts ≡ Some x) × AfterIsLeast cs long b x) acts (λ x e i. (e, i)) (find_self low high acts asc (λ x. act_of x.tid acts ≡ Some x) (λ x e. e)) h)

-- a batch that has not committed is aborted, or not below one that is next
next_or : {C : Type 0} (w : Fixed C) (s : Machine C) (h : History) (k j : ℕ) (test : Batch → Bool) → settling.Settling w s → Marked s h → is_next_to_commit k s.desk.batches ≡ true → holds test (batch_of j s.desk.batches) ≡ true → is_kept (OfBatch j) h.kept ≡ false → Rattle.protocol_laws.specs.Highs.is_above_or_aborted s.book.cascades k j ≡ true
unfolding settling.Settling Marked
next_or w s h k j test st m o d f =
    let b = one_is test (batch_of j s.desk.batches) d in
    let i = settling.in_keys b.0 (λ x. x.bid == j) s.desk.batches b.1 in
    let e : b.0.bid ≡ j = eqb-true b.0.bid j i.1 in
    let formed : is_formed b.0.stage ≡ true = not_not (is_formed b.0.stage) (sym (m j b.0 b.1).known ∙ f) in
    elim (cases_Bool (is_aborted j s.book.cascades)) [
      | inl a ↦ or_left (is_aborted j s.book.cascades) _ a
      | inr a ↦
          let un : b.0.aborted ≡ false = st.marked (settling.key_of b.0) i.0 ∙ subst (λ z. is_aborted z s.book.cascades ≡ false) (sym e) a in
          or_right (is_aborted j s.book.cascades) (nat_le k j) (elim (Rattle.std.proofs.lemmas.Bool.cases_lt j k) [
            | inl l ↦ absurd (over b.0.stage formed (or_cases b.0.aborted (is_settled b.0.stage) (settling.next_over k s.desk.batches o (settling.key_of b.0) i.0 (omega (arith, e, l)))) un)
            | inr l ↦ le-leb k j (omega (arith, l))
          ])
    ]
  where
    not_not : (b : Bool) → not b ≡ false → b ≡ true
    not_not true e = refl
    not_not false e = absurd (true≢false e)

    over : (st : Rattle.protocol.specs.Parts.Stage) {a : Bool} → is_formed st ≡ true → (a ≡ true) ⊎ (is_settled st ≡ true) → a ≡ false → ⊥
    over st f (inl q) u = true≢false (sym q ∙ u)
    over Rattle.protocol.specs.Parts.Formed f (inr q) u = true≢false (sym q)
    over Rattle.protocol.specs.Parts.Committing f (inr q) u = true≢false (sym q)
    over Rattle.protocol.specs.Parts.Settled f (inr q) u = true≢false (sym f)

-- ---- all events

pub record AfterWith {C : Type 0} (w : Fixed C) (s : Machine C) (h : History) : Type 0 where
  pub beside : shows.Beside w s h
  pub placed : Placed w s h
  pub tids : TidsAscend s
  pub none_live : overs.NoneLive s h

others_least : (cs : List Cascade) (long : ℕ → List Ran) (b : ℕ → List ℕ) (t low : ℕ) (v : List ℕ) (xs : List Act) → Ascend low t (map (λ x. x.tid) xs) → Leasts cs long b xs → Leasts cs long (with_at t v b) xs
unfolding Ascend
others_least cs long b t low v [] a h = tt
others_least cs long b t low v (x ∷ xs) a h = (
  (λ l. let q = h.0 l in let e : with_at t v b x.tid ≡ b x.tid = at_other t x.tid v b (λ e. omega (arith, e, below (x.tid + 1) t xs a.1)) in (q.0 ∙ ap least_in (sym e), subst (AllByRecursion (StandsBehind cs long x.tid)) (sym e) q.1)),
  others_least cs long b t (x.tid + 1) v xs a.1 h.1,
)
  where
    below : (low high : ℕ) (xs : List Act) → Ascend low high (map (λ x. x.tid) xs) → low ≤ high
    below low high [] a = a
    below low high (x ∷ xs) a = omega (arith, a.0, below (x.tid + 1) high xs a.1)

live_not_kept : {C : Type 0} (s : Machine C) (h : History) (x : Act) → overs.NoneLive s h → act_of x.tid s.book.acts ≡ Some x → is_live_status x.status ≡ true → is_kept (OfAct x.tid) h.kept ≡ false
unfolding overs.NoneLive
live_not_kept s h x n e l = false_from_ne_true (is_kept (OfAct x.tid) h.kept) (λ q. true≢false (sym (subst (λ o. holds (λ x. not (is_live_status x.status)) o ≡ true) e (n x.tid q)) ∙ ap not l))

-- what stands behind a live ACT goes with a cascade
taken_all : {C : Type 0} (w : Fixed C) (k : ℕ) (s : Machine C) (h : History) → is_next_to_commit k s.desk.batches ≡ true → AfterWith w s h → (x : Act) → act_of x.tid s.book.acts ≡ Some x → is_live_status x.status ≡ true → (j : ℕ) → StandsBehind s.book.cascades h.long x.tid j
    → (nat_lt j k || not (nat_lt j s.ring.next_bid)) ≡ false
unfolding Placed Turned Committed
taken_all w k s h o g x e l j q =
    let a = q.1.0 in
    let f : FitsCell s.ring.next_bid s.book.cascades (cell_at s a).epoch (cell_at s a).tail j = among_all (FitsCell s.ring.next_bid s.book.cascades (cell_at s a).epoch (cell_at s a).tail) j (batches_in (h.long a)) (ahead_among x.tid j (h.long a) q.1.1) ((g.placed a).fit) in
    let r = behind_open h.kept s.book.cascades s.desk.batches a k x.tid j (h.long a) (cell_at s a).entries (λ i d n. next_or w s h k i (λ b. is_some (declared_of a b)) g.beside.settles g.beside.marked o d n) (live_not_kept s h x g.none_live e l) ((g.beside.committed a).front) (g.beside.turned a) (g.beside.from_desk.entries a) q.1.1 in
    elim (or_cases (is_aborted j s.book.cascades) (nat_le k j) r) [
      | inl v ↦ absurd (true≢false (sym v ∙ q.0))
      | inr v ↦ rw (not_less j k (leb-true k j v), lt-ltb j s.ring.next_bid f.formed) refl
    ]
  where
    not_less : (j k : ℕ) → k ≤ j → nat_lt j k ≡ false
    not_less j k l = false_from_ne_true (nat_lt j k) (λ e. omega (arith, l, ltb-true j k e))

-- a batch stands behind the ACTs there, and who stands between batches is not given up yet
pub arrived_least : {C : Type 0} (w : Fixed C) (k a : ℕ) (s : Machine C) (h : History) → IsAllowed w (Arrive k a) s → AfterWith w s h → AfterSets s h
    → Leasts s.book.cascades (with_at a (h.long a ++ not_run (OfBatch k) ∷ []) h.long) (behind_too k (book.tids_on (cell_at s a).entries) h.behind) (map (book.lowered k (book.tids_on (cell_at s a).entries)) s.book.acts)
unfolding AfterSets TidsAscend Turned conditions
arrived_least w k a s h ok q g =
    let long' = with_at a (h.long a ++ not_run (OfBatch k) ∷ []) h.long in
    let tids = book.tids_on (cell_at s a).entries in
    least_arrives s.book.cascades long' h.behind k tids s.book.acts (not-true (is_aborted k s.book.cascades) ok.1.0) (λ t i. (a, rw (eq-eqb a a refl) (ahead_placed t k (h.long a) (cell_at s a).entries (q.beside.turned a) i)))
    (least_long s.book.cascades h.long long' h.behind 0 s.ring.next_tid s.book.acts q.tids (λ x e l j n b i. stays_at x.tid j a (h.long a ++ not_run (OfBatch k) ∷ []) h.long (ahead_join x.tid j (h.long a) (not_run (OfBatch k) ∷ [])) b i) g)

-- an ACT asks, and nobody is in its way
pub asked_least : {C : Type 0} (w : Fixed C) (t a : ℕ) (s : Machine C) (h : History) → AfterWith w s h → AfterSets s h
    → Leasts s.book.cascades (with_at a (h.long a ++ map not_run (asks t (book.in_the_way (lock_of t s.book.acts) (cell_at s a).entries))) h.long) h.behind (raised (s.book.pairs ++ book.new_pairs t a (book.met (lock_of t s.book.acts) (cell_at s a).entries) s.book.acts) (book.changed_act t (book.joins a (max (cell_at s a).last (floor_at t s.book.acts (cell_at s a)))) s.book.acts))
unfolding AfterSets TidsAscend
asked_least w t a s h q g =
    let new = h.long a ++ map not_run (asks t (book.in_the_way (lock_of t s.book.acts) (cell_at s a).entries)) in
    let long' = with_at a new h.long in
    least_raised s.book.cascades long' h.behind (s.book.pairs ++ book.new_pairs t a (book.met (lock_of t s.book.acts) (cell_at s a).entries) s.book.acts) (book.changed_act t (book.joins a (max (cell_at s a).last (floor_at t s.book.acts (cell_at s a)))) s.book.acts)
    (least_changed s.book.cascades long' h.behind t (book.joins a (max (cell_at s a).last (floor_at t s.book.acts (cell_at s a)))) s.book.acts (λ y. record { tid = refl; n = refl; live = λ d. d })
    (least_long s.book.cascades h.long long' h.behind 0 s.ring.next_tid s.book.acts q.tids (λ x e l j n b i. stays_at x.tid j a new h.long (ask_ahead x.tid j t (book.in_the_way (lock_of t s.book.acts) (cell_at s a).entries) (h.long a)) b i) g))

pub after_kept : {C : Type 0} (w : Fixed C) (e : Event) (s : Machine C) (h : History) → IsAllowed w e s → AfterWith w s h → AfterSets s h → AfterSets (after w e s) (grown w e s h)
unfolding AfterSets TidsAscend Placed Turned conditions after grown
after_kept w (Admit t) s h ok k g =
    let i : t ≡ s.ring.next_tid = eqb-true t s.ring.next_tid ok.0 in
    all_join (AfterIsLeast s.book.cascades h.long (with_at t [] h.behind)) s.book.acts _ (others_least s.book.cascades h.long h.behind t 0 [] s.book.acts (subst (λ z. Ascend 0 z (map (λ x. x.tid) s.book.acts)) (sym i) k.tids) g)
    ((λ l. (ap least_in (sym (at_it t [] h.behind)), subst (AllByRecursion (StandsBehind s.book.cascades h.long t)) (sym (at_it t [] h.behind)) tt)), tt)
after_kept w (Arrive k a) s h ok q g =
    least_map s.book.cascades (with_at a (h.long a ++ not_run (OfBatch k) ∷ []) h.long) (behind_too k (book.tids_on (cell_at s a).entries) h.behind) (crossed_out a) (map (book.lowered k (book.tids_on (cell_at s a).entries)) s.book.acts) (λ x. record { tid = refl; n = refl; live = live_if (is_crossed x) _ x.status })
    (arrived_least w k a s h ok q g)
after_kept w (Ask t a) s h ok q g =
    let new = h.long a ++ map not_run (asks t (book.in_the_way (lock_of t s.book.acts) (cell_at s a).entries)) in
    least_asked s.book.cascades (with_at a new h.long) h.behind t a (book.in_the_way (lock_of t s.book.acts) (cell_at s a).entries) (book.met (lock_of t s.book.acts) (cell_at s a).entries) (cell_at s a) s.book
    (least_long s.book.cascades h.long (with_at a new h.long) h.behind 0 s.ring.next_tid s.book.acts q.tids (λ x e l j n b i. stays_at x.tid j a new h.long (ask_ahead x.tid j t (book.in_the_way (lock_of t s.book.acts) (cell_at s a).entries) (h.long a)) b i) g)
after_kept w (Run t a) s h ok q g =
    let who = who_on t (cell_at s a).entries in
    let z : Slice = record { tid = t; found = (cell_at s a).state; left = (cell.slice_run w.code t a (cell_at s a)).state } in
    least_long s.book.cascades h.long (with_at a (ran_on (cell.reads_on t (cell_at s a).entries) who z (h.long a)) h.long) h.behind 0 s.ring.next_tid s.book.acts q.tids (λ x e l j n b i. stays_at x.tid j a (ran_on (cell.reads_on t (cell_at s a).entries) who z (h.long a)) h.long (λ v. TrackLists.on_reads (λ rs. is_ahead x.tid j rs ≡ true) (cell.reads_on t (cell_at s a).entries) who z (h.long a) (λ y. ahead_ran x.tid j who z (h.long a) y) v) b i) g
after_kept w (End t a) s h ok q g = least_ended s.book.cascades h.long h.behind t (has_act t (cell_at s a).entries) (outcome_of t (cell_at s a).outbox) s.book.acts g
after_kept w (Complete k a) s h ok q g = least_long s.book.cascades h.long (with_at a (map (completed k) (h.long a)) h.long) h.behind 0 s.ring.next_tid s.book.acts q.tids (λ x e l j n b i. stays_at x.tid j a (map (completed k) (h.long a)) h.long (ahead_completed x.tid j k (h.long a)) b i) g
after_kept w (Abort k) s h ok q g = least_aborts s.book.cascades _ h.long h.behind (λ j. nat_lt j k || not (nat_lt j s.ring.next_bid)) _ s.book.acts 0 s.ring.next_tid q.tids (λ x. (refl, refl, live_if _ _ x.status)) (λ x e l j b. taken_all w k s h (next_of (batch_of k s.desk.batches) ok.0) q x e l j b) g
  where
    next_of : (o : Option Batch) → holds (λ b. is_open b && is_next_to_commit k s.desk.batches) o ≡ true → is_next_to_commit k s.desk.batches ≡ true
    next_of None v = absurd (true≢false (sym v))
    next_of (Some b) v = (and_parts (is_open b) (is_next_to_commit k s.desk.batches) v).1
after_kept w (Rollback a) s h ok q g = least_long s.book.cascades h.long (with_at a (long_staying s.book.cascades (h.long a)) h.long) h.behind 0 s.ring.next_tid s.book.acts q.tids
    (λ x e l j n b i. stays_at x.tid j a (long_staying s.book.cascades (h.long a)) h.long (ahead_staying s.ring.next_bid s.book.cascades (cell_at s a).epoch (cell_at s a).tail s.book.acts x.tid j (h.long a) n (live_not_doomed s.book.acts x e l) (q.beside.taken a) ((q.placed a).fit) ((q.placed a).ascends)) b i) g
after_kept w (Prepare t a) s h ok q g = least_changed s.book.cascades h.long h.behind t _ s.book.acts (λ x. record { tid = refl; n = refl; live = λ d. d }) g
after_kept w (Vouch t a) s h ok q g = least_changed s.book.cascades h.long h.behind t _ s.book.acts (λ x. record { tid = refl; n = refl; live = λ d. d }) g
after_kept w (Decide t) s h ok q g = least_changed s.book.cascades h.long h.behind t _ s.book.acts (λ x. record { tid = refl; n = refl; live = live_decided s.book.next_c (is_value x.result) x.status }) g
after_kept w (Seal t) s h ok q g = least_changed s.book.cascades h.long h.behind t _ s.book.acts (λ x. record { tid = refl; n = refl; live = live_sealed x.status }) g
after_kept w (Finish t a) s h ok q g =
    let new = if is_traceless (act_of t s.book.acts) then without_standing (OfAct t) (h.long a) else map (left_for_good (OfAct t)) (h.long a) in
    least_changed s.book.cascades (with_at a new h.long) h.behind t _ s.book.acts (λ x. record { tid = refl; n = refl; live = λ d. d })
    (least_long s.book.cascades h.long (with_at a new h.long) h.behind 0 s.ring.next_tid s.book.acts q.tids (λ x e l j n b i. stays_at x.tid j a new h.long (finish_ahead x.tid j t (is_traceless (act_of t s.book.acts)) (h.long a) (not_finished s.book.acts x t e l ok.0)) b i) g)
after_kept w (Trim k a) s h ok q g = least_long s.book.cascades h.long (with_at a (map (left_for_good (OfBatch k)) (h.long a)) h.long) h.behind 0 s.ring.next_tid s.book.acts q.tids (λ x e l j n b i. stays_at x.tid j a (map (left_for_good (OfBatch k)) (h.long a)) h.long (ahead_left x.tid j (OfBatch k) (h.long a) refl) b i) g
after_kept w e s h ok q g = g
