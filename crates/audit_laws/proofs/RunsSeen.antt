-- Where PACTs ran, by the events: each that committed ran there alone where a Run event names it.
use Rattle.std.specs.Prelude.{◌≡◌, ◌≢◌, refl, ℕ, zero, suc, ◌<◌, ◌≤◌, ◌==◌, not, Bool, true, false, ◌&&◌, ◌||◌, if◌then◌else◌, Option, Some, None, is_some, List, [], ◌∷◌, ◌++◌, length, map}
use Rattle.std.specs.List.{AllByRecursion, list_any}
use Rattle.std.proofs.Common.{arith, sym, ap, subst, inl, inr, ◌∙◌}
use Rattle.std.proofs.lemmas.Bool.{true≢false, eqb-true, eqb-false, eq-eqb, ne_eqb, and_parts, and_from, or_left, or_right}
use Rattle.snap_base.specs.declared.transactions.State.{State}
use Rattle.snap_base.specs.declared.transactions.Tx.{Tx}
use Rattle.snap_base.proofs.Booleans.{or_assoc, or_only}
use Rattle.snap_base.proofs.Lists.{all_found, all_join}
use Rattle.snap_base.proofs.Options.{somebody}
use Rattle.protocol.specs.Conditions.{IsAllowed, conditions}
use Rattle.protocol.specs.Effects.{after, cell_at, no_cell}
use Rattle.protocol.specs.Events.{Event, Form, Admit, Arrive, Ask, Run, Commit, Settle, Abort, Decide, Finish}
use Rattle.protocol.specs.Facts.{Alone}
use Rattle.protocol.specs.Fixed.{Fixed, Go, IsText, Next, Text}
use Rattle.protocol.specs.History.{Done, History, Slice, Step, Trail, View, begun, done_act, done_batch, done_pact, gone_on, grown, history, history_after, last_left, no_history, slices_of, view_in, with_at}
use Rattle.protocol.specs.OnCell.{slice_run}
use Rattle.protocol.specs.OnRing as ring
use Rattle.protocol.specs.Parts.{Act, Batch, Machine, OfAct, OfBatch, Pact, Waiting, Who}
use Rattle.protocol.specs.Rests.{HasFacts, IsRest, IsTxIn}
use Rattle.protocol.specs.Runs.{opening, reached, state_after, EachAllowed, IsRun}
use Rattle.protocol.specs.Words.{act_of, batch_of, holds, is_act_who, is_among, is_empty, is_next_to_commit, is_open, least_older, names_pact, waiting_of}
use Rattle.protocol_laws.specs.Marks.{Known}
use Rattle.protocol_laws.specs.Told.{AnyPact, FromBatches, IsDonePact, PactFrom}
use Rattle.protocol_laws.specs.Trails.{on_actor}
use Rattle.protocol_laws.proofs.first.CellEpochs.{held}
use Rattle.protocol_laws.proofs.machine.AllGood.{all_good, none_allowed}
use Rattle.protocol_laws.proofs.machine.ControlWalk.{AllControls}
use Rattle.protocol_laws.proofs.machine.Good.{Given}
use Rattle.protocol_laws.proofs.machine.Resting.{NoResult, NoneNoted, numbered_from}
use Rattle.protocol_laws.proofs.machine.TrailsKept.{drawn}
use Rattle.protocol_theorems.proofs.order.LastLaw.{whole}
use Rattle.protocol_theorems.proofs.order.RunsBefore.{is_open_with}
use Rattle.protocol_theorems.proofs.order.SlicesKept.{Matched}
use Rattle.protocol_theorems.proofs.order.ViewsExplain.{own_slices}
use Rattle.audit_words.specs.Happenings.{added, comes, happened, may_abort, may_ask, met, seen_from}
use Rattle.audit_words.specs.Seen.{Seen, was_formed, nothing_seen}
use Rattle.audit_laws.specs.RunsTold.{RunsAsTold, RunsAreSeen}
use Rattle.audit_laws.proofs.NamesSeen.{either, asked}

-- ---- lists

pub any_join : {X : Type 0} (p : X → Bool) (xs ys : List X) → list_any p (xs ++ ys) ≡ (list_any p xs || list_any p ys)
any_join p [] ys = refl
any_join p (x ∷ xs) ys = ap (λ (b : Bool). p x || b) (any_join p xs ys) ∙ or_assoc (p x) (list_any p xs) (list_any p ys)

-- one of the steps is on the actor
abbrev pub has_step : ℕ → List Step → Bool
has_step a xs = list_any (λ x. x.actor == a) xs

abbrev pub is_full : {X : Type 0} → List X → Bool
is_full xs = not (is_empty xs)

-- a step as a slice of a transaction
abbrev slice_of : ℕ → Step → Slice
slice_of t x = record { tid = t; found = x.found; left = x.left }

-- what a slice and those behind it show of a transaction
abbrev view_from : ℕ → Slice → List Slice → View
view_from t x xs = record { found = x.found; left = last_left t x.left xs }

-- a trail that has no step yet
abbrev no_steps : ℕ → Trail
no_steps n = record { tx = n; steps = [] }

steps_full : (a t : ℕ) (xs : List Step) → has_step a xs ≡ is_full (on_actor a t xs)
steps_full a t [] = refl
steps_full a t (x ∷ xs) = by (x.actor == a) (steps_full a t xs)
  where
    by : (b : Bool) → has_step a xs ≡ is_full (on_actor a t xs) → (b || has_step a xs) ≡ is_full (if b then slice_of t x ∷ on_actor a t xs else on_actor a t xs)
    by true r = refl
    by false r = r

own_viewed : (t : ℕ) (xs : List Slice) → is_full (own_slices t xs) ≡ is_some (view_in t xs)
own_viewed t [] = refl
own_viewed t (x ∷ xs) = by (x.tid == t) (own_viewed t xs)
  where
    by : (b : Bool) → is_full (own_slices t xs) ≡ is_some (view_in t xs) → is_full (if b then x ∷ own_slices t xs else own_slices t xs) ≡ is_some (if b then Some (view_from t x xs) else view_in t xs)
    by true r = refl
    by false r = r

each_named : (ps qs : List Pact) → ((n : ℕ) → list_any (λ q. q.tid == n) ps ≡ true → list_any (λ q. q.tid == n) qs ≡ true) → AllByRecursion (λ p. list_any (λ q. q.tid == p.tid) qs ≡ true) ps
each_named [] qs f = tt
each_named (p ∷ ps) qs f =
    (f p.tid (or_left (p.tid == p.tid) (list_any (λ q. q.tid == p.tid) ps) (eq-eqb p.tid p.tid refl)), each_named ps qs (λ n i. f n (or_right (p.tid == n) (list_any (λ q. q.tid == n) ps) i)))

-- ---- steps

-- a new trail has no step
begun_same : (a v : ℕ) (ps : List Pact) (f : ℕ → Trail) → AllByRecursion (λ p. (f p.tid).steps ≡ []) ps → has_step a (begun ps f v).steps ≡ has_step a (f v).steps
begun_same a v [] f h = refl
begun_same a v (p ∷ ps) f h = by (v == p.tid) refl (begun_same a v ps f h.1)
  where
    by : (b : Bool) → (v == p.tid) ≡ b → has_step a (begun ps f v).steps ≡ has_step a (f v).steps → has_step a (if b then no_steps p.tx else begun ps f v).steps ≡ has_step a (f v).steps
    by true e r = sym (ap (has_step a) (subst (λ (z : ℕ). (f z).steps ≡ []) (sym (eqb-true v p.tid e)) h.0))
    by false e r = r

begun_fresh : (v : ℕ) (ps : List Pact) (f : ℕ → Trail) → (f v).steps ≡ [] → (begun ps f v).steps ≡ []
begun_fresh v [] f h = h
begun_fresh v (p ∷ ps) f h = by (v == p.tid) (begun_fresh v ps f h)
  where
    by : (b : Bool) → (begun ps f v).steps ≡ [] → (if b then no_steps p.tx else begun ps f v).steps ≡ []
    by true r = refl
    by false r = r

one_begun : (a t v n : ℕ) (f : ℕ → Trail) → (f t).steps ≡ [] → has_step a (with_at t (no_steps n) f v).steps ≡ has_step a (f v).steps
one_begun a t v n f h = by (v == t) refl
  where
    by : (b : Bool) → (v == t) ≡ b → has_step a (if b then no_steps n else f v).steps ≡ has_step a (f v).steps
    by true e = sym (ap (has_step a) (subst (λ (z : ℕ). (f z).steps ≡ []) (sym (eqb-true v t e)) h))
    by false e = refl

one_fresh : (t v n : ℕ) (f : ℕ → Trail) → (f v).steps ≡ [] → (with_at t (no_steps n) f v).steps ≡ []
one_fresh t v n f h = by (v == t)
  where
    by : (b : Bool) → (if b then no_steps n else f v).steps ≡ []
    by true = refl
    by false = h

steps_other : (u v : ℕ) (x : Trail) (f : ℕ → Trail) → u ≢ v → (with_at v x f u).steps ≡ (f u).steps
steps_other u v x f n = rw (ne_eqb u v n) refl

each_fresh : (n : ℕ) (ps : List Pact) (f : ℕ → Trail) → AllByRecursion (λ p. n ≤ p.tid) ps → ((u : ℕ) → n ≤ u → (f u).steps ≡ []) → AllByRecursion (λ p. (f p.tid).steps ≡ []) ps
each_fresh n [] f h k = tt
each_fresh n (p ∷ ps) f h k = (k p.tid h.0, each_fresh n ps f h.1 k)

-- a run of another one on some actor
among_other : (v u b a : ℕ) (ran : ℕ → List ℕ) → u ≢ v → is_among v (with_at b (ran b ++ u ∷ []) ran a) ≡ is_among v (ran a)
among_other v u b a ran n = by (a == b) refl
  where
    by : (c : Bool) → (a == b) ≡ c → is_among v (if c then ran b ++ u ∷ [] else ran a) ≡ is_among v (ran a)
    by true e =
        any_join (λ (x : ℕ). x == v) (ran b) (u ∷ [])
        ∙ (or_only (is_among v (ran b)) ((u == v) || false) (ap (λ (c : Bool). c || false) (ne_eqb u v n)) ∙ ap (λ (z : ℕ). is_among v (ran z)) (sym (eqb-true a b e)))
    by false e = refl

-- one step more, of it or of another one
ran_on : (v u a : ℕ) (x : Step) (ran : ℕ → List ℕ) (f : ℕ → Trail) → ((t c : ℕ) → is_among t (ran c) ≡ has_step c (f t).steps) → is_among v (with_at x.actor (ran x.actor ++ u ∷ []) ran a) ≡ has_step a (with_at u (gone_on x (f u)) f v).steps
ran_on v u a x ran f h = by (v == u) refl
  where
    own : v ≡ u → (c : Bool) → (a == x.actor) ≡ c → is_among v (if c then ran x.actor ++ u ∷ [] else ran a) ≡ has_step a ((f u).steps ++ x ∷ [])
    own i true e =
        (any_join (λ (y : ℕ). y == v) (ran x.actor) (u ∷ []) ∙ or_right (is_among v (ran x.actor)) ((u == v) || false) (or_left (u == v) false (eq-eqb u v (sym i))))
        ∙ sym (any_join (λ (y : Step). y.actor == a) (f u).steps (x ∷ []) ∙ or_right (has_step a (f u).steps) ((x.actor == a) || false) (or_left (x.actor == a) false (eq-eqb x.actor a (sym (eqb-true a x.actor e)))))
    own i false e =
        h v a
        ∙ (ap (λ (z : ℕ). has_step a (f z).steps) i
        ∙ sym (any_join (λ (y : Step). y.actor == a) (f u).steps (x ∷ []) ∙ or_only (has_step a (f u).steps) ((x.actor == a) || false) (ap (λ (c : Bool). c || false) (ne_eqb x.actor a (λ q. eqb-false a x.actor e (sym q))))))

    by : (b : Bool) → (v == u) ≡ b → is_among v (with_at x.actor (ran x.actor ++ u ∷ []) ran a) ≡ has_step a (if b then gone_on x (f u) else f v).steps
    by true e = own (eqb-true v u e) (a == x.actor) refl
    by false e = among_other v u x.actor a ran (λ q. eqb-false v u e (sym q)) ∙ h v a

-- ---- who committed runs no more

pact_ended : (u k : ℕ) (d : Done) (ps : List Pact) → AnyPact (IsDonePact k d) ps → AllByRecursion (λ p. p.tid ≡ u → p.result ≡ None) ps → d.tid ≡ u → ⊥
pact_ended u k d [] i n e = absurd i
pact_ended u k d (p ∷ ps) (inl q) n e = true≢false (sym q.ended ∙ ap is_some (n.0 (sym q.tid ∙ e)))
pact_ended u k d (p ∷ ps) (inr i) n e = pact_ended u k d ps i n.1 e

not_its : {C : Type 0} (s : Machine C) (h : History) (u k : ℕ) (d : Done) → PactFrom s.desk.batches h.kept k d → Known s h → NoResult u s.desk.batches → d.tid ≡ u → ⊥
unfolding Known
not_its s h u k d f known none e =
    let b = somebody (batch_of k s.desk.batches) (known k f.kept) in
    pact_ended u k d (b.0).pacts (f.is_it k b.0 b.1 refl) (all_found (λ (c : Batch). AllByRecursion (λ (p : Pact). p.tid ≡ u → p.result ≡ None) c.pacts) (λ (c : Batch). c.bid == k) s.desk.batches b.0 none b.1).0 e

which : (who : Who) → is_act_who who ≡ false → (k : ℕ) × (who ≡ OfBatch k)
which (OfBatch k) e = (k, refl)
which (OfAct t) e = absurd (true≢false e)

views_stay : {C : Type 0} (s : Machine C) (h : History) (u b : ℕ) (ran : ℕ → List ℕ) (ds : List Done) → FromBatches s.desk.batches h.kept ds → Known s h → NoResult u s.desk.batches → AllByRecursion (RunsAsTold ran) ds → AllByRecursion (RunsAsTold (with_at b (ran b ++ u ∷ []) ran)) ds
views_stay s h u b ran [] f k n i = tt
views_stay s h u b ran (d ∷ ds) f k n i =
    ((λ e a. let q = which d.who e in among_other d.tid u b a ran (λ z. not_its s h u q.0 d (f.0 q.0 q.1) k n (sym z)) ∙ i.0 e a), views_stay s h u b ran ds f.1 k n i.1)

-- ---- what is used of a state

pub record RunFacts {C : Type 0} (s : Machine C) (h : History) : Type 0 where
  pub drawn : AllControls (λ u n. u < s.ring.next_tid) s
  pub none : AllControls (NoneNoted s) s
  pub known : Known s h
  pub from : FromBatches s.desk.batches h.kept h.committed
  pub matched : Matched s h

-- ---- event by event

pub record RanTold {C : Type 0} (s : Machine C) (h : History) (ran : ℕ → List ℕ) : Type 0 where
  pub steps : (u a : ℕ) → is_among u (ran a) ≡ has_step a (h.trails u).steps
  pub fresh : (u : ℕ) → s.ring.next_tid ≤ u → (h.trails u).steps ≡ []
  pub views : AllByRecursion (RunsAsTold ran) h.committed

abbrev is_run : Event → Bool
is_run (Run u a) = true
is_run _ = false

ran_stays : (r : Tx → Bool) (w : Text) (e : Event) (t : Seen) → is_run e ≡ false → (added r w e t).ran ≡ t.ran
unfolding added
ran_stays r w (Run u a) t h = absurd (true≢false h)
ran_stays r w (Arrive k a) t h = either (λ x. x.ran) (comes k a t) _ t refl
ran_stays r w (Ask u a) t h = either (λ x. x.ran) (may_ask w u a t) _ t (asked (λ x. x.ran) u a (least_older u (met u a t)) t (λ older. refl) refl)
ran_stays r w (Settle k) t h = either (λ x. x.ran) (was_formed k t && not (is_among k t.settled)) _ t refl
ran_stays r w (Abort k) t h = either (λ x. x.ran) (may_abort k t) _ t refl
ran_stays r w (Finish u a) t h = either (λ x. x.ran) _ _ t refl
ran_stays r w e t h = refl

open_pacts : {C : Type 0} (s : Machine C) (h : History) (ran : ℕ → List ℕ) (k : ℕ) (b : Batch) (ps : List Pact) → Matched s h → ((u a : ℕ) → is_among u (ran a) ≡ has_step a (h.trails u).steps) → batch_of k s.desk.batches ≡ Some b → is_open b ≡ true
    → AllByRecursion (λ p. names_pact p.tid b ≡ true) ps → AllByRecursion (RunsAsTold ran) (map (done_pact k h) ps)
unfolding Matched
open_pacts s h ran k b [] m st e o n = tt
open_pacts s h ran k b (p ∷ ps) m st e o n =
    ((λ q a. st p.tid a ∙ (steps_full a p.tid (h.trails p.tid).steps ∙ (ap is_full (m (OfBatch k) p.tid runs a) ∙ own_viewed p.tid (slices_of (OfBatch k) (h.long a))))), open_pacts s h ran k b ps m st e o n.1)
  where
    runs : holds (is_open_with p.tid) (batch_of k s.desk.batches) ≡ true
    runs = subst (λ (z : Option Batch). holds (is_open_with p.tid) z ≡ true) (sym e) (and_from (is_open b) (names_pact p.tid b) o n.0)

committing : {C : Type 0} (s : Machine C) (h : History) (ran : ℕ → List ℕ) (k : ℕ) (o : Option Batch) → Matched s h → ((u a : ℕ) → is_among u (ran a) ≡ has_step a (h.trails u).steps) → batch_of k s.desk.batches ≡ o
    → holds (λ b. is_open b && is_next_to_commit k s.desk.batches) o ≡ true → AllByRecursion (RunsAsTold ran) (done_batch k h o)
committing s h ran k None m st e x = absurd (true≢false (sym x))
committing s h ran k (Some b) m st e x = open_pacts s h ran k b b.pacts m st e (and_parts (is_open b) (is_next_to_commit k s.desk.batches) x).0 (each_named b.pacts b.pacts (λ n i. i))

deciding : (h : History) (ran : ℕ → List ℕ) (c : ℕ) (o : Option Act) → AllByRecursion (RunsAsTold ran) (done_act c h o)
deciding h ran c None = tt
deciding h ran c (Some x) = ((λ e a. absurd (true≢false e)), tt)

-- the control that runs
own_control : {C : Type 0} (P : ℕ → Next C → Type 0) (u a : ℕ) (s : Machine C) → AllControls P s → is_some (waiting_of u (cell_at s a).inbox) ≡ true → (n : Next C) × P u n
own_control {C} P u a s h i =
    let x = somebody (waiting_of u (cell_at s a).inbox) i in
    let q = all_found (λ (y : Waiting C). P y.tid (Go a y.control)) (λ (y : Waiting C). y.tid == u) (cell_at s a).inbox x.0 (h.inboxes a) x.1 in
    (Go a (x.0).control, subst (λ (z : ℕ). P z (Go a (x.0).control)) (eqb-true (x.0).tid u q.1) q.0)

module _ {C : Type 0} (w : Fixed C) where
  steps_kept : (e : Event) (s : Machine C) (h : History) (t : Seen) → IsAllowed w e s → RanTold s h t.ran → (u a : ℕ) → is_among u ((happened w.code.only_reads w.text e t).ran a) ≡ has_step a ((grown w e s h).trails u).steps
  unfolding added grown conditions
  steps_kept (Form k) s h t ok g u a =
      g.steps u a ∙ sym (begun_same a u (ring.next_pacts w.text s.ring) h.trails (each_fresh s.ring.next_tid (ring.next_pacts w.text s.ring) h.trails (numbered_from s.ring.next_tid s.ring.next_tid _ (omega arith)) g.fresh))
  steps_kept (Admit v) s h t ok g u a = g.steps u a ∙ sym (one_begun a v u _ h.trails (g.fresh v (omega (arith, eqb-true v s.ring.next_tid ok.0))))
  steps_kept (Run v b) s h t ok g u a = ran_on u v a (record { actor = b; found = (cell_at s b).state; left = (slice_run w.code v b (cell_at s b)).state }) t.ran h.trails g.steps
  steps_kept e s h t ok g u a = ap (λ (f : ℕ → List ℕ). is_among u (f a)) (ran_stays w.code.only_reads w.text e t refl) ∙ g.steps u a

  fresh_kept : (e : Event) (s : Machine C) (h : History) (t : Seen) → IsAllowed w e s → RunFacts s h → RanTold s h t.ran → (u : ℕ) → (after w e s).ring.next_tid ≤ u → ((grown w e s h).trails u).steps ≡ []
  unfolding grown conditions after
  fresh_kept (Form k) s h t ok f g u l = begun_fresh u (ring.next_pacts w.text s.ring) h.trails (g.fresh u (omega (arith, l)))
  fresh_kept (Admit v) s h t ok f g u l = one_fresh v u _ h.trails (g.fresh u (omega (arith, l)))
  fresh_kept (Run v b) s h t ok f g u l =
      let q = own_control (λ z n. z < s.ring.next_tid) v b s f.drawn (held (λ c. is_some (waiting_of v c.inbox)) s.cells b no_cell ok.0) in
      steps_other u v _ h.trails (λ e. omega (arith, e, q.1, l)) ∙ g.fresh u l
  fresh_kept e s h t ok f g u l = g.fresh u l

  views_kept : (e : Event) (s : Machine C) (h : History) (t : Seen) → IsAllowed w e s → RunFacts s h → RanTold s h t.ran → AllByRecursion (RunsAsTold (happened w.code.only_reads w.text e t).ran) (grown w e s h).committed
  unfolding added grown conditions
  views_kept (Run v b) s h t ok f g =
      views_stay s h v b t.ran h.committed f.from f.known (own_control (NoneNoted s) v b s f.none (held (λ c. is_some (waiting_of v c.inbox)) s.cells b no_cell ok.0)).1 g.views
  views_kept (Commit k) s h t ok f g = all_join (RunsAsTold t.ran) h.committed (done_batch k h (batch_of k s.desk.batches)) g.views (committing s h t.ran k (batch_of k s.desk.batches) f.matched g.steps refl ok.0)
  views_kept (Decide v) s h t ok f g = all_join (RunsAsTold t.ran) h.committed (done_act s.book.next_c h (act_of v s.book.acts)) g.views (deciding h t.ran s.book.next_c (act_of v s.book.acts))
  views_kept e s h t ok f g = subst (λ (r : ℕ → List ℕ). AllByRecursion (RunsAsTold r) h.committed) (sym (ran_stays w.code.only_reads w.text e t refl)) g.views

  ran_kept : (e : Event) (s : Machine C) (h : History) (t : Seen) → IsAllowed w e s → RunFacts s h → RanTold s h t.ran → RanTold (after w e s) (grown w e s h) (happened w.code.only_reads w.text e t).ran
  ran_kept e s h t ok f g = record { steps = steps_kept e s h t ok g; fresh = fresh_kept e s h t ok f g; views = views_kept e s h t ok f g }

  -- ---- a run

  ran_along : (es : List Event) (s : Machine C) (h : History) (t : Seen) → ((fs : List Event) → EachAllowed w fs s → RunFacts (state_after w fs s) (history_after w fs s h)) → EachAllowed w es s → RanTold s h t.ran
      → RanTold (state_after w es s) (history_after w es s h) (seen_from w.code.only_reads w.text es t).ran
  ran_along [] s h t f run g = g
  ran_along (e ∷ es) s h t f run g =
      ran_along es (after w e s) (grown w e s h) (happened w.code.only_reads w.text e t) (λ fs r. f (e ∷ fs) (run.0, r)) run.1 (ran_kept e s h t run.0 (f [] tt) g)

  run_facts : (Of : Tx → C → Type 0) (finish : C → List State → Alone) (es : List Event) → Given w Of finish → IsRun w es → FromBatches (reached w es).desk.batches (history w es).kept (history w es).committed → RunFacts (reached w es) (history w es)
  run_facts Of finish es v run from =
      let g = (all_good w Of finish es v run).good in
      record { drawn = drawn (reached w es) g.held; none = g.none; known = g.known; from = from; matched = (whole w Of finish es v run).ordered.matched }

  pub runs_seen : (finish : C → List State → Alone) (es : List Event) → HasFacts w finish → IsText w.text → ((fs : List Event) → IsRun w fs → FromBatches (reached w fs).desk.batches (history w fs).kept (history w fs).committed) → IsRun w es → RunsAreSeen w es
  runs_seen finish es f text from run = by es run (length w.text.opening.states) refl
    where
      by : (es : List Event) → IsRun w es → (n : ℕ) → length w.text.opening.states ≡ n → RunsAreSeen w es
      by es run (suc n) l =
          (ran_along es (opening w) no_history (nothing_seen w.text)
          (λ fs r. run_facts (IsRest w.code (IsTxIn w.text)) finish fs (record { text = text; actors = omega (arith, l); facts = f }) r (from fs r)) run
          (record { steps = λ u a. refl; fresh = λ u k. refl; views = tt })).views
      by [] run zero l = tt
      by (e ∷ es) run zero l = absurd (none_allowed w e text l run.0)
