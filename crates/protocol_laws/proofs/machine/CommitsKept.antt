-- What committed along all long schedules, event by event.
use Rattle.std.specs.Prelude.{◌≡◌, refl, ℕ, ◌==◌, not, Bool, true, false, ◌&&◌, if◌then◌else◌, Option, Some, None, is_some, List, [], ◌∷◌, ◌++◌, map, slice_index_or}
use Rattle.std.specs.List.{AllByRecursion}
use Rattle.std.proofs.Common.{sym, subst, inl, inr}
use Rattle.std.proofs.lemmas.List.{append-nil}
use Rattle.std.proofs.lemmas.Bool.{eqb-true, cases_Bool}
use Rattle.snap_base.specs.declared.transactions.State.{State}
use Rattle.protocol.specs.Fixed.{Fixed, no_state}
use Rattle.protocol.specs.Parts.{Act, Batch, Pact, Who, OfBatch, OfAct, Cell, Machine}
use Rattle.protocol.specs.Events.{Event, Arrive, Ask, Run, Complete, Commit, Rollback, Decide, Finish, Trim}
use Rattle.protocol.specs.Words.{is_among, is_value, who_on, act_of, batch_of, lock_of}
use Rattle.protocol.specs.Conditions.{IsAllowed, conditions}
use Rattle.protocol.specs.Effects.{after, cell_at}
use Rattle.protocol.specs.OnBook as book
use Rattle.protocol.specs.OnCell as cell
use Rattle.protocol.specs.OnCell.{is_cut}
use Rattle.protocol.specs.History.{with_at, History, Done, View, Ran, grown, not_run, left_for_good, without_standing, asks, slices_of, slices_for, act_view, view_in, done_pact, done_act, done_batch, kept_act, is_traceless}
use Rattle.protocol_laws.specs.Told.{PactsAscend}
use Rattle.protocol_laws.specs.Tracks.{key_of, keys_in, is_key_among, Differ, Tracks}
use Rattle.protocol_laws.specs.Turns.{Rising}
use Rattle.protocol_laws.specs.Commits.{is_kept, KeptAhead, KeptOrReads, Commits}
use Rattle.protocol_laws.proofs.machine.TrackLists
use Rattle.protocol_laws.proofs.machine.TracksKept.{Tracked}
use Rattle.protocol_laws.proofs.machine.CommitLists
use Rattle.protocol_laws.proofs.machine.HighLists

-- what is carried of one actor changes
pub beside_carried : {X : Type 0} (P : ℕ → X → Type 0) (a : ℕ) (new : X) (long : ℕ → X) → (P a (long a) → P a new) → ((b : ℕ) → P b (long b)) → (b : ℕ) → P b (with_at a new long b)
beside_carried P a new long k h b = elim (cases_Bool (b == a)) [
  | inl e ↦ let q : b ≡ a = eqb-true b a e in rw e (subst (λ z. P z new) (sym q) (k (h a)))
  | inr e ↦ rw e (h b)
]

abbrev pub At : {C : Type 0} → Fixed C → List Who → List Done → ℕ → List Ran → Type 0
At w kept committed a long = Commits a (slice_index_or w.text.opening.states a no_state) kept committed long

unfoldable pub Committed : {C : Type 0} → Fixed C → History → Type 0
Committed w h = (a : ℕ) → At w h.kept h.committed a (h.long a)

-- a batch may commit
pub record MayCommit {C : Type 0} (s : Machine C) (h : History) (k : ℕ) (b : Batch) : Type 0 where
  pub is_it : batch_of k s.desk.batches ≡ Some b
  pub fresh : is_kept (OfBatch k) h.kept ≡ false
  pub ascend : PactsAscend 0 b.pacts
  pub values : AllByRecursion (λ p. is_value p.result ≡ true) b.pacts
  pub ahead : (a : ℕ) → KeptAhead h.kept (OfBatch k) (h.long a)
  pub rising : (a : ℕ) → Rising 0 (slices_of (OfBatch k) (h.long a))
  pub of_it : (a : ℕ) → AllByRecursion (λ x. is_among x.tid (map (λ p. p.tid) b.pacts) ≡ true) (slices_of (OfBatch k) (h.long a))

-- What a reader read on an actor is the state that the actor has, and nothing there ran but what committed.
pub record Reads (kept : List Who) (now : State) (view : Option View) (long : List Ran) : Type 0 where
  pub sees : CommitLists.Sees now view
  pub all_kept : is_some view ≡ true → CommitLists.rest_slices kept long ≡ []

-- an ACT may get its place
pub record MayDecide {C : Type 0} (s : Machine C) (h : History) (t : ℕ) (x : Act) : Type 0 where
  pub is_it : act_of t s.book.acts ≡ Some x
  pub tid : x.tid ≡ t
  pub fresh : is_kept (OfAct t) h.kept ≡ false
  pub ahead : x.reader ≡ false → (a : ℕ) → KeptAhead h.kept (OfAct t) (h.long a)
  pub of_it : (a : ℕ) → AllByRecursion (λ z. z.tid ≡ t) (slices_of (OfAct t) (h.long a))
  -- where it came it stands
  pub there : (a : ℕ) → is_some (act_view h x a) ≡ true → is_key_among (OfAct t) (keys_in (h.long a)) ≡ true
  -- ahead of a reader that came there are readers, and who is not live
  pub readers_ahead : x.reader ≡ true → (a : ℕ) → is_some (act_view h x a) ≡ true → HighLists.FreeAhead true s.book.acts t (h.long a)
  -- and what has committed
  pub around : x.reader ≡ true → (a : ℕ) → is_some (act_view h x a) ≡ true → KeptOrReads h.kept s.book.acts (OfAct t) (h.long a)
  pub seen : x.reader ≡ true → (a : ℕ) → AllByRecursion (λ z. z.tid ≡ t → (z.found ≡ (cell_at s a).state) × (z.left ≡ (cell_at s a).state)) (h.reads a)
  pub reads : x.reader ≡ true → (a : ℕ) → Reads h.kept (cell_at s a).state (view_in t (h.reads a)) (h.long a)

unfoldable pub Assumed : {C : Type 0} → Event → Machine C → History → Type 0
Assumed (Arrive k a) s h = is_kept (OfBatch k) h.kept ≡ false
Assumed (Ask t a) s h = is_kept (OfAct t) h.kept ≡ false
Assumed (Run t a) s h = is_kept (who_on t (cell_at s a).entries) h.kept ≡ false
Assumed (Commit k) s h = (b : Batch) × MayCommit s h k b
Assumed (Rollback a) s h = (y : Who) → is_cut s.book.cascades y ≡ true → is_kept y h.kept ≡ false
Assumed (Decide t) s h = (x : Act) × MayDecide s h t x
Assumed (Finish t a) s h = is_kept (OfAct t) h.kept ≡ not (is_traceless (act_of t s.book.acts))
Assumed (Trim k a) s h = is_kept (OfBatch k) h.kept ≡ true
Assumed _ s h = Unit {0}

pub all_views : (k a : ℕ) (h : History) (ps : List Pact) → AllByRecursion (λ p. view_in p.tid (slices_of (OfBatch k) (h.long a)) ≡ view_in p.tid (slices_of (OfBatch k) (h.long a))) ps
all_views k a h [] = tt
all_views k a h (p ∷ ps) = (refl, all_views k a h ps)

ask : {C : Type 0} (w : Fixed C) (kept : List Who) (committed : List Done) (t a : ℕ) (o : Option ℕ) (long : List Ran) → is_kept (OfAct t) kept ≡ false → At w kept committed a long → At w kept committed a (long ++ map not_run (asks t o))
ask w kept committed t a None long e h = CommitLists.more a _ kept committed long (OfAct t) e h
ask w kept committed t a (Some older) long e h = rw (append-nil long) h

finish : {C : Type 0} (w : Fixed C) (kept : List Who) (committed : List Done) (t a : ℕ) (b : Bool) (long : List Ran) → is_kept (OfAct t) kept ≡ not b → At w kept committed a long
    → At w kept committed a (if b then without_standing (OfAct t) long else map (left_for_good (OfAct t)) long)
finish w kept committed t a true long e h = CommitLists.undo a _ kept committed long (OfAct t) e h
finish w kept committed t a false long e h = CommitLists.leave a _ kept committed long (OfAct t) e h

commit : {C : Type 0} (w : Fixed C) (s : Machine C) (h : History) (k a : ℕ) (o : Option Batch) (b : Batch) (c : Cell C) → o ≡ Some b → MayCommit s h k b → Tracks (slice_index_or w.text.opening.states a no_state) (map key_of c.entries) c.images c.state (h.long a)
    → At w h.kept h.committed a (h.long a) → At w (h.kept ++ OfBatch k ∷ []) (h.committed ++ done_batch k h o) a (h.long a)
commit w s h k a o b c e m t g = rw e
    (CommitLists.commits a _ c.state h.kept h.committed (h.long a) (OfBatch k) (map (done_pact k h) b.pacts) m.fresh (subst Differ t.stands t.differ) (m.ahead a) t.links
    (λ last to l. CommitLists.batch_explains k a 0 h last to b.pacts (slices_of (OfBatch k) (h.long a)) m.ascend (m.rising a) (m.of_it a) m.values (all_views k a h b.pacts) l) g)

decide : {C : Type 0} (w : Fixed C) (s : Machine C) (h : History) (n t a : ℕ) (o : Option Act) (x : Act) (c : Cell C) → o ≡ Some x → c.state ≡ (cell_at s a).state → MayDecide s h t x → Tracks (slice_index_or w.text.opening.states a no_state) (map key_of c.entries) c.images c.state (h.long a)
    → At w h.kept h.committed a (h.long a) → At w (h.kept ++ kept_act o) (h.committed ++ done_act n h o) a (h.long a)
decide w s h n t a o x c e now m r g = rw (e, m.tid) (by (is_value x.result) refl x.reader refl)
  where
    unit : Bool → Done
    unit v = record { who = OfAct t; tid = t; tx = x.tx; place = Rattle.protocol.specs.Verdicts.act_place x.m n; result = x.result; reader = v; views = λ a. view_in t (slices_for v t (h.reads a) (h.long a)) }

    sees : Reads h.kept (cell_at s a).state (view_in t (h.reads a)) (h.long a) → CommitLists.Sees c.state (view_in t (h.reads a))
    sees k = subst (λ z. CommitLists.Sees z (view_in t (h.reads a))) (sym now) k.sees

    by : (b : Bool) → is_value x.result ≡ b → (v : Bool) → x.reader ≡ v → At w (h.kept ++ (if b && not v then OfAct t ∷ [] else [])) (h.committed ++ unit v ∷ []) a (h.long a)
    by true v false q = CommitLists.commits a _ c.state h.kept h.committed (h.long a) (OfAct t) (unit false ∷ []) m.fresh (subst Differ r.stands r.differ) (m.ahead q a) r.links
        (λ last to l. CommitLists.act_explains a (unit false) t (slices_of (OfAct t) (h.long a)) last to refl v (m.of_it a) l) g
    by false v false q = rw (append-nil h.kept) (CommitLists.fails a _ c.state h.kept h.committed (h.long a) (OfAct t) (unit false) m.fresh (subst Differ r.stands r.differ) (m.ahead q a) r.links v
        (λ last to l. (CommitLists.one_links t (slices_of (OfAct t) (h.long a)) last to (m.of_it a) l).0) g)
    by true v true q = rw (append-nil h.kept) (CommitLists.reads a _ c.state h.kept h.committed (h.long a) (unit true) (sees (m.reads q a)) (λ i. (m.reads q a).all_kept i) r.links g)
    by false v true q = rw (append-nil h.kept) (CommitLists.reads a _ c.state h.kept h.committed (h.long a) (unit true) (sees (m.reads q a)) (λ i. (m.reads q a).all_kept i) r.links g)

pub kept : {C : Type 0} (w : Fixed C) (e : Event) (s : Machine C) (h : History) → IsAllowed w e s → Assumed e s h → Tracked w s h → Committed w h → Committed w (grown w e s h)
unfolding Committed Tracked Assumed conditions after grown
kept w (Arrive k a) s h ok more d g = beside_carried (At w h.kept h.committed) a _ h.long (λ x. CommitLists.more a _ _ _ (h.long a) (OfBatch k) more x) g
kept w (Ask t a) s h ok more d g = beside_carried (At w h.kept h.committed) a _ h.long (ask w h.kept h.committed t a (book.in_the_way (lock_of t s.book.acts) (cell_at s a).entries) (h.long a) more) g
kept w (Run t a) s h ok more d g = beside_carried (At w h.kept h.committed) a _ h.long (TrackLists.on_reads (At w h.kept h.committed a) (cell.reads_on t (cell_at s a).entries) _ _ (h.long a) (λ x. CommitLists.ran a _ _ _ (h.long a) _ _ more x)) g
kept w (Complete k a) s h ok more d g = beside_carried (At w h.kept h.committed) a _ h.long (λ x. CommitLists.complete a _ _ _ (h.long a) k x) g
kept w (Commit k) s h ok more d g = λ a. commit w s h k a (batch_of k s.desk.batches) more.0 (cell_at s a) more.1.is_it more.1 (d a) (g a)
kept w (Rollback a) s h ok more d g = beside_carried (At w h.kept h.committed) a _ h.long (λ x. CommitLists.roll_back a _ _ _ (h.long a) s.book.cascades more x) g
kept w (Decide t) s h ok more d g = λ a. decide w s h s.book.next_c t a (act_of t s.book.acts) more.0 (cell_at s a) more.1.is_it refl more.1 (d a) (g a)
kept w (Finish t a) s h ok more d g = beside_carried (At w h.kept h.committed) a _ h.long (finish w h.kept h.committed t a (is_traceless (act_of t s.book.acts)) (h.long a) more) g
kept w (Trim k a) s h ok more d g = beside_carried (At w h.kept h.committed) a _ h.long (λ x. CommitLists.leave a _ _ _ (h.long a) (OfBatch k) more x) g
kept w e s h ok more d g = g
