-- A batch arrives at an actor, and an ACT asks for one.
use Rattle.std.specs.Prelude.{◌≡◌, refl, ℕ, ◌<◌, ◌==◌, nat_lt, max, not, Bool, true, false, ◌&&◌, ◌||◌, if◌then◌else◌, Option, Some, None, is_some, List, [], ◌∷◌, ◌++◌, filter, length, map}
use Rattle.std.specs.List.{AllByRecursion}
use Rattle.std.proofs.Common.{arith, sym, ap, subst, ◌∙◌}
use Rattle.std.proofs.lemmas.Bool.{true≢false, and_parts, and_from, eqb-true, lt-ltb}
use Rattle.std.proofs.lemmas.List.{append-nil, map-append}
use Rattle.snap_base.specs.declared.transactions.State.{State}
use Rattle.snap_base.specs.declared.transactions.Tx.{Tx}
use Rattle.snap_base.proofs.Lists.{all_found}
use Rattle.snap_base.proofs.Options.{none_is_some, same_some, somebody}
use Rattle.protocol.specs.Conditions.{IsAllowed, conditions, epoch}
use Rattle.protocol.specs.Effects.{after, cell_at, no_cell}
use Rattle.protocol.specs.Events.{Arrive, Ask}
use Rattle.protocol.specs.Facts.{Alone}
use Rattle.protocol.specs.Fixed.{Fixed}
use Rattle.protocol.specs.History.{History, asked_set, asks, batches_in, grown, is_none, not_run, sets_of, spread_sets, with_at}
use Rattle.protocol.specs.History as history
use Rattle.protocol.specs.OnBook as book
use Rattle.protocol.specs.OnCell as cell
use Rattle.protocol.specs.Parts.{Act, ActEntry, Machine, OfAct, OfBatch, Pair, Status, SubBatch, Who}
use Rattle.protocol.specs.Rivals.{Lock, rivals}
use Rattle.protocol.specs.Spread.{crossed_out, is_crossed, raised}
use Rattle.protocol.specs.Verdicts.{died}
use Rattle.protocol.specs.Words.{act_of, floor_at, greatest, has_act, holds, is_doomed, is_live_status, is_ordered, lock_of, sub_of, who_of}
use Rattle.protocol_laws.specs.FromDesk.{is_declared, MessageOf}
use Rattle.protocol_laws.specs.Highs.{doomed_at}
use Rattle.protocol_laws.proofs.first.CellEpochs.{held}
use Rattle.protocol_laws.proofs.first.Statuses.{live_not_doomed}
use Rattle.protocol_laws.proofs.machine.Higher.{owed}
use Rattle.protocol_laws.proofs.machine.ShowsKept as shows
use Rattle.protocol_laws.proofs.machine.PlaceLists.{batches_join}
use Rattle.protocol_laws.proofs.machine.ReadersKept.{Locks}
use Rattle.protocol_laws.proofs.machine.TracksKept.{arrives, beside, beside_same, filter_same, in_range}
use Rattle.protocol_theorems.specs.Sets.{least_in}
use Rattle.protocol_theorems.proofs.order.ArrivesOnce.{arrives_once}
use Rattle.protocol_theorems.proofs.sets.AtPlacing.{arrive_ends, ask_ends}
use Rattle.audit_words.specs.Happenings as told
use Rattle.audit_words.specs.Happenings.{ahead_of, comes, cross_out, gain, may_ask, met, act_placed_last, batch_placed_last, with_pairs}
use Rattle.audit_words.specs.Seen.{Seen, acts_among, batch_in, goes_to, was_admitted, was_taken_along, was_given_up, is_one_of_these, least, lock_in, sets_cross}
use Rattle.audit_laws.specs.Names.{TellsNames}
use Rattle.audit_laws.proofs.Acts.{changed_status, crossed_ordered, died_ordered, doomed_died, if_tid, mapped_status, mapped_tids, raised_status, raised_tids, status_at}
use Rattle.audit_laws.proofs.GivenUp.{crossed_told, given_join, same_least, seen_crossing}
use Rattle.audit_laws.proofs.NamesSeen.{Frames}
use Rattle.audit_laws.proofs.Standing.{acts_same, cut_same, goes_same, lock_same, met_same, there_placed, there_same}
use Rattle.audit_laws.proofs.Simulated.{Tells, AskedTells, EndsAre, stands_behind, died_as, EntriesAre, act_pair, SimFacts}
use Rattle.audit_laws.proofs.SimulatedLists.{at_both, at_right, at_long, at_long_both, beyond_more, still_gaining, spread_same}

module _ {C : Type 0} (w : Fixed C) (fr : Frames C) where
  -- ---- a batch arrives

  -- the batch goes to the actor
  pub goes : (k a : ℕ) (s : Machine C) (h : History) → IsAllowed w (Arrive k a) s → AllByRecursion (MessageOf s.desk.batches) s.post.subs → is_declared k a s.desk.batches ≡ true
  unfolding conditions
  goes k a s h ok f =
      let m = somebody (sub_of k a s.post.subs) ok.0 in
      let q = all_found (MessageOf s.desk.batches) (λ (x : SubBatch). (x.bid == k) && (x.actor == a)) s.post.subs m.0 f m.1 in
      let i = and_parts ((m.0).bid == k) ((m.0).actor == a) q.1 in
      subst (λ (z : ℕ). is_declared z a s.desk.batches ≡ true) (eqb-true (m.0).bid k i.0) (subst (λ (z : ℕ). is_declared (m.0).bid z s.desk.batches ≡ true) (eqb-true (m.0).actor a i.1) (q.0).declared)

  pub comes_told : (Of : Tx → C → Type 0) (finish : C → List State → Alone) (k a : ℕ) (s : Machine C) (h : History) (t : Seen) → IsAllowed w (Arrive k a) s → SimFacts w Of finish s h → TellsNames w s t → Tells w s h t → comes k a t ≡ true
  unfolding conditions
  comes_told Of finish k a s h t ok f n g =
      and_from (goes_to a (batch_in k t.batches)) _ (goes_same k a t.batches s.desk.batches n.bids n.actors ∙ goes k a s h ok f.good.good.from_desk.subs)
      (and_from (not (is_one_of_these (OfBatch k) (t.placed a))) (not (was_taken_along k t.cuts))
      (ap not (ap (is_one_of_these (OfBatch k)) (g.placed a) ∙ (there_placed (OfBatch k) (h.placed a) ∙ arrives_once w k a s h ok f.good.good.agreeing f.once)))
      (ap not (cut_same k t.cuts s.book.cascades n.firsts n.uptos) ∙ ok.1.0))

  pub arrives_in : (k a : ℕ) (s : Machine C) → IsAllowed w (Arrive k a) s → a < length s.cells
  unfolding conditions
  arrives_in k a s ok = arrives (epoch s.book) a (λ c. c.epoch == epoch s.book) s.cells (sub_of k a s.post.subs) ok.1.1.0

  -- the entry that comes
  pub batch_entry : (k a : ℕ) (s : Machine C) → IsAllowed w (Arrive k a) s → map who_of (cell.batch_entries k (sub_of k a s.post.subs)) ≡ OfBatch k ∷ []
  unfolding conditions
  batch_entry k a s ok = by (sub_of k a s.post.subs) ok.0
    where
      by : (o : Option SubBatch) → is_some o ≡ true → map who_of (cell.batch_entries k o) ≡ OfBatch k ∷ []
      by None e = absurd (true≢false (sym e))
      by (Some m) e = refl

  -- ---- live ones, before who stands between batches is given up

  pub live_of : (p : Status → Bool) (u : ℕ) (xs ys : List Act) (x : Act) → status_at p xs u ≡ status_at p ys u → act_of u xs ≡ Some x → status_at p ys u ≡ p x.status
  live_of p u xs ys x e i = sym e ∙ ap (holds (λ (z : Act). p z.status)) i

  pub crossed_found : (a u : ℕ) (xs : List Act) (x : Act) → act_of u xs ≡ Some x → act_of u (map (crossed_out a) xs) ≡ Some (crossed_out a x)
  crossed_found a u [] x e = absurd (none_is_some x e)
  crossed_found a u (y ∷ xs) x e = by (y.tid == u) e (crossed_found a u xs x)
    where
      by : (b : Bool) → (if b then Some y else act_of u xs) ≡ Some x → (act_of u xs ≡ Some x → act_of u (map (crossed_out a) xs) ≡ Some (crossed_out a x)) → (if b then Some (crossed_out a y) else act_of u (map (crossed_out a) xs)) ≡ Some (crossed_out a x)
      by true e r = ap (λ (z : Act). Some (crossed_out a z)) (same_some y x e)
      by false e r = r e

  pub found_tid : (u : ℕ) (xs : List Act) (x : Act) → act_of u xs ≡ Some x → x.tid ≡ u
  found_tid u xs x e = eqb-true x.tid u (all_found (λ (z : Act). z.tid ≡ z.tid) (λ (z : Act). z.tid == u) xs x (each xs) e).1
    where
      each : (zs : List Act) → AllByRecursion (λ (z : Act). z.tid ≡ z.tid) zs
      each [] = tt
      each (z ∷ zs) = (refl, each zs)

  -- one with this tid was live before
  pub was_live : (u : ℕ) (ys : List Act) → status_at is_live_status ys u ≡ true → (y : Act) × ((act_of u ys ≡ Some y) × (is_live_status y.status ≡ true))
  was_live u ys l = by (act_of u ys) refl l
    where
      by : (o : Option Act) → act_of u ys ≡ o → holds (λ (z : Act). is_live_status z.status) o ≡ true → (y : Act) × ((act_of u ys ≡ Some y) × (is_live_status y.status ≡ true))
      by None e l = absurd (true≢false (sym l))
      by (Some y) e l = (y, (e, l))

  pub lowered_status : (p : Status → Bool) (k : ℕ) (ts : List ℕ) (u : ℕ) (xs : List Act) → status_at p (map (book.lowered k ts) xs) u ≡ status_at p xs u
  lowered_status p k ts u xs = mapped_status p (book.lowered k ts) u xs (λ x. refl) (λ x. refl)

  -- the batches behind an ACT, behind an Arrive
  pub behind_arrived : (k a : ℕ) (s : Machine C) (h : History) (t : Seen) → Tells w s h t → (batch_placed_last k a t).behind ≡ history.behind_too k (book.tids_on (cell_at s a).entries) h.behind
  behind_arrived k a s h t g =
      let ts = book.tids_on (cell_at s a).entries in
      ap (λ (ns : List ℕ). history.behind_too k ns t.behind) (ap acts_among (g.entries a) ∙ acts_same (cell_at s a).entries) ∙ ap (history.behind_too k ts) g.behind

  -- the numbers of a live one are the ends of its sets, behind an Arrive
  pub arrived_ends : (Of : Tx → C → Type 0) (finish : C → List State → Alone) (k a u : ℕ) (s : Machine C) (h : History) (t : Seen) → IsAllowed w (Arrive k a) s → SimFacts w Of finish s h → Tells w s h t
      → (y : Act) → act_of u (map (book.lowered k (book.tids_on (cell_at s a).entries)) s.book.acts) ≡ Some y → is_live_status y.status ≡ true → EndsAre (batch_placed_last k a t) u y
  unfolding after grown
  arrived_ends Of finish k a u s h t ok f g y e l =
      let ts = book.tids_on (cell_at s a).entries in
      let xs = map (book.lowered k ts) s.book.acts in
      let behind = behind_arrived k a s h t g in
      let z = was_live u s.book.acts (live_of is_live_status u xs s.book.acts y (lowered_status is_live_status k ts u s.book.acts) e ∙ l) in
      let q = arrive_ends w Of finish k a u s h z.0 (crossed_out a y) ok f.good f.before f.after z.1.0 z.1.1 (crossed_found a u xs y e) in
      let i = found_tid u xs y e in (
        q.m ∙ (ap (λ (m : ℕ). greatest (h.before m)) i ∙ ap (λ (b : ℕ → List ℕ). greatest (b u)) (sym g.before)),
        q.n ∙ (ap (λ (m : ℕ). least_in (history.behind_too k ts h.behind m)) i ∙ (sym (same_least (history.behind_too k ts h.behind u)) ∙ ap (λ (b : ℕ → List ℕ). least (b u)) (sym behind))),
      )

  -- its sets cross where its numbers do
  pub arrived_crosses : (Of : Tx → C → Type 0) (finish : C → List State → Alone) (k a u : ℕ) (s : Machine C) (h : History) (t : Seen) → IsAllowed w (Arrive k a) s → SimFacts w Of finish s h → Tells w s h t
      → (y : Act) → act_of u (map (book.lowered k (book.tids_on (cell_at s a).entries)) s.book.acts) ≡ Some y → sets_cross (batch_placed_last k a t) u ≡ is_crossed y
  arrived_crosses Of finish k a u s h t ok f g y e =
      let ts = book.tids_on (cell_at s a).entries in
      let xs = map (book.lowered k ts) s.book.acts in
      seen_crossing (batch_placed_last k a t) u y (g.dooms u ∙ live_of is_doomed u xs s.book.acts y (lowered_status is_doomed k ts u s.book.acts) e) (g.ordered u ∙ live_of is_ordered u xs s.book.acts y (lowered_status is_ordered k ts u s.book.acts) e)
      (arrived_ends Of finish k a u s h t ok f g y e)

  -- behind an Arrive
  pub arriving_kept : (Of : Tx → C → Type 0) (finish : C → List State → Alone) (k a : ℕ) (s : Machine C) (h : History) (t : Seen) → IsAllowed w (Arrive k a) s → SimFacts w Of finish s h → TellsNames w s t → Tells w s h t
      → Tells w (after w (Arrive k a) s) (grown w (Arrive k a) s h) (cross_out a (batch_placed_last k a t))
  unfolding after grown
  arriving_kept Of finish k a s h t ok f n g =
      let inside = arrives_in k a s ok in
      let ts = book.tids_on (cell_at s a).entries in
      let xs = map (book.lowered k ts) s.book.acts in
      let x : Seen = batch_placed_last k a t in
      let behind : x.behind ≡ history.behind_too k ts h.behind = behind_arrived k a s h t g in
      let dooms : (u : ℕ) → was_given_up (cross_out a x).dooms u ≡ doomed_at (map (crossed_out a) xs) u =
      λ u. crossed_told a u x xs (n.tids ∙ sym (mapped_tids (book.lowered k ts) s.book.acts (λ y. refl))) (g.dooms u ∙ sym (lowered_status is_doomed k ts u s.book.acts))
      (arrived_crosses Of finish k a u s h t ok f g) in
      record {
        placed = at_both t.placed h.placed a _ _ (ap (λ (ws : List Who). ws ++ OfBatch k ∷ []) (g.placed a)) g.placed;
        beyond = beyond_more (length w.text.opening.states) a _ h.placed (omega (arith, inside, f.cells)) g.beyond;
        entries = beside EntriesAre s.cells a (cell.batch_placed k (sub_of k a s.post.subs) (cell_at s a)) (t.entries a ++ OfBatch k ∷ []) t.entries inside
            (λ e. ap (λ (ws : List Who). ws ++ OfBatch k ∷ []) e ∙ (ap (λ (ws : List Who). map who_of (cell_at s a).entries ++ ws) (sym (batch_entry k a s ok)) ∙ sym (map-append who_of (cell_at s a).entries (cell.batch_entries k (sub_of k a s.post.subs))))) g.entries;
        kept = at_long_both a _ h.long (t.kept a ++ k ∷ []) t.kept (ap (λ (ks : List ℕ). ks ++ k ∷ []) (g.kept a) ∙ sym (batches_join (h.long a) (not_run (OfBatch k) ∷ []))) g.kept;
        left_sealed = g.left_sealed;
        before = g.before;
        behind = behind;
        gains = still_gaining (cross_out a x).dooms (map (crossed_out a) xs) t.gains h.gains dooms g.gains;
        dooms = dooms;
        ordered = λ u. g.ordered u ∙ (sym (lowered_status is_ordered k ts u s.book.acts) ∙ sym (crossed_ordered a u xs));
        next_c = g.next_c;
        members = g.members;
      }

  -- ---- an ACT asks

  pub met_told : (Of : Tx → C → Type 0) (finish : C → List State → Alone) (u a : ℕ) (s : Machine C) (h : History) (t : Seen) → SimFacts w Of finish s h → TellsNames w s t → Tells w s h t → met u a t ≡ book.met (lock_of u s.book.acts) (cell_at s a).entries
  unfolding Locks
  met_told Of finish u a s h t f n g = met_same u t.acts s.book.acts (t.entries a) (cell_at s a).entries n.tids n.readers (g.entries a) (f.good.locks a)

  pub asks_live : (Of : Tx → C → Type 0) (finish : C → List State → Alone) (u a : ℕ) (s : Machine C) (h : History) → IsAllowed w (Ask u a) s → SimFacts w Of finish s h → status_at is_live_status s.book.acts u ≡ true
  unfolding shows.Owed
  asks_live Of finish u a s h ok f = owed w Of finish (Ask u a) s h f.given ok f.good

  pub asks_in : (u a : ℕ) (s : Machine C) → IsAllowed w (Ask u a) s → a < length s.cells
  unfolding conditions
  asks_in u a s ok = in_range _ s.cells a ok.1.1.0

  pub may_told : (Of : Tx → C → Type 0) (finish : C → List State → Alone) (u a : ℕ) (s : Machine C) (h : History) (t : Seen) → IsAllowed w (Ask u a) s → SimFacts w Of finish s h → TellsNames w s t → Tells w s h t → may_ask w.text u a t ≡ true
  unfolding conditions
  may_told Of finish u a s h t ok f n g =
      and_from (was_admitted u t && nat_lt a (length w.text.opening.states)) (not (was_given_up t.dooms u) && not (is_one_of_these (OfAct u) (t.entries a)))
      (and_from (was_admitted u t) (nat_lt a (length w.text.opening.states)) (ap is_some (act_pair u x.0 t.acts s.book.acts n.tids n.txs n.readers x.1.0).1.0) (lt-ltb a (length w.text.opening.states) (omega (arith, asks_in u a s ok, f.cells))))
      (and_from (not (was_given_up t.dooms u)) (not (is_one_of_these (OfAct u) (t.entries a))) (ap not (g.dooms u ∙ doomed))
      (ap not (ap (is_one_of_these (OfAct u)) (g.entries a) ∙ there_same u (cell_at s a).entries) ∙ held (λ c. not (has_act u c.entries)) s.cells a no_cell ok.1.1.0))
    where
      x : (y : Act) × ((act_of u s.book.acts ≡ Some y) × (is_live_status y.status ≡ true))
      x = was_live u s.book.acts (asks_live Of finish u a s h ok f)

      doomed : doomed_at s.book.acts u ≡ false
      doomed = ap (holds (λ (z : Act). is_doomed z.status)) x.1.0 ∙ live_not_doomed (x.0).status x.1.1

  -- an older one is in its way
  pub dies_kept : (u a older : ℕ) (s : Machine C) (h : History) (t : Seen) → a < length s.cells → length s.cells ≡ length w.text.opening.states → status_at is_live_status s.book.acts u ≡ true → Tells w s h t → AskedTells w u a s h (Some older) (told.asks u a (Some older) t)
  dies_kept u a older s h t inside cells live g =
      let acts = book.changed_act u (book.doomed_by (died a older u)) s.book.acts in
      let dooms : (v : ℕ) → was_given_up (t.dooms ++ died_as u a older ∷ []) v ≡ doomed_at acts v =
      λ v. given_join v t.dooms (died_as u a older ∷ [])
      ∙ (ap (λ (b : Bool). b || was_given_up (died_as u a older ∷ []) v) (g.dooms v) ∙ (ap (λ (b : Bool). doomed_at s.book.acts v || b) (alone (u == v)) ∙ sym (doomed_died u (died a older u) v s.book.acts live))) in
      record {
        placed = at_right t.placed h.placed a (h.placed a ++ []) (g.placed a ∙ sym (append-nil (h.placed a))) g.placed;
        beyond = beyond_more (length w.text.opening.states) a _ h.placed (omega (arith, inside, cells)) g.beyond;
        entries = beside_same EntriesAre s.cells a _ t.entries inside (λ e. e ∙ ap (map who_of) (sym (append-nil (cell_at s a).entries))) g.entries;
        kept = at_long a (h.long a ++ []) h.long t.kept (ap batches_in (append-nil (h.long a))) g.kept;
        left_sealed = g.left_sealed;
        before = g.before;
        behind = g.behind;
        gains = still_gaining (t.dooms ++ died_as u a older ∷ []) acts t.gains h.gains dooms g.gains;
        dooms = dooms;
        ordered = λ v. g.ordered v ∙ sym (died_ordered u (died a older u) v s.book.acts);
        next_c = g.next_c;
        members = g.members;
      }
    where
      alone : (b : Bool) → is_some (if b then Some (died_as u a older) else None) ≡ b
      alone true = refl
      alone false = refl

  -- ---- nobody is in its way

  -- who is ahead of it there, by the events
  pub ahead_same : (Of : Tx → C → Type 0) (finish : C → List State → Alone) (u a : ℕ) (s : Machine C) (h : History) (t : Seen) → SimFacts w Of finish s h → TellsNames w s t → Tells w s h t
      → ahead_of u a t ≡ filter (λ (z : Lock). not (book.is_doomed_act s.book.acts z)) (book.met (lock_of u s.book.acts) (cell_at s a).entries)
  ahead_same Of finish u a s h t f n g =
      let group = book.met (lock_of u s.book.acts) (cell_at s a).entries in
      ap (filter (λ (z : Lock). not (was_given_up t.dooms z.tid))) (met_told Of finish u a s h t f n g) ∙ filter_same (λ (z : Lock). not (was_given_up t.dooms z.tid)) (λ (z : Lock). not (book.is_doomed_act s.book.acts z)) group (λ z. ap not (g.dooms z.tid))

  pub pairs_asked : (Of : Tx → C → Type 0) (finish : C → List State → Alone) (u a : ℕ) (s : Machine C) (h : History) (t : Seen) → SimFacts w Of finish s h → TellsNames w s t → Tells w s h t → with_pairs u a t ≡ history.asked_gains u a s h
  pairs_asked Of finish u a s h t f n g =
      ap (λ (ps : List Pair). ps ++ map (stands_behind u a) (ahead_of u a t)) g.gains ∙ ap (λ (zs : List Lock). h.gains ++ map (stands_behind u a) zs) (ahead_same Of finish u a s h t f n g)

  -- the batches before an ACT, behind an Ask
  pub before_asked : (Of : Tx → C → Type 0) (finish : C → List State → Alone) (u a : ℕ) (s : Machine C) (h : History) (t : Seen) → SimFacts w Of finish s h → TellsNames w s t → Tells w s h t
      → (act_placed_last u a t).before ≡ history.asked_before true u a s h
  before_asked Of finish u a s h t f n g =
      let group = book.met (lock_of u s.book.acts) (cell_at s a).entries in
      let ahead = ahead_same Of finish u a s h t f n g in
      let pairs = pairs_asked Of finish u a s h t f n g in
      let more : gain u a t ≡ asked_set u a s h =
      ap (λ (ks : List ℕ). ks ++ (sets_of t.before (filter (rivals (lock_in t.acts u)) (t.left_sealed a)) ++ sets_of t.before (ahead_of u a t))) (g.kept a)
      ∙ (ap (λ (l : Lock). batches_in (h.long a) ++ (sets_of t.before (filter (rivals l) (t.left_sealed a)) ++ sets_of t.before (ahead_of u a t))) (lock_same u t.acts s.book.acts n.tids n.readers)
      ∙ (ap (λ (zs : List Lock). batches_in (h.long a) ++ (sets_of t.before (filter (rivals (lock_of u s.book.acts)) zs) ++ sets_of t.before (ahead_of u a t))) (g.left_sealed a)
      ∙ (ap (λ (zs : List Lock). batches_in (h.long a) ++ (sets_of t.before (filter (rivals (lock_of u s.book.acts)) (h.left_sealed a)) ++ sets_of t.before zs)) ahead
      ∙ ap (λ (b : ℕ → List ℕ). batches_in (h.long a) ++ (sets_of b (filter (rivals (lock_of u s.book.acts)) (h.left_sealed a)) ++ sets_of b (filter (λ (z : Lock). not (book.is_doomed_act s.book.acts z)) group))) g.before))) in
      let first : with_at u (t.before u ++ gain u a t) t.before ≡ with_at u (h.before u ++ asked_set u a s h) h.before =
      ap (λ (b : ℕ → List ℕ). with_at u (b u ++ gain u a t) b) g.before ∙ ap (λ (ks : List ℕ). with_at u (h.before u ++ ks) h.before) more in
      spread_same (with_pairs u a t) t.acts s.book.acts (with_at u (t.before u ++ gain u a t) t.before) n.tids
      ∙ (ap (λ (ps : List Pair). spread_sets ps s.book.acts (with_at u (t.before u ++ gain u a t) t.before)) pairs ∙ ap (spread_sets (history.asked_gains u a s h) s.book.acts) first)

  -- the ACTs behind the Ask, before who stands between batches is given up
  abbrev pub joined_by : ℕ → ℕ → Machine C → List Act
  joined_by u a s =
      raised (s.book.pairs ++ book.new_pairs u a (book.met (lock_of u s.book.acts) (cell_at s a).entries) s.book.acts)
      (book.changed_act u (book.joins a (max (cell_at s a).last (floor_at u s.book.acts (cell_at s a)))) s.book.acts)

  pub joined_status : (p : Status → Bool) (u a v : ℕ) (s : Machine C) → status_at p (joined_by u a s) v ≡ status_at p s.book.acts v
  joined_status p u a v s =
      let m = max (cell_at s a).last (floor_at u s.book.acts (cell_at s a)) in
      raised_status p (s.book.pairs ++ book.new_pairs u a (book.met (lock_of u s.book.acts) (cell_at s a).entries) s.book.acts) v (book.changed_act u (book.joins a m) s.book.acts) ∙ changed_status p u (book.joins a m) v s.book.acts (λ y. refl) (λ y. refl)

  pub joined_tids : (u a : ℕ) (s : Machine C) → map (λ (y : Act). y.tid) (joined_by u a s) ≡ map (λ (y : Act). y.tid) s.book.acts
  joined_tids u a s =
      let m = max (cell_at s a).last (floor_at u s.book.acts (cell_at s a)) in
      raised_tids (s.book.pairs ++ book.new_pairs u a (book.met (lock_of u s.book.acts) (cell_at s a).entries) s.book.acts) (book.changed_act u (book.joins a m) s.book.acts) ∙ mapped_tids (λ (y : Act). book.change_if (y.tid == u) (book.joins a m) y) s.book.acts (λ y. if_tid (y.tid == u) (book.joins a m) y refl)

  -- the numbers of a live one are the ends of its sets, behind the Ask
  pub asked_ends : (Of : Tx → C → Type 0) (finish : C → List State → Alone) (u a v : ℕ) (s : Machine C) (h : History) (t : Seen) → IsAllowed w (Ask u a) s → SimFacts w Of finish s h → TellsNames w s t → Tells w s h t
      → book.in_the_way (lock_of u s.book.acts) (cell_at s a).entries ≡ None → (y : Act) → act_of v (joined_by u a s) ≡ Some y → is_live_status y.status ≡ true → EndsAre (act_placed_last u a t) v y
  unfolding after grown
  asked_ends Of finish u a v s h t ok f n g none y e l =
      let group = book.met (lock_of u s.book.acts) (cell_at s a).entries in
      let m = max (cell_at s a).last (floor_at u s.book.acts (cell_at s a)) in
      let xs = joined_by u a s in
      let z = was_live v s.book.acts (live_of is_live_status v xs s.book.acts y (joined_status is_live_status u a v s) e ∙ l) in
      let q = ask_ends w Of finish u a v s h z.0 (crossed_out a y) f.given ok f.good f.before f.after none z.1.0 z.1.1 (subst (λ (o : Option ℕ). act_of v (book.asked_acts o group u a m s.book) ≡ Some (crossed_out a y)) (sym none) (crossed_found a v xs y e)) in
      let i = found_tid v xs y e in
      let same : (grown w (Ask u a) s h).before ≡ history.asked_before true u a s h = ap (λ (o : Option ℕ). history.asked_before (is_none o) u a s h) none in (
        q.m ∙ (ap (λ (b : ℕ → List ℕ). greatest (b y.tid)) same ∙ (ap (λ (j : ℕ). greatest (history.asked_before true u a s h j)) i ∙ ap (λ (b : ℕ → List ℕ). greatest (b v)) (sym (before_asked Of finish u a s h t f n g)))),
        q.n ∙ (ap (λ (j : ℕ). least_in (h.behind j)) i ∙ (sym (same_least (h.behind v)) ∙ ap (λ (b : ℕ → List ℕ). least (b v)) (sym g.behind))),
      )

  -- its sets cross where its numbers do
  pub asked_crosses : (Of : Tx → C → Type 0) (finish : C → List State → Alone) (u a v : ℕ) (s : Machine C) (h : History) (t : Seen) → IsAllowed w (Ask u a) s → SimFacts w Of finish s h → TellsNames w s t → Tells w s h t
      → book.in_the_way (lock_of u s.book.acts) (cell_at s a).entries ≡ None → (y : Act) → act_of v (joined_by u a s) ≡ Some y → sets_cross (act_placed_last u a t) v ≡ is_crossed y
  asked_crosses Of finish u a v s h t ok f n g none y e =
      let xs = joined_by u a s in
      seen_crossing (act_placed_last u a t) v y (g.dooms v ∙ live_of is_doomed v xs s.book.acts y (joined_status is_doomed u a v s) e) (g.ordered v ∙ live_of is_ordered v xs s.book.acts y (joined_status is_ordered u a v s) e)
      (asked_ends Of finish u a v s h t ok f n g none y e)

  pub joins_kept : (Of : Tx → C → Type 0) (finish : C → List State → Alone) (u a : ℕ) (s : Machine C) (h : History) (t : Seen) → IsAllowed w (Ask u a) s → SimFacts w Of finish s h → TellsNames w s t → Tells w s h t
      → book.in_the_way (lock_of u s.book.acts) (cell_at s a).entries ≡ None → AskedTells w u a s h None (cross_out a (act_placed_last u a t))
  unfolding after grown
  joins_kept Of finish u a s h t ok f n g none =
      let inside = asks_in u a s ok in
      let xs = joined_by u a s in
      let x : Seen = act_placed_last u a t in
      let pairs = pairs_asked Of finish u a s h t f n g in
      let dooms : (v : ℕ) → was_given_up (cross_out a x).dooms v ≡ doomed_at (map (crossed_out a) xs) v =
      λ v. crossed_told a v x xs (n.tids ∙ sym (joined_tids u a s)) (g.dooms v ∙ sym (joined_status is_doomed u a v s)) (asked_crosses Of finish u a v s h t ok f n g none) in
      record {
        placed = at_both t.placed h.placed a _ _ (ap (λ (ws : List Who). ws ++ OfAct u ∷ []) (g.placed a)) g.placed;
        beyond = beyond_more (length w.text.opening.states) a _ h.placed (omega (arith, inside, f.cells)) g.beyond;
        entries = beside EntriesAre s.cells a _ (t.entries a ++ OfAct u ∷ []) t.entries inside
            (λ e. ap (λ (ws : List Who). ws ++ OfAct u ∷ []) e ∙ sym (map-append who_of (cell_at s a).entries (ActEntry (lock_of u s.book.acts) ∷ []))) g.entries;
        kept = at_long a (h.long a ++ not_run (OfAct u) ∷ []) h.long t.kept (batches_join (h.long a) (not_run (OfAct u) ∷ []) ∙ append-nil (batches_in (h.long a))) g.kept;
        left_sealed = g.left_sealed;
        before = before_asked Of finish u a s h t f n g;
        behind = g.behind;
        gains = still_gaining (cross_out a x).dooms (map (crossed_out a) xs) (with_pairs u a t) (history.asked_gains u a s h) dooms pairs;
        dooms = dooms;
        ordered = λ v. g.ordered v ∙ (sym (joined_status is_ordered u a v s) ∙ sym (crossed_ordered a v xs));
        next_c = g.next_c;
        members = g.members;
      }

  pub asking_kept : (Of : Tx → C → Type 0) (finish : C → List State → Alone) (u a : ℕ) (s : Machine C) (h : History) (t : Seen) → IsAllowed w (Ask u a) s → SimFacts w Of finish s h → TellsNames w s t → Tells w s h t
      → Tells w (after w (Ask u a) s) (grown w (Ask u a) s h) (told.asks u a (book.in_the_way (lock_of u s.book.acts) (cell_at s a).entries) t)
  unfolding after grown
  asking_kept Of finish u a s h t ok f n g =
      let k = by (book.in_the_way (lock_of u s.book.acts) (cell_at s a).entries) refl in
      record { placed = k.placed; beyond = k.beyond; entries = k.entries; kept = k.kept; left_sealed = k.left_sealed; before = k.before; behind = k.behind; gains = k.gains; dooms = k.dooms; ordered = k.ordered; next_c = k.next_c; members = k.members }
    where
      by : (o : Option ℕ) → book.in_the_way (lock_of u s.book.acts) (cell_at s a).entries ≡ o → AskedTells w u a s h o (told.asks u a o t)
      by (Some older) e = dies_kept u a older s h t (asks_in u a s ok) f.cells (asks_live Of finish u a s h ok f) g
      by None e = joins_kept Of finish u a s h t ok f n g e
