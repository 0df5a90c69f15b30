-- Who gets its place, and what a cascade takes along.
use Rattle.std.specs.Prelude.{◌≡◌, refl, ℕ, ◌+◌, ◌==◌, nat_lt, nat_le, not, Bool, true, false, ◌&&◌, ◌||◌, if◌then◌else◌, Option, Some, None, is_some, List, [], ◌∷◌, ◌++◌, filter, map}
use Rattle.std.specs.List.{list_any}
use Rattle.std.proofs.Common.{arith, sym, ap, subst, ◌∙◌}
use Rattle.std.proofs.lemmas.Bool.{true≢false, and_parts}
use Rattle.snap_base.specs.declared.transactions.State.{State}
use Rattle.snap_base.specs.declared.transactions.Tx.{Tx}
use Rattle.snap_base.proofs.Booleans.{eqb_turned, or_false, or_only}
use Rattle.protocol.specs.Conditions.{IsAllowed, conditions}
use Rattle.protocol.specs.Effects.{after}
use Rattle.protocol.specs.Events.{Commit, Abort, Decide}
use Rattle.protocol.specs.Facts.{Alone}
use Rattle.protocol.specs.Fixed.{Fixed}
use Rattle.protocol.specs.History.{Done, History, done_act, grown}
use Rattle.protocol.specs.OnBook as book
use Rattle.protocol.specs.OnRing.{Formed}
use Rattle.protocol.specs.Parts.{Act, Batch, Decided, Doomed, Live, Machine, OfAct, OfBatch, Ring, Sealed, Status}
use Rattle.protocol.specs.Verdicts.{act_place}
use Rattle.protocol.specs.Words.{act_of, batch_of, count, greatest, holds, is_act_who, is_among, is_doomed, is_formed, is_live_status, is_next_to_commit, is_open, is_ordered, is_who}
use Rattle.protocol_laws.specs.Commits.{is_kept}
use Rattle.protocol_laws.specs.Highs.{doomed_at}
use Rattle.protocol_laws.specs.Marks.{Marked}
use Rattle.protocol_laws.specs.Told.{FromBatches}
use Rattle.protocol_laws.proofs.first.Statuses.{live_not_doomed}
use Rattle.protocol_laws.proofs.machine.TrackLists.{is_who_true}
use Rattle.audit_words.specs.Happenings as told
use Rattle.audit_words.specs.Happenings.{give_up, taken_by, with_cut}
use Rattle.audit_words.specs.Seen.{Begun, Member, Seen, Taken, act_in, batch_in, has_its_place, was_given_up, is_live, next_c}
use Rattle.audit_laws.specs.Names.{TellsNames}
use Rattle.audit_laws.proofs.Acts.{cascaded_ordered, doomed_cascaded, doomed_decided, ordered_decided, status_at}
use Rattle.audit_laws.proofs.GivenUp.{act_among, given_join, given_made, live_is}
use Rattle.audit_laws.proofs.NamesSeen.{Frames}
use Rattle.audit_laws.proofs.Simulated.{EachSame, same_join, Tells, act_pair, SimFacts}
use Rattle.audit_laws.proofs.SimulatedLists.{still_gaining, place_join, place_same, pacts_no_act, count_join, count_pacts, committing_same}
use Rattle.audit_laws.proofs.SimulatedComing.{found_tid, was_live}

module _ {C : Type 0} (w : Fixed C) (fr : Frames C) where
  -- ---- who gets its place

  pub committing_kept : (Of : Tx → C → Type 0) (finish : C → List State → Alone) (k : ℕ) (s : Machine C) (h : History) (t : Seen) → IsAllowed w (Commit k) s → SimFacts w Of finish s h → TellsNames w s t → Tells w s h t
      → Tells w (after w (Commit k) s) (grown w (Commit k) s h) (record t { members = t.members ++ told.committing k (batch_in k t.batches) t.members })
  unfolding after grown conditions Marked
  committing_kept Of finish k s h t ok f n g =
      let new = told.committing k (batch_in k t.batches) t.members in
      record {
        placed = g.placed;
        beyond = g.beyond;
        entries = g.entries;
        kept = g.kept;
        left_sealed = g.left_sealed;
        before = g.before;
        behind = g.behind;
        gains = g.gains;
        dooms = g.dooms;
        ordered = λ u. place_join (OfAct u) t.members new ∙ (or_only (has_its_place (OfAct u) t.members) (has_its_place (OfAct u) new) (no_act u (batch_in k t.batches)) ∙ g.ordered u);
        next_c = ap (λ (z : ℕ). w.text.opening.next_c + z) (omega (arith, count_join t.members new, none_more (batch_in k t.batches))) ∙ g.next_c;
        members = same_join t.members new h.committed _ g.members (committing_same k h t.members t.batches s.desk.batches n.bids n.batch_tids n.batch_txs absent);
      }
    where
      no_act : (u : ℕ) (o : Option Formed) → has_its_place (OfAct u) (told.committing k o t.members) ≡ false
      no_act u None = refl
      no_act u (Some b) = by (has_its_place (OfBatch k) t.members)
        where
          by : (c : Bool) → has_its_place (OfAct u) (if c then [] else map (told.pact_member k) b.pacts) ≡ false
          by true = refl
          by false = pacts_no_act u k b.pacts

      none_more : (o : Option Formed) → count (λ m. is_act_who m.who) (told.committing k o t.members) ≡ 0
      none_more None = refl
      none_more (Some b) = by (has_its_place (OfBatch k) t.members)
        where
          by : (c : Bool) → count (λ m. is_act_who m.who) (if c then [] else map (told.pact_member k) b.pacts) ≡ 0
          by true = refl
          by false = count_pacts k b.pacts

      -- the batch is open, so nobody of it committed
      not_kept : is_kept (OfBatch k) h.kept ≡ false
      not_kept = by (batch_of k s.desk.batches) refl ok.0
        where
          by : (o : Option Batch) → batch_of k s.desk.batches ≡ o → holds (λ b. is_open b && is_next_to_commit k s.desk.batches) o ≡ true → is_kept (OfBatch k) h.kept ≡ false
          by None e x = absurd (true≢false (sym x))
          by (Some b) e x =
              (f.good.good.marked k b e).known
              ∙ ap not (and_parts (is_formed b.stage) (not b.aborted) (and_parts (is_open b) (is_next_to_commit k s.desk.batches) x).0).0

      nobody : (ds : List Done) → FromBatches s.desk.batches h.kept ds → list_any (λ d. is_who (OfBatch k) d.who) ds ≡ false
      nobody [] q = refl
      nobody (d ∷ ds) q = by (is_who (OfBatch k) d.who) refl (nobody ds q.1)
        where
          by : (b : Bool) → is_who (OfBatch k) d.who ≡ b → list_any (λ d. is_who (OfBatch k) d.who) ds ≡ false → (b || list_any (λ d. is_who (OfBatch k) d.who) ds) ≡ false
          by true e r = absurd (true≢false (sym (q.0 k (sym (is_who_true (OfBatch k) d.who e))).kept ∙ not_kept))
          by false e r = r

      absent : has_its_place (OfBatch k) t.members ≡ false
      absent = place_same (OfBatch k) t.members h.committed g.members ∙ nobody h.committed f.from

  pub deciding_kept : (Of : Tx → C → Type 0) (finish : C → List State → Alone) (u : ℕ) (s : Machine C) (h : History) (t : Seen) → IsAllowed w (Decide u) s → SimFacts w Of finish s h → TellsNames w s t → Tells w s h t
      → Tells w (after w (Decide u) s) (grown w (Decide u) s h) (record t { members = t.members ++ told.deciding w.text (act_in u t.acts) t })
  unfolding after grown conditions
  deciding_kept Of finish u s h t ok f n g =
      let live : status_at is_live_status s.book.acts u ≡ true = decides (act_of u s.book.acts) ok.0 in
      let x = (was_live w fr) u s.book.acts live in
      let b = act_pair u x.0 t.acts s.book.acts n.tids n.txs n.readers x.1.0 in
      let i : (b.0).tid ≡ u = (b.1.1).tid ∙ (found_tid w fr) u s.book.acts x.0 x.1.0 in
      let absent : has_its_place (OfAct (b.0).tid) t.members ≡ false = ap (λ (z : ℕ). has_its_place (OfAct z) t.members) i ∙ (g.ordered u ∙ (ap (holds (λ (z : Act). is_ordered z.status)) x.1.0 ∙ unordered (x.0).status x.1.1)) in
      let new : told.deciding w.text (act_in u t.acts) t ≡ told.act_member w.text t b.0 ∷ [] =
      ap (λ (o : Option Begun). told.deciding w.text o t) b.1.0 ∙ ap (λ (c : Bool). if c then [] else told.act_member w.text t b.0 ∷ []) absent in
      let place : act_place (greatest (t.before (b.0).tid)) (next_c w.text t) ≡ act_place (x.0).m s.book.next_c =
      ap (λ (m : ℕ). act_place m (next_c w.text t)) (ap (λ (f : ℕ → List ℕ). greatest (f (b.0).tid)) g.before ∙ (ap (λ (z : ℕ). greatest (h.before z)) (b.1.1).tid ∙ sym (f.stand.before_is_greatest u x.0 x.1.0 (live_not_doomed (x.0).status x.1.1))))
      ∙ ap (act_place (x.0).m) g.next_c in
      let one_counted : count (λ (m : Member). is_act_who m.who) (told.act_member w.text t b.0 ∷ []) ≡ 1 = refl in
      let one : EachSame (told.act_member w.text t b.0 ∷ []) (done_act s.book.next_c h (act_of u s.book.acts)) =
      subst (λ (o : Option Act). EachSame (told.act_member w.text t b.0 ∷ []) (done_act s.book.next_c h o)) (sym x.1.0)
      (record { who = ap OfAct (b.1.1).tid; tid = (b.1.1).tid; tx = (b.1.1).tx; place = place; reader = (b.1.1).reader }, tt) in
      record {
        placed = g.placed;
        beyond = g.beyond;
        entries = g.entries;
        kept = g.kept;
        left_sealed = g.left_sealed;
        before = g.before;
        behind = g.behind;
        gains = g.gains;
        dooms = λ v. g.dooms v ∙ sym (doomed_decided u s.book.next_c v s.book.acts);
        ordered = λ v.
            ap (λ (ms : List Member). has_its_place (OfAct v) (t.members ++ ms)) new
            ∙ (place_join (OfAct v) t.members (told.act_member w.text t b.0 ∷ [])
            ∙ (ap (λ (c : Bool). c || (is_who (OfAct v) (OfAct (b.0).tid) || false)) (g.ordered v)
            ∙ (ap (λ (c : Bool). status_at is_ordered s.book.acts v || c) (or_false (v == (b.0).tid) ∙ (ap (λ (z : ℕ). v == z) i ∙ eqb_turned u v (u == v) refl)) ∙ sym (ordered_decided u s.book.next_c v s.book.acts live))));
        next_c = ap (λ (ms : List Member). w.text.opening.next_c + count (λ m. is_act_who m.who) (t.members ++ ms)) new ∙ omega (arith, count_join t.members (told.act_member w.text t b.0 ∷ []), one_counted, g.next_c);
        members = subst (λ (ms : List Member). EachSame (t.members ++ ms) (h.committed ++ done_act s.book.next_c h (act_of u s.book.acts))) (sym new) (same_join t.members (told.act_member w.text t b.0 ∷ []) h.committed _ g.members one);
      }
    where
      decides : (o : Option Act) → holds (λ (z : Act). is_some z.result && is_live_status z.status) o ≡ true → holds (λ (z : Act). is_live_status z.status) o ≡ true
      decides None e = e
      decides (Some z) e = (and_parts (is_some z.result) (is_live_status z.status) e).1

      unordered : (st : Status) → is_live_status st ≡ true → is_ordered st ≡ false
      unordered Live e = refl
      unordered (Doomed v) e = absurd (true≢false (sym e))
      unordered (Decided c) e = absurd (true≢false (sym e))
      unordered (Sealed c) e = absurd (true≢false (sym e))

  -- ---- a cascade

  -- it takes an ACT along by the sets where it does by the numbers
  pub reached_by : (Of : Tx → C → Type 0) (finish : C → List State → Alone) (k u : ℕ) (s : Machine C) (h : History) (t : Seen) → SimFacts w Of finish s h → Tells w s h t → (x : Act) → act_of u s.book.acts ≡ Some x
      → (is_live t u && nat_le k (greatest (t.before u))) ≡ (is_live_status x.status && nat_le k x.m)
  reached_by Of finish k u s h t f g x e = one (is_live_status x.status) refl
    where
      alive : is_live t u ≡ is_live_status x.status
      alive =
          ap (λ (b : Bool). not b && not (has_its_place (OfAct u) t.members)) (g.dooms u ∙ ap (holds (λ (z : Act). is_doomed z.status)) e)
          ∙ (ap (λ (b : Bool). not (is_doomed x.status) && not b) (g.ordered u ∙ ap (holds (λ (z : Act). is_ordered z.status)) e) ∙ live_is x.status)

      one : (b : Bool) → is_live_status x.status ≡ b → (is_live t u && nat_le k (greatest (t.before u))) ≡ (is_live_status x.status && nat_le k x.m)
      one true l =
          ap (λ (b : Bool). b && nat_le k (greatest (t.before u))) alive
          ∙ ap (λ (m : ℕ). is_live_status x.status && nat_le k m)
          (ap (λ (b : ℕ → List ℕ). greatest (b u)) g.before ∙ (ap (λ (z : ℕ). greatest (h.before z)) (sym ((found_tid w fr) u s.book.acts x e)) ∙ sym (f.stand.before_is_greatest u x e (live_not_doomed x.status l))))
      one false l = ap (λ (b : Bool). b && nat_le k (greatest (t.before u))) (alive ∙ l) ∙ sym (ap (λ (b : Bool). b && nat_le k x.m) l)

  pub aborting_kept : (Of : Tx → C → Type 0) (finish : C → List State → Alone) (k : ℕ) (s : Machine C) (h : History) (t : Seen) → SimFacts w Of finish s h → TellsNames w s t → Tells w s h t
      → Tells w (after w (Abort k) s) (grown w (Abort k) s h) (with_cut w.text k (give_up (taken_by k t) t))
  unfolding after grown
  aborting_kept Of finish k s h t f n g =
      let cause = book.failed_tx (book.why k s.desk) in
      let acts = map (book.cascaded k cause) s.book.acts in
      let dooms : (u : ℕ) → was_given_up (t.dooms ++ taken_by k t) u ≡ doomed_at acts u =
      λ u. given_join u t.dooms (taken_by k t) ∙ (ap (λ (b : Bool). b || was_given_up (taken_by k t) u) (g.dooms u) ∙ (ap (λ (b : Bool). doomed_at s.book.acts u || b) (taken u) ∙ sym (doomed_cascaded k cause u s.book.acts))) in
      record {
        placed = g.placed;
        beyond = g.beyond;
        entries = g.entries;
        kept = g.kept;
        left_sealed = g.left_sealed;
        before = g.before;
        behind =
            ap (λ (b : ℕ → List ℕ). λ (u : ℕ). filter (λ j. nat_lt j k || not (nat_lt j t.ring.next_bid)) (b u)) g.behind
            ∙ ap (λ (r : Ring). λ (u : ℕ). filter (λ j. nat_lt j k || not (nat_lt j r.next_bid)) (h.behind u)) n.ring;
        gains = still_gaining (t.dooms ++ taken_by k t) acts t.gains h.gains dooms g.gains;
        dooms = dooms;
        ordered = λ u. g.ordered u ∙ sym (cascaded_ordered k cause u s.book.acts);
        next_c = g.next_c;
        members = g.members;
      }
    where
      taken : (u : ℕ) → was_given_up (taken_by k t) u ≡ holds (λ (x : Act). is_live_status x.status && nat_le k x.m) (act_of u s.book.acts)
      taken u =
          given_made u (λ (x : Begun). record { tid = x.tid; why = Taken k }) (λ (v : ℕ). is_live t v && nat_le k (greatest (t.before v))) t.acts (λ x. refl)
          ∙ (ap (λ (ns : List ℕ). is_among u ns && (is_live t u && nat_le k (greatest (t.before u)))) n.tids
          ∙ (ap (λ (b : Bool). b && (is_live t u && nat_le k (greatest (t.before u)))) (act_among u s.book.acts) ∙ by (act_of u s.book.acts) refl))
        where
          by : (o : Option Act) → act_of u s.book.acts ≡ o → (is_some o && (is_live t u && nat_le k (greatest (t.before u)))) ≡ holds (λ (x : Act). is_live_status x.status && nat_le k x.m) o
          by None e = refl
          by (Some x) e = reached_by Of finish k u s h t f g x e
