-- Entries that go: at a Trim, at a rollback, and when an ACT leaves.
use Rattle.std.specs.Prelude.{◌≡◌, refl, ℕ, ◌<◌, ◌==◌, nat_lt, not, Bool, true, false, ◌&&◌, if◌then◌else◌, List, ◌++◌, filter, length, map}
use Rattle.std.proofs.Common.{sym, ap, ◌∙◌}
use Rattle.std.proofs.lemmas.Bool.{ltb-true}
use Rattle.std.proofs.lemmas.List.{append-nil}
use Rattle.snap_base.specs.declared.transactions.State.{State}
use Rattle.snap_base.specs.declared.transactions.Tx.{Tx}
use Rattle.snap_base.proofs.Lists.{one_at}
use Rattle.protocol.specs.Conditions.{IsAllowed, conditions}
use Rattle.protocol.specs.Effects.{after, cell_at, no_cell}
use Rattle.protocol.specs.Events.{Rollback, Finish, Trim}
use Rattle.protocol.specs.Facts.{Alone}
use Rattle.protocol.specs.Fixed.{Fixed}
use Rattle.protocol.specs.History.{History, batches_in, grown, with_at}
use Rattle.protocol.specs.History as history
use Rattle.protocol.specs.OnBook as book
use Rattle.protocol.specs.Parts.{Machine, OfAct, OfBatch, Pair, Status, Who}
use Rattle.protocol.specs.Rivals.{Lock}
use Rattle.protocol.specs.Words.{act_of, is_aborted, is_act_entry, is_batch_entry, is_doomed, is_ordered, is_who, who_of}
use Rattle.protocol_laws.proofs.first.CellEpochs.{held}
use Rattle.protocol_laws.proofs.machine.PlaceLists.{batches_left, batches_without_act}
use Rattle.protocol_laws.proofs.machine.PlacesKept.{Placed}
use Rattle.protocol_laws.proofs.machine.TracksKept.{beside, beside_same, filter_same, in_range}
use Rattle.audit_words.specs.Happenings as told
use Rattle.audit_words.specs.Seen.{Seen, was_taken_along, is_one_of_these}
use Rattle.audit_laws.specs.Names.{TellsNames}
use Rattle.audit_laws.proofs.Acts.{changed_status, status_at}
use Rattle.audit_laws.proofs.NamesSeen.{Frames}
use Rattle.audit_laws.proofs.Standing.{cut_same, filter_who, is_act_of, is_batch_of, rolled_same, there_same}
use Rattle.audit_laws.proofs.Simulated.{Tells, EntriesAre, SimFacts}
use Rattle.audit_laws.proofs.SimulatedLists.{at_both, at_right, at_long, at_long_both}
use Rattle.audit_laws.proofs.SimulatedLeaving.{kept_staying, nothing_filtered, leaves_in, seals_same, not_there}

module _ {C : Type 0} (w : Fixed C) (fr : Frames C) where
  -- ---- entries that go

  pub trimming_kept : (k a : ℕ) (s : Machine C) (h : History) (t : Seen) → a < length s.cells → Tells w s h t → Tells w (after w (Trim k a) s) (grown w (Trim k a) s h) (record t { entries = with_at a (filter (λ y. not (is_who y (OfBatch k))) (t.entries a)) t.entries })
  unfolding after grown
  trimming_kept k a s h t inside g = record {
    placed = g.placed;
    beyond = g.beyond;
    entries = beside EntriesAre s.cells a _ (filter (λ y. not (is_who y (OfBatch k))) (t.entries a)) t.entries inside
        (λ e. ap (filter (λ (y : Who). not (is_who y (OfBatch k)))) e ∙ filter_who (λ (y : Who). is_who y (OfBatch k)) (is_batch_entry k) (cell_at s a).entries (is_batch_of k)) g.entries;
    kept = at_long a _ h.long t.kept (batches_left (OfBatch k) (h.long a)) g.kept;
    left_sealed = g.left_sealed;
    before = g.before;
    behind = g.behind;
    gains = g.gains;
    dooms = g.dooms;
    ordered = g.ordered;
    next_c = g.next_c;
    members = g.members;
  }

  pub rolling_kept : (Of : Tx → C → Type 0) (finish : C → List State → Alone) (a : ℕ) (s : Machine C) (h : History) (t : Seen) → IsAllowed w (Rollback a) s → SimFacts w Of finish s h → TellsNames w s t → Tells w s h t
      → Tells w (after w (Rollback a) s) (grown w (Rollback a) s h) (told.cut_entries_gone a t)
  unfolding after grown conditions Placed
  rolling_kept Of finish a s h t ok f n g =
      let inside = in_range _ s.cells a ok.0 in
      let less : (cell_at s a).epoch < length s.book.cascades = ltb-true (cell_at s a).epoch (length s.book.cascades) (held (λ c. nat_lt c.epoch (length s.book.cascades)) s.cells a no_cell ok.0) in
      let x = one_at s.book.cascades (cell_at s a).epoch less in
      let c : (k : ℕ) → was_taken_along k t.cuts ≡ is_aborted k s.book.cascades = λ k. cut_same k t.cuts s.book.cascades n.firsts n.uptos in
      record {
        placed = g.placed;
        beyond = g.beyond;
        entries = beside EntriesAre s.cells a _ (told.uncut_entries false t.cuts (t.entries a)) t.entries inside
            (λ e. ap (told.uncut_entries false t.cuts) e ∙ rolled_same t.cuts s.book.cascades (x.0).first (cell_at s a).entries c ((f.lies a).cut x.0 x.1) (f.lies a).ascends) g.entries;
        kept = at_long_both a _ h.long (filter (λ k. not (was_taken_along k t.cuts)) (t.kept a)) t.kept
            (ap (filter (λ (k : ℕ). not (was_taken_along k t.cuts))) (g.kept a)
            ∙ (filter_same (λ (k : ℕ). not (was_taken_along k t.cuts)) (λ (k : ℕ). not (is_aborted k s.book.cascades)) (batches_in (h.long a)) (λ k. ap not (c k))
            ∙ kept_staying s.ring.next_bid s.desk.settled (cell_at s a).epoch (cell_at s a).tail s.book.cascades (h.long a) (f.good.good.placed a).fit (f.good.good.placed a).ascends (f.good.good.placed a).firm)) g.kept;
        left_sealed = g.left_sealed;
        before = g.before;
        behind = g.behind;
        gains = g.gains;
        dooms = g.dooms;
        ordered = g.ordered;
        next_c = g.next_c;
        members = g.members;
      }

  -- ---- an ACT leaves

  pub finishing_kept : (Of : Tx → C → Type 0) (finish : C → List State → Alone) (u a : ℕ) (s : Machine C) (h : History) (t : Seen) → IsAllowed w (Finish u a) s → SimFacts w Of finish s h → TellsNames w s t → Tells w s h t
      → Tells w (after w (Finish u a) s) (grown w (Finish u a) s h) (if is_one_of_these (OfAct u) (t.entries a) then told.left u a t else t)
  unfolding after grown conditions
  finishing_kept Of finish u a s h t ok f n g = by (is_one_of_these (OfAct u) (t.entries a)) refl
    where
      inside : a < length s.cells
      inside = leaves_in w Of finish u a s h f.given ok f.good

      statuses : (p : Status → Bool) (v : ℕ) → status_at p (book.changed_act u (book.marked a book.has_left) s.book.acts) v ≡ status_at p s.book.acts v
      statuses p v = changed_status p u (book.marked a book.has_left) v s.book.acts (λ x. refl) (λ x. refl)

      entries : (ws : List Who) → ws ≡ map who_of (cell_at s a).entries → filter (λ y. not (is_who y (OfAct u))) ws ≡ map who_of (filter (λ e. not (is_act_entry u e)) (cell_at s a).entries)
      entries ws e = ap (filter (λ (y : Who). not (is_who y (OfAct u)))) e ∙ filter_who (λ (y : Who). is_who y (OfAct u)) (is_act_entry u) (cell_at s a).entries (is_act_of u)

      long : (b : Bool) → batches_in (if b then history.without_standing (OfAct u) (h.long a) else map (history.left_for_good (OfAct u)) (h.long a)) ≡ batches_in (h.long a)
      long true = batches_without_act u (h.long a)
      long false = batches_left (OfAct u) (h.long a)

      -- what it leaves sealed, as the book has it
      sealed : told.left_as_sealed u t ≡ history.seals u (act_of u s.book.acts)
      sealed = seals_same w u a s h t ok n g

      by : (b : Bool) → is_one_of_these (OfAct u) (t.entries a) ≡ b → Tells w (after w (Finish u a) s) (grown w (Finish u a) s h) (if b then told.left u a t else t)
      by true e = record {
        placed = g.placed;
        beyond = g.beyond;
        entries = beside EntriesAre s.cells a _ (filter (λ y. not (is_who y (OfAct u))) (t.entries a)) t.entries inside (λ i. entries (t.entries a) i) g.entries;
        kept = at_long a _ h.long t.kept (long (history.is_traceless (act_of u s.book.acts))) g.kept;
        left_sealed = at_both t.left_sealed h.left_sealed a _ _ (ap (λ (xs : List Lock). xs ++ told.left_as_sealed u t) (g.left_sealed a) ∙ ap (λ (xs : List Lock). h.left_sealed a ++ xs) sealed) g.left_sealed;
        before = g.before;
        behind = g.behind;
        gains = ap (filter (λ (p : Pair). not ((p.ahead == u) && (p.actor == a)))) g.gains;
        dooms = λ v. g.dooms v ∙ sym (statuses is_doomed v);
        ordered = λ v. g.ordered v ∙ sym (statuses is_ordered v);
        next_c = g.next_c;
        members = g.members;
      }
      by false e =
          let gone = not_there w Of finish u a s h ok f (sym (ap (is_one_of_these (OfAct u)) (g.entries a) ∙ there_same u (cell_at s a).entries) ∙ e) in
          record {
            placed = g.placed;
            beyond = g.beyond;
            entries = beside_same EntriesAre s.cells a _ t.entries inside (λ i. sym (nothing_filtered (OfAct u) (t.entries a) e) ∙ entries (t.entries a) i) g.entries;
            kept = at_long a _ h.long t.kept (long (history.is_traceless (act_of u s.book.acts))) g.kept;
            left_sealed = at_right t.left_sealed h.left_sealed a _ (g.left_sealed a ∙ (sym (append-nil (h.left_sealed a)) ∙ ap (λ (xs : List Lock). h.left_sealed a ++ xs) (sym gone.0))) g.left_sealed;
            before = g.before;
            behind = g.behind;
            gains = g.gains ∙ gone.1;
            dooms = λ v. g.dooms v ∙ sym (statuses is_doomed v);
            ordered = λ v. g.ordered v ∙ sym (statuses is_ordered v);
            next_c = g.next_c;
            members = g.members;
          }
