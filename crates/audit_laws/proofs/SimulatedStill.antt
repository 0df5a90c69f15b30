-- Events that leave what is told of places and sets, those of the ring, and those that add or seal an ACT.
use Rattle.std.specs.Prelude.{◌≡◌, refl, ℕ, not, Bool, true, false, ◌&&◌, if◌then◌else◌, List, [], ◌∷◌, ◌++◌, map}
use Rattle.std.proofs.Common.{sym, ap, subst, ◌∙◌}
use Rattle.std.proofs.lemmas.Bool.{true≢false}
use Rattle.snap_base.specs.declared.transactions.Tx.{Tx}
use Rattle.protocol.specs.Contents.{ActTids, EntryOwners, NextC, Statuses}
use Rattle.protocol.specs.Effects.{after, cell_at}
use Rattle.protocol.specs.Events.{Event, Form, Admit, Arrive, Ask, Run, Complete, Commit, Settle, Abort, Rollback, Decide, Seal, Finish, Trim}
use Rattle.protocol.specs.Fixed.{Fixed, base}
use Rattle.protocol.specs.History.{History, Ran, batches_in, grown, ran_on, with_at}
use Rattle.protocol.specs.History as history
use Rattle.protocol.specs.OnCell as cell
use Rattle.protocol.specs.OnRing.{Formed}
use Rattle.protocol.specs.Parts.{Machine, Ring, Status, Who}
use Rattle.protocol.specs.Words.{is_among, is_doomed, is_ordered, who_of}
use Rattle.protocol_laws.proofs.machine.PlaceLists.{batches_completed, batches_ran}
use Rattle.audit_words.specs.Happenings.{added, with_begun}
use Rattle.audit_words.specs.Seen.{Seen, was_formed}
use Rattle.audit_laws.proofs.Acts.{more_acts, sealing, status_at, statuses_same}
use Rattle.audit_laws.proofs.NamesSeen.{Frames}
use Rattle.audit_laws.proofs.Simulated.{EachSame, Tells}
use Rattle.audit_laws.proofs.SimulatedLists.{at_long, owners_at}

-- ---- events that leave all of this

abbrev pub is_still : Event → Bool
is_still (Admit t) = false
is_still (Arrive k a) = false
is_still (Ask t a) = false
is_still (Commit k) = false
is_still (Abort k) = false
is_still (Rollback a) = false
is_still (Decide t) = false
is_still (Seal t) = false
is_still (Finish t a) = false
is_still (Trim k a) = false
is_still _ = true

-- only the batches, what ran and what settled may be told anew
pub again : {C : Type 0} (w : Fixed C) (s : Machine C) (h : History) (t : Seen) (r : Ring) (bs : List Formed) (ks : List ℕ) (ran : ℕ → List ℕ) → Tells w s h t → Tells w s h (record t { ring = r; batches = bs; settled = ks; ran = ran })
again w s h t r bs ks ran g = record { placed = g.placed; beyond = g.beyond; entries = g.entries; kept = g.kept; left_sealed = g.left_sealed; before = g.before; behind = g.behind; gains = g.gains; dooms = g.dooms; ordered = g.ordered; next_c = g.next_c; members = g.members }

pub ran_batches : (b : Bool) (who : Who) (x : history.Slice) (rs : List Ran) → batches_in (ran_on b who x rs) ≡ batches_in rs
ran_batches true who x rs = refl
ran_batches false who x rs = batches_ran who x rs

module _ {C : Type 0} (w : Fixed C) (fr : Frames C) where
  -- of the machine and its history
  pub still_here : (e : Event) (s : Machine C) (h : History) (t : Seen) → is_still e ≡ true → Tells w s h t → Tells w (after w e s) (grown w e s h) t
  unfolding grown
  still_here e s h t q g = record {
    placed = λ a. g.placed a ∙ placed e q a;
    beyond = λ a l. sym (placed e q a) ∙ g.beyond a l;
    entries = λ a. g.entries a ∙ entries e q a;
    kept = kept e q;
    left_sealed = λ a. g.left_sealed a ∙ left_sealed e q a;
    before = g.before ∙ before e q;
    behind = g.behind ∙ behind e q;
    gains = g.gains ∙ gains e q;
    dooms = λ u. g.dooms u ∙ statuses is_doomed e q u;
    ordered = λ u. g.ordered u ∙ statuses is_ordered e q u;
    next_c = g.next_c ∙ next e q;
    members = subst (EachSame t.members) (committed e q) g.members;
  }
    where
      placed : (e : Event) → is_still e ≡ true → (a : ℕ) → h.placed a ≡ (grown w e s h).placed a
      placed (Arrive k b) q a = absurd (true≢false (sym q))
      placed (Ask u b) q a = absurd (true≢false (sym q))
      placed e q a = refl

      entries : (e : Event) → is_still e ≡ true → (a : ℕ) → map who_of (cell_at s a).entries ≡ map who_of (cell_at (after w e s) a).entries
      entries (Arrive k b) q a = absurd (true≢false (sym q))
      entries (Ask u b) q a = absurd (true≢false (sym q))
      entries (Rollback b) q a = absurd (true≢false (sym q))
      entries (Finish u b) q a = absurd (true≢false (sym q))
      entries (Trim k b) q a = absurd (true≢false (sym q))
      entries e q a = sym (owners_at (after w e s).cells s.cells a (fr w e s EntryOwners refl))

      kept : (e : Event) → is_still e ≡ true → (a : ℕ) → t.kept a ≡ batches_in ((grown w e s h).long a)
      kept (Arrive k b) q a = absurd (true≢false (sym q))
      kept (Ask u b) q a = absurd (true≢false (sym q))
      kept (Rollback b) q a = absurd (true≢false (sym q))
      kept (Finish u b) q a = absurd (true≢false (sym q))
      kept (Trim k b) q a = absurd (true≢false (sym q))
      kept (Run u b) q a = at_long b _ h.long t.kept (ran_batches (cell.reads_on u (cell_at s b).entries) _ _ (h.long b)) g.kept a
      kept (Complete k b) q a = at_long b _ h.long t.kept (batches_completed k (h.long b)) g.kept a
      kept e q a = g.kept a

      left_sealed : (e : Event) → is_still e ≡ true → (a : ℕ) → h.left_sealed a ≡ (grown w e s h).left_sealed a
      left_sealed (Finish u b) q a = absurd (true≢false (sym q))
      left_sealed e q a = refl

      before : (e : Event) → is_still e ≡ true → h.before ≡ (grown w e s h).before
      before (Admit u) q = absurd (true≢false (sym q))
      before (Ask u b) q = absurd (true≢false (sym q))
      before e q = refl

      behind : (e : Event) → is_still e ≡ true → h.behind ≡ (grown w e s h).behind
      behind (Admit u) q = absurd (true≢false (sym q))
      behind (Arrive k b) q = absurd (true≢false (sym q))
      behind (Abort k) q = absurd (true≢false (sym q))
      behind e q = refl

      gains : (e : Event) → is_still e ≡ true → h.gains ≡ (grown w e s h).gains
      gains (Arrive k b) q = absurd (true≢false (sym q))
      gains (Ask u b) q = absurd (true≢false (sym q))
      gains (Abort k) q = absurd (true≢false (sym q))
      gains (Finish u b) q = absurd (true≢false (sym q))
      gains e q = refl

      statuses : (p : Status → Bool) (e : Event) → is_still e ≡ true → (u : ℕ) → status_at p s.book.acts u ≡ status_at p (after w e s).book.acts u
      statuses p (Admit v) q u = absurd (true≢false (sym q))
      statuses p (Arrive k b) q u = absurd (true≢false (sym q))
      statuses p (Ask v b) q u = absurd (true≢false (sym q))
      statuses p (Abort k) q u = absurd (true≢false (sym q))
      statuses p (Decide v) q u = absurd (true≢false (sym q))
      statuses p (Seal v) q u = absurd (true≢false (sym q))
      statuses p e q u = statuses_same p u s.book.acts (after w e s).book.acts (sym (fr w e s ActTids refl)) (sym (fr w e s Statuses refl))

      next : (e : Event) → is_still e ≡ true → s.book.next_c ≡ (after w e s).book.next_c
      next (Decide v) q = absurd (true≢false (sym q))
      next e q = sym (fr w e s NextC refl)

      committed : (e : Event) → is_still e ≡ true → h.committed ≡ (grown w e s h).committed
      committed (Commit k) q = absurd (true≢false (sym q))
      committed (Decide v) q = absurd (true≢false (sym q))
      committed e q = refl

  pub still : (r : Tx → Bool) (e : Event) (s : Machine C) (h : History) (t : Seen) → is_still e ≡ true → Tells w s h t → Tells w s h (added r w.text e t)
  unfolding added
  still r (Admit v) s h t q g = absurd (true≢false (sym q))
  still r (Arrive k b) s h t q g = absurd (true≢false (sym q))
  still r (Ask v b) s h t q g = absurd (true≢false (sym q))
  still r (Commit k) s h t q g = absurd (true≢false (sym q))
  still r (Abort k) s h t q g = absurd (true≢false (sym q))
  still r (Rollback b) s h t q g = absurd (true≢false (sym q))
  still r (Decide v) s h t q g = absurd (true≢false (sym q))
  still r (Finish v b) s h t q g = absurd (true≢false (sym q))
  still r (Trim k b) s h t q g = absurd (true≢false (sym q))
  still r (Form k) s h t q g = again w s h t t.ring _ t.settled t.ran g
  still r (Run v b) s h t q g = again w s h t t.ring t.batches t.settled _ g
  still r (Settle k) s h t q g = by (was_formed k t && not (is_among k t.settled))
    where
      by : (b : Bool) → Tells w s h (if b then record t { settled = t.settled ++ k ∷ [] } else t)
      by true = again w s h t t.ring t.batches _ t.ran g
      by false = g
  still r e s h t q g = g

  -- ---- each other event

  pub sealing_kept : (v : ℕ) (s : Machine C) (h : History) (t : Seen) → Tells w s h t → Tells w (after w (Seal v) s) (grown w (Seal v) s h) t
  unfolding after grown
  sealing_kept v s h t g = record {
    placed = g.placed;
    beyond = g.beyond;
    entries = g.entries;
    kept = g.kept;
    left_sealed = g.left_sealed;
    before = g.before;
    behind = g.behind;
    gains = g.gains;
    dooms = λ u. g.dooms u ∙ sym (sealing v u s.book.acts).0;
    ordered = λ u. g.ordered u ∙ sym (sealing v u s.book.acts).1;
    next_c = g.next_c;
    members = g.members;
  }

  pub admitting_kept : (v n : ℕ) (s : Machine C) (h : History) (t : Seen) → Tells w s h t → Tells w (after w (Admit v) s) (grown w (Admit v) s h) (with_begun w.code.only_reads w.text v n t)
  unfolding after grown
  admitting_kept v n s h t g = record {
    placed = g.placed;
    beyond = g.beyond;
    entries = g.entries;
    kept = g.kept;
    left_sealed = g.left_sealed;
    before = ap (with_at v (base w.text ∷ [])) g.before;
    behind = ap (with_at v []) g.behind;
    gains = g.gains;
    dooms = λ u. g.dooms u ∙ sym (more_acts is_doomed u s.book.acts _ refl);
    ordered = λ u. g.ordered u ∙ sym (more_acts is_ordered u s.book.acts _ refl);
    next_c = g.next_c;
    members = g.members;
  }
