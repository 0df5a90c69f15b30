-- Events that meet the first clause form batches of transactions of the text alone.
use Rattle.std.specs.Prelude.{◌≡◌, refl, ℕ, zero, suc, ◌+◌, ◌<◌, ◌&&◌, not, Bool, true, false, if◌then◌else◌, Option, Some, None, List, [], ◌∷◌, ◌++◌, length, map, replicate, take}
use Rattle.std.specs.List.{AllByRecursion}
use Rattle.std.proofs.Common.{sym, subst}
use Rattle.std.proofs.lemmas.Bool.{ltb-true}
use Rattle.snap_base.proofs.Booleans.{second_true}
use Rattle.snap_base.proofs.Lists.{all_drop, all_get, all_push, all_set, all_take}
use Rattle.snap_base.specs.declared.transactions.Tx.{Tx}
use Rattle.protocol.specs.Conditions.{AllTrue, queue}
use Rattle.protocol.specs.Events.{Event, Submit, Form, Arrive, Ask, Settle, Abort, Finish}
use Rattle.protocol.specs.Fixed.{Text, is_pact, tx_at}
use Rattle.protocol.specs.OnRing.{Formed, joined_at, numbered, planned}
use Rattle.protocol.specs.Words.{is_among, least_older}
use Rattle.audit_words.specs.Audited.{EachMeets, ring_conditions}
use Rattle.audit_words.specs.Happenings.{added, asks, comes, cross_out, give_up, happened, left, may_abort, may_ask, met, ring_after, seen, seen_from, taken_by, batch_placed_last, with_cut}
use Rattle.audit_words.specs.Seen.{Seen, first_ring, was_formed, is_one_of_these, nothing_seen}
use Rattle.protocol.specs.Parts.{OfAct}
use Rattle.audit_tale.specs.Knows.{Knows, formed_of}
use Rattle.audit_tale.specs.declared.tales.BatchTale.{BatchTale}
use Rattle.audit_tale.specs.declared.tales.Tale.{Tale}
use Rattle.trace_audit.specs.Evidence.{HasTxsBelow}

abbrev pub AreBelow : ℕ → List ℕ → Type 0
AreBelow n ns = AllByRecursion (λ m. m < n) ns

abbrev pub HasPactsBelow : ℕ → Formed → Type 0
HasPactsBelow n f = AllByRecursion (λ q. q.tx < n) f.pacts

-- the PACTs that wait and those of the batches are transactions of the text
pub record IsOfText (w : Text) (s : Seen) : Type 0 where
  pub queues : AllByRecursion (AreBelow (length w.txs)) s.ring.pacts
  pub batches : AllByRecursion (HasPactsBelow (length w.txs)) s.batches

same_text : (w : Text) (s new : Seen) → new.ring.pacts ≡ s.ring.pacts → new.batches ≡ s.batches → IsOfText w s → IsOfText w new
same_text w s new r b h = record { queues = subst (AllByRecursion (AreBelow (length w.txs))) (sym r) h.queues; batches = subst (AllByRecursion (HasPactsBelow (length w.txs))) (sym b) h.batches }

-- one of two, each with these batches
one_of : (c : Bool) (x y s : Seen) → x.batches ≡ s.batches → y.batches ≡ s.batches → (if c then x else y).batches ≡ s.batches
one_of true x y s e f = e
one_of false x y s e f = f

asks_batches : (t a : ℕ) (o : Option ℕ) (s : Seen) → (asks t a o s).batches ≡ s.batches
asks_batches t a (Some older) s = refl
asks_batches t a None s = refl

queue_below : (n c : ℕ) (queues : List (List ℕ)) → AllByRecursion (AreBelow n) queues → AreBelow n (queue queues c)
queue_below n c queues h = all_get (AreBelow n) queues c [] tt h

submitted_below : (w : Text) (n c : ℕ) (b : Bool) (queues : List (List ℕ)) → n < length w.txs → AllByRecursion (AreBelow (length w.txs)) queues → AllByRecursion (AreBelow (length w.txs)) (if b then joined_at c n queues else queues)
submitted_below w n c true queues l h = all_set (AreBelow (length w.txs)) queues c (queue queues c ++ n ∷ []) (all_push (λ m. m < length w.txs) (queue queues c) n (queue_below (length w.txs) c queues h) l) h
submitted_below w n c false queues l h = h

numbered_below : (n t : ℕ) (ns : List ℕ) → AreBelow n ns → AllByRecursion (λ q. q.tx < n) (numbered t ns)
numbered_below n t [] h = tt
numbered_below n t (m ∷ ns) h = (h.0, numbered_below n (t + 1) ns h.1)

pub in_text_on : (reads : Tx → Bool) (w : Text) (e : Event) (s : Seen) → AllTrue (ring_conditions w e s.ring) → IsOfText w s → IsOfText w (happened reads w e s)
unfolding added ring_after
in_text_on reads w (Submit n) s m h = record {
  queues = submitted_below w n _ (is_pact (tx_at w n)) s.ring.pacts (ltb-true n (length w.txs) (second_true _ _ m.0)) h.queues;
  batches = h.batches;
}
in_text_on reads w (Form k) s m h = record {
  queues = all_set (AreBelow (length w.txs)) s.ring.pacts s.ring.holder _ (all_drop (λ j. j < length w.txs) w.batch (queue s.ring.pacts s.ring.holder) (queue_below (length w.txs) s.ring.holder s.ring.pacts h.queues)) h.queues;
  batches = all_push (HasPactsBelow (length w.txs)) s.batches (planned w k s.ring) h.batches
      (numbered_below (length w.txs) s.ring.next_tid (take w.batch (queue s.ring.pacts s.ring.holder)) (all_take (λ j. j < length w.txs) w.batch (queue s.ring.pacts s.ring.holder) (queue_below (length w.txs) s.ring.holder s.ring.pacts h.queues)));
}
in_text_on reads w (Arrive k a) s m h = same_text w s (happened reads w (Arrive k a) s) refl (one_of (comes k a s) (cross_out a (batch_placed_last k a s)) s s refl refl) h
in_text_on reads w (Ask t a) s m h = same_text w s (happened reads w (Ask t a) s) refl (one_of (may_ask w t a s) (asks t a (least_older t (met t a s)) s) s s (asks_batches t a (least_older t (met t a s)) s) refl) h
in_text_on reads w (Settle k) s m h = same_text w s (happened reads w (Settle k) s) refl (one_of (was_formed k s && not (is_among k s.settled)) (record s { settled = s.settled ++ k ∷ [] }) s s refl refl) h
in_text_on reads w (Abort k) s m h = same_text w s (happened reads w (Abort k) s) refl (one_of (may_abort k s) (with_cut w k (give_up (taken_by k s) s)) s s refl refl) h
in_text_on reads w (Finish t a) s m h = same_text w s (happened reads w (Finish t a) s) refl (one_of (is_one_of_these (OfAct t) (s.entries a)) (left t a s) s s refl refl) h
in_text_on reads w _ s m h = record { queues = h.queues; batches = h.batches }

none_wait : (n c : ℕ) → AllByRecursion (AreBelow n) (replicate c [])
none_wait n zero = tt
none_wait n (suc c) = (tt, none_wait n c)

pub in_text_first : (w : Text) → IsOfText w (nothing_seen w)
in_text_first w = record { queues = none_wait (length w.txs) w.coordinators; batches = tt }

-- so are those of the batches that are kept
kept_below : (n : ℕ) (bs : List BatchTale) → AllByRecursion (HasPactsBelow n) (map formed_of bs) → AllByRecursion (HasTxsBelow n) bs
kept_below n [] h = tt
kept_below n (b ∷ bs) h = (h.0, kept_below n bs h.1)

pub kept_in_text : (w : Text) (t : Tale) (s : Seen) → Knows w t s → IsOfText w s → AllByRecursion (HasTxsBelow (length w.txs)) t.batches.items
kept_in_text w t s h k = kept_below (length w.txs) t.batches.items (subst (AllByRecursion (HasPactsBelow (length w.txs))) (sym h.batches) k.batches)

-- ---- all events

in_text_from : (reads : Tx → Bool) (w : Text) (es : List Event) (s : Seen) → EachMeets w es s.ring → IsOfText w s → IsOfText w (seen_from reads w es s)
in_text_from reads w [] s m h = h
in_text_from reads w (e ∷ es) s m h = in_text_from reads w es (happened reads w e s) m.1 (in_text_on reads w e s m.0 h)

-- what is kept of all events that meet the first clause has batches of transactions of the text alone
pub told_in_text : (reads : Tx → Bool) (w : Text) (es : List Event) (t : Tale) → EachMeets w es (first_ring w) → Knows w t (seen reads w es) → AllByRecursion (HasTxsBelow (length w.txs)) t.batches.items
told_in_text reads w es t m h = kept_in_text w t (seen reads w es) h (in_text_from reads w es (nothing_seen w) m (in_text_first w))
