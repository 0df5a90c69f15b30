-- Batches go to actors that exist, and cascades reach the batches that they began with: before the first event, and behind each.
use Rattle.std.specs.Prelude.{◌≡◌, refl, ℕ, zero, suc, ◌<◌, ◌≤◌, not, ◌&&◌, ◌⊎◌, Bool, true, false, if◌then◌else◌, Option, Some, None, is_some, List, [], ◌∷◌, ◌++◌, length}
use Rattle.std.specs.List.{AllByRecursion, list_any}
use Rattle.std.proofs.Common.{arith, sym, ap, subst, inl, inr, ◌∙◌}
use Rattle.std.proofs.lemmas.Bool.{true≢false, cases_lt}
use Rattle.std.proofs.lemmas.List.{length-replicate, length-set}
use Rattle.snap_base.proofs.Booleans.{first_true}
use Rattle.snap_base.proofs.Lists.{all_filter, all_push, weaker}
use Rattle.snap_base.specs.declared.transactions.Tx.{Tx}
use Rattle.protocol.specs.Events.{Event, Form, Arrive, Ask, Settle, Abort, Finish}
use Rattle.protocol.specs.Fixed.{Text}
use Rattle.protocol.specs.OnRing.{declares, next_actors, next_pacts, planned, with_lasts}
use Rattle.protocol.specs.Parts.{Ring, OfAct}
use Rattle.protocol.specs.Words.{below, is_among, least_older}
use Rattle.audit_words.specs.Happenings.{added, asks, comes, cross_out, give_up, happened, left, may_abort, may_ask, met, ring_after, taken_by, batch_placed_last, with_cut}
use Rattle.audit_words.specs.Seen.{Seen, was_formed, was_taken_along, is_one_of_these, nothing_seen}
use Rattle.audit_tale.specs.Fitting.{FitsTale}
use Rattle.audit_tale.specs.Knows.{AreDrawn}
use Rattle.audit_tale.proofs.WhoIsTold.{missed}

-- ---- the ring has as many actors as ever

long_lasts : (k : ℕ) (actors lasts : List ℕ) → length (with_lasts k actors lasts) ≡ length lasts
long_lasts k [] lasts = refl
long_lasts k (a ∷ actors) lasts = long_lasts k actors _ ∙ length-set lasts a k

-- ---- a batch that is formed goes to actors that exist

all_below : (n : ℕ) → AllByRecursion (λ a. a < n) (below n)
all_below zero = tt
all_below (suc n) = all_push (λ a. a < suc n) (below n) n (weaker (λ a. a < n) (λ a. a < suc n) (below n) (λ a l. omega (arith, l)) (all_below n)) (omega arith)

exist : (w : Text) (r : Ring) → AllByRecursion (λ a. a < length r.lasts) (next_actors w r)
exist w r = all_filter (λ a. a < length r.lasts) (λ a. list_any (declares w a) (next_pacts w r)) (below (length r.lasts)) (all_below (length r.lasts))

-- ---- a batch that was formed has a number below the next one

pub formed_below : (k : ℕ) (s : Seen) → AreDrawn s → was_formed k s ≡ true → k < s.ring.next_bid
formed_below k s h e = by (cases_lt k s.ring.next_bid)
  where
    by : (k < s.ring.next_bid) ⊎ (s.ring.next_bid ≤ k) → k < s.ring.next_bid
    by (inl l) = l
    by (inr l) = absurd (true≢false (sym e ∙ ap is_some (missed 1 k s.batches h.batches (inr (omega (arith, l, h.next_bid))))))

-- ---- the events

pub fits_first : (w : Text) → FitsTale w (nothing_seen w)
fits_first w = record { lasts = length-replicate (length w.opening.states) 0; actors = tt; cuts = tt }

fits_form : (reads : Tx → Bool) (w : Text) (k : ℕ) (s : Seen) → FitsTale w s → FitsTale w (happened reads w (Form k) s)
unfolding added ring_after
fits_form reads w k s h = record {
  lasts = long_lasts k (next_actors w s.ring) s.ring.lasts ∙ h.lasts;
  actors = all_push (λ b. AllByRecursion (λ a. a < length w.opening.states) b.actors) s.batches (planned w k s.ring) h.actors (subst (λ (n : ℕ). AllByRecursion (λ a. a < n) (next_actors w s.ring)) h.lasts (exist w s.ring));
  cuts = h.cuts;
}

fits_ask : (reads : Tx → Bool) (w : Text) (t a : ℕ) (s : Seen) → FitsTale w s → FitsTale w (happened reads w (Ask t a) s)
unfolding added ring_after
fits_ask reads w t a s h = by (may_ask w t a s) (least_older t (met t a s))
  where
    by : (b : Bool) (o : Option ℕ) → FitsTale w (record (if b then asks t a o s else s) { ring = s.ring })
    by true None = record { lasts = h.lasts; actors = h.actors; cuts = h.cuts }
    by true (Some older) = record { lasts = h.lasts; actors = h.actors; cuts = h.cuts }
    by false o = h

fits_abort : (reads : Tx → Bool) (w : Text) (k : ℕ) (s : Seen) → AreDrawn s → FitsTale w s → FitsTale w (happened reads w (Abort k) s)
unfolding added ring_after
fits_abort reads w k s drawn h = by (may_abort k s) refl
  where
    lasts : length (ring_after w (Abort k) s.ring).lasts ≡ length w.opening.states
    lasts = length-replicate (length s.ring.lasts) 0 ∙ h.lasts

    by : (b : Bool) → may_abort k s ≡ b → FitsTale w (record (if b then with_cut w k (give_up (taken_by k s) s) else s) { ring = ring_after w (Abort k) s.ring })
    by true e = record { lasts = lasts; actors = h.actors; cuts = all_push (λ c. c.first ≤ c.upto) s.cuts _ h.cuts (omega (arith, formed_below k s drawn (first_true (was_formed k s) (not (was_taken_along k s.cuts)) e))) }
    by false e = record { lasts = lasts; actors = h.actors; cuts = h.cuts }

pub fits_on : (reads : Tx → Bool) (w : Text) (e : Event) (s : Seen) → AreDrawn s → FitsTale w s → FitsTale w (happened reads w e s)
unfolding added ring_after
fits_on reads w (Form k) s d h = fits_form reads w k s h
fits_on reads w (Arrive k a) s d h = by (comes k a s)
  where
    by : (b : Bool) → FitsTale w (record (if b then cross_out a (batch_placed_last k a s) else s) { ring = s.ring })
    by true = record { lasts = h.lasts; actors = h.actors; cuts = h.cuts }
    by false = h
fits_on reads w (Ask t a) s d h = fits_ask reads w t a s h
fits_on reads w (Settle k) s d h = by (was_formed k s && not (is_among k s.settled))
  where
    by : (b : Bool) → FitsTale w (record (if b then record s { settled = s.settled ++ k ∷ [] } else s) { ring = s.ring })
    by true = record { lasts = h.lasts; actors = h.actors; cuts = h.cuts }
    by false = h
fits_on reads w (Abort k) s d h = fits_abort reads w k s d h
fits_on reads w (Finish t a) s d h = by (is_one_of_these (OfAct t) (s.entries a))
  where
    by : (b : Bool) → FitsTale w (record (if b then left t a s else s) { ring = s.ring })
    by true = record { lasts = h.lasts; actors = h.actors; cuts = h.cuts }
    by false = h
fits_on reads w _ s d h = record { lasts = h.lasts; actors = h.actors; cuts = h.cuts }
