-- Whoever was ever placed has begun or was formed, and a cascade reaches no batch that was not formed: along each event that
-- meets the first clause.
use Rattle.std.specs.Prelude.{◌≡◌, refl, ℕ, ◌+◌, ◌<◌, ◌==◌, ◌&&◌, not, Bool, true, false, if◌then◌else◌, Option, Some, None, is_some, List, [], ◌∷◌, ◌++◌}
use Rattle.std.specs.List.{AllByRecursion}
use Rattle.std.proofs.Common.{arith, sym}
use Rattle.std.proofs.lemmas.Bool.{true≢false}
use Rattle.snap_base.proofs.Booleans.{first_true}
use Rattle.snap_base.proofs.Lists.{all_push, weaker}
use Rattle.snap_base.specs.declared.transactions.Tx.{Tx}
use Rattle.protocol.specs.Events.{Event, Form, Admit, Arrive, Ask, Settle, Abort, Finish}
use Rattle.protocol.specs.Fixed.{Text}
use Rattle.protocol.specs.History.{with_at}
use Rattle.protocol.specs.OnRing.{Formed, cut}
use Rattle.protocol.specs.Parts.{Who, OfBatch, OfAct}
use Rattle.protocol.specs.Words.{is_among, least_older}
use Rattle.audit_words.specs.Happenings.{added, asks, comes, cross_out, give_up, happened, left, may_abort, may_ask, met, ring_after, taken_by, batch_placed_last, with_cut}
use Rattle.audit_words.specs.Seen.{Begun, Seen, act_in, batch_in, goes_to, was_formed, is_one_of_these, nothing_seen}
use Rattle.audit_tale.specs.Stands.{ArePlaced, IsNamed, IsSound}
use Rattle.audit_tale.proofs.Drawing.{batch_drawn}

-- who was found is found among more
still_found : (t : ℕ) (xs ys : List Begun) → is_some (act_in t xs) ≡ true → is_some (act_in t (xs ++ ys)) ≡ true
still_found t [] ys e = absurd (true≢false (sym e))
still_found t (x ∷ xs) ys e = by (x.tid == t) e (still_found t xs ys)
  where
    by : (b : Bool) → is_some (if b then Some x else act_in t xs) ≡ true → (is_some (act_in t xs) ≡ true → is_some (act_in t (xs ++ ys)) ≡ true) → is_some (if b then Some x else act_in t (xs ++ ys)) ≡ true
    by true q f = refl
    by false q f = f q

-- one more stands on actor a
one_more_named : (s : Seen) (who : Who) (a i : ℕ) → IsNamed s who → ((i : ℕ) → AllByRecursion (IsNamed s) (s.placed i)) → AllByRecursion (IsNamed s) (with_at a (s.placed a ++ who ∷ []) s.placed i)
one_more_named s who a i n h = by (i == a)
  where
    by : (b : Bool) → AllByRecursion (IsNamed s) (if b then s.placed a ++ who ∷ [] else s.placed i)
    by true = all_push (IsNamed s) (s.placed a) who (h a) n
    by false = h i

placed_form : (reads : Tx → Bool) (w : Text) (k : ℕ) (s : Seen) → ArePlaced s → ArePlaced (happened reads w (Form k) s)
unfolding added ring_after
placed_form reads w k s h = record {
  placed = λ a. weaker (IsNamed s) (IsNamed (happened reads w (Form k) s)) (s.placed a) one (h.placed a);
  cuts = weaker (λ c. c.upto < s.ring.next_bid) (λ c. c.upto < s.ring.next_bid + 1) s.cuts (λ c l. omega (arith, l)) h.cuts;
}
  where
    one : (who : Who) → IsNamed s who → IsNamed (happened reads w (Form k) s) who
    one (OfBatch j) l = omega (arith, l)
    one (OfAct t) e = e

placed_admit : (reads : Tx → Bool) (w : Text) (t : ℕ) (s : Seen) → ArePlaced s → ArePlaced (happened reads w (Admit t) s)
unfolding added ring_after
placed_admit reads w t s h = record {
  placed = λ a. weaker (IsNamed s) (IsNamed (happened reads w (Admit t) s)) (s.placed a) one (h.placed a);
  cuts = h.cuts;
}
  where
    one : (who : Who) → IsNamed s who → IsNamed (happened reads w (Admit t) s) who
    one (OfBatch j) l = l
    one (OfAct u) e = still_found u s.acts _ e

batch_goes : (a : ℕ) (o : Option Formed) → goes_to a o ≡ true → is_some o ≡ true
batch_goes a None e = absurd (true≢false (sym e))
batch_goes a (Some f) e = refl

placed_arrive : (reads : Tx → Bool) (w : Text) (k a : ℕ) (s : Seen) → IsSound s → ArePlaced (happened reads w (Arrive k a) s)
unfolding added ring_after
placed_arrive reads w k a s h = by (comes k a s) refl
  where
    by : (b : Bool) → comes k a s ≡ b → ArePlaced (record (if b then cross_out a (batch_placed_last k a s) else s) { ring = s.ring })
    by true e = record {
      placed = λ i. one_more_named s (OfBatch k) a i (omega (arith, batch_drawn 1 k s.batches h.drawn.batches (batch_goes a (batch_in k s.batches) (first_true _ _ e)), h.drawn.next_bid)) h.placed.placed;
      cuts = h.placed.cuts;
    }
    by false e = h.placed

placed_ask : (reads : Tx → Bool) (w : Text) (t a : ℕ) (s : Seen) → ArePlaced s → ArePlaced (happened reads w (Ask t a) s)
unfolding added ring_after
placed_ask reads w t a s h = by (may_ask w t a s) refl (least_older t (met t a s))
  where
    by : (b : Bool) → may_ask w t a s ≡ b → (o : Option ℕ) → ArePlaced (record (if b then asks t a o s else s) { ring = s.ring })
    by true e (Some older) = record { placed = h.placed; cuts = h.cuts }
    by true e None = record { placed = λ i. one_more_named s (OfAct t) a i (first_true _ _ (first_true _ _ e)) h.placed; cuts = h.cuts }
    by false e o = h

placed_settle : (reads : Tx → Bool) (w : Text) (k : ℕ) (s : Seen) → ArePlaced s → ArePlaced (happened reads w (Settle k) s)
unfolding added ring_after
placed_settle reads w k s h = by (was_formed k s && not (is_among k s.settled))
  where
    by : (b : Bool) → ArePlaced (record (if b then record s { settled = s.settled ++ k ∷ [] } else s) { ring = s.ring })
    by true = record { placed = h.placed; cuts = h.cuts }
    by false = h

placed_abort : (reads : Tx → Bool) (w : Text) (k : ℕ) (s : Seen) → IsSound s → ArePlaced (happened reads w (Abort k) s)
unfolding added ring_after
placed_abort reads w k s h = by (may_abort k s)
  where
    by : (b : Bool) → ArePlaced (record (if b then with_cut w k (give_up (taken_by k s) s) else s) { ring = cut s.ring })
    by true = record { placed = h.placed.placed; cuts = all_push (λ c. c.upto < s.ring.next_bid) s.cuts _ h.placed.cuts (omega (arith, h.drawn.next_bid)) }
    by false = record { placed = h.placed.placed; cuts = h.placed.cuts }

placed_finish : (reads : Tx → Bool) (w : Text) (t a : ℕ) (s : Seen) → ArePlaced s → ArePlaced (happened reads w (Finish t a) s)
unfolding added ring_after
placed_finish reads w t a s h = by (is_one_of_these (OfAct t) (s.entries a))
  where
    by : (b : Bool) → ArePlaced (record (if b then left t a s else s) { ring = s.ring })
    by true = record { placed = h.placed; cuts = h.cuts }
    by false = h

pub placed_on : (reads : Tx → Bool) (w : Text) (e : Event) (s : Seen) → IsSound s → ArePlaced (happened reads w e s)
unfolding added ring_after
placed_on reads w (Form k) s h = placed_form reads w k s h.placed
placed_on reads w (Admit t) s h = placed_admit reads w t s h.placed
placed_on reads w (Arrive k a) s h = placed_arrive reads w k a s h
placed_on reads w (Ask t a) s h = placed_ask reads w t a s h.placed
placed_on reads w (Settle k) s h = placed_settle reads w k s h.placed
placed_on reads w (Abort k) s h = placed_abort reads w k s h
placed_on reads w (Finish t a) s h = placed_finish reads w t a s h.placed
placed_on reads w _ s h = record { placed = h.placed.placed; cuts = h.placed.cuts }

pub placed_first : (w : Text) → ArePlaced (nothing_seen w)
placed_first w = record { placed = λ a. tt; cuts = tt }
