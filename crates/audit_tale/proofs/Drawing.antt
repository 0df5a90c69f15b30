-- Events that meet the first clause, from empty logs, have drawn each number that they tell of.
use Rattle.std.specs.Prelude.{◌≡◌, refl, ℕ, ◌+◌, ◌<◌, ◌≤◌, ◌==◌, ◌&&◌, not, Bool, true, false, if◌then◌else◌, Option, Some, None, is_some, List, [], ◌∷◌, ◌++◌, filter, length, map}
use Rattle.std.specs.List.{AllByRecursion}
use Rattle.std.proofs.Common.{arith, sym, ap, subst, ◌∙◌}
use Rattle.std.proofs.lemmas.Bool.{eqb-true}
use Rattle.std.proofs.lemmas.List.{length-append}
use Rattle.snap_base.proofs.Booleans.{first_true}
use Rattle.snap_base.proofs.Lists.{all_filter, all_found, all_join, all_map, all_push, weaker}
use Rattle.snap_base.proofs.Options.{somebody}
use Rattle.snap_base.specs.declared.transactions.Tx.{Tx}
use Rattle.protocol.specs.Conditions.{AllTrue}
use Rattle.protocol.specs.Events.{Event, Form, Admit, Arrive, Ask, Commit, Settle, Abort, Decide, Finish}
use Rattle.protocol.specs.Fixed.{Text, tx_at}
use Rattle.protocol.specs.OnPost.{next_act}
use Rattle.protocol.specs.OnRing.{Formed, admitted, cut, formed, planned}
use Rattle.protocol.specs.Parts.{Pact, Ring, Who, OfBatch, OfAct}
use Rattle.protocol.specs.Words.{is_among, least_older}
use Rattle.audit_words.specs.Audited.{ring_conditions}
use Rattle.audit_words.specs.Happenings.{act_member, added, asks, comes, committing, crossing, cross_out, deciding, give_up, happened, left, may_abort, may_ask, met, pact_member, ring_after, taken_by, act_placed_last, batch_placed_last, with_cut}
use Rattle.audit_words.specs.Seen.{Begun, Doom, Member, Older, Seen, act_in, batch_in, has_its_place, was_admitted, was_formed, sets_cross, is_one_of_these, nothing_seen}
use Rattle.audit_tale.specs.Knows.{AreDrawn, AreNumbered, IsDrawn, RiseFrom}

-- only the dooms grow, and the new ones are of ACTs that began
with_dooms : (s new : Seen) (ds : List Doom) → new.ring ≡ s.ring → new.batches ≡ s.batches → new.acts ≡ s.acts → new.members ≡ s.members → new.settled ≡ s.settled → new.dooms ≡ s.dooms ++ ds
    → AllByRecursion (λ d. d.tid < s.ring.next_tid) ds → AreDrawn s → AreDrawn new
with_dooms s new ds r b x m z d all h = record {
  batches = subst (AreNumbered 1) (sym b) h.batches;
  next_bid = ap (λ (q : Ring). q.next_bid) r ∙ (h.next_bid ∙ ap (λ (fs : List Formed). length fs + 1) (sym b));
  first = omega (arith, ap (λ (q : Ring). q.next_tid) r, h.first);
  rise = subst (RiseFrom 1) (sym x) h.rise;
  acts = subst (λ (q : Ring). AllByRecursion (λ y. y.tid < q.next_tid) new.acts) (sym r) (subst (AllByRecursion (λ y. y.tid < s.ring.next_tid)) (sym x) h.acts);
  dooms = subst (λ (q : Ring). AllByRecursion (λ y. y.tid < q.next_tid) new.dooms) (sym r) (subst (AllByRecursion (λ y. y.tid < s.ring.next_tid)) (sym d) (all_join (λ y. y.tid < s.ring.next_tid) s.dooms ds h.dooms all));
  members = subst (λ (q : Ring). AllByRecursion (λ y. IsDrawn q y.who) new.members) (sym r) (subst (AllByRecursion (λ y. IsDrawn s.ring y.who)) (sym m) h.members);
  settled = subst (λ (q : Ring). AllByRecursion (λ j. j < q.next_bid) new.settled) (sym r) (subst (AllByRecursion (λ j. j < s.ring.next_bid)) (sym z) h.settled);
}

crossed_drawn : (a n : ℕ) (s : Seen) → AllByRecursion (λ x. x.tid < n) s.acts → AllByRecursion (λ d. d.tid < n) (map (crossing a s) (filter (λ x. sets_cross s x.tid) s.acts))
crossed_drawn a n s h = all_map (crossing a s) (λ d. d.tid < n) (filter (λ x. sets_cross s x.tid) s.acts) (all_filter (λ x. x.tid < n) (λ x. sets_cross s x.tid) s.acts h)

pub act_drawn : (t : ℕ) (s : Seen) → was_admitted t s ≡ true → AreDrawn s → t < s.ring.next_tid
act_drawn t s e h =
    let x = somebody (act_in t s.acts) e in
    let there = all_found (λ y. y.tid < s.ring.next_tid) (λ y. y.tid == t) s.acts x.0 h.acts x.1 in
    omega (arith, there.0, eqb-true x.0.tid t there.1)

drawn_arrive : (reads : Tx → Bool) (w : Text) (k a : ℕ) (s : Seen) → AreDrawn s → AreDrawn (happened reads w (Arrive k a) s)
unfolding added ring_after
drawn_arrive reads w k a s h = by (comes k a s)
  where
    by : (b : Bool) → AreDrawn (record (if b then cross_out a (batch_placed_last k a s) else s) { ring = s.ring })
    by true = with_dooms s (record (cross_out a (batch_placed_last k a s)) { ring = s.ring }) _ refl refl refl refl refl refl (crossed_drawn a s.ring.next_tid (batch_placed_last k a s) h.acts) h
    by false = h

drawn_asks : (t a : ℕ) (o : Option ℕ) (s : Seen) → t < s.ring.next_tid → AreDrawn s → AreDrawn (asks t a o s)
drawn_asks t a (Some older) s l h = with_dooms s (asks t a (Some older) s) (record { tid = t; why = Older a older } ∷ []) refl refl refl refl refl refl (l, tt) h
drawn_asks t a None s l h = with_dooms s (cross_out a (act_placed_last t a s)) _ refl refl refl refl refl refl (crossed_drawn a s.ring.next_tid (act_placed_last t a s) h.acts) h

drawn_ask : (reads : Tx → Bool) (w : Text) (t a : ℕ) (s : Seen) → AreDrawn s → AreDrawn (happened reads w (Ask t a) s)
unfolding added ring_after
drawn_ask reads w t a s h = by (may_ask w t a s) refl
  where
    by : (b : Bool) → may_ask w t a s ≡ b → AreDrawn (record (if b then asks t a (least_older t (met t a s)) s else s) { ring = s.ring })
    by true e = same_ring (asks t a (least_older t (met t a s)) s) (rings (least_older t (met t a s))) (drawn_asks t a (least_older t (met t a s)) s (act_drawn t s (first_true _ _ (first_true _ _ e)) h) h)
      where
        rings : (o : Option ℕ) → (asks t a o s).ring ≡ s.ring
        rings None = refl
        rings (Some older) = refl

        same_ring : (u : Seen) → u.ring ≡ s.ring → AreDrawn u → AreDrawn (record u { ring = s.ring })
        same_ring u q g = subst (λ (r : Ring). AreDrawn (record u { ring = r })) q g
    by false e = h

drawn_abort : (reads : Tx → Bool) (w : Text) (k : ℕ) (s : Seen) → AreDrawn s → AreDrawn (happened reads w (Abort k) s)
unfolding added ring_after
drawn_abort reads w k s h = by (may_abort k s)
  where
    taken : AllByRecursion (λ d. d.tid < s.ring.next_tid) (taken_by k s)
    taken = all_map _ (λ d. d.tid < s.ring.next_tid) (filter _ s.acts) (all_filter (λ x. x.tid < s.ring.next_tid) _ s.acts h.acts)

    by : (b : Bool) → AreDrawn (record (if b then with_cut w k (give_up (taken_by k s) s) else s) { ring = cut s.ring })
    by true = record { batches = h.batches; next_bid = h.next_bid; first = h.first; rise = h.rise; acts = h.acts; dooms = all_join (λ d. d.tid < s.ring.next_tid) s.dooms (taken_by k s) h.dooms taken; members = h.members; settled = h.settled }
    by false = record { batches = h.batches; next_bid = h.next_bid; first = h.first; rise = h.rise; acts = h.acts; dooms = h.dooms; members = h.members; settled = h.settled }

-- ---- who gets its place

pub batch_drawn : (n k : ℕ) (fs : List Formed) → AreNumbered n fs → is_some (batch_in k fs) ≡ true → k < n + length fs
batch_drawn n k [] h e = absurd (cc e)
batch_drawn n k (f ∷ fs) h e = by (f.bid == k) refl e (batch_drawn (n + 1) k fs h.1)
  where
    by : (b : Bool) → (f.bid == k) ≡ b → is_some (if b then Some f else batch_in k fs) ≡ true → (is_some (batch_in k fs) ≡ true → k < (n + 1) + length fs) → k < n + length (f ∷ fs)
    by true q g r = omega (arith, eqb-true f.bid k q, h.0)
    by false q g r = omega (arith, r g)

pacts_drawn : (r : Ring) (k : ℕ) (ps : List Pact) → k < r.next_bid → AllByRecursion (λ m. IsDrawn r m.who) (map (pact_member k) ps)
pacts_drawn r k [] l = tt
pacts_drawn r k (p ∷ ps) l = (l, pacts_drawn r k ps l)

committing_drawn : (k : ℕ) (s : Seen) (o : Option Formed) → batch_in k s.batches ≡ o → AreDrawn s → AllByRecursion (λ m. IsDrawn s.ring m.who) (committing k o s.members)
committing_drawn k s None e h = tt
committing_drawn k s (Some f) e h = by (has_its_place (OfBatch k) s.members)
  where
    by : (b : Bool) → AllByRecursion (λ m. IsDrawn s.ring m.who) (if b then [] else map (pact_member k) f.pacts)
    by true = tt
    by false = pacts_drawn s.ring k f.pacts (omega (arith, batch_drawn 1 k s.batches h.batches (ap is_some e), h.next_bid))

with_more : (s : Seen) (ms : List Member) → AllByRecursion (λ m. IsDrawn s.ring m.who) ms → AreDrawn s → AreDrawn (record s { members = s.members ++ ms })
with_more s ms all h = record { batches = h.batches; next_bid = h.next_bid; first = h.first; rise = h.rise; acts = h.acts; dooms = h.dooms; members = all_join (λ m. IsDrawn s.ring m.who) s.members ms h.members all; settled = h.settled }

drawn_commit : (reads : Tx → Bool) (w : Text) (k : ℕ) (s : Seen) → AreDrawn s → AreDrawn (happened reads w (Commit k) s)
unfolding added ring_after
drawn_commit reads w k s h = with_more s (committing k (batch_in k s.batches) s.members) (committing_drawn k s (batch_in k s.batches) refl h) h

deciding_drawn : (w : Text) (n : ℕ) (s : Seen) (o : Option Begun) → act_in n s.acts ≡ o → AreDrawn s → AllByRecursion (λ m. IsDrawn s.ring m.who) (deciding w o s)
deciding_drawn w n s None e h = tt
deciding_drawn w n s (Some x) e h = by (has_its_place (OfAct x.tid) s.members)
  where
    by : (b : Bool) → AllByRecursion (λ m. IsDrawn s.ring m.who) (if b then [] else act_member w s x ∷ [])
    by true = tt
    by false = ((all_found (λ y. y.tid < s.ring.next_tid) (λ y. y.tid == n) s.acts x h.acts e).0, tt)

drawn_decide : (reads : Tx → Bool) (w : Text) (n : ℕ) (s : Seen) → AreDrawn s → AreDrawn (happened reads w (Decide n) s)
unfolding added ring_after
drawn_decide reads w n s h = with_more s (deciding w (act_in n s.acts) s) (deciding_drawn w n s (act_in n s.acts) refl h) h

drawn_settle : (reads : Tx → Bool) (w : Text) (k : ℕ) (s : Seen) → AreDrawn s → AreDrawn (happened reads w (Settle k) s)
unfolding added ring_after
drawn_settle reads w k s h = by (was_formed k s) refl (not (is_among k s.settled))
  where
    by : (b : Bool) → was_formed k s ≡ b → (c : Bool) → AreDrawn (record (if b && c then record s { settled = s.settled ++ k ∷ [] } else s) { ring = s.ring })
    by true e true = record {
      batches = h.batches;
      next_bid = h.next_bid;
      first = h.first;
      rise = h.rise;
      acts = h.acts;
      dooms = h.dooms;
      members = h.members;
      settled = all_push (λ j. j < s.ring.next_bid) s.settled k h.settled (omega (arith, batch_drawn 1 k s.batches h.batches e, h.next_bid));
    }
    by true e false = h
    by false e c = h

-- ---- numbers are drawn

wider : (r new : Ring) (ms : List Member) → r.next_bid ≤ new.next_bid → r.next_tid ≤ new.next_tid → AllByRecursion (λ m. IsDrawn r m.who) ms → AllByRecursion (λ m. IsDrawn new m.who) ms
wider r new ms l t h = weaker (λ m. IsDrawn r m.who) (λ m. IsDrawn new m.who) ms (λ m. one m.who) h
  where
    one : (who : Who) → IsDrawn r who → IsDrawn new who
    one (OfBatch k) g = omega (arith, g, l)
    one (OfAct u) g = omega (arith, g, t)

numbered_push : (n : ℕ) (f : Formed) (fs : List Formed) → AreNumbered n fs → f.bid ≡ n + length fs → AreNumbered n (fs ++ f ∷ [])
numbered_push n f [] h e = (omega (arith, e), tt)
numbered_push n f (g ∷ fs) h e = (h.0, numbered_push (n + 1) f fs h.1 (omega (arith, e)))

rise_push : (low : ℕ) (y : Begun) (xs : List Begun) → RiseFrom low xs → low ≤ y.tid → AllByRecursion (λ x. x.tid < y.tid) xs → RiseFrom low (xs ++ y ∷ [])
rise_push low y [] h l all = (l, tt)
rise_push low y (x ∷ xs) h l all = (h.0, rise_push (x.tid + 1) y xs h.1 (omega (arith, all.0)) all.1)

drawn_form : (reads : Tx → Bool) (w : Text) (k : ℕ) (s : Seen) → AllTrue (ring_conditions w (Form k) s.ring) → AreDrawn s → AreDrawn (happened reads w (Form k) s)
unfolding added ring_after
drawn_form reads w k s m h =
    let f : Formed = planned w k s.ring in
    let new : Ring = formed f w.batch s.ring in
    record {
      batches = numbered_push 1 f s.batches h.batches (omega (arith, eqb-true k s.ring.next_bid m.0, h.next_bid));
      next_bid = omega (arith, h.next_bid, length-append s.batches (f ∷ []));
      first = omega (arith, h.first);
      rise = h.rise;
      acts = weaker (λ x. x.tid < s.ring.next_tid) (λ x. x.tid < new.next_tid) s.acts (λ x l. omega (arith, l)) h.acts;
      dooms = weaker (λ d. d.tid < s.ring.next_tid) (λ d. d.tid < new.next_tid) s.dooms (λ d l. omega (arith, l)) h.dooms;
      members = wider s.ring new s.members (omega arith) (omega arith) h.members;
      settled = weaker (λ j. j < s.ring.next_bid) (λ j. j < new.next_bid) s.settled (λ j l. omega (arith, l)) h.settled;
    }

drawn_admit : (reads : Tx → Bool) (w : Text) (n : ℕ) (s : Seen) → AllTrue (ring_conditions w (Admit n) s.ring) → AreDrawn s → AreDrawn (happened reads w (Admit n) s)
unfolding added ring_after
drawn_admit reads w n s m h =
    let new : Ring = admitted s.ring in
    let e : n ≡ s.ring.next_tid = eqb-true n s.ring.next_tid m.0 in
    let y : Begun = record { tid = n; tx = next_act s.ring; reader = reads (tx_at w (next_act s.ring)) } in
    record {
      batches = h.batches;
      next_bid = h.next_bid;
      first = omega (arith, h.first);
      rise = rise_push 1 y s.acts h.rise (omega (arith, e, h.first)) (subst (λ (u : ℕ). AllByRecursion (λ x. x.tid < u) s.acts) (sym e) h.acts);
      acts = all_push (λ x. x.tid < new.next_tid) s.acts y (weaker (λ x. x.tid < s.ring.next_tid) (λ x. x.tid < new.next_tid) s.acts (λ x l. omega (arith, l)) h.acts) (omega (arith, e));
      dooms = weaker (λ d. d.tid < s.ring.next_tid) (λ d. d.tid < new.next_tid) s.dooms (λ d l. omega (arith, l)) h.dooms;
      members = wider s.ring new s.members (omega arith) (omega arith) h.members;
      settled = h.settled;
    }

drawn_finish : (reads : Tx → Bool) (w : Text) (t a : ℕ) (s : Seen) → AreDrawn s → AreDrawn (happened reads w (Finish t a) s)
unfolding added ring_after
drawn_finish reads w t a s h = by (is_one_of_these (OfAct t) (s.entries a))
  where
    by : (b : Bool) → AreDrawn (record (if b then left t a s else s) { ring = s.ring })
    by true = record { batches = h.batches; next_bid = h.next_bid; first = h.first; rise = h.rise; acts = h.acts; dooms = h.dooms; members = h.members; settled = h.settled }
    by false = h

-- one event, and all of them

pub drawn_on : (reads : Tx → Bool) (w : Text) (e : Event) (s : Seen) → AllTrue (ring_conditions w e s.ring) → AreDrawn s → AreDrawn (happened reads w e s)
unfolding added ring_after
drawn_on reads w (Form k) s m h = drawn_form reads w k s m h
drawn_on reads w (Admit n) s m h = drawn_admit reads w n s m h
drawn_on reads w (Arrive k a) s m h = drawn_arrive reads w k a s h
drawn_on reads w (Ask t a) s m h = drawn_ask reads w t a s h
drawn_on reads w (Abort k) s m h = drawn_abort reads w k s h
drawn_on reads w (Commit k) s m h = drawn_commit reads w k s h
drawn_on reads w (Settle k) s m h = drawn_settle reads w k s h
drawn_on reads w (Decide n) s m h = drawn_decide reads w n s h
drawn_on reads w (Finish t a) s m h = drawn_finish reads w t a s h
drawn_on reads w _ s m h = record { batches = h.batches; next_bid = h.next_bid; first = h.first; rise = h.rise; acts = h.acts; dooms = h.dooms; members = h.members; settled = h.settled }

pub drawn_first : (w : Text) → w.opening.next_tid ≡ 1 → w.opening.next_bid ≡ 1 → AreDrawn (nothing_seen w)
drawn_first w t b = record { batches = tt; next_bid = b; first = omega (arith, t); rise = tt; acts = tt; dooms = tt; members = tt; settled = tt }
