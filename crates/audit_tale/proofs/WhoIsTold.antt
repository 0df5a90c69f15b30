-- What each of the events Form, Admit, Commit, Settle and Decide adds to what is known.
use Rattle.std.specs.Prelude.{◌≡◌, ◌≢◌, refl, ℕ, zero, suc, ◌+◌, ◌<◌, ◌≤◌, ◌==◌, ◌⊎◌, not, ◌&&◌, ◌||◌, Bool, true, false, if◌then◌else◌, Option, Some, None, is_some, List, [], ◌∷◌, ◌++◌, filter, length, map, take, slice_get, slice_set, slice_index_or}
use Rattle.std.specs.List.{AllByRecursion}
use Rattle.std.proofs.Common.{append_assoc, arith, sym, ap, subst, inl, inr, ◌∙◌}
use Rattle.std.proofs.lemmas.Bool.{true≢false, eq-eqb, ne_eqb}
use Rattle.std.proofs.lemmas.List.{append-nil, length-append, length-map, map_push}
use Rattle.std.proofs.lemmas.List.Elements.{filter-append}
use Rattle.std.proofs.lemmas.List.Folds.{list_any-append}
use Rattle.snap_base.proofs.Booleans.{and_false, or_false, or_true}
use Rattle.snap_base.proofs.Lists.{each_at}
use Rattle.snap_base.specs.declared.ids.Tid.{Tid}
use Rattle.snap_base.specs.declared.ids.TxNo.{TxNo}
use Rattle.snap_base.specs.declared.transactions.Tx.{Tx}
use Rattle.protocol.specs.Events.{Commit, Decide, Settle}
use Rattle.protocol.specs.Fixed.{Text}
use Rattle.protocol.specs.Meant.{batch_pact}
use Rattle.protocol.specs.OnRing.{Formed}
use Rattle.protocol.specs.Parts.{Pact, Who, OfBatch, OfAct}
use Rattle.protocol.specs.Verdicts.{act_place}
use Rattle.protocol.specs.Words.{count, greatest, is_act_who, is_among, is_who}
use Rattle.snap_base.specs.declared.verdicts.Place.{Place}
use Rattle.audit_words.specs.Happenings.{act_member, added, committing, deciding, happened, pact_member, ring_after}
use Rattle.audit_words.specs.Seen.{Begun, Member, Seen, act_in, batch_in, has_its_place, was_formed, was_given_up, next_c}
use Rattle.audit_words.proofs.Taken.{map_taken}
use Rattle.audit_tale.specs.declared.tales.ActTale.{ActTale}
use Rattle.audit_tale.specs.declared.tales.BatchTale.{BatchTale}
use Rattle.audit_tale.specs.declared.tales.MemberTale.{MemberTale}
use Rattle.audit_tale.specs.declared.tales.Owner.{Owner}
use Rattle.audit_tale.specs.declared.tales.Owner.TheVariants as owners
use Rattle.audit_tale.specs.declared.tales.Tale.{Tale}
use Rattle.audit_tale.specs.Knows.{AreDrawn, AreNumbered, IsKept, Knows, RiseFrom, TellsAct, TellsBatch, act_by, begun_of, formed_of, member_of, owner_of}

-- ---- batches by number

find_here : (k : ℕ) (f : Formed) (fs : List Formed) → f.bid ≡ k → batch_in k (f ∷ fs) ≡ Some f
find_here k f fs e = ap (λ (b : Bool). if b then Some f else batch_in k fs) (eq-eqb f.bid k e)

find_on : (k : ℕ) (f : Formed) (fs : List Formed) → f.bid ≢ k → batch_in k (f ∷ fs) ≡ batch_in k fs
find_on k f fs n = ap (λ (b : Bool). if b then Some f else batch_in k fs) (ne_eqb f.bid k n)

pub found : (n i k : ℕ) (fs : List Formed) → AreNumbered n fs → k ≡ n + i → i < length fs → batch_in k fs ≡ slice_get fs i
found n i k [] h e l = absurd (omega (arith, l))
found n zero k (f ∷ fs) h e l = find_here k f fs (omega (arith, h.0, e))
found n (suc i) k (f ∷ fs) h e l = find_on k f fs (λ q. omega (arith, q, h.0, e)) ∙ found (n + 1) i k fs h.1 (omega (arith, e)) (omega (arith, l))

pub missed : (n k : ℕ) (fs : List Formed) → AreNumbered n fs → (k < n) ⊎ (n + length fs ≤ k) → batch_in k fs ≡ None
missed n k [] h o = refl
missed n k (f ∷ fs) h (inl l) = find_on k f fs (λ q. omega (arith, q, h.0, l)) ∙ missed (n + 1) k fs h.1 (inl (omega (arith, l)))
missed n k (f ∷ fs) h (inr l) = find_on k f fs (λ q. omega (arith, q, h.0, l)) ∙ missed (n + 1) k fs h.1 (inr (omega (arith, l)))

-- ---- one batch is marked

marks_others : (s new : Seen) (k n : ℕ) (bs : List BatchTale) → ((b : BatchTale) → b.formed.bid ≢ k → TellsBatch s b → TellsBatch new b) → AreNumbered n (map formed_of bs) → k < n → AllByRecursion (TellsBatch s) bs
    → AllByRecursion (TellsBatch new) bs
marks_others s new k n [] f h l all = tt
marks_others s new k n (b ∷ bs) f h l all = (f b (λ q. omega (arith, q, h.0, l)) all.0, marks_others s new k (n + 1) bs f h.1 (omega (arith, l)) all.1)

pub marks_set : (s new : Seen) (g : BatchTale → BatchTale) (k n i : ℕ) (d : BatchTale) (bs : List BatchTale)
    → (TellsBatch s (slice_index_or bs i d) → TellsBatch new (g (slice_index_or bs i d))) → ((b : BatchTale) → b.formed.bid ≢ k → TellsBatch s b → TellsBatch new b)
    → AreNumbered n (map formed_of bs) → k ≡ n + i → i < length bs → AllByRecursion (TellsBatch s) bs → AllByRecursion (TellsBatch new) (slice_set bs i (g (slice_index_or bs i d)))
marks_set s new g k n i d [] one f h e l all = absurd (omega (arith, l))
marks_set s new g k n zero d (b ∷ bs) one f h e l all = (one all.0, marks_others s new k (n + 1) bs f h.1 (omega (arith, e)) all.1)
marks_set s new g k n (suc i) d (b ∷ bs) one f h e l all =
    (f b (λ q. omega (arith, q, h.0, e)) all.0, marks_set s new g k (n + 1) i d bs one f h.1 (omega (arith, e)) (omega (arith, l)) all.1)

bid_at : (n i : ℕ) (d : BatchTale) (bs : List BatchTale) → AreNumbered n (map formed_of bs) → i < length bs → (slice_index_or bs i d).formed.bid ≡ n + i
bid_at n i d [] h l = absurd (omega (arith, l))
bid_at n zero d (b ∷ bs) h l = omega (arith, h.0)
bid_at n (suc i) d (b ∷ bs) h l = omega (arith, bid_at (n + 1) i d bs h.1 (omega (arith, l)))

got : (i : ℕ) (d : BatchTale) (bs : List BatchTale) → i < length bs → slice_get (map formed_of bs) i ≡ Some (slice_index_or bs i d).formed
got i d [] l = absurd (omega (arith, l))
got zero d (b ∷ bs) l = refl
got (suc i) d (b ∷ bs) l = got i d bs (omega (arith, l))

numbered_of : (w : Text) (t : Tale) (s : Seen) → AreDrawn s → Knows w t s → AreNumbered 1 (map formed_of t.batches.items)
numbered_of w t s drawn h = subst (AreNumbered 1) (sym h.batches) drawn.batches

-- the batch that is kept at a place is the one of its number
pub batch_there : (w : Text) (k i : ℕ) (d : BatchTale) (t : Tale) (s : Seen) → AreDrawn s → Knows w t s → k ≡ i + 1 → i < length t.batches.items → batch_in k s.batches ≡ Some (slice_index_or t.batches.items i d).formed
batch_there w k i d t s drawn h e l =
    ap (batch_in k) (sym h.batches) ∙ (found 1 i k (map formed_of t.batches.items) (numbered_of w t s drawn h) (omega (arith, e)) (omega (arith, l, length-map t.batches.items formed_of)) ∙ got i d t.batches.items l)

pub batch_nowhere : (w : Text) (k : ℕ) (t : Tale) (s : Seen) → AreDrawn s → Knows w t s → (k ≡ 0) ⊎ (length t.batches.items < k) → batch_in k s.batches ≡ None
batch_nowhere w k t s drawn h (inl e) = missed 1 k s.batches drawn.batches (inl (omega (arith, e)))
batch_nowhere w k t s drawn h (inr l) = missed 1 k s.batches drawn.batches (inr (omega (arith, l, length-map t.batches.items formed_of, ap length h.batches)))

pub formed_set : (g : BatchTale → BatchTale) (i : ℕ) (d : BatchTale) (bs : List BatchTale) → ((b : BatchTale) → (g b).formed ≡ b.formed) → i < length bs → map formed_of (slice_set bs i (g (slice_index_or bs i d))) ≡ map formed_of bs
formed_set g i d [] f l = absurd (omega (arith, l))
formed_set g zero d (b ∷ bs) f l = ap (λ x. x ∷ map formed_of bs) (f b)
formed_set g (suc i) d (b ∷ bs) f l = ap (λ xs. b.formed ∷ xs) (formed_set g i d bs f (omega (arith, l)))

-- ---- a batch settles

pub among_push : (j k : ℕ) (ks : List ℕ) → is_among j (ks ++ k ∷ []) ≡ (is_among j ks || (k == j))
among_push j k [] = or_false (k == j)
among_push j k (x ∷ ks) = by (x == j) (among_push j k ks)
  where
    by : (b : Bool) → is_among j (ks ++ k ∷ []) ≡ (is_among j ks || (k == j)) → (b || is_among j (ks ++ k ∷ [])) ≡ ((b || is_among j ks) || (k == j))
    by true e = refl
    by false e = e

abbrev pub with_settled : ℕ → Seen → Seen
with_settled k s = record s { settled = s.settled ++ k ∷ [] }

settled_seen : (reads : Tx → Bool) (w : Text) (k : ℕ) (s : Seen) → was_formed k s ≡ true → is_among k s.settled ≡ false → happened reads w (Settle k) s ≡ with_settled k s
unfolding added ring_after
settled_seen reads w k s e f = by (was_formed k s) (is_among k s.settled) e f
  where
    by : (b c : Bool) → b ≡ true → c ≡ false → record (if b && not c then record s { settled = s.settled ++ k ∷ [] } else s) { ring = s.ring } ≡ with_settled k s
    by true false e f = refl
    by true true e f = absurd (true≢false f)
    by false c e f = absurd (true≢false (sym e))

settle_left : (reads : Tx → Bool) (w : Text) (k : ℕ) (s : Seen) → (was_formed k s && not (is_among k s.settled)) ≡ false → happened reads w (Settle k) s ≡ s
unfolding added ring_after
settle_left reads w k s e = ap (λ (b : Bool). record (if b then record s { settled = s.settled ++ k ∷ [] } else s) { ring = s.ring }) e

marks_settled : (s : Seen) (b : BatchTale) (k : ℕ) → b.formed.bid ≡ k → TellsBatch s b → TellsBatch (with_settled k s) (record b { settled = true })
marks_settled s b k e h = record {
  committed = h.committed;
  settled = sym (among_push b.formed.bid k s.settled ∙ (ap (λ (c : Bool). is_among b.formed.bid s.settled || c) (eq-eqb k b.formed.bid (sym e)) ∙ or_true (is_among b.formed.bid s.settled)));
}

marks_unsettled : (s : Seen) (b : BatchTale) (k : ℕ) → b.formed.bid ≢ k → TellsBatch s b → TellsBatch (with_settled k s) b
marks_unsettled s b k n h = record {
  committed = h.committed;
  settled = h.settled ∙ sym (among_push b.formed.bid k s.settled ∙ (ap (λ (c : Bool). is_among b.formed.bid s.settled || c) (ne_eqb k b.formed.bid (λ q. n (sym q))) ∙ or_false (is_among b.formed.bid s.settled)));
}

ends_settled : (s : Seen) (k : ℕ) (xs : List ActTale) → AllByRecursion (TellsAct s) xs → AllByRecursion (TellsAct (with_settled k s)) xs
ends_settled s k [] h = tt
ends_settled s k (x ∷ xs) h = (record { before = h.0.before; behind = h.0.behind; given_up = h.0.given_up; decided = h.0.decided }, ends_settled s k xs h.1)

-- the tale after the first Settle of the batch at place i
pub record SettlesAt (i : ℕ) (d : BatchTale) (old new : Tale) : Type 0 where
  pub ring : new.ring ≡ old.ring
  pub batches : new.batches.items ≡ slice_set old.batches.items i (record (slice_index_or old.batches.items i d) { settled = true })
  pub acts : new.acts.items ≡ old.acts.items
  pub owners : new.owners.items ≡ old.owners.items
  pub members : new.members.items ≡ old.members.items
  pub settled : new.settled ≡ old.settled + 1
  pub next_c : new.next_c ≡ old.next_c

length_push : (ks : List ℕ) (k : ℕ) → length (ks ++ k ∷ []) ≡ length ks + 1
length_push [] k = refl
length_push (x ∷ ks) k = omega (arith, length_push ks k)

settle_knows : (w : Text) (k i : ℕ) (d : BatchTale) (t new : Tale) (s : Seen) → AreDrawn s → Knows w t s → k ≡ i + 1 → i < length t.batches.items → SettlesAt i d t new → Knows w new (with_settled k s)
settle_knows w k i d t new s drawn h e l c =
    let numbered = numbered_of w t s drawn h in
    let bid : (slice_index_or t.batches.items i d).formed.bid ≡ k = omega (arith, bid_at 1 i d t.batches.items numbered l, e) in
    record {
      ring = c.ring ∙ h.ring;
      batches = ap (map formed_of) c.batches ∙ (formed_set (λ b. record b { settled = true }) i d t.batches.items (λ b. refl) l ∙ h.batches);
      marks = subst (AllByRecursion (TellsBatch (with_settled k s))) (sym c.batches)
          (marks_set s (with_settled k s) (λ b. record b { settled = true }) k 1 i d t.batches.items (λ m. marks_settled s (slice_index_or t.batches.items i d) k bid m) (λ b n m. marks_unsettled s b k n m) numbered (omega (arith, e)) l h.marks);
      acts = ap (map begun_of) c.acts ∙ h.acts;
      ends = subst (AllByRecursion (TellsAct (with_settled k s))) (sym c.acts) (ends_settled s k t.acts.items h.ends);
      owners = λ n. h.owners n ∙ ap (λ (os : List Owner). act_by (owner_of n os) s.acts) (sym c.owners);
      kept = subst (AllByRecursion (IsKept (length s.acts))) (sym c.owners) h.kept;
      drawn = h.drawn ∙ ap (λ (os : List Owner). length os + 1) (sym c.owners);
      members = ap (map member_of) c.members ∙ h.members;
      settled = omega (arith, c.settled, h.settled, length_push s.settled k);
      number = c.next_c ∙ h.number;
    }

-- ---- a batch commits

abbrev pub with_members : List Member → Seen → Seen
with_members ms s = record s { members = s.members ++ ms }

commit_seen : (reads : Tx → Bool) (w : Text) (k : ℕ) (f : Formed) (s : Seen) → batch_in k s.batches ≡ Some f → has_its_place (OfBatch k) s.members ≡ false → happened reads w (Commit k) s ≡ with_members (map (pact_member k) f.pacts) s
unfolding added ring_after
commit_seen reads w k f s e n = ap (λ (o : Option Formed). with_members (committing k o s.members) s) e ∙ ap (λ (b : Bool). with_members (if b then [] else map (pact_member k) f.pacts) s) n

-- one that has no place yet, or no PACTs
commit_first : (reads : Tx → Bool) (w : Text) (k : ℕ) (f : Formed) (s : Seen) → batch_in k s.batches ≡ Some f → (has_its_place (OfBatch k) s.members ≡ false) ⊎ (f.pacts ≡ []) → happened reads w (Commit k) s ≡ with_members (map (pact_member k) f.pacts) s
unfolding added ring_after
commit_first reads w k f s e (inl n) = commit_seen reads w k f s e n
commit_first reads w k f s e (inr q) =
    ap (λ (o : Option Formed). with_members (committing k o s.members) s) e
    ∙ ap (λ (ms : List Member). with_members ms s) (ap (λ (ps : List Pact). if has_its_place (OfBatch k) s.members then [] else map (pact_member k) ps) q ∙ (none (has_its_place (OfBatch k) s.members) ∙ ap (map (pact_member k)) (sym q)))
  where
    none : (b : Bool) → (if b then [] else map (pact_member k) []) ≡ map (pact_member k) []
    none true = refl
    none false = refl

commit_left : (reads : Tx → Bool) (w : Text) (k : ℕ) (s : Seen) → committing k (batch_in k s.batches) s.members ≡ [] → happened reads w (Commit k) s ≡ s
unfolding added ring_after
commit_left reads w k s e = ap (λ (ms : List Member). with_members ms s) e ∙ ap (λ (ms : List Member). record s { members = ms }) (append-nil s.members)

-- who had no place, and is not of the batch, has none
placed_other : (who : Who) (k : ℕ) (ps : List Pact) → is_who who (OfBatch k) ≡ false → has_its_place who (map (pact_member k) ps) ≡ false
placed_other who k [] e = refl
placed_other who k (p ∷ ps) e = ap (λ (b : Bool). b || has_its_place who (map (pact_member k) ps)) e ∙ placed_other who k ps e

place_kept : (who : Who) (k : ℕ) (ps : List Pact) (ms : List Member) → is_who who (OfBatch k) ≡ false → has_its_place who (ms ++ map (pact_member k) ps) ≡ has_its_place who ms
place_kept who k ps ms e = list_any-append (λ m. is_who who m.who) ms (map (pact_member k) ps) ∙ (ap (λ (b : Bool). has_its_place who ms || b) (placed_other who k ps e) ∙ or_false (has_its_place who ms))

place_got : (k : ℕ) (p : Pact) (ps : List Pact) (ms : List Member) → has_its_place (OfBatch k) (ms ++ map (pact_member k) (p ∷ ps)) ≡ true
place_got k p ps ms =
    list_any-append (λ m. is_who (OfBatch k) m.who) ms (map (pact_member k) (p ∷ ps))
    ∙ (ap (λ (b : Bool). has_its_place (OfBatch k) ms || (b || has_its_place (OfBatch k) (map (pact_member k) ps))) (eq-eqb k k refl) ∙ or_true (has_its_place (OfBatch k) ms))

marks_committed : (s : Seen) (b : BatchTale) (k : ℕ) → b.formed.bid ≡ k → TellsBatch s b → TellsBatch (with_members (map (pact_member k) b.formed.pacts) s) (record b { committed = true })
marks_committed s b k e h = record { committed = by b.formed.pacts refl; settled = h.settled }
  where
    by : (ps : List Pact) → b.formed.pacts ≡ ps → (true ≡ has_its_place (OfBatch b.formed.bid) (s.members ++ map (pact_member k) b.formed.pacts)) ⊎ (b.formed.pacts ≡ [])
    by [] q = inr q
    by (p ∷ ps) q =
        inl (sym (ap (λ (zs : List Pact). has_its_place (OfBatch b.formed.bid) (s.members ++ map (pact_member k) zs)) q
        ∙ subst (λ (j : ℕ). has_its_place (OfBatch j) (s.members ++ map (pact_member k) (p ∷ ps)) ≡ true) (sym e) (place_got k p ps s.members)))

marks_uncommitted : (s : Seen) (ps : List Pact) (b : BatchTale) (k : ℕ) → b.formed.bid ≢ k → TellsBatch s b → TellsBatch (with_members (map (pact_member k) ps) s) b
marks_uncommitted s ps b k n h = record { committed = by h.committed; settled = h.settled }
  where
    by : (b.committed ≡ has_its_place (OfBatch b.formed.bid) s.members) ⊎ (b.formed.pacts ≡ []) → (b.committed ≡ has_its_place (OfBatch b.formed.bid) (s.members ++ map (pact_member k) ps)) ⊎ (b.formed.pacts ≡ [])
    by (inl q) = inl (q ∙ sym (place_kept (OfBatch b.formed.bid) k ps s.members (ne_eqb b.formed.bid k n)))
    by (inr q) = inr q

-- an ACT has a place where it had one
ends_committed : (s : Seen) (k : ℕ) (ps : List Pact) (xs : List ActTale) → AllByRecursion (TellsAct s) xs → AllByRecursion (TellsAct (with_members (map (pact_member k) ps) s)) xs
ends_committed s k ps [] h = tt
ends_committed s k ps (x ∷ xs) h = (one x h.0, ends_committed s k ps xs h.1)
  where
    one : (x : ActTale) → TellsAct s x → TellsAct (with_members (map (pact_member k) ps) s) x
    one x g =
        let same = place_kept (OfAct x.tid.0) k ps s.members refl in
        record {
          before = g.before;
          behind = λ q. g.behind (ap (λ (b : Bool). not (was_given_up s.dooms x.tid.0) && not b) (sym same) ∙ q);
          given_up = g.given_up;
          decided = g.decided ∙ sym same;
        }

-- no commit number is drawn
no_numbers : (k : ℕ) (ps : List Pact) → filter (λ m. is_act_who m.who) (map (pact_member k) ps) ≡ []
no_numbers k [] = refl
no_numbers k (p ∷ ps) = no_numbers k ps

same_number : (w : Text) (s : Seen) (k : ℕ) (ps : List Pact) → next_c w (with_members (map (pact_member k) ps) s) ≡ next_c w s
same_number w s k ps =
    ap (λ (ms : List Member). w.opening.next_c + length ms) (filter-append (λ m. is_act_who m.who) s.members (map (pact_member k) ps)
    ∙ (ap (λ (ms : List Member). filter (λ m. is_act_who m.who) s.members ++ ms) (no_numbers k ps) ∙ append-nil (filter (λ m. is_act_who m.who) s.members)))

-- one more of its PACTs gets its place
pub members_more : (k : ℕ) (ps : List (Tid × TxNo)) (i : ℕ) (d : Tid × TxNo) (ms : List MemberTale) (m : MemberTale) (old : List Member) → i < length ps → member_of m ≡ pact_member k (batch_pact (slice_index_or ps i d)) → map member_of ms ≡ old ++ map (pact_member k) (map batch_pact (take i ps))
    → map member_of (ms ++ m ∷ []) ≡ old ++ map (pact_member k) (map batch_pact (take (i + 1) ps))
members_more k ps i d ms m old l e h =
    let new : Member = pact_member k (batch_pact (slice_index_or ps i d)) in
    let more = ap (map (pact_member k)) (map_taken batch_pact ps i d l) ∙ map_push (pact_member k) (map batch_pact (take i ps)) (batch_pact (slice_index_or ps i d)) in
    map_push member_of ms m
    ∙ (ap (λ x. map member_of ms ++ x ∷ []) e ∙ (ap (λ xs. xs ++ new ∷ []) h ∙ (append_assoc old (map (pact_member k) (map batch_pact (take i ps))) (new ∷ []) ∙ ap (λ xs. old ++ xs) (sym more))))

-- the tale after the first Commit of the batch at place i
pub record CommitsAt (i : ℕ) (d : BatchTale) (old new : Tale) : Type 0 where
  pub ring : new.ring ≡ old.ring
  pub batches : new.batches.items ≡ slice_set old.batches.items i (record (slice_index_or old.batches.items i d) { committed = true })
  pub acts : new.acts.items ≡ old.acts.items
  pub owners : new.owners.items ≡ old.owners.items
  pub members : map member_of new.members.items ≡ map member_of old.members.items ++ map (pact_member (slice_index_or old.batches.items i d).formed.bid) (slice_index_or old.batches.items i d).formed.pacts
  pub settled : new.settled ≡ old.settled
  pub next_c : new.next_c ≡ old.next_c

commit_knows : (w : Text) (k i : ℕ) (d : BatchTale) (t new : Tale) (s : Seen) → AreDrawn s → Knows w t s → k ≡ i + 1 → i < length t.batches.items → CommitsAt i d t new
    → Knows w new (with_members (map (pact_member k) (slice_index_or t.batches.items i d).formed.pacts) s)
commit_knows w k i d t new s drawn h e l c =
    let numbered = numbered_of w t s drawn h in
    let b : BatchTale = slice_index_or t.batches.items i d in
    let bid : b.formed.bid ≡ k = omega (arith, bid_at 1 i d t.batches.items numbered l, e) in
    let after : Seen = with_members (map (pact_member k) b.formed.pacts) s in
    record {
      ring = c.ring ∙ h.ring;
      batches = ap (map formed_of) c.batches ∙ (formed_set (λ x. record x { committed = true }) i d t.batches.items (λ x. refl) l ∙ h.batches);
      marks = subst (AllByRecursion (TellsBatch after)) (sym c.batches)
          (marks_set s after (λ x. record x { committed = true }) k 1 i d t.batches.items (λ m. marks_committed s b k bid m) (λ x n m. marks_uncommitted s b.formed.pacts x k n m) numbered (omega (arith, e)) l h.marks);
      acts = ap (map begun_of) c.acts ∙ h.acts;
      ends = subst (AllByRecursion (TellsAct after)) (sym c.acts) (ends_committed s k b.formed.pacts t.acts.items h.ends);
      owners = λ n. h.owners n ∙ ap (λ (os : List Owner). act_by (owner_of n os) s.acts) (sym c.owners);
      kept = subst (AllByRecursion (IsKept (length s.acts))) (sym c.owners) h.kept;
      drawn = h.drawn ∙ ap (λ (os : List Owner). length os + 1) (sym c.owners);
      members = c.members ∙ (ap (λ ms. ms ++ map (pact_member b.formed.bid) b.formed.pacts) h.members ∙ ap (λ (j : ℕ). s.members ++ map (pact_member j) b.formed.pacts) bid);
      settled = c.settled ∙ h.settled;
      number = c.next_c ∙ (h.number ∙ sym (same_number w s k b.formed.pacts));
    }

-- ---- an ACT is decided

decide_seen : (reads : Tx → Bool) (w : Text) (n : ℕ) (x : Begun) (s : Seen) → act_in n s.acts ≡ Some x → has_its_place (OfAct x.tid) s.members ≡ false → happened reads w (Decide n) s ≡ with_members (act_member w s x ∷ []) s
unfolding added ring_after
decide_seen reads w n x s e f = ap (λ (o : Option Begun). with_members (deciding w o s) s) e ∙ ap (λ (b : Bool). with_members (if b then [] else act_member w s x ∷ []) s) f

decide_left : (reads : Tx → Bool) (w : Text) (n : ℕ) (s : Seen) → deciding w (act_in n s.acts) s ≡ [] → happened reads w (Decide n) s ≡ s
unfolding added ring_after
decide_left reads w n s e = ap (λ (ms : List Member). with_members ms s) e ∙ ap (λ (ms : List Member). record s { members = ms }) (append-nil s.members)

one_more : (who : Who) (m : Member) (ms : List Member) → has_its_place who (ms ++ m ∷ []) ≡ (has_its_place who ms || (is_who who m.who || false))
one_more who m ms = list_any-append (λ x. is_who who x.who) ms (m ∷ [])

still_none : (who : Who) (m : Member) (ms : List Member) → is_who who m.who ≡ false → has_its_place who (ms ++ m ∷ []) ≡ has_its_place who ms
still_none who m ms e = one_more who m ms ∙ (ap (λ (b : Bool). has_its_place who ms || (b || false)) e ∙ or_false (has_its_place who ms))

now_placed : (who : Who) (m : Member) (ms : List Member) → is_who who m.who ≡ true → has_its_place who (ms ++ m ∷ []) ≡ true
now_placed who m ms e = one_more who m ms ∙ (ap (λ (b : Bool). has_its_place who ms || (b || false)) e ∙ or_true (has_its_place who ms))

marks_decided : (s : Seen) (m : Member) (n : ℕ) (bs : List BatchTale) → m.who ≡ OfAct n → AllByRecursion (TellsBatch s) bs → AllByRecursion (TellsBatch (with_members (m ∷ []) s)) bs
marks_decided s m n [] e h = tt
marks_decided s m n (b ∷ bs) e h = (record { committed = by h.0.committed; settled = h.0.settled }, marks_decided s m n bs e h.1)
  where
    same : has_its_place (OfBatch b.formed.bid) (s.members ++ m ∷ []) ≡ has_its_place (OfBatch b.formed.bid) s.members
    same = still_none (OfBatch b.formed.bid) m s.members (ap (is_who (OfBatch b.formed.bid)) e)

    by : (b.committed ≡ has_its_place (OfBatch b.formed.bid) s.members) ⊎ (b.formed.pacts ≡ []) → (b.committed ≡ has_its_place (OfBatch b.formed.bid) (s.members ++ m ∷ [])) ⊎ (b.formed.pacts ≡ [])
    by (inl q) = inl (q ∙ sym same)
    by (inr q) = inr q

-- the ACT itself, and any other
act_decided : (s : Seen) (m : Member) (x : ActTale) → m.who ≡ OfAct x.tid.0 → TellsAct s x → TellsAct (with_members (m ∷ []) s) (record x { decided = true })
act_decided s m x e h =
    let placed = now_placed (OfAct x.tid.0) m s.members (ap (is_who (OfAct x.tid.0)) e ∙ eq-eqb x.tid.0 x.tid.0 refl) in
    record {
      before = h.before;
      behind = λ q. absurd (true≢false (sym q ∙ dead (was_given_up s.dooms x.tid.0) (has_its_place (OfAct x.tid.0) (s.members ++ m ∷ [])) placed));
      given_up = h.given_up;
      decided = sym placed;
    }
  where
    dead : (a b : Bool) → b ≡ true → (not a && not b) ≡ false
    dead true true q = refl
    dead false true q = refl
    dead a false q = absurd (true≢false (sym q))

act_undecided : (s : Seen) (m : Member) (n : ℕ) (x : ActTale) → m.who ≡ OfAct n → x.tid.0 ≢ n → TellsAct s x → TellsAct (with_members (m ∷ []) s) x
act_undecided s m n x e f h =
    let same = still_none (OfAct x.tid.0) m s.members (ap (is_who (OfAct x.tid.0)) e ∙ ne_eqb x.tid.0 n f) in
    record {
      before = h.before;
      behind = λ q. h.behind (ap (λ (b : Bool). not (was_given_up s.dooms x.tid.0) && not b) (sym same) ∙ q);
      given_up = h.given_up;
      decided = h.decided ∙ sym same;
    }

ends_others : (s new : Seen) (n low : ℕ) (xs : List ActTale) → ((x : ActTale) → x.tid.0 ≢ n → TellsAct s x → TellsAct new x) → RiseFrom low (map begun_of xs) → n < low → AllByRecursion (TellsAct s) xs → AllByRecursion (TellsAct new) xs
ends_others s new n low [] f h l all = tt
ends_others s new n low (x ∷ xs) f h l all = (f x (λ q. omega (arith, q, h.0, l)) all.0, ends_others s new n (x.tid.0 + 1) xs f h.1 (omega (arith, h.0, l)) all.1)

above : (low i : ℕ) (d : ActTale) (xs : List ActTale) → RiseFrom low (map begun_of xs) → i < length xs → low ≤ (slice_index_or xs i d).tid.0
above low i d [] h l = absurd (omega (arith, l))
above low zero d (x ∷ xs) h l = h.0
above low (suc i) d (x ∷ xs) h l = omega (arith, h.0, above (x.tid.0 + 1) i d xs h.1 (omega (arith, l)))

pub ends_set : (s new : Seen) (g : ActTale → ActTale) (low i : ℕ) (d : ActTale) (xs : List ActTale)
    → (TellsAct s (slice_index_or xs i d) → TellsAct new (g (slice_index_or xs i d))) → ((x : ActTale) → x.tid.0 ≢ (slice_index_or xs i d).tid.0 → TellsAct s x → TellsAct new x)
    → RiseFrom low (map begun_of xs) → i < length xs → AllByRecursion (TellsAct s) xs → AllByRecursion (TellsAct new) (slice_set xs i (g (slice_index_or xs i d)))
ends_set s new g low i d [] one f h l all = absurd (omega (arith, l))
ends_set s new g low zero d (x ∷ xs) one f h l all = (one all.0, ends_others s new x.tid.0 (x.tid.0 + 1) xs f h.1 (omega arith) all.1)
ends_set s new g low (suc i) d (x ∷ xs) one f h l all =
    let up = above (x.tid.0 + 1) i d xs h.1 (omega (arith, l)) in
    (f x (λ q. omega (arith, q, up)) all.0, ends_set s new g (x.tid.0 + 1) i d xs one f h.1 (omega (arith, l)) all.1)

pub begun_set : (g : ActTale → ActTale) (i : ℕ) (d : ActTale) (xs : List ActTale) → ((x : ActTale) → begun_of (g x) ≡ begun_of x) → i < length xs → map begun_of (slice_set xs i (g (slice_index_or xs i d))) ≡ map begun_of xs
begun_set g i d [] f l = absurd (omega (arith, l))
begun_set g zero d (x ∷ xs) f l = ap (λ y. y ∷ map begun_of xs) (f x)
begun_set g (suc i) d (x ∷ xs) f l = ap (λ ys. begun_of x ∷ ys) (begun_set g i d xs f (omega (arith, l)))

pub begun_at : (i : ℕ) (d : ActTale) (xs : List ActTale) → i < length xs → slice_get (map begun_of xs) i ≡ Some (begun_of (slice_index_or xs i d))
begun_at i d [] l = absurd (omega (arith, l))
begun_at zero d (x ∷ xs) l = refl
begun_at (suc i) d (x ∷ xs) l = begun_at i d xs (omega (arith, l))

-- the ACT that is kept at a place is the one that drew the tid
pub act_there : (w : Text) (n i : ℕ) (d : ActTale) (t : Tale) (s : Seen) → Knows w t s → owner_of n t.owners.items ≡ Some (owners.Act i) → i < length t.acts.items → act_in n s.acts ≡ Some (begun_of (slice_index_or t.acts.items i d))
act_there w n i d t s h e l = h.owners n ∙ (ap (λ (o : Option Owner). act_by o s.acts) e ∙ (ap (λ (xs : List Begun). slice_get xs i) (sym h.acts) ∙ begun_at i d t.acts.items l))

-- the tale after the first Decide of the ACT at place i
pub record DecidesAt (i : ℕ) (d : ActTale) (m : Member) (old new : Tale) : Type 0 where
  pub ring : new.ring ≡ old.ring
  pub batches : new.batches.items ≡ old.batches.items
  pub acts : new.acts.items ≡ slice_set old.acts.items i (record (slice_index_or old.acts.items i d) { decided = true })
  pub owners : new.owners.items ≡ old.owners.items
  pub members : map member_of new.members.items ≡ map member_of old.members.items ++ m ∷ []
  pub settled : new.settled ≡ old.settled
  pub next_c : new.next_c ≡ old.next_c + 1

one_number : (w : Text) (s : Seen) (m : Member) (n : ℕ) → m.who ≡ OfAct n → next_c w (with_members (m ∷ []) s) ≡ next_c w s + 1
one_number w s m n e =
    let more : count (λ x. is_act_who x.who) (m ∷ []) ≡ 1 = ap (λ (b : Bool). length (if b then m ∷ [] else [])) (ap is_act_who e) in
    let joined : count (λ x. is_act_who x.who) (s.members ++ m ∷ []) ≡ count (λ x. is_act_who x.who) s.members + 1 =
    ap length (filter-append (λ x. is_act_who x.who) s.members (m ∷ [])) ∙ (length-append (filter (λ x. is_act_who x.who) s.members) (filter (λ x. is_act_who x.who) (m ∷ [])) ∙ ap (λ (j : ℕ). count (λ x. is_act_who x.who) s.members + j) more) in
    omega (arith, joined)

decide_knows : (w : Text) (i : ℕ) (d : ActTale) (m : Member) (t new : Tale) (s : Seen) → AreDrawn s → Knows w t s → i < length t.acts.items → m.who ≡ OfAct (slice_index_or t.acts.items i d).tid.0 → DecidesAt i d m t new → Knows w new (with_members (m ∷ []) s)
decide_knows w i d m t new s drawn h l e c =
    let x : ActTale = slice_index_or t.acts.items i d in
    let after : Seen = with_members (m ∷ []) s in
    let rise = subst (RiseFrom 1) (sym h.acts) drawn.rise in
    record {
      ring = c.ring ∙ h.ring;
      batches = ap (map formed_of) c.batches ∙ h.batches;
      marks = subst (AllByRecursion (TellsBatch after)) (sym c.batches) (marks_decided s m x.tid.0 t.batches.items e h.marks);
      acts = ap (map begun_of) c.acts ∙ (begun_set (λ y. record y { decided = true }) i d t.acts.items (λ y. refl) l ∙ h.acts);
      ends = subst (AllByRecursion (TellsAct after)) (sym c.acts)
          (ends_set s after (λ y. record y { decided = true }) 1 i d t.acts.items (λ y. act_decided s m x e y) (λ y f g. act_undecided s m x.tid.0 y e f g) rise l h.ends);
      owners = λ n. h.owners n ∙ ap (λ (os : List Owner). act_by (owner_of n os) s.acts) (sym c.owners);
      kept = subst (AllByRecursion (IsKept (length s.acts))) (sym c.owners) h.kept;
      drawn = h.drawn ∙ ap (λ (os : List Owner). length os + 1) (sym c.owners);
      members = c.members ∙ ap (λ (ms : List Member). ms ++ m ∷ []) h.members;
      settled = c.settled ∙ h.settled;
      number = omega (arith, c.next_c, h.number, one_number w s m x.tid.0 e);
    }

-- ---- the events

pub settled_known : (reads : Tx → Bool) (w : Text) (k i : ℕ) (d : BatchTale) (t new : Tale) (s : Seen) → AreDrawn s → Knows w t s → k ≡ i + 1 → i < length t.batches.items → (slice_index_or t.batches.items i d).settled ≡ false → SettlesAt i d t new
    → Knows w new (happened reads w (Settle k) s)
settled_known reads w k i d t new s drawn h e l n c =
    let there = batch_there w k i d t s drawn h e l in
    let bid : (slice_index_or t.batches.items i d).formed.bid ≡ k = omega (arith, bid_at 1 i d t.batches.items (numbered_of w t s drawn h) l, e) in
    let mark = each_at (TellsBatch s) t.batches.items i d l h.marks in
    subst (Knows w new) (sym (settled_seen reads w k s (ap is_some there) (subst (λ (j : ℕ). is_among j s.settled ≡ false) bid (sym mark.settled ∙ n)))) (settle_knows w k i d t new s drawn h e l c)

pub committed_known : (reads : Tx → Bool) (w : Text) (k i : ℕ) (d : BatchTale) (t new : Tale) (s : Seen) → AreDrawn s → Knows w t s → k ≡ i + 1 → i < length t.batches.items → (slice_index_or t.batches.items i d).committed ≡ false → CommitsAt i d t new
    → Knows w new (happened reads w (Commit k) s)
committed_known reads w k i d t new s drawn h e l n c =
    subst (Knows w new) (sym (commit_first reads w k (slice_index_or t.batches.items i d).formed s (batch_there w k i d t s drawn h e l) (unplaced (each_at (TellsBatch s) t.batches.items i d l h.marks).committed))) (commit_knows w k i d t new s drawn h e l c)
  where
    b : BatchTale
    b = slice_index_or t.batches.items i d

    bid : b.formed.bid ≡ k
    bid = omega (arith, bid_at 1 i d t.batches.items (numbered_of w t s drawn h) l, e)

    unplaced : (b.committed ≡ has_its_place (OfBatch b.formed.bid) s.members) ⊎ (b.formed.pacts ≡ []) → (has_its_place (OfBatch k) s.members ≡ false) ⊎ (b.formed.pacts ≡ [])
    unplaced (inl q) = inl (subst (λ (j : ℕ). has_its_place (OfBatch j) s.members ≡ false) bid (sym q ∙ n))
    unplaced (inr q) = inr q

pub decided_known : (reads : Tx → Bool) (w : Text) (n i : ℕ) (d : ActTale) (t new : Tale) (s : Seen) → AreDrawn s → Knows w t s → owner_of n t.owners.items ≡ Some (owners.Act i) → i < length t.acts.items
    → (slice_index_or t.acts.items i d).decided ≡ false → DecidesAt i d (act_member w s (begun_of (slice_index_or t.acts.items i d))) t new → Knows w new (happened reads w (Decide n) s)
decided_known reads w n i d t new s drawn h e l f c =
    let x : ActTale = slice_index_or t.acts.items i d in
    let none : has_its_place (OfAct x.tid.0) s.members ≡ false = sym (each_at (TellsAct s) t.acts.items i d l h.ends).decided ∙ f in
    subst (Knows w new) (sym (decide_seen reads w n (begun_of x) s (act_there w n i d t s h e l) none)) (decide_knows w i d (act_member w s (begun_of x)) t new s drawn h l refl c)

-- ---- events that add nothing

pub commit_nowhere : (reads : Tx → Bool) (w : Text) (k : ℕ) (t : Tale) (s : Seen) → AreDrawn s → Knows w t s → (k ≡ 0) ⊎ (length t.batches.items < k) → Knows w t (happened reads w (Commit k) s)
commit_nowhere reads w k t s drawn h o = subst (Knows w t) (sym (commit_left reads w k s (ap (λ (b : Option Formed). committing k b s.members) (batch_nowhere w k t s drawn h o)))) h

pub commit_done : (reads : Tx → Bool) (w : Text) (k i : ℕ) (d : BatchTale) (t : Tale) (s : Seen) → AreDrawn s → Knows w t s → k ≡ i + 1 → i < length t.batches.items → (slice_index_or t.batches.items i d).committed ≡ true → Knows w t (happened reads w (Commit k) s)
commit_done reads w k i d t s drawn h e l f = subst (Knows w t) (sym (commit_left reads w k s (ap (λ (o : Option Formed). committing k o s.members) (batch_there w k i d t s drawn h e l) ∙ by (each_at (TellsBatch s) t.batches.items i d l h.marks).committed))) h
  where
    b : BatchTale
    b = slice_index_or t.batches.items i d

    bid : b.formed.bid ≡ k
    bid = omega (arith, bid_at 1 i d t.batches.items (numbered_of w t s drawn h) l, e)

    none : (q : Bool) → (if q then [] else map (pact_member k) []) ≡ []
    none true = refl
    none false = refl

    by : (b.committed ≡ has_its_place (OfBatch b.formed.bid) s.members) ⊎ (b.formed.pacts ≡ []) → committing k (Some b.formed) s.members ≡ []
    by (inl q) = ap (λ (c : Bool). if c then [] else map (pact_member k) b.formed.pacts) (subst (λ (j : ℕ). has_its_place (OfBatch j) s.members ≡ true) bid (sym q ∙ f))
    by (inr q) = ap (λ (ps : List Pact). if has_its_place (OfBatch k) s.members then [] else map (pact_member k) ps) q ∙ none (has_its_place (OfBatch k) s.members)

pub settle_nowhere : (reads : Tx → Bool) (w : Text) (k : ℕ) (t : Tale) (s : Seen) → AreDrawn s → Knows w t s → (k ≡ 0) ⊎ (length t.batches.items < k) → Knows w t (happened reads w (Settle k) s)
settle_nowhere reads w k t s drawn h o = subst (Knows w t) (sym (settle_left reads w k s (ap (λ (b : Option Formed). is_some b && not (is_among k s.settled)) (batch_nowhere w k t s drawn h o)))) h

pub settle_done : (reads : Tx → Bool) (w : Text) (k i : ℕ) (d : BatchTale) (t : Tale) (s : Seen) → AreDrawn s → Knows w t s → k ≡ i + 1 → i < length t.batches.items → (slice_index_or t.batches.items i d).settled ≡ true → Knows w t (happened reads w (Settle k) s)
settle_done reads w k i d t s drawn h e l f =
    let bid : (slice_index_or t.batches.items i d).formed.bid ≡ k = omega (arith, bid_at 1 i d t.batches.items (numbered_of w t s drawn h) l, e) in
    let mark = each_at (TellsBatch s) t.batches.items i d l h.marks in
    let there : is_among k s.settled ≡ true = subst (λ (j : ℕ). is_among j s.settled ≡ true) bid (sym mark.settled ∙ f) in
    subst (Knows w t) (sym (settle_left reads w k s (ap (λ (b : Bool). was_formed k s && not b) there ∙ and_false (was_formed k s)))) h

pub decide_nowhere : (reads : Tx → Bool) (w : Text) (n : ℕ) (t : Tale) (s : Seen) → Knows w t s → act_in n s.acts ≡ None → Knows w t (happened reads w (Decide n) s)
decide_nowhere reads w n t s h e = subst (Knows w t) (sym (decide_left reads w n s (ap (λ (o : Option Begun). deciding w o s) e))) h

pub decide_done : (reads : Tx → Bool) (w : Text) (n i : ℕ) (d : ActTale) (t : Tale) (s : Seen) → Knows w t s → owner_of n t.owners.items ≡ Some (owners.Act i) → i < length t.acts.items → (slice_index_or t.acts.items i d).decided ≡ true → Knows w t (happened reads w (Decide n) s)
decide_done reads w n i d t s h e l f =
    let x : ActTale = slice_index_or t.acts.items i d in
    let there : has_its_place (OfAct x.tid.0) s.members ≡ true = sym (each_at (TellsAct s) t.acts.items i d l h.ends).decided ∙ f in
    subst (Knows w t) (sym (decide_left reads w n s (ap (λ (o : Option Begun). deciding w o s) (act_there w n i d t s h e l) ∙ ap (λ (b : Bool). if b then [] else act_member w s (begun_of x) ∷ []) there))) h

-- ---- the member that an ACT becomes

abbrev pub member_by : ActTale → ℕ → Member
member_by y c = record { who = OfAct y.tid.0; tid = y.tid.0; tx = y.tx.0; place = act_place y.before.0 c; reader = y.reader }

pub member_known : (w : Text) (s : Seen) (x y : ActTale) (c : ℕ) → y ≡ x → TellsAct s x → c ≡ next_c w s → member_by y c ≡ act_member w s (begun_of x)
member_known w s x y c e h n =
    ap (λ (z : ActTale). member_by z c) e
    ∙ ap (λ (p : Place). record { who = OfAct x.tid.0; tid = x.tid.0; tx = x.tx.0; place = p; reader = x.reader }) (ap (λ (b : ℕ). act_place b c) h.before ∙ ap (act_place (greatest (s.before x.tid.0))) n)
