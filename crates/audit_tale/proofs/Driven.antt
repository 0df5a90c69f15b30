-- What events tell, one by one: each adds to what is known, and the numbers of what is kept stay small.
use Rattle.std.specs.Prelude.{◌≡◌, refl, ℕ, ◌+◌, ◌*◌, ◌<◌, ◌≤◌, ◌&&◌, not, Bool, true, false, if◌then◌else◌, Option, Some, None, List, [], ◌∷◌, ◌++◌, filter, length, map, take, slice_index_or}
use Rattle.std.proofs.Common.{arith, sym, ap, subst, ◌∙◌}
use Rattle.std.proofs.lemmas.Bool.{true≢false}
use Rattle.std.proofs.lemmas.List.{length-append, length-map, length-take-le}
use Rattle.std.proofs.lemmas.List.Elements.{filter-append}
use Rattle.snap_base.specs.declared.ids.ActorId.{ActorId}
use Rattle.snap_base.specs.declared.ids.Bid.{Bid}
use Rattle.snap_base.specs.declared.ids.Tid.{Tid}
use Rattle.snap_base.specs.declared.ids.TxNo.{TxNo}
use Rattle.snap_base.specs.declared.transactions.Tx.{Tx}
use Rattle.core_events.specs.declared.events.Event as code
use Rattle.core_events.specs.declared.events.Event.TheVariants as events
use Rattle.core_events.specs.Meant.{event_meant}
use Rattle.protocol.specs.Conditions.{AllTrue}
use Rattle.protocol.specs.Events.{Event, Arrive, Ask, Commit, Settle, Abort, Decide, Finish}
use Rattle.protocol.specs.Fixed.{Text}
use Rattle.protocol.specs.OnRing.{Formed}
use Rattle.protocol.specs.Parts.{Pact, Ring, OfAct, OfBatch}
use Rattle.protocol.specs.Words.{count, is_act_who, is_among, least_older}
use Rattle.audit_words.specs.Audited.{IsFirstNotMet, ring_conditions, ring_behind}
use Rattle.audit_words.specs.Happenings.{act_member, added, asks, comes, committing, cross_out, deciding, give_up, happened, left, may_abort, may_ask, met, pact_member, ring_after, seen, seen_from, taken_by, batch_placed_last, with_cut}
use Rattle.audit_words.specs.Seen.{Begun, Member, Seen, act_in, batch_in, first_ring, has_its_place, was_formed, is_one_of_these, nothing_seen}
use Rattle.audit_words.proofs.Taken.{map_taken}
use Rattle.audit_tale.specs.declared.told.Told.{Told}
use Rattle.audit_tale.specs.Fitting.{FitsTale}
use Rattle.audit_tale.specs.Settings.{AreMarks, AreOfText, IsSetting, is_coordinators, meant}
use Rattle.audit_tale.specs.Stands.{IsSound, KnowsAll}
use Rattle.audit_tale.specs.Tellings.{IsTold}
use Rattle.audit_tale.proofs.Drawing.{drawn_first, drawn_on}
use Rattle.audit_tale.proofs.Fitted.{fits_first, fits_on}
use Rattle.audit_tale.proofs.Placing.{placed_first, placed_on}
use Rattle.audit_tale.proofs.Readers.{of_text_first, of_text_on}
use Rattle.audit_tale.proofs.Rings.{has_setting, meets_more, numbers_are_small, refused_at, some_text}
use Rattle.audit_tale.proofs.Steady.{steady_first, steady_on}

-- ---- events that tell nothing of their own

pub others_tell : (only_reads : Tx → Bool) (w : Text) (t : Told) (s : Seen) (e : code.Event) → is_coordinators e ≡ false
    → ((k : Bid) (a : ActorId) → e ≡ events.Arrive k a → ⊥) → ((u : Tid) (a : ActorId) → e ≡ events.Ask u a → ⊥) → ((u : Tid) (a : ActorId) → e ≡ events.Run u a → ⊥) → ((k : Bid) → e ≡ events.Commit k → ⊥) → ((k : Bid) → e ≡ events.Settle k → ⊥)
    → ((k : Bid) → e ≡ events.AbortBatch k → ⊥) → ((a : ActorId) → e ≡ events.Rollback a → ⊥) → ((u : Tid) → e ≡ events.Decide u → ⊥) → ((u : Tid) (a : ActorId) → e ≡ events.Finish u a → ⊥) → ((k : Bid) (a : ActorId) → e ≡ events.Trim k a → ⊥)
    → KnowsAll w t s → KnowsAll w t (happened only_reads w (event_meant e) s)
unfolding added ring_after
others_tell f w t s (events.Submit n) o a1 a2 a3 a4 a5 a6 a7 a8 a9 b1 h = absurd (true≢false o)
others_tell f w t s (events.Pass c) o a1 a2 a3 a4 a5 a6 a7 a8 a9 b1 h = absurd (true≢false o)
others_tell f w t s (events.Form k) o a1 a2 a3 a4 a5 a6 a7 a8 a9 b1 h = absurd (true≢false o)
others_tell f w t s (events.Admit u) o a1 a2 a3 a4 a5 a6 a7 a8 a9 b1 h = absurd (true≢false o)
others_tell f w t s (events.Arrive k a) o a1 a2 a3 a4 a5 a6 a7 a8 a9 b1 h = absurd (a1 k a refl)
others_tell f w t s (events.Ask u a) o a1 a2 a3 a4 a5 a6 a7 a8 a9 b1 h = absurd (a2 u a refl)
others_tell f w t s (events.Run u a) o a1 a2 a3 a4 a5 a6 a7 a8 a9 b1 h = absurd (a3 u a refl)
others_tell f w t s (events.Commit k) o a1 a2 a3 a4 a5 a6 a7 a8 a9 b1 h = absurd (a4 k refl)
others_tell f w t s (events.Settle k) o a1 a2 a3 a4 a5 a6 a7 a8 a9 b1 h = absurd (a5 k refl)
others_tell f w t s (events.AbortBatch k) o a1 a2 a3 a4 a5 a6 a7 a8 a9 b1 h = absurd (a6 k refl)
others_tell f w t s (events.Rollback a) o a1 a2 a3 a4 a5 a6 a7 a8 a9 b1 h = absurd (a7 a refl)
others_tell f w t s (events.Decide u) o a1 a2 a3 a4 a5 a6 a7 a8 a9 b1 h = absurd (a8 u refl)
others_tell f w t s (events.Finish u a) o a1 a2 a3 a4 a5 a6 a7 a8 a9 b1 h = absurd (a9 u a refl)
others_tell f w t s (events.Trim k a) o a1 a2 a3 a4 a5 a6 a7 a8 a9 b1 h = absurd (b1 k a refl)
others_tell f w t s _ o a1 a2 a3 a4 a5 a6 a7 a8 a9 b1 h = h

pub other_event : (e : code.Event) → ((n : TxNo) → e ≡ events.Submit n → ⊥) → ((c : ℕ) → e ≡ events.Pass c → ⊥) → ((k : Bid) → e ≡ events.Form k → ⊥) → ((u : Tid) → e ≡ events.Admit u → ⊥) → is_coordinators e ≡ false
other_event (events.Submit n) s p f a = absurd (s n refl)
other_event (events.Pass c) s p f a = absurd (p c refl)
other_event (events.Form k) s p f a = absurd (f k refl)
other_event (events.Admit u) s p f a = absurd (a u refl)
other_event _ s p f a = refl

-- an event that is none of the coordinators' has nothing to meet
pub nothing_to_meet : (w : Text) (e : code.Event) (r : Ring) → is_coordinators e ≡ false → AllTrue (ring_conditions w (event_meant e) r)
nothing_to_meet w (events.Submit n) r o = absurd (true≢false o)
nothing_to_meet w (events.Pass c) r o = absurd (true≢false o)
nothing_to_meet w (events.Form k) r o = absurd (true≢false o)
nothing_to_meet w (events.Admit u) r o = absurd (true≢false o)
nothing_to_meet w _ r o = tt

-- ---- one more event

seen_from_more : (f : Tx → Bool) (w : Text) (es : List Event) (e : Event) (s : Seen) → seen_from f w (es ++ e ∷ []) s ≡ happened f w e (seen_from f w es s)
seen_from_more f w [] e s = refl
seen_from_more f w (d ∷ es) e s = seen_from_more f w es e (happened f w d s)

seen_ring : (f : Tx → Bool) (w : Text) (es : List Event) (s : Seen) → (seen_from f w es s).ring ≡ ring_behind w es s.ring
seen_ring f w [] s = refl
seen_ring f w (e ∷ es) s = seen_ring f w es (happened f w e s)

pub told_first : (f : Tx → Bool) (w : Text) (t : Told) → w.opening.next_tid ≡ 1 → w.opening.next_bid ≡ 1 → KnowsAll w t (nothing_seen w) → IsTold f w [] t
told_first f w t u b k = record { meets = tt; known = k; sound = record { drawn = drawn_first w u b; steady = steady_first w; placed = placed_first w }; fits = fits_first w; waits = of_text_first w }

pub told_on : (f : Tx → Bool) (w : Text) (es : List Event) (e : Event) (t new : Told) → w.opening.next_bid ≡ 1 → IsTold f w es t → AllTrue (ring_conditions w e (seen f w es).ring) → KnowsAll w new (happened f w e (seen f w es)) → IsTold f w (es ++ e ∷ []) new
told_on f w es e t new b h m k =
    let s : Seen = seen f w es in
    let more = sym (seen_from_more f w es e (nothing_seen w)) in
    record {
      meets = meets_more w es e (first_ring w) h.meets (subst (λ (r : Ring). AllTrue (ring_conditions w e r)) (seen_ring f w es (nothing_seen w)) m);
      known = subst (KnowsAll w new) more k;
      sound = subst IsSound more (record { drawn = drawn_on f w e s m h.sound.drawn; steady = steady_on f w e s b m h.sound; placed = placed_on f w e s h.sound });
      fits = subst (FitsTale w) more (fits_on f w e s h.sound.drawn h.fits);
      waits = subst (λ (x : Seen). AreOfText w x.ring) more (of_text_on w e s.ring m h.waits);
    }

pub not_met_at : (f : Tx → Bool) (w : Text) (es : List code.Event) (i : ℕ) (d : code.Event) (t : Told) → i < length es → IsTold f w (meant (take i es)) t → (¬ AllTrue (ring_conditions w (event_meant (slice_index_or es i d)) (seen f w (meant (take i es))).ring)) → IsFirstNotMet w (meant es) i
not_met_at f w es i d t l h n = refused_at w es i d (seen f w (meant (take i es))).ring l h.meets (seen_ring f w (meant (take i es)) (nothing_seen w)) n

pub told_more : (f : Tx → Bool) (w : Text) (es : List code.Event) (i : ℕ) (d : code.Event) (t new : Told) → w.opening.next_bid ≡ 1 → i < length es → IsTold f w (meant (take i es)) t → AllTrue (ring_conditions w (event_meant (slice_index_or es i d)) (seen f w (meant (take i es))).ring)
    → KnowsAll w new (happened f w (event_meant (slice_index_or es i d)) (seen f w (meant (take i es)))) → IsTold f w (meant (take (i + 1) es)) new
told_more f w es i d t new b l h m k = subst (λ (ds : List Event). IsTold f w ds new) (sym (map_taken event_meant es i d l)) (told_on f w (meant (take i es)) (event_meant (slice_index_or es i d)) t new b h m k)

-- ---- how far numbers go

record Few (new s : Seen) : Type 0 where
  pub settled : length new.settled ≤ length s.settled + 1
  pub numbers : count (λ m. is_act_who m.who) new.members ≤ count (λ m. is_act_who m.who) s.members + 1

few_more : (ms ns : List Member) → count (λ m. is_act_who m.who) ns ≤ 1 → count (λ m. is_act_who m.who) (ms ++ ns) ≤ count (λ m. is_act_who m.who) ms + 1
few_more ms ns l = omega (arith, l, ap length (filter-append (λ (m : Member). is_act_who m.who) ms ns), length-append (filter (λ (m : Member). is_act_who m.who) ms) (filter (λ (m : Member). is_act_who m.who) ns))

no_acts : (k : ℕ) (ps : List Pact) → count (λ m. is_act_who m.who) (map (pact_member k) ps) ≡ 0
no_acts k [] = refl
no_acts k (p ∷ ps) = no_acts k ps

few_committing : (k : ℕ) (o : Option Formed) (ms : List Member) → count (λ m. is_act_who m.who) (committing k o ms) ≤ 1
few_committing k None ms = omega arith
few_committing k (Some b) ms = by (has_its_place (OfBatch k) ms)
  where
    by : (c : Bool) → count (λ m. is_act_who m.who) (if c then [] else map (pact_member k) b.pacts) ≤ 1
    by true = omega arith
    by false = omega (arith, no_acts k b.pacts)

few_deciding : (w : Text) (o : Option Begun) (s : Seen) → count (λ m. is_act_who m.who) (deciding w o s) ≤ 1
few_deciding w None s = omega arith
few_deciding w (Some x) s = by (has_its_place (OfAct x.tid) s.members)
  where
    by : (c : Bool) → count (λ m. is_act_who m.who) (if c then [] else act_member w s x ∷ []) ≤ 1
    by true = omega arith
    by false = omega arith

same_few : (new s : Seen) → new.settled ≡ s.settled → new.members ≡ s.members → Few new s
same_few new s e f = record { settled = omega (arith, ap length e); numbers = omega (arith, ap (λ (ms : List Member). count (λ m. is_act_who m.who) ms) f) }

few_on : (f : Tx → Bool) (w : Text) (e : Event) (s : Seen) → Few (happened f w e s) s
unfolding added ring_after
few_on f w (Arrive k a) s = by (comes k a s)
  where
    by : (b : Bool) → Few (record (if b then cross_out a (batch_placed_last k a s) else s) { ring = s.ring }) s
    by true = same_few _ s refl refl
    by false = same_few _ s refl refl
few_on f w (Ask t a) s = by (may_ask w t a s) (least_older t (met t a s))
  where
    by : (b : Bool) (o : Option ℕ) → Few (record (if b then asks t a o s else s) { ring = s.ring }) s
    by true None = same_few _ s refl refl
    by true (Some older) = same_few _ s refl refl
    by false o = same_few _ s refl refl
few_on f w (Commit k) s = record { settled = omega arith; numbers = few_more s.members (committing k (batch_in k s.batches) s.members) (few_committing k (batch_in k s.batches) s.members) }
few_on f w (Decide t) s = record { settled = omega arith; numbers = few_more s.members (deciding w (act_in t s.acts) s) (few_deciding w (act_in t s.acts) s) }
few_on f w (Settle k) s = by (was_formed k s && not (is_among k s.settled))
  where
    by : (b : Bool) → Few (record (if b then record s { settled = s.settled ++ k ∷ [] } else s) { ring = s.ring }) s
    by true = record { settled = omega (arith, length-append s.settled (k ∷ [])); numbers = omega arith }
    by false = same_few _ s refl refl
few_on f w (Abort k) s = by (may_abort k s)
  where
    by : (b : Bool) → Few (record (if b then with_cut w k (give_up (taken_by k s) s) else s) { ring = ring_after w (Abort k) s.ring }) s
    by true = same_few _ s refl refl
    by false = same_few _ s refl refl
few_on f w (Finish t a) s = by (is_one_of_these (OfAct t) (s.entries a))
  where
    by : (b : Bool) → Few (record (if b then left t a s else s) { ring = s.ring }) s
    by true = same_few _ s refl refl
    by false = same_few _ s refl refl
few_on f w e s = same_few _ s refl refl

few_behind : (f : Tx → Bool) (w : Text) (es : List Event) (s : Seen)
    → (length (seen_from f w es s).settled ≤ length s.settled + length es) × (count (λ m. is_act_who m.who) (seen_from f w es s).members ≤ count (λ m. is_act_who m.who) s.members + length es)
few_behind f w [] s = (omega arith, omega arith)
few_behind f w (e ∷ es) s =
    let one = few_on f w e s in
    let rest = few_behind f w es (happened f w e s) in
    (omega (arith, one.settled, rest.0), omega (arith, one.numbers, rest.1))

-- the numbers of what is kept after some events
pub record IsSmall (coordinators n : ℕ) (t : Told) : Type 0 where
  pub tids : t.tale.ring.next_tid ≤ 1 + 65536 * n
  pub bids : t.tale.ring.next_bid ≤ 1 + n
  pub epochs : t.tale.ring.epoch ≤ n
  pub queues : length t.tale.ring.pacts ≡ coordinators
  pub settled : t.tale.settled ≤ n
  pub numbers : t.tale.next_c ≤ n + 1

-- as some text with these transactions has it
pub kept_is_small : (coordinators batch actors i : ℕ) (txs : List Tx) (marks : List Bool) (es : List code.Event) (t : Told) → batch < 65536 → i ≤ length es → AreMarks marks txs
    → ((f : Tx → Bool) (w : Text) → IsSetting coordinators batch actors txs w → marks ≡ map f txs → IsTold f w (meant (take i es)) t) → IsSmall coordinators i t
kept_is_small coordinators batch actors i txs marks es t l inside some all =
    let w : Text = some_text coordinators batch actors txs in
    let h = all some.0 w (has_setting coordinators batch actors txs) some.1 in
    let ds : List Event = meant (take i es) in
    let many : length ds ≤ i = omega (arith, length-map (take i es) event_meant, length-take-le i es inside) in
    let ring = numbers_are_small coordinators batch actors i txs ds t.tale.ring l many (h.known.names.ring ∙ seen_ring some.0 w ds (nothing_seen w)) in
    let few = few_behind some.0 w ds (nothing_seen w) in
    record { tids = ring.0; bids = ring.1; epochs = ring.2; queues = ring.3; settled = omega (arith, h.known.names.settled, few.0, many); numbers = omega (arith, h.known.names.number, few.1, many) }

-- the setting, by what is kept
pub setting_kept : (coordinators batch actors n : ℕ) (txs : List Tx) (w : Text) (t : Told) (s : Seen) → IsSmall coordinators n t → KnowsAll w t s → IsSetting coordinators batch actors txs w → IsSetting (length t.tale.ring.pacts) batch (length t.actors.items) txs w
setting_kept coordinators batch actors n txs w t s small h g = record {
  opening = record { coordinators_are = g.opening.coordinators_are ∙ sym small.queues; actors_are = sym h.stands.count; tid = g.opening.tid; bid = g.opening.bid; number = g.opening.number };
  batch_is = g.batch_is;
  txs_are = g.txs_are;
}
