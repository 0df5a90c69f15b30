-- What is kept of actors, of ways and of ties, where an event leaves it, and where a batch or an ACT begins.
use Rattle.std.specs.Prelude.{◌≡◌, refl, ℕ, ◌+◌, ◌<◌, ◌≤◌, ◌==◌, nat_le, ◌⊎◌, ◌&&◌, ◌||◌, not, Bool, true, false, if◌then◌else◌, Some, None, List, [], ◌∷◌, ◌++◌, filter, length, map, slice_get}
use Rattle.std.specs.List.{AllByRecursion, list_any}
use Rattle.std.proofs.Common.{arith, sym, ap, subst, inl, inr, ◌∙◌}
use Rattle.std.proofs.lemmas.Bool.{eq-eqb, ne_eqb}
use Rattle.std.proofs.lemmas.Bool.Decides.{leb_tells}
use Rattle.std.proofs.lemmas.List.{length-append, map_push}
use Rattle.std.proofs.lemmas.List.Elements.{filter-append}
use Rattle.std.proofs.lemmas.List.Folds.{list_any-append}
use Rattle.std.proofs.lemmas.Option.{slice_get_past}
use Rattle.snap_base.proofs.Booleans.{or_true, three_ways}
use Rattle.snap_base.proofs.Lists.{all_filter, each_found, get_behind, get_left, weaker}
use Rattle.snap_base.specs.declared.ids.Bid.{Bid}
use Rattle.snap_base.specs.declared.transactions.Tx.{Tx}
use Rattle.protocol.specs.Events.{Commit, Decide, Pass, Settle, Submit}
use Rattle.protocol.specs.Fixed.{Text}
use Rattle.protocol.specs.History.{sets_of, with_at}
use Rattle.protocol.specs.Meant.{tid_number, who_meant}
use Rattle.protocol.specs.OnRing.{Formed}
use Rattle.protocol.specs.Parts.{Pair, Ring, Who, OfBatch, OfAct}
use Rattle.protocol.specs.Rivals.{Lock}
use Rattle.protocol.specs.Words.{greatest, is_among, is_who}
use Rattle.audit_words.specs.Happenings.{added, committing, deciding, happened, ring_after}
use Rattle.audit_words.specs.Seen.{Begun, Cut, Member, Seen, act_in, batch_in, has_its_place, was_formed, was_taken_along, was_given_up, is_live, is_one_of_these, nothing_seen}
use Rattle.audit_tale.specs.declared.tales.Tale.{Tale}
use Rattle.audit_tale.specs.declared.told.ActTies.{ActTies}
use Rattle.audit_tale.specs.declared.told.ActorTale.{ActorTale}
use Rattle.audit_tale.specs.declared.told.BatchWay.{BatchWay}
use Rattle.audit_tale.specs.declared.told.Told.{Told}
use Rattle.audit_tale.specs.Knows.{bid_number}
use Rattle.audit_tale.specs.Stands.{IsNamed, IsSound, IsSteadyPair, IsUntouched, Stands, TellsActor, TellsTies, TellsWay, actor_number, cuts_from, pair_behind}
use Rattle.audit_tale.proofs.Beginning.{at_other}
use Rattle.audit_tale.proofs.Drawing.{act_drawn}
use Rattle.audit_tale.proofs.WhoIsTold.{among_push}

-- ---- one of them, seen at another moment

actor_same : (s new : Seen) (a : ℕ) (x : ActorTale) → new.entries a ≡ s.entries a → new.placed a ≡ s.placed a → new.ran a ≡ s.ran a → new.kept a ≡ s.kept a
    → sets_of new.before (new.left_sealed a) ≡ sets_of s.before (s.left_sealed a)
    → sets_of new.before (filter (λ l. not l.reader) (new.left_sealed a)) ≡ sets_of s.before (filter (λ l. not l.reader) (s.left_sealed a)) → TellsActor s a x → TellsActor new a x
actor_same s new a x e p r k f g h = record {
  entries = h.entries ∙ sym e;
  placed = h.placed ∙ sym p;
  ran = h.ran ∙ sym r;
  kept = h.kept ∙ sym k;
  last = h.last ∙ ap greatest (sym k);
  floor = h.floor ∙ ap greatest (sym f);
  write_floor = h.write_floor ∙ ap greatest (sym g);
}

way_same : (s new : Seen) (k : ℕ) (x : BatchWay) → new.placed ≡ s.placed → new.cuts ≡ s.cuts → TellsWay s k x → TellsWay new k x
way_same s new k x p c h = record {
  came = λ a. h.came a ∙ ap (λ (f : ℕ → List Who). is_one_of_these (OfBatch k) (f a)) (sym p);
  is_cut = h.is_cut ∙ ap (was_taken_along k) (sym c);
  fall = h.fall ∙ ap (filter (λ d. d.first == k)) (sym c);
}

ties_same : (s new : Seen) (t : ℕ) (x : ActTies) → new.gains ≡ s.gains → new.left_sealed ≡ s.left_sealed → TellsTies s t x → TellsTies new t x
ties_same s new t x g l h = record {
  waiters = h.waiters ∙ ap (filter (λ p. p.ahead == t)) (sym g);
  left = λ a. h.left a ∙ ap (λ (f : ℕ → List Lock). list_any (λ y. y.tid == t) (f a)) (sym l);
}

-- ---- an event that leaves them

-- what they rest on is the same, and who is live was so before
pub record Leaves (s new : Seen) : Type 0 where
  pub next_bid : new.ring.next_bid ≡ s.ring.next_bid
  pub batches : new.batches ≡ s.batches
  pub acts : new.acts ≡ s.acts
  pub cuts : new.cuts ≡ s.cuts
  pub ran : new.ran ≡ s.ran
  pub placed : new.placed ≡ s.placed
  pub entries : new.entries ≡ s.entries
  pub kept : new.kept ≡ s.kept
  pub left_sealed : new.left_sealed ≡ s.left_sealed
  pub before : new.before ≡ s.before
  pub gains : new.gains ≡ s.gains
  pub live : (t : ℕ) → is_live new t ≡ true → is_live s t ≡ true

pub stands_left : (w : Text) (t : Told) (x : Tale) (s new : Seen) → Leaves s new → Stands w t s → Stands w (record t { tale = x }) new
stands_left w t x s new l h = record {
  count = h.count;
  actors = λ a y e. actor_same s new a y (ap (λ f. f a) l.entries) (ap (λ f. f a) l.placed) (ap (λ f. f a) l.ran) (ap (λ f. f a) l.kept)
      (ap (λ f. sets_of f (new.left_sealed a)) l.before ∙ ap (λ f. sets_of s.before (f a)) l.left_sealed)
      (ap (λ f. sets_of f (filter (λ z. not z.reader) (new.left_sealed a))) l.before ∙ ap (λ f. sets_of s.before (filter (λ z. not z.reader) (f a))) l.left_sealed) (h.actors a y e);
  nobody = λ a b. (ap (λ f. f a) l.entries ∙ (h.nobody a b).0, ap (λ f. f a) l.placed ∙ (h.nobody a b).1);
  batches = h.batches ∙ ap length (sym l.batches);
  ways = λ i y e. way_same s new (i + 1) y l.placed l.cuts (h.ways i y e);
  cuts = subst (λ (n : ℕ). AllByRecursion (λ c. (1 ≤ c.first) × (c.first < n)) new.cuts) (sym l.next_bid) (subst (AllByRecursion (λ c. (1 ≤ c.first) × (c.first < s.ring.next_bid))) (sym l.cuts) h.cuts);
  uncut = h.uncut ∙ (ap (λ (cs : List Cut). filter (λ k. not (was_taken_along k cs)) (map (λ b. b.bid) s.batches)) (sym l.cuts) ∙ ap (λ (bs : List Formed). filter (λ k. not (was_taken_along k new.cuts)) (map (λ b. b.bid) bs)) (sym l.batches));
  acts = h.acts ∙ ap length (sym l.acts);
  ties = λ i y b e f. ties_same s new b.tid y l.gains l.left_sealed (h.ties i y b e (ap (λ (xs : List Begun). slice_get xs i) (sym l.acts) ∙ f));
  going = λ i b e f. h.going i b (ap (λ (xs : List Begun). slice_get xs i) (sym l.acts) ∙ e) (l.live b.tid f);
}

pub submit_leaves : (reads : Tx → Bool) (w : Text) (n : ℕ) (s : Seen) → Leaves s (happened reads w (Submit n) s)
unfolding added ring_after
submit_leaves reads w n s = record { next_bid = refl; batches = refl; acts = refl; cuts = refl; ran = refl; placed = refl; entries = refl; kept = refl; left_sealed = refl; before = refl; gains = refl; live = λ t e. e }

pub pass_leaves : (reads : Tx → Bool) (w : Text) (c : ℕ) (s : Seen) → Leaves s (happened reads w (Pass c) s)
unfolding added ring_after
pass_leaves reads w c s = record { next_bid = refl; batches = refl; acts = refl; cuts = refl; ran = refl; placed = refl; entries = refl; kept = refl; left_sealed = refl; before = refl; gains = refl; live = λ t e. e }

-- who has no place had none before
live_before : (s : Seen) (ms : List Member) (t : ℕ) → is_live (record s { members = s.members ++ ms }) t ≡ true → is_live s t ≡ true
live_before s ms t e = by (was_given_up s.dooms t) (has_its_place (OfAct t) s.members) (has_its_place (OfAct t) ms) (ap (λ (b : Bool). not (was_given_up s.dooms t) && not b) (sym (list_any-append (λ m. is_who (OfAct t) m.who) s.members ms)) ∙ e)
  where
    by : (a b c : Bool) → (not a && not (b || c)) ≡ true → (not a && not b) ≡ true
    by true b c q = q
    by false true c q = q
    by false false c q = refl

members_leave : (s : Seen) (r : Ring) (ms : List Member) → r.next_bid ≡ s.ring.next_bid → Leaves s (record s { ring = r; members = s.members ++ ms })
members_leave s r ms e = record { next_bid = e; batches = refl; acts = refl; cuts = refl; ran = refl; placed = refl; entries = refl; kept = refl; left_sealed = refl; before = refl; gains = refl; live = λ t q. live_before s ms t q }

pub commit_leaves : (reads : Tx → Bool) (w : Text) (k : ℕ) (s : Seen) → Leaves s (happened reads w (Commit k) s)
unfolding added ring_after
commit_leaves reads w k s = members_leave s s.ring (committing k (batch_in k s.batches) s.members) refl

pub decide_leaves : (reads : Tx → Bool) (w : Text) (t : ℕ) (s : Seen) → Leaves s (happened reads w (Decide t) s)
unfolding added ring_after
decide_leaves reads w t s = members_leave s s.ring (deciding w (act_in t s.acts) s) refl

pub settle_leaves : (reads : Tx → Bool) (w : Text) (k : ℕ) (s : Seen) → Leaves s (happened reads w (Settle k) s)
unfolding added ring_after
settle_leaves reads w k s = by (was_formed k s && not (is_among k s.settled))
  where
    by : (b : Bool) → Leaves s (record (if b then record s { settled = s.settled ++ k ∷ [] } else s) { ring = s.ring })
    by true = record { next_bid = refl; batches = refl; acts = refl; cuts = refl; ran = refl; placed = refl; entries = refl; kept = refl; left_sealed = refl; before = refl; gains = refl; live = λ t e. e }
    by false = record { next_bid = refl; batches = refl; acts = refl; cuts = refl; ran = refl; placed = refl; entries = refl; kept = refl; left_sealed = refl; before = refl; gains = refl; live = λ t e. e }

-- ---- one more at the end

-- what is read there was there, or is the new one
read_pushed : {X : Type 0} (xs : List X) (y z : X) (i : ℕ) → slice_get (xs ++ y ∷ []) i ≡ Some z → (slice_get xs i ≡ Some z) ⊎ ((i ≡ length xs) × (z ≡ y))
read_pushed xs y z i e = by (three_ways i (length xs))
  where
    by : (i < length xs) ⊎ ((i ≡ length xs) ⊎ (length xs < i)) → (slice_get xs i ≡ Some z) ⊎ ((i ≡ length xs) × (z ≡ y))
    by (inl l) = inl (sym (get_left xs (y ∷ []) i l) ∙ e)
    by (inr (inl q)) = let same : Some y ≡ Some z = sym (get_behind xs (y ∷ []) 0 i (omega (arith, q))) ∙ e in inr (q, cc)
    by (inr (inr l)) = let none : slice_get (xs ++ y ∷ []) i ≡ None = slice_get_past (xs ++ y ∷ []) i (omega (arith, l, length-append xs (y ∷ []))) in absurd (cc)

-- ---- a batch begins

not_there : (s : Seen) (k : ℕ) (ws : List Who) → s.ring.next_bid ≤ k → AllByRecursion (IsNamed s) ws → is_one_of_these (OfBatch k) ws ≡ false
not_there s k [] l h = refl
not_there s k (who ∷ ws) l h = ap (λ (b : Bool). b || is_one_of_these (OfBatch k) ws) (other who h.0) ∙ not_there s k ws l h.1
  where
    other : (who : Who) → IsNamed s who → is_who (OfBatch k) who ≡ false
    other (OfBatch j) g = ne_eqb k j (λ q. omega (arith, q, l, g))
    other (OfAct u) g = refl

not_reached : (n k : ℕ) (cs : List Cut) → n ≤ k → AllByRecursion (λ c. c.upto < n) cs → was_taken_along k cs ≡ false
not_reached n k [] l h = refl
not_reached n k (c ∷ cs) l h = ap (λ (b : Bool). b || was_taken_along k cs) (beyond (nat_le c.first k) (nat_le k c.upto) (above k c.upto (omega (arith, l, h.0)))) ∙ not_reached n k cs l h.1
  where
    above : (a b : ℕ) → b < a → nat_le a b ≡ false
    above a b g = by (leb_tells a b)
      where
        by : ((nat_le a b ≡ true) × (a ≤ b)) ⊎ ((nat_le a b ≡ false) × (b < a)) → nat_le a b ≡ false
        by (inl q) = absurd (omega (arith, q.1, g))
        by (inr q) = q.0

    beyond : (a b : Bool) → b ≡ false → (a && b) ≡ false
    beyond true b q = q
    beyond false b q = refl

not_first : (n k : ℕ) (cs : List Cut) → n ≤ k → AllByRecursion (λ c. (1 ≤ c.first) × (c.first < n)) cs → filter (λ c. c.first == k) cs ≡ []
not_first n k [] l h = refl
not_first n k (c ∷ cs) l h = ap (λ (b : Bool). if b then c ∷ filter (λ d. d.first == k) cs else filter (λ d. d.first == k) cs) (ne_eqb c.first k (λ q. omega (arith, q, l, h.0.1))) ∙ not_first n k cs l h.1

-- what is kept beside the tale after a batch has begun
pub record AddsWay (k : Bid) (x : BatchWay) (old new : Told) : Type 0 where
  pub actors : new.actors.items ≡ old.actors.items
  pub ways : new.ways.items ≡ old.ways.items ++ x ∷ []
  pub ties : new.ties.items ≡ old.ties.items
  pub uncut : new.uncut.items ≡ old.uncut.items ++ k ∷ []
  pub going : new.going.items ≡ old.going.items

-- it came nowhere
pub record IsFreshWay (x : BatchWay) : Type 0 where
  pub came : x.came.items ≡ []
  pub is_cut : x.is_cut ≡ false
  pub fall : x.fall ≡ None

fresh_way : (s new : Seen) (k : ℕ) (x : BatchWay) → IsSound s → AllByRecursion (λ c. (1 ≤ c.first) × (c.first < s.ring.next_bid)) s.cuts → s.ring.next_bid ≤ k → new.placed ≡ s.placed → new.cuts ≡ s.cuts → IsFreshWay x → TellsWay new k x
fresh_way s new k x sound firsts l p c f = way_same s new k x p c (record {
  came = λ a. ap (λ xs. is_among a (map actor_number xs)) f.came ∙ sym (not_there s k (s.placed a) l (sound.placed.placed a));
  is_cut = f.is_cut ∙ sym (not_reached s.ring.next_bid k s.cuts l sound.placed.cuts);
  fall = ap (cuts_from k) f.fall ∙ sym (not_first s.ring.next_bid k s.cuts l firsts);
})

pub stands_formed : (w : Text) (t new : Told) (r : Ring) (f : Formed) (k : Bid) (x : BatchWay) (s : Seen) → IsSound s → r.next_bid ≡ s.ring.next_bid + 1 → f.bid ≡ s.ring.next_bid → k.0 ≡ s.ring.next_bid → IsFreshWay x → AddsWay k x t new → Stands w t s
    → Stands w new (record s { ring = r; batches = s.batches ++ f ∷ [] })
stands_formed w t new r f k x s sound n e g fresh c h = record {
  count = ap length c.actors ∙ h.count;
  actors = λ a y q. actor_same s after a y refl refl refl refl refl refl (h.actors a y (ap (λ ys. slice_get ys a) (sym c.actors) ∙ q));
  nobody = λ a l. h.nobody a (omega (arith, l, ap length c.actors));
  batches = omega (arith, ap length c.ways, length-append t.ways.items (x ∷ []), length-append s.batches (f ∷ []), h.batches);
  ways = λ i y q. way i y (read_pushed t.ways.items x y i (ap (λ ys. slice_get ys i) (sym c.ways) ∙ q));
  cuts = weaker (λ d. (1 ≤ d.first) × (d.first < s.ring.next_bid)) (λ d. (1 ≤ d.first) × (d.first < r.next_bid)) s.cuts (λ d q. (q.0, omega (arith, q.1, n))) h.cuts;
  uncut = ap (map bid_number) c.uncut ∙ (map_push bid_number t.uncut.items k ∙ (ap (λ ks. ks ++ k.0 ∷ []) h.uncut ∙ sym uncut_more));
  acts = ap length c.ties ∙ h.acts;
  ties = λ i y b q z. ties_same s after b.tid y refl refl (h.ties i y b (ap (λ ys. slice_get ys i) (sym c.ties) ∙ q) z);
  going = λ i b q z. ap (λ is. is_among i is) c.going ∙ h.going i b q z;
}
  where
    after : Seen
    after = record s { ring = r; batches = s.batches ++ f ∷ [] }

    way : (i : ℕ) (y : BatchWay) → (slice_get t.ways.items i ≡ Some y) ⊎ ((i ≡ length t.ways.items) × (y ≡ x)) → TellsWay after (i + 1) y
    way i y (inl q) = way_same s after (i + 1) y refl refl (h.ways i y q)
    way i y (inr q) = subst (TellsWay after (i + 1)) (sym q.1) (fresh_way s after (i + 1) x sound h.cuts (omega (arith, q.0, h.batches, sound.drawn.next_bid)) refl refl fresh)

    uncut_entries : filter (λ j. not (was_taken_along j s.cuts)) (f.bid ∷ []) ≡ k.0 ∷ []
    uncut_entries = ap (λ (b : Bool). if not b then f.bid ∷ [] else []) (not_reached s.ring.next_bid f.bid s.cuts (omega (arith, e)) sound.placed.cuts) ∙ ap (λ (j : ℕ). j ∷ []) (e ∙ sym g)

    uncut_more : filter (λ j. not (was_taken_along j s.cuts)) (map (λ b. b.bid) (s.batches ++ f ∷ [])) ≡ filter (λ j. not (was_taken_along j s.cuts)) (map (λ b. b.bid) s.batches) ++ k.0 ∷ []
    uncut_more =
        ap (filter (λ j. not (was_taken_along j s.cuts))) (map_push (λ (b : Formed). b.bid) s.batches f)
        ∙ (filter-append (λ j. not (was_taken_along j s.cuts)) (map (λ b. b.bid) s.batches) (f.bid ∷ []) ∙ ap (λ (js : List ℕ). filter (λ j. not (was_taken_along j s.cuts)) (map (λ b. b.bid) s.batches) ++ js) uncut_entries)

-- ---- an ACT begins

-- the sets of those that began earlier are left
sets_left : (before : ℕ → List ℕ) (n : ℕ) (new : List ℕ) (ls : List Lock) → AllByRecursion (λ l. l.tid < n) ls → sets_of (with_at n new before) ls ≡ sets_of before ls
sets_left before n new [] h = refl
sets_left before n new (l ∷ ls) h = ap (λ (ks : List ℕ). ks ++ sets_of (with_at n new before) ls) (at_other n l.tid new before (λ q. omega (arith, q, h.0))) ∙ ap (λ (ks : List ℕ). before l.tid ++ ks) (sets_left before n new ls h.1)

none_ahead : (n : ℕ) (ps : List Pair) → AllByRecursion (λ p. p.ahead < n) ps → filter (λ p. p.ahead == n) ps ≡ []
none_ahead n [] h = refl
none_ahead n (p ∷ ps) h = ap (λ (b : Bool). if b then p ∷ filter (λ q. q.ahead == n) ps else filter (λ q. q.ahead == n) ps) (ne_eqb p.ahead n (λ q. omega (arith, q, h.0))) ∙ none_ahead n ps h.1

none_left : (n : ℕ) (ls : List Lock) → AllByRecursion (λ l. l.tid < n) ls → list_any (λ l. l.tid == n) ls ≡ false
none_left n [] h = refl
none_left n (l ∷ ls) h = ap (λ (b : Bool). b || list_any (λ y. y.tid == n) ls) (ne_eqb l.tid n (λ q. omega (arith, q, h.0))) ∙ none_left n ls h.1

pub record AddsTies (at : ℕ) (x : ActTies) (old new : Told) : Type 0 where
  pub actors : new.actors.items ≡ old.actors.items
  pub ways : new.ways.items ≡ old.ways.items
  pub ties : new.ties.items ≡ old.ties.items ++ x ∷ []
  pub uncut : new.uncut.items ≡ old.uncut.items
  pub going : new.going.items ≡ old.going.items ++ at ∷ []

-- nobody stands behind it, and it left nothing
pub record AreFreshTies (x : ActTies) : Type 0 where
  pub waiters : x.waiters.items ≡ []
  pub left : x.left.items ≡ []

pub stands_admitted : (w : Text) (t new : Told) (r : Ring) (y : Begun) (x : ActTies) (before behind : List ℕ) (s : Seen) → IsSound s → r.next_bid ≡ s.ring.next_bid → y.tid ≡ s.ring.next_tid → AreFreshTies x → AddsTies (length s.acts) x t new → Stands w t s
    → Stands w new (record s { ring = r; acts = s.acts ++ y ∷ []; before = with_at y.tid before s.before; behind = with_at y.tid behind s.behind })
stands_admitted w t new r y x before behind s sound n e fresh c h = record {
  count = ap length c.actors ∙ h.count;
  actors = λ a z q. actor_same s after a z refl refl refl refl (sets_left s.before y.tid before (s.left_sealed a) (sealed a)) (sets_left s.before y.tid before (filter (λ l. not l.reader) (s.left_sealed a)) (all_filter (λ l. l.tid < y.tid) (λ l. not l.reader) (s.left_sealed a) (sealed a)))
      (h.actors a z (ap (λ zs. slice_get zs a) (sym c.actors) ∙ q));
  nobody = λ a l. h.nobody a (omega (arith, l, ap length c.actors));
  batches = ap length c.ways ∙ h.batches;
  ways = λ i z q. way_same s after (i + 1) z refl refl (h.ways i z (ap (λ zs. slice_get zs i) (sym c.ways) ∙ q));
  cuts = weaker (λ d. (1 ≤ d.first) × (d.first < s.ring.next_bid)) (λ d. (1 ≤ d.first) × (d.first < r.next_bid)) s.cuts (λ d q. (q.0, omega (arith, q.1, n))) h.cuts;
  uncut = ap (map bid_number) c.uncut ∙ h.uncut;
  acts = omega (arith, ap length c.ties, length-append t.ties.items (x ∷ []), length-append s.acts (y ∷ []), h.acts);
  ties = λ i z b q k. tie i z b (read_pushed t.ties.items x z i (ap (λ zs. slice_get zs i) (sym c.ties) ∙ q)) (read_pushed s.acts y b i k);
  going = λ i b q k. ap (λ is. is_among i is) c.going ∙ (among_push i (length s.acts) t.going.items ∙ gone i b (read_pushed s.acts y b i q) k);
}
  where
    after : Seen
    after = record s { ring = r; acts = s.acts ++ y ∷ []; before = with_at y.tid before s.before; behind = with_at y.tid behind s.behind }

    sealed : (a : ℕ) → AllByRecursion (λ l. l.tid < y.tid) (s.left_sealed a)
    sealed a = weaker _ (λ l. l.tid < y.tid) (s.left_sealed a) (λ l q. omega (arith, e, act_drawn l.tid s q.0 sound.drawn)) (sound.steady.sealed a)

    ahead : AllByRecursion (λ p. p.ahead < y.tid) s.gains
    ahead = weaker (IsSteadyPair s) (λ p. p.ahead < y.tid) s.gains (λ p q. omega (arith, e, act_drawn p.ahead s q.is_ahead sound.drawn)) sound.steady.pairs

    fresh_ties : TellsTies after y.tid x
    fresh_ties = record {
      waiters = ap (map (pair_behind y.tid)) fresh.waiters ∙ sym (none_ahead y.tid s.gains ahead);
      left = λ a. ap (λ xs. is_among a (map actor_number xs)) fresh.left ∙ sym (none_left y.tid (s.left_sealed a) (sealed a));
    }

    tie : (i : ℕ) (z : ActTies) (b : Begun) → (slice_get t.ties.items i ≡ Some z) ⊎ ((i ≡ length t.ties.items) × (z ≡ x)) → (slice_get s.acts i ≡ Some b) ⊎ ((i ≡ length s.acts) × (b ≡ y)) → TellsTies after b.tid z
    tie i z b (inl q) (inl k) = ties_same s after b.tid z refl refl (h.ties i z b q k)
    tie i z b (inr q) (inr k) = subst (λ (u : Begun). TellsTies after u.tid z) (sym k.1) (subst (TellsTies after y.tid) (sym q.1) fresh_ties)
    tie i z b (inl q) (inr k) = let none : slice_get t.ties.items i ≡ None = slice_get_past t.ties.items i (omega (arith, k.0, h.acts)) in absurd (cc)
    tie i z b (inr q) (inl k) = let none : slice_get s.acts i ≡ None = slice_get_past s.acts i (omega (arith, q.0, h.acts)) in absurd (cc)

    gone : (i : ℕ) (b : Begun) → (slice_get s.acts i ≡ Some b) ⊎ ((i ≡ length s.acts) × (b ≡ y)) → is_live s b.tid ≡ true → (is_among i t.going.items || (length s.acts == i)) ≡ true
    gone i b (inl q) k = ap (λ (a : Bool). a || (length s.acts == i)) (h.going i b q k)
    gone i b (inr q) k = ap (λ (a : Bool). is_among i t.going.items || a) (eq-eqb (length s.acts) i (sym q.0)) ∙ or_true (is_among i t.going.items)

-- ---- before the first event

untouched_tells : (w : Text) (a : ℕ) (x : ActorTale) → IsUntouched x → TellsActor (nothing_seen w) a x
untouched_tells w a x h = record {
  entries = ap (map who_meant) h.entries;
  placed = ap (map who_meant) h.placed;
  ran = ap (map tid_number) h.ran;
  kept = ap (map bid_number) h.kept;
  last = h.last;
  floor = h.floor;
  write_floor = h.write_floor;
}

pub nothing_stands : (w : Text) (t : Told) → length t.actors.items ≡ length w.opening.states → AllByRecursion IsUntouched t.actors.items → t.ways.items ≡ [] → t.ties.items ≡ [] → t.uncut.items ≡ [] → t.going.items ≡ [] → Stands w t (nothing_seen w)
nothing_stands w t many all ways ties uncut going = record {
  count = many;
  actors = λ a x e. untouched_tells w a x (each_found IsUntouched t.actors.items a x e all);
  nobody = λ a l. (refl, refl);
  batches = ap length ways;
  ways = λ i x e. let none : None ≡ Some x = ap (λ xs. slice_get xs i) (sym ways) ∙ e in absurd (cc);
  cuts = tt;
  uncut = ap (map bid_number) uncut;
  acts = ap length ties;
  ties = λ i x b e f. let none : None ≡ Some x = ap (λ xs. slice_get xs i) (sym ties) ∙ e in absurd (cc);
  going = λ i b e f. absurd (cc);
}
