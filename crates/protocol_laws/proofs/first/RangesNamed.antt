-- The numbers in the ring, the desk and the book are in range.
use Rattle.std.specs.Prelude.{◌≡◌, refl, ℕ, zero, suc, ◌+◌, ◌<◌, ◌≤◌, Bool, true, false, Option, Some, None, List, [], ◌∷◌, ◌++◌, length, map, slice_get, max}
use Rattle.std.specs.List.{AllByRecursion}
use Rattle.std.proofs.Common.{arith, sym, ap, subst, ◌∙◌}
use Rattle.std.proofs.lemmas.List.{length-replicate}
use Rattle.std.proofs.lemmas.Bool.{eqb-true, true≢false}
use Rattle.protocol.specs.Fixed.{Fixed}
use Rattle.protocol.specs.Rivals.{Lock}
use Rattle.protocol.specs.Parts.{Joined, Act, Pair, Book, Cell, Machine}
use Rattle.protocol.specs.Events.{Event, Form, Admit, Arrive, Ask, Take, Run, Send, End, Close, Complete, Abort, Rollback, Finish, Reply, Trim}
use Rattle.protocol.specs.Words.{below, holds, lock_of, floor_at}
use Rattle.protocol.specs.Numbers.{from}
use Rattle.protocol.specs.Spread.{raised, crossed_out}
use Rattle.protocol.specs.Conditions.{IsAllowed, conditions}
use Rattle.protocol.specs.Effects.{after, cell_at}
use Rattle.protocol.specs.Runs.{opening}
use Rattle.protocol.specs.Contents.{NextTid, NextBid, Lasts, Replied, Bids, BatchTids, BatchActors, ActTids, ActActors}
use Rattle.protocol.specs.OnRing.{next_actors}
use Rattle.protocol.specs.OnBook as book
use Rattle.protocol.specs.OnDesk as desk
use Rattle.protocol_laws.specs.Ranges.{IsWithin}
use Rattle.protocol_laws.proofs.first.Drawn.{numbered_tids, length_numbered}
use Rattle.protocol_laws.proofs.first.Frames.{frame}
use Rattle.protocol_laws.proofs.first.Times
use Rattle.protocol_laws.proofs.first.Lists.{all_filter, all_join, all_map, all_unmapped, weaker}
use Rattle.protocol_laws.proofs.first.EpochsKept.{length_lasts}

abbrev pub actors_of : List Joined → List ℕ
actors_of places = map (λ p. p.actor) places

-- ---- as many cells as actors

pub cells_stay : {C : Type 0} (w : Fixed C) (e : Event) (s : Machine C) → length (after w e s).cells ≡ length s.cells
unfolding after
cells_stay w (Arrive k a) s = Times.length_set s.cells a _
cells_stay w (Ask t a) s = Times.length_set s.cells a _
cells_stay w (Take t a) s = Times.length_set s.cells a _
cells_stay w (Run t a) s = Times.length_set s.cells a _
cells_stay w (Send t a) s = Times.length_set s.cells a _
cells_stay w (End t a) s = Times.length_set s.cells a _
cells_stay w (Close t a) s = Times.length_set s.cells a _
cells_stay w (Complete k a) s = Times.length_set s.cells a _
cells_stay w (Rollback a) s = Times.length_set s.cells a _
cells_stay w (Finish t a) s = Times.length_set s.cells a _
cells_stay w (Trim k a) s = Times.length_set s.cells a _
cells_stay w _ s = refl

-- ---- over lists

pub record AreNamed (tid tids bid bids actors lasts txs replied : ℕ) (batches : List ℕ) (pacts places : List (List ℕ)) (acts : List ℕ) (joined : List (List ℕ)) : Type 0 where
  pub tids_rose : tid ≤ tids
  pub bids_rose : bid ≤ bids
  pub lasts_are : lasts ≡ actors
  pub replied_are : replied ≡ txs
  pub batches_in : AllByRecursion (IsWithin bid bids) batches
  pub pacts_in : AllByRecursion (AllByRecursion (IsWithin tid tids)) pacts
  pub places_in : AllByRecursion (AllByRecursion (λ a. a < actors)) places
  pub acts_in : AllByRecursion (IsWithin tid tids) acts
  pub joined_in : AllByRecursion (AllByRecursion (λ a. a < actors)) joined

same : {tid nt nt' bid nb nb' actors l l' txs r r' : ℕ} {bs bs' as' as'' : List ℕ} {ps ps' qs qs' js js' : List (List ℕ)}
    → nt' ≡ nt → nb' ≡ nb → l' ≡ l → r' ≡ r → bs' ≡ bs → ps' ≡ ps → qs' ≡ qs → as'' ≡ as' → js' ≡ js
    → AreNamed tid nt bid nb actors l txs r bs ps qs as' js → AreNamed tid nt' bid nb' actors l' txs r' bs' ps' qs' as'' js'
same a b c d e f g i j h = rw (a, b, c, d, e, f, g, i, j) h

-- the upper end rises
pub higher : (low high more : ℕ) (ns : List ℕ) → AllByRecursion (IsWithin low high) ns → AllByRecursion (IsWithin low (high + more)) ns
higher low high more ns h = weaker _ _ ns (λ n g. record { reached = g.reached; below = omega (arith, g.below) }) h

higher_each : (low high more : ℕ) (nss : List (List ℕ)) → AllByRecursion (AllByRecursion (IsWithin low high)) nss → AllByRecursion (AllByRecursion (IsWithin low (high + more))) nss
higher_each low high more nss h = weaker _ _ nss (λ ns g. higher low high more ns g) h

all_from : (low high n k : ℕ) → low ≤ n → n + k ≤ high → AllByRecursion (IsWithin low high) (from n k)
all_from low high n zero l u = tt
all_from low high n (suc k) l u = (record { reached = l; below = omega (arith, u) }, all_from low high (n + 1) k (omega (arith, l)) (omega (arith, u)))

pub all_below : (n m : ℕ) → n ≤ m → AllByRecursion (λ a. a < m) (below n)
all_below zero m l = tt
all_below (suc n) m l = all_join _ (below n) (n ∷ []) (all_below n m (omega (arith, l))) (omega (arith, l), tt)

new_actors : (ks : List ℕ) (actors : ℕ) → AllByRecursion (λ a. a < actors) ks → AllByRecursion (λ a. a < actors) (map (λ p. p.actor) (map desk.new_declared ks))
new_actors [] actors h = tt
new_actors (a ∷ ks) actors h = (h.0, new_actors ks actors h.1)

form : (tid nt few bid nb actors l l' txs r : ℕ) (bs as' : List ℕ) (ps qs js : List (List ℕ)) (new : List ℕ) → l' ≡ l → AllByRecursion (λ a. a < actors) new
    → AreNamed tid nt bid nb actors l txs r bs ps qs as' js → AreNamed tid (nt + few) bid (nb + 1) actors l' txs r (bs ++ nb ∷ []) (ps ++ from nt few ∷ []) (qs ++ new ∷ []) as' js
form tid nt few bid nb actors l l' txs r bs as' ps qs js new e g h = record {
  tids_rose = omega (arith, h.tids_rose);
  bids_rose = omega (arith, h.bids_rose);
  lasts_are = e ∙ h.lasts_are;
  replied_are = h.replied_are;
  batches_in = all_join _ bs (nb ∷ []) (higher bid nb 1 bs h.batches_in) (record { reached = h.bids_rose; below = omega arith }, tt);
  pacts_in = all_join _ ps (from nt few ∷ []) (higher_each tid nt few ps h.pacts_in) (all_from tid (nt + few) nt few h.tids_rose (omega arith), tt);
  places_in = all_join _ qs (new ∷ []) h.places_in (g, tt);
  acts_in = higher tid nt few as' h.acts_in;
  joined_in = h.joined_in;
}

admit : (tid nt bid nb actors l txs r : ℕ) (bs as' : List ℕ) (ps qs js : List (List ℕ))
    → AreNamed tid nt bid nb actors l txs r bs ps qs as' js → AreNamed tid (nt + 1) bid nb actors l txs r bs ps qs (as' ++ nt ∷ []) (js ++ [] ∷ [])
admit tid nt bid nb actors l txs r bs as' ps qs js h = record {
  tids_rose = omega (arith, h.tids_rose);
  bids_rose = h.bids_rose;
  lasts_are = h.lasts_are;
  replied_are = h.replied_are;
  batches_in = h.batches_in;
  pacts_in = higher_each tid nt 1 ps h.pacts_in;
  places_in = h.places_in;
  acts_in = all_join _ as' (nt ∷ []) (higher tid nt 1 as' h.acts_in) (record { reached = h.tids_rose; below = omega arith }, tt);
  joined_in = all_join _ js ([] ∷ []) h.joined_in (tt, tt);
}

-- ---- an ACT joins an actor

abbrev pub JoinedIn : ℕ → Act → Type 0
JoinedIn actors x = AllByRecursion (λ a. a < actors) (actors_of x.places)

joins : (a m actors : ℕ) (b : Bool) (x : Act) → a < actors → JoinedIn actors x → JoinedIn actors (book.change_if b (book.joins a m) x)
joins a m actors true x l h = subst (AllByRecursion (λ a. a < actors)) (sym (Times.map_join (λ p. p.actor) x.places _)) (all_join _ (actors_of x.places) (a ∷ []) h (l, tt))
joins a m actors false x l h = h

all_raised : (actors : ℕ) (pairs : List Pair) (xs : List Act) → AllByRecursion (JoinedIn actors) xs → AllByRecursion (JoinedIn actors) (raised pairs xs)
all_raised actors pairs [] h = tt
all_raised actors pairs (x ∷ xs) h = (h.0, all_raised actors pairs xs h.1)

dies : (actors : ℕ) (b : Bool) (f : Act → Act) (x : Act) → ((y : Act) → (f y).places ≡ y.places) → JoinedIn actors x → JoinedIn actors (book.change_if b f x)
dies actors true f x e h = subst (λ ps. AllByRecursion (λ a. a < actors) (actors_of ps)) (sym (e x)) h
dies actors false f x e h = h

all_asked : (actors : ℕ) (o : Option ℕ) (group : List Lock) (t a m : ℕ) (b : Book) → a < actors → AllByRecursion (JoinedIn actors) b.acts → AllByRecursion (JoinedIn actors) (book.asked_acts o group t a m b)
all_asked actors (Some older) group t a m b l h = all_map _ _ _ b.acts (λ x g. dies actors _ _ x (λ y. refl) g) h
all_asked actors None group t a m b l h =
    all_map _ _ (crossed_out a) _ (λ x g. g) (all_raised actors _ _ (all_map _ _ _ b.acts (λ x g. joins a _ actors _ x l g) h))

exists : {C : Type 0} (p : Cell C → Bool) (xs : List (Cell C)) (a : ℕ) → holds p (slice_get xs a) ≡ true → a < length xs
exists p [] a h = absurd (true≢false (sym h))
exists p (c ∷ xs) zero h = omega arith
exists p (c ∷ xs) (suc a) h = omega (arith, exists p xs a h)

-- ---- over states

pub Named : {C : Type 0} → Fixed C → Machine C → Type 0
Named w s = AreNamed w.text.opening.next_tid s.ring.next_tid w.text.opening.next_bid s.ring.next_bid (length w.text.opening.states) (length s.ring.lasts) (length w.text.txs) (length s.desk.replied)
    (map (λ b. b.bid) s.desk.batches) (map (λ b. map (λ p. p.tid) b.pacts) s.desk.batches) (map (λ b. map (λ p. p.actor) b.places) s.desk.batches)
    (map (λ x. x.tid) s.book.acts) (map (λ x. map (λ p. p.actor) x.places) s.book.acts)

-- the actors of the batch that is formed next
pub next_exist : {C : Type 0} (w : Fixed C) (s : Machine C) → Named w s → AllByRecursion (λ a. a < length w.text.opening.states) (next_actors w.text s.ring)
unfolding Named
next_exist w s h = all_filter _ _ (below (length s.ring.lasts)) (all_below (length s.ring.lasts) (length w.text.opening.states) (omega (arith, h.lasts_are)))

asked : {C : Type 0} (w : Fixed C) (t a : ℕ) (s : Machine C) → IsAllowed w (Ask t a) s → length s.cells ≡ length w.text.opening.states → Named w s
    → AllByRecursion (AllByRecursion (λ b. b < length w.text.opening.states)) (map (λ x. actors_of x.places) (after w (Ask t a) s).book.acts)
unfolding Named conditions after
asked w t a s ok n h =
    let actors = length w.text.opening.states in
    let joined : AllByRecursion (JoinedIn actors) s.book.acts = all_unmapped (JoinedIn actors) _ (λ x. actors_of x.places) s.book.acts (λ x g. g) h.joined_in in
    let within : a < actors = omega (arith, n, exists _ s.cells a ok.1.1.0) in
    all_map (JoinedIn actors) _ (λ x. actors_of x.places) _ (λ x g. g)
    (all_asked actors (book.in_the_way (lock_of t s.book.acts) (cell_at s a).entries) (book.met (lock_of t s.book.acts) (cell_at s a).entries) t a (max (cell_at s a).last (floor_at t s.book.acts (cell_at s a))) s.book within joined)

pub kept : {C : Type 0} (w : Fixed C) (e : Event) (s : Machine C) → IsAllowed w e s → length s.cells ≡ length w.text.opening.states → Named w s → Named w (after w e s)
unfolding Named conditions after
kept w (Form k) s ok n h =
    rw (Times.map_join (λ b. b.bid) s.desk.batches _, Times.map_join (λ b. map (λ p. p.tid) b.pacts) s.desk.batches _, Times.map_join (λ b. map (λ p. p.actor) b.places) s.desk.batches _, eqb-true k s.ring.next_bid ok.0, numbered_tids s.ring.next_tid _, length_numbered s.ring.next_tid _)
    (form _ s.ring.next_tid _ _ s.ring.next_bid _ (length s.ring.lasts) _ _ _ _ _ _ _ _ _ (length_lasts _ (next_actors w.text s.ring) s.ring.lasts) (new_actors (next_actors w.text s.ring) _ (next_exist w s h)) h)
kept w (Admit t) s ok n h =
    rw (Times.map_join (λ x. x.tid) s.book.acts _, Times.map_join (λ x. map (λ p. p.actor) x.places) s.book.acts _, eqb-true t s.ring.next_tid ok.0)
    (admit _ s.ring.next_tid _ _ _ _ _ _ _ _ _ _ _ h)
kept w (Ask t a) s ok n h = record {
  tids_rose = h.tids_rose;
  bids_rose = h.bids_rose;
  lasts_are = h.lasts_are;
  replied_are = h.replied_are;
  batches_in = h.batches_in;
  pacts_in = h.pacts_in;
  places_in = h.places_in;
  acts_in = subst (AllByRecursion (IsWithin w.text.opening.next_tid s.ring.next_tid)) (sym (frame w (Ask t a) s ActTids refl)) h.acts_in;
  joined_in = asked w t a s ok n h;
}
kept w (Abort k) s ok n h = same (frame w (Abort k) s NextTid refl) (frame w (Abort k) s NextBid refl) (length-replicate (length s.ring.lasts) 0) (ap length (frame w (Abort k) s Replied refl)) (frame w (Abort k) s Bids refl) (frame w (Abort k) s BatchTids refl) (frame w (Abort k) s BatchActors refl) (frame w (Abort k) s ActTids refl) (frame w (Abort k) s ActActors refl) h
kept w (Reply m) s ok n h = same (frame w (Reply m) s NextTid refl) (frame w (Reply m) s NextBid refl) (ap length (frame w (Reply m) s Lasts refl)) (Times.length_set s.desk.replied m true) (frame w (Reply m) s Bids refl) (frame w (Reply m) s BatchTids refl) (frame w (Reply m) s BatchActors refl) (frame w (Reply m) s ActTids refl) (frame w (Reply m) s ActActors refl) h
kept w e s ok n h = same (frame w e s NextTid refl) (frame w e s NextBid refl) (ap length (frame w e s Lasts refl)) (ap length (frame w e s Replied refl)) (frame w e s Bids refl) (frame w e s BatchTids refl) (frame w e s BatchActors refl) (frame w e s ActTids refl) (frame w e s ActActors refl) h

pub opened : {C : Type 0} (w : Fixed C) → Named w (opening w)
unfolding Named
opened w = record {
  tids_rose = omega arith;
  bids_rose = omega arith;
  lasts_are = length-replicate (length w.text.opening.states) 0;
  replied_are = length-replicate (length w.text.txs) false;
  batches_in = tt;
  pacts_in = tt;
  places_in = tt;
  acts_in = tt;
  joined_in = tt;
}

-- ---- for other files

pub tids_are : {C : Type 0} (w : Fixed C) (s : Machine C) → Named w s → w.text.opening.next_tid ≤ s.ring.next_tid
unfolding Named
tids_are w s h = h.tids_rose

pub bids_are : {C : Type 0} (w : Fixed C) (s : Machine C) → Named w s → w.text.opening.next_bid ≤ s.ring.next_bid
unfolding Named
bids_are w s h = h.bids_rose

pub named_is : {C : Type 0} (w : Fixed C) (s : Machine C) → Named w s
    → AreNamed w.text.opening.next_tid s.ring.next_tid w.text.opening.next_bid s.ring.next_bid (length w.text.opening.states) (length s.ring.lasts) (length w.text.txs) (length s.desk.replied)
    (map (λ b. b.bid) s.desk.batches) (map (λ b. map (λ p. p.tid) b.pacts) s.desk.batches) (map (λ b. map (λ p. p.actor) b.places) s.desk.batches)
    (map (λ x. x.tid) s.book.acts) (map (λ x. map (λ p. p.actor) x.places) s.book.acts)
unfolding Named
named_is w s h = h
