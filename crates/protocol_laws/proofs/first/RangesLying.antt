-- What lies in the post and in the cells is in range.
use Rattle.std.specs.Prelude.{◌≡◌, refl, ℕ, ◌+◌, ◌<◌, ◌≤◌, ◌==◌, Bool, true, false, ◌&&◌, if◌then◌else◌, Option, Some, None, List, [], ◌∷◌, ◌++◌, length, map, filter, take, slice_set}
use Rattle.std.specs.List.{AllByRecursion}
use Rattle.std.proofs.Common.{arith, subst}
use Rattle.std.proofs.lemmas.Bool.{eqb-true, and_parts}
use Rattle.snap_base.specs.declared.transactions.State.{State}
use Rattle.protocol.specs.Fixed.{Fixed, Code, Next, Go, Ended, base}
use Rattle.protocol.specs.Rivals.{Lock}
use Rattle.protocol.specs.Parts.{Cascade, Who, OfBatch, SubBatch, ControlMessage, Pact, Entry, BatchEntry, ActEntry, Waiting, Outcome, Cell, Machine}
use Rattle.protocol.specs.Events.{Event, Form, Admit, Arrive, Ask, Take, Run, Send, End, Close, Complete, Rollback, DropSub, DropControl, Finish, Trim}
use Rattle.protocol.specs.Words.{is_aborted, sub_of, control_of, waiting_of, outcome_of, batches_on, who_on, lock_of}
use Rattle.protocol.specs.Conditions.{IsAllowed, conditions, queue}
use Rattle.protocol.specs.Effects.{after, cell_at, no_cell}
use Rattle.protocol.specs.Runs.{opening, new_cell}
use Rattle.protocol.specs.OnRing.{numbered, next_pacts, next_actors}
use Rattle.protocol.specs.OnPost as post
use Rattle.protocol.specs.OnBook as book
use Rattle.protocol.specs.OnCell as cell
use Rattle.protocol_laws.specs.Ranges.{IsWithin}
use Rattle.protocol_laws.proofs.first.RangesNamed.{Named, higher, next_exist, tids_are, bids_are}
use Rattle.protocol_laws.proofs.first.Drawn.{length_numbered}
use Rattle.protocol_laws.proofs.first.Lists.{all_filter, all_found, all_get, all_join, all_map, all_set, weaker}

-- ---- what lies where

pub record SubLies (bid bids actors : ℕ) (m : SubBatch) : Type 0 where
  pub bid_in : IsWithin bid bids m.bid
  pub actor_in : m.actor < actors

pub record CellLies {C : Type 0} (tid tids bid bids : ℕ) (c : Cell C) : Type 0 where
  pub inbox : AllByRecursion (λ x. IsWithin tid tids x.tid) c.inbox
  pub outbox : AllByRecursion (λ x. IsWithin tid tids x.tid) c.outbox
  pub batches : AllByRecursion (IsWithin bid bids) (batches_on c.entries)

pub record AllLie {C : Type 0} (tid tids bid bids actors : ℕ) (subs : List SubBatch) (controls : List (ControlMessage C)) (cells : List (Cell C)) : Type 0 where
  pub subs_lie : AllByRecursion (SubLies bid bids actors) subs
  pub controls_lie : AllByRecursion (λ m. IsWithin tid tids m.tid) controls
  pub cells_lie : AllByRecursion (CellLies tid tids bid bids) cells

-- ---- batches on a schedule

on_more : (P : ℕ → Type 0) (xs ys : List Entry) → AllByRecursion P (batches_on xs) → AllByRecursion P (batches_on ys) → AllByRecursion P (batches_on (xs ++ ys))
on_more P [] ys h g = g
on_more P (BatchEntry b ∷ xs) ys h g = (h.0, on_more P xs ys h.1 g)
on_more P (ActEntry x ∷ xs) ys h g = on_more P xs ys h g

on_done : (P : ℕ → Type 0) (t : ℕ) (es : List Entry) → AllByRecursion P (batches_on es) → AllByRecursion P (batches_on (map (cell.done_in t) es))
on_done P t [] h = tt
on_done P t (BatchEntry b ∷ es) h = (h.0, on_done P t es h.1)
on_done P t (ActEntry x ∷ es) h = on_done P t es h

on_complete : (P : ℕ → Type 0) (k : ℕ) (es : List Entry) → AllByRecursion P (batches_on es) → AllByRecursion P (batches_on (map (cell.complete_in k) es))
on_complete P k [] h = tt
on_complete P k (BatchEntry b ∷ es) h = (h.0, on_complete P k es h.1)
on_complete P k (ActEntry x ∷ es) h = on_complete P k es h

pub on_filter : (P : ℕ → Type 0) (p : Entry → Bool) (es : List Entry) → AllByRecursion P (batches_on es) → AllByRecursion P (batches_on (filter p es))
on_filter P p [] h = tt
on_filter P p (BatchEntry b ∷ es) h = by (p (BatchEntry b)) (on_filter P p es h.1)
  where
    by : (q : Bool) → AllByRecursion P (batches_on (filter p es)) → AllByRecursion P (batches_on (if q then BatchEntry b ∷ filter p es else filter p es))
    by true g = (h.0, g)
    by false g = g
on_filter P p (ActEntry x ∷ es) h = by (p (ActEntry x)) (on_filter P p es h)
  where
    by : (q : Bool) → AllByRecursion P (batches_on (filter p es)) → AllByRecursion P (batches_on (if q then ActEntry x ∷ filter p es else filter p es))
    by true g = g
    by false g = g

on_staying : (P : ℕ → Type 0) (cs : List Cascade) (es : List Entry) → AllByRecursion P (batches_on es) → AllByRecursion P (batches_on (cell.staying cs es))
on_staying P cs [] h = tt
on_staying P cs (BatchEntry b ∷ es) h = by (is_aborted b.bid cs) (on_staying P cs es h.1)
  where
    by : (q : Bool) → AllByRecursion P (batches_on (cell.staying cs es)) → AllByRecursion P (batches_on (if q then [] else BatchEntry b ∷ cell.staying cs es))
    by true g = tt
    by false g = (h.0, g)
on_staying P cs (ActEntry x ∷ es) h = on_staying P cs es h

-- ---- what is found

named_sub : (bid bids actors k a : ℕ) (subs : List SubBatch) (m : SubBatch) → AllByRecursion (SubLies bid bids actors) subs → sub_of k a subs ≡ Some m → IsWithin bid bids k
named_sub bid bids actors k a subs m h e =
    let f = all_found (SubLies bid bids actors) (λ m. (m.bid == k) && (m.actor == a)) subs m h e in
    subst (IsWithin bid bids) (eqb-true m.bid k (and_parts (m.bid == k) (m.actor == a) f.1).0) f.0.bid_in

batch_placed : (bid bids actors k a : ℕ) (subs : List SubBatch) (o : Option SubBatch) → AllByRecursion (SubLies bid bids actors) subs → sub_of k a subs ≡ o → AllByRecursion (IsWithin bid bids) (batches_on (cell.batch_entries k o))
batch_placed bid bids actors k a subs None h e = tt
batch_placed bid bids actors k a subs (Some m) h e = (named_sub bid bids actors k a subs m h e, tt)

came : {C : Type 0} (tid tids t : ℕ) (controls : List (ControlMessage C)) (o : Option (ControlMessage C)) → AllByRecursion (λ m. IsWithin tid tids m.tid) controls → control_of t controls ≡ o → AllByRecursion (λ x. IsWithin tid tids x.tid) (cell.arrived o)
came tid tids t controls None h e = tt
came tid tids t controls (Some m) h e = ((all_found (λ m. IsWithin tid tids m.tid) (λ m. m.tid == t) controls m h e).0, tt)

came_or_not : {C : Type 0} (tid tids t : ℕ) (older : Option ℕ) (controls : List (ControlMessage C)) → AllByRecursion (λ m. IsWithin tid tids m.tid) controls → AllByRecursion (λ x. IsWithin tid tids x.tid) (cell.where_placed older (control_of t controls))
came_or_not tid tids t None controls h = came tid tids t controls (control_of t controls) h refl
came_or_not tid tids t (Some u) controls h = tt

ran : {C : Type 0} (tid tids t : ℕ) (code : Code C) (s : State) (inbox : List (Waiting C)) (o : Option (Waiting C)) → AllByRecursion (λ x. IsWithin tid tids x.tid) inbox → waiting_of t inbox ≡ o → AllByRecursion (λ x. IsWithin tid tids x.tid) (cell.outcomes t (cell.sliced code s o))
ran tid tids t code s inbox None h e = tt
ran tid tids t code s inbox (Some x) h e =
    let f = all_found (λ x. IsWithin tid tids x.tid) (λ x. x.tid == t) inbox x h e in
    (subst (IsWithin tid tids) (eqb-true x.tid t f.1) f.0, tt)

goes : {C : Type 0} (tid tids t : ℕ) (who : Who) (n : Next C) → IsWithin tid tids t → AllByRecursion (λ m. IsWithin tid tids m.tid) (post.going_on who t n)
goes tid tids t who (Go b control) h = (h, tt)
goes tid tids t who (Ended r) h = tt

went : {C : Type 0} (tid tids t : ℕ) (who : Who) (outbox : List (Outcome C)) (o : Option (Outcome C)) → AllByRecursion (λ x. IsWithin tid tids x.tid) outbox → outcome_of t outbox ≡ o → AllByRecursion (λ m. IsWithin tid tids m.tid) (post.handed_on who o)
went tid tids t who outbox None h e = tt
went tid tids t who outbox (Some x) h e = goes tid tids x.tid who x.next (all_found (λ x. IsWithin tid tids x.tid) (λ x. x.tid == t) outbox x h e).0

-- ---- cells

fewer : {C : Type 0} (tid tids bid bids : ℕ) (c d : Cell C) (p : Waiting C → Bool) (q : Outcome C → Bool) → d.inbox ≡ filter p c.inbox → d.outbox ≡ filter q c.outbox → AllByRecursion (IsWithin bid bids) (batches_on d.entries) → CellLies tid tids bid bids c → CellLies tid tids bid bids d
fewer tid tids bid bids c d p q e f g h = record {
  inbox = rw e (all_filter _ p c.inbox h.inbox);
  outbox = rw f (all_filter _ q c.outbox h.outbox);
  batches = g;
}

asked_on : (bid bids : ℕ) (t : Lock) (o : Option ℕ) (es : List Entry) → AllByRecursion (IsWithin bid bids) (batches_on es) → AllByRecursion (IsWithin bid bids) (batches_on (es ++ cell.act_entries t o))
asked_on bid bids t None es h = on_more _ es (cell.act_entries t None) h tt
asked_on bid bids t (Some older) es h = on_more _ es [] h tt

run_on : {C : Type 0} (bid bids t a : ℕ) (code : Code C) (c : Cell C) → AllByRecursion (IsWithin bid bids) (batches_on c.entries) → AllByRecursion (IsWithin bid bids) (batches_on (cell.slice_run code t a c).entries)
run_on bid bids t a code c h = by (cell.is_done_after code a (cell.slice_of code t c))
  where
    by : (b : Bool) → AllByRecursion (IsWithin bid bids) (batches_on (if b then map (cell.done_in t) c.entries else c.entries))
    by true = on_done _ t c.entries h
    by false = h

higher_cell : {C : Type 0} (tid tids few bid bids more : ℕ) (c : Cell C) → CellLies tid tids bid bids c → CellLies tid (tids + few) bid (bids + more) c
higher_cell tid tids few bid bids more c h = record {
  inbox = weaker _ _ c.inbox (λ x g. record { reached = g.reached; below = omega (arith, g.below) }) h.inbox;
  outbox = weaker _ _ c.outbox (λ x g. record { reached = g.reached; below = omega (arith, g.below) }) h.outbox;
  batches = higher bid bids more (batches_on c.entries) h.batches;
}

-- ---- over states

pub Lying : {C : Type 0} → Fixed C → Machine C → Type 0
Lying w s = AllLie w.text.opening.next_tid s.ring.next_tid w.text.opening.next_bid s.ring.next_bid (length w.text.opening.states) s.post.subs s.post.controls s.cells

no_cell_lies : (C : Type 0) (tid tids bid bids : ℕ) → CellLies {C = C} tid tids bid bids no_cell
no_cell_lies C tid tids bid bids = record { inbox = tt; outbox = tt; batches = tt }

-- an event at one actor
at_actor : {C : Type 0} (w : Fixed C) (s : Machine C) (a : ℕ) (subs : List SubBatch) (controls : List (ControlMessage C)) (c : Cell C) → AllByRecursion (SubLies w.text.opening.next_bid s.ring.next_bid (length w.text.opening.states)) subs → AllByRecursion (λ m. IsWithin w.text.opening.next_tid s.ring.next_tid m.tid) controls
    → (CellLies w.text.opening.next_tid s.ring.next_tid w.text.opening.next_bid s.ring.next_bid (cell_at s a) → CellLies w.text.opening.next_tid s.ring.next_tid w.text.opening.next_bid s.ring.next_bid c)
    → AllByRecursion (CellLies w.text.opening.next_tid s.ring.next_tid w.text.opening.next_bid s.ring.next_bid) s.cells
    → AllLie w.text.opening.next_tid s.ring.next_tid w.text.opening.next_bid s.ring.next_bid (length w.text.opening.states) subs controls (slice_set s.cells a c)
at_actor {C} w s a subs controls c f g k h = record {
  subs_lie = f;
  controls_lie = g;
  cells_lie = all_set _ s.cells a c (k (all_get _ s.cells a no_cell (no_cell_lies C _ _ _ _) h)) h;
}

all_numbered : (low high t : ℕ) (ns : List ℕ) → low ≤ t → t + length ns ≤ high → AllByRecursion (λ p. IsWithin low high p.tid) (numbered t ns)
all_numbered low high t [] l u = tt
all_numbered low high t (n ∷ ns) l u = (record { reached = l; below = omega (arith, u) }, all_numbered low high (t + 1) ns (omega (arith, l)) (omega (arith, u)))

formed : {C : Type 0} (w : Fixed C) (s : Machine C) (k few : ℕ) (ps : List Pact) → k ≡ s.ring.next_bid → Named w s → AllByRecursion (λ p. IsWithin w.text.opening.next_tid (s.ring.next_tid + few) p.tid) ps → Lying w s
    → AllLie w.text.opening.next_tid (s.ring.next_tid + few) w.text.opening.next_bid (s.ring.next_bid + 1) (length w.text.opening.states)
    (s.post.subs ++ map (Rattle.protocol.specs.OnRing.first_sub w.text k s.ring) (next_actors w.text s.ring)) (s.post.controls ++ map (λ q. post.first_control w (OfBatch k) q.tid q.tx) ps) s.cells
unfolding Lying
formed w s k few ps e n new h = record {
  subs_lie = all_join _ s.post.subs _
      (weaker _ _ s.post.subs (λ m g. record { bid_in = record { reached = g.bid_in.reached; below = omega (arith, g.bid_in.below) }; actor_in = g.actor_in }) h.subs_lie)
      (all_map _ _ (Rattle.protocol.specs.OnRing.first_sub w.text k s.ring) (next_actors w.text s.ring) (λ a g. record { bid_in = record { reached = omega (arith, e, bids_are w s n); below = omega (arith, e) }; actor_in = g }) (next_exist w s n));
  controls_lie = all_join _ s.post.controls _
      (weaker _ _ s.post.controls (λ m g. record { reached = g.reached; below = omega (arith, g.below) }) h.controls_lie)
      (all_map _ _ _ ps (λ p g. g) new);
  cells_lie = weaker _ _ s.cells (λ c g. higher_cell _ _ few _ _ 1 c g) h.cells_lie;
}

pub kept : {C : Type 0} (w : Fixed C) (e : Event) (s : Machine C) → IsAllowed w e s → Named w s → Lying w s → Lying w (after w e s)
unfolding Lying conditions after
kept w (Form k) s ok n h =
    formed w s k (length (next_pacts w.text s.ring)) (next_pacts w.text s.ring) (eqb-true k s.ring.next_bid ok.0) n
    (all_numbered w.text.opening.next_tid (s.ring.next_tid + length (next_pacts w.text s.ring)) s.ring.next_tid (take w.text.batch (queue s.ring.pacts s.ring.holder)) (tids_are w s n) (omega (arith, length_numbered s.ring.next_tid (take w.text.batch (queue s.ring.pacts s.ring.holder))))) h
kept {C} w (Admit t) s ok n h = record {
  subs_lie = h.subs_lie;
  controls_lie = all_join _ s.post.controls _
      (weaker _ _ s.post.controls (λ m g. record { reached = g.reached; below = omega (arith, g.below) }) h.controls_lie)
      (record { reached = omega (arith, eqb-true t s.ring.next_tid ok.0, tids_are w s n); below = omega (arith, eqb-true t s.ring.next_tid ok.0) }, tt);
  cells_lie = weaker _ _ s.cells (λ c g. admitted c g) h.cells_lie;
}
  where
    admitted : (c : Cell C) → CellLies w.text.opening.next_tid s.ring.next_tid w.text.opening.next_bid s.ring.next_bid c → CellLies w.text.opening.next_tid (s.ring.next_tid + 1) w.text.opening.next_bid s.ring.next_bid c
    admitted c g = record {
      inbox = weaker _ _ c.inbox (λ x i. record { reached = i.reached; below = omega (arith, i.below) }) g.inbox;
      outbox = weaker _ _ c.outbox (λ x i. record { reached = i.reached; below = omega (arith, i.below) }) g.outbox;
      batches = g.batches;
    }
kept w (Arrive k a) s ok n h = at_actor w s a _ _ _ (all_filter _ _ s.post.subs h.subs_lie) h.controls_lie
    (λ g. record { inbox = g.inbox; outbox = g.outbox; batches = on_more _ (cell_at s a).entries _ g.batches (batch_placed _ _ _ k a s.post.subs (sub_of k a s.post.subs) h.subs_lie refl) }) h.cells_lie
kept w (Ask t a) s ok n h = at_actor w s a _ _ _ h.subs_lie (all_filter _ _ s.post.controls h.controls_lie)
    (λ g. record {
      inbox = all_join _ (cell_at s a).inbox _ g.inbox (came_or_not _ _ t (book.in_the_way (lock_of t s.book.acts) (cell_at s a).entries) s.post.controls h.controls_lie);
      outbox = g.outbox;
      batches = asked_on _ _ (lock_of t s.book.acts) (book.in_the_way (lock_of t s.book.acts) (cell_at s a).entries) (cell_at s a).entries g.batches;
    }) h.cells_lie
kept w (Take t a) s ok n h = at_actor w s a _ _ _ h.subs_lie (all_filter _ _ s.post.controls h.controls_lie)
    (λ g. record { inbox = all_join _ (cell_at s a).inbox _ g.inbox (came _ _ t s.post.controls (control_of t s.post.controls) h.controls_lie refl); outbox = g.outbox; batches = g.batches }) h.cells_lie
kept w (Run t a) s ok n h = at_actor w s a _ _ _ h.subs_lie h.controls_lie
    (λ g. record {
      inbox = all_filter _ _ (cell_at s a).inbox g.inbox;
      outbox = all_join _ (cell_at s a).outbox _ g.outbox (ran _ _ t w.code (cell_at s a).state (cell_at s a).inbox (waiting_of t (cell_at s a).inbox) g.inbox refl);
      batches = run_on _ _ t a w.code (cell_at s a) g.batches;
    }) h.cells_lie
kept {C} w (Send t a) s ok n h = at_actor w s a _ _ _ h.subs_lie
    (all_join _ s.post.controls _ h.controls_lie (went _ _ t (who_on t (cell_at s a).entries) (cell_at s a).outbox (outcome_of t (cell_at s a).outbox) (all_get (CellLies w.text.opening.next_tid s.ring.next_tid w.text.opening.next_bid s.ring.next_bid) s.cells a no_cell (no_cell_lies C w.text.opening.next_tid s.ring.next_tid w.text.opening.next_bid s.ring.next_bid) h.cells_lie).outbox refl))
    (λ g. record { inbox = g.inbox; outbox = all_filter _ _ (cell_at s a).outbox g.outbox; batches = g.batches }) h.cells_lie
kept w (End t a) s ok n h = at_actor w s a _ _ _ h.subs_lie h.controls_lie (λ g. record { inbox = g.inbox; outbox = all_filter _ _ (cell_at s a).outbox g.outbox; batches = g.batches }) h.cells_lie
kept w (Close t a) s ok n h = at_actor w s a _ _ _ h.subs_lie h.controls_lie (λ g. record { inbox = g.inbox; outbox = g.outbox; batches = on_done _ t (cell_at s a).entries g.batches }) h.cells_lie
kept w (Complete k a) s ok n h = at_actor w s a _ _ _ h.subs_lie h.controls_lie (λ g. record { inbox = g.inbox; outbox = g.outbox; batches = on_complete _ k (cell_at s a).entries g.batches }) h.cells_lie
kept w (Rollback a) s ok n h = at_actor w s a _ _ _ h.subs_lie h.controls_lie (λ g. fewer _ _ _ _ (cell_at s a) _ _ _ refl refl (on_staying _ s.book.cascades (cell_at s a).entries g.batches) g) h.cells_lie
kept w (DropSub k a) s ok n h = record { subs_lie = all_filter _ _ s.post.subs h.subs_lie; controls_lie = h.controls_lie; cells_lie = h.cells_lie }
kept w (DropControl t) s ok n h = record { subs_lie = h.subs_lie; controls_lie = all_filter _ _ s.post.controls h.controls_lie; cells_lie = h.cells_lie }
kept w (Finish t a) s ok n h = at_actor w s a _ _ _ h.subs_lie h.controls_lie (λ g. fewer _ _ _ _ (cell_at s a) _ _ _ refl refl (on_filter _ _ (cell_at s a).entries g.batches) g) h.cells_lie
kept w (Trim k a) s ok n h = at_actor w s a _ _ _ h.subs_lie h.controls_lie (λ g. record { inbox = g.inbox; outbox = g.outbox; batches = on_filter _ _ (cell_at s a).entries g.batches }) h.cells_lie
kept w _ s ok n h = h

pub opened : {C : Type 0} (w : Fixed C) → Lying w (opening w)
unfolding Lying
opened {C} w = record { subs_lie = tt; controls_lie = tt; cells_lie = new w.text.opening.states }
  where
    new : (states : List State) → AllByRecursion (CellLies {C = C} w.text.opening.next_tid w.text.opening.next_tid w.text.opening.next_bid w.text.opening.next_bid) (map (new_cell (base w.text)) states)
    new [] = tt
    new (s ∷ states) = (record { inbox = tt; outbox = tt; batches = tt }, new states)

pub lying_is : {C : Type 0} (w : Fixed C) (s : Machine C) → Lying w s → AllLie w.text.opening.next_tid s.ring.next_tid w.text.opening.next_bid s.ring.next_bid (length w.text.opening.states) s.post.subs s.post.controls s.cells
unfolding Lying
lying_is w s h = h
