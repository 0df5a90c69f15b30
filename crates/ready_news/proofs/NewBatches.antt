-- What a new batch finds: all numbers that lie anywhere are smaller, so that of what is under way only its own sub-batches may be new.
use Rattle.std.specs.Prelude.{◌≡◌, refl, ℕ, zero, suc, ◌<◌, ◌≤◌, ◌==◌, nat_le, Bool, true, false, not, ◌&&◌, if◌then◌else◌, is_some, Some, None, List, [], ◌∷◌, ◌++◌, length, map, find, take, slice_get, Contains}
use Rattle.std.specs.List.{list_any, AllByRecursion}
use Rattle.std.proofs.Common.{arith, sym, ap, subst, inl, inr, ◌∙◌}
use Rattle.std.proofs.lemmas.Bool.{and_left, and_parts, and_right, eq-eqb, eqb-true, lt-leb, or_cases, or_from, or_left, or_right}
use Rattle.aml_slice.specs.Controls.{Rest}
use Rattle.snap_base.specs.declared.transactions.State.{State}
use Rattle.snap_base.specs.declared.transactions.Tx.{Tx}
use Rattle.snap_hand.specs.core_rows.OnRuns.{HasRun}
use Rattle.protocol.specs.Conditions.{IsAllowed, conditions, is_given_up, is_under_way}
use Rattle.protocol.specs.Effects.{after, cell_at, no_cell}
use Rattle.protocol.specs.Events.{Event, Form, Arrive, Ask, Take, DropSub, DropControl}
use Rattle.protocol.specs.Facts.{Alone}
use Rattle.protocol.specs.Fixed.{Fixed, IsText, Text}
use Rattle.protocol.specs.OnDesk.{new_batch, new_declared}
use Rattle.protocol.specs.OnPost.{first_control}
use Rattle.protocol.specs.OnRing.{first_sub, next_actors, next_pacts}
use Rattle.protocol.specs.Parts.{Act, Batch, Book, Cascade, Entry, BatchEntry, ActEntry, Machine, OfBatch, Pact, Ring, Slot}
use Rattle.protocol.specs.Rests.{HasFacts, IsRest, IsTxIn}
use Rattle.protocol.specs.Runs.{IsRun, reached}
use Rattle.protocol.specs.Words.{act_of, batch_of, control_of, covers, has_act, has_entry, holds, is_aborted, is_doomed, joined_of, names_pact, names_slot, sub_of}
use Rattle.protocol_laws.specs.FromDesk.{EntryOf, is_pact_of}
use Rattle.protocol_laws.specs.Ranges.{ActInRange, BatchInRange, IsDrawnTid, NumbersInRange, SubInRange}
use Rattle.protocol_laws.proofs.first.EpochsKept.{Agreeing}
use Rattle.protocol_laws.proofs.first.Lists.{all_found}
use Rattle.protocol_laws.proofs.first.Ranges.{numbers_in_range}
use Rattle.protocol_laws.proofs.machine.AllGood.{all_good, none_allowed}
use Rattle.protocol_theorems.proofs.quiet.JoinsKept.{stands}
use Rattle.protocol_ready.proofs.Listing.{Has, any_of, at_found, from_has, held}
use Rattle.protocol_ready.proofs.TouchedListed.{no}
use Rattle.listing_facts.specs.batch_table.Listed.{actors_in}
use Rattle.ready_listing.proofs.Lists.{first_of_all, in_flat_map}
use Rattle.ready_news.specs.InPost.{arrives_at, formed_listed}
use Rattle.ready_news.proofs.InPost.{numbered_from}
use Rattle.ready_news.proofs.NewDrops.{all_are}

-- ---- all numbers are smaller

pub record AreDrawn (s : Machine Rest) : Type 0 where
  pub cascades : AllByRecursion (λ c. c.upto < s.ring.next_bid) s.book.cascades
  pub subs : AllByRecursion (λ m. m.bid < s.ring.next_bid) s.post.subs
  pub batches : AllByRecursion (λ b. b.bid < s.ring.next_bid) s.desk.batches
  pub controls : AllByRecursion (λ m. m.tid < s.ring.next_tid) s.post.controls
  pub acts : AllByRecursion (λ x. x.tid < s.ring.next_tid) s.book.acts
  pub entries : (a t : ℕ) → has_entry t (cell_at s a).entries ≡ true → t < s.ring.next_tid

each : {X : Type 0} (P Q : X → Type 0) (xs : List X) → ((x : X) → P x → Q x) → AllByRecursion P xs → AllByRecursion Q xs
each P Q [] f h = tt
each P Q (x ∷ xs) f h = (f x h.0, each P Q xs f h.1)

slot_drawn : (t n k : ℕ) (bs : List Batch) (slots : List Slot) → AllByRecursion (λ s. is_pact_of s.tid k bs ≡ true) slots → (is_pact_of t k bs ≡ true → t < n) → list_any (λ s. s.tid == t) slots ≡ true → t < n
slot_drawn t n k bs [] ok pacts h = no h
slot_drawn t n k bs (s ∷ ss) ok pacts h = elim (or_cases (s.tid == t) (list_any (λ s. s.tid == t) ss) h) [
  | inl e ↦ pacts (subst (λ u. is_pact_of u k bs ≡ true) (eqb-true s.tid t e) ok.0)
  | inr i ↦ slot_drawn t n k bs ss ok.1 pacts i
]

entry_drawn : (t n a : ℕ) (bs : List Batch) (es : List Entry) → AllByRecursion (EntryOf a bs) es → (has_act t es ≡ true → t < n) → ((k : ℕ) → is_pact_of t k bs ≡ true → t < n) → has_entry t es ≡ true → t < n
entry_drawn t n a bs [] ok acts pacts h = no h
entry_drawn t n a bs (BatchEntry b ∷ es) ok acts pacts h = elim (or_cases (names_slot t b) (has_entry t es) h) [
  | inl i ↦ slot_drawn t n b.bid bs b.slots ok.0.1 (pacts b.bid) i
  | inr i ↦ entry_drawn t n a bs es ok.1 acts pacts i
]
entry_drawn t n a bs (ActEntry x ∷ es) ok acts pacts h = elim (or_cases (x.tid == t) (has_entry t es) h) [
  | inl e ↦ acts (or_left (x.tid == t) (has_act t es) e)
  | inr i ↦ entry_drawn t n a bs es ok.1 (λ y. acts (or_right (x.tid == t) (has_act t es) y)) pacts i
]

pact_drawn : (w : Fixed Rest) (s : Machine Rest) (t k : ℕ) → AllByRecursion (BatchInRange w s) s.desk.batches → is_pact_of t k s.desk.batches ≡ true → t < s.ring.next_tid
pact_drawn w s t k ranges h =
    let b = held (names_pact t) (batch_of k s.desk.batches) h in
    let r = all_found (BatchInRange w s) (λ b. b.bid == k) s.desk.batches b.it ranges b.is in
    let p = any_of (λ p. p.tid == t) b.it.pacts b.does in
    subst (λ n. n < s.ring.next_tid) (eqb-true p.it.tid t p.does) (all_are (λ p. IsDrawnTid w s p.tid) b.it.pacts p.it r.0.tids p.has).below

act_drawn : (w : Fixed Rest) (s : Machine Rest) (t : ℕ) (test : Act → Bool) → AllByRecursion (ActInRange w s) s.book.acts → holds test (act_of t s.book.acts) ≡ true → t < s.ring.next_tid
act_drawn w s t test ranges h =
    let x = held test (act_of t s.book.acts) h in
    let r = all_found (ActInRange w s) (λ x. x.tid == t) s.book.acts x.it ranges x.is in
    subst (λ n. n < s.ring.next_tid) (eqb-true x.it.tid t r.1) r.0.tid.below

drawn_at : (w : Fixed Rest) (finish : Rest → List State → Alone) (es : List Event) (e : Event) → HasFacts w finish → IsText w.text → IsRun w es → IsAllowed w e (reached w es) → AreDrawn (reached w es)
unfolding Agreeing
drawn_at w finish es e f v run ok = by es run ok (length w.text.opening.states) refl
  where
    Of : Tx → Rest → Type 0
    Of = IsRest w.code (IsTxIn w.text)

    by : (es : List Event) → IsRun w es → IsAllowed w e (reached w es) → (n : ℕ) → length w.text.opening.states ≡ n → AreDrawn (reached w es)
    by es run ok (suc n) l =
        let s = reached w es in
        let all = all_good w Of finish es (record { text = v; actors = omega (arith, l); facts = f }) run in
        let ranges : NumbersInRange w s = numbers_in_range w es v run in
        record {
          cascades = all.good.agreeing.ended;
          subs = each (SubInRange w s) (λ m. m.bid < s.ring.next_bid) s.post.subs (λ m r. r.bid.below) ranges.subs;
          batches = each (BatchInRange w s) (λ b. b.bid < s.ring.next_bid) s.desk.batches (λ b r. r.bid.below) ranges.batches;
          controls = each (λ m. IsDrawnTid w s m.tid) (λ m. m.tid < s.ring.next_tid) s.post.controls (λ m r. r.below) ranges.controls;
          acts = each (ActInRange w s) (λ x. x.tid < s.ring.next_tid) s.book.acts (λ x r. r.tid.below) ranges.acts;
          entries = λ a t h.
              entry_drawn t s.ring.next_tid a s.desk.batches (cell_at s a).entries (all.good.from_desk.entries a)
              (λ i. act_drawn w s t (λ x. holds (λ p. not p.finished) (joined_of a x)) ranges.acts (stands s all.opened t a i))
              (λ k i. pact_drawn w s t k ranges.batches i) h;
        }
    by [] run ok zero l = absurd (none_allowed w e v l ok)
    by (d ∷ es) run ok zero l = absurd (none_allowed w d v l run.0)

pub are_drawn : (w : Fixed Rest) (e : Event) (s : Machine Rest) → HasRun w s → IsAllowed w e s → AreDrawn s
are_drawn w e s r ok = subst AreDrawn (sym r.is_reached) (drawn_at w r.finish r.events e r.facts r.text r.run (subst (IsAllowed w e) r.is_reached ok))

-- ---- what is behind smaller numbers is found as if they were not there

smaller : (a b : ℕ) → a < b → (a == b) ≡ false
smaller a b h = by (a == b) refl
  where
    by : (c : Bool) → (a == b) ≡ c → c ≡ false
    by true e = absurd (omega (arith, eqb-true a b e, h))
    by false e = refl

find_behind : {X : Type 0} (p : X → Bool) (xs ys : List X) → AllByRecursion (λ x. p x ≡ false) xs → find p (xs ++ ys) ≡ find p ys
find_behind p [] ys h = refl
find_behind p (x ∷ xs) ys h = ap (λ b. if b then Some x else find p (xs ++ ys)) h.0 ∙ find_behind p xs ys h.1

none_aborted : (n k : ℕ) (cs : List Cascade) → AllByRecursion (λ c. c.upto < n) cs → n ≤ k → is_aborted k cs ≡ false
none_aborted n k [] h g = refl
none_aborted n k (c ∷ cs) h g = or_from (covers k c) (is_aborted k cs) (and_right (nat_le c.first k) (nat_le k c.upto) (lt-leb k c.upto (omega (arith, h.0, g)))) (none_aborted n k cs h.1 g)

none_asks : (t n : ℕ) (acts : List Act) → AllByRecursion (λ x. x.tid < n) acts → n ≤ t → act_of t acts ≡ None
none_asks t n [] h g = refl
none_asks t n (x ∷ xs) h g = ap (λ b. if b then Some x else act_of t xs) (smaller x.tid t (omega (arith, h.0, g))) ∙ none_asks t n xs h.1 g

-- a sub-batch for each actor, and no other one
sub_new : (w : Text) (k : ℕ) (r : Ring) (a : ℕ) (actors : List ℕ) → is_some (sub_of k a (map (first_sub w k r) actors)) ≡ true → Has actors a
sub_new w k r a [] h = no h
sub_new w k r a (b ∷ bs) h = by ((k == k) && (b == a)) refl h (sub_new w k r a bs)
  where
    by : (c : Bool) → ((k == k) && (b == a)) ≡ c → is_some (if c then Some (first_sub w k r b) else sub_of k a (map (first_sub w k r) bs)) ≡ true → (is_some (sub_of k a (map (first_sub w k r) bs)) ≡ true → Has bs a) → Has (b ∷ bs) a
    by true e g i = inl (eqb-true b a (and_parts (k == k) (b == a) e).1)
    by false e g i = inr (i g)

declared_are : (actors : List ℕ) → map (λ p. p.actor) (map new_declared actors) ≡ actors
declared_are [] = refl
declared_are (a ∷ actors) = ap (λ v. a ∷ v) (declared_are actors)

-- whose a new control is, is the batch
new_whose : (w : Fixed Rest) (k t : ℕ) (b : Book) (qs : List Pact) → holds (λ m. is_given_up m.who b) (control_of t (map (λ q. first_control w (OfBatch k) q.tid q.tx) qs)) ≡ true → is_aborted k b.cascades ≡ true
new_whose w k t b [] h = no h
new_whose w k t b (q ∷ qs) h = by (q.tid == t) h (new_whose w k t b qs)
  where
    by : (c : Bool) → holds (λ m. is_given_up m.who b) (if c then Some (first_control w (OfBatch k) q.tid q.tx) else control_of t (map (λ q. first_control w (OfBatch k) q.tid q.tx) qs)) ≡ true
        → (holds (λ m. is_given_up m.who b) (control_of t (map (λ q. first_control w (OfBatch k) q.tid q.tx) qs)) ≡ true → is_aborted k b.cascades ≡ true) → is_aborted k b.cascades ≡ true
    by true g i = g
    by false g i = i g

-- ---- after the batch is formed

module _ (w : Fixed Rest) (k : ℕ) (s : Machine Rest) (ok : IsAllowed w (Form k) s) (drawn : AreDrawn s) where
  is_next : k ≡ s.ring.next_bid
  unfolding conditions
  is_next = eqb-true k s.ring.next_bid ok.0

  -- a tid of the batch
  is_late : (t : ℕ) → list_any (λ p. p.tid == t) (next_pacts w.text s.ring) ≡ true → s.ring.next_tid ≤ t
  is_late t h =
      let q = any_of (λ p. p.tid == t) (next_pacts w.text s.ring) h in
      subst (λ n. s.ring.next_tid ≤ n) (eqb-true q.it.tid t q.does) (numbered_from s.ring.next_tid (take w.text.batch _) q.it q.has)

  not_aborted : is_aborted k s.book.cascades ≡ false
  not_aborted = none_aborted s.ring.next_bid k s.book.cascades drawn.cascades (omega (arith, is_next))

  pub formed_arrives : (a : ℕ) → is_under_way k a (after w (Form k) s).post ≡ true → Contains (formed_listed k (after w (Form k) s).desk) (Arrive k a)
  unfolding after
  formed_arrives a h =
      let actors = next_actors w.text s.ring in
      let batch = new_batch k actors (next_pacts w.text s.ring) in
      let subs = map (first_sub w.text k s.ring) actors in
      let behind = find_behind (λ m. (m.bid == k) && (m.actor == a)) s.post.subs subs (each (λ m. m.bid < s.ring.next_bid) (λ m. ((m.bid == k) && (m.actor == a)) ≡ false) s.post.subs (λ m l. and_left (m.bid == k) (m.actor == a) (smaller m.bid k (omega (arith, l, is_next)))) drawn.subs) in
      let has = sub_new w.text k s.ring a actors (ap is_some (sym behind) ∙ h) in
      let found = find_behind (λ b. b.bid == k) s.desk.batches (batch ∷ []) (each (λ b. b.bid < s.ring.next_bid) (λ b. (b.bid == k) ≡ false) s.desk.batches (λ b l. smaller b.bid k (omega (arith, l, is_next))) drawn.batches)
      ∙ ap (λ c. if c then Some batch else None) (eq-eqb k k refl) in
      let same : actors_in (batch_of k (s.desk.batches ++ batch ∷ [])) ≡ actors = ap actors_in found ∙ declared_are actors in
      in_flat_map (arrives_at k) (actors_in (batch_of k (s.desk.batches ++ batch ∷ []))) a (Arrive k a) (subst (λ v. Contains v a) (sym same) (from_has actors a has)) (first_of_all [] (Arrive k a))

  pub formed_drops_sub : (a : ℕ) → IsAllowed w (DropSub k a) (after w (Form k) s) → ⊥
  unfolding conditions after
  formed_drops_sub a c = no (sym not_aborted ∙ c.1.0)

  pub formed_asks : (t a : ℕ) → list_any (λ p. p.tid == t) (next_pacts w.text s.ring) ≡ true → IsAllowed w (Ask t a) (after w (Form k) s) → ⊥
  unfolding conditions after
  formed_asks t a h c = no (ap (holds (λ x. not (is_doomed x.status))) (sym (none_asks t s.ring.next_tid s.book.acts drawn.acts (is_late t h))) ∙ c.1.0)

  pub formed_takes : (t a : ℕ) → list_any (λ p. p.tid == t) (next_pacts w.text s.ring) ≡ true → IsAllowed w (Take t a) (after w (Form k) s) → ⊥
  unfolding conditions after
  formed_takes t a h c =
      let x = held (λ c. has_entry t c.entries) (slice_get s.cells a) c.1.0 in
      omega (arith, is_late t h, drawn.entries a t (subst (λ z. has_entry t z.entries ≡ true) (sym (at_found s.cells a no_cell x.it x.is)) x.does))

  pub formed_drops : (t : ℕ) → list_any (λ p. p.tid == t) (next_pacts w.text s.ring) ≡ true → IsAllowed w (DropControl t) (after w (Form k) s) → ⊥
  unfolding conditions after
  formed_drops t h c =
      let new = map (λ q. first_control w (OfBatch k) q.tid q.tx) (next_pacts w.text s.ring) in
      let behind = find_behind (λ m. m.tid == t) s.post.controls new (each (λ m. m.tid < s.ring.next_tid) (λ m. (m.tid == t) ≡ false) s.post.controls (λ m l. smaller m.tid t (omega (arith, l, is_late t h))) drawn.controls) in
      no (sym not_aborted ∙ new_whose w k t s.book (next_pacts w.text s.ring) (ap (holds (λ m. is_given_up m.who s.book)) (sym behind) ∙ c.1.0))
