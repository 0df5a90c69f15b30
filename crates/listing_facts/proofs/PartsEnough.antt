-- What the post, an actor and the desk list is what they have to tell.
use Rattle.std.specs.Prelude.{◌≡◌, refl, ℕ, ◌==◌, not, Bool, true, false, ◌&&◌, ◌||◌, if◌then◌else◌, is_some, Some, List, [], ◌∷◌, map, filter, find, Contains}
use Rattle.std.specs.List.{list_any, list_all}
use Rattle.std.proofs.Common.{sym, ap, subst, inl}
use Rattle.std.proofs.lemmas.Bool.{eqb-true, and_parts, not-true, true≢false}
use Rattle.protocol.specs.Parts.{SubBatch, ControlMessage, Post, Declared, Stage, Batch, Desk, Entry, BatchEntry, ActEntry, Slot, Cell}
use Rattle.protocol.specs.Events.{Event}
use Rattle.protocol.specs.Words.{holds, sub_of, control_of, has_control_to, is_formed, is_committing, is_settled, is_open, is_next_to_commit, batch_of, declared_of, waiting_of, outcome_of, is_going, is_ended, is_batch_entry, is_complete_batch, is_undone, has_undone}
use Rattle.protocol_laws.proofs.first.Lists.{some_held}
use Rattle.protocol_laws.proofs.first.Statuses.{committing_not_settled}
use Rattle.protocol_ready.specs.Telling.{PostTells, CellTells, DeskTells}
use Rattle.protocol_ready.proofs.Listing.{Has, from_has, has_map, has_filter, has_flat_map, held, some, found_in, any_of}
use Rattle.protocol_ready.proofs.Offered.{sub_found}
use Rattle.post_box.specs.Listed.{sub_places, control_places}
use Rattle.hybrid_schedule.specs.Listed.{incomplete_of, incomplete_on, undone_in, undone_of, undone_on}
use Rattle.batch_table.specs.Listed as batches
use Rattle.batch_table.specs.Listed.{going_batches, actors_in}
use Rattle.batch_table.proofs.FrontOver.{formed_not_settled}
use Rattle.listing_facts.specs.Listing.{PostLists, CellLists, DeskLists}

-- ---- the post

sub_in : (k a : ℕ) (subs : List SubBatch) → is_some (sub_of k a subs) ≡ true → Contains (sub_places subs) (k, a)
sub_in k a subs h =
    let m = sub_found k a subs h in
    let same : (m.it.bid, m.it.actor) ≡ (k, a) = λ j. (m.bid j, m.actor j) in
    from_has (sub_places subs) (k, a) (subst (λ x. Has (sub_places subs) x) same (has_map (λ m. (m.bid, m.actor)) subs m.it m.has))

module _ {C : Type 0} where
  control_in : (t a : ℕ) (controls : List (ControlMessage C)) (m : ControlMessage C) → control_of t controls ≡ Some m → m.to ≡ a → Contains (control_places controls) (t, a)
  control_in t a controls m e to =
      let r = found_in (λ m. m.tid == t) controls m e in
      let same : (m.tid, m.to) ≡ (t, a) = λ j. (eqb-true m.tid t r.1 j, to j) in
      from_has (control_places controls) (t, a) (subst (λ x. Has (control_places controls) x) same (has_map (λ m. (m.tid, m.to)) controls m r.0))

  control_to : (t a : ℕ) (controls : List (ControlMessage C)) → has_control_to t a controls ≡ true → Contains (control_places controls) (t, a)
  control_to t a controls h = let m = held (λ m. m.to == a) (control_of t controls) h in control_in t a controls m.it m.is (eqb-true m.it.to a m.does)

  pub post_enough : (asked : Event → Bool) (p : Post C) (es : List Event) → PostLists asked p es → PostTells asked p es
  post_enough asked p es l = record {
    arrive = λ k a q h. (l.subs k a (sub_in k a p.subs h)).0 q;
    drop_sub = λ k a q h. (l.subs k a (sub_in k a p.subs h)).1 q;
    ask = λ t a q h. (l.controls t a (control_to t a p.controls h)).0 q;
    take = λ t a q h. (l.controls t a (control_to t a p.controls h)).1 q;
    drop_control = λ t q h. let m = some (control_of t p.controls) h in (l.controls t m.it.to (control_in t m.it.to p.controls m.it m.is refl)).2 q;
  }

-- ---- an actor

undone_slot : (t : ℕ) (slots : List Slot) → list_any (λ s. (s.tid == t) && not s.done) slots ≡ true → Has (undone_in slots) t
undone_slot t slots h =
    let s = any_of (λ s. (s.tid == t) && not s.done) slots h in
    let q = and_parts (s.it.tid == t) (not s.it.done) s.does in
    subst (λ x. Has (undone_in slots) x) (eqb-true s.it.tid t q.0) (has_map (λ s. s.tid) (filter (λ s. not s.done) slots) s.it (has_filter (λ s. not s.done) slots s.it s.has q.1))

undone_here : (t : ℕ) (e : Entry) → is_undone t e ≡ true → Has (undone_of e) t
undone_here t (BatchEntry b) h = undone_slot t b.slots h
undone_here t (ActEntry x) h = absurd (true≢false (sym h))

undone_in_all : (t : ℕ) (entries : List Entry) → has_undone t entries ≡ true → Contains (undone_on entries) t
undone_in_all t entries h =
    let e = any_of (is_undone t) entries h in
    from_has (undone_on entries) t (has_flat_map undone_of entries e.it t e.has (undone_here t e.it e.does))

incomplete_here : (k : ℕ) (e : Entry) → is_batch_entry k e ≡ true → not (is_complete_batch e) ≡ true → Has (incomplete_of e) k
incomplete_here k (BatchEntry b) h c = subst (λ done. Has (if done then [] else b.bid ∷ []) k) (sym (not-true b.complete c)) (inl (eqb-true b.bid k h))
incomplete_here k (ActEntry x) h c = absurd (true≢false (sym h))

incomplete_in_all : (k : ℕ) (entries : List Entry) → holds (λ e. not (is_complete_batch e)) (find (is_batch_entry k) entries) ≡ true → Contains (incomplete_on entries) k
incomplete_in_all k entries h =
    let e = held (λ e. not (is_complete_batch e)) (find (is_batch_entry k) entries) h in
    let r = found_in (is_batch_entry k) entries e.it e.is in
    from_has (incomplete_on entries) k (has_flat_map incomplete_of entries e.it k r.0 (incomplete_here k e.it r.1 e.does))

module _ {C : Type 0} where
  waits_in : (t : ℕ) (c : Cell C) → is_some (waiting_of t c.inbox) ≡ true → Contains (map (λ x. x.tid) c.inbox) t
  waits_in t c h =
      let x = some (waiting_of t c.inbox) h in
      let r = found_in (λ x. x.tid == t) c.inbox x.it x.is in
      from_has (map (λ x. x.tid) c.inbox) t (subst (λ n. Has (map (λ x. x.tid) c.inbox) n) (eqb-true x.it.tid t r.1) (has_map (λ x. x.tid) c.inbox x.it r.0))

  left_in : (t : ℕ) (c : Cell C) → is_some (outcome_of t c.outbox) ≡ true → Contains (map (λ x. x.tid) c.outbox) t
  left_in t c h =
      let x = some (outcome_of t c.outbox) h in
      let r = found_in (λ x. x.tid == t) c.outbox x.it x.is in
      from_has (map (λ x. x.tid) c.outbox) t (subst (λ n. Has (map (λ x. x.tid) c.outbox) n) (eqb-true x.it.tid t r.1) (has_map (λ x. x.tid) c.outbox x.it r.0))

  pub cell_enough : (asked : Event → Bool) (cascades a : ℕ) (c : Cell C) (es : List Event) → CellLists asked cascades a c es → CellTells asked cascades a c es
  cell_enough asked cascades a c es l = record {
    run = λ t q h. l.waiting t (waits_in t c h) q;
    send = λ t q h. (l.outcomes t (left_in t c (some_held (λ x. is_going x.next) (outcome_of t c.outbox) h))).0 q;
    end = λ t q h. (l.outcomes t (left_in t c (some_held (λ x. is_ended x.next) (outcome_of t c.outbox) h))).1 q;
    close = λ t q h. l.undone t (undone_in_all t c.entries h) q;
    complete = λ k q h. l.incomplete k (incomplete_in_all k c.entries h) q;
    rollback = λ q h. l.behind h q;
  }

-- ---- the desk

-- one that the test does not hold of, is among them
pub some_not : {X : Type 0} (f q : X → Bool) (xs : List X) → holds (λ x. not (f x)) (find q xs) ≡ true → list_all f xs ≡ false
some_not f q [] h = absurd (true≢false (sym h))
some_not f q (x ∷ xs) h = by (q x) h (some_not f q xs)
  where
    both_false : (b c : Bool) → c ≡ false → (b && c) ≡ false
    both_false true c e = e
    both_false false c e = refl

    by : (b : Bool) → holds (λ x. not (f x)) (if b then Some x else find q xs) ≡ true → (holds (λ x. not (f x)) (find q xs) ≡ true → list_all f xs ≡ false) → (f x && list_all f xs) ≡ false
    by true g i = ap (λ b. b && list_all f xs) (not-true (f x) g)
    by false g i = both_false (f x) (list_all f xs) (i g)

unsettled : (st : Stage) (a t : Bool) → is_settled st ≡ false → not a ≡ true → not (a || (is_settled st && t)) ≡ true
unsettled st true t s h = absurd (true≢false (sym h))
unsettled st false t s h = ap (λ b. not (b && t)) s

untrimmed : (a s t : Bool) → not a ≡ true → t ≡ false → not (a || (s && t)) ≡ true
untrimmed true s t h e = absurd (true≢false (sym h))
untrimmed false true t h e = ap not e
untrimmed false false t h e = refl

open_going : (b : Batch) → is_open b ≡ true → batches.is_going_batch b ≡ true
open_going b h =
    let q = and_parts (is_formed b.stage) (not b.aborted) h in
    unsettled b.stage b.aborted (list_all (λ p. p.trimmed) b.places) (formed_not_settled b.stage q.0) q.1

going_has : (k : ℕ) (d : Desk) (b : Batch) → batch_of k d.batches ≡ Some b → batches.is_going_batch b ≡ true → Contains (going_batches d) k
going_has k d b e g =
    let r = found_in (λ b. b.bid == k) d.batches b e in
    from_has (going_batches d) k (subst (λ n. Has (going_batches d) n) (eqb-true b.bid k r.1) (has_map (λ b. b.bid) (filter batches.is_going_batch d.batches) b (has_filter batches.is_going_batch d.batches b r.0 g)))

pub actor_has : (k a : ℕ) (d : Desk) (b : Batch) (p : Declared) → batch_of k d.batches ≡ Some b → declared_of a b ≡ Some p → Contains (actors_in (batch_of k d.batches)) a
actor_has k a d b p e f =
    let r = found_in (λ p. p.actor == a) b.places p f in
    subst (λ o. Contains (actors_in o) a) (sym e) (from_has (map (λ p. p.actor) b.places) a (subst (λ n. Has (map (λ p. p.actor) b.places) n) (eqb-true p.actor a r.1) (has_map (λ p. p.actor) b.places p r.0)))

next_going : (k : ℕ) (d : Desk) → holds (λ b. is_open b && is_next_to_commit k d.batches) (batch_of k d.batches) ≡ true → Contains (going_batches d) k
next_going k d h =
    let b = held (λ b. is_open b && is_next_to_commit k d.batches) (batch_of k d.batches) h in
    going_has k d b.it b.is (open_going b.it (and_parts (is_open b.it) (is_next_to_commit k d.batches) b.does).0)

pub desk_enough : (asked : Event → Bool) (d : Desk) (es : List Event) → DeskLists asked d es → DeskTells asked d es
desk_enough asked d es l = record {
  note = λ k a q h.
      let b = held (λ b. is_open b && holds (λ p. not p.noted) (declared_of a b)) (batch_of k d.batches) h in
      let parts = and_parts (is_open b.it) (holds (λ p. not p.noted) (declared_of a b.it)) b.does in
      let p = held (λ p. not p.noted) (declared_of a b.it) parts.1 in
      (l.actors k a (going_has k d b.it b.is (open_going b.it parts.0)) (actor_has k a d b.it p.it b.is p.is)).0 q;
  commit = λ k q h. (l.batches k (next_going k d h)).0 q;
  abort = λ k q h. (l.batches k (next_going k d h)).2 q;
  settle = λ k q h.
      let b = held (λ b. is_committing b.stage && not b.aborted) (batch_of k d.batches) h in
      let parts = and_parts (is_committing b.it.stage) (not b.it.aborted) b.does in
      (l.batches k (going_has k d b.it b.is (unsettled b.it.stage b.it.aborted (list_all (λ p. p.trimmed) b.it.places) (committing_not_settled b.it.stage parts.0) parts.1))).1 q;
  trim = λ k a q h.
      let b = held (λ b. is_settled b.stage && (not b.aborted && holds (λ p. not p.trimmed) (declared_of a b))) (batch_of k d.batches) h in
      let parts = and_parts (is_settled b.it.stage) (not b.it.aborted && holds (λ p. not p.trimmed) (declared_of a b.it)) b.does in
      let rest = and_parts (not b.it.aborted) (holds (λ p. not p.trimmed) (declared_of a b.it)) parts.1 in
      let p = held (λ p. not p.trimmed) (declared_of a b.it) rest.1 in
      let left = untrimmed b.it.aborted (is_settled b.it.stage) (list_all (λ p. p.trimmed) b.it.places) rest.0 (some_not (λ p. p.trimmed) (λ p. p.actor == a) b.it.places rest.1) in
      (l.actors k a (going_has k d b.it b.is left) (actor_has k a d b.it p.it b.is p.is)).1 q;
}
