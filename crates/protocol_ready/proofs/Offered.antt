-- An allowed event is listed with each thing that it names.
use Rattle.std.specs.Prelude.{◌≡◌, refl, ℕ, ◌==◌, ◌<◌, is_some, Bool, true, not, ◌&&◌, Option, Some, None, List, [], ◌∷◌, length, map, filter, find, slice_get}
use Rattle.std.specs.List.{flat_map}
use Rattle.std.proofs.Common.{sym, ap, subst, inl, inr}
use Rattle.std.proofs.lemmas.Bool.{eqb-true, eq-eqb, and_parts, true≢false}
use Rattle.protocol.specs.Parts.{SubBatch, ControlMessage, Act, Joined, Batch, Declared, Entry, BatchEntry, ActEntry, Outcome, Cell, Machine}
use Rattle.protocol.specs.Events.{Event, Arrive, Ask, Take, Run, Send, End, Close, Complete, Commit, Settle, Abort, DropControl, Vouch, Decide, Seal}
use Rattle.protocol.specs.Words.{holds, sub_of, control_of, has_control_to, waiting_of, outcome_of, act_of, joined_of, batch_of, declared_of, is_undone, has_undone, is_batch_entry, is_settled}
use Rattle.protocol.specs.Effects.{cell_at, no_cell}
use Rattle.protocol_laws.proofs.first.Lists.{some_held}
use Rattle.protocol_ready.specs.Lying.{runs_on, sends_on, comings, arrivals, of_entry, on_entries, completes_of, on_marks, of_control, on_control, on_sub, on_subs, on_place, of_act, vouches_of, on_declared, of_batch, on_result, ends_of}
use Rattle.protocol_ready.proofs.Listing.{Has, has_right, has_map, has_filter, has_flat_map, held, some, found_in, any_of, at_found, is_within, has_below}

-- ---- messages

pub record IsSub (k a : ℕ) (subs : List SubBatch) : Type 0 where
  pub it : SubBatch
  pub has : Has subs it
  pub bid : it.bid ≡ k
  pub actor : it.actor ≡ a

pub sub_found : (k a : ℕ) (subs : List SubBatch) → is_some (sub_of k a subs) ≡ true → IsSub k a subs
sub_found k a subs h =
    let m = some (sub_of k a subs) h in
    let r = found_in (λ m. (m.bid == k) && (m.actor == a)) subs m.it m.is in
    let q = and_parts (m.it.bid == k) (m.it.actor == a) r.1 in
    record { it = m.it; has = r.0; bid = eqb-true m.it.bid k q.0; actor = eqb-true m.it.actor a q.1 }

eq-is : (m n : ℕ) → m ≡ n → (m == n) ≡ true
eq-is m n e = eq-eqb m n e

pub in_arrivals : {C : Type 0} (k a : ℕ) (s : Machine C) → is_some (sub_of k a s.post.subs) ≡ true → Has (arrivals a s) (Arrive k a)
in_arrivals k a s h =
    let m = sub_found k a s.post.subs h in
    subst (λ n. Has (arrivals a s) (Arrive n a)) m.bid (has_map (λ m. Arrive m.bid a) (filter (λ m. m.actor == a) s.post.subs) m.it (has_filter (λ m. m.actor == a) s.post.subs m.it m.has (eq-is m.it.actor a m.actor)))

pub in_subs : {C : Type 0} (k a : ℕ) (s : Machine C) (f : Event) → is_some (sub_of k a s.post.subs) ≡ true → Has (on_sub k a) f → Has (on_subs k s) f
in_subs k a s f h g =
    let m = sub_found k a s.post.subs h in
    has_flat_map (λ m. on_sub k m.actor) (filter (λ m. m.bid == k) s.post.subs) m.it f (has_filter (λ m. m.bid == k) s.post.subs m.it m.has (eq-is m.it.bid k m.bid)) (subst (λ n. Has (on_sub k n) f) (sym m.actor) g)

pub in_all_subs : {C : Type 0} (k a : ℕ) (s : Machine C) (f : Event) → is_some (sub_of k a s.post.subs) ≡ true → Has (on_sub k a) f → Has (flat_map (λ m. on_sub m.bid m.actor) s.post.subs) f
in_all_subs k a s f h g =
    let m = sub_found k a s.post.subs h in
    has_flat_map (λ m. on_sub m.bid m.actor) s.post.subs m.it f m.has (subst (λ n. Has (on_sub m.it.bid n) f) (sym m.actor) (subst (λ n. Has (on_sub n a) f) (sym m.bid) g))

-- ---- controls

pub record IsControl {C : Type 0} (t : ℕ) (controls : List (ControlMessage C)) : Type 0 where
  pub it : ControlMessage C
  pub is : control_of t controls ≡ Some it
  pub has : Has controls it
  pub tid : it.tid ≡ t

pub control_found : {C : Type 0} (t : ℕ) (controls : List (ControlMessage C)) → is_some (control_of t controls) ≡ true → IsControl t controls
control_found t controls h =
    let m = some (control_of t controls) h in
    let r = found_in (λ m. m.tid == t) controls m.it m.is in
    record { it = m.it; is = m.is; has = r.0; tid = eqb-true m.it.tid t r.1 }

to_is : {C : Type 0} (t a : ℕ) (controls : List (ControlMessage C)) (m : ControlMessage C) → control_of t controls ≡ Some m → has_control_to t a controls ≡ true → m.to ≡ a
to_is t a controls m e h = eqb-true m.to a (subst (λ o. holds (λ m. m.to == a) o ≡ true) e h)

pub in_comings : {C : Type 0} (t a : ℕ) (s : Machine C) (f : Event) → has_control_to t a s.post.controls ≡ true → Has (Ask t a ∷ Take t a ∷ []) f → Has (comings a s) f
in_comings t a s f h g =
    let m = control_found t s.post.controls (some_held _ _ h) in
    has_flat_map (λ m. Ask m.tid a ∷ Take m.tid a ∷ []) (filter (λ m. m.to == a) s.post.controls) m.it f (has_filter (λ m. m.to == a) s.post.controls m.it m.has (eq-is m.it.to a (to_is t a s.post.controls m.it m.is h))) (subst (λ n. Has (Ask n a ∷ Take n a ∷ []) f) (sym m.tid) g)

pub in_control : {C : Type 0} (t a : ℕ) (s : Machine C) (f : Event) → has_control_to t a s.post.controls ≡ true → Has (Ask t a ∷ Take t a ∷ DropControl t ∷ []) f → Has (on_control t s) f
in_control t a s f h g =
    let m = control_found t s.post.controls (some_held _ _ h) in
    subst (λ o. Has (of_control t o) f) (sym m.is) (subst (λ n. Has (Ask t n ∷ Take t n ∷ DropControl t ∷ []) f) (sym (to_is t a s.post.controls m.it m.is h)) g)

pub drop_in_control : {C : Type 0} (t : ℕ) (s : Machine C) → is_some (control_of t s.post.controls) ≡ true → Has (on_control t s) (DropControl t)
drop_in_control t s h =
    let m = control_found t s.post.controls h in
    subst (λ o. Has (of_control t o) (DropControl t)) (sym m.is) (inr (inr (inl refl)))

-- ---- what lies on an actor

pub record IsCell {C : Type 0} (p : Cell C → Bool) (s : Machine C) (a : ℕ) : Type 0 where
  pub at : p (cell_at s a) ≡ true
  pub within : a < length s.cells

pub cell_found : {C : Type 0} (p : Cell C → Bool) (s : Machine C) (a : ℕ) → holds p (slice_get s.cells a) ≡ true → IsCell p s a
cell_found p s a h =
    let c = held p (slice_get s.cells a) h in
    record { at = rw (at_found s.cells a no_cell c.it c.is) c.does; within = is_within s.cells a c.it c.is }

pub in_runs : {C : Type 0} (t a : ℕ) (s : Machine C) → holds (λ c. is_some (waiting_of t c.inbox)) (slice_get s.cells a) ≡ true → Has (runs_on a s) (Run t a)
in_runs t a s h =
    let c = cell_found _ s a h in
    let x = some (waiting_of t (cell_at s a).inbox) c.at in
    let r = found_in (λ x. x.tid == t) (cell_at s a).inbox x.it x.is in
    subst (λ n. Has (runs_on a s) (Run n a)) (eqb-true x.it.tid t r.1) (has_map (λ x. Run x.tid a) (cell_at s a).inbox x.it r.0)

pub in_sends : {C : Type 0} (t a : ℕ) (s : Machine C) (p : Outcome C → Bool) (f : Event) → holds (λ c. holds p (outcome_of t c.outbox)) (slice_get s.cells a) ≡ true → Has (Send t a ∷ End t a ∷ []) f → Has (sends_on a s) f
in_sends t a s p f h g =
    let c = cell_found (λ c. holds p (outcome_of t c.outbox)) s a h in
    let x = held p (outcome_of t (cell_at s a).outbox) c.at in
    let r = found_in (λ x. x.tid == t) (cell_at s a).outbox x.it x.is in
    has_flat_map (λ x. Send x.tid a ∷ End x.tid a ∷ []) (cell_at s a).outbox x.it f r.0 (subst (λ n. Has (Send n a ∷ End n a ∷ []) f) (sym (eqb-true x.it.tid t r.1)) g)

pub in_entries : {C : Type 0} (a : ℕ) (s : Machine C) (f : Event) → Has (flat_map (of_entry a) (cell_at s a).entries) f → Has (on_entries a s) f
in_entries a s f h = has_right (comings a s) _ f (has_right (runs_on a s) _ f h)

complete_of : (k a : ℕ) (e : Entry) → is_batch_entry k e ≡ true → Has (of_entry a e) (Complete k a)
complete_of k a (BatchEntry b) h = inl (ap (λ n. Complete n a) (eqb-true b.bid k h))
complete_of k a (ActEntry x) h = absurd (true≢false (sym h))

close_of : (t a : ℕ) (e : Entry) → is_undone t e ≡ true → Has (of_entry a e) (Close t a)
close_of t a (BatchEntry b) h =
    let x = any_of (λ s. (s.tid == t) && not s.done) b.slots h in
    inr (subst (λ n. Has (map (λ x. Close x.tid a) b.slots) (Close n a)) (eqb-true x.it.tid t (and_parts (x.it.tid == t) (not x.it.done) x.does).0) (has_map (λ x. Close x.tid a) b.slots x.it x.has))
close_of t a (ActEntry x) h = absurd (true≢false (sym h))

pub complete_in : {C : Type 0} (k a : ℕ) (s : Machine C) (p : Entry → Bool) → holds (λ c. holds p (find (is_batch_entry k) c.entries)) (slice_get s.cells a) ≡ true → Has (flat_map (of_entry a) (cell_at s a).entries) (Complete k a)
complete_in k a s p h =
    let c = cell_found (λ c. holds p (find (is_batch_entry k) c.entries)) s a h in
    let e = held p (find (is_batch_entry k) (cell_at s a).entries) c.at in
    let r = found_in (is_batch_entry k) (cell_at s a).entries e.it e.is in
    has_flat_map (of_entry a) (cell_at s a).entries e.it _ r.0 (complete_of k a e.it r.1)

pub close_in : {C : Type 0} (t a : ℕ) (s : Machine C) → holds (λ c. has_undone t c.entries) (slice_get s.cells a) ≡ true → Has (flat_map (of_entry a) (cell_at s a).entries) (Close t a)
close_in t a s h =
    let c = cell_found (λ c. has_undone t c.entries) s a h in
    let e = any_of (is_undone t) (cell_at s a).entries c.at in
    has_flat_map (of_entry a) (cell_at s a).entries e.it _ e.has (close_of t a e.it e.does)

pub close_in_result : {C : Type 0} (t a : ℕ) (s : Machine C) → holds (λ c. has_undone t c.entries) (slice_get s.cells a) ≡ true → Has (on_result t s) (Close t a)
close_in_result t a s h =
    let c = cell_found (λ c. has_undone t c.entries) s a h in
    has_map (Close t) _ a (has_filter (λ a. holds (λ c. has_undone t c.entries) (slice_get s.cells a)) _ a (has_below a (length s.cells) c.within) h)

-- ---- ACTs

pub in_place : (t a : ℕ) (o : Option Act) (p : Joined → Bool) (f : Event) → holds (λ x. holds p (joined_of a x)) o ≡ true → Has (on_place t a) f → Has (of_act t o) f
in_place t a None p f h g = absurd (true≢false (sym h))
in_place t a (Some x) p f h g =
    let j = held p (joined_of a x) h in
    let r = found_in (λ p. p.actor == a) x.places j.it j.is in
    inr (inr (has_flat_map (λ p. on_place t p.actor) x.places j.it f r.0 (subst (λ n. Has (on_place t n) f) (sym (eqb-true j.it.actor a r.1)) g)))

pub in_vouches : (t a : ℕ) (o : Option Act) (p : Joined → Bool) → holds (λ x. holds p (joined_of a x)) o ≡ true → Has (vouches_of t o) (Vouch t a)
in_vouches t a None p h = absurd (true≢false (sym h))
in_vouches t a (Some x) p h =
    let j = held p (joined_of a x) h in
    let r = found_in (λ p. p.actor == a) x.places j.it j.is in
    subst (λ n. Has (map (λ p. Vouch t p.actor) x.places) (Vouch t n)) (eqb-true j.it.actor a r.1) (has_map (λ p. Vouch t p.actor) x.places j.it r.0)

pub in_act : (t : ℕ) (o : Option Act) (p : Act → Bool) (f : Event) → holds p o ≡ true → Has (Decide t ∷ Seal t ∷ []) f → Has (of_act t o) f
in_act t None p f h g = absurd (true≢false (sym h))
in_act t (Some x) p f h (inl e) = inl e
in_act t (Some x) p f h (inr (inl e)) = inr (inl e)
in_act t (Some x) p f h (inr (inr e)) = absurd e

-- the ACT that is found is the list's
pub act_in_all : {C : Type 0} (t : ℕ) (s : Machine C) (p : Act → Bool) (f : Event) → holds p (act_of t s.book.acts) ≡ true → Has (of_act t (act_of t s.book.acts)) f → Has (flat_map (λ x. of_act x.tid (act_of x.tid s.book.acts)) s.book.acts) f
act_in_all t s p f h g =
    let x = held p (act_of t s.book.acts) h in
    let r = found_in (λ x. x.tid == t) s.book.acts x.it x.is in
    has_flat_map (λ x. of_act x.tid (act_of x.tid s.book.acts)) s.book.acts x.it f r.0 (subst (λ n. Has (of_act n (act_of n s.book.acts)) f) (sym (eqb-true x.it.tid t r.1)) g)

-- ---- batches

pub in_batch : (k : ℕ) (o : Option Batch) (p : Batch → Bool) (f : Event) → holds p o ≡ true → Has (Commit k ∷ Settle k ∷ Abort k ∷ []) f → Has (of_batch k o) f
in_batch k None p f h g = absurd (true≢false (sym h))
in_batch k (Some b) p f h (inl e) = inl e
in_batch k (Some b) p f h (inr (inl e)) = inr (inl e)
in_batch k (Some b) p f h (inr (inr (inl e))) = inr (inr (inl e))
in_batch k (Some b) p f h (inr (inr (inr e))) = absurd e

pub in_declared : (k a : ℕ) (o : Option Batch) (q : Batch → Bool) (p : Declared → Bool) (f : Event) → holds (λ b. q b && holds p (declared_of a b)) o ≡ true → Has (on_declared k a) f → Has (of_batch k o) f
in_declared k a None q p f h g = absurd (true≢false (sym h))
in_declared k a (Some b) q p f h g =
    let j = held p (declared_of a b) (and_parts (q b) _ h).1 in
    let r = found_in (λ p. p.actor == a) b.places j.it j.is in
    inr (inr (inr (has_flat_map (λ p. on_declared k p.actor) b.places j.it f r.0 (subst (λ n. Has (on_declared k n) f) (sym (eqb-true j.it.actor a r.1)) g))))

pub batch_in_all : {C : Type 0} (k : ℕ) (s : Machine C) (p : Batch → Bool) (f : Event) → holds p (batch_of k s.desk.batches) ≡ true → Has (of_batch k (batch_of k s.desk.batches)) f → Has (flat_map (λ b. of_batch b.bid (batch_of b.bid s.desk.batches)) s.desk.batches) f
batch_in_all k s p f h g =
    let x = held p (batch_of k s.desk.batches) h in
    let r = found_in (λ b. b.bid == k) s.desk.batches x.it x.is in
    has_flat_map (λ b. of_batch b.bid (batch_of b.bid s.desk.batches)) s.desk.batches x.it f r.0 (subst (λ n. Has (of_batch n (batch_of n s.desk.batches)) f) (sym (eqb-true x.it.bid k r.1)) g)

-- the Commit and the Abort of a batch among some
pub in_ends : (k : ℕ) (bs : List Batch) (p q : Batch → Bool) (f : Event) → holds p (batch_of k bs) ≡ true → ((b : Batch) → p b ≡ true → b.bid ≡ k → q b ≡ true) → Has (Commit k ∷ Abort k ∷ []) f → Has (ends_of (filter q bs)) f
in_ends k bs p q f h i g =
    let x = held p (batch_of k bs) h in
    let r = found_in (λ b. b.bid == k) bs x.it x.is in
    let e = eqb-true x.it.bid k r.1 in
    has_flat_map (λ b. Commit b.bid ∷ Abort b.bid ∷ []) (filter q bs) x.it f (has_filter q bs x.it r.0 (i x.it x.does e)) (subst (λ n. Has (Commit n ∷ Abort n ∷ []) f) (sym e) g)

pub in_declared_settled : (k a : ℕ) (o : Option Batch) (f : Event) → holds (λ b. is_settled b.stage && (not b.aborted && holds (λ p. not p.trimmed) (declared_of a b))) o ≡ true → Has (on_declared k a) f → Has (of_batch k o) f
in_declared_settled k a None f h g = absurd (true≢false (sym h))
in_declared_settled k a (Some b) f h g = in_declared k a (Some b) (λ b. not b.aborted) (λ p. not p.trimmed) f (and_parts (is_settled b.stage) _ h).1 g

pub complete_in_marks : {C : Type 0} (k a : ℕ) (s : Machine C) (p : Entry → Bool) → holds (λ c. holds p (find (is_batch_entry k) c.entries)) (slice_get s.cells a) ≡ true → Has (on_marks a s) (Complete k a)
complete_in_marks k a s p h =
    let c = cell_found (λ c. holds p (find (is_batch_entry k) c.entries)) s a h in
    let e = held p (find (is_batch_entry k) (cell_at s a).entries) c.at in
    let r = found_in (is_batch_entry k) (cell_at s a).entries e.it e.is in
    has_right (runs_on a s) _ _ (has_flat_map (completes_of a) (cell_at s a).entries e.it _ r.0 (of e.it r.1))
  where
    of : (e : Entry) → is_batch_entry k e ≡ true → Has (completes_of a e) (Complete k a)
    of (BatchEntry b) h = inl (ap (λ n. Complete n a) (eqb-true b.bid k h))
    of (ActEntry x) h = absurd (true≢false (sym h))
