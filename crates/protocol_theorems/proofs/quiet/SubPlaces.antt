-- A sub-batch is in one place: where its batch is not aborted, and not trimmed on the actor, it is on its way there
-- or on the schedule, once; else it is in neither. Of states alone.
use Rattle.std.specs.Prelude.{◌≡◌, refl, ℕ, zero, suc, ◌+◌, ◌<◌, ◌≤◌, ◌==◌, not, Bool, true, false, ◌&&◌, ◌||◌, if◌then◌else◌, ◌⊎◌, Option, Some, None, is_some, List, [], ◌∷◌, ◌++◌, length, map, filter, find, slice_index_or, slice_set}
use Rattle.std.specs.List.{AllByRecursion, list_any}
use Rattle.std.proofs.Common.{arith, sym, ap, subst, inl, inr, ◌∙◌}
use Rattle.std.proofs.lemmas.List.{get_or-set_same, get_or-set_other}
use Rattle.std.proofs.lemmas.Bool.{eqb-true, eqb-false, eq-eqb, ne_eqb, and_parts, true≢false, cases_Bool, cases_lt}
use Rattle.protocol.specs.Cutting.{Ascends}
use Rattle.protocol.specs.Rivals.{Lock}
use Rattle.protocol.specs.Fixed.{Fixed, Next, Go, Ended}
use Rattle.protocol.specs.Parts.{Ring, SubBatch, Cascade, Declared, Batch, Committing, Settled, Entry, BatchEntry, ActEntry, Outcome, Cell, Machine}
use Rattle.protocol.specs.Events.{Event, Form, Arrive, Ask, Take, Run, Send, End, Close, Complete, Note, Commit, Settle, Abort, Rollback, DropSub, Finish, Trim}
use Rattle.protocol.specs.Words.{holds, count, is_among, covers, is_aborted, sub_of, without_sub, batch_of, declared_of, is_batch_entry, is_act_entry, has_act, outcome_of, batches_on, below, lock_of}
use Rattle.protocol.specs.Conditions.{IsAllowed, conditions, epoch}
use Rattle.protocol.specs.Effects.{after, cell_at, no_cell}
use Rattle.protocol.specs.Numbers.{times, one_if}
use Rattle.protocol.specs.OnBook as book
use Rattle.protocol.specs.OnRing as ring
use Rattle.protocol.specs.OnDesk as desk
use Rattle.protocol.specs.OnCell as cell
use Rattle.protocol_laws.specs.Places.{FitsCell}
use Rattle.protocol_laws.proofs.first.Times
use Rattle.protocol_laws.proofs.first.EpochsKept as epochs
use Rattle.protocol_laws.proofs.first.SettlingKeys as keys
use Rattle.protocol_laws.proofs.machine.PlaceLists
use Rattle.protocol_laws.proofs.machine.TracksKept.{arrives}
use Rattle.protocol_theorems.proofs.quiet.RowsKept as rows
use Rattle.protocol_theorems.proofs.quiet.ActsKnown.{one_of}
use Rattle.protocol_theorems.proofs.quiet.BatchesKnown as known
use Rattle.protocol_laws.proofs.first.Statuses.{if_bid}
use Rattle.protocol_laws.proofs.first.CellEpochs.{on_append}
use Rattle.protocol_theorems.proofs.quiet.LimitsHold.{count_cons}

-- ---- words

abbrev pub is_to : ℕ → ℕ → SubBatch → Bool
is_to k a m = (m.bid == k) && (m.actor == a)

abbrev pub on_post : ℕ → ℕ → List SubBatch → ℕ
on_post k a subs = count (is_to k a) subs

abbrev pub waits_at : ℕ → ℕ → List Batch → Bool
waits_at k a bs = holds (λ b. holds (λ p. not p.trimmed) (declared_of a b)) (batch_of k bs)

-- of one actor
abbrev pub OneAt : List SubBatch → List Batch → List Cascade → ℕ → List Entry → Type 0
OneAt subs bs cs a es = (k : ℕ) → is_aborted k cs ≡ false → on_post k a subs + times k (batches_on es) ≡ one_if (waits_at k a bs)

unfoldable pub InOnePlace : {C : Type 0} → Machine C → Type 0
InOnePlace s = (a : ℕ) → OneAt s.post.subs s.desk.batches s.book.cascades a (cell_at s a).entries

-- ---- counts

pub count_join : {X : Type 0} (p : X → Bool) (xs ys : List X) → count p (xs ++ ys) ≡ count p xs + count p ys
count_join p [] ys = omega arith
count_join p (x ∷ xs) ys = omega (arith, count_cons p x xs, count_cons p x (xs ++ ys), count_join p xs ys)

pub count_gone : {X : Type 0} (p : X → Bool) (xs : List X) → count p (filter (λ x. not (p x)) xs) ≡ 0
count_gone p [] = refl
count_gone p (x ∷ xs) = by (p x) refl (count_gone p xs)
  where
    by : (b : Bool) → p x ≡ b → count p (filter (λ x. not (p x)) xs) ≡ 0 → count p (if not b then x ∷ filter (λ x. not (p x)) xs else filter (λ x. not (p x)) xs) ≡ 0
    by true e h = h
    by false e h = omega (arith, h, count_cons p x (filter (λ x. not (p x)) xs), ap one_if e)

pub count_other : {X : Type 0} (p q : X → Bool) (xs : List X) → ((x : X) → p x ≡ true → q x ≡ false) → count p (filter (λ x. not (q x)) xs) ≡ count p xs
count_other p q [] k = refl
count_other p q (x ∷ xs) k = by (q x) refl (p x) refl (count_other p q xs k)
  where
    by : (b : Bool) → q x ≡ b → (c : Bool) → p x ≡ c → count p (filter (λ x. not (q x)) xs) ≡ count p xs → count p (if not b then x ∷ filter (λ x. not (q x)) xs else filter (λ x. not (q x)) xs) ≡ count p (x ∷ xs)
    by false e c f h = omega (arith, h, count_cons p x xs, count_cons p x (filter (λ x. not (q x)) xs))
    by true e true f h = absurd (true≢false (sym e ∙ k x f))
    by true e false f h = omega (arith, h, count_cons p x xs, ap one_if f)

pub count_found : {X : Type 0} (p : X → Bool) (xs : List X) → is_some (find p xs) ≡ true → 1 ≤ count p xs
count_found p [] h = absurd (true≢false (sym h))
count_found p (x ∷ xs) h = by (p x) h (count_found p xs)
  where
    by : (b : Bool) → is_some (if b then Some x else find p xs) ≡ true → (is_some (find p xs) ≡ true → 1 ≤ count p xs) → 1 ≤ length (if b then x ∷ filter p xs else filter p xs)
    by true e k = omega arith
    by false e k = k e

pub found_count : {X : Type 0} (p : X → Bool) (xs : List X) → 1 ≤ count p xs → is_some (find p xs) ≡ true
found_count p [] h = absurd (omega (arith, h))
found_count p (x ∷ xs) h = by (p x) h (found_count p xs)
  where
    by : (b : Bool) → 1 ≤ length (if b then x ∷ filter p xs else filter p xs) → (1 ≤ count p xs → is_some (find p xs) ≡ true) → is_some (if b then Some x else find p xs) ≡ true
    by true e k = refl
    by false e k = k e

pub one_most : (b : Bool) → one_if b ≤ 1
one_most true = omega arith
one_most false = omega arith

-- ---- schedules

pub acts_only : (t : Lock) (o : Option ℕ) (es : List Entry) → batches_on (es ++ cell.act_entries t o) ≡ batches_on es
acts_only t None es = on_append es (cell.act_entries t None) ∙ Rattle.std.proofs.lemmas.List.append-nil (batches_on es)
acts_only t (Some x) es = ap batches_on (Rattle.std.proofs.lemmas.List.append-nil es)

pub times_arrived : (j k : ℕ) (es : List Entry) (o : Option SubBatch) → is_some o ≡ true → times j (batches_on (es ++ cell.batch_entries k o)) ≡ times j (batches_on es) + one_if (k == j)
times_arrived j k es None h = absurd (true≢false (sym h))
times_arrived j k es (Some m) h = ap (times j) (on_append es (cell.batch_entries k (Some m))) ∙ omega (arith, Times.times_append j (batches_on es) (k ∷ []), Times.times_cons j k [])

pub times_without : (j k : ℕ) (es : List Entry) → times j (batches_on (filter (λ e. not (is_batch_entry k e)) es)) + (if k == j then times j (batches_on es) else 0) ≡ times j (batches_on es)
times_without j k [] = by (k == j)
  where
    by : (v : Bool) → 0 + (if v then 0 else 0) ≡ 0
    by true = refl
    by false = refl
times_without j k (ActEntry x ∷ es) = times_without j k es
times_without j k (BatchEntry b ∷ es) = by (k == j) refl (b.bid == k) refl (times_without j k es)
  where
    rest : List ℕ
    rest = batches_on (filter (λ e. not (is_batch_entry k e)) es)

    by : (v : Bool) → (k == j) ≡ v → (u : Bool) → (b.bid == k) ≡ u → times j rest + (if v then times j (batches_on es) else 0) ≡ times j (batches_on es) → times j (batches_on (if not u then BatchEntry b ∷ filter (λ e. not (is_batch_entry k e)) es else filter (λ e. not (is_batch_entry k e)) es)) + (if v then times j (b.bid ∷ batches_on es) else 0) ≡ times j (b.bid ∷ batches_on es)
    by true e true f h = omega (arith, h, Times.times_cons j b.bid (batches_on es))
    by true e false f h = omega (arith, h, Times.times_cons j b.bid (batches_on es), Times.times_cons j b.bid rest, ap one_if (ne_eqb b.bid j (λ q. eqb-false b.bid k f (q ∙ sym (eqb-true k j e)))))
    by false e true f h = omega (arith, h, Times.times_cons j b.bid (batches_on es), ap one_if (ne_eqb b.bid j (λ q. eqb-false k j e (sym (eqb-true b.bid k f) ∙ q))))
    by false e false f h = omega (arith, h, Times.times_cons j b.bid (batches_on es), Times.times_cons j b.bid rest)

none_times : (k : ℕ) (ks : List ℕ) → AllByRecursion (λ j. j ≡ k → ⊥) ks → times k ks ≡ 0
none_times k [] h = refl
none_times k (x ∷ ks) h = omega (arith, Times.times_cons k x ks, none_times k ks h.1, ap one_if (ne_eqb x k h.0))

all_each2 : (P Q R : ℕ → Type 0) (ks : List ℕ) → ((k : ℕ) → P k → Q k → R k) → AllByRecursion P ks → AllByRecursion Q ks → AllByRecursion R ks
all_each2 P Q R [] f h g = tt
all_each2 P Q R (k ∷ ks) f h g = (f k h.0 g.0, all_each2 P Q R ks f h.1 g.1)

-- behind an aborted batch all are aborted: who is not aborted stays
pub times_staying : (next : ℕ) (cs : List Cascade) (ep tail k : ℕ) (es : List Entry) → is_aborted k cs ≡ false → AllByRecursion (FitsCell next cs ep tail) (batches_on es) → Ascends (batches_on es) → times k (batches_on (cell.staying cs es)) ≡ times k (batches_on es)
times_staying next cs ep tail k [] n f a = refl
times_staying next cs ep tail k (ActEntry x ∷ es) n f a = times_staying next cs ep tail k es n f a
times_staying next cs ep tail k (BatchEntry b ∷ es) n f a = by (is_aborted b.bid cs) refl (times_staying next cs ep tail k es n f.1 a.1)
  where
    by : (v : Bool) → is_aborted b.bid cs ≡ v → times k (batches_on (cell.staying cs es)) ≡ times k (batches_on es) → times k (batches_on (if v then [] else BatchEntry b ∷ cell.staying cs es)) ≡ times k (b.bid ∷ batches_on es)
    by false e h = omega (arith, h, Times.times_cons k b.bid (batches_on es), Times.times_cons k b.bid (batches_on (cell.staying cs es)))
    by true e h = sym (none_times k (b.bid ∷ batches_on es) (
      λ q. true≢false (sym (subst (λ z. is_aborted z cs ≡ true) q e) ∙ n),
      all_each2 (λ j. b.bid < j) (FitsCell next cs ep tail) (λ j. j ≡ k → ⊥) (batches_on es) (λ j l g q. true≢false (sym (subst (λ z. is_aborted z cs ≡ true) q (PlaceLists.suffix b.bid j cs e (omega (arith, l)) (omega (arith, f.0.aborted e, g.placed)))) ∙ n)) a.0 f.1,
    ))

-- ---- the desk

pub waits_map : (k a : ℕ) (f : Batch → Batch) (bs : List Batch) → ((b : Batch) → (f b).bid ≡ b.bid) → ((b : Batch) → (b.bid == k) ≡ true → holds (λ p. not p.trimmed) (declared_of a (f b)) ≡ holds (λ p. not p.trimmed) (declared_of a b)) → waits_at k a (map f bs) ≡ waits_at k a bs
waits_map k a f [] i h = refl
waits_map k a f (x ∷ bs) i h = subst (λ z. holds (λ b. holds (λ p. not p.trimmed) (declared_of a b)) (if z == k then Some (f x) else batch_of k (map f bs)) ≡ waits_at k a (x ∷ bs)) (sym (i x)) (by (x.bid == k) refl (waits_map k a f bs i h))
  where
    by : (v : Bool) → (x.bid == k) ≡ v → waits_at k a (map f bs) ≡ waits_at k a bs → holds (λ b. holds (λ p. not p.trimmed) (declared_of a b)) (if v then Some (f x) else batch_of k (map f bs)) ≡ holds (λ b. holds (λ p. not p.trimmed) (declared_of a b)) (if v then Some x else batch_of k bs)
    by true e g = h x e
    by false e g = g

pub if_waits : (v : Bool) (a : ℕ) (f : Batch → Batch) (b : Batch) → holds (λ p. not p.trimmed) (declared_of a (f b)) ≡ holds (λ p. not p.trimmed) (declared_of a b) → holds (λ p. not p.trimmed) (declared_of a (desk.change_if v f b)) ≡ holds (λ p. not p.trimmed) (declared_of a b)
if_waits true a f b h = h
if_waits false a f b h = refl

pub if_actor : (v : Bool) (f : Declared → Declared) (p : Declared) → (f p).actor ≡ p.actor → (desk.mark_if v f p).actor ≡ p.actor
if_actor true f p h = h
if_actor false f p h = refl

-- a mark elsewhere, or of another kind
pub marked_waits : (a c : ℕ) (f : Declared → Declared) (ps : List Declared) → ((p : Declared) → (f p).actor ≡ p.actor) → ((p : Declared) → (p.actor == a) ≡ true → (desk.mark_if (p.actor == c) f p).trimmed ≡ p.trimmed) → holds (λ p. not p.trimmed) (find (λ p. p.actor == a) (map (λ p. desk.mark_if (p.actor == c) f p) ps)) ≡ holds (λ p. not p.trimmed) (find (λ p. p.actor == a) ps)
marked_waits a c f [] i h = refl
marked_waits a c f (p ∷ ps) i h = subst (λ z. holds (λ p. not p.trimmed) (if z == a then Some (desk.mark_if (p.actor == c) f p) else find (λ p. p.actor == a) (map (λ p. desk.mark_if (p.actor == c) f p) ps)) ≡ holds (λ p. not p.trimmed) (find (λ p. p.actor == a) (p ∷ ps))) (sym (if_actor (p.actor == c) f p (i p))) (by (p.actor == a) refl (marked_waits a c f ps i h))
  where
    by : (v : Bool) → (p.actor == a) ≡ v → holds (λ p. not p.trimmed) (find (λ p. p.actor == a) (map (λ p. desk.mark_if (p.actor == c) f p) ps)) ≡ holds (λ p. not p.trimmed) (find (λ p. p.actor == a) ps) → holds (λ p. not p.trimmed) (if v then Some (desk.mark_if (p.actor == c) f p) else find (λ p. p.actor == a) (map (λ p. desk.mark_if (p.actor == c) f p) ps)) ≡ holds (λ p. not p.trimmed) (if v then Some p else find (λ p. p.actor == a) ps)
    by true e g = ap not (h p e)
    by false e g = g

-- trimmed there
trimmed_there : (a : ℕ) (ps : List Declared) → holds (λ p. not p.trimmed) (find (λ p. p.actor == a) (map (λ p. desk.mark_if (p.actor == a) desk.is_trimmed p) ps)) ≡ false
trimmed_there a [] = refl
trimmed_there a (p ∷ ps) = subst (λ z. holds (λ p. not p.trimmed) (if z == a then Some (desk.mark_if (p.actor == a) desk.is_trimmed p) else find (λ p. p.actor == a) (map (λ p. desk.mark_if (p.actor == a) desk.is_trimmed p) ps)) ≡ false) (sym (if_actor (p.actor == a) desk.is_trimmed p refl)) (by (p.actor == a) (trimmed_there a ps))
  where
    by : (v : Bool) → holds (λ p. not p.trimmed) (find (λ p. p.actor == a) (map (λ p. desk.mark_if (p.actor == a) desk.is_trimmed p) ps)) ≡ false → holds (λ p. not p.trimmed) (if v then Some (desk.mark_if v desk.is_trimmed p) else find (λ p. p.actor == a) (map (λ p. desk.mark_if (p.actor == a) desk.is_trimmed p) ps)) ≡ false
    by true h = refl
    by false h = h

pub trimmed_waits : (k a : ℕ) (bs : List Batch) → waits_at k a (desk.changed_batch k (desk.marked a desk.is_trimmed) bs) ≡ false
trimmed_waits k a [] = refl
trimmed_waits k a (x ∷ bs) = subst (λ z. holds (λ b. holds (λ p. not p.trimmed) (declared_of a b)) (if z == k then Some (desk.change_if (x.bid == k) (desk.marked a desk.is_trimmed) x) else batch_of k (desk.changed_batch k (desk.marked a desk.is_trimmed) bs)) ≡ false) (sym (if_bid (x.bid == k) (desk.marked a desk.is_trimmed) x refl)) (by (x.bid == k) (trimmed_waits k a bs))
  where
    by : (v : Bool) → waits_at k a (desk.changed_batch k (desk.marked a desk.is_trimmed) bs) ≡ false → holds (λ b. holds (λ p. not p.trimmed) (declared_of a b)) (if v then Some (desk.change_if v (desk.marked a desk.is_trimmed) x) else batch_of k (desk.changed_batch k (desk.marked a desk.is_trimmed) bs)) ≡ false
    by true h = trimmed_there a x.places
    by false h = h

noted_waits : {C : Type 0} (k a t : ℕ) (n : Next C) (bs : List Batch) → waits_at k a (desk.noted_for t n bs) ≡ waits_at k a bs
noted_waits k a t (Go b d) bs = refl
noted_waits k a t (Ended r) bs = waits_map k a (desk.with_results t r) bs (λ b. refl) (λ b e. refl)

pub ended_waits : {C : Type 0} (k a : ℕ) (v : Bool) (t : ℕ) (o : Option (Outcome C)) (bs : List Batch) → waits_at k a (if v then bs else desk.noted_from t o bs) ≡ waits_at k a bs
ended_waits k a true t o bs = refl
ended_waits k a false t None bs = refl
ended_waits k a false t (Some x) bs = noted_waits k a t x.next bs

-- ---- a new batch

pub other_batch : (k : ℕ) (n : Batch) (bs : List Batch) → (n.bid == k) ≡ false → batch_of k (bs ++ n ∷ []) ≡ batch_of k bs
other_batch k n [] e = rw e refl
other_batch k n (x ∷ bs) e = by (x.bid == k) (other_batch k n bs e)
  where
    by : (v : Bool) → batch_of k (bs ++ n ∷ []) ≡ batch_of k bs → (if v then Some x else batch_of k (bs ++ n ∷ [])) ≡ (if v then Some x else batch_of k bs)
    by true h = refl
    by false h = h

pub new_batch : (k : ℕ) (n : Batch) (bs : List Batch) → n.bid ≡ k → AllByRecursion (λ j. j < k) (map (λ b. b.bid) bs) → (batch_of k bs ≡ None) × (batch_of k (bs ++ n ∷ []) ≡ Some n)
new_batch k n [] e h = (refl, rw (eq-eqb n.bid k e) refl)
new_batch k n (x ∷ bs) e h = let q : (x.bid == k) ≡ false = ne_eqb x.bid k (λ v. omega (arith, v, h.0)) in let r = new_batch k n bs e h.1 in (rw q r.0, rw q r.1)

pub new_subs : {C : Type 0} (w : Fixed C) (k j a : ℕ) (r : Ring) (xs : List ℕ) → on_post j a (map (ring.first_sub w.text k r) xs) ≡ (if k == j then times a xs else 0)
new_subs w k j a r [] = by (k == j)
  where
    by : (v : Bool) → ◌≡◌ {A = ℕ} 0 (if v then 0 else 0)
    by true = refl
    by false = refl
new_subs w k j a r (x ∷ xs) = by (k == j) refl (new_subs w k j a r xs) (count_cons (is_to j a) (ring.first_sub w.text k r x) (map (ring.first_sub w.text k r) xs))
  where
    by : (v : Bool) → (k == j) ≡ v → on_post j a (map (ring.first_sub w.text k r) xs) ≡ (if v then times a xs else 0) → on_post j a (map (ring.first_sub w.text k r) (x ∷ xs)) ≡ one_if ((k == j) && (x == a)) + on_post j a (map (ring.first_sub w.text k r) xs) → on_post j a (map (ring.first_sub w.text k r) (x ∷ xs)) ≡ (if v then times a (x ∷ xs) else 0)
    by true e h c = omega (arith, h, c, Times.times_cons a x xs, ap (λ z. one_if (z && (x == a))) e)
    by false e h c = omega (arith, h, c, ap (λ z. one_if (z && (x == a))) e)

pub declared_new : (a : ℕ) (xs : List ℕ) → holds (λ p. not p.trimmed) (find (λ p. p.actor == a) (map desk.new_declared xs)) ≡ is_among a xs
declared_new a [] = refl
declared_new a (x ∷ xs) = by (x == a) (declared_new a xs)
  where
    by : (v : Bool) → holds (λ p. not p.trimmed) (find (λ p. p.actor == a) (map desk.new_declared xs)) ≡ is_among a xs → holds (λ p. not p.trimmed) (if v then Some (desk.new_declared x) else find (λ p. p.actor == a) (map desk.new_declared xs)) ≡ (v || is_among a xs)
    by true h = refl
    by false h = h

once_among : (a : ℕ) (xs : List ℕ) → times a xs ≤ 1 → times a xs ≡ one_if (is_among a xs)
once_among a [] l = refl
once_among a (x ∷ xs) l = by (x == a) (omega (arith, l, Times.times_cons a x xs)) (once_among a xs) (Times.times_cons a x xs)
  where
    by : (v : Bool) → one_if v + times a xs ≤ 1 → (times a xs ≤ 1 → times a xs ≡ one_if (is_among a xs)) → times a (x ∷ xs) ≡ one_if v + times a xs → times a (x ∷ xs) ≡ one_if (v || is_among a xs)
    by true m h c = omega (arith, c, m)
    by false m h c = omega (arith, c, h (omega (arith, m)))

-- ---- every event

-- what is not on its way where it is trimmed
unfoldable pub TrimOwed : {C : Type 0} → Event → Machine C → Type 0
TrimOwed (Trim k a) s = sub_of k a s.post.subs ≡ None
TrimOwed _ s = Unit {0}

pub not_both : (k j a b : ℕ) → ((k == j) && (a == b)) ≡ false → (m : SubBatch) → is_to j b m ≡ true → is_to k a m ≡ false
not_both k j a b e m h = by (m.bid == k) refl (m.actor == a) refl
  where
    p : ((m.bid == j) ≡ true) × ((m.actor == b) ≡ true)
    p = and_parts (m.bid == j) (m.actor == b) h

    by : (u : Bool) → (m.bid == k) ≡ u → (v : Bool) → (m.actor == a) ≡ v → (u && v) ≡ false
    by false f v g = refl
    by true f false g = refl
    by true f true g = absurd (true≢false (sym (rw (eq-eqb k j (sym (eqb-true m.bid k f) ∙ eqb-true m.bid j p.0), eq-eqb a b (sym (eqb-true m.actor a g) ∙ eqb-true m.actor b p.1)) refl) ∙ e))

pub fewer_aborted : (k : ℕ) (cs : List Cascade) (c : Cascade) → is_aborted k (cs ++ c ∷ []) ≡ false → is_aborted k cs ≡ false
fewer_aborted k cs c e = by (is_aborted k cs) (sym (keys.aborted_more k cs c) ∙ e)
  where
    by : (v : Bool) → (v || covers k c) ≡ false → v ≡ false
    by true h = h
    by false h = refl

-- who is formed next has not been aborted, and is of no batch
form_one : {C : Type 0} (w : Fixed C) (k : ℕ) (s : Machine C) (a : ℕ) (es : List Entry) → k ≡ s.ring.next_bid → epochs.Agreeing s → OneAt s.post.subs s.desk.batches s.book.cascades a es
    → OneAt (s.post.subs ++ map (ring.first_sub w.text k s.ring) (ring.next_actors w.text s.ring)) (s.desk.batches ++ desk.new_batch k (ring.next_actors w.text s.ring) (ring.next_pacts w.text s.ring) ∷ []) s.book.cascades a es
form_one w k s a es i g h j n = by (k == j) refl (new_subs w k j a s.ring (ring.next_actors w.text s.ring))
  where
    new : Batch
    new = desk.new_batch k (ring.next_actors w.text s.ring) (ring.next_pacts w.text s.ring)

    joined : on_post j a (s.post.subs ++ map (ring.first_sub w.text k s.ring) (ring.next_actors w.text s.ring)) ≡ on_post j a s.post.subs + on_post j a (map (ring.first_sub w.text k s.ring) (ring.next_actors w.text s.ring))
    joined = count_join (is_to j a) s.post.subs (map (ring.first_sub w.text k s.ring) (ring.next_actors w.text s.ring))

    by : (v : Bool) → (k == j) ≡ v → on_post j a (map (ring.first_sub w.text k s.ring) (ring.next_actors w.text s.ring)) ≡ (if v then times a (ring.next_actors w.text s.ring) else 0)
        → on_post j a (s.post.subs ++ map (ring.first_sub w.text k s.ring) (ring.next_actors w.text s.ring)) + times j (batches_on es) ≡ one_if (waits_at j a (s.desk.batches ++ new ∷ []))
    by false e q = omega (arith, joined, q, h j n, ap (λ z. one_if (holds (λ b. holds (λ p. not p.trimmed) (declared_of a b)) z)) (other_batch j new s.desk.batches e))
    by true e q =
        let m : k ≡ j = eqb-true k j e in
        let f = new_batch j new s.desk.batches m (subst (λ z. AllByRecursion (λ b. b < z) (map (λ b. b.bid) s.desk.batches)) (sym i ∙ m) (epochs.bids_below s g)) in
        omega (
          arith,
          joined,
          q,
          h j n,
          ap (λ z. one_if (holds (λ b. holds (λ p. not p.trimmed) (declared_of a b)) z)) f.0,
          ap (λ z. one_if (holds (λ b. holds (λ p. not p.trimmed) (declared_of a b)) z)) f.1,
          ap one_if (declared_new a (ring.next_actors w.text s.ring)),
          once_among a (ring.next_actors w.text s.ring) (omega (arith, known.times_filter a (λ a. list_any (ring.declares w.text a) (ring.next_pacts w.text s.ring)) (below (length s.ring.lasts)), known.one_below (length s.ring.lasts) a)),
        )

-- it leaves the post and stands on the schedule
arrive_one : (subs : List SubBatch) (bs : List Batch) (cs : List Cascade) (k a : ℕ) (es : List Entry) → is_some (sub_of k a subs) ≡ true → OneAt subs bs cs a es → OneAt (without_sub k a subs) bs cs a (es ++ cell.batch_entries k (sub_of k a subs))
arrive_one subs bs cs k a es o h j n = by (k == j) refl (times_arrived j k es (sub_of k a subs) o)
  where
    by : (v : Bool) → (k == j) ≡ v → times j (batches_on (es ++ cell.batch_entries k (sub_of k a subs))) ≡ times j (batches_on es) + one_if (k == j) → on_post j a (without_sub k a subs) + times j (batches_on (es ++ cell.batch_entries k (sub_of k a subs))) ≡ one_if (waits_at j a bs)
    by true e t =
        let m : k ≡ j = eqb-true k j e in
        let g : on_post j a (without_sub k a subs) ≡ 0 = subst (λ z. on_post z a (without_sub k a subs) ≡ 0) m (count_gone (is_to k a) subs) in
        let f : 1 ≤ on_post j a subs = subst (λ z. 1 ≤ on_post z a subs) m (count_found (is_to k a) subs o) in
        omega (arith, t, g, f, h j n, one_most (waits_at j a bs), ap one_if e)
    by false e t = omega (arith, t, h j n, ap one_if e, count_other (is_to j a) (is_to k a) subs (not_both k j a a (ap (λ z. z && (a == a)) e)))

-- elsewhere nothing changes
pub away : (subs : List SubBatch) (bs : List Batch) (cs : List Cascade) (k a b : ℕ) (es : List Entry) → (b == a) ≡ false → OneAt subs bs cs b es → OneAt (without_sub k a subs) bs cs b es
away subs bs cs k a b es e h j n = omega (arith, h j n, count_other (is_to j b) (is_to k a) subs (not_both k j a b (no (k == j) (ne_eqb a b (λ q. eqb-false b a e (sym q))))))
  where
    no : (v : Bool) → (a == b) ≡ false → (v && (a == b)) ≡ false
    no true q = q
    no false q = refl

same_waits : (subs : List SubBatch) (bs ds : List Batch) (cs : List Cascade) (a : ℕ) (es : List Entry) → ((k : ℕ) → waits_at k a ds ≡ waits_at k a bs) → OneAt subs bs cs a es → OneAt subs ds cs a es
same_waits subs bs ds cs a es e h k n = omega (arith, h k n, ap one_if (e k))

same_row : (subs : List SubBatch) (bs : List Batch) (cs : List Cascade) (a : ℕ) (es fs : List Entry) → batches_on fs ≡ batches_on es → OneAt subs bs cs a es → OneAt subs bs cs a fs
same_row subs bs cs a es fs e h k n = omega (arith, h k n, ap (times k) e)

ran : (subs : List SubBatch) (bs : List Batch) (cs : List Cascade) (a t : ℕ) (v : Bool) (es : List Entry) → OneAt subs bs cs a es → OneAt subs bs cs a (if v then map (cell.done_in t) es else es)
ran subs bs cs a t true es h = same_row subs bs cs a es (map (cell.done_in t) es) (rows.batches_done t es) h
ran subs bs cs a t false es h = h

pub trim_desk : (k a c j : ℕ) (bs : List Batch) → ((k == j) && (a == c)) ≡ false → waits_at j c (desk.changed_batch k (desk.marked a desk.is_trimmed) bs) ≡ waits_at j c bs
trim_desk k a c j bs e = waits_map j c (λ b. desk.change_if (b.bid == k) (desk.marked a desk.is_trimmed) b) bs (λ b. if_bid (b.bid == k) (desk.marked a desk.is_trimmed) b refl) (λ b i. by b i (b.bid == k) refl)
  where
    other : (b : Batch) (p : Declared) → (b.bid == j) ≡ true → (b.bid == k) ≡ true → (p.actor == c) ≡ true → (v : Bool) → (p.actor == a) ≡ v → (desk.mark_if v desk.is_trimmed p).trimmed ≡ p.trimmed
    other b p i m q false g = refl
    other b p i m q true g = absurd (true≢false (sym (rw (eq-eqb k j (sym (eqb-true b.bid k m) ∙ eqb-true b.bid j i), eq-eqb a c (sym (eqb-true p.actor a g) ∙ eqb-true p.actor c q)) refl) ∙ e))

    by : (b : Batch) → (b.bid == j) ≡ true → (v : Bool) → (b.bid == k) ≡ v → holds (λ p. not p.trimmed) (declared_of c (desk.change_if v (desk.marked a desk.is_trimmed) b)) ≡ holds (λ p. not p.trimmed) (declared_of c b)
    by b i false m = refl
    by b i true m = marked_waits c a desk.is_trimmed b.places (λ p. refl) (λ p q. other b p i m q (p.actor == a) refl)

trim_one : (subs : List SubBatch) (bs : List Batch) (cs : List Cascade) (k a : ℕ) (es : List Entry) → sub_of k a subs ≡ None → OneAt subs bs cs a es → OneAt subs (desk.changed_batch k (desk.marked a desk.is_trimmed) bs) cs a (filter (λ e. not (is_batch_entry k e)) es)
trim_one subs bs cs k a es o h j n = by (k == j) refl (times_without j k es)
  where
    by : (v : Bool) → (k == j) ≡ v → times j (batches_on (filter (λ e. not (is_batch_entry k e)) es)) + (if v then times j (batches_on es) else 0) ≡ times j (batches_on es) → on_post j a subs + times j (batches_on (filter (λ e. not (is_batch_entry k e)) es)) ≡ one_if (waits_at j a (desk.changed_batch k (desk.marked a desk.is_trimmed) bs))
    by true e t =
        let m : k ≡ j = eqb-true k j e in
        let z : on_post j a subs ≡ 0 = subst (λ z. on_post z a subs ≡ 0) m (none (cases_lt 0 (on_post k a subs))) in
        omega (arith, t, z, ap one_if (subst (λ z. waits_at z a (desk.changed_batch k (desk.marked a desk.is_trimmed) bs) ≡ false) m (trimmed_waits k a bs)))
      where
        none : (0 < on_post k a subs) ⊎ (on_post k a subs ≤ 0) → on_post k a subs ≡ 0
        none (inl l) = absurd (true≢false (sym (found_count (is_to k a) subs (omega (arith, l))) ∙ ap is_some o))
        none (inr l) = omega (arith, l)
    by false e t = omega (arith, t, h j n, ap one_if (trim_desk k a a j bs (ap (λ z. z && (a == a)) e)))

trimmed_row : {C : Type 0} (k a : ℕ) (cs : List (Cell C)) → (slice_index_or (slice_set cs a (cell.batch_left k (slice_index_or cs a no_cell))) a no_cell).entries ≡ filter (λ e. not (is_batch_entry k e)) (slice_index_or cs a no_cell).entries
trimmed_row k a [] = refl
trimmed_row k zero (c ∷ cs) = refl
trimmed_row k (suc a) (c ∷ cs) = trimmed_row k a cs

pub one_place_kept : {C : Type 0} (w : Fixed C) (e : Event) (s : Machine C) → IsAllowed w e s → TrimOwed e s → epochs.Agreeing s → rows.Rows s → InOnePlace s → InOnePlace (after w e s)
unfolding InOnePlace TrimOwed rows.Rows conditions after
one_place_kept w (Form k) s ok more g r h = λ a. form_one w k s a (cell_at s a).entries (eqb-true k s.ring.next_bid ok.0) g (h a)
one_place_kept w (Arrive k a) s ok more g r h = λ b. elim (cases_Bool (b == a)) [
  | inl e ↦ let q : b ≡ a = eqb-true b a e in subst (λ z. OneAt (without_sub k a s.post.subs) s.desk.batches s.book.cascades z (slice_index_or (slice_set s.cells a (cell.batch_placed k (sub_of k a s.post.subs) (cell_at s a))) z no_cell).entries) (sym q)
      (subst (λ c. OneAt (without_sub k a s.post.subs) s.desk.batches s.book.cascades a c.entries) (sym (get_or-set_same s.cells a (cell.batch_placed k (sub_of k a s.post.subs) (cell_at s a)) no_cell (arrives (epoch s.book) a (λ c. c.epoch == epoch s.book) s.cells (sub_of k a s.post.subs) ok.1.1.0))) (arrive_one s.post.subs s.desk.batches s.book.cascades k a (cell_at s a).entries ok.0 (h a)))
  | inr e ↦ subst (λ c. OneAt (without_sub k a s.post.subs) s.desk.batches s.book.cascades b c.entries) (sym (get_or-set_other s.cells a b (cell.batch_placed k (sub_of k a s.post.subs) (cell_at s a)) no_cell (eqb-false b a e))) (away s.post.subs s.desk.batches s.book.cascades k a b (cell_at s b).entries e (h b))
]
one_place_kept w (Ask t a) s ok more g r h = one_of (λ b c. OneAt s.post.subs s.desk.batches s.book.cascades b c.entries) no_cell s.cells a _ (λ x. same_row s.post.subs s.desk.batches s.book.cascades a (cell_at s a).entries ((cell_at s a).entries ++ cell.act_entries (lock_of t s.book.acts) (book.in_the_way (lock_of t s.book.acts) (cell_at s a).entries)) (acts_only (lock_of t s.book.acts) (book.in_the_way (lock_of t s.book.acts) (cell_at s a).entries) (cell_at s a).entries) x) h
one_place_kept w (Take t a) s ok more g r h = one_of (λ b c. OneAt s.post.subs s.desk.batches s.book.cascades b c.entries) no_cell s.cells a _ (λ x. x) h
one_place_kept w (Run t a) s ok more g r h = one_of (λ b c. OneAt s.post.subs s.desk.batches s.book.cascades b c.entries) no_cell s.cells a (cell.slice_run w.code t a (cell_at s a)) (λ x. ran s.post.subs s.desk.batches s.book.cascades a t (cell.is_done_after w.code a (cell.slice_of w.code t (cell_at s a))) (cell_at s a).entries x) h
one_place_kept w (Send t a) s ok more g r h = one_of (λ b c. OneAt s.post.subs s.desk.batches s.book.cascades b c.entries) no_cell s.cells a _ (λ x. x) h
one_place_kept w (End t a) s ok more g r h = one_of (λ b c. OneAt s.post.subs (desk.pact_ended t (has_act t (cell_at s a).entries) (outcome_of t (cell_at s a).outbox) s.desk).batches s.book.cascades b c.entries) no_cell s.cells a _ (λ x. x) (λ b. same_waits s.post.subs s.desk.batches (desk.pact_ended t (has_act t (cell_at s a).entries) (outcome_of t (cell_at s a).outbox) s.desk).batches s.book.cascades b (cell_at s b).entries (λ k. ended_waits k b (has_act t (cell_at s a).entries) t (outcome_of t (cell_at s a).outbox) s.desk.batches) (h b))
one_place_kept w (Close t a) s ok more g r h = one_of (λ b c. OneAt s.post.subs s.desk.batches s.book.cascades b c.entries) no_cell s.cells a _ (λ x. ran s.post.subs s.desk.batches s.book.cascades a t true (cell_at s a).entries x) h
one_place_kept w (Complete k a) s ok more g r h = one_of (λ b c. OneAt s.post.subs s.desk.batches s.book.cascades b c.entries) no_cell s.cells a _ (λ x. same_row s.post.subs s.desk.batches s.book.cascades a (cell_at s a).entries (map (cell.complete_in k) (cell_at s a).entries) (rows.batches_complete k (cell_at s a).entries) x) h
one_place_kept w (Note k a) s ok more g r h = λ b. same_waits s.post.subs s.desk.batches (desk.changed_batch k (desk.marked a desk.is_noted) s.desk.batches) s.book.cascades b (cell_at s b).entries (λ j. waits_map j b (λ x. desk.change_if (x.bid == k) (desk.marked a desk.is_noted) x) s.desk.batches (λ x. if_bid (x.bid == k) (desk.marked a desk.is_noted) x refl) (λ x e. if_waits (x.bid == k) b (desk.marked a desk.is_noted) x (marked_waits b a desk.is_noted x.places (λ p. refl) (λ p q. if_trim (p.actor == a) p)))) (h b)
  where
    if_trim : (v : Bool) (p : Declared) → (desk.mark_if v desk.is_noted p).trimmed ≡ p.trimmed
    if_trim true p = refl
    if_trim false p = refl
one_place_kept w (Commit k) s ok more g r h = λ b. same_waits s.post.subs s.desk.batches (desk.changed_batch k (desk.with_stage Committing) s.desk.batches) s.book.cascades b (cell_at s b).entries (λ j. waits_map j b (λ x. desk.change_if (x.bid == k) (desk.with_stage Committing) x) s.desk.batches (λ x. if_bid (x.bid == k) (desk.with_stage Committing) x refl) (λ x e. if_waits (x.bid == k) b (desk.with_stage Committing) x refl)) (h b)
one_place_kept w (Settle k) s ok more g r h = λ b. same_waits s.post.subs s.desk.batches (desk.changed_batch k (desk.with_stage Settled) s.desk.batches) s.book.cascades b (cell_at s b).entries (λ j. waits_map j b (λ x. desk.change_if (x.bid == k) (desk.with_stage Settled) x) s.desk.batches (λ x. if_bid (x.bid == k) (desk.with_stage Settled) x refl) (λ x e. if_waits (x.bid == k) b (desk.with_stage Settled) x refl)) (h b)
one_place_kept w (Abort k) s ok more g r h = λ b j n. omega (arith, h b j (fewer_aborted j s.book.cascades _ n), ap one_if (waits_map j b (desk.taken k) s.desk.batches (λ x. refl) (λ x e. refl)))
one_place_kept w (Rollback a) s ok more g r h = one_of (λ b c. OneAt s.post.subs s.desk.batches s.book.cascades b c.entries) no_cell s.cells a _ (λ x k n. omega (arith, x k n, times_staying _ s.book.cascades _ _ k (cell_at s a).entries n (subst (AllByRecursion _) (rows.row_batches (cell_at s a).entries) (r a).places.fit) (subst Ascends (rows.row_batches (cell_at s a).entries) (r a).places.ascends))) h
one_place_kept w (DropSub k a) s ok more g r h = λ b j n. omega (arith, h b j n, count_other (is_to j b) (is_to k a) s.post.subs (not_both k j a b (differs j b n)))
  where
    differs : (j b : ℕ) → is_aborted j s.book.cascades ≡ false → ((k == j) && (a == b)) ≡ false
    differs j b n = rw (ne_eqb k j (λ q. true≢false (sym (subst (λ z. is_aborted z s.book.cascades ≡ true) q ok.1.0) ∙ n))) refl
one_place_kept w (Finish t a) s ok more g r h = one_of (λ b c. OneAt s.post.subs s.desk.batches s.book.cascades b c.entries) no_cell s.cells a _ (λ x. same_row s.post.subs s.desk.batches s.book.cascades a (cell_at s a).entries (filter (λ e. not (is_act_entry t e)) (cell_at s a).entries) (rows.batches_without_act t (cell_at s a).entries) x) h
one_place_kept w (Trim k a) s ok more g r h = λ b. elim (cases_Bool (b == a)) [
  | inl e ↦ let q : b ≡ a = eqb-true b a e in subst (λ z. OneAt s.post.subs (desk.changed_batch k (desk.marked a desk.is_trimmed) s.desk.batches) s.book.cascades z (slice_index_or (slice_set s.cells a (cell.batch_left k (cell_at s a))) z no_cell).entries) (sym q) own
  | inr e ↦ subst (λ c. OneAt s.post.subs (desk.changed_batch k (desk.marked a desk.is_trimmed) s.desk.batches) s.book.cascades b c.entries) (sym (get_or-set_other s.cells a b (cell.batch_left k (cell_at s a)) no_cell (eqb-false b a e)))
      (same_waits s.post.subs s.desk.batches (desk.changed_batch k (desk.marked a desk.is_trimmed) s.desk.batches) s.book.cascades b (cell_at s b).entries (λ j. trim_desk k a b j s.desk.batches (no (k == j) (ne_eqb a b (λ q. eqb-false b a e (sym q))))) (h b))
]
  where
    no : {x : Bool} (v : Bool) → x ≡ false → (v && x) ≡ false
    no true q = q
    no false q = refl

    own : OneAt s.post.subs (desk.changed_batch k (desk.marked a desk.is_trimmed) s.desk.batches) s.book.cascades a (slice_index_or (slice_set s.cells a (cell.batch_left k (cell_at s a))) a no_cell).entries
    own = subst (λ z. OneAt s.post.subs (desk.changed_batch k (desk.marked a desk.is_trimmed) s.desk.batches) s.book.cascades a z) (sym (trimmed_row k a s.cells)) (trim_one s.post.subs s.desk.batches s.book.cascades k a (cell_at s a).entries more (h a))
one_place_kept w e s ok more g r h = h
