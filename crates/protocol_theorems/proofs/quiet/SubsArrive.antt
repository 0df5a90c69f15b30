-- A batch that is complete somewhere, by a record, stands there until it is aborted or trimmed: so a settled one is on
-- its way to no actor where it is not trimmed. Then a sub-batch is in one place after every run.
use Rattle.std.specs.Prelude.{◌≡◌, refl, ℕ, zero, suc, ◌+◌, ◌<◌, ◌≤◌, ◌%◌, ◌==◌, not, Bool, true, false, ◌&&◌, ◌||◌, if◌then◌else◌, ◌⊎◌, Option, Some, None, is_some, List, [], ◌∷◌, ◌++◌, map, filter, find, slice_index_or, slice_set, replicate}
use Rattle.std.specs.List.{AllByRecursion, list_any}
use Rattle.std.proofs.Common.{arith, sym, ap, subst, inl, inr, ◌∙◌}
use Rattle.std.proofs.lemmas.Bool.{eqb-true, eq-eqb, ne_eqb, and_parts, or_cases, true≢false, not-true, cases_lt}
use Rattle.protocol.specs.Cutting.{Ascends}
use Rattle.snap_base.proofs.Lists.{each_found}
use Rattle.protocol.specs.Fixed.{Fixed}
use Rattle.protocol.specs.Records.{LogRecord, ActDone, is_complete}
use Rattle.protocol.specs.Parts.{Act, SubBatch, Declared, Committing, Settled, Stage, Formed, Entry, BatchEntry, ActEntry, Machine}
use Rattle.protocol.specs.Events.{Event, Form, Arrive, Ask, Take, Run, Send, End, Close, Complete, Sync, Note, Commit, Settle, Abort, Rollback, Prepare, Decide, Finish, Trim}
use Rattle.protocol.specs.Words.{holds, is_among, is_aborted, is_value, is_formed, is_settled, sub_of, batch_of, declared_of, act_of, is_batch_entry, is_complete_batch, has_act, outcome_of, batches_on, value_of, lock_of}
use Rattle.protocol.specs.Conditions.{IsAllowed, conditions}
use Rattle.protocol.specs.Effects.{after, cell_at, log_at, no_cell, no_log, added, synced, act_commit, ascending}
use Rattle.protocol.specs.Numbers.{times, one_if}
use Rattle.protocol.specs.Runs.{opening}
use Rattle.protocol.specs.OnBook as book
use Rattle.protocol.specs.OnDesk as desk
use Rattle.protocol.specs.OnCell as cell
use Rattle.protocol_laws.specs.Places.{FitsCell}
use Rattle.protocol_laws.proofs.first.Times
use Rattle.protocol_laws.proofs.first.EpochsKept as epochs
use Rattle.protocol_laws.proofs.first.SettlingKept as settling
use Rattle.protocol_laws.proofs.machine.TracksKept.{held}
use Rattle.protocol_theorems.proofs.quiet.RowsKept as rows
use Rattle.protocol_theorems.proofs.quiet.QuietEasy.{found_at, all_in}
use Rattle.protocol_theorems.proofs.quiet.ActsKnown.{IsIn, one_of}
use Rattle.protocol_theorems.proofs.quiet.BatchesKnown as known
use Rattle.protocol_theorems.proofs.quiet.SubPlaces
use Rattle.protocol_laws.proofs.first.Lists.{any_join}
use Rattle.protocol_laws.proofs.first.Statuses.{if_bid}
use Rattle.protocol_laws.proofs.first.OneWay.{bid_went}
use Rattle.protocol_laws.proofs.machine.TurnsKept.{one_is}

-- ---- records come by Complete alone

abbrev pub IsCompleting : Event → ℕ → ℕ → Type 0
IsCompleting (Complete j b) k a = ((j == k) && (b == a)) ≡ true
IsCompleting _ k a = ⊥

more : {C : Type 0} (s : Machine C) (test : LogRecord → Bool) (j : ℕ) (rs : List LogRecord) (l : ℕ) → list_any test (slice_index_or (slice_set s.logs j (added rs (log_at s j))) l no_log).records ≡ true → (IsIn test l s) ⊎ (list_any test rs ≡ true)
more s test j rs l = one_of (λ b g. list_any test g.records ≡ true → (list_any test (log_at s b).records ≡ true) ⊎ (list_any test rs ≡ true)) no_log s.logs j (added rs (log_at s j)) (λ k i. any_join test (log_at s j).records rs i) (λ b i. inl i) l

only : {P : Type 0} → P ⊎ (false ≡ true) → P
only (inl p) = p
only (inr e) = absurd (true≢false (sym e))

no_complete : (k a c : ℕ) (o : Option Act) → list_any (is_complete k a) (act_commit c o) ≡ true → ⊥
no_complete k a c None h = true≢false (sym h)
no_complete k a c (Some x) h = by (is_value x.result) h
  where
    by : (v : Bool) → list_any (is_complete k a) (if v then ActDone x.tid x.m c (value_of x.result) (ascending (map (λ p. p.actor) x.places)) ∷ [] else []) ≡ true → ⊥
    by true g = true≢false (sym g)
    by false g = true≢false (sym g)

came : {C : Type 0} (w : Fixed C) (e : Event) (s : Machine C) (k a l : ℕ) → IsIn (is_complete k a) l (after w e s) → (IsIn (is_complete k a) l s) ⊎ IsCompleting e k a
unfolding after
came w (Form j) s k a l h = inl (only (more s (is_complete k a) (j % w.text.logs) _ l h))
came w (Complete j b) s k a l h = elim (more s (is_complete k a) (b % w.text.logs) _ l h) [ inl i ↦ inl i | inr i ↦ inr (elim (or_cases ((j == k) && (b == a)) false i) [ inl z ↦ z | inr z ↦ absurd (true≢false (sym z)) ]) ]
came w (Sync j) s k a l h = inl (one_of (λ b g. list_any (is_complete k a) g.records ≡ true → list_any (is_complete k a) (log_at s b).records ≡ true) no_log s.logs j (synced (log_at s j)) (λ k. λ i. i) (λ b i. i) l h)
came w (Commit j) s k a l h = inl (only (more s (is_complete k a) (j % w.text.logs) _ l h))
came w (Prepare t b) s k a l h = inl (only (more s (is_complete k a) (b % w.text.logs) _ l h))
came w (Decide t) s k a l h = elim (more s (is_complete k a) (t % w.text.logs) _ l h) [ inl i ↦ inl i | inr i ↦ absurd (no_complete k a s.book.next_c (act_of t s.book.acts) i) ]
came w e s k a l h = inl h

-- ---- who stands stays, but for Trim

abbrev pub NotTrim : ℕ → ℕ → Event → Type 0
NotTrim k a (Trim j b) = ((j == k) && (b == a)) ≡ false
NotTrim k a _ = Unit {0}

same : {x y : ℕ} → y ≡ x → x ≤ y
same e = omega (arith, e)

ran : (k t : ℕ) (v : Bool) (es : List Entry) → times k (batches_on es) ≤ times k (batches_on (if v then map (cell.done_in t) es else es))
ran k t true es = same (ap (times k) (rows.batches_done t es))
ran k t false es = omega arith

arrived : (j k : ℕ) (es : List Entry) (o : Option SubBatch) → is_some o ≡ true → times j (batches_on es) ≤ times j (batches_on (es ++ cell.batch_entries k o))
arrived j k es o i = omega (arith, SubPlaces.times_arrived j k es o i)

stands : {C : Type 0} (w : Fixed C) (e : Event) (s : Machine C) (k a : ℕ) → IsAllowed w e s → is_aborted k s.book.cascades ≡ false → rows.Rows s → NotTrim k a e → times k (batches_on (cell_at s a).entries) ≤ times k (batches_on (cell_at (after w e s) a).entries)
unfolding rows.Rows conditions after
stands w (Arrive j b) s k a ok n r m = one_of (λ i c. times k (batches_on (cell_at s i).entries) ≤ times k (batches_on c.entries)) no_cell s.cells b (cell.batch_placed j (sub_of j b s.post.subs) (cell_at s b)) (λ x. arrived k j (cell_at s b).entries (sub_of j b s.post.subs) ok.0) (λ i. omega arith) a
stands w (Ask t b) s k a ok n r m = one_of (λ i c. times k (batches_on (cell_at s i).entries) ≤ times k (batches_on c.entries)) no_cell s.cells b _ (λ x. same (ap (times k) (SubPlaces.acts_only (lock_of t s.book.acts) (book.in_the_way (lock_of t s.book.acts) (cell_at s b).entries) (cell_at s b).entries))) (λ i. omega arith) a
stands w (Take t b) s k a ok n r m = one_of (λ i c. times k (batches_on (cell_at s i).entries) ≤ times k (batches_on c.entries)) no_cell s.cells b _ (λ x. x) (λ i. omega arith) a
stands w (Run t b) s k a ok n r m = one_of (λ i c. times k (batches_on (cell_at s i).entries) ≤ times k (batches_on c.entries)) no_cell s.cells b (cell.slice_run w.code t b (cell_at s b)) (λ x. ran k t (cell.is_done_after w.code b (cell.slice_of w.code t (cell_at s b))) (cell_at s b).entries) (λ i. omega arith) a
stands w (Send t b) s k a ok n r m = one_of (λ i c. times k (batches_on (cell_at s i).entries) ≤ times k (batches_on c.entries)) no_cell s.cells b _ (λ x. x) (λ i. omega arith) a
stands w (End t b) s k a ok n r m = one_of (λ i c. times k (batches_on (cell_at s i).entries) ≤ times k (batches_on c.entries)) no_cell s.cells b _ (λ x. x) (λ i. omega arith) a
stands w (Close t b) s k a ok n r m = one_of (λ i c. times k (batches_on (cell_at s i).entries) ≤ times k (batches_on c.entries)) no_cell s.cells b _ (λ x. ran k t true (cell_at s b).entries) (λ i. omega arith) a
stands w (Complete j b) s k a ok n r m = one_of (λ i c. times k (batches_on (cell_at s i).entries) ≤ times k (batches_on c.entries)) no_cell s.cells b _ (λ x. same (ap (times k) (rows.batches_complete j (cell_at s b).entries))) (λ i. omega arith) a
stands w (Rollback b) s k a ok n r m = one_of (λ i c. times k (batches_on (cell_at s i).entries) ≤ times k (batches_on c.entries)) no_cell s.cells b _ (λ x. same (SubPlaces.times_staying _ s.book.cascades _ _ k (cell_at s b).entries n (subst (AllByRecursion _) (rows.row_batches (cell_at s b).entries) (r b).places.fit) (subst Ascends (rows.row_batches (cell_at s b).entries) (r b).places.ascends))) (λ i. omega arith) a
stands w (Finish t b) s k a ok n r m = one_of (λ i c. times k (batches_on (cell_at s i).entries) ≤ times k (batches_on c.entries)) no_cell s.cells b _ (λ x. same (ap (times k) (rows.batches_without_act t (cell_at s b).entries))) (λ i. omega arith) a
stands w (Trim j b) s k a ok n r m = one_of (λ i c. ((j == k) && (b == i)) ≡ false → times k (batches_on (cell_at s i).entries) ≤ times k (batches_on c.entries)) no_cell s.cells b (cell.batch_left j (cell_at s b)) (λ x q. out q) (λ i q. omega arith) a m
  where
    out : ((j == k) && (b == b)) ≡ false → times k (batches_on (cell_at s b).entries) ≤ times k (batches_on (filter (λ e. not (is_batch_entry j e)) (cell_at s b).entries))
    out q = by (j == k) q (SubPlaces.times_without k j (cell_at s b).entries)
      where
        by : (v : Bool) → (v && (b == b)) ≡ false → times k (batches_on (filter (λ e. not (is_batch_entry j e)) (cell_at s b).entries)) + (if v then times k (batches_on (cell_at s b).entries) else 0) ≡ times k (batches_on (cell_at s b).entries) → times k (batches_on (cell_at s b).entries) ≤ times k (batches_on (filter (λ e. not (is_batch_entry j e)) (cell_at s b).entries))
        by true q e = absurd (true≢false (sym (eq-eqb b b refl) ∙ q))
        by false q e = omega (arith, e)
stands w e s k a ok n r m = omega arith

-- ---- who waits waited

waited : {C : Type 0} (w : Fixed C) (e : Event) (s : Machine C) (k a : ℕ) → IsAllowed w e s → k < s.ring.next_bid → SubPlaces.waits_at k a (after w e s).desk.batches ≡ true → (SubPlaces.waits_at k a s.desk.batches ≡ true) × NotTrim k a e
unfolding conditions after
waited w (Form j) s k a ok l h = (sym (ap (λ z. holds (λ b. holds (λ p. not p.trimmed) (declared_of a b)) z) (SubPlaces.other_batch k _ s.desk.batches (ne_eqb j k (λ q. omega (arith, q, l, eqb-true j s.ring.next_bid ok.0))))) ∙ h, tt)
waited w (End t b) s k a ok l h = (sym (SubPlaces.ended_waits k a (has_act t (cell_at s b).entries) t (outcome_of t (cell_at s b).outbox) s.desk.batches) ∙ h, tt)
waited w (Note j b) s k a ok l h = (sym (SubPlaces.waits_map k a (λ x. desk.change_if (x.bid == j) (desk.marked b desk.is_noted) x) s.desk.batches (λ x. if_bid (x.bid == j) (desk.marked b desk.is_noted) x refl) (λ x e. SubPlaces.if_waits (x.bid == j) a (desk.marked b desk.is_noted) x (SubPlaces.marked_waits a b desk.is_noted x.places (λ p. refl) (λ p q. if_trim (p.actor == b) p)))) ∙ h, tt)
  where
    if_trim : (v : Bool) (p : Declared) → (desk.mark_if v desk.is_noted p).trimmed ≡ p.trimmed
    if_trim true p = refl
    if_trim false p = refl
waited w (Commit j) s k a ok l h = (sym (SubPlaces.waits_map k a (λ x. desk.change_if (x.bid == j) (desk.with_stage Committing) x) s.desk.batches (λ x. if_bid (x.bid == j) (desk.with_stage Committing) x refl) (λ x e. SubPlaces.if_waits (x.bid == j) a (desk.with_stage Committing) x refl)) ∙ h, tt)
waited w (Settle j) s k a ok l h = (sym (SubPlaces.waits_map k a (λ x. desk.change_if (x.bid == j) (desk.with_stage Settled) x) s.desk.batches (λ x. if_bid (x.bid == j) (desk.with_stage Settled) x refl) (λ x e. SubPlaces.if_waits (x.bid == j) a (desk.with_stage Settled) x refl)) ∙ h, tt)
waited w (Abort j) s k a ok l h = (sym (SubPlaces.waits_map k a (desk.taken j) s.desk.batches (λ x. refl) (λ x e. refl)) ∙ h, tt)
waited w (Trim j b) s k a ok l h = by ((j == k) && (b == a)) refl
  where
    by : (v : Bool) → ((j == k) && (b == a)) ≡ v → (SubPlaces.waits_at k a s.desk.batches ≡ true) × (((j == k) && (b == a)) ≡ false)
    by false e = (sym (SubPlaces.trim_desk j b a k s.desk.batches e) ∙ h, e)
    by true e =
        let p = and_parts (j == k) (b == a) e in
        let gone : SubPlaces.waits_at k a (desk.changed_batch j (desk.marked b desk.is_trimmed) s.desk.batches) ≡ false = subst (λ z. SubPlaces.waits_at z a (desk.changed_batch j (desk.marked b desk.is_trimmed) s.desk.batches) ≡ false) (eqb-true j k p.0) (subst (λ z. SubPlaces.waits_at j z (desk.changed_batch j (desk.marked b desk.is_trimmed) s.desk.batches) ≡ false) (eqb-true b a p.1) (SubPlaces.trimmed_waits j b s.desk.batches)) in
        absurd (true≢false (sym h ∙ gone))
waited w e s k a ok l h = (h, tt)

-- ---- recorded batches stand

pub Stand : {C : Type 0} → Fixed C → Machine C → Type 0
Stand w s = (k a : ℕ) → IsIn (is_complete k a) (a % w.text.logs) s → (k < s.ring.next_bid) × (is_aborted k s.book.cascades ≡ false → SubPlaces.waits_at k a s.desk.batches ≡ true → 1 ≤ times k (batches_on (cell_at s a).entries))

less_aborted : {C : Type 0} (w : Fixed C) (e : Event) (s : Machine C) (k : ℕ) → is_aborted k (after w e s).book.cascades ≡ false → is_aborted k s.book.cascades ≡ false
unfolding after
less_aborted w (Abort j) s k h = SubPlaces.fewer_aborted k s.book.cascades _ h
less_aborted w e s k h = h

-- who is completed is there
completes : (k : ℕ) (q : Entry → Bool) (es : List Entry) → holds q (find (is_batch_entry k) es) ≡ true → 1 ≤ times k (batches_on es)
completes k q [] h = absurd (true≢false (sym h))
completes k q (ActEntry x ∷ es) h = completes k q es h
completes k q (BatchEntry b ∷ es) h = by (b.bid == k) h (completes k q es) (Times.times_cons k b.bid (batches_on es))
  where
    by : (v : Bool) → holds q (if v then Some (BatchEntry b) else find (is_batch_entry k) es) ≡ true → (holds q (find (is_batch_entry k) es) ≡ true → 1 ≤ times k (batches_on es)) → times k (b.bid ∷ batches_on es) ≡ one_if v + times k (batches_on es) → 1 ≤ times k (b.bid ∷ batches_on es)
    by true g r e = omega (arith, e)
    by false g r e = omega (arith, e, r g)

pub fits_all : (P : ℕ → Type 0) (k : ℕ) (ks : List ℕ) → 1 ≤ times k ks → AllByRecursion P ks → P k
fits_all P k [] l h = absurd (omega (arith, l))
fits_all P k (x ∷ ks) l h = by (x == k) refl (fits_all P k ks) (Times.times_cons k x ks)
  where
    by : (v : Bool) → (x == k) ≡ v → (1 ≤ times k ks → AllByRecursion P ks → P k) → times k (x ∷ ks) ≡ one_if v + times k ks → P k
    by true e r t = subst P (eqb-true x k e) h.0
    by false e r t = r (omega (arith, l, t)) h.1

completed_here : {C : Type 0} (w : Fixed C) (e : Event) (s : Machine C) (k a : ℕ) → IsAllowed w e s → rows.Rows s → IsCompleting e k a → (k < s.ring.next_bid) × (1 ≤ times k (batches_on (cell_at s a).entries))
unfolding rows.Rows conditions
completed_here w (Complete j b) s k a ok r h =
    let p = and_parts (j == k) (b == a) h in
    let o : 1 ≤ times j (batches_on (cell_at s b).entries) = completes j (λ e. not (is_complete_batch e)) (cell_at s b).entries (held (λ c. holds (λ e. not (is_complete_batch e)) (find (is_batch_entry j) c.entries)) s.cells b no_cell ok.0) in
    let f = fits_all (FitsCell s.ring.next_bid s.book.cascades (cell_at s b).epoch (cell_at s b).tail) j (batches_on (cell_at s b).entries) o (subst (AllByRecursion (FitsCell s.ring.next_bid s.book.cascades (cell_at s b).epoch (cell_at s b).tail)) (rows.row_batches (cell_at s b).entries) (r b).places.fit) in
    let g = subst (λ z. 1 ≤ times z (batches_on (cell_at s b).entries)) (eqb-true j k p.0) o in
    (subst (λ z. z < s.ring.next_bid) (eqb-true j k p.0) f.formed, subst (λ z. 1 ≤ times k (batches_on (cell_at s z).entries)) (eqb-true b a p.1) g)
completed_here w e s k a ok r h = absurd h

stand_kept : {C : Type 0} (w : Fixed C) (e : Event) (s : Machine C) → IsAllowed w e s → rows.Rows s → Stand w s → Stand w (after w e s)
unfolding Stand
stand_kept w e s ok r h k a i = elim (came w e s k a (a % w.text.logs) i) [
  | inl j ↦ by (h k a j).0 (h k a j).1
  | inr j ↦ let c = completed_here w e s k a ok r j in by c.0 (λ n v. c.1)
]
  where
    by : k < s.ring.next_bid → (is_aborted k s.book.cascades ≡ false → SubPlaces.waits_at k a s.desk.batches ≡ true → 1 ≤ times k (batches_on (cell_at s a).entries)) → (k < (after w e s).ring.next_bid) × (is_aborted k (after w e s).book.cascades ≡ false → SubPlaces.waits_at k a (after w e s).desk.batches ≡ true → 1 ≤ times k (batches_on (cell_at (after w e s) a).entries))
    by l f = (omega (arith, l, bid_went w e s), λ n v. let n' = less_aborted w e s k n in let v' = waited w e s k a ok l v in omega (arith, f n' v'.0, stands w e s k a ok n' r v'.1))

stand_opened : {C : Type 0} (w : Fixed C) → Stand w (opening w)
unfolding Stand
stand_opened w k a i = absurd (none w.text.logs (a % w.text.logs) i)
  where
    none : (n l : ℕ) → list_any (is_complete k a) (slice_index_or (replicate n no_log) l no_log).records ≡ true → ⊥
    none zero l h = true≢false (sym h)
    none (suc n) zero h = true≢false (sym h)
    none (suc n) (suc l) h = none n l h

-- what is trimmed is not on its way there
pub trims : {C : Type 0} (w : Fixed C) (e : Event) (s : Machine C) → IsAllowed w e s → settling.Settling w s → known.AllFit w s → Stand w s → SubPlaces.InOnePlace s → SubPlaces.TrimOwed e s
unfolding SubPlaces.TrimOwed SubPlaces.InOnePlace Stand conditions
trims w (Trim k a) s ok g f h o =
    let b = one_is (λ b. is_settled b.stage && (not b.aborted && holds (λ p. not p.trimmed) (declared_of a b))) (batch_of k s.desk.batches) ok.0 in
    let p = and_parts (is_settled b.0.stage) (not b.0.aborted && holds (λ p. not p.trimmed) (declared_of a b.0)) b.2 in
    let q = and_parts (not b.0.aborted) (holds (λ p. not p.trimmed) (declared_of a b.0)) p.1 in
    let x = one_is (λ p. not p.trimmed) (declared_of a b.0) q.1 in
    let i = found_at (λ p. p.actor == a) b.0.places x.0 x.1 in
    let fit = known.fit_is w s f k b.0 b.1 in
    let n = all_in (λ p. p.noted) b.0.places i.0 x.0 i.1 (fit.all_noted (later b.0.stage p.0)) in
    let own = actor a b.0.places x.0 x.1 in
    let r = subst (λ z. IsIn (is_complete k z) (z % w.text.logs) s) own (each_found (λ p. p.noted ≡ true → IsIn (is_complete k p.actor) (p.actor % w.text.logs) s) b.0.places i.0 x.0 i.1 fit.noted n) in
    let fresh : is_aborted k s.book.cascades ≡ false = sym (settling.mark_is w s k b.0 b.1 g) ∙ not-true b.0.aborted q.0 in
    let v : SubPlaces.waits_at k a s.desk.batches ≡ true = rw b.1 q.1 in
    none (sub_of k a s.post.subs) refl (omega (arith, (h k a r).1 fresh v, o a k fresh, SubPlaces.one_most (SubPlaces.waits_at k a s.desk.batches)))
  where
    later : (st : Stage) → is_settled st ≡ true → is_formed st ≡ false
    later Formed t = absurd (true≢false (sym t))
    later Committing t = refl
    later Settled t = refl

    actor : (a : ℕ) (ps : List Declared) (p : Declared) → find (λ p. p.actor == a) ps ≡ Some p → p.actor ≡ a
    actor a [] p e = absurd (cc e)
    actor a (x ∷ ps) p e = by (x.actor == a) refl e (actor a ps p)
      where
        by : (v : Bool) → (x.actor == a) ≡ v → (if v then Some x else find (λ p. p.actor == a) ps) ≡ Some p → (find (λ p. p.actor == a) ps ≡ Some p → p.actor ≡ a) → p.actor ≡ a
        by true i g k = let z : x ≡ p = cc g in subst (λ v. v.actor ≡ a) z (eqb-true x.actor a i)
        by false i g k = k g

    none : (m : Option SubBatch) → sub_of k a s.post.subs ≡ m → SubPlaces.on_post k a s.post.subs ≤ 0 → m ≡ None
    none None e l = refl
    none (Some m) e l = absurd (omega (arith, l, SubPlaces.count_found (SubPlaces.is_to k a) s.post.subs (rw e refl)))
trims w e s ok g f h o = tt

-- ---- together

pub record Placed {C : Type 0} (w : Fixed C) (s : Machine C) : Type 0 where
  pub stand : Stand w s
  pub one : SubPlaces.InOnePlace s

pub placed_kept : {C : Type 0} (w : Fixed C) (e : Event) (s : Machine C) → IsAllowed w e s → epochs.Agreeing s → settling.Settling w s → rows.Rows s → known.AllFit w s → Placed w s → Placed w (after w e s)
placed_kept w e s ok g t r f h = record { stand = stand_kept w e s ok r h.stand; one = SubPlaces.one_place_kept w e s ok (trims w e s ok t f h.stand h.one) g r h.one }

pub placed_opened : {C : Type 0} (w : Fixed C) → Placed w (opening w)
unfolding SubPlaces.InOnePlace
placed_opened {C} w = record { stand = stand_opened w; one = λ a k n. let e : times k (batches_on (cell_at (opening w) a).entries) ≡ 0 = ap (λ es. times k (batches_on es)) (empty w.text.opening.states a) in omega (arith, e) }
  where
    empty : (ss : List Rattle.snap_base.specs.declared.transactions.State.State) (a : ℕ) → (slice_index_or (map (Rattle.protocol.specs.Runs.new_cell {C = C} (Rattle.protocol.specs.Fixed.base w.text)) ss) a no_cell).entries ≡ []
    empty [] a = refl
    empty (x ∷ xs) zero = refl
    empty (x ∷ xs) (suc a) = empty xs a

-- ---- for quiet states

pub placed_where : {C : Type 0} (w : Fixed C) (s : Machine C) → Placed w s → (k a : ℕ) → is_aborted k s.book.cascades ≡ false → SubPlaces.waits_at k a s.desk.batches ≡ true → (is_some (sub_of k a s.post.subs) ≡ true) ⊎ (is_among k (batches_on (cell_at s a).entries) ≡ true)
unfolding SubPlaces.InOnePlace
placed_where w s h k a n v = by (cases_lt 0 (SubPlaces.on_post k a s.post.subs)) (h.one a k n)
  where
    among : (ks : List ℕ) → 1 ≤ times k ks → is_among k ks ≡ true
    among [] l = absurd (omega (arith, l))
    among (x ∷ ks) l = one (x == k) (Times.times_cons k x ks) (among ks)
      where
        one : (v : Bool) → times k (x ∷ ks) ≡ one_if v + times k ks → (1 ≤ times k ks → is_among k ks ≡ true) → (v || is_among k ks) ≡ true
        one true t r = refl
        one false t r = r (omega (arith, t, l))

    by : (0 < SubPlaces.on_post k a s.post.subs) ⊎ (SubPlaces.on_post k a s.post.subs ≤ 0) → SubPlaces.on_post k a s.post.subs + times k (batches_on (cell_at s a).entries) ≡ one_if (SubPlaces.waits_at k a s.desk.batches) → (is_some (sub_of k a s.post.subs) ≡ true) ⊎ (is_among k (batches_on (cell_at s a).entries) ≡ true)
    by (inl l) e = inl (SubPlaces.found_count (SubPlaces.is_to k a) s.post.subs (omega (arith, l)))
    by (inr l) e = inr (among (batches_on (cell_at s a).entries) (omega (arith, l, e, ap one_if v)))

waits_one : (b : Bool) → 1 ≤ one_if b → b ≡ true
waits_one true l = refl
waits_one false l = absurd (omega (arith, l))

pub on_way : {C : Type 0} (w : Fixed C) (s : Machine C) → Placed w s → (k a : ℕ) → is_aborted k s.book.cascades ≡ false → is_some (sub_of k a s.post.subs) ≡ true → SubPlaces.waits_at k a s.desk.batches ≡ true
unfolding SubPlaces.InOnePlace
on_way w s h k a n i = waits_one (SubPlaces.waits_at k a s.desk.batches) (omega (arith, h.one a k n, SubPlaces.count_found (SubPlaces.is_to k a) s.post.subs i))

pub on_schedule : {C : Type 0} (w : Fixed C) (s : Machine C) → Placed w s → (k a : ℕ) → is_aborted k s.book.cascades ≡ false → is_among k (batches_on (cell_at s a).entries) ≡ true → SubPlaces.waits_at k a s.desk.batches ≡ true
unfolding SubPlaces.InOnePlace
on_schedule w s h k a n i = waits_one (SubPlaces.waits_at k a s.desk.batches) (omega (arith, h.one a k n, some (batches_on (cell_at s a).entries) i))
  where
    some : (ks : List ℕ) → is_among k ks ≡ true → 1 ≤ times k ks
    some [] h = absurd (true≢false (sym h))
    some (x ∷ ks) h = one (x == k) h (Times.times_cons k x ks) (some ks)
      where
        one : (v : Bool) → (v || is_among k ks) ≡ true → times k (x ∷ ks) ≡ one_if v + times k ks → (is_among k ks ≡ true → 1 ≤ times k ks) → 1 ≤ times k (x ∷ ks)
        one true g t r = omega (arith, t)
        one false g t r = omega (arith, t, r g)
