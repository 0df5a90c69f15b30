-- What settled, was sealed with a value, or left for good has a durable commit record.
use Rattle.std.specs.Prelude.{◌≡◌, refl, ℕ, zero, suc, ◌≤◌, ◌%◌, ◌==◌, max, nat_le, Bool, true, false, ◌&&◌, ◌||◌, ◌⊎◌, if◌then◌else◌, Option, Some, None, is_some, List, [], ◌∷◌, ◌++◌, length, map, take, slice_index_or, slice_set}
use Rattle.std.specs.List.{list_any}
use Rattle.std.proofs.Common.{arith, sym, ap, subst, inl, inr, ◌∙◌}
use Rattle.std.proofs.lemmas.List.{append-nil}
use Rattle.std.proofs.lemmas.Bool.{eqb-true, eqb-false, and_parts, or_cases, or_left, or_right, or_parts, true≢false, cases_Bool}
use Rattle.snap_base.specs.declared.transactions.TxResult.{TxResult}
use Rattle.snap_base.specs.declared.transactions.TxResult.TheVariants.{Value, Fail}
use Rattle.snap_base.specs.declared.verdicts.Verdict.{Verdict}
use Rattle.protocol.specs.Fixed.{Fixed, Next, Go, Ended}
use Rattle.protocol.specs.Records.{LogRecord, is_commit, is_act_commit}
use Rattle.protocol.specs.Parts.{Act, Batch, Cascade, Who, OfBatch, OfAct, Pair, Status, Live, Doomed, Decided, Sealed, Committing, Settled, Log, Outcome, Cell, Machine}
use Rattle.protocol.specs.Events.{Event, Form, Admit, Arrive, Ask, Run, End, Complete, Sync, Note, Commit, Settle, Abort, Rollback, Prepare, Vouch, Decide, Seal, Finish, Trim}
use Rattle.protocol.specs.Words.{holds, is_who, is_failure, is_value, is_durable, is_settled, is_sealed, is_doomed, is_live_status, batch_of, act_of, has_act, outcome_of, is_ended, is_ordered, lock_of, floor_at}
use Rattle.protocol.specs.Spread.{raised, carried, crossed_out, is_crossed, doomed_by_order}
use Rattle.protocol.specs.Conditions.{IsAllowed, conditions}
use Rattle.protocol.specs.Effects.{after, cell_at, log_at, no_log, no_cell, added}
use Rattle.protocol.specs.OnRing as ring
use Rattle.protocol.specs.OnDesk as desk
use Rattle.protocol.specs.OnBook as book
use Rattle.protocol.specs.History.{History, Slice, Ran, Stands, Gone, grown, not_run, ran_in, completed, left_for_good, without_standing, long_staying, asks, is_traceless}
use Rattle.protocol.specs.OnCell as cell
use Rattle.protocol.specs.OnCell.{is_cut}
use Rattle.protocol_laws.proofs.machine.TrackLists
use Rattle.protocol_laws.proofs.machine.TrackLists.{is_who_true}
use Rattle.protocol_laws.proofs.machine.CommitsKept.{beside_carried}
use Rattle.protocol_laws.proofs.machine.TracksKept.{held}
use Rattle.protocol_laws.proofs.machine.TurnsKept.{one_is}
use Rattle.protocol_laws.proofs.machine.ControlWalk.{AllControls}
use Rattle.protocol_laws.proofs.machine.ActResults as results
use Rattle.protocol_laws.proofs.machine.ActResults.{NoneActed}
use Rattle.protocol_laws.proofs.machine.ActsKept.{Acts}
use Rattle.protocol_theorems.proofs.order.RunsBefore.{batch_back, batch_more, if_open}
use Rattle.protocol_laws.proofs.first.Statuses.{if_bid, if_tid}
use Rattle.protocol_records.proofs.crash.Durable.{take_more}

-- ---- logs only grow, and so does what is durable in them

pub any_take : {X : Type 0} (p : X → Bool) (n m : ℕ) (xs : List X) → n ≤ m → list_any p (take n xs) ≡ true → list_any p (take m xs) ≡ true
any_take p zero m xs l e = absurd (true≢false (sym e))
any_take p (suc n) zero xs l e = absurd (omega (arith, l))
any_take p (suc n) (suc m) [] l e = e
any_take p (suc n) (suc m) (x ∷ xs) l e = elim (or_cases (p x) (list_any p (take n xs)) e) [ inl q ↦ or_left (p x) _ q | inr q ↦ or_right (p x) _ (any_take p n m xs (omega (arith, l)) q) ]

any_whole : {X : Type 0} (p : X → Bool) (n : ℕ) (xs : List X) → list_any p (take n xs) ≡ true → list_any p (take (length xs) xs) ≡ true
any_whole p zero xs e = absurd (true≢false (sym e))
any_whole p (suc n) [] e = e
any_whole p (suc n) (x ∷ xs) e = elim (or_cases (p x) (list_any p (take n xs)) e) [ inl q ↦ or_left (p x) _ q | inr q ↦ or_right (p x) _ (any_whole p n xs q) ]

-- what a log may become
abbrev pub GrowsTo : (LogRecord → Bool) → Log → Log → Type 0
GrowsTo p g k = is_durable p g ≡ true → is_durable p k ≡ true

log_set : (p : LogRecord → Bool) (logs : List Log) (l i : ℕ) (g : Log) → GrowsTo p (slice_index_or logs l no_log) g → GrowsTo p (slice_index_or logs i no_log) (slice_index_or (slice_set logs l g) i no_log)
log_set p [] l i g k e = e
log_set p (x ∷ xs) zero zero g k e = k e
log_set p (x ∷ xs) zero (suc i) g k e = e
log_set p (x ∷ xs) (suc l) zero g k e = e
log_set p (x ∷ xs) (suc l) (suc i) g k e = log_set p xs l i g k e

adds_grow : (p : LogRecord → Bool) (rs : List LogRecord) (g : Log) → GrowsTo p g (added rs g)
adds_grow p rs g e = take_more p g.synced g.records rs e

pub durable_stays : {C : Type 0} (w : Fixed C) (e : Event) (s : Machine C) (p : LogRecord → Bool) (i : ℕ) → GrowsTo p (log_at s i) (log_at (after w e s) i)
unfolding after
durable_stays w (Form k) s p i = log_set p s.logs _ i _ (adds_grow p _ (log_at s _))
durable_stays w (Complete k a) s p i = log_set p s.logs _ i _ (adds_grow p _ (log_at s _))
durable_stays w (Sync l) s p i = log_set p s.logs l i _ (λ e. any_whole p (log_at s l).synced (log_at s l).records e)
durable_stays w (Commit k) s p i = log_set p s.logs _ i _ (adds_grow p _ (log_at s _))
durable_stays w (Prepare t a) s p i = log_set p s.logs _ i _ (adds_grow p _ (log_at s _))
durable_stays w (Decide t) s p i = log_set p s.logs _ i _ (adds_grow p _ (log_at s _))
durable_stays w e s p i = λ q. q

-- ---- who settled

abbrev pub is_settled_batch : Batch → Bool
is_settled_batch b = is_settled b.stage

abbrev pub JustSettled : Event → ℕ → Type 0
JustSettled (Settle j) k = j ≡ k
JustSettled _ k = ⊥

settle_back : (j k : ℕ) (bs : List Batch) → holds is_settled_batch (batch_of k (desk.changed_batch j (desk.with_stage Settled) bs)) ≡ true → (holds is_settled_batch (batch_of k bs) ≡ true) ⊎ (j ≡ k)
settle_back j k bs h = elim (cases_Bool (j == k)) [
  | inl e ↦ inr (eqb-true j k e)
  | inr e ↦ inl (other bs h e)
]
  where
    other : (bs : List Batch) → holds is_settled_batch (batch_of k (desk.changed_batch j (desk.with_stage Settled) bs)) ≡ true → (j == k) ≡ false → holds is_settled_batch (batch_of k bs) ≡ true
    other [] h e = h
    other (b ∷ bs) h e = by (b.bid == j) refl (b.bid == k) refl h (λ q. other bs q e)
      where
        by : (v : Bool) → (b.bid == j) ≡ v → (q : Bool) → (b.bid == k) ≡ q → holds is_settled_batch (batch_of k (desk.change_if v (desk.with_stage Settled) b ∷ desk.changed_batch j (desk.with_stage Settled) bs)) ≡ true
            → (holds is_settled_batch (batch_of k (desk.changed_batch j (desk.with_stage Settled) bs)) ≡ true → holds is_settled_batch (batch_of k bs) ≡ true) → holds is_settled_batch (if q then Some b else batch_of k bs) ≡ true
        by true i true f h r = absurd (eqb-false j k e (sym (eqb-true b.bid j i) ∙ eqb-true b.bid k f))
        by true i false f h r = r (subst (λ z. holds is_settled_batch (if z then Some (desk.with_stage Settled b) else batch_of k (desk.changed_batch j (desk.with_stage Settled) bs)) ≡ true) f h)
        by false i true f h r = subst (λ z. holds is_settled_batch (if z then Some b else batch_of k (desk.changed_batch j (desk.with_stage Settled) bs)) ≡ true) f h
        by false i false f h r = r (subst (λ z. holds is_settled_batch (if z then Some b else batch_of k (desk.changed_batch j (desk.with_stage Settled) bs)) ≡ true) f h)

settled_was : {C : Type 0} (w : Fixed C) (e : Event) (s : Machine C) (k : ℕ) → holds is_settled_batch (batch_of k (after w e s).desk.batches) ≡ true → (holds is_settled_batch (batch_of k s.desk.batches) ≡ true) ⊎ JustSettled e k
unfolding after
settled_was w (Form j) s k h = elim (batch_more is_settled_batch k (desk.new_batch j (ring.next_actors w.text s.ring) (ring.next_pacts w.text s.ring)) s.desk.batches h) [ inl q ↦ inl q | inr q ↦ absurd (true≢false (sym q.1)) ]
settled_was {C} w (End u a) s k h = inl (by (has_act u (cell_at s a).entries) (outcome_of u (cell_at s a).outbox) h)
  where
    next : (x : Next C) → holds is_settled_batch (batch_of k (desk.noted_for u x s.desk.batches)) ≡ true → holds is_settled_batch (batch_of k s.desk.batches) ≡ true
    next (Go b y) h = h
    next (Ended r) h = batch_back is_settled_batch (desk.with_results u r) (λ b. refl) (λ b q. q) k s.desk.batches h

    by : (v : Bool) (o : Option (Outcome C)) → holds is_settled_batch (batch_of k (if v then s.desk.batches else desk.noted_from u o s.desk.batches)) ≡ true → holds is_settled_batch (batch_of k s.desk.batches) ≡ true
    by true o h = h
    by false None h = h
    by false (Some x) h = next x.next h
settled_was w (Note j a) s k h = inl (batch_back is_settled_batch _ (λ b. if_bid (b.bid == j) (desk.marked a desk.is_noted) b refl) (λ b q. if_open is_settled_batch (b.bid == j) (desk.marked a desk.is_noted) b (λ x. x) q) k s.desk.batches h)
settled_was w (Trim j a) s k h = inl (batch_back is_settled_batch _ (λ b. if_bid (b.bid == j) (desk.marked a desk.is_trimmed) b refl) (λ b q. if_open is_settled_batch (b.bid == j) (desk.marked a desk.is_trimmed) b (λ x. x) q) k s.desk.batches h)
settled_was w (Commit j) s k h = inl (batch_back is_settled_batch _ (λ b. if_bid (b.bid == j) (desk.with_stage Committing) b refl) (λ b q. if_open is_settled_batch (b.bid == j) (desk.with_stage Committing) b (λ x. absurd (true≢false (sym x))) q) k s.desk.batches h)
settled_was w (Settle j) s k h = settle_back j k s.desk.batches h
settled_was w (Abort j) s k h = inl (batch_back is_settled_batch (desk.taken j) (λ b. refl) (λ b q. q) k s.desk.batches h)
settled_was w e s k h = inl h

-- ---- who was sealed with a value

abbrev pub is_sealed_act : Act → Bool
is_sealed_act x = is_sealed x.status && is_value x.result

act_back : (f : Act → Act) → ((x : Act) → (f x).tid ≡ x.tid) → ((x : Act) → is_sealed_act (f x) ≡ true → is_sealed_act x ≡ true) → (t : ℕ) (xs : List Act) → holds is_sealed_act (act_of t (map f xs)) ≡ true → holds is_sealed_act (act_of t xs) ≡ true
act_back f i g t [] h = h
act_back f i g t (x ∷ xs) h = by (x.tid == t) (subst (λ z. holds is_sealed_act (if z == t then Some (f x) else act_of t (map f xs)) ≡ true) (i x) h) (act_back f i g t xs)
  where
    by : (v : Bool) → holds is_sealed_act (if v then Some (f x) else act_of t (map f xs)) ≡ true → (holds is_sealed_act (act_of t (map f xs)) ≡ true → holds is_sealed_act (act_of t xs) ≡ true) → holds is_sealed_act (if v then Some x else act_of t xs) ≡ true
    by true h r = g x h
    by false h r = r h

if_sealed : (v : Bool) (f : Act → Act) (x : Act) → (is_sealed_act (f x) ≡ true → is_sealed_act x ≡ true) → is_sealed_act (book.change_if v f x) ≡ true → is_sealed_act x ≡ true
if_sealed true f x g h = g h
if_sealed false f x g h = h

changed : (t u : ℕ) (f : Act → Act) (xs : List Act) → ((x : Act) → (f x).tid ≡ x.tid) → ((x : Act) → is_sealed_act (f x) ≡ true → is_sealed_act x ≡ true) → holds is_sealed_act (act_of t (book.changed_act u f xs)) ≡ true → holds is_sealed_act (act_of t xs) ≡ true
changed t u f xs i g h = act_back (λ x. book.change_if (x.tid == u) f x) (λ x. if_tid (x.tid == u) f x (i x)) (λ x. if_sealed (x.tid == u) f x (g x)) t xs h

-- one is changed, and another one is meant
changed_other : (t u : ℕ) (f : Act → Act) (xs : List Act) → (u ≡ t → ⊥) → ((x : Act) → (f x).tid ≡ x.tid) → holds is_sealed_act (act_of t (book.changed_act u f xs)) ≡ true → holds is_sealed_act (act_of t xs) ≡ true
changed_other t u f [] n i h = h
changed_other t u f (x ∷ xs) n i h = by (x.tid == u) refl (x.tid == t) refl h (changed_other t u f xs n i)
  where
    by : (v : Bool) → (x.tid == u) ≡ v → (q : Bool) → (x.tid == t) ≡ q → holds is_sealed_act (act_of t (book.change_if v f x ∷ book.changed_act u f xs)) ≡ true → (holds is_sealed_act (act_of t (book.changed_act u f xs)) ≡ true → holds is_sealed_act (act_of t xs) ≡ true) → holds is_sealed_act (if q then Some x else act_of t xs) ≡ true
    by true a true b h r = absurd (n (sym (eqb-true x.tid u a) ∙ eqb-true x.tid t b))
    by true a false b h r = r (subst (λ z. holds is_sealed_act (if z then Some (f x) else act_of t (book.changed_act u f xs)) ≡ true) b (subst (λ z. holds is_sealed_act (if z == t then Some (f x) else act_of t (book.changed_act u f xs)) ≡ true) (i x) h))
    by false a true b h r = subst (λ z. holds is_sealed_act (if z then Some x else act_of t (book.changed_act u f xs)) ≡ true) b h
    by false a false b h r = r (subst (λ z. holds is_sealed_act (if z then Some x else act_of t (book.changed_act u f xs)) ≡ true) b h)

doom_sealed : (b : Bool) (v : Verdict) (st : Status) (r : Option TxResult) → (is_sealed (if b then Doomed v else st) && is_value r) ≡ true → (is_sealed st && is_value r) ≡ true
doom_sealed true v st r h = absurd (true≢false (sym h))
doom_sealed false v st r h = h

by_order : (t a : ℕ) (xs : List Act) → holds is_sealed_act (act_of t (doomed_by_order a xs)) ≡ true → holds is_sealed_act (act_of t xs) ≡ true
by_order t a xs h = act_back (crossed_out a) (λ x. refl) (λ x q. doom_sealed (is_crossed x) _ x.status x.result q) t xs h

raised_back : (t : ℕ) (ps : List Pair) (xs : List Act) → holds is_sealed_act (act_of t (raised ps xs)) ≡ true → holds is_sealed_act (act_of t xs) ≡ true
raised_back t ps [] h = h
raised_back t ps (x ∷ xs) h = by (x.tid == t) h (raised_back t ps xs)
  where
    by : (v : Bool) → holds is_sealed_act (if v then Some (record x { m = max x.m (carried ps x (raised ps xs)) }) else act_of t (raised ps xs)) ≡ true → (holds is_sealed_act (act_of t (raised ps xs)) ≡ true → holds is_sealed_act (act_of t xs) ≡ true) → holds is_sealed_act (if v then Some x else act_of t xs) ≡ true
    by true h r = h
    by false h r = r h

asked_back : {C : Type 0} (u t a : ℕ) (o : Option ℕ) (c : Cell C) (b : Rattle.protocol.specs.Parts.Book) → holds is_sealed_act (act_of u (book.asked_acts o (book.met (lock_of t b.acts) c.entries) t a (max c.last (floor_at t b.acts c)) b)) ≡ true → holds is_sealed_act (act_of u b.acts) ≡ true
asked_back u t a (Some older) c b h = changed u t (book.doomed_by (Rattle.protocol.specs.Verdicts.died a older t)) b.acts (λ x. refl) (λ x q. doom_sealed (is_live_status x.status) _ x.status x.result q) h
asked_back u t a None c b h = changed u t (book.joins a (max c.last (floor_at t b.acts c))) b.acts (λ x. refl) (λ x q. q) (raised_back u _ _ (by_order u a _ h))

act_more : (t : ℕ) (n : Act) (xs : List Act) → is_sealed_act n ≡ false → holds is_sealed_act (act_of t (xs ++ n ∷ [])) ≡ true → holds is_sealed_act (act_of t xs) ≡ true
act_more t n [] e h = by (n.tid == t) h
  where
    by : (v : Bool) → holds is_sealed_act (if v then Some n else None) ≡ true → false ≡ true
    by true h = sym e ∙ h
    by false h = h
act_more t n (x ∷ xs) e h = by (x.tid == t) h (act_more t n xs e)
  where
    by : (v : Bool) → holds is_sealed_act (if v then Some x else act_of t (xs ++ n ∷ [])) ≡ true → (holds is_sealed_act (act_of t (xs ++ n ∷ [])) ≡ true → holds is_sealed_act (act_of t xs) ≡ true) → holds is_sealed_act (if v then Some x else act_of t xs) ≡ true
    by true h r = h
    by false h r = r h

decided_sealed : (c : ℕ) (x : Act) → is_sealed_act (book.decided_as c x) ≡ true → is_sealed_act x ≡ true
decided_sealed c x h = by (is_value x.result) x.status h
  where
    by : (b : Bool) (st : Status) → (is_sealed (book.decided_status c b st) && b) ≡ true → (is_sealed st && b) ≡ true
    by true Live h = h
    by false Live h = h
    by b (Doomed v) h = h
    by b (Decided d) h = h
    by b (Sealed d) h = h

abbrev pub JustSealed : Event → ℕ → Type 0
JustSealed (Seal u) t = u ≡ t
JustSealed _ t = ⊥

-- who gets a result was not sealed
ended_was : {C : Type 0} (s : Machine C) (h : History) (u a t : ℕ) (r : TxResult) → Acts s h → AllControls (NoneActed s) s → holds (λ x. is_ended x.next) (outcome_of u (cell_at s a).outbox) ≡ true
    → holds is_sealed_act (act_of t (book.changed_act u (book.with_result r) s.book.acts)) ≡ true → holds is_sealed_act (act_of t s.book.acts) ≡ true
unfolding Acts
ended_was s h u a t r i n e q = elim (cases_Bool (u == t)) [
  | inr f ↦ changed_other t u (book.with_result r) s.book.acts (eqb-false u t f) (λ x. refl) q
  | inl f ↦ absurd (own (subst (λ z. holds is_sealed_act (act_of z (book.changed_act u (book.with_result r) s.book.acts)) ≡ true) (sym (eqb-true u t f)) q))
]
  where
    placed : (st : Status) → is_sealed st ≡ true → is_ordered st ≡ true
    placed Live v = absurd (true≢false (sym v))
    placed (Doomed w) v = absurd (true≢false (sym v))
    placed (Decided c) v = refl
    placed (Sealed c) v = refl

    none : (x : Act) → act_of u s.book.acts ≡ Some x → is_sealed x.status ≡ true → ⊥
    none x f v = true≢false (sym ((i u x f).ended (placed x.status v)) ∙ ap is_some (results.outcome_none (λ x. is_ended x.next) u a s e n u x f refl))

    found : (xs : List Act) → holds is_sealed_act (act_of u (book.changed_act u (book.with_result r) xs)) ≡ true → (x : Act) × ((act_of u xs ≡ Some x) × (is_sealed x.status ≡ true))
    found [] v = absurd (true≢false (sym v))
    found (x ∷ xs) v = by (x.tid == u) refl v (found xs)
      where
        by : (b : Bool) → (x.tid == u) ≡ b → holds is_sealed_act (act_of u (book.change_if b (book.with_result r) x ∷ book.changed_act u (book.with_result r) xs)) ≡ true
            → (holds is_sealed_act (act_of u (book.changed_act u (book.with_result r) xs)) ≡ true → (y : Act) × ((act_of u xs ≡ Some y) × (is_sealed y.status ≡ true)))
            → (y : Act) × (((if b then Some x else act_of u xs) ≡ Some y) × (is_sealed y.status ≡ true))
        by true f v k = (x, (refl, (and_parts (is_sealed x.status) _ (subst (λ z. holds is_sealed_act (if z then Some (book.with_result r x) else act_of u (book.changed_act u (book.with_result r) xs)) ≡ true) f v)).0))
        by false f v k = k (subst (λ z. holds is_sealed_act (if z then Some x else act_of u (book.changed_act u (book.with_result r) xs)) ≡ true) f v)

    own : holds is_sealed_act (act_of u (book.changed_act u (book.with_result r) s.book.acts)) ≡ true → ⊥
    own v = let x = found s.book.acts v in none x.0 x.1.0 x.1.1

sealed_was : {C : Type 0} (w : Fixed C) (e : Event) (s : Machine C) (h : History) (t : ℕ) → IsAllowed w e s → Acts s h → AllControls (NoneActed s) s → holds is_sealed_act (act_of t (after w e s).book.acts) ≡ true → (holds is_sealed_act (act_of t s.book.acts) ≡ true) ⊎ JustSealed e t
unfolding conditions after
sealed_was w (Admit u) s h t ok i n q = inl (act_more t _ s.book.acts refl q)
sealed_was w (Arrive k a) s h t ok i n q = inl (act_back (book.lowered k (book.tids_on (cell_at s a).entries)) (λ x. refl) (λ x q. q) t s.book.acts (by_order t a _ q))
sealed_was w (Ask u a) s h t ok i n q = inl (asked_back t u a (book.in_the_way (lock_of u s.book.acts) (cell_at s a).entries) (cell_at s a) s.book q)
sealed_was {C} w (End u a) s h t ok i n q = inl (by (has_act u (cell_at s a).entries) (outcome_of u (cell_at s a).outbox) q)
  where
    next : (x : Next C) → holds is_sealed_act (act_of t (book.noted_for u x s.book.acts)) ≡ true → holds is_sealed_act (act_of t s.book.acts) ≡ true
    next (Go b y) q = q
    next (Ended r) q = ended_was s h u a t r i n (held (λ c. holds (λ x. is_ended x.next) (outcome_of u c.outbox)) s.cells a no_cell ok.0) q

    by : (v : Bool) (o : Option (Outcome C)) → holds is_sealed_act (act_of t (if v then book.noted_from u o s.book.acts else s.book.acts)) ≡ true → holds is_sealed_act (act_of t s.book.acts) ≡ true
    by false o q = q
    by true None q = q
    by true (Some x) q = next x.next q
sealed_was w (Abort k) s h t ok i n q = inl (act_back _ (λ x. refl) (λ x q. doom_sealed (is_live_status x.status && nat_le k x.m) _ x.status x.result q) t s.book.acts q)
sealed_was w (Prepare u a) s h t ok i n q = inl (changed t u _ s.book.acts (λ x. refl) (λ x q. q) q)
sealed_was w (Vouch u a) s h t ok i n q = inl (changed t u _ s.book.acts (λ x. refl) (λ x q. q) q)
sealed_was w (Decide u) s h t ok i n q = inl (changed t u _ s.book.acts (λ x. refl) (decided_sealed s.book.next_c) q)
sealed_was w (Seal u) s h t ok i n q = elim (cases_Bool (u == t)) [ inl f ↦ inr (eqb-true u t f) | inr f ↦ inl (changed_other t u book.sealed s.book.acts (eqb-false u t f) (λ x. refl) q) ]
sealed_was w (Finish u a) s h t ok i n q = inl (changed t u _ s.book.acts (λ x. refl) (λ x q. q) q)
sealed_was w e s h t ok i n q = inl q

-- ---- what is durable

abbrev pub has_record : {C : Type 0} → Fixed C → Machine C → Who → Bool
has_record w s (OfBatch k) = is_durable (is_commit k) (log_at s (k % w.text.logs))
has_record w s (OfAct t) = is_durable (is_act_commit t) (log_at s (t % w.text.logs))

abbrev pub AllGone : (Who → Type 0) → List Ran → Type 0
AllGone P [] = Unit {0}
AllGone P (Stands y c ss ∷ rs) = AllGone P rs
AllGone P (Gone y ss ∷ rs) = P y × AllGone P rs

pub record Durable {C : Type 0} (w : Fixed C) (s : Machine C) (h : History) : Type 0 where
  pub settled : (k : ℕ) → holds is_settled_batch (batch_of k s.desk.batches) ≡ true → has_record w s (OfBatch k) ≡ true
  pub sealed : (t : ℕ) → holds is_sealed_act (act_of t s.book.acts) ≡ true → has_record w s (OfAct t) ≡ true
  pub gone : (a : ℕ) → AllGone (λ y. has_record w s y ≡ true) (h.long a)

pub record_stays : {C : Type 0} (w : Fixed C) (e : Event) (s : Machine C) (y : Who) → has_record w s y ≡ true → has_record w (after w e s) y ≡ true
record_stays w e s (OfBatch k) q = durable_stays w e s (is_commit k) (k % w.text.logs) q
record_stays w e s (OfAct t) q = durable_stays w e s (is_act_commit t) (t % w.text.logs) q

pub gone_weaker : (P Q : Who → Type 0) (rs : List Ran) → ((y : Who) → P y → Q y) → AllGone P rs → AllGone Q rs
gone_weaker P Q [] k h = tt
gone_weaker P Q (Stands y c ss ∷ rs) k h = gone_weaker P Q rs k h
gone_weaker P Q (Gone y ss ∷ rs) k h = (k y h.0, gone_weaker P Q rs k h.1)

gone_more : (P : Who → Type 0) (y : Who) (rs : List Ran) → AllGone P rs → AllGone P (rs ++ not_run y ∷ [])
gone_more P y [] h = tt
gone_more P y (Stands z c ss ∷ rs) h = gone_more P y rs h
gone_more P y (Gone z ss ∷ rs) h = (h.0, gone_more P y rs h.1)

gone_ran : (P : Who → Type 0) (who : Who) (x : Slice) (rs : List Ran) → AllGone P rs → AllGone P (map (ran_in who x) rs)
gone_ran P who x [] h = tt
gone_ran P who x (Stands z c ss ∷ rs) h = gone_ran P who x rs h
gone_ran P who x (Gone z ss ∷ rs) h = (h.0, gone_ran P who x rs h.1)

gone_completed : (P : Who → Type 0) (k : ℕ) (rs : List Ran) → AllGone P rs → AllGone P (map (completed k) rs)
gone_completed P k [] h = tt
gone_completed P k (Stands z c ss ∷ rs) h = gone_completed P k rs h
gone_completed P k (Gone z ss ∷ rs) h = (h.0, gone_completed P k rs h.1)

gone_left : (P : Who → Type 0) (who : Who) (rs : List Ran) → P who → AllGone P rs → AllGone P (map (left_for_good who) rs)
gone_left P who [] p h = tt
gone_left P who (Stands z c ss ∷ rs) p h = by (is_who z who) refl (gone_left P who rs p h)
  where
    by : (b : Bool) → is_who z who ≡ b → AllGone P (map (left_for_good who) rs) → AllGone P ((if b then Gone z ss else Stands z c ss) ∷ map (left_for_good who) rs)
    by true e g = (subst P (sym (is_who_true z who e)) p, g)
    by false e g = g
gone_left P who (Gone z ss ∷ rs) p h = (h.0, gone_left P who rs p h.1)

gone_without : (P : Who → Type 0) (who : Who) (rs : List Ran) → AllGone P rs → AllGone P (without_standing who rs)
gone_without P who [] h = tt
gone_without P who (Stands z c ss ∷ rs) h = by (is_who z who) (gone_without P who rs h)
  where
    by : (b : Bool) → AllGone P (without_standing who rs) → AllGone P (if b then without_standing who rs else Stands z c ss ∷ without_standing who rs)
    by true g = g
    by false g = g
gone_without P who (Gone z ss ∷ rs) h = (h.0, gone_without P who rs h.1)

gone_staying : (P : Who → Type 0) (cs : List Cascade) (rs : List Ran) → AllGone P rs → AllGone P (long_staying cs rs)
gone_staying P cs [] h = tt
gone_staying P cs (Stands z c ss ∷ rs) h = by (is_cut cs z) (gone_staying P cs rs h)
  where
    by : (b : Bool) → AllGone P (long_staying cs rs) → AllGone P (if b then [] else Stands z c ss ∷ long_staying cs rs)
    by true g = tt
    by false g = g
gone_staying P cs (Gone z ss ∷ rs) h = (h.0, gone_staying P cs rs h.1)

gone_asks : (P : Who → Type 0) (t : ℕ) (o : Option ℕ) (rs : List Ran) → AllGone P rs → AllGone P (rs ++ map not_run (asks t o))
gone_asks P t None rs h = gone_more P (OfAct t) rs h
gone_asks P t (Some older) rs h = rw (append-nil rs) h

gone_finish : (P : Who → Type 0) (t : ℕ) (b : Bool) (rs : List Ran) → (b ≡ false → P (OfAct t)) → AllGone P rs → AllGone P (if b then without_standing (OfAct t) rs else map (left_for_good (OfAct t)) rs)
gone_finish P t true rs p h = gone_without P (OfAct t) rs h
gone_finish P t false rs p h = gone_left P (OfAct t) rs (p refl) h

-- an ACT that leaves and is not undone was sealed with a value
finishes_sealed : {C : Type 0} (s : Machine C) (h : History) (t : ℕ) → Acts s h → holds (λ x. is_doomed x.status || is_sealed x.status) (act_of t s.book.acts) ≡ true → is_traceless (act_of t s.book.acts) ≡ false → holds is_sealed_act (act_of t s.book.acts) ≡ true
unfolding Acts
finishes_sealed s h t i ok u =
    let x = one_is (λ x. is_doomed x.status || is_sealed x.status) (act_of t s.book.acts) ok in
    let d = or_parts (is_doomed x.0.status) (is_failure x.0.result) (or_parts (is_doomed x.0.status || is_failure x.0.result) x.0.reader (subst (λ z. is_traceless z ≡ false) x.1 u)).0 in
    subst (λ o. holds is_sealed_act o ≡ true) (sym x.1) (by x.0.status x.0.result x.2 d.0 d.1 (i t x.0 x.1).ended)
  where
    by : (st : Status) (r : Option TxResult) → (is_doomed st || is_sealed st) ≡ true → is_doomed st ≡ false → is_failure r ≡ false → (is_ordered st ≡ true → is_some r ≡ true) → (is_sealed st && is_value r) ≡ true
    by Live r e d f k = absurd (true≢false (sym e))
    by (Doomed v) r e d f k = absurd (true≢false d)
    by (Decided c) r e d f k = absurd (true≢false (sym e))
    by (Sealed c) None e d f k = absurd (true≢false (sym (k refl)))
    by (Sealed c) (Some (Value v)) e d f k = refl
    by (Sealed c) (Some (Fail v)) e d f k = absurd (true≢false f)

now_settled : {C : Type 0} (w : Fixed C) (e : Event) (s : Machine C) (k : ℕ) → IsAllowed w e s → JustSettled e k → has_record w s (OfBatch k) ≡ true
unfolding conditions
now_settled w (Settle j) s k ok i = subst (λ z. has_record w s (OfBatch z) ≡ true) i (held (is_durable (is_commit j)) s.logs (j % w.text.logs) no_log ok.1.0)
now_settled w e s k ok i = absurd i

now_sealed : {C : Type 0} (w : Fixed C) (e : Event) (s : Machine C) (t : ℕ) → IsAllowed w e s → JustSealed e t → has_record w s (OfAct t) ≡ true
unfolding conditions
now_sealed w (Seal u) s t ok i = subst (λ z. has_record w s (OfAct z) ≡ true) i (held (is_durable (is_act_commit u)) s.logs (u % w.text.logs) no_log ok.1.0)
now_sealed w e s t ok i = absurd i

trims_settled : (k : ℕ) (bs : List Batch) (q : Batch → Bool) → holds (λ b. is_settled b.stage && q b) (batch_of k bs) ≡ true → holds is_settled_batch (batch_of k bs) ≡ true
trims_settled k bs q h = by (batch_of k bs) h
  where
    by : (o : Option Batch) → holds (λ b. is_settled b.stage && q b) o ≡ true → holds is_settled_batch o ≡ true
    by None h = h
    by (Some b) h = (and_parts (is_settled b.stage) (q b) h).0

-- what settled and what was sealed with a value has D; so has what is gone
pub gone_before : {C : Type 0} (w : Fixed C) (D : Who → Type 0) (e : Event) (s : Machine C) (h : History) → IsAllowed w e s → Acts s h → ((k : ℕ) → holds is_settled_batch (batch_of k s.desk.batches) ≡ true → D (OfBatch k)) → ((t : ℕ) → holds is_sealed_act (act_of t s.book.acts) ≡ true → D (OfAct t))
    → ((a : ℕ) → AllGone D (h.long a)) → (a : ℕ) → AllGone D ((grown w e s h).long a)
unfolding conditions grown
gone_before w D (Arrive k a) s h ok i settled sealed g = beside_carried (λ b rs. AllGone D rs) a _ h.long (λ x. gone_more _ (OfBatch k) (h.long a) x) g
gone_before w D (Ask t a) s h ok i settled sealed g = beside_carried (λ b rs. AllGone D rs) a _ h.long (λ x. gone_asks _ t (book.in_the_way (lock_of t s.book.acts) (cell_at s a).entries) (h.long a) x) g
gone_before w D (Run t a) s h ok i settled sealed g = beside_carried (λ b rs. AllGone D rs) a _ h.long (λ x. TrackLists.on_reads (AllGone D) (cell.reads_on t (cell_at s a).entries) _ _ (h.long a) (λ y. gone_ran _ _ _ (h.long a) y) x) g
gone_before w D (Complete k a) s h ok i settled sealed g = beside_carried (λ b rs. AllGone D rs) a _ h.long (λ x. gone_completed _ k (h.long a) x) g
gone_before w D (Rollback a) s h ok i settled sealed g = beside_carried (λ b rs. AllGone D rs) a _ h.long (λ x. gone_staying _ s.book.cascades (h.long a) x) g
gone_before w D (Finish t a) s h ok i settled sealed g = beside_carried (λ b rs. AllGone D rs) a _ h.long (λ x. gone_finish D t (is_traceless (act_of t s.book.acts)) (h.long a) (λ u. sealed t (finishes_sealed s h t i ok.0 u)) x) g
gone_before w D (Trim k a) s h ok i settled sealed g = beside_carried (λ b rs. AllGone D rs) a _ h.long (λ x. gone_left D (OfBatch k) (h.long a) (settled k (trims_settled k s.desk.batches _ ok.0)) x) g
gone_before w D e s h ok i settled sealed g = g

pub kept : {C : Type 0} (w : Fixed C) (e : Event) (s : Machine C) (h : History) → IsAllowed w e s → Acts s h → AllControls (NoneActed s) s → Durable w s h → Durable w (after w e s) (grown w e s h)
kept w e s h ok i n g = record {
  settled = λ k q. elim (settled_was w e s k q) [ inl o ↦ record_stays w e s (OfBatch k) (g.settled k o) | inr j ↦ record_stays w e s (OfBatch k) (now_settled w e s k ok j) ];
  sealed = λ t q. elim (sealed_was w e s h t ok i n q) [ inl o ↦ record_stays w e s (OfAct t) (g.sealed t o) | inr j ↦ record_stays w e s (OfAct t) (now_sealed w e s t ok j) ];
  gone = λ a. gone_weaker (λ y. has_record w s y ≡ true) (λ y. has_record w (after w e s) y ≡ true) ((grown w e s h).long a) (λ y q. record_stays w e s y q) (gone_before w (λ y. has_record w s y ≡ true) e s h ok i g.settled g.sealed g.gone a);
}
