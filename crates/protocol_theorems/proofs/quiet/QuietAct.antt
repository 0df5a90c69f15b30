-- An ACT that still has to do something waits for the batch of its before number, or for who stands ahead of it, or an event
-- is allowed.
use Rattle.std.specs.Prelude.{◌≡◌, refl, ℕ, ◌<◌, ◌≤◌, ◌%◌, ◌==◌, nat_le, max, not, Bool, true, false, ◌&&◌, ◌||◌, if◌then◌else◌, Option, Some, None, is_some, List, [], ◌∷◌, length, find, ◌⊎◌, ◌++◌}
use Rattle.std.specs.List.{list_any, list_all, AllByRecursion}
use Rattle.std.proofs.Common.{arith, sym, ap, subst, inl, inr, ◌∙◌}
use Rattle.std.proofs.lemmas.Bool.{and_parts, or_cases, true≢false, eqb-true, eq-eqb, le-leb, cases_Bool, not-true}
use Rattle.snap_base.specs.declared.transactions.TxResult.{TxResult}
use Rattle.snap_base.specs.declared.transactions.TxResult.TheVariants.{Value, Fail}
use Rattle.snap_base.proofs.Lists.{each_found}
use Rattle.protocol_laws.proofs.first.Lists.{all_join, join_assoc}
use Rattle.protocol_laws.proofs.machine.TurnsKept.{one_is}
use Rattle.protocol.specs.Rivals.{Lock}
use Rattle.protocol.specs.Fixed.{Fixed, base}
use Rattle.protocol.specs.Records.{is_prepare}
use Rattle.protocol.specs.Parts.{Act, Batch, Status, Live, Doomed, Decided, Sealed, Who, OfBatch, OfAct, Entry, BatchEntry, ActEntry, Machine, PlacedBatch}
use Rattle.protocol.specs.Events.{Ask, Take, Run, Prepare, Vouch, Decide}
use Rattle.protocol.specs.Words.{is_empty, is_among, holds, is_doomed, is_sealed, is_decided, is_value, is_failure, is_live_status, is_live_act, is_live_batch, is_vouched_everywhere, act_of, joined_of, waiting_of, batch_of, is_entry_of, is_clear, is_turn_of, has_entry, has_act, batches_on, is_over_for, ahead, is_act_entry, is_who, who_of}
use Rattle.protocol.specs.Conditions.{conditions, epoch}
use Rattle.protocol.specs.Effects.{cell_at, log_at, no_cell}
use Rattle.protocol.specs.Runs.{IsQuiet}
use Rattle.protocol_theorems.specs.Quiet.{Orderly, IsLiveBatch, ControlIsAt, is_waiting_act, EntriesTell}
use Rattle.protocol_theorems.specs.Waits.{IsPending, is_ahead, is_on_schedule, HasEndedAt, IsKeptBack, Waits, WaitsFor}
use Rattle.protocol_theorems.proofs.quiet.QuietEasy.{passes, there, list_all_of, false_not, durable, up_to_date, no_outcome, all_left, not_decided}
use Rattle.protocol_theorems.proofs.quiet.QuietBatch.{open_live, act_stands, trimmed_settled}

-- it is neither doomed nor decided nor sealed
is_live : {C : Type 0} (w : Fixed C) (s : Machine C) (t : ℕ) (y : Act) → IsQuiet w s → Orderly w s → act_of t s.book.acts ≡ Some y → is_live_act y ≡ true → is_doomed y.status ≡ false → is_live_status y.status ≡ true
is_live w s t y q o e l d = by y.status refl
  where
    by : (st : Status) → y.status ≡ st → is_live_status st ≡ true
    by Live i = refl
    by (Doomed v) i = absurd (true≢false (sym (ap is_doomed i) ∙ d))
    by (Decided c) i = absurd (true≢false (sym (ap is_decided i) ∙ not_decided w s q o.written o.some_logs t y e))
    by (Sealed c) i = absurd (true≢false (sym l ∙ over (is_empty y.places) (o.acts.somewhere t y e (ap is_sealed i)) (all_left w s q o.found t y e (rw i refl))))
      where
        over : (b : Bool) → b ≡ false → list_all (λ p. p.finished) y.places ≡ true → not (if b then is_doomed y.status else list_all (λ p. p.finished) y.places) ≡ false
        over true n f = absurd (true≢false n)
        over false n f = rw f refl

-- its before number is settled
low : {C : Type 0} (w : Fixed C) (s : Machine C) (t : ℕ) (y : Act) → IsQuiet w s → Orderly w s → (IsLiveBatch s y.m → ⊥) → act_of t s.book.acts ≡ Some y → is_doomed y.status ≡ false → y.m ≤ max s.desk.settled (base w.text)
low w s t y q o l e d = elim (o.acts.number t y e d) [
  | inl h ↦ omega (arith, h)
  | inr h ↦ let b = one_is (λ b. not b.aborted) (batch_of y.m s.desk.batches) h in by b.0 b.1 b.2 (list_all (λ p. p.trimmed) b.0.places) refl
]
  where
    by : (b : Batch) → batch_of y.m s.desk.batches ≡ Some b → not b.aborted ≡ true → (z : Bool) → list_all (λ p. p.trimmed) b.places ≡ z → y.m ≤ max s.desk.settled (base w.text)
    by b i n true h = omega (arith, o.acts.settled y.m b i (trimmed_settled w s y.m b o i h))
    by b i n false h = absurd (l (passes is_live_batch (batch_of y.m s.desk.batches) b i (rw (n, h) refl)))

-- with a result it can be decided
no_result : {C : Type 0} (w : Fixed C) (s : Machine C) (t : ℕ) (y : Act) (r : TxResult) → IsQuiet w s → Orderly w s → (IsLiveBatch s y.m → ⊥) → act_of t s.book.acts ≡ Some y → is_live_act y ≡ true → is_doomed y.status ≡ false → y.result ≡ Some r → ⊥
unfolding conditions
no_result w s t y r q o l e a d i = by r i
  where
    number : holds (λ x. nat_le x.m (max s.desk.settled (base w.text))) (act_of t s.book.acts) ≡ true
    number = passes (λ x. nat_le x.m (max s.desk.settled (base w.text))) (act_of t s.book.acts) y e (le-leb y.m (max s.desk.settled (base w.text)) (low w s t y q o l e d))

    ended : (r : TxResult) → y.result ≡ Some r → holds (λ x. is_some x.result && is_live_status x.status) (act_of t s.book.acts) ≡ true
    ended r i = passes (λ x. is_some x.result && is_live_status x.status) (act_of t s.book.acts) y e (rw (i, is_live w s t y q o e a d) refl)

    by : (r : TxResult) → y.result ≡ Some r → ⊥
    by (Fail c) i = q (Decide t) (ended (Fail c) i, (passes (λ x. is_failure x.result || is_vouched_everywhere x) (act_of t s.book.acts) y e (rw i refl), (number, tt)))
    by (Value v) i = q (Decide t) (ended (Value v) i, (passes (λ x. is_failure x.result || is_vouched_everywhere x) (act_of t s.book.acts) y e (rw i vouched), (number, tt)))
      where
        vouched : list_all (λ p. p.vouched) y.places ≡ true
        vouched = list_all_of (λ p. p.vouched) y.places (λ n p g bad.
            let j : joined_of p.actor y ≡ Some p = each_found (λ p. joined_of p.actor y ≡ Some p) y.places n p g (o.found.joined t y e) in
            elim (cases_Bool p.prepared) [
              | inl c ↦ q (Vouch t p.actor) (
                passes (λ x. is_live_act x && (not (is_doomed x.status) && holds (λ p. p.prepared && not p.vouched) (joined_of p.actor x))) (act_of t s.book.acts) y e (rw (a, d) (passes (λ p. p.prepared && not p.vouched) (joined_of p.actor y) p j (rw (c, bad) refl))),
                (durable w s q o.written.logs o.some_logs p.actor (is_prepare t p.actor) (each_found (λ p. p.prepared ≡ true → list_any (is_prepare t p.actor) (log_at s (p.actor % w.text.logs)).records ≡ true) y.places n p g (o.written.prepare t y e) c), tt),
              )
              | inr c ↦ q (Prepare t p.actor) (passes (λ x. is_value x.result && not (is_doomed x.status)) (act_of t s.book.acts) y e (rw (i, d) refl), (passes (λ x. holds (λ p. not p.prepared) (joined_of p.actor x)) (act_of t s.book.acts) y e (passes (λ p. not p.prepared) (joined_of p.actor y) p j (false_not p.prepared c)), tt))
            ])

act_entry : (t : ℕ) (es : List Entry) → has_act t es ≡ true → has_entry t es ≡ true
act_entry t [] h = h
act_entry t (BatchEntry b ∷ es) h = Rattle.std.proofs.lemmas.Bool.or_right (is_entry_of t (BatchEntry b)) (has_entry t es) (act_entry t es h)
act_entry t (ActEntry x ∷ es) h = by (x.tid == t) h (act_entry t es)
  where
    by : (b : Bool) → (b || has_act t es) ≡ true → (has_act t es ≡ true → has_entry t es ≡ true) → (b || has_entry t es) ≡ true
    by true g k = refl
    by false g k = k g

-- ---- readers stand ahead of one

abbrev IsPassed : ℕ → Entry → Type 0
IsPassed t (BatchEntry b) = ⊥
IsPassed t (ActEntry z) = (z.reader ≡ true) × ((z.tid == t) ≡ false)

batch_mid : (b : PlacedBatch) (seen es : List Entry) → is_among b.bid (batches_on (seen ++ BatchEntry b ∷ es)) ≡ true
batch_mid b [] es = rw (eq-eqb b.bid b.bid refl) refl
batch_mid b (BatchEntry x ∷ seen) es = Rattle.std.proofs.lemmas.Bool.or_right (x.bid == b.bid) _ (batch_mid b seen es)
batch_mid b (ActEntry x ∷ seen) es = batch_mid b seen es

act_mid : (z : Lock) (seen es : List Entry) → has_act z.tid (seen ++ ActEntry z ∷ es) ≡ true
act_mid z [] es = rw (eq-eqb z.tid z.tid refl) refl
act_mid z (x ∷ seen) es = Rattle.std.proofs.lemmas.Bool.or_right (is_act_entry z.tid x) _ (act_mid z seen es)

find_mid : (t : ℕ) (z : Lock) (seen es : List Entry) → (z.tid == t) ≡ true → AllByRecursion (IsPassed t) seen → find (is_entry_of t) (seen ++ ActEntry z ∷ es) ≡ Some (ActEntry z)
find_mid t z [] es u p = rw u refl
find_mid t z (BatchEntry x ∷ seen) es u p = absurd p.0
find_mid t z (ActEntry x ∷ seen) es u p = rw (p.0.1) (find_mid t z seen es u p.1)

ahead_mid : (t : ℕ) (z : Lock) (seen es : List Entry) → (z.tid == t) ≡ true → AllByRecursion (IsPassed t) seen → ahead (is_entry_of t) (seen ++ ActEntry z ∷ es) ≡ seen
ahead_mid t z [] es u p = rw u refl
ahead_mid t z (BatchEntry x ∷ seen) es u p = absurd p.0
ahead_mid t z (ActEntry x ∷ seen) es u p = rw (p.0.1) (ap (λ v. ActEntry x ∷ v) (ahead_mid t z seen es u p.1))

all_over : (t : ℕ) (z : Lock) (seen : List Entry) → AllByRecursion (IsPassed t) seen → z.reader ≡ true → list_all (is_over_for (ActEntry z)) seen ≡ true
all_over t z [] p r = refl
all_over t z (BatchEntry x ∷ seen) p r = absurd p.0
all_over t z (ActEntry x ∷ seen) p r = rw (r, p.0.0) (all_over t z seen p.1 r)

clear_mid : (t : ℕ) (z : Lock) (seen es : List Entry) → (z.tid == t) ≡ true → AllByRecursion (IsPassed t) seen → (z.reader ≡ true) ⊎ (seen ≡ []) → is_clear t (seen ++ ActEntry z ∷ es) ≡ true
clear_mid t z seen es u p k = rw (find_mid t z seen es u p, ahead_mid t z seen es u p) (elim k [ inl r ↦ all_over t z seen p r | inr r ↦ subst (λ v. list_all (is_over_for (ActEntry z)) v ≡ true) (sym r) refl ])

ahead_at : (y x : Who) (e : Entry) (seen es : List Entry) → (is_who (who_of e) y && is_on_schedule x es) ≡ true → is_ahead y x (seen ++ e ∷ es) ≡ true
ahead_at y x e [] es h = rw h refl
ahead_at y x e (z ∷ seen) es h = Rattle.std.proofs.lemmas.Bool.or_right (is_who (who_of z) y && is_on_schedule x (seen ++ e ∷ es)) _ (ahead_at y x e seen es h)

-- who stands ahead of it and does not let it pass
abbrev KeepsBack : {C : Type 0} → Machine C → ℕ → Who → Type 0
KeepsBack s t (OfBatch k) = IsKeptBack s t (OfBatch k)
KeepsBack s t (OfAct u) = Waits s (OfAct t) (OfAct u)

-- without a result it can go on
goes_on : {C : Type 0} (w : Fixed C) (s : Machine C) (t : ℕ) (y : Act) → IsQuiet w s → Orderly w s → ((x : Who) → IsPending s x → KeepsBack s t x → ⊥) → act_of t s.book.acts ≡ Some y → is_doomed y.status ≡ false → y.result ≡ None → ⊥
unfolding conditions
goes_on w s t y q o l e d i =
    let c = o.controls.of_act t y e d i in
    elim c.2 [ inl h ↦ by c.0 c.1 h | inr h ↦ no_outcome w s q t c.0 c.1 h ]
  where
    by : (a : ℕ) → a < length s.cells → ControlIsAt t a s → ⊥
    by a r (inl m) = elim (cases_Bool (has_act t (cell_at s a).entries)) [
      | inl h ↦ q (Take t a) (m, (there (λ c. has_entry t c.entries) s.cells a no_cell r (act_entry t (cell_at s a).entries h), tt))
      | inr h ↦ q (Ask t a) (m, (passes (λ x. not (is_doomed x.status)) (act_of t s.book.acts) y e (false_not (is_doomed y.status) d), (there (λ c. not (has_act t c.entries)) s.cells a no_cell r (false_not (has_act t (cell_at s a).entries) h), (there (λ c. c.epoch == epoch s.book) s.cells a no_cell r (eq-eqb (cell_at s a).epoch (epoch s.book) (up_to_date w s q a r (o.batches.behind a))), tt))))
    ]
    by a r (inr m) = first [] (cell_at s a).entries refl tt (inr refl) (o.acts.tell a) (o.controls.entered t a y e m)
      where
        now : (cell_at s a).epoch ≡ epoch s.book
        now = up_to_date w s q a r (o.batches.behind a)

        -- readers stand ahead, where it only reads
        first : (seen es : List Entry) → (cell_at s a).entries ≡ seen ++ es → AllByRecursion (IsPassed t) seen → (y.reader ≡ true) ⊎ (seen ≡ []) → EntriesTell s.book.acts es → has_act t es ≡ true → ⊥
        first seen [] g p k n h = true≢false (sym h)
        first seen (BatchEntry b ∷ es) g p k n h =
            let on : is_among b.bid (batches_on (cell_at s a).entries) ≡ true = subst (λ z. is_among b.bid (batches_on z) ≡ true) (sym g) (batch_mid b seen es) in
            l (OfBatch b.bid) (let v = o.batches.present a b.bid now on in open_live w s o b.bid a v (o.batches.on_schedule b.bid a v on)) (record { actor = a; present = now; ahead = subst (λ v. is_ahead (OfBatch b.bid) (OfAct t) v ≡ true) (sym g) (ahead_at (OfBatch b.bid) (OfAct t) (BatchEntry b) seen es (rw (eq-eqb b.bid b.bid refl, h) refl)) }, m)
        first seen (ActEntry z ∷ es) g p k n h = elim (cases_Bool (z.tid == t)) [
          | inl u ↦ q (Run t a) (
            there (λ c. is_some (waiting_of t c.inbox)) s.cells a no_cell r m,
            (
              there (λ c. is_clear t c.entries) s.cells a no_cell r (subst (λ v. is_clear t v ≡ true) (sym g) (clear_mid t z seen es u p (elim k [ inl v ↦ inl (sym (n.0 y (ap (λ x. act_of x s.book.acts) (eqb-true z.tid t u) ∙ e)) ∙ v) | inr v ↦ inr v ]))),
              (there (λ c. holds (is_turn_of t) (find (is_entry_of t) c.entries)) s.cells a no_cell r (subst (λ v. holds (is_turn_of t) (find (is_entry_of t) v) ≡ true) (sym g) (rw (find_mid t z seen es u p) refl)), tt),
            ),
          )
          | inr u ↦
              let behind : has_act t es ≡ true = elim (or_cases (z.tid == t) (has_act t es) h) [ inl v ↦ absurd (true≢false (sym v ∙ u)) | inr v ↦ v ] in
              let x = act_stands w s q o z.tid a (subst (λ v. has_act z.tid v ≡ true) (sym g) (act_mid z seen es)) in
              elim (cases_Bool (x.0.reader && y.reader)) [
                | inr v ↦ l (OfAct z.tid) (passes is_waiting_act (act_of z.tid s.book.acts) x.0 x.1 x.2) ((record { actor = a; present = now; ahead = subst (λ v. is_ahead (OfAct z.tid) (OfAct t) v ≡ true) (sym g) (ahead_at (OfAct z.tid) (OfAct t) (ActEntry z) seen es (rw (eq-eqb z.tid z.tid refl, behind) refl)) }, m), rw (x.1, e, v) refl)
                | inl v ↦
                    let both = and_parts x.0.reader y.reader v in
                    first (seen ++ ActEntry z ∷ []) es (g ∙ sym (join_assoc seen (ActEntry z ∷ []) es)) (all_join (IsPassed t) seen (ActEntry z ∷ []) p ((sym (n.0 x.0 x.1) ∙ both.0, u), tt)) (inl both.1) n.1 behind
              ]
        ]

-- An ACT that still has to do something waits for somebody.
pub no_act : {C : Type 0} (w : Fixed C) (s : Machine C) (t : ℕ) (y : Act) → IsQuiet w s → Orderly w s → ((x : Who) → WaitsFor s (OfAct t) x → ⊥) → act_of t s.book.acts ≡ Some y → is_waiting_act y ≡ true → ⊥
no_act w s t y q o n e h =
    let p = and_parts (is_live_act y) (not (is_doomed y.status)) h in
    by y.result refl p.0 (not-true (is_doomed y.status) p.1)
  where
    waiter : IsPending s (OfAct t)
    waiter = passes is_waiting_act (act_of t s.book.acts) y e h

    kept : (x : Who) → IsPending s x → KeepsBack s t x → ⊥
    kept (OfBatch k) v p = n (OfBatch k) (record { waiter = waiter; other = v; waits = inr p })
    kept (OfAct u) v p = n (OfAct u) (record { waiter = waiter; other = v; waits = p })

    by : (r : Option TxResult) → y.result ≡ r → is_live_act y ≡ true → is_doomed y.status ≡ false → ⊥
    by None i a d = goes_on w s t y q o kept e d i
    by (Some r) i a d =
        let ended : HasEndedAt s t y.m = passes (λ x. is_live_status x.status && (is_some x.result && (x.m == y.m))) (act_of t s.book.acts) y e (rw (is_live w s t y q o e a d, i, eq-eqb y.m y.m refl) refl) in
        no_result w s t y r q o (λ v. n (OfBatch y.m) (record { waiter = waiter; other = v; waits = inl ended })) e a d i
