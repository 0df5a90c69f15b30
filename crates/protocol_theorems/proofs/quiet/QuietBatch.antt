-- A batch that is not over waits for a smaller batch, or for an ACT that stands ahead of it, or an event is allowed.
use Rattle.std.specs.Prelude.{◌≡◌, refl, ℕ, zero, suc, ◌<◌, ◌%◌, ◌==◌, nat_le, not, Bool, true, false, ◌&&◌, ◌||◌, if◌then◌else◌, Option, Some, None, is_some, List, [], ◌∷◌, length, find, slice_get}
use Rattle.std.specs.List.{AllByRecursion, list_any, list_all}
use Rattle.std.proofs.Common.{arith, sym, ap, subst, inl, inr, ◌∙◌}
use Rattle.std.proofs.lemmas.Bool.{and_parts, or_cases, true≢false, eqb-true, eq-eqb, le-leb, cases_Bool, cases_lt, not-true}
use Rattle.snap_base.specs.declared.transactions.TxResult.{TxResult}
use Rattle.snap_base.specs.declared.transactions.TxResult.TheVariants.{Value, Fail}
use Rattle.snap_base.proofs.Lists.{each_found}
use Rattle.protocol.specs.Fixed.{Fixed}
use Rattle.protocol.specs.Records.{is_info, is_complete}
use Rattle.protocol.specs.Parts.{Act, Batch, Declared, Pact, Stage, Formed, Committing, Settled, SubBatch, PlacedBatch, Slot, Who, OfBatch, OfAct, Entry, BatchEntry, ActEntry, Machine}
use Rattle.protocol.specs.Events.{Arrive, Take, Run, Close, Complete, Note, Commit, Abort}
use Rattle.protocol.specs.Words.{is_empty, is_among, holds, is_aborted, is_doomed, is_value, is_formed, is_committing, is_settled, is_open, is_live_batch, is_next_to_commit, first_failed, act_of, joined_of, sub_of, waiting_of, batch_of, declared_of, names_pact, pact_result, names_slot, is_entry_of, is_batch_entry, is_clear, is_turn_of, has_undone, has_entry, has_act, is_complete_batch, is_all_done, ahead, batches_on}
use Rattle.protocol.specs.Conditions.{conditions, epoch}
use Rattle.protocol.specs.Effects.{cell_at, log_at, no_cell}
use Rattle.protocol.specs.Runs.{IsQuiet}
use Rattle.protocol_laws.specs.FromDesk.{is_pact_of}
use Rattle.protocol_laws.proofs.machine.TurnsKept.{one_is}
use Rattle.protocol_theorems.specs.Quiet.{Orderly, IsLiveBatch, ControlIsAt, is_waiting_act, NumbersRise}
use Rattle.protocol_theorems.specs.Waits.{IsPending, is_ahead, StandsAhead, IsOpenBatch, WaitsFor}
use Rattle.protocol_theorems.proofs.quiet.QuietEasy.{passes, there, any_at, all_in, list_all_of, found_at, false_not, durable, up_to_date, no_outcome, no_aborted_sub, has_left, not_committing, settled_is_trimmed}

-- ---- who is on a schedule is not over

-- a batch that is not trimmed somewhere is live
pub open_live : {C : Type 0} (w : Fixed C) (s : Machine C) → Orderly w s → (k a : ℕ) → is_aborted k s.book.cascades ≡ false → holds (λ b. holds (λ p. not p.trimmed) (declared_of a b)) (batch_of k s.desk.batches) ≡ true → IsLiveBatch s k
open_live w s o k a n h =
    let b = one_is (λ b. holds (λ p. not p.trimmed) (declared_of a b)) (batch_of k s.desk.batches) h in
    let p = one_is (λ p. not p.trimmed) (declared_of a b.0) b.2 in
    let i = found_at (λ p. p.actor == a) b.0.places p.0 p.1 in
    passes is_live_batch (batch_of k s.desk.batches) b.0 b.1 (rw (o.batches.marked k b.0 b.1 ∙ n) (by (list_all (λ p. p.trimmed) b.0.places) (λ e. all_in (λ p. p.trimmed) b.0.places i.0 p.0 i.1 e) p.2))
  where
    by : {x : Bool} (y : Bool) → (y ≡ true → x ≡ true) → not x ≡ true → not y ≡ true
    by true f e = absurd (true≢false (sym (f refl) ∙ not-true _ e))
    by false f e = refl

-- an ACT on a schedule still has to do something
pub act_stands : {C : Type 0} (w : Fixed C) (s : Machine C) → IsQuiet w s → Orderly w s → (t a : ℕ) → has_act t (cell_at s a).entries ≡ true → (x : Act) × (act_of t s.book.acts ≡ Some x) × (is_waiting_act x ≡ true)
act_stands w s q o t a h =
    let x = one_is (λ x. holds (λ p. not p.finished) (joined_of a x)) (act_of t s.book.acts) (o.acts.stands t a h) in
    let p = one_is (λ p. not p.finished) (joined_of a x.0) x.2 in
    let i = found_at (λ p. p.actor == a) x.0.places p.0 p.1 in
    let d : is_doomed x.0.status ≡ false = by (is_doomed x.0.status) (λ e. has_left w s q t a x.0 p.0 x.1 (rw e refl) p.1) p.2 in
    (x.0, x.1, live x.0 d (by (list_all (λ p. p.finished) x.0.places) (λ e. all_in (λ p. p.finished) x.0.places i.0 p.0 i.1 e) p.2))
  where
    by : {x : Bool} (y : Bool) → (y ≡ true → x ≡ true) → not x ≡ true → y ≡ false
    by true f e = absurd (true≢false (sym (f refl) ∙ not-true _ e))
    by false f e = refl

    live : (x : Act) → is_doomed x.status ≡ false → list_all (λ p. p.finished) x.places ≡ false → is_waiting_act x ≡ true
    live x d f = one (is_empty x.places)
      where
        one : (b : Bool) → (not (if b then is_doomed x.status else list_all (λ p. p.finished) x.places) && not (is_doomed x.status)) ≡ true
        one true = rw d refl
        one false = rw (f, d) refl

-- ---- a batch that waits for nobody

pub record IsFree {C : Type 0} (s : Machine C) (k : ℕ) : Type 0 where
  pub batches : (j : ℕ) → j < k → IsLiveBatch s j → ⊥
  pub acts : (u : ℕ) → IsPending s (OfAct u) → StandsAhead s (OfAct u) (OfBatch k) → ⊥

-- the batch stands first on the actor
abbrev pub IsFirst : {C : Type 0} → ℕ → ℕ → Machine C → Type 0
IsFirst k a s = (e : PlacedBatch) × (es : List Entry) × ((cell_at s a).entries ≡ BatchEntry e ∷ es) × (e.bid ≡ k)

-- who is trimmed everywhere is settled
pub trimmed_settled : {C : Type 0} (w : Fixed C) (s : Machine C) (k : ℕ) (b : Batch) → Orderly w s → batch_of k s.desk.batches ≡ Some b → list_all (λ p. p.trimmed) b.places ≡ true → is_settled b.stage ≡ true
trimmed_settled w s k b o e t = by b.places (o.batches.somewhere k b e) t (o.batches.trimmed k b e)
  where
    by : (ps : List Declared) → is_empty ps ≡ false → list_all (λ p. p.trimmed) ps ≡ true → AllByRecursion (λ p. p.trimmed ≡ true → is_settled b.stage ≡ true) ps → is_settled b.stage ≡ true
    by [] n g h = absurd (true≢false n)
    by (p ∷ ps) n g h = h.0 (and_parts p.trimmed (list_all (λ p. p.trimmed) ps) g).0

-- all smaller ones are over
next_to_commit : {C : Type 0} (w : Fixed C) (s : Machine C) (k : ℕ) → Orderly w s → IsFree s k → is_next_to_commit k s.desk.batches ≡ true
next_to_commit w s k o l = list_all_of (λ b. nat_le k b.bid || (b.aborted || is_settled b.stage)) s.desk.batches one
  where
    one : (i : ℕ) (b : Batch) → slice_get s.desk.batches i ≡ Some b → (nat_le k b.bid || (b.aborted || is_settled b.stage)) ≡ false → ⊥
    one i b g n =
        let e = each_found (λ b. batch_of b.bid s.desk.batches ≡ Some b) s.desk.batches i b g o.found.batches in
        by e (nat_le k b.bid) b.aborted refl refl n (list_all (λ p. p.trimmed) b.places) refl
      where
        by : batch_of b.bid s.desk.batches ≡ Some b → (x y : Bool) → nat_le k b.bid ≡ x → b.aborted ≡ y → (x || (y || is_settled b.stage)) ≡ false → (z : Bool) → list_all (λ p. p.trimmed) b.places ≡ z → ⊥
        by e true y f g n z h = true≢false n
        by e false true f g n z h = true≢false n
        by e false false f g n true h = true≢false (sym (trimmed_settled w s b.bid b o e h) ∙ n)
        by e false false f g n false h = elim (cases_lt b.bid k) [
          | inl m ↦ l.batches b.bid m (passes is_live_batch (batch_of b.bid s.desk.batches) b e (rw (g, h) refl))
          | inr m ↦ true≢false (sym (le-leb k b.bid m) ∙ f)
        ]

-- who is on a schedule there is first
first_of : {C : Type 0} (w : Fixed C) (s : Machine C) (k a : ℕ) → IsQuiet w s → Orderly w s → IsFree s k → a < length s.cells → is_among k (batches_on (cell_at s a).entries) ≡ true → IsFirst k a s
first_of w s k a q o l r h = by (cell_at s a).entries refl h
  where
    now : (cell_at s a).epoch ≡ epoch s.book
    now = up_to_date w s q a r (o.batches.behind a)

    by : (es : List Entry) → (cell_at s a).entries ≡ es → is_among k (batches_on es) ≡ true → IsFirst k a s
    by [] e g = absurd (true≢false (sym g))
    by (BatchEntry b ∷ es) e g = elim (or_cases (b.bid == k) (is_among k (batches_on es)) g) [
      | inl i ↦ (b, es, e, eqb-true b.bid k i)
      | inr i ↦
          let rises = subst (λ z. NumbersRise (batches_on z)) e (o.batches.rises a) in
          let on : is_among b.bid (batches_on (cell_at s a).entries) ≡ true = subst (λ z. is_among b.bid (batches_on z) ≡ true) (sym e) (rw (eq-eqb b.bid b.bid refl) refl) in
          absurd (l.batches b.bid (rises.0 k i) (let v = o.batches.present a b.bid now on in open_live w s o b.bid a v (o.batches.on_schedule b.bid a v on)))
    ]
    by (ActEntry z ∷ es) e g =
        let x = act_stands w s q o z.tid a (subst (λ v. has_act z.tid v ≡ true) (sym e) (rw (eq-eqb z.tid z.tid refl) refl)) in
        absurd (l.acts z.tid (passes is_waiting_act (act_of z.tid s.book.acts) x.0 x.1 x.2) (record { actor = a; present = now; ahead = subst (λ v. is_ahead (OfAct z.tid) (OfBatch k) v ≡ true) (sym e) (rw (eq-eqb z.tid z.tid refl, g) refl) }))

-- the batch is on its way to no actor: it could arrive
not_on_way : {C : Type 0} (w : Fixed C) (s : Machine C) (k a : ℕ) (b : Batch) → IsQuiet w s → Orderly w s → IsFree s k → a < length s.cells → batch_of k s.desk.batches ≡ Some b → is_open b ≡ true → is_some (sub_of k a s.post.subs) ≡ true → ⊥
unfolding conditions
not_on_way w s k a b q o l r e p h = by (sub_of k a s.post.subs) refl h
  where
    now : (cell_at s a).epoch ≡ epoch s.book
    now = up_to_date w s q a r (o.batches.behind a)

    fresh : is_aborted k s.book.cascades ≡ false
    fresh = no_aborted_sub w s q k a h

    smaller : (j : ℕ) → j < k → is_some (sub_of j a s.post.subs) ≡ true → is_aborted j s.book.cascades ≡ true
    smaller j m g = elim (cases_Bool (is_aborted j s.book.cascades)) [
      | inl y ↦ y
      | inr n ↦ absurd (l.batches j m (open_live w s o j a n (o.batches.on_way j a n g)))
    ]

    by : (m : Option SubBatch) → sub_of k a s.post.subs ≡ m → is_some m ≡ true → ⊥
    by None i g = true≢false (sym g)
    by (Some m) i g =
        let t = o.batches.epochs k a m i (passes (λ b. is_formed b.stage && not b.aborted) (batch_of k s.desk.batches) b e p) in
        let n = o.batches.next k a m (record { under_way = i; not_aborted = fresh; of_epoch = t; present = now; first = smaller }) in
        q (Arrive k a) (
          h,
          (
            rw fresh refl,
            (
              passes (λ m. (m.epoch == epoch s.book) && holds (λ c. c.epoch == epoch s.book) (slice_get s.cells a)) (sub_of k a s.post.subs) m i (rw (eq-eqb m.epoch (epoch s.book) t) (there (λ c. c.epoch == epoch s.book) s.cells a no_cell r (eq-eqb (cell_at s a).epoch (epoch s.book) now))),
              (passes (λ m. holds (λ c. m.prev == c.tail) (slice_get s.cells a)) (sub_of k a s.post.subs) m i (there (λ c. m.prev == c.tail) s.cells a no_cell r (eq-eqb m.prev (cell_at s a).tail n)), tt),
            ),
          ),
        )

-- on each of its actors it stands first
stands_first : {C : Type 0} (w : Fixed C) (s : Machine C) (k a : ℕ) (b : Batch) → IsQuiet w s → Orderly w s → IsFree s k → batch_of k s.desk.batches ≡ Some b → is_open b ≡ true → (p : Declared) → declared_of a b ≡ Some p → (a < length s.cells) × IsFirst k a s
stands_first w s k a b q o l e f p d =
    let i = found_at (λ p. p.actor == a) b.places p d in
    let g = each_found (λ p. (declared_of p.actor b ≡ Some p) × (p.actor < length s.cells)) b.places i.0 p i.1 (o.found.declared k b e) in
    let own : p.actor ≡ a = at b.places p d in
    let r : a < length s.cells = subst (λ z. z < length s.cells) own g.1 in
    let parts = and_parts (is_formed b.stage) (not b.aborted) f in
    let unfit : not p.trimmed ≡ true = untrimmed p.trimmed (each_found (λ p. p.trimmed ≡ true → is_settled b.stage ≡ true) b.places i.0 p i.1 (o.batches.trimmed k b e)) b.stage refl parts.0 in
    let fresh : is_aborted k s.book.cascades ≡ false = sym (o.batches.marked k b e) ∙ not-true b.aborted parts.1 in (
      r,
      elim (o.batches.placed k a fresh (passes (λ b. holds (λ p. not p.trimmed) (declared_of a b)) (batch_of k s.desk.batches) b e (passes (λ p. not p.trimmed) (declared_of a b) p d unfit))) [
        | inl h ↦ absurd (not_on_way w s k a b q o l r e f h)
        | inr h ↦ first_of w s k a q o l r h
      ],
    )
  where
    at : (ps : List Declared) (p : Declared) → find (λ p. p.actor == a) ps ≡ Some p → p.actor ≡ a
    at [] p h = absurd (cc h)
    at (x ∷ ps) p h = by (x.actor == a) refl h (at ps p)
      where
        by : (b : Bool) → (x.actor == a) ≡ b → (if b then Some x else find (λ p. p.actor == a) ps) ≡ Some p → (find (λ p. p.actor == a) ps ≡ Some p → p.actor ≡ a) → p.actor ≡ a
        by true i g k = let z : x ≡ p = cc g in subst (λ v. v.actor ≡ a) z (eqb-true x.actor a i)
        by false i g k = k g

    untrimmed : (x : Bool) → (x ≡ true → is_settled b.stage ≡ true) → (st : Stage) → b.stage ≡ st → is_formed b.stage ≡ true → not x ≡ true
    untrimmed false h st i f = refl
    untrimmed true h st i f = absurd (both b.stage f (h refl))
      where
        both : (st : Stage) → is_formed st ≡ true → is_settled st ≡ true → ⊥
        both Formed f g = true≢false (sym g)
        both Committing f g = true≢false (sym g)
        both Settled f g = true≢false (sym f)

-- ---- its PACTs end

-- a slot whose PACT has a result is done
closed : {C : Type 0} (w : Fixed C) (s : Machine C) (a : ℕ) (e : PlacedBatch) (es : List Entry) → IsQuiet w s → a < length s.cells → (cell_at s a).entries ≡ BatchEntry e ∷ es → (i : ℕ) (x : Slot) → slice_get e.slots i ≡ Some x → is_some (pact_result x.tid s.desk.batches) ≡ true → x.done ≡ true
unfolding conditions
closed w s a e es q r f i x g h = elim (cases_Bool x.done) [
  | inl d ↦ d
  | inr d ↦ absurd (q (Close x.tid a) (h, (there (λ c. has_undone x.tid c.entries) s.cells a no_cell r (subst (λ z. has_undone x.tid z ≡ true) (sym f) (rw (any_at (λ y. (y.tid == x.tid) && not y.done) e.slots i x g (rw (eq-eqb x.tid x.tid refl, d) refl)) refl)), tt)))
]

one_result : {C : Type 0} (w : Fixed C) (s : Machine C) (k t : ℕ) (b : Batch) → IsQuiet w s → Orderly w s → IsFree s k → batch_of k s.desk.batches ≡ Some b → is_open b ≡ true → is_pact_of t k s.desk.batches ≡ true
    → ((u : ℕ) → u < t → is_pact_of u k s.desk.batches ≡ true → is_some (pact_result u s.desk.batches) ≡ true) → pact_result t s.desk.batches ≡ None → ⊥
unfolding conditions
one_result {C} w s k t b q o l e f p before none =
    let c = o.controls.of_pact t k p fresh none in
    elim c.2 [ inl h ↦ by c.0 h | inr h ↦ no_outcome w s q t c.0 c.1 h ]
  where
    fresh : is_aborted k s.book.cascades ≡ false
    fresh = sym (o.batches.marked k b e) ∙ not-true b.aborted (and_parts (is_formed b.stage) (not b.aborted) f).1

    by : (a : ℕ) → ControlIsAt t a s → ⊥
    by a h =
        let d = one_is (λ b. is_some (declared_of a b)) (batch_of k s.desk.batches) (o.controls.declared t k a p fresh h) in
        let i : d.0 ≡ b = same d.0 (d.1) in
        let g = some (declared_of a b) (subst (λ v. is_some (declared_of a v) ≡ true) i d.2) in
        let z = stands_first w s k a b q o l e f g.0 g.1 in
        there_is a h z.0 z.1.0 z.1.1 z.1.2 z.1.3
      where
        same : (c : Batch) → batch_of k s.desk.batches ≡ Some c → c ≡ b
        same c j = let m : Some c ≡ Some b = sym j ∙ e in cc m

        some : (x : Option Declared) → is_some x ≡ true → (p : Declared) × (x ≡ Some p)
        some None j = absurd (true≢false (sym j))
        some (Some p) j = (p, refl)

        there_is : (a : ℕ) → ControlIsAt t a s → a < length s.cells → (x : PlacedBatch) (es : List Entry) → (cell_at s a).entries ≡ BatchEntry x ∷ es → x.bid ≡ k → ⊥
        there_is a h r x es g j =
            let n : names_slot t x ≡ true = o.controls.named t a x es (subst (λ z. is_pact_of t z s.desk.batches ≡ true) (sym j) p) (subst (λ z. is_aborted z s.book.cascades ≡ false) (sym j) fresh) h g in
            elim h [
              | inl m ↦ q (Take t a) (m, (there (λ c. has_entry t c.entries) s.cells a no_cell r (subst (λ z. has_entry t z ≡ true) (sym g) (rw n refl)), tt))
              | inr m ↦ q (Run t a) (
                there (λ c. is_some (waiting_of t c.inbox)) s.cells a no_cell r m,
                (
                  there (λ c. is_clear t c.entries) s.cells a no_cell r (subst (λ z. is_clear t z ≡ true) (sym g) (rw n refl)),
                  (there (λ c. holds (is_turn_of t) (find (is_entry_of t) c.entries)) s.cells a no_cell r (subst (λ z. holds (is_turn_of t) (find (is_entry_of t) z) ≡ true) (sym g) (rw n (turn n))), tt),
                ),
              )
            ]
          where
            turn : names_slot t x ≡ true → list_all (λ y. nat_le t y.tid || y.done) x.slots ≡ true
            turn n = list_all_of (λ y. nat_le t y.tid || y.done) x.slots (λ i y at bad. one i y at (nat_le t y.tid) refl bad)
              where
                one : (i : ℕ) (y : Slot) → slice_get x.slots i ≡ Some y → (v : Bool) → nat_le t y.tid ≡ v → (v || y.done) ≡ false → ⊥
                one i y at true v bad = true≢false bad
                one i y at false v bad = elim (cases_lt y.tid t) [
                  | inl m ↦ true≢false (sym (closed w s a x es q r g i y at (before y.tid m (subst (λ z. is_pact_of y.tid z s.desk.batches ≡ true) j (each_found (λ y. is_pact_of y.tid x.bid s.desk.batches ≡ true) x.slots i y at (o.batches.slots a x es g))))) ∙ bad)
                  | inr m ↦ true≢false (sym (le-leb t y.tid m) ∙ v)
                ]

results_below : {C : Type 0} (w : Fixed C) (s : Machine C) (k : ℕ) (b : Batch) → IsQuiet w s → Orderly w s → IsFree s k → batch_of k s.desk.batches ≡ Some b → is_open b ≡ true → (n t : ℕ) → t < n → is_pact_of t k s.desk.batches ≡ true → is_some (pact_result t s.desk.batches) ≡ true
results_below w s k b q o l e f zero t m p = absurd (omega (arith, m))
results_below w s k b q o l e f (suc n) t m p = by (pact_result t s.desk.batches) refl (λ u v. results_below w s k b q o l e f n u (omega (arith, v, m)))
  where
    by : (r : Option TxResult) → pact_result t s.desk.batches ≡ r → ((u : ℕ) → u < t → is_pact_of u k s.desk.batches ≡ true → is_some (pact_result u s.desk.batches) ≡ true) → is_some r ≡ true
    by (Some r) g h = refl
    by None g h = absurd (one_result w s k t b q o l e f p h g)

-- ---- it ends

-- where all have results and none failed first, all have values
all_values : (ps : List Pact) → list_all (λ p. is_some p.result) ps ≡ true → is_some (first_failed ps) ≡ false → list_all (λ p. is_value p.result) ps ≡ true
all_values [] h f = refl
all_values (p ∷ ps) h f = by p.result (and_parts (is_some p.result) (list_all (λ p. is_some p.result) ps) h) refl f (all_values ps)
  where
    by : (r : Option TxResult) → (is_some p.result ≡ true) × (list_all (λ p. is_some p.result) ps ≡ true) → p.result ≡ r → is_some (first_failed (p ∷ ps)) ≡ false → (list_all (λ p. is_some p.result) ps ≡ true → is_some (first_failed ps) ≡ false → list_all (λ p. is_value p.result) ps ≡ true) → (is_value p.result && list_all (λ p. is_value p.result) ps) ≡ true
    by None g e n k = absurd (true≢false (sym g.0 ∙ ap is_some e))
    by (Some (Value v)) g e n k = rw e (k g.1 (sym (pass e) ∙ n))
      where
        pass : p.result ≡ Some (Value v) → is_some (first_failed (p ∷ ps)) ≡ is_some (first_failed ps)
        pass i = rw i refl
    by (Some (Fail c)) g e n k = absurd (true≢false (sym (fails e) ∙ n))
      where
        fails : p.result ≡ Some (Fail c) → is_some (first_failed (p ∷ ps)) ≡ true
        fails i = rw i refl

not_open : {C : Type 0} (w : Fixed C) (s : Machine C) (k : ℕ) (b : Batch) → IsQuiet w s → Orderly w s → IsFree s k → batch_of k s.desk.batches ≡ Some b → is_open b ≡ true → ⊥
unfolding conditions
not_open w s k b q o l e f =
    elim (cases_Bool (is_some (first_failed b.pacts))) [
      | inl d ↦ q (Abort k) (first, (passes (λ b. is_some (first_failed b.pacts)) (batch_of k s.desk.batches) b e d, tt))
      | inr d ↦ q (Commit k) (first, (passes (λ b. list_all (λ p. is_value p.result) b.pacts) (batch_of k s.desk.batches) b e (all_values b.pacts ended d), (passes (λ b. list_all (λ p. p.noted) b.places) (batch_of k s.desk.batches) b e noted, (durable w s q o.written.logs o.some_logs k (is_info k) (o.written.info k b e), tt))))
    ]
  where
    first : holds (λ b. is_open b && is_next_to_commit k s.desk.batches) (batch_of k s.desk.batches) ≡ true
    first = passes (λ b. is_open b && is_next_to_commit k s.desk.batches) (batch_of k s.desk.batches) b e (rw (f, next_to_commit w s k o l) refl)

    result : (t : ℕ) → is_pact_of t k s.desk.batches ≡ true → is_some (pact_result t s.desk.batches) ≡ true
    result t p = results_below w s k b q o l e f (suc t) t (omega arith) p

    ended : list_all (λ p. is_some p.result) b.pacts ≡ true
    ended = list_all_of (λ p. is_some p.result) b.pacts (λ i p g n.
        let r = each_found (λ p. (pact_result p.tid s.desk.batches ≡ p.result) × (names_pact p.tid b ≡ true)) b.pacts i p g (o.found.results k b e) in
        true≢false (sym (result p.tid (passes (names_pact p.tid) (batch_of k s.desk.batches) b e r.1)) ∙ (ap is_some r.0 ∙ n)))

    is_noted : (a : ℕ) (p : Declared) → declared_of a b ≡ Some p → not p.noted ≡ true → a < length s.cells → (x : PlacedBatch) (es : List Entry) → (cell_at s a).entries ≡ BatchEntry x ∷ es → x.bid ≡ k → ⊥
    is_noted a p d n r x es g j =
        let done : list_all (λ y. y.done) x.slots ≡ true = list_all_of (λ y. y.done) x.slots (λ i y at bad. true≢false (sym (closed w s a x es q r g i y at (result y.tid (subst (λ z. is_pact_of y.tid z s.desk.batches ≡ true) j (each_found (λ y. is_pact_of y.tid x.bid s.desk.batches ≡ true) x.slots i y at (o.batches.slots a x es g))))) ∙ bad)) in
        let own : (x.bid == k) ≡ true = eq-eqb x.bid k j in
        elim (cases_Bool x.complete) [
          | inl c ↦ q (Note k a) (passes (λ b. is_open b && holds (λ p. not p.noted) (declared_of a b)) (batch_of k s.desk.batches) b e (rw f (passes (λ p. not p.noted) (declared_of a b) p d n)), (durable w s q o.written.logs o.some_logs a (is_complete k a) (subst (λ z. list_any (is_complete z a) (log_at s (a % w.text.logs)).records ≡ true) j (o.written.complete a x es g c)), tt))
          | inr c ↦ q (Complete k a) (
            there (λ c. holds (λ e. not (is_complete_batch e)) (find (is_batch_entry k) c.entries)) s.cells a no_cell r (subst (λ z. holds (λ e. not (is_complete_batch e)) (find (is_batch_entry k) z) ≡ true) (sym g) (rw own (false_not x.complete c))),
            (
              there (λ c. list_all is_complete_batch (ahead (is_batch_entry k) c.entries)) s.cells a no_cell r (subst (λ z. list_all is_complete_batch (ahead (is_batch_entry k) z) ≡ true) (sym g) (rw own refl)),
              (there (λ c. holds is_all_done (find (is_batch_entry k) c.entries)) s.cells a no_cell r (subst (λ z. holds is_all_done (find (is_batch_entry k) z) ≡ true) (sym g) (rw own done)), tt),
            ),
          )
        ]

    noted : list_all (λ p. p.noted) b.places ≡ true
    noted = list_all_of (λ p. p.noted) b.places (λ i p g n.
        let d = (each_found (λ p. (declared_of p.actor b ≡ Some p) × (p.actor < length s.cells)) b.places i p g (o.found.declared k b e)).0 in
        let z = stands_first w s k p.actor b q o l e f p d in
        is_noted p.actor p d (false_not p.noted n) z.0 z.1.0 z.1.1 z.1.2 z.1.3)

-- A live batch waits for somebody.
pub no_batch : {C : Type 0} (w : Fixed C) (s : Machine C) (k : ℕ) → IsQuiet w s → Orderly w s → ((y : Who) → WaitsFor s (OfBatch k) y → ⊥) → IsLiveBatch s k → ⊥
no_batch w s k q o n h =
    let b = one_is is_live_batch (batch_of k s.desk.batches) h in
    let p = and_parts (not b.0.aborted) (not (list_all (λ p. p.trimmed) b.0.places)) b.2 in
    by b.0 b.1 (not-true b.0.aborted p.0) p.1 b.0.stage refl
  where
    free : IsOpenBatch s k → IsFree s k
    free i = record {
      batches = λ j m v. n (OfBatch j) (record { waiter = h; other = v; waits = (i, m) });
      acts = λ u v a. n (OfAct u) (record { waiter = h; other = v; waits = (i, a) });
    }

    by : (b : Batch) → batch_of k s.desk.batches ≡ Some b → b.aborted ≡ false → not (list_all (λ p. p.trimmed) b.places) ≡ true → (st : Stage) → b.stage ≡ st → ⊥
    by b e n t Formed i = let open_there : is_open b ≡ true = rw (i, n) refl in not_open w s k b q o (free (passes is_open (batch_of k s.desk.batches) b e open_there)) e open_there
    by b e n t Committing i = true≢false (sym (ap is_committing i) ∙ not_committing w s q o.written o.some_logs k b e n)
    by b e n t Settled i = true≢false (sym (settled_is_trimmed w s q o.found k b e n (ap is_settled i)) ∙ not-true (list_all (λ p. p.trimmed) b.places) t)
