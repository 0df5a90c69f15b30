-- What an event that makes something new finds.
use Rattle.std.specs.Prelude.{◌≡◌, refl, ℕ, zero, suc, ◌+◌, ◌<◌, ◌≤◌, ◌==◌, Bool, true, false, not, ◌&&◌, ◌||◌, if◌then◌else◌, Option, Some, None, List, [], ◌∷◌, ◌++◌, length, map, find}
use Rattle.std.specs.List.{list_any}
use Rattle.std.proofs.Common.{arith, sym, ap, ◌∙◌}
use Rattle.std.proofs.lemmas.Bool.{true≢false, and_parts, eqb-true, not-true}
use Rattle.protocol.specs.Fixed.{Fixed}
use Rattle.protocol.specs.Parts.{ControlMessage, Outcome, Batch, Stage, Formed, Committing, Settled, Machine}
use Rattle.protocol.specs.Words.{holds, below, is_formed, is_settled, is_open, is_next_to_commit, is_going, is_aborted, control_of, outcome_of, batch_of, act_of}
use Rattle.protocol.specs.Numbers.{times, one_if, outcome_tids, controls_in, ControlsInOnePlace}
use Rattle.protocol.specs.Epochs.{EpochsAgree, NamesItsPlace}
use Rattle.protocol.specs.Settling.{BatchesSettleInOrder}
use Rattle.protocol.specs.Events.{Event, Form, Admit, Send, Abort}
use Rattle.protocol.specs.Conditions.{IsAllowed, conditions}
use Rattle.protocol.specs.Effects.{cell_at, no_cell}
use Rattle.protocol.specs.Runs.{opening, reached}
use Rattle.protocol.specs.OnRing.{next_pacts, declares}
use Rattle.protocol_theorems.specs.Sizes.{FindsRoom, AllFindRoom}
use Rattle.protocol.specs.Laws.{AfterEveryRun}
use Rattle.protocol_laws.proofs.first.Along.{along}
use Rattle.protocol_laws.proofs.first.Times
use Rattle.protocol_laws.proofs.first.Controls as controls
use Rattle.protocol_laws.proofs.first.EpochsKept as epochs
use Rattle.protocol_laws.proofs.first.SettlingKept as settling
use Rattle.protocol_laws.proofs.first.Drawn as drawn
use Rattle.protocol_laws.proofs.first.PairsFound.{TidsAscend, tids_kept, tids_opened, each_act}
use Rattle.protocol_laws.proofs.machine.TracksKept.{held}
use Rattle.protocol_laws.proofs.machine.TurnsKept.{one_is}
use Rattle.protocol_theorems.proofs.quiet.ControlsHeld.{outbox_in}
use Rattle.protocol_theorems.proofs.quiet.QuietEasy.{found_at}
use Rattle.protocol_theorems.proofs.quiet.QuietKnown as known
use Rattle.protocol_theorems.proofs.quiet.BatchesKnown.{times_filter}
use Rattle.protocol_laws.proofs.first.Lists.{all_found, all_unmapped}

-- ---- numbers below another

below_times : (n m : ℕ) → (times n (below m) ≤ 1) × (m ≤ n → times n (below m) ≡ 0)
below_times n zero = (omega arith, λ l. refl)
below_times n (suc m) =
    let r = below_times n m in
    let a = Times.times_append n (below m) (m ∷ []) in
    let b = Times.times_cons n m [] in
    (by (m == n) refl r a b, λ l. omega (arith, a, b, r.1 (omega (arith, l)), ap one_if (Rattle.std.proofs.lemmas.Bool.ne_eqb m n (λ q. omega (arith, l, q)))))
  where
    by : (v : Bool) → (m == n) ≡ v → (times n (below m) ≤ 1) × (m ≤ n → times n (below m) ≡ 0) → times n (below m ++ m ∷ []) ≡ times n (below m) + times n (m ∷ []) → times n (m ∷ []) ≡ one_if (m == n) + times n [] → times n (below m ++ m ∷ []) ≤ 1
    by true e r a b = omega (arith, a, b, ap one_if e, r.1 (omega (arith, eqb-true m n e)))
    by false e r a b = omega (arith, a, b, ap one_if e, r.0)

-- ---- who is not there

none_at : {X : Type 0} (p : X → Bool) (xs : List X) → ((x : X) → find p xs ≡ Some x → ⊥) → find p xs ≡ None
none_at p xs k = by (find p xs) refl
  where
    by : (o : Option _) → find p xs ≡ o → o ≡ None
    by None e = refl
    by (Some x) e = absurd (k x e)

no_control : {C : Type 0} (t : ℕ) (cs : List (ControlMessage C)) → times t (map (λ m. m.tid) cs) ≡ 0 → control_of t cs ≡ None
no_control t [] h = refl
no_control t (m ∷ cs) h = by (m.tid == t) refl (Times.times_cons t m.tid (map (λ m. m.tid) cs)) (no_control t cs)
  where
    by : (b : Bool) → (m.tid == t) ≡ b → times t (m.tid ∷ map (λ m. m.tid) cs) ≡ one_if (m.tid == t) + times t (map (λ m. m.tid) cs) → (times t (map (λ m. m.tid) cs) ≡ 0 → control_of t cs ≡ None) → (if b then Some m else control_of t cs) ≡ None
    by true e f r = absurd (omega (arith, h, f, ap one_if e))
    by false e f r = r (omega (arith, h, f))

in_post : {C : Type 0} (t : ℕ) (s : Machine C) → times t (map (λ m. m.tid) s.post.controls) ≤ times t (controls_in s)
in_post t s = omega (arith, controls.parted t s.post.controls (map (λ c. c.inbox) s.cells) (map (λ c. c.outbox) s.cells))

some_times : {C : Type 0} (t : ℕ) (xs : List (Outcome C)) (x : Outcome C) → outcome_of t xs ≡ Some x → 1 ≤ times t (outcome_tids xs)
some_times t [] x e = absurd (cc e)
some_times t (y ∷ xs) x e = by (y.tid == t) refl e (Times.times_cons t y.tid (outcome_tids xs)) (some_times t xs x)
  where
    by : (b : Bool) → (y.tid == t) ≡ b → (if b then Some y else outcome_of t xs) ≡ Some x → times t (y.tid ∷ outcome_tids xs) ≡ one_if (y.tid == t) + times t (outcome_tids xs) → (outcome_of t xs ≡ Some x → 1 ≤ times t (outcome_tids xs)) → 1 ≤ times t (y.tid ∷ outcome_tids xs)
    by true q e f r = omega (arith, f, ap one_if q)
    by false q e f r = omega (arith, f, r e)

-- ---- the events

pub finds_room : {C : Type 0} (w : Fixed C) (e : Event) (s : Machine C) → IsAllowed w e s → ControlsInOnePlace w s → EpochsAgree w s → BatchesSettleInOrder w s → TidsAscend s → ((t : ℕ) (x : Rattle.protocol.specs.Parts.Act) → act_of t s.book.acts ≡ Some x → t < s.ring.next_tid) → ((k : ℕ) (b : Batch) → batch_of k s.desk.batches ≡ Some b → k < s.ring.next_bid) → FindsRoom w e s
unfolding conditions
finds_room {C} w (Form k) s ok c p g t low bids = (
  λ a. none_at (λ m. (m.bid == k) && (m.actor == a)) s.post.subs (λ m e.
      let f = all_found (NamesItsPlace s) (λ m. (m.bid == k) && (m.actor == a)) s.post.subs m p.subs e in
      omega (arith, f.0.formed, eqb-true m.bid k (and_parts (m.bid == k) (m.actor == a) f.1).0, eqb-true k s.ring.next_bid ok.0)),
  (
    λ n. omega (arith, times_filter n (λ a. list_any (declares w.text a) (next_pacts w.text s.ring)) (below (length s.ring.lasts)), (below_times n (length s.ring.lasts)).0),
    λ u l. no_control u s.post.controls (omega (arith, in_post u s, c.drawn u l)),
  ),
)
finds_room w (Admit t) s ok c p g a low bids =
    let e = eqb-true t s.ring.next_tid ok.0 in
    (each_act s (λ u x. u < t) a (λ u x f. omega (arith, low u x f, e)), no_control t s.post.controls (omega (arith, in_post t s, c.drawn t (omega (arith, e)))))
finds_room w (Send t a) s ok c p g d low bids =
    let x = one_is (λ x. is_going x.next) (outcome_of t (cell_at s a).outbox) (held (λ c. holds (λ x. is_going x.next) (outcome_of t c.outbox)) s.cells a no_cell ok.0) in
    no_control t s.post.controls (omega (arith, c.one t, some_times t (cell_at s a).outbox x.0 x.1, outbox_in t s a, controls.parted t s.post.controls (map (λ c. c.inbox) s.cells) (map (λ c. c.outbox) s.cells)))
finds_room w (Abort k) s ok c p g d low bids =
    let b = one_is (λ b. is_open b && is_next_to_commit k s.desk.batches) (batch_of k s.desk.batches) ok.0 in
    let q = and_parts (is_formed b.0.stage) (not b.0.aborted) (and_parts (is_formed b.0.stage && not b.0.aborted) (is_next_to_commit k s.desk.batches) b.2).0 in
    let n : is_aborted k s.book.cascades ≡ false = sym (known.mark w s g k b.0 b.1) ∙ not-true b.0.aborted q.1 in
    let i = found_at (λ b. b.bid == k) s.desk.batches b.0 b.1 in
    (known.upto_below k s.book.cascades (known.first_most k s.desk.batches i.0 b.0 s.book.cascades i.1 (known.bid_is s k b.0 b.1) (open_stage b.0.stage b.0.aborted q.0 (not-true b.0.aborted q.1)) g.below_cascades) n, omega (arith, bids k b.0 b.1))
  where
    open_stage : (st : Stage) (v : Bool) → is_formed st ≡ true → v ≡ false → (v || is_settled st) ≡ false
    open_stage st true f n = absurd (true≢false n)
    open_stage Formed false f n = refl
    open_stage Committing false f n = absurd (true≢false (sym f))
    open_stage Settled false f n = absurd (true≢false (sym f))
finds_room w e s ok c p g t low bids = tt

pub all_find_room : {C : Type 0} → AfterEveryRun (AllFindRoom {C = C})
all_find_room {C} w es v run = λ e ok.
    let s = reached w es in
    let d = drawn.numbers_drawn_once w es v run in
    finds_room w e s ok (controls.controls_in_one_place w es v run) (epochs.epochs_agree w es v run) (settling.batches_settle_in_order w es v run)
    (along w TidsAscend (tids_kept w) es (opening w) run (tids_opened w)) (known.numbered w s d).tids (λ k b f. let i = all_found (λ b. b.bid < s.ring.next_bid) (λ b. b.bid == k) s.desk.batches b (all_unmapped (λ b. b.bid < s.ring.next_bid) (λ k. k < s.ring.next_bid) (λ b. b.bid) s.desk.batches (λ x l. l) (epochs.bids_below s (along w epochs.Agreeing (epochs.kept w) es (opening w) run (epochs.opened w v)))) f in omega (arith, i.0, eqb-true b.bid k i.1))
