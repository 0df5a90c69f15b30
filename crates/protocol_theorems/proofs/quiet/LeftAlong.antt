-- Every event of a run lowers what is left, at the opening it is at most 1,024 for each transaction: so runs are short.
use Rattle.std.specs.Prelude.{◌≡◌, refl, ℕ, zero, suc, ◌+◌, ◌*◌, ◌<◌, ◌≤◌, ◌==◌, true, false, ◌||◌, List, [], ◌∷◌, ◌++◌, length, map, replicate}
use Rattle.std.specs.List.{AllByRecursion, list_all}
use Rattle.std.proofs.Common.{arith, sym, ap, subst, ◌∙◌}
use Rattle.std.proofs.lemmas.Bool.{eqb-true, ne_eqb}
use Rattle.snap_base.specs.declared.transactions.State.{State}
use Rattle.snap_base.specs.declared.transactions.Tx.{Tx}
use Rattle.protocol.specs.Fixed.{Fixed, base, tx_at, is_reader}
use Rattle.protocol.specs.Facts.{Alone}
use Rattle.protocol.specs.Parts.{OfAct, Machine}
use Rattle.protocol.specs.Events.{Event, Admit}
use Rattle.protocol.specs.Words.{is_empty, is_among}
use Rattle.protocol.specs.Conditions.{IsAllowed, conditions, epoch}
use Rattle.protocol.specs.Contents.{ActTids}
use Rattle.protocol.specs.Effects.{after, cell_at, no_cell, no_log}
use Rattle.protocol.specs.History.{History, no_history, grown}
use Rattle.protocol.specs.Runs.{opening, new_cell, EachAllowed, state_after, IsRun, reached}
use Rattle.protocol.specs.OnPost as post
use Rattle.protocol.specs.OnBook as book
use Rattle.protocol.specs.Left.{total, visit, rest, act_left, control_left, waiting_left, outcome_left, next_left, reply_left, log_left, cell_left, act_tids, left_with_acts, left}
use Rattle.protocol_theorems.specs.Left.{IsSmall}
use Rattle.protocol_laws.proofs.first.Frames.{frame}
use Rattle.protocol_laws.proofs.first.Times
use Rattle.protocol_laws.proofs.first.Drawn as drawn
use Rattle.protocol_laws.proofs.first.Controls as controls
use Rattle.protocol_laws.proofs.machine.ControlWalk.{AllControls, both, nowhere}
use Rattle.protocol_laws.proofs.machine.TrailsKept as trails
use Rattle.protocol_laws.proofs.machine.Good.{Given}
use Rattle.protocol_theorems.proofs.quiet.LeftLists.{total_join, total_at}
use Rattle.protocol_theorems.proofs.quiet.LeftParts
use Rattle.protocol_theorems.proofs.quiet.LeftParts.{RestOf}
use Rattle.protocol_theorems.proofs.quiet.LeftRing as token
use Rattle.protocol_theorems.proofs.quiet.LeftFalls.{Counted, falls}
use Rattle.protocol_laws.proofs.machine.QueuedText.{Queued, queued_kept, queued_opened}
use Rattle.protocol_laws.proofs.first.RangesNamed.{cells_stay}

-- ---- an ACT is admitted: no control has its tid

each_same : {X : Type 0} (P : X → Type 0) (f g : X → ℕ) (xs : List X) → ((x : X) → P x → f x ≡ g x) → AllByRecursion P xs → total f xs ≡ total g xs
each_same P f g [] k h = refl
each_same P f g (x ∷ xs) k h = omega (arith, k x h.0, each_same P f g xs k h.1)

not_new : (u t : ℕ) (tids : List ℕ) → u < t → is_among u (tids ++ t ∷ []) ≡ is_among u tids
not_new u t [] l = rw (ne_eqb t u (λ q. omega (arith, q, l))) refl
not_new u t (x ∷ tids) l = ap (λ z. (x == u) || z) (not_new u t tids l)

admit : {C : Type 0} (w : Fixed C) (Of : Tx → C → Type 0) (finish : C → List State → Alone) (t : ℕ) (s : Machine C) (tids : List ℕ) → Given w Of finish → IsSmall w → Counted w Of s → IsAllowed w (Admit t) s
    → ((u : ℕ) → u < s.ring.next_tid → is_among u tids ≡ is_among u (act_tids s)) → left_with_acts w tids (after w (Admit t) s) + 1 ≤ left_with_acts w (act_tids s) s
unfolding conditions after
admit {C} w Of finish t s tids v small g ok same =
    let below = trails.drawn s g.held in
    omega (
      arith,
      token.admit_falls w s.ring small.coordinators ok.1.0,
      total_join act_left s.book.acts (book.new_act t (post.next_act s.ring) (is_reader w (post.next_act s.ring)) (base w.text) ∷ []),
      total_join (control_left w.code tids) s.post.controls (post.first_control w (OfAct t) t (post.next_act s.ring) ∷ []),
      LeftParts.act_costs (is_among t tids) (w.code.visits_left (w.code.start t (tx_at w.text (post.next_act s.ring)))) (v.facts.few_visits t (tx_at w.text (post.next_act s.ring))),
      each_same (λ m. m.tid < s.ring.next_tid) (control_left w.code tids) (control_left w.code (act_tids s)) s.post.controls (λ m l. ap (λ z. visit z * (rest w.code m.control + 1)) (same m.tid l)) below.posted,
      total_at (cell_left w.code tids (epoch s.book)) (cell_left w.code (act_tids s) (epoch s.book)) no_cell s.cells (one below),
    )
  where
    one : AllControls (λ u n. u < s.ring.next_tid) s → (a : ℕ) → cell_left w.code tids (epoch s.book) (cell_at s a) ≡ cell_left w.code (act_tids s) (epoch s.book) (cell_at s a)
    one b a = omega (
      arith,
      each_same (λ x. x.tid < s.ring.next_tid) (waiting_left w.code tids) (waiting_left w.code (act_tids s)) (cell_at s a).inbox (λ x l. ap (λ z. visit z * rest w.code x.control + 2) (same x.tid l)) (b.inboxes a),
      each_same (λ x. x.tid < s.ring.next_tid) (outcome_left w.code tids) (outcome_left w.code (act_tids s)) (cell_at s a).outbox (λ x l. ap (λ z. next_left w.code (visit z) x.next) (same x.tid l)) (b.outboxes a),
    )

-- ---- every event

pub lowers : {C : Type 0} (w : Fixed C) (Of : Tx → C → Type 0) (finish : C → List State → Alone) (e : Event) (s : Machine C) → Given w Of finish → IsSmall w → Counted w Of s → IsAllowed w e s → left w (after w e s) < left w s
unfolding conditions after
lowers w Of finish (Admit t) s v small g ok =
    let h = admit w Of finish t s (act_tids (after w (Admit t) s)) v small g ok (λ u l. rw (Times.map_join (λ x. x.tid) s.book.acts (book.new_act t (post.next_act s.ring) (is_reader w (post.next_act s.ring)) (base w.text) ∷ [])) (not_new u t (act_tids s) (omega (arith, l, eqb-true t s.ring.next_tid ok.0)))) in
    omega (arith, h)
lowers w Of finish e s v small g ok = by (act_tids (after w e s)) (frame w e s ActTids refl) (falls w Of finish e s v small g ok)
  where
    by : (tids : List ℕ) → tids ≡ act_tids s → left_with_acts w (act_tids s) (after w e s) + 1 ≤ left_with_acts w (act_tids s) s → left_with_acts w tids (after w e s) < left_with_acts w (act_tids s) s
    by tids i h = subst (λ z. left_with_acts w z (after w e s) < left_with_acts w (act_tids s) s) (sym i) (omega (arith, h))

-- ---- what is known along a run

pub record Counts {C : Type 0} (w : Fixed C) (Of : Tx → C → Type 0) (finish : C → List State → Alone) (s : Machine C) (h : History) : Type 0 where
  pub round : token.IsRound w s
  pub cells : length s.cells ≡ length w.text.opening.states
  pub numbers : drawn.Drawn w s
  pub held : controls.HeldIn s
  pub queued : Queued w s
  pub told : AllControls (trails.Told w Of finish h) s

pub counted : {C : Type 0} (w : Fixed C) (Of : Tx → C → Type 0) (finish : C → List State → Alone) (s : Machine C) (h : History) → Counts w Of finish s h → Counted w Of s
counted w Of finish s h g = record {
  round = g.round;
  cells = g.cells;
  numbers = g.numbers;
  held = g.held;
  rests = both (trails.Told w Of finish h) (trails.Told w Of finish h) (λ t n. RestOf w Of n) s (λ t n p q. (tx_at w.text (h.trails t).tx, p.of_it)) g.told g.told;
}

pub counts_kept : {C : Type 0} (w : Fixed C) (Of : Tx → C → Type 0) (finish : C → List State → Alone) (e : Event) (s : Machine C) (h : History) → Given w Of finish → IsAllowed w e s → Counts w Of finish s h → Counts w Of finish (after w e s) (grown w e s h)
counts_kept w Of finish e s h v ok g = record {
  round = token.round_kept w e s v.text ok g.round;
  cells = cells_stay w e s ∙ g.cells;
  numbers = drawn.kept w e s ok g.numbers;
  held = controls.kept w e s ok g.held;
  queued = queued_kept w e s ok g.queued;
  told = trails.kept w Of finish e s h v.text v.actors v.facts ok g.queued g.held g.told;
}

pub counts_opened : {C : Type 0} (w : Fixed C) (Of : Tx → C → Type 0) (finish : C → List State → Alone) → Given w Of finish → Counts w Of finish (opening w) no_history
counts_opened {C} w Of finish v = record {
  round = token.round_opened w v.text;
  cells = Times.length_map (new_cell (base w.text)) w.text.opening.states;
  numbers = drawn.opened w;
  held = controls.opened w;
  queued = queued_opened w;
  told = nowhere w (trails.Told w Of finish no_history);
}

-- ---- runs

runs_fall : {C : Type 0} (w : Fixed C) (Of : Tx → C → Type 0) (finish : C → List State → Alone) (es : List Event) (s : Machine C) (h : History) → Given w Of finish → IsSmall w → EachAllowed w es s → Counts w Of finish s h → length es + left w (state_after w es s) ≤ left w s
runs_fall w Of finish [] s h v small run g = omega arith
runs_fall w Of finish (e ∷ es) s h v small run g =
    omega (arith, lowers w Of finish e s v small (counted w Of finish s h g) run.0, runs_fall w Of finish es (after w e s) (grown w e s h) v small run.1 (counts_kept w Of finish e s h v run.0 g))

-- ---- the opening

all_empty : (n : ℕ) → list_all (is_empty {X = ℕ}) (replicate n []) ≡ true
all_empty zero = refl
all_empty (suc n) = all_empty n

total_replicate : {X : Type 0} (f : X → ℕ) (n : ℕ) (x : X) → total f (replicate n x) ≡ n * f x
total_replicate f zero x = omega arith
total_replicate f (suc n) x = omega (arith, total_replicate f n x)

no_cells : {C : Type 0} (w : Fixed C) (ss : List State) → total (cell_left w.code [] 0) (map (new_cell (base w.text)) ss) ≡ 0
no_cells w [] = refl
no_cells w (x ∷ xs) = omega (arith, no_cells w xs)

pub opening_left : {C : Type 0} (w : Fixed C) → left w (opening w) ≤ 1024 * length w.text.txs
opening_left w = rw (all_empty w.text.coordinators) (omega (arith, total_replicate (length {A = ℕ}) w.text.coordinators [], total_replicate reply_left (length w.text.txs) false, total_replicate log_left w.text.logs no_log, no_cells w w.text.opening.states))

pub runs_are_short : {C : Type 0} (w : Fixed C) (Of : Tx → C → Type 0) (finish : C → List State → Alone) (es : List Event) → Given w Of finish → IsSmall w → IsRun w es → length es ≤ 1024 * length w.text.txs
runs_are_short w Of finish es v small run = omega (arith, opening_left w, runs_fall w Of finish es (opening w) no_history v small run (counts_opened w Of finish v))

counts_along : {C : Type 0} (w : Fixed C) (Of : Tx → C → Type 0) (finish : C → List State → Alone) (es : List Event) (s : Machine C) (h : History) → Given w Of finish → EachAllowed w es s → Counts w Of finish s h → Counted w Of (state_after w es s)
counts_along w Of finish [] s h v run g = counted w Of finish s h g
counts_along w Of finish (e ∷ es) s h v run g = counts_along w Of finish es (after w e s) (grown w e s h) v run.1 (counts_kept w Of finish e s h v run.0 g)

pub every_event_lowers : {C : Type 0} (w : Fixed C) (Of : Tx → C → Type 0) (finish : C → List State → Alone) (es : List Event) (e : Event) → Given w Of finish → IsSmall w → IsRun w es → IsAllowed w e (reached w es) → left w (after w e (reached w es)) < left w (reached w es)
every_event_lowers w Of finish es e v small run ok = lowers w Of finish e (reached w es) v small (counts_along w Of finish es (opening w) no_history v run (counts_opened w Of finish v)) ok
