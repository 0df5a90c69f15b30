-- The states that a run left are told by the last records of those that are left, and each actor that is told exists.
use Rattle.std.specs.Prelude.{◌≡◌, refl, ℕ, zero, suc, ◌+◌, ◌<◌, ◌%◌, ◌==◌, Bool, true, false, ◌&&◌, if◌then◌else◌, List, [], ◌∷◌, length, map, filter}
use Rattle.std.specs.List.{AllByRecursion, list_any}
use Rattle.std.proofs.Common.{arith, sym, ap, subst, inl, inr, ◌∙◌}
use Rattle.std.proofs.lemmas.Bool.{true≢false, or_cases, eqb-true}
use Rattle.snap_base.specs.declared.transactions.Tx.{Tx}
use Rattle.snap_base.specs.declared.transactions.State.{State}
use Rattle.snap_base.proofs.Options.{same_some}
use Rattle.protocol.specs.Facts.{Alone, state_in}
use Rattle.protocol.specs.Fixed.{Opening, Fixed}
use Rattle.protocol.specs.Records.{LogRecord, BatchInfo, BatchComplete, BatchDone, ActPrepare, ActDone}
use Rattle.protocol.specs.Parts.{Joined, Declared, Who, OfBatch, OfAct}
use Rattle.protocol.specs.Events.{Event}
use Rattle.protocol.specs.Words.{is_among, batch_of}
use Rattle.protocol.specs.Effects.{log_at}
use Rattle.protocol.specs.Runs.{IsRun, reached}
use Rattle.protocol_laws.specs.Ranges.{IsActor, BatchInRange, ActInRange}
use Rattle.protocol_laws.proofs.first.Lists.{all_found, all_map}
use Rattle.protocol_laws.proofs.first.Ranges.{numbers_in_range}
use Rattle.protocol_laws.proofs.machine.Good.{Given}
use Rattle.protocol_theorems.proofs.sets.AfterSets.{among_all}
use Rattle.protocol_records.specs.Logged.{actors_of_batch}
use Rattle.protocol_records.specs.Telling.{told_states, names, last_one}
use Rattle.protocol_records.specs.Crash.{is_in, tells_member_state, last_told, recovered_state}
use Rattle.protocol_records.specs.SeveralRuns.{CutRun, logs_left, opening_left, recovered_from}
use Rattle.protocol_records.proofs.crash.NoneBehind.{both_hold}
use Rattle.protocol_records.proofs.crash.OnceKept.{Declares}
use Rattle.followed_runs.specs.FollowingRuns.{RunsReading, head_read, tail_read, runs_read}
use Rattle.followed_runs.proofs.ReadersFirst.{told_at, has_value_there}
use Rattle.followed_runs.proofs.InOrder.{in_order}
use Rattle.followed_runs.proofs.Numbers.{named_completed, some_batch}
use Rattle.followed_runs.proofs.RunParts.{Of, given, run_of, head_listed, named_cases, named_left, Runs, left_long, sound, runs_behind}

-- ---- the states that are left

-- what is recovered of an actor, as its records tell it
pub counted : (many a : ℕ) (logs : ℕ → List LogRecord) (first : State) (rs : List LogRecord) → last_told first (filter (tells_member_state many logs a) rs) ≡ last_one first (filter (λ o. is_in many logs o.who) (told_states a rs))
counted many a logs first [] = refl
counted many a logs first (BatchInfo k actors tids ∷ rs) = counted many a logs first rs
counted many a logs first (BatchComplete k b st ∷ rs) = by (b == a) (is_in many logs (OfBatch k)) refl (λ s. counted many a logs s rs)
  where
    by : (v u : Bool) → is_in many logs (OfBatch k) ≡ u → ((s : State) → last_told s (filter (tells_member_state many logs a) rs) ≡ last_one s (filter (λ o. is_in many logs o.who) (told_states a rs)))
        → last_told first (if v && u then BatchComplete k b st ∷ filter (tells_member_state many logs a) rs else filter (tells_member_state many logs a) rs) ≡ last_one first (filter (λ o. is_in many logs o.who) (if v then record { who = OfBatch k; state = st } ∷ told_states a rs else told_states a rs))
    by true true e r = rw e (r st)
    by true false e r = rw e (r first)
    by false u e r = r first
counted many a logs first (BatchDone k vs ∷ rs) = counted many a logs first rs
counted many a logs first (ActPrepare t b st ∷ rs) = by (b == a) (is_in many logs (OfAct t)) refl (λ s. counted many a logs s rs)
  where
    by : (v u : Bool) → is_in many logs (OfAct t) ≡ u → ((s : State) → last_told s (filter (tells_member_state many logs a) rs) ≡ last_one s (filter (λ o. is_in many logs o.who) (told_states a rs)))
        → last_told first (if v && u then ActPrepare t b st ∷ filter (tells_member_state many logs a) rs else filter (tells_member_state many logs a) rs) ≡ last_one first (filter (λ o. is_in many logs o.who) (if v then record { who = OfAct t; state = st } ∷ told_states a rs else told_states a rs))
    by true true e r = rw e (r st)
    by true false e r = rw e (r first)
    by false u e r = r first
counted many a logs first (ActDone t m c v actors ∷ rs) = counted many a logs first rs

pub state_left : (many : ℕ) (logs : ℕ → List LogRecord) (n a : ℕ) (ss : List State) → a < length ss → state_in (recovered_from many logs n ss) a ≡ recovered_state many logs (n + a) (state_in ss a)
state_left many logs n a [] l = absurd (omega (arith, l))
state_left many logs n zero (s ∷ ss) l = let e : n ≡ n + 0 = omega arith in ap (λ z. recovered_state many logs z s) e
state_left many logs n (suc a) (s ∷ ss) l = let e : n + 1 + a ≡ n + suc a = omega arith in state_left many logs (n + 1) a ss (omega (arith, l)) ∙ ap (λ z. recovered_state many logs z (state_in ss a)) e

-- of each actor that the run has
pub left_state : {C : Type 0} (x : CutRun C) (a : ℕ) → a < length x.fixed.text.opening.states → state_in (opening_left x).states a ≡ last_one (state_in x.fixed.text.opening.states a) (filter (λ o. is_in x.fixed.text.logs (logs_left x) o.who) (told_states a (logs_left x (a % x.fixed.text.logs))))
left_state x a k =
    let zero_off : 0 + a ≡ a = omega arith in
    state_left x.fixed.text.logs (logs_left x) 0 a x.fixed.text.opening.states k
    ∙ (ap (λ z. recovered_state x.fixed.text.logs (logs_left x) z (state_in x.fixed.text.opening.states a)) zero_off
    ∙ counted x.fixed.text.logs a (logs_left x) (state_in x.fixed.text.opening.states a) (logs_left x (a % x.fixed.text.logs)))

-- ---- each actor that is told exists

joined_there : (P : ℕ → Type 0) (a : ℕ) (ps : List Joined) → AllByRecursion (λ p. P p.actor) ps → list_any (λ p. p.actor == a) ps ≡ true → P a
joined_there P a [] h e = absurd (true≢false (sym e))
joined_there P a (p ∷ ps) h e = elim (or_cases (p.actor == a) (list_any (λ p. p.actor == a) ps) e) [ inl q ↦ subst P (eqb-true p.actor a q) h.0 | inr q ↦ joined_there P a ps h.1 q ]

told_exists : {C : Type 0} (w : Fixed C) (F : Tx → C → Type 0) (finish : C → List State → Alone) (es : List Event) (a : ℕ) (y : Who) → Given w F finish → IsRun w es → names y (told_at w (reached w es) a) ≡ true → a < length w.text.opening.states
unfolding Declares
told_exists w F finish es a (OfBatch k) v run h =
    let d = (both_hold w F finish es v run).once.declares k a (named_completed k a (log_at (reached w es) (a % w.text.logs)).records h) in
    let b = some_batch (batch_of k (reached w es).desk.batches) d.0 d.1 in
    let f = all_found (BatchInRange w (reached w es)) (λ b. b.bid == k) (reached w es).desk.batches b.0 (numbers_in_range w es v.text run).batches b.1 in
    let same : d.0 ≡ map (λ (p : Declared). p.actor) b.0.places = same_some d.0 (map (λ (p : Declared). p.actor) b.0.places) (sym d.1 ∙ ap actors_of_batch b.1) in
    among_all (λ z. z < length w.text.opening.states) a (map (λ (p : Declared). p.actor) b.0.places) (subst (λ z. is_among a z ≡ true) same d.2) (all_map (λ (p : Declared). IsActor w p.actor) (λ z. z < length w.text.opening.states) (λ (p : Declared). p.actor) b.0.places (λ p q. q) f.0.actors)
told_exists w F finish es a (OfAct t) v run h =
    let x = has_value_there w (reached w es) t a (in_order w F finish es v run).known.logs.prepared h in
    let f = all_found (ActInRange w (reached w es)) (λ x. x.tid == t) (reached w es).book.acts x.0 (numbers_in_range w es v.text run).acts x.1.0 in
    joined_there (λ z. z < length w.text.opening.states) a x.0.places f.0.actors x.1.1.1

pub actor_there : {C : Type 0} (many a : ℕ) (o : Opening) (xs : List (CutRun C)) (r : RunsReading xs) (y : Who) → Runs many o xs → names y (told_states a (runs_read xs r (a % many))) ≡ true → a < length o.states
actor_there many a o [] r y g h = absurd (true≢false (sym h))
actor_there many a o (x ∷ xs) r y g h =
    let s = sound many o x xs g in
    let l = head_listed x xs s r in
    elim (named_cases a y (head_read x xs r (a % many)) (runs_read xs (tail_read x xs r) (a % many)) h) [
      | inl i ↦ subst (λ p. a < length p.states) g.2.1 (told_exists x.fixed (Of x) x.finish x.moment.events a y (given x s) (run_of x s)
          (let m = l.rest (a % x.fixed.text.logs) in ap (λ z. names y (told_states a z)) m.1 ∙ named_left a y (head_read x xs r (a % x.fixed.text.logs)) m.0 (subst (λ z. names y (told_states a (head_read x xs r (a % z))) ≡ true) (sym g.1.0) i)))
      | inr i ↦ subst (λ p. a < length p.states) g.2.1 (omega (arith, actor_there many a (opening_left x) xs (tail_read x xs r) y (runs_behind many o x xs g) i, left_long x.fixed.text.logs (logs_left x) 0 x.fixed.text.opening.states))
    ]
