-- Numbers of a run's events fit their types: each event that is allowed is one of the candidates.
use Rattle.std.specs.Prelude.{◌≡◌, refl, ℕ, zero, suc, ◌+◌, ◌-◌, ◌<◌, ◌≤◌, ◌^◌, List, [], ◌∷◌, ◌++◌, length, map, Contains}
use Rattle.std.specs.List.{AllByRecursion, flat_map}
use Rattle.std.proofs.Common.{arith, sym, subst}
use Rattle.snap_base.proofs.Lists.{all_join, all_map, each_at, weaker}
use Rattle.run_effects.specs.core_events.declared.events.Event as code
use Rattle.run_effects.specs.core_events.declared.events.Event.TheVariants as events
use Rattle.run_effects.specs.core_events.Meant.{event_meant}
use Rattle.protocol.specs.Candidates.{bids_drawn, candidates, each_two, offers, tids_drawn}
use Rattle.protocol.specs.Conditions.{IsAllowed}
use Rattle.protocol.specs.Effects.{after}
use Rattle.protocol.specs.Events.{Event, Submit, Pass, Form, Admit, Arrive, Ask, Take, Run, Send, End, Close, Complete, Sync, Note, Commit, Settle, Abort, Rollback, DropSub, DropControl, Prepare, Vouch, Decide, Seal, Finish, Reply, Trim}
use Rattle.protocol.specs.Fixed.{Fixed, IsText}
use Rattle.protocol.specs.Numbers.{from}
use Rattle.protocol.specs.Parts.{Machine}
use Rattle.protocol.specs.Runs.{EachAllowed, IsRun, opening, reached, state_after}
use Rattle.protocol.specs.Words.{below}
use Rattle.protocol_theorems.specs.Sizes.{SizesHold}
use Rattle.trace_text.specs.Lines.{IsEvent}

-- ---- an event in the words of the machine

-- its numbers fit
abbrev Fits : Event → Type 0
Fits (Submit n) = n < 2 ^ 32
Fits (Pass c) = c < 2 ^ 8
Fits (Form k) = k < 2 ^ 64
Fits (Admit t) = t < 2 ^ 64
Fits (Arrive k a) = (k < 2 ^ 64) × (a < 2 ^ 16)
Fits (Ask t a) = (t < 2 ^ 64) × (a < 2 ^ 16)
Fits (Take t a) = (t < 2 ^ 64) × (a < 2 ^ 16)
Fits (Run t a) = (t < 2 ^ 64) × (a < 2 ^ 16)
Fits (Send t a) = (t < 2 ^ 64) × (a < 2 ^ 16)
Fits (End t a) = (t < 2 ^ 64) × (a < 2 ^ 16)
Fits (Close t a) = (t < 2 ^ 64) × (a < 2 ^ 16)
Fits (Complete k a) = (k < 2 ^ 64) × (a < 2 ^ 16)
Fits (Sync l) = l < 2 ^ 8
Fits (Note k a) = (k < 2 ^ 64) × (a < 2 ^ 16)
Fits (Commit k) = k < 2 ^ 64
Fits (Settle k) = k < 2 ^ 64
Fits (Abort k) = k < 2 ^ 64
Fits (Rollback a) = a < 2 ^ 16
Fits (DropSub k a) = (k < 2 ^ 64) × (a < 2 ^ 16)
Fits (DropControl t) = t < 2 ^ 64
Fits (Prepare t a) = (t < 2 ^ 64) × (a < 2 ^ 16)
Fits (Vouch t a) = (t < 2 ^ 64) × (a < 2 ^ 16)
Fits (Decide t) = t < 2 ^ 64
Fits (Seal t) = t < 2 ^ 64
Fits (Finish t a) = (t < 2 ^ 64) × (a < 2 ^ 16)
Fits (Reply n) = n < 2 ^ 32
Fits (Trim k a) = (k < 2 ^ 64) × (a < 2 ^ 16)

is_event : (e : code.Event) → Fits (event_meant e) → IsEvent e
is_event (events.Submit n) h = record { first = h; second = tt }
is_event (events.Pass c) h = record { first = h; second = tt }
is_event (events.Form k) h = record { first = h; second = tt }
is_event (events.Admit t) h = record { first = h; second = tt }
is_event (events.Arrive k a) h = record { first = h.0; second = h.1 }
is_event (events.Ask t a) h = record { first = h.0; second = h.1 }
is_event (events.Take t a) h = record { first = h.0; second = h.1 }
is_event (events.Run t a) h = record { first = h.0; second = h.1 }
is_event (events.Send t a) h = record { first = h.0; second = h.1 }
is_event (events.End t a) h = record { first = h.0; second = h.1 }
is_event (events.Close t a) h = record { first = h.0; second = h.1 }
is_event (events.Complete k a) h = record { first = h.0; second = h.1 }
is_event (events.Sync l) h = record { first = h; second = tt }
is_event (events.Note k a) h = record { first = h.0; second = h.1 }
is_event (events.Commit k) h = record { first = h; second = tt }
is_event (events.Settle k) h = record { first = h; second = tt }
is_event (events.AbortBatch k) h = record { first = h; second = tt }
is_event (events.Rollback a) h = record { first = h; second = tt }
is_event (events.DropSub k a) h = record { first = h.0; second = h.1 }
is_event (events.DropControl t) h = record { first = h; second = tt }
is_event (events.Prepare t a) h = record { first = h.0; second = h.1 }
is_event (events.Vouch t a) h = record { first = h.0; second = h.1 }
is_event (events.Decide t) h = record { first = h; second = tt }
is_event (events.Seal t) h = record { first = h; second = tt }
is_event (events.Finish t a) h = record { first = h.0; second = h.1 }
is_event (events.Reply n) h = record { first = h; second = tt }
is_event (events.Trim k a) h = record { first = h.0; second = h.1 }

-- ---- lists

all_from : (n k high : ℕ) → n + k ≤ high → AllByRecursion (λ m. m < high) (from n k)
all_from n zero high l = tt
all_from n (suc k) high l = (omega (arith, l), all_from (n + 1) k high (omega (arith, l)))

all_below : (n high : ℕ) → n ≤ high → AllByRecursion (λ m. m < high) (below n)
all_below zero high l = tt
all_below (suc n) high l = all_join _ (below n) (n ∷ []) (all_below n high (omega (arith, l))) (omega (arith, l), tt)

all_flat : (xss : List (List Event)) → AllByRecursion (AllByRecursion Fits) xss → AllByRecursion Fits (flat_map (λ xs. xs) xss)
all_flat [] h = tt
all_flat (xs ∷ xss) h = all_join Fits xs (flat_map (λ ys. ys) xss) h.0 (all_flat xss h.1)

all_one : (kind : ℕ → Event) (high : ℕ) (xs : List ℕ) → ((n : ℕ) → n < high → Fits (kind n)) → AllByRecursion (λ n. n < high) xs → AllByRecursion Fits (map kind xs)
all_one kind high xs fits h = all_map kind Fits xs (weaker (λ n. n < high) (λ n. Fits (kind n)) xs fits h)

all_two : (kind : ℕ → ℕ → Event) (high low : ℕ) (xs ys : List ℕ) → ((n : ℕ) → n < high → (a : ℕ) → a < low → Fits (kind n a)) → AllByRecursion (λ n. n < high) xs → AllByRecursion (λ a. a < low) ys
    → AllByRecursion Fits (each_two kind xs ys)
all_two kind high low [] ys fits h g = tt
all_two kind high low (x ∷ xs) ys fits h g =
    all_join Fits (map (kind x) ys) (each_two kind xs ys) (all_one (kind x) low ys (fits x h.0) g) (all_two kind high low xs ys fits h.1 g)

among : (xs : List Event) (e : Event) → AllByRecursion Fits xs → Contains xs e → Fits e
among xs e all c = subst Fits c.2 (each_at Fits xs c.0 e c.1 all)

-- ---- the candidates

module _ {C : Type 0} (w : Fixed C) (s : Machine C) (t : IsText w.text) (z : SizesHold w s) where
  tids : AllByRecursion (λ n. n < 2 ^ 63) (tids_drawn w s)
  tids = all_from w.text.opening.next_tid (s.ring.next_tid - w.text.opening.next_tid) (2 ^ 63) (omega (arith, z.next_tid, z.next_tx, t.few_txs, t.tids_fit))

  bids : AllByRecursion (λ n. n < 2 ^ 63) (bids_drawn w s)
  bids = all_from w.text.opening.next_bid (s.ring.next_bid - w.text.opening.next_bid) (2 ^ 63) (omega (arith, z.next_bid, z.next_tx, t.few_txs, t.bids_fit))

  actors : AllByRecursion (λ a. a < 2 ^ 16) (below (length s.cells))
  actors = all_below (length s.cells) (2 ^ 16) (omega (arith, z.cells, t.few_actors))

  -- one number, and two of which the second one is an actor's
  long : (kind : ℕ → Event) (xs : List ℕ) → ((n : ℕ) → n < 2 ^ 64 → Fits (kind n)) → AllByRecursion (λ n. n < 2 ^ 63) xs → AllByRecursion Fits (map kind xs)
  long kind xs fits h = all_one kind (2 ^ 63) xs (λ n l. fits n (omega (arith, l))) h

  two : (kind : ℕ → ℕ → Event) (xs : List ℕ) → ((n : ℕ) → n < 2 ^ 64 → (a : ℕ) → a < 2 ^ 16 → Fits (kind n a)) → AllByRecursion (λ n. n < 2 ^ 63) xs → AllByRecursion Fits (each_two kind xs (below (length s.cells)))
  two kind xs fits h = all_two kind (2 ^ 63) (2 ^ 16) xs (below (length s.cells)) (λ n l. fits n (omega (arith, l))) h actors

  next_tx_fits : s.ring.next_tx < 2 ^ 32
  next_tx_fits = omega (arith, z.next_tx, t.few_txs)

  next_bid_fits : s.ring.next_bid < 2 ^ 64
  next_bid_fits = omega (arith, z.next_bid, z.next_tx, t.few_txs, t.bids_fit)

  next_tid_fits : s.ring.next_tid < 2 ^ 64
  next_tid_fits = omega (arith, z.next_tid, z.next_tx, t.few_txs, t.tids_fit)

  candidates_fit : AllByRecursion Fits (candidates w s)
  candidates_fit = all_flat (offers (bids_drawn w s) (tids_drawn w s) (below (length s.cells)) w s) (
    (next_tx_fits, tt),
    (
      all_one Pass (2 ^ 8) (below w.text.coordinators) (λ n l. l) (all_below w.text.coordinators (2 ^ 8) (omega (arith, t.few_coordinators))),
      (
        (next_bid_fits, tt),
        (
          (next_tid_fits, tt),
          (
            two Arrive (bids_drawn w s) (λ n l a b. (l, b)) bids,
            (
              two Ask (tids_drawn w s) (λ n l a b. (l, b)) tids,
              (
                two Take (tids_drawn w s) (λ n l a b. (l, b)) tids,
                (
                  two Run (tids_drawn w s) (λ n l a b. (l, b)) tids,
                  (
                    two Send (tids_drawn w s) (λ n l a b. (l, b)) tids,
                    (
                      two End (tids_drawn w s) (λ n l a b. (l, b)) tids,
                      (
                        two Close (tids_drawn w s) (λ n l a b. (l, b)) tids,
                        (
                          two Complete (bids_drawn w s) (λ n l a b. (l, b)) bids,
                          (
                            all_one Sync (2 ^ 8) (below w.text.logs) (λ n l. l) (all_below w.text.logs (2 ^ 8) (omega (arith, t.few_logs))),
                            (
                              two Note (bids_drawn w s) (λ n l a b. (l, b)) bids,
                              (
                                long Commit (bids_drawn w s) (λ n l. l) bids,
                                (
                                  long Settle (bids_drawn w s) (λ n l. l) bids,
                                  (
                                    long Abort (bids_drawn w s) (λ n l. l) bids,
                                    (
                                      all_one Rollback (2 ^ 16) (below (length s.cells)) (λ n l. l) actors,
                                      (
                                        two DropSub (bids_drawn w s) (λ n l a b. (l, b)) bids,
                                        (
                                          long DropControl (tids_drawn w s) (λ n l. l) tids,
                                          (
                                            two Prepare (tids_drawn w s) (λ n l a b. (l, b)) tids,
                                            (
                                              two Vouch (tids_drawn w s) (λ n l a b. (l, b)) tids,
                                              (
                                                long Decide (tids_drawn w s) (λ n l. l) tids,
                                                (
                                                  long Seal (tids_drawn w s) (λ n l. l) tids,
                                                  (
                                                    two Finish (tids_drawn w s) (λ n l a b. (l, b)) tids,
                                                    (
                                                      all_one Reply (2 ^ 32) (below (length w.text.txs)) (λ n l. l) (all_below (length w.text.txs) (2 ^ 32) (omega (arith, t.few_txs))),
                                                      (
                                                        two Trim (bids_drawn w s) (λ n l a b. (l, b)) bids,
                                                        tt,
                                                      ),
                                                    ),
                                                  ),
                                                ),
                                              ),
                                            ),
                                          ),
                                        ),
                                      ),
                                    ),
                                  ),
                                ),
                              ),
                            ),
                          ),
                        ),
                      ),
                    ),
                  ),
                ),
              ),
            ),
          ),
        ),
      ),
    ),
  )

-- ---- a run

module _ {C : Type 0} (w : Fixed C) where
  push : (front : List Event) (e : Event) (s : Machine C) → EachAllowed w front s → IsAllowed w e (state_after w front s) → EachAllowed w (front ++ e ∷ []) s
  push [] e s run next = (next, tt)
  push (f ∷ front) e s run next = (run.0, push front e (after w f s) run.1 next)

  state_push : (front : List Event) (e : Event) (s : Machine C) → state_after w (front ++ e ∷ []) s ≡ after w e (state_after w front s)
  state_push [] e s = refl
  state_push (f ∷ front) e s = state_push front e (after w f s)

  module _ (t : IsText w.text) (sizes : (es : List Event) → IsRun w es → SizesHold w (reached w es))
      (offered : (es : List Event) (e : Event) → IsRun w es → IsAllowed w e (reached w es) → Contains (candidates w (reached w es)) e) where
    each_fits : (front : List Event) (es : List code.Event) → IsRun w front → EachAllowed w (map event_meant es) (reached w front) → AllByRecursion IsEvent es
    each_fits front [] run more = tt
    each_fits front (e ∷ es) run more = (
      is_event e (among (candidates w (reached w front)) (event_meant e) (candidates_fit w (reached w front) t (sizes front run)) (offered front (event_meant e) run more.0)),
      each_fits (front ++ event_meant e ∷ []) es (push front (event_meant e) (opening w) run more.0)
          (subst (EachAllowed w (map event_meant es)) (sym (state_push front (event_meant e) (opening w))) more.1),
    )

    pub events_fit : (es : List code.Event) → IsRun w (map event_meant es) → AllByRecursion IsEvent es
    events_fit es run = each_fits [] es tt run
