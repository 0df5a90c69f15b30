-- Where a run cannot go on, all is answered and the order is whole: of every run, with nothing owed.
use Rattle.std.specs.Prelude.{◌≡◌, refl, ℕ, zero, suc, ◌≤◌, true, List, [], ◌∷◌, length, replicate, slice_index_or}
use Rattle.std.specs.List.{AllByRecursion, list_all}
use Rattle.std.proofs.Common.{arith, sym, ap, subst}
use Rattle.snap_base.specs.declared.transactions.State.{State}
use Rattle.snap_base.specs.declared.transactions.Tx.{Tx}
use Rattle.protocol.specs.Fixed.{Fixed, IsText, IsTxOf, base}
use Rattle.protocol.specs.Facts.{Alone, Facts}
use Rattle.protocol.specs.Events.{Event}
use Rattle.protocol.specs.Words.{is_empty}
use Rattle.protocol.specs.Effects.{no_log}
use Rattle.protocol.specs.Runs.{opening, new_cell, IsRun, IsQuiet, reached}
use Rattle.protocol.specs.History.{history}
use Rattle.protocol_theorems.specs.Order.{OrderHolds}
use Rattle.protocol_theorems.specs.Quiet.{AllAnswered, NoControls, AnsweredWhenQuiet}
use Rattle.protocol_laws.proofs.first.Times
use Rattle.protocol_laws.proofs.machine.Good.{Given}
use Rattle.protocol_laws.proofs.machine.AllGood.{none_allowed}
use Rattle.protocol_theorems.proofs.order.OrderLaw.{WhenQuiet}
use Rattle.protocol_theorems.proofs.order.LastLaw.{whole_order_of_runs}
use Rattle.protocol_theorems.proofs.quiet.QuietOwed as owed
use Rattle.protocol_theorems.proofs.quiet.HomeKept.{pacts_at_home}
use Rattle.protocol_theorems.proofs.quiet.NoControls.{no_posted, no_waiting}
use Rattle.protocol.specs.Rests.{IsRest, IsTxIn}
use Rattle.protocol.specs.Laws.{AfterEveryRunWithHistory}

-- ---- where there are no actors

no_txs : (n : ℕ) (txs : List Tx) → n ≡ 0 → AllByRecursion (IsTxOf n) txs → txs ≡ []
no_txs n [] e h = refl
no_txs n (x ∷ txs) e h = absurd (omega (arith, e, h.0.root_exists))

abbrev nobody : List ℕ
nobody = []

none_waits : (c : ℕ) → list_all is_empty (replicate c nobody) ≡ true
none_waits zero = refl
none_waits (suc c) = none_waits c

unsynced : (n l : ℕ) → length (slice_index_or (replicate n no_log) l no_log).records ≤ (slice_index_or (replicate n no_log) l no_log).synced
unsynced zero l = omega arith
unsynced (suc n) zero = omega arith
unsynced (suc n) (suc l) = unsynced n l

replies : (txs : List Tx) → txs ≡ [] → list_all (λ r. r) (replicate (length txs) Rattle.std.specs.Prelude.false) ≡ true
replies txs e = subst (λ z. list_all (λ r. r) (replicate (length z) Rattle.std.specs.Prelude.false) ≡ true) (sym e) refl

at_opening : {C : Type 0} (w : Fixed C) → IsText w.text → length w.text.opening.states ≡ 0 → AllAnswered w (opening w)
at_opening {C} w t e =
    let n = no_txs (length w.text.opening.states) w.text.txs e t.txs in
    let c = Times.length_map (new_cell {C = C} (base w.text)) w.text.opening.states in
    record {
      submitted = sym (ap length n);
      queues = rw (none_waits w.text.coordinators) refl;
      replied = replies w.text.txs n;
      batches = refl;
      acts = refl;
      synced = λ l m. unsynced w.text.logs l;
      subs = refl;
      outboxes = λ a l. absurd (omega (arith, l, c, e));
      entries = λ a l. absurd (omega (arith, l, c, e));
    }

-- ---- of every run

-- A run that cannot go on has answered all.
pub all_answered : {C : Type 0} (w : Fixed C) (Of : Tx → C → Type 0) (finish : C → List State → Alone) (es : List Event) → Facts (length w.text.opening.states) w.code (IsTxIn w.text) Of finish → IsText w.text → IsRun w es → IsQuiet w (reached w es) → AllAnswered w (reached w es)
all_answered w Of finish es f t run q = by es run q (length w.text.opening.states) refl
  where
    by : (es : List Event) → IsRun w es → IsQuiet w (reached w es) → (n : ℕ) → length w.text.opening.states ≡ n → AllAnswered w (reached w es)
    by es run q (suc n) l = let v : Given w Of finish = record { text = t; actors = omega (arith, l); facts = f } in owed.answered w Of finish es v run (pacts_at_home w Of finish es v run) q
    by [] run q zero l = at_opening w t l
    by (e ∷ es) run q zero l = absurd (none_allowed w e t l run.0)

-- And no control is left.
pub no_controls : {C : Type 0} (w : Fixed C) (Of : Tx → C → Type 0) (finish : C → List State → Alone) (es : List Event) → Facts (length w.text.opening.states) w.code (IsTxIn w.text) Of finish → IsText w.text → IsRun w es → IsQuiet w (reached w es) → NoControls (reached w es)
no_controls {C} w Of finish es f t run q = by es run q (length w.text.opening.states) refl
  where
    by : (es : List Event) → IsRun w es → IsQuiet w (reached w es) → (n : ℕ) → length w.text.opening.states ≡ n → NoControls (reached w es)
    by es run q (suc n) l = let v : Given w Of finish = record { text = t; actors = omega (arith, l); facts = f } in record { posted = no_posted w Of finish es v run q; inboxes = no_waiting w Of finish es v run q }
    by [] run q zero l = record { posted = refl; inboxes = λ a m. absurd (omega (arith, m, l, Times.length_map (new_cell {C = C} (base w.text)) w.text.opening.states)) }
    by (e ∷ es) run q zero l = absurd (none_allowed w e t l run.0)

pub when_quiet : {C : Type 0} (w : Fixed C) (Of : Tx → C → Type 0) (finish : C → List State → Alone) (es : List Event) → Facts (length w.text.opening.states) w.code (IsTxIn w.text) Of finish → IsText w.text → IsRun w es → WhenQuiet w (reached w es) (history w es)
when_quiet w Of finish es f t run = by es run (length w.text.opening.states) refl
  where
    by : (es : List Event) → IsRun w es → (n : ℕ) → length w.text.opening.states ≡ n → WhenQuiet w (reached w es) (history w es)
    by es run (suc n) l = let v : Given w Of finish = record { text = t; actors = omega (arith, l); facts = f } in owed.when_quiet w Of finish es v run (pacts_at_home w Of finish es v run)
    by [] run zero l = record { all_told = λ i. tt; all_kept = λ q a m. absurd (omega (arith, m, l)) }
    by (e ∷ es) run zero l = absurd (none_allowed w e t l run.0)

-- ---- the laws

pub answered_law : {C : Type 0} → AfterEveryRunWithHistory (AnsweredWhenQuiet {C = C})
answered_law w finish es f t run q = (all_answered w (IsRest w.code (IsTxIn w.text)) finish es f t run q, no_controls w (IsRest w.code (IsTxIn w.text)) finish es f t run q)

pub order_law : {C : Type 0} → AfterEveryRunWithHistory (OrderHolds {C = C})
order_law w finish es f t run = whole_order_of_runs w finish es f t run (when_quiet w (IsRest w.code (IsTxIn w.text)) finish es f t run)
