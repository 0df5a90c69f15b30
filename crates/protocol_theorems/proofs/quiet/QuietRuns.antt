-- A run that cannot go on has answered all.
use Rattle.std.specs.Prelude.{◌≡◌, ℕ, zero, suc, ◌<◌, ◌≤◌, Some, List, [], ◌∷◌, length, map, slice_get}
use Rattle.std.specs.List.{AllByRecursion}
use Rattle.std.proofs.Common.{sym, subst, ◌∙◌}
use Rattle.std.proofs.lemmas.List.{length-replicate}
use Rattle.protocol.specs.Fixed.{Fixed, IsText, base}
use Rattle.protocol.specs.Parts.{Declared, Machine}
use Rattle.protocol.specs.Events.{Event}
use Rattle.protocol.specs.Words.{declared_of}
use Rattle.protocol.specs.Conditions.{IsAllowed}
use Rattle.protocol.specs.Effects.{after, no_log}
use Rattle.protocol_laws.specs.FromDesk.{EntryOf, FromDesk}
use Rattle.protocol.specs.Runs.{opening, new_cell, IsRun, reached, IsQuiet}
use Rattle.protocol_theorems.specs.Quiet.{Orderly, Whole, StillOwed, AllAnswered}
use Rattle.protocol_laws.proofs.first.Along.{along}
use Rattle.protocol_laws.proofs.first.Times
use Rattle.protocol_laws.proofs.first.Drawn as drawn
use Rattle.protocol_laws.proofs.first.OnePlace as place
use Rattle.protocol_laws.proofs.first.Leaves.{logs_stay}
use Rattle.protocol_laws.proofs.first.EpochsKept as epochs
use Rattle.protocol_laws.proofs.first.CellEpochs as cells
use Rattle.protocol_laws.proofs.first.SettlingKept as settling
use Rattle.protocol_theorems.proofs.quiet.ActsKnown as of_acts
use Rattle.protocol_theorems.proofs.quiet.BatchesKnown as of_batches
use Rattle.protocol_theorems.proofs.quiet.RowsKept as of_rows
use Rattle.protocol_theorems.proofs.quiet.SubsArrive as subs
use Rattle.protocol_theorems.proofs.quiet.TailsKept as of_tails
use Rattle.protocol_theorems.proofs.quiet.QuietKnown as known
use Rattle.protocol_theorems.proofs.quiet.QuietEnd.{each_at, quiet_is_answered}
use Rattle.protocol_laws.proofs.first.RangesNamed.{cells_stay}

-- ---- what is known along a run

pub record Known {C : Type 0} (w : Fixed C) (s : Machine C) : Type 0 where
  pub cells : length s.cells ≡ length w.text.opening.states
  pub logs : length s.logs ≡ w.text.logs
  pub waits : of_batches.Waits w s
  pub acts : of_acts.AllFit w s
  pub batches : of_batches.AllFit w s
  pub written : of_batches.AllWritten w s
  pub agreeing : epochs.Agreeing s
  pub settling : settling.Settling w s
  pub rows : of_rows.Rows s
  pub from_desk : FromDesk s
  pub placed : subs.Placed w s
  pub numbers : drawn.Drawn w s
  pub tails : of_tails.Tails s

pub known_kept : {C : Type 0} (w : Fixed C) → IsText w.text → 1 ≤ length w.text.opening.states → (e : Event) (s : Machine C) → IsAllowed w e s → Known w s → Known w (after w e s)
known_kept w v l e s ok h = record {
  cells = cells_stay w e s ∙ h.cells;
  logs = logs_stay w e s h.logs;
  waits = of_batches.waits_kept w e s h.waits;
  acts = of_acts.fit_kept w e s v.some_logs h.logs ok h.acts;
  batches = of_batches.fit_kept w e s v l h.logs h.waits ok h.batches;
  written = of_batches.written_kept w e s v.some_logs h.logs h.written;
  agreeing = epochs.kept w e s ok h.agreeing;
  settling = settling.kept w e s ok h.settling;
  rows = of_rows.rows_kept w e s ok h.agreeing h.settling h.rows;
  from_desk = of_rows.from_desk_kept w e s ok h.agreeing h.rows h.from_desk;
  placed = subs.placed_kept w e s ok h.agreeing h.settling h.rows h.batches h.placed;
  numbers = drawn.kept w e s ok h.numbers;
  tails = of_tails.tails_kept w e s ok h.agreeing h.settling h.rows h.batches h.placed (known.found_at_each w s h.numbers) h.from_desk h.tails;
}

pub known_after : {C : Type 0} (w : Fixed C) (es : List Event) → IsText w.text → 1 ≤ length w.text.opening.states → IsRun w es → Known w (reached w es)
known_after w es v l run = along w (Known w) (known_kept w v l) es (opening w) run (record {
  cells = Times.length_map (new_cell (base w.text)) w.text.opening.states;
  logs = length-replicate w.text.logs no_log;
  waits = of_batches.waits_opened w;
  acts = of_acts.fit_opened w;
  batches = of_batches.fit_opened w;
  written = of_batches.written_opened w;
  agreeing = epochs.opened w v;
  settling = settling.opened w v;
  rows = of_rows.rows_opened w;
  from_desk = of_rows.from_desk_opened w;
  placed = subs.placed_opened w;
  numbers = drawn.opened w;
  tails = of_tails.tails_opened w v;
})

-- ---- together

ranged : (n : ℕ) (ps : List Declared) (i : ℕ) (p : Declared) → slice_get ps i ≡ Some p → AllByRecursion (λ a. a < n) (map (λ p. p.actor) ps) → p.actor < n
ranged n [] i p e h = absurd (cc e)
ranged n (x ∷ ps) zero p e h = let q : x ≡ p = cc e in subst (λ z. z.actor < n) q h.0
ranged n (x ∷ ps) (suc i) p e h = ranged n ps i p e h.1

pub orderly : {C : Type 0} (w : Fixed C) (es : List Event) → IsText w.text → 1 ≤ length w.text.opening.states → IsRun w es → StillOwed w (reached w es) → Orderly w (reached w es)
orderly w es v l run o =
    let s = reached w es in
    let k = known_after w es v l run in
    let n = known.numbered w s (drawn.numbers_drawn_once w es v run) in
    let g = settling.batches_settle_in_order w es v run in
    let c = cells.cells_agree w es v run in
    record {
      found = record {
        batches = n.batches;
        acts = n.acts;
        declared = λ j b e. let f = of_batches.fit_is w s k.batches j b e in each_at (λ p. (declared_of p.actor b ≡ Some p) × (p.actor < length s.cells)) b.places (λ i p h. (known.found_once (λ p. p.actor) b.places f.distinct i p h, subst (λ z. p.actor < z) (sym k.cells) (ranged (length w.text.opening.states) b.places i p h f.range)));
        joined = o.joined;
        results = n.results;
        tids = n.tids;
      };
      written = record {
        logs = k.logs;
        info = λ j b e. (of_batches.fit_is w s k.batches j b e).info;
        complete = of_batches.written_is w s k.written;
        commit = λ j b e. (of_batches.fit_is w s k.batches j b e).commit;
        prepare = λ t x e. (of_acts.fit_is w s k.acts t x e).prepared;
        act_commit = λ t x e. (of_acts.fit_is w s k.acts t x e).committed;
      };
      batches = record {
        marked = known.mark w s g;
        behind = known.cell_behind w s c;
        present = known.cell_present w s c;
        rises = of_rows.rises s k.rows;
        trimmed = λ j b e. (of_batches.fit_is w s k.batches j b e).trimmed;
        somewhere = λ j b e. (of_batches.fit_is w s k.batches j b e).somewhere;
        placed = subs.placed_where w s k.placed;
        on_way = subs.on_way w s k.placed;
        on_schedule = subs.on_schedule w s k.placed;
        epochs = known.present_epoch w s g (epochs.epochs_agree w es v run);
        next = of_tails.next_there s k.agreeing (known.found_at_each w s k.numbers) k.from_desk k.tails;
        slots = λ a e xs i. (subst (AllByRecursion (EntryOf a s.desk.batches)) i (k.from_desk.entries a)).0.1;
      };
      controls = o.controls;
      acts = record {
        stands = o.stands;
        before = o.before;
        behind = o.behind;
        in_order = o.in_order;
        tell = o.tell;
        number = o.number;
        settled = known.settled_most w s g;
        somewhere = o.somewhere;
        over = of_acts.over w s k.acts;
      };
      some_logs = v.some_logs;
    }

whole : {C : Type 0} (w : Fixed C) (es : List Event) → IsText w.text → 1 ≤ length w.text.opening.states → IsRun w es → Whole w (reached w es)
whole w es v l run =
    let k = known_after w es v l run in
    record {
      text = v;
      once = place.transactions_in_one_place w es v run;
      few = (known.counts w es run).few;
      replies = (known.counts w es run).replies;
      results = known.settled_results w es run;
      sealed = λ t x e d. (of_acts.fit_is w (reached w es) k.acts t x e).ended (Rattle.std.proofs.lemmas.Bool.or_right (Rattle.protocol.specs.Words.is_decided x.status) (Rattle.protocol.specs.Words.is_sealed x.status) d);
    }

-- A run that cannot go on has answered all, where the state is as is still owed.
pub quiet_runs_have_answered : {C : Type 0} (w : Fixed C) (es : List Event) → IsText w.text → 1 ≤ length w.text.opening.states → IsRun w es → IsQuiet w (reached w es) → StillOwed w (reached w es) → AllAnswered w (reached w es)
quiet_runs_have_answered w es v l run q o = quiet_is_answered w (reached w es) q (orderly w es v l run o) (whole w es v l run)
