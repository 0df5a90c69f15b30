-- As a run ends its devices stand at its last moment.
use Rattle.std.proofs.Common.{◌≡◌, ℕ, inl, if◌then◌else◌, Bool, true, false, Option, None, Some, List, [], ◌∷◌, ◌++◌, refl, sym, subst, ◌∙◌, append-nil, true≢false}
use Rattle.crew_recovery.specs.Cuts.{told_after}
use Rattle.protocol.specs.Moments.{IsUnderWay}
use Rattle.record_log.specs.Growth.{GrewBy, begun_groups}
use Rattle.record_log.specs.snap_outside.Disk.{DeviceHistory, content, with_ops}
use Rattle.record_log.specs.snap_outside.declared.devices.DevOp.{DevOp}
use Rattle.record_log.specs.txn_records.declared.records.Record.{Record}
use Rattle.run_effects.specs.Groups.{group_behind, groups_of}
use Rattle.run_effects.specs.Made.{IsMade}
use Rattle.run_opening.specs.Opens.{first_groups}
use Rattle.run_recovery.specs.OneRun.{TheRun, MomentOf, machine_in}
use Rattle.crew_recovery.proofs.StepsRecovered.{Placed}

module _ (r : TheRun) where
  not_touched : (l : ℕ) → IsUnderWay (machine_in r).text.logs l []
  not_touched l = record { front = []; rest = []; splits = refl; untouched = tt; ends = inl refl }

  -- behind all events, with one more append begun on each log that failed
  abbrev last : MomentOf r
  last = record { events = r.events; later = []; splits = sym (append-nil r.events); has_begun = r.failed; begun = λ l is. not_touched l }

  module _ (l : ℕ) (h : DeviceHistory) (end : ℕ) (first : List (List Record)) (new : Option DeviceHistory) where
    abbrev groups : List (List Record)
    groups = first ++ groups_of (machine_in r) l r.events

    abbrev group : List Record
    group = group_behind (machine_in r) l r.events

    abbrev Made : Bool → Type 0
    Made b = (made : List DevOp) × (new ≡ Some (with_ops h made)) × IsMade last l (content h) end first (begun_groups groups (if b then Some group else None)) made

    made_then : (b : Bool) → r.failed l ≡ b → GrewBy (Some h) new end groups (if b then Some group else None) → Made b
    made_then true is grew = (
      grew.0,
      grew.2,
      record {
        later = group ∷ [];
        begun = grew.1.begun;
        splits = refl;
        so_far = grew.1.parts;
        next = (grew.1.last.1.left, grew.1.last.1.whole);
        waits = λ none. absurd (true≢false (sym is ∙ none));
      },
    )
    made_then false is grew = (
      grew.0,
      grew.2,
      record {
        later = [];
        begun = grew.1.begun;
        splits = sym (append-nil groups);
        so_far = grew.1.parts;
        next = grew.1.last;
        waits = λ none. grew.1.last;
      },
    )

  pub placed_last : Placed r (machine_in r) r.events r.events (told_after r)
  placed_last = record {
    moment = last;
    so_far = refl;
    each = λ l lt h telling.
        let on = r.devices.each l lt in
        let first = first_groups l r.devices.added in
        let new = told_after r l in
        made_then l h on.end first new (r.failed l) refl
        (subst (λ (old : Option DeviceHistory). GrewBy old new on.end (first ++ groups_of (machine_in r) l r.events) (if r.failed l then Some (group_behind (machine_in r) l r.events) else None)) telling on.grew);
  }
