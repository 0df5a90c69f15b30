-- What each device got once all writes of a compaction are made, whether the others tell theirs or not.
use Rattle.std.proofs.Common.{◌≡◌, ◌≢◌, ℕ, ◌+◌, List, ◌++◌, sym, ◌∙◌, ap, subst, arith}
use Rattle.snap_outside.specs.declared.devices.DevOp.{DevOp}
use Rattle.snap_outside.specs.Disk.{AddsAll}
use Rattle.snap_outside.specs.Moments.{adds_join}
use Rattle.gate_log.specs.Appends.{append_ops, clear_ops}
use Rattle.gate_log.specs.State.{LogState, log_at}
use Rattle.txn_records.specs.declared.records.Record.{Record}
use Rattle.record_log.specs.Records.{spelled}
use Rattle.log_compact.specs.Compacting.{IsOnSide}
use Rattle.log_compact.specs.OnDevices.{group_ops}
use Rattle.log_compact.specs.Sides.{AreDone, IsCleared}
use Rattle.log_compaction.specs.Ready.{IsBlank, GetsGroup, log_ready_ops}
use Rattle.log_compaction.specs.Written.{AreAllDone}
use Rattle.log_compaction.proofs.Stages.{AreSides, other_here, sides_apart, off_same}

module _ (head other logs : ℕ) (group : List Record) (sides : AreSides head other logs) (old mid late new : List LogState) (ready : AreDone IsBlank other (other + logs) old mid) (appended : AreDone (GetsGroup group) other (other + 1) mid late) (cleared : AreDone IsCleared head (head + logs) late new) where
  here : IsOnSide other logs other
  here = other_here head other logs sides

  apart : (d : ℕ) → IsOnSide head logs d → ¬ IsOnSide other logs d
  apart = sides_apart head other logs sides

  off_one : (d : ℕ) → d ≢ other → ¬ IsOnSide other 1 d
  off_one d apart_from on = apart_from (omega (arith, on.behind, on.before))

  not_first : (d : ℕ) → ¬ IsOnSide other logs d → d ≢ other
  not_first d off same = off (subst (IsOnSide other logs) (sym same) here)

  first : AddsAll (log_at old other).told (log_at new other).told (log_ready_ops (log_at old other) ++ group_ops group)
  first =
      let made = ready.there other here.behind here.before in
      let put = appended.there other (omega arith) (omega arith) in
      let gate : append_ops (log_at mid other).end (spelled group) ≡ group_ops group = ap (λ (end : ℕ). append_ops end (spelled group)) made.gate in
      subst (λ (l : LogState). AddsAll (log_at old other).told l.told (log_ready_ops (log_at old other) ++ group_ops group)) (sym (off_same IsCleared head logs other late new cleared (λ on. apart other on here)))
      (subst (λ (ops : List DevOp). AddsAll (log_at old other).told (log_at late other).told (log_ready_ops (log_at old other) ++ ops)) gate
      (adds_join (log_at old other).told (log_at mid other).told (log_at late other).told (log_ready_ops (log_at old other)) (append_ops (log_at mid other).end (spelled group)) made.adds put.adds))

  side : (d : ℕ) → IsOnSide other logs d → d ≢ other → AddsAll (log_at old d).told (log_at new d).told (log_ready_ops (log_at old d))
  side d on apart_from =
      let same : log_at new d ≡ log_at mid d =
      off_same IsCleared head logs d late new cleared (λ back. apart d back on) ∙ off_same (GetsGroup group) other 1 d mid late appended (off_one d apart_from) in
      subst (λ (l : LogState). AddsAll (log_at old d).told l.told (log_ready_ops (log_at old d))) (sym same) (ready.there d on.behind on.before).adds

  back : (d : ℕ) → IsOnSide head logs d → AddsAll (log_at old d).told (log_at new d).told (clear_ops (log_at old d).end)
  back d on =
      let off = apart d on in
      let same : log_at late d ≡ log_at old d = off_same (GetsGroup group) other 1 d mid late appended (off_one d (not_first d off)) ∙ off_same IsBlank other logs d old mid ready off in
      subst (λ (l : LogState). AddsAll l.told (log_at new d).told (clear_ops l.end)) same (cleared.there d on.behind on.before).adds

  pub all_got : AreAllDone old new head other logs group
  all_got = record { first = first; side = side; old = back }
