-- A run of a work that keeps the limits begins as a text of the machine.
use Rattle.std.proofs.Common.{◌≡◌, inl, inr, List, length, refl, sym, ap, ◌∙◌, arith}
use Rattle.snap_base.specs.declared.transactions.State.{State}
use Rattle.machine_laws.specs.Programs.{IsTextOf}
use Rattle.machine_text.proofs.Accepted.{accepted}
use Rattle.machine_recovery.specs.recovery_laws.Grown.{BeginsWith}
use Rattle.run_opening.specs.Opens.{HasRoomToBegin}
use Rattle.run_opening.specs.Starts.{IsStart}
use Rattle.snap_recover.specs.declared.openings.Opening.{Opening}
use Rattle.snap_work.specs.Kept.{KeepsLimits}
use Rattle.snap_work.specs.Works.{Work}
use Rattle.record_log.specs.txn_records.declared.records.Record.{Record}
use Rattle.run_recovery.specs.Runs.{text_of}
use Rattle.run_recovery.proofs.StatesFolded.{fold_long}

-- its opening has a state for each actor
pub starts_with_as_many : (logs : List (List Record)) (states : List State) (o : Opening) (added : List Record) → IsStart logs states o added → length o.states ≡ length states
starts_with_as_many logs states o added (inl new) = ap (λ (p : Opening). length p.states) new.1
starts_with_as_many logs states o added (inr on) = let f = on.0.folded in sym (ap (λ (p : Opening). length p.states) f.2) ∙ fold_long logs states f.0 f.1 on.0.same

pub begins_with : (w : Work) (o : Opening) → BeginsWith (text_of w o) o
begins_with w o = record { states = refl; next_tid = refl; next_bid = refl; next_c = refl }

pub text_begins : (w : Work) (o : Opening) → KeepsLimits w → HasRoomToBegin o → length o.states ≡ length w.states → IsTextOf w.program (text_of w o)
text_begins w o kept room actors = accepted w o kept (record {
  actors = actors;
  some_tid = room.some_tid;
  some_bid = room.some_bid;
  some_c = room.some_c;
  tids = omega (arith, room.tids);
  bids = omega (arith, room.bids);
  cs = omega (arith, room.cs);
})
