-- What a host left on open logs, on all devices.
use Rattle.std.proofs.Common.{◌≡◌, ℕ, ◌+◌, ◌≤◌, List, length, sym, subst, arith}
use Rattle.run_opening.specs.gate_log.State.{LogState}
use Rattle.run_opening.specs.log_opening.Devices.{Device}
use Rattle.run_opening.specs.log_opening.declared.refusals.LogsNo.{LogsNo}
use Rattle.run_opening.specs.log_opening.declared.refusals.LogsNo.TheVariants as ending
use Rattle.run_opening.specs.Opens.{AreSafe, HasRoomToBegin, IsNoRun, MayOpen, OpensRun}
use Rattle.run_recovery.specs.Runs.{meant}
use Rattle.run_recovery.specs.Schedules.{Schedule}
use Rattle.run_work.proofs.Hosting.{made_as}
use Rattle.run_work.proofs.RunDevices.{all_with, has_left}
use Rattle.run_work.specs.Hosts.{HasDriven, WasRunOnDevices, IsHosted, IsHostedOn, IsWithoutRun}
use Rattle.run_work.specs.Runs.{Printing}
use Rattle.run_work.specs.Writings.{Writing}
use Rattle.run_work.specs.declared.hosts.Hosted.{Hosted}
use Rattle.snap_base.specs.declared.transactions.State.{State}
use Rattle.run_opening.specs.snap_recover.declared.openings.Opening.{Opening}
use Rattle.snap_work.specs.Works.{Work}
use Rattle.run_opening.specs.txn_records.declared.records.Record.{Record}

pub hosted_on : (p : Printing) (w : Work) (schedule : Schedule) (o : Opening) (head : ℕ) (before mid after others : List Device) (old new : List LogState) (replies : Writing) (h : Hosted)
    → (states : List State) (records : List (List Record)) (added : List Record) → states ≡ w.states → OpensRun before mid head old states o records added → length records ≡ w.logs → HasRoomToBegin o
    → head ≤ length others → head + w.logs ≤ 4 → mid ≡ all_with head old others → after ≡ all_with head new others → h.head ≡ head
    → IsHostedOn p w schedule o old new replies h → IsHosted p w schedule before after replies h
hosted_on p w schedule o head before mid after others old new replies h states records added texts opens as_many room behind within first same on is =
    let es = meant h.kept.items in
    record {
      opening = o;
      within = omega (arith, on, within);
      made = made_as (HasDriven w schedule o es old new) (WasRunOnDevices w schedule h.head o es before after)
          (λ failed driven.
          subst (λ (n : ℕ). WasRunOnDevices w schedule n o es before after failed) (sym on)
          (has_left w schedule o es failed head before mid after others old new states records added texts opens as_many room driven behind first same)) p w schedule o replies h is;
    }

pub unbegun : (w : Work) (before after : List Device) (why : LogsNo) (states : List State) → states ≡ w.states → IsNoRun w.logs states before after why → AreSafe w.logs states before after
    → ((records : List (List Record)) (o : Opening) → MayOpen w.logs states before after records o → why ≡ ending.Memory) → IsWithoutRun w before after why
unbegun w before after why states texts none safe complete = record {
  none = subst (λ (ss : List State). IsNoRun w.logs ss before after why) texts none;
  safe = subst (λ (ss : List State). AreSafe w.logs ss before after) texts safe;
  complete = λ records o may. complete records o (subst (λ (ss : List State). MayOpen w.logs ss before after records o) (sym texts) may);
}
