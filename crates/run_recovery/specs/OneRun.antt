-- A run of a work on its devices as one value, a moment of it, and the machine there.
use Rattle.std.specs.Prelude.{ℕ, Bool, List}
use Rattle.aml_slice.specs.Controls.{Rest}
use Rattle.aml_slice.specs.aml_tree.Tree.{CheckedMethod}
use Rattle.run_opening.specs.log_opening.Devices.{Device}
use Rattle.machine_laws.specs.Programs.{finish_of}
use Rattle.protocol.specs.Events as machine
use Rattle.protocol.specs.Facts.{Alone}
use Rattle.protocol.specs.Fixed.{Fixed}
use Rattle.protocol.specs.History.{History, history}
use Rattle.protocol.specs.Moments.{Moment}
use Rattle.protocol.specs.Parts.{Machine}
use Rattle.protocol.specs.Runs.{reached}
use Rattle.run_recovery.specs.Runs.{AreRunDevices, HasRunWork, machine_of, text_of}
use Rattle.run_recovery.specs.Schedules.{Schedule}
use Rattle.snap_base.specs.declared.transactions.State.{State}
use Rattle.snap_recover.specs.declared.openings.Opening.{Opening}
use Rattle.snap_work.specs.Works.{Work}

-- The work, the opening with which the run began, the events that it took, and the logs that failed; and the devices, before and
-- after, on which it left this.
pub record TheRun : Type 0 where
  pub work : Work
  pub opening : Opening
  pub events : List machine.Event
  pub failed : ℕ → Bool
  pub before : List Device
  pub after : List Device
  pub devices : AreRunDevices work opening events failed before after

-- a run by any schedule
abbrev pub the_run : {w : Work} {schedule : Schedule} {o : Opening} {es : List machine.Event} {failed : ℕ → Bool} {before after : List Device} → HasRunWork w schedule o es failed before after → TheRun
the_run {w} {schedule} {o} {es} {failed} {before} {after} run = record {
  work = w;
  opening = o;
  events = es;
  failed = failed;
  before = before;
  after = after;
  devices = run.devices;
}

-- ---- its machine

-- the work's text with the methods of its program as code
abbrev pub machine_in : TheRun → Fixed Rest
machine_in r = machine_of r.work r.opening

-- what becomes of a control of its text where nobody else changes the world, by this program
abbrev pub alone_in : List CheckedMethod → TheRun → Rest → List State → Alone
alone_in p r = finish_of p (text_of r.work r.opening)

-- the state that it reached
abbrev pub reached_in : TheRun → Machine Rest
reached_in r = reached (machine_in r) r.events

abbrev pub history_in : TheRun → History
history_in r = history (machine_in r) r.events

-- ---- a moment of it

abbrev pub MomentOf : TheRun → Type 0
MomentOf r = Moment (machine_in r) r.events

-- the state that it had reached there
abbrev pub reached_at : (r : TheRun) → MomentOf r → Machine Rest
reached_at r m = reached (machine_in r) m.events

abbrev pub history_at : (r : TheRun) → MomentOf r → History
history_at r m = history (machine_in r) m.events
