-- What a call is handed, and what it gives back, as contracts see it.
use Rattle.std.specs.Prelude.{ℕ, Option, List}
use Rattle.std.specs.Global.{Vec}
use Rattle.snap_core.specs.core_events.declared.events.Event.{Event}
use Rattle.run_opening.specs.log_opening.Devices.{Device, devices_of}
use Rattle.run_recovery.specs.Schedules.{Schedule}
use Rattle.run_work.specs.Runs.{RunUse}
use Rattle.run_work.specs.Writings.{Writing}
use Rattle.snap_outside.specs.declared.devices.LogDev.{Ghosts as DeviceTells}
use Rattle.snap_outside.specs.declared.sinks.Sink.{Ghosts as SinkTells}
use Rattle.snap_work.specs.Works.{Work}

-- what a sink tells: the bytes that it has taken, where it tells them, its faults, and its calls behind a fault
pub record SinkState : Type 0 where
  pub taken : Option (List ℕ)
  pub faults : ℕ
  pub late : ℕ

-- The devices of the logs and the trace themselves, since a contract may say that they got no call; and what the devices, the
-- output and the trace tell.
pub record CallState (D T : Type 0) : Type 0 where
  pub logs : Vec D
  pub trace : T
  pub devices : List Device
  pub output : SinkState
  pub tracing : SinkState

abbrev pub sink_of : {O : Type 0} → SinkTells O → O → SinkState
sink_of tells sink = record { taken = tells.taken sink; faults = tells.faults sink; late = tells.late sink }

-- a call that is handed these
abbrev pub call_of : {D O T : Type 0} → DeviceTells D → SinkTells O → SinkTells T → Vec D → O → T → CallState D T
call_of device output tracing logs out trace = record {
  logs = logs;
  trace = trace;
  devices = devices_of device.told device.faults logs.items;
  output = sink_of output out;
  tracing = sink_of tracing trace;
}

-- ---- from before a call to behind it

abbrev pub written : SinkState → SinkState → Writing
written before after = record { taken_before = before.taken; taken_after = after.taken; faults_before = before.faults; faults_after = after.faults }

-- a run of this work, by what the call was handed and gave back
abbrev pub ran_by : {D T : Type 0} → Work → Schedule → CallState D T → CallState D T → List Event → RunUse
ran_by w schedule before after kept = record {
  work = w;
  schedule = schedule;
  kept = kept;
  devices_before = before.devices;
  devices_after = after.devices;
  out = written before.output after.output;
  trace = written before.tracing after.tracing;
}
