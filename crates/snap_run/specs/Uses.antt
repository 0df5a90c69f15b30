-- What a call was given and what it left, as contracts see it.
use Rattle.std.specs.Prelude.{ℕ, List, Option}
use Rattle.std.specs.Global.{Vec}
use Rattle.run_work.specs.core_events.declared.events.Event.{Event}
use Rattle.log_following.specs.log_opening.Devices.{Device}
use Rattle.run_work.specs.Calls.{CallState, call_of, written}
use Rattle.run_work.specs.Writings.{Writing}
use Rattle.snap_outside.specs.declared.devices.LogDev.{Ghosts as DeviceTells}
use Rattle.snap_outside.specs.declared.sinks.Sink.{Ghosts as SinkTells}
use Rattle.snap_outside.specs.declared.sources.Source.{Ghosts as SourceTells}
use Rattle.snap_run.specs.declared.endings.Outcome.{Outcome}

-- the source: the bytes that were left, where it tells them, and its faults
pub record Reading : Type 0 where
  pub left_before : Option (List ℕ)
  pub left_after : Option (List ℕ)
  pub faults_before : ℕ
  pub faults_after : ℕ

pub record Use : Type 0 where
  pub words : List (List ℕ)
  pub reading : Reading
  pub writing : Writing
  pub tracing : Writing
  -- the events that were taken
  pub kept : List Event
  pub devices_before : List Device
  pub devices_after : List Device

-- a source before and after a call, by what sources of its kind tell
abbrev pub reading_of : {I : Type 0} → SourceTells I → I → I → Reading
reading_of tells before after = record { left_before = tells.left before; left_after = tells.left after; faults_before = tells.faults before; faults_after = tells.faults after }

-- these words and this input, and what the call was handed and gave back
abbrev pub use_of : {D T : Type 0} → List (List ℕ) → Reading → CallState D T → CallState D T → List Event → Use
use_of words reading before after kept = record {
  words = words;
  reading = reading;
  writing = written before.output after.output;
  tracing = written before.tracing after.tracing;
  kept = kept;
  devices_before = before.devices;
  devices_after = after.devices;
}

-- the same of the top call, by what sources, devices and sinks of these kinds tell
abbrev pub use_by : {I D O T : Type 0} → SourceTells I → DeviceTells D → SinkTells O → SinkTells T → List (List ℕ) → I → I → Vec D → O → T → Outcome D O T → Use
use_by source device output tracing words input left logs out trace outcome =
    use_of words (reading_of source input left) (call_of device output tracing logs out trace) (call_of device output tracing outcome.logs outcome.out outcome.trace) outcome.kept.items
