-- What a play of a body to its end comes to, as the contract of the top call sees a call; and when a body meets that contract.
use Rattle.std.specs.Prelude.{ℕ, ◌+◌, Some, List, [], ◌∷◌, ◌++◌}
use Rattle.run_opening.specs.log_opening.Devices.{Device}
use Rattle.run_work.specs.core_events.declared.events.Event.{Event}
use Rattle.snap_report.specs.declared.statuses.Status.{Status}
use Rattle.snap_run.specs.Outcomes.{IsOutcome}
use Rattle.snap_run.specs.Uses.{Use}
use Rattle.durable_replies.specs.Bodies.{Body, Ends}
use Rattle.durable_replies.specs.Plays.{Outside, Happening, device, output, tracing, source, device_now, faults_in, input_now, printed_in, traced_in, Play}

-- there are four devices
abbrev pub four : (ℕ → Device) → List Device
four f = f 0 ∷ f 1 ∷ f 2 ∷ f 3 ∷ []

-- each tells its history, and how many of its calls have failed
abbrev pub device_before : Outside → ℕ → Device
device_before o d = record { told = Some (o.devices d); faults = o.faults (device d) }

abbrev pub device_after : Outside → List Happening → ℕ → Device
device_after o hs d = record { told = Some (device_now o hs d); faults = o.faults (device d) + faults_in (device d) hs }

abbrev pub devices_before : Outside → List Device
devices_before o = four (device_before o)

abbrev pub devices_after : Outside → List Happening → List Device
devices_after o hs = four (device_after o hs)

-- what the call was given and what it left, where all this happened and it took these events
abbrev pub use_left : Outside → List Happening → List Event → Use
use_left o hs kept = record {
  words = o.words;
  reading = record {
    left_before = Some o.input;
    left_after = Some (input_now o hs);
    faults_before = o.faults source;
    faults_after = o.faults source + faults_in source hs;
  };
  writing = record {
    taken_before = Some o.printed;
    taken_after = Some (o.printed ++ printed_in hs);
    faults_before = o.faults output;
    faults_after = o.faults output + faults_in output hs;
  };
  tracing = record {
    taken_before = Some o.traced;
    taken_after = Some (o.traced ++ traced_in hs);
    faults_before = o.faults tracing;
    faults_after = o.faults tracing + faults_in tracing hs;
  };
  kept = kept;
  devices_before = devices_before o;
  devices_after = devices_after o hs;
}

-- Whatever the outside answers, where the body ends, what it comes to is as the contract of the top call says.
abbrev pub MeetsContract : Outside → Body → Type 0
MeetsContract o b = (hs : List Happening) (s : Status) (kept : List Event) → Play o b [] (Ends s kept) hs → IsOutcome (use_left o hs kept) s
