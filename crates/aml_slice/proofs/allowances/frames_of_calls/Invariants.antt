use Rattle.std.proofs.Common.{◌≡◌, ◌+◌, ◌<◌, drop}
use Rattle.aml_slice.specs.Views.{calls_of}
use Rattle.aml_slice.proofs.allowances.frames_of_calls.Given as goal

-- the calls before this place, and those behind it
abbrev pub invariant-loop-one : goal.invariant-loop-one
invariant-loop-one l = record {
  all : calls_of l.uses ≡ l.calls + calls_of (drop l.one-index l.uses);
  few : l.calls < 15;
}
