use Rattle.std.proofs.Common.{◌≡◌}
use Rattle.aml_check.specs.Checked.{methods_of}
use Rattle.aml_slice.specs.Controls.{IsRest, moves_left}
use Rattle.aml_slice.specs.Views.{rest_of, HasRooms}
use Rattle.aml_slice.proofs.ExactMoves.{SlicesFrom}
use Rattle.aml_slice.proofs.slices.slice.Given as goal

abbrev pub invariant-loop-result : goal.invariant-loop-result
invariant-loop-result l = record {
  rest : IsRest (methods_of l.program) l.actors (rest_of l.running.value);
  rooms : HasRooms l.running.value;
  exact : SlicesFrom (methods_of l.program) l.actors l.fn.control l.initial.state (rest_of l.running.value) l.state;
  own : l.own ≡ l.fn.control.top.actor;
}

abbrev pub decreases-loop-result : goal.decreases-loop-result
decreases-loop-result l = moves_left (rest_of l.running.value)
