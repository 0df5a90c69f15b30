use Rattle.cell_part.proofs.Numbers.{control_tid, outcome_tid, sub_numbers}
use Rattle.cell_part.proofs.laws.what_is_found_has_its_number.Goals as goal

pub returns-clause-control : goal.returns-clause-control
returns-clause-control g c = control_tid

pub returns-clause-outcome : goal.returns-clause-outcome
returns-clause-outcome g c = outcome_tid

pub returns-clause-sub : goal.returns-clause-sub
returns-clause-sub g c = sub_numbers
