use Rattle.std.proofs.Common.{length, []}
use Rattle.aml_flat.specs.Flat.{operand_tree}
use Rattle.aml_values.proofs.RowValues.{closed_row}
use Rattle.aml_values.proofs.flat.closed_parts.Goals as goal

pub returns-clause-first : goal.returns-clause-first
returns-clause-first c = (closed_row (length c.args._variables.now) (operand_tree c.args._first) [] c.args._parts.now c.requires).first

pub returns-clause-parts : goal.returns-clause-parts
returns-clause-parts c = (closed_row (length c.args._variables.now) (operand_tree c.args._first) [] c.args._parts.now c.requires).parts
