-- Threads may share the tables. The search at a call does not find it, since the tables stand there as the type that goes with a
-- part; and they reach statements, which hold one another, and flat code.
use denote.Param.Send.{IsSync, recorded_sync, sendable, struct_sync, view_sync}
use denote.Builtin.{u8, u16}
use denote.Struct.Declared.{shape}
use Rattle.std.proofs.Crossing.{crosses}
use Rattle.aml_flat.proofs.operations.BlockPlace.TheSendSync as place
use Rattle.aml_flat.proofs.operations.Operand.TheSendSync as operand
use Rattle.aml_flat.proofs.operations.Part.TheSendSync as part
use Rattle.snap_hand.proofs.aml_tokens.tokens.Word.TheSendSync as word
use Rattle.snap_hand.proofs.aml_tree.trees.Block.TheSendSync as block
use Rattle.snap_hand.proofs.aml_tree.trees.Expression.TheLaws.TheKnot as expression
use Rattle.snap_hand.proofs.aml_tree.trees.Statement.TheLaws.TheKnot as statement
use Rattle.aml_flat.specs.contracts.operations.FlatExpression as FlatExpression
use Rattle.aml_flat.specs.contracts.operations.FlatProgram as FlatProgram
use Rattle.aml_flat.specs.contracts.operations.Operation as Operation
use Rattle.snap_hand.specs.aml_tree.contracts.trees.Method as Method
use Rattle.snap_hand.specs.aml_tree.contracts.trees.Program as Program
use Rattle.snap_hand.specs.aml_tree.contracts.trees.Statement as Statement
use Rattle.snap_hand.specs.aml_check.contracts.programs.Checked as Checked
use Rattle.snap_hand.specs.aml_check.contracts.programs.Checked.TheInside as Inside
use Rattle.snap_base.proofs.sequences.Sequence.TheSendSync as sequence
use Rattle.snap_base.proofs.transactions.State.TheSendSync as state
use Rattle.snap_base.proofs.transactions.Tx.TheSendSync as tx
use Rattle.snap_hand.specs.contracts.tables.Tables as Tables
use Rattle.snap_hand.proofs.snap_recover.openings.Opening.TheSendSync as opening
use Rattle.snap_work.specs.contracts.works.Work as Work

statement_sync : IsSync (Statement.the_row u8 u16)
statement_sync = search (crosses, expression.crosses, statement.crosses, sendable) depth 60 fits 20000

method : IsSync (Method.the_row u8 u16)
method = search (statement_sync, word.the_field_sync, block.the_field_sync, crosses, sendable) depth 60 fits 20000

program_field : IsSync (Program.the_field u8 u16).row
program_field = search (method, crosses, sendable) depth 60 fits 20000

flat_expression : IsSync FlatExpression.the_row
flat_expression = search (operand.the_field_sync, part.the_field_sync, crosses, sendable) depth 60 fits 20000

flat_expression_field : IsSync FlatExpression.the_field.row
flat_expression_field = search (operand.the_field_sync, part.the_field_sync, crosses, sendable) depth 60 fits 20000

operation : IsSync Operation.the_row
operation = search (flat_expression, flat_expression_field, place.the_field_sync, crosses, sendable) depth 60 fits 20000

flat_field : IsSync FlatProgram.the_field.row
flat_field = search (operation, place.the_sync, crosses, sendable) depth 60 fits 20000

checked : IsSync Checked.the_row
checked = view_sync Inside.the_row _ _ _ _ (recorded_sync Inside.the_field.row _ _ Inside.the_type.to_one (struct_sync (shape Inside.the_type) (program_field, (flat_field, tt))))

work_field : IsSync Work.the_field.row
work_field = search (checked, sequence.the_sync, state.the_sync, tx.the_sync, sendable) depth 60 fits 20000

pub tables : IsSync Tables.the_row
tables = recorded_sync Tables.the_field.row _ _ Tables.the_type.to_one (struct_sync (shape Tables.the_type) (work_field, (opening.the_field_sync, tt)))
