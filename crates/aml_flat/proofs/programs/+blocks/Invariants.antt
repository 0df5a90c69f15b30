use Rattle.std.proofs.Common.{take, map}
use Rattle.aml_tree.specs.Tree.{statement_tree}
use Rattle.aml_flat.specs.Flat.{Extends, SayStatements}
use Rattle.aml_flat.proofs.programs.+blocks.Given as goal

abbrev pub invariant-block-loop-at : goal.invariant-block-loop-at
invariant-block-loop-at l = record {
  more : Extends l.fn.operations.items l.operations.items;
  says : SayStatements l.operations.items 0 l.row.items (map statement_tree (take l.at l.code.statements.items));
}
