use Rattle.std.proofs.Common.{◌≡◌, drop}
use Rattle.aml_tokens.specs.declared.tokens.Word.{Word}
use Rattle.aml_tree.specs.Tree.{Code, statements_tree}
use Rattle.aml_tree.specs.Grammar.{block_spelling}
use Rattle.aml_print.specs.Printing.{after}
use Rattle.aml_print.proofs.blocks.+writing_blocks.Given as goal

abbrev pub invariant-write_block-loop-statement : goal.invariant-write_block-loop-statement
invariant-write_block-loop-statement l =
    (rest : Code Word Word) → after l.initial.writer (block_spelling (statements_tree l.block.statements.items rest)) ≡ after l.writer (block_spelling (statements_tree (drop l.statement-index l.block.statements.items) rest))
