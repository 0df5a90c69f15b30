use Rattle.std.proofs.Common.{◌≡◌, take}
use Rattle.aml_tree.specs.Tree.{link_trees}
use Rattle.aml_print.specs.Printing.{after, links_spelling}
use Rattle.aml_print.proofs.expressions.+writing_expressions.Given as goal

abbrev pub invariant-write_links-loop-link : goal.invariant-write_links-loop-link
invariant-write_links-loop-link l = l.writer ≡ after l.initial.writer (links_spelling (link_trees (take l.link-index l.rest)))
