use Rattle.std.proofs.Common.{take}
use Rattle.aml_tree.specs.Tree.{link_trees}
use Rattle.aml_flat.specs.Flat.{MakesChain}
use Rattle.aml_flat.proofs.expressions.+parts.Given as goal

abbrev pub invariant-put_links-loop-link : goal.invariant-put_links-loop-link
invariant-put_links-loop-link l = MakesChain l.fn.parts.items l.parts.items (link_trees (take l.link-index l.rest))
