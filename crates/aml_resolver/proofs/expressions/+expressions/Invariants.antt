use Rattle.std.proofs.Common.{◌≡◌, [], take}
use Rattle.aml_tree.specs.Tree.{link_trees}
use Rattle.aml_resolver.specs.Resolving.{links_faults, checked_links}
use Rattle.aml_resolver.proofs.expressions.+expressions.Given as goal

abbrev pub invariant-links-loop-link : goal.invariant-links-loop-link
invariant-links-loop-link l = record {
  faultless : links_faults l.names (link_trees (take l.link-index l.rest)) ≡ [];
  resolved : link_trees l.joined.items ≡ checked_links l.names (link_trees (take l.link-index l.rest));
}
