use Rattle.std.proofs.Common.{◌≡◌, ◌++◌, replicate}
use Rattle.audit_tale.specs.declared.tales.Owner.TheVariants as owners
use Rattle.audit_tale.proofs.telling.add_pacts.Given as goal

abbrev pub invariant-loop-pact : goal.invariant-loop-pact
invariant-loop-pact l = l.drawn.items ≡ l.initial.drawn.items ++ replicate l._pact (owners.Pact l.k)
