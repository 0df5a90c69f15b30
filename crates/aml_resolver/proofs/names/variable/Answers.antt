use Rattle.std.proofs.Common.{[]}
use Rattle.aml_resolver.proofs.Lookup.{unknown-found, unknown-none, placed-found}
use Rattle.aml_resolver.proofs.names.variable.Goals as goal

pub returns-in-Some : goal.returns-in-Some
returns-in-Some c =
    let here = rw c.as_slice.ensures at c.in-Some.ensures.place in
    (unknown-found c.args.names.now c.args.word.now c.in-Some.place here, placed-found c.args.names.now c.args.word.now c.in-Some.place here)

pub returns-in-None : goal.returns-in-None
returns-in-None c =
    let here = rw c.as_slice.ensures at c.in-None.ensures.place in
    rw c.fault_at.ensures ([], unknown-none c.args.names.now c.args.word.now here)
