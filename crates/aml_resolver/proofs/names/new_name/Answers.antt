use Rattle.std.proofs.Common.{[]}
use Rattle.aml_resolver.proofs.Lookup.{duplicate-found, duplicate-none}
use Rattle.aml_resolver.proofs.names.new_name.Goals as goal

pub returns-in-Some : goal.returns-in-Some
returns-in-Some c =
    let here = rw c.as_slice.ensures at c.in-Some.ensures.place in
    rw c.fault_at.ensures ([], duplicate-found c.args.names.now c.args.word.now c.in-Some.field-0 here)

pub returns-in-None : goal.returns-in-None
returns-in-None c = duplicate-none c.args.names.now c.args.word.now (rw c.as_slice.ensures at c.in-None.ensures.place)
