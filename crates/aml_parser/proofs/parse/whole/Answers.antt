use Rattle.std.proofs.Common.{◌≡◌, map}
use Rattle.aml_tree.specs.Tree.{method_tree}
use Rattle.aml_parser.proofs.Ends.{read_fault, read_whole, same_fault}
use Rattle.aml_parser.proofs.parse.whole.Goals as goal

pub returns-in-Some-clause-fault : goal.returns-in-Some-clause-fault
returns-in-Some-clause-fault c fault is =
    let same : c.fault_of.result ≡ fault = cc in
    same_fault c.args.text.now c.fault_of.result fault same
    (read_fault c.args.text.now (map method_tree c.args.methods.items) c.args.piece c.in-Some.at c.in-Some.cause c.fault_of.result c.requires.read c.requires.piece c.in-Some.is c.fault_of.ensures)

pub returns-in-None-clause-found : goal.returns-in-None-clause-found
returns-in-None-clause-found c = rw c.from_vec.ensures (read_whole c.args.text.now (map method_tree c.args.methods.items) c.args.piece c.requires.read c.requires.piece c.in-None.is)
