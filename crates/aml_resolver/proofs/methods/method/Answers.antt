use Rattle.std.proofs.Common.{map, ◌++◌, []}
use Rattle.std.proofs.lemmas.Result.{err_from_is_err_and}
use Rattle.aml_tree.specs.Tree.{block_tree, method_tree}
use Rattle.aml_resolver.specs.Names.{names_of}
use Rattle.aml_resolver.specs.Faults.{duplicate, repeated, block_faults, end_faults}
use Rattle.aml_resolver.proofs.Chains.{refuses_more, refuses_behind}
use Rattle.aml_resolver.proofs.methods.method.Goals as goal

pub returns-in_err-new_name : goal.returns-in_err-new_name
returns-in_err-new_name c =
    let p = err_from_is_err_and c.from_residual.result c.from_residual.ensures.1 in
    rw (p.1, p.2) (refuses_more (duplicate c.args.before.now c.args.one.now.name) ((repeated [] c.args.one.now.parameters) ++ ((block_faults (map method_tree c.args.methods.now) c.args.one.now.is_read (names_of c.args.one.now.parameters) (block_tree c.args.one.now.body)) ++ (end_faults (block_tree c.args.one.now.body)))) c.in_err-new_name.field-0.0 c.in_err-new_name.ensures)

pub returns-in_err-names : goal.returns-in_err-names
returns-in_err-names c =
    let p = err_from_is_err_and c.from_residual-in_err-names.result c.from_residual-in_err-names.ensures.1 in
    rw (p.1, p.2) (refuses_behind (duplicate c.args.before.now c.args.one.now.name) ((repeated [] c.args.one.now.parameters) ++ ((block_faults (map method_tree c.args.methods.now) c.args.one.now.is_read (names_of c.args.one.now.parameters) (block_tree c.args.one.now.body)) ++ (end_faults (block_tree c.args.one.now.body)))) c.in_err-names.field-0.0 c.in_ok-new_name.ensures (refuses_more (repeated [] c.args.one.now.parameters) ((block_faults (map method_tree c.args.methods.now) c.args.one.now.is_read (names_of c.args.one.now.parameters) (block_tree c.args.one.now.body)) ++ (end_faults (block_tree c.args.one.now.body))) c.in_err-names.field-0.0 (rw c.as_slice.ensures at c.in_err-names.ensures)))

pub returns-in_err-body : goal.returns-in_err-body
returns-in_err-body c =
    let p = err_from_is_err_and c.from_residual-in_err-body.result c.from_residual-in_err-body.ensures.1 in
    rw (p.1, p.2) (refuses_behind (duplicate c.args.before.now c.args.one.now.name) ((repeated [] c.args.one.now.parameters) ++ ((block_faults (map method_tree c.args.methods.now) c.args.one.now.is_read (names_of c.args.one.now.parameters) (block_tree c.args.one.now.body)) ++ (end_faults (block_tree c.args.one.now.body)))) c.in_err-body.field-0.0 c.in_ok-new_name.ensures (refuses_behind (repeated [] c.args.one.now.parameters) ((block_faults (map method_tree c.args.methods.now) c.args.one.now.is_read (names_of c.args.one.now.parameters) (block_tree c.args.one.now.body)) ++ (end_faults (block_tree c.args.one.now.body))) c.in_err-body.field-0.0 (rw c.as_slice.ensures at c.in_ok-names.ensures).0 (refuses_more (block_faults (map method_tree c.args.methods.now) c.args.one.now.is_read (names_of c.args.one.now.parameters) (block_tree c.args.one.now.body)) (end_faults (block_tree c.args.one.now.body)) c.in_err-body.field-0.0 (rw ((rw c.as_slice.ensures at c.in_ok-names.ensures).1) at c.in_err-body.ensures.resolved))))
