use Rattle.std.proofs.Common.{◌≡◌, ◌<◌, ◌≤◌, List, [], length, map, get_or, sym, ap, ◌∙◌, subst, arith}
use Rattle.std.proofs.lemmas.List.{take_all, drop_all, length-map}
use Rattle.aml_tokens.specs.declared.tokens.Word.{Word}
use Rattle.aml_tree.specs.declared.trees.Method.{Method}
use Rattle.aml_tree.specs.Tree.{method_tree, program_tree}
use Rattle.aml_check.specs.Names.{method_names}
use Rattle.aml_resolver.specs.Names.{checked_method}
use Rattle.aml_resolver.specs.Faults.{faults_behind, program_faults}
use Rattle.aml_check.specs.Closed.{IsClosedProgram}
use Rattle.aml_resolver.proofs.ClosedPrograms.{closed_program, method_count, room_at}
use Rattle.aml_resolver.proofs.checks.check.Goals as goal

pub method-requires-clause-few : goal.method-requires-clause-few
method-requires-clause-few c =
    let ms = c.args.program.methods in
    rw c.as_slice.ensures (omega (arith, method_count 0 (program_tree c.args.program) (omega arith) c.requires.limits, length-map ms (method_tree {V = Word} {M = Word})))

pub method-requires-clause-room : goal.method-requires-clause-room
method-requires-clause-room c =
    let ms = c.args.program.methods in
    let h : c.loop-one.one-index < length ms = rw c.as_slice-one-items.ensures at c.loop-one-test.true in
    let is : c.one-item.result ≡ get_or ms c.loop-one.one-index c.one-item.result = rw c.as_slice-one-items.ensures at c.one-item.is in
    room_at ms 0 c.loop-one.one-index c.one-item.result c.requires.limits h is

pub of-requires : goal.of-requires
of-requires c =
    let p = program_tree c.args.program in
    let ms = c.args.program.methods in
    let past : length ms ≤ c.loop-one.one-index = rw c.as_slice-one-items.ensures at c.loop-one-test.false in
    let none : program_faults p ≡ [] = sym c.loop-one.invariant.faultless ∙ ap (λ (ns : List (Method Word Word)). faults_behind p c.loop-one.names.items (map method_tree ns)) (drop_all c.loop-one.one-index ms past) in
    subst IsClosedProgram (sym (c.loop-one.invariant.resolved ∙ ap (λ (ns : List (Method Word Word)). map (checked_method (method_names p)) (map method_tree ns)) (take_all c.loop-one.one-index ms past))) (closed_program p c.requires none)
