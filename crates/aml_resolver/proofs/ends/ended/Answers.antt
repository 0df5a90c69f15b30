use Rattle.std.proofs.Common.{◌≡◌, Bool, false, if◌then◌else◌, [], ◌∷◌, sym, ap, ◌∙◌}
use Rattle.aml_tree.specs.Tree.{block_tree}
use Rattle.aml_resolver.specs.declared.faults.CheckCause.TheVariants.{NoReturn}
use Rattle.aml_check.specs.Closed.{ends}
use Rattle.aml_resolver.specs.Faults.{last_line}
use Rattle.aml_resolver.proofs.Endings.{line_last}
use Rattle.aml_resolver.proofs.ends.ended.Goals as goal

pub returns-else-ends : goal.returns-else-ends
returns-else-ends c =
    let b = block_tree c.args.code.now in
    let open_end : ends b ≡ false = sym c.ends.ensures ∙ c.if-ends.false in (
      [],
      ap (λ (t : Bool). if t then [] else record { line = last_line b; cause = NoReturn } ∷ []) open_end
          ∙ ap (λ n. record { line = n; cause = NoReturn } ∷ []) (line_last c.args.code.now.statements.items c.args.code.now.last_line),
    )
