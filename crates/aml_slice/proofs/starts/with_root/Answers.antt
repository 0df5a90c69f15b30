use Rattle.std.proofs.Common.{[], sym, ap, ◌∙◌}
use Rattle.aml_check.specs.Meaning.{admitted}
use Rattle.aml_slice.proofs.Beginnings.{nothing_taken}
use Rattle.aml_slice.proofs.Roots.{root_admitted}
use Rattle.aml_slice.proofs.starts.with_root.Goals as goal

pub unreachable-requires : goal.unreachable-requires
unreachable-requires c =
    root_admitted c.requires.0 c.requires.1 [] c.args.tx.now c.in-Err._code c.requires.2
    (ap (admitted c.args.tx.now.actor.0) (sym (nothing_taken c.in_ok-allowance.allowance c.args.tx.now [] c.in_ok-allowance.ensures.none.0 c.in_ok-allowance.ensures.none.1 c.in_ok-allowance.ensures.left)) ∙ c.in-Err.ensures.moves 0 [])

pub returns-clause-admitted : goal.returns-clause-admitted
returns-clause-admitted c w =
    ap (admitted c.args.tx.now.actor.0) (sym (nothing_taken c.in_ok-allowance.allowance c.args.tx.now w c.in_ok-allowance.ensures.none.0 c.in_ok-allowance.ensures.none.1 c.in_ok-allowance.ensures.left)) ∙ c.in-Ok.ensures.moves 0 w
