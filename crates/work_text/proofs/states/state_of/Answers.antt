use Rattle.std.proofs.Common.{length, drop, ap, ◌∙◌, ◌++◌, List}
use Rattle.std.specs.Prelude.{ℤ, pos, replicate}
use Rattle.std.proofs.lemmas.List.{drop-replicate}
use Rattle.snap_base.specs.declared.transactions.State.{State}
use Rattle.work_text.proofs.states.state_of.Goals as goal

pub returns : goal.returns
returns c =
    let fields : List ℤ → State = λ xs. record { 0 = xs } in
    ap fields (ap (λ xs. xs ++ drop (length c.args.values.now) (replicate 16 (pos 0))) c.copy_from_slice.ensures.after ∙ ap (λ ys. c.args.values.now ++ ys) (drop-replicate (length c.args.values.now) 16 (pos 0)))
