use Rattle.std.proofs.Common.{sym, ap, ◌∙◌, subst}
use Rattle.log_compact.specs.Finding.{lists_at, better, IsFoundSet}
use Rattle.log_compact.proofs.FoundSets.{three_heads}
use Rattle.log_compact.proofs.founds.set_of.Goals as goal

pub returns : goal.returns
returns c =
    subst (IsFoundSet (lists_at c.args.lists.now)) (ap (λ z. better z c.head_at-third.result) (sym c.greater.ensures) ∙ sym c.greater-2.ensures)
    (three_heads (lists_at c.args.lists.now) c.head_at-first.result c.head_at-second.result c.head_at-third.result c.head_at-first.ensures c.head_at-second.ensures c.head_at-third.ensures)
