use Rattle.std.proofs.Common.{◌≡◌, sym, ◌∙◌, subst, []}
use Rattle.log_compact.specs.Finding.{lists_at, IsHeadIn}
use Rattle.log_compact.proofs.founds.head_at.Goals as goal

pub returns-in-Some : goal.returns-in-Some
returns-in-Some c =
    let at : lists_at c.args.lists.now c.args.device ≡ c.in-Some.records.now = sym (c.in-Some.ensures.lookup.3.1 []) in
    subst (λ z. IsHeadIn c.args.device z c.head_of.result) (c.as_slice.ensures ∙ sym at) c.head_of.ensures
