use Rattle.std.proofs.Common.{◌≡◌, sym, ap, ◌∙◌}
use Rattle.std.specs.Prelude.{is_some}
use Rattle.protocol.specs.Words.{is_aborted}
use Rattle.abort_cascade.proofs.Covering.{aborted_found, copied_some}
use Rattle.abort_cascade.proofs.cascades.Cascades.is_aborted.Goals as goal

pub returns : goal.returns
returns c =
    let same : c.as_slice.result.now ≡ c.args.self.now.list = c.as_slice.ensures.value ∙ ap (λ s. s.list) c.self.view_is in
    c.is_some.ensures ∙ (copied_some c.covering.result ∙ (ap is_some c.covering.ensures ∙ (sym (aborted_found c.args.bid.0 c.as_slice.result.now) ∙ ap (is_aborted c.args.bid.0) same)))
