use Rattle.std.proofs.Common.{◌≡◌, List, Option, ap, inl, inr, ◌∙◌}
use Rattle.std.specs.Prelude.{◌⊎◌, slice_get}
use Rattle.std.proofs.lemmas.Bool.{MatchBool-at_false}
use Rattle.snap_base.specs.declared.ids.Bid.{Bid}
use Rattle.audit_words.specs.Clauses.{IsTakenPact}
use Rattle.trace_audit.specs.ByTransaction.{is_noted}
use Rattle.trace_audit.proofs.Evidences.{along_as_act}
use Rattle.trace_audit.proofs.evidence.is_taken_along.Goals as goal
use Rattle.trace_audit.proofs.evidence.is_taken_along.Goals.{else-n-failed-via-then-n-failed+else-is_taken_pact, else-n-failed-via-else-n-failed}

pub returns : goal.returns
returns c w s ls sound h codes =
    let not_so : (c.args.n.0 ≡ c.args.failed.0) ⊎ (¬ IsTakenPact s c.args.n.0 c.args.k.0) =
    elim c.else-n-failed.branch [
      | else-n-failed-via-then-n-failed+else-is_taken_pact x ↦ inr (MatchBool-at_false _ _ x.if-is_taken_pact.false (x.is_taken_pact.ensures w s sound h))
      | else-n-failed-via-else-n-failed x ↦ inl x.if-n-failed.false
    ] in
    along_as_act s ls c.args.by.now.codes.items c.args.n.0 c.args.k.0 c.args.failed.0 c.tells_code.result c.is_given_up.result codes
    (c.tells_code.ensures ∙ ap (λ (z : List (Option Bid)). is_noted c.args.k.0 (slice_get z c.args.failed.0)) c.as_slice.ensures.value) c.if-not-tells_code.false not_so (c.is_given_up.ensures w s h)
