use Rattle.std.proofs.Common.{◌≡◌, length, arith, rules, inl, inr}
use Rattle.trace_audit.proofs.Evidences.{fall_is, no_fall}
use Rattle.trace_audit.proofs.evidence.fall_of.Goals as goal
use Rattle.trace_audit.proofs.evidence.fall_of.Goals.{then-k-eq0-via-then-k-eq0, then-k-eq0-via-else-k-eq0+then-k-len}

pub returns-then-k-eq0 : goal.returns-then-k-eq0
returns-then-k-eq0 c w s sound h =
    elim c.then-k-eq0.branch [
      | then-k-eq0-via-then-k-eq0 x ↦ no_fall w c.args.told.now s c.args.k.0 sound.drawn h.stands (inl x.if-k-eq0.true)
      | then-k-eq0-via-else-k-eq0+then-k-len x ↦ let many : x.len.result ≡ length c.args.told.now.ways.items = search rules in no_fall w c.args.told.now s c.args.k.0 sound.drawn h.stands (inr (omega (arith, many, x.if-k-len.true)))
    ]

pub returns : goal.returns
returns c w s sound h =
    let many : c.len.result ≡ length c.args.told.now.ways.items = search rules in
    fall_is w c.args.told.now s c.args.k.0 _ c.index.result.now h.stands (omega (arith, c.if-k-eq0.false)) (omega (arith, many, c.if-k-eq0.false, c.if-k-len.false)) c.index.ensures
