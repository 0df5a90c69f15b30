use Rattle.std.proofs.Common.{arith, None, ap, sym, ◌∙◌, ◌-◌}
use Rattle.std.specs.Prelude.{slice_set}
use Rattle.snap_base.proofs.Lists.{set_outside}
use Rattle.protocol.specs.Parts.{Pact}
use Rattle.batch_table.specs.Joining.{pact_tids, first_or_zero}
use Rattle.batch_table.proofs.EndedPacts.{below_without, without_noted, noted_at}
use Rattle.batch_table.proofs.pacts.note_end.Goals as goal

pub returns-then-tid-first : goal.returns-then-tid-first
returns-then-tid-first c =
    let ps = c.args.pacts.now in
    sym (without_noted c.args.tid.0 c.args.r ps (below_without c.args.tid.0 (first_or_zero (pact_tids ps)) ps c.requires (omega (arith, c.first_tid-first.ensures, c.if-tid-first.true))))

pub returns-then-place-pacts : goal.returns-then-place-pacts
returns-then-place-pacts c =
    let ps = c.args.pacts.now in
    let i = c.args.tid.0 - c.first_tid-first.result in
    ap (λ (x : Pact). slice_set ps i x) c.end.ensures
    ∙ sym (noted_at c.args.tid.0 (first_or_zero (pact_tids ps)) i c.args.r c.index-pacts-place.result ps c.requires (omega (arith, c.first_tid-first.ensures, c.if-tid-first.false)))

pub returns-else-place-pacts : goal.returns-else-place-pacts
returns-else-place-pacts c =
    let ps = c.args.pacts.now in
    let i = c.args.tid.0 - c.first_tid-first.result in
    let d : Pact = record { tid = 0; tx = 0; result = None } in
    sym (noted_at c.args.tid.0 (first_or_zero (pact_tids ps)) i c.args.r d ps c.requires (omega (arith, c.first_tid-first.ensures, c.if-tid-first.false))
    ∙ set_outside ps i _ c.if-place-pacts.false)
