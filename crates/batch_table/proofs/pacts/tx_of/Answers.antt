use Rattle.std.proofs.Common.{◌≡◌, Option, Some, None, arith, ap, sym, ◌∙◌, ◌-◌, length, refl}
use Rattle.std.specs.Prelude.{slice_get}
use Rattle.std.specs.Option.{option_map}
use Rattle.std.proofs.lemmas.Option.{slice_get_read, slice_get_past}
use Rattle.protocol.specs.Parts.{Pact}
use Rattle.batch_table.specs.Joining.{pact_tids, first_or_zero}
use Rattle.batch_table.proofs.EndedPacts.{below_without, without_tx, tx_at}
use Rattle.batch_table.proofs.pacts.tx_of.Goals as goal

pub returns-then-tid-first : goal.returns-then-tid-first
returns-then-tid-first c =
    let ps = c.args.pacts.now in
    sym (without_tx c.args.tid.0 ps (below_without c.args.tid.0 (first_or_zero (pact_tids ps)) ps c.requires (omega (arith, c.first_tid-first.ensures, c.if-tid-first.true))))

pub returns-in-Some : goal.returns-in-Some
returns-in-Some c =
    let ps = c.args.pacts.now in
    let i = c.args.tid.0 - c.first_tid-first.result in
    let g : slice_get ps i ≡ Some c.in-Some.pact.now = slice_get_read ps (length ps) i c.in-Some.pact.now refl c.in-Some.ensures.lookup.3.0 c.in-Some.ensures.lookup.1 in
    ap Some c.tx.ensures
    ∙ sym (tx_at c.args.tid.0 (first_or_zero (pact_tids ps)) i ps c.requires (omega (arith, c.first_tid-first.ensures, c.if-tid-first.false)) ∙ ap (λ (o : Option Pact). option_map (λ (p : Pact). p.tx) o) g)

pub returns-in-None : goal.returns-in-None
returns-in-None c =
    let ps = c.args.pacts.now in
    let i = c.args.tid.0 - c.first_tid-first.result in
    let g : slice_get ps i ≡ None = slice_get_past ps i c.in-None.ensures.lookup.3 in
    sym (tx_at c.args.tid.0 (first_or_zero (pact_tids ps)) i ps c.requires (omega (arith, c.first_tid-first.ensures, c.if-tid-first.false)) ∙ ap (λ (o : Option Pact). option_map (λ (p : Pact). p.tx) o) g)
