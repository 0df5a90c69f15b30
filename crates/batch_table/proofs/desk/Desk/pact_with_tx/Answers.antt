use Rattle.std.proofs.Common.{◌≡◌, Option, List, length, refl, ap, sym, subst, ◌∙◌}
use Rattle.std.specs.Prelude.{slice_get}
use Rattle.std.specs.Option.{option_and_then}
use Rattle.std.proofs.lemmas.Option.{slice_get_read, slice_get_past}
use Rattle.protocol.specs.Parts.{Batch, Desk}
use Rattle.protocol.specs.Verdicts.{verdict_of_pact}
use Rattle.batch_table.specs.declared.spots.Spot.{Spot}
use Rattle.batch_table.specs.Found.{Found, found_if, pact_with_tx, verdict_found}
use Rattle.batch_table.proofs.BySpot.{found_at_spot, found_nowhere, verdict_is}
use Rattle.batch_table.proofs.desk.Desk.pact_with_tx.Goals as goal

pub returns-in-Some-clause-found : goal.returns-in-Some-clause-found
returns-in-Some-clause-found c =
    let i = c.self.inside in
    let n = c.args.tx.0 in
    let sp = c.in-Some.spot.now in
    let there = slice_get_read c.deref.result.now (length c.deref.result.now) n sp refl c.in-Some.ensures.lookup.3.0 c.in-Some.ensures.lookup.1 in
    c.found_at.ensures
    ∙ (ap (λ (bs : List Batch). option_and_then (λ (b : Batch). found_if n b (slice_get b.pacts sp.place)) (slice_get bs sp.batch)) c.as_slice.ensures.value
    ∙ (sym (found_at_spot n sp i.spots.items i.batches.items c.self.invariant.spotted (ap (λ (xs : List Spot). slice_get xs n) (sym c.deref.ensures.value) ∙ there))
    ∙ ap (λ (d : Desk). pact_with_tx n d.batches) c.self.view_is))

pub returns-in-Some-clause-verdict : goal.returns-in-Some-clause-verdict
returns-in-Some-clause-verdict c = λ cascades.
    let i = c.self.inside in
    let n = c.args.tx.0 in
    subst (λ (d : Desk). verdict_of_pact cascades n d.batches ≡ verdict_found cascades n (pact_with_tx n d.batches)) c.self.view_is (verdict_is cascades n 0 i.spots.items i.batches.items c.self.invariant.spotted)
    ∙ ap (λ (o : Option Found). verdict_found cascades n o) (sym (returns-in-Some-clause-found c))

pub returns-in-None-clause-found : goal.returns-in-None-clause-found
returns-in-None-clause-found c =
    let i = c.self.inside in
    let n = c.args.tx.0 in
    sym (sym (ap (λ (d : Desk). pact_with_tx n d.batches) c.self.view_is)
    ∙ found_nowhere n 0 i.spots.items i.batches.items c.self.invariant.spotted (ap (λ (xs : List Spot). slice_get xs n) (sym c.deref.ensures.value) ∙ slice_get_past c.deref.result.now n c.in-None.ensures.lookup.3))

pub returns-in-None-clause-verdict : goal.returns-in-None-clause-verdict
returns-in-None-clause-verdict c = λ cascades.
    let i = c.self.inside in
    let n = c.args.tx.0 in
    subst (λ (d : Desk). verdict_of_pact cascades n d.batches ≡ verdict_found cascades n (pact_with_tx n d.batches)) c.self.view_is (verdict_is cascades n 0 i.spots.items i.batches.items c.self.invariant.spotted)
    ∙ ap (λ (o : Option Found). verdict_found cascades n o) (sym (returns-in-None-clause-found c))
