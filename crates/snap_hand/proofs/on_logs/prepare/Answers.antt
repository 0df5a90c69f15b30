use Rattle.std.proofs.Common.{◌≡◌, ◌%◌, Some, [], ◌∷◌, slice_get, refl, sym, ap, subst, ◌∙◌}
use Rattle.core_rows.specs.Showing.{ShowsBook, ShowsCell, ShowsLogAt}
use Rattle.core_rows.specs.log_set.Logs.{LogList}
use Rattle.protocol.specs.Effects.{after, added, cell_at, log_at}
use Rattle.protocol.specs.Events.{Prepare}
use Rattle.protocol.specs.Records.{ActPrepare}
use Rattle.protocol_laws.specs.Ranges.{NumbersInRange}
use Rattle.snap_hand.specs.Tables.{fixed_of, text_of}
use Rattle.snap_hand.proofs.Held.{book_there, cell_there}
use Rattle.snap_hand.proofs.LogSteps.{log_shown, on_book_and_log}
use Rattle.snap_hand.proofs.Nowhere.{below, not_an_actor, prepares_somewhere, refuses}
use Rattle.snap_hand.proofs.Stepping.{of_run}
use Rattle.snap_hand.proofs.InBoxes.{lent, lent_log}
use Rattle.snap_hand.proofs.on_logs.prepare.Goals as goal
use Rattle.snap_hand.proofs.Begins.{log_is_there}

pub book-requires : goal.book-requires
book-requires c = book_there c.args.hand.now c.requires.asked.parts.0

pub returns-then-not-has_actor : goal.returns-then-not-has_actor
returns-then-not-has_actor c = (
  (
    refuses (fixed_of c.args.tables.now) (Prepare c.args.t.0 c.args.a.0) c.args.hand.now c.prepare_refusal-rule.result c.requires.asked.some (λ s r f. c.prepare_refusal-rule.ensures (fixed_of c.args.tables.now) s r (f.book _ c.book.ensures))
        (λ s z. (c.allowed_or_refused.ensures (fixed_of c.args.tables.now) (Prepare c.args.t.0 c.args.a.0) s).0 z)
        (λ s r ok. not_an_actor (fixed_of c.args.tables.now) c.args.hand.now c.args.a.0 c.has_actor.result c.requires.asked.places c.has_actor.ensures c.if-not-has_actor.true (prepares_somewhere (fixed_of c.args.tables.now) s c.args.t.0 c.args.a.0 (subst (NumbersInRange (fixed_of c.args.tables.now)) (sym r.is_reached) (c.numbers_are_in_range.ensures (fixed_of c.args.tables.now) r.events r.text r.run)) ok)),
    λ s r f. c.prepare_refusal-rule.ensures (fixed_of c.args.tables.now) s r (f.book _ c.book.ensures),
  ),
  refl,
)

pub take_book-book-requires : goal.take_book-book-requires
take_book-book-requires c = book_there c.args.hand.now c.requires.asked.parts.0

pub take_log-log-requires : goal.take_log-log-requires
take_log-log-requires c = subst (λ z. (x : LogList) × (slice_get z.logs c.log_of-place.result ≡ Some (Some x))) (sym c.take_book-book.ensures.taken) (log_is_there (fixed_of c.args.tables.now) c.args.hand.now c.args.a.0 c.log_of-place.result c.requires.tables.accepted c.requires.asked.places c.log_of-place.ensures c.requires.asked.parts.1.0)

pub cell-requires : goal.cell-requires
cell-requires c = let d = cell_there c.args.hand.now (text_of c.args.tables.now).logs c.args.a.0 c.requires.asked.places.logs c.requires.asked.parts.1.1.0 (below c.args.a.0 _ c.has_actor.result c.has_actor.ensures c.if-not-has_actor.false) in (d.0, ap (λ z. slice_get z.cells c.args.a.0) c.take_log-log.ensures.taken ∙ (ap (λ z. slice_get z.cells c.args.a.0) c.take_book-book.ensures.taken ∙ d.1))

pub prepare-step-requires : goal.prepare-step-requires
prepare-step-requires c = of_run (fixed_of c.args.tables.now) c.args.hand.now _ (λ s f. (f.book _ (lent _ _ _ c.take_book-book.ensures.there c.deref_mut.ensures.value), log_shown c.args.hand.now s f c.log_of-place.result _ c.log_of-place.ensures c.deref_mut-2.result.now (sym (ap (λ z. slice_get z.logs c.log_of-place.result) c.take_book-book.ensures.taken) ∙ (lent_log _ _ _ c.take_log-log.ensures.there c.deref_mut-2.ensures.value)), f.cells c.args.a.0 _ (sym (ap (λ z. slice_get z.cells c.args.a.0) c.take_book-book.ensures.taken) ∙ (sym (ap (λ z. slice_get z.cells c.args.a.0) c.take_log-log.ensures.taken) ∙ c.cell.ensures)))) c.requires.asked.some

pub returns : goal.returns
unfolding after
returns c = on_book_and_log (fixed_of c.args.tables.now) (Prepare c.args.t.0 c.args.a.0) c.args.hand.now c.take_book-book.new.self c.take_log-log.new.self c.put_book.new.self c.put_log.new.self c.args.a.0 c.log_of-place.result c.deref_mut.result.now c.prepare-step.new.book c.deref_mut-2.result.now c.prepare-step.new.log (λ s. added (ActPrepare c.args.t.0 c.args.a.0 (cell_at s c.args.a.0).state ∷ []) (log_at s (c.args.a.0 % (text_of c.args.tables.now).logs)))
    (λ w s. ShowsBook c.deref_mut.result.now s × ShowsLogAt (c.args.a.0 % w.text.logs) c.deref_mut-2.result.now s × ShowsCell c.args.a.0 c.cell.result.now s)
    (λ w s. ShowsBook c.prepare-step.new.book s × ShowsLogAt (c.args.a.0 % w.text.logs) c.prepare-step.new.log s × ShowsCell c.args.a.0 c.cell.result.now s)
    c.prepare-step.result (λ s. refl) c.requires.asked.places refl c.log_of-place.ensures (lent _ _ _ c.take_book-book.ensures.there c.deref_mut.ensures.value) c.take_book-book.ensures.taken (lent_log _ _ _ c.take_log-log.ensures.there c.deref_mut-2.ensures.value) c.take_log-log.ensures.taken c.put_book.ensures c.put_log.ensures
    (λ s f. (f.book _ (lent _ _ _ c.take_book-book.ensures.there c.deref_mut.ensures.value), log_shown c.args.hand.now s f c.log_of-place.result _ c.log_of-place.ensures c.deref_mut-2.result.now (sym (ap (λ z. slice_get z.logs c.log_of-place.result) c.take_book-book.ensures.taken) ∙ (lent_log _ _ _ c.take_log-log.ensures.there c.deref_mut-2.ensures.value)), f.cells c.args.a.0 _ (sym (ap (λ z. slice_get z.cells c.args.a.0) c.take_book-book.ensures.taken) ∙ (sym (ap (λ z. slice_get z.cells c.args.a.0) c.take_log-log.ensures.taken) ∙ c.cell.ensures)))) (λ s g. (g.0, g.1)) c.prepare-step.ensures.ok c.prepare-step.ensures.room c.prepare-step.ensures.no c.prepare-step.ensures.book c.prepare-step.ensures.log
