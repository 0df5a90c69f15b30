use Rattle.std.proofs.Common.{◌≡◌, ◌%◌, Some, slice_get, refl, sym, ap, subst, ◌∙◌}
use Rattle.core_rows.specs.Showing.{ShowsBook, ShowsDesk, ShowsLogAt}
use Rattle.core_rows.specs.log_set.Logs.{LogList}
use Rattle.protocol.specs.Effects.{after, added, act_commit, log_at}
use Rattle.protocol.specs.Events.{Decide}
use Rattle.protocol.specs.Fixed.{base}
use Rattle.protocol.specs.Words.{act_of}
use Rattle.snap_hand.specs.Tables.{fixed_of, text_of}
use Rattle.snap_hand.proofs.Held.{book_there, desk_there}
use Rattle.snap_hand.proofs.LogSteps.{log_shown, on_book_and_log}
use Rattle.snap_hand.proofs.Stepping.{of_run}
use Rattle.snap_hand.proofs.InBoxes.{lent, lent_log}
use Rattle.snap_hand.proofs.on_logs.decide.Goals as goal
use Rattle.snap_hand.proofs.Begins.{log_is_there}

pub take_book-book-requires : goal.take_book-book-requires
take_book-book-requires c = book_there c.args.hand.now c.requires.asked.parts.0

pub take_log-log-requires : goal.take_log-log-requires
take_log-log-requires c = subst (λ z. (x : LogList) × (slice_get z.logs c.log_of-place.result ≡ Some (Some x))) (sym c.take_book-book.ensures.taken) (log_is_there (fixed_of c.args.tables.now) c.args.hand.now c.args.t.0 c.log_of-place.result c.requires.tables.accepted c.requires.asked.places c.log_of-place.ensures c.requires.asked.parts.1.1.0)

pub desk-requires : goal.desk-requires
desk-requires c = let d = desk_there c.args.hand.now c.requires.asked.parts.1.0 in (d.0, ap (λ z. z.desk) c.take_log-log.ensures.taken ∙ (ap (λ z. z.desk) c.take_book-book.ensures.taken ∙ d.1))

pub decide-step-requires : goal.decide-step-requires
decide-step-requires c = of_run (fixed_of c.args.tables.now) c.args.hand.now _ (λ s f. (c.base-first.ensures, f.book _ (lent _ _ _ c.take_book-book.ensures.there c.deref_mut.ensures.value), f.desk _ (sym (ap (λ z. z.desk) c.take_book-book.ensures.taken) ∙ (sym (ap (λ z. z.desk) c.take_log-log.ensures.taken) ∙ c.desk.ensures)), log_shown c.args.hand.now s f c.log_of-place.result _ c.log_of-place.ensures c.deref_mut-2.result.now (sym (ap (λ z. slice_get z.logs c.log_of-place.result) c.take_book-book.ensures.taken) ∙ (lent_log _ _ _ c.take_log-log.ensures.there c.deref_mut-2.ensures.value)))) c.requires.asked.some

pub returns : goal.returns
unfolding after
returns c = on_book_and_log (fixed_of c.args.tables.now) (Decide c.args.t.0) c.args.hand.now c.take_book-book.new.self c.take_log-log.new.self c.put_book.new.self c.put_log.new.self c.args.t.0 c.log_of-place.result c.deref_mut.result.now c.decide-step.new.book c.deref_mut-2.result.now c.decide-step.new.log (λ s. added (act_commit s.book.next_c (act_of c.args.t.0 s.book.acts)) (log_at s (c.args.t.0 % (text_of c.args.tables.now).logs)))
    (λ w s. (base w.text ≡ c.base-first.result.0) × ShowsBook c.deref_mut.result.now s × ShowsDesk c.desk.result.now s × ShowsLogAt (c.args.t.0 % w.text.logs) c.deref_mut-2.result.now s)
    (λ w s. ShowsBook c.decide-step.new.book s × ShowsDesk c.desk.result.now s × ShowsLogAt (c.args.t.0 % w.text.logs) c.decide-step.new.log s)
    c.decide-step.result (λ s. refl) c.requires.asked.places refl c.log_of-place.ensures (lent _ _ _ c.take_book-book.ensures.there c.deref_mut.ensures.value) c.take_book-book.ensures.taken (lent_log _ _ _ c.take_log-log.ensures.there c.deref_mut-2.ensures.value) c.take_log-log.ensures.taken c.put_book.ensures c.put_log.ensures
    (λ s f. (c.base-first.ensures, f.book _ (lent _ _ _ c.take_book-book.ensures.there c.deref_mut.ensures.value), f.desk _ (sym (ap (λ z. z.desk) c.take_book-book.ensures.taken) ∙ (sym (ap (λ z. z.desk) c.take_log-log.ensures.taken) ∙ c.desk.ensures)), log_shown c.args.hand.now s f c.log_of-place.result _ c.log_of-place.ensures c.deref_mut-2.result.now (sym (ap (λ z. slice_get z.logs c.log_of-place.result) c.take_book-book.ensures.taken) ∙ (lent_log _ _ _ c.take_log-log.ensures.there c.deref_mut-2.ensures.value)))) (λ s g. (g.0, g.2)) c.decide-step.ensures.ok c.decide-step.ensures.room c.decide-step.ensures.no c.decide-step.ensures.book c.decide-step.ensures.log
