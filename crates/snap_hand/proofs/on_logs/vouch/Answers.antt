use Rattle.std.proofs.Common.{◌≡◌, Some, slice_get, refl, sym, subst}
use Rattle.core_rows.specs.log_set.Logs.{LogList}
use Rattle.protocol.specs.Effects.{after}
use Rattle.protocol.specs.Events.{Vouch}
use Rattle.snap_hand.specs.Tables.{fixed_of}
use Rattle.snap_hand.proofs.Held.{book_there}
use Rattle.snap_hand.proofs.LogSteps.{on_book}
use Rattle.snap_hand.proofs.InBoxes.{lent}
use Rattle.snap_hand.proofs.on_logs.vouch.Goals as goal
use Rattle.snap_hand.proofs.Begins.{log_is_there}

pub take_book-book-requires : goal.take_book-book-requires
take_book-book-requires c = book_there c.args.hand.now c.requires.asked.parts.0

pub log-requires : goal.log-requires
log-requires c = subst (λ z. (x : LogList) × (slice_get z.logs c.log_of-place.result ≡ Some (Some x))) (sym c.take_book-book.ensures.taken) (log_is_there (fixed_of c.args.tables.now) c.args.hand.now c.args.a.0 c.log_of-place.result c.requires.tables.accepted c.requires.asked.places c.log_of-place.ensures c.requires.asked.parts.1.0)

pub returns : goal.returns
unfolding after
returns c = on_book (fixed_of c.args.tables.now) (Vouch c.args.t.0 c.args.a.0) c.args.hand.now c.take_book-book.new.self c.put_book.new.self c.args.a.0 c.log_of-place.result c.deref_mut.result.now c.vouch-step.new.book c.log.result.now c.vouch-step.result (λ s. refl) c.requires.asked.places c.log_of-place.ensures (lent _ _ _ c.take_book-book.ensures.there c.deref_mut.ensures.value) c.take_book-book.ensures.taken c.log.ensures c.put_book.ensures c.vouch-step.ensures.ok c.vouch-step.ensures.room c.vouch-step.ensures.no c.vouch-step.ensures.rule c.vouch-step.ensures.unchanged
