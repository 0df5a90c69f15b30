use Rattle.std.proofs.Common.{◌≡◌, Some, sym, ap, ◌∙◌}
use Rattle.core_rows.specs.Showing.{ShowsRing, ShowsBook, ShowsDesk}
use Rattle.protocol.specs.Effects.{after}
use Rattle.protocol.specs.Events.{Abort}
use Rattle.snap_hand.specs.Tables.{fixed_of}
use Rattle.snap_hand.proofs.Held.{book_there, desk_there}
use Rattle.snap_hand.proofs.Refits.{ring_back, book_back, desk_back, hand_with_ring, hand_with_book, hand_with_desk, there_with_ring, there_with_book, there_with_desk}
use Rattle.snap_hand.proofs.Stepping.{of_run, stepped_freely, all_three}
use Rattle.snap_hand.proofs.InBoxes.{lent}
use Rattle.snap_hand.proofs.on_undoing.abort.Goals as goal

pub take_book-book-requires : goal.take_book-book-requires
take_book-book-requires c = let b = book_there c.args.hand.now c.requires.asked.parts.1.0 in (b.0, ap (λ h. h.book) c.take_ring-ring.ensures.taken ∙ b.1)

pub take_desk-desk-requires : goal.take_desk-desk-requires
take_desk-desk-requires c =
    let d = desk_there c.args.hand.now c.requires.asked.parts.1.1.0 in
    (d.0, ap (λ h. h.desk) c.take_book-book.ensures.taken ∙ (ap (λ h. h.desk) c.take_ring-ring.ensures.taken ∙ d.1))

pub abort-step-requires : goal.abort-step-requires
abort-step-requires c =
    let book = sym (ap (λ h. h.book) c.take_ring-ring.ensures.taken) ∙ (lent _ _ _ c.take_book-book.ensures.there c.deref_mut-2.ensures.value) in
    let desk = sym (ap (λ h. h.desk) c.take_book-book.ensures.taken ∙ ap (λ h. h.desk) c.take_ring-ring.ensures.taken) ∙ (lent _ _ _ c.take_desk-desk.ensures.there c.deref_mut-3.ensures.value) in
    of_run (fixed_of c.args._tables.now) c.args.hand.now _ (λ s f. (c.requires.asked.places.room _ book, f.ring _ (lent _ _ _ c.take_ring-ring.ensures.there c.deref_mut.ensures.value), f.book _ book, f.desk _ desk)) c.requires.asked.some

pub returns : goal.returns
unfolding after
returns c =
    let old = c.args.hand.now in
    let w = fixed_of c.args._tables.now in
    let ring = c.abort-step.new.ring in
    let book = c.abort-step.new.book in
    let desk = c.abort-step.new.desk in
    let ring_there = (lent _ _ _ c.take_ring-ring.ensures.there c.deref_mut.ensures.value) in
    let book_was = sym (ap (λ h. h.book) c.take_ring-ring.ensures.taken) ∙ (lent _ _ _ c.take_book-book.ensures.there c.deref_mut-2.ensures.value) in
    let desk_was = sym (ap (λ h. h.desk) c.take_book-book.ensures.taken ∙ ap (λ h. h.desk) c.take_ring-ring.ensures.taken) ∙ (lent _ _ _ c.take_desk-desk.ensures.there c.deref_mut-3.ensures.value) in
    rw (c.put_desk.ensures, c.put_book.ensures, c.put_ring.ensures, c.take_desk-desk.ensures.taken, c.take_book-book.ensures.taken, c.take_ring-ring.ensures.taken) (
    stepped_freely w (Abort c.args.k.0) old (record old { ring = Some ring; book = Some book; desk = Some desk })
    (λ v s. ShowsRing c.deref_mut.result.now s × ShowsBook c.deref_mut-2.result.now s × ShowsDesk c.deref_mut-3.result.now s) _ _ c.abort-step.result
    (λ s f. (f.ring _ ring_there, f.book _ book_was, f.desk _ desk_was))
    c.abort-step.ensures.rule
    c.abort-step.ensures.ok
    (λ taken. (
      λ s r f. let t = taken w s r (f.ring _ ring_there, f.book _ book_was, f.desk _ desk_was) in (t.0, desk_back _ _ (book_back _ _ (ring_back old s f ring _ t.1.0) book _ t.1.1) desk _ t.1.2),
      hand_with_desk w _ (hand_with_book w _ (hand_with_ring w old c.requires.asked.places (Some ring)) _ book book_was c.abort-step.ensures.room) (Some desk),
      there_with_desk (record old { ring = Some ring; book = Some book }) desk _ desk_was ∙ (there_with_book (record old { ring = Some ring }) book _ book_was ∙ there_with_ring old ring _ ring_there),
    ))
    c.abort-step.ensures.no
    (all_three (ring ≡ c.deref_mut.result.now) (book ≡ c.deref_mut-2.result.now) (desk ≡ c.deref_mut-3.result.now) c.abort-step.result c.abort-step.ensures.ring c.abort-step.ensures.book c.abort-step.ensures.desk)
    (λ same. ap (λ x. record old { ring = Some x; book = Some book; desk = Some desk }) same.0
    ∙ (ap (λ x. record old { ring = Some c.deref_mut.result.now; book = Some x; desk = Some desk }) same.1
    ∙ (ap (λ x. record old { ring = Some c.deref_mut.result.now; book = Some c.deref_mut-2.result.now; desk = Some x }) same.2
    ∙ (ap (λ x. record old { ring = x; book = Some c.deref_mut-2.result.now; desk = Some c.deref_mut-3.result.now }) (sym ring_there)
    ∙ (ap (λ x. record old { book = x; desk = Some c.deref_mut-3.result.now }) (sym book_was) ∙ ap (λ x. record old { desk = x }) (sym desk_was)))))))
