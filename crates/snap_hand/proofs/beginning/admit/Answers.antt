use Rattle.std.proofs.Common.{◌≡◌, Some, None, refl, sym, ap, ◌∙◌}
use Rattle.core_rows.specs.Showing.{ShowsBook, ShowsPost, ShowsRing}
use Rattle.snap_hand.specs.Hands.{Parts}
use Rattle.snap_hand.specs.Tables.{fixed_of}
use Rattle.snap_hand.proofs.Begins.{admit_stepped}
use Rattle.snap_hand.proofs.Held.{ring_there, book_there, post_there}
use Rattle.snap_hand.proofs.Stepping.{of_run}
use Rattle.snap_hand.proofs.InBoxes.{lent, lent_post}
use Rattle.snap_hand.proofs.beginning.admit.Goals as goal

pub take_ring-ring-requires : goal.take_ring-ring-requires
take_ring-ring-requires c = ring_there c.args.hand.now c.requires.asked.parts.0

pub take_book-book-requires : goal.take_book-book-requires
take_book-book-requires c = let x = book_there c.args.hand.now c.requires.asked.parts.1.0 in (x.0, ap (λ h. h.book) c.take_ring-ring.ensures.taken ∙ x.1)

pub take_post-post-requires : goal.take_post-post-requires
take_post-post-requires c = let x = post_there c.args.hand.now c.requires.asked.parts.1.1.0 in (x.0, ap (λ h. h.post) c.take_book-book.ensures.taken ∙ (ap (λ h. h.post) c.take_ring-ring.ensures.taken ∙ x.1))

pub admit_on-step-requires-clause-run : goal.admit_on-step-requires-clause-run
admit_on-step-requires-clause-run c =
    let book = sym (ap (λ (h : Parts). h.book) c.take_ring-ring.ensures.taken) ∙ (lent _ _ _ c.take_book-book.ensures.there c.deref_mut-2.ensures.value) in
    let post = sym (ap (λ (h : Parts). h.post) c.take_book-book.ensures.taken ∙ ap (λ (h : Parts). h.post) c.take_ring-ring.ensures.taken) ∙ (lent_post _ _ _ c.take_post-post.ensures.there c.deref_mut-3.ensures.value) in
    of_run (fixed_of c.args.tables.now) c.args.hand.now _ (λ s f. (refl, f.ring _ (lent _ _ _ c.take_ring-ring.ensures.there c.deref_mut.ensures.value), f.book _ book, f.post _ post)) c.requires.asked.some

pub returns : goal.returns
returns c =
    let book = sym (ap (λ (h : Parts). h.book) c.take_ring-ring.ensures.taken) ∙ (lent _ _ _ c.take_book-book.ensures.there c.deref_mut-2.ensures.value) in
    let post = sym (ap (λ (h : Parts). h.post) c.take_book-book.ensures.taken ∙ ap (λ (h : Parts). h.post) c.take_ring-ring.ensures.taken) ∙ (lent_post _ _ _ c.take_post-post.ensures.there c.deref_mut-3.ensures.value) in
    admit_stepped (fixed_of c.args.tables.now) c.args.hand.now c.put_post.new.self c.args.t.0
    c.deref_mut.result.now c.admit_on-step.new.ring c.deref_mut-2.result.now c.admit_on-step.new.book c.deref_mut-3.result.now.messages c.admit_on-step.new.post.messages
    (λ w s. (w ≡ fixed_of c.args.tables.now) × ShowsRing c.deref_mut.result.now s × ShowsBook c.deref_mut-2.result.now s × ShowsPost c.deref_mut-3.result.now s)
    c.admit_on-step.result c.requires.asked.places (lent _ _ _ c.take_ring-ring.ensures.there c.deref_mut.ensures.value) book post
    (λ s f. (refl, f.ring _ (lent _ _ _ c.take_ring-ring.ensures.there c.deref_mut.ensures.value), f.book _ book, f.post _ post))
    (c.put_post.ensures ∙ ap (λ (h : Parts). record h { post = Some c.admit_on-step.new.post.messages })
    (c.put_book.ensures ∙ ap (λ (h : Parts). record h { book = Some c.admit_on-step.new.book })
    (c.put_ring.ensures ∙ ap (λ (h : Parts). record h { ring = Some c.admit_on-step.new.ring })
    (c.take_post-post.ensures.taken ∙ ap (λ (h : Parts). record h { post = None })
    (c.take_book-book.ensures.taken ∙ ap (λ (h : Parts). record h { book = None }) c.take_ring-ring.ensures.taken)))))
    c.admit_on-step.ensures.ok c.admit_on-step.ensures.room c.admit_on-step.ensures.no c.admit_on-step.ensures.unchanged
