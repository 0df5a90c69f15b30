use Rattle.std.proofs.Common.{Some, sym, ap, ◌∙◌}
use Rattle.core_rows.specs.Showing.{ShowsBook, ShowsPost}
use Rattle.protocol.specs.Effects.{after}
use Rattle.protocol.specs.Events.{DropSub}
use Rattle.snap_hand.specs.Tables.{fixed_of}
use Rattle.snap_hand.proofs.Held.{book_there, post_there}
use Rattle.snap_hand.proofs.Refits.{post_back, hand_with_post, there_with_post}
use Rattle.snap_hand.proofs.Stepping.{stepped_freely}
use Rattle.snap_hand.proofs.InBoxes.{lent_post}
use Rattle.snap_hand.proofs.on_undoing.drop_sub.Goals as goal

pub take_post-post-requires : goal.take_post-post-requires
take_post-post-requires c = post_there c.args.hand.now c.requires.asked.parts.1.0

pub book-requires : goal.book-requires
book-requires c = let b = book_there c.args.hand.now c.requires.asked.parts.0 in (b.0, ap (λ h. h.book) c.take_post-post.ensures.taken ∙ b.1)

pub returns : goal.returns
unfolding after
returns c =
    let old = c.args.hand.now in
    let post = c.drop_sub-step.new.post.messages in
    let w = fixed_of c.args._tables.now in
    let there = (lent_post _ _ _ c.take_post-post.ensures.there c.deref_mut.ensures.value) in
    let book = sym (ap (λ h. h.book) c.take_post-post.ensures.taken) ∙ c.book.ensures in
    rw (c.put_post.ensures, c.take_post-post.ensures.taken) (
    stepped_freely w (DropSub c.args.k.0 c.args.a.0) old (record old { post = Some post }) (λ v s. ShowsBook c.book.result.now s × ShowsPost c.deref_mut.result.now s) _ _ c.drop_sub-step.result
    (λ s f. (f.book _ book, f.post _ there))
    c.drop_sub-step.ensures.rule
    c.drop_sub-step.ensures.ok
    (λ taken. (λ s r f. let t = taken w s r (f.book _ book, f.post _ there) in (t.0, post_back old s f post _ t.1.1), hand_with_post w old c.requires.asked.places (Some post), there_with_post old post _ there))
    c.drop_sub-step.ensures.no
    c.drop_sub-step.ensures.unchanged
    (λ same. ap (λ x. record old { post = Some x.messages }) same ∙ ap (λ o. record old { post = o }) (sym there)))
