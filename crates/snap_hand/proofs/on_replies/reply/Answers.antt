use Rattle.std.proofs.Common.{Some, sym, ap, ◌∙◌}
use Rattle.core_rows.specs.Showing.{ShowsBook, ShowsDesk}
use Rattle.protocol.specs.Effects.{after}
use Rattle.protocol.specs.Events.{Reply}
use Rattle.snap_hand.specs.Tables.{fixed_of}
use Rattle.snap_hand.proofs.Held.{book_there, desk_there}
use Rattle.snap_hand.proofs.Refits.{desk_back, hand_with_desk, there_with_desk}
use Rattle.snap_hand.proofs.Stepping.{of_run, stepped_freely}
use Rattle.snap_hand.proofs.InBoxes.{lent}
use Rattle.snap_hand.proofs.on_replies.reply.Goals as goal

pub take_desk-desk-requires : goal.take_desk-desk-requires
take_desk-desk-requires c = desk_there c.args.hand.now c.requires.asked.parts.1.0

pub book-requires : goal.book-requires
book-requires c = let b = book_there c.args.hand.now c.requires.asked.parts.0 in (b.0, ap (λ h. h.book) c.take_desk-desk.ensures.taken ∙ b.1)

pub reply-step-requires : goal.reply-step-requires
reply-step-requires c =
    let book = sym (ap (λ h. h.book) c.take_desk-desk.ensures.taken) ∙ c.book.ensures in
    of_run (fixed_of c.args._tables.now) c.args.hand.now _ (λ s f. (f.book _ book, f.desk _ (lent _ _ _ c.take_desk-desk.ensures.there c.deref_mut.ensures.value))) c.requires.asked.some

pub returns : goal.returns
unfolding after
returns c =
    let old = c.args.hand.now in
    let desk = c.reply-step.new.desk in
    let w = fixed_of c.args._tables.now in
    let there = (lent _ _ _ c.take_desk-desk.ensures.there c.deref_mut.ensures.value) in
    let book = sym (ap (λ h. h.book) c.take_desk-desk.ensures.taken) ∙ c.book.ensures in
    rw (c.put_desk.ensures, c.take_desk-desk.ensures.taken) (
    stepped_freely w (Reply c.args.n.0) old (record old { desk = Some desk }) (λ v s. ShowsBook c.book.result.now s × ShowsDesk c.deref_mut.result.now s) _ _ c.reply-step.result
    (λ s f. (f.book _ book, f.desk _ there))
    c.reply-step.ensures.rule
    c.reply-step.ensures.ok
    (λ taken. (λ s r f. let t = taken w s r (f.book _ book, f.desk _ there) in (t.0, desk_back old s f desk _ t.1.1), hand_with_desk w old c.requires.asked.places (Some desk), there_with_desk old desk _ there))
    c.reply-step.ensures.no
    c.reply-step.ensures.unchanged
    (λ same. ap (λ x. record old { desk = Some x }) same ∙ ap (λ o. record old { desk = o }) (sym there)))
