use Rattle.std.proofs.Common.{◌-◌, ◌^◌, min, option_map, ap, ◌∙◌}
use Rattle.protocol.specs.Left.{cell_left, total}
use Rattle.snap_hand.specs.Left.{of_part}
use Rattle.snap_hand.specs.Tables.{fixed_of}
use Rattle.snap_hand.proofs.AllLeft.{capped, hand_left, log_waits, tids_in, total_kept}
use Rattle.snap_hand.proofs.Held.{book_there, desk_there, post_there, ring_there}
use Rattle.snap_hand.proofs.hand.Hand.left.Goals as goal

pub book-book-requires : goal.book-book-requires
book-book-requires c = book_there c.args.self.now (c.requires 1)

pub ring-requires : goal.ring-requires
ring-requires c = ring_there c.args.self.now (c.requires 0)

pub post-requires : goal.post-requires
post-requires c = post_there c.args.self.now (c.requires 2)

pub desk-requires : goal.desk-requires
desk-requires c = desk_there c.args.self.now (c.requires 3)

pub returns : goal.returns
returns c = λ s all.
    let w = fixed_of c.args.tables.now in
    let h = c.args.self.now in
    let b = c.book-book.result.now in
    let shows = all.fits.book b c.book-book.ensures in
    let logs =
    c.logs_left.ensures
    ∙ ap (λ os. min (total (λ o. of_part log_waits (option_map (λ l. l.value.log) o)) os) (2 ^ 64 - 1)) c.deref.ensures.value
    ∙ ap (λ n. min n (2 ^ 64 - 1)) (total_kept (λ l. l.value.log) log_waits c.self.inside.logs.items)
    ∙ ap (λ k. min (total (of_part log_waits) k.logs) (2 ^ 64 - 1)) c.self.view_is in
    let cells =
    c.cells_left.ensures
    ∙ ap (λ os. min (total (λ o. of_part (cell_left w.code (tids_in b) c.epoch.result) (option_map (λ p. p.value.cell) o)) os) (2 ^ 64 - 1)) c.deref-2.ensures.value
    ∙ ap (λ n. min n (2 ^ 64 - 1)) (total_kept (λ p. p.value.cell) (cell_left w.code (tids_in b) c.epoch.result) c.self.inside.cells.items)
    ∙ ap (λ k. min (total (of_part (cell_left w.code (tids_in b) c.epoch.result)) k.cells) (2 ^ 64 - 1)) c.self.view_is
    ∙ ap (λ e. min (total (of_part (cell_left w.code (tids_in b) e)) h.cells) (2 ^ 64 - 1)) (c.epoch.ensures s.book shows) in
    let two = capped c.saturating_add.result c.ring_left.result c.left.result _ _ c.saturating_add.ensures c.ring_left.ensures (c.left.ensures s.book shows) in
    let three = capped c.saturating_add-2.result c.saturating_add.result c.post_left.result _ _ c.saturating_add-2.ensures two c.post_left.ensures in
    let four = capped c.saturating_add-3.result c.saturating_add-2.result c.desk_left.result _ _ c.saturating_add-3.ensures three c.desk_left.ensures in
    let five = capped c.saturating_add-4.result c.saturating_add-3.result c.logs_left.result _ _ c.saturating_add-4.ensures four logs in
    let six = capped c.saturating_add-5.result c.saturating_add-4.result c.cells_left.result _ _ c.saturating_add-5.ensures five cells in
    six ∙ ap (λ n. min n (2 ^ 64 - 1)) (hand_left w h s c.ring.result.now b c.post.result.now.messages c.desk.result.now c.requires all c.ring.ensures c.book-book.ensures c.post.ensures c.desk.ensures)
