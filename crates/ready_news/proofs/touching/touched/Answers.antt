use Rattle.std.proofs.Common.{◌≡◌, ℕ, map, sym, subst, ◌∙◌}
use Rattle.core_events.specs.Meant.{event_meant}
use Rattle.listing_facts.specs.batch_table.Askings.{is_next_open}
use Rattle.listing_facts.specs.batch_table.Listed.{is_number}
use Rattle.protocol.specs.Effects.{after}
use Rattle.protocol.specs.Parts.{Desk}
use Rattle.snap_hand.specs.Tables.{fixed_of}
use Rattle.ready_news.specs.ByEvent.{listed}
use Rattle.ready_news.specs.New.{is_new}
use Rattle.ready_news.proofs.AheadOfSync.{all_told}
use Rattle.ready_news.proofs.ByEvent.{answers_in, book_in, cells_in, desk_in, logs_in, post_in, ring_in}
use Rattle.ready_news.proofs.Common.{Among, book_there, desk_there, has_added, post_there, ring_there}
use Rattle.ready_news.proofs.touching.touched.Goals as goal

pub desk-desk-requires : goal.desk-desk-requires
desk-desk-requires c = desk_there c.args.hand.now c.requires.whole

pub ring-requires : goal.ring-requires
ring-requires c = ring_there c.args.hand.now c.requires.whole

pub book-requires : goal.book-requires
book-requires c = book_there c.args.hand.now c.requires.whole

pub post-requires : goal.post-requires
post-requires c = post_there c.args.hand.now c.requires.whole

pub returns : goal.returns
returns c s behind ahead =
    let w = fixed_of c.args.tables.now in
    let e = event_meant c.args.e in
    let h = c.args.hand.now in
    let z = after w e s in
    let fits = behind.fits in
    let next = c.next.result in
    let es = map event_meant c.list_by_event.new.news.items in
    let x = c.book.result.now in
    let shows = fits.book x c.book.ensures in
    let is_desk = sym (fits.desk c.desk-desk.result.now c.desk-desk.ensures) in
    let all : Among (listed w.text h next z.ring z.book z.post z.desk e) es =
    subst (λ r. Among (listed w.text h next r z.book z.post z.desk e) es) (sym (fits.ring c.ring.result.now c.ring.ensures))
    (subst (λ p. Among (listed w.text h next c.ring.result.now z.book p z.desk e) es) (sym (fits.post c.post.result.now.messages c.post.ensures))
    (subst (λ d. Among (listed w.text h next c.ring.result.now z.book c.post.result.now.messages d e) es) is_desk
    (has_added c.clear.new.self.items c.list_by_event.new.news.items (listed w.text h next c.ring.result.now z.book c.post.result.now.messages c.desk-desk.result.now e) (c.in_ok-list_by_event.ensures z.book shows)))) in
    let nexts : (k : ℕ) → is_next_open k z.desk.batches ≡ is_number k next = subst (λ (d : Desk). (k : ℕ) → is_next_open k d.batches ≡ is_number k next) is_desk c.next.ensures in
    let other = sym c.is_sync.ensures ∙ c.if-is_sync.false in
    record {
      ring = c.ring_is_told.ensures w e s es (λ f i. all f (ring_in w.text h next z.ring z.book z.post z.desk e f i));
      post = c.post_is_told.ensures w e s h es behind (λ f i. all f (post_in w.text h next z.ring z.book z.post z.desk e f i));
      cells = c.cells_are_told.ensures w e s h es c.requires.places c.requires.whole behind (λ f i. all f (cells_in w.text h next z.ring z.book z.post z.desk e f i));
      logs = c.logs_are_told.ensures w e s h es behind (λ f i. all f (logs_in w.text h next z.ring z.book z.post z.desk e f i));
      desk = c.desk_is_told.ensures w e s h next es behind other nexts (λ f i. all f (desk_in w.text h next z.ring z.book z.post z.desk e f i));
      book = c.book_is_told.ensures w e s h x es other behind shows (λ f i. all f (book_in w.text h next z.ring z.book z.post z.desk e f i));
      answers = c.answers_are_told.ensures w e s h es behind (λ f i. all f (answers_in w.text h next z.ring z.book z.post z.desk e f i));
    }

pub returns-then-is_sync : goal.returns-then-is_sync
returns-then-is_sync c s behind ahead =
    let w = fixed_of c.args.tables.now in
    let e = event_meant c.args.e in
    all_told (is_new w e s) w (after w e s) (map event_meant c.args.events.now.items) (ahead (sym c.is_sync.ensures ∙ c.if-is_sync.true))
