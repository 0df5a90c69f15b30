use Rattle.snap_hand.specs.Tables.{fixed_of}
use Rattle.snap_hand.proofs.Opens.{others_are}
use Rattle.snap_hand.proofs.hand.Hand.put_others.Goals as goal

pub returns : goal.returns
returns c =
    others_are (fixed_of c.args.tables.now) c.args.self.now c.put_ring.new.self c.put_book.new.self c.put_post.new.self c.put_desk.new.self
    c.in_ok-ring.ring.value c.in_ok-book.book.value c.in_ok-post.post.value.messages c.in_ok-desk.desk.value
    c.in_ok-ring.ensures c.in_ok-book.ensures c.in_ok-post.ensures c.in_ok-desk.ensures
    c.put_ring.ensures c.put_book.ensures c.put_post.ensures c.put_desk.ensures
