use Rattle.std.proofs.Common.{◌≡◌, ◌++◌, drop}
use Rattle.protocol.specs.OnBook.{new_pairs}
use Rattle.order_book.specs.Asked.{locks_of}
use Rattle.order_book.proofs.placing.new_pairs.Given as goal

abbrev pub invariant-loop-t : goal.invariant-loop-t
invariant-loop-t l = l.made.items ++ new_pairs l.behind.0 l.actor.0 (locks_of (drop l.t-index l.ahead)) l.register ≡ new_pairs l.behind.0 l.actor.0 (locks_of l.ahead) l.register
