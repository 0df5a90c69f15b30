use Rattle.std.proofs.Common.{◌≡◌, drop}
use Rattle.std.specs.Option.{option_map}
use Rattle.protocol.specs.Meant.{tid_number}
use Rattle.protocol.specs.Words.{least_older}
use Rattle.order_book.specs.Asked.{locks_of}
use Rattle.order_book.proofs.Oldest.{older_in}
use Rattle.order_book.proofs.answer.oldest_before.Given as goal

abbrev pub invariant-loop-t : goal.invariant-loop-t
invariant-loop-t l = older_in (option_map tid_number l.least) (least_older l.me.0 (locks_of (drop l.t-index l.rivals))) ≡ least_older l.me.0 (locks_of l.rivals)
