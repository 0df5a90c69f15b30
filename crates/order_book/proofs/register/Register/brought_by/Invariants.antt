use Rattle.std.proofs.Common.{◌≡◌, ◌+◌, drop, max}
use Rattle.std.specs.Prelude.{slice_index}
use Rattle.order_book.specs.Registered.{brought_by}
use Rattle.order_book.proofs.register.Register.brought_by.Given as goal

abbrev pub invariant-loop-pair : goal.invariant-loop-pair
invariant-loop-pair l = max l.most.0 (brought_by (drop l.pair-index l.pairs) (slice_index l.self-inside.tids.items l.at) (drop (l.at + 1) l.self)) ≡ brought_by l.pairs (slice_index l.self-inside.tids.items l.at) (drop (l.at + 1) l.self)
