use Rattle.std.proofs.Common.{◌≡◌, ◌≤◌, ◌++◌, length, map}
use Rattle.std.specs.Vec.Iter.{into_iter_items, into_iter_len}
use Rattle.protocol.specs.Parts.{OfBatch}
use Rattle.core_rows.specs.Begun.{first_message}
use Rattle.core_rows.proofs.forming.post_firsts.Given as goal

abbrev pub invariant-loop-first : goal.invariant-loop-first
invariant-loop-first g l = record {
  shown : l.yielded ++ into_iter_items l.first-iterator ≡ into_iter_items l.initial.first-iterator;
  count : into_iter_len l.first-iterator ≡ length (into_iter_items l.first-iterator);
  posted : l.post.messages ≡ record l.initial.post.messages { controls = l.initial.post.messages.controls ++ map (first_message (OfBatch l.k.0)) l.yielded };
  room : length (into_iter_items l.first-iterator) ≤ l.post.spare_controls;
}
