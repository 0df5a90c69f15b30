use Rattle.std.proofs.Common.{◌≡◌, ◌≤◌, ◌++◌, length, map}
use Rattle.std.specs.Vec.Iter.{into_iter_items, into_iter_len}
use Rattle.protocol.specs.Meant.{sub_batch}
use Rattle.core_rows.proofs.forming.post_subs.Given as goal

abbrev pub invariant-loop-sub : goal.invariant-loop-sub
invariant-loop-sub g l = record {
  shown : l.yielded ++ into_iter_items l.sub-iterator ≡ into_iter_items l.initial.sub-iterator;
  count : into_iter_len l.sub-iterator ≡ length (into_iter_items l.sub-iterator);
  posted : l.post.messages ≡ record l.initial.post.messages { subs = l.initial.post.messages.subs ++ map sub_batch l.yielded };
  room : length (into_iter_items l.sub-iterator) ≤ l.post.spare_subs;
  other : l.post.spare_controls ≡ l.initial.post.spare_controls;
}
