use Rattle.std.proofs.Common.{◌≡◌, ◌≤◌, length, drop}
use Rattle.std.specs.Prelude.{option_map}
use Rattle.std.specs.List.{find}
use Rattle.protocol.specs.Parts.{Image}
use Rattle.actor_cell.specs.Calls.{is_meant}
use Rattle.actor_cell.proofs.Backwards.{left_from}
use Rattle.actor_cell.proofs.images.Images.give_back.Given as goal

-- from `at` on what is meant is out, and the first of it is known
abbrev pub invariant-loop-at : goal.invariant-loop-at
invariant-loop-at l = record {
  left : l.self ≡ left_from (λ i. is_meant l.fn.meant i.who) l.fn.self l.at;
  told : l.first ≡ option_map (λ (i : Image). i.state) (find (λ i. is_meant l.fn.meant i.who) (drop l.at l.fn.self));
  within : l.at ≤ length l.fn.self;
}
