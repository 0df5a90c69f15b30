use Rattle.std.proofs.Common.{◌≡◌, take}
use Rattle.protocol_laws.specs.OneWay.{actors_of}
use Rattle.act_commit.specs.Words.{actor_numbers}
use Rattle.book_part.proofs.marks.joined_actors.Given as goal

abbrev pub invariant-loop-mark : goal.invariant-loop-mark
invariant-loop-mark l = actor_numbers l.actors.items ≡ actors_of (take l.mark-index l.marks)
