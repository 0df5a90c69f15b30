-- What the desk is asked is what the event table asks of it.
use Rattle.std.proofs.Common.{refl}
use Rattle.protocol.specs.Fixed.{Fixed}
use Rattle.protocol.specs.Parts.{Machine}
use Rattle.protocol.specs.Conditions.{conditions}
use Rattle.batch_table.specs.Laws.{AsksTheTable}

pub asks_the_table : {C : Type 0} (w : Fixed C) (s : Machine C) → AsksTheTable w s
unfolding conditions
asks_the_table w s = record {
  close = λ t a. refl;
  note = λ k a. refl;
  commit_next = λ k. refl;
  commit_ended = λ k. refl;
  commit_noted = λ k. refl;
  settle = λ k. refl;
  abort_next = λ k. refl;
  abort_failed = λ k. refl;
  reply = λ n. refl;
  trim = λ k a. refl;
}
