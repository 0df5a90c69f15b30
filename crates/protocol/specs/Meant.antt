-- What values of the code are in the words of the machine, where identifiers are their numbers.
use Rattle.std.specs.Prelude.{ℕ, None, map}
use Rattle.snap_base.specs.declared.ids.Tid.{Tid}
use Rattle.snap_base.specs.declared.ids.TxNo.{TxNo}
use Rattle.snap_base.specs.declared.ids.ActorId.{ActorId}
use Rattle.snap_base.specs.declared.next.Next as code
use Rattle.snap_base.specs.declared.next.Next.TheVariants as ways
use Rattle.snap_base.specs.declared.transactions.SubBatch as base
use Rattle.snap_base.specs.declared.transactions.Who as whose
use Rattle.snap_base.specs.declared.transactions.Who.TheVariants.{Batch, Act}
use Rattle.protocol.specs.Fixed.{Next, Go, Ended}
use Rattle.protocol.specs.Parts.{Who, OfBatch, OfAct, SubBatch, Pact}

abbrev pub tid_number : Tid → ℕ
tid_number t = t.0

abbrev pub actor_number : ActorId → ℕ
actor_number a = a.0

-- whose something is
abbrev pub who_meant : whose.Who → Who
who_meant (Batch bid) = OfBatch bid.0
who_meant (Act tid) = OfAct tid.0

-- what an actor is told of a batch
abbrev pub sub_batch : base.SubBatch → SubBatch
sub_batch s = record { bid = s.bid.0; actor = s.actor.0; epoch = s.epoch; prev = s.prev.0; tids = map tid_number s.tids }

abbrev pub subs_actor : base.SubBatch → ℕ
subs_actor s = s.actor.0

-- a PACT of a batch that has not run
abbrev pub batch_pact : Tid × TxNo → Pact
batch_pact p = record { tid = p.0.0; tx = p.1.0; result = None }

-- where a slice leaves its transaction
abbrev pub next_meant : {C : Type 0} → code.Next C → Next C
next_meant (ways.Go actor control) = Go actor.0 control
next_meant (ways.Ended result) = Ended result
