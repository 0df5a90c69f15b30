-- What the ring's calls answer and require, in the words of the machine.
use Rattle.std.specs.Prelude.{◌≡◌, ℕ, true, not, Option, Some, None, List, [], ◌∷◌, length, replicate, refl}
use Rattle.snap_base.specs.declared.ids.Tid.{Tid}
use Rattle.snap_base.specs.declared.ids.TxNo.{TxNo}
use Rattle.snap_base.specs.declared.transactions.Kind.{Kind}
use Rattle.snap_base.specs.declared.transactions.Tx.{Tx}
use Rattle.protocol.specs.Fixed.{Text, Fixed, tx_at}
use Rattle.protocol.specs.Parts.{Ring}
use Rattle.protocol.specs.Conditions.{queue, is_idle_at, is_idle}
use Rattle.protocol.specs.Runs.{opening_ring}
use Rattle.protocol.specs.OnRing.{Formed, submitted, planned, formed}

-- the ring that a run begins with
abbrev pub fresh_ring : ℕ → ℕ → ℕ → ℕ → Ring
fresh_ring coordinators actors next_tid next_bid = record {
  holder = 0;
  next_tx = 0;
  next_tid = next_tid;
  next_bid = next_bid;
  epoch = 0;
  lasts = replicate actors 0;
  pacts = replicate coordinators [];
  acts = replicate coordinators [];
}

-- it is what the machine opens with
pub fresh_is_opening : {C : Type 0} (w : Fixed C) → opening_ring w ≡ fresh_ring w.text.coordinators (length w.text.opening.states) w.text.opening.next_tid w.text.opening.next_bid
fresh_is_opening w = refl

-- transaction n, of this kind, was submitted, whatever else the text says
abbrev pub IsSubmitted : Kind → ℕ → Ring → Ring → Type 0
IsSubmitted kind n old new = (w : Text) → w.coordinators ≡ length old.pacts → (tx_at w n).kind ≡ kind → new ≡ submitted w n old

-- the conditions of a pass on the queues: nothing waits at the holder, and something waits elsewhere
abbrev pub MayPass : Ring → Type 0
MayPass r = (is_idle_at r.holder r ≡ true) × (not (is_idle r) ≡ true)

-- the batch that is formed next, of these transactions and of at most so many PACTs, whatever else the text says
abbrev pub IsNextBatch : List Tx → ℕ → Ring → Formed → Type 0
IsNextBatch txs most r f = (w : Text) → w.txs ≡ txs → w.batch ≡ most → f ≡ planned w r.next_bid r

-- some text has this as the batch that is formed next
abbrev pub IsPlanned : Formed → Ring → Type 0
IsPlanned f r = (w : Text) × (f ≡ planned w r.next_bid r)

-- the ring after it, by every text that has it as that
abbrev pub IsFormed : Formed → Ring → Ring → Type 0
IsFormed f old new = (w : Text) → f ≡ planned w old.next_bid old → new ≡ formed f w.batch old

-- the first of some transactions
abbrev pub first_waiting : List ℕ → Option TxNo
first_waiting [] = None
first_waiting (n ∷ ns) = Some (record { 0 = n })

-- it, with a tid
abbrev pub first_with : ℕ → List ℕ → Option (Tid × TxNo)
first_with t [] = None
first_with t (n ∷ ns) = Some (record { 0 = t }, record { 0 = n })

-- the ACT that is admitted next, and the tid that it draws
abbrev pub act_admitted_next : Ring → Option (Tid × TxNo)
act_admitted_next r = first_with r.next_tid (queue r.acts r.holder)
