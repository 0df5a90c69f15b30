-- How the transactions of the text begin: what is asked of the calls that give their first controls, and what these give;
-- and whether an ACT that begins only reads.
use Rattle.std.specs.Prelude.{◌≡◌, ◌<◌, ◌^◌, Bool, Contains, List, Result, Ok, Some, length}
use denote.Ref.{Bor}
use Rattle.snap_base.specs.declared.ids.Tid.{Tid}
use Rattle.snap_base.specs.declared.ids.TxNo.{TxNo}
use Rattle.snap_base.specs.declared.memory.Memory.{Memory}
use Rattle.snap_base.specs.declared.transactions.Tx.{Tx}
use Rattle.protocol.specs.Fixed.{Fixed, is_reader}
use Rattle.protocol.specs.Parts.{Ring}
use Rattle.token_ring.specs.Asked.{act_admitted_next}

-- each of these transactions may be started, with whichever tid
abbrev pub MayStart : (Tid → Bor Tx → Type 0) → List Tx → Type 0
MayStart may txs = (t : Tid) (tx : Bor Tx) → Contains txs tx.now → may t tx

-- a control that is given for a transaction of the text is the one with which the code starts it
abbrev pub Starts : {C : Type 0} → (Tid → Bor Tx → Result C Memory → Type 0) → Fixed C → Type 0
Starts {C} gives w = (t : Tid) (tx : Bor Tx) (control : C) → t.0 < 2 ^ 64 → Contains w.text.txs tx.now → gives t tx (Ok control) → control ≡ w.code.start t.0 tx.now

-- where a transaction of the text is the ACT that the ring admits next, this is whether it only reads
abbrev pub TellsReader : {C : Type 0} → Bool → Ring → Fixed C → Type 0
TellsReader reader r w = (t : Tid) (n : TxNo) → act_admitted_next r ≡ Some (t, n) → n.0 < length w.text.txs → is_reader w n.0 ≡ reader
