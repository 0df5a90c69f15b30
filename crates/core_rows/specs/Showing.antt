-- What the parts show of a state of the machine.
use Rattle.std.specs.Prelude.{◌≡◌, ℕ, ◌≤◌, Some, List, length, slice_get}
use Rattle.snap_base.specs.declared.transactions.Tx.{Tx}
use Rattle.protocol.specs.Fixed.{Fixed}
use Rattle.protocol.specs.Parts.{Ring, Desk, Log, Machine}
use Rattle.post_box.specs.PostBox.{PostBox}
use Rattle.book_part.specs.Halves.{Halves, Shows}
use Rattle.cell_part.specs.Room.{Roomed}
use Rattle.log_set.specs.Logs.{PendingState}
use Rattle.log_set.specs.Shown.{ShowsLog}

module _ {C : Type 0} where
  -- these are the transactions of the text
  abbrev pub ShowsTxs : List Tx → Fixed C → Type 0
  ShowsTxs txs w = w.text.txs ≡ txs

  abbrev pub ShowsRing : Ring → Machine C → Type 0
  ShowsRing r s = s.ring ≡ r

  -- each transaction of the text may fail once
  abbrev pub HasRoomForCascades : Halves → Fixed C → Type 0
  HasRoomForCascades h w = length w.text.txs ≤ h.most

  abbrev pub ShowsBook : Halves → Machine C → Type 0
  ShowsBook h s = Shows h s.book

  -- room is no part of the machine
  abbrev pub ShowsPost : PostBox C → Machine C → Type 0
  ShowsPost p s = s.post ≡ p.messages

  abbrev pub ShowsDesk : Desk → Machine C → Type 0
  ShowsDesk d s = s.desk ≡ d

  -- log l of the machine is one that the part shows
  abbrev pub ShowsLogAt : ℕ → PendingState → Machine C → Type 0
  ShowsLogAt l p s = (x : Log) × ((slice_get s.logs l ≡ Some x) × ShowsLog p.log x)

  -- actor a of the machine is this one
  abbrev pub ShowsCell : ℕ → Roomed C → Machine C → Type 0
  ShowsCell a c s = slice_get s.cells a ≡ Some c.cell
