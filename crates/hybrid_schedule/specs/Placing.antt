-- What stands on a schedule, in the machine's words.
use Rattle.std.specs.Prelude.{Bool, List}
use Rattle.snap_base.specs.declared.transactions.Who.{Who}
use Rattle.snap_base.specs.declared.transactions.Who.TheVariants.{Batch, Act}
use Rattle.protocol.specs.Parts.{Slot, Entry, BatchEntry, ActEntry}

-- the entry of this one: a batch has slots and may be complete, an ACT may be a reader
abbrev pub entry_placed : Who → List Slot → Bool → Bool → Entry
entry_placed (Batch bid) slots complete reader = BatchEntry (record { bid = bid.0; slots = slots; complete = complete })
entry_placed (Act tid) slots complete reader = ActEntry (record { tid = tid.0; reader = reader })
