-- What stands on a schedule and is not over, listed.
use Rattle.std.specs.Prelude.{ℕ, Bool, not, ◌&&◌, if◌then◌else◌, Option, Some, None, List, [], ◌∷◌, map, filter, find}
use Rattle.std.specs.List.{flat_map, list_all}
use Rattle.std.specs.Option.{option_and_then}
use Rattle.protocol.specs.Parts.{Slot, Entry, BatchEntry, ActEntry}
use Rattle.protocol.specs.Words.{is_batch_entry, is_complete_batch}

-- the batch, where it is one that is not complete
abbrev pub incomplete_of : Entry → List ℕ
incomplete_of (BatchEntry b) = if b.complete then [] else b.bid ∷ []
incomplete_of (ActEntry x) = []

-- the batches that are not complete, in order
abbrev pub incomplete_on : List Entry → List ℕ
incomplete_on entries = flat_map incomplete_of entries

-- the PACTs whose slots are not done
abbrev pub undone_in : List Slot → List ℕ
undone_in slots = map (λ s. s.tid) (filter (λ s. not s.done) slots)

abbrev pub undone_of : Entry → List ℕ
undone_of (BatchEntry b) = undone_in b.slots
undone_of (ActEntry x) = []

-- those of all sub-batches, in order
abbrev pub undone_on : List Entry → List ℕ
undone_on entries = flat_map undone_of entries

-- those of the sub-batches of batch k, in order
abbrev pub undone_if : Bool → Entry → List ℕ
undone_if named e = if named then undone_of e else []

abbrev pub undone_by : ℕ → List Entry → List ℕ
undone_by k entries = flat_map (λ e. undone_if (is_batch_entry k e) e) entries

-- the batch of an entry, where all its PACTs are done
abbrev pub done_bid : Entry → Option ℕ
done_bid (BatchEntry b) = if list_all (λ s. s.done) b.slots then Some b.bid else None
done_bid (ActEntry x) = None

-- the first entry that is not of a complete batch
abbrev pub first_open : List Entry → Option Entry
first_open entries = find (λ e. not (is_complete_batch e)) entries

-- the batch that can be completed: no other one can
abbrev pub completable_on : List Entry → Option ℕ
completable_on entries = option_and_then done_bid (first_open entries)

-- the ACT, where one that comes, which reads or not, can't stand beside it
abbrev pub rival_of : Bool → Entry → List ℕ
rival_of reader (BatchEntry b) = []
rival_of reader (ActEntry x) = if reader && x.reader then [] else x.tid ∷ []

-- those of all, in order
abbrev pub rivals_among : Bool → List Entry → List ℕ
rivals_among reader entries = flat_map (rival_of reader) entries
