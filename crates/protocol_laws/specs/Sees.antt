-- What ACTs that only read have seen on an actor, beside who stands there. The slices are those of readers there, in order.
use Rattle.std.specs.Prelude.{◌≡◌, not, Bool, true, false, List, [], ◌∷◌, ⊤}
use Rattle.std.specs.List.{AllByRecursion}
use Rattle.snap_base.specs.declared.transactions.State.{State}
use Rattle.protocol.specs.Parts.{Entry, BatchEntry, ActEntry}
use Rattle.protocol.specs.History.{Slice}
use Rattle.protocol_laws.specs.Tracks.{has_read}

-- no reader runs behind it: a batch that is not complete, or an ACT that does not only read
abbrev pub blocks_readers : Entry → Bool
blocks_readers (BatchEntry b) = not b.complete
blocks_readers (ActEntry x) = not x.reader

abbrev pub HasNotRead : List Slice → Entry → Type 0
HasNotRead reads (BatchEntry b) = ⊤
HasNotRead reads (ActEntry x) = x.reader ≡ true → has_read reads x.tid ≡ false

-- each slice of a reader that stands here found this state, and left it so
abbrev pub ReadersFound : State → List Slice → Entry → Type 0
ReadersFound now reads (BatchEntry b) = ⊤
ReadersFound now reads (ActEntry x) = x.reader ≡ true → AllByRecursion (λ z. z.tid ≡ x.tid → (z.found ≡ now) × (z.left ≡ now)) reads

abbrev pub SeesAt : State → List Slice → List Entry → Type 0
SeesAt now reads [] = ⊤
SeesAt now reads (e ∷ es) = ReadersFound now reads e × (blocks_readers e ≡ true → AllByRecursion (HasNotRead reads) es) × SeesAt now reads es
