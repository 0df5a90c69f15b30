-- What contracts see of the book: its halves, and the cascades beside them.
use Rattle.std.specs.Prelude.{◌≡◌, ℕ, List}
use Rattle.protocol.specs.Parts.{Cascade, Book}
use Rattle.protocol_theorems.specs.BookFits.{IsOfHalves}

pub record Halves : Type 0 where
  pub orders : Book
  pub votes : Book
  -- in the order in which they came
  pub cascades : List Cascade
  -- for how many cascades there is room
  pub most : ℕ

-- they are the halves of this book
abbrev pub Shows : Halves → Book → Type 0
Shows h b = IsOfHalves b h.orders h.votes × (b.cascades ≡ h.cascades)
