-- A slice of a transaction in three steps: its control is taken out and, but where it only reads, an image taken, its code
-- writes the state, and what it ended with is kept.
use Rattle.std.specs.Prelude.{ℕ, Bool, if◌then◌else◌, [], ◌∷◌, ◌++◌, map}
use Rattle.snap_base.specs.declared.transactions.State.{State}
use Rattle.protocol.specs.Fixed.{Next}
use Rattle.protocol.specs.OnCell.{images_after, reads_on, done_in}
use Rattle.protocol.specs.Parts.{Cell}
use Rattle.protocol.specs.Words.{who_on, without_waiting}

module _ {C : Type 0} where
  abbrev pub begun : ℕ → Cell C → Cell C
  begun t c = record c {
    images = images_after (reads_on t c.entries) (who_on t c.entries) c.state c.images;
    inbox = without_waiting t c.inbox;
  }

  abbrev pub written : State → Cell C → Cell C
  written s c = record c { state = s }

  -- it is through on the actor or not
  abbrev pub ended : ℕ → Next C → Bool → Cell C → Cell C
  ended t next through c = record c {
    entries = if through then map (done_in t) c.entries else c.entries;
    outbox = c.outbox ++ record { tid = t; next = next } ∷ [];
  }
