-- An actor's schedule is cut at a batch: what the batches from there on did is undone, and they go with all that stands
-- behind the first of them, whatever the cascades say.
use Rattle.std.specs.Prelude.{ℕ}
use Rattle.actor_cell.specs.Calls.{undone_from}
use Rattle.hybrid_schedule.specs.Cuts.{staying_below, going_from, cut_from}
use Rattle.protocol.specs.CellParts.{Store, HybridSchedule, Boxes, cell_of, cleared}
use Rattle.protocol.specs.Parts.{Cell}
use Rattle.protocol.specs.Words.{acts_on, is_empty}

module _ {C : Type 0} where
  abbrev pub store_in : Cell C → Store
  store_in c = record { state = c.state; images = c.images; floors = c.floors }

  abbrev pub schedule_in : Cell C → HybridSchedule
  schedule_in c = record { entries = c.entries; epoch = c.epoch; last = c.last; last_trimmed = c.last_trimmed; tail = c.tail }

  abbrev pub boxes_in : Cell C → Boxes C
  boxes_in c = record { inbox = c.inbox; outbox = c.outbox }

  -- what ACTs did is undone too, where none of them stays
  abbrev pub cut_back : ℕ → ℕ → Cell C → Cell C
  cut_back k epoch c = cell_of
      (undone_from k (is_empty (acts_on (staying_below k c.entries))) (store_in c))
      (cut_from k epoch (schedule_in c))
      (cleared (going_from k c.entries) (boxes_in c))
