use Rattle.std.specs.List.{flat_map}
use Rattle.std.proofs.Common.{map, take}
use Rattle.listing_facts.specs.book_part.Halves.{Shows}
use Rattle.protocol.specs.Meant.{tid_number}
use Rattle.protocol.specs.Parts.{Book}
use Rattle.ready_listing.specs.Listed.{Adds, of_act}
use Rattle.ready_listing.proofs.of_acts.list_acts.Given as goal

abbrev pub invariant-loop-t : goal.invariant-loop-t
invariant-loop-t l = (b : Book) → Shows l.book b → Adds l.initial.events.items l.events.items (flat_map (of_act b) (map tid_number (take l.t-index l.tids)))
