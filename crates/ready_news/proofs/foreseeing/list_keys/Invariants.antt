use Rattle.std.proofs.Common.{take}
use Rattle.ready_listing.specs.Listed.{Adds}
use Rattle.ready_news.specs.Foreseen.{of_keys}
use Rattle.ready_news.proofs.foreseeing.list_keys.Given as goal

abbrev pub invariant-loop-key : goal.invariant-loop-key
invariant-loop-key l = Adds l.initial.events.items l.events.items (of_keys l.desk (take l.key-index l.waiting))
